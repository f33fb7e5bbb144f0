-- The lines that a session prints: a call's answer and, after a tab for each queue, front, back, ring, place and capacity.
use Rattle.std.specs.Prelude.{ℕ, ◌+◌, ◌≤◌, List, [], ◌++◌, length, nat_lt}
use Rattle.base.specs.Tests.{pick}
use Rattle.writing.specs.declared.Page.{Page}
use Rattle.writing.specs.Writing.{ascii, decimal, signed}
use Rattle.steal.specs.declared.Steal.{Steal}
use Rattle.steal.specs.declared.Steal.TheVariants.{Empty, Success, Retry}
use Rattle.ring.specs.declared.Ring.{Ring}
use Rattle.parts.specs.declared.queue.Queue.{Queue}
use Rattle.parts.specs.declared.answer.Answer.{Answer}
use Rattle.parts.specs.declared.answer.Answer.TheVariants.{Working, Done, Job, Nothing, Stolen, Moved, Length, GaveUp, Refused}
use Rattle.parts.specs.Answers.{refusal_of, shortage_of}
use Rattle.parts.specs.Queues.{queue_in}

abbrev pub stolen_text : Steal → List ℕ
stolen_text Empty = ascii "empty"
stolen_text (Success job) = ascii "took " ++ decimal job
stolen_text Retry = ascii "retry"

abbrev pub answer_text : Answer → List ℕ
answer_text Working = ascii "working"
answer_text Done = ascii "done"
answer_text (Job job) = ascii "job " ++ decimal job
answer_text Nothing = ascii "nothing"
answer_text (Stolen s) = stolen_text s
answer_text Moved = ascii "moved"
answer_text (Length d n) = ascii "length " ++ (signed d ++ (ascii " " ++ decimal n))
answer_text (GaveUp s) = ascii "gave-up " ++ decimal (shortage_of s)
answer_text (Refused r) = ascii "refused " ++ decimal (refusal_of r)

-- a number behind a space
abbrev pub spaced : ℕ → List ℕ
spaced n = ascii " " ++ decimal n

abbrev pub ring_text : Ring → List ℕ
ring_text r = spaced r.number.0 ++ (spaced r.place.0 ++ spaced r.capacity)

abbrev pub queue_text : Queue → List ℕ
queue_text q = ascii "\t" ++ (signed q.front.0 ++ (ascii " " ++ (signed q.back.0 ++ ring_text q.ring)))

-- queue k of n
abbrev pub queue_text_if : ℕ → List Queue → ℕ → List ℕ
queue_text_if n queues k = pick (nat_lt k n) (queue_text (queue_in queues k)) []

abbrev pub call_text : ℕ → List Queue → Answer → List ℕ
call_text n queues a =
    answer_text a ++
    (queue_text_if n queues 0 ++ (queue_text_if n queues 1 ++ (queue_text_if n queues 2 ++ (queue_text_if n queues 3 ++ ascii "\n"))))

abbrev pub setup_text : Answer → List ℕ
setup_text a = ascii "setup " ++ (answer_text a ++ ascii "\n")

abbrev pub bad_text : ℕ → List ℕ
bad_text n = (ascii "bad input at byte " ++ decimal n) ++ ascii "\n"

-- no line is longer (`call_short`, `setup_short`, `bad_short` in LineLaws): 49 bytes of an answer, 107 for each of four queues, and the line feed
abbrev pub longest_line : ℕ
longest_line = 478

-- from its place on a page has room for a line
abbrev pub Room : Page → Type 0
Room p = p.at + longest_line ≤ length p.bytes.now
