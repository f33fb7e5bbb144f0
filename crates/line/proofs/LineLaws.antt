-- No line is longer than `longest_line`: a number has at most 20 digits, and a signed one its sign besides.
use Rattle.std.proofs.Common.{◌≡◌, ℕ, ◌≤◌, ltb, List, [], length, arith, length-append, length-take, length-drop}
use Rattle.base.specs.Tests.{by_test}
use Rattle.writing.specs.declared.Page.{Page}
use Rattle.writing.specs.Writing.{whole_on}
use Rattle.writing.proofs.WritingLaws.{decimal_short, signed_short}
use Rattle.steal.specs.declared.Steal.{Steal}
use Rattle.steal.specs.declared.Steal.TheVariants.{Empty, Success, Retry}
use Rattle.ring.specs.declared.Ring.{Ring}
use Rattle.parts.specs.declared.queue.Queue.{Queue}
use Rattle.parts.specs.declared.answer.Answer.{Answer}
use Rattle.parts.specs.declared.answer.Answer.TheVariants.{Working, Done, Job, Nothing, Stolen, Moved, Length, GaveUp, Refused}
use Rattle.parts.specs.Answers.{refusal_of, shortage_of}
use Rattle.parts.specs.Queues.{queue_in}
use Rattle.line.specs.Line.{stolen_text, answer_text, queue_text, queue_text_if, call_text, setup_text, bad_text, longest_line, Room}

stolen_short : (s : Steal) → length (stolen_text s) ≤ 25
stolen_short Empty = omega arith
stolen_short (Success job) = omega (arith, decimal_short job)
stolen_short Retry = omega arith

answer_short : (a : Answer) → length (answer_text a) ≤ 49
answer_short Working = omega arith
answer_short Done = omega arith
answer_short (Job job) = omega (arith, decimal_short job)
answer_short Nothing = omega arith
answer_short (Stolen s) = omega (arith, stolen_short s)
answer_short Moved = omega arith
answer_short (Length d n) = simp length-append (omega (arith, signed_short d, decimal_short n))
answer_short (GaveUp s) = omega (arith, decimal_short (shortage_of s))
answer_short (Refused r) = omega (arith, decimal_short (refusal_of r))

queue_short : (q : Queue) → length (queue_text q) ≤ 107
queue_short q =
    let r : Ring = q.ring in
    simp length-append
    (omega
    (arith, signed_short q.front.0, signed_short q.back.0, decimal_short r.number.0, decimal_short r.place.0, decimal_short r.capacity))

queue_if_short : (n : ℕ) (queues : List Queue) (k : ℕ) → length (queue_text_if n queues k) ≤ 107
queue_if_short n queues k =
    by_test (λ (text : List ℕ). length text ≤ 107) (ltb k n) (queue_text (queue_in queues k)) [] (λ t. queue_short (queue_in queues k)) (λ t. omega arith)

pub call_short : (n : ℕ) (queues : List Queue) (a : Answer) → length (call_text n queues a) ≤ longest_line
call_short n queues a =
    simp length-append
    (omega
    (arith, answer_short a, queue_if_short n queues 0, queue_if_short n queues 1, queue_if_short n queues 2, queue_if_short n queues 3))

pub setup_short : (a : Answer) → length (setup_text a) ≤ longest_line
setup_short a = simp length-append (omega (arith, answer_short a))

pub bad_short : (place : ℕ) → length (bad_text place) ≤ longest_line
bad_short place = simp length-append (omega (arith, decimal_short place))

-- a page that had room for a line, with a text on it, is still as long as a line
pub still_long : (p q : Page) (text : List ℕ) → Room p → q ≡ whole_on p text → longest_line ≤ length q.bytes.now
still_long p q text h e = rw (e, length-append, length-append, length-take, length-drop) (omega arith)
