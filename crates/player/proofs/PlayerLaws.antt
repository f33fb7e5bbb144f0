-- What is known of a turn: how much of a part of the text it uses, all of it at most, and of a part that is not empty some; and how much it prints, a
-- line at most.
use Rattle.std.proofs.Common.{◌≡◌, ℕ, ◌<◌, ◌≤◌, List, [], length, refl, ap, arith}
use Rattle.base.specs.Tests.{by_test}
use Rattle.reading.specs.declared.Reader.{Reader}
use Rattle.reading.specs.declared.Word.{Word}
use Rattle.reading.specs.declared.Word.TheVariants.{Nothing, Number, Wrong}
use Rattle.reading.specs.Reading.{read_of}
use Rattle.reading.proofs.ReadingLaws.{used_within, used_some}
use Rattle.writing.specs.declared.Page.{Page}
use Rattle.writing.specs.Writing.{holding, put_on, whole_on}
use Rattle.writing.proofs.WritingLaws.{put_whole}
use Rattle.parts.specs.declared.queue.Queue.{Queue}
use Rattle.parts.specs.declared.answer.Answer.{Answer}
use Rattle.line.specs.Line.{setup_text, bad_text, longest_line, Room}
use Rattle.line.proofs.LineLaws.{call_short, setup_short, bad_short}
use Rattle.session.specs.declared.grammar.Said.{Said}
use Rattle.session.specs.declared.grammar.Said.TheVariants as S
use Rattle.session.specs.Grammar.{whole_b}
use Rattle.player.specs.declared.Player.{Player}
use Rattle.player.specs.declared.Turn.{Turn}
use Rattle.player.specs.Player.{heard, listen_of, done_b, said_text, turn_text, show_of, end_text, close_of}

heard_used : (p : Player) (r : Reader) (w : Word) (used : ℕ) → (heard p r w used).used ≡ used
heard_used p r Nothing used = refl
heard_used p r (Number n) used = refl
heard_used p r Wrong used = refl

listen_used : (p : Player) (part : List ℕ) → (listen_of p part).used ≡ (read_of p.reader part).used
unfolding listen_of
listen_used p part =
    heard_used p (read_of p.reader part).heard.reader (read_of p.reader part).heard.word (read_of p.reader part).used

pub listen_within : (p : Player) (part : List ℕ) → (listen_of p part).used ≤ length part
listen_within p part = rw (listen_used p part) (let h = used_within p.reader part 0 in omega arith)

pub listen_some : (p : Player) (part : List ℕ) → 0 < length part → 0 < (listen_of p part).used
listen_some p part h = rw (listen_used p part) (used_some p.reader part h)

-- ---- what it prints

said_short : (s : Said) (start : ℕ) (a : Answer) (n : ℕ) (queues : List Queue) → length (said_text s start a n queues) ≤ longest_line
said_short S.Nothing start a n queues = omega arith
said_short (S.Setup k) start a n queues =
    by_test (λ (text : List ℕ). length text ≤ longest_line) (done_b a) [] (setup_text a) (λ t. omega arith) (λ t. setup_short a)
said_short (S.Call t r) start a n queues = call_short n queues a
said_short S.Wrong start a n queues = bad_short start

pub turn_short : (t : Turn) (a : Answer) (n : ℕ) (queues : List Queue) → length (turn_text t a n queues) ≤ longest_line
turn_short t a n queues = said_short t.said t.player.reader.start a n queues

pub end_short : (p : Player) → length (end_text p) ≤ longest_line
end_short p =
    let place = p.reader.place in
    by_test (λ (text : List ℕ). length text ≤ longest_line) (whole_b p.session.awaiting) [] (bad_text place) (λ t. omega arith) (λ t. bad_short place)

-- where there is room for a line, no byte of it is left out
all_of_it : (page : Page) (text : List ℕ) → length text ≤ longest_line → Room page → put_on page text ≡ whole_on page text
unfolding put_on
all_of_it page text short h = ap (holding page) (put_whole page.bytes.now page.at text (omega arith))

pub show_whole : (t : Turn) (a : Answer) (n : ℕ) (queues : List Queue) (page : Page) → Room page →
    show_of t a n queues page ≡ whole_on page (turn_text t a n queues)
show_whole t a n queues page h = all_of_it page (turn_text t a n queues) (turn_short t a n queues) h

pub close_whole : (p : Player) (page : Page) → Room page → close_of p page ≡ whole_on page (end_text p)
close_whole p page h = all_of_it page (end_text p) (end_short p) h
