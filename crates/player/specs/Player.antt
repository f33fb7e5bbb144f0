-- A session heard from its text: what the next number says, and what is printed then.
use Rattle.std.specs.Prelude.{ℕ, ◌*◌, Bool, true, false, not, List, [], nat_le}
use Rattle.base.specs.Tests.{pick}
use Rattle.reading.specs.declared.Reader.{Reader}
use Rattle.reading.specs.declared.Word.{Word}
use Rattle.reading.specs.declared.Word.TheVariants as W
use Rattle.reading.specs.Reading.{new_reader, read_of, end_of}
use Rattle.writing.specs.declared.Page.{Page}
use Rattle.writing.specs.Writing.{put_on}
use Rattle.parts.specs.declared.queue.Queue.{Queue}
use Rattle.parts.specs.declared.answer.Answer.{Answer}
use Rattle.parts.specs.declared.answer.Answer.TheVariants.{Working, Done, Job, Nothing, Stolen, Moved, Length, GaveUp, Refused}
use Rattle.cells.specs.Cells.{place_cells}
use Rattle.sound.specs.Sound.{most_places}
use Rattle.session.specs.declared.grammar.Said.{Said}
use Rattle.session.specs.declared.grammar.Said.TheVariants as S
use Rattle.player.specs.declared.Player.{Player}
use Rattle.player.specs.declared.Turn.{Turn}
use Rattle.session.specs.Grammar.{new_session, hear_of, whole_b}
use Rattle.line.specs.Line.{call_text, setup_text, bad_text}

abbrev pub new_player : Player
new_player = record { reader = new_reader; session = new_session }

-- the player, once its reader read so many bytes and ended this word
abbrev pub heard : Player → Reader → Word → ℕ → Turn
heard p r W.Nothing used = record { player = record { reader = r; session = p.session }; said = S.Nothing; used = used }
heard p r (W.Number n) used = record {
  player = record { reader = r; session = (hear_of p.session n).session };
  said = (hear_of p.session n).said;
  used = used;
}
heard p r W.Wrong used = record { player = record { reader = r; session = p.session }; said = S.Wrong; used = used }

unfoldable pub listen_of : Player → List ℕ → Turn
listen_of p part =
    heard p (read_of p.reader part).heard.reader (read_of p.reader part).heard.word (read_of p.reader part).used

unfoldable pub finish_of : Player → Turn
finish_of p = heard p p.reader (end_of p.reader) 0

-- how many cells the machine is lent
abbrev pub cells_of : Player → ℕ
cells_of p = pick (nat_le p.session.places most_places) (p.session.places * place_cells) 0

abbrev pub done_b : Answer → Bool
done_b Working = false
done_b Done = true
done_b (Job j) = false
done_b Nothing = false
done_b (Stolen s) = false
done_b Moved = false
done_b (Length d n) = false
done_b (GaveUp s) = false
done_b (Refused r) = false

-- what is printed at what was said: a line for each call, for a setup that is not done, and for what is no session
abbrev pub said_text : Said → ℕ → Answer → ℕ → List Queue → List ℕ
said_text S.Nothing start a n queues = []
said_text (S.Setup k) start a n queues = pick (done_b a) [] (setup_text a)
said_text (S.Call t r) start a n queues = call_text n queues a
said_text S.Wrong start a n queues = bad_text start

abbrev pub turn_text : Turn → Answer → ℕ → List Queue → List ℕ
turn_text t a n queues = said_text t.said t.player.reader.start a n queues

abbrev pub show_of : Turn → Answer → ℕ → List Queue → Page → Page
show_of t a n queues page = put_on page (turn_text t a n queues)

-- the program ends at a setup that is not done, and at what is no session
abbrev pub ends_b : Said → Answer → Bool
ends_b S.Nothing a = false
ends_b (S.Setup k) a = not (done_b a)
ends_b (S.Call t r) a = false
ends_b S.Wrong a = true

-- at the text's end a session that is cut off is none
abbrev pub end_text : Player → List ℕ
end_text p = pick (whole_b p.session.awaiting) [] (bad_text p.reader.place)

abbrev pub close_of : Player → Page → Page
close_of p page = put_on page (end_text p)
