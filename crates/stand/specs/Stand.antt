-- How far a session is played, and what the program does at what was said.
use Rattle.std.specs.Prelude.{ℕ, Bool, false, List, ◌++◌, length, take, drop, nat_lt}
use Rattle.base.specs.Tests.{pick}
use Rattle.writing.specs.declared.Page.{Page}
use Rattle.parts.specs.declared.answer.Answer.TheVariants.{Working}
use Rattle.machine.specs.declared.state.Machine.{Machine}
use Rattle.machine.specs.State.{After, after, leaves}
use Rattle.machine.specs.Setup.{zero_machine, setup_of}
use Rattle.machine.specs.Call.{call_of}
use Rattle.session.specs.declared.grammar.Said.{Said}
use Rattle.session.specs.declared.grammar.Said.TheVariants.{Nothing, Setup, Call, Wrong}
use Rattle.player.specs.declared.Player.{Player}
use Rattle.player.specs.declared.Turn.{Turn}
use Rattle.player.specs.Player.{new_player, cells_of, turn_text, show_of, ends_b}
use Rattle.stand.specs.declared.Stand.{Stand}
use Rattle.session.specs.Grammar.{flavors_of}

abbrev pub stood : Player → Machine → Bool → Stand
stood p m over = record { player = p; machine = m; is_over = over }

-- before the session: the machine of zeros, which a refused setup leaves
abbrev pub new_stand : Stand
new_stand = stood new_player zero_machine false

-- what the program has then: how far the session is played, the pool's cells and the page
pub record Scene : Type 0 where
  pub stand : Stand
  pub cells : List ℕ
  pub page : Page

abbrev pub scene : Stand → List ℕ → Page → Scene
scene s cells page = record { stand = s; cells = cells; page = page }

-- the player lends the machine so many cells of the pool, and no more than it has
abbrev pub lent_of : Player → List ℕ → ℕ
lent_of p cells = pick (nat_lt (cells_of p) (length cells)) (cells_of p) (length cells)

-- what the machine does at what was said; where it is asked nothing, it stands as it did, and no line shows its answer
abbrev pub asked_of : Machine → Said → Player → List ℕ → After
asked_of m Nothing p cells = after m Working cells
asked_of m (Setup k) p cells = setup_of k (flavors_of p.session) p.session.places cells
asked_of m (Call t r) p cells = call_of m cells t r
asked_of m Wrong p cells = after m Working cells

unfoldable pub ask_of : Machine → Turn → List ℕ → After
ask_of m t cells = asked_of m t.said t.player cells

-- the same in the first n cells of the pool; the others stay
abbrev pub ask_in : ℕ → Machine → Turn → List ℕ → After
ask_in n m t cells = leaves (ask_of m t (take n cells)).called ((ask_of m t (take n cells)).cells ++ drop n cells)

-- what the machine does at what was said, in the part of the pool that it is lent
abbrev pub asked_in : Stand → Turn → List ℕ → After
asked_in s t cells = ask_in (lent_of t.player cells) s.machine t cells

-- then a line is printed, and the program ends or goes on
abbrev pub shown : Turn → After → Page → Scene
shown t a page =
    scene (stood t.player a.called.machine (ends_b t.said a.called.answer)) a.cells
    (show_of t a.called.answer a.called.machine.queue_count a.called.machine.queues page)

abbrev pub act_of : Stand → Turn → List ℕ → Page → Scene
act_of s t cells page = shown t (asked_in s t cells) page

-- that line
abbrev pub after_text : Turn → After → List ℕ
after_text t a = turn_text t a.called.answer a.called.machine.queue_count a.called.machine.queues

unfoldable pub act_text : Stand → Turn → List ℕ → List ℕ
act_text s t cells = after_text t (asked_in s t cells)
