-- Where there is room for a line, no byte of it is left out.
use Rattle.std.proofs.Common.{◌≡◌, ℕ, List, ap, ◌∙◌}
use Rattle.writing.specs.declared.Page.{Page}
use Rattle.writing.specs.Writing.{whole_on}
use Rattle.line.specs.Line.{Room}
use Rattle.player.specs.declared.Turn.{Turn}
use Rattle.player.proofs.PlayerLaws.{show_whole}
use Rattle.stand.specs.declared.Stand.{Stand}
use Rattle.stand.specs.Stand.{Scene, scene, asked_in, act_of, act_text}

pub act_whole : (s : Stand) (t : Turn) (cells : List ℕ) (page : Page) (r : Stand) (cells' : List ℕ) (page' : Page) →
    scene r cells' page' ≡ act_of s t cells page → Room page → page' ≡ whole_on page (act_text s t cells)
unfolding act_text
act_whole s t cells page r cells' page' e h =
    let a = asked_in s t cells in
    ap (λ (w : Scene). w.page) e ∙ show_whole t a.called.answer a.called.machine.queue_count a.called.machine.queues page h
