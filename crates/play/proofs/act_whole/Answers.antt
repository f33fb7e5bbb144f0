-- There is room for the line, so all of it is put on the page.
use Rattle.stand.proofs.ActLaws.{act_whole}
use Rattle.play.proofs.act_whole.Goals as goal

pub returns : goal.returns
returns c = act_whole c.args.stand c.args.turn _ _ c.act.result _ _ c.act.ensures c.requires
