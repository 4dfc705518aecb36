use Rattle.npa_subsume.proofs.Kept.{other_head}
use Rattle.npa_subsume.proofs.early.heads_agree.Goals as goal

pub returns-in-App : goal.returns-in-App
returns-in-App c none s same = other_head c.in-App.op c.in-App.field-1 c.args.t.now c.args.u.now c.in-App.is (c.is_of.ensures none) s same
