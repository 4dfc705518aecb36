use Rattle.std.proofs.Common.{◌≡◌}
use Rattle.std.specs.Prelude.{◌↔◌, IsTrue}
use Rattle.npa_rewrite.specs.Innermost.{normalized}
use Rattle.npa_rewrite.specs.Rewriting.{IsNormal}
use Rattle.npa_rewrite.proofs.Walk.{where_ok}
use Rattle.npa_rewrite.specs.Normal.{is_normal_by}
use Rattle.npa_rewrite.proofs.Normality.{tests_own_form}
use Rattle.npa_model.proofs.start.is_own_form.Goals as goal

pub returns : goal.returns
returns c =
    where_ok (λ b. IsTrue b ↔ IsNormal c.args.th.now c.args.t.now) (λ b. b ≡ is_normal_by (normalized c.args.th.now) c.args.t.now)
    (λ b exact. tests_own_form c.args.th.now c.args.t.now b c.requires exact) c.is_normal.result c.is_normal.ensures
