use Rattle.std.proofs.Common.{◌≡◌, length, arith}
use Rattle.std.proofs.lemmas.Grind.{common_steps}
use Rattle.npa_close.proofs.Calling.{none_called}
use Rattle.npa_close.proofs.checked.Checked.aim.Goals as goal

pub returns-then-is_empty : goal.returns-then-is_empty
returns-then-is_empty c =
    let none : length c.args.name.now ≡ 0 = grind (arith, common_steps) in
    none_called c.args.name.now c.args.self.now.1 none
