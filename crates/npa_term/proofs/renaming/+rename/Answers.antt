use Rattle.std.proofs.Common.{◌≡◌, ◌+◌, ◌<◌, ◌^◌, map, ◌∙◌, ap, length, get_or, arith, rules}
use Rattle.std.proofs.lemmas.Grind.{common_steps}
use Rattle.npa_term.specs.Symbols.{symbol_count}
use Rattle.npa_term.specs.Variables.{renamed}
use Rattle.npa_term.proofs.Rows.{renamed_made, all_argument, count_argument}
use Rattle.npa_term.proofs.renaming.+rename.Goals as goal

pub rename-requires : goal.rename-requires
rename-requires t c =
    let small : c.loop-arg.arg-index < length c.in-App.args = omega (arith, c.loop-arg-test.true, ap length c.as_slice-arg-items.ensures) in
    let is : c.arg-item.result ≡ get_or c.in-App.args c.loop-arg.arg-index c.arg-item.result = c.arg-item.is ∙ ap (λ us. get_or us c.loop-arg.arg-index c.arg-item.result) c.as_slice-arg-items.ensures in
    let fewer : symbol_count c.arg-item.result < symbol_count c.args.t.now = count_argument c.args.t.now c.in-App.op c.in-App.args c.loop-arg.arg-index c.arg-item.result c.in-App.is small is in
    (search rules, all_argument (λ v. v.num + c.args.base < 2 ^ 32) c.args.t.now c.in-App.op c.in-App.args c.loop-arg.arg-index c.arg-item.result c.in-App.is small is c.requires.fits)

pub returns-after-loop-arg : goal.returns-after-loop-arg
returns-after-loop-arg t c =
    let made : c.loop-arg.made.items ≡ map (renamed c.args.base) c.in-App.args = grind (arith, common_steps) in
    renamed_made c.args.base _ _ c.in-App.args _ _ c.in-App.is c.from_vec.ensures made
