use Rattle.std.proofs.Common.{◌≡◌, [], subst, sym, flat_map, arith}
use Rattle.std.proofs.lemmas.Grind.{common_steps}
use Rattle.npa_term.specs.Bound.{BindsOnce}
use Rattle.npa_term.specs.Numbering.{numbered, once_after}
use Rattle.npa_term.specs.Variables.{variables}
use Rattle.npa_term.proofs.Numbered.{numbered_once}
use Rattle.npa_term.proofs.numbers.numbering.Goals as goal

pub from_bindings-requires : goal.from_bindings-requires
from_bindings-requires c =
    let made : c.in_ok-bindings.bindings.items ≡ numbered 0 (once_after [] (flat_map variables c.args.ts.now)) = grind (arith, common_steps) in
    subst BindsOnce (sym made) (numbered_once [] (flat_map variables c.args.ts.now) tt)
