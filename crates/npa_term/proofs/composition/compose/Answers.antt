use Rattle.std.proofs.Common.{◌≡◌, subst, sym, arith}
use Rattle.std.proofs.lemmas.Grind.{common_steps}
use Rattle.npa_term.specs.Bound.{BindsOnce, applied}
use Rattle.npa_term.specs.Composition.{composed}
use Rattle.npa_term.specs.Same.{Same}
use Rattle.npa_term.proofs.CompositionLaws.{composed_once, composed_does}
use Rattle.npa_term.proofs.composition.compose.Goals as goal

pub from_bindings-requires : goal.from_bindings-requires
from_bindings-requires c =
    let made : c.push_unbound.new.made.items ≡ composed c.args.first.now c.args.next.now = grind (arith, common_steps) in
    subst BindsOnce (sym made) (composed_once c.args.first.now c.args.next.now c.as_slice.ensures.once c.as_slice-2.ensures.once)

pub returns-clause-both : goal.returns-clause-both
returns-clause-both c =
    let made : c.from_bindings.result ≡ composed c.args.first.now c.args.next.now = grind (arith, common_steps) in
    λ t. subst (λ s. Same (applied s t) (applied c.args.next.now (applied c.args.first.now t))) (sym made) (composed_does c.args.first.now c.args.next.now t)
