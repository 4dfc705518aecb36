use Rattle.npa_term.proofs.CompositionLaws.{large_in_front, large_behind}
use Rattle.npa_term.proofs.composition.first_large.Goals as goal

pub returns-in-Some : goal.returns-in-Some
returns-in-Some c = large_in_front 1024 c.in-Some.count c.args.first.now c.args.next.now _ c.as_slice.ensures.bindings c.in-Some.ensures

pub returns-in-None : goal.returns-in-None
returns-in-None c =
    large_behind 1024 _ c.args.first.now c.args.next.now _ _ c.as_slice.ensures.bindings c.as_slice-in-None.ensures.bindings c.in-None.ensures c.first_large_unbound.ensures
