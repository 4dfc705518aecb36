use Rattle.npa_match.specs.Matching.{bound_pairs}
use Rattle.npa_subsume.proofs.Covered.{choice_covers, no_cover}
use Rattle.npa_subsume.proofs.found.find_cover.Goals as goal

pub returns-in_default-clause-none : goal.returns-in_default-clause-none
returns-in_default-clause-none c =
    let none = rw c.as_slice.ensures at c.in_ok-choice.ensures.none in
    λ _. no_cover c.args.sorts.now c.args.t.now c.args.s.now c.in_ok-askers.askers c.in_ok-askers.ensures (none c.in_default.is)

pub returns-clause-cover : goal.returns-clause-cover
returns-clause-cover c =
    let choice = rw (c.in-Some.is, c.as_slice.ensures) at c.in_ok-choice.ensures.choice in
    let places = rw (c.as_slice-2.ensures, c.as_slice-3.ensures, c.len-count.ensures) at c.in_ok-places.ensures in
    choice_covers c.args.sorts.now c.args.t.now c.args.s.now c.in_ok-askers.askers c.in_ok-askers.ensures
    c.in-Some.choice.offers (bound_pairs c.in-Some.choice.bound) choice c.in_ok-places.places places
