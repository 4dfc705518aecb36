use Rattle.npa_match.specs.Matching.{bound_pairs}
use Rattle.npa_model.specs.Covering.{IsCover}
use Rattle.npa_subsume.proofs.Tested.{found_tells}
use Rattle.npa_subsume.proofs.cover.covers.Goals as goal

pub returns-clause-test : goal.returns-clause-test
returns-clause-test c =
    let o = c.args.sorts.now in
    let t = c.args.t.now in
    let s = c.args.s.now in
    found_tells o t s (λ x. IsCover o t s (bound_pairs x.bound) x.places) (λ x is. (bound_pairs x.bound, x.places, is))
    c.in_ok-find_cover.field-0 c.is_some.result c.is_some.ensures c.in_ok-find_cover.ensures.cover c.in_ok-find_cover.ensures.none
