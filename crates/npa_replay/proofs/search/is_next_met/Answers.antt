use Rattle.std.proofs.Common.{◌≡◌, ◌+◌, ◌<◌, ℕ, List, [], Some, IsTrue, false, slice_get, sym, ◌∙◌, ap, subst, Contains, arith}
use Rattle.std.proofs.lemmas.Option.{slice_get-get_or}
use Rattle.npa_match.specs.Matching.{HasMatch}
use Rattle.npa_match.proofs.Going.{on_ok}
use Rattle.npa_model.specs.declared.aim.Part.{Part}
use Rattle.npa_replay.specs.Choices.{AreCandidates, Can, IsMost, picked}
use Rattle.npa_replay.specs.Groups.{HasChoice}
use Rattle.npa_replay.specs.Held.{IsServed}
use Rattle.npa_replay.proofs.Choosing.{candidates_at}
use Rattle.npa_replay.proofs.Grouping.{met_next, most_before}
use Rattle.npa_replay.proofs.Keeping.{kept_choice, kept_next}
use Rattle.npa_replay.proofs.search.is_next_met.Goals as goal

pub returns-in-Some-2-clause-kept : goal.returns-in-Some-2-clause-kept
returns-in-Some-2-clause-kept c =
    let o = c.args.scene.now.sorts.now in
    let instances = c.args.scene.now.instances.now in
    let state = c.args.scene.now.state.now in
    let parts = c.args.scene.now.parts.now in
    let p = c.index-scene-k.result in
    let at : slice_get parts c.args.k ≡ Some p = slice_get-get_or parts c.args.k p c.requires.within ∙ ap Some (sym c.index-scene-k.is) in
    let good = subst (λ (ns : List ℕ). AreCandidates instances state o p ns) (sym c.as_slice.ensures)
    (candidates_at o instances state parts c.args.candidates.now c.requires.candidates c.args.k c.requires.within p at c.index-candidates-k.result c.index-candidates-k.is) in
    let kept = rw c.in-Some.is at c.requires.kept in
    let held = rw c.in-Some-2.is at c.in_ok-more.ensures.held in
    let served = subst (λ (q : Part). IsServed instances state q c.as_slice.result.now c.in-Some.choice c.in-Some-2.more) (sym c.index-scene-k.is) (rw c.in-Some-2.is at c.in_ok-more.ensures.served) in
    kept_next instances state o parts c.args.k p c.as_slice.result.now c.in-Some.choice c.in-Some-2.more c.requires.within c.index-scene-k.is good kept held served

pub returns-in-Some-2-clause-met : goal.returns-in-Some-2-clause-met
returns-in-Some-2-clause-met c =
    let o = c.args.scene.now.sorts.now in
    let instances = c.args.scene.now.instances.now in
    let state = c.args.scene.now.state.now in
    let parts = c.args.scene.now.parts.now in
    let p = c.index-scene-k.result in
    let at : slice_get parts c.args.k ≡ Some p = slice_get-get_or parts c.args.k p c.requires.within ∙ ap Some (sym c.index-scene-k.is) in
    let good = subst (λ (ns : List ℕ). AreCandidates instances state o p ns) (sym c.as_slice.ensures)
    (candidates_at o instances state parts c.args.candidates.now c.requires.candidates c.args.k c.requires.within p at c.index-candidates-k.result c.index-candidates-k.is) in
    let kept = rw c.in-Some.is at c.requires.kept in
    let held = rw c.in-Some-2.is at c.in_ok-more.ensures.held in
    let served = subst (λ (q : Part). IsServed instances state q c.as_slice.result.now c.in-Some.choice c.in-Some-2.more) (sym c.index-scene-k.is) (rw c.in-Some-2.is at c.in_ok-more.ensures.served) in
    λ _. kept_choice instances state o parts (c.args.k + 1) c.in-Some-2.more
    (kept_next instances state o parts c.args.k p c.as_slice.result.now c.in-Some.choice c.in-Some-2.more c.requires.within c.index-scene-k.is good kept held served)

pub is_group_met-requires-clause-places : goal.is_group_met-requires-clause-places
is_group_met-requires-clause-places c i h =
    let b = c.in_ok-places.ensures.within i (subst (λ (ns : List ℕ). Contains ns i) c.as_slice-2.ensures h) in
    omega (arith, b, c.requires.within)

pub returns-clause-met : goal.returns-clause-met
returns-clause-met c =
    let o = c.args.scene.now.sorts.now in
    let instances = c.args.scene.now.instances.now in
    let state = c.args.scene.now.state.now in
    let parts = c.args.scene.now.parts.now in
    on_ok (λ b. IsTrue b → Can instances state (HasMatch o) (picked parts c.as_slice-2.result.now) [] []) (λ b. IsTrue b → HasChoice instances state o parts (λ i. i < c.args.k + 1))
    (λ b f t. met_next instances state o parts c.args.links.0.now c.args.links.1.now c.requires.variables c.requires.strands c.args.k c.in_ok-places.places
    c.in_ok-places.ensures.first c.in_ok-places.ensures.within c.in_ok-places.ensures.different c.in_ok-places.ensures.shared c.in_ok-places.ensures.alike c.requires.before
    (subst (λ (ns : List ℕ). Can instances state (HasMatch o) (picked parts ns) [] []) c.as_slice-2.ensures (f t)))
    c.is_group_met.result c.is_group_met.ensures.met

pub returns-clause-missed : goal.returns-clause-missed
returns-clause-missed c =
    let o = c.args.scene.now.sorts.now in
    let instances = c.args.scene.now.instances.now in
    let state = c.args.scene.now.state.now in
    let parts = c.args.scene.now.parts.now in
    on_ok (λ b. b ≡ false → Can instances state (HasMatch o) (picked parts c.as_slice-2.result.now) [] [] → ⊥) (λ b. b ≡ false → IsMost instances state o parts [] [] c.args.k)
    (λ b f t. most_before instances state o parts c.args.links.0.now c.args.links.1.now c.requires.variables c.requires.strands c.args.k c.in_ok-places.places
    c.in_ok-places.ensures.first c.in_ok-places.ensures.within c.in_ok-places.ensures.different c.in_ok-places.ensures.shared c.in_ok-places.ensures.alike c.requires.before c.requires.within
    (λ d. f t (subst (λ (ns : List ℕ). Can instances state (HasMatch o) (picked parts ns) [] []) (sym c.as_slice-2.ensures) d)))
    c.is_group_met.result c.is_group_met.ensures.missed
