use Rattle.std.proofs.lemmas.Bool.{eqb-true}
use Rattle.std.proofs.Common.{ℕ, sym, List, Option, IfSome, Contains, rules, subst, ◌<◌, length, ap, ◌∙◌, arith}
use Rattle.npa_term.specs.declared.term.Term.{Name}
use Rattle.npa_match.specs.Matching.{read_pairs}
use Rattle.npa_model.specs.declared.aim.Part.TheVariants as part
use Rattle.npa_list.specs.Different.{AreDifferent}
use Rattle.npa_replay.proofs.Choosing.{matcher_match}
use Rattle.npa_replay.proofs.Holding.{held_matcher}
use Rattle.npa_replay.proofs.Searching.{empty_of, rest_done, rest_failed, on_closed, on_met, on_missed}
use Rattle.npa_replay.proofs.search.+are_met.Goals.{in-Some-2+in_ok-are_met+else-branch, in_default-2}
use Rattle.npa_replay.proofs.search.+are_met.Goals as goal

pub returns-then-is_empty-clause-met : goal.returns-then-is_empty-clause-met
returns-then-is_empty-clause-met t c _ =
    rest_done c.args.scene.now.sorts.now c.args.scene.now.instances.now c.args.scene.now.state.now c.args.scene.now.parts.now c.args.candidates.now c.requires.candidates c.args.places.now c.requires.places c.requires.different
    c.args.choice.now.used (read_pairs c.args.choice.now.pairs) (empty_of c.args.places.now (eqb-true (length c.args.places.now) 0 (sym c.is_empty.ensures ∙ c.if-is_empty.true)))
    (matcher_match c.args.scene.now.sorts.now (read_pairs c.args.choice.now.pairs) (held_matcher c.args.scene.now.sorts.now c.args.choice.now c.requires.held))

pub returns-then-branch-clause-met : goal.returns-then-branch-clause-met
returns-then-branch-clause-met t c _ =
    let l : c.in-Some.first < length c.args.places.now = subst (λ (x : Option ℕ). IfSome x (λ at. at < length c.args.places.now)) c.in-Some.is c.in_ok-first.ensures.within in
    let used = rw c.in-Some-2.is at c.in_ok-more.ensures.used in
    let pairs = rw c.in-Some-2.is at c.in_ok-more.ensures.pairs in
    let free = rw c.in-Some-2.is at c.in_ok-more.ensures.free in
    on_met c.args.scene.now.sorts.now c.args.scene.now.instances.now c.args.scene.now.state.now c.args.scene.now.parts.now c.args.candidates.now c.requires.candidates c.args.places.now c.requires.places c.requires.different
    c.args.choice.now.used (read_pairs c.args.choice.now.pairs) c.in-Some.first l c.place_at-k.result c.place_at-k.ensures.value c.as_slice-rest.result.now (c.as_slice-rest.ensures ∙ c.in_ok-others.ensures.value) c.index-scene-k.result c.index-candidates-k.result c.as_slice-target-items.result.now c.index-candidates-k.is c.as_slice-target-items.ensures
    c.loop-target.target-index c.loop-target.invariant
    c.in-Some-2.more.used (read_pairs c.in-Some-2.more.pairs) used pairs c.loop-target-test.true free (c.in_ok-are_met.ensures.met c.if-branch.true)

pub loop-target-preserved : goal.loop-target-preserved
loop-target-preserved t c =
    let l : c.in-Some.first < length c.args.places.now = subst (λ (x : Option ℕ). IfSome x (λ at. at < length c.args.places.now)) c.in-Some.is c.in_ok-first.ensures.within in
    elim c.match-branch-5.branch [
      | in-Some-2+in_ok-are_met+else-branch w ↦
          let used = rw w.in-Some-2.is at c.in_ok-more.ensures.used in
          let pairs = rw w.in-Some-2.is at c.in_ok-more.ensures.pairs in
          on_missed c.args.scene.now.sorts.now c.args.scene.now.instances.now c.args.scene.now.state.now c.args.scene.now.parts.now c.args.candidates.now c.requires.candidates c.args.places.now c.requires.places c.requires.different
          c.args.choice.now.used (read_pairs c.args.choice.now.pairs) c.in-Some.first l c.place_at-k.result c.place_at-k.ensures.value c.as_slice-rest.result.now (c.as_slice-rest.ensures ∙ c.in_ok-others.ensures.value) c.index-scene-k.result c.index-candidates-k.result c.as_slice-target-items.result.now c.index-candidates-k.is c.as_slice-target-items.ensures
          c.loop-target.target-index c.loop-target.invariant
          w.in-Some-2.more.used (read_pairs w.in-Some-2.more.pairs) used pairs (w.in_ok-are_met.ensures.missed w.if-branch.false)
      | in_default-2 w ↦
          on_closed c.args.scene.now.sorts.now c.args.scene.now.instances.now c.args.scene.now.state.now c.args.scene.now.parts.now c.args.candidates.now c.requires.candidates c.args.places.now c.requires.places c.requires.different
          c.args.choice.now.used (read_pairs c.args.choice.now.pairs) c.in-Some.first l c.place_at-k.result c.place_at-k.ensures.value c.as_slice-rest.result.now (c.as_slice-rest.ensures ∙ c.in_ok-others.ensures.value) c.index-scene-k.result c.index-candidates-k.result c.as_slice-target-items.result.now c.index-candidates-k.is c.as_slice-target-items.ensures
          c.loop-target.target-index c.loop-target.invariant (c.in_ok-more.ensures.closed w.in_default-2.is)
    ]

pub returns-clause-missed : goal.returns-clause-missed
returns-clause-missed t c _ =
    let l : c.in-Some.first < length c.args.places.now = subst (λ (x : Option ℕ). IfSome x (λ at. at < length c.args.places.now)) c.in-Some.is c.in_ok-first.ensures.within in
    rest_failed c.args.scene.now.sorts.now c.args.scene.now.instances.now c.args.scene.now.state.now c.args.scene.now.parts.now c.args.candidates.now c.requires.candidates c.args.places.now c.requires.places c.requires.different
    c.args.choice.now.used (read_pairs c.args.choice.now.pairs) c.in-Some.first l c.place_at-k.result c.place_at-k.ensures.value c.as_slice-rest.result.now (c.as_slice-rest.ensures ∙ c.in_ok-others.ensures.value) (part.Known (Name 0)) c.index-candidates-k.result c.as_slice-target-items.result.now c.index-candidates-k.is c.as_slice-target-items.ensures
    c.loop-target.target-index c.loop-target.invariant (omega (arith, c.loop-target-test.false))

pub are_met-requires : goal.are_met-requires
are_met-requires t c =
    let shorter : length c.as_slice-rest.result.now < length c.args.places.now = omega (arith, ap length c.as_slice-rest.ensures, c.in_ok-others.ensures.shorter) in
    let places : (i : ℕ) → Contains c.as_slice-rest.result.now i → i < length c.args.scene.now.parts.now =
    λ i h. c.requires.places i (c.in_ok-others.ensures.among i (subst (λ (ns : List ℕ). Contains ns i) c.as_slice-rest.ensures h)) in
    let different : AreDifferent c.as_slice-rest.result.now = subst (λ (ns : List ℕ). AreDifferent ns) (sym c.as_slice-rest.ensures) c.in_ok-others.ensures.different in
    let held = rw c.in-Some-2.is at c.in_ok-more.ensures.held in
    (search rules, (places, (different, (c.requires.candidates, held))))
