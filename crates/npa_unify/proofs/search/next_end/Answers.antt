use Rattle.std.proofs.Common.{◌≡◌, ◌<◌, [], ◌∷◌, length, refl, subst, sym, ◌∙◌, ap, inl, inr}
use Rattle.std.specs.Prelude.{Contains, flat_map}
use Rattle.std.proofs.lemmas.List.Elements.{Contains-append_left, Contains-append_right, Contains-append_cases}
use Rattle.npa_unify.specs.Branches.{move, visited, ends, with_pairs}
use Rattle.npa_unify.specs.Searches.{nexts}
use Rattle.npa_unify.specs.Seen.{AreSound, IsReached, full, raw, seen, seen_all, seen_as}
use Rattle.npa_unify.proofs.Following.{seen_more, seen_popped}
use Rattle.npa_unify.proofs.Members.{here, later}
use Rattle.npa_unify.proofs.Reaching.{ends_follow, reached_next, visits_follow}
use Rattle.npa_unify.proofs.search.next_end.Goals as goal

pub follow-requires-clause-reached : goal.follow-requires-clause-reached
follow-requires-clause-reached c =
    let s = c.in-Some.state in
    let popped : seen_all c.loop-state.waiting.items ≡ seen s ∷ seen_all c.pop.new.self.items = seen_more c.pop.new.self.items s c.loop-state.waiting.items c.in-Some.ensures.items in
    subst (IsReached c.args.sorts.now) (seen_popped s.goals.items c.pop-in-Some.new.self.items s.bound.items s.next c.in-Some-pop.t c.in-Some-pop.u c.in-Some-pop.ensures.items)
    (c.loop-state.invariant.reached (seen s) (subst (λ bs. Contains bs (seen s)) (sym popped) (here (seen s) (seen_all c.pop.new.self.items))))

pub loop-state-smaller : goal.loop-state-smaller
loop-state-smaller c =
    let s = c.in-Some.state in
    let o = c.args.sorts.now in
    let b = with_pairs ((full (raw s.bound.items) c.in-Some-pop.t.now, full (raw s.bound.items) c.in-Some-pop.u.now) ∷ []) (seen_as c.pop-in-Some.new.self.items s.bound.items s.next) in
    let rest = seen_all c.pop.new.self.items in
    let whole : seen_all c.loop-state.waiting.items ≡ b ∷ rest =
    seen_more c.pop.new.self.items s c.loop-state.waiting.items c.in-Some.ensures.items
    ∙ ap (λ x. x ∷ rest) (seen_popped s.goals.items c.pop-in-Some.new.self.items s.bound.items s.next c.in-Some-pop.t c.in-Some-pop.u c.in-Some-pop.ensures.items) in
    subst (λ bs. length (flat_map (visited o) (seen_all c.follow.new.waiting.items)) < length (flat_map (visited o) bs)) (sym whole)
    (visits_follow o b rest (seen_all c.follow.new.waiting.items) c.in_ok-follow-in-Some-pop.ensures.all)

pub loop-state-preserved : goal.loop-state-preserved
loop-state-preserved c =
    let s = c.in-Some.state in
    let o = c.args.sorts.now in
    let b = with_pairs ((full (raw s.bound.items) c.in-Some-pop.t.now, full (raw s.bound.items) c.in-Some-pop.u.now) ∷ []) (seen_as c.pop-in-Some.new.self.items s.bound.items s.next) in
    let rest = seen_all c.pop.new.self.items in
    let new = seen_all c.follow.new.waiting.items in
    let whole : seen_all c.loop-state.waiting.items ≡ b ∷ rest =
    seen_more c.pop.new.self.items s c.loop-state.waiting.items c.in-Some.ensures.items
    ∙ ap (λ x. x ∷ rest) (seen_popped s.goals.items c.pop-in-Some.new.self.items s.bound.items s.next c.in-Some-pop.t c.in-Some-pop.u c.in-Some-pop.ensures.items) in
    let first : IsReached o b = c.loop-state.invariant.reached b (subst (λ bs. Contains bs b) (sym whole) (here b rest)) in
    let before : AreSound c.pop.new.self.items =
    λ x m. c.loop-state.invariant.sound x (subst (λ l. Contains l x) (sym c.in-Some.ensures.items) (Contains-append_left c.pop.new.self.items (s ∷ []) x m)) in
    record {
      ends = ends_follow o b rest new refl c.in_ok-follow-in-Some-pop.ensures.all ∙ ap (flat_map (ends o)) (sym whole) ∙ c.loop-state.invariant.ends;
      sound = c.in_ok-follow-in-Some-pop.ensures.sound before;
      reached = λ x m. elim (Contains-append_cases (nexts (move o (full (raw s.bound.items) c.in-Some-pop.t.now) (full (raw s.bound.items) c.in-Some-pop.u.now) (seen_as c.pop-in-Some.new.self.items s.bound.items s.next)))
          rest x (subst (λ bs. Contains bs x) c.in_ok-follow-in-Some-pop.ensures.all m)) [
            | inl d ↦ reached_next o b x first d
            | inr d ↦ c.loop-state.invariant.reached x (subst (λ bs. Contains bs x) (sym whole) (later b x rest d))
          ];
    }

pub returns-in-None-clause-reached : goal.returns-in-None-clause-reached
returns-in-None-clause-reached c = λ b m.
    let s = c.in-Some.state in
    let popped : seen_all c.loop-state.waiting.items ≡ seen s ∷ seen_all c.pop.new.self.items = seen_more c.pop.new.self.items s c.loop-state.waiting.items c.in-Some.ensures.items in
    c.loop-state.invariant.reached b (subst (λ bs. Contains bs b) (sym popped) (later (seen s) b (seen_all c.pop.new.self.items) m))

pub follow-requires-clause-sound : goal.follow-requires-clause-sound
follow-requires-clause-sound c =
    c.loop-state.invariant.sound c.in-Some.state
    (subst (λ l. Contains l c.in-Some.state) (sym c.in-Some.ensures.items) (Contains-append_right c.pop.new.self.items (c.in-Some.state ∷ []) c.in-Some.state (here c.in-Some.state [])))
