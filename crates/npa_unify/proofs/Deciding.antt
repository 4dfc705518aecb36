-- Whether there is a unifier, by the ends of the first branch.
use Rattle.std.proofs.Common.{◌≡◌, ℕ, ◌≤◌, Ok, ◌^◌, List, [], ◌∷◌, map, refl, sym, ◌∙◌, ap, subst}
use Rattle.std.specs.Prelude.{Contains, flat_map}
use Rattle.std.proofs.lemmas.List.{append-nil}
use Rattle.npa_sorts.specs.Subsorts.{Subsorts, AreSorts, IsSort}
use Rattle.npa_sorts.proofs.LowerLaws.{IsAcyclic}
use Rattle.npa_term.specs.declared.term.Var.{Var as Variable}
use Rattle.npa_term.specs.declared.term.Term.{Term}
use Rattle.npa_unify.specs.declared.search.State.{State}
use Rattle.npa_unify.specs.Answers.{finished, judged, started, unifiers}
use Rattle.npa_unify.specs.Branches.{Branch, ends, pair_variables}
use Rattle.npa_unify.specs.Seen.{AreSound, NoneEquates, IsReached, IsSound, full_pairs, goal_pairs, raw, seen, seen_all, seen_as}
use Rattle.npa_unify.specs.Unifiers.{AreLow, HaveOneSort, IsComplete, IsUnifier}
use Rattle.npa_unify.proofs.Answering.{none_exactly, unifies}
use Rattle.npa_unify.proofs.Members.{here, only_one}
use Rattle.npa_unify.proofs.Progress.{visited_first}

full_nothing : (ps : List (Term × Term)) → full_pairs [] ps ≡ ps
full_nothing [] = refl
full_nothing (p ∷ ps) = ap (λ r. p ∷ r) (full_nothing ps)

pub seen_start : (s : State) (ps : List (Term × Term)) (next : ℕ) → goal_pairs s.goals.items ≡ ps → s.bound.items ≡ [] → s.next ≡ next → seen s ≡ started ps next
seen_start s ps next goals bound is =
    ap (λ b. seen_as s.goals.items b s.next) bound
    ∙ ap (λ (qs : List (Term × Term)). record { pairs = qs; bound = []; next = s.next }) (full_nothing (goal_pairs s.goals.items) ∙ goals)
    ∙ ap (started ps) is

pub one_seen : (ws : List State) (s : State) (b : Branch) → ws ≡ s ∷ [] → seen s ≡ b → seen_all ws ≡ b ∷ []
one_seen ws s b e is = ap seen_all e ∙ ap (λ x. x ∷ []) is

pub one_sound : (ws : List State) (s : State) → ws ≡ s ∷ [] → s.bound.items ≡ [] → AreSound ws
one_sound ws s e is x c =
    let same : s ≡ x = only_one s x (subst (λ l. Contains l x) e c) in
    subst (λ (y : State). IsSound (raw y.bound.items)) same (subst (λ l. IsSound (raw l)) (sym is) tt)

pub start_reached : (o : Subsorts) (ps : List (Term × Term)) (next : ℕ) (ws : List State) → AreSorts o → next ≤ 2 ^ 31 → AreLow ps next → HaveOneSort ps →
    ((v : Variable) → Contains (pair_variables ps) v → IsSort o v.sort) → seen_all ws ≡ started ps next ∷ [] → (b : Branch) → Contains (seen_all ws) b → IsReached o b
start_reached o ps next ws order few low one sorts e b c =
    subst (IsReached o) (only_one (started ps next) b (subst (λ l. Contains l b) e c))
    (record { pairs = ps; next = next; order = order; few = few; low = low; one = one; sorts = sorts; visited = visited_first o (started ps next) })

pub some_unifier : (o : Subsorts) (ps : List (Term × Term)) (next : ℕ) (ws : List Branch) (b : Branch) (bs : List Branch) → AreLow ps next → ws ≡ started ps next ∷ [] →
    flat_map (ends o) ws ≡ b ∷ bs → (s : List (Variable × Term)) × IsUnifier o ps s
some_unifier o ps next ws b bs low e found =
    let all : ends o (started ps next) ≡ b ∷ bs = sym (append-nil (ends o (started ps next))) ∙ ap (flat_map (ends o)) (sym e) ∙ found in (
      finished b.bound,
      unifies o ps next (finished b.bound) low
          (subst (λ (cs : List Branch). Contains (map (λ (c : Branch). finished c.bound) cs) (finished b.bound)) (sym all) (here (finished b.bound) (map (λ (c : Branch). finished c.bound) bs))),
    )

pub no_unifier : (o : Subsorts) (ps : List (Term × Term)) (next : ℕ) (ws : List Branch) → AreSorts o → IsAcyclic o → AreLow ps next → ws ≡ started ps next ∷ [] →
    flat_map (ends o) ws ≡ [] → (s : List (Variable × Term)) → IsUnifier o ps s → ⊥
no_unifier o ps next ws order acyclic low e none =
    let all : ends o (started ps next) ≡ [] = sym (append-nil (ends o (started ps next))) ∙ ap (flat_map (ends o)) (sym e) ∙ none in
    (none_exactly o ps next order acyclic low).0 (ap (map (λ (c : Branch). finished c.bound)) all)

-- pairs that nothing equates have no unifier

pub none_equates : (o : Subsorts) (ps : List (Term × Term)) → NoneEquates ps → (s : List (Variable × Term)) → IsUnifier o ps s → ⊥
none_equates o ps none s u = none s u.equal

pub none_listed : (o : Subsorts) (ps : List (Term × Term)) (next : ℕ) → AreSorts o → IsAcyclic o → AreLow ps next → NoneEquates ps → judged (unifiers o ps next) ≡ Ok []
none_listed o ps next order acyclic low none = ap judged ((none_exactly o ps next order acyclic low).1 (none_equates o ps none))

pub none_complete : (o : Subsorts) (ps : List (Term × Term)) (next : ℕ) (ss : List (List (Variable × Term))) → NoneEquates ps → IsComplete o ps next ss
none_complete o ps next ss none = λ u is. absurd (none_equates o ps none u is)
