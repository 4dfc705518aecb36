-- The search for sets and the problem of all moves that take one: they stop alike.
use Rattle.std.proofs.Common.{◌≡◌, ℕ, ◌+◌, ◌≤◌, true, false, cond, nat_lt, Option, None, Some, Result, Ok, Err, List, [], ◌∷◌, ◌++◌, map, length, refl, sym, ◌∙◌, ap, arith}
use Rattle.std.specs.List.{flat_map}
use Rattle.std.proofs.lemmas.List.{append-nil, append_assoc}
use Rattle.fold_core.specs.declared.error.Measure.{Measure}
use Rattle.fold_core.specs.declared.error.Measure.TheVariants.{Symbols, Unifiers}
use Rattle.npa_sorts.specs.Subsorts.{Subsorts}
use Rattle.npa_term.specs.declared.term.Term.{Term}
use Rattle.npa_term.specs.declared.term.Var.{Var as Variable}
use Rattle.npa_unify.specs.declared.error.UnifyFail.{UnifyFail}
use Rattle.npa_unify.specs.declared.error.UnifyFail.TheVariants.{NoMemory, TooLarge, TooMany}
use Rattle.npa_moves.specs.Gathering.{problem_excess, unifiers_in}
use Rattle.npa_moves.specs.Moves.{each_with}
use Rattle.npa_moves.specs.Picks.{Pick}
use Rattle.npa_moves.specs.Steps.{solve_over}
use Rattle.npa_sets.specs.declared.sets.FactSet.{FactSet}
use Rattle.npa_sets.specs.Sets.{Kept, answered, followed, sets_from}

abbrev Unifiers_of : Type 0
Unifiers_of = Result (List (List (Variable × Term))) UnifyFail

-- what stops a search, as what is too large in a problem
abbrev pub as_excess : UnifyFail → Option (Measure × ℕ)
as_excess TooMany = Some (Unifiers, 4097)
as_excess (TooLarge n) = Some (Symbols, n)
as_excess NoMemory = None

abbrev pub answer_of : Result Kept UnifyFail → Option (Measure × ℕ)
answer_of (Ok k) = None
answer_of (Err e) = as_excess e

module _ (o : Subsorts) (next : ℕ) (m : Term) (never : (pick : Pick) → solve_over o next (each_with m pick.taken) ≡ Err NoMemory → ⊥) where
  abbrev answers : List Pick → List Unifiers_of
  answers picks = map (λ pick. solve_over o next (each_with m pick.taken)) picks

  few : (n : ℕ) → n ≤ 4096 → nat_lt 4096 n ≡ false
  few n small = grind (arith, small)

  pub judged_alike : (picks : List Pick) (k : Kept) → k.count ≤ 4096 → problem_excess k.count (answers picks) ≡ answer_of (sets_from o next m picks k)
  judged_alike [] k small = refl
  judged_alike (pick ∷ more) k small =
      elim (solve_over o next (each_with m pick.taken)) as (λ (r : Unifiers_of). solve_over o next (each_with m pick.taken) ≡ r →
      problem_excess k.count (r ∷ answers more) ≡ answer_of (followed (answered pick r k) (sets_from o next m more))) [
        | Ok ss ↦ λ e. by_unifiers (λ l low. judged_alike more l low) ss
        | Err x ↦ λ e. stopped x e
      ] refl
    where
      stopped : (x : UnifyFail) → solve_over o next (each_with m pick.taken) ≡ Err x → problem_excess k.count (Err x ∷ answers more) ≡ as_excess x
      stopped TooMany e = refl
      stopped (TooLarge n) e = refl
      stopped NoMemory e = absurd (never pick e)

      with_set : List (Variable × Term) → List (List (Variable × Term)) → Kept
      with_set s ss = record { sets = k.sets ++ record { places = pick.places; left = pick.left; unifiers = s ∷ ss } ∷ []; count = k.count + length (s ∷ ss) }

      by_unifiers : ((l : Kept) → l.count ≤ 4096 → problem_excess l.count (answers more) ≡ answer_of (sets_from o next m more l)) → (ss : List (List (Variable × Term))) → problem_excess k.count (Ok ss ∷ answers more) ≡ answer_of (followed (answered pick (Ok ss) k) (sets_from o next m more))
      by_unifiers again [] =
          let same : k.count + 0 ≡ k.count = omega arith in
          ap (λ n. cond (nat_lt 4096 n) (Some (Unifiers, 4097)) (problem_excess n (answers more))) same
          ∙ ap (λ b. cond b (Some (Unifiers, 4097)) (problem_excess k.count (answers more))) (few k.count small)
          ∙ again k small
      by_unifiers again (s ∷ ss) =
          elim (nat_lt 4096 (k.count + length (s ∷ ss))) as (λ b. nat_lt 4096 (k.count + length (s ∷ ss)) ≡ b →
          cond b (Some (Unifiers, 4097)) (problem_excess (k.count + length (s ∷ ss)) (answers more))
          ≡ answer_of (followed (cond b (Err TooMany) (Ok (with_set s ss))) (sets_from o next m more))) [
            | true ↦ λ e. refl
            | false ↦ λ e. again (with_set s ss) (grind (arith, e))
          ] refl

-- ## What is drawn of the sets is what is drawn of all picks.

flat_both : {A B : Type 0} (f : A → List B) (xs ys : List A) → flat_map f (xs ++ ys) ≡ flat_map f xs ++ flat_map f ys
flat_both f [] ys = refl
flat_both f (x ∷ xs) ys = ap (λ zs. f x ++ zs) (flat_both f xs ys) ∙ sym (append_assoc (f x) (flat_map f xs) (flat_map f ys))

-- a pick with the unifiers that it has
abbrev pub set_of : Pick → List (List (Variable × Term)) → FactSet
set_of pick ss = record { places = pick.places; left = pick.left; unifiers = ss }

module _ (o : Subsorts) (next : ℕ) (m : Term) {D : Type 0} (draw : FactSet → List D) (none : (pick : Pick) → draw (set_of pick []) ≡ []) where
  abbrev drawn : List Pick → List D
  drawn picks = flat_map (λ pick. draw (set_of pick (unifiers_in (solve_over o next (each_with m pick.taken))))) picks

  pub drawn_alike : (picks : List Pick) (k l : Kept) → sets_from o next m picks k ≡ Ok l → flat_map draw l.sets ≡ flat_map draw k.sets ++ drawn picks
  drawn_alike [] k l e = let same : k ≡ l = cc in ap (λ (x : Kept). flat_map draw x.sets) (sym same) ∙ sym (append-nil (flat_map draw k.sets))
  drawn_alike (pick ∷ more) k l e =
      elim (solve_over o next (each_with m pick.taken)) as (λ (r : Unifiers_of).
      followed (answered pick r k) (sets_from o next m more) ≡ Ok l → flat_map draw l.sets ≡ flat_map draw k.sets ++ (draw (set_of pick (unifiers_in r)) ++ drawn more)) [
        | Ok ss ↦ by_unifiers (λ j f. drawn_alike more j l f) ss
        | Err x ↦ λ f. let never : ⊥ = cc in absurd never
      ] e
    where
      by_unifiers : ((j : Kept) → sets_from o next m more j ≡ Ok l → flat_map draw l.sets ≡ flat_map draw j.sets ++ drawn more) → (ss : List (List (Variable × Term))) →
          followed (answered pick (Ok ss) k) (sets_from o next m more) ≡ Ok l → flat_map draw l.sets ≡ flat_map draw k.sets ++ (draw (set_of pick ss) ++ drawn more)
      by_unifiers again [] f = again k f ∙ ap (λ ds. flat_map draw k.sets ++ (ds ++ drawn more)) (sym (none pick))
      by_unifiers again (s ∷ ss) f =
          elim (nat_lt 4096 (k.count + length (s ∷ ss))) as (λ b.
          followed (cond b (Err TooMany) (Ok (record { sets = k.sets ++ set_of pick (s ∷ ss) ∷ []; count = k.count + length (s ∷ ss) }))) (sets_from o next m more) ≡ Ok l →
          flat_map draw l.sets ≡ flat_map draw k.sets ++ (draw (set_of pick (s ∷ ss)) ++ drawn more)) [
            | true ↦ λ g. let never : ⊥ = cc in absurd never
            | false ↦ λ g.
                again (record { sets = k.sets ++ set_of pick (s ∷ ss) ∷ []; count = k.count + length (s ∷ ss) }) g
                ∙ ap (λ ds. ds ++ drawn more) (flat_both draw k.sets (set_of pick (s ∷ ss) ∷ []) ∙ ap (λ ds. flat_map draw k.sets ++ ds) (append-nil (draw (set_of pick (s ∷ ss)))))
                ∙ append_assoc (flat_map draw k.sets) (draw (set_of pick (s ∷ ss))) (drawn more)
          ] f
