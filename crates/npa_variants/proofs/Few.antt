-- How many rows the search keeps: it answers a number of them at most, and it stops at the moment when
-- it keeps one more.
use Rattle.std.proofs.Common.{◌≡◌, ◌<◌, ◌≤◌, ℕ, zero, suc, ◌+◌, Bool, true, false, not, cond, Option, Some, None, Result, Ok, Err, List, [], ◌∷◌, ◌++◌, length, map, refl, sym, ◌∙◌, ap, subst, length-append, append-nil, arith, nat_lt}
use Rattle.std.specs.Prelude.{Contains, filter}
use Rattle.std.specs.List.{flat_map}
use Rattle.std.proofs.lemmas.Bool.{ltb-true, ltb-false}
use Rattle.npa_sorts.specs.Subsorts.{Subsorts}
use Rattle.npa_term.specs.declared.term.Var.{Var as Variable}
use Rattle.npa_term.specs.declared.term.Term.{Term}
use Rattle.npa_term.specs.Bound.{applied}
use Rattle.npa_term.specs.Variables.{variables, renamed}
use Rattle.npa_sig.specs.declared.protocol.Equation.{Equation}
use Rattle.npa_unify.specs.declared.error.UnifyFail.{UnifyFail}
use Rattle.npa_unify.specs.declared.error.UnifyFail.TheVariants as unify_fail
use Rattle.npa_unify.specs.Answers.{judged, unifiers as all_unifiers}
use Rattle.npa_rewrite.specs.declared.theory.Theory.{Theory}
use Rattle.npa_variants.specs.Rows.{Row, own_parts, covers_row}
use Rattle.npa_variants.specs.Search.{Kept, rows, Stop, too_many, unifiers, symbols, followed, folded, is_covered, uncovered, with_row, few, placed, first_large, sized, past, values_under, result_of, are_normal, by_unifier, as_stop, unifiers_at, by_equation, by_part, by_row, level, begun, unless_ended, searched, variant_rows}
use Rattle.npa_variants.proofs.Levels.{rows_placed}

-- what is known of a search that goes on, and of one that stops
abbrev pub Holds : {S : Type 0} → (S → Type 0) → (Stop → Type 0) → Result S Stop → Type 0
Holds P R (Ok k) = P k
Holds P R (Err s) = R s

pub followed_holds : {S T : Type 0} (P : S → Type 0) (Q : T → Type 0) (R : Stop → Type 0) (r : Result S Stop) (f : S → Result T Stop) →
    Holds P R r → ((k : S) → P k → Holds Q R (f k)) → Holds Q R (followed r f)
followed_holds P Q R (Ok k) f p then_ = then_ k p
followed_holds P Q R (Err s) f p then_ = p

pub folded_holds : {X S : Type 0} (P : S → Type 0) (R : Stop → Type 0) (f : X → S → Result S Stop) → ((x : X) (k : S) → P k → Holds P R (f x k)) →
    (xs : List X) (k : S) → P k → Holds P R (folded f xs k)
folded_holds P R f holds [] k p = p
folded_holds P R f holds (x ∷ xs) k p = followed_holds P P R (f x k) (folded f xs) (holds x k p) (folded_holds P R f holds xs)

-- one row more than `most`, where so many stop the search
abbrev pub OneMore : ℕ → Stop → Type 0
OneMore most (too_many rs) = length rs ≡ suc most
OneMore most unifiers = Unit {0}
OneMore most (symbols n) = Unit {0}

abbrev pub AreFew : ℕ → Kept → Type 0
AreFew most k = length (rows k) ≤ most

filtered_length : {X : Type 0} (p : X → Bool) (xs : List X) → length (filter p xs) ≤ length xs
filtered_length p [] = omega arith
filtered_length p (x ∷ xs) =
    let rest = filtered_length p xs in
    elim (p x) as (λ b. length (cond b (x ∷ filter p xs) (filter p xs)) ≤ suc (length xs)) [ true ↦ omega (arith, rest) | false ↦ omega (arith, rest) ]

pub placed_few : (most : ℕ) (o : Subsorts) (w : Row) (k : Kept) → AreFew most k → Holds (AreFew most) (OneMore most) (placed most o w k)
placed_few most o w k small =
    elim (is_covered o (rows k) w) as (λ b. Holds (AreFew most) (OneMore most) (cond b (Ok k) (few most (with_row o w k)))) [
      | true ↦ small
      | false ↦
          elim (nat_lt most (length (rows (with_row o w k)))) as (λ b. nat_lt most (length (rows (with_row o w k))) ≡ b →
          Holds (AreFew most) (OneMore most) (cond b (Err (too_many (rows (with_row o w k)))) (Ok (with_row o w k)))) [
            | true ↦ λ e.
                let less = ltb-true most (length (rows (with_row o w k))) e in
                let size : length (rows (with_row o w k)) ≡ length (uncovered o w (rows k)) + 1 =
                ap length (rows_placed o w k) ∙ length-append (uncovered o w (rows k)) (w ∷ []) in
                let part = filtered_length (λ r. not (covers_row o w r)) (rows k) in
                omega (arith, less, size, part, small)
            | false ↦ λ e. ltb-false most (length (rows (with_row o w k))) e
          ] refl
    ]

sized_few : (most : ℕ) (x : Option ℕ) (r : Result Kept Stop) → Holds (AreFew most) (OneMore most) r → Holds (AreFew most) (OneMore most) (sized x r)
sized_few most (Some n) r holds = tt
sized_few most None r holds = holds

-- a list of unifiers that isn't answered keeps no row
as_few : (most : ℕ) (r : Result (List (List (Variable × Term))) UnifyFail) → Holds (λ θs. Unit {0}) (OneMore most) (as_stop r)
as_few most (Ok ss) = tt
as_few most (Err unify_fail.TooMany) = tt
as_few most (Err (unify_fail.TooLarge n)) = tt
as_few most (Err unify_fail.NoMemory) = tt

module _ (most : ℕ) (th : Theory) (m : ℕ) where
  abbrev Fine : Result Kept Stop → Type 0
  Fine r = Holds (AreFew most) (OneMore most) r

  unifier_few : (row : Row) (θ : List (Variable × Term)) (k : Kept) → AreFew most k → Fine (by_unifier most th m row θ k)
  unifier_few row θ k small =
      sized_few most (first_large (map (applied θ) row)) (cond (are_normal th (values_under m row θ)) (placed most th.sig.sorts (result_of th m row θ) k) (Ok k))
      (elim (are_normal th (values_under m row θ)) as (λ b. Fine (cond b (placed most th.sig.sorts (result_of th m row θ) k) (Ok k)))
      [ true ↦ placed_few most th.sig.sorts (result_of th m row θ) k small | false ↦ small ])

  equation_few : (row : Row) (u : Term) (e : Equation) (k : Kept) → AreFew most k → Fine (by_equation most th m row u e k)
  equation_few row u e k small =
      followed_holds (λ θs. Unit {0}) (AreFew most) (OneMore most) (unifiers_at th row u e) (λ θs. folded (by_unifier most th m row) θs k)
      (as_few most (judged (all_unifiers th.sig.sorts ((u, renamed (past (flat_map variables row)) e.left) ∷ []) (past (flat_map variables row) + past (variables e.left)))))
      (λ θs any. folded_holds (AreFew most) (OneMore most) (by_unifier most th m row) (unifier_few row) θs k small)

  part_few : (row : Row) (u : Term) (k : Kept) → AreFew most k → Fine (by_part most th m row u k)
  part_few row u k small = folded_holds (AreFew most) (OneMore most) (by_equation most th m row u) (equation_few row u) th.equations k small

  row_few : (row : Row) (k : Kept) → AreFew most k → Fine (by_row most th m row k)
  row_few row k small = folded_holds (AreFew most) (OneMore most) (by_part most th m row) (part_few row) (own_parts m row) k small

  pub level_few : (rs : List Row) (k : Kept) → AreFew most k → Fine (level most th m rs k)
  level_few rs k small = folded_holds (AreFew most) (OneMore most) (by_row most th m) row_few rs k small

  ended_few : (k : Kept) (xs : List Row) (more : Result (List Row) Stop) → AreFew most k → k.new ≡ xs → Holds (λ L. length L ≤ most) (OneMore most) more →
      Holds (λ L. length L ≤ most) (OneMore most) (unless_ended xs (Ok k.old) more)
  ended_few k [] more small is holds = let size = length-append k.old k.new in omega (arith, size, small)
  ended_few k (w ∷ ws) more small is holds = holds

  pub searched_few : (last : Kept → Result (List Row) Stop) → ((k : Kept) → AreFew most k → Holds (λ L. length L ≤ most) (OneMore most) (last k)) →
      (n : ℕ) (k : Kept) → AreFew most k → Holds (λ L. length L ≤ most) (OneMore most) (searched most last th m n k)
  searched_few last last_few zero k small = last_few k small
  searched_few last last_few (suc n) k small =
      ended_few k k.new (followed (level most th m k.new (begun k)) (searched most last th m n)) small refl
      (followed_holds (AreFew most) (λ L. length L ≤ most) (OneMore most) (level most th m k.new (begun k)) (searched most last th m n)
      (level_few k.new (begun k) (let size = length-append (rows k) [] in omega (arith, size, small)))
      (searched_few last last_few n))

  -- the answer has `most` rows at most, and one more where too many are kept
  pub variants_few : (start : Row) → 1 ≤ most → Holds (λ L. length L ≤ most) (OneMore most) (variant_rows most th m start)
  variants_few start some =
      searched_few (λ k. Ok (rows k)) (λ k small. small) (length (own_parts m start)) (record { old = []; new = start ∷ [] }) some
