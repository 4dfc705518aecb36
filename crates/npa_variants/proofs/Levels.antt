-- What one level of the search does: each row that comes of one of the level's is covered by a kept
-- one, and so is each that was kept.
use Rattle.std.proofs.Common.{◌≡◌, ◌⊎◌, ◌<◌, ◌≤◌, ℕ, zero, suc, ◌+◌, Bool, true, false, not, cond, Option, Some, None, Result, Ok, Err, List, [], ◌∷◌, ◌++◌, length, map, inl, inr, refl, sym, ◌∙◌, ap, subst, append_assoc, arith, nat_lt}
use Rattle.std.specs.Prelude.{Contains, filter}
use Rattle.std.specs.List.{flat_map}
use Rattle.std.proofs.lemmas.List.Elements.{Contains-append_left, Contains-append_right, Contains-append_cases, Contains-push, Contains-push_cases, filter-append}
use Rattle.npa_sorts.specs.Subsorts.{Subsorts}
use Rattle.npa_term.specs.declared.term.Var.{Var as Variable}
use Rattle.npa_term.specs.declared.term.Term.{Term}
use Rattle.npa_term.specs.Bound.{applied}
use Rattle.npa_term.specs.Variables.{variables, renamed}
use Rattle.npa_sig.specs.declared.protocol.Equation.{Equation}
use Rattle.npa_unify.specs.declared.error.UnifyFail.{UnifyFail}
use Rattle.npa_unify.specs.declared.error.UnifyFail.TheVariants as unify_fail
use Rattle.npa_unify.specs.Answers.{distinct, judged, unifiers as all_unifiers}
use Rattle.npa_unify.proofs.Judging.{judged_distinct}
use Rattle.npa_rewrite.specs.declared.theory.Theory.{Theory}
use Rattle.npa_rewrite.proofs.InstanceParts.{here, behind, member_cases}
use Rattle.npa_variants.specs.Rows.{Row, own_parts, covers_row}
use Rattle.npa_variants.specs.Search.{Kept, rows, Stop, too_many, followed, folded, is_covered, uncovered, with_row, few, placed, first_large, sized, values_under, result_of, are_normal, by_unifier, past, as_stop, unifiers_at, by_equation, by_part, by_row, level}
use Rattle.npa_variants.specs.Variants.{Covers}
use Rattle.npa_variants.proofs.Members.{none_there, any_of, any_member, filtered_member, of_filtered}
use Rattle.npa_variants.proofs.Covers.{covers_itself, covers_through, covers_sound, covers_complete, covers_exact}
use Rattle.npa_variants.proofs.Closed.{Covered}

-- ## Folds

-- a search that went on
pub went_on : {S T : Type 0} (r : Result S Stop) (f : S → Result T Stop) (l : T) → followed r f ≡ Ok l → (k : S) × (r ≡ Ok k) × (f k ≡ Ok l)
went_on (Ok k) f l e = (k, refl, e)
went_on (Err s) f l e = cc

-- what a search answers
abbrev pub Gives : {S : Type 0} → Result S Stop → S → Type 0
Gives r l = r ≡ Ok l

pub ok_same : {S : Type 0} (k l : S) → Gives (Ok k) l → k ≡ l
ok_same k l e = cc

-- what each one keeps is kept in the end
pub folded_keeps : {X S : Type 0} (f : X → S → Result S Stop) (P : S → Type 0) (xs : List X) → ((x : X) → Contains xs x → (k l : S) → P k → f x k ≡ Ok l → P l) →
    (k l : S) → P k → folded f xs k ≡ Ok l → P l
folded_keeps f P [] keeps k l p e = subst P (ok_same k l e) p
folded_keeps f P (x ∷ xs) keeps k l p e =
    let first = went_on (f x k) (folded f xs) l e in
    folded_keeps f P xs (λ y c. keeps y (behind x y xs c)) first.0 l (keeps x (here x xs) k first.0 p first.1) first.2

-- ## What is covered later

-- a row that a kept one covers
abbrev pub CoveredIn : Subsorts → Kept → Row → Type 0
CoveredIn o k w = Covered o (rows k) w

-- What was kept is covered later, and no earlier level gets a row.
pub record Later (o : Subsorts) (k l : Kept) : Type 0 where
  pub covered : (r : Row) → Contains (rows k) r → CoveredIn o l r
  pub old : (r : Row) → Contains l.old r → Contains k.old r

pub later_itself : (o : Subsorts) (k : Kept) → Later o k k
later_itself o k = record { covered = λ r c. (r, c, covers_itself o r); old = λ r c. c }

-- what was covered is covered later
pub covered_later : (o : Subsorts) (k l : Kept) → Later o k l → (w : Row) → CoveredIn o k w → CoveredIn o l w
covered_later o k l later w c =
    let over = later.covered c.0 c.1 in (over.0, over.1, covers_through o over.0 c.0 w over.2 c.2)

pub later_after : (o : Subsorts) (j k l : Kept) → Later o j k → Later o k l → Later o j l
later_after o j k l p q = record {
  covered = λ r c. covered_later o k l q r (p.covered r c);
  old = λ r c. p.old r (q.old r c);
}

-- what each one covers is covered in the end
pub folded_done : {X : Type 0} (o : Subsorts) (f : X → Kept → Result Kept Stop) (T : X → Row → Type 0) →
    ((x : X) (k l : Kept) → f x k ≡ Ok l → Later o k l × ((w : Row) → T x w → CoveredIn o l w)) →
    (xs : List X) (k l : Kept) → folded f xs k ≡ Ok l → Later o k l × ((x : X) → Contains xs x → (w : Row) → T x w → CoveredIn o l w)
folded_done o f T done [] k l e = (subst (Later o k) (ok_same k l e) (later_itself o k), λ x c. absurd (none_there x c))
folded_done o f T done (x ∷ xs) k l e =
    let split = went_on (f x k) (folded f xs) l e in
    let one = done x k split.0 split.1 in
    let rest = folded_done o f T done xs split.0 l split.2 in (
      later_after o k split.0 l one.0 rest.0,
      λ y c w t. elim (member_cases x y xs c) [
        | inl s ↦ covered_later o split.0 l rest.0 w (one.1 w (subst (λ z. T z w) (sym s) t))
        | inr d ↦ rest.1 y d w t
      ],
    )

-- ## Placing a row

few_ok : (most : ℕ) (k l : Kept) → few most k ≡ Ok l → (nat_lt most (length (rows k)) ≡ false) × (k ≡ l)
few_ok most k l e =
    elim (nat_lt most (length (rows k))) as (λ b. cond b (Err (too_many (rows k))) (Ok k) ≡ Ok l → (b ≡ false) × (k ≡ l))
    [ true ↦ λ d. cc | false ↦ λ d. (refl, ok_same k l d) ] e

-- a row that is covered isn't kept, and any other is
pub placed_cases : (most : ℕ) (o : Subsorts) (w : Row) (k l : Kept) → placed most o w k ≡ Ok l →
    ((is_covered o (rows k) w ≡ true) × (k ≡ l)) ⊎ ((is_covered o (rows k) w ≡ false) × (with_row o w k ≡ l))
placed_cases most o w k l e =
    elim (is_covered o (rows k) w) as (λ b. cond b (Ok k) (few most (with_row o w k)) ≡ Ok l → ((b ≡ true) × (k ≡ l)) ⊎ ((b ≡ false) × (with_row o w k ≡ l)))
    [ true ↦ λ d. inl (refl, ok_same k l d) | false ↦ λ d. inr (refl, (few_ok most (with_row o w k) l d).1) ] e

-- the kept rows where one more is kept
pub rows_placed : (o : Subsorts) (w : Row) (k : Kept) → rows (with_row o w k) ≡ uncovered o w (rows k) ++ w ∷ []
rows_placed o w k =
    sym (append_assoc (uncovered o w k.old) (uncovered o w k.new) (w ∷ []))
    ∙ ap (λ rs. rs ++ w ∷ []) (sym (filter-append (λ r. not (covers_row o w r)) k.old k.new))

-- the row itself is kept
pub kept_row : (o : Subsorts) (w : Row) (k : Kept) → Contains (rows (with_row o w k)) w
kept_row o w k = Contains-append_right (uncovered o w k.old) (uncovered o w k.new ++ w ∷ []) w (Contains-push (uncovered o w k.new) w)

-- what is kept was kept before, uncovered by the row, or is the row
pub of_kept : (o : Subsorts) (w : Row) (k : Kept) (r : Row) → Contains (rows (with_row o w k)) r →
    (Contains (rows k) r × (covers_row o w r ≡ false)) ⊎ (w ≡ r)
of_kept o w k r c =
    elim (Contains-append_cases (uncovered o w k.old) (uncovered o w k.new ++ w ∷ []) r c) [
      | inl a ↦ let f = of_filtered (λ x. not (covers_row o w x)) k.old r a in inl (Contains-append_left k.old k.new r f.0, not_is (covers_row o w r) f.1)
      | inr b ↦ elim (Contains-push_cases (uncovered o w k.new) w r b) [
        | inl a ↦ let f = of_filtered (λ x. not (covers_row o w x)) k.new r a in inl (Contains-append_right k.old k.new r f.0, not_is (covers_row o w r) f.1)
        | inr e ↦ inr e
      ]
    ]
  where
    not_is : (b : Bool) → not b ≡ true → b ≡ false
    not_is true e = cc
    not_is false e = refl

-- what was kept still is, unless the row covers it
pub still_kept : (o : Subsorts) (w : Row) (k : Kept) (r : Row) → Contains (rows k) r → covers_row o w r ≡ false → Contains (rows (with_row o w k)) r
still_kept o w k r c e =
    let passes : not (covers_row o w r) ≡ true = ap not e in
    elim (Contains-append_cases k.old k.new r c) [
      | inl a ↦ Contains-append_left (uncovered o w k.old) (uncovered o w k.new ++ w ∷ []) r (filtered_member (λ x. not (covers_row o w x)) k.old r a passes)
      | inr b ↦
          Contains-append_right (uncovered o w k.old) (uncovered o w k.new ++ w ∷ []) r
          (Contains-append_left (uncovered o w k.new) (w ∷ []) r (filtered_member (λ x. not (covers_row o w x)) k.new r b passes))
    ]

kept_later : (o : Subsorts) (w : Row) (k : Kept) → Later o k (with_row o w k)
kept_later o w k = record {
  covered = λ r c.
      elim (covers_row o w r) as (λ b. covers_row o w r ≡ b → CoveredIn o (with_row o w k) r) [
        | true ↦ λ e. (w, kept_row o w k, covers_sound o w r e)
        | false ↦ λ e. (r, still_kept o w k r c e, covers_itself o r)
      ] refl;
  old = λ r c. (of_filtered (λ x. not (covers_row o w x)) k.old r c).0;
}

pub placed_done : (most : ℕ) (o : Subsorts) (w : Row) (k l : Kept) → placed most o w k ≡ Ok l → Later o k l × CoveredIn o l w
placed_done most o w k l e =
    elim (placed_cases most o w k l e) [
      | inl c ↦
          let any = any_of (λ r. covers_row o r w) (rows k) c.0 in
          subst (λ j. Later o k j × CoveredIn o j w) c.1 (later_itself o k, (any.0, any.1, covers_sound o any.0 w any.2))
      | inr c ↦ subst (λ j. Later o k j × CoveredIn o j w) c.1 (kept_later o w k, (w, kept_row o w k, covers_itself o w))
    ]

-- ## What comes of a row

-- what comes of a row by one unifier, at one equation, at one part, and at all
abbrev pub UnifierResult : Theory → ℕ → Row → List (Variable × Term) → Row → Type 0
UnifierResult th m row θ w = (are_normal th (values_under m row θ) ≡ true) × (w ≡ result_of th m row θ)

-- the unifiers that differ, of an application of a row with an equation's left side
abbrev pub unifiers_of : Theory → Row → Term → Equation → List (List (Variable × Term))
unifiers_of th row u e =
    let base = past (flat_map variables row) in
    distinct (all_unifiers th.sig.sorts ((u, renamed base e.left) ∷ []) (base + past (variables e.left)))

abbrev pub EquationResult : Theory → ℕ → Row → Term → Equation → Row → Type 0
EquationResult th m row u e w = (θ : List (Variable × Term)) × Contains (unifiers_of th row u e) θ × UnifierResult th m row θ w

abbrev pub PartResult : Theory → ℕ → Row → Term → Row → Type 0
PartResult th m row u w = (e : Equation) × Contains th.equations e × EquationResult th m row u e w

abbrev pub RowResult : Theory → ℕ → Row → Row → Type 0
RowResult th m row w = (u : Term) × Contains (own_parts m row) u × PartResult th m row u w

as_given : (r : Result (List (List (Variable × Term))) UnifyFail) (θs : List (List (Variable × Term))) → Gives (as_stop r) θs → r ≡ Ok θs
as_given (Ok ss) θs e = cc
as_given (Err unify_fail.TooMany) θs e = cc
as_given (Err (unify_fail.TooLarge n)) θs e = cc
as_given (Err unify_fail.NoMemory) θs e = cc

-- where there are few enough, they are those that the search goes through
unifiers_are : (th : Theory) (row : Row) (u : Term) (e : Equation) (θs : List (List (Variable × Term))) → unifiers_at th row u e ≡ Ok θs → θs ≡ unifiers_of th row u e
unifiers_are th row u e θs is =
    let base = past (flat_map variables row) in
    let all = all_unifiers th.sig.sorts ((u, renamed base e.left) ∷ []) (base + past (variables e.left)) in
    judged_distinct all θs (as_given (judged all) θs is)

sized_ok : {S : Type 0} (x : Option ℕ) (r : Result S Stop) (l : S) → sized x r ≡ Ok l → r ≡ Ok l
sized_ok (Some n) r l e = cc
sized_ok None r l e = e

-- a unifier whose values aren't normal leaves all as it is, and any other places its row
unifier_cases : (most : ℕ) (th : Theory) (m : ℕ) (row : Row) (θ : List (Variable × Term)) (k l : Kept) → by_unifier most th m row θ k ≡ Ok l →
    ((are_normal th (values_under m row θ) ≡ false) × (k ≡ l)) ⊎
    ((are_normal th (values_under m row θ) ≡ true) × (placed most th.sig.sorts (result_of th m row θ) k ≡ Ok l))
unifier_cases most th m row θ k l e =
    elim (are_normal th (values_under m row θ)) as (λ b. cond b (placed most th.sig.sorts (result_of th m row θ) k) (Ok k) ≡ Ok l →
    ((b ≡ false) × (k ≡ l)) ⊎ ((b ≡ true) × (placed most th.sig.sorts (result_of th m row θ) k ≡ Ok l))) [
      | true ↦ λ d. inr (refl, d)
      | false ↦ λ d. inl (refl, ok_same k l d)
    ] (sized_ok (first_large (map (applied θ) row)) (cond (are_normal th (values_under m row θ)) (placed most th.sig.sorts (result_of th m row θ) k) (Ok k)) l e)

module _ (most : ℕ) (th : Theory) (m : ℕ) where
  abbrev o : Subsorts
  o = th.sig.sorts

  unifier_done : (row : Row) (θ : List (Variable × Term)) (k l : Kept) → by_unifier most th m row θ k ≡ Ok l → Later o k l × ((w : Row) → UnifierResult th m row θ w → CoveredIn o l w)
  unifier_done row θ k l e =
      elim (unifier_cases most th m row θ k l e) [
        | inl c ↦ (
          subst (Later o k) c.1 (later_itself o k),
          λ w r. let is : are_normal th (values_under m row θ) ≡ true = r.0 in let isnt = c.0 in absurd (let no : ⊥ = cc in no),
        )
        | inr c ↦ let done = placed_done most o (result_of th m row θ) k l c.1 in (done.0, λ w r. subst (CoveredIn o l) (sym r.1) done.1)
      ]

  equation_done : (row : Row) (u : Term) (e : Equation) (k l : Kept) → by_equation most th m row u e k ≡ Ok l → Later o k l × ((w : Row) → EquationResult th m row u e w → CoveredIn o l w)
  equation_done row u e k l is =
      let split = went_on (unifiers_at th row u e) (λ θs. folded (by_unifier most th m row) θs k) l is in
      let done = folded_done o (by_unifier most th m row) (UnifierResult th m row) (unifier_done row) split.0 k l split.2 in (
        done.0,
        λ w r. done.1 r.0 (subst (λ θs. Contains θs r.0) (sym (unifiers_are th row u e split.0 split.1)) r.1) w r.2,
      )

  part_done : (row : Row) (u : Term) (k l : Kept) → by_part most th m row u k ≡ Ok l → Later o k l × ((w : Row) → PartResult th m row u w → CoveredIn o l w)
  part_done row u k l is =
      let done = folded_done o (by_equation most th m row u) (EquationResult th m row u) (equation_done row u) th.equations k l is in
      (done.0, λ w r. done.1 r.0 r.1 w r.2)

  row_done : (row : Row) (k l : Kept) → by_row most th m row k ≡ Ok l → Later o k l × ((w : Row) → RowResult th m row w → CoveredIn o l w)
  row_done row k l is =
      let done = folded_done o (by_part most th m row) (PartResult th m row) (part_done row) (own_parts m row) k l is in
      (done.0, λ w r. done.1 r.0 r.1 w r.2)

  -- what comes of the level's rows is covered, and so is what was kept
  pub level_done : (rs : List Row) (k l : Kept) → level most th m rs k ≡ Ok l → Later o k l × ((r : Row) → Contains rs r → (w : Row) → RowResult th m r w → CoveredIn o l w)
  level_done rs k l is = folded_done o (by_row most th m) (RowResult th m) row_done rs k l is

  -- what placing a row keeps is kept by the level
  module _ (P : Kept → Type 0) (Q : Row → Type 0) (keeps : (w : Row) (k l : Kept) → Q w → P k → placed most th.sig.sorts w k ≡ Ok l → P l) where
    unifier_keeps : (row : Row) (θ : List (Variable × Term)) → ((w : Row) → UnifierResult th m row θ w → Q w) → (k l : Kept) → P k → by_unifier most th m row θ k ≡ Ok l → P l
    unifier_keeps row θ all k l p e =
        elim (unifier_cases most th m row θ k l e) [
          | inl c ↦ subst P c.1 p
          | inr c ↦ keeps (result_of th m row θ) k l (all (result_of th m row θ) (c.0, refl)) p c.1
        ]

    equation_keeps : (row : Row) (u : Term) (e : Equation) → ((w : Row) → EquationResult th m row u e w → Q w) → (k l : Kept) → P k → by_equation most th m row u e k ≡ Ok l → P l
    equation_keeps row u e all k l p is =
        let split = went_on (unifiers_at th row u e) (λ θs. folded (by_unifier most th m row) θs k) l is in
        folded_keeps (by_unifier most th m row) P split.0
        (λ θ c. unifier_keeps row θ (λ w r. all w (θ, subst (λ θs. Contains θs θ) (unifiers_are th row u e split.0 split.1) c, r))) k l p split.2

    part_keeps : (row : Row) (u : Term) → ((w : Row) → PartResult th m row u w → Q w) → (k l : Kept) → P k → by_part most th m row u k ≡ Ok l → P l
    part_keeps row u all k l p is =
        folded_keeps (by_equation most th m row u) P th.equations (λ e c. equation_keeps row u e (λ w r. all w (e, c, r))) k l p is

    row_keeps : (row : Row) → ((w : Row) → RowResult th m row w → Q w) → (k l : Kept) → P k → by_row most th m row k ≡ Ok l → P l
    row_keeps row all k l p is =
        folded_keeps (by_part most th m row) P (own_parts m row) (λ u c. part_keeps row u (λ w r. all w (u, c, r))) k l p is

    pub level_keeps : (rs : List Row) → ((r : Row) → Contains rs r → (w : Row) → RowResult th m r w → Q w) → (k l : Kept) → P k → level most th m rs k ≡ Ok l → P l
    level_keeps rs all k l p is = folded_keeps (by_row most th m) P rs (λ r c. row_keeps r (all r c)) k l p is
