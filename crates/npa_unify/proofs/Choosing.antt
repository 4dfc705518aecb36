-- Answers that are the same as earlier ones may be left out.
use Rattle.std.proofs.Common.{◌≡◌, ℕ, Bool, true, false, cond, List, [], ◌∷◌, ◌++◌, Some, None, refl, sym, ap, subst, inl, inr}
use Rattle.std.specs.Prelude.{Contains, ◌⊎◌, flat_map, unwrap_or}
use Rattle.std.specs.List.{list_all, list_any}
use Rattle.std.proofs.lemmas.Bool.{and_parts, or_cases}
use Rattle.std.proofs.lemmas.List.Elements.{Contains-append_left, Contains-append_right, Contains-append_cases}
use Rattle.npa_sorts.specs.Subsorts.{Subsorts}
use Rattle.npa_term.specs.declared.term.Var.{Var as Variable}
use Rattle.npa_term.specs.declared.term.Term.{Term, Var, App}
use Rattle.npa_term.specs.Bound.{same_var, value_of, applied}
use Rattle.npa_term.specs.Computed.{is_same}
use Rattle.npa_term.specs.Parts.{image}
use Rattle.npa_term.specs.Same.{Same, itself, through, swapped, below, SameAll, nothing, first}
use Rattle.npa_term.specs.Variables.{variables}
use Rattle.npa_term.proofs.Equality.{is_same_sound, var_equal}
use Rattle.npa_term.proofs.Rows.{variables_at}
use Rattle.npa_term.proofs.SameLaws.{same_sym, same_applied}
use Rattle.npa_unify.specs.Answers.{same_subst, distinct_after, distinct}
use Rattle.npa_unify.specs.Unifiers.{Factor}
use Rattle.npa_unify.proofs.Members.{here, later, nowhere, member_cases, only_one}

-- equal terms have the same variables

swapped_variables : (t u : Term) (w : Variable) → Contains (flat_map variables (t ∷ u ∷ [])) w → Contains (flat_map variables (u ∷ t ∷ [])) w
swapped_variables t u w c =
    elim (Contains-append_cases (variables t) (variables u ++ []) w c) [
      | inl d ↦ Contains-append_right (variables u) (variables t ++ []) w (Contains-append_left (variables t) [] w d)
      | inr d ↦ elim (Contains-append_cases (variables u) [] w d) [
        | inl e ↦ Contains-append_left (variables u) (variables t ++ []) w e
        | inr e ↦ absurd (nowhere w e)
      ]
    ]

mutual
  pub same_variables : {t u : Term} → Same t u → (w : Variable) → Contains (variables t) w → Contains (variables u) w
  same_variables (itself t) w c = c
  same_variables (through s t u p q) w c = same_variables q w (same_variables p w c)
  same_variables (swapped op t u com_) w c =
      subst (λ l. Contains l w) (sym (variables_at (App op (u ∷ t ∷ [])) op (u ∷ t ∷ []) refl))
      (swapped_variables t u w (subst (λ l. Contains l w) (variables_at (App op (t ∷ u ∷ [])) op (t ∷ u ∷ []) refl) c))
  same_variables (below op ts us p) w c =
      subst (λ l. Contains l w) (sym (variables_at (App op us) op us refl))
      (same_all_variables p w (subst (λ l. Contains l w) (variables_at (App op ts) op ts refl) c))

  same_all_variables : {ts us : List Term} → SameAll ts us → (w : Variable) → Contains (flat_map variables ts) w → Contains (flat_map variables us) w
  same_all_variables nothing w c = c
  same_all_variables (first t u ts us p q) w c =
      elim (Contains-append_cases (variables t) (flat_map variables ts) w c) [
        | inl d ↦ Contains-append_left (variables u) (flat_map variables us) w (same_variables p w d)
        | inr d ↦ Contains-append_right (variables u) (flat_map variables us) w (same_all_variables q w d)
      ]

-- the test of two substitutions

all_has : {X : Type 0} (p : X → Bool) (xs : List X) (x : X) → list_all p xs ≡ true → Contains xs x → p x ≡ true
all_has p [] x e c = absurd (nowhere x c)
all_has p (y ∷ ys) x e c =
    let both = and_parts (p y) (list_all p ys) e in
    elim (member_cases y x ys c) [ inl is ↦ subst (λ z. p z ≡ true) is both.0 | inr d ↦ all_has p ys x both.1 d ]

any_is : {X : Type 0} (p : X → Bool) (xs : List X) → list_any p xs ≡ true → (x : X) × Contains xs x × (p x ≡ true)
any_is p [] e = cc
any_is p (y ∷ ys) e =
    elim (or_cases (p y) (list_any p ys) e) [
      | inl is ↦ (y, here y ys, is)
      | inr rest ↦ let found = any_is p ys rest in (found.0, later y found.0 ys found.1, found.2)
    ]

value_member : (s : List (Variable × Term)) (v : Variable) (t : Term) → value_of s v ≡ Some t → (b : Variable × Term) × Contains s b × (b.0 ≡ v)
value_member [] v t e = cc
value_member (b ∷ s) v t e =
    elim (same_var b.0 v) as (λ c. same_var b.0 v ≡ c → cond c (Some b.1) (value_of s v) ≡ Some t → (d : Variable × Term) × Contains (b ∷ s) d × (d.0 ≡ v)) [
      | true ↦ λ same f. (b, here b s, var_equal b.0 v same)
      | false ↦ λ same f. let rest = value_member s v t f in (rest.0, later b rest.0 s rest.1, rest.2)
    ] refl e

same_at : (s u : List (Variable × Term)) (b : Variable × Term) (v : Variable) → same_subst s u ≡ true → Contains (s ++ u) b → b.0 ≡ v → Same (image s v) (image u v)
same_at s u b v e c is =
    subst (λ x. Same (image s x) (image u x)) is
    (is_same_sound (image s b.0) (image u b.0) (all_has (λ (d : Variable × Term). is_same (image s d.0) (image u d.0)) (s ++ u) b e c))

pub same_values : (s u : List (Variable × Term)) → same_subst s u ≡ true → (v : Variable) → Same (image s v) (image u v)
same_values s u e v =
    elim (value_of s v) as (λ x. value_of s v ≡ x → Same (image s v) (image u v)) [
      | Some t ↦ λ f. let b = value_member s v t f in same_at s u b.0 v e (Contains-append_left s u b.0 b.1) b.2
      | None ↦ λ f. elim (value_of u v) as (λ x. value_of u v ≡ x → Same (image s v) (image u v)) [
        | Some t ↦ λ g. let b = value_member u v t g in same_at s u b.0 v e (Contains-append_right s u b.0 b.1) b.2
        | None ↦ λ g.
            let left : image s v ≡ Var v = ap (λ x. unwrap_or x (Var v)) f in
            let right : image u v ≡ Var v = ap (λ x. unwrap_or x (Var v)) g in
            subst (λ x. Same x (image u v)) (sym left) (subst (Same (Var v)) (sym right) (itself (Var v)))
      ] refl
    ] refl

-- a factor of one is a factor of the other
factor_along : (o : Subsorts) (ps : List (Term × Term)) (next : ℕ) (u s r : List (Variable × Term)) → same_subst s r ≡ true → Factor o ps next u s → Factor o ps next u r
factor_along o ps next u s r same factor =
    let equal : (v : Variable) → Same (image s v) (image r v) = same_values s r same in
    record {
      then = factor.then;
      old = factor.old;
      equal = λ v low. through (image u v) (applied factor.then (image s v)) (applied factor.then (image r v)) (factor.equal v low) (same_applied factor.then (equal v));
      sorts = λ v w c d. factor.sorts v w c (same_variables (same_sym (equal v)) w d);
      taken = λ v w c d. factor.taken v w c (same_variables (same_sym (equal v)) w d);
    }

-- what is kept

kept_stays : (ss kept : List (List (Variable × Term))) (r : List (Variable × Term)) → Contains kept r → Contains (distinct_after kept ss) r
kept_stays [] kept r c = c
kept_stays (s ∷ ss) kept r c =
    elim (list_any (same_subst s) kept) as (λ b. Contains (cond b (distinct_after kept ss) (distinct_after (kept ++ s ∷ []) ss)) r) [
      | true ↦ kept_stays ss kept r c
      | false ↦ kept_stays ss (kept ++ s ∷ []) r (Contains-append_left kept (s ∷ []) r c)
    ]

distinct_has : (o : Subsorts) (ps : List (Term × Term)) (next : ℕ) (u : List (Variable × Term)) (ss kept : List (List (Variable × Term))) (s : List (Variable × Term)) →
    Contains ss s → Factor o ps next u s → (r : List (Variable × Term)) × Contains (distinct_after kept ss) r × Factor o ps next u r
distinct_has o ps next u [] kept s c factor = absurd (nowhere s c)
distinct_has o ps next u (x ∷ ss) kept s c factor =
    elim (list_any (same_subst x) kept) as (λ b. list_any (same_subst x) kept ≡ b →
    (r : List (Variable × Term)) × Contains (cond b (distinct_after kept ss) (distinct_after (kept ++ x ∷ []) ss)) r × Factor o ps next u r) [
      | true ↦ λ e. elim (member_cases x s ss c) [
        | inl is ↦
            let old = any_is (same_subst x) kept e in
            (old.0, kept_stays ss kept old.0 old.1, factor_along o ps next u x old.0 old.2 (subst (Factor o ps next u) (sym is) factor))
        | inr d ↦ distinct_has o ps next u ss kept s d factor
      ]
      | false ↦ λ e. elim (member_cases x s ss c) [
        | inl is ↦ (x, kept_stays ss (kept ++ x ∷ []) x (Contains-append_right kept (x ∷ []) x (here x [])), subst (Factor o ps next u) (sym is) factor)
        | inr d ↦ distinct_has o ps next u ss (kept ++ x ∷ []) s d factor
      ]
    ] refl

pub distinct_complete : (o : Subsorts) (ps : List (Term × Term)) (next : ℕ) (u : List (Variable × Term)) (ss : List (List (Variable × Term))) (s : List (Variable × Term)) →
    Contains ss s → Factor o ps next u s → (r : List (Variable × Term)) × Contains (distinct ss) r × Factor o ps next u r
distinct_complete o ps next u ss s c factor = distinct_has o ps next u ss [] s c factor

from_after : (ss kept : List (List (Variable × Term))) (s : List (Variable × Term)) → Contains (distinct_after kept ss) s → Contains kept s ⊎ Contains ss s
from_after [] kept s c = inl c
from_after (x ∷ ss) kept s c =
    elim (list_any (same_subst x) kept) as (λ b. Contains (cond b (distinct_after kept ss) (distinct_after (kept ++ x ∷ []) ss)) s → Contains kept s ⊎ Contains (x ∷ ss) s) [
      | true ↦ λ d. elim (from_after ss kept s d) [ inl e ↦ inl e | inr e ↦ inr (later x s ss e) ]
      | false ↦ λ d. elim (from_after ss (kept ++ x ∷ []) s d) [
        | inl e ↦ elim (Contains-append_cases kept (x ∷ []) s e) [
          | inl f ↦ inl f
          | inr f ↦ inr (subst (Contains (x ∷ ss)) (only_one x s f) (here x ss))
        ]
        | inr e ↦ inr (later x s ss e)
      ]
    ] c

pub from_distinct : (ss : List (List (Variable × Term))) (s : List (Variable × Term)) → Contains (distinct ss) s → Contains ss s
from_distinct ss s c = elim (from_after ss [] s c) [ inl d ↦ absurd (nowhere s d) | inr d ↦ d ]
