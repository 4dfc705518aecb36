-- Matching a term, lists of terms and pairs is exact.
use Rattle.std.proofs.Common.{◌≡◌, ℕ, zero, suc, Bool, true, false, cond, not, ◌&&◌, nat_eq, Some, None, List, ◌∷◌, ◌++◌, map, refl, sym, ◌∙◌, ap, subst, inl, inr, arith, []}
use Rattle.std.specs.Prelude.{◌⊎◌, Contains, flat_map, unwrap_or}
use Rattle.std.proofs.lemmas.Bool.{eqb-true, eq-eqb, and_parts, not-true, not-false, true≢false}
use Rattle.std.proofs.lemmas.List.{append-nil}
use Rattle.std.proofs.lemmas.List.Elements.{Contains-append_left, Contains-append_right, Contains-append_cases}
use Rattle.npa_sorts.specs.Subsorts.{Subsorts, IsAtOrBelow, at_or_below}
use Rattle.npa_sorts.proofs.Climbs.{decides}
use Rattle.npa_term.specs.declared.term.Op.{Op}
use Rattle.npa_term.specs.declared.term.Var.{Var as Variable}
use Rattle.npa_term.specs.declared.term.Term.{Term, Var, Name, App}
use Rattle.npa_term.specs.Bound.{same_var, value_of, applied, BindsOnce}
use Rattle.npa_term.specs.Computed.{is_same, same_op, turned}
use Rattle.npa_term.specs.Parts.{image, least_sort, IsPart, whole, inside}
use Rattle.npa_term.specs.Same.{Same, itself, through, SameAll, nothing, first, Crossed, crossed, SameArguments}
use Rattle.npa_term.specs.Variables.{variables}
use Rattle.npa_term.proofs.Bindings.{value_of-append, binds_once-more}
use Rattle.npa_term.proofs.Equality.{is_same_sound, is_same_complete, op_equal, op_itself, var_equal, var_itself, turned_same}
use Rattle.npa_term.proofs.Induction.{Each as EachTerm, by_terms, term_cases}
use Rattle.npa_term.proofs.Parts.{same_sort}
use Rattle.npa_term.proofs.Rows.{applied_app, variables_at}
use Rattle.npa_term.proofs.SameCases.{same_app, same_only_name, app_injective, same_all_trans, same_from_arguments}
use Rattle.npa_term.proofs.SameLaws.{same_sym, same_all_sym}
use Rattle.npa_match.specs.Branches.{after_term, after_pairs, at_variable, forks}
use Rattle.npa_match.specs.Matching.{first_variables, IsSecondPart}
use Rattle.npa_match.specs.Search.{after_all}
use Rattle.npa_match.proofs.Exactness.{Follows, IsEnd, IsExact, Some_of, Each, AllApart, exact_nothing, exact_never, exact_then, exact_either, exact_as}
use Rattle.npa_match.proofs.Lists.{after_arguments, after_apps}

-- a binding that is allowed
abbrev pub Allowed : Subsorts → (Term → Type 0) → Variable → Term → Type 0
Allowed o P v t = P t × IsAtOrBelow o (least_sort t) v.sort

-- a variable

abbrev OneVariable : Variable → Variable → Type 0
OneVariable v w = Contains (v ∷ []) w

one_is : (v w : Variable) → OneVariable v w → v ≡ w
one_is v w (zero, small, is) = is
one_is v w (suc k, small, is) = absurd (let no : ⊥ = omega (arith, small) in no)

one : (v : Variable) → OneVariable v v
one v = (zero, omega arith, refl)

abbrev with_binding : List (Variable × Term) → Variable → Term → List (Variable × Term)
with_binding s v u = s ++ (v, u) ∷ []

bound_kept : (s r : List (Variable × Term)) (v : Variable) (t : Term) → value_of s v ≡ Some t → value_of (s ++ r) v ≡ Some t
bound_kept [] r v t e = cc
bound_kept (b ∷ s) r v t e =
    elim (same_var b.0 v) as (λ c. cond c (Some b.1) (value_of s v) ≡ Some t → cond c (Some b.1) (value_of (s ++ r) v) ≡ Some t)
    [ true ↦ λ d. d | false ↦ λ d. bound_kept s r v t d ] e

new_bound : (s : List (Variable × Term)) (v : Variable) (u : Term) → value_of s v ≡ None → value_of (with_binding s v u) v ≡ Some u
new_bound s v u free = value_of-append s ((v, u) ∷ []) v free ∙ ap (λ c. cond c (Some u) None) (var_itself v)

some_injective : (t u : Term) → Some t ≡ Some u → t ≡ u
some_injective t u e = ap (λ o. unwrap_or o t) e

new_cases : (s : List (Variable × Term)) (v : Variable) (u : Term) (w : Variable) (t : Term) → value_of (with_binding s v u) w ≡ Some t → (value_of s w ≡ Some t) ⊎ ((v ≡ w) × (u ≡ t))
new_cases s v u w t e =
    elim (value_of s w) as (λ o. value_of s w ≡ o → (o ≡ Some t) ⊎ ((v ≡ w) × (u ≡ t))) [
      | Some x ↦ λ d. inl (sym (bound_kept s ((v, u) ∷ []) w x d) ∙ e)
      | None ↦ λ d. let last : cond (same_var v w) (Some u) None ≡ Some t = sym (value_of-append s ((v, u) ∷ []) w d) ∙ e in
          elim (same_var v w) as (λ c. same_var v w ≡ c → cond c (Some u) None ≡ Some t → (None ≡ Some t) ⊎ ((v ≡ w) × (u ≡ t)))
          [ true ↦ λ c f. inr (var_equal v w c, some_injective u t f) | false ↦ λ c f. inl f ] refl last
    ] refl

abbrev AtVariable : Term → List (Variable × Term) → Variable → Type 0
AtVariable t u v = Same (image u v) t

compared_sound : (o : Subsorts) (s : List (Variable × Term)) (v : Variable) (u t : Term) → BindsOnce s → value_of s v ≡ Some t →
    Each (IsEnd (OneVariable v) (Allowed o (λ w. IsPart w u)) (λ r. AtVariable u r v) s) (at_variable o s v u (Some t))
compared_sound o s v u t once e =
    elim (is_same t u) as (λ b. is_same t u ≡ b → Each (IsEnd (OneVariable v) (Allowed o (λ w. IsPart w u)) (λ r. AtVariable u r v) s) (cond b (s ∷ []) [])) [
      | true ↦ λ d. (
        record {
          once = once;
          keeps = λ w x f. f;
          binds = λ w i. (t, subst (λ x. value_of s x ≡ Some t) (one_is v w i) e);
          new = λ w x f. inl f;
          solves = λ r f. through (image r v) t u (f v t e) (is_same_sound t u d);
        },
        tt,
      )
      | false ↦ λ d. tt
    ] refl

bound_sound : (o : Subsorts) (s : List (Variable × Term)) (v : Variable) (u : Term) → BindsOnce s → value_of s v ≡ None →
    Each (IsEnd (OneVariable v) (Allowed o (λ w. IsPart w u)) (λ r. AtVariable u r v) s) (at_variable o s v u None)
bound_sound o s v u once e =
    elim (at_or_below o (least_sort u) v.sort) as
    (λ b. at_or_below o (least_sort u) v.sort ≡ b → Each (IsEnd (OneVariable v) (Allowed o (λ w. IsPart w u)) (λ r. AtVariable u r v) s) (cond b (with_binding s v u ∷ []) [])) [
      | true ↦ λ d. (
        record {
          once = binds_once-more s v u once e;
          keeps = λ w x f. bound_kept s ((v, u) ∷ []) w x f;
          binds = λ w i. (u, subst (λ x. value_of (with_binding s v u) x ≡ Some u) (one_is v w i) (new_bound s v u e));
          new = λ w x f. elim (new_cases s v u w x f) [
            | inl old ↦ inl old
            | inr is ↦ inr (
              subst (OneVariable v) is.0 (one v),
              subst (λ y. Allowed o (λ z. IsPart z u) y x) is.0
                  (subst (Allowed o (λ z. IsPart z u) v) is.1 (whole, (decides o (least_sort u) v.sort).0 d)),
            )
          ];
          solves = λ r f. f v u (new_bound s v u e);
        },
        tt,
      )
      | false ↦ λ d. tt
    ] refl

compared_complete : (o : Subsorts) (s r : List (Variable × Term)) (v : Variable) (u t : Term) → value_of s v ≡ Some t → Follows r s → AtVariable u r v →
    Some_of (Follows r) (at_variable o s v u (Some t))
compared_complete o s r v u t e follows q =
    let yes : is_same t u ≡ true = is_same_complete t u (through t (image r v) u (same_sym (follows v t e)) q) in
    subst (λ b. Some_of (Follows r) (cond b (s ∷ []) [])) (sym yes) (inl follows)

bound_complete : (o : Subsorts) (s r : List (Variable × Term)) (v : Variable) (u : Term) → Follows r s → AtVariable u r v →
    IsAtOrBelow o (least_sort (image r v)) v.sort → Some_of (Follows r) (at_variable o s v u None)
bound_complete o s r v u follows q sort =
    let yes : at_or_below o (least_sort u) v.sort ≡ true =
    (decides o (least_sort u) v.sort).1 (subst (λ n. IsAtOrBelow o n v.sort) (same_sort (image r v) u q) sort) in
    let next : Follows r (with_binding s v u) = λ w x f. elim (new_cases s v u w x f) [
      | inl old ↦ follows w x old
      | inr is ↦ subst (λ y. Same (image r y) x) is.0 (subst (Same (image r v)) is.1 q)
    ] in
    subst (λ b. Some_of (Follows r) (cond b (with_binding s v u ∷ []) [])) (sym yes) (inl next)

at_most_one : (b : Bool) (s : List (Variable × Term)) → AllApart (cond b (s ∷ []) [])
at_most_one true s = (tt, tt)
at_most_one false s = tt

exact_variable : (o : Subsorts) (v : Variable) (u : Term) →
    IsExact o (OneVariable v) (Allowed o (λ w. IsPart w u)) (λ r. AtVariable u r v) (after_term o (Var v) u)
exact_variable o v u = record {
  sound = λ s once. elim (value_of s v) as (λ x. value_of s v ≡ x → Each (IsEnd (OneVariable v) (Allowed o (λ w. IsPart w u)) (λ r. AtVariable u r v) s) (at_variable o s v u x))
      [ Some t ↦ λ e. compared_sound o s v u t once e | None ↦ λ e. bound_sound o s v u once e ] refl;
  complete = λ s r follows q sorts. elim (value_of s v) as (λ x. value_of s v ≡ x → Some_of (Follows r) (at_variable o s v u x))
      [ Some t ↦ λ e. compared_complete o s r v u t e follows q | None ↦ λ e. bound_complete o s r v u follows q (sorts v (one v)) ] refl;
  apart = λ s once. elim (value_of s v) as (λ x. AllApart (at_variable o s v u x))
      [ Some t ↦ at_most_one (is_same t u) s | None ↦ at_most_one (at_or_below o (least_sort u) v.sort) (with_binding s v u) ];
}

-- the problem of a term
abbrev pub TermExact : Subsorts → Term → Type 0
TermExact o t = (u : Term) → IsExact o (Contains (variables t)) (Allowed o (λ w. IsPart w u)) (λ r. Same (applied r t) u) (after_term o t u)

no_variable : (v : Variable) → Contains [] v → ⊥
no_variable v c = omega (arith, c.1)

-- a fresh name
exact_name : (o : Subsorts) (m : ℕ) → TermExact o (Name m)
exact_name o m =
    term_cases (λ u. IsExact o (Contains []) (Allowed o (λ w. IsPart w u)) (λ r. Same (Name m) u) (after_term o (Name m) u))
    (λ w. exact_never o (Contains []) (Allowed o (λ x. IsPart x (Var w))) (λ r. Same (Name m) (Var w))
    (λ r q. let e : Var w ≡ Name m = same_only_name q m refl in let no : ⊥ = cc in no))
    (λ n. elim (nat_eq m n) as (λ b. nat_eq m n ≡ b → IsExact o (Contains []) (Allowed o (λ x. IsPart x (Name n))) (λ r. Same (Name m) (Name n)) (λ s. cond b (s ∷ []) [])) [
      | true ↦ λ e. exact_nothing o (Contains []) (Allowed o (λ x. IsPart x (Name n))) (λ r. Same (Name m) (Name n)) no_variable
          (λ r. subst (λ k. Same (Name m) (Name k)) (eqb-true m n e) (itself (Name m)))
      | false ↦ λ e. exact_never o (Contains []) (Allowed o (λ x. IsPart x (Name n))) (λ r. Same (Name m) (Name n))
          (λ r q. let f : Name n ≡ Name m = same_only_name q m refl in true≢false (sym (eq-eqb m n (name_injective m n (sym f))) ∙ e))
    ] refl)
    (λ g us. exact_never o (Contains []) (Allowed o (λ x. IsPart x (App g us))) (λ r. Same (Name m) (App g us))
    (λ r q. let e : App g us ≡ Name m = same_only_name q m refl in let no : ⊥ = cc in no))
  where
    name_injective : (m n : ℕ) → Name m ≡ Name n → m ≡ n
    name_injective m n e = cc

-- lists of terms, place by place

abbrev PartOfSome : List Term → Term → Type 0
PartOfSome us w = (u : Term) × Contains us u × IsPart w u

abbrev pub AllExact : Subsorts → List Term → List Term → Type 0
AllExact o ts us = IsExact o (Contains (flat_map variables ts)) (Allowed o (PartOfSome us)) (λ r. SameAll (map (applied r) ts) us) (after_all o ts us)

contains_first : {X : Type 0} (x : X) (xs : List X) → Contains (x ∷ xs) x
contains_first x xs = (zero, omega arith, refl)

contains_later : {X : Type 0} (x y : X) (xs : List X) → Contains xs y → Contains (x ∷ xs) y
contains_later x y xs c = (suc c.0, omega (arith, c.1), c.2)

uneven_left : {u : Term} {us : List Term} → SameAll [] (u ∷ us) → ⊥
uneven_left p = elim p [ ]

uneven_right : {t : Term} {ts : List Term} → SameAll (t ∷ ts) [] → ⊥
uneven_right p = elim p [ ]

same_heads : {t u : Term} {ts us : List Term} → SameAll (t ∷ ts) (u ∷ us) → Same t u × SameAll ts us
same_heads (first t u ts us p q) = (p, q)

widened : (o : Subsorts) (P Q : Term → Type 0) → ((t : Term) → P t → Q t) → (v : Variable) (t : Term) → Allowed o P v t → Allowed o Q v t
widened o P Q f v t a = (f t a.0, a.1)

exact_all : (o : Subsorts) (ts : List Term) → EachTerm (TermExact o) ts → (us : List Term) → AllExact o ts us
exact_all o [] each [] = exact_nothing o (Contains []) (Allowed o (PartOfSome [])) (λ r. SameAll [] []) no_variable (λ r. nothing)
exact_all o [] each (u ∷ us) = exact_never o (Contains []) (Allowed o (PartOfSome (u ∷ us))) (λ r. SameAll [] (u ∷ us)) (λ r q. uneven_left q)
exact_all o (t ∷ ts) each [] = exact_never o (Contains (flat_map variables (t ∷ ts))) (Allowed o (PartOfSome [])) (λ r. SameAll (map (applied r) (t ∷ ts)) []) (λ r q. uneven_right q)
exact_all o (t ∷ ts) each (u ∷ us) =
    let V : Variable → Type 0 = Contains (variables t) in
    let W : Variable → Type 0 = Contains (flat_map variables ts) in
    let G : Variable → Term → Type 0 = Allowed o (PartOfSome (u ∷ us)) in
    let Q : List (Variable × Term) → Type 0 = λ r. Same (applied r t) u in
    let R : List (Variable × Term) → Type 0 = λ r. SameAll (map (applied r) ts) us in
    let one : IsExact o V G Q (after_term o t u) =
    exact_as o V V (Allowed o (λ w. IsPart w u)) G Q Q (after_term o t u) (after_term o t u) (λ v i. i) (λ v i. i)
    (widened o (λ w. IsPart w u) (PartOfSome (u ∷ us)) (λ w p. (u, contains_first u us, p))) (λ r q. q) (λ r q. q) (λ s. refl) (each.0 u) in
    let rest : IsExact o W G R (after_all o ts us) =
    exact_as o W W (Allowed o (PartOfSome us)) G R R (after_all o ts us) (after_all o ts us) (λ v i. i) (λ v i. i)
    (widened o (PartOfSome us) (PartOfSome (u ∷ us)) (λ w p. (p.0, contains_later u p.0 us p.1, p.2))) (λ r q. q) (λ r q. q) (λ s. refl) (exact_all o ts each.1 us) in
    exact_as o (λ v. V v ⊎ W v) (Contains (flat_map variables (t ∷ ts))) G G (λ r. Q r × R r) (λ r. SameAll (map (applied r) (t ∷ ts)) (u ∷ us))
    (after_all o (t ∷ ts) (u ∷ us)) (after_all o (t ∷ ts) (u ∷ us))
    (λ v i. elim i [ inl j ↦ Contains-append_left (variables t) (flat_map variables ts) v j | inr j ↦ Contains-append_right (variables t) (flat_map variables ts) v j ])
    (λ v i. Contains-append_cases (variables t) (flat_map variables ts) v i)
    (λ v w a. a)
    (λ r q. first (applied r t) u (map (applied r) ts) us q.0 q.1)
    (λ r q. same_heads q) (λ s. refl)
    (exact_then o V W G Q R (after_term o t u) (after_all o ts us) one rest)

-- the arguments of an operator

fork_facts : (f : Op) (us : List Term) → forks f us ≡ true → (f.com ≡ true) × (SameAll us (turned us) → ⊥)
fork_facts f [] e = absurd (true≢false (sym (and_parts f.com false e).1))
fork_facts f (t ∷ []) e = absurd (true≢false (sym (and_parts f.com false e).1))
fork_facts f (t ∷ u ∷ []) e =
    let both = and_parts f.com (not (is_same t u)) e in
    (both.0, λ p. true≢false (sym (is_same_complete t u (same_heads p).0) ∙ not-true (is_same t u) both.1))
fork_facts f (t ∷ u ∷ v ∷ ts) e = absurd (true≢false (sym (and_parts f.com false e).1))

crossed_turned : {op : Op} {ts us : List Term} → Crossed op ts us → SameAll ts (turned us)
crossed_turned (crossed a b c d swaps p q) = first a d (b ∷ []) (c ∷ []) p (first b c [] [] q nothing)

crossed_commutes : {op : Op} {ts us : List Term} → Crossed op ts us → op.com ≡ true
crossed_commutes (crossed a b c d swaps p q) = swaps

-- where it doesn't fork, what is equal crosswise is equal in order
crossed_unforked : {op : Op} {ts us : List Term} → Crossed op ts us → forks op us ≡ false → SameAll ts us
crossed_unforked {op} (crossed a b c d swaps p q) e =
    let no : not (is_same c d) ≡ false = sym (ap (λ x. x && not (is_same c d)) swaps) ∙ e in
    let equal : Same c d = is_same_sound c d (not-false (is_same c d) no) in
    first a c (b ∷ []) (d ∷ []) (through a d c p (same_sym equal)) (first b d [] [] (through b c d q equal) nothing)

turned_arguments : (f : Op) (ts us : List Term) → f.com ≡ true → SameAll ts (turned us) → Same (App f ts) (App f us)
turned_arguments f ts us c p = through (App f ts) (App f (turned us)) (App f us) (same_from_arguments f ts (turned us) (inl p)) (turned_same f us c)

contains_turned : (us : List Term) (u : Term) → Contains (turned us) u → Contains us u
contains_turned [] u c = c
contains_turned (t ∷ []) u c = c
contains_turned (t ∷ w ∷ []) u (zero, small, is) = (1, omega arith, is)
contains_turned (t ∷ w ∷ []) u (suc zero, small, is) = (0, omega arith, is)
contains_turned (t ∷ w ∷ []) u (suc (suc k), small, is) = absurd (let no : ⊥ = omega (arith, small) in no)
contains_turned (t ∷ w ∷ v ∷ ts) u c = c

exact_arguments : (o : Subsorts) (f : Op) (ts : List Term) → EachTerm (TermExact o) ts → (us : List Term) →
    IsExact o (Contains (flat_map variables ts)) (Allowed o (PartOfSome us)) (λ r. Same (App f (map (applied r) ts)) (App f us)) (after_arguments o f ts us)
exact_arguments o f ts each us =
    let V : Variable → Type 0 = Contains (flat_map variables ts) in
    let G : Variable → Term → Type 0 = Allowed o (PartOfSome us) in
    let Q : List (Variable × Term) → Type 0 = λ r. SameAll (map (applied r) ts) us in
    let R : List (Variable × Term) → Type 0 = λ r. SameAll (map (applied r) ts) (turned us) in
    let Goal : List (Variable × Term) → Type 0 = λ r. Same (App f (map (applied r) ts)) (App f us) in
    let straight : IsExact o V G Q (after_all o ts us) = exact_all o ts each us in
    let cross : IsExact o V G R (after_all o ts (turned us)) =
    exact_as o V V (Allowed o (PartOfSome (turned us))) G R R (after_all o ts (turned us)) (after_all o ts (turned us)) (λ v i. i) (λ v i. i)
    (widened o (PartOfSome (turned us)) (PartOfSome us) (λ w p. (p.0, contains_turned us p.0 p.1, p.2))) (λ r q. q) (λ r q. q) (λ s. refl) (exact_all o ts each (turned us)) in
    elim (forks f us) as (λ b. forks f us ≡ b → IsExact o V G Goal (λ s. after_all o ts us s ++ cond b (after_all o ts (turned us) s) [])) [
      | true ↦ λ e. let facts = fork_facts f us e in
          exact_as o V V G G (λ r. Q r ⊎ R r) Goal (λ s. after_all o ts us s ++ after_all o ts (turned us) s) (λ s. after_all o ts us s ++ after_all o ts (turned us) s)
          (λ v i. i) (λ v i. i) (λ v t g. g)
          (λ r q. elim q [ inl p ↦ same_from_arguments f (map (applied r) ts) us (inl p) | inr p ↦ turned_arguments f (map (applied r) ts) us facts.0 p ])
          (λ r q. from_same r q)
          (λ s. refl)
          (exact_either o V G Q R (after_all o ts us) (after_all o ts (turned us)) straight cross
          (λ r p q. facts.1 (same_all_trans (same_all_sym p) q)))
      | false ↦ λ e. exact_as o V V G G Q Goal (after_all o ts us) (λ s. after_all o ts us s ++ [])
          (λ v i. i) (λ v i. i) (λ v t g. g)
          (λ r p. same_from_arguments f (map (applied r) ts) us (inl p))
          (λ r q. unforked e r q)
          (λ s. sym (append-nil (after_all o ts us s)))
          straight
    ] refl
  where
    arguments_of : (r : List (Variable × Term)) → Same (App f (map (applied r) ts)) (App f us) → SameArguments f (map (applied r) ts) us
    arguments_of r q =
        let is = same_app q f (map (applied r) ts) refl in
        let e = app_injective f f us is.0 is.1 in
        subst (SameArguments f (map (applied r) ts)) (sym e.1) is.2

    from_same : (r : List (Variable × Term)) → Same (App f (map (applied r) ts)) (App f us) → SameAll (map (applied r) ts) us ⊎ SameAll (map (applied r) ts) (turned us)
    from_same r q = elim (arguments_of r q) [ inl p ↦ inl p | inr p ↦ inr (crossed_turned p) ]

    unforked : forks f us ≡ false → (r : List (Variable × Term)) → Same (App f (map (applied r) ts)) (App f us) → SameAll (map (applied r) ts) us
    unforked e r q = elim (arguments_of r q) [ inl p ↦ p | inr p ↦ crossed_unforked p e ]

-- an operator

abbrev AppExact : Subsorts → Op → List Term → Term → Type 0
AppExact o f ts u = IsExact o (Contains (variables (App f ts))) (Allowed o (λ w. IsPart w u)) (λ r. Same (applied r (App f ts)) u) (after_term o (App f ts) u)

app_never : (o : Subsorts) (f : Op) (ts : List Term) (u : Term) → ((op : Op) (us : List Term) → u ≡ App op us → ⊥) →
    IsExact o (Contains (variables (App f ts))) (Allowed o (λ w. IsPart w u)) (λ r. Same (applied r (App f ts)) u) (λ s. [])
app_never o f ts u other =
    exact_never o (Contains (variables (App f ts))) (Allowed o (λ w. IsPart w u)) (λ r. Same (applied r (App f ts)) u)
    (λ r q. let is = same_app q f (map (applied r) ts) (applied_app r f ts) in other f is.0 is.1)

exact_apps : (o : Subsorts) (f : Op) (ts : List Term) → EachTerm (TermExact o) ts → (g : Op) (us : List Term) → AppExact o f ts (App g us)
exact_apps o f ts each g us =
    let V : Variable → Type 0 = Contains (variables (App f ts)) in
    let G : Variable → Term → Type 0 = Allowed o (λ w. IsPart w (App g us)) in
    let Q : List (Variable × Term) → Type 0 = λ r. Same (applied r (App f ts)) (App g us) in
    let vs : variables (App f ts) ≡ flat_map variables ts = variables_at (App f ts) f ts refl in
    let chosen : IsExact o V G Q (λ s. cond (same_op f g) (after_arguments o f ts us s) []) =
    elim (same_op f g) as (λ b. same_op f g ≡ b → IsExact o V G Q (λ s. cond b (after_arguments o f ts us s) [])) [
      | true ↦ λ e. let is : f ≡ g = op_equal f g e in
          exact_as o (Contains (flat_map variables ts)) V (Allowed o (PartOfSome us)) G (λ r. Same (App f (map (applied r) ts)) (App f us)) Q
          (after_arguments o f ts us) (after_arguments o f ts us)
          (λ v i. subst (λ xs. Contains xs v) (sym vs) i) (λ v i. subst (λ xs. Contains xs v) vs i)
          (widened o (PartOfSome us) (λ w. IsPart w (App g us)) (λ w p. inside g us p.0 p.1 p.2))
          (λ r q. subst (λ t. Same t (App g us)) (sym (applied_app r f ts)) (subst (λ h. Same (App f (map (applied r) ts)) (App h us)) is q))
          (λ r q. subst (λ h. Same (App f (map (applied r) ts)) (App h us)) (sym is) (subst (λ t. Same t (App g us)) (applied_app r f ts) q))
          (λ s. refl)
          (exact_arguments o f ts each us)
      | false ↦ λ e. exact_never o V G Q
          (λ r q. let is = same_app q f (map (applied r) ts) (applied_app r f ts) in
          let same : g ≡ f = (app_injective g f us is.0 is.1).0 in
          true≢false (sym (op_itself f) ∙ ap (same_op f) (sym same) ∙ e))
    ] refl in
    exact_as o V V G G Q Q (λ s. cond (same_op f g) (after_arguments o f ts us s) []) (after_term o (App f ts) (App g us))
    (λ v i. i) (λ v i. i) (λ v t a. a) (λ r q. q) (λ r q. q) (λ s. sym (after_apps o f g ts us s)) chosen

exact_app : (o : Subsorts) (f : Op) (ts : List Term) → EachTerm (TermExact o) ts → TermExact o (App f ts)
exact_app o f ts each =
    term_cases (AppExact o f ts)
    (λ v. app_never o f ts (Var v) (λ op us e. cc))
    (λ n. app_never o f ts (Name n) (λ op us e. cc))
    (λ g us. exact_apps o f ts each g us)

pub exact_term : (o : Subsorts) (t : Term) → TermExact o t
exact_term o = by_terms (TermExact o) (exact_variable o) (exact_name o) (exact_app o)

-- pairs

abbrev pub Solves : List (Term × Term) → List (Variable × Term) → Type 0
Solves ps r = (t u : Term) → Contains ps (t, u) → Same (applied r t) u

abbrev pub PairsExact : Subsorts → List (Term × Term) → Type 0
PairsExact o ps = IsExact o (Contains (first_variables ps)) (Allowed o (IsSecondPart ps)) (Solves ps) (after_pairs o ps)

solves_more : (p : Term × Term) (ps : List (Term × Term)) (r : List (Variable × Term)) → Same (applied r p.0) p.1 → Solves ps r → Solves (p ∷ ps) r
solves_more p ps r q rest t u (zero, small, is) =
    subst (λ x. Same (applied r x) u) (ap (λ x. x.0) is) (subst (Same (applied r p.0)) (ap (λ x. x.1) is) q)
solves_more p ps r q rest t u (suc k, small, is) = rest t u (k, omega (arith, small), is)

pub exact_pairs : (o : Subsorts) (ps : List (Term × Term)) → PairsExact o ps
exact_pairs o [] = exact_nothing o (Contains []) (Allowed o (IsSecondPart [])) (Solves []) no_variable (λ r t u c. absurd (let no : ⊥ = omega (arith, c.1) in no))
exact_pairs o (p ∷ ps) =
    let V : Variable → Type 0 = Contains (variables p.0) in
    let W : Variable → Type 0 = Contains (first_variables ps) in
    let G : Variable → Term → Type 0 = Allowed o (IsSecondPart (p ∷ ps)) in
    let Q : List (Variable × Term) → Type 0 = λ r. Same (applied r p.0) p.1 in
    let one : IsExact o V G Q (after_term o p.0 p.1) =
    exact_as o V V (Allowed o (λ w. IsPart w p.1)) G Q Q (after_term o p.0 p.1) (after_term o p.0 p.1) (λ v i. i) (λ v i. i)
    (widened o (λ w. IsPart w p.1) (IsSecondPart (p ∷ ps)) (λ w q. (p.0, p.1, contains_first p ps, q))) (λ r q. q) (λ r q. q) (λ s. refl) (exact_term o p.0 p.1) in
    let rest : IsExact o W G (Solves ps) (after_pairs o ps) =
    exact_as o W W (Allowed o (IsSecondPart ps)) G (Solves ps) (Solves ps) (after_pairs o ps) (after_pairs o ps) (λ v i. i) (λ v i. i)
    (widened o (IsSecondPart ps) (IsSecondPart (p ∷ ps)) (λ w q. (q.0, q.1, contains_later p (q.0, q.1) ps q.2, q.3))) (λ r q. q) (λ r q. q) (λ s. refl) (exact_pairs o ps) in
    exact_as o (λ v. V v ⊎ W v) (Contains (first_variables (p ∷ ps))) G G (λ r. Q r × Solves ps r) (Solves (p ∷ ps)) (after_pairs o (p ∷ ps)) (after_pairs o (p ∷ ps))
    (λ v i. elim i [ inl j ↦ Contains-append_left (variables p.0) (first_variables ps) v j | inr j ↦ Contains-append_right (variables p.0) (first_variables ps) v j ])
    (λ v i. Contains-append_cases (variables p.0) (first_variables ps) v i)
    (λ v w a. a)
    (λ r q. solves_more p ps r q.0 q.1)
    (λ r q. (q p.0 p.1 (contains_first p ps), λ t u c. q t u (contains_later p (t, u) ps c))) (λ s. refl)
    (exact_then o V W G Q (Solves ps) (after_term o p.0 p.1) (after_pairs o ps) one rest)
