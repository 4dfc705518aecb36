-- The substitution that bindings stand for.
use Rattle.std.proofs.Common.{◌≡◌, true, false, cond, ◌&&◌, List, [], ◌∷◌, ◌++◌, map, Some, None, refl, sym, ◌∙◌, ap, subst, inl, inr}
use Rattle.std.specs.Prelude.{⊤, Contains, ◌⊎◌, flat_map, unwrap_or}
use Rattle.std.specs.Ordering.{is_gt}
use Rattle.std.proofs.lemmas.List.Elements.{Contains-append_left, Contains-append_right, Contains-append_cases}
use Rattle.npa_sorts.specs.Subsorts.{Subsorts, IsAtOrBelow}
use Rattle.npa_sorts.proofs.Steps.{at_or_below_trans}
use Rattle.npa_term.specs.declared.term.Op.{Op}
use Rattle.npa_term.specs.declared.term.Var.{Var as Variable}
use Rattle.npa_term.specs.declared.term.Term.{Term, Var, Name, App}
use Rattle.npa_term.specs.Bound.{same_var, value_of, applied, BindsOnce}
use Rattle.npa_term.specs.Canonical.{canonical, ordered}
use Rattle.npa_term.specs.Computed.{turned}
use Rattle.npa_term.specs.Order.{term_cmp}
use Rattle.npa_term.specs.Parts.{image, least_sort}
use Rattle.npa_term.specs.Same.{Same, itself, through, below, SameAll, nothing, first}
use Rattle.npa_term.specs.Variables.{variables}
use Rattle.npa_term.proofs.AppliedLaws.{applied-empty}
use Rattle.npa_term.proofs.CanonicalLaws.{canonical_same, canonical-canonical}
use Rattle.npa_term.proofs.Equality.{var_equal}
use Rattle.npa_term.proofs.Induction.{Each, by_terms, term_cases}
use Rattle.npa_term.proofs.Parts.{same_sort}
use Rattle.npa_term.proofs.Rows.{applied_app, canonical_app, variables_at}
use Rattle.npa_term.proofs.SameLaws.{same_sym, same_applied}
use Rattle.npa_unify.specs.Answers.{resolved, finished}
use Rattle.npa_unify.proofs.Members.{here, later, nowhere, member_cases, only_one}
use Rattle.npa_unify.proofs.PairVariables.{put_term, turned_variables, var_differ}
use Rattle.npa_unify.proofs.Progress.{bound_variables, new_follows, new_has, new_term}
use Rattle.npa_unify.proofs.Solutions.{Follows, put_in}

-- a first binding, whose value the later ones are put into
first_members : (v : Variable) (t c : Term) (s : List (Variable × Term)) (ts : List Term) →
    Each (λ x. Same (applied ((v, c) ∷ s) x) (applied s (applied ((v, t) ∷ []) x))) ts → SameAll (map (applied ((v, c) ∷ s)) ts) (map (applied s) (map (applied ((v, t) ∷ [])) ts))
first_members v t c s [] each = nothing
first_members v t c s (x ∷ xs) each =
    first (applied ((v, c) ∷ s) x) (applied s (applied ((v, t) ∷ []) x)) (map (applied ((v, c) ∷ s)) xs) (map (applied s) (map (applied ((v, t) ∷ [])) xs)) each.0
    (first_members v t c s xs each.1)

first_does : (v : Variable) (t c : Term) (s : List (Variable × Term)) → Same c (applied s t) → (x : Term) → Same (applied ((v, c) ∷ s) x) (applied s (applied ((v, t) ∷ []) x))
first_does v t c s value =
    by_terms (λ x. Same (applied ((v, c) ∷ s) x) (applied s (applied ((v, t) ∷ []) x)))
    (λ y. elim (same_var v y) as (λ b. Same (unwrap_or (cond b (Some c) (value_of s y)) (Var y)) (applied s (unwrap_or (cond b (Some t) None) (Var y))))
    [ true ↦ value | false ↦ itself (image s y) ])
    (λ n. itself (Name n))
    (λ op ts each.
    let left : applied ((v, c) ∷ s) (App op ts) ≡ App op (map (applied ((v, c) ∷ s)) ts) = applied_app ((v, c) ∷ s) op ts in
    let right : applied s (applied ((v, t) ∷ []) (App op ts)) ≡ App op (map (applied s) (map (applied ((v, t) ∷ [])) ts)) =
    ap (applied s) (applied_app ((v, t) ∷ []) op ts) ∙ applied_app s op (map (applied ((v, t) ∷ [])) ts) in
    subst (λ x. Same x (applied s (applied ((v, t) ∷ []) (App op ts)))) (sym left)
    (subst (Same (App op (map (applied ((v, c) ∷ s)) ts))) (sym right)
    (below op (map (applied ((v, c) ∷ s)) ts) (map (applied s) (map (applied ((v, t) ∷ [])) ts)) (first_members v t c s ts each))))

-- it does what the bindings do one after the other
pub finished_is : (s : List (Variable × Term)) (x : Term) → Same (applied (finished s) x) (resolved s x)
finished_is [] x = subst (λ y. Same y x) (sym (applied-empty x)) (itself x)
finished_is (b ∷ s) x =
    let value : Same (canonical (resolved s b.1)) (applied (finished s) b.1) =
    through (canonical (resolved s b.1)) (resolved s b.1) (applied (finished s) b.1) (same_sym (canonical_same (resolved s b.1))) (same_sym (finished_is s b.1)) in
    through (applied (finished (b ∷ s)) x) (applied (finished s) (applied (b ∷ []) x)) (resolved s (applied (b ∷ []) x))
    (first_does b.0 b.1 (canonical (resolved s b.1)) (finished s) value x) (finished_is s (applied (b ∷ []) x))

-- bindings of which none is of a variable in its own value or in later bindings
abbrev pub Chained : List (Variable × Term) → Type 0
Chained [] = ⊤
Chained (b ∷ s) = (Contains (variables b.1) b.0 → ⊥) × ((Contains (bound_variables s) b.0 → ⊥) × Chained s)

differ_from : (z : Variable) (l : List Variable) → (Contains l z → ⊥) → (v : Variable) → Contains l v → same_var z v ≡ false
differ_from z l apart v c = var_differ z v (λ e. apart (subst (Contains l) (sym e) c))

-- it follows its own bindings
pub own_follows : (s : List (Variable × Term)) → Chained s → Follows (finished s) s
own_follows [] chained = tt
own_follows (b ∷ s) chained =
    let c : Term = canonical (resolved s b.1) in
    let value : image (finished (b ∷ s)) b.0 ≡ c = new_has (finished s) b.0 c in
    let term : applied (finished (b ∷ s)) b.1 ≡ applied (finished s) b.1 = new_term (finished s) b.0 c b.1 (differ_from b.0 (variables b.1) chained.0) in
    let same : Same c (applied (finished s) b.1) =
    through c (resolved s b.1) (applied (finished s) b.1) (same_sym (canonical_same (resolved s b.1))) (same_sym (finished_is s b.1)) in (
      subst (λ x. Same x (applied (finished (b ∷ s)) b.1)) (sym value) (subst (Same c) (sym term) same),
      new_follows (finished s) b.0 c s (differ_from b.0 (bound_variables s) chained.1.0) (own_follows s chained.1.1),
    )

-- what follows the bindings has the same values after it
follows_resolved : (u s : List (Variable × Term)) → Follows u s → (x : Term) → Same (applied u (resolved s x)) (applied u x)
follows_resolved u [] follows x = itself (applied u x)
follows_resolved u (b ∷ s) follows x =
    through (applied u (resolved s (applied (b ∷ []) x))) (applied u (applied (b ∷ []) x)) (applied u x)
    (follows_resolved u s follows.1 (applied (b ∷ []) x)) (put_in u b.0 b.1 follows.0 x)

pub follows_finished : (u s : List (Variable × Term)) → Follows u s → (x : Term) → Same (applied u (applied (finished s) x)) (applied u x)
follows_finished u s follows x =
    through (applied u (applied (finished s) x)) (applied u (resolved s x)) (applied u x) (same_applied u (finished_is s x)) (follows_resolved u s follows x)

-- sorts
abbrev pub Sorted : Subsorts → List (Variable × Term) → Type 0
Sorted o [] = ⊤
Sorted o (b ∷ s) = IsAtOrBelow o (least_sort b.1) b.0.sort × Sorted o s

one_sort : (o : Subsorts) (v : Variable) (t : Term) → IsAtOrBelow o (least_sort t) v.sort → (x : Term) → IsAtOrBelow o (least_sort (applied ((v, t) ∷ []) x)) (least_sort x)
one_sort o v t low =
    term_cases (λ x. IsAtOrBelow o (least_sort (applied ((v, t) ∷ []) x)) (least_sort x))
    (λ y. elim (same_var v y) as (λ b. same_var v y ≡ b → IsAtOrBelow o (least_sort (unwrap_or (cond b (Some t) None) (Var y))) y.sort)
    [ true ↦ λ e. subst (λ z. IsAtOrBelow o (least_sort t) z.sort) (var_equal v y e) low | false ↦ λ e. inl refl ] refl)
    (λ n. inl refl) (λ op ts. inl refl)

pub resolved_sort : (o : Subsorts) (s : List (Variable × Term)) → Sorted o s → (x : Term) → IsAtOrBelow o (least_sort (resolved s x)) (least_sort x)
resolved_sort o [] sorted x = inl refl
resolved_sort o (b ∷ s) sorted x = at_or_below_trans (resolved_sort o s sorted.1 (applied (b ∷ []) x)) (one_sort o b.0 b.1 sorted.0 x)

pub finished_sort : (o : Subsorts) (s : List (Variable × Term)) → Sorted o s → (x : Term) → IsAtOrBelow o (least_sort (applied (finished s) x)) (least_sort x)
finished_sort o s sorted x =
    subst (λ n. IsAtOrBelow o n (least_sort x)) (sym (same_sort (applied (finished s) x) (resolved s x) (finished_is s x))) (resolved_sort o s sorted x)

-- the variables of canonical forms

ordered_is : (op : Op) (ts : List Term) → (ordered op ts ≡ ts) ⊎ (ordered op ts ≡ turned ts)
ordered_is op [] = inl refl
ordered_is op (t ∷ []) = inl refl
ordered_is op (t ∷ u ∷ []) =
    elim (op.com && is_gt (term_cmp t u)) as (λ b. (cond b (u ∷ t ∷ []) (t ∷ u ∷ []) ≡ t ∷ u ∷ []) ⊎ (cond b (u ∷ t ∷ []) (t ∷ u ∷ []) ≡ u ∷ t ∷ []))
    [ true ↦ inr refl | false ↦ inl refl ]
ordered_is op (t ∷ u ∷ x ∷ ts) = inl refl

ordered_variables : (op : Op) (ts : List Term) (w : Variable) → Contains (flat_map variables (ordered op ts)) w → Contains (flat_map variables ts) w
ordered_variables op ts w c =
    elim (ordered_is op ts) [
      | inl e ↦ subst (λ us. Contains (flat_map variables us) w) e c
      | inr e ↦ turned_variables ts w (subst (λ us. Contains (flat_map variables us) w) e c)
    ]

canonical_members : (w : Variable) (ts : List Term) → Each (λ t. Contains (variables (canonical t)) w → Contains (variables t) w) ts →
    Contains (flat_map variables (map canonical ts)) w → Contains (flat_map variables ts) w
canonical_members w [] each c = c
canonical_members w (t ∷ ts) each c =
    elim (Contains-append_cases (variables (canonical t)) (flat_map variables (map canonical ts)) w c) [
      | inl d ↦ Contains-append_left (variables t) (flat_map variables ts) w (each.0 d)
      | inr d ↦ Contains-append_right (variables t) (flat_map variables ts) w (canonical_members w ts each.1 d)
    ]

pub canonical_variables : (w : Variable) (t : Term) → Contains (variables (canonical t)) w → Contains (variables t) w
canonical_variables w =
    by_terms (λ t. Contains (variables (canonical t)) w → Contains (variables t) w)
    (λ v c. c) (λ n c. c)
    (λ op ts each c.
    let form : variables (canonical (App op ts)) ≡ flat_map variables (ordered op (map canonical ts)) =
    variables_at (canonical (App op ts)) op (ordered op (map canonical ts)) (canonical_app op ts) in
    subst (λ l. Contains l w) (sym (variables_at (App op ts) op ts refl))
    (canonical_members w ts each (ordered_variables op (map canonical ts) w (subst (λ l. Contains l w) form c))))

-- the variables of values

abbrev pub names : List (Variable × Term) → List Variable
names s = map (λ b. b.0) s

pub names_bound : (s : List (Variable × Term)) (v : Variable) → Contains (names s) v → Contains (bound_variables s) v
names_bound [] v c = c
names_bound (b ∷ s) v c =
    elim (member_cases b.0 v (names s) c) [
      | inl e ↦ subst (Contains (bound_variables (b ∷ s))) e (here b.0 (variables b.1 ++ bound_variables s))
      | inr d ↦ later b.0 v (variables b.1 ++ bound_variables s) (Contains-append_right (variables b.1) (bound_variables s) v (names_bound s v d))
    ]

value_has : (b : Variable × Term) (s : List (Variable × Term)) (w : Variable) → Contains (variables b.1) w → Contains (bound_variables (b ∷ s)) w
value_has b s w c = later b.0 w (variables b.1 ++ bound_variables s) (Contains-append_left (variables b.1) (bound_variables s) w c)

later_has : (b : Variable × Term) (s : List (Variable × Term)) (w : Variable) → Contains (bound_variables s) w → Contains (bound_variables (b ∷ s)) w
later_has b s w c = later b.0 w (variables b.1 ++ bound_variables s) (Contains-append_right (variables b.1) (bound_variables s) w c)

pub resolved_variables : (s : List (Variable × Term)) (x : Term) (w : Variable) → Contains (variables (resolved s x)) w → Contains (variables x) w ⊎ Contains (bound_variables s) w
resolved_variables [] x w c = inl c
resolved_variables (b ∷ s) x w c =
    elim (resolved_variables s (applied (b ∷ []) x) w c) [
      | inl d ↦ elim (put_term b.0 b.1 w x d) [ inl e ↦ inl e.0 | inr e ↦ inr (value_has b s w e) ]
      | inr d ↦ inr (later_has b s w d)
    ]

-- the bound variables don't occur in what is resolved
pub resolved_free : (s : List (Variable × Term)) → Chained s → (x : Term) (w : Variable) → Contains (variables (resolved s x)) w → Contains (names s) w → ⊥
resolved_free [] chained x w c n = nowhere w n
resolved_free (b ∷ s) chained x w c n =
    elim (member_cases b.0 w (names s) n) [
      | inl e ↦ elim (resolved_variables s (applied (b ∷ []) x) w c) [
        | inl d ↦ elim (put_term b.0 b.1 w x d) [ inl f ↦ f.1 e | inr f ↦ chained.0 (subst (Contains (variables b.1)) (sym e) f) ]
        | inr d ↦ chained.1.0 (subst (Contains (bound_variables s)) (sym e) d)
      ]
      | inr d ↦ resolved_free s chained.1.1 (applied (b ∷ []) x) w c d
    ]

some_is : (t u : Term) → Some t ≡ Some u → t ≡ u
some_is t u e = ap (λ o. unwrap_or o t) e

-- the value of a variable is that of the first binding, or of a later one
pub value_cases : (b : Variable × Term) (s : List (Variable × Term)) (v : Variable) (t : Term) → value_of (finished (b ∷ s)) v ≡ Some t →
    ((b.0 ≡ v) × (canonical (resolved s b.1) ≡ t)) ⊎ (value_of (finished s) v ≡ Some t)
value_cases b s v t e =
    elim (same_var b.0 v) as (λ c. same_var b.0 v ≡ c → cond c (Some (canonical (resolved s b.1))) (value_of (finished s) v) ≡ Some t →
    ((b.0 ≡ v) × (canonical (resolved s b.1) ≡ t)) ⊎ (value_of (finished s) v ≡ Some t)) [
      | true ↦ λ same f. inl (var_equal b.0 v same, some_is (canonical (resolved s b.1)) t f)
      | false ↦ λ same f. inr f
    ] refl e

pub value_named : (s : List (Variable × Term)) (v : Variable) (t : Term) → value_of (finished s) v ≡ Some t → Contains (names s) v
value_named [] v t e = cc
value_named (b ∷ s) v t e =
    elim (value_cases b s v t e) [ inl is ↦ subst (Contains (names (b ∷ s))) is.0 (here b.0 (names s)) | inr f ↦ later b.0 v (names s) (value_named s v t f) ]

pub value_form : (s : List (Variable × Term)) (v : Variable) (t : Term) → value_of (finished s) v ≡ Some t → canonical t ≡ t
value_form [] v t e = cc
value_form (b ∷ s) v t e =
    elim (value_cases b s v t e) [ inl is ↦ subst (λ x. canonical x ≡ x) is.1 (canonical-canonical (resolved s b.1)) | inr f ↦ value_form s v t f ]

pub value_sort : (o : Subsorts) (s : List (Variable × Term)) → Sorted o s → (v : Variable) (t : Term) → value_of (finished s) v ≡ Some t → IsAtOrBelow o (least_sort t) v.sort
value_sort o [] sorted v t e = cc
value_sort o (b ∷ s) sorted v t e =
    elim (value_cases b s v t e) [
      | inl is ↦
          let same : least_sort (resolved s b.1) ≡ least_sort t = same_sort (resolved s b.1) (canonical (resolved s b.1)) (canonical_same (resolved s b.1)) ∙ ap least_sort is.1 in
          subst (λ (x : Variable). IsAtOrBelow o (least_sort t) x.sort) is.0
          (subst (λ n. IsAtOrBelow o n b.0.sort) same (at_or_below_trans (resolved_sort o s sorted.1 b.1) sorted.0))
      | inr f ↦ value_sort o s sorted.1 v t f
    ]

pub value_among : (s : List (Variable × Term)) (v : Variable) (t : Term) (w : Variable) → value_of (finished s) v ≡ Some t → Contains (variables t) w → Contains (bound_variables s) w
value_among [] v t w e c = cc
value_among (b ∷ s) v t w e c =
    elim (value_cases b s v t e) [
      | inl is ↦ elim (resolved_variables s b.1 w (canonical_variables w (resolved s b.1) (subst (λ x. Contains (variables x) w) (sym is.1) c)))
          [ inl d ↦ value_has b s w d | inr d ↦ later_has b s w d ]
      | inr f ↦ later_has b s w (value_among s v t w f c)
    ]

pub value_free : (s : List (Variable × Term)) → Chained s → (v : Variable) (t : Term) (w : Variable) → value_of (finished s) v ≡ Some t → Contains (variables t) w → Contains (names s) w → ⊥
value_free [] chained v t w e c n = nowhere w n
value_free (b ∷ s) chained v t w e c n =
    elim (value_cases b s v t e) [
      | inl is ↦
          let within : Contains (variables (resolved s b.1)) w = canonical_variables w (resolved s b.1) (subst (λ x. Contains (variables x) w) (sym is.1) c) in
          elim (member_cases b.0 w (names s) n) [
            | inl first_is ↦ elim (resolved_variables s b.1 w within) [
              | inl d ↦ chained.0 (subst (Contains (variables b.1)) (sym first_is) d)
              | inr d ↦ chained.1.0 (subst (Contains (bound_variables s)) (sym first_is) d)
            ]
            | inr d ↦ resolved_free s chained.1.1 b.1 w within d
          ]
      | inr f ↦ elim (member_cases b.0 w (names s) n) [
        | inl first_is ↦ chained.1.0 (subst (Contains (bound_variables s)) (sym first_is) (value_among s v t w f c))
        | inr d ↦ value_free s chained.1.1 v t w f c d
      ]
    ]

pub not_named : (s : List (Variable × Term)) (v : Variable) → (Contains (names s) v → ⊥) → value_of (finished s) v ≡ None
not_named [] v other = refl
not_named (b ∷ s) v other =
    let first_other : same_var b.0 v ≡ false = var_differ b.0 v (λ e. other (subst (Contains (names (b ∷ s))) e (here b.0 (names s)))) in
    ap (λ c. cond c (Some (canonical (resolved s b.1))) (value_of (finished s) v)) first_other ∙ not_named s v (λ c. other (later b.0 v (names s) c))

pub finished_once : (s : List (Variable × Term)) → Chained s → BindsOnce (finished s)
finished_once [] chained = tt
finished_once (b ∷ s) chained = (not_named s b.0 (λ c. chained.1.0 (names_bound s b.0 c)), finished_once s chained.1.1)

pub image_variables : (s : List (Variable × Term)) (v w : Variable) → Contains (variables (image (finished s) v)) w → (v ≡ w) ⊎ Contains (bound_variables s) w
image_variables s v w =
    elim (value_of (finished s) v) as (λ x. value_of (finished s) v ≡ x → Contains (variables (unwrap_or x (Var v))) w → (v ≡ w) ⊎ Contains (bound_variables s) w) [
      | Some t ↦ λ e c. inr (value_among s v t w e c)
      | None ↦ λ e c. inl (only_one v w c)
    ] refl
