-- The unifiers of an application of a row with an equation's left side: sorts, names, and the equation.
use Rattle.std.proofs.Common.{◌≡◌, ◌⊎◌, ℕ, ◌+◌, ◌<◌, ◌≤◌, true, false, cond, Option, None, Some, List, [], ◌∷◌, inl, inr, refl, sym, ap, subst, arith}
use Rattle.std.specs.Prelude.{Contains, unwrap_or}
use Rattle.std.specs.List.{flat_map}
use Rattle.npa_sorts.specs.Subsorts.{IsAtOrBelow, IsSort}
use Rattle.npa_sorts.proofs.Steps.{at_or_below_sort}
use Rattle.npa_term.specs.declared.term.Var.{Var as Variable}
use Rattle.npa_term.specs.declared.term.Term.{Term, Var, Name}
use Rattle.npa_term.specs.Bound.{applied, same_var, value_of}
use Rattle.npa_term.specs.Parts.{IsPart, whole, inside, image, least_sort}
use Rattle.npa_term.specs.Same.{Same}
use Rattle.npa_term.specs.Variables.{renamed, raised_var, variables}
use Rattle.npa_term.proofs.AppliedLaws.{applied-empty}
use Rattle.npa_term.proofs.CanonicalLaws.{canonical_same}
use Rattle.npa_term.proofs.Equality.{var_equal}
use Rattle.npa_term.proofs.Parts.{each_member}
use Rattle.npa_term.proofs.RenamedLaws.{variables-renamed}
use Rattle.npa_sig.specs.Sorting.{is_sort, well_sorted}
use Rattle.npa_sig.specs.WellFormed.{IsNameless}
use Rattle.npa_sig.specs.declared.protocol.Equation.{Equation}
use Rattle.npa_sig.proofs.SortedTerms.{arguments_sorted}
use Rattle.npa_unify.specs.Answers.{unifiers}
use Rattle.npa_unify.specs.Branches.{pair_variables}
use Rattle.npa_unify.specs.Unifiers.{AreLow, Keeps}
use Rattle.npa_unify.proofs.Answering.{end_of, unifies, whole_end}
use Rattle.npa_unify.proofs.Choosing.{from_distinct}
use Rattle.npa_unify.proofs.Finishing.{finished_sort, names_bound, value_named}
use Rattle.npa_unify.proofs.Keeping.{kept}
use Rattle.npa_unify.proofs.Members.{here, map_member, nowhere, only_one}
use Rattle.npa_unify.proofs.PairVariables.{pair_cases}
use Rattle.npa_rewrite.specs.declared.theory.Theory.{Theory}
use Rattle.npa_rewrite.proofs.InstanceParts.{member_cases}
use Rattle.npa_rewrite.proofs.Sorting.{image_sorted, same_sorted}
use Rattle.npa_variants.specs.Rows.{Row}
use Rattle.npa_variants.specs.Search.{past}
use Rattle.npa_variants.proofs.Forms.{canonical_names, instance_names, instance_sorted}
use Rattle.npa_variants.proofs.Levels.{unifiers_of}
use Rattle.npa_variants.proofs.Theories.{IsNarrowing}

-- the first number past a row's variables, and the one past those that are renamed apart
abbrev pub base_of : Row → ℕ
base_of row = past (flat_map variables row)

abbrev pub next_of : Row → Equation → ℕ
next_of row e = base_of row + past (variables e.left)

-- what has to be unified
abbrev pub problem : Row → Term → Equation → List (Term × Term)
problem row u e = (u, renamed (base_of row) e.left) ∷ []

pub past_above : (vs : List Variable) (v : Variable) → Contains vs v → v.num < past vs
past_above [] v c = absurd (nowhere v c)
past_above (w ∷ vs) v c =
    elim (member_cases w v vs c) [
      | inl e ↦ (let same : w.num ≡ v.num = ap (λ (x : Variable). x.num) e in omega (arith, same))
      | inr d ↦ (let rest : v.num < past vs = past_above vs v d in omega (arith, rest))
    ]

-- a variable of the problem is one of the application, or one of the left side, raised
pub record IsRaised (base : ℕ) (vs : List Variable) (v : Variable) : Type 0 where
  pub from : Variable
  pub occurs : Contains vs from
  pub raised : raised_var base from ≡ v

pub problem_cases : (row : Row) (u : Term) (e : Equation) (v : Variable) → Contains (pair_variables (problem row u e)) v →
    Contains (variables u) v ⊎ IsRaised (base_of row) (variables e.left) v
problem_cases row u e v c =
    elim (pair_cases (u, renamed (base_of row) e.left) [] v c) [
      | inl d ↦ inl d
      | inr d ↦ elim d [
        | inl f ↦
            let from = map_member (raised_var (base_of row)) (variables e.left) v (subst (λ vs. Contains vs v) (variables-renamed (base_of row) e.left) f) in
            inr (record { from = from.0; occurs = from.1; raised = from.2 })
        | inr f ↦ absurd (nowhere v f)
      ]
    ]

-- the problem's variables are numbered below the new ones
pub problem_low : (row : Row) (u : Term) (e : Equation) → ((v : Variable) → Contains (variables u) v → Contains (flat_map variables row) v) →
    AreLow (problem row u e) (next_of row e)
problem_low row u e own v c =
    elim (problem_cases row u e v c) [
      | inl d ↦ (let small : v.num < base_of row = past_above (flat_map variables row) v (own v d) in omega (arith, small))
      | inr r ↦
          let small : r.from.num < past (variables e.left) = past_above (variables e.left) r.from r.occurs in
          let is : v.num ≡ r.from.num + base_of row = sym (ap (λ (x : Variable). x.num) r.raised) in
          omega (arith, small, is)
    ]

-- a variable has no names, and one binding changes one variable

pub var_nameless : (n : ℕ) (z : Variable) {w : Term} → IsPart (Name n) w → w ≡ Var z → ⊥
var_nameless n z whole is = cc
var_nameless n z (inside op us u c p) is = cc

single : (P : Term → Type 0) (v w : Variable) (t : Term) → (v ≡ w → P t) → P (Var w) → P (image ((v, t) ∷ []) w)
single P v w t there other =
    elim (same_var v w) as (λ b. same_var v w ≡ b → P (unwrap_or (cond b (Some t) None) (Var w))) [
      | true ↦ λ e. there (var_equal v w e)
      | false ↦ λ e. other
    ] refl

module _ (th : Theory) (can : IsNarrowing th) where
  abbrev Sorted : Term → Type 0
  Sorted t = well_sorted th.sig t ≡ true

  -- a variable of a well-sorted term is one of a sort
  pub variable_sorted : (t : Term) (v : Variable) → Contains (variables t) v → Sorted t → Sorted (Var v)
  variable_sorted t v c sorted =
      subst Sorted (applied-empty (Var v)) (image_sorted th.sig [] v t c (subst Sorted (sym (applied-empty t)) sorted))

  sort_there : (s : ℕ) → is_sort th.sig s ≡ true → IsSort th.sig.sorts s
  sort_there s test = grind arith

  is_there : (s : ℕ) → IsSort th.sig.sorts s → is_sort th.sig s ≡ true
  is_there s small = grind arith

  pub lower_sorted : (v z : Variable) → Sorted (Var v) → IsAtOrBelow th.sig.sorts z.sort v.sort → Sorted (Var z)
  lower_sorted v z sorted low = is_there z.sort (at_or_below_sort th.sig.sorts z.sort v.sort can.sorts low (sort_there v.sort sorted))

  keeps_sorted : Keeps th.sig.sorts Sorted
  keeps_sorted = record {
    arguments = λ op ts t p c. each_member Sorted ts t (arguments_sorted th.sig op ts p) c;
    form = λ t p. same_sorted th.sig can.pairs (canonical_same t) p;
    put_in = λ v t x low p q.
        instance_sorted th.sig ((v, t) ∷ []) x
        (λ w c. single Sorted v w t (λ e. p) (variable_sorted x w c q))
        (λ w c. single (λ y. IsAtOrBelow th.sig.sorts (least_sort y) w.sort) v w t (λ e. subst (λ (y : Variable). IsAtOrBelow th.sig.sorts (least_sort t) y.sort) e low) (inl refl))
        q;
    lower = λ v z p low. lower_sorted v z p low;
  }

  abbrev NamesOf : Term → Term → Type 0
  NamesOf u t = (n : ℕ) → IsPart (Name n) t → IsPart (Name n) u

  keeps_names : (u : Term) → Keeps th.sig.sorts (NamesOf u)
  keeps_names u = record {
    arguments = λ op ts t p c n part. p n (inside op ts t c part);
    form = λ t p n part. p n (canonical_names n t part);
    put_in = λ v t x low p q n part.
        elim (instance_names ((v, t) ∷ []) n x part) [
          | inl own ↦ q n own
          | inr of ↦ single (λ y. IsPart (Name n) y → IsPart (Name n) u) v of.var t (λ e. p n) (λ y. absurd (var_nameless n of.var y refl)) of.there
        ];
    lower = λ v z p low n part. absurd (var_nameless n z part refl);
  }

  -- the names of a renamed term are the term's
  module _ (row : Row) (u : Term) (e : Equation) (own : (v : Variable) → Contains (variables u) v → Contains (flat_map variables row) v) (there : Contains th.equations e)
      (sorted : Sorted u) (left_sorted : Sorted (renamed (base_of row) e.left)) (left_nameless : IsNameless (renamed (base_of row) e.left))
      (s : List (Variable × Term)) (member : Contains (unifiers_of th row u e) s) where
    listed : Contains (unifiers th.sig.sorts (problem row u e) (next_of row e)) s
    listed = from_distinct (unifiers th.sig.sorts (problem row u e) (next_of row e)) s member

    low : AreLow (problem row u e) (next_of row e)
    low = problem_low row u e own

    -- the term of each variable is of a fitting sort
    pub unifier_fits : (v : Variable) → IsAtOrBelow th.sig.sorts (least_sort (image s v)) v.sort
    unifier_fits v =
        let at = end_of th.sig.sorts (problem row u e) (next_of row e) s listed in
        let all = whole_end th.sig.sorts (problem row u e) (next_of row e) at.0 low at.1 in
        subst (λ r. IsAtOrBelow th.sig.sorts (least_sort (image r v)) v.sort) at.3 (finished_sort th.sig.sorts at.0.bound all.sorts (Var v))

    by_value : (P : Term → Type 0) (v : Variable) (o : Option Term) → value_of s v ≡ o → ((t : Term) → value_of s v ≡ Some t → P t) → P (Var v) → P (unwrap_or o (Var v))
    by_value P v None is f p = p
    by_value P v (Some t) is f p = f t is

    pair_both : (P : Term → Type 0) → P u → P (renamed (base_of row) e.left) → (t x : Term) → Contains (problem row u e) (t, x) → P t × P x
    pair_both P p q t x c =
        subst (λ (y : Term × Term). P y.0 × P y.1) (only_one (u, renamed (base_of row) e.left) (t, x) c) (p, q)

    -- well sorted
    pub unifier_sorted : (v : Variable) → Sorted (Var v) → Sorted (image s v)
    unifier_sorted v is =
        by_value Sorted v (value_of s v) refl
        (λ t is. kept th.sig.sorts Sorted keeps_sorted (problem row u e) (next_of row e) low (pair_both Sorted sorted left_sorted) s v t listed is) is

    -- and without names but those of the application
    pub unifier_names : (v : Variable) → NamesOf u (image s v)
    unifier_names v =
        by_value (NamesOf u) v (value_of s v) refl
        (λ t is. kept th.sig.sorts (NamesOf u) (keeps_names u) (problem row u e) (next_of row e) low
        (pair_both (NamesOf u) (λ n part. part) (λ n part. absurd (left_nameless n part))) s v t listed is)
        (λ n part. absurd (var_nameless n v part refl))

    -- it binds variables of the problem and new ones
    pub unifier_own : (v : Variable) (t : Term) → value_of s v ≡ Some t → Contains (pair_variables (problem row u e)) v ⊎ (next_of row e ≤ v.num)
    unifier_own v t is =
        let at = end_of th.sig.sorts (problem row u e) (next_of row e) s listed in
        let all = whole_end th.sig.sorts (problem row u e) (next_of row e) at.0 low at.1 in
        all.known v (inr (names_bound at.0.bound v (value_named at.0.bound v t (subst (λ r. value_of r v ≡ Some t) (sym at.3) is))))

    -- it makes the application and the left side equal
    pub unifier_equal : Same (applied s u) (applied s (renamed (base_of row) e.left))
    unifier_equal =
        (unifies th.sig.sorts (problem row u e) (next_of row e) s low listed).equal u (renamed (base_of row) e.left) (here (u, renamed (base_of row) e.left) [])
