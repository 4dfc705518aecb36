-- Two terms with their variables kept apart unify exactly where the one and the other with its variables
-- renumbered have a unifier.
use Rattle.std.proofs.Common.{◌≡◌, ℕ, ◌+◌, true, false, cond, List, [], ◌∷◌, ◌++◌, None, Some, map, refl, ap, sym, ◌∙◌, subst, inl, inr, arith}
use Rattle.std.specs.Prelude.{Contains, unwrap_or, ◌⊎◌}
use Rattle.std.specs.List.{flat_map}
use Rattle.npa_sorts.specs.Subsorts.{IsSort, IsAtOrBelow, IsBelow, AreSorts}
use Rattle.npa_term.specs.declared.term.Var.{Var as Variable}
use Rattle.npa_term.specs.declared.term.Term.{Term, Var, App}
use Rattle.npa_term.specs.Bound.{applied, same_var, value_of}
use Rattle.npa_term.specs.Parts.{image, least_sort}
use Rattle.npa_term.specs.Same.{Same}
use Rattle.npa_term.specs.Variables.{variables, raised_var, renamed}
use Rattle.npa_term.proofs.Equality.{var_equal, var_itself}
use Rattle.npa_term.proofs.Induction.{Each, by_terms}
use Rattle.npa_term.proofs.Lifted.{lifted, lifted_renamed, lifted_below, lifted_value, lifted_free}
use Rattle.npa_term.proofs.Numbered.{from_members, member_first}
use Rattle.npa_term.proofs.RenamedLaws.{variables-renamed}
use Rattle.npa_term.proofs.Rows.{applied_app, renamed_app, variables_at}
use Rattle.npa_sig.specs.Operators.{PairsCommute}
use Rattle.npa_sig.specs.Signature.{Signature}
use Rattle.npa_sig.specs.Sorting.{is_sort, well_sorted}
use Rattle.npa_rewrite.specs.Accepted.{Unify}
use Rattle.npa_unify.specs.Answers.{unifiers}
use Rattle.npa_unify.specs.Branches.{pair_variables}
use Rattle.npa_unify.specs.Unifiers.{IsUnifier, AreLow, HaveOneSort}
use Rattle.npa_unify.proofs.Answering.{answered, complete}
use Rattle.npa_unify.proofs.Keeping.{kept}
use Rattle.npa_unify.proofs.Members.{here, nowhere, member_cases, only_one, map_member, member_map}
use Rattle.npa_unify.proofs.PairVariables.{first_has, second_has, pair_cases}
use Rattle.npa_accept.specs.Fit.{IsFitTerm}
use Rattle.npa_accept.proofs.Sorting.{keeps, sort_number, variable_sorted}

-- what a substitution has for the renamed variables of a list
abbrev behind : ℕ → List (Variable × Term) → List Variable → List (Variable × Term)
behind base s vs = map (λ v. (v, image s (raised_var base v))) vs

behind_value : (base : ℕ) (s : List (Variable × Term)) (vs : List Variable) (v : Variable) → Contains vs v → value_of (behind base s vs) v ≡ Some (image s (raised_var base v))
behind_value base s [] v c = absurd (nowhere v c)
behind_value base s (w ∷ vs) v c =
    let tail : same_var w v ≡ false → value_of (behind base s vs) v ≡ Some (image s (raised_var base v)) = λ e.
    elim (member_cases w v vs c) [ inl is ↦ absurd (other w v is e) | inr d ↦ behind_value base s vs v d ] in
    elim (same_var w v) as (λ b. same_var w v ≡ b → cond b (Some (image s (raised_var base w))) (value_of (behind base s vs) v) ≡ Some (image s (raised_var base v))) [
      | true ↦ λ e. ap (λ x. Some (image s (raised_var base x))) (var_equal w v e)
      | false ↦ λ e. tail e
    ] refl
  where
    other : (x y : Variable) → x ≡ y → same_var x y ≡ false → ⊥
    other x y is e = let yes : same_var x y ≡ true = subst (λ z. same_var x z ≡ true) is (var_itself x) in cc

behind_members : (base : ℕ) (s u : List (Variable × Term)) (ts : List Term) → Each (λ t. applied u t ≡ applied s (renamed base t)) ts → map (applied u) ts ≡ map (applied s) (map (renamed base) ts)
behind_members base s u [] each = refl
behind_members base s u (t ∷ ts) each = ap (λ w. w ∷ map (applied u) ts) each.0 ∙ ap (λ ws. applied s (renamed base t) ∷ ws) (behind_members base s u ts each.1)

behind_renamed : (base : ℕ) (s : List (Variable × Term)) (vs : List Variable) (t : Term) → ((v : Variable) → Contains (variables t) v → Contains vs v) →
    applied (behind base s vs) t ≡ applied s (renamed base t)
behind_renamed base s vs =
    let u = behind base s vs in
    by_terms (λ t. ((v : Variable) → Contains (variables t) v → Contains vs v) → applied u t ≡ applied s (renamed base t))
    (λ v within. ap (λ o. unwrap_or o (Var v)) (behind_value base s vs v (within v (member_first v []))))
    (λ n within. refl)
    (λ op ts each within.
    let whole : variables (App op ts) ≡ flat_map variables ts = variables_at (App op ts) op ts refl in
    applied_app u op ts
    ∙ ap (App op) (behind_members base s u ts (from_members (λ t. applied u t ≡ applied s (renamed base t)) vs ts each (λ v c. within v (subst (λ (ws : List Variable). Contains ws v) (sym whole) c))))
    ∙ sym (ap (applied s) (renamed_app base op ts) ∙ applied_app s op (map (renamed base) ts)))

-- the pair that is unified
abbrev pub pair_of : ℕ → Term → Term → List (Term × Term)
pair_of base t left = (t, renamed base left) ∷ []

-- its variables are those of the first term, and those of the second with other numbers
abbrev Raised : ℕ → Term → Variable → Type 0
Raised base left v = (w : Variable) × Contains (variables left) w × (raised_var base w ≡ v)

pair_variable : (base : ℕ) (t left : Term) (v : Variable) → Contains (pair_variables (pair_of base t left)) v → Contains (variables t) v ⊎ Raised base left v
pair_variable base t left v c =
    elim (pair_cases (t, renamed base left) [] v c) [
      | inl d ↦ inl d
      | inr d ↦ elim d [
        | inl e ↦ inr (map_member (raised_var base) (variables left) v (subst (λ vs. Contains vs v) (variables-renamed base left) e))
        | inr e ↦ absurd (nowhere v e)
      ]
    ]

raised_in : (base : ℕ) (t left : Term) (w : Variable) → Contains (variables left) w → Contains (pair_variables (pair_of base t left)) (raised_var base w)
raised_in base t left w c =
    second_has (t, renamed base left) [] (raised_var base w)
    (subst (λ vs. Contains vs (raised_var base w)) (sym (variables-renamed base left)) (member_map (raised_var base) (variables left) w c))

module _ (sig : Signature) (base room : ℕ) (t left : Term) (first : IsFitTerm sig base t) (second : IsFitTerm sig room left) where
  -- the conditions of unification
  pub are_sorts : (v : Variable) → Contains (pair_variables (pair_of base t left)) v → IsSort sig.sorts v.sort
  are_sorts v c =
      elim (pair_variable base t left v c) [
        | inl d ↦ sort_number sig v.sort (variable_sorted sig t v first.sorted d)
        | inr r ↦ subst (λ (x : Variable). IsSort sig.sorts x.sort) r.2 (sort_number sig r.0.sort (variable_sorted sig left r.0 second.sorted r.1))
      ]

  pub are_low : AreLow (pair_of base t left) (base + room)
  are_low v c =
      elim (pair_variable base t left v c) [
        | inl d ↦ let small = first.low v d in omega (arith, small)
        | inr r ↦ let small = second.low r.0 r.1 in let is : r.0.num + base ≡ v.num = ap (λ (x : Variable). x.num) r.2 in omega (arith, small, is)
      ]

  raised_one : (x y v w : Variable) → Contains (variables left) x → Contains (variables left) y → raised_var base x ≡ v → raised_var base y ≡ w → v.num ≡ w.num → v ≡ w
  raised_one x y v w c d p q e =
      let number : x.num + base ≡ y.num + base = ap (λ (z : Variable). z.num) p ∙ e ∙ sym (ap (λ (z : Variable). z.num) q) in
      let same : x ≡ y = second.one x y c d (omega (arith, number)) in
      sym p ∙ ap (raised_var base) same ∙ q

  apart : (v x w : Variable) → Contains (variables t) v → raised_var base x ≡ w → v.num ≡ w.num → ⊥
  apart v x w c q e =
      let small = first.low v c in
      let is : x.num + base ≡ w.num = ap (λ (z : Variable). z.num) q in
      let no : ⊥ = omega (arith, small, is, e) in no

  pub have_one : HaveOneSort (pair_of base t left)
  have_one v w c d e =
      elim (pair_variable base t left v c) [
        | inl a ↦ elim (pair_variable base t left w d) [ inl b ↦ first.one v w a b e | inr r ↦ absurd (apart v r.0 w a r.2 e) ]
        | inr r ↦ elim (pair_variable base t left w d) [ inl b ↦ absurd (apart w r.0 v b r.2 (sym e)) | inr q ↦ raised_one r.0 q.0 v w r.1 q.1 r.2 q.2 e ]
      ]

  -- both substitutions joined are a unifier
  abbrev joined : Unify sig t left → List (Variable × Term)
  joined u = lifted base u.second (variables left) ++ u.first

  joined_sorts : (u : Unify sig t left) (v : Variable) → Contains (pair_variables (pair_of base t left)) v → IsAtOrBelow sig.sorts (least_sort (image (joined u) v)) v.sort
  joined_sorts u v c =
      elim (pair_variable base t left v c) [
        | inl d ↦
            let is : image (joined u) v ≡ image u.first v = ap (λ o. unwrap_or o (Var v)) (lifted_free base u.second u.first (variables left) v (first.low v d)) in
            subst (λ x. IsAtOrBelow sig.sorts (least_sort x) v.sort) (sym is) (u.first_sorts.below v d)
        | inr r ↦
            let is : image (joined u) (raised_var base r.0) ≡ image u.second r.0 =
            ap (λ o. unwrap_or o (Var (raised_var base r.0))) (lifted_value base u.second u.first (variables left) r.0 r.1) in
            subst (λ (x : Variable). IsAtOrBelow sig.sorts (least_sort (image (joined u) x)) x.sort) r.2
            (subst (λ x. IsAtOrBelow sig.sorts (least_sort x) r.0.sort) (sym is) (u.second_sorts.below r.0 r.1))
      ]

  joined_equal : (u : Unify sig t left) → Same (applied (joined u) t) (applied (joined u) (renamed base left))
  joined_equal u =
      let one : applied (joined u) t ≡ applied u.first t = lifted_below base u.second u.first (variables left) t first.low in
      let two : applied (joined u) (renamed base left) ≡ applied u.second left = lifted_renamed base u.second u.first (variables left) left (λ v c. c) in
      subst (λ x. Same x (applied (joined u) (renamed base left))) (sym one) (subst (Same (applied u.first t)) (sym two) u.equal)

  pub unifier : Unify sig t left → (s : List (Variable × Term)) × IsUnifier sig.sorts (pair_of base t left) s
  unifier u = (
    joined u,
    record {
      sorts = joined_sorts u;
      equal = λ a b c. let is = only_one (t, renamed base left) (a, b) c in subst (λ (p : Term × Term). Same (applied (joined u) p.0) (applied (joined u) p.1)) is (joined_equal u);
    },
  )

  -- and an answer is two substitutions
  module _ (pairs : PairsCommute sig) (sorts : AreSorts sig.sorts) (acyclic : (r : ℕ) → IsBelow sig.sorts r r → ⊥)
      (lower : (x y : ℕ) → IsAtOrBelow sig.sorts x y → IsSort sig.sorts y → IsSort sig.sorts x) (renamed_sorted : well_sorted sig (renamed base left) ≡ true) where
    members_sorted : (a b : Term) → Contains (pair_of base t left) (a, b) → (well_sorted sig a ≡ true) × (well_sorted sig b ≡ true)
    members_sorted a b c =
        subst (λ (p : Term × Term). (well_sorted sig p.0 ≡ true) × (well_sorted sig p.1 ≡ true)) (only_one (t, renamed base left) (a, b) c) (first.sorted, renamed_sorted)

    image_good : (s : List (Variable × Term)) → Contains (unifiers sig.sorts (pair_of base t left) (base + room)) s → (v : Variable) → is_sort sig v.sort ≡ true → well_sorted sig (image s v) ≡ true
    image_good s member v itself =
        elim (value_of s v) as (λ o. value_of s v ≡ o → well_sorted sig (unwrap_or o (Var v)) ≡ true) [
          | Some x ↦ λ e. kept sig.sorts (λ u. well_sorted sig u ≡ true) (keeps sig pairs lower) (pair_of base t left) (base + room) are_low members_sorted s v x member e
          | None ↦ λ e. itself
        ] refl

    pub unify : (s : List (Variable × Term)) → IsUnifier sig.sorts (pair_of base t left) s → Unify sig t left
    unify u is_unifier =
        let found = complete sig.sorts (pair_of base t left) (base + room) sorts acyclic are_low u is_unifier in
        let s = found.0 in
        let answer = (answered sig.sorts (pair_of base t left) (base + room) s are_low have_one found.1).unifier in
        let back = behind base s (variables left) in
        let made : (w : Variable) → Contains (variables left) w → image back w ≡ image s (raised_var base w) = λ w c. ap (λ o. unwrap_or o (Var w)) (behind_value base s (variables left) w c) in
        record {
          first = s;
          second = back;
          first_sorts = record {
            sorted = λ v c. image_good s found.1 v (variable_sorted sig t v first.sorted c);
            below = λ v c. answer.sorts v (first_has (t, renamed base left) [] v c);
          };
          second_sorts = record {
            sorted = λ w c. ap (well_sorted sig) (made w c) ∙ image_good s found.1 (raised_var base w) (variable_sorted sig left w second.sorted c);
            below = λ w c. subst (λ x. IsAtOrBelow sig.sorts (least_sort x) w.sort) (sym (made w c)) (answer.sorts (raised_var base w) (raised_in base t left w c));
          };
          equal = subst (Same (applied s t)) (sym (behind_renamed base s (variables left) left (λ v c. c))) (answer.equal t (renamed base left) (here (t, renamed base left) []));
        }
