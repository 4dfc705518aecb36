-- What comes of a move by a substitution that unifies its pairs is an instance of what comes of it by a
-- unifier of the list.
use Rattle.std.proofs.Common.{◌≡◌, ℕ, ◌+◌, ◌<◌, None, Some, Option, List, ◌++◌, Contains, refl, sym, ap, subst, inl, inr, unwrap_or, arith}
use Rattle.std.specs.List.{flat_map}
use Rattle.std.proofs.lemmas.List.Elements.{Contains-append_left, Contains-append_right}
use Rattle.npa_sorts.specs.Subsorts.{Subsorts, IsAtOrBelow}
use Rattle.npa_term.specs.declared.term.Term.{Term, Var}
use Rattle.npa_term.specs.declared.term.Var.{Var as Variable}
use Rattle.npa_term.specs.Bound.{applied, value_of}
use Rattle.npa_term.specs.Canonical.{canonical}
use Rattle.npa_term.specs.Composition.{composed}
use Rattle.npa_term.specs.Numbering.{anew, numbering, unnumbering, variables_once}
use Rattle.npa_term.specs.Parts.{image, least_sort}
use Rattle.npa_term.specs.Same.{Same, through}
use Rattle.npa_term.specs.Variables.{variables}
use Rattle.npa_term.proofs.CanonicalLaws.{canonical_same}
use Rattle.npa_term.proofs.CompositionLaws.{composed_does}
use Rattle.npa_term.proofs.Numbered.{is_numbered}
use Rattle.npa_term.proofs.Parts.{only_member, same_sort}
use Rattle.npa_term.proofs.Renumbered.{among_once, from_variable, taken_back}
use Rattle.npa_term.proofs.SameLaws.{same_sym, same_applied}
use Rattle.npa_unify.specs.Unifiers.{Factor, IsAnswer}
use Rattle.npa_variants.proofs.Forms.{canonical_variables}
use Rattle.npa_variants.proofs.Members.{flat_member}
use Rattle.npa_variants.proofs.Sound.{agree}
use Rattle.npa_model.specs.declared.pattern.Pattern.{Pattern}
use Rattle.npa_model.specs.Patterns.{IsTermOf, of_args, of_msgs, of_known, of_unknown}
use Rattle.npa_model.proofs.Places.{member_at}
use Rattle.npa_moves.specs.Finishing.{instance_of, pattern_terms, strand_terms, without_twice}
use Rattle.npa_moves.proofs.Keeping.{once_is}

-- ## A substitution and what follows the unifier

module _ (o : Subsorts) (pairs : List (Term × Term)) (next : ℕ) (σ s : List (Variable × Term)) (answer : IsAnswer o pairs next s) (factor : Factor o pairs next σ s) where
  -- a term whose variables have lower numbers
  pub IsLow : Term → Type 0
  IsLow t = (v : Variable) → Contains (variables t) v → v.num < next

  pub follows : (t : Term) → ((v : Variable) → Contains (variables t) v → v.num < next) → Same (applied factor.then (applied s t)) (applied σ t)
  follows t low = agree s σ factor.then t (λ v c. same_sym (factor.equal v (low v c)))

  -- a variable of a value of the unifier gets a term of its sort
  free_sort : (v w : Variable) → v.num < next → IsAtOrBelow o (least_sort (image σ v)) v.sort → Contains (variables (image s v)) w → value_of s v ≡ None →
      IsAtOrBelow o (least_sort (image factor.then w)) w.sort
  free_sort v w low fits c none =
      let is : image s v ≡ Var v = ap (λ (x : Option Term). unwrap_or x (Var v)) none in
      let same : v ≡ w = only_member v w (subst (λ (t : Term). Contains (variables t) w) is c) in
      subst (λ (x : Variable). IsAtOrBelow o (least_sort (image factor.then x)) x.sort) same
      (subst (λ (t : Term). IsAtOrBelow o (least_sort t) v.sort) (sym (factor.old v low)) fits)

  bound_sort : (v w : Variable) (t : Term) → v.num < next → Contains (variables (image s v)) w → value_of s v ≡ Some t →
      IsAtOrBelow o (least_sort (image factor.then w)) w.sort
  bound_sort v w t low c some = elim (answer.own v t some) [
    | inl d ↦ factor.sorts v w d c
    | inr d ↦ absurd (omega (arith, low, d))
  ]

  pub then_sort : (v w : Variable) → v.num < next → IsAtOrBelow o (least_sort (image σ v)) v.sort → Contains (variables (image s v)) w →
      IsAtOrBelow o (least_sort (image factor.then w)) w.sort
  then_sort v w low fits c =
      elim (value_of s v) as (λ (x : Option Term). value_of s v ≡ x → IsAtOrBelow o (least_sort (image factor.then w)) w.sort) [
        | None ↦ λ e. free_sort v w low fits c e
        | Some t ↦ λ e. bound_sort v w t low c e
      ] refl

-- ## The terms of a draft

pub in_terms : (g : Pattern) (t : Term) → IsTermOf g t → Contains (pattern_terms g) t
in_terms g t (of_args k p e c) = Contains-append_left (flat_map strand_terms g.strands) (g.known ++ g.unknown) t
    (flat_member strand_terms g.strands p t (member_at g.strands k p e) (Contains-append_left p.args p.msgs t c))
in_terms g t (of_msgs k p e c) = Contains-append_left (flat_map strand_terms g.strands) (g.known ++ g.unknown) t
    (flat_member strand_terms g.strands p t (member_at g.strands k p e) (Contains-append_right p.args p.msgs t c))
in_terms g t (of_known c) = Contains-append_right (flat_map strand_terms g.strands) (g.known ++ g.unknown) t (Contains-append_left g.known g.unknown t c)
in_terms g t (of_unknown c) = Contains-append_right (flat_map strand_terms g.strands) (g.known ++ g.unknown) t (Contains-append_right g.known g.unknown t c)

pub with_twice : (g : Pattern) (t : Term) → IsTermOf (without_twice g) t → IsTermOf g t
with_twice g t (of_args k p e c) = of_args k p e c
with_twice g t (of_msgs k p e c) = of_msgs k p e c
with_twice g t (of_known c) = of_known (once_is g.known t c)
with_twice g t (of_unknown c) = of_unknown (once_is g.unknown t c)

-- ## The numbers are taken back

module _ (s then : List (Variable × Term)) (ts : List Term) where
  -- back to the old numbers, and on
  pub onward : List (Variable × Term)
  onward = composed (unnumbering ts) then

  pub back_again : (t : Term) → Contains ts t → Same (applied onward (instance_of (numbering ts) t)) (applied then t)
  unfolding onward
  back_again t c =
      let y = applied (numbering ts) t in
      through (applied onward (canonical y)) (applied onward y) (applied then t)
      (same_applied onward (same_sym (canonical_same y)))
      (subst (λ (x : Term). Same (applied onward y) (applied then x)) (taken_back ts t c) (composed_does (unnumbering ts) then y))

  pub back_twice : (t : Term) → Contains ts (instance_of s t) → Same (applied onward (instance_of (numbering ts) (instance_of s t))) (applied then (applied s t))
  back_twice t c =
      through (applied onward (instance_of (numbering ts) (instance_of s t))) (applied then (instance_of s t)) (applied then (applied s t))
      (back_again (instance_of s t) c)
      (same_applied then (same_sym (canonical_same (applied s t))))

  -- a new variable stands for one of the terms
  pub record OldOf (t : Term) (v : Variable) : Type 0 where
    pub old : Variable
    pub within : Contains (variables t) old
    pub same_sort : old.sort ≡ v.sort
    pub stands : Same (image onward v) (image then old)

  pub old_of : (t : Term) (v : Variable) → Contains ts t → Contains (variables (instance_of (numbering ts) t)) v → OldOf t v
  unfolding onward
  old_of t v c d =
      let from = from_variable (numbering ts) v t (canonical_variables (applied (numbering ts) t) v d) in
      let w = from.0 in
      let new = is_numbered 0 (variables_once ts) w (among_once ts t c w from.1) in
      let is : image (numbering ts) w ≡ Var (anew new.number w) = ap (λ (x : Option Term). unwrap_or x (Var w)) new.bound in
      let named : anew new.number w ≡ v = only_member (anew new.number w) v (subst (λ (x : Term). Contains (variables x) v) is from.2) in
      let back : image (unnumbering ts) v ≡ Var w = subst (λ (x : Variable). image (unnumbering ts) x ≡ Var w) named (ap (λ (x : Option Term). unwrap_or x (Var (anew new.number w))) new.back) in
      record {
        old = w;
        within = from.1;
        same_sort = ap (λ (x : Variable). x.sort) named;
        stands = subst (λ (x : Term). Same (image onward v) (applied then x)) back (composed_does (unnumbering ts) then (Var v));
      }
