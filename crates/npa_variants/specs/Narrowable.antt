-- What a complete list of variants is asked of, and what is said of the list that is found.
use Rattle.std.specs.Prelude.{◌≡◌, ◌⊎◌, ℕ, ◌^◌, ◌<◌, true, Some, Contains, List, ◌∷◌, map, slice_get}
use Rattle.std.specs.List.{flat_map}
use Rattle.npa_sorts.specs.Subsorts.{AreSorts, IsBelow}
use Rattle.npa_term.specs.declared.term.Var.{Var as Variable}
use Rattle.npa_term.specs.declared.term.Term.{Term}
use Rattle.npa_term.specs.declared.term.Term.TheVariants.{Var, Name}
use Rattle.npa_term.specs.Bound.{BindsOnce}
use Rattle.npa_term.specs.Numbering.{variables_once}
use Rattle.npa_term.specs.Parts.{IsPart}
use Rattle.npa_term.specs.Variables.{variables}
use Rattle.npa_sig.specs.Operators.{IsWellFormedSignature}
use Rattle.npa_sig.specs.Sorting.{well_sorted}
use Rattle.npa_sig.specs.WellFormed.{AreWellFormedEquations, IsPlainEquation}
use Rattle.npa_sig.specs.declared.protocol.Equation.{Equation}
use Rattle.npa_rewrite.specs.declared.theory.Theory.{Theory}
use Rattle.npa_rewrite.specs.Innermost.{normalized}
use Rattle.npa_rewrite.specs.Rewriting.{AllCancel, IsConvergent}
use Rattle.npa_variants.specs.declared.variant.Variant.{Variant}
use Rattle.npa_variants.specs.Variants.{AreApart, IsComplete, IsVariant, row_of, variant_variables}

-- The equations cancel and converge, over an order of sorts and a well-formed signature; no fresh name
-- stands in them. The terms are well sorted, their variables have numbers below 2^30, and no number stands
-- with two sorts.
pub record IsNarrowable (th : Theory) (terms : List Term) : Type 0 where
  pub cancel : AllCancel th
  pub convergent : IsConvergent th
  pub signature : IsWellFormedSignature th.sig
  pub sorts : AreSorts th.sig.sorts
  pub acyclic : (r : ℕ) → IsBelow th.sig.sorts r r → ⊥
  pub formed : AreWellFormedEquations th.sig th.equations
  pub plain : (k : ℕ) (equation : Equation) → slice_get th.equations k ≡ Some equation →
      IsPlainEquation equation
  pub sorted : (t : Term) → Contains terms t → well_sorted th.sig t ≡ true
  pub small : (v : Variable) → Contains (flat_map variables terms) v → v.num < 2 ^ 30
  pub one : (v w : Variable) → Contains (flat_map variables terms) v →
      Contains (flat_map variables terms) w → v.num ≡ w.num → v ≡ w

-- The terms themselves: each variable stands for itself.
abbrev pub first_variant : Theory → List Term → Variant
first_variant th terms = record {
  subst = map (λ v. (v, Var v)) (variables_once terms);
  terms = map (normalized th) terms;
}

-- The numbers of these variables are those from 0 on, without gaps, and no number stands with two sorts.
pub record AreNumbered (vs : List Variable) : Type 0 where
  pub count : ℕ
  pub below : (v : Variable) → Contains vs v → v.num < count
  pub all : (k : ℕ) → k < count → (v : Variable) × Contains vs v × (v.num ≡ k)
  pub one : (v w : Variable) → Contains vs v → Contains vs w → v.num ≡ w.num → v ≡ w

-- A complete list of variants of terms, none of which covers another, that begins with the terms
-- themselves. No variable is bound twice, no fresh name is new, and the variables are numbered anew in
-- all but the first.
pub record AreVariants (th : Theory) (terms : List Term) (list : List Variant) : Type 0 where
  pub members : (v : Variant) → Contains list v → IsVariant th terms v
  pub complete : IsComplete th terms list
  pub apart : AreApart th.sig.sorts list
  pub first : (others : List Variant) × (list ≡ first_variant th terms ∷ others)
  pub once : (v : Variant) → Contains list v → BindsOnce v.subst
  pub nameless : (v : Variant) → Contains list v → (t : Term) → Contains (row_of v) t → (n : ℕ) →
      IsPart (Name n) t → (u : Term) × Contains terms u × IsPart (Name n) u
  pub numbered : (v : Variant) → Contains list v →
      (v ≡ first_variant th terms) ⊎ AreNumbered (variant_variables v)
