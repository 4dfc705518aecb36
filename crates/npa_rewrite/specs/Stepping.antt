-- What the functions that make steps promise each other.
use Rattle.std.specs.Prelude.{◌≡◌, Contains, List, [], ◌∷◌, Option, Some, None}
use Rattle.npa_sorts.specs.Subsorts.{Subsorts}
use Rattle.npa_term.specs.declared.term.Var.{Var as Variable}
use Rattle.npa_term.specs.declared.term.Term.{Term}
use Rattle.npa_term.specs.Bound.{applied}
use Rattle.npa_term.specs.Canonical.{canonical}
use Rattle.npa_term.specs.Same.{Same}
use Rattle.npa_term.specs.Variables.{variables}
use Rattle.npa_match.specs.Matching.{IsMatcher, Matches}
use Rattle.npa_sig.specs.declared.protocol.Equation.{Equation}
use Rattle.npa_rewrite.specs.declared.step.Outcome.{Outcome}
use Rattle.npa_rewrite.specs.declared.step.Outcome.TheVariants.{Made, Normal}
use Rattle.npa_rewrite.specs.declared.theory.Theory.{Theory}
use Rattle.npa_rewrite.specs.Rewriting.{FitsSorts, Rewrites, IsNormal}

-- No instance of an equation's left side equals the term.
abbrev pub HasNoMatch : Theory → Term → Type 0
HasNoMatch th t =
    (e : Equation) (s : List (Variable × Term)) → Contains th.equations e →
    FitsSorts th.sig.sorts (variables e.left) s → Same (applied s e.left) t → ⊥

-- What a term becomes at its root: the canonical instance of the right side of an equation whose
-- left side a matcher sends to the term.
pub record IsRootStep (th : Theory) (t u : Term) : Type 0 where
  pub equation : Equation
  pub matcher : List (Variable × Term)
  pub listed : Contains th.equations equation
  pub matches : IsMatcher th.sig.sorts ((equation.left, t) ∷ []) matcher
  pub form : u ≡ canonical (applied matcher equation.right)

-- No substitution matches the first term onto the second.
abbrev pub AreUnmatched : Subsorts → Term → Term → Type 0
AreUnmatched o t u = (s : List (Variable × Term)) → Matches o ((t, u) ∷ []) s → ⊥

-- What a term becomes, or the term itself where nothing is made of it.
abbrev pub outcome_of : Term → Option Term → Outcome
outcome_of t None = Normal t
outcome_of t (Some u) = Made u

-- The outcome of a term at its root, and anywhere.
abbrev pub IsRootOutcome : Theory → Term → Outcome → Type 0
IsRootOutcome th t (Made u) = IsRootStep th t u
IsRootOutcome th t (Normal u) = HasNoMatch th t

abbrev pub IsOutcome : Theory → Term → Outcome → Type 0
IsOutcome th t (Made u) = Rewrites th t (canonical u)
IsOutcome th t (Normal u) = IsNormal th t
