-- Terms whose instances by normal terms are normal (Escobar, Meadows, Meseguer 2009, on attack
-- patterns in normal form; unification modulo commutativity: Baader, Nipkow 1998).
use Rattle.std.specs.Prelude.{◌≢◌, List, Contains}
use Rattle.npa_term.specs.declared.term.Var.{Var as Variable}
use Rattle.npa_term.specs.declared.term.Term.{Term}
use Rattle.npa_term.specs.declared.term.Term.TheVariants.{Var}
use Rattle.npa_term.specs.Bound.{applied}
use Rattle.npa_term.specs.Parts.{IsPart}
use Rattle.npa_term.specs.Same.{Same}
use Rattle.npa_term.specs.Variables.{variables}
use Rattle.npa_sig.specs.Signature.{Signature}
use Rattle.npa_sig.specs.Substitutions.{RespectsSorts}
use Rattle.npa_sig.specs.declared.protocol.Equation.{Equation}
use Rattle.npa_rewrite.specs.declared.theory.Theory.{Theory}

-- Two terms whose variables are kept apart unify: each has an instance, by a substitution of its
-- own that respects sorts, and the two instances are equal modulo commutativity.
pub record Unify (sig : Signature) (t u : Term) : Type 0 where
  pub first : List (Variable × Term)
  pub second : List (Variable × Term)
  pub first_sorts : RespectsSorts sig (variables t) first
  pub second_sorts : RespectsSorts sig (variables u) second
  pub equal : Same (applied first t) (applied second u)

-- No part of the term that isn't a variable unifies with the left side of an equation.
abbrev pub IsAcceptedTerm : Theory → Term → Type 0
IsAcceptedTerm th t =
    (u : Term) → IsPart u t → ((v : Variable) → u ≢ Var v) →
    (e : Equation) → Contains th.equations e → Unify th.sig u e.left → ⊥
