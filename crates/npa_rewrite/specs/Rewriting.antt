-- Rewriting modulo commutativity (Baader, Nipkow 1998; Escobar, Meadows, Meseguer 2009).
use Rattle.std.specs.Prelude.{◌≡◌, ◌≢◌, IsTrue, Contains, All, List, ◌∷◌, ◌++◌}
use Rattle.std.specs.declared.cmp.Ordering.TheVariants.{Greater}
use Rattle.npa_sorts.specs.Subsorts.{Subsorts, IsAtOrBelow}
use Rattle.npa_term.specs.declared.term.Op.{Op}
use Rattle.npa_term.specs.declared.term.Var.{Var as Variable}
use Rattle.npa_term.specs.declared.term.Term.{Term}
use Rattle.npa_term.specs.declared.term.Term.TheVariants.{Var, App}
use Rattle.npa_term.specs.Bound.{applied}
use Rattle.npa_term.specs.Canonical.{canonical}
use Rattle.npa_term.specs.Order.{term_cmp}
use Rattle.npa_term.specs.Parts.{image, least_sort}
use Rattle.npa_term.specs.Same.{Same}
use Rattle.npa_term.specs.Variables.{variables}
use Rattle.npa_sig.specs.Sorting.{well_sorted}
use Rattle.npa_sig.specs.declared.protocol.Equation.{Equation}
use Rattle.npa_rewrite.specs.declared.theory.Theory.{Theory}

-- A substitution that has for each of these variables a term of a sort at or below the variable's
-- (Goguen, Meseguer 1992, on order-sorted substitutions).
abbrev pub FitsSorts : Subsorts → List Variable → List (Variable × Term) → Type 0
FitsSorts o vs s =
    (v : Variable) → Contains vs v → IsAtOrBelow o (least_sort (image s v)) v.sort

-- The second term is the first with the instance of an equation's right side in the place of the
-- instance of its left side, at some position.
pub data Replaces (th : Theory) : Term → Term → Type 0 where
  here : (e : Equation) (s : List (Variable × Term)) → Contains th.equations e →
      FitsSorts th.sig.sorts (variables e.left) s →
      Replaces th (applied s e.left) (applied s e.right)
  inside : (op : Op) (before after : List Term) (t u : Term) → Replaces th t u →
      Replaces th (App op (before ++ t ∷ after)) (App op (before ++ u ∷ after))

-- A term rewrites to another: the replacement is made in a term that equals it modulo
-- commutativity, and the other is the canonical form of what comes of it.
pub record Rewrites (th : Theory) (t u : Term) : Type 0 where
  pub from : Term
  pub to : Term
  pub same : Same t from
  pub replaces : Replaces th from to
  pub form : u ≡ canonical to

-- A term that rewrites to nothing.
abbrev pub IsNormal : Theory → Term → Type 0
IsNormal th t = (u : Term) → Rewrites th t u → ⊥

-- Any number of rewriting steps, none included.
pub data Steps (th : Theory) (t : Term) : Term → Type 0 where
  none : Steps th t t
  more : (u v : Term) → Steps th t u → Rewrites th u v → Steps th t v

-- A normal term that the canonical form of a term rewrites to in any number of steps.
pub record IsNormalFormOf (th : Theory) (t u : Term) : Type 0 where
  pub reached : Steps th (canonical t) u
  pub normal : IsNormal th u

-- The normal form of a term: the least of these normal terms.
pub record IsLeastNormalForm (th : Theory) (t u : Term) : Type 0 where
  pub form : IsNormalFormOf th t u
  pub least : (v : Term) → IsNormalFormOf th t v → term_cmp u v ≢ Greater

-- A theory in which each well-sorted term has exactly one such normal term.
abbrev pub IsConvergent : Theory → Type 0
IsConvergent th =
    (t : Term) → IsTrue (well_sorted th.sig t) →
    (u : Term) × IsNormalFormOf th t u × ((v : Term) → IsNormalFormOf th t v → v ≡ u)

-- A function that has for each well-sorted term its normal form.
abbrev pub GivesNormalForms : Theory → (Term → Term) → Type 0
GivesNormalForms th nf =
    (t : Term) → IsTrue (well_sorted th.sig t) → IsLeastNormalForm th t (nf t)

-- An equation that cancels: its left side isn't a variable, and its right side is a variable that
-- occurs there, of a sort at or below the left side's.
pub record IsCancelling (o : Subsorts) (e : Equation) : Type 0 where
  pub left : (v : Variable) → e.left ≢ Var v
  pub var : Variable
  pub right : e.right ≡ Var var
  pub occurs : Contains (variables e.left) var
  pub sort : IsAtOrBelow o var.sort (least_sort e.left)

-- A theory whose equations all cancel.
abbrev pub AllCancel : Theory → Type 0
AllCancel th = All (IsCancelling th.sig.sorts) th.equations
