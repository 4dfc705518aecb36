-- Equations that make terms lighter (Baader, Nipkow 1998, on reduction orders; modulo commutativity:
-- Peterson, Stickel 1981).
use Rattle.std.specs.Prelude.{◌≡◌, ◌<◌, ℕ, IsTrue, Contains, List, ◌∷◌, ◌++◌}
use Rattle.npa_sorts.specs.Subsorts.{IsAtOrBelow}
use Rattle.npa_term.specs.declared.term.Op.{Op}
use Rattle.npa_term.specs.declared.term.Var.{Var as Variable}
use Rattle.npa_term.specs.declared.term.Term.{Term}
use Rattle.npa_term.specs.declared.term.Term.TheVariants.{App}
use Rattle.npa_term.specs.Bound.{applied}
use Rattle.npa_term.specs.Parts.{least_sort}
use Rattle.npa_term.specs.Same.{Same}
use Rattle.npa_term.specs.Variables.{variables}
use Rattle.npa_sig.specs.Sorting.{well_sorted}
use Rattle.npa_sig.specs.declared.protocol.Equation.{Equation}
use Rattle.npa_rewrite.specs.declared.theory.Theory.{Theory}
use Rattle.npa_rewrite.specs.Rewriting.{FitsSorts}

-- Each left side is an application, which has the right side's variables. An instance of the right
-- side is well sorted where that of the left side is, of a sort at or below that one's, and lighter.
-- Terms that are equal modulo commutativity weigh the same, and a term weighs less with a lighter one
-- in the place of an argument.
pub record Lightens (th : Theory) (weigh : Term → ℕ) : Type 0 where
  pub left : (e : Equation) → Contains th.equations e →
      (op : Op) × (ts : List Term) × (e.left ≡ App op ts)
  pub within : (e : Equation) (v : Variable) → Contains th.equations e →
      Contains (variables e.right) v → Contains (variables e.left) v
  pub sorted : (e : Equation) (s : List (Variable × Term)) → Contains th.equations e →
      FitsSorts th.sig.sorts (variables e.left) s → IsTrue (well_sorted th.sig (applied s e.left)) →
      IsTrue (well_sorted th.sig (applied s e.right))
  pub sort : (e : Equation) (s : List (Variable × Term)) → Contains th.equations e →
      FitsSorts th.sig.sorts (variables e.left) s →
      IsAtOrBelow th.sig.sorts (least_sort (applied s e.right)) (least_sort (applied s e.left))
  pub lighter : (e : Equation) (s : List (Variable × Term)) → Contains th.equations e →
      FitsSorts th.sig.sorts (variables e.left) s →
      weigh (applied s e.right) < weigh (applied s e.left)
  pub classes : (t u : Term) → Same t u → weigh t ≡ weigh u
  pub under : (op : Op) (before after : List Term) (t u : Term) → weigh u < weigh t →
      weigh (App op (before ++ u ∷ after)) < weigh (App op (before ++ t ∷ after))
