-- Critical pairs that are joined (Knuth, Bendix 1970; modulo commutativity: Peterson, Stickel 1981).
use Rattle.std.specs.Prelude.{Contains, List, ◌∷◌}
use Rattle.npa_term.specs.declared.term.Var.{Var as Variable}
use Rattle.npa_term.specs.declared.term.Term.{Term}
use Rattle.npa_term.specs.Bound.{applied}
use Rattle.npa_term.specs.Same.{Same}
use Rattle.npa_term.specs.Variables.{variables}
use Rattle.npa_sig.specs.declared.protocol.Equation.{Equation}
use Rattle.npa_rewrite.specs.declared.theory.Theory.{Theory}
use Rattle.npa_rewrite.specs.Reducing.{Joins}
use Rattle.npa_rewrite.specs.Rewriting.{FitsSorts}
use Rattle.npa_conv.specs.Overlaps.{hole, holes}

-- Wherever an instance of a part of a left side equals an instance of a left side, the instance of the
-- whole left side goes on to two terms, by either equation: they lead to one term.
abbrev pub AreCritical : Theory → Type 0
AreCritical th =
    (i j : Equation) → Contains th.equations i → Contains th.equations j →
    (s z : List (Variable × Term)) → FitsSorts th.sig.sorts (variables i.left) s →
    FitsSorts th.sig.sorts (variables j.left) z →
    (part around : Term) → Contains (holes i.left) (part, around) →
    Same (applied s part) (applied z j.left) →
    Joins th (applied s i.right) (applied ((hole, applied z j.right) ∷ s) around)
