use Rattle.std.specs.Prelude.{◌≡◌, ℕ, ◌+◌, ◌<◌, ◌≤◌, Bool, true, false, cond, Some, List, [], ◌∷◌, ◌++◌, map, length}
use Rattle.std.specs.List.{flat_map}
use Rattle.npa_term.specs.declared.term.Var.{Var as Variable}
use Rattle.npa_term.specs.declared.term.Term.{Term, Var}
use Rattle.npa_term.specs.Bound.{same_var, value_of, applied}
use Rattle.npa_term.specs.Canonical.{canonical}
use Rattle.npa_term.specs.Variables.{variables}

-- Terms with their variables numbered anew, from 0 in the order in which they first occur: of the
-- variants of a list of terms (Baader, Nipkow 1998, on renamings) the one that the order of its
-- symbols picks.

-- Whether a variable is one of a list.
abbrev pub is_listed : List Variable → Variable → Bool
is_listed [] v = false
is_listed (w ∷ ws) v = cond (same_var w v) true (is_listed ws v)

-- The variables that were seen, and then each further one of a list once, in its order.
abbrev pub once_after : List Variable → List Variable → List Variable
once_after seen [] = seen
once_after seen (v ∷ vs) = cond (is_listed seen v) (once_after seen vs) (once_after (seen ++ v ∷ []) vs)

-- The variables of terms, each once, in the order in which they first occur.
abbrev pub variables_once : List Term → List Variable
variables_once ts = once_after [] (flat_map variables ts)

-- The variable of a number, with the sort of another.
abbrev pub anew : ℕ → Variable → Variable
anew k v = record { num = k; sort = v.sort }

-- Variables to those with the numbers from `k` on.
abbrev pub numbered : ℕ → List Variable → List (Variable × Term)
numbered k [] = []
numbered k (v ∷ vs) = (v, Var (anew k v)) ∷ numbered (k + 1) vs

-- The variables with the numbers from `k` on back to those that were numbered.
abbrev pub unnumbered : ℕ → List Variable → List (Variable × Term)
unnumbered k [] = []
unnumbered k (v ∷ vs) = (anew k v, Var v) ∷ unnumbered (k + 1) vs

-- The substitution that numbers the variables of terms anew.
abbrev pub numbering : List Term → List (Variable × Term)
numbering ts = numbered 0 (variables_once ts)

-- The one that takes it back.
abbrev pub unnumbering : List Term → List (Variable × Term)
unnumbering ts = unnumbered 0 (variables_once ts)

-- The terms with their variables numbered anew, each canonical.
abbrev pub renumbered : List Term → List Term
renumbered ts = map (λ t. canonical (applied (numbering ts) t)) ts

-- A variable of a list gets a number from `k` on, below the end of the list, which leads back to it.
pub record IsNumbered (k : ℕ) (vs : List Variable) (v : Variable) : Type 0 where
  pub number : ℕ
  pub from : k ≤ number
  pub within : number < k + length vs
  pub bound : value_of (numbered k vs) v ≡ Some (Var (anew number v))
  pub back : value_of (unnumbered k vs) (anew number v) ≡ Some (Var v)
