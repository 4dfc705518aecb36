-- Values of fresh parameters that are looked at one after another.
use Rattle.std.specs.Prelude.{Bool, true, false, ◌||◌, List, [], ◌∷◌, ◌++◌}
use Rattle.std.specs.List.{list_any}
use Rattle.npa_term.specs.declared.term.Term.{Term}
use Rattle.npa_term.specs.declared.term.Term.TheVariants.{Var, Name, App'}
use Rattle.npa_term.specs.declared.term.Var.{Var as Variable}
use Rattle.npa_term.specs.Bound.{same_var}

-- whether one of the terms isn't a variable, or is one that was seen before it, behind these
abbrev pub repeats : List Variable → List Term → Bool
repeats seen [] = false
repeats seen (Var v ∷ ts) = list_any (same_var v) seen || repeats (seen ++ v ∷ []) ts
repeats seen (Name n ∷ ts) = true
repeats seen (App' op n args ∷ ts) = true
