-- What a search is made of: the meanings of a `Folding`, and the laws that it keeps.
use Rattle.std.specs.Prelude.{◌≡◌, List, Bool, true, Result, Ok, Err}
use Rattle.fold_core.specs.declared.error.Large.{Large}
use Rattle.fold_core.specs.declared.error.ExpandFail.{ExpandFail}
use Rattle.fold_core.specs.declared.error.ExpandFail.TheVariants.{Large as TooLarge, NoMemory as WantsMemory}

-- The meanings of the rules over items: which item covers which, as a pattern covers its instances
-- (folding variant narrowing: Escobar, Sasse, Meseguer 2012); which are initial; and the children
-- of each, in order, or how large the first result is that is past a limit.
pub record Rules (I : Type 0) : Type 0 where
  pub covers : I → I → Bool
  pub initial : I → Bool
  pub expansion : I → Result (List I) Large

-- Covers is a preorder, and what covers an initial item is initial.
pub record Lawful {I : Type 0} (r : Rules I) : Type 0 where
  pub reflexive : (t : I) → r.covers t t ≡ true
  pub transitive : (t u v : I) → r.covers t u ≡ true → r.covers u v ≡ true → r.covers t v ≡ true
  pub starts : (t s : I) → r.covers t s ≡ true → r.initial s ≡ true → r.initial t ≡ true

-- The answer of a call is the expansion, unless memory was wanting.
abbrev pub Expands : {I : Type 0} → Result (List I) ExpandFail → Result (List I) Large → Type 0
Expands (Ok children) expansion = expansion ≡ Ok children
Expands (Err (TooLarge why)) expansion = expansion ≡ Err why
Expands (Err WantsMemory) expansion = Unit {0}
