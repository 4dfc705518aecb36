-- An item's expansion, as a value.
use Rattle.std.specs.Prelude.{◌≡◌, List, Result, Ok, Err}
use Rattle.fold_core.specs.declared.error.ExpandFail.{ExpandFail}
use Rattle.fold_core.specs.declared.error.ExpandFail.TheVariants.{Large as TooLarge, NoMemory as WantsMemory}
use Rattle.fold_core.specs.Rules.{Rules}

-- The rules, the item and its children.
pub record Expansion (F I : Type 0) : Type 0 where
  pub rules : F
  pub item : I
  pub children : List I

-- The answer is the expansion of the item by the rules, or why there is none.
abbrev pub MadeOf : {F I : Type 0} → Rules I → F → I → Result (Expansion F I) ExpandFail → Type 0
MadeOf r rules x (Ok w) = (w.rules ≡ rules) × (w.item ≡ x) × (r.expansion x ≡ Ok w.children)
MadeOf r rules x (Err (TooLarge why)) = r.expansion x ≡ Err why
MadeOf r rules x (Err WantsMemory) = Unit {0}
