-- Numbers in classes, as a forest: each class is a tree, and each of its numbers leads to its head.
-- Joined by size (Galler and Fischer 1964, Tarjan 1975), a tree of n numbers has log n levels.
use Rattle.std.specs.Prelude.{◌≡◌, ℕ, ◌<◌, nat_lt, if◌then◌else◌, List, length}
use Rattle.fold_core.specs.Machine.{Stands}
use Rattle.fold_store.specs.declared.forest.Node.{Node}

-- No number leads to one that isn't there.
pub record InForest (nodes : List Node) : Type 0 where
  pub up : (n : ℕ) (node : Node) → Stands nodes n node → node.up < length nodes
  pub last : (n : ℕ) (node : Node) → Stands nodes n node → node.last < length nodes

-- The label is the same throughout each class.
pub record SameInClass (label : ℕ → ℕ) (nodes : List Node) : Type 0 where
  pub up : (n : ℕ) (node : Node) → Stands nodes n node → label node.up ≡ label n
  pub last : (n : ℕ) (node : Node) → Stands nodes n node → label node.last ≡ label n

-- The label where the numbers from this one on have one of their own.
abbrev pub with_own : (ℕ → ℕ) → ℕ → ℕ → ℕ → ℕ
with_own label many own n = if nat_lt n many then label n else own
