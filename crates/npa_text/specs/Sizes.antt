-- How many trees a text has.
use Rattle.std.specs.Prelude.{ℕ, ◌≡◌, ◌≤◌, List, Some, length, slice_get}
use Rattle.npa_syntax.specs.declared.node.Node.{Node}
use Rattle.npa_syntax.specs.Nodes.{children_of}

-- There are at most 1,048,576 trees, and each of them has at most so many children.
pub record IsFew (nodes : List Node) : Type 0 where
  pub trees : length nodes ≤ 1048576
  pub children : (k : ℕ) (n : Node) → slice_get nodes k ≡ Some n → length (children_of n) ≤ 1048576
