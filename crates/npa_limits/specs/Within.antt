-- What a module text within its limits has at most.
use Rattle.std.specs.Prelude.{ℕ, ◌≡◌, ◌≤◌, ◌||◌, true, List, Some, slice_get}
use Rattle.npa_syntax.specs.declared.node.Node.{Node}
use Rattle.npa_syntax.specs.Nodes.{children_of}
use Rattle.npa_limits.specs.Limits.{number, total, sizes_of, is_sort, is_op, is_eq, is_strand, is_aim, args_of, events_of, params_of, parts_of, is_known, is_strand_part}

-- An operator has at most 16 arguments, a strand at most 32 events, 64 parameters and 1,024 symbols, an
-- aim at most 32 strand parts and 64 known ones, and each term of an equation or an aim at most 1,024
-- symbols.
pub record IsItemWithin (item : Node) : Type 0 where
  pub args : is_op item ≡ true → args_of item ≤ 16
  pub events : is_strand item ≡ true → events_of item ≤ 32
  pub params : is_strand item ≡ true → params_of (children_of item) ≤ 64
  pub symbols : is_strand item ≡ true → total (sizes_of (children_of item)) ≤ 1024
  pub strand_parts : is_aim item ≡ true → number is_strand_part (parts_of item) ≤ 32
  pub known_parts : is_aim item ≡ true → number is_known (parts_of item) ≤ 64
  pub terms : (is_eq item || is_aim item) ≡ true → (k : ℕ) (size : ℕ) → slice_get (sizes_of (children_of item)) k ≡ Some size → size ≤ 1024

-- There are at most 256 sorts, 4,096 operators, 256 equations, 1,024 strands and 256 aims, and each item
-- is within its limits.
pub record AreWithin (items : List Node) : Type 0 where
  pub sorts : number is_sort items ≤ 256
  pub ops : number is_op items ≤ 4096
  pub equations : number is_eq items ≤ 256
  pub strands : number is_strand items ≤ 1024
  pub aims : number is_aim items ≤ 256
  pub each : (k : ℕ) (item : Node) → slice_get items k ≡ Some item → IsItemWithin item
