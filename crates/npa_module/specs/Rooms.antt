-- Modules within the limits, whose sorts, operators, strands and events have numbers of 16 bits.
use Rattle.std.specs.Prelude.{◌≡◌, ◌≤◌, ℕ, ◌+◌, List, length, Some, slice_get}
use Rattle.npa_syntax.specs.declared.node.Node.{Node}
use Rattle.npa_sig.specs.declared.protocol.Strand.{Strand}
use Rattle.npa_module.specs.declared.draft.Draft.{Draft}
use Rattle.npa_limits.specs.Limits.{number, is_sort, is_op, is_strand}
use Rattle.npa_limits.specs.Within.{IsItemWithin}

-- no strand has more events than the limit
abbrev pub AreShort : List Strand → Type 0
AreShort strands = (k : ℕ) (strand : Strand) → slice_get strands k ≡ Some strand → length strand.events ≤ 32

-- a name for each sort and for each strand
pub record IsNamed (d : Draft) : Type 0 where
  pub sorts : length d.sorts ≡ d.sig.sorts.declared + 2
  pub strands : length d.strands.names ≡ length d.strands.list

-- what is declared is within the limits, and the item is
pub record HasRoom (d : Draft) (item : Node) : Type 0 where
  pub named : IsNamed d
  pub sorts : d.sig.sorts.declared ≤ 256
  pub ops : length d.sig.ops ≤ 4096
  pub strands : length d.strands.list ≤ 1024
  pub short : AreShort d.strands.list
  pub within : IsItemWithin item

-- what is declared and the items to come are together within the limits
pub record HaveRoom (d : Draft) (items : List Node) : Type 0 where
  pub named : IsNamed d
  pub sorts : d.sig.sorts.declared + number is_sort items ≤ 256
  pub ops : length d.sig.ops + number is_op items ≤ 4096
  pub strands : length d.strands.list + number is_strand items ≤ 1024
  pub short : AreShort d.strands.list
  pub each : (k : ℕ) (item : Node) → slice_get items k ≡ Some item → IsItemWithin item
