use Rattle.std.proofs.Common.{◌≡◌, drop}
use Rattle.npa_reading.specs.Trees.{seen}
use Rattle.npa_module.specs.Drafts.{nothing}
use Rattle.npa_module.specs.Items.{items_read}
use Rattle.npa_module.specs.Rooms.{HaveRoom}
use Rattle.npa_module.proofs.reader.read_items.Given as goal

abbrev pub invariant-loop-item : goal.invariant-loop-item
invariant-loop-item l = record {
  rest : items_read l.bytes l.tokens l.draft (seen (drop l.item-index l.items)) ≡ items_read l.bytes l.tokens nothing (seen l.items);
  room : HaveRoom l.draft (seen (drop l.item-index l.items));
}
