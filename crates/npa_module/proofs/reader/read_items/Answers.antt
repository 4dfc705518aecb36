use Rattle.std.proofs.Common.{arith}
use Rattle.npa_reading.specs.Trees.{seen}
use Rattle.npa_module.specs.Drafts.{nothing}
use Rattle.npa_module.specs.Items.{items_read}
use Rattle.npa_module.proofs.Growth.{item_room, item_fails, next_item, next_room}
use Rattle.npa_module.proofs.reader.read_items.Goals as goal

pub add_item-requires : goal.add_item-requires
add_item-requires c = item_room c.loop-item.draft c.args.items.now c.loop-item.item-index c.item-item.result (omega arith) c.item-item.is c.loop-item.invariant.room

pub returns-in-Err : goal.returns-in-Err
returns-in-Err c =
    item_fails c.args.bytes.now c.args.tokens.now c.loop-item.draft c.args.items.now c.loop-item.item-index c.item-item.result (omega arith) c.item-item.is
    (items_read c.args.bytes.now c.args.tokens.now nothing (seen c.args.items.now)) c.in-Err.error c.in-Err.ensures c.loop-item.invariant.rest

pub loop-item-preserved : goal.loop-item-preserved
loop-item-preserved c = record {
  rest =
      next_item c.args.bytes.now c.args.tokens.now c.loop-item.draft c.args.items.now c.loop-item.item-index c.item-item.result (omega arith) c.item-item.is
      (items_read c.args.bytes.now c.args.tokens.now nothing (seen c.args.items.now)) c.in-Ok.draft c.in-Ok.ensures c.loop-item.invariant.rest;
  room =
      next_room c.args.bytes.now c.args.tokens.now c.loop-item.draft c.args.items.now c.loop-item.item-index c.item-item.result (omega arith) c.item-item.is
      (items_read c.args.bytes.now c.args.tokens.now nothing (seen c.args.items.now)) c.in-Ok.draft c.in-Ok.ensures c.loop-item.invariant.room;
}
