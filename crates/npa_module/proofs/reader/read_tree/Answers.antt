use Rattle.std.proofs.Common.{ap, sym, ◌∙◌, Ok}
use Rattle.npa_reading.specs.Trees.{seen}
use Rattle.npa_module.proofs.Whole.{tree_read}
use Rattle.npa_module.proofs.reader.read_tree.Goals as goal

pub returns-in-Ok : goal.returns-in-Ok
returns-in-Ok c =
    tree_read c.args.bytes.now c.args.tokens.now c.args.nodes.now c.below-inside.result.now (seen c.as_slice.result.now) (Ok c.in-Ok.draft) c.in_ok-name.name c.word_of.result.now
    c.below-inside.ensures (ap seen c.as_slice.ensures.value ∙ c.in_ok-items.ensures) c.in_ok-name.ensures c.word_of.ensures c.in-Ok.ensures
    ∙ sym c.finished.ensures
