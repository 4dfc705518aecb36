use Rattle.std.proofs.Common.{◌≡◌, length, map, drop}
use Rattle.npa_reading.specs.Trees.{seen, word_at}
use Rattle.npa_run_text.specs.RunTexts.{same_names}
use Rattle.npa_run_text.proofs.reader.same_names.Given as goal

abbrev pub invariant-loop-k : goal.invariant-loop-k
invariant-loop-k l = record {
  rest : same_names (map (word_at l.bytes l.tokens) (seen (drop l.k l.nodes))) (drop l.k l.names) ≡ same_names (map (word_at l.bytes l.tokens) (seen l.nodes)) l.names;
  even : length l.nodes ≡ length l.names;
}
