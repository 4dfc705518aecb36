use Rattle.std.proofs.Common.{◌≡◌, ◌++◌, drop}
use Rattle.npa_checking.specs.Lines.{variant_lines}
use Rattle.npa_checking.proofs.strand_lines.put_variants.Given as goal

abbrev pub invariant-loop-variant : goal.invariant-loop-variant
invariant-loop-variant l = l.text.items ++ variant_lines l.sig l.count (drop l.variant-index l.list) ≡ l.fn.text.items ++ variant_lines l.sig l.count l.list
