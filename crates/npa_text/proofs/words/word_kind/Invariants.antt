use Rattle.std.proofs.Common.{◌≡◌, drop, map}
use Rattle.npa_text.specs.Terminals.{word_in}
use Rattle.npa_text.specs.ReservedRows.{plain}
use Rattle.npa_text.proofs.words.word_kind.Given as goal

abbrev pub invariant-loop-reserved : goal.invariant-loop-reserved
invariant-loop-reserved l =
    word_in (map plain (drop l.reserved-index l.reserved-items)) l.word ≡ word_in (map plain l.reserved-items) l.word
