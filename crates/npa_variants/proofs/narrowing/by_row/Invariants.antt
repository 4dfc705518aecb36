use Rattle.std.proofs.Common.{◌≡◌, drop}
use Rattle.std.specs.Borrow.{Bor}
use Rattle.npa_term.specs.declared.term.Term.{Term}
use Rattle.npa_variants.specs.Search.{by_part, by_row, folded}
use Rattle.npa_variants.specs.Told.{as_kept}
use Rattle.npa_variants.proofs.narrowing.by_row.Given as goal

abbrev pub invariant-loop-part : goal.invariant-loop-part
invariant-loop-part l =
    folded (λ (b : Bor Term). by_part 64 l.th l.m l.row b.now) (drop l.part-index l.part-items) (as_kept l.kept)
    ≡ by_row 64 l.th l.m l.row (as_kept l.fn.kept)
