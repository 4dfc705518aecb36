use Rattle.std.proofs.Common.{◌≡◌, false, [], ◌∷◌, ◌++◌, map, take}
use Rattle.npa_sorts.specs.Table.{rows_of}
use Rattle.npa_sorts.proofs.table.grown.Given as goal

abbrev pub invariant-loop-row : goal.invariant-loop-row
invariant-loop-row l = rows_of l.grown.items ≡ map (λ row. row ++ false ∷ []) (rows_of (take l.row-index l.table))
