-- Sets of facts that one message makes known: the members of a list that aren't empty, and those left.
use Rattle.std.specs.Prelude.{ℕ, ◌+◌, List, [], ◌∷◌, ◌++◌}
use Rattle.npa_term.specs.declared.term.Term.{Term}

-- Some of a list of terms, the others, and the places of the former, each in their order.
pub record Pick : Type 0 where
  pub taken : List Term
  pub left : List Term
  pub places : List ℕ

-- The picks that take more of some terms, numbered from `k`, than was taken before, in the lexicographic
-- order of their places.
abbrev pub picks_from : List Term → List Term → List ℕ → ℕ → List Term → List Pick
picks_from taken left places k [] = []
picks_from taken left places k (t ∷ ts) =
    record { taken = taken ++ t ∷ []; left = left ++ ts; places = places ++ k ∷ [] }
    ∷ picks_from (taken ++ t ∷ []) left (places ++ k ∷ []) (k + 1) ts
    ++ picks_from taken (left ++ t ∷ []) places (k + 1) ts

-- All picks of a list of terms that take one at least.
abbrev pub picks : List Term → List Pick
picks ts = picks_from [] [] [] 0 ts
