-- Lists in which no number stands twice.
use Rattle.std.specs.Prelude.{⊤, ℕ, List, [], ◌∷◌, Contains}

-- no number stands twice
abbrev pub AreDifferent : List ℕ → Type 0
AreDifferent [] = ⊤
AreDifferent (n ∷ ns) = (Contains ns n → ⊥) × AreDifferent ns
