-- Names in the order in which they were given, as lists of bytes.
use Rattle.std.specs.Prelude.{ℕ, ◌+◌, List, [], ◌∷◌, Option, None, Some, cond}
use Rattle.std.specs.Option.{option_map}
use Rattle.std.specs.Str.{bytes_eq}

-- the place, from 0, of the first name that has these bytes
abbrev pub place_of : List ℕ → List (List ℕ) → Option ℕ
place_of name [] = None
place_of name (n ∷ names) = cond (bytes_eq name n) (Some 0) (option_map (λ k. k + 1) (place_of name names))
