use Rattle.std.specs.Prelude.{ℕ, zero, suc, ◌+◌, Bool, not, nat_eq, ◌&&◌, List, [], ◌∷◌, ◌++◌}
use Rattle.std.specs.List.{filter, list_any}
use Rattle.npa_sorts.specs.Subsorts.{Subsorts, at_or_below}

-- The maximal lower sorts of two sorts, computed.

-- The numbers below a number, in ascending order.
abbrev pub numbers : ℕ → List ℕ
numbers zero = []
numbers (suc n) = numbers n ++ n ∷ []

-- Whether a sort is at or below both.
abbrev pub is_lower : Subsorts → ℕ → ℕ → ℕ → Bool
is_lower o s t r = at_or_below o r s && at_or_below o r t

-- Whether another sort that is at or below both is above this one.
abbrev pub passes : Subsorts → ℕ → ℕ → ℕ → ℕ → Bool
passes o s t r q = is_lower o s t q && (not (nat_eq q r) && at_or_below o r q)

-- Whether a sort is a maximal one of those that are at or below both.
abbrev pub is_maximal : Subsorts → ℕ → ℕ → ℕ → Bool
is_maximal o s t r = is_lower o s t r && not (list_any (passes o s t r) (numbers (o.declared + 2)))

-- The maximal sorts at or below both, in ascending order (Meseguer, Goguen, Smolka 1989, on the
-- maximal common subsorts of two variables that are unified).
abbrev pub lowers : Subsorts → ℕ → ℕ → List ℕ
lowers o s t = filter (is_maximal o s t) (numbers (o.declared + 2))
