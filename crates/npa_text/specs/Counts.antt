-- Counts of faults, and what a text that is written grows by. A count is a 64-bit number that stays
-- at its last value, 2 ^ 64 - 1.
use Rattle.std.specs.Prelude.{ℕ, ◌≡◌, ◌+◌, ◌<◌, ◌≤◌, ◌⊎◌, ◌++◌, nat_lt, List, take, Option, Some, None, if◌then◌else◌}

-- the count is greater than before, or at its last value
abbrev pub Rose : ℕ → ℕ → Type 0
Rose before after = (before < after) ⊎ (18446744073709551615 ≤ after)

-- the next count
abbrev pub one_more : ℕ → ℕ
one_more n = if nat_lt n 18446744073709551615 then n + 1 else n

-- what was written, if it is told, and bytes behind it
abbrev pub appended : Option (List ℕ) → List ℕ → Option (List ℕ)
appended (Some before) bytes = Some (before ++ bytes)
appended None bytes = None

-- some of the bytes, from the first on, were written
abbrev pub AppendsFront : Option (List ℕ) → Option (List ℕ) → List ℕ → Type 0
AppendsFront before after bytes = (n : ℕ) × (after ≡ appended before (take n bytes))
