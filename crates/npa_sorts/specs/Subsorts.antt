use Rattle.std.specs.Prelude.{◌≡◌, ◌≢◌, ℕ, ◌+◌, ◌<◌, ◌≤◌, Bool, nat_eq, nat_le, nat_lt, ◌||◌, ◌&&◌, List, [], ◌∷◌, Contains, All, ◌⊎◌}

-- What an order of sorts is declared by: how many sorts are declared, which are numbered from 2,
-- and pairs of a lower and an upper sort. Sort 0 is `Msg` and sort 1 is `Fresh`.
pub record Subsorts : Type 0 where
  pub declared : ℕ
  pub pairs : List (ℕ × ℕ)

-- The order that so many sorts and these pairs declare.
abbrev pub subsorts : ℕ → List (ℕ × ℕ) → Subsorts
subsorts declared pairs = record { declared = declared; pairs = pairs }

-- The number of a sort: `Msg`, `Fresh` or a declared one.
abbrev pub IsSort : Subsorts → ℕ → Type 0
IsSort o s = s < o.declared + 2

-- One step up: a declared pair, or from a declared sort to `Msg`.
pub data IsStep (o : Subsorts) : ℕ → ℕ → Type 0 where
  pair : (s t : ℕ) → Contains o.pairs (s, t) → IsStep o s t
  to_msg : (s : ℕ) → 2 ≤ s → IsSort o s → IsStep o s 0

-- Strictly below: one or more steps up (Goguen, Meseguer 1992, on the subsort order of an
-- order-sorted signature).
pub data IsBelow (o : Subsorts) : ℕ → ℕ → Type 0 where
  step : (s t : ℕ) → IsStep o s t → IsBelow o s t
  climb : (s t u : ℕ) → IsStep o s t → IsBelow o t u → IsBelow o s u

-- At or below: any number of steps up, none included.
abbrev pub IsAtOrBelow : Subsorts → ℕ → ℕ → Type 0
IsAtOrBelow o s t = (s ≡ t) ⊎ IsBelow o s t

-- Whether a sort is at or below another, computed: one more pair puts what is at or below its
-- lower sort below what is at or above its upper one (transitive closure one arrow at a time:
-- Warshall 1962).
abbrev pub climbs : ℕ → List (ℕ × ℕ) → ℕ → ℕ → Bool
climbs declared [] s t = nat_eq s t || (nat_eq t 0 && nat_le 2 s && nat_lt s (declared + 2))
climbs declared (p ∷ ps) s t =
    climbs declared ps s t || (climbs declared ps s p.0 && climbs declared ps p.1 t)

-- The same of an order.
abbrev pub at_or_below : Subsorts → ℕ → ℕ → Bool
at_or_below o s t = climbs o.declared o.pairs s t

-- The least sort that is strictly below itself.
pub record IsFirstInCycle (o : Subsorts) (s : ℕ) : Type 0 where
  pub cyclic : IsBelow o s s
  pub earlier : (r : ℕ) → r < s → IsBelow o r r → ⊥

-- A maximal one of the sorts that are at or below both: no other such sort is above it.
pub record IsMaximalLower (o : Subsorts) (s t lower : ℕ) : Type 0 where
  pub first : IsAtOrBelow o lower s
  pub second : IsAtOrBelow o lower t
  pub maximal : (r : ℕ) → IsAtOrBelow o r s → IsAtOrBelow o r t →
      IsAtOrBelow o lower r → lower ≡ r

-- Whether a pair names `Fresh`.
abbrev pub names_fresh : ℕ × ℕ → Bool
names_fresh p = nat_eq p.0 1 || nat_eq p.1 1

-- Each pair is one of sorts.
abbrev pub AreSorts : Subsorts → Type 0
AreSorts o = All (λ p. IsSort o p.0 × IsSort o p.1) o.pairs

-- Another sort that is at or below both, above the given one.
pub record IsPassedBy (o : Subsorts) (s t lower other : ℕ) : Type 0 where
  pub different : lower ≢ other
  pub above : IsAtOrBelow o lower other
  pub first : IsAtOrBelow o other s
  pub second : IsAtOrBelow o other t
