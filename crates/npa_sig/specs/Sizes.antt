-- Sizes of least ground terms by rounds: each settles an operator with the fewest symbols of those
-- whose arguments are settled (Knuth 1977, a generalization of Dijkstra's algorithm).
use Rattle.std.specs.Prelude.{◌≡◌, ℕ, ◌+◌, ◌≤◌, ◌-◌, ◌^◌, min, Bool, ◌&&◌, nat_le, nat_eq, true, false, List, [], ◌∷◌, Option, None, Some, cond, is_some, is_none, get_or, length, map, All, Contains, IfSome, IsSome, IsSomeAnd, ◌<◌, slice_get, take}
use Rattle.std.specs.Option.{option_and_then, option_map}
use Rattle.npa_sorts.specs.Subsorts.{Subsorts, IsSort, at_or_below}
use Rattle.npa_sig.specs.declared.signature.OpDecl.{OpDecl}
use Rattle.npa_sig.specs.declared.least.Offer.{Offer}
use Rattle.npa_sig.specs.Least.{IsBuiltOf, IsEmpty, IsLeastCount}

-- `n` symbols and those of the least terms of these sorts, up to the greatest number, where each
-- sort's size is known
abbrev pub summed : List (Option ℕ) → ℕ → List ℕ → Option ℕ
summed sizes n [] = Some n
summed sizes n (s ∷ ss) =
    option_and_then (λ m. summed sizes (min (n + m) (2 ^ 64 - 1)) ss) (get_or sizes s None)

-- an operator whose result sort isn't settled and whose argument sorts are
abbrev pub offered : List (Option ℕ) → OpDecl → Option Offer
offered sizes decl =
    cond (is_some (get_or sizes decl.result None)) None
    (option_map (λ n. record { sort = decl.result; size = n }) (summed sizes 1 decl.args))

-- the offer with fewer symbols, the earlier one of equals
abbrev pub better : Option Offer → Option Offer → Option Offer
better None other = other
better (Some best) None = Some best
better (Some best) (Some other) = cond (nat_le best.size other.size) (Some best) (Some other)

-- no operator offers fewer symbols
abbrev pub IsCheapest : List (Option ℕ) → List OpDecl → Option Offer → Type 0
IsCheapest sizes ops None = All (λ decl. offered sizes decl ≡ None) ops
IsCheapest sizes ops (Some best) = Contains (map (offered sizes) ops) (Some best)
    × All (λ decl. IfSome (offered sizes decl) (λ other. best.size ≤ other.size)) ops

-- the size of a sort after a sort got one: that too, where the sort is at or above and had none
abbrev pub settled : Option ℕ → Bool → ℕ → Option ℕ
settled old is_above n = cond (is_none old && is_above) (Some n) old

-- whether both are known and equal
abbrev pub same_size : Option ℕ → Option ℕ → Bool
same_size None n = false
same_size (Some m) None = false
same_size (Some m) (Some n) = nat_eq m n

-- whether an operator's result sort is at or below a sort and its least terms are of the sort's
-- size
abbrev pub is_least_op : Subsorts → List (Option ℕ) → ℕ → OpDecl → Bool
is_least_op o sizes s decl =
    at_or_below o decl.result s && same_size (get_or sizes s None) (summed sizes 1 decl.args)

-- the place of the first operator that passes a test
abbrev pub IsFirstOp : (OpDecl → Bool) → List OpDecl → Option ℕ → Type 0
IsFirstOp test ops None = All (λ decl. test decl ≡ false) ops
IsFirstOp test ops (Some num) = IsSomeAnd (slice_get ops num) (λ decl. test decl ≡ true)
    × All (λ decl. test decl ≡ false) (take num ops)

-- what the size of a sort says
abbrev pub IsSizeOf : Subsorts → List OpDecl → ℕ → Option ℕ → Type 0
IsSizeOf o ops s None = IsEmpty (IsBuiltOf o ops s)
IsSizeOf o ops s (Some n) = IsLeastCount (IsBuiltOf o ops s) n

-- the sizes of all sorts
pub record AreSizes (o : Subsorts) (ops : List OpDecl) (sizes : List (Option ℕ)) : Type 0 where
  pub long : length sizes ≡ o.declared + 2
  pub exact : (s : ℕ) → IsSizeOf o ops s (get_or sizes s None)

-- the first sort without a size
abbrev pub IsFirstEmpty : Subsorts → List (Option ℕ) → Option ℕ → Type 0
IsFirstEmpty o sizes None = (s : ℕ) → IsSort o s → IsSome (get_or sizes s None)
IsFirstEmpty o sizes (Some s) = IsSort o s × (get_or sizes s None ≡ None)
    × ((r : ℕ) → r < s → IsSome (get_or sizes r None))

-- the first sort whose size is past 64, with the size
abbrev pub IsFirstPast : Subsorts → List (Option ℕ) → Option (ℕ × ℕ) → Type 0
IsFirstPast o sizes None = (s : ℕ) → IsSort o s → IfSome (get_or sizes s None) (λ n. n ≤ 64)
IsFirstPast o sizes (Some found) = IsSort o found.0 × (64 < found.1)
    × (get_or sizes found.0 None ≡ Some found.1)
    × ((r : ℕ) → r < found.0 → IfSome (get_or sizes r None) (λ n. n ≤ 64))
