-- What every cover keeps of the strands, in private clauses.
use Rattle.std.specs.Prelude.{◌≡◌, Bool, ℕ, ◌+◌, nat_eq, ◌&&◌, cond, List, [], ◌∷◌, Some, slice_get, length}
use Rattle.npa_model.specs.declared.pattern.PStrand.{PStrand}

-- whether a strand is of this number and stands at this bar
abbrev pub is_kind : ℕ → ℕ → PStrand → Bool
is_kind strand bar p = nat_eq p.strand strand && nat_eq p.bar bar

-- how many strands are
abbrev pub kind_count : ℕ → ℕ → List PStrand → ℕ
kind_count strand bar [] = 0
kind_count strand bar (p ∷ ps) = cond (is_kind strand bar p) 1 0 + kind_count strand bar ps

-- strands that are sent to these different places, where strands of their kinds stand
pub record AreSent (ps qs : List PStrand) (at : List ℕ) : Type 0 where
  pub as_many : length at ≡ length ps
  pub different : (j k n : ℕ) → slice_get at j ≡ Some n → slice_get at k ≡ Some n → j ≡ k
  pub each : (k n : ℕ) (p : PStrand) → slice_get at k ≡ Some n → slice_get ps k ≡ Some p →
      (q : PStrand) × (slice_get qs n ≡ Some q) × (q.strand ≡ p.strand) × (q.bar ≡ p.bar)
