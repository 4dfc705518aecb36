-- A pattern covers another where the second says all that the first says, and perhaps more: an instance
-- of the first is a part of the second (Escobar, Meadows, Meseguer 2009, on folding, where a state that
-- another subsumes is dropped).
use Rattle.std.specs.Prelude.{◌≡◌, ℕ, List, Some, length, slice_get, Contains}
use Rattle.npa_sorts.specs.Subsorts.{Subsorts, IsAtOrBelow}
use Rattle.npa_term.specs.declared.term.Term.{Term}
use Rattle.npa_term.specs.declared.term.Var.{Var as Variable}
use Rattle.npa_term.specs.Bound.{applied}
use Rattle.npa_term.specs.Parts.{image, least_sort}
use Rattle.npa_term.specs.Same.{Same, SameAll}
use Rattle.npa_model.specs.declared.pattern.PStrand.{PStrand}
use Rattle.npa_model.specs.declared.pattern.Pattern.{Pattern}
use Rattle.npa_model.specs.Patterns.{map_pattern, Occurs}

-- a term equal modulo commutativity is among these
abbrev pub HasSame : List Term → Term → Type 0
HasSame ts t = (u : Term) × Contains ts u × Same t u

-- Two strands of patterns are equal up to the order of commutative arguments.
pub record AreAlike (p q : PStrand) : Type 0 where
  pub strand : q.strand ≡ p.strand
  pub bar : q.bar ≡ p.bar
  pub args : SameAll p.args q.args
  pub msgs : SameAll p.msgs q.msgs

-- The first pattern is a part of the second, up to the order of commutative arguments: its strands are
-- the second's strands at these different places, and its known and unknown facts are among the second's.
pub record Lies (h g : Pattern) (at : List ℕ) : Type 0 where
  pub as_many : length at ≡ length h.strands
  pub different : (j k n : ℕ) → slice_get at j ≡ Some n → slice_get at k ≡ Some n → j ≡ k
  pub strands : (k n : ℕ) (p : PStrand) → slice_get at k ≡ Some n → slice_get h.strands k ≡ Some p → (q : PStrand) × (slice_get g.strands n ≡ Some q) × AreAlike p q
  pub known : (t : Term) → Contains h.known t → HasSame g.known t
  pub unknown : (t : Term) → Contains h.unknown t → HasSame g.unknown t

-- Pattern t covers pattern s by a substitution that respects the sorts of t's variables, and these places
-- for t's strands.
pub record IsCover (o : Subsorts) (t s : Pattern) (u : List (Variable × Term)) (at : List ℕ) : Type 0 where
  pub sorts : (v : Variable) → Occurs v t → IsAtOrBelow o (least_sort (image u v)) v.sort
  pub lies : Lies (map_pattern (applied u) t) s at

-- t covers s
abbrev pub Covers : Subsorts → Pattern → Pattern → Type 0
Covers o t s = (u : List (Variable × Term)) × (at : List ℕ) × IsCover o t s u at

-- one substitution does to the variables of a pattern what two others do one after the other
abbrev pub DoesBoth : Pattern → List (Variable × Term) → List (Variable × Term) → List (Variable × Term) → Type 0
DoesBoth t u a w = (v : Variable) → Occurs v t → Same (image w v) (applied a (image u v))
