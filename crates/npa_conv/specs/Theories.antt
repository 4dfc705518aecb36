-- The theories of which convergence can be told.
use Rattle.std.specs.Prelude.{◌≡◌, ◌<◌, ℕ, List, Some, Contains, length, slice_get}
use Rattle.npa_sig.specs.declared.protocol.Equation.{Equation}
use Rattle.npa_sig.specs.WellFormed.{AreWellFormedEquations, IsPlainEquation}
use Rattle.npa_rewrite.specs.declared.theory.Theory.{Theory}
use Rattle.npa_conv.specs.declared.pairs.Part.{Part}
use Rattle.npa_conv.specs.Overlaps.{base_of, holes}
use Rattle.npa_conv.specs.Places.{hole_at}

-- The equations are well formed for the signature, no fresh name stands in them, their variables have
-- numbers below 2^30, and each has a place of 16 bits.
pub record IsPlainTheory (th : Theory) : Type 0 where
  pub formed : AreWellFormedEquations th.sig th.equations
  pub plain : (k : ℕ) (equation : Equation) → slice_get th.equations k ≡ Some equation → IsPlainEquation equation
  pub few : length th.equations < 65535

-- A part of an equation of the theory.
pub record IsPlaced (th : Theory) (part : Part) : Type 0 where
  pub listed : Contains th.equations part.equation.now
  pub base : part.base ≡ base_of part.equation.now
  pub within : part.place < length (holes part.equation.now.left)
  pub term : part.term.now ≡ (hole_at part.equation.now.left part.place).0
