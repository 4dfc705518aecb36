-- What holds of a module that is read: each number in it stands for something that is there, and each
-- term is well sorted (order-sorted signatures: Goguen, Meseguer 1992).
use Rattle.std.specs.Prelude.{◌≡◌, ◌<◌, ◌≤◌, ℕ, List, Some, slice_get, length}
use Rattle.npa_sig.specs.declared.protocol.Strand.{Strand}
use Rattle.npa_sig.specs.Signature.{Signature}
use Rattle.npa_model.specs.declared.aim.Aim.{Aim}
use Rattle.npa_model.specs.WellFormed.{IsWellFormedAim, IsPlainAim}
use Rattle.npa_sig.specs.WellFormed.{IsWellFormedProtocol, IsPlainProtocol}
use Rattle.npa_module.specs.declared.source.Source.{Source}
use Rattle.npa_sig.specs.Rules.{IsName, IsNamedProtocol, IsWithinProtocol, IsSmallProtocol}
use Rattle.npa_model.specs.Rules.{AreNamedAims, AreWithinAims, AreSmallAims}

-- each aim is well formed
abbrev pub AreWellFormedAims : Signature → List Strand → List Aim → Type 0
AreWellFormedAims sig strands aims = (k : ℕ) (aim : Aim) → slice_get aims k ≡ Some aim → IsWellFormedAim sig strands aim

-- The protocol and the aims are well formed, and strands have numbers of 16 bits.
pub record IsWellFormedSource (source : Source) : Type 0 where
  pub protocol : IsWellFormedProtocol source.protocol
  pub aims : AreWellFormedAims source.protocol.sig source.protocol.strands source.aims
  pub few_strands : length source.protocol.strands ≤ 65535

-- No fresh name stands in the equations, the strands and the aims, the variables there have numbers
-- below 2^30, and there are fewer equations, strands, operators and aims than a number of 16 bits can
-- name.
pub record IsPlainSource (source : Source) : Type 0 where
  pub protocol : IsPlainProtocol source.protocol
  pub aims : (k : ℕ) (aim : Aim) → slice_get source.aims k ≡ Some aim → IsPlainAim aim
  pub few_aims : length source.aims < 65535

-- The names of the module, of its protocol and of its aims keep the rules on names,
pub record IsNamedSource (source : Source) : Type 0 where
  pub name : IsName source.name
  pub protocol : IsNamedProtocol source.protocol
  pub aims : AreNamedAims source.aims

-- and there are as many parts of each kind as the limits allow.
pub record IsWithinSource (source : Source) : Type 0 where
  pub protocol : IsWithinProtocol source.protocol
  pub aims : AreWithinAims source.aims

-- A side of an equation and each term of an aim have at most 1,024 symbols, and so have the messages of
-- a strand together.
pub record IsSmallSource (source : Source) : Type 0 where
  pub protocol : IsSmallProtocol source.protocol
  pub aims : AreSmallAims source.aims
