-- The rules on names and the limits of a module, as far as its aims show them.
use Rattle.std.specs.Prelude.{◌≡◌, ◌≤◌, ℕ, Bool, true, false, not, List, Some, Contains, filter, length, map, slice_get}
use Rattle.npa_term.specs.declared.term.Term.{Term}
use Rattle.npa_term.specs.Symbols.{symbol_count}
use Rattle.npa_model.specs.declared.aim.Part.{Part}
use Rattle.npa_model.specs.declared.aim.Part.TheVariants as part
use Rattle.npa_model.specs.declared.aim.Aim.{Aim}
use Rattle.npa_model.specs.Accepted.{part_terms}
use Rattle.npa_sig.specs.Rules.{AreNames, AreApart}

-- the names of aims, in order
abbrev pub aim_names : List Aim → List (List ℕ)
aim_names aims = map (λ aim. aim.name) aims

-- Each aim has a name that no other has.
pub record AreNamedAims (aims : List Aim) : Type 0 where
  pub names : AreNames (aim_names aims)
  pub apart : AreApart (aim_names aims)

abbrev pub is_known_part : Part → Bool
is_known_part (part.Known t) = true
is_known_part (part.Strand number bar args) = false

-- An aim has at most 32 strand parts and 64 known ones.
pub record IsWithinAim (aim : Aim) : Type 0 where
  pub strand_parts : length (filter (λ p. not (is_known_part p)) aim.parts) ≤ 32
  pub known_parts : length (filter is_known_part aim.parts) ≤ 64

-- There are at most 256 aims.
pub record AreWithinAims (aims : List Aim) : Type 0 where
  pub few : length aims ≤ 256
  pub each : (k : ℕ) (aim : Aim) → slice_get aims k ≡ Some aim → IsWithinAim aim

-- Each term of an aim has at most 1,024 symbols.
abbrev pub IsSmallAim : Aim → Type 0
IsSmallAim aim = (p : Part) → Contains aim.parts p → (t : Term) → Contains (part_terms p) t → symbol_count t ≤ 1024

abbrev pub AreSmallAims : List Aim → Type 0
AreSmallAims aims = (k : ℕ) (aim : Aim) → slice_get aims k ≡ Some aim → IsSmallAim aim
