-- The checks of a protocol and its aims, in their order, and the first that fails.
use Rattle.std.specs.Prelude.{◌≡◌, ◌⊎◌, ⊤, Bool, not, ◌&&◌, nat_eq, length, ℕ, ◌<◌, ◌^◌, List, Option, None, Some, Result, Ok, Err, Contains, slice_get}
use Rattle.std.specs.List.{flat_map, find}
use Rattle.std.specs.Str.{bytes_eq}
use Rattle.npa_term.specs.declared.term.Term.{Term}
use Rattle.npa_sig.specs.declared.fault.GroundFault.{GroundFault}
use Rattle.npa_sig.specs.declared.fault.GroundFault.TheVariants as ground_fault
use Rattle.npa_sig.specs.declared.protocol.Protocol.{Protocol}
use Rattle.npa_sig.specs.Least.{IsGroundFault}
use Rattle.npa_sig.specs.Nameless.{AreCarriers}
use Rattle.npa_sig.specs.Signature.{Signature}
use Rattle.npa_rewrite.specs.declared.theory.Theory.{Theory}
use Rattle.npa_rewrite.specs.Rewriting.{AllCancel, IsConvergent}
use Rattle.npa_rewrite.specs.Theories.{theory_of}
use Rattle.npa_conv.specs.declared.error.ConvFail.{ConvFail}
use Rattle.npa_conv.specs.Verdict.{conv_of}
use Rattle.npa_accept.specs.declared.accepted.Unaccepted.{Unaccepted}
use Rattle.npa_accept.specs.Fit.{IsFitTerm}
use Rattle.npa_accept.specs.Parts.{parts}
use Rattle.npa_accept.specs.Unaccepted.{IsFirstOf}
use Rattle.npa_variants.specs.declared.fault.ReadyFail.{ReadyFail}
use Rattle.npa_variants.specs.Ready.{ready_fault}
use Rattle.npa_model.specs.declared.aim.Part.{Part}
use Rattle.npa_model.specs.declared.aim.Aim.{Aim}
use Rattle.npa_model.specs.Accepted.{part_terms, IsAccepted}
use Rattle.npa_close.specs.declared.fail.CheckFail.{CheckFail}
use Rattle.npa_close.specs.declared.fail.CheckFail.TheVariants as fail

-- ## Aims

-- the parts of the terms of a part of an aim, and of an aim, in the order of the text
abbrev pub part_parts : Part → List Term
part_parts part = flat_map parts (part_terms part)

abbrev pub aim_parts : Aim → List Term
aim_parts aim = flat_map part_parts aim.parts

-- all of these aims are accepted
abbrev pub AreAccepted : Theory → List Aim → Type 0
AreAccepted th aims = (k : ℕ) (aim : Aim) → slice_get aims k ≡ Some aim → IsAccepted th aim

-- The aim of this place isn't accepted, but all in front of it are: the first part of its terms that is
-- no variable and unifies with a left side, and the first such equation.
pub record IsFirstAim (th : Theory) (aims : List Aim) (fault : ℕ × Unaccepted) : Type 0 where
  pub aim : Aim
  pub there : slice_get aims fault.0 ≡ Some aim
  pub found : IsFirstOf th (aim_parts aim) fault.1
  pub before : (k : ℕ) (other : Aim) → k < fault.0 → slice_get aims k ≡ Some other → IsAccepted th other

-- the first of the aims that isn't accepted, if one isn't
abbrev pub HasAimFault : Theory → List Aim → Option (ℕ × Unaccepted) → Type 0
HasAimFault th aims None = AreAccepted th aims
HasAimFault th aims (Some fault) = IsFirstAim th aims fault

-- each term of an aim has few variables, each with one sort
abbrev pub IsFitAim : Signature → Aim → Type 0
IsFitAim sig aim = (p : Part) → Contains aim.parts p → (t : Term) → Contains (part_terms p) t → IsFitTerm sig (2 ^ 30) t

-- ## The checks

-- The ground terms of the sorts; whether the theory is convergent; whether the strands have few variants
-- that originate: each is looked at where those before it hold.
abbrev pub HasGroundFault : Protocol → Option GroundFault → Type 0
HasGroundFault protocol fault = IsGroundFault protocol.sig fault

abbrev pub HasConvFault : Protocol → Option ConvFail → Type 0
HasConvFault protocol fault = HasGroundFault protocol None × (conv_of (theory_of protocol) ≡ fault)

-- the first strand with too many variants, or one in which a variable doesn't originate, by the marks at
-- the sorts that carry names
abbrev pub HasReadyFault : Protocol → Option ReadyFail → Type 0
HasReadyFault protocol fault = (marks : List Bool) × AreCarriers protocol.sig marks × (ready_fault marks protocol ≡ fault)

abbrev pub HasStrandFault : Protocol → Option ReadyFail → Type 0
HasStrandFault protocol fault = HasConvFault protocol None × HasReadyFault protocol fault

-- the aims, behind the others
abbrev pub HasLastFault : Protocol → List Aim → Option (ℕ × Unaccepted) → Type 0
HasLastFault protocol aims fault = HasStrandFault protocol None × HasAimFault (theory_of protocol) aims fault

-- The first check that fails, with what failed first in it; there is none for want of memory.
abbrev pub IsFirstFail : Protocol → List Aim → Option CheckFail → Type 0
IsFirstFail protocol aims (Some (fail.Inhabited sort)) = HasGroundFault protocol (Some (ground_fault.Inhabited sort))
IsFirstFail protocol aims (Some (fail.Ground sort symbols)) = HasGroundFault protocol (Some (ground_fault.Ground sort symbols))
IsFirstFail protocol aims (Some (fail.Conv fault)) = HasConvFault protocol (Some fault)
IsFirstFail protocol aims (Some (fail.Ready fault)) = HasStrandFault protocol (Some fault)
IsFirstFail protocol aims (Some (fail.AimForm aim term equation)) =
    HasLastFault protocol aims (Some (aim, record { term = term; equation = equation }))
IsFirstFail protocol aims (Some fail.NoMemory) = ⊥
IsFirstFail protocol aims None = HasLastFault protocol aims None

-- what the checks are for, beside the ground terms and the variants
pub record IsSound (protocol : Protocol) (aims : List Aim) : Type 0 where
  pub cancelling : AllCancel (theory_of protocol)
  pub convergent : IsConvergent (theory_of protocol)
  pub accepted : AreAccepted (theory_of protocol) aims

-- What is answered of a protocol and its aims: them where no check fails, or the first that does.
abbrev pub IsChecked : Result (Protocol × List Aim) CheckFail → Protocol → List Aim → Type 0
IsChecked (Ok checked) protocol aims = (checked ≡ (protocol, aims)) × IsFirstFail protocol aims None
IsChecked (Err fail.NoMemory) protocol aims = ⊤
IsChecked (Err (fail.Inhabited sort)) protocol aims = IsFirstFail protocol aims (Some (fail.Inhabited sort))
IsChecked (Err (fail.Ground sort symbols)) protocol aims = IsFirstFail protocol aims (Some (fail.Ground sort symbols))
IsChecked (Err (fail.Conv fault)) protocol aims = IsFirstFail protocol aims (Some (fail.Conv fault))
IsChecked (Err (fail.Ready fault)) protocol aims = IsFirstFail protocol aims (Some (fail.Ready fault))
IsChecked (Err (fail.AimForm aim term equation)) protocol aims = IsFirstFail protocol aims (Some (fail.AimForm aim term equation))

-- The first aim of a name that isn't empty.
abbrev pub aim_called : List ℕ → List Aim → Option Aim
aim_called name aims = find (λ aim. not (nat_eq (length name) 0) && bytes_eq aim.name name) aims

-- What `Checked` keeps.
pub record Holds (protocol : Protocol) (aims : List Aim) : Type 0 where
  pub passes : IsFirstFail protocol aims None
  pub sound : IsSound protocol aims

-- ## What each check tells

-- the sort of a fault of ground terms, and its symbols
abbrev pub ground_fail : GroundFault → CheckFail
ground_fail (ground_fault.Inhabited sort) = fail.Inhabited sort
ground_fail (ground_fault.Ground sort symbols) = fail.Ground sort symbols

-- a check tells that there is no fault, or this fault by this refusal, or that memory was wanting
abbrev pub Tells : {X F : Type 0} → (X → Type 0) → (Option F → Type 0) → (F → CheckFail) → Result X CheckFail → Type 0
Tells Good Has told (Ok x) = Good x × Has None
Tells {F = F} Good Has told (Err fault) = (fault ≡ fail.NoMemory) ⊎ ((f : F) × (fault ≡ told f) × Has (Some f))

abbrev pub TellsGround : Result (Unit {0}) CheckFail → Signature → Type 0
TellsGround result sig = Tells (λ x. ⊤) (IsGroundFault sig) ground_fail result

abbrev pub TellsConv : Result (Unit {0}) CheckFail → Theory → Type 0
TellsConv result th = Tells (λ x. ⊤) (λ fault. conv_of th ≡ fault) fail.Conv result

abbrev pub TellsReady : Result Protocol CheckFail → Protocol → Type 0
TellsReady result protocol = Tells (λ ready. ready ≡ protocol) (HasReadyFault protocol) fail.Ready result

abbrev pub aim_fail : ℕ × Unaccepted → CheckFail
aim_fail fault = fail.AimForm fault.0 fault.1.term fault.1.equation

abbrev pub TellsAims : Result (Unit {0}) CheckFail → Theory → List Aim → Type 0
TellsAims result th aims = Tells (λ x. ⊤) (HasAimFault th aims) aim_fail result
