-- The statuses with which a module's checks are told.
use Rattle.std.proofs.Common.{◌≡◌, ℕ, List, Option, None, Some, inl, inr, ap}
use Rattle.std.specs.Prelude.{◌⊎◌}
use Rattle.npa_sig.specs.Signature.{Signature}
use Rattle.npa_sig.specs.declared.protocol.Protocol.{Protocol}
use Rattle.npa_conv.specs.declared.error.ConvFail.{ConvFail}
use Rattle.npa_conv.specs.declared.error.ConvFail.TheVariants as conv_fail
use Rattle.npa_variants.specs.declared.fault.ReadyFail.{ReadyFail}
use Rattle.npa_variants.specs.declared.fault.ReadyFail.TheVariants as ready_fail
use Rattle.npa_close.specs.declared.fail.CheckFail.{CheckFail}
use Rattle.npa_close.specs.declared.fail.CheckFail.TheVariants as fail
use Rattle.npa_module.specs.declared.source.Source.{Source}
use Rattle.npa_checking.specs.Lines.{conv_line, ready_line, fail_line}
use Rattle.npa_checking.specs.Checking.{IsCheckLine, told}

-- the member of an option
the_same : {A : Type 0} {x y : A} → Some x ≡ Some y → y ≡ x
the_same e = cc

second : {p q : List ℕ × ℕ} → Some p ≡ Some q → q.1 ≡ p.1
second e = ap (λ (p : List ℕ × ℕ). p.1) (the_same e)

conv_told : (sig : Signature) (fault : ConvFail) (text : List ℕ) (status : ℕ) → conv_line sig fault ≡ Some (text, status) → (status ≡ 3) ⊎ (status ≡ 7)
conv_told sig (conv_fail.Shape place) text status e = inl (second e)
conv_told sig (conv_fail.SortUp place) text status e = inl (second e)
conv_told sig (conv_fail.Pair from left right) text status e = inl (second e)
conv_told sig (conv_fail.Unifiers i j) text status e = inr (second e)
conv_told sig (conv_fail.Symbols n) text status e = inr (second e)
conv_told sig conv_fail.NoMemory text status e = absurd (cc)

ready_told : (protocol : Protocol) (fault : ReadyFail) (text : List ℕ) (status : ℕ) → ready_line protocol fault ≡ Some (text, status) → (status ≡ 3) ⊎ (status ≡ 7)
ready_told protocol (ready_fail.Variants place list) text status e = inl (second e)
ready_told protocol (ready_fail.Unifiers place) text status e = inr (second e)
ready_told protocol (ready_fail.Symbols place n) text status e = inr (second e)
ready_told protocol (ready_fail.Origin place variant v) text status e = inl (second e)
ready_told protocol ready_fail.NoMemory text status e = absurd (cc)

-- a check that fails has the status 3 or 7
pub fail_told : (source : Source) (f : CheckFail) (text : List ℕ) (status : ℕ) → fail_line source f ≡ Some (text, status) → (status ≡ 3) ⊎ (status ≡ 7)
fail_told source (fail.Inhabited s) text status e = inl (second e)
fail_told source (fail.Ground s n) text status e = inr (second e)
fail_told source (fail.Conv fault) text status e = conv_told source.protocol.sig fault text status e
fail_told source (fail.Ready fault) text status e = ready_told source.protocol fault text status e
fail_told source (fail.AimForm place term equation) text status e = inl (second e)
fail_told source fail.NoMemory text status e = absurd (cc)

-- the checks of a module are told with status 0, 3 or 7
told_with : (source : Source) (failing : Option CheckFail) (text : List ℕ) (status : ℕ) → told source failing ≡ Some (text, status) →
    (status ≡ 0) ⊎ ((status ≡ 3) ⊎ (status ≡ 7))
told_with source None text status e = inl (second e)
told_with source (Some f) text status e = inr (fail_told source f text status e)

pub check_told : (source : Source) (text : List ℕ) (status : ℕ) → IsCheckLine source text status → (status ≡ 0) ⊎ ((status ≡ 3) ⊎ (status ≡ 7))
check_told source text status is = told_with source is.failing text status is.line
