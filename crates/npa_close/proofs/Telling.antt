-- What is answered, by what each check tells.
use Rattle.std.proofs.Common.{◌≡◌, ◌⊎◌, ℕ, ◌<◌, Bool, Option, None, Some, Result, Ok, Err, List, slice_get, length, refl, sym, ap, subst, ◌∙◌, inl, inr, ⊎_elim}
use Rattle.std.specs.Prelude.{⊤}
use Rattle.npa_sig.specs.declared.fault.GroundFault.{GroundFault}
use Rattle.npa_sig.specs.declared.fault.GroundFault.TheVariants.{Inhabited, Ground}
use Rattle.npa_sig.specs.declared.protocol.Protocol.{Protocol}
use Rattle.npa_sig.specs.Nameless.{AreCarriers}
use Rattle.npa_rewrite.specs.declared.theory.Theory.{Theory}
use Rattle.npa_rewrite.specs.Rewriting.{AllCancel, IsConvergent}
use Rattle.npa_rewrite.specs.Theories.{theory_of}
use Rattle.npa_conv.specs.declared.error.ConvFail.{ConvFail}
use Rattle.npa_conv.specs.Verdict.{conv_of}
use Rattle.npa_accept.specs.declared.accepted.Unaccepted.{Unaccepted}
use Rattle.npa_variants.specs.declared.fault.ReadyFail.{ReadyFail}
use Rattle.npa_variants.specs.Ready.{ready_fault}
use Rattle.npa_model.specs.declared.aim.Aim.{Aim}
use Rattle.npa_close.specs.declared.fail.CheckFail.{CheckFail}
use Rattle.npa_close.specs.declared.fail.CheckFail.TheVariants as fail
use Rattle.npa_close.specs.Checks.{HasGroundFault, HasConvFault, HasReadyFault, HasStrandFault, HasAimFault, HasLastFault, IsChecked, IsSound, Holds, Tells, TellsGround, TellsConv, TellsReady, TellsAims, ground_fail, aim_fail}

module _ (protocol : Protocol) (aims : List Aim) where
  -- a refusal that is told is answered
  refused : {F : Type 0} (Has : Option F → Type 0) (told : F → CheckFail) → ((f : F) → Has (Some f) → IsChecked (Err (told f)) protocol aims) →
      (e : CheckFail) → (e ≡ fail.NoMemory) ⊎ ((f : F) × (e ≡ told f) × Has (Some f)) → IsChecked (Err e) protocol aims
  refused Has told by e (inl none) = subst (λ x. IsChecked (Err x) protocol aims) (sym none) tt
  refused Has told by e (inr found) = subst (λ x. IsChecked (Err x) protocol aims) (sym found.1) (by found.0 found.2)

  -- and so it is where it is handed on
  pub handed : (r : Result (Protocol × List Aim) CheckFail) (d e : CheckFail) → r ≡ Err d → d ≡ e → IsChecked (Err e) protocol aims → IsChecked r protocol aims
  handed r d e one two is = subst (λ x. IsChecked x protocol aims) (sym (one ∙ ap Err two)) is

  pub by_grounds : (e : CheckFail) → TellsGround (Err e) protocol.sig → IsChecked (Err e) protocol aims
  by_grounds = refused (HasGroundFault protocol) ground_fail by
    where
      by : (f : GroundFault) → HasGroundFault protocol (Some f) → IsChecked (Err (ground_fail f)) protocol aims
      by (Inhabited s) has = has
      by (Ground s n) has = has

  module _ (grounds : HasGroundFault protocol None) (th : Theory) (same : th ≡ theory_of protocol) where
    conv_as : (o : Option ConvFail) → conv_of th ≡ o → HasConvFault protocol o
    conv_as o e = (grounds, sym (ap conv_of same) ∙ e)

    pub by_convergence : (e : CheckFail) → TellsConv (Err e) th → IsChecked (Err e) protocol aims
    by_convergence = refused (λ o. conv_of th ≡ o) fail.Conv (λ f e. conv_as (Some f) e)

    pub cancels : AllCancel th → AllCancel (theory_of protocol)
    cancels is = subst AllCancel same is

    pub converges : IsConvergent th → IsConvergent (theory_of protocol)
    converges is = subst IsConvergent same is

    module _ (conv : conv_of th ≡ None) where
      pub by_variants : (e : CheckFail) → TellsReady (Err e) protocol → IsChecked (Err e) protocol aims
      by_variants = refused (HasReadyFault protocol) fail.Ready (λ f has. (conv_as None conv, has))

      module _ (ready : HasReadyFault protocol None) (own : Theory) (as_own : own ≡ theory_of protocol) (listed : List Aim) (as_listed : listed ≡ aims) where
        last_as : (o : Option (ℕ × Unaccepted)) → HasAimFault own listed o → HasLastFault protocol aims o
        last_as o has = ((conv_as None conv, ready), subst (λ (x : Theory). HasAimFault x aims o) as_own (subst (λ xs. HasAimFault own xs o) as_listed has))

        pub by_aims : (e : CheckFail) → TellsAims (Err e) own listed → IsChecked (Err e) protocol aims
        by_aims = refused (HasAimFault own listed) aim_fail (λ f has. last_as (Some f) has)

        pub by_none : HasAimFault own listed None → HasLastFault protocol aims None
        by_none has = last_as None has

        pub holds : AllCancel th → IsConvergent th → HasAimFault own listed None → Holds protocol aims
        holds cancelling convergent has = record {
          passes = last_as None has;
          sound = record {
            cancelling = subst AllCancel same cancelling;
            convergent = subst IsConvergent same convergent;
            accepted = (last_as None has).1;
          };
        }
