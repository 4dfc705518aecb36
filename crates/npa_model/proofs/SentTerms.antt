-- The terms that a run sends have what all normal forms of ground terms have.
use Rattle.std.proofs.Common.{◌≡◌, ℕ, zero, suc, ⊎_elim, List, [], ◌∷◌, Option, Some, Result, Ok, Err, slice_get, Contains, refl, ap, sym, ◌∙◌, subst, arith}
use Rattle.std.specs.Option.{option_map_or}
use Rattle.std.proofs.lemmas.List.Elements.{Contains-append_right, Contains-push_cases}
use Rattle.std.proofs.lemmas.Option.{same_Some, none-some}
use Rattle.npa_term.specs.declared.term.Term.{Term}
use Rattle.npa_sig.specs.declared.protocol.Event.{Event}
use Rattle.npa_sig.specs.declared.protocol.Strand.{Strand}
use Rattle.npa_sig.specs.Signature.{Signature}
use Rattle.npa_model.specs.declared.run.Instance.{Instance}
use Rattle.npa_model.specs.declared.run.Cause.{Cause}
use Rattle.npa_sig.specs.Values.{under}
use Rattle.npa_model.specs.Runs.{events_of, Happens, no_instance, ended, unsent, receives, sends, Next, Executes, begin, step}
use Rattle.npa_model.specs.Instances.{IsInstance}
use Rattle.npa_sig.specs.Parameters.{param_sorts}
use Rattle.npa_sig.specs.Sorting.{IsGroundTerm}
use Rattle.npa_sig.specs.WellFormed.{AreWellFormedStrands}
use Rattle.npa_sig.proofs.SortedTerms.{under_ground}

abbrev sent_of : Result (List Term) Cause → List Term
sent_of (Ok ts) = ts
sent_of (Err e) = []

event_there : (events : List Event) (i : ℕ) (event : Event) → slice_get events i ≡ Some event → Contains events event
event_there [] i event e = absurd (none-some event e)
event_there (x ∷ events) zero event e = (0, omega arith, same_Some x event e)
event_there (x ∷ events) (suc i) event e = Contains-append_right (x ∷ []) events event (event_there events i event e)

module _ (nf : Term → Term) (sig : Signature) (strands : List Strand) (formed : AreWellFormedStrands sig strands) (instances : List Instance)
    (are : (k : ℕ) (instance : Instance) → slice_get instances k ≡ Some instance → IsInstance nf sig strands instance) where
  -- the message that is sent or received next is ground
  pub message_ground : (i done : ℕ) (instance : Instance) (event : Event) → Next nf strands instances done i instance event → IsGroundTerm sig (under instance.args event.msg)
  message_ground i done instance event n =
      let is = are i instance n.there in
      let events : events_of strands instance ≡ is.strand.events = ap (λ (o : Option Strand). option_map_or (λ strand. strand.events) o []) is.there in
      let there : Contains is.strand.events event = event_there is.strand.events done event (sym (ap (λ (es : List Event). slice_get es done) events) ∙ n.next) in
      let over = ((formed instance.strand is.strand is.there).messages event there).term in
      under_ground sig (param_sorts is.strand) instance.args is.sorts (λ t h. (is.normal t h).term) event.msg over

  module _ (P : Term → Type 0) (good : (t : Term) → IsGroundTerm sig t → P (nf t)) where
    after_step : {done i : ℕ} {sent after : List Term} {r : Result (List Term) Cause} → Happens nf strands instances done sent i r → r ≡ Ok after → ((u : Term) → Contains sent u → P u) → (u : Term) → Contains after u → P u
    after_step (no_instance e) o each = cc
    after_step (ended a e f) o each = cc
    after_step (unsent a e n u c) o each = cc
    after_step {sent = sent} {after = after} (receives a e n u c) o each = λ v h. each v (subst (λ (ts : List Term). Contains ts v) (sym (ap sent_of o)) h)
    after_step {done} {i} {sent = sent} {after = after} (sends a e n u) o each = λ v h.
        let m = nf (under a.args e.msg) in
        ⊎_elim (λ before. each v before) (λ (last : m ≡ v). subst P last (good (under a.args e.msg) (message_ground i done a e n)))
        (Contains-push_cases sent m v (subst (λ (ts : List Term). Contains ts v) (sym (ap sent_of o)) h))

    pub sent_terms : {schedule : List ℕ} {sent : List Term} → Executes nf strands instances schedule sent → (u : Term) → Contains sent u → P u
    sent_terms begin u h = absurd (omega (arith, h.1))
    sent_terms (step before sent after i ex h) u was = after_step h refl (sent_terms ex) u was
