-- The instances of a run originate where the strands do.
use Rattle.std.proofs.Common.{◌≡◌, ◌<◌, ℕ, true, false, List, [], Some, slice_get, drop, length, sym, ap, subst, ◌∙◌, inl, inr, ⊎_elim}
use Rattle.std.specs.Prelude.{◌⊎◌, Contains}
use Rattle.std.specs.Option.{option_map_or}
use Rattle.npa_term.specs.declared.term.Term.{Term}
use Rattle.npa_term.specs.declared.term.Term.TheVariants.{Name}
use Rattle.npa_sig.specs.declared.protocol.Event.{Event}
use Rattle.npa_sig.specs.declared.protocol.Strand.{Strand}
use Rattle.npa_sig.specs.Parameters.{fresh_terms}
use Rattle.npa_sig.specs.Signature.{Signature}
use Rattle.npa_variants.specs.Originating.{IsOriginating, IsHeardBefore}
use Rattle.npa_model.specs.declared.run.Instance.{Instance}
use Rattle.npa_model.specs.Freshness.{AreOriginating, fresh_of}
use Rattle.npa_model.specs.Freshness.{IsHeardBefore as IsHeardBy, IsOriginating as Originates}
use Rattle.npa_model.specs.Instances.{IsInstance, AreInstances}
use Rattle.npa_model.specs.Runs.{events_of}

module _ (nf : Term → Term) (sig : Signature) (strands : List Strand) (strands_do : IsOriginating nf sig strands) (instances : List Instance) where
  originates : (instance : Instance) → IsInstance nf sig strands instance → Originates nf strands instances instance
  originates instance is = λ place event at sent n part.
      ⊎_elim
      (λ (own : Contains (drop (length is.strand.vars) instance.args) (Name n)). inl (subst (λ ts. Contains ts (Name n)) (sym fresh) own))
      (λ (heard : IsHeardBefore nf is.strand.events instance.args n place). inr (as_heard place n heard))
      (strands_do instance.strand is.strand is.there instance.args is.sorts is.normal place event (subst (λ es. slice_get es place ≡ Some event) events at) sent n part)
    where
      events : events_of strands instance ≡ is.strand.events
      events = ap (λ o. option_map_or (λ (strand : Strand). strand.events) o []) is.there

      fresh : fresh_of strands instance ≡ drop (length is.strand.vars) instance.args
      fresh = ap (λ o. fresh_terms o instance.args) is.there

      as_heard : (place n : ℕ) → IsHeardBefore nf is.strand.events instance.args n place → IsHeardBy nf strands instances instance place n
      as_heard place n heard = record {
        earlier = heard.place;
        event = heard.event;
        before = heard.before;
        there = subst (λ es. slice_get es heard.place ≡ Some heard.event) (sym events) heard.there;
        receives = heard.received;
        part = heard.name;
      }

  pub all_originate : AreInstances nf sig strands instances → AreOriginating nf strands instances
  all_originate are = λ k instance at. originates instance (are.each k instance at)
