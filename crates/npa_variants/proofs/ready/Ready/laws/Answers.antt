use Rattle.std.proofs.Common.{◌≡◌, ◌≢◌, ◌∙◌, ℕ, ap, subst}
use Rattle.npa_sorts.specs.Subsorts.{AreSorts, IsBelow}
use Rattle.npa_sig.specs.declared.protocol.Protocol.{Protocol}
use Rattle.npa_variants.specs.Ready.{IsReady}
use Rattle.npa_variants.proofs.ReadyLaws.{ready_variants, ready_originates, ready_originating, ready_instances}
use Rattle.npa_variants.proofs.ready.Ready.laws.Goals as goal

pub returns : goal.returns
returns c =
    let now : Protocol = c.args.self.now in
    let ready : IsReady now c.self.inside.lists = subst (λ (p : Protocol). IsReady p c.self.inside.lists) c.self.view_is c.self.invariant.1 in
    let order : c.sorts-sorts.result.now ≡ now.sig.sorts = c.sorts-sorts.ensures ∙ ap (λ (p : Protocol). p.sig.sorts) c.self.view_is in
    let sorts : AreSorts now.sig.sorts = subst AreSorts order c.pairs-pairs.ensures.sorts in
    let acyclic : (r : ℕ) → IsBelow now.sig.sorts r r → ⊥ = subst (λ o. (r : ℕ) → IsBelow o r r → ⊥) order c.laws.ensures.acyclic in
    let alone : (s t : ℕ) → IsBelow now.sig.sorts s t → (s ≢ 1) × (t ≢ 1) = subst (λ o. (s t : ℕ) → IsBelow o s t → (s ≢ 1) × (t ≢ 1)) order c.laws.ensures.fresh in
    record {
      cancelling = ready.cancelling;
      convergent = ready.convergent;
      formed = ready.formed;
      plain = ready.plain;
      variants = ready_variants now c.self.inside.lists ready sorts acyclic;
      origins = ready_originates now c.self.inside.lists ready sorts acyclic;
      instances = ready_instances now c.self.inside.lists ready sorts acyclic;
      originating = ready_originating now c.self.inside.lists ready sorts acyclic alone;
    }
