use Rattle.std.proofs.Common.{◌≡◌, ◌≢◌, ℕ, subst}
use Rattle.npa_sorts.specs.Subsorts.{IsBelow}
use Rattle.npa_prune.proofs.Carried.{carried}
use Rattle.npa_prune.proofs.Unmet.{unmet}
use Rattle.npa_prune.proofs.laws.prune_laws.Goals as goal

pub returns : goal.returns
returns c =
    let now = c.args.ready.now in
    let order : c.sorts-sorts.result.now ≡ now.sig.sorts = cc in
    let alone : (s t : ℕ) → IsBelow now.sig.sorts s t → (s ≢ 1) × (t ≢ 1) = subst (λ o. (s t : ℕ) → IsBelow o s t → (s ≢ 1) × (t ≢ 1)) order c.laws.ensures.fresh in
    let ready = c.laws-2.ensures in
    let fresh = c.fresh_laws.ensures in
    record {
      unmet = λ nf run sent g a gives is fit pruned meets.
          unmet now ready.cancelling ready.convergent ready.formed.signature.pairs ready.formed.signature.not_fresh alone nf gives run.instances is.instances run.schedule sent g a meets
          (fresh.unsent nf run.instances gives is.instances) (fresh.unheard nf run.instances gives is.instances) is.executes fit.nameless pruned.0 pruned.1;
      covered = λ t s rule fit sorted covers. carried now ready.formed.signature.not_fresh alone t s fit sorted covers.0 covers.1 covers.2 rule;
    }
