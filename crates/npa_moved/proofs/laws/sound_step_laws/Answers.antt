use Rattle.std.proofs.Common.{◌≡◌, ℕ, subst}
use Rattle.npa_sorts.specs.Subsorts.{AreSorts, IsBelow}
use Rattle.npa_moved.proofs.Fit.{all_variants, narrowing}
use Rattle.npa_moved.proofs.Sound.{step_respects, step_names, step_sound}
use Rattle.npa_moved.proofs.laws.sound_step_laws.Goals as goal

pub returns : goal.returns
returns c =
    let now = c.args.ready.now in
    let o = now.sig.sorts in
    let order : c.sorts-sorts.result.now ≡ o = cc in
    let sorts : AreSorts o = subst AreSorts order c.pairs-pairs.ensures.sorts in
    let acyclic : (r : ℕ) → IsBelow o r r → ⊥ = subst (λ s. (r : ℕ) → IsBelow s r r → ⊥) order c.laws.ensures.acyclic in
    let ready = c.laws-2.ensures in
    let can = narrowing now ready.cancelling ready.convergent ready.formed ready.plain sorts acyclic in
    let varied = all_variants now c.look_up.ensures ready.variants in
    record {
      binds = λ g list step is there. step_names now g list step is there;
      respects = λ g list step fit is there. step_respects now g list step is there can fit varied;
      sound = λ g list step fit is there. step_sound now g list step is there can fit varied;
    }
