use Rattle.std.proofs.Common.{◌≡◌, ℕ, subst}
use Rattle.npa_sorts.specs.Subsorts.{AreSorts, IsBelow}
use Rattle.npa_moved.proofs.Fit.{all_variants, narrowing}
use Rattle.npa_moved.proofs.Sound.{root_names, root_respects, root_sound}
use Rattle.npa_moved.proofs.laws.sound_root_laws.Goals as goal

pub returns : goal.returns
returns c =
    let now = c.args.ready.now in
    let o = now.sig.sorts in
    let order : c.sorts-sorts.result.now ≡ o = cc in
    let sorts : AreSorts o = subst AreSorts order c.pairs-pairs.ensures.sorts in
    let acyclic : (r : ℕ) → IsBelow o r r → ⊥ = subst (λ s. (r : ℕ) → IsBelow s r r → ⊥) order c.laws.ensures.acyclic in
    let ready = c.laws-2.ensures in
    let can = narrowing now ready.cancelling ready.convergent ready.formed ready.plain sorts acyclic in
    let varied = all_variants now c.look_up.ensures ready.variants in
    record {
      binds = λ aim list root is there. root_names now aim list root is there;
      respects = λ aim list root formed plain is there. root_respects now aim list root is there can formed plain varied;
      sound = λ aim list root formed plain is there. root_sound now aim list root is there can formed plain varied;
    }
