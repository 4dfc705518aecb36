use Rattle.std.proofs.Common.{◌≡◌, ℕ, subst}
use Rattle.npa_sorts.specs.Subsorts.{AreSorts, IsBelow}
use Rattle.npa_rewrite.specs.Innermost.{normalized}
use Rattle.npa_rewrite.specs.Theories.{theory_of}
use Rattle.npa_moves.specs.Steps.{found_variants, solve_over}
use Rattle.npa_moves.proofs.Complete.{steps_complete}
use Rattle.npa_moves.proofs.GoneBack.{goes_back}
use Rattle.npa_moves.proofs.Solved.{all_varied, fit_messages, fit_sorted, one_sorted, solves_over}
use Rattle.npa_moves.proofs.laws.step_laws.Goals as goal

pub returns : goal.returns
returns c =
    let now = c.args.ready.now in
    let o = now.sig.sorts in
    let th = theory_of now in
    let order : c.sorts-sorts.result.now ≡ o = cc in
    let sorts : AreSorts o = subst AreSorts order c.pairs-pairs.ensures.sorts in
    let acyclic : (r : ℕ) → IsBelow o r r → ⊥ = subst (λ s. (r : ℕ) → IsBelow s r r → ⊥) order c.laws.ensures.acyclic in
    let solves = solves_over o sorts acyclic c.unifier_laws.ensures.answers c.unifier_laws.ensures.complete in
    let ready = c.laws-2.ensures in
    let sorted = one_sorted now c.look_up.ensures ready.variants in
    let gives = c.normalizing_laws.ensures.gives th ready.cancelling ready.convergent in
    record {
      complete = λ a g q list fit fits is by.
          steps_complete o now.strands (solve_over o) (found_variants now) solves sorted a g q (fit_sorted now g fit) fits list is by;
      back = λ a g list instances schedule sent fit is are ex meets later.
          goes_back th ready.cancelling ready.formed.signature.pairs now.strands (found_variants now) instances
          (all_varied now (normalized th) gives c.look_up.ensures (ready.instances (normalized th) gives) instances are)
          a g list (fit_messages now g fit)
          (λ q by. steps_complete o now.strands (solve_over o) (found_variants now) solves sorted a g q (fit_sorted now g fit) meets.sorts list is by)
          schedule sent meets ex later;
    }
