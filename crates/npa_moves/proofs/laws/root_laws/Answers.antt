use Rattle.std.proofs.Common.{◌≡◌, ℕ, subst}
use Rattle.npa_sorts.specs.Subsorts.{AreSorts, IsBelow}
use Rattle.npa_sig.proofs.Bindings.{as_bound, bindings, bound_below}
use Rattle.npa_rewrite.specs.Innermost.{normalized}
use Rattle.npa_rewrite.specs.Theories.{theory_of}
use Rattle.npa_moves.specs.Steps.{found_variants, solve_over}
use Rattle.npa_moves.proofs.RootComplete.{roots_complete}
use Rattle.npa_moves.proofs.RootMet.{root_met}
use Rattle.npa_moves.proofs.Solved.{aim_low, aim_own, aim_sorted, aim_variable, all_varied, one_sorted, solves_over}
use Rattle.npa_moves.proofs.laws.root_laws.Goals as goal

pub returns : goal.returns
returns c =
    let now = c.args.ready.now in
    let sig = now.sig in
    let o = sig.sorts in
    let th = theory_of now in
    let order : c.sorts-sorts.result.now ≡ o = cc in
    let sorts : AreSorts o = subst AreSorts order c.pairs-pairs.ensures.sorts in
    let acyclic : (r : ℕ) → IsBelow o r r → ⊥ = subst (λ s. (r : ℕ) → IsBelow s r r → ⊥) order c.laws.ensures.acyclic in
    let solves = solves_over o sorts acyclic c.unifier_laws.ensures.answers c.unifier_laws.ensures.complete in
    let ready = c.laws-2.ensures in
    let sorted = one_sorted now c.look_up.ensures ready.variants in
    let gives = c.normalizing_laws.ensures.gives th ready.cancelling ready.convergent in
    record {
      complete = λ a aim q list formed fits is by.
          roots_complete o now.strands (solve_over o) (found_variants now) solves sorted a aim q fits (aim_low sig now.strands aim formed) (aim_sorted sig now.strands aim formed) list is by;
      met = λ aim list run sent values chosen formed is runs assigns normal meets.
          let a = bindings 0 aim.sorts values in
          root_met th ready.cancelling ready.formed.signature.pairs now.strands (found_variants now) run sent values a
          (all_varied now (normalized th) gives c.look_up.ensures (ready.instances (normalized th) gives) run.instances runs.instances)
          aim list chosen
          (λ p d t e. (normal p d t e, as_bound sig aim.sorts values assigns.sorted t (aim_own sig now.strands aim formed p d t e)))
          (λ v d. (bound_below sig aim.sorts values assigns.sorted v (aim_variable sig now.strands aim formed v d)).0)
          (λ q by. roots_complete o now.strands (solve_over o) (found_variants now) solves sorted a aim q
          (λ v d. (bound_below sig aim.sorts values assigns.sorted v (aim_variable sig now.strands aim formed v d)).1)
          (aim_low sig now.strands aim formed) (aim_sorted sig now.strands aim formed) list is by)
          meets;
    }
