use Rattle.npa_rewrite.specs.Theories.{theory_of}
use Rattle.npa_closed.proofs.Unreached.{PrunedUnmet, made, no_member, no_root, unreached}
use Rattle.npa_closed.proofs.laws.closed_laws.Goals as goal

pub returns : goal.returns
returns c =
    let now = c.args.ready.now in
    let ready = c.laws.ensures in
    let gives = c.normalizing_laws.ensures.gives (theory_of now) ready.cancelling ready.convergent in
    let unmet : PrunedUnmet now = λ run sent g a is fit pruned meets. c.prune_laws.ensures.unmet (made now) run sent g a gives is fit pruned meets in
    let fit = c.fit_laws.ensures in
    record {
      members = λ nf aim members m run sent a known closed there runs meets.
          no_member now ready.cancelling ready.convergent ready.formed unmet fit.steps c.step_laws.ensures.back aim members closed nf known run sent runs m a there meets;
      roots = λ nf aim members list root run sent a known aimed plain closed are there runs meets.
          no_root now ready.cancelling ready.convergent ready.formed unmet fit.steps c.step_laws.ensures.back aim members closed nf known run sent runs
          (λ others other is has. fit.roots aim others other aimed plain is has) list root a are there meets;
      unreached = λ nf aim members run known aimed plain accepted closed reaches.
          unreached now ready.cancelling ready.convergent ready.formed unmet fit.steps c.step_laws.ensures.back aim members closed nf known aimed accepted
          (λ others other is has. fit.roots aim others other aimed plain is has)
          (λ list other sent values chosen is runs assigns normal meets. c.root_laws.ensures.met aim list other sent values chosen aimed is runs assigns normal meets)
          run reaches;
    }
