use Rattle.npa_closed.proofs.AnyUnifier.{lists_there, roots_by_any, steps_by_any}
use Rattle.npa_closed.proofs.laws.any_unifier_laws.Goals as goal

pub returns : goal.returns
returns c = λ aim members formed plain.
    let now = c.args.ready.now in
    let fit = c.fit_laws.ensures in
    let covered = c.prune_laws.ensures.covered in (
      λ closed. (
        record {
          fit = closed.fit;
          none_initial = closed.none_initial;
          roots = roots_by_any now members aim covered
              (λ list root is there. fit.roots aim list root formed plain is there)
              (λ a q list fits is by. c.root_laws.ensures.complete a aim q list formed fits is by) closed.roots;
          steps = λ m there. steps_by_any now members m covered
              (λ list step is has. fit.steps m list step (closed.fit m there) is has)
              (λ a q list fits is by. c.step_laws.ensures.complete a m q list (closed.fit m there) fits is by) (closed.steps m there);
        },
        lists_there now aim members closed,
      ),
      λ both.
          let closed = both.0 in
          let lists = both.1 in
          record {
            fit = closed.fit;
            none_initial = closed.none_initial;
            roots = record {
              list = lists.roots.0;
              are = lists.roots.1;
              fine = λ root there.
                  closed.roots root.unifier root.pattern
                  (c.sound_root_laws.ensures.respects aim lists.roots.0 root formed plain lists.roots.1 there)
                  (c.sound_root_laws.ensures.sound aim lists.roots.0 root formed plain lists.roots.1 there)
                  (fit.roots aim lists.roots.0 root formed plain lists.roots.1 there).sorted;
            };
            steps = λ m there.
                let list = lists.steps m there in
                record {
                  list = list.0;
                  are = list.1;
                  fine = λ step has.
                      closed.steps m there step.unifier step.pattern
                      (c.sound_step_laws.ensures.respects m list.0 step (closed.fit m there) list.1 has)
                      (c.sound_step_laws.ensures.sound m list.0 step (closed.fit m there) list.1 has)
                      (fit.steps m list.0 step (closed.fit m there) list.1 has).sorted;
                };
          },
    )
