use Rattle.std.proofs.Common.{arith, ◌≡◌, ◌<◌, ◌≤◌, length, ap, ◌∙◌}
use Rattle.fold_core.specs.Machine.{least_waiting}
use Rattle.fold_store.proofs.Indexing.{waiting_first, waiting_none}
use Rattle.fold_store.proofs.table.Table.first_waiting.Goals as goal
use Rattle.fold_store.proofs.table.Table.first_waiting.Goals.{then-at-len, else-at-len}

pub returns-clause-answer : goal.returns-clause-answer
returns-clause-answer g c =
    let es = c.as_slice.result.now in
    let seen : es ≡ c.args.self.now = c.as_slice.ensures.value ∙ c.self.view_is in
    let many = c.as_slice.ensures.len in
    let total = c.len.ensures in
    elim c.if-at-len.branch [
      | then-at-len w ↦
          (let within : c.next_waiting-at.result < length es = (let h = w.if-at-len.true in omega arith) in
          w.result-is ∙ waiting_first es c.next_waiting-at.result within c.next_waiting-at.ensures.before c.next_waiting-at.ensures.waits ∙ ap least_waiting seen)
      | else-at-len w ↦
          (let past : length es ≤ c.next_waiting-at.result = (let h = w.if-at-len.false in omega arith) in
          w.result-is ∙ waiting_none es c.next_waiting-at.result past c.next_waiting-at.ensures.before ∙ ap least_waiting seen)
    ]
