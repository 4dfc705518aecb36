use Rattle.std.proofs.Common.{arith, ◌≡◌, length, subst}
use Rattle.fold_store.specs.Table.{ClipsMarked}
use Rattle.fold_store.proofs.Retiring.{clips_start, clips_step}
use Rattle.fold_store.proofs.table.clip_marked.Goals as goal

pub loop-at-init : goal.loop-at-init
loop-at-init g c = clips_start c.args.bound c.args.from c.args.marks.now c.args.entries.now.items

pub loop-at-preserved : goal.loop-at-preserved
loop-at-preserved g c =
    clips_step c.args.bound c.args.from c.loop-at.at _ c.args.marks.now c.args.entries.now.items c.loop-at.entries.items c.clip.new.entries.items c.loop-at.invariant c.loop-at-test.true c.clip.ensures

pub returns : goal.returns
returns g c =
    let at : c.loop-at.at ≡ length c.args.marks.now = (let h = c.loop-at-test.false in let k = c.loop-at.auto.at-end c.requires in omega arith) in
    subst (λ k. ClipsMarked c.args.bound c.args.from k c.args.marks.now c.args.entries.now.items c.loop-at.entries.items) at c.loop-at.invariant
