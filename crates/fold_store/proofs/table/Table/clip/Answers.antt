use Rattle.std.proofs.Common.{List, map, ap, sym, ◌∙◌, subst}
use Rattle.fold_core.specs.Machine.{Entry}
use Rattle.fold_store.specs.Log.{NoneNewer}
use Rattle.fold_store.specs.Table.{Indexed, Joined, Logged, clip_entry}
use Rattle.fold_store.proofs.Clipping.{indexed_clip}
use Rattle.fold_store.proofs.Joining.{joined_clip}
use Rattle.fold_store.proofs.Retiring.{logged_clip, clips_whole}
use Rattle.fold_store.proofs.table.Table.clip.Goals as goal

pub invariant_of-self : goal.invariant_of-self
invariant_of-self g c =
    let es = c.self.inside.entries.items in
    let logged = subst (Logged es) (sym c.marks.ensures) c.self.invariant.2 in
    let older = subst (NoneNewer c.args.bound c.newer-from.result) (sym c.marks.ensures) c.newer-from.ensures.older in
    let whole = clips_whole c.args.bound c.newer-from.result c.marks.result.now es c.clip_marked.new.entries.items logged older c.clip_marked.ensures in
    subst (λ (w : List (Entry _)). Indexed w c.self.inside.live.items c.self.inside.first c.self.inside.taken × Joined w c.self.inside.forest × Logged w c.clip.new.self) (sym whole) (
      indexed_clip c.args.bound es c.self.inside.live.items c.self.inside.first c.self.inside.taken c.self.invariant.0,
      joined_clip c.args.bound c.self.invariant.1,
      subst (Logged (map (clip_entry c.args.bound) es)) (sym c.clip.ensures) (logged_clip c.args.bound c.self.invariant.2),
    )

pub returns : goal.returns
returns g c =
    let es = c.self.inside.entries.items in
    let logged = subst (Logged es) (sym c.marks.ensures) c.self.invariant.2 in
    let older = subst (NoneNewer c.args.bound c.newer-from.result) (sym c.marks.ensures) c.newer-from.ensures.older in
    clips_whole c.args.bound c.newer-from.result c.marks.result.now es c.clip_marked.new.entries.items logged older c.clip_marked.ensures ∙ ap (map (clip_entry c.args.bound)) c.self.view_is
