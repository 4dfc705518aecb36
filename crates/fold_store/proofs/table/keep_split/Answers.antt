use Rattle.std.proofs.Common.{List, rules, arith, ◌≡◌, [], ◌∷◌, ◌++◌, length, ap, sym, ◌∙◌, subst}
use Rattle.fold_core.specs.Machine.{Entry, Stands}
use Rattle.fold_store.specs.Table.{Indexed, Joined, Logged, SplitsLive}
use Rattle.fold_store.proofs.Indexing.{indexed_keep}
use Rattle.fold_store.proofs.Joining.{covered_within, joined_keep}
use Rattle.fold_store.proofs.Retiring.{logged_keep, logged_more}
use Rattle.fold_store.proofs.table.keep_split.Goals as goal

pub join_all-requires-clause-numbers : goal.join_all-requires-clause-numbers
join_all-requires-clause-numbers g c = λ k n t.
    let s = subst (λ (w : List (Entry _)). SplitsLive c.args.split.covered.items c.args.split.others.items w) (sym c.table.view_is) c.requires.live in
    let within = covered_within s k n (subst (λ w. Stands w k n) c.as_slice-3.ensures.value t) in
    let same = c.table.invariant.1.many in
    let more = c.in_ok-add.ensures.many in
    omega arith

pub invariant_of-table-2 : goal.invariant_of-table-2
invariant_of-table-2 g c =
    let many : c.len-to.result ≡ length c.table.inside.entries.items = search rules in
    let s = subst (λ (w : List (Entry _)). SplitsLive c.args.split.covered.items c.args.split.others.items w) (sym c.table.view_is) c.requires.live in
    let pushed : c.push_within.new.entries.items ≡ c.table.inside.entries.items ++ c.new.result ∷ [] = c.push_within.ensures ∙ ap (λ w. w ++ c.new.result ∷ []) c.in_ok-reserve.ensures.items in (
      indexed_keep c.table.inside.entries.items c.retire_all.new.entries.items c.push_within.new.entries.items c.table.inside.live.items c.args.split.covered.items c.as_slice-2.result.now c.args.split.others.items c.push.new.self.items
          c.new.result c.table.inside.first c.table.inside.taken c.len-to.result c.args.tick c.args.item c.args.origin
          c.table.invariant.0 many (rw c.table.view_is c.requires.room) s c.as_slice-2.ensures.value c.new.ensures pushed c.retire_all.ensures c.in_ok-push.ensures.items,
      joined_keep c.as_slice-2.result.now c.as_slice-3.result.now c.len-to.result c.args.tick c.new.result c.args.item c.args.origin c.table.invariant.1 many s c.as_slice-2.ensures.value c.as_slice-3.ensures.value
          c.new.ensures pushed c.retire_all.ensures c.in_ok-add.ensures.many c.in_ok-add.ensures.same c.join_all.ensures.many c.join_all.ensures.same,
      logged_keep c.as_slice-2.result.now c.as_slice.result.now c.len-to.result c.args.tick c.new.result c.args.item c.args.origin c.table.invariant.2 many s c.as_slice-2.ensures.value c.as_slice.ensures.value
          c.new.ensures pushed c.retire_all.ensures c.in_ok-add_all.ensures.marked c.add_all.ensures.keeps,
    )

pub invariant_of-table-in_err-add_all : goal.invariant_of-table-in_err-add_all
invariant_of-table-in_err-add_all g c =
    subst (λ (w : List (Entry _)). Indexed w c.table.inside.live.items c.table.inside.first c.table.inside.taken × Joined w c.table.inside.forest × Logged w c.add_all.new.self) (sym c.in_ok-reserve.ensures.items)
    (c.table.invariant.0, c.table.invariant.1, logged_more c.table.invariant.2 c.add_all.ensures.keeps)

pub invariant_of-table-in_err-add : goal.invariant_of-table-in_err-add
invariant_of-table-in_err-add g c =
    let forest = subst (Joined c.table.inside.entries.items) (sym c.in_err-add.ensures.err) c.table.invariant.1 in
    subst (λ (w : List (Entry _)). Indexed w c.table.inside.live.items c.table.inside.first c.table.inside.taken × Joined w c.add.new.self × Logged w c.add_all.new.self) (sym c.in_ok-reserve.ensures.items)
    (c.table.invariant.0, forest, logged_more c.table.invariant.2 c.add_all.ensures.keeps)
