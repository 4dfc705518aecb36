use Rattle.std.proofs.Common.{rules, ◌≡◌, true, false, Some, None, slice_get}
use Rattle.fold_store.proofs.Hinting.{hint_nothing, hint_wrong, hint_right}
use Rattle.fold_store.proofs.ledger.Ledger.hinted.Goals as goal

pub returns-in_default-get : goal.returns-in_default-get
returns-in_default-get g c =
    let nothing : slice_get c.args.self.now.core.entries c.follow-end.result ≡ None = search rules in
    hint_nothing (g.F.Folding.rules c.args.self.now.rules) c.args.item.now c.args.hint c.args.self.now.core.entries c.in-Some.number c.follow-end.result c.in-Some.is c.follow-end.ensures.leads nothing

pub returns-then-branch : goal.returns-then-branch
returns-then-branch g c =
    let s : slice_get c.args.self.now.core.entries c.follow-end.result ≡ Some c.in-Some-get.kept.now = search rules in
    let covers : (g.F.Folding.rules c.args.self.now.rules).covers c.in-Some-get.kept.now.item c.args.item.now ≡ true = search rules in
    hint_right (g.F.Folding.rules c.args.self.now.rules) c.args.item.now c.args.hint c.args.self.now.core.entries c.in-Some.number c.follow-end.result c.in-Some-get.kept.now c.in-Some.is c.follow-end.ensures.leads (record { is = s }) covers

pub returns-else-branch : goal.returns-else-branch
returns-else-branch g c =
    let s : slice_get c.args.self.now.core.entries c.follow-end.result ≡ Some c.in-Some-get.kept.now = search rules in
    let fails : (g.F.Folding.rules c.args.self.now.rules).covers c.in-Some-get.kept.now.item c.args.item.now ≡ false = search rules in
    hint_wrong (g.F.Folding.rules c.args.self.now.rules) c.args.item.now c.args.hint c.args.self.now.core.entries c.in-Some.number c.follow-end.result c.in-Some-get.kept.now c.in-Some.is c.follow-end.ensures.leads (record { is = s }) fails
