use Rattle.std.proofs.Common.{◌≡◌, ◌<◌, List, length, sym, ap, subst}
use Rattle.npa_sig.specs.declared.protocol.Protocol.{Protocol}
use Rattle.npa_variants.specs.Ready.{IsReady}
use Rattle.npa_variants.proofs.ReadyLaws.{list_below, list_read}
use Rattle.npa_variants.proofs.ready.Ready.strand_variants.Goals as goal

pub bounds-as_slice-strand : goal.bounds-as_slice-strand
bounds-as_slice-strand c =
    let ready : IsReady c.args.self.now c.self.inside.lists = subst (λ (p : Protocol). IsReady p c.self.inside.lists) c.self.view_is c.self.invariant.1 in
    subst (λ ls. c.args.strand < length ls) (sym c.as_slice.ensures) (list_below c.args.self.now c.self.inside.lists ready c.args.strand c.requires)

pub returns : goal.returns
returns c =
    let ready : IsReady c.args.self.now c.self.inside.lists = subst (λ (p : Protocol). IsReady p c.self.inside.lists) c.self.view_is c.self.invariant.1 in
    list_read c.args.self.now c.self.inside.lists c.as_slice.result.now ready c.args.strand c.index-as_slice-strand.result c.requires c.as_slice.ensures c.index-as_slice-strand.is
