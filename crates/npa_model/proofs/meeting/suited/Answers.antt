use Rattle.std.proofs.Common.{ℕ, ◌<◌, arith}
use Rattle.std.proofs.lemmas.Option.{slice_get_within}
use Rattle.npa_rewrite.specs.Innermost.{normalized}
use Rattle.npa_model.specs.Encounters.{IsSuited}
use Rattle.npa_model.proofs.Picking.{row_more}
use Rattle.npa_model.proofs.meeting.suited.Goals as goal

pub loop-n-preserved : goal.loop-n-preserved
loop-n-preserved c =
    row_more (IsSuited (normalized c.args.th.now) c.args.protocol.now.strands c.args.instances.now c.args.standing c.args.state.now c.args.strand.now) c.loop-n.row c.push_if.new.row c.loop-n.n c.in_ok-suit.suit c.loop-n.invariant c.in_ok-suit.ensures c.in_ok-push_if.ensures

pub returns : goal.returns
returns c = record {
  each = λ m. (λ d. ((c.loop-n.invariant m).0 d).1, λ s. (c.loop-n.invariant m).1 (omega (arith, slice_get_within c.args.instances.now m s.instance s.there, c.len-n-end.ensures, c.loop-n-test.false), s));
}
