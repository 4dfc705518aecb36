use Rattle.std.proofs.Common.{List, ℕ, take, ◌+◌, ◌++◌, ◌∷◌, [], sym, subst, arith}
use Rattle.npa_rewrite.specs.Innermost.{normalized}
use Rattle.npa_model.specs.Encounters.{AreSuited, AreAllSuited}
use Rattle.npa_model.proofs.Picking.{zip_more}
use Rattle.npa_model.proofs.meeting.all_suited.Goals as goal

pub loop-strand-preserved : goal.loop-strand-preserved
loop-strand-preserved c =
    subst (λ (rows : List (List ℕ)). AreAllSuited (normalized c.args.th.now) c.args.protocol.now.strands c.args.instances.now c.args.standing c.args.state.now (take (c.loop-strand.strand-index + 1) c.args.strands.now) rows) (sym c.in_ok-push.ensures.ok)
    (zip_more (AreSuited (normalized c.args.th.now) c.args.protocol.now.strands c.args.instances.now c.args.standing c.args.state.now) c.args.strands.now c.loop-strand.rows c.loop-strand.strand-index c.strand-item.result c.in_ok-row.row (omega (arith, c.loop-strand-test.true)) c.strand-item.is c.loop-strand.invariant c.in_ok-row.ensures)
