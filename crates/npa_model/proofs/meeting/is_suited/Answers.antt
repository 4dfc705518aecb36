use Rattle.std.proofs.Common.{◌≡◌, ℕ, List, Some, slice_get, slice_index, get_or, length, ap, sym, ◌∙◌, arith}
use Rattle.std.proofs.lemmas.Option.{slice_get-get_or}
use Rattle.npa_rewrite.specs.Innermost.{normalized}
use Rattle.npa_model.specs.declared.run.Instance.{Instance}
use Rattle.npa_model.specs.State.{State}
use Rattle.npa_model.proofs.Comparing.{if_ok}
use Rattle.npa_model.proofs.Picking.{suited_exactly}
use Rattle.npa_model.proofs.meeting.is_suited.Goals as goal

pub returns : goal.returns
returns c = if_ok c.suits.result c.suits.ensures (λ b test.
    suited_exactly (normalized c.args.th.now) c.args.protocol.now.strands c.args.standing c.args.instances.now c.args.state.now c.index-as_slice-n.result (slice_index c.as_slice.result.now c.args.n) c.args.n c.args.strand.now b
    (slice_get-get_or c.args.instances.now c.args.n c.index-as_slice-n.result c.requires.within ∙ ap Some (ap (λ (is : List Instance). get_or is c.args.n c.index-as_slice-n.result) (sym c.as_slice-2.ensures) ∙ sym c.index-as_slice-n.is))
    (ap (λ (ns : List ℕ). slice_index ns c.args.n) (c.as_slice.ensures ∙ ap (λ (s : State). s.executed) c.state.view_is)) test)
