use Rattle.std.proofs.Common.{Some}
use Rattle.std.proofs.Common.{sym, ◌∙◌, ap}
use Rattle.std.proofs.lemmas.Option.{slice_get-get_or}
use Rattle.npa_back.proofs.Receiving.{found_here}
use Rattle.npa_back.proofs.learning.first_receive.Goals as goal

-- src/learning.rt:31:13
pub returns-then-received_last : goal.returns-then-received_last
returns-then-received_last c = λ g.
    let ps = c.args.strands.now in
    let there = slice_get-get_or ps c.loop-k.k c.index-strands-k.result c.loop-k-test.true in (
      c.index-strands-k.result,
      there ∙ ap Some (sym c.index-strands-k.is),
      sym (c.loop-k.invariant g)
          ∙ found_here c.args.ready.now.strands g ps c.loop-k.k c.index-strands-k.result (there ∙ ap Some (sym c.index-strands-k.is)) (sym c.received_last.ensures ∙ c.if-received_last.true),
    )
