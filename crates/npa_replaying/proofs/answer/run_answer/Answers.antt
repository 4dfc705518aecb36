use Rattle.std.proofs.Common.{ℕ, List, sym, subst}
use Rattle.npa_sig.specs.declared.protocol.Protocol.{Protocol}
use Rattle.npa_outside.specs.Outside.{Outside, counted, IsOnly}
use Rattle.npa_replaying.specs.Replaying.{IsForRun, Replayed}
use Rattle.npa_replaying.proofs.OneRun.{few_strands, form_read, for_long_run, for_refused_run, for_replayed}
use Rattle.npa_replaying.proofs.answer.run_answer.Goals as goal

pub load_run-requires : goal.load_run-requires
load_run-requires g c = record { few = few_strands c.args.ready.now c.protocol.result.now c.protocol.ensures c.laws.ensures.plain }

pub replayed-requires-clause-run : goal.replayed-requires-clause-run
replayed-requires-clause-run g c = form_read c.args.ready.now c.protocol.result.now c.protocol.ensures c.in_ok-run.field-0 c.in-Read.run' c.in-Read.is c.in_ok-run.ensures.form

pub returns-in_ok-replayed-in-Read-clause-shown : goal.returns-in_ok-replayed-in-Read-clause-shown
returns-in_ok-replayed-in-Read-clause-shown g c =
    let o = (counted (g.F.Files.holds c.args.files.now) (g.F.Files.longs c.args.files.now) (g.F.Files.longs c.load_run.new.files) (g.F.Files.faults c.args.files.now) (g.F.Files.faults c.load_run.new.files)) in
    let text = c.in_ok-replayed-in-Read.field-0.text.items in
    let status = c.in_ok-replayed-in-Read.field-0.status in
    subst (λ (p : Protocol). IsForRun o c.args.name.now p c.args.aim.now text status) c.protocol.ensures
    (for_replayed o c.args.name.now c.protocol.result.now c.args.aim.now c.in_ok-run.field-0 c.in_ok-run.ensures.told c.in_ok-run.ensures.only c.in_ok-run.ensures.long
    c.in-Read.run' text status c.in-Read.is
    (subst (λ (p : Protocol). Replayed p c.args.aim.now c.in-Read.run' text status) (sym c.protocol.ensures) c.in_ok-replayed-in-Read.ensures.replayed)
    (subst (λ (p : Protocol). IsOnly (Replayed p c.args.aim.now c.in-Read.run') text status) (sym c.protocol.ensures) c.in_ok-replayed-in-Read.ensures.only))

pub returns-in_ok-told-in-TooLong-clause-shown : goal.returns-in_ok-told-in-TooLong-clause-shown
returns-in_ok-told-in-TooLong-clause-shown g c =
    let o = (counted (g.F.Files.holds c.args.files.now) (g.F.Files.longs c.args.files.now) (g.F.Files.longs c.load_run.new.files) (g.F.Files.faults c.args.files.now) (g.F.Files.faults c.load_run.new.files)) in
    let text = c.in_ok-told-in-TooLong.field-0.text.items in
    let status = c.in_ok-told-in-TooLong.field-0.status in
    subst (λ (p : Protocol). IsForRun o c.args.name.now p c.args.aim.now text status) c.protocol.ensures
    (for_long_run o c.args.name.now c.protocol.result.now c.args.aim.now c.in_ok-run.field-0 c.in_ok-run.ensures.told c.in_ok-run.ensures.only c.in_ok-run.ensures.long
    text status c.in-TooLong.is c.in_ok-told-in-TooLong.ensures.text c.in_ok-told-in-TooLong.ensures.status)

pub returns-in_ok-invalid-in-Refused-clause-shown : goal.returns-in_ok-invalid-in-Refused-clause-shown
returns-in_ok-invalid-in-Refused-clause-shown g c =
    let o = (counted (g.F.Files.holds c.args.files.now) (g.F.Files.longs c.args.files.now) (g.F.Files.longs c.load_run.new.files) (g.F.Files.faults c.args.files.now) (g.F.Files.faults c.load_run.new.files)) in
    let text = c.in_ok-invalid-in-Refused.field-0.text.items in
    let status = c.in_ok-invalid-in-Refused.field-0.status in
    subst (λ (p : Protocol). IsForRun o c.args.name.now p c.args.aim.now text status) c.protocol.ensures
    (for_refused_run o c.args.name.now c.protocol.result.now c.args.aim.now c.in_ok-run.field-0 c.in_ok-run.ensures.told c.in_ok-run.ensures.only c.in_ok-run.ensures.long
    c.in-Refused.fail text status c.in-Refused.is c.in_ok-invalid-in-Refused.ensures.text c.in_ok-invalid-in-Refused.ensures.status)
