use Rattle.npa_outside.specs.Outside.{counted, IsTold}
use Rattle.npa_checking.specs.Checking.{IsCheckLine}
use Rattle.npa_answers.proofs.Sources.{for_read, one_check_line}
use Rattle.npa_answers.proofs.checking.check_answer.Goals as goal

pub returns-in_ok-check_line-in-Read-clause-shown : goal.returns-in_ok-check_line-in-Read-clause-shown
returns-in_ok-check_line-in-Read-clause-shown g c =
    let o = (counted (g.F.Files.holds c.args.files.now) (g.F.Files.longs c.args.files.now) (g.F.Files.longs c.load_module.new.files) (g.F.Files.faults c.args.files.now) (g.F.Files.faults c.load_module.new.files)) in
    let text = c.in_ok-check_line-in-Read.field-0.text.items in
    let status = c.in_ok-check_line-in-Read.field-0.status in
    for_read o c.args.file.now IsCheckLine IsCheckLine (IsTold o c.args.file.now) (λ k. k) c.in_ok-source.field-0
    c.in_ok-source.ensures.told c.in_ok-source.ensures.only c.in_ok-source.ensures.long text status c.in-Read.source c.in-Read.is
    c.in_ok-check_line-in-Read.ensures (λ k. one_check_line c.in-Read.source text status c.in_ok-check_line-in-Read.ensures)
