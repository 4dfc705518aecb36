use Rattle.std.proofs.lemmas.Result.{IfOk-weaker}
use Rattle.npa_checking.specs.Checking.{IsCheckLine}
use Rattle.npa_checking.proofs.Telling.{fails}
use Rattle.npa_checking.proofs.checking.check_line.Goals as goal

pub returns-in-Err : goal.returns-in-Err
returns-in-Err c =
    IfOk-weaker c.fail_line.result _ (λ a. IsCheckLine c.args.source.now a.text.items a.status)
    (λ a line. fails c.args.source.now a.text.items a.status c.in-Err.fail c.in-Err.ensures line) c.fail_line.ensures
