use Rattle.std.proofs.lemmas.Result.{err_from_is_err_and}
use Rattle.npa_sig.proofs.Prints.{begins_on, begins_added}
use Rattle.npa_sig.proofs.printing.+printing.Goals as goal

pub print_application-returns-in_err-print_term-clause-err :
    goal.print_application-returns-in_err-print_term-clause-err
print_application-returns-in_err-print_term-clause-err t c =
    let p = err_from_is_err_and c.from_residual-in_err-print_term.result c.from_residual-in_err-print_term.ensures.1 in
    rw p.1 (begins_on c.args.out.now.items c.put_text-in-loop-i.new.out.items c.print_term.new.out.items
    (begins_on c.args.out.now.items c.loop-i.out.items c.put_text-in-loop-i.new.out.items c.loop-i.invariant.begins (begins_added c.loop-i.out.items _ _ c.in_ok-put_text-2.ensures.ok))
    c.in_err-print_term.ensures.err)
