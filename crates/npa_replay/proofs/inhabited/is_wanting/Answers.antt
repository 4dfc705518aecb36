use Rattle.std.proofs.Common.{Option, Ok, Err, subst}
use Rattle.npa_term.specs.declared.term.Term.{Term}
use Rattle.npa_sig.specs.declared.fault.LeastFail.{LeastFail}
use Rattle.npa_sig.specs.Least.{IsLeastOf}
use Rattle.npa_replay.proofs.Judging.{none_wanted, from_least, from_past}
use Rattle.npa_replay.proofs.inhabited.is_wanting.Goals as goal

pub returns-in-Ok-None-clause-wanting : goal.returns-in-Ok-None-clause-wanting
returns-in-Ok-None-clause-wanting c _ =
    none_wanted c.args.sig.now c.args.sort c.args.sorts.now (c.stands_among.ensures.0 c.if-not-stands_among.false)
    (subst (λ (o : Option Term). IsLeastOf c.args.sig.now c.args.sort (Ok o)) c.in-Ok-None.field-0-is c.in-Ok-None.ensures.answer)

pub returns-in-Ok-Some-clause-other : goal.returns-in-Ok-Some-clause-other
returns-in-Ok-Some-clause-other c _ _ =
    from_least c.args.sig.now c.args.sort c.in-Ok-Some.field-0-0 (subst (λ (o : Option Term). IsLeastOf c.args.sig.now c.args.sort (Ok o)) c.in-Ok-Some.field-0-is c.in-Ok-Some.ensures.answer)

pub returns-in-Err-Past-clause-other : goal.returns-in-Err-Past-clause-other
returns-in-Err-Past-clause-other c _ _ =
    from_past c.args.sig.now c.args.sort c.in-Err-Past.field-0-0 (subst (λ (e : LeastFail). IsLeastOf c.args.sig.now c.args.sort (Err e)) c.in-Err-Past.field-0-is c.in-Err-Past.ensures.answer)
