use Rattle.std.proofs.Common.{sym, subst}
use Rattle.npa_sig.specs.Signature.{Signature}
use Rattle.npa_sig.specs.Operators.{HasSorts}
use Rattle.npa_module.proofs.draft.declare.Goals as goal

-- the signature that was taken out is the draft's
pub declare-requires-clause-sorts : goal.declare-requires-clause-sorts
declare-requires-clause-sorts c =
    subst (λ (sig : Signature). HasSorts sig.sorts c.args.decl) (sym c.parted-sig.ensures.sig) c.requires.sorts
