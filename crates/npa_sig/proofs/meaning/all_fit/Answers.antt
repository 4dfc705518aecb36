use Rattle.std.proofs.Common.{sym, ◌∙◌}
use Rattle.std.proofs.lemmas.List.{length-map}
use Rattle.npa_sig.specs.Meaning.{sort_at}
use Rattle.npa_sig.proofs.Meanings.{all_fit_apart}
use Rattle.npa_sig.proofs.meaning.all_fit.Goals as goal

pub returns-then-args-sorts : goal.returns-then-args-sorts
returns-then-args-sorts c =
    sym (all_fit_apart c.args.sig.now c.args.scope.now c.args.bytes.now _ c.args.sorts.now (λ e. c.if-args-sorts.true (sym (length-map c.args.args.now (sort_at c.args.sig.now c.args.scope.now c.args.bytes.now)) ∙ e)))
