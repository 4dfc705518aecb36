use Rattle.std.proofs.Common.{map, sym, ◌∙◌}
use Rattle.std.proofs.lemmas.List.{length-map}
use Rattle.npa_term.specs.Parts.{least_sort}
use Rattle.npa_sig.proofs.Declared.{all_below_apart}
use Rattle.npa_sig.proofs.signature.Sig.all_below.Goals as goal

pub returns-then-args-sorts : goal.returns-then-args-sorts
returns-then-args-sorts c =
    sym (all_below_apart c.args.self.now (map least_sort c.args.args.now) c.args.sorts.now (λ e. c.if-args-sorts.true (sym (length-map c.args.args.now least_sort) ∙ e)))
