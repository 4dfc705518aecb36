use Rattle.std.proofs.Common.{◌≡◌, ◌∙◌, ◌-◌, List, min, length, take, drop, ap, refl, find, flat_map}
use Rattle.std.proofs.lemmas.List.{take_rest}
use Rattle.npa_term.specs.declared.term.Term.{Term}
use Rattle.npa_term.specs.Variables.{variables}
use Rattle.npa_variants.specs.Origins.{fails_in}
use Rattle.npa_variants.proofs.OriginSteps.{row_split}
use Rattle.npa_variants.proofs.origins.row_fault.Goals as goal

pub returns : goal.returns
returns c =
    let row : List Term = c.args.row.now in
    let behind_ : List Term = take (length row - c.min-own.result) (drop c.min-own.result row) in
    let fresh : List Term = take c.min-count.result behind_ in
    let messages : List Term = take (length behind_ - c.min-count.result) (drop c.min-count.result behind_) in
    c.fault_in.ensures
    ∙ ap (λ es. find (fails_in c.args.marks.now es fresh messages) (flat_map variables row)) c.as_slice.ensures
    ∙ row_split c.args.marks.now c.args.strand.now row behind_ fresh messages c.min-own.result c.min-count.result
    (c.min-own.ensures ∙ ap (λ n. min n (length row)) c.len.ensures) (take_rest row c.min-own.result)
    c.min-count.ensures refl (take_rest behind_ c.min-count.result)
