use Rattle.std.proofs.Common.{◌∙◌}
use Rattle.std.proofs.lemmas.List.Elements.{same_from_all_zip}
use Rattle.npa_names.proofs.Copies.{same_bytes}
use Rattle.npa_names.proofs.table.NameTable.copy.Goals as goal

pub returns : goal.returns
returns c =
    same_bytes (λ name. name.items) _ (λ x y is. same_from_all_zip _ x.items y.items is.0 (λ a b e. e)) c.self.inside.names.keys c.in_ok-clone.field-0.keys c.in_ok-clone.ensures.cases
    ∙ c.self.view_is
