use Rattle.std.proofs.Common.{◌∙◌, ap}
use Rattle.npa_names.specs.Names.{place_of}
use Rattle.npa_names.proofs.Places.{place_found}
use Rattle.npa_names.proofs.table.NameTable.place.Goals as goal

pub returns-clause-place : goal.returns-clause-place
returns-clause-place c = c.get_index_of.ensures.index ∙ place_found (λ name. name.items) c.args.name.now c.self.inside.names.keys ∙ ap (place_of c.args.name.now) c.self.view_is
