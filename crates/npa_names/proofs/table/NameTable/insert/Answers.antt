use Rattle.std.proofs.Common.{◌∙◌, ap, is_none, ◌≡◌, List, ℕ, map}
use Rattle.npa_names.specs.Names.{place_of}
use Rattle.npa_names.proofs.Places.{none_found}
use Rattle.npa_names.proofs.table.NameTable.insert.Goals as goal

pub returns-clause-added : goal.returns-clause-added
returns-clause-added c =
    let copied : List ℕ = c.in_ok-from_slice.field-0.items in
    let text : copied ≡ c.args.name.now = c.in_ok-from_slice.ensures.items in
    let names : List (List ℕ) = map (λ name. name.items) c.self.inside.names.keys in
    c.in_ok-added.ensures.added ∙ none_found (λ name. name.items) copied c.self.inside.names.keys
    ∙ ap (λ (name : List ℕ). is_none (place_of name names)) text ∙ ap (λ (all : List (List ℕ)). is_none (place_of c.args.name.now all)) c.self.view_is
