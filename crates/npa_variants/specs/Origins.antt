-- What the private clauses of the check of origination speak of.
use Rattle.std.specs.Prelude.{Bool, false, not, ◌&&◌, ◌||◌, List, get_or}
use Rattle.std.specs.List.{flat_map}
use Rattle.npa_term.specs.declared.term.Var.{Var as Variable}
use Rattle.npa_term.specs.declared.term.Term.{Term}
use Rattle.npa_term.specs.declared.term.Term.TheVariants.{Var}
use Rattle.npa_term.specs.Numbering.{is_listed}
use Rattle.npa_term.specs.Variables.{variables}
use Rattle.npa_sig.specs.declared.protocol.Event.{Event}
use Rattle.npa_variants.specs.Origination.{is_received}
use Rattle.npa_variants.specs.Rows.{is_among}

-- Whether a variable originates where these are the values of the fresh parameters, and these the
-- messages of the events.
abbrev pub originates_in : List Bool → List Event → List Term → List Term → Variable → Bool
originates_in marks events fresh messages v =
    is_among fresh (Var v) || (not (get_or marks v.sort false) || is_received v events messages)

-- Whether it is a variable of the messages that doesn't.
abbrev pub fails_in : List Bool → List Event → List Term → List Term → Variable → Bool
fails_in marks events fresh messages v =
    is_listed (flat_map variables messages) v && not (originates_in marks events fresh messages v)
