-- Origination: what a strand sends it got, made or needn't be given (Escobar, Meadows, Meseguer 2009,
-- on fresh variables; Thayer, Herzog, Guttman 1999, on where a term originates).
use Rattle.std.specs.Prelude.{◌≡◌, ◌<◌, ◌⊎◌, ℕ, ◌+◌, Bool, true, false, not, ◌&&◌, ◌||◌, cond, Option, Some, None, find, Contains, List, [], ◌∷◌, length, take, drop, get_or, map, slice_get}
use Rattle.std.specs.List.{flat_map}
use Rattle.npa_term.specs.declared.term.Var.{Var as Variable}
use Rattle.npa_term.specs.declared.term.Term.{Term}
use Rattle.npa_term.specs.declared.term.Term.TheVariants.{Var, Name, App'}
use Rattle.npa_term.specs.Bound.{value_of}
use Rattle.npa_term.specs.Numbering.{is_listed, numbering}
use Rattle.npa_term.specs.Parts.{IsPart}
use Rattle.npa_term.specs.Variables.{variables}
use Rattle.npa_sig.specs.declared.protocol.Event.{Event}
use Rattle.npa_sig.specs.declared.protocol.Strand.{Strand}
use Rattle.npa_sig.specs.Nameless.{CarriesNames}
use Rattle.npa_sig.specs.Signature.{Signature}
use Rattle.npa_variants.specs.Rows.{Row, is_among}

-- A row here is one of a strand: values of its parameters, and then its messages. `m` is the number of
-- the parameters.

-- The first message of the events in which a variable occurs is a received one.
pub record IsFirstReceived (events : List Event) (ts : List Term) (v : Variable) : Type 0 where
  pub place : ℕ
  pub event : Event
  pub message : Term
  pub event_there : slice_get events place ≡ Some event
  pub message_there : slice_get ts place ≡ Some message
  pub received : event.sent ≡ false
  pub occurs : Contains (variables message) v
  pub first : (i : ℕ) (t : Term) → i < place → slice_get ts i ≡ Some t → Contains (variables t) v → ⊥

-- Each variable of a row's messages is the value of a fresh parameter, or of a sort that carries no
-- names, or occurs first in a received message.
abbrev pub Originates : Signature → ℕ → Strand → Row → Type 0
Originates sig m strand row =
    (v : Variable) → Contains (flat_map variables (drop m row)) v →
    Contains (drop (length strand.vars) (take m row)) (Var v) ⊎
    ((CarriesNames sig v.sort → ⊥) ⊎ IsFirstReceived strand.events (drop m row) v)

-- Whether the first message in which a variable occurs is a received one; false where it occurs in none.
abbrev pub is_received : Variable → List Event → List Term → Bool
is_received v [] ts = false
is_received v (e ∷ es) [] = false
is_received v (e ∷ es) (t ∷ ts) = cond (is_listed (variables t) v) (not e.sent) (is_received v es ts)

-- The same by marks at the sorts that carry names: what computes.
abbrev pub is_originating : List Bool → ℕ → Strand → Row → Variable → Bool
is_originating marks m strand row v =
    is_among (drop (length strand.vars) (take m row)) (Var v)
    || (not (get_or marks v.sort false) || is_received v strand.events (drop m row))

-- Whether a variable of a row's messages doesn't originate.
abbrev pub is_unoriginated : List Bool → ℕ → Strand → Row → Variable → Bool
is_unoriginated marks m strand row v =
    is_listed (flat_map variables (drop m row)) v && not (is_originating marks m strand row v)

-- The first variable of a row that is such a one, in the order of the values and then the messages.
abbrev pub row_fault : List Bool → ℕ → Strand → Row → Option Variable
row_fault marks m strand row = find (is_unoriginated marks m strand row) (flat_map variables row)

-- The variable of a row with the number that it has in the order in which the variables of the row first
-- occur, from 0: the row is in canonical form, so its variables may have other numbers.
abbrev pub bound_to : Variable → Option Term → Variable
bound_to v (Some (Var w)) = w
bound_to v (Some (Name n)) = v
bound_to v (Some (App' op n ts)) = v
bound_to v None = v

abbrev pub in_order : Row → Variable → Variable
in_order row v = bound_to v (value_of (numbering row) v)

-- The first row, numbered from `j`, that has such a variable, with the first one.
abbrev pub at_variant : ℕ → Row → Option Variable → Option (ℕ × Variable) → Option (ℕ × Variable)
at_variant j row None later = later
at_variant j row (Some v) later = Some (j, in_order row v)

abbrev pub origin_fault : List Bool → ℕ → Strand → ℕ → List Row → Option (ℕ × Variable)
origin_fault marks m strand j [] = None
origin_fault marks m strand j (row ∷ rows) =
    at_variant j row (row_fault marks m strand row) (origin_fault marks m strand (j + 1) rows)
