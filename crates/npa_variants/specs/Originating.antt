-- What the check of origination says of the instances of strands: a name that an instance sends is one
-- of its own fresh values, or it received it before.
use Rattle.std.specs.Prelude.{◌≡◌, ◌<◌, ◌⊎◌, ℕ, true, false, Some, Contains, List, length, drop, map, slice_get}
use Rattle.npa_term.specs.declared.term.Term.{Term}
use Rattle.npa_term.specs.declared.term.Term.TheVariants.{Name}
use Rattle.npa_term.specs.Parts.{IsPart, least_sort}
use Rattle.npa_sig.specs.declared.protocol.Event.{Event}
use Rattle.npa_sig.specs.declared.protocol.Strand.{Strand}
use Rattle.npa_sig.specs.Parameters.{param_sorts}
use Rattle.npa_sig.specs.Signature.{Signature}
use Rattle.npa_sig.specs.Sorting.{all_below}
use Rattle.npa_sig.specs.Values.{under}
use Rattle.npa_rewrite.specs.Normal.{IsNormalTerm}

-- A name stands in a message, in normal form, that is received before the event at place `k`.
pub record IsHeardBefore (nf : Term → Term) (events : List Event) (args : List Term) (n k : ℕ) : Type 0 where
  pub place : ℕ
  pub event : Event
  pub before : place < k
  pub there : slice_get events place ≡ Some event
  pub received : event.sent ≡ false
  pub name : IsPart (Name n) (nf (under args event.msg))

-- Of each strand and of all normal values of its parameters: a name in a message that is sent, in normal
-- form, is the value of a fresh parameter, or it stands in a message that is received before.
abbrev pub IsOriginating : (Term → Term) → Signature → List Strand → Type 0
IsOriginating nf sig strands =
    (s : ℕ) (strand : Strand) → slice_get strands s ≡ Some strand →
    (args : List Term) → all_below sig (map least_sort args) (param_sorts strand) ≡ true →
    ((t : Term) → Contains args t → IsNormalTerm nf sig t) →
    (k : ℕ) (e : Event) → slice_get strand.events k ≡ Some e → e.sent ≡ true →
    (n : ℕ) → IsPart (Name n) (nf (under args e.msg)) →
    Contains (drop (length strand.vars) args) (Name n) ⊎ IsHeardBefore nf strand.events args n k
