-- What backward narrowing tries before it unifies (Escobar, Meadows, Meseguer 2009, on the rules that
-- are run backwards).
use Rattle.std.specs.Prelude.{ℕ, zero, suc, ◌+◌, ◌-◌, Bool, false, not, Option, None, Some, List, [], ◌∷◌, ◌++◌, map, slice_get, slice_index_or, slice_set, take}
use Rattle.std.specs.List.{flat_map}
use Rattle.npa_term.specs.declared.term.Term.{Term}
use Rattle.npa_term.specs.declared.term.Term.TheVariants.{Name}
use Rattle.npa_term.specs.Variables.{variables, renamed}
use Rattle.npa_sig.specs.declared.protocol.Event.{Event}
use Rattle.npa_sig.specs.declared.protocol.Strand.{Strand}
use Rattle.npa_variants.specs.declared.variant.Variant.{Variant}
use Rattle.npa_variants.specs.Search.{past}
use Rattle.npa_variants.specs.StrandVariants.{args_of, messages_of}
use Rattle.npa_model.specs.declared.pattern.PStrand.{PStrand}
use Rattle.npa_model.specs.declared.pattern.Pattern.{Pattern}
use Rattle.npa_model.specs.Backward.{received, set_back}
use Rattle.npa_model.specs.Fitting.{pattern_variables}
use Rattle.npa_model.specs.Patterns.{events_at}
use Rattle.npa_moves.specs.declared.step.Rule.{Rule}
use Rattle.npa_moves.specs.declared.step.Rule.TheVariants as rule
use Rattle.npa_moves.specs.Picks.{Pick}

-- A move: its label; the earlier pattern before a unifier is applied; the pairs to be unified; the pairs
-- that the unifier must not make equal; and a number past those of all variables.
pub record Move (L : Type 0) : Type 0 where
  pub label : L
  pub from : Pattern
  pub pairs : List (Term × Term)
  pub apart : List (Term × Term)
  pub next : ℕ

-- The event directly before a bar.
abbrev pub event_before : List Event → ℕ → Option Event
event_before events zero = None
event_before events (suc n) = slice_get events n

-- The event that a pattern's strand executed last, where it has executed any.
abbrev pub last_event : List Strand → PStrand → Option Event
last_event strands p = event_before (events_at strands p.strand) p.bar

abbrev pub is_receive : Option Event → Bool
is_receive None = false
is_receive (Some event) = not event.sent

abbrev pub is_send : Option Event → Bool
is_send None = false
is_send (Some event) = event.sent

-- The message of that event.
abbrev pub last_message : PStrand → Term
last_message p = slice_index_or p.msgs (p.bar - 1) (Name 0)

-- A number past those of a pattern's variables.
abbrev pub past_pattern : Pattern → ℕ
past_pattern g = past (pattern_variables g)

-- Each of these terms with one term.
abbrev pub each_with : Term → List Term → List (Term × Term)
each_with m ts = map (λ t. (t, m)) ts

-- Strand `k` hasn't received its last message yet, which is known.
abbrev pub receive_move : Pattern → ℕ → PStrand → Move Rule
receive_move g k p = record {
  label = rule.Receive k;
  from = received k p (p.bar - 1) (last_message p) g;
  pairs = [];
  apart = [];
  next = past_pattern g;
}

-- Strand `k` hasn't sent its last message yet, and the facts stay as they are.
abbrev pub send_move : Pattern → ℕ → PStrand → Move Rule
send_move g k p = record {
  label = rule.Send k;
  from = record { strands = slice_set g.strands k (set_back p (p.bar - 1)); known = g.known; unknown = g.unknown };
  pairs = [];
  apart = [];
  next = past_pattern g;
}

-- Strand `k` hasn't sent its last message yet, which makes the facts of a pick known and isn't known
-- itself.
abbrev pub learn_move : Pattern → ℕ → PStrand → Pick → Move Rule
learn_move g k p pick = record {
  label = rule.Learn k pick.places;
  from = record {
    strands = slice_set g.strands k (set_back p (p.bar - 1));
    known = pick.left;
    unknown = g.unknown ++ last_message p ∷ [];
  };
  pairs = each_with (last_message p) pick.taken;
  apart = each_with (last_message p) g.unknown;
  next = past_pattern g;
}

-- The message of the event of this number in a variant with its variables raised by `base`.
abbrev pub raised_message : ℕ → Strand → Variant → ℕ → Term
raised_message base strand v e = renamed base (slice_index_or (messages_of strand v) e (Name 0))

-- The strand of number `s`, before its event `e`, by such a variant.
abbrev pub raised_strand : ℕ → ℕ → Strand → Variant → ℕ → PStrand
raised_strand base s strand v e = record {
  strand = s;
  bar = e;
  args = map (renamed base) (args_of strand v);
  msgs = map (renamed base) (take e (messages_of strand v));
}

-- A number past those of a variant's variables.
abbrev pub past_variant : Variant → ℕ
past_variant v = past (flat_map variables v.terms)

-- An instance of strand `s` by its variant number `n` hasn't sent the message of event `e` yet, which
-- makes the facts of a pick known and isn't known itself.
abbrev pub introduce_move : Pattern → ℕ → Strand → ℕ → Variant → ℕ → Pick → Move Rule
introduce_move g s strand n v e pick = record {
  label = rule.Introduce s n e pick.places;
  from = record {
    strands = g.strands ++ raised_strand (past_pattern g) s strand v e ∷ [];
    known = pick.left;
    unknown = g.unknown ++ raised_message (past_pattern g) strand v e ∷ [];
  };
  pairs = each_with (raised_message (past_pattern g) strand v e) pick.taken;
  apart = each_with (raised_message (past_pattern g) strand v e) g.unknown;
  next = past_pattern g + past_variant v;
}
