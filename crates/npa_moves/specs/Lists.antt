-- All moves in their order, by problems: the moves of a problem are counted together.
use Rattle.std.specs.Prelude.{ℕ, ◌+◌, cond, Option, None, Some, List, [], ◌∷◌, ◌++◌, map, length, slice_get, zip}
use Rattle.npa_term.specs.declared.term.Term.{Term}
use Rattle.npa_term.specs.Variables.{renamed}
use Rattle.npa_sig.specs.declared.protocol.Event.{Event}
use Rattle.npa_sig.specs.declared.protocol.Strand.{Strand}
use Rattle.npa_variants.specs.declared.variant.Variant.{Variant}
use Rattle.npa_variants.specs.StrandVariants.{args_of}
use Rattle.npa_model.specs.declared.aim.Aim.{Aim}
use Rattle.npa_model.specs.declared.aim.Part.{Part}
use Rattle.npa_model.specs.declared.aim.Part.TheVariants as part
use Rattle.npa_model.specs.declared.pattern.PStrand.{PStrand}
use Rattle.npa_model.specs.declared.pattern.Pattern.{Pattern}
use Rattle.npa_moves.specs.declared.step.Rule.{Rule}
use Rattle.npa_moves.specs.Moves.{Move, last_event, is_receive, is_send, receive_move, send_move, learn_move, introduce_move, raised_strand, past_variant}
use Rattle.npa_moves.specs.Picks.{picks}

-- A list for each member of a list, with its place from `k` on, one behind the other.
abbrev pub each_place : {A B : Type 0} → (ℕ → A → List B) → ℕ → List A → List B
each_place f k [] = []
each_place f k (x ∷ xs) = f k x ++ each_place f (k + 1) xs

-- ## Steps

-- The move of the first strand, of these from number `k` on, that received last.
abbrev pub first_receive : List Strand → Pattern → ℕ → List PStrand → Option (Move Rule)
first_receive strands g k [] = None
first_receive strands g k (p ∷ ps) =
    cond (is_receive (last_event strands p)) (Some (receive_move g k p)) (first_receive strands g (k + 1) ps)

-- A strand that sent last: its move alone, and then its moves with each pick of the known facts.
abbrev pub send_problems : List Strand → Pattern → ℕ → PStrand → List (List (Move Rule))
send_problems strands g k p =
    cond (is_send (last_event strands p))
    ((send_move g k p ∷ []) ∷ map (learn_move g k p) (picks g.known) ∷ [])
    []

-- The moves of a variant's event with each pick of the known facts, where it is sent.
abbrev pub event_problems : Pattern → ℕ → Strand → ℕ → Variant → ℕ → Event → List (List (Move Rule))
event_problems g s strand n v e event =
    cond event.sent (map (introduce_move g s strand n v e) (picks g.known) ∷ []) []

abbrev pub variant_problems : Pattern → ℕ → Strand → ℕ → Variant → List (List (Move Rule))
variant_problems g s strand n v = each_place (event_problems g s strand n v) 0 strand.events

abbrev pub strand_problems : (Strand → List Variant) → Pattern → ℕ → Strand → List (List (Move Rule))
strand_problems variants g s strand = each_place (variant_problems g s strand) 0 (variants strand)

-- The one move of a receive, or all others.
abbrev pub alone : Option (Move Rule) → List (List (Move Rule)) → List (List (Move Rule))
alone None others = others
alone (Some move) others = (move ∷ []) ∷ []

-- The problems of a pattern's steps: the first receive alone; where no strand received last, the sends of
-- its strands, and then those of further instances, by strand, variant and event.
abbrev pub step_problems : List Strand → (Strand → List Variant) → Pattern → List (List (Move Rule))
step_problems strands variants g =
    alone (first_receive strands g 0 g.strands)
    (each_place (send_problems strands g) 0 g.strands ++ each_place (strand_problems variants g) 0 strands)

-- ## Roots

-- A root of which some parts are made: a variant for each strand part of these.
abbrev pub Made : Type 0
Made = Move (List ℕ)

-- A root of which no part is made yet. An aim's variables are numbered by the places of their sorts.
abbrev pub begun : Aim → Made
begun aim = record {
  label = [];
  from = record { strands = []; known = []; unknown = [] };
  pairs = [];
  apart = [];
  next = length aim.sorts;
}

-- One more known fact.
abbrev pub with_known : Term → Made → Made
with_known t m = record {
  label = m.label;
  from = record { strands = m.from.strands; known = m.from.known ++ t ∷ []; unknown = m.from.unknown };
  pairs = m.pairs;
  apart = m.apart;
  next = m.next;
}

-- One more strand, of number `s` and at this bar, by variant number `n`, whose values are to be the
-- part's terms.
abbrev pub with_strand : ℕ → ℕ → List Term → Strand → ℕ → Variant → Made → Made
with_strand s bar args strand n v m = record {
  label = m.label ++ n ∷ [];
  from = record {
    strands = m.from.strands ++ raised_strand m.next s strand v bar ∷ [];
    known = m.from.known;
    unknown = m.from.unknown;
  };
  pairs = m.pairs ++ zip args (map (renamed m.next) (args_of strand v));
  apart = m.apart;
  next = m.next + past_variant v;
}

-- The variants of a strand that is there.
abbrev pub variants_at : (Strand → List Variant) → Option Strand → List (Strand × Variant)
variants_at variants None = []
variants_at variants (Some strand) = map (λ v. (strand, v)) (variants strand)

-- All choices of variants for these parts, in lexicographic order, behind those that are made.
abbrev pub root_moves : List Strand → (Strand → List Variant) → List Part → Made → List Made
root_moves strands variants [] m = m ∷ []
root_moves strands variants (part.Known t ∷ parts) m = root_moves strands variants parts (with_known t m)
root_moves strands variants (part.Strand s bar args ∷ parts) m =
    each_place (λ n by. root_moves strands variants parts (with_strand s bar args by.0 n by.1 m)) 0
    (variants_at variants (slice_get strands s))

-- The one problem of an aim's roots.
abbrev pub root_problem : List Strand → (Strand → List Variant) → Aim → List Made
root_problem strands variants aim = root_moves strands variants aim.parts (begun aim)
