-- Patterns: the states of a backwards search, with variables (Escobar, Meadows, Meseguer 2009, on
-- states as sets of strands with a bar and of facts on what the intruder knows).
use Rattle.std.specs.Prelude.{◌≡◌, ℕ, ◌+◌, List, [], ◌∷◌, ◌++◌, Some, map, slice_get, Contains}
use Rattle.std.specs.Option.{option_map_or}
use Rattle.npa_term.specs.declared.term.Term.{Term}
use Rattle.npa_term.specs.declared.term.Var.{Var as Variable}
use Rattle.npa_term.specs.Symbols.{all_count}
use Rattle.npa_term.specs.Variables.{variables}
use Rattle.npa_sig.specs.declared.protocol.Event.{Event}
use Rattle.npa_sig.specs.declared.protocol.Strand.{Strand}
use Rattle.npa_model.specs.declared.pattern.PStrand.{PStrand}
use Rattle.npa_model.specs.declared.pattern.Pattern.{Pattern}

-- the events of the strand of this number
abbrev pub events_at : List Strand → ℕ → List Event
events_at strands number = option_map_or (λ strand. strand.events) (slice_get strands number) []

-- a pattern's strand with each of its terms sent through a function
abbrev pub map_strand : (Term → Term) → PStrand → PStrand
map_strand f p = record { strand = p.strand; bar = p.bar; args = map f p.args; msgs = map f p.msgs }

-- a pattern with each of its terms sent through a function
abbrev pub map_pattern : (Term → Term) → Pattern → Pattern
map_pattern f g = record { strands = map (map_strand f) g.strands; known = map f g.known; unknown = map f g.unknown }

-- The terms of a pattern: the values and the messages of its strands, and its facts.
pub data IsTermOf (g : Pattern) (t : Term) : Type 0 where
  of_args : (k : ℕ) (p : PStrand) → slice_get g.strands k ≡ Some p → Contains p.args t → IsTermOf g t
  of_msgs : (k : ℕ) (p : PStrand) → slice_get g.strands k ≡ Some p → Contains p.msgs t → IsTermOf g t
  of_known : Contains g.known t → IsTermOf g t
  of_unknown : Contains g.unknown t → IsTermOf g t

-- A variable occurs in a pattern where it occurs in one of its terms.
pub record Occurs (v : Variable) (g : Pattern) : Type 0 where
  pub term : Term
  pub there : IsTermOf g term
  pub within : Contains (variables term) v

-- every bar stands at the beginning
abbrev pub AreUnmoved : List PStrand → Type 0
AreUnmoved ps = (k : ℕ) (p : PStrand) → slice_get ps k ≡ Some p → p.bar ≡ 0

-- A pattern is initial where no strand of it has executed an event and nothing is known (the same, on
-- initial states).
pub record IsInitial (g : Pattern) : Type 0 where
  pub bars : AreUnmoved g.strands
  pub known : g.known ≡ []

-- how many symbols the strands of a pattern have, in their values and messages
abbrev pub strand_symbols : List PStrand → ℕ
strand_symbols [] = 0
strand_symbols (p ∷ ps) = all_count p.args + all_count p.msgs + strand_symbols ps

-- how many symbols a pattern has: those of its strands and of its facts
abbrev pub pattern_symbols : Pattern → ℕ
pattern_symbols g = strand_symbols g.strands + all_count g.known + all_count g.unknown
