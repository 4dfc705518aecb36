-- An aim under an assignment, as a ground pattern (Escobar, Meadows, Meseguer 2009, on attack patterns as
-- the states from which the search begins).
use Rattle.std.specs.Prelude.{ℕ, List, [], ◌∷◌, map, take}
use Rattle.npa_term.specs.declared.term.Term.{Term}
use Rattle.npa_sig.specs.declared.protocol.Strand.{Strand}
use Rattle.npa_sig.specs.Values.{under}
use Rattle.npa_model.specs.declared.aim.Part.{Part}
use Rattle.npa_model.specs.declared.aim.Part.TheVariants as part
use Rattle.npa_model.specs.declared.pattern.PStrand.{PStrand}
use Rattle.npa_model.specs.declared.pattern.Pattern.{Pattern}
use Rattle.npa_model.specs.Patterns.{events_at}

module _ (nf : Term → Term) (strands : List Strand) (values : List Term) where
  -- the normal form of a term under the assignment
  abbrev pub asked_term : Term → Term
  asked_term t = nf (under values t)

  -- a strand part: its terms have these normal forms, and the messages up to the bar theirs under these
  abbrev pub asked_strand : ℕ → ℕ → List Term → PStrand
  asked_strand number bar args = record {
    strand = number;
    bar = bar;
    args = map asked_term args;
    msgs = map (λ event. nf (under (map asked_term args) event.msg)) (take bar (events_at strands number));
  }

  -- the strand parts of an aim
  abbrev pub asked_strands : List Part → List PStrand
  asked_strands [] = []
  asked_strands (part.Known t ∷ parts) = asked_strands parts
  asked_strands (part.Strand number bar args ∷ parts) = asked_strand number bar args ∷ asked_strands parts

  -- the known parts of an aim
  abbrev pub asked_facts : List Part → List Term
  asked_facts [] = []
  asked_facts (part.Known t ∷ parts) = asked_term t ∷ asked_facts parts
  asked_facts (part.Strand number bar args ∷ parts) = asked_facts parts

  -- the whole aim
  abbrev pub asked : List Part → Pattern
  asked parts = record { strands = asked_strands parts; known = asked_facts parts; unknown = [] }
