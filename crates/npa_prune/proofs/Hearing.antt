-- Where a term is heard.
use Rattle.npa_term.specs.declared.term.Term.{Term}
use Rattle.npa_model.specs.declared.pattern.PStrand.{PStrand}
use Rattle.npa_model.specs.declared.pattern.Pattern.{Pattern}
use Rattle.npa_prune.specs.Pruned.{IsPartOfOne, IsHeard, in_fact, in_message}
use Rattle.npa_prune.proofs.Searching.{HasOne}

module _ (g : Pattern) (t : Term) where
  abbrev pub IsInMessage : PStrand → Type 0
  IsInMessage p = IsPartOfOne p.msgs t

  pub heard_message : HasOne IsInMessage g.strands → IsHeard g t
  heard_message one = in_message one.0 one.1 one.2

  -- what is in no fact is in a message
  pub left_message : (IsPartOfOne g.known t → ⊥) → IsHeard g t → HasOne IsInMessage g.strands
  left_message none (in_fact f) = absurd (none f)
  left_message none (in_message p c m) = (p, c, m)
