-- Where a pattern has a term that isn't normal.
use Rattle.std.proofs.Common.{◌⊎◌, inl, inr, ⊎_elim}
use Rattle.npa_term.specs.declared.term.Term.{Term}
use Rattle.npa_rewrite.specs.declared.theory.Theory.{Theory}
use Rattle.npa_rewrite.specs.Rewriting.{IsNormal}
use Rattle.npa_model.specs.declared.pattern.PStrand.{PStrand}
use Rattle.npa_model.specs.declared.pattern.Pattern.{Pattern}
use Rattle.npa_model.specs.Patterns.{IsTermOf, of_args, of_msgs, of_known, of_unknown}
use Rattle.npa_model.proofs.Places.{place_of, member_at}
use Rattle.npa_prune.specs.Pruned.{HasReducible, IsReducible}
use Rattle.npa_prune.proofs.Searching.{HasOne}

module _ (th : Theory) where
  -- a value or a message of a strand isn't normal
  abbrev pub HasIn : PStrand → Type 0
  HasIn p = HasReducible th p.args ⊎ HasReducible th p.msgs

  module _ (g : Pattern) where
    pub of_strands : HasOne HasIn g.strands → IsReducible th g
    of_strands one =
        let at = place_of g.strands one.0 one.1 in
        ⊎_elim
        (λ (a : HasReducible th one.0.args). record { term = a.0; there = of_args at.0 one.0 at.1 a.1; reducible = a.2 })
        (λ (m : HasReducible th one.0.msgs). record { term = m.0; there = of_msgs at.0 one.0 at.1 m.1; reducible = m.2 })
        one.2

    pub of_known_facts : HasReducible th g.known → IsReducible th g
    of_known_facts h = record { term = h.0; there = of_known h.1; reducible = h.2 }

    pub of_unknown_facts : HasReducible th g.unknown → IsReducible th g
    of_unknown_facts h = record { term = h.0; there = of_unknown h.1; reducible = h.2 }

    by_place : {t : Term} → IsTermOf g t → (IsNormal th t → ⊥) → HasOne HasIn g.strands ⊎ HasReducible th g.known ⊎ HasReducible th g.unknown
    by_place {t} (of_args k p e c) fails = inl (p, member_at g.strands k p e, inl (t, c, fails))
    by_place {t} (of_msgs k p e c) fails = inl (p, member_at g.strands k p e, inr (t, c, fails))
    by_place {t} (of_known c) fails = inr (inl (t, c, fails))
    by_place {t} (of_unknown c) fails = inr (inr (t, c, fails))

    -- a pattern of which neither the strands nor the known facts have one has it among the unknown facts
    pub left_unknown : (HasOne HasIn g.strands → ⊥) → (HasReducible th g.known → ⊥) → IsReducible th g → HasReducible th g.unknown
    left_unknown strands known r = ⊎_elim
        (λ (s : HasOne HasIn g.strands). absurd (strands s))
        (λ (f : HasReducible th g.known ⊎ HasReducible th g.unknown). ⊎_elim (λ (k : HasReducible th g.known). absurd (known k)) (λ (u : HasReducible th g.unknown). u) f)
        (by_place r.there r.reducible)
