-- Whether two patterns are one and the same, as a test that computes. That it does is a law.
use Rattle.std.specs.Prelude.{Bool, true, false, nat_eq, ◌&&◌, List, [], ◌∷◌}
use Rattle.npa_term.specs.declared.term.Term.{Term}
use Rattle.npa_term.specs.Computed.{equal}
use Rattle.npa_model.specs.declared.pattern.PStrand.{PStrand}
use Rattle.npa_model.specs.declared.pattern.Pattern.{Pattern}

-- whether lists are as long and have equal members, place by place
abbrev pub equal_lists : {X : Type 0} → (X → X → Bool) → List X → List X → Bool
equal_lists same [] [] = true
equal_lists same [] (y ∷ ys) = false
equal_lists same (x ∷ xs) [] = false
equal_lists same (x ∷ xs) (y ∷ ys) = same x y && equal_lists same xs ys

abbrev pub equal_terms : List Term → List Term → Bool
equal_terms ts us = equal_lists equal ts us

abbrev pub equal_strand : PStrand → PStrand → Bool
equal_strand p q =
    nat_eq p.strand q.strand && (nat_eq p.bar q.bar
    && (equal_terms p.args q.args && equal_terms p.msgs q.msgs))

-- whether patterns are one and the same
unfoldable pub equal_pattern : Pattern → Pattern → Bool
equal_pattern g h =
    equal_lists equal_strand g.strands h.strands
    && (equal_terms g.known h.known && equal_terms g.unknown h.unknown)
