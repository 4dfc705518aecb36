-- The test of whether patterns are one and the same is exact.
use Rattle.std.proofs.Common.{◌≡◌, ◌↔◌, Bool, true, nat_eq, ◌&&◌, List, [], ◌∷◌, refl, sym, subst}
use Rattle.std.specs.Prelude.{IsTrue}
use Rattle.std.proofs.lemmas.Bool.{and_parts, and_from, eqb-true, eq-eqb, true≢false}
use Rattle.npa_term.specs.declared.term.Term.{Term}
use Rattle.npa_term.specs.Computed.{equal}
use Rattle.npa_term.proofs.Identity.{equal_are, equal_itself}
use Rattle.npa_model.specs.declared.pattern.PStrand.{PStrand}
use Rattle.npa_model.specs.declared.pattern.Pattern.{Pattern}
use Rattle.npa_folding.specs.Equality.{equal_lists, equal_terms, equal_strand, equal_pattern}

lists_are : {X : Type 0} (same : X → X → Bool) → ((x y : X) → same x y ≡ true → x ≡ y) → (xs ys : List X) → equal_lists same xs ys ≡ true → xs ≡ ys
lists_are same are [] [] e = refl
lists_are same are [] (y ∷ ys) e = absurd (true≢false (sym e))
lists_are same are (x ∷ xs) [] e = absurd (true≢false (sym e))
lists_are same are (x ∷ xs) (y ∷ ys) e =
    let both = and_parts (same x y) (equal_lists same xs ys) e in
    λ i. are x y both.0 i ∷ lists_are same are xs ys both.1 i

list_itself : {X : Type 0} (same : X → X → Bool) → ((x : X) → same x x ≡ true) → (xs : List X) → equal_lists same xs xs ≡ true
list_itself same itself [] = refl
list_itself same itself (x ∷ xs) = and_from (same x x) (equal_lists same xs xs) (itself x) (list_itself same itself xs)

terms_are : (ts us : List Term) → equal_terms ts us ≡ true → ts ≡ us
terms_are = lists_are equal equal_are

terms_itself : (ts : List Term) → equal_terms ts ts ≡ true
terms_itself = list_itself equal equal_itself

same_strand : (p q : PStrand) → p.strand ≡ q.strand → p.bar ≡ q.bar → p.args ≡ q.args → p.msgs ≡ q.msgs → p ≡ q
same_strand p q strand bar args msgs = λ i. record { strand = strand i; bar = bar i; args = args i; msgs = msgs i }

strands_are : (p q : PStrand) → equal_strand p q ≡ true → p ≡ q
strands_are p q e =
    let one = and_parts (nat_eq p.strand q.strand) (nat_eq p.bar q.bar && (equal_terms p.args q.args && equal_terms p.msgs q.msgs)) e in
    let two = and_parts (nat_eq p.bar q.bar) (equal_terms p.args q.args && equal_terms p.msgs q.msgs) one.1 in
    let three = and_parts (equal_terms p.args q.args) (equal_terms p.msgs q.msgs) two.1 in
    same_strand p q (eqb-true p.strand q.strand one.0) (eqb-true p.bar q.bar two.0) (terms_are p.args q.args three.0) (terms_are p.msgs q.msgs three.1)

strand_itself : (p : PStrand) → equal_strand p p ≡ true
strand_itself p =
    and_from (nat_eq p.strand p.strand) (nat_eq p.bar p.bar && (equal_terms p.args p.args && equal_terms p.msgs p.msgs)) (eq-eqb p.strand p.strand refl)
    (and_from (nat_eq p.bar p.bar) (equal_terms p.args p.args && equal_terms p.msgs p.msgs) (eq-eqb p.bar p.bar refl)
    (and_from (equal_terms p.args p.args) (equal_terms p.msgs p.msgs) (terms_itself p.args) (terms_itself p.msgs)))

same_pattern : (g h : Pattern) → g.strands ≡ h.strands → g.known ≡ h.known → g.unknown ≡ h.unknown → g ≡ h
same_pattern g h strands known unknown = λ i. record { strands = strands i; known = known i; unknown = unknown i }

pub patterns_are : (g h : Pattern) → equal_pattern g h ≡ true → g ≡ h
unfolding equal_pattern
patterns_are g h e =
    let one = and_parts (equal_lists equal_strand g.strands h.strands) (equal_terms g.known h.known && equal_terms g.unknown h.unknown) e in
    let two = and_parts (equal_terms g.known h.known) (equal_terms g.unknown h.unknown) one.1 in
    same_pattern g h (lists_are equal_strand strands_are g.strands h.strands one.0) (terms_are g.known h.known two.0) (terms_are g.unknown h.unknown two.1)

pub pattern_itself : (g : Pattern) → equal_pattern g g ≡ true
unfolding equal_pattern
pattern_itself g =
    and_from (equal_lists equal_strand g.strands g.strands) (equal_terms g.known g.known && equal_terms g.unknown g.unknown) (list_itself equal_strand strand_itself g.strands)
    (and_from (equal_terms g.known g.known) (equal_terms g.unknown g.unknown) (terms_itself g.known) (terms_itself g.unknown))

pub equal_exact : (g h : Pattern) → IsTrue (equal_pattern g h) ↔ (g ≡ h)
equal_exact g h = (patterns_are g h, λ e. subst (λ (f : Pattern). equal_pattern g f ≡ true) e (pattern_itself g))
