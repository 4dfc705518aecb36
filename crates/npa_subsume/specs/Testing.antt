-- The same as tests that compute: every way to send the strands and facts of a pattern is tried. That they
-- do is a law.
use Rattle.std.specs.Prelude.{ℕ, zero, suc, Bool, true, false, not, ◌&&◌, nat_eq, List, [], ◌∷◌, ◌++◌, map, length, zip}
use Rattle.std.specs.List.{enumerate_from, flat_map, list_all, list_any}
use Rattle.std.specs.Option.{is_some}
use Rattle.npa_sorts.specs.Subsorts.{Subsorts}
use Rattle.npa_term.specs.declared.term.Term.{Term}
use Rattle.npa_match.specs.Branches.{branches, first_of}
use Rattle.npa_model.specs.declared.pattern.PStrand.{PStrand}
use Rattle.npa_model.specs.declared.pattern.Pattern.{Pattern}
use Rattle.npa_subsume.specs.Offering.{strand_pairs}

-- each row with one more member in front
abbrev pub behind : {X : Type 0} → List (List X) → X → List (List X)
behind rows x = map (λ row. x ∷ row) rows

-- all rows of so many members of a list, in which each may stand any number of times
abbrev pub rows_of : {X : Type 0} → ℕ → List X → List (List X)
rows_of zero xs = [] ∷ []
rows_of (suc n) xs = flat_map (behind (rows_of n xs)) xs

-- whether no number stands twice
abbrev pub are_different : List ℕ → Bool
are_different [] = true
are_different (n ∷ ns) = not (list_any (nat_eq n) ns) && are_different ns

-- a strand of a pattern, and the place and the strand of the other pattern to which it is sent
abbrev pub Sending : Type 0
Sending = PStrand × (ℕ × PStrand)

-- whether the two differ in their terms alone
abbrev pub is_kindred : Sending → Bool
is_kindred (p, (n, q)) =
    nat_eq p.strand q.strand && (nat_eq p.bar q.bar
    && (nat_eq (length p.args) (length q.args) && nat_eq (length p.msgs) (length q.msgs)))

-- their terms, each beside that of the other strand at its place
abbrev pub sent_terms : Sending → List (Term × Term)
sent_terms (p, (n, q)) = strand_pairs p q

-- the terms of a pattern's strands and facts, each beside the one to which it is sent
abbrev pub sent_pairs : Pattern → List (ℕ × PStrand) → List Term → List Term → List (Term × Term)
sent_pairs t strands known unknown = flat_map sent_terms (zip t.strands strands) ++ (zip t.known known ++ zip t.unknown unknown)

-- whether the places of these strands differ, and one substitution sends the strands and facts of t to
-- these, modulo commutativity
abbrev pub sends : Subsorts → Pattern → List (ℕ × PStrand) → List Term → List Term → Bool
sends o t strands known unknown =
    are_different (map (λ m. m.0) strands) && (list_all is_kindred (zip t.strands strands)
    && is_some (first_of (branches o (sent_pairs t strands known unknown))))

-- whether one does for some unknown facts of s
abbrev pub sends_known : Subsorts → Pattern → Pattern → List (ℕ × PStrand) → List Term → Bool
sends_known o t s strands known = list_any (sends o t strands known) (rows_of (length t.unknown) s.unknown)

-- whether one does for some facts of s
abbrev pub sends_strands : Subsorts → Pattern → Pattern → List (ℕ × PStrand) → Bool
sends_strands o t s strands = list_any (sends_known o t s strands) (rows_of (length t.known) s.known)

-- Whether t covers s: one does for some strands and facts of s.
unfoldable pub covers_test : Subsorts → Pattern → Pattern → Bool
covers_test o t s = list_any (sends_strands o t s) (rows_of (length t.strands) (enumerate_from 0 s.strands))

-- whether a bar stands at the beginning
abbrev pub is_unmoved : PStrand → Bool
is_unmoved p = nat_eq p.bar 0

-- whether a list has no member
abbrev pub is_empty : {X : Type 0} → List X → Bool
is_empty [] = true
is_empty (x ∷ xs) = false

-- Whether a pattern is initial.
unfoldable pub initial_test : Pattern → Bool
initial_test g = is_empty g.known && list_all is_unmoved g.strands
