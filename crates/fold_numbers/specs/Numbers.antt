-- Rules over numbers, to run the machine by hand.
use Rattle.std.specs.Prelude.{◌≡◌, ℕ, Bool, true, false, ◌&&◌, ◌/◌, if◌then◌else◌, nat_le, ◌==◌, [], ◌∷◌, Ok, Err}
use Rattle.std.specs.List.{range_with_len}
use Rattle.std.proofs.Common.{le-leb, leb-true, le_refl, le_trans, eq-eqb, eqb-true, true≢false, refl, sym, ◌∙◌}
use Rattle.fold_core.specs.declared.error.Measure.TheVariants.{Symbols}
use Rattle.fold_numbers.specs.declared.numbers.Numbers.{Numbers}
use Rattle.fold_core.specs.Rules.{Rules, Lawful}

-- A number covers those up to itself that have the same tens.
abbrev pub covers_number : ℕ → ℕ → Bool
covers_number t s = (t / 10 == s / 10) && nat_le s t

-- It is initial from the goal on. From the limit on it has no children; below it 0 has the numbers
-- from 1 to the top, and any other number has 0 alone.
abbrev pub numbers : Numbers → Rules ℕ
numbers n = record {
  covers = covers_number;
  initial = λ s. nat_le n.goal s;
  expansion = λ s.
      if nat_le n.limit s then Err (record { rule = 0; measure = Symbols; value = s })
      else Ok (if s == 0 then range_with_len 1 n.top else 0 ∷ []);
}

-- At most is transitive, as a test.
at_most_trans : (a b c : ℕ) → nat_le a b ≡ true → nat_le b c ≡ true → nat_le a c ≡ true
at_most_trans a b c p q = le-leb a c (le_trans (leb-true a b p) (leb-true b c q))

both : (a b : Bool) → a ≡ true → b ≡ true → (a && b) ≡ true
both true b p q = q
both false b p q = p

left : (a b : Bool) → (a && b) ≡ true → a ≡ true
left true b p = refl
left false b p = p

right : (a b : Bool) → (a && b) ≡ true → b ≡ true
right true b p = p
right false b p = absurd (true≢false (sym p))

covers_trans : (t u v : ℕ) → covers_number t u ≡ true → covers_number u v ≡ true → covers_number t v ≡ true
covers_trans t u v p q =
    let first = eqb-true (t / 10) (u / 10) (left (t / 10 == u / 10) (nat_le u t) p) in
    let second = eqb-true (u / 10) (v / 10) (left (u / 10 == v / 10) (nat_le v u) q) in
    both (t / 10 == v / 10) (nat_le v t) (eq-eqb (t / 10) (v / 10) (first ∙ second))
    (at_most_trans v u t (right (u / 10 == v / 10) (nat_le v u) q) (right (t / 10 == u / 10) (nat_le u t) p))

-- They are lawful.
pub numbers_lawful : (n : Numbers) → Lawful (numbers n)
numbers_lawful n = record {
  reflexive = λ t. both (t / 10 == t / 10) (nat_le t t) (eq-eqb (t / 10) (t / 10) refl) (le-leb t t (le_refl t));
  transitive = covers_trans;
  starts = λ t s p q. at_most_trans n.goal s t q (right (t / 10 == s / 10) (nat_le s t) p);
}
