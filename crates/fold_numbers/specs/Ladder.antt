-- Rules over numbers in which each covers all below it, for tests.
use Rattle.std.specs.Prelude.{◌≡◌, ℕ, true, nat_le}
use Rattle.std.proofs.Common.{le-leb, leb-true, le_refl, le_trans}
use Rattle.fold_numbers.specs.declared.numbers.Numbers.{Numbers}
use Rattle.fold_core.specs.Rules.{Rules, Lawful}
use Rattle.fold_numbers.specs.Numbers.{numbers}

-- A number covers those up to itself. Which are initial, and the children, are as in `numbers`.
abbrev pub ladder : Numbers → Rules ℕ
ladder n = record {
  covers = λ t s. nat_le s t;
  initial = (numbers n).initial;
  expansion = (numbers n).expansion;
}

up_to_trans : (a b c : ℕ) → nat_le a b ≡ true → nat_le b c ≡ true → nat_le a c ≡ true
up_to_trans a b c p q = le-leb a c (le_trans (leb-true a b p) (leb-true b c q))

-- They are lawful.
pub ladder_lawful : (n : Numbers) → Lawful (ladder n)
ladder_lawful n = record {
  reflexive = λ t. le-leb t t (le_refl t);
  transitive = λ t u v p q. up_to_trans v u t q p;
  starts = λ t s p q. up_to_trans n.goal s t q p;
}
