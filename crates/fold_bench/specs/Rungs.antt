-- Rules over numbers in which each covers all below it: a store keeps one live entry.
use Rattle.std.specs.Prelude.{◌≡◌, ℕ, ◌+◌, false, true, nat_le, nat_lt, ◌==◌, if◌then◌else◌, List, [], ◌∷◌, Ok}
use Rattle.std.specs.List.{range_with_len}
use Rattle.std.proofs.Common.{le-leb, leb-true, le_refl, le_trans}
use Rattle.fold_core.specs.Rules.{Rules, Lawful}
use Rattle.fold_bench.specs.declared.rungs.Rungs.{Rungs}

-- The children of a number: where the ladder is wide, 0 has all up to the top, and any other number
-- has 0 alone; else each number below the top has the next.
abbrev pub children_of : Rungs → ℕ → List ℕ
children_of r s =
    if r.wide then (if s == 0 then range_with_len 1 r.top else 0 ∷ [])
    else (if nat_lt s r.top then (s + 1) ∷ [] else [])

-- A number covers those up to itself, and none is initial.
abbrev pub rungs : Rungs → Rules ℕ
rungs r = record {
  covers = λ t s. nat_le s t;
  initial = λ s. false;
  expansion = λ s. Ok (children_of r s);
}

up_to_trans : (a b c : ℕ) → nat_le a b ≡ true → nat_le b c ≡ true → nat_le a c ≡ true
up_to_trans a b c p q = le-leb a c (le_trans (leb-true a b p) (leb-true b c q))

-- They are lawful.
pub rungs_lawful : (r : Rungs) → Lawful (rungs r)
rungs_lawful r = record {
  reflexive = λ t. le-leb t t (le_refl t);
  transitive = λ t u v p q. up_to_trans v u t q p;
  starts = λ t s p q. q;
}
