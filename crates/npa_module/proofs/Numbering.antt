-- Variables are numbered until names or sorts end.
use Rattle.std.proofs.Common.{◌≡◌, ◌⊎◌, inl, inr, ℕ, ◌≤◌, nat_le, min, Bool, true, false, List, [], ◌∷◌, ◌++◌, length, drop, refl, ap, sym, ◌∙◌, arith, append-nil}
use Rattle.std.proofs.lemmas.Bool.Decides.{nat_tests}
use Rattle.std.proofs.lemmas.List.{drop_all}
use Rattle.npa_sig.specs.declared.meaning.Scoped.{Scoped}
use Rattle.npa_module.specs.Items.{scope_from}

either : (a b k : ℕ) → min a b ≤ k → (a ≤ k) ⊎ (b ≤ k)
either a b k e = split (nat_le a k) refl
  where
    split : (t : Bool) → nat_le a k ≡ t → (a ≤ k) ⊎ (b ≤ k)
    split true p = inl (grind (arith, nat_tests))
    split false p = inr (grind (arith, nat_tests))

no_sorts : (j : ℕ) (names : List (List ℕ)) → scope_from j names [] ≡ []
no_sorts j [] = refl
no_sorts j (n ∷ ns) = refl

ends : (j k : ℕ) (names : List (List ℕ)) (sorts : List ℕ) → (length names ≤ k) ⊎ (length sorts ≤ k) → scope_from j (drop k names) (drop k sorts) ≡ []
ends j k names sorts (inl p) = ap (λ (ns : List (List ℕ)). scope_from j ns (drop k sorts)) (drop_all k names p)
ends j k names sorts (inr p) = ap (λ (ss : List ℕ). scope_from j (drop k names) ss) (drop_all k sorts p) ∙ no_sorts j (drop k names)

pub all_numbered : (names : List (List ℕ)) (sorts : List ℕ) (k : ℕ) (scope : List Scoped) → min (length names) (length sorts) ≤ k →
    scope ++ scope_from k (drop k names) (drop k sorts) ≡ scope_from 0 names sorts → scope ≡ scope_from 0 names sorts
all_numbered names sorts k scope stop so_far =
    sym (append-nil scope) ∙ ap (λ (more : List Scoped). scope ++ more) (sym (ends k k names sorts (either (length names) (length sorts) k stop))) ∙ so_far
