-- The loop over the levels of a search.
use Rattle.std.proofs.Common.{◌≡◌, ℕ, suc, ◌+◌, ◌-◌, ◌<◌, ◌≤◌, Result, Ok, Err, List, [], ◌∷◌, refl, sym, ◌∙◌, ap, subst, arith}
use Rattle.npa_rewrite.specs.declared.theory.Theory.{Theory}
use Rattle.npa_variants.specs.declared.kept.Stop.{Stop as FoundStop}
use Rattle.npa_variants.specs.Rows.{Row}
use Rattle.npa_variants.specs.Search.{Kept, Stop, begun, followed, level, rows, searched, unless_ended}
use Rattle.npa_variants.specs.Told.{Gives, GivesRows, as_kept}
use Rattle.npa_variants.proofs.Folding.{stops}

unended : {X S : Type 0} (xs : List X) (a b : S) → (xs ≡ [] → ⊥) → unless_ended xs a b ≡ b
unended [] a b some = absurd (some refl)
unended (x ∷ xs) a b some = refl

module _ (th : Theory) (m levels i : ℕ) (k : Kept) (whole : Result (List Row) Stop)
    (rest : searched 64 (λ l. Ok (rows l)) th m (levels - i) k ≡ whole) where
  count : i < levels → levels - i ≡ suc (levels - (i + 1))
  count small = omega (arith, small)

  opened : i < levels → searched 64 (λ l. Ok (rows l)) th m (suc (levels - (i + 1))) k ≡ whole
  opened small = ap (λ n. searched 64 (λ l. Ok (rows l)) th m n k) (sym (count small)) ∙ rest

  -- the last level kept nothing new
  pub ended : i < levels → k.new ≡ [] → whole ≡ Ok k.old
  ended small none =
      sym (opened small)
      ∙ ap (λ xs. unless_ended xs (Ok k.old) (followed (level 64 th m k.new (begun k)) (searched 64 (λ l. Ok (rows l)) th m (levels - (i + 1))))) none

  continued : i < levels → (k.new ≡ [] → ⊥) → followed (level 64 th m k.new (begun k)) (searched 64 (λ l. Ok (rows l)) th m (levels - (i + 1))) ≡ whole
  continued small some =
      sym (unended k.new (Ok k.old) (followed (level 64 th m k.new (begun k)) (searched 64 (λ l. Ok (rows l)) th m (levels - (i + 1)))) some) ∙ opened small

  -- a level goes on, or stops
  pub passed : (l : Kept) → i < levels → (k.new ≡ [] → ⊥) → level 64 th m k.new (begun k) ≡ Ok l → searched 64 (λ l. Ok (rows l)) th m (levels - (i + 1)) l ≡ whole
  passed l small some on = sym (ap (λ r. followed r (searched 64 (λ l. Ok (rows l)) th m (levels - (i + 1)))) on) ∙ continued small some

  pub stopped : (e : FoundStop) → i < levels → (k.new ≡ [] → ⊥) → Gives (Err e) (level 64 th m k.new (begun k)) → GivesRows (Err e) whole
  stopped e small some stop =
      subst (GivesRows (Err e)) (continued small some)
      (stops as_kept (λ rs. rs) e (level 64 th m k.new (begun k)) (searched 64 (λ l. Ok (rows l)) th m (levels - (i + 1))) stop)

  -- no level is left
  pub exhausted : levels ≤ i → whole ≡ Ok (rows k)
  exhausted over = let none : levels - i ≡ 0 = omega (arith, over) in sym rest ∙ ap (λ n. searched 64 (λ l. Ok (rows l)) th m n k) none
