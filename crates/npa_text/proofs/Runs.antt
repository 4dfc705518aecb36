-- The front of a list that passes a test, byte by byte.
use Rattle.std.proofs.Common.{◌≡◌, ℕ, ◌+◌, ◌<◌, ◌≤◌, Bool, true, false, List, [], ◌∷◌, length, get_or, drop, cond, refl, ap, ◌∙◌, suc, ◌++◌, take, add-one}
use Rattle.std.specs.Prelude.{not, ◌&&◌}
use Rattle.std.specs.List.{list_all}
use Rattle.std.proofs.lemmas.List.{drop_more, drop_all}
use Rattle.npa_text.specs.Bytes.{run}

pub run_more : (p : ℕ → Bool) (xs : List ℕ) (i d : ℕ) → i < length xs → p (get_or xs i d) ≡ true → run p (drop i xs) ≡ run p (drop (i + 1) xs) + 1
run_more p xs i d h e = ap (run p) (drop_more xs i d h) ∙ ap (λ b. cond b (run p (drop (i + 1) xs) + 1) 0) e

pub run_stops : (p : ℕ → Bool) (xs : List ℕ) (i d : ℕ) → i < length xs → p (get_or xs i d) ≡ false → run p (drop i xs) ≡ 0
run_stops p xs i d h e = ap (run p) (drop_more xs i d h) ∙ ap (λ b. cond b (run p (drop (i + 1) xs) + 1) 0) e

pub run_ends : (p : ℕ → Bool) (xs : List ℕ) (i : ℕ) → length xs ≤ i → run p (drop i xs) ≡ 0
run_ends p xs i h = ap (run p) (drop_all i xs h)

-- a run passes the test, and the byte behind it doesn't
pub run_passes : (p : ℕ → Bool) (bs : List ℕ) → list_all p (take (run p bs) bs) ≡ true
run_passes p [] = refl
run_passes p (b ∷ bs) =
    elim (p b) as (λ v. p b ≡ v → list_all p (take (cond v (run p bs + 1) 0) (b ∷ bs)) ≡ true) [
      | true ↦ λ e. rw (add-one, e) (run_passes p bs)
      | false ↦ λ e. refl
    ] refl

-- the bytes begin with none that passes the test
abbrev pub is_past : (ℕ → Bool) → List ℕ → Bool
is_past p [] = true
is_past p (b ∷ bs) = not (p b)

pub run_is_past : (p : ℕ → Bool) (bs : List ℕ) → is_past p (drop (run p bs) bs) ≡ true
run_is_past p [] = refl
run_is_past p (b ∷ bs) =
    elim (p b) as (λ v. p b ≡ v → is_past p (drop (cond v (run p bs + 1) 0) (b ∷ bs)) ≡ true) [
      | true ↦ λ e. rw add-one (run_is_past p bs)
      | false ↦ λ e. ap not e
    ] refl

-- all bytes of a list that pass, and none behind them, are the run
pub run_of_passing : (p : ℕ → Bool) (bs rest : List ℕ) → list_all p bs ≡ true → is_past p rest ≡ true → run p (bs ++ rest) ≡ length bs
run_of_passing p [] [] h e = refl
run_of_passing p [] (b ∷ bs) h e =
    elim (p b) as (λ v. not v ≡ true → cond v (run p bs + 1) 0 ≡ 0) [
      | true ↦ λ f. absurd (cc)
      | false ↦ λ f. refl
    ] e
run_of_passing p (b ∷ bs) rest h e =
    elim (p b) as (λ v. (v && list_all p bs) ≡ true → cond v (run p (bs ++ rest) + 1) 0 ≡ suc (length bs)) [
      | true ↦ λ f. add-one (run p (bs ++ rest)) ∙ ap suc (run_of_passing p bs rest f e)
      | false ↦ λ f. absurd (cc)
    ] h
