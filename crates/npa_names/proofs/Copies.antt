-- Copies of names one by one have the same bytes.
use Rattle.std.proofs.Common.{◌≡◌, ℕ, List, [], ◌∷◌, map, refl}
use Rattle.std.specs.List.{AllZip}

module _ {K : Type 0} (bytes : K → List ℕ) (Copy : K → K → Type 0) where
  pub same_bytes : ((x y : K) → Copy x y → bytes y ≡ bytes x) → (xs ys : List K) → AllZip Copy xs ys → map bytes ys ≡ map bytes xs
  same_bytes same [] [] h = refl
  same_bytes same [] (y ∷ ys) h = absurd h
  same_bytes same (x ∷ xs) [] h = absurd h
  same_bytes same (x ∷ xs) (y ∷ ys) h = λ i. same x y h.0 i ∷ same_bytes same xs ys h.1 i
