-- The place of a name by recursion is the place that a search by index finds.
use Rattle.std.proofs.Common.{◌≡◌, ℕ, suc, ◌+◌, List, [], ◌∷◌, length, map, Option, None, Some, cond, Bool, true, false, not, ◌||◌, refl, ap, sym, ◌∙◌, is_none, nat_lt, arith, position}
use Rattle.std.specs.Option.{option_map}
use Rattle.std.specs.List.{position_or_len, list_any}
use Rattle.std.specs.Str.{bytes_eq}
use Rattle.std.proofs.lemmas.Bool.Decides.{nat_tests}
use Rattle.npa_names.specs.Names.{place_of}

abbrev at_most : ℕ → ℕ → Option ℕ
at_most i n = cond (nat_lt i n) (Some i) None

first : (n : ℕ) → at_most 0 (suc n) ≡ Some 0
first n = ap (λ t. cond t (Some 0) None) (let e : nat_lt 0 (suc n) ≡ true = grind (arith, nat_tests) in e)

next : (i n : ℕ) → at_most (1 + i) (suc n) ≡ option_map (λ k. k + 1) (at_most i n)
next i n = rw (below i n) (split (nat_lt i n))
  where
    below : (m n : ℕ) → nat_lt (1 + m) (suc n) ≡ nat_lt m n
    below m n = grind (arith, nat_tests)

    split : (t : Bool) → cond t (Some (1 + i)) None ≡ option_map (λ k. k + 1) (cond t (Some i) None)
    split true = ap Some (let e : 1 + i ≡ i + 1 = omega arith in e)
    split false = refl

none_mapped : (o : Option ℕ) → is_none (option_map (λ k. k + 1) o) ≡ is_none o
none_mapped None = refl
none_mapped (Some k) = refl

module _ {K : Type 0} (bytes : K → List ℕ) (name : List ℕ) where
  abbrev test : K → Bool
  test k = bytes_eq name (bytes k)

  pub place_found : (keys : List K) → position test keys ≡ place_of name (map bytes keys)
  place_found [] = refl
  place_found (k ∷ keys) = split (place_found keys) (test k)
    where
      split : position test keys ≡ place_of name (map bytes keys) → (t : Bool) → at_most (cond (not t) (1 + position_or_len test keys) 0) (suc (length keys)) ≡ cond t (Some 0) (option_map (λ n. n + 1) (place_of name (map bytes keys)))
      split rest true = first (length keys)
      split rest false = next (position_or_len test keys) (length keys) ∙ ap (option_map (λ n. n + 1)) rest

  pub none_found : (keys : List K) → not (list_any test keys) ≡ is_none (place_of name (map bytes keys))
  none_found [] = refl
  none_found (k ∷ keys) = split (none_found keys) (test k)
    where
      split : not (list_any test keys) ≡ is_none (place_of name (map bytes keys)) → (t : Bool) → not (t || list_any test keys) ≡ is_none (cond t (Some 0) (option_map (λ n. n + 1) (place_of name (map bytes keys))))
      split rest true = refl
      split rest false = rest ∙ sym (none_mapped (place_of name (map bytes keys)))
