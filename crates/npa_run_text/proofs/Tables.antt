-- A table of the strands' names: each new name is put behind the others with its place.
use Rattle.std.proofs.Common.{◌≡◌, ℕ, zero, suc, ◌+◌, ◌<◌, ◌≤◌, List, [], ◌∷◌, ◌++◌, length, map, take, get_or, refl, sym, ap, ◌∙◌, arith}
use Rattle.std.specs.Prelude.{is_none, slice_get, if◌then◌else◌}
use Rattle.std.specs.Option.{option_and_then}
use Rattle.std.proofs.lemmas.List.{take_more}
use Rattle.npa_names.specs.Names.{place_of}
use Rattle.npa_names.proofs.Growth.{Tabled, place_of_more, tabled_more, even_more}
use Rattle.npa_sig.specs.declared.protocol.Strand.{Strand}

abbrev names_of : List Strand → List (List ℕ)
names_of strands = map (λ strand. strand.name) strands

names_behind : (strands : List Strand) (s : Strand) → names_of (strands ++ s ∷ []) ≡ names_of strands ++ s.name ∷ []
names_behind [] s = refl
names_behind (t ∷ ts) s = ap (λ (rest : List (List ℕ)). t.name ∷ rest) (names_behind ts s)

names_taken : (strands : List Strand) (k : ℕ) → k ≤ length strands → length (names_of (take k strands)) ≡ k
names_taken strands zero l = refl
names_taken [] (suc k) l = absurd (omega (arith, l))
names_taken (s ∷ ss) (suc k) l = ap suc (names_taken ss k (omega (arith, l)))

-- the table has for each name of these strands its place among them
abbrev pub TabledUpTo : ℕ → List Strand → List (List ℕ) → List ℕ → Type 0
TabledUpTo k strands names places = Tabled names places (λ (name : List ℕ). place_of name (names_of (take k strands)))

-- a strand more is in the table
module _ (names after : List (List ℕ)) (places now : List ℕ) (strands : List Strand) (k : ℕ) (strand : Strand) (name : List ℕ)
    (within : k < length strands) (name_is : name ≡ (get_or strands k strand).name) (even : length places ≡ length names)
    (after_is : after ≡ (if is_none (place_of name names) then names ++ name ∷ [] else names))
    (now_is : now ≡ (if is_none (place_of name names) then places ++ k ∷ [] else places)) where
  all_names : names_of (take (k + 1) strands) ≡ names_of (take k strands) ++ name ∷ []
  all_names = ap names_of (take_more strands k strand within) ∙ names_behind (take k strands) (get_or strands k strand)
      ∙ ap (λ (n : List ℕ). names_of (take k strands) ++ n ∷ []) (sym name_is)

  grown : (word : List ℕ) → TabledUpTo k strands names places →
      option_and_then (slice_get (if is_none (place_of name names) then places ++ k ∷ [] else places)) (place_of word (if is_none (place_of name names) then names ++ name ∷ [] else names))
      ≡ place_of word (names_of (take (k + 1) strands))
  grown word tabled =
      tabled_more names places name k even (λ (n : List ℕ). place_of n (names_of (take k strands))) tabled (is_none (place_of name names)) refl word
      ∙ place_of_more word name (names_of (take k strands)) k (names_taken strands k (omega (arith, within)))
      ∙ ap (place_of word) (sym all_names)

  pub next_tabled : TabledUpTo k strands names places → TabledUpTo (k + 1) strands after now
  next_tabled tabled word =
      ap (λ (a : List (List ℕ)). option_and_then (slice_get now) (place_of word a)) after_is
      ∙ ap (λ (p : List ℕ). option_and_then (slice_get p) (place_of word (if is_none (place_of name names) then names ++ name ∷ [] else names))) now_is
      ∙ grown word tabled

  pub next_even : length now ≡ length after
  next_even = ap length now_is ∙ even_more names places name k even (is_none (place_of name names)) ∙ ap length (sym after_is)
