-- The variants of strands are counted one strand after the other.
use Rattle.std.proofs.Common.{◌≡◌, ℕ, zero, suc, ◌+◌, ◌<◌, ◌≤◌, Some, Ok, List, [], ◌∷◌, length, drop, map, slice_get, refl, sym, ap, subst, ◌∙◌, arith}
use Rattle.std.specs.List.{sum_by}
use Rattle.std.proofs.lemmas.List.Sums.{sum_by-cons}
use Rattle.npa_sig.specs.declared.protocol.Strand.{Strand}
use Rattle.npa_rewrite.specs.declared.theory.Theory.{Theory}
use Rattle.npa_variants.specs.declared.variant.Variant.{Variant}
use Rattle.npa_variants.specs.Ready.{IsFound, strand_rows}
use Rattle.npa_variants.specs.Rows.{Row}
use Rattle.npa_variants.specs.Search.{start_row, variants_of}
use Rattle.npa_variants.specs.Strands.{strand_terms}
use Rattle.npa_variants.specs.Variants.{variant_of}
use Rattle.npa_variants.proofs.Few.{Holds, OneMore, variants_few}
use Rattle.npa_term.specs.declared.term.Term.{Term}
use Rattle.npa_term.specs.Numbering.{variables_once}
use Rattle.npa_checking.specs.Lines.{found_count}

mapped_length : {X Y : Type 0} (f : X → Y) (xs : List X) → length (map f xs) ≡ length xs
mapped_length f [] = refl
mapped_length f (x ∷ xs) = ap suc (mapped_length f xs)

-- a list that the search finds has as many members as the search finds
pub found_length : (th : Theory) (strand : Strand) (list : List Variant) → IsFound th strand list → length list ≡ found_count (strand_rows th strand)
found_length th strand list is =
    ap length is.is
    ∙ mapped_length (variant_of (variables_once (strand_terms strand))) is.rows
    ∙ sym (ap found_count is.found)

-- there is a member at a place within a list
pub there : {X : Type 0} (xs : List X) (i : ℕ) → i < length xs → (x : X) × (slice_get xs i ≡ Some x)
there [] i small = absurd (let no : ⊥ = omega (arith, small) in no)
there (x ∷ xs) zero small = (x, refl)
there (x ∷ xs) (suc i) small = there xs i (omega (arith, small))

-- the search finds at most 64
few_rows : (th : Theory) (terms : List Term) (rows : List Row) → variants_of th terms ≡ Ok rows → length rows ≤ 64
few_rows th terms rows found =
    let few : Holds (λ (L : List Row). length L ≤ 64) (OneMore 64) (variants_of th terms) =
    variants_few 64 th (length (variables_once terms)) (start_row th (variables_once terms) terms) (omega arith) in
    subst (Holds (λ (L : List Row). length L ≤ 64) (OneMore 64)) found few

pub few_found : (th : Theory) (strand : Strand) (list : List Variant) → IsFound th strand list → length list ≤ 64
few_found th strand list is =
    let long : length list ≡ length is.rows = ap length is.is ∙ mapped_length (variant_of (variables_once (strand_terms strand))) is.rows in
    let few : length is.rows ≤ 64 = few_rows th (strand_terms strand) is.rows is.found in
    omega (arith, long, few)

module _ {X : Type 0} (f : X → ℕ) where
  abbrev pub left : ℕ → List X → ℕ
  left i xs = sum_by f (drop i xs)

  at_place : (xs : List X) (i : ℕ) (x : X) → i < length xs → slice_get xs i ≡ Some x → left i xs ≡ f x + left (i + 1) xs
  at_place [] i x small at = absurd (let no : ⊥ = omega (arith, small) in no)
  at_place (y ∷ xs) zero x small at = let same : y ≡ x = cc in sum_by-cons f y xs ∙ ap (λ z. f z + sum_by f xs) same
  at_place (y ∷ xs) (suc i) x small at =
      let more : suc (i + 1) ≡ suc i + 1 = omega arith in
      at_place xs i x (omega (arith, small)) at ∙ ap (λ n. f x + left n (y ∷ xs)) more

  pub next : (xs : List X) (i n m total : ℕ) → i < length xs → ((x : X) → slice_get xs i ≡ Some x → m ≡ f x) →
      n + left i xs ≡ total → (n + m) + left (i + 1) xs ≡ total
  next xs i n m total small counted before =
      let here : (x : X) × (slice_get xs i ≡ Some x) = there xs i small in
      let more : m ≡ f here.0 = counted here.0 here.1 in
      let parts : left i xs ≡ f here.0 + left (i + 1) xs = at_place xs i here.0 small here.1 in
      omega (arith, more, parts, before)
