-- Lists from which one member is taken.
use Rattle.std.specs.Prelude.{◌⊎◌, nat_eq}
use Rattle.std.proofs.Common.{◌≡◌, true, false, ℕ, zero, suc, ◌+◌, ◌<◌, ⊎_elim, inl, inr, List, [], ◌∷◌, ◌++◌, refl, ap, sym, ◌∙◌, subst, take, drop, length, length-drop, ◌-◌, slice_index, Contains, arith}
use Rattle.std.proofs.lemmas.Bool.{eqb-true, eqb-false}
use Rattle.std.proofs.lemmas.List.{take_all}
use Rattle.std.proofs.lemmas.List.Elements.{Contains-get_or}
use Rattle.npa_list.specs.Different.{AreDifferent}
use Rattle.npa_replay.proofs.Members.{contains_cases, contains_head, contains_tail}

-- a list without the member at a place
abbrev pub without : List ℕ → ℕ → List ℕ
without [] i = []
without (n ∷ ns) zero = ns
without (n ∷ ns) (suc i) = n ∷ without ns i

pub without_length : (ns : List ℕ) (i : ℕ) → i < length ns → length ns ≡ suc (length (without ns i))
without_length [] i l = absurd (omega (arith, l))
without_length (n ∷ ns) zero l = refl
without_length (n ∷ ns) (suc i) l = ap (λ m. suc m) (without_length ns i (omega (arith, l)))

pub without_keeps : (ns : List ℕ) (i x : ℕ) → i < length ns → Contains ns x → (slice_index ns i ≡ x → ⊥) → Contains (without ns i) x
without_keeps [] i x l h other = absurd (omega (arith, l))
without_keeps (n ∷ ns) zero x l h other = ⊎_elim (λ (here : n ≡ x). absurd (other here)) (λ later. later) (contains_cases n ns x h)
without_keeps (n ∷ ns) (suc i) x l h other = ⊎_elim
    (λ (here : n ≡ x). subst (λ y. Contains (n ∷ without ns i) y) here (contains_head n (without ns i)))
    (λ later. contains_tail n (without ns i) x (without_keeps ns i x (omega (arith, l)) later other))
    (contains_cases n ns x h)

pub without_in : (ns : List ℕ) (i x : ℕ) → Contains (without ns i) x → Contains ns x
without_in [] i x h = h
without_in (n ∷ ns) zero x h = contains_tail n ns x h
without_in (n ∷ ns) (suc i) x h = ⊎_elim
    (λ (here : n ≡ x). subst (λ y. Contains (n ∷ ns) y) here (contains_head n ns))
    (λ later. contains_tail n ns x (without_in ns i x later))
    (contains_cases n (without ns i) x h)

pub without_or : (ns : List ℕ) (i x : ℕ) → i < length ns → Contains ns x → (slice_index ns i ≡ x) ⊎ Contains (without ns i) x
without_or ns i x l h =
    elim (nat_eq (slice_index ns i) x) as (λ b. nat_eq (slice_index ns i) x ≡ b → (slice_index ns i ≡ x) ⊎ Contains (without ns i) x) [
      | true ↦ λ e. inl (eqb-true (slice_index ns i) x e)
      | false ↦ λ e. inr (without_keeps ns i x l h (eqb-false (slice_index ns i) x e))
    ] refl

pub without_different : (ns : List ℕ) (i : ℕ) → AreDifferent ns → AreDifferent (without ns i)
without_different [] i d = tt
without_different (n ∷ ns) zero d = d.1
without_different (n ∷ ns) (suc i) d = ((λ h. d.0 (without_in ns i n h)), without_different ns i d.1)

pub without_not : (ns : List ℕ) (i : ℕ) → AreDifferent ns → i < length ns → Contains (without ns i) (slice_index ns i) → ⊥
without_not [] i d l h = omega (arith, l)
without_not (n ∷ ns) zero d l h = d.0 h
without_not (n ∷ ns) (suc i) d l h = ⊎_elim
    (λ (here : n ≡ slice_index ns i). d.0 (subst (λ x. Contains ns x) (sym here) (Contains-get_or ns i 0 (omega (arith, l)))))
    (λ later. without_not ns i d.1 (omega (arith, l)) later)
    (contains_cases n (without ns i) (slice_index ns i) h)

pub without_is : (ns : List ℕ) (i : ℕ) → i < length ns → take i ns ++ drop (i + 1) ns ≡ without ns i
without_is ns i l = ap (λ j. take i ns ++ drop j ns) next ∙ by ns i l
  where
    next : i + 1 ≡ suc i
    next = omega arith

    by : (ms : List ℕ) (j : ℕ) → j < length ms → take j ms ++ drop (suc j) ms ≡ without ms j
    by [] j l = absurd (omega (arith, l))
    by (m ∷ ms) zero l = refl
    by (m ∷ ms) (suc j) l = ap (λ ks. m ∷ ks) (by ms j (omega (arith, l)))

-- all behind a place
pub rest_of : (ns : List ℕ) (i : ℕ) → take (length ns - i) (drop i ns) ≡ drop i ns
rest_of ns i = take_all (length ns - i) (drop i ns) (omega (arith, length-drop i ns))

-- what is left of different numbers
module _ (ns others : List ℕ) (i : ℕ) (l : i < length ns) (different : AreDifferent ns) (is : others ≡ take i ns ++ drop (i + 1) ns) where
  others_without : others ≡ without ns i
  others_without = is ∙ without_is ns i l

  pub others_shorter : length others < length ns
  others_shorter = omega (arith, ap length others_without, without_length ns i l)

  pub others_different : AreDifferent others
  others_different = subst (λ (ms : List ℕ). AreDifferent ms) (sym others_without) (without_different ns i different)

  pub others_among : (x : ℕ) → Contains others x → Contains ns x
  others_among x h = without_in ns i x (subst (λ (ms : List ℕ). Contains ms x) others_without h)
