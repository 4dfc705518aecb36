-- Offers and askers that are added one after another.
use Rattle.std.proofs.Common.{◌≡◌, ℕ, zero, suc, ◌+◌, ◌<◌, inl, inr, List, [], ◌∷◌, ◌++◌, append_assoc, Option, None, Some, length, get_or, slice_get, refl, ap, sym, ◌∙◌, subst, arith}
use Rattle.std.specs.Prelude.{◌⊎◌, Result, Ok, Err, OnOk}
use Rattle.std.proofs.lemmas.Bool.{cases_lt}
use Rattle.std.proofs.lemmas.List.{length-append}
use Rattle.std.proofs.lemmas.List.Elements.{Contains-append_left, Contains-append_right, Contains-append_cases}
use Rattle.std.proofs.lemmas.Option.{same_Some, none-some, slice_get_within, slice_get_read}
use Rattle.npa_sorts.specs.Subsorts.{Subsorts}
use Rattle.npa_term.specs.declared.term.Term.{Term}
use Rattle.npa_term.proofs.Numbered.{member_first}
use Rattle.npa_match.specs.Matching.{HasMatch, read_pairs}
use Rattle.npa_choice.specs.declared.offer.Offer.{Offer}
use Rattle.npa_choice.specs.Choices.{IsChosen}
use Rattle.npa_choice.proofs.Places.{contains_one, within_at}
use Rattle.npa_model.specs.declared.pattern.PStrand.{PStrand}
use Rattle.npa_subsume.specs.Offering.{AreKindred, strand_pairs, OfStrand, OfFact, AreOffers, IsGrown, left_out, added, AreAdded, ArePlaces}

pub on_done : {X E : Type 0} (P Q : Type 0) (r : Result X E) → (P → Q) → OnOk r P → OnOk r Q
on_done P Q (Ok x) f p = f p
on_done P Q (Err e) f p = tt

-- ## Offers

module _ (o : Subsorts) where
  -- one more
  pub offers_grown : (P Q : Option ℕ → List (Term × Term) → Type 0) (fs gs : List Offer) (place : Option ℕ) (pairs : List (Term × Term)) →
      ((x : Option ℕ) (ps : List (Term × Term)) → P x ps → Q x ps) → Q place pairs → ((x : Option ℕ) (ps : List (Term × Term)) → Q x ps → P x ps ⊎ ((x ≡ place) × (ps ≡ pairs))) →
      AreOffers o P fs → IsGrown o fs place pairs gs → AreOffers o Q gs
  offers_grown P Q fs gs place pairs into new cases are (left_out is none) = subst (λ hs. AreOffers o Q hs) (sym is) (record {
    sound = λ f c. into f.place (read_pairs f.pairs) (are.sound f c);
    every = λ x ps q m. elim (cases x ps q) [
      | inl p ↦ are.every x ps p m
      | inr e ↦ absurd (none (subst (λ (rs : List (Term × Term)). HasMatch o rs) e.1 m))
    ];
  })
  offers_grown P Q fs gs place pairs into new cases are (added f is place_is pairs_are) = subst (λ hs. AreOffers o Q hs) (sym is) (record {
    sound = λ g c. elim (Contains-append_cases fs (f ∷ []) g c) [
      | inl old ↦ into g.place (read_pairs g.pairs) (are.sound g old)
      | inr last ↦ subst (λ (h : Offer). Q h.place (read_pairs h.pairs)) (contains_one f g last)
          (subst (λ x. Q x (read_pairs f.pairs)) (sym place_is) (subst (λ ps. Q place ps) (sym pairs_are) new))
    ];
    every = λ x ps q m. elim (cases x ps q) [
      | inl p ↦ let h = are.every x ps p m in record { offer = h.offer; among = Contains-append_left fs (f ∷ []) h.offer h.among; place_is = h.place_is; pairs_are = h.pairs_are }
      | inr e ↦ record { offer = f; among = Contains-append_right fs (f ∷ []) f (member_first f []); place_is = place_is ∙ sym e.0; pairs_are = pairs_are ∙ sym e.1 }
    ];
  })

  -- ## The next strand
  module _ (p : PStrand) (qs : List PStrand) (at : ℕ) (q : PStrand) (there : slice_get qs at ≡ Some q) where
    into_strand : (x : Option ℕ) (ps : List (Term × Term)) → OfStrand p qs at x ps → OfStrand p qs (at + 1) x ps
    into_strand x ps f = record { at = f.at; strand = f.strand; below = let l : f.at < at + 1 = omega (arith, f.below) in l; there = f.there; kindred = f.kindred; place_is = f.place_is; pairs_are = f.pairs_are }

    strand_cases : (x : Option ℕ) (ps : List (Term × Term)) → OfStrand p qs (at + 1) x ps → OfStrand p qs at x ps ⊎ (AreKindred p q × (x ≡ Some at) × (ps ≡ strand_pairs p q))
    strand_cases x ps f = elim (cases_lt f.at at) [
      | inl before ↦ inl (record { at = f.at; strand = f.strand; below = before; there = f.there; kindred = f.kindred; place_is = f.place_is; pairs_are = f.pairs_are })
      | inr last ↦
          let same : f.at ≡ at = omega (arith, last, f.below) in
          let one : f.strand ≡ q = same_Some f.strand q (sym f.there ∙ ap (slice_get qs) same ∙ there) in
          inr (subst (λ (r : PStrand). AreKindred p r) one f.kindred, f.place_is ∙ ap Some same, f.pairs_are ∙ ap (strand_pairs p) one)
    ]

    pub strand_offered : (fs gs : List Offer) (pairs : List (Term × Term)) → AreKindred p q → pairs ≡ strand_pairs p q → AreOffers o (OfStrand p qs at) fs → IsGrown o fs (Some at) pairs gs →
        AreOffers o (OfStrand p qs (at + 1)) gs
    strand_offered fs gs pairs kindred is = offers_grown (OfStrand p qs at) (OfStrand p qs (at + 1)) fs gs (Some at) pairs into_strand
        (record { at = at; strand = q; below = omega arith; there = there; kindred = kindred; place_is = refl; pairs_are = is })
        (λ x ps f. elim (strand_cases x ps f) [ inl old ↦ inl old | inr new ↦ inr (new.1, new.2 ∙ sym is) ])

  -- ## The next fact
  pub fact_offered : (t : Term) (us : List Term) (at : ℕ) (u : Term) → slice_get us at ≡ Some u → (fs gs : List Offer) (pairs : List (Term × Term)) → pairs ≡ (t, u) ∷ [] → AreOffers o (OfFact t us at) fs → IsGrown o fs None pairs gs →
      AreOffers o (OfFact t us (at + 1)) gs
  fact_offered t us at u there fs gs pairs is = offers_grown (OfFact t us at) (OfFact t us (at + 1)) fs gs None pairs
      (λ x ps f. record { at = f.at; fact = f.fact; below = let l : f.at < at + 1 = omega (arith, f.below) in l; there = f.there; place_is = f.place_is; pairs_are = f.pairs_are })
      (record { at = at; fact = u; below = omega arith; there = there; place_is = refl; pairs_are = is })
      (λ x ps f. elim (cases_lt f.at at) [
        | inl before ↦ inl (record { at = f.at; fact = f.fact; below = before; there = f.there; place_is = f.place_is; pairs_are = f.pairs_are })
        | inr last ↦
            let same : f.at ≡ at = omega (arith, last, f.below) in
            let one : f.fact ≡ u = same_Some f.fact u (sym f.there ∙ ap (slice_get us) same ∙ there) in
            inr (f.place_is, f.pairs_are ∙ ap (λ v. (t, v) ∷ []) one ∙ sym is)
      ])

-- ## Places of lists behind one another

pub at_left : {X : Type 0} (xs ys : List X) (k : ℕ) (x : X) → slice_get xs k ≡ Some x → slice_get (xs ++ ys) k ≡ Some x
at_left [] ys k x e = absurd (none-some x e)
at_left (z ∷ xs) ys zero x e = e
at_left (z ∷ xs) ys (suc k) x e = at_left xs ys k x e

pub at_right : {X : Type 0} (xs ys : List X) (k : ℕ) → slice_get (xs ++ ys) (length xs + k) ≡ slice_get ys k
at_right [] ys k = ap (slice_get ys) (let e : 0 + k ≡ k = omega arith in e)
at_right (z ∷ xs) ys k = ap (slice_get (z ∷ xs ++ ys)) (let e : suc (length xs) + k ≡ suc (length xs + k) = omega arith in e) ∙ at_right xs ys k

pub at_cases : {X : Type 0} (xs ys : List X) (k : ℕ) (x : X) → slice_get (xs ++ ys) k ≡ Some x → (slice_get xs k ≡ Some x) ⊎ ((j : ℕ) × (k ≡ length xs + j) × (slice_get ys j ≡ Some x))
at_cases [] ys k x e = inr (k, (let d : k ≡ 0 + k = omega arith in d), e)
at_cases (z ∷ xs) ys zero x e = inl e
at_cases (z ∷ xs) ys (suc k) x e = elim (at_cases xs ys k x e) [ inl old ↦ inl old | inr new ↦ inr (new.0, (let d : suc k ≡ suc (length xs) + new.0 = omega (arith, new.1) in d), new.2) ]

-- ## Askers

module _ {X : Type 0} (R : X → List Offer → Type 0) (xs : List X) where
  pub one_added : (n : ℕ) (old new next_ : List (List Offer)) (x : X) (fs : List Offer) → n < length xs → x ≡ get_or xs n x → next_ ≡ new ++ fs ∷ [] → R x fs → AreAdded R xs n old new → AreAdded R xs (n + 1) old next_
  one_added n old new next_ x fs l is grown good a = record {
    more = a.more ++ fs ∷ [];
    behind = grown ∙ ap (λ gs. gs ++ fs ∷ []) a.behind ∙ append_assoc old a.more (fs ∷ []);
    as_many = length-append a.more (fs ∷ []) ∙ ap (λ m. m + 1) a.as_many;
    each = λ k y gs e d. elim (at_cases a.more (fs ∷ []) k gs d) [
      | inl before ↦ a.each k y gs e before
      | inr last ↦ here k y gs e last.0 last.1 last.2
    ];
  } where
    here : (k : ℕ) (y : X) (gs : List Offer) → slice_get xs k ≡ Some y → (j : ℕ) → k ≡ length a.more + j → slice_get (fs ∷ []) j ≡ Some gs → R y gs
    here k y gs e zero place d =
        let same : k ≡ n = omega (arith, place, a.as_many) in
        let one : x ≡ y = same_Some x y (sym (slice_get_read xs (length xs) n x refl l is) ∙ ap (slice_get xs) (sym same) ∙ e) in
        subst (λ z. R z gs) one (subst (λ hs. R x hs) (same_Some fs gs d) good)
    here k y gs e (suc j) place d = absurd (none-some gs d)

  module _ (old new : List (List Offer)) (a : AreAdded R xs (length xs) old new) where
    pub old_kept : (k : ℕ) (fs : List Offer) → slice_get old k ≡ Some fs → slice_get new k ≡ Some fs
    old_kept k fs e = subst (λ gs. slice_get gs k ≡ Some fs) (sym a.behind) (at_left old a.more k fs e)

    pub new_at : (k : ℕ) (x : X) → slice_get xs k ≡ Some x → (fs : List Offer) × (slice_get new (length old + k) ≡ Some fs) × R x fs
    new_at k x e =
        let l = slice_get_within xs k x e in
        let m = within_at a.more k (omega (arith, l, a.as_many)) in
        (m.0, subst (λ gs. slice_get gs (length old + k) ≡ Some m.0) (sym a.behind) (at_right old a.more k ∙ m.1), a.each k x m.0 e m.1)

    pub new_cases : (k : ℕ) (fs : List Offer) → slice_get new k ≡ Some fs → (slice_get old k ≡ Some fs) ⊎ ((j : ℕ) × (x : X) × (k ≡ length old + j) × (slice_get xs j ≡ Some x) × R x fs)
    new_cases k fs e = elim (at_cases old a.more k fs (subst (λ gs. slice_get gs k ≡ Some fs) a.behind e)) [
      | inl before ↦ inl before
      | inr later ↦
          let l = slice_get_within a.more later.0 fs later.2 in
          let x = within_at xs later.0 (omega (arith, l, a.as_many)) in
          inr (later.0, x.0, later.1, x.1, a.each later.0 x.0 fs x.1 later.2)
    ]

-- ## Places

pub place_added : (askers : List (List Offer)) (numbers : List ℕ) (count : ℕ) (places new : List ℕ) (m : ℕ) → new ≡ places ++ m ∷ [] →
    ((f : Offer) (n : ℕ) → IsChosen askers numbers count f → f.place ≡ Some n → m ≡ n) → ArePlaces askers numbers count places → ArePlaces askers numbers (count + 1) new
place_added askers numbers count places new m is good a = record {
  as_many = ap length is ∙ length-append places (m ∷ []) ∙ ap (λ k. k + 1) a.as_many;
  each = λ k x n f e c d. elim (at_cases places (m ∷ []) k x (subst (λ xs. slice_get xs k ≡ Some x) is e)) [
    | inl before ↦ a.each k x n f before c d
    | inr last ↦ here k x n f c d last.0 last.1 last.2
  ];
} where
  here : (k x n : ℕ) (f : Offer) → IsChosen askers numbers k f → f.place ≡ Some n → (j : ℕ) → k ≡ length places + j → slice_get (m ∷ []) j ≡ Some x → x ≡ n
  here k x n f c d zero place e =
      let same : k ≡ count = omega (arith, place, a.as_many) in
      sym (same_Some m x e) ∙ good f n (subst (λ i. IsChosen askers numbers i f) same c) d
  here k x n f c d (suc j) place e = absurd (none-some x e)
