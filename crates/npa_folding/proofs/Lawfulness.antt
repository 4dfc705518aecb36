-- The rules are lawful over any protocol.
use Rattle.std.proofs.Common.{◌≡◌, ◌⊎◌, ◌↔◌, inl, inr, Bool, true, false, ◌&&◌, Result, List, refl, ap, sym, ◌∙◌, subst}
use Rattle.std.specs.Prelude.{IsTrue}
use Rattle.std.proofs.lemmas.Bool.{and_parts, and_from, and_left, cases_Bool, cond-true, cond-false, false_from_ne_true, true≢false}
use Rattle.fold_core.specs.declared.error.Large.{Large}
use Rattle.fold_core.specs.Rules.{Lawful}
use Rattle.npa_sorts.specs.Subsorts.{Subsorts}
use Rattle.npa_sig.specs.declared.protocol.Protocol.{Protocol}
use Rattle.npa_model.specs.declared.pattern.Pattern.{Pattern}
use Rattle.npa_model.specs.Covering.{Covers}
use Rattle.npa_model.specs.Fitting.{IsFit, is_fit}
use Rattle.npa_model.proofs.Fitted.{fits_exactly}
use Rattle.npa_model.proofs.CoverLaws.{covers_itself, covers_through, covers_initial}
use Rattle.npa_subsume.specs.Testing.{covers_test, initial_test}
use Rattle.npa_subsume.proofs.Ways.{same_truth}
use Rattle.npa_subsume.proofs.Tested.{covers_exact, initial_exact}
use Rattle.npa_folding.specs.Equality.{equal_pattern}
use Rattle.npa_folding.specs.Folding.{covers_item, rules_with}
use Rattle.npa_folding.proofs.Equalities.{patterns_are, pattern_itself}

module _ (protocol : Protocol) where
  -- both fit and the first covers the second
  record IsFitCover (t s : Pattern) : Type 0 where
    pub first : is_fit protocol t ≡ true
    pub second : is_fit protocol s ≡ true
    pub covers : Covers protocol.sig.sorts t s

  item_cases : (t s : Pattern) → covers_item protocol t s ≡ true → IsFitCover t s ⊎ (t ≡ s)
  unfolding covers_item
  item_cases t s e =
      let both = is_fit protocol t && is_fit protocol s in
      let test = covers_test protocol.sig.sorts t s in
      let equal = equal_pattern t s in
      elim (cases_Bool both) [
        | inl fit ↦
            let parts = and_parts (is_fit protocol t) (is_fit protocol s) fit in
            inl (record { first = parts.0; second = parts.1; covers = (covers_exact protocol.sig.sorts t s).0 (sym (cond-true both test equal fit) ∙ e) })
        | inr unfit ↦ inr (patterns_are t s (sym (cond-false both test equal unfit) ∙ e))
      ]

  pub fit_item : (t s : Pattern) → is_fit protocol t ≡ true → is_fit protocol s ≡ true → Covers protocol.sig.sorts t s → covers_item protocol t s ≡ true
  unfolding covers_item
  fit_item t s first second covers =
      cond-true (is_fit protocol t && is_fit protocol s) (covers_test protocol.sig.sorts t s) (equal_pattern t s) (and_from (is_fit protocol t) (is_fit protocol s) first second)
      ∙ (covers_exact protocol.sig.sorts t s).1 covers

  pub item_itself : (t : Pattern) → covers_item protocol t t ≡ true
  unfolding covers_item
  item_itself t =
      let both = is_fit protocol t && is_fit protocol t in
      let test = covers_test protocol.sig.sorts t t in
      let equal = equal_pattern t t in
      elim (cases_Bool both) [
        | inl fit ↦ cond-true both test equal fit ∙ (covers_exact protocol.sig.sorts t t).1 (covers_itself protocol.sig.sorts t)
        | inr unfit ↦ cond-false both test equal unfit ∙ pattern_itself t
      ]

  pub item_covers : (t s : Pattern) → covers_item protocol t s ≡ true → Covers protocol.sig.sorts t s
  item_covers t s e = elim (item_cases t s e) [
    | inl x ↦ x.covers
    | inr is ↦ subst (λ (r : Pattern). Covers protocol.sig.sorts t r) is (covers_itself protocol.sig.sorts t)
  ]

  pub item_through : (t u v : Pattern) → covers_item protocol t u ≡ true → covers_item protocol u v ≡ true → covers_item protocol t v ≡ true
  item_through t u v first second = elim (item_cases t u first) [
    | inr is ↦ subst (λ (r : Pattern). covers_item protocol r v ≡ true) (sym is) second
    | inl x ↦ elim (item_cases u v second) [
      | inr is ↦ subst (λ (r : Pattern). covers_item protocol t r ≡ true) is first
      | inl y ↦ fit_item t v x.first y.second (covers_through protocol.sig.sorts t u v x.covers y.covers)
    ]
  ]

  pub item_starts : (t s : Pattern) → covers_item protocol t s ≡ true → initial_test s ≡ true → initial_test t ≡ true
  item_starts t s e initial = (initial_exact t).1 (covers_initial protocol.sig.sorts t s (item_covers t s e) ((initial_exact s).0 initial))

  pub rules_lawful : (children : Protocol → Pattern → Result (List Pattern) Large) → Lawful (rules_with children protocol)
  rules_lawful children = record { reflexive = item_itself; transitive = item_through; starts = item_starts }

  -- of patterns that fit, one that covers another covers it as an item
  pub item_exact : (t s : Pattern) → IsFit protocol t → IsFit protocol s → Covers protocol.sig.sorts t s → covers_item protocol t s ≡ true
  item_exact t s first second covers = fit_item t s ((fits_exactly protocol t (is_fit protocol t) refl).1 first) ((fits_exactly protocol s (is_fit protocol s) refl).1 second) covers

  -- ## What the code tells
  pub fit_truth : (g : Pattern) (fit : Bool) → IsTrue fit ↔ IsFit protocol g → fit ≡ is_fit protocol g
  fit_truth g fit exact =
      let test = fits_exactly protocol g (is_fit protocol g) refl in
      same_truth fit (is_fit protocol g) (λ e. test.1 (exact.0 e)) (λ e. exact.1 (test.0 e))

  pub first_unfit : (t s : Pattern) (fit : Bool) → IsTrue fit ↔ IsFit protocol t → fit ≡ false → false ≡ (is_fit protocol t && is_fit protocol s)
  first_unfit t s fit exact e = sym (and_left (is_fit protocol t) (is_fit protocol s) (sym (fit_truth t fit exact) ∙ e))

  pub second_tells : (t s : Pattern) (first second : Bool) → IsTrue first ↔ IsFit protocol t → first ≡ true → IsTrue second ↔ IsFit protocol s → second ≡ (is_fit protocol t && is_fit protocol s)
  second_tells t s first second one e two = fit_truth s second two ∙ ap (λ b. b && is_fit protocol s) (sym e ∙ fit_truth t first one)

  pub none_covered : (o : Subsorts) (t s : Pattern) (told : Bool) → o ≡ protocol.sig.sorts → told ≡ covers_test o t s → told ≡ false → false ≡ covers_item protocol t s
  none_covered o t s told order is e =
      sym (false_from_ne_true (covers_item protocol t s) (λ d.
      true≢false (sym ((covers_exact protocol.sig.sorts t s).1 (item_covers t s d)) ∙ ap (λ p. covers_test p t s) (sym order) ∙ sym is ∙ e)))

  pub fit_told : (o : Subsorts) (t s : Pattern) (told both : Bool) → o ≡ protocol.sig.sorts → told ≡ covers_test o t s → told ≡ true → both ≡ (is_fit protocol t && is_fit protocol s) → both ≡ true → true ≡ covers_item protocol t s
  fit_told o t s told both order is e fit d =
      let parts = and_parts (is_fit protocol t) (is_fit protocol s) (sym fit ∙ d) in
      sym (fit_item t s parts.0 parts.1 ((covers_exact protocol.sig.sorts t s).0 (ap (λ p. covers_test p t s) (sym order) ∙ sym is ∙ e)))

  pub unfit_told : (t s : Pattern) (equal both : Bool) → both ≡ (is_fit protocol t && is_fit protocol s) → both ≡ false → IsTrue equal ↔ (t ≡ s) → equal ≡ covers_item protocol t s
  unfolding covers_item
  unfit_told t s equal both is e exact =
      same_truth equal (equal_pattern t s) (λ d. subst (λ (r : Pattern). equal_pattern t r ≡ true) (exact.0 d) (pattern_itself t)) (λ d. exact.1 (patterns_are t s d))
      ∙ sym (cond-false (is_fit protocol t && is_fit protocol s) (covers_test protocol.sig.sorts t s) (equal_pattern t s) (sym is ∙ e))
