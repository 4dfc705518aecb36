-- Choices for some of the askers, and those for all that go on from them.
use Rattle.std.proofs.Common.{◌≡◌, ℕ, ◌+◌, ◌<◌, ◌≤◌, inl, inr, List, [], ◌++◌, Option, None, Some, length, map, get_or, slice_get, slice_set, Contains, refl, ap, sym, ◌∙◌, subst, arith}
use Rattle.std.specs.Prelude.{◌⊎◌, unwrap_or, IfSome}
use Rattle.std.proofs.lemmas.Bool.{cases_lt}
use Rattle.std.proofs.lemmas.List.{length-map, length-replicate}
use Rattle.std.proofs.lemmas.List.Elements.{Contains-append_left, Contains-append_right, Contains-append_cases}
use Rattle.std.proofs.lemmas.Option.{same_Some, none-some, slice_get_within, slice_get_read}
use Rattle.npa_sorts.specs.Subsorts.{Subsorts}
use Rattle.npa_term.specs.declared.term.Var.{Var as Variable}
use Rattle.npa_term.specs.declared.term.Term.{Term}
use Rattle.npa_term.specs.Bound.{BindsOnce}
use Rattle.npa_match.specs.Matching.{bound_pairs, read_pairs}
use Rattle.npa_choice.specs.declared.offer.Offer.{Offer}
use Rattle.npa_choice.specs.declared.partial.Partial.{Partial}
use Rattle.npa_choice.specs.Choices.{IsChosen, IsChoice, HasChoice}
use Rattle.npa_choice.specs.Partial.{placed, IsWitnessed, IsStart, IsOpen, NoneOpen, Adds, IsTaken, IsHeld, HasCompletion, NoneWaits, IsTurn, as_turn}
use Rattle.npa_choice.proofs.Holding.{witnessed_none}
use Rattle.npa_choice.proofs.Matched.{matches_all, matches_fewer, branch_is}
use Rattle.npa_choice.proofs.Places.{within_at, mapped_at, at_mapped, length_set, set_here, set_elsewhere, at_replicate, equal_or, placed_is, is_placed}

-- nobody who waits has an offer
waits_not : (xs : List (Option ℕ)) (k n : ℕ) → slice_get xs k ≡ Some None → slice_get xs k ≡ Some (Some n) → ⊥
waits_not xs k n e d = none-some n (same_Some None (Some n) (sym e ∙ d))

module _ (askers : List (List Offer)) where
  -- ## One more offer
  module _ (cs : List (Option ℕ)) (k n : ℕ) (fs : List Offer) (f : Offer) (waits : slice_get cs k ≡ Some None) (asker : slice_get askers k ≡ Some fs) (offer : slice_get fs n ≡ Some f) where
    abbrev with_it : List (Option ℕ)
    with_it = slice_set cs k (Some n)

    taken_new : IsTaken askers with_it k f
    taken_new = record { offers = fs; number = n; asker = asker; chosen_ = set_here cs k None (Some n) waits; offer = offer }

    taken_old : (j : ℕ) (g : Offer) → IsTaken askers cs j g → IsTaken askers with_it j g
    taken_old j g t = record {
      offers = t.offers;
      number = t.number;
      asker = t.asker;
      chosen_ = set_elsewhere cs k j (Some n) (λ e. waits_not cs k t.number waits (subst (λ i. slice_get cs i ≡ Some (Some t.number)) e t.chosen_)) ∙ t.chosen_;
      offer = t.offer;
    }

    taken_cases : (j : ℕ) (g : Offer) → IsTaken askers with_it j g → ((j ≡ k) × (f ≡ g)) ⊎ IsTaken askers cs j g
    taken_cases j g t = elim (equal_or j k) [
      | inl e ↦ let number : n ≡ t.number = same_Some n t.number (same_Some (Some n) (Some t.number) (sym (set_here cs k None (Some n) waits) ∙ subst (λ i. slice_get with_it i ≡ Some (Some t.number)) e t.chosen_)) in
          let offers : fs ≡ t.offers = same_Some fs t.offers (sym asker ∙ subst (λ i. slice_get askers i ≡ Some t.offers) e t.asker) in
          let is : slice_get fs n ≡ Some g = ap (slice_get fs) number ∙ ap (λ gs. slice_get gs t.number) offers ∙ t.offer in
          inl (e, same_Some f g (sym offer ∙ is))
      | inr ne ↦ inr (record { offers = t.offers; number = t.number; asker = t.asker; chosen_ = sym (set_elsewhere cs k j (Some n) ne) ∙ t.chosen_; offer = t.offer })
    ]

  module _ (o : Subsorts) where
    pub held_next : (c d : Partial) (k n : ℕ) (fs : List Offer) (f : Offer) → IsHeld o askers c → slice_get c.chosen k ≡ Some None → slice_get askers k ≡ Some fs → slice_get fs n ≡ Some f →
        Adds o c k n f d → IsHeld o askers d
    held_next c d k n fs f h waits asker offer adds =
        let ds : List (Option ℕ) = slice_set c.chosen k (Some n) in
        let old : (j : ℕ) (g : Offer) → IsTaken askers c.chosen j g → IsTaken askers d.chosen j g =
        λ j g t. subst (λ xs. IsTaken askers xs j g) (sym adds.chosen) (taken_old c.chosen k n fs f waits asker offer j g t) in
        let new : IsTaken askers d.chosen k f = subst (λ xs. IsTaken askers xs k f) (sym adds.chosen) (taken_new c.chosen k n fs f waits asker offer) in
        let cases : (j : ℕ) (g : Offer) → IsTaken askers d.chosen j g → ((j ≡ k) × (f ≡ g)) ⊎ IsTaken askers c.chosen j g =
        λ j g t. taken_cases c.chosen k n fs f waits asker offer j g (subst (λ xs. IsTaken askers xs j g) adds.chosen t) in
        let not_both : (j m : ℕ) (g e : Offer) → f ≡ e → IsTaken askers c.chosen j g → g.place ≡ Some m → e.place ≡ Some m → ⊥ =
        λ j m g e is t p q. adds.free.apart m (ap (λ (x : Offer). x.place) is ∙ q) (h.used j m g t p) in
        record {
          as_many = ap length adds.chosen ∙ length_set c.chosen k (Some n) ∙ h.as_many;
          each = λ j m e. elim (equal_or j k) [
            | inl is ↦ (f, subst (λ i. IsTaken askers d.chosen i f) (sym is) new)
            | inr ne ↦ let x = h.each j m (sym (set_elsewhere c.chosen k j (Some n) ne) ∙ ap (λ xs. slice_get xs j) (sym adds.chosen) ∙ e) in
                (x.0, old j x.0 x.1)
          ];
          apart = λ i j m g e t u p q. elim (cases i g t) [
            | inl x ↦ elim (cases j e u) [
              | inl y ↦ x.0 ∙ sym y.0
              | inr y ↦ absurd (not_both j m e g x.1 y q p)
            ]
            | inr x ↦ elim (cases j e u) [
              | inl y ↦ absurd (not_both i m g e y.1 x p q)
              | inr y ↦ h.apart i j m g e x y p q
            ]
          ];
          used = λ j m g t p. subst (λ us. Contains us m) (sym adds.used) (elim (cases j g t) [
            | inl x ↦ Contains-append_right c.used (placed f.place) m (is_placed f.place m (ap (λ (y : Offer). y.place) x.1 ∙ p))
            | inr x ↦ Contains-append_left c.used (placed f.place) m (h.used j m g x p)
          ]);
          pairs = λ j g t p i. subst (λ ps. Contains ps p) (sym adds.pairs) (elim (cases j g t) [
            | inl x ↦ Contains-append_right (read_pairs c.pairs) (read_pairs f.pairs) p (subst (λ (y : Offer). Contains (read_pairs y.pairs) p) (sym x.1) i)
            | inr x ↦ Contains-append_left (read_pairs c.pairs) (read_pairs f.pairs) p (h.pairs j g x p i)
          ]);
          users = λ m i. elim (Contains-append_cases c.used (placed f.place) m (subst (λ us. Contains us m) adds.used i)) [
            | inl x ↦ let u = h.users m x in record { asker = u.asker; offer = u.offer; taken = old u.asker u.offer u.taken; place = u.place }
            | inr x ↦ record { asker = k; offer = f; taken = new; place = placed_is f.place m x }
          ];
          givers = λ p i. elim (Contains-append_cases (read_pairs c.pairs) (read_pairs f.pairs) p (subst (λ ps. Contains ps p) adds.pairs i)) [
            | inl x ↦ let u = h.givers p x in record { asker = u.asker; offer = u.offer; taken = old u.asker u.offer u.taken; pair = u.pair }
            | inr x ↦ record { asker = k; offer = f; taken = new; pair = x }
          ];
          witnessed = adds.witnessed;
        }

    -- ## The start
    start_waits : (c : Partial) → IsStart (length askers) c → (k n : ℕ) → slice_get c.chosen k ≡ Some (Some n) → ⊥
    start_waits c start k n e = none-some n (at_replicate (length askers) None k (Some n) (ap (λ xs. slice_get xs k) (sym start.chosen) ∙ e))

    pub held_start : (c : Partial) → IsStart (length askers) c → IsHeld o askers c
    held_start c start =
        let nobody : (k : ℕ) (f : Offer) → IsTaken askers c.chosen k f → ⊥ = λ k f t. start_waits c start k t.number t.chosen_ in
        record {
          as_many = ap length start.chosen ∙ length-replicate (length askers) None;
          each = λ k n e. absurd (start_waits c start k n e);
          apart = λ j k n f g t u p q. absurd (nobody j f t);
          used = λ k n f t p. absurd (nobody k f t);
          pairs = λ k f t p i. absurd (nobody k f t);
          users = λ n i. let no : Contains [] n = subst (λ us. Contains us n) start.used i in absurd (let none : ⊥ = omega (arith, no.1) in none);
          givers = λ p i. let no : Contains [] p = subst (λ ps. Contains (read_pairs ps) p) start.pairs i in absurd (let none : ⊥ = omega (arith, no.1) in none);
          witnessed = witnessed_none o c start.pairs start.bound;
        }

    pub start_completed : (c : Partial) → IsStart (length askers) c → HasChoice o askers → HasCompletion o askers c.chosen
    start_completed c start h = record { at = h.at; by_ = h.by_; is = h.is; agrees = λ k n e. absurd (start_waits c start k n e) }

    -- ## The end
    module _ (c : Partial) (h : IsHeld o askers c) (none : NoneWaits c.chosen) where
      abbrev numbers : List ℕ
      numbers = map (λ (x : Option ℕ). unwrap_or x 0) c.chosen

      number_at : (k : ℕ) (x : Option ℕ) → slice_get c.chosen k ≡ Some x → (n : ℕ) × (x ≡ Some n)
      number_at k None e = absurd (none k e)
      number_at k (Some n) e = (n, refl)

      of_chosen : (k : ℕ) (f : Offer) → IsChosen askers numbers k f → IsTaken askers c.chosen k f
      of_chosen k f t =
          let x = mapped_at (λ (x : Option ℕ). unwrap_or x 0) c.chosen k t.number t.chosen in
          let n = number_at k x.0 x.1 in
          let is : n.0 ≡ t.number = ap (λ (y : Option ℕ). unwrap_or y 0) (sym n.1) ∙ x.2 in
          record { offers = t.offers; number = t.number; asker = t.asker; chosen_ = x.1 ∙ ap Some (n.1 ∙ ap Some is); offer = t.offer }

      to_chosen : (k : ℕ) (f : Offer) → IsTaken askers c.chosen k f → IsChosen askers numbers k f
      to_chosen k f t = record { offers = t.offers; number = t.number; asker = t.asker; chosen = at_mapped (λ (x : Option ℕ). unwrap_or x 0) c.chosen k (Some t.number) t.chosen_; offer = t.offer }

      pub completed_choice : (at : List ℕ) (bound : List (Variable × Term)) → at ≡ map (λ (x : Option ℕ). unwrap_or x 0) c.chosen → bound ≡ bound_pairs c.bound → IsChoice o askers at bound
      completed_choice at bound at_is bound_is = subst (λ ns. IsChoice o askers ns bound) (sym at_is) (subst (λ s. IsChoice o askers numbers s) (sym bound_is) (record {
        as_many = length-map c.chosen (λ (x : Option ℕ). unwrap_or x 0) ∙ h.as_many;
        each = λ k l.
            let x = within_at c.chosen k (omega (arith, l, h.as_many)) in
            let n = number_at k x.0 x.1 in
            let t = h.each k n.0 (x.1 ∙ ap Some n.1) in
            (t.0, to_chosen k t.0 t.1);
        apart = λ j k n f g t u p q. h.apart j k n f g (of_chosen j f t) (of_chosen k g u) p q;
        matches = λ k f t. matches_fewer o (read_pairs c.pairs) (read_pairs f.pairs) (bound_pairs c.bound) (h.pairs k f (of_chosen k f t)) (branch_is o (read_pairs c.pairs) (bound_pairs c.bound) h.witnessed.witness).matches;
      }))

    pub witnessed_once : (c : Partial) → IsWitnessed o c → BindsOnce (bound_pairs c.bound)
    witnessed_once c w = (branch_is o (read_pairs c.pairs) (bound_pairs c.bound) w.witness).once

    -- ## Whose turn it is

    -- the offers behind those that were counted
    pub none_open_next : (c : Partial) (fs : List Offer) (i : ℕ) (f : Offer) → i < length fs → f ≡ get_or fs i f → ((n : ℕ) (g : Offer) → n < i → slice_get fs n ≡ Some g → IsOpen o c g → ⊥) →
        (IsOpen o c f → ⊥) → (n : ℕ) (g : Offer) → n < i + 1 → slice_get fs n ≡ Some g → IsOpen o c g → ⊥
    none_open_next c fs i f l is was closed n g m e is_open = elim (cases_lt n i) [
      | inl before ↦ was n g before e is_open
      | inr last ↦
          let same : n ≡ i = omega (arith, m, last) in
          let one : f ≡ g = same_Some f g (sym (slice_get_read fs (length fs) i f refl l is) ∙ ap (slice_get fs) (sym same) ∙ e) in
          closed (subst (λ (x : Offer). IsOpen o c x) (sym one) is_open)
    ]

    pub none_open_all : (c : Partial) (fs : List Offer) (i : ℕ) → length fs ≤ i → ((n : ℕ) (g : Offer) → n < i → slice_get fs n ≡ Some g → IsOpen o c g → ⊥) → NoneOpen o c fs
    none_open_all c fs i past was n g e = let l = slice_get_within fs n g e in was n g (omega (arith, l, past)) e

    pub turn_is : (c : Partial) → IsHeld o askers c → (n : ℕ) → length askers ≤ n → (first : Option ℕ) → (first ≡ None → (j : ℕ) → j < n → slice_get c.chosen j ≡ Some None → ⊥) →
        IfSome first (λ j. slice_get c.chosen j ≡ Some None) → IsTurn o askers c (as_turn first)
    turn_is c h n past None none some = λ k e. let l = slice_get_within c.chosen k None e in none refl k (omega (arith, l, h.as_many, past)) e
    turn_is c h n past (Some k) none some = some

    -- ## What can't be completed

    -- the first so many offers to the asker at place k were tried
    pub record Tried (c : Partial) (k index : ℕ) : Type 0 where
      pub each : (n : ℕ) → n < index → HasCompletion o askers (slice_set c.chosen k (Some n)) → ⊥

    pub tried_next : (c : Partial) (k index : ℕ) → Tried c k index → (HasCompletion o askers (slice_set c.chosen k (Some index)) → ⊥) → Tried c k (index + 1)
    tried_next c k index was fails = record {
      each = λ n l h. elim (cases_lt n index) [
        | inl before ↦ was.each n before h
        | inr last ↦ fails (subst (λ m. HasCompletion o askers (slice_set c.chosen k (Some m))) (let same : n ≡ index = omega (arith, l, last) in same) h)
      ];
    }

    module _ (c : Partial) (held : IsHeld o askers c) (k : ℕ) (waits : slice_get c.chosen k ≡ Some None) where
      chosen_from : (h : HasCompletion o askers c.chosen) (j : ℕ) (g : Offer) → IsTaken askers c.chosen j g → IsChosen askers h.at j g
      chosen_from h j g t = record { offers = t.offers; number = t.number; asker = t.asker; chosen = h.agrees j t.number t.chosen_; offer = t.offer }

      -- what is chosen for one who waits is open
      open_chosen : (h : HasCompletion o askers c.chosen) (f : Offer) → IsChosen askers h.at k f → IsOpen o c f
      open_chosen h f t = record {
        free = record {
          apart = λ n p i.
              let u = held.users n i in
              let same : u.asker ≡ k = h.is.apart u.asker k n u.offer f (chosen_from h u.asker u.offer u.taken) t u.place p in
              waits_not c.chosen k u.taken.number waits (subst (λ j. slice_get c.chosen j ≡ Some (Some u.taken.number)) same u.taken.chosen_);
        };
        matched = record {
          by_ = h.by_;
          matches = matches_all o (read_pairs c.pairs ++ read_pairs f.pairs) h.by_ (λ p i. elim (Contains-append_cases (read_pairs c.pairs) (read_pairs f.pairs) p i) [
            | inl x ↦ let u = held.givers p x in record { pairs = read_pairs u.offer.pairs; among = u.pair; matches = h.is.matches u.asker u.offer (chosen_from h u.asker u.offer u.taken) }
            | inr x ↦ record { pairs = read_pairs f.pairs; among = x; matches = h.is.matches k f t }
          ]);
        };
      }

      within : k < length askers
      within = let l = slice_get_within c.chosen k None waits in omega (arith, l, held.as_many)

      chosen_at : (h : HasCompletion o askers c.chosen) → (f : Offer) × IsChosen askers h.at k f
      chosen_at h = h.is.each k within

      module _ (fs : List Offer) (asker : slice_get askers k ≡ Some fs) where
        offer_at : (h : HasCompletion o askers c.chosen) → (n : ℕ) × (f : Offer) × (slice_get fs n ≡ Some f) × (slice_get h.at k ≡ Some n) × IsOpen o c f
        offer_at h =
            let x = chosen_at h in
            let same : x.1.offers ≡ fs = same_Some x.1.offers fs (sym x.1.asker ∙ asker) in
            (x.1.number, x.0, ap (λ gs. slice_get gs x.1.number) (sym same) ∙ x.1.offer, x.1.chosen, open_chosen h x.0 x.1)

        -- an asker who has no offer left
        pub none_completes : NoneOpen o c fs → HasCompletion o askers c.chosen → ⊥
        none_completes none h = let x = offer_at h in none x.0 x.1 x.2 x.4

        -- a completion is one of the choice with one more offer
        pub all_tried : (index : ℕ) → length fs ≤ index → Tried c k index → HasCompletion o askers c.chosen → ⊥
        all_tried index past was h =
            let x = offer_at h in
            let l = slice_get_within fs x.0 x.1 x.2 in
            was.each x.0 (omega (arith, l, past)) (record {
              at = h.at;
              by_ = h.by_;
              is = h.is;
              agrees = λ j n e. elim (equal_or j k) [
                | inl same ↦ let number : x.0 ≡ n = same_Some x.0 n (same_Some (Some x.0) (Some n) (sym (set_here c.chosen k None (Some x.0) waits) ∙ subst (λ i. slice_get (slice_set c.chosen k (Some x.0)) i ≡ Some (Some n)) same e)) in
                    ap (slice_get h.at) same ∙ x.3 ∙ ap Some number
                | inr ne ↦ h.agrees j n (sym (set_elsewhere c.chosen k j (Some x.0) ne) ∙ e)
              ];
            })

        -- an offer that isn't open
        pub closed_tried : (n : ℕ) (f : Offer) → slice_get fs n ≡ Some f → (IsOpen o c f → ⊥) → HasCompletion o askers (slice_set c.chosen k (Some n)) → ⊥
        closed_tried n f is closed h =
            let old : HasCompletion o askers c.chosen = record {
              at = h.at;
              by_ = h.by_;
              is = h.is;
              agrees = λ j m e. h.agrees j m (set_elsewhere c.chosen k j (Some n) (λ same. waits_not c.chosen k m waits (subst (λ i. slice_get c.chosen i ≡ Some (Some m)) same e)) ∙ e);
            } in
            let at : slice_get h.at k ≡ Some n = h.agrees k n (set_here c.chosen k None (Some n) waits) in
            closed (open_chosen old f (record { offers = fs; number = n; asker = asker; chosen = at; offer = is }))
