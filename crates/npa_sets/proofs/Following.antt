-- Picks are tried one after the other, and those that take more of what is cut aren't.
use Rattle.std.proofs.Common.{◌≡◌, ℕ, zero, suc, ◌+◌, Result, Ok, Err, Some, List, [], ◌∷◌, ◌++◌, drop, slice_get, get_or, drop-cons, inl, inr, refl, sym, ◌∙◌, ap, subst, arith, Contains}
use Rattle.std.specs.Borrow.{Bor}
use Rattle.std.proofs.lemmas.List.{append_assoc}
use Rattle.std.proofs.lemmas.Option.{get_or_from_slice_get, slice_get_within}
use Rattle.npa_sorts.specs.Subsorts.{Subsorts}
use Rattle.npa_term.specs.declared.term.Term.{Term}
use Rattle.npa_term.specs.declared.term.Var.{Var as Variable}
use Rattle.npa_unify.specs.declared.error.UnifyFail.{UnifyFail}
use Rattle.npa_unify.proofs.Members.{here, later, nowhere, member_cases}
use Rattle.npa_variants.specs.Told.{seen}
use Rattle.npa_moves.specs.Moves.{each_with}
use Rattle.npa_moves.specs.Picks.{Pick, picks_from}
use Rattle.npa_moves.specs.Steps.{solve_over}
use Rattle.npa_sets.specs.Sets.{IsLow, Kept, answered, followed, picks_with, sets_from, with_kept}
use Rattle.npa_unify.specs.declared.error.UnifyFail.TheVariants.{NoMemory, TooLarge, TooMany}
use Rattle.npa_sets.specs.declared.sets.Found.{Found}
use Rattle.npa_sets.specs.Told.{AreCut, Gives, GivesUnifiers}

dropped : (ts : List Term) (i : ℕ) (t : Term) → slice_get ts i ≡ Some t → drop i ts ≡ t ∷ drop (i + 1) ts
dropped ts i t there =
    drop-cons ts i t (slice_get_within ts i t there) ∙ ap (λ x. x ∷ drop (suc i) ts) (get_or_from_slice_get ts i t t there) ∙ ap (λ n. t ∷ drop n ts) (let n : suc i ≡ i + 1 = omega arith in n)

module _ (o : Subsorts) (next : ℕ) (m : Term) where
  followed_twice : (r : Result Kept UnifyFail) (f g : Kept → Result Kept UnifyFail) → followed (followed r f) g ≡ followed r (λ k. followed (f k) g)
  followed_twice (Ok k) f g = refl
  followed_twice (Err e) f g = refl

  followed_alike : (r : Result Kept UnifyFail) (f g : Kept → Result Kept UnifyFail) → ((k : Kept) → f k ≡ g k) → followed r f ≡ followed r g
  followed_alike (Ok k) f g e = e k
  followed_alike (Err x) f g e = refl

  pub from_both : (ps qs : List Pick) (k : Kept) → sets_from o next m (ps ++ qs) k ≡ followed (sets_from o next m ps k) (sets_from o next m qs)
  from_both [] qs k = refl
  from_both (p ∷ ps) qs k =
      let r = answered p (solve_over o next (each_with m p.taken)) k in
      followed_alike r (sets_from o next m (ps ++ qs)) (λ l. followed (sets_from o next m ps l) (sets_from o next m qs)) (from_both ps qs)
      ∙ sym (followed_twice r (sets_from o next m ps) (sets_from o next m qs))

  pub cut_adds_none : (taken left : List Term) (places : List ℕ) (k : ℕ) (ts : List Term) (kept : Kept) → AreCut o next m taken → ((t : Term) → Contains ts t → IsLow next t) →
      sets_from o next m (picks_from taken left places k ts) kept ≡ Ok kept
  cut_adds_none taken left places k [] kept cut low = refl
  cut_adds_none taken left places k (t ∷ ts) kept cut low =
      let rest : (x : Term) → Contains ts x → IsLow next x = λ x c. low x (later t x ts c) in
      let more : AreCut o next m (taken ++ t ∷ []) = λ us lows. ap (λ xs. solve_over o next (each_with m xs)) (append_assoc taken (t ∷ []) us) ∙ cut (t ∷ us) (one_more t us (low t (here t ts)) lows) in
      let pick : Pick = record { taken = taken ++ t ∷ []; left = left ++ ts; places = places ++ k ∷ [] } in
      ap (λ r. followed (answered pick r kept) (sets_from o next m (picks_from (taken ++ t ∷ []) left (places ++ k ∷ []) (k + 1) ts ++ picks_from taken (left ++ t ∷ []) places (k + 1) ts)))
      (cut (t ∷ []) (one_more t [] (low t (here t ts)) (λ x c. absurd (nothing x c))))
      ∙ from_both (picks_from (taken ++ t ∷ []) left (places ++ k ∷ []) (k + 1) ts) (picks_from taken (left ++ t ∷ []) places (k + 1) ts) kept
      ∙ ap (λ r. followed r (sets_from o next m (picks_from taken (left ++ t ∷ []) places (k + 1) ts))) (cut_adds_none (taken ++ t ∷ []) left (places ++ k ∷ []) (k + 1) ts kept more rest)
      ∙ cut_adds_none taken (left ++ t ∷ []) places (k + 1) ts kept cut rest
    where
      nothing : (x : Term) → Contains [] x → ⊥
      nothing x c = nowhere x c

      one_more : (t : Term) (us : List Term) → IsLow next t → ((x : Term) → Contains us x → IsLow next x) → (x : Term) → Contains (t ∷ us) x → IsLow next x
      one_more t us one others x c = elim (member_cases t x us c) [ inl is ↦ subst (IsLow next) is one | inr d ↦ others x d ]

  -- a set without a unifier
  pub cut_fact : (taken left : List Term) (places : List ℕ) (at : ℕ) (t : Term) (ts : List Term) (kept : Kept) → AreCut o next m (taken ++ t ∷ []) → solve_over o next (each_with m (taken ++ t ∷ [])) ≡ Ok [] →
      ((x : Term) → Contains ts x → IsLow next x) → sets_from o next m (picks_with taken left places at t ts) kept ≡ Ok kept
  cut_fact taken left places at t ts kept cut none low =
      let pick : Pick = record { taken = taken ++ t ∷ []; left = left ++ ts; places = places ++ at ∷ [] } in
      ap (λ r. followed (answered pick r kept) (sets_from o next m (picks_from (taken ++ t ∷ []) left (places ++ at ∷ []) (at + 1) ts))) none
      ∙ cut_adds_none (taken ++ t ∷ []) left (places ++ at ∷ []) (at + 1) ts kept cut low

  -- the next fact, with and without it
  pub next_fact : (taken left : List Term) (places : List ℕ) (facts : List Term) (at : ℕ) (t : Term) (kept : Kept) → slice_get facts at ≡ Some t →
      sets_from o next m (picks_from taken left places at (drop at facts)) kept
      ≡ followed (sets_from o next m (picks_with taken left places at t (drop (at + 1) facts)) kept) (sets_from o next m (picks_from taken (left ++ t ∷ []) places (at + 1) (drop (at + 1) facts)))
  next_fact taken left places facts at t kept there =
      ap (λ ts. sets_from o next m (picks_from taken left places at ts) kept) (dropped facts at t there)
      ∙ from_both (picks_with taken left places at t (drop (at + 1) facts)) (picks_from taken (left ++ t ∷ []) places (at + 1) (drop (at + 1) facts)) kept

-- ## Answers

pub stops : (e : UnifyFail) (r : Result Kept UnifyFail) (f : Kept → Result Kept UnifyFail) → Gives (Err e) r → Gives (Err e) (followed r f)
stops TooMany r f t = ap (λ x. followed x f) t
stops (TooLarge n) r f t = ap (λ x. followed x f) t
stops NoMemory r f t = tt

pub handed : (r : Result Found UnifyFail) (d e : UnifyFail) (x : Result Kept UnifyFail) → r ≡ Err d → d ≡ e → Gives (Err e) x → Gives r x
handed r d e x is same t = subst (λ q. Gives q x) (sym (is ∙ ap Err same)) t

pub stopped : (e : UnifyFail) (pick : Pick) (r : Result (List (List (Variable × Term))) UnifyFail) (k : Kept) → GivesUnifiers (Err e) r → Gives (Err e) (answered pick r k)
stopped TooMany pick r k t = ap (λ x. answered pick x k) t
stopped (TooLarge n) pick r k t = ap (λ x. answered pick x k) t
stopped NoMemory pick r k t = tt

pub answered_some : (pick : Pick) (ss : List (List (Variable × Term))) (k : Kept) → (ss ≡ [] → ⊥) →
    answered pick (Ok ss) k ≡ with_kept (record { places = pick.places; left = pick.left; unifiers = ss }) ss k
answered_some pick [] k some = absurd (some refl)
answered_some pick (s ∷ ss) k some = refl

pub later_low : (next : ℕ) (ts : List Term) (n : ℕ) → ((t : Term) → Contains ts t → IsLow next t) → (t : Term) → Contains (drop n ts) t → IsLow next t
later_low next [] zero low t c = low t c
later_low next [] (suc n) low t c = low t c
later_low next (x ∷ ts) zero low t c = low t c
later_low next (x ∷ ts) (suc n) low t c = later_low next ts n (λ y d. low y (later x y ts d)) t c

module _ (o : Subsorts) (next : ℕ) (m : Term) where
  -- a fact goes on, or stops
  pub passes : (taken left told more : List Term) (places : List ℕ) (facts : List Term) (at : ℕ) (t : Term) (k l : Kept) (whole : Result Kept UnifyFail) → slice_get facts at ≡ Some t → told ≡ left →
      more ≡ left ++ t ∷ [] → sets_from o next m (picks_from taken left places at (drop at facts)) k ≡ whole →
      sets_from o next m (picks_with taken told places at t (drop (at + 1) facts)) k ≡ Ok l →
      sets_from o next m (picks_from taken more places (at + 1) (drop (at + 1) facts)) l ≡ whole
  passes taken left told more places facts at t k l whole there same grown so on =
      let rest = drop (at + 1) facts in
      ap (λ ls. sets_from o next m (picks_from taken ls places (at + 1) rest) l) grown
      ∙ sym (ap (λ r. followed r (sets_from o next m (picks_from taken (left ++ t ∷ []) places (at + 1) rest)))
      (ap (λ ls. sets_from o next m (picks_with taken ls places at t rest) k) (sym same) ∙ on))
      ∙ sym (next_fact o next m taken left places facts at t k there) ∙ so

  pub fails : (taken left told : List Term) (places : List ℕ) (facts : List Term) (at : ℕ) (t : Term) (k : Kept) (e : UnifyFail) (whole : Result Kept UnifyFail) → slice_get facts at ≡ Some t → told ≡ left →
      sets_from o next m (picks_from taken left places at (drop at facts)) k ≡ whole →
      Gives (Err e) (sets_from o next m (picks_with taken told places at t (drop (at + 1) facts)) k) → Gives (Err e) whole
  fails taken left told places facts at t k e whole there same so given =
      let rest = drop (at + 1) facts in
      subst (Gives (Err e)) (sym (next_fact o next m taken left places facts at t k there) ∙ so)
      (stops e (sets_from o next m (picks_with taken left places at t rest) k) (sets_from o next m (picks_from taken (left ++ t ∷ []) places (at + 1) rest))
      (subst (λ ls. Gives (Err e) (sets_from o next m (picks_with taken ls places at t rest) k)) same given))

  -- unification of a fact stops
  pub empties : (taken left : List Term) (places : List ℕ) (facts : List Term) (at : ℕ) (d t : Term) (k : Kept) (e : UnifyFail) → slice_get facts at ≡ Some t →
      GivesUnifiers (Err e) (solve_over o next (each_with m (taken ++ get_or facts at d ∷ []))) → Gives (Err e) (sets_from o next m (picks_with taken left places at t (drop (at + 1) facts)) k)
  empties taken left places facts at d t k e there given =
      let rest = drop (at + 1) facts in
      let pick : Pick = record { taken = taken ++ t ∷ []; left = left ++ rest; places = places ++ at ∷ [] } in
      let is : get_or facts at d ≡ t = get_or_from_slice_get facts at t d there in
      stops e (answered pick (solve_over o next (each_with m (taken ++ t ∷ []))) k) (sets_from o next m (picks_from (taken ++ t ∷ []) left (places ++ at ∷ []) (at + 1) rest))
      (stopped e pick (solve_over o next (each_with m (taken ++ t ∷ []))) k (subst (λ x. GivesUnifiers (Err e) (solve_over o next (each_with m (taken ++ x ∷ [])))) is given))

  -- unification of a fact finds some
  pub finds : (taken left : List Term) (places : List ℕ) (facts : List Term) (at : ℕ) (d t : Term) (k : Kept) (ss : List (List (Variable × Term))) (ps : List ℕ) (rest : List Term) →
      slice_get facts at ≡ Some t → ps ≡ places ++ at ∷ [] → rest ≡ drop (at + 1) facts → (ss ≡ [] → ⊥) → solve_over o next (each_with m (taken ++ get_or facts at d ∷ [])) ≡ Ok ss →
      sets_from o next m (picks_with taken left places at t (drop (at + 1) facts)) k
      ≡ followed (with_kept (record { places = ps; left = left ++ rest; unifiers = ss }) ss k) (sets_from o next m (picks_from (taken ++ t ∷ []) left (places ++ at ∷ []) (at + 1) (drop (at + 1) facts)))
  finds taken left places facts at d t k ss ps rest there placed others some found =
      let behind = drop (at + 1) facts in
      let pick : Pick = record { taken = taken ++ t ∷ []; left = left ++ behind; places = places ++ at ∷ [] } in
      let is : get_or facts at d ≡ t = get_or_from_slice_get facts at t d there in
      let then = sets_from o next m (picks_from (taken ++ t ∷ []) left (places ++ at ∷ []) (at + 1) behind) in
      ap (λ r. followed (answered pick r k) then) (ap (λ x. solve_over o next (each_with m (taken ++ x ∷ []))) (sym is) ∙ found)
      ∙ ap (λ r. followed r then) (answered_some pick ss k some
      ∙ ap (λ qs. with_kept (record { places = qs; left = left ++ behind; unifiers = ss }) ss k) (sym placed)
      ∙ ap (λ (us : List Term). with_kept (record { places = ps; left = left ++ us; unifiers = ss }) ss k) (sym others))

  -- or none
  pub none_found : (taken left : List Term) (places : List ℕ) (facts : List Term) (at : ℕ) (d t : Term) (k : Kept) (ss : List (List (Variable × Term))) → slice_get facts at ≡ Some t →
      ((x : Term) → Contains facts x → IsLow next x) → ss ≡ [] → solve_over o next (each_with m (taken ++ get_or facts at d ∷ [])) ≡ Ok ss → (ss ≡ [] → AreCut o next m (taken ++ get_or facts at d ∷ [])) →
      sets_from o next m (picks_with taken left places at t (drop (at + 1) facts)) k ≡ Ok k
  none_found taken left places facts at d t k ss there low none found cut =
      let is : get_or facts at d ≡ t = get_or_from_slice_get facts at t d there in
      cut_fact o next m taken left places at t (drop (at + 1) facts) k (subst (λ x. AreCut o next m (taken ++ x ∷ [])) is (cut none))
      (ap (λ x. solve_over o next (each_with m (taken ++ x ∷ []))) (sym is) ∙ found ∙ ap Ok none) (later_low next facts (at + 1) low)

-- references to what is taken, and one more
pub taken_more : (taken same more read : List (Bor Term)) (t : Term) → same ≡ taken → seen more ≡ seen same ++ t ∷ [] → read ≡ more → seen read ≡ seen taken ++ t ∷ []
taken_more taken same more read t copied added borrowed = ap seen borrowed ∙ added ∙ ap (λ (ts : List (Bor Term)). seen ts ++ t ∷ []) copied
