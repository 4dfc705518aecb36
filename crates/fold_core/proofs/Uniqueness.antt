-- A history leads to one state, and a part of it to one before.
use Rattle.std.proofs.Common.{◌≡◌, ℕ, suc, ◌+◌, ◌<◌, List, [], ◌∷◌, ◌++◌, length, set, take, drop, get_or, refl, ap, sym, ◌∙◌, subst, append_assoc, append-nil, take-append-drop, drop-cons, cond}
use Rattle.std.proofs.lemmas.List.{take_more}
use Rattle.fold_core.specs.declared.event.Placed.{Placed}
use Rattle.fold_core.specs.declared.event.Origin.TheVariants.{Root as FromRoot, Child}
use Rattle.fold_core.specs.declared.event.Status.TheVariants.{Taken}
use Rattle.fold_core.specs.declared.event.Event.{Event}
use Rattle.fold_core.specs.Rules.{Rules}
use Rattle.fold_core.specs.Machine.{is_root, roots_placed, Entry, Core, Stands, placed, empty, Settles, settled, settles, let_go, Step, After, begin, more}
use Rattle.fold_core.specs.Machine.Step.{root, take as takes, insert, finish, halt, reset}
use Rattle.fold_core.proofs.Places.{stands_one}
use Rattle.fold_core.proofs.Histories.{same_children, roots_more}
use Rattle.fold_core.proofs.Inversions.{step_says, next_of}

-- The children of an entry lead to one state.
pub settles_unique : {I : Type 0} {r : Rules I} {tick parent k : ℕ} {xs : List I} {ps : List Placed} {c d e : Core I}
    → Settles r tick parent k xs ps c d → Settles r tick parent k xs ps c e → d ≡ e
settles_unique {r = r} {tick = tick} {parent = parent} (settled k c) other = by other refl
  where
    by : {ys : List _} {qs : List Placed} {e : Core _} → Settles r tick parent k ys qs c e → ys ≡ [] → c ≡ e
    by (settled k c) q = refl
    by (settles k x xs p ps c d a rest) q = absurd (cc)
settles_unique (settles k x xs p ps c d a rest) other = settles_unique rest (next_of other x xs p ps refl refl).rest

abbrev taken_core : {I : Type 0} → Core I → ℕ → Entry I → Core I
taken_core c n e = record c { entries = set c.entries n (record e { status = Taken }) }

abbrev closed_core : {I : Type 0} → Core I → ℕ → Entry I → Core I
closed_core c n e = record c { entries = set c.entries n (record e { status = let_go e.status }); finished = c.finished + 1 }

pub step_unique : {I : Type 0} {r : Rules I} {roots : List I} {budget : ℕ} {before : List Event} {c d e : Core I} {event : Event}
    → Step r roots budget before c event d → Step r roots budget before c event e → d ≡ e
step_unique {r = r} {before = before} {c = c} (root number p x next is) other =
    let s = step_says other in
    ap (λ y. placed r (length before) y (FromRoot number) p c) (stands_one next.root s.next.root) ∙ sym s.after
step_unique {c = c} (takes n e may) other =
    let s = step_says other in
    let now = λ (w : Entry _). taken_core c n w in
    ap now (stands_one may.stands s.may.stands) ∙ sym s.after
step_unique {r = r} {before = before} {c = c} (insert parent child p children x e stands is) other =
    let s = step_says other in
    let list = same_children s.expanding e in
    let item = stands_one stands (subst (λ l. Stands l child s.item) list s.stands) in
    ap (λ y. placed r (length before) y (Child parent child) p c) item ∙ sym s.after
step_unique {r = r} {before = before} {c = c} (finish n ps children d e x settle stands) other =
    let s = step_says other in
    let same = settles_unique settle (subst (λ l. Settles r (length before) n 0 l ps c s.last) (same_children s.expanding x) s.settles) in
    let entry = stands_one (subst (λ w. Stands w.entries n e) same stands) s.stands in
    ap (λ w. closed_core w n e) same ∙ ap (λ w. closed_core s.last n w) entry ∙ sym s.after
step_unique (halt n why free x) other = let s = step_says other in sym s.after
step_unique reset other = let s = step_says other in sym s

-- Two lists with one more at their ends.
same_front : {X : Type 0} (xs ys : List X) (x y : X) → xs ++ x ∷ [] ≡ ys ++ y ∷ [] → (xs ≡ ys) × (x ≡ y)
same_front [] [] x y e = (refl, cc)
same_front [] (w ∷ []) x y e = absurd (cc)
same_front [] (w ∷ v ∷ ys) x y e = absurd (cc)
same_front (z ∷ []) [] x y e = absurd (cc)
same_front (z ∷ u ∷ xs) [] x y e = absurd (cc)
same_front (z ∷ xs) (w ∷ ys) x y e =
    let head : z ≡ w = cc in
    let tail : xs ++ x ∷ [] ≡ ys ++ y ∷ [] = cc in
    let rest = same_front xs ys x y tail in
    let front = rest.0 in
    (cc, rest.1)

not_empty : {X : Type 0} (xs : List X) (x : X) → [] ≡ xs ++ x ∷ [] → ⊥
not_empty [] x e = cc
not_empty (z ∷ xs) x e = cc

joined : {X : Type 0} (xs ys zs : List X) → (xs ++ ys) ++ zs ≡ xs ++ (ys ++ zs)
joined xs ys zs = simp append_assoc

-- The last step of a history.
pub record LastStep {I : Type 0} (r : Rules I) (roots : List I) (budget : ℕ) (before : List Event) (event : Event) (d : Core I) : Type 0 where
  pub core : Core I
  pub after : After r roots budget before core
  pub step : Step r roots budget before core event d

pub last_step : {I : Type 0} {r : Rules I} {roots : List I} {budget : ℕ} {history : List Event} {d : Core I} → After r roots budget history d
    → (before : List Event) (event : Event) → history ≡ before ++ event ∷ [] → LastStep r roots budget before event d
last_step begin before event e = absurd (not_empty before event e)
last_step {r = r} {roots = roots} {budget = budget} (more b c ev d a s) before event e =
    let same = same_front b before ev event e in
    subst (λ w. LastStep r roots budget w event d) same.0 (subst (λ w. LastStep r roots budget b w d) same.1 (record { core = c; after = a; step = s }))

pub one_state : {I : Type 0} {r : Rules I} {roots : List I} {budget : ℕ} {history : List Event} {c d : Core I}
    → After r roots budget history c → After r roots budget history d → c ≡ d
one_state {r = r} {roots = roots} {budget = budget} begin other = by other refl
  where
    by : {h : List Event} {e : Core _} → After r roots budget h e → h ≡ [] → empty ≡ e
    by begin q = refl
    by (more before c event d a s) q = absurd (not_empty before event (sym q))
one_state {r = r} {roots = roots} {budget = budget} {d = e} (more before c event d a s) other =
    let l = last_step other before event refl in
    let same = one_state a l.after in
    step_unique s (subst (λ w. Step r roots budget before w event e) (sym same) l.step)

-- A list is empty, or has a last element.
data EndsIn {X : Type 0} : List X → Type 0 where
  nothing : EndsIn []
  last : (xs : List X) (x : X) → EndsIn (xs ++ x ∷ [])

end_of : {X : Type 0} (xs : List X) → EndsIn xs
end_of [] = nothing
end_of (x ∷ xs) = by (end_of xs)
  where
    by : {ys : List _} → EndsIn ys → EndsIn (x ∷ ys)
    by nothing = last [] x
    by (last ys y) = last (x ∷ ys) y

-- Each part of a history from its beginning leads to a state.
pub record Reached {I : Type 0} (r : Rules I) (roots : List I) (budget : ℕ) (history : List Event) : Type 0 where
  pub core : Core I
  pub after : After r roots budget history core

pub reached_part : {I : Type 0} {r : Rules I} {roots : List I} {budget : ℕ} {history : List Event} {c : Core I} → After r roots budget history c
    → (xs ys : List Event) → history ≡ xs ++ ys → Reached r roots budget xs
reached_part begin [] ys e = record { core = empty; after = begin }
reached_part begin (x ∷ xs) ys e = absurd (cc)
reached_part {r = r} {roots = roots} {budget = budget} (more before c event d a s) xs ys e =
    by (λ zs q. reached_part a xs zs q) (end_of ys) e
  where
    by : {zs : List Event} → ((ws : List Event) → before ≡ xs ++ ws → Reached r roots budget xs) → EndsIn zs → before ++ event ∷ [] ≡ xs ++ zs → Reached r roots budget xs
    by earlier nothing q = subst (λ w. Reached r roots budget w) (q ∙ append-nil xs) (record { core = d; after = more before c event d a s })
    by earlier (last ws w) q = earlier ws (same_front before (xs ++ ws) event w (q ∙ sym (joined xs ws (w ∷ [])))).0

-- Where the next event isn't allowed, no history that goes on with it is.
pub refused_after : {I : Type 0} {r : Rules I} {roots : List I} {budget : ℕ} (history : List Event) (k : ℕ) (event : Event) (c : Core I)
    → event ≡ get_or history k event → k < length history
    → After r roots budget (take k history) c → ((d : Core I) → Step r roots budget (take k history) c event d → ⊥)
    → (d : Core I) → After r roots budget history d → ⊥
refused_after {r = r} {roots = roots} {budget = budget} history k event c is within a none d all =
    let front = take k history in
    let rest = drop (suc k) history in
    let next : drop k history ≡ event ∷ rest = drop-cons history k event within ∙ ap (λ w. w ∷ rest) (sym is) in
    let parts : history ≡ (front ++ event ∷ []) ++ rest =
    sym (take-append-drop k history) ∙ ap (λ w. front ++ w) next ∙ sym (joined front (event ∷ []) rest) in
    let part = reached_part all (front ++ event ∷ []) rest parts in
    let l = last_step part.after front event refl in
    none part.core (subst (λ w. Step r roots budget front w event part.core) (one_state l.after a) l.step)

-- A history with the next event.
pub after_next : {I : Type 0} {r : Rules I} {roots : List I} {budget : ℕ} (history : List Event) (k : ℕ) (event : Event) (c d : Core I)
    → event ≡ get_or history k event → k < length history
    → After r roots budget (take k history) c → Step r roots budget (take k history) c event d → After r roots budget (take (k + 1) history) d
after_next {r = r} {roots = roots} {budget = budget} history k event c d is within a s =
    let next : take (k + 1) history ≡ take k history ++ event ∷ [] = take_more history k event within ∙ ap (λ w. take k history ++ w ∷ []) (sym is) in
    subst (λ w. After r roots budget w d) (sym next) (more (take k history) c event d a s)

pub roots_next : (history : List Event) (k : ℕ) (event : Event) → event ≡ get_or history k event → k < length history
    → roots_placed (take (k + 1) history) ≡ roots_placed (take k history) + cond (is_root event) 1 0
roots_next history k event is within =
    let next : take (k + 1) history ≡ take k history ++ event ∷ [] = take_more history k event within ∙ ap (λ w. take k history ++ w ∷ []) (sym is) in
    ap (λ w. roots_placed w) next ∙ roots_more (take k history) event
