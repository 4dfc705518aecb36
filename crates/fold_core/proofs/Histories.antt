-- Chains, what is found and what is done, from the facts on entries.
use Rattle.std.proofs.Common.{◌≡◌, ◌⊎◌, inl, inr, ℕ, zero, suc, ◌+◌, ◌<◌, ◌≤◌, Bool, true, false, cond, List, [], ◌∷◌, ◌++◌, length, map, set, None, Some, Ok, refl, ap, sym, ◌∙◌, subst, arith}
use Rattle.std.specs.List.{position_from}
use Rattle.std.proofs.lemmas.List.Sums.{sum_by_push}
use Rattle.fold_core.specs.declared.event.Placed.{Placed}
use Rattle.fold_core.specs.declared.event.Placed.TheVariants.{Kept, Folded}
use Rattle.fold_core.specs.declared.event.Origin.{Origin}
use Rattle.fold_core.specs.declared.event.Origin.TheVariants.{Root as FromRoot, Child}
use Rattle.fold_core.specs.declared.event.Status.{Status}
use Rattle.fold_core.specs.declared.event.Status.TheVariants.{Waiting, Taken, Finished, Retired}
use Rattle.fold_core.specs.declared.event.Event.{Event}
use Rattle.fold_core.specs.declared.event.Event.TheVariants.{Root, Take, Insert, Finish, Halt, Reset}
use Rattle.fold_core.specs.Rules.{Rules, Lawful}
use Rattle.fold_core.specs.Machine.{Entry, Core, Stands, is_live, is_root, first_found, overtaken, kept, placed, Accepts, Settles, settled, settles, Expanding, put_back_entry, roots_placed, Step, root, take, insert, finish, halt, reset, After, begin, more}
use Rattle.fold_core.specs.Facts.{Covered, Pointers, ends, follows, Chained, Chains, FindsInitial, Folds, FoldsInitial, DoneIsClosed}
use Rattle.fold_core.specs.Facts.Folds.{root as folds_root, insert as folds_insert, finish as folds_finish}
use Rattle.fold_core.proofs.Places.{stands_one, stands_within, position_none}
use Rattle.fold_core.proofs.Keeping.{fresh, outcome, outcome_item, covered_kept, Turned, covered_turned}
use Rattle.fold_core.proofs.Soundness.{Sound}
use Rattle.fold_core.proofs.Stepping.{accepts_place, placed_covered, placed_keeps, settles_keeps, ItemAt, item_kept, take_turned, finish_turned, reset_turned, sound_after}

-- A chain of pointers ends, since each goes to a later entry.
chain_from : {I : Type 0} {r : Rules I} → Lawful r → (es : List (Entry I)) → Pointers r es
    → (left n : ℕ) (e : Entry I) → length es ≤ n + left → Stands es n e → Chained r es n e.item
chain_from law es pointers zero n e short s = absurd (let h = stands_within s in omega arith)
chain_from {r = r} law es pointers (suc left) n e short s =
    by (λ m f near t. chain_from law es pointers left m f near t) e.status refl
  where
    here : is_live e.status ≡ true → Chained r es n e.item
    here live = record { last = n; leads = ends n e s live; cover = record { entry = e; stands = s; live = live; covers = law.reflexive e.item } }

    by : ((m : ℕ) (f : Entry _) → length es ≤ m + left → Stands es m f → Chained r es m f.item) → (t : Status) → e.status ≡ t → Chained r es n e.item
    by later Waiting q = here (ap is_live q)
    by later Taken q = here (ap is_live q)
    by later Finished q = here (ap is_live q)
    by later (Retired to tick taken) q =
        let p = pointers n e to tick taken s q in
        let on = later to p.target (let h = p.later in omega arith) p.stands in
        record {
          last = on.last;
          leads = follows n on.last e to tick taken s q on.leads;
          cover = record {
            entry = on.cover.entry;
            stands = on.cover.stands;
            live = on.cover.live;
            covers = law.transitive on.cover.entry.item p.target.item e.item on.cover.covers p.covers;
          };
        }

pub chains_of : {I : Type 0} {r : Rules I} {es : List (Entry I)} → Lawful r → Pointers r es → Chains r es
chains_of {es = es} law pointers n e s = chain_from law es pointers (length es) n e (omega arith) s

-- Where the first that passes stands: in a longer list, a mapped list and a list with one set.
position_more : {X : Type 0} (p : X → Bool) (i : ℕ) (xs : List X) (y : X) (n : ℕ) → n ≡ i + length xs
    → position_from p i (xs ++ y ∷ []) ≡ first_found (position_from p i xs) (p y) n
position_more p i [] y n e = by (p y)
  where
    by : (b : Bool) → cond b (Some i) None ≡ first_found None b n
    by true = let q : i ≡ n = omega arith in cc
    by false = refl
position_more p i (x ∷ xs) y n e =
    by (p x) (position_more p (i + 1) xs y n (omega arith))
  where
    by : (b : Bool) → position_from p (i + 1) (xs ++ y ∷ []) ≡ first_found (position_from p (i + 1) xs) (p y) n
        → cond b (Some i) (position_from p (i + 1) (xs ++ y ∷ [])) ≡ first_found (cond b (Some i) (position_from p (i + 1) xs)) (p y) n
    by true q = refl
    by false q = q

position_map : {X : Type 0} (p : X → Bool) (g : X → X) → ((x : X) → p (g x) ≡ p x) → (i : ℕ) (xs : List X) → position_from p i (map g xs) ≡ position_from p i xs
position_map p g same i [] = refl
position_map p g same i (x ∷ xs) =
    ap (λ b. cond b (Some i) (position_from p (i + 1) (map g xs))) (same x) ∙ ap (λ o. cond (p x) (Some i) o) (position_map p g same (i + 1) xs)

position_set : {X : Type 0} (p : X → Bool) (i : ℕ) (xs : List X) (n : ℕ) (x y : X) → Stands xs n x → p y ≡ p x → position_from p i (set xs n y) ≡ position_from p i xs
position_set p i [] n x y s same = refl
position_set p i (z ∷ xs) zero x y s same =
    let e = s.is in
    let is : x ≡ z = cc in
    ap (λ b. cond b (Some i) (position_from p (i + 1) xs)) (same ∙ ap p is)
position_set p i (z ∷ xs) (suc n) x y s same = ap (λ o. cond (p z) (Some i) o) (position_set p (i + 1) xs n x y (record { is = s.is }) same)

-- Found is the first initial entry.
abbrev pub is_initial : {I : Type 0} → Rules I → Entry I → Bool
is_initial r e = r.initial e.item

found_kept : {I : Type 0} (r : Rules I) (tick : ℕ) (x : I) (origin : Origin) (c : Core I) → FindsInitial r c → FindsInitial r (kept r tick x origin c)
found_kept r tick x origin c old =
    let g = overtaken r x (length c.entries) tick in
    let same = λ (e : Entry _). ap r.initial (outcome_item (outcome r x (length c.entries) tick e)) in
    let mapped = position_map (is_initial r) g same 0 c.entries in
    let grown = position_more (is_initial r) 0 (map g c.entries) (fresh x origin) (length c.entries) (omega (arith, length_mapped g c.entries)) in
    record { first = ap (λ o. first_found o (r.initial x) (length c.entries)) (old.first ∙ sym mapped) ∙ sym grown }
  where
    length_mapped : {X Y : Type 0} (f : X → Y) (xs : List X) → length (map f xs) ≡ length xs
    length_mapped f [] = refl
    length_mapped f (x ∷ xs) = ap suc (length_mapped f xs)

found_step : {I : Type 0} {r : Rules I} {roots : List I} {budget : ℕ} {before : List Event} {c d : Core I} {event : Event}
    → Step r roots budget before c event d → FindsInitial r c → FindsInitial r d
found_step {r = r} {before = before} {c = c} (root number p x next is) old = placed_keeps r (length before) (FindsInitial r) (found_kept r (length before)) x (FromRoot number) p c old
found_step {r = r} {c = c} (take n e may) old = record { first = old.first ∙ sym (position_set (is_initial r) 0 c.entries n e (record e { status = Taken }) may.stands refl) }
found_step {r = r} {before = before} {c = c} (insert parent child p children x e s is) old = placed_keeps r (length before) (FindsInitial r) (found_kept r (length before)) x (Child parent child) p c old
found_step {r = r} {before = before} (finish n ps children d e x s t) old =
    let last = settles_keeps (FindsInitial r) (found_kept r (length before)) s old in
    record { first = last.first ∙ sym (position_set (is_initial r) 0 d.entries n e _ t refl) }
found_step (halt n why free x) old = record { first = old.first }
found_step {r = r} {c = c} reset old = record { first = old.first ∙ sym (position_map (is_initial r) put_back_entry (λ e. refl) 0 c.entries) }

pub found_after : {I : Type 0} {r : Rules I} {roots : List I} {budget : ℕ} {history : List Event} {c : Core I} → After r roots budget history c → FindsInitial r c
found_after begin = record { first = refl }
found_after (more before c event d a step) = found_step step (found_after a)

-- What is covered stays covered.
pub covered_step : {I : Type 0} {r : Rules I} {roots : List I} {budget : ℕ} {before : List Event} {c d : Core I} {event : Event} → Lawful r
    → (y : I) → Sound r roots (length before) c.entries → Step r roots budget before c event d → Covered r y c.entries → Covered r y d.entries
covered_step {r = r} {before = before} {c = c} law y sound (root number p x next is) old =
    placed_keeps r (length before) (λ w. Covered r y w.entries) (λ u o w q. covered_kept law (length before) u o w q) x (FromRoot number) p c old
covered_step {r = r} law y sound (take n e may) old = covered_turned (take_turned r may) old
covered_step {r = r} {before = before} {c = c} law y sound (insert parent child p children x e s is) old =
    placed_keeps r (length before) (λ w. Covered r y w.entries) (λ u o w q. covered_kept law (length before) u o w q) x (Child parent child) p c old
covered_step {r = r} {roots = roots} {before = before} law y sound (finish n ps children d e x s t) old =
    covered_turned (finish_turned law roots x s t sound) (settles_keeps (λ w. Covered r y w.entries) (λ u o w q. covered_kept law (length before) u o w q) s old)
covered_step law y sound (halt n why free x) old = old
covered_step {r = r} {c = c} law y sound reset old = covered_turned (reset_turned r c.entries) old

-- An entry's item stays.
item_turned : {I : Type 0} {r : Rules I} {n : ℕ} {y : I} {c d : Core I} → Turned r c.entries d.entries → ItemAt n y c → ItemAt n y d
item_turned {n = n} turned old =
    let f = turned.forth n old.entry old.stands in
    record { entry = f.0; stands = f.1; item_is = f.2.item ∙ old.item_is }

-- Each root that was placed is covered.
pub record RootsCovered {I : Type 0} (r : Rules I) (roots : List I) (history : List Event) (es : List (Entry I)) : Type 0 where
  pub covered : (number : ℕ) (x : I) → number < roots_placed history → Stands roots number x → Covered r x es

pub roots_more : (before : List Event) (event : Event) → roots_placed (before ++ event ∷ []) ≡ roots_placed before + cond (is_root event) 1 0
roots_more before event = sum_by_push (λ e. cond (is_root e) 1 0) before event

-- Any other event places no root.
roots_still : {I : Type 0} {r : Rules I} {roots : List I} (before : List Event) (event : Event) {es fs : List (Entry I)} → is_root event ≡ false
    → ((y : I) → Covered r y es → Covered r y fs) → RootsCovered r roots before es → RootsCovered r roots (before ++ event ∷ []) fs
roots_still before event other keeps old = record {
  covered = λ number x early s.
      (let same : roots_placed (before ++ event ∷ []) ≡ roots_placed before + 0 = roots_more before event ∙ ap (λ b. roots_placed before + cond b 1 0) other in
      keeps x (old.covered number x (omega arith) s));
}

before_or_at : (k n : ℕ) → k < n + 1 → (k < n) ⊎ (k ≡ n)
before_or_at k n h = grind arith

roots_step : {I : Type 0} {r : Rules I} {roots : List I} {budget : ℕ} {before : List Event} {c d : Core I} {event : Event} → Lawful r
    → ((y : I) → Covered r y c.entries → Covered r y d.entries) → Step r roots budget before c event d
    → RootsCovered r roots before c.entries → RootsCovered r roots (before ++ event ∷ []) d.entries
roots_step {r = r} {roots = roots} {before = before} {c = c} law keeps (root number p x next is) old = record {
  covered =
      λ k y early s.
      (let last : roots_placed (before ++ Root number p ∷ []) ≡ roots_placed before + 1 = roots_more before (Root number p) in
      let next_is = next.next in
      let now : k < roots_placed before + 1 = subst (λ m. k < m) last early in
      elim (before_or_at k (roots_placed before) now) [
        | inl was ↦ keeps y (old.covered k y was s)
        | inr at ↦
            (let same : number ≡ k = omega arith in
            let here : Stands roots k x = subst (λ m. Stands roots m x) same next.root in
            subst (λ w. Covered r w (placed r (length before) x (FromRoot number) p c).entries) (stands_one here s)
            (placed_covered law (length before) x (FromRoot number) p c (accepts_place r x p c is)))
      ]);
}
roots_step {before = before} law keeps (take n e may) old = roots_still before (Take n) refl keeps old
roots_step {before = before} law keeps (insert parent child p children x e s is) old = roots_still before (Insert parent child p) refl keeps old
roots_step {before = before} law keeps (finish n ps children d e x s t) old = roots_still before (Finish n ps) refl keeps old
roots_step {before = before} law keeps (halt n why free x) old = roots_still before (Halt n why) refl keeps old
roots_step {before = before} law keeps reset old = roots_still before Reset refl keeps old

roots_after : {I : Type 0} {r : Rules I} {roots : List I} {budget : ℕ} {history : List Event} {c : Core I} → Lawful r
    → After r roots budget history c → RootsCovered r roots history c.entries
roots_after law begin = record { covered = λ number x early s. absurd (omega arith) }
roots_after law (more before c event d a step) = roots_step law (λ y q. covered_step law y (sound_after law a) step q) step (roots_after law a)

pub done_after : {I : Type 0} {r : Rules I} {roots : List I} {budget : ℕ} {history : List Event} {c : Core I} → Lawful r
    → After r roots budget history c → DoneIsClosed r roots history c
done_after {r = r} {roots = roots} {history = history} {c = c} law a done = record {
  roots_covered = λ number x s.
      (let early : number < roots_placed history = (let w = stands_within s in let p = done.placed in omega arith) in
      (roots_after law a).covered number x early s);
  children_covered = λ n e s live. (sound_after law a).handled n e s (done.finished n e s live);
  none_initial = λ n e s live.
      position_none (is_initial r) 0 c.entries (sym (found_after a).first ∙ done.not_found) n e s;
}

-- An item that is folded is covered by the item of the entry that it is folded into.
pub record FoldedInto {I : Type 0} (r : Rules I) (n : ℕ) (x : I) (d : Core I) : Type 0 where
  pub item : I
  pub at : ItemAt n item d
  pub covers : r.covers item x ≡ true

folded_placed : {I : Type 0} (r : Rules I) (tick : ℕ) (x : I) (origin : Origin) (p : Placed) (n : ℕ) (c : Core I) → p ≡ Folded n
    → Accepts r x p c → FoldedInto r n x (placed r tick x origin p c)
folded_placed r tick x origin (Kept m) n c e a = absurd (cc)
folded_placed r tick x origin (Folded m) n c e a =
    let same : m ≡ n = cc in
    record { item = a.entry.item; at = record { entry = a.entry; stands = subst (λ k. Stands c.entries k a.entry) same a.stands; item_is = refl }; covers = a.covers }

folded_keeps : {I : Type 0} {r : Rules I} {tick parent k n : ℕ} {x : I} {xs : List I} {ps : List Placed} {c d : Core I}
    → Settles r tick parent k xs ps c d → FoldedInto r n x c → FoldedInto r n x d
folded_keeps {r = r} {tick = tick} {n = n} s old = record { item = old.item; at = settles_keeps (ItemAt n old.item) (item_kept r tick) s old.at; covers = old.covers }

settles_folds : {I : Type 0} {r : Rules I} {tick parent k : ℕ} {xs : List I} {ps : List Placed} {c d : Core I} → (j : ℕ) (x : I) (n : ℕ)
    → Settles r tick parent k xs ps c d → Stands xs j x → Stands ps j (Folded n) → FoldedInto r n x d
settles_folds j x n (settled k c) s t = absurd (let e = s.is in cc)
settles_folds {r = r} {tick = tick} {parent = parent} zero x n (settles k y ys p ps c d a rest) s t =
    let e = s.is in
    let f = t.is in
    let item : y ≡ x = cc in
    let place : p ≡ Folded n = cc in
    subst (λ w. FoldedInto r n w d) item (folded_keeps rest (folded_placed r tick y (Child parent k) p n c place a))
settles_folds (suc j) x n (settles k y ys p ps c d a rest) s t = settles_folds j x n rest (record { is = s.is }) (record { is = t.is })

-- Both expansions of one entry are the same list.
pub same_children : {I : Type 0} {r : Rules I} {n : ℕ} {xs ys : List I} {c : Core I} → Expanding r n xs c → Expanding r n ys c → xs ≡ ys
same_children {r = r} {ys = ys} a b =
    let same = stands_one a.stands b.stands in
    let e = subst (λ w. r.expansion w.item ≡ Ok ys) (sym same) b.expands in
    let f = a.expands in
    cc

folded_step : {I : Type 0} {r : Rules I} {roots : List I} {budget : ℕ} {before : List Event} {c d : Core I} {event other : Event} → Lawful r → (x : I) (n : ℕ)
    → Sound r roots (length before) c.entries → Step r roots budget before c event d → event ≡ other → Folds r roots c other x n → FoldedInto r n x d
folded_step {r = r} {roots = roots} {before = before} {c = c} law x n sound (root number p y next is) same (folds_root number' x' n' s) =
    let at : number' ≡ number = cc in
    let place : p ≡ Folded n' = cc in
    let item = stands_one next.root (subst (λ k. Stands roots k x') at s) in
    subst (λ w. FoldedInto r n' w (placed r (length before) y (FromRoot number) p c)) item
    (folded_placed r (length before) y (FromRoot number) p n' c place (accepts_place r y p c is))
folded_step law x n sound (root number p y next is) same (folds_insert parent child children x' n' e s) = absurd (cc)
folded_step law x n sound (root number p y next is) same (folds_finish entry places children k x' n' e s t) = absurd (cc)
folded_step law x n sound (take m e may) same (folds_root number' x' n' s) = absurd (cc)
folded_step law x n sound (take m e may) same (folds_insert parent child children x' n' e' s) = absurd (cc)
folded_step law x n sound (take m e may) same (folds_finish entry places children k x' n' e' s t) = absurd (cc)
folded_step law x n sound (insert parent child p children y e s is) same (folds_root number' x' n' s') = absurd (cc)
folded_step {r = r} {before = before} {c = c} law x n sound (insert parent child p children y e s is) same (folds_insert parent' child' children' x' n' e' s') =
    let up : parent' ≡ parent = cc in
    let down : child' ≡ child = cc in
    let place : p ≡ Folded n' = cc in
    let list = same_children (subst (λ k. Expanding r k children' c) up e') e in
    let item = stands_one s (subst (λ k. Stands children k x') down (subst (λ l. Stands l child' x') list s')) in
    subst (λ w. FoldedInto r n' w (placed r (length before) y (Child parent child) p c)) item
    (folded_placed r (length before) y (Child parent child) p n' c place (accepts_place r y p c is))
folded_step law x n sound (insert parent child p children y e s is) same (folds_finish entry places children' k x' n' e' s' t) = absurd (cc)
folded_step law x n sound (finish m ps children d e y s t) same (folds_root number' x' n' s') = absurd (cc)
folded_step law x n sound (finish m ps children d e y s t) same (folds_insert parent' child' children' x' n' e' s') = absurd (cc)
folded_step {r = r} {roots = roots} {c = c} law x n sound (finish m ps children d e y s t) same (folds_finish entry places children' k x' n' e' s' t') =
    let at : entry ≡ m = cc in
    let lists : places ≡ ps = cc in
    let list = same_children (subst (λ w. Expanding r w children' c) at e') y in
    let folded = settles_folds k x' n' s (subst (λ l. Stands l k x') list s') (subst (λ l. Stands l k (Folded n')) lists t') in
    record { item = folded.item; at = item_turned (finish_turned law roots y s t sound) folded.at; covers = folded.covers }
folded_step law x n sound (halt m why free y) same (folds_root number' x' n' s) = absurd (cc)
folded_step law x n sound (halt m why free y) same (folds_insert parent child children x' n' e s) = absurd (cc)
folded_step law x n sound (halt m why free y) same (folds_finish entry places children k x' n' e s t) = absurd (cc)
folded_step law x n sound reset same (folds_root number' x' n' s) = absurd (cc)
folded_step law x n sound reset same (folds_insert parent child children x' n' e s) = absurd (cc)
folded_step law x n sound reset same (folds_finish entry places children k x' n' e s t) = absurd (cc)

pub folds_initial : {I : Type 0} {r : Rules I} → Lawful r → FoldsInitial r
folds_initial {r = r} law roots budget before event c d x n a step folds initial =
    let f = folded_step law x n (sound_after law a) step refl folds in
    record { entry = f.at.entry; stands = f.at.stands; initial = subst (λ w. r.initial w ≡ true) (sym f.at.item_is) (law.starts f.item x f.covers initial) }
