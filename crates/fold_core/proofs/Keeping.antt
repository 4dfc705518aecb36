-- What becomes of the entries where an item is kept, and where statuses turn without a retirement.
use Rattle.std.proofs.Common.{◌≡◌, ◌≢◌, ◌⊎◌, inl, inr, ℕ, suc, Bool, true, false, ◌&&◌, cond, List, [], ◌∷◌, length, map, set, refl, ap, sym, ◌∙◌, subst, arith, nat_eq}
use Rattle.std.proofs.lemmas.Bool.Decides.{nat_tests}
use Rattle.fold_core.specs.declared.event.Origin.{Origin}
use Rattle.fold_core.specs.declared.event.Status.TheVariants.{Waiting, Finished, Retired}
use Rattle.fold_core.specs.Rules.{Rules, Lawful}
use Rattle.fold_core.specs.Machine.{Entry, Core, Stands, is_live, is_taken, overtaken, kept}
use Rattle.fold_core.specs.Facts.{Covered, Expanded}
use Rattle.fold_core.proofs.Places.{stands_one, stands_old, stands_new, stands_append, stands_map, stands_unmap, stands_set_same, stands_set_other, stands_unset}

-- The entry of a newly kept item.
abbrev pub fresh : {I : Type 0} → I → Origin → Entry I
fresh x origin = record { item = x; origin = origin; status = Waiting }

-- An entry before and after the item x was kept as entry n: it stays, or it is retired.
pub data Outcome {I : Type 0} (r : Rules I) (x : I) (n tick : ℕ) (e : Entry I) : Entry I → Type 0 where
  was_retired : is_live e.status ≡ false → Outcome r x n tick e e
  stays : is_live e.status ≡ true → r.covers x e.item ≡ false → Outcome r x n tick e e
  goes : is_live e.status ≡ true → r.covers x e.item ≡ true → Outcome r x n tick e (record e { status = Retired n tick (is_taken e.status) })

outcome_by : {I : Type 0} (r : Rules I) (x : I) (n tick : ℕ) (e : Entry I) (live covers : Bool) → is_live e.status ≡ live → r.covers x e.item ≡ covers
    → Outcome r x n tick e (cond (live && covers) (record e { status = Retired n tick (is_taken e.status) }) e)
outcome_by r x n tick e true true p q = goes p q
outcome_by r x n tick e true false p q = stays p q
outcome_by r x n tick e false true p q = was_retired p
outcome_by r x n tick e false false p q = was_retired p

pub outcome : {I : Type 0} (r : Rules I) (x : I) (n tick : ℕ) (e : Entry I) → Outcome r x n tick e (overtaken r x n tick e)
outcome r x n tick e = outcome_by r x n tick e (is_live e.status) (r.covers x e.item) refl refl

pub outcome_item : {I : Type 0} {r : Rules I} {x : I} {n tick : ℕ} {e f : Entry I} → Outcome r x n tick e f → f.item ≡ e.item
outcome_item (was_retired p) = refl
outcome_item (stays p q) = refl
outcome_item (goes p q) = refl

-- What stands at place n once an item is kept: an earlier entry, or the new one.
pub data InKept {I : Type 0} (r : Rules I) (tick : ℕ) (x : I) (origin : Origin) (es : List (Entry I)) (n : ℕ) : Entry I → Type 0 where
  earlier : (e f : Entry I) → Stands es n e → Outcome r x (length es) tick e f → InKept r tick x origin es n f
  newest : n ≡ length es → InKept r tick x origin es n (fresh x origin)

length_mapped : {X Y : Type 0} (f : X → Y) (xs : List X) → length (map f xs) ≡ length xs
length_mapped f [] = refl
length_mapped f (x ∷ xs) = ap suc (length_mapped f xs)

pub in_kept : {I : Type 0} (r : Rules I) (tick : ℕ) (x : I) (origin : Origin) (c : Core I) (n : ℕ) (f : Entry I)
    → Stands (kept r tick x origin c).entries n f → InKept r tick x origin c.entries n f
in_kept r tick x origin c n f s =
    let g = overtaken r x (length c.entries) tick in
    elim (stands_append (map g c.entries) (fresh x origin) n f s) [
      | inl old ↦
          (let u = stands_unmap g c.entries n f old in
          earlier u.0 f u.1 (subst (λ w. Outcome r x (length c.entries) tick u.0 w) (sym u.2) (outcome r x (length c.entries) tick u.0)))
      | inr new ↦ subst (λ w. InKept r tick x origin c.entries n w) (sym new.1) (newest (new.0 ∙ length_mapped g c.entries))
    ]

pub kept_old : {I : Type 0} (r : Rules I) (tick : ℕ) (x : I) (origin : Origin) (c : Core I) {n : ℕ} {e : Entry I}
    → Stands c.entries n e → Stands (kept r tick x origin c).entries n (overtaken r x (length c.entries) tick e)
kept_old r tick x origin c s = stands_old (fresh x origin ∷ []) (stands_map (overtaken r x (length c.entries) tick) s)

pub kept_new : {I : Type 0} (r : Rules I) (tick : ℕ) (x : I) (origin : Origin) (c : Core I)
    → Stands (kept r tick x origin c).entries (length c.entries) (fresh x origin)
kept_new r tick x origin c =
    let g = overtaken r x (length c.entries) tick in
    subst (λ n. Stands (kept r tick x origin c).entries n (fresh x origin)) (length_mapped g c.entries) (stands_new (map g c.entries) (fresh x origin))

-- Where an item is kept, what a live entry covered is covered by a live entry still.
pub covered_kept : {I : Type 0} {r : Rules I} → Lawful r → (tick : ℕ) (x : I) (origin : Origin) (c : Core I) {y : I}
    → Covered r y c.entries → Covered r y (kept r tick x origin c).entries
covered_kept {r = r} law tick x origin c {y = y} old =
    by (outcome r x (length c.entries) tick old.cover.entry) (kept_old r tick x origin c old.cover.stands)
  where
    by : {f : Entry _} → Outcome r x (length c.entries) tick old.cover.entry f → Stands (kept r tick x origin c).entries old.by f → Covered r y (kept r tick x origin c).entries
    by (was_retired p) s = let live = old.cover.live in absurd (cc)
    by (stays p q) s = record { by = old.by; cover = record { entry = old.cover.entry; stands = s; live = p; covers = old.cover.covers } }
    by (goes p q) s = record {
      by = length c.entries;
      cover = record {
        entry = fresh x origin;
        stands = kept_new r tick x origin c;
        live = refl;
        covers = law.transitive x old.cover.entry.item y q old.cover.covers;
      };
    }

-- An entry before and after its status turned: nothing was retired, and what is finished since has
-- its children covered.
pub record Twin {I : Type 0} (r : Rules I) (es : List (Entry I)) (e f : Entry I) : Type 0 where
  pub item : f.item ≡ e.item
  pub origin : f.origin ≡ e.origin
  pub live : is_live f.status ≡ is_live e.status
  pub retired : (to tick : ℕ) (taken : Bool) → f.status ≡ Retired to tick taken → (before : Bool) × (e.status ≡ Retired to tick before)
  pub finished : f.status ≡ Finished → (e.status ≡ Finished) ⊎ Expanded r e.item es

-- The entries after statuses turned.
pub record Turned {I : Type 0} (r : Rules I) (es fs : List (Entry I)) : Type 0 where
  pub forth : (n : ℕ) (e : Entry I) → Stands es n e → (f : Entry I) × Stands fs n f × Twin r es e f
  pub back : (n : ℕ) (f : Entry I) → Stands fs n f → (e : Entry I) × Stands es n e × Twin r es e f

pub twin_same : {I : Type 0} (r : Rules I) (es : List (Entry I)) (e : Entry I) → Twin r es e e
twin_same r es e = record { item = refl; origin = refl; live = refl; retired = λ to tick taken q. (taken, q); finished = λ q. inl q }

same_or_not : (m n : ℕ) → (m ≡ n) ⊎ (m ≢ n)
same_or_not m n = elim (nat_eq m n) as (λ b. nat_eq m n ≡ b → (m ≡ n) ⊎ (m ≢ n)) [ true ↦ λ t. inl (grind (arith, nat_tests)) | false ↦ λ t. inr (λ p. grind (arith, nat_tests)) ] refl

pub set_turned : {I : Type 0} {r : Rules I} {es : List (Entry I)} {n : ℕ} {e f : Entry I} → Stands es n e → Twin r es e f → Turned r es (set es n f)
set_turned {r = r} {es = es} {n = n} {e = e} {f = f} s twin = record {
  forth = λ m d t. elim (same_or_not m n) [
    | inl p ↦ (let here : Stands es n d = subst (λ k. Stands es k d) p t in
        let is : e ≡ d = stands_one s here in
        (f, subst (λ k. Stands (set es n f) k f) (sym p) (stands_set_same f s), subst (λ w. Twin r es w f) is twin))
    | inr q ↦ (d, stands_set_other n f q t, twin_same r es d)
  ];
  back = λ m d t. elim (stands_unset es n f m d t) [
    | inl old ↦ (d, old.1, twin_same r es d)
    | inr new ↦ (e, subst (λ k. Stands es k e) (sym new.0) s, subst (λ w. Twin r es e w) (sym new.1) twin)
  ];
}

pub map_turned : {I : Type 0} {r : Rules I} (es : List (Entry I)) (g : Entry I → Entry I) → ((e : Entry I) → Twin r es e (g e)) → Turned r es (map g es)
map_turned {r = r} es g twins = record {
  forth = λ n e s. (g e, stands_map g s, twins e);
  back = λ n f s. (let u = stands_unmap g es n f s in (u.0, u.1, subst (λ w. Twin r es u.0 w) (sym u.2) (twins u.0)));
}

pub covered_turned : {I : Type 0} {r : Rules I} {es fs : List (Entry I)} {y : I} → Turned r es fs → Covered r y es → Covered r y fs
covered_turned {r = r} {y = y} turned old =
    let f = turned.forth old.by old.cover.entry old.cover.stands in
    record {
      by = old.by;
      cover = record {
        entry = f.0;
        stands = f.1;
        live = f.2.live ∙ old.cover.live;
        covers = subst (λ w. r.covers w y ≡ true) (sym f.2.item) old.cover.covers;
      };
    }
