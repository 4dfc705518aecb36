-- The facts on entries alone, kept by each change of the entries.
use Rattle.std.proofs.Common.{◌≡◌, inl, inr, ℕ, ◌≤◌, Bool, true, List, length, Ok, sym, ◌∙◌, subst, arith}
use Rattle.fold_core.specs.declared.event.Origin.{Origin}
use Rattle.fold_core.specs.declared.event.Origin.TheVariants.{Root as FromRoot, Child}
use Rattle.fold_core.specs.declared.event.Status.TheVariants.{Finished, Retired}
use Rattle.fold_core.specs.Rules.{Rules, Lawful}
use Rattle.fold_core.specs.Machine.{Entry, Core, Stands, is_live, is_taken, overtaken, kept}
use Rattle.fold_core.specs.Facts.{Expanded, Points, Pointers, NoDouble, Springs, Origins, Handled}
use Rattle.fold_core.proofs.Places.{stands_within}
use Rattle.fold_core.proofs.Keeping.{fresh, Outcome, was_retired, stays, goes, outcome, outcome_item, InKept, earlier, newest, in_kept, kept_old, kept_new, covered_kept, Turned, covered_turned}

-- No live entry covers the item.
pub record Uncovered {I : Type 0} (r : Rules I) (x : I) (es : List (Entry I)) : Type 0 where
  pub none : (n : ℕ) (e : Entry I) → Stands es n e → is_live e.status ≡ true → r.covers e.item x ≡ true → ⊥

-- Each entry was retired at this tick or before, and points as it should.
abbrev pub PointersBy : {I : Type 0} → Rules I → ℕ → List (Entry I) → Type 0
PointersBy r now es = (n : ℕ) (e : Entry _) (to tick : ℕ) (taken : Bool) → Stands es n e → e.status ≡ Retired to tick taken → (tick ≤ now) × Points r es n e.item to tick

pub record Sound {I : Type 0} (r : Rules I) (roots : List I) (now : ℕ) (es : List (Entry I)) : Type 0 where
  pub pointers : PointersBy r now es
  pub no_double : NoDouble r es
  pub origins : Origins r roots es
  pub handled : Handled r es

-- an entry's target stays one where an item is kept
points_kept : {I : Type 0} (r : Rules I) (now : ℕ) (x : I) (origin : Origin) (c : Core I) (n : ℕ) (y : I) (to tick : ℕ)
    → tick ≤ now → Points r c.entries n y to tick → Points r (kept r now x origin c).entries n y to tick
points_kept r now x origin c n y to tick early old =
    by (outcome r x (length c.entries) now old.target) (kept_old r now x origin c old.stands)
  where
    by : {f : Entry _} → Outcome r x (length c.entries) now old.target f → Stands (kept r now x origin c).entries to f → Points r (kept r now x origin c).entries n y to tick
    by (was_retired p) s = record { target = old.target; stands = s; later = old.later; covers = old.covers; since = old.since }
    by (stays p q) s = record { target = old.target; stands = s; later = old.later; covers = old.covers; since = old.since }
    by (goes p q) s = record {
      target = record old.target { status = Retired (length c.entries) now (is_taken old.target.status) };
      stands = s;
      later = old.later;
      covers = old.covers;
      since = λ next since taken e. let same : now ≡ since = cc in subst (λ w. tick ≤ w) same early;
    }

pointers_kept : {I : Type 0} (r : Rules I) (now : ℕ) (x : I) (origin : Origin) (c : Core I) → PointersBy r now c.entries → PointersBy r now (kept r now x origin c).entries
pointers_kept r now x origin c old n f to tick taken s e = by (in_kept r now x origin c n f s) e
  where
    was : {d f : Entry _} → Stands c.entries n d → Outcome r x (length c.entries) now d f → f.status ≡ Retired to tick taken → (tick ≤ now) × Points r (kept r now x origin c).entries n f.item to tick
    was {d = d} t (was_retired p) q = let o = old n d to tick taken t q in (o.0, points_kept r now x origin c n d.item to tick o.0 o.1)
    was {d = d} t (stays p u) q = let o = old n d to tick taken t q in (o.0, points_kept r now x origin c n d.item to tick o.0 o.1)
    was {d = d} t (goes p u) q =
        let at : length c.entries ≡ to = cc in
        let tick_is : now ≡ tick = cc in
        let within = stands_within t in (
          omega arith,
          record {
            target = fresh x origin;
            stands = subst (λ w. Stands (kept r now x origin c).entries w (fresh x origin)) at (kept_new r now x origin c);
            later = omega arith;
            covers = u;
            since = λ next since taken' wrong. absurd (cc);
          },
        )

    by : {f : Entry _} → InKept r now x origin c.entries n f → f.status ≡ Retired to tick taken → (tick ≤ now) × Points r (kept r now x origin c).entries n f.item to tick
    by (earlier d f t o) q = was t o q
    by (newest p) q = absurd (cc)

no_double_kept : {I : Type 0} (r : Rules I) (now : ℕ) (x : I) (origin : Origin) (c : Core I) → Uncovered r x c.entries → NoDouble r c.entries → NoDouble r (kept r now x origin c).entries
no_double_kept r now x origin c lone old m n d e s t live_d live_e covers =
    by (in_kept r now x origin c m d s) (in_kept r now x origin c n e t) live_d live_e covers
  where
    both : {a b f g : Entry _} → Stands c.entries m a → Stands c.entries n b → Outcome r x (length c.entries) now a f → Outcome r x (length c.entries) now b g
        → is_live f.status ≡ true → is_live g.status ≡ true → r.covers f.item g.item ≡ true → m ≡ n
    both s t (was_retired p) o u v w = absurd (cc)
    both s t (goes p q) o u v w = absurd (cc)
    both s t (stays p q) (was_retired p') u v w = absurd (cc)
    both s t (stays p q) (goes p' q') u v w = absurd (cc)
    both {a = a} {b = b} s t (stays p q) (stays p' q') u v w = old m n a b s t p p' w

    over : {a f : Entry _} → Stands c.entries m a → Outcome r x (length c.entries) now a f → is_live f.status ≡ true → r.covers f.item x ≡ true → ⊥
    over s (was_retired p) u w = cc
    over s (goes p q) u w = cc
    over {a = a} s (stays p q) u w = lone.none m a s p w

    under : {b g : Entry _} → Outcome r x (length c.entries) now b g → is_live g.status ≡ true → r.covers x g.item ≡ true → ⊥
    under (was_retired p) v w = cc
    under (goes p q) v w = cc
    under (stays p q) v w = cc

    by : {f g : Entry _} → InKept r now x origin c.entries m f → InKept r now x origin c.entries n g
        → is_live f.status ≡ true → is_live g.status ≡ true → r.covers f.item g.item ≡ true → m ≡ n
    by (earlier a f s o) (earlier b g t o') u v w = both s t o o' u v w
    by (earlier a f s o) (newest q) u v w = absurd (over s o u w)
    by (newest p) (earlier b g t o) u v w = absurd (under o v w)
    by (newest p) (newest q) u v w = p ∙ sym q

pub springs_kept : {I : Type 0} (r : Rules I) (roots : List I) (now : ℕ) (x : I) (origin : Origin) (c : Core I) (n : ℕ) (y : I) (o : Origin)
    → Springs r roots c.entries n y o → Springs r roots (kept r now x origin c).entries n y o
springs_kept r roots now x origin c n y (FromRoot number) s = s
springs_kept r roots now x origin c n y (Child parent child) s = record {
  entry = overtaken r x (length c.entries) now s.entry;
  stands = kept_old r now x origin c s.stands;
  earlier = s.earlier;
  children = s.children;
  expands = subst (λ w. r.expansion w ≡ Ok s.children) (sym (outcome_item (outcome r x (length c.entries) now s.entry))) s.expands;
  is_child = s.is_child;
}

origins_kept : {I : Type 0} (r : Rules I) (roots : List I) (now : ℕ) (x : I) (origin : Origin) (c : Core I)
    → Springs r roots c.entries (length c.entries) x origin → Origins r roots c.entries → Origins r roots (kept r now x origin c).entries
origins_kept r roots now x origin c new old n f s = by (in_kept r now x origin c n f s)
  where
    was : {d f : Entry _} → Stands c.entries n d → Outcome r x (length c.entries) now d f → Springs r roots (kept r now x origin c).entries n f.item f.origin
    was {d = d} t (was_retired p) = springs_kept r roots now x origin c n d.item d.origin (old n d t)
    was {d = d} t (stays p q) = springs_kept r roots now x origin c n d.item d.origin (old n d t)
    was {d = d} t (goes p q) = springs_kept r roots now x origin c n d.item d.origin (old n d t)

    by : {f : Entry _} → InKept r now x origin c.entries n f → Springs r roots (kept r now x origin c).entries n f.item f.origin
    by (earlier d f t o) = was t o
    by (newest p) = subst (λ k. Springs r roots (kept r now x origin c).entries k x origin) (sym p) (springs_kept r roots now x origin c (length c.entries) x origin new)

pub expanded_kept : {I : Type 0} {r : Rules I} → Lawful r → (now : ℕ) (x : I) (origin : Origin) (c : Core I) {y : I}
    → Expanded r y c.entries → Expanded r y (kept r now x origin c).entries
expanded_kept law now x origin c old = record {
  children = old.children;
  expands = old.expands;
  covered = λ k child s. covered_kept law now x origin c (old.covered k child s);
}

handled_kept : {I : Type 0} {r : Rules I} → Lawful r → (now : ℕ) (x : I) (origin : Origin) (c : Core I) → Handled r c.entries → Handled r (kept r now x origin c).entries
handled_kept {r = r} law now x origin c old n f s e = by (in_kept r now x origin c n f s) e
  where
    was : {d f : Entry _} → Stands c.entries n d → Outcome r x (length c.entries) now d f → f.status ≡ Finished → Expanded r f.item (kept r now x origin c).entries
    was {d = d} t (was_retired p) q = expanded_kept law now x origin c (old n d t q)
    was {d = d} t (stays p u) q = expanded_kept law now x origin c (old n d t q)
    was {d = d} t (goes p u) q = absurd (cc)

    by : {f : Entry _} → InKept r now x origin c.entries n f → f.status ≡ Finished → Expanded r f.item (kept r now x origin c).entries
    by (earlier d f t o) q = was t o q
    by (newest p) q = absurd (cc)

pub sound_kept : {I : Type 0} {r : Rules I} → Lawful r → (roots : List I) (now : ℕ) (x : I) (origin : Origin) (c : Core I)
    → Uncovered r x c.entries → Springs r roots c.entries (length c.entries) x origin
    → Sound r roots now c.entries → Sound r roots now (kept r now x origin c).entries
sound_kept {r = r} law roots now x origin c lone new old = record {
  pointers = pointers_kept r now x origin c old.pointers;
  no_double = no_double_kept r now x origin c lone old.no_double;
  origins = origins_kept r roots now x origin c new old.origins;
  handled = handled_kept law now x origin c old.handled;
}

-- The same where statuses turn.
points_turned : {I : Type 0} {r : Rules I} {es fs : List (Entry I)} {n : ℕ} {y : I} {to tick : ℕ} → Turned r es fs → Points r es n y to tick → Points r fs n y to tick
points_turned {r = r} {y = y} {tick = tick} turned old =
    let f = turned.forth _ _ old.stands in record {
      target = f.0;
      stands = f.1;
      later = old.later;
      covers = subst (λ w. r.covers w y ≡ true) (sym f.2.item) old.covers;
      since = λ next since taken e. old.since next since (f.2.retired next since taken e).0 (f.2.retired next since taken e).1;
    }

pub springs_turned : {I : Type 0} {r : Rules I} {es fs : List (Entry I)} (roots : List I) (n : ℕ) (y : I) (o : Origin)
    → Turned r es fs → Springs r roots es n y o → Springs r roots fs n y o
springs_turned roots n y (FromRoot number) turned s = s
springs_turned {r = r} roots n y (Child parent child) turned s =
    let f = turned.forth _ _ s.stands in record {
      entry = f.0;
      stands = f.1;
      earlier = s.earlier;
      children = s.children;
      expands = subst (λ w. r.expansion w ≡ Ok s.children) (sym f.2.item) s.expands;
      is_child = s.is_child;
    }

pub expanded_turned : {I : Type 0} {r : Rules I} {es fs : List (Entry I)} {y : I} → Turned r es fs → Expanded r y es → Expanded r y fs
expanded_turned turned old = record { children = old.children; expands = old.expands; covered = λ k child s. covered_turned turned (old.covered k child s) }

pub sound_turned : {I : Type 0} {r : Rules I} {roots : List I} {now : ℕ} {es fs : List (Entry I)} → Turned r es fs → Sound r roots now es → Sound r roots now fs
sound_turned {r = r} {roots = roots} {fs = fs} turned old = record {
  pointers = λ n f to tick taken s e.
      (let b = turned.back n f s in
      let t = b.2.retired to tick taken e in
      let o = old.pointers n b.0 to tick t.0 b.1 t.1 in
      (o.0, subst (λ w. Points r fs n w to tick) (sym b.2.item) (points_turned turned o.1)));
  no_double = λ m n d e s t u v w.
      (let a = turned.back m d s in
      let b = turned.back n e t in
      old.no_double m n a.0 b.0 a.1 b.1 (sym a.2.live ∙ u) (sym b.2.live ∙ v)
      (subst (λ z. r.covers z b.0.item ≡ true) a.2.item (subst (λ z. r.covers d.item z ≡ true) b.2.item w)));
  origins = λ n f s.
      (let b = turned.back n f s in
      subst (λ z. Springs r roots fs n z f.origin) (sym b.2.item) (subst (λ z. Springs r roots fs n b.0.item z) (sym b.2.origin) (springs_turned roots n b.0.item b.0.origin turned (old.origins n b.0 b.1))));
  handled = λ n f s e.
      (let b = turned.back n f s in
      let item = sym b.2.item in
      subst (λ z. Expanded r z fs) item (expanded_turned turned (elim (b.2.finished e) [ inl before ↦ old.handled n b.0 b.1 before | inr now ↦ now ])));
}

pub pointers_of : {I : Type 0} {r : Rules I} {roots : List I} {now : ℕ} {es : List (Entry I)} → Sound r roots now es → Pointers r es
pointers_of sound n e to tick taken s q = (sound.pointers n e to tick taken s q).1
