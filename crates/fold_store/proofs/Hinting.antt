-- Children that are placed by hints are placed as the machine allows.
use Rattle.std.proofs.Common.{◌≡◌, ℕ, ◌+◌, true, false, List, [], ◌∷◌, ◌++◌, length, map, Option, None, Some, slice_get, ap, sym, ◌∙◌, subst, arith}
use Rattle.std.proofs.lemmas.List.{length-map}
use Rattle.fold_core.specs.declared.event.Placed.{Placed}
use Rattle.fold_core.specs.declared.event.Placed.TheVariants.{Folded}
use Rattle.fold_core.specs.declared.event.Origin.TheVariants.{Child}
use Rattle.fold_core.specs.Rules.{Rules}
use Rattle.fold_core.specs.Machine.{Entry, Core, Stands, is_live, placed, place_at, least_cover, Accepts, Settles, settled, settles}
use Rattle.fold_core.specs.Facts.{Leads}
use Rattle.fold_core.proofs.Places.{stands_one, stands_unmap}
use Rattle.fold_core.proofs.Stepping.{accepts_place}
use Rattle.fold_store.specs.Table.{clip_entry}
use Rattle.fold_store.specs.Store.{clipped}
use Rattle.fold_store.specs.Hints.{Guides, HintSays, Hinted, guided, unguided, HintsSettle, all_placed, then_placed}
use Rattle.fold_store.proofs.Clipping.{clip_live, cover_clip, accepts_clip}
use Rattle.fold_store.proofs.Walks.{leads_one, leads_live}
use Rattle.fold_store.proofs.Joining.{leads_clip, leads_unclip}

accepts_hinted : {I : Type 0} {r : Rules I} {x : I} {hint : Option ℕ} {c : Core I} {p : Placed} → Hinted r x hint c p → Accepts r x p c
accepts_hinted (guided into g) = g.cover
accepts_hinted {r = r} {x = x} {c = c} (unguided p none is) = accepts_place r x p c is

pub hints_settle : {I : Type 0} {r : Rules I} {tick parent : ℕ} {hints : List ℕ} {k : ℕ} {xs : List I} {ps : List Placed} {c d : Core I} → HintsSettle r tick parent hints k xs ps c d → Settles r tick parent k xs ps c d
hints_settle (all_placed k c) = settled k c
hints_settle (then_placed k x xs p ps c d h rest) = settles k x xs p ps c d (accepts_hinted h) (hints_settle rest)

-- One more child is placed.
pub hints_more : {I : Type 0} {r : Rules I} {tick parent : ℕ} {hints : List ℕ} {k : ℕ} {xs : List I} {ps : List Placed} {c d : Core I} (x : I) (p : Placed) (j : ℕ)
    → HintsSettle r tick parent hints k xs ps c d → j ≡ k + length xs → Hinted r x (slice_get hints j) d p
    → HintsSettle r tick parent hints k (xs ++ x ∷ []) (ps ++ p ∷ []) c (placed r tick x (Child parent j) p d)
hints_more {r = r} {tick = tick} {parent = parent} {hints = hints} x p j (all_placed k c) at h =
    let is : j ≡ k = omega arith in
    subst (λ m. HintsSettle r tick parent hints k (x ∷ []) (p ∷ []) c (placed r tick x (Child parent m) p c)) (sym is)
    (then_placed k x [] p [] c (placed r tick x (Child parent k) p c) (subst (λ m. Hinted r x (slice_get hints m) c p) is h) (all_placed (k + 1) (placed r tick x (Child parent k) p c)))
hints_more {r = r} {tick = tick} {parent = parent} x p j (then_placed k y ys q qs c d b rest) at h =
    let move : j ≡ k + 1 + length ys = omega arith in
    then_placed k y (ys ++ x ∷ []) q (qs ++ p ∷ []) c (placed r tick x (Child parent j) p d) b (hints_more x p j rest move h)

-- A hint guides as before where ticks are brought down.
unguides_clip : {I : Type 0} (r : Rules I) (b : ℕ) (x : I) (hint : Option ℕ) (into : ℕ) (es : List (Entry I)) → Guides r x hint into (map (clip_entry b) es) → Guides r x hint into es
unguides_clip r b x hint into es g =
    let u = stands_unmap (clip_entry b) es into g.cover.entry g.cover.stands in
    record {
      entry = g.entry;
      hint_is = g.hint_is;
      leads = leads_unclip b es g.leads;
      cover = record {
        entry = u.0;
        stands = u.1;
        live = sym (clip_live b u.0.status) ∙ ap (λ (w : Entry _). is_live w.status) (sym u.2) ∙ g.cover.live;
        covers = ap (λ (w : Entry _). r.covers w.item x) (sym u.2) ∙ g.cover.covers;
      };
    }

pub hinted_clip : {I : Type 0} {r : Rules I} {x : I} {hint : Option ℕ} {c : Core I} {p : Placed} (b : ℕ) → Hinted r x hint c p → Hinted r x hint (clipped b c) p
hinted_clip {r = r} {x = x} {c = c} b (guided into g) = guided into (record {
  entry = g.entry;
  hint_is = g.hint_is;
  leads = leads_clip b g.leads;
  cover = accepts_clip r b x (Folded into) c g.cover;
})
hinted_clip {r = r} {x = x} {hint = hint} {c = c} b (unguided p none is) = unguided p (λ into g. none into (unguides_clip r b x hint into c.entries g))
    (is ∙ ap (λ o. place_at o (length c.entries)) (sym (cover_clip r x b c.entries)) ∙ ap (place_at (least_cover r x (map (clip_entry b) c.entries))) (sym (length-map c.entries (clip_entry b))))

-- What is found along a hint.
hint_followed : {I : Type 0} (r : Rules I) (x : I) (hint : Option ℕ) (es : List (Entry I)) (number end : ℕ) → hint ≡ Some number → Leads es number end
    → ((e : Entry I) → Stands es end e → r.covers e.item x ≡ true → ⊥) → HintSays r x hint es None
hint_followed r x hint es number end is leads fails = λ into g.
    (let q = g.hint_is in
    let same : g.entry ≡ number = cc in
    let at : into ≡ end = leads_one (subst (λ m. Leads es m into) same g.leads) leads in
    fails g.cover.entry (subst (λ m. Stands es m g.cover.entry) at g.cover.stands) g.cover.covers)

pub hint_nothing : {I : Type 0} (r : Rules I) (x : I) (hint : Option ℕ) (es : List (Entry I)) (number end : ℕ) → hint ≡ Some number → Leads es number end → slice_get es end ≡ None
    → HintSays r x hint es None
hint_nothing r x hint es number end is leads nothing = hint_followed r x hint es number end is leads (λ e s covers. (let q = s.is in let bad : Some e ≡ None = cc in absurd (cc)))

pub hint_wrong : {I : Type 0} (r : Rules I) (x : I) (hint : Option ℕ) (es : List (Entry I)) (number end : ℕ) (e : Entry I) → hint ≡ Some number → Leads es number end
    → Stands es end e → r.covers e.item x ≡ false → HintSays r x hint es None
hint_wrong r x hint es number end e is leads s fails = hint_followed r x hint es number end is leads (λ d t covers. (let same = stands_one t s in let other : r.covers d.item x ≡ false = ap (λ (w : Entry _). r.covers w.item x) same ∙ fails in absurd (cc)))

pub hint_right : {I : Type 0} (r : Rules I) (x : I) (hint : Option ℕ) (es : List (Entry I)) (number end : ℕ) (e : Entry I) → hint ≡ Some number → Leads es number end
    → Stands es end e → r.covers e.item x ≡ true → HintSays r x hint es (Some end)
hint_right r x hint es number end e is leads s covers = record { entry = number; hint_is = is; leads = leads; cover = record { entry = e; stands = s; live = leads_live leads e s; covers = covers } }
