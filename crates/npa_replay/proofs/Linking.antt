-- Lists that share a key, found by a table of marks.
use Rattle.std.proofs.Common.{◌≡◌, Bool, true, false, ℕ, zero, suc, ◌+◌, ◌<◌, ◌≤◌, ⊎_elim, inl, inr, List, [], ◌∷◌, ◌++◌, Some, drop, drop-cons, add-one, get_or, slice_get, slice_set, length, Contains, append-nil, refl, ap, sym, ◌∙◌, subst, arith}
use Rattle.std.specs.List.{flat_map}
use Rattle.std.proofs.lemmas.List.{drop_all}
use Rattle.std.specs.Prelude.{◌⊎◌}
use Rattle.std.proofs.lemmas.List.Elements.{Contains-append_left, Contains-push}
use Rattle.std.proofs.lemmas.Bool.{cases_lt}
use Rattle.std.proofs.lemmas.Option.{same_Some, none-some, slice_get-get_or}
use Rattle.npa_term.specs.declared.term.Op.{Op}
use Rattle.npa_term.specs.declared.term.Var.{Var as Variable}
use Rattle.npa_term.specs.declared.term.Term.{Term, App}
use Rattle.npa_term.specs.Variables.{variables}
use Rattle.npa_term.proofs.Rows.{variables_at}
use Rattle.npa_replay.specs.Groups.{numbers_of, is_marked, HasSharers, AreLinks}

pub numbers_at : (t : Term) (op : Op) (ts : List Term) → t ≡ App op ts → numbers_of (variables t) ≡ numbers_of (flat_map variables ts)
numbers_at t op ts e = ap (λ (vs : List Variable). numbers_of vs) (variables_at t op ts e)

map_both : (vs ws : List Variable) → numbers_of (vs ++ ws) ≡ numbers_of vs ++ numbers_of ws
map_both [] ws = refl
map_both (v ∷ vs) ws = ap (λ ns. v.num ∷ ns) (map_both vs ws)

pub numbers_step : (ts : List Term) (i : ℕ) (d : Term) → i < length ts →
    numbers_of (flat_map variables (drop i ts)) ≡ numbers_of (variables (get_or ts i d)) ++ numbers_of (flat_map variables (drop (i + 1) ts))
numbers_step ts i d l =
    let cut : drop i ts ≡ get_or ts i d ∷ drop (i + 1) ts = rw (drop-cons ts i d, add-one) refl in
    ap (λ (us : List Term). numbers_of (flat_map variables us)) cut ∙ map_both (variables (get_or ts i d)) (flat_map variables (drop (i + 1) ts))

pub numbers_past : (ts : List Term) (i : ℕ) (ks ms : List ℕ) → length ts ≤ i → ks ++ numbers_of (flat_map variables (drop i ts)) ≡ ms → ks ≡ ms
numbers_past ts i ks ms l e = sym (append-nil ks) ∙ ap (λ (us : List Term). ks ++ numbers_of (flat_map variables us)) (sym (drop_all i ts l)) ∙ e

-- marks
pub marked_here : (marks : List Bool) (key : ℕ) → key < length marks → is_marked (slice_set marks key true) key ≡ true
marked_here [] key l = absurd (omega (arith, l))
marked_here (m ∷ marks) zero l = refl
marked_here (m ∷ marks) (suc key) l = marked_here marks key (omega (arith, l))

pub marked_past : (marks : List Bool) (key : ℕ) → length marks ≤ key → is_marked marks key ≡ true
marked_past [] key l = refl
marked_past (m ∷ marks) zero l = absurd (omega (arith, l))
marked_past (m ∷ marks) (suc key) l = marked_past marks key (omega (arith, l))

pub marked_kept : (marks : List Bool) (key other : ℕ) → is_marked marks other ≡ true → is_marked (slice_set marks key true) other ≡ true
marked_kept [] key other e = refl
marked_kept (m ∷ marks) zero zero e = refl
marked_kept (m ∷ marks) zero (suc other) e = e
marked_kept (m ∷ marks) (suc key) zero e = e
marked_kept (m ∷ marks) (suc key) (suc other) e = marked_kept marks key other e

-- the lists below a number that share a key
pub record SharersBelow (own : List ℕ) (keys : List (List ℕ)) (n : ℕ) (ns : List ℕ) : Type 0 where
  pub each : (i key : ℕ) (ls : List ℕ) → i < n → slice_get keys i ≡ Some ls → Contains own key → Contains ls key → Contains ns i

module _ (own : List ℕ) (keys : List (List ℕ)) where
  pub sharers_none : (ns : List ℕ) → SharersBelow own keys 0 ns
  sharers_none ns = record { each = λ i key ls l at a b. let no : ⊥ = omega (arith, l) in absurd no }

  module _ (n : ℕ) (ns : List ℕ) (was : SharersBelow own keys n ns) where
    pub sharers_push : (new : List ℕ) → new ≡ ns ++ n ∷ [] → SharersBelow own keys (n + 1) new
    sharers_push new e = record {
      each = λ i key ls l at a b. subst (λ ms. Contains ms i) (sym e) (⊎_elim
          (λ (before : i < n). Contains-append_left ns (n ∷ []) i (was.each i key ls before at a b))
          (λ (last : n ≤ i). let same : n ≡ i = omega (arith, l, last) in subst (λ j. Contains (ns ++ n ∷ []) j) same (Contains-push ns n))
          (cases_lt i n));
    }

    pub sharers_same : (marks : List Bool) → ((key : ℕ) → Contains own key → is_marked marks key ≡ true) → (d : List ℕ) → n < length keys →
        ((key : ℕ) → Contains (get_or keys n d) key → is_marked marks key ≡ false) → SharersBelow own keys (n + 1) ns
    sharers_same marks marked d within none = record {
      each = λ i key ls l at a b. ⊎_elim
          (λ (before : i < n). was.each i key ls before at a b)
          (λ (last : n ≤ i).
          let same : i ≡ n = omega (arith, l, last) in
          let here : ls ≡ get_or keys n d = same_Some ls (get_or keys n d) (sym at ∙ ap (slice_get keys) same ∙ slice_get-get_or keys n d within) in
          absurd (differ (is_marked marks key) (marked key a) (none key (subst (λ ms. Contains ms key) here b))))
          (cases_lt i n);
    }
      where
        differ : (b : Bool) → b ≡ true → b ≡ false → ⊥
        differ true e f = cc
        differ false e f = cc

    pub sharers_all : length keys ≤ n → HasSharers own keys ns
    sharers_all past j key ls at a b = was.each j key ls (within keys j n ls past at) at a b
      where
        within : (xs : List (List ℕ)) (i m : ℕ) (x : List ℕ) → length xs ≤ m → slice_get xs i ≡ Some x → i < m
        within [] i m x l e = cc
        within (y ∷ ys) zero m x l e = omega (arith, l)
        within (y ∷ ys) (suc i) zero x l e = absurd (omega (arith, l))
        within (y ∷ ys) (suc i) (suc m) x l e = let f = within ys i m x (omega (arith, l)) e in omega (arith, f)

-- the links of the lists below a number
pub record LinksBelow (keys : List (List ℕ)) (n : ℕ) (links : List (List ℕ)) : Type 0 where
  pub even : length links ≡ n
  pub every : (i : ℕ) (own ns : List ℕ) → slice_get keys i ≡ Some own → slice_get links i ≡ Some ns → HasSharers own keys ns

module _ (keys : List (List ℕ)) where
  pub links_none : (links : List (List ℕ)) → links ≡ [] → LinksBelow keys 0 links
  links_none links e = record { even = ap length e; every = λ i own ns at there. absurd (none-some ns (sym (ap (λ ls. slice_get ls i) e) ∙ there)) }

  got : (xs : List (List ℕ)) (x : List ℕ) (i : ℕ) (y : List ℕ) → slice_get (xs ++ x ∷ []) i ≡ Some y → (slice_get xs i ≡ Some y) ⊎ ((i ≡ length xs) × (x ≡ y))
  got [] x zero y e = inr (refl, same_Some x y e)
  got [] x (suc i) y e = cc
  got (z ∷ zs) x zero y e = inl e
  got (z ∷ zs) x (suc i) y e = ⊎_elim (λ l. inl l) (λ r. inr (ap (λ n. suc n) r.0, r.1)) (got zs x i y e)

  pub links_more : (n : ℕ) (links : List (List ℕ)) → LinksBelow keys n links → (d ns : List ℕ) → n < length keys → HasSharers (get_or keys n d) keys ns → (new : List (List ℕ)) → new ≡ links ++ ns ∷ [] → LinksBelow keys (n + 1) new
  links_more n links was d ns within good new e = subst (λ ls. LinksBelow keys (n + 1) ls) (sym e) (record {
    even = length-push links ns ∙ ap (λ m. m + 1) was.even;
    every = λ i own ms at there. ⊎_elim
        (λ l. was.every i own ms at l)
        (λ r.
        let place : i ≡ n = r.0 ∙ was.even in
        let here : get_or keys n d ≡ own = same_Some (get_or keys n d) own (sym (slice_get-get_or keys n d within) ∙ ap (slice_get keys) (sym place) ∙ at) in
        subst (λ os. HasSharers os keys ms) here (subst (λ ls. HasSharers (get_or keys n d) keys ls) r.1 good))
        (got links ns i ms there);
  })
    where
      length-push : (xs : List (List ℕ)) (x : List ℕ) → length (xs ++ x ∷ []) ≡ length xs + 1
      length-push [] x = omega arith
      length-push (y ∷ ys) x = let e = length-push ys x in omega (arith, e)

  pub links_all : (n : ℕ) (links : List (List ℕ)) → LinksBelow keys n links → n ≤ length keys → length keys ≤ n → AreLinks keys links
  links_all n links was l m = record { even = omega (arith, was.even, l, m); every = was.every }
