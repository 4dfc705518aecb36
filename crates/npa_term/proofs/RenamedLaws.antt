-- Terms with their variables renumbered.
use Rattle.std.specs.Cmp.Lexicographic.{slice_cmp}
use Rattle.std.specs.Ordering.{nat_cmp, ordering_then, is_gt}
use Rattle.std.proofs.Common.{arith, true, false, ◌&&◌, cond, ◌≡◌, ℕ, ◌+◌, List, [], ◌∷◌, ◌++◌, map, refl, sym, ◌∙◌, ap, subst}
use Rattle.std.specs.List.{flat_map}
use Rattle.std.proofs.lemmas.List.{map-append}
use Rattle.npa_term.specs.declared.term.Op.{Op}
use Rattle.npa_term.specs.declared.term.Term.{Term, Var, Name, App, App', Row_of-Term, end_of-Term, more_of-Term}
use Rattle.npa_term.specs.Symbols.{symbol_count, all_count}
use Rattle.npa_term.specs.Same.{Same, itself, through, swapped, below, SameAll, nothing, first}
use Rattle.npa_term.specs.Variables.{variables, raised_var, renamed, renamed_row}
use Rattle.npa_term.specs.Order.{term_cmp, row_cmp}
use Rattle.npa_term.specs.Canonical.{ordered, canonical}
use Rattle.npa_term.proofs.Induction.{Each, by_terms}
use Rattle.npa_term.proofs.Rows.{renamed_app, canonical_app, cmp_apps, variables_at, symbol_count_at}

raised_members : (base : ℕ) (ts : List Term) → Each (λ t. variables (renamed base t) ≡ map (raised_var base) (variables t)) ts →
    flat_map variables (map (renamed base) ts) ≡ map (raised_var base) (flat_map variables ts)
raised_members base [] each = refl
raised_members base (t ∷ ts) each =
    ap (λ vs. vs ++ flat_map variables (map (renamed base) ts)) each.0
    ∙ ap (λ vs. map (raised_var base) (variables t) ++ vs) (raised_members base ts each.1)
    ∙ sym (map-append (raised_var base) (variables t) (flat_map variables ts))

-- the variables of a renamed term
pub variables-renamed : (base : ℕ) (t : Term) → variables (renamed base t) ≡ map (raised_var base) (variables t)
variables-renamed base =
    by_terms (λ t. variables (renamed base t) ≡ map (raised_var base) (variables t)) (λ v. refl) (λ n. refl)
    (λ op ts each.
    ap variables (renamed_app base op ts) ∙ variables_at (App op (map (renamed base) ts)) op (map (renamed base) ts) refl
    ∙ raised_members base ts each ∙ ap (map (raised_var base)) (sym (variables_at (App op ts) op ts refl)))

count_members : (base : ℕ) (ts : List Term) → Each (λ t. symbol_count (renamed base t) ≡ symbol_count t) ts → all_count (map (renamed base) ts) ≡ all_count ts
count_members base [] each = refl
count_members base (t ∷ ts) each = ap (λ n. n + all_count (map (renamed base) ts)) each.0 ∙ ap (λ n. symbol_count t + n) (count_members base ts each.1)

-- a renamed term has as many symbols
pub symbol_count-renamed : (base : ℕ) (t : Term) → symbol_count (renamed base t) ≡ symbol_count t
symbol_count-renamed base =
    by_terms (λ t. symbol_count (renamed base t) ≡ symbol_count t) (λ v. refl) (λ n. refl)
    (λ op ts each.
    symbol_count_at (renamed base (App op ts)) op (map (renamed base) ts) (renamed_app base op ts)
    ∙ ap (λ n. 1 + n) (count_members base ts each) ∙ sym (symbol_count_at (App op ts) op ts refl))

mutual
  -- renaming keeps terms equal
  pub same_renamed : {t u : Term} (base : ℕ) → Same t u → Same (renamed base t) (renamed base u)
  same_renamed base (itself t) = itself (renamed base t)
  same_renamed base (through s t u p q) = through (renamed base s) (renamed base t) (renamed base u) (same_renamed base p) (same_renamed base q)
  same_renamed base (swapped op t u swaps) =
      subst (λ v. Same (renamed base (App op (t ∷ u ∷ []))) v) (sym (renamed_app base op (u ∷ t ∷ [])))
      (subst (λ v. Same v (App op (renamed base u ∷ renamed base t ∷ []))) (sym (renamed_app base op (t ∷ u ∷ []))) (swapped op (renamed base t) (renamed base u) swaps))
  same_renamed base (below op ts us p) =
      subst (λ v. Same (renamed base (App op ts)) v) (sym (renamed_app base op us))
      (subst (λ v. Same v (App op (map (renamed base) us))) (sym (renamed_app base op ts)) (below op (map (renamed base) ts) (map (renamed base) us) (same_all_renamed base p)))

  same_all_renamed : {ts us : List Term} (base : ℕ) → SameAll ts us → SameAll (map (renamed base) ts) (map (renamed base) us)
  same_all_renamed base nothing = nothing
  same_all_renamed base (first t u ts us p q) = first (renamed base t) (renamed base u) (map (renamed base) ts) (map (renamed base) us) (same_renamed base p) (same_all_renamed base q)

same_raise : (m n base : ℕ) → nat_cmp (m + base) (n + base) ≡ nat_cmp m n
same_raise m n base = grind arith

mutual
  -- terms that are renamed by one number keep their order
  pub term_cmp-renamed : (base : ℕ) (t u : Term) → term_cmp (renamed base t) (renamed base u) ≡ term_cmp t u
  term_cmp-renamed base (Var v) (Var w) = ap (λ o. ordering_then o (nat_cmp v.sort w.sort)) (same_raise v.num w.num base)
  term_cmp-renamed base (Var v) (Name n) = refl
  term_cmp-renamed base (Var v) (App' g k us) = refl
  term_cmp-renamed base (Name m) (Var w) = refl
  term_cmp-renamed base (Name m) (Name n) = refl
  term_cmp-renamed base (Name m) (App' g k us) = refl
  term_cmp-renamed base (App' f j ts) (Var w) = refl
  term_cmp-renamed base (App' f j ts) (Name n) = refl
  term_cmp-renamed base (App' f j ts) (App' g k us) =
      cmp_apps f g (renamed_row base ts) (renamed_row base us) ∙ ap (λ o. ordering_then (nat_cmp f.num g.num) o) (row_cmp-renamed base ts us)

  row_cmp-renamed : {m n : _} (base : ℕ) (ts : Row_of-Term m) (us : Row_of-Term n) → slice_cmp term_cmp (renamed_row base ts) (renamed_row base us) ≡ row_cmp ts us
  row_cmp-renamed base end_of-Term end_of-Term = refl
  row_cmp-renamed base end_of-Term (more_of-Term u us) = refl
  row_cmp-renamed base (more_of-Term t ts) end_of-Term = refl
  row_cmp-renamed base (more_of-Term t ts) (more_of-Term u us) =
      ap (λ o. ordering_then o (slice_cmp term_cmp (renamed_row base ts) (renamed_row base us))) (term_cmp-renamed base t u)
      ∙ ap (λ o. ordering_then (term_cmp t u) o) (row_cmp-renamed base ts us)

ordered_renamed : (base : ℕ) (op : Op) (ts : List Term) → ordered op (map (renamed base) ts) ≡ map (renamed base) (ordered op ts)
ordered_renamed base op [] = refl
ordered_renamed base op (t ∷ []) = refl
ordered_renamed base op (t ∷ u ∷ []) =
    ap (λ o. cond (op.com && is_gt o) (renamed base u ∷ renamed base t ∷ []) (renamed base t ∷ renamed base u ∷ [])) (term_cmp-renamed base t u)
    ∙ (elim (op.com && is_gt (term_cmp t u)) as (λ b. cond b (renamed base u ∷ renamed base t ∷ []) (renamed base t ∷ renamed base u ∷ []) ≡ map (renamed base) (cond b (u ∷ t ∷ []) (t ∷ u ∷ [])))
    [ true ↦ refl | false ↦ refl ])
ordered_renamed base op (t ∷ u ∷ v ∷ ts) = refl

settled_members : (base : ℕ) (ts : List Term) → Each (λ t. canonical (renamed base t) ≡ renamed base (canonical t)) ts → map canonical (map (renamed base) ts) ≡ map (renamed base) (map canonical ts)
settled_members base [] each = refl
settled_members base (t ∷ ts) each =
    ap (λ u. u ∷ map canonical (map (renamed base) ts)) each.0 ∙ ap (λ us. renamed base (canonical t) ∷ us) (settled_members base ts each.1)

-- the canonical form of a renamed term is the renamed canonical form
pub canonical-renamed : (base : ℕ) (t : Term) → canonical (renamed base t) ≡ renamed base (canonical t)
canonical-renamed base =
    by_terms (λ t. canonical (renamed base t) ≡ renamed base (canonical t)) (λ v. refl) (λ n. refl)
    (λ op ts each.
    ap canonical (renamed_app base op ts) ∙ canonical_app op (map (renamed base) ts)
    ∙ ap (λ us. App op (ordered op us)) (settled_members base ts each) ∙ ap (App op) (ordered_renamed base op (map canonical ts))
    ∙ sym (ap (renamed base) (canonical_app op ts) ∙ renamed_app base op (ordered op (map canonical ts))))
