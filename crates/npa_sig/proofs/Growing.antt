-- A term that is well sorted stays so when a signature grows by a sort, by a pair of sorts or by an
-- operator.
use Rattle.std.proofs.Common.{◌≡◌, ℕ, zero, suc, ◌+◌, Bool, true, false, ◌&&◌, ◌||◌, nat_eq, nat_le, nat_lt, List, [], ◌∷◌, ◌++◌, Option, None, Some, map, slice_get, refl, ap, sym, ◌∙◌, arith}
use Rattle.std.specs.List.{list_all}
use Rattle.npa_sorts.specs.Subsorts.{climbs}
use Rattle.npa_term.specs.declared.term.Op.{Op}
use Rattle.npa_term.specs.declared.term.Term.{Term, App}
use Rattle.npa_term.proofs.Induction.{Each, by_terms}
use Rattle.npa_sig.specs.declared.signature.OpDecl.{OpDecl}
use Rattle.npa_sig.specs.Signature.{Signature, with_sort, with_subsort, with_op}
use Rattle.npa_sig.specs.Sorting.{is_sort, is_below, agrees, all_below, is_declared, well_sorted}
use Rattle.npa_term.specs.Parts.{least_sort}
use Rattle.npa_sig.proofs.Rows.{well_sorted_at}

-- what is in a signature is in another
pub record Grows (small large : Signature) : Type 0 where
  pub sorts : (s : ℕ) → is_sort small s ≡ true → is_sort large s ≡ true
  pub below : (s t : ℕ) → is_below small s t ≡ true → is_below large s t ≡ true
  pub ops : (k : ℕ) (decl : OpDecl) → slice_get small.ops k ≡ Some decl → slice_get large.ops k ≡ Some decl

pub grows_itself : (sig : Signature) → Grows sig sig
grows_itself sig = record { sorts = λ s e. e; below = λ s t e. e; ops = λ k decl e. e }

pub grows_through : {a b c : Signature} → Grows a b → Grows b c → Grows a c
grows_through p q = record {
  sorts = λ s e. q.sorts s (p.sorts s e);
  below = λ s t e. q.below s t (p.below s t e);
  ops = λ k decl e. q.ops k decl (p.ops k decl e);
}

either_left : (a b : Bool) → a ≡ true → (a || b) ≡ true
either_left true b e = refl
either_left false b e = cc

both : (a b : Bool) → a ≡ true → b ≡ true → (a && b) ≡ true
both true true p q = refl
both true false p q = cc
both false b p q = cc

-- one step of the closure carries over
carried : (a b c a' b' c' : Bool) → (a ≡ true → a' ≡ true) → (b ≡ true → b' ≡ true) → (c ≡ true → c' ≡ true) → (a || (b && c)) ≡ true → (a' || (b' && c')) ≡ true
carried true b c a' b' c' p q r e = either_left a' (b' && c') (p refl)
carried false true true a' b' c' p q r e = from a'
  where
    from : (x : Bool) → (x || (b' && c')) ≡ true
    from true = refl
    from false = both b' c' (q refl) (r refl)
carried false true false a' b' c' p q r e = cc
carried false false c a' b' c' p q r e = cc

more_pairs : (n : ℕ) (ps : List (ℕ × ℕ)) (p : ℕ × ℕ) (s t : ℕ) → climbs n ps s t ≡ true → climbs n (ps ++ p ∷ []) s t ≡ true
more_pairs n [] p s t e = either_left (climbs n [] s t) (climbs n [] s p.0 && climbs n [] p.1 t) e
more_pairs n (q ∷ ps) p s t e =
    carried (climbs n ps s t) (climbs n ps s q.0) (climbs n ps q.1 t) (climbs n (ps ++ p ∷ []) s t) (climbs n (ps ++ p ∷ []) s q.0) (climbs n (ps ++ p ∷ []) q.1 t)
    (more_pairs n ps p s t) (more_pairs n ps p s q.0) (more_pairs n ps p q.1 t) e

more_sorts : (n : ℕ) (ps : List (ℕ × ℕ)) (s t : ℕ) → climbs n ps s t ≡ true → climbs (n + 1) ps s t ≡ true
more_sorts n [] s t e =
    carried (nat_eq s t) (nat_eq t 0 && nat_le 2 s) (nat_lt s (n + 2)) (nat_eq s t) (nat_eq t 0 && nat_le 2 s) (nat_lt s (n + 1 + 2))
    (λ e. e) (λ e. e) wider e
  where
    wider : nat_lt s (n + 2) ≡ true → nat_lt s (n + 1 + 2) ≡ true
    wider e = grind arith
more_sorts n (q ∷ ps) s t e =
    carried (climbs n ps s t) (climbs n ps s q.0) (climbs n ps q.1 t) (climbs (n + 1) ps s t) (climbs (n + 1) ps s q.0) (climbs (n + 1) ps q.1 t)
    (more_sorts n ps s t) (more_sorts n ps s q.0) (more_sorts n ps q.1 t) e

more_ops : (ops : List OpDecl) (new : OpDecl) (k : ℕ) (decl : OpDecl) → slice_get ops k ≡ Some decl → slice_get (ops ++ new ∷ []) k ≡ Some decl
more_ops [] new k decl e = cc
more_ops (d ∷ ops) new zero decl e = e
more_ops (d ∷ ops) new (suc k) decl e = more_ops ops new k decl e

pub grows_sort : (sig : Signature) (name : List ℕ) → Grows sig (with_sort sig name)
grows_sort sig name = record {
  sorts = λ s e. wide s e;
  below = λ s t e. more_sorts sig.sorts.declared sig.sorts.pairs s t e;
  ops = λ k decl e. e;
}
  where
    wide : (s : ℕ) → nat_lt s (sig.sorts.declared + 2) ≡ true → nat_lt s (sig.sorts.declared + 1 + 2) ≡ true
    wide s e = grind arith

pub grows_subsort : (sig : Signature) (lower upper : ℕ) → Grows sig (with_subsort sig lower upper)
grows_subsort sig lower upper = record {
  sorts = λ s e. e;
  below = λ s t e. more_pairs sig.sorts.declared sig.sorts.pairs (lower, upper) s t e;
  ops = λ k decl e. e;
}

pub grows_op : (sig : Signature) (decl : OpDecl) → Grows sig (with_op sig decl)
grows_op sig decl = record {
  sorts = λ s e. e;
  below = λ s t e. e;
  ops = λ k d e. more_ops sig.ops decl k d e;
}

module _ (small large : Signature) (grows : Grows small large) where
  first_true : (a b : Bool) → (a && b) ≡ true → a ≡ true
  first_true true b e = refl
  first_true false b e = cc

  second_true : (a b : Bool) → (a && b) ≡ true → b ≡ true
  second_true true b e = e
  second_true false b e = cc

  below_still : (ss ts : List ℕ) → all_below small ss ts ≡ true → all_below large ss ts ≡ true
  below_still [] [] e = e
  below_still (s ∷ ss) (t ∷ ts) e =
      both (is_below large s t) (all_below large ss ts) (grows.below s t (first_true (is_below small s t) (all_below small ss ts) e))
      (below_still ss ts (second_true (is_below small s t) (all_below small ss ts) e))
  below_still [] (t ∷ ts) e = cc
  below_still (s ∷ ss) [] e = cc

  declared_still : (op : Op) (sorts : List ℕ) → is_declared small op sorts (slice_get small.ops op.num) ≡ true → is_declared large op sorts (slice_get large.ops op.num) ≡ true
  declared_still op sorts e = from (slice_get small.ops op.num) refl e
    where
      from : (o : Option OpDecl) → slice_get small.ops op.num ≡ o → is_declared small op sorts o ≡ true → is_declared large op sorts (slice_get large.ops op.num) ≡ true
      from None is e = cc
      from (Some decl) is e =
          ap (is_declared large op sorts) (grows.ops op.num decl is)
          ∙ both (agrees op decl) (all_below large sorts decl.args) (first_true (agrees op decl) (all_below small sorts decl.args) e)
          (below_still sorts decl.args (second_true (agrees op decl) (all_below small sorts decl.args) e))

  all_still : (ts : List Term) → Each (λ t. well_sorted small t ≡ true → well_sorted large t ≡ true) ts → list_all (well_sorted small) ts ≡ true → list_all (well_sorted large) ts ≡ true
  all_still [] each e = e
  all_still (t ∷ ts) each e =
      both (well_sorted large t) (list_all (well_sorted large) ts) (each.0 (first_true (well_sorted small t) (list_all (well_sorted small) ts) e))
      (all_still ts each.1 (second_true (well_sorted small t) (list_all (well_sorted small) ts) e))

  pub still_sorted : (t : Term) → well_sorted small t ≡ true → well_sorted large t ≡ true
  still_sorted =
      by_terms (λ t. well_sorted small t ≡ true → well_sorted large t ≡ true) (λ v e. grows.sorts v.sort e) (λ n e. e)
      (λ op ts each e.
      let parts : (is_declared small op (map least_sort ts) (slice_get small.ops op.num) && list_all (well_sorted small) ts) ≡ true = sym (well_sorted_at small (App op ts) op ts refl) ∙ e in
      well_sorted_at large (App op ts) op ts refl
      ∙ both (is_declared large op (map least_sort ts) (slice_get large.ops op.num)) (list_all (well_sorted large) ts)
      (declared_still op (map least_sort ts) (first_true (is_declared small op (map least_sort ts) (slice_get small.ops op.num)) (list_all (well_sorted small) ts) parts))
      (all_still ts each (second_true (is_declared small op (map least_sort ts) (slice_get small.ops op.num)) (list_all (well_sorted small) ts) parts)))

  pub still_below : (ss ts : List ℕ) → all_below small ss ts ≡ true → all_below large ss ts ≡ true
  still_below = below_still
