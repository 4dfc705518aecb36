-- The sorts of arguments are compared from the left, and operators are declared one after another.
use Rattle.std.proofs.Common.{◌≡◌, ◌≢◌, ℕ, suc, ◌+◌, ◌<◌, ◌≤◌, Bool, true, false, ◌&&◌, List, [], ◌∷◌, ◌++◌, refl, ap, ◌∙◌, drop, map, length, get_or, drop-cons, add-one}
use Rattle.std.specs.Option.{option_or}
use Rattle.std.proofs.lemmas.List.{drop_all}
use Rattle.npa_term.specs.declared.term.Term.{Term}
use Rattle.npa_sig.specs.declared.signature.OpDecl.{OpDecl}
use Rattle.npa_sig.specs.Signature.{Signature, op_fault, first_op_fault}
use Rattle.npa_sig.specs.Sorting.{is_below, all_below}
use Rattle.npa_term.specs.Parts.{least_sort}

pub all_below_apart : (sig : Signature) (ss ts : List ℕ) → length ss ≢ length ts → all_below sig ss ts ≡ false
all_below_apart sig [] [] n = absurd (n refl)
all_below_apart sig (s ∷ ss) (t ∷ ts) n = rest (is_below sig s t) (all_below_apart sig ss ts (λ e. n (ap suc e)))
  where
    rest : (b : Bool) {x : Bool} → x ≡ false → (b && x) ≡ false
    rest true e = e
    rest false e = refl
all_below_apart sig [] (t ∷ ts) n = refl
all_below_apart sig (s ∷ ss) [] n = refl

pub all_below_step : (sig : Signature) (args : List Term) (sorts : List ℕ) (k : ℕ) (d : Term) → k < length args → k < length sorts →
    all_below sig (map least_sort (drop k args)) (drop k sorts) ≡ (is_below sig (least_sort (get_or args k d)) (get_or sorts k 0) && all_below sig (map least_sort (drop (k + 1) args)) (drop (k + 1) sorts))
all_below_step sig args sorts k d p q = rw (drop-cons args k d, drop-cons sorts k 0, add-one) refl

pub all_below_ends : (sig : Signature) (args : List Term) (sorts : List ℕ) (k : ℕ) → length args ≤ k → length sorts ≤ k →
    all_below sig (map least_sort (drop k args)) (drop k sorts) ≡ true
all_below_ends sig args sorts k p q = ap (λ ts. all_below sig (map least_sort ts) (drop k sorts)) (drop_all k args p) ∙ ap (all_below sig []) (drop_all k sorts q)

pub first_fault_step : (before : List (List ℕ)) (decls : List OpDecl) (k : ℕ) (d : OpDecl) → k < length decls →
    first_op_fault before (drop k decls) ≡ option_or (op_fault (length before) before (get_or decls k d)) (first_op_fault (before ++ (get_or decls k d).name ∷ []) (drop (k + 1) decls))
first_fault_step before decls k d p = rw (drop-cons decls k d, add-one) refl
