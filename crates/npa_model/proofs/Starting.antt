-- Faults of instances are told one after another.
use Rattle.std.proofs.Common.{◌≡◌, ℕ, ◌+◌, ◌<◌, ◌≤◌, Bool, true, false, List, [], ◌∷◌, ◌++◌, Option, None, Some, refl, ap, sym, ◌∙◌, length, drop, get_or, drop-cons, add-one, cond, slice_get, append_assoc, append-nil, nat_eq, is_some, IfNone}
use Rattle.std.specs.Option.{option_or}
use Rattle.std.specs.List.{list_any}
use Rattle.std.proofs.lemmas.List.{drop_all}
use Rattle.npa_term.specs.declared.term.Term.{Term}
use Rattle.npa_sig.specs.declared.protocol.Strand.{Strand}
use Rattle.npa_sig.specs.Signature.{Signature}
use Rattle.npa_sig.specs.Sorting.{is_below}
use Rattle.npa_term.specs.Parts.{least_sort}
use Rattle.npa_model.specs.declared.run.Instance.{Instance}
use Rattle.npa_model.specs.declared.run.Cause.TheVariants as cause
use Rattle.npa_rewrite.specs.Normal.{is_normal_by}
use Rattle.npa_model.specs.Instances.{sort_fault, normal_fault, instance_fault, first_fault, first_again, names_among, name_in, fresh_names}
use Rattle.npa_sig.specs.Parameters.{fresh_terms}

pub sort_fault_step : (sig : Signature) (k p : ℕ) (args : List Term) (sorts : List ℕ) (d : Term) → p < length args → p < length sorts →
    sort_fault sig k p (drop p args) (drop p sorts) ≡ cond (is_below sig (least_sort (get_or args p d)) (get_or sorts p 0)) (sort_fault sig k (p + 1) (drop (p + 1) args) (drop (p + 1) sorts)) (Some (cause.Sort k p))
sort_fault_step sig k p args sorts d l m = rw (drop-cons args p d, drop-cons sorts p 0, add-one) refl

pub sort_fault_ends : (sig : Signature) (k p : ℕ) (args : List Term) (sorts : List ℕ) → length args ≤ p → sort_fault sig k p (drop p args) (drop p sorts) ≡ None
sort_fault_ends sig k p args sorts l = ap (λ (ts : List Term). sort_fault sig k p ts (drop p sorts)) (drop_all p args l)

pub normal_fault_step : (nf : Term → Term) (k p : ℕ) (args : List Term) (d : Term) → p < length args →
    normal_fault nf k p (drop p args) ≡ cond (is_normal_by nf (get_or args p d)) (normal_fault nf k (p + 1) (drop (p + 1) args)) (Some (cause.Normal k p))
normal_fault_step nf k p args d l = rw (drop-cons args p d, add-one) refl

pub normal_fault_ends : (nf : Term → Term) (k p : ℕ) (args : List Term) → length args ≤ p → normal_fault nf k p (drop p args) ≡ None
normal_fault_ends nf k p args l = ap (λ (ts : List Term). normal_fault nf k p ts) (drop_all p args l)

pub first_fault_step : (nf : Term → Term) (sig : Signature) (strands : List Strand) (k : ℕ) (instances : List Instance) (d : Instance) → k < length instances →
    first_fault nf sig strands k (drop k instances) ≡ option_or (instance_fault nf sig strands k (get_or instances k d)) (first_fault nf sig strands (k + 1) (drop (k + 1) instances))
first_fault_step nf sig strands k instances d l = rw (drop-cons instances k d, add-one) refl

names_step : (vs : List Term) (i : ℕ) (d : Term) → i < length vs → names_among (drop i vs) ≡ name_in (get_or vs i d) ++ names_among (drop (i + 1) vs)
names_step vs i d l = rw (drop-cons vs i d, add-one) refl

fresh_step : (strands : List Strand) (is : List Instance) (k : ℕ) (d : Instance) → k < length is →
    fresh_names strands (drop k is) ≡ names_among (fresh_terms (slice_get strands (get_or is k d).strand) (get_or is k d).args) ++ fresh_names strands (drop (k + 1) is)
fresh_step strands is k d l = rw (drop-cons is k d, add-one) refl

-- names that are all new are seen, and the search goes on behind them
again_on : (seen xs ys : List ℕ) → first_again seen xs ≡ None → first_again seen (xs ++ ys) ≡ first_again (seen ++ xs) ys
again_on seen [] ys e = ap (λ ns. first_again ns ys) (sym (append-nil seen))
again_on seen (x ∷ xs) ys e = by (list_any (nat_eq x) seen) e (again_on (seen ++ x ∷ []) xs ys)
  where
    by : (b : Bool) → cond b (Some x) (first_again (seen ++ x ∷ []) xs) ≡ None → (first_again (seen ++ x ∷ []) xs ≡ None → first_again (seen ++ x ∷ []) (xs ++ ys) ≡ first_again ((seen ++ x ∷ []) ++ xs) ys) → cond b (Some x) (first_again (seen ++ x ∷ []) (xs ++ ys)) ≡ first_again (seen ++ x ∷ xs) ys
    by true e' h = cc
    by false e' h = h e' ∙ ap (λ ns. first_again ns ys) (append_assoc seen (x ∷ []) xs)

-- a name that was seen is told, whatever follows
again_stops : (seen xs ys : List ℕ) (n : ℕ) → first_again seen xs ≡ Some n → first_again seen (xs ++ ys) ≡ Some n
again_stops seen [] ys n e = cc
again_stops seen (x ∷ xs) ys n e = by (list_any (nat_eq x) seen) e (again_stops (seen ++ x ∷ []) xs ys n)
  where
    by : (b : Bool) → cond b (Some x) (first_again (seen ++ x ∷ []) xs) ≡ Some n → (first_again (seen ++ x ∷ []) xs ≡ Some n → first_again (seen ++ x ∷ []) (xs ++ ys) ≡ Some n) → cond b (Some x) (first_again (seen ++ x ∷ []) (xs ++ ys)) ≡ Some n
    by true e' h = e'
    by false e' h = h e'

module _ (seen : List ℕ) (vs : List Term) (i : ℕ) (d : Term) (l : i < length vs) where
  pub names_stop : (n : ℕ) → first_again seen (name_in (get_or vs i d)) ≡ Some n → first_again seen (names_among (drop i vs)) ≡ Some n
  names_stop n e = ap (first_again seen) (names_step vs i d l) ∙ again_stops seen (name_in (get_or vs i d)) (names_among (drop (i + 1) vs)) n e

  module _ (more : List ℕ) (is : more ≡ seen ++ name_in (get_or vs i d)) where
    pub names_on : first_again seen (name_in (get_or vs i d)) ≡ None → first_again seen (names_among (drop i vs)) ≡ first_again more (names_among (drop (i + 1) vs))
    names_on e = ap (first_again seen) (names_step vs i d l) ∙ again_on seen (name_in (get_or vs i d)) (names_among (drop (i + 1) vs)) e ∙ ap (λ ns. first_again ns (names_among (drop (i + 1) vs))) (sym is)

    pub names_all : more ++ names_among (drop (i + 1) vs) ≡ seen ++ names_among (drop i vs)
    names_all = ap (λ ns. ns ++ names_among (drop (i + 1) vs)) is ∙ append_assoc seen (name_in (get_or vs i d)) (names_among (drop (i + 1) vs)) ∙ ap (λ ns. seen ++ ns) (sym (names_step vs i d l))

module _ (seen : List ℕ) (strands : List Strand) (is : List Instance) (k : ℕ) (d : Instance) (l : k < length is) where
  abbrev here : List ℕ
  here = names_among (fresh_terms (slice_get strands (get_or is k d).strand) (get_or is k d).args)

  pub fresh_stop : (n : ℕ) → first_again seen here ≡ Some n → first_again seen (fresh_names strands (drop k is)) ≡ Some n
  fresh_stop n e = ap (first_again seen) (fresh_step strands is k d l) ∙ again_stops seen here (fresh_names strands (drop (k + 1) is)) n e

  pub fresh_on : (more : List ℕ) → more ≡ seen ++ here → first_again seen here ≡ None → first_again seen (fresh_names strands (drop k is)) ≡ first_again more (fresh_names strands (drop (k + 1) is))
  fresh_on more at e = ap (first_again seen) (fresh_step strands is k d l) ∙ again_on seen here (fresh_names strands (drop (k + 1) is)) e ∙ ap (λ ns. first_again ns (fresh_names strands (drop (k + 1) is))) (sym at)

-- the values of fresh parameters of the instance at k, as they are gone over
module _ (strands : List Strand) (is : List Instance) (k : ℕ) (instance : Instance) (l : k < length is) (at : instance ≡ get_or is k instance)
    (values : List Term) (these : values ≡ fresh_terms (slice_get strands instance.strand) instance.args)
    (seen : List ℕ) (whole : Option ℕ) (rest : first_again seen (fresh_names strands (drop k is)) ≡ whole) (o : Option ℕ) (found : o ≡ first_again seen (names_among values)) where
  are_here : names_among values ≡ here seen strands is k instance l
  are_here = ap names_among these ∙ ap (λ (i : Instance). names_among (fresh_terms (slice_get strands i.strand) i.args)) at

  pub told : is_some o ≡ true → o ≡ whole
  told some = by o found some
    where
      by : (p : Option ℕ) → p ≡ first_again seen (names_among values) → is_some p ≡ true → p ≡ whole
      by None e s = cc
      by (Some n) e s = sym (sym rest ∙ fresh_stop seen strands is k instance l n (ap (first_again seen) (sym are_here) ∙ sym e))

  pub goes_on : is_some o ≡ false → (more : List ℕ) → IfNone o (more ≡ seen ++ names_among values) → first_again more (fresh_names strands (drop (k + 1) is)) ≡ whole
  goes_on none more these_more = by o found none these_more
    where
      by : (p : Option ℕ) → p ≡ first_again seen (names_among values) → is_some p ≡ false → IfNone p (more ≡ seen ++ names_among values) → first_again more (fresh_names strands (drop (k + 1) is)) ≡ whole
      by None e s m = sym (fresh_on seen strands is k instance l more (m ∙ ap (λ ns. seen ++ ns) are_here) (ap (first_again seen) (sym are_here) ∙ sym e)) ∙ rest
      by (Some n) e s m = cc
