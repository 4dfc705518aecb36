-- What is said of an application's arguments as a row of the term is the same said of their list.
use Rattle.std.proofs.Common.{◌≡◌, ℕ, Bool, true, false, ◌&&◌, List, ◌∷◌, map, refl, ap, sym, ◌∙◌, slice_get, drop, length, ◌<◌, ◌≤◌, ◌+◌, get_or, drop-cons, add-one}
use Rattle.std.proofs.lemmas.List.{drop_all}
use Rattle.std.specs.List.{list_all}
use Rattle.npa_term.specs.declared.term.Op.{Op}
use Rattle.npa_term.specs.declared.term.Term.{Term, App, Row_of-Term, end_of-Term, more_of-Term, items-the_row-Term, items_hidden-the_row-Term-0}
use Rattle.npa_term.specs.declared.term.Term.TheBlock.{hidden-the_row-Term-0}
use Rattle.npa_sig.specs.Signature.{Signature}
use Rattle.npa_sig.specs.Sorting.{well_sorted, well_sorted_row, sorts_of_row, is_declared}
use Rattle.npa_term.specs.Parts.{least_sort}

sorts_items : {n : _} (k : Row_of-Term n) → sorts_of_row k ≡ map least_sort (items-the_row-Term n k)
sorts_items end_of-Term = refl
sorts_items (more_of-Term t rest) = ap (λ ss. least_sort t ∷ ss) (sorts_items rest)

well_sorted_items : {n : _} (sig : Signature) (k : Row_of-Term n) → well_sorted_row sig k ≡ list_all (well_sorted sig) (items-the_row-Term n k)
well_sorted_items sig end_of-Term = refl
well_sorted_items sig (more_of-Term t rest) = ap (λ b. well_sorted sig t && b) (well_sorted_items sig rest)

pub well_sorted_at : (sig : Signature) (t : Term) (op : Op) (ts : List Term) → t ≡ App op ts → well_sorted sig t ≡ (is_declared sig op (map least_sort ts) (slice_get sig.ops op.num) && list_all (well_sorted sig) ts)
well_sorted_at sig t op ts e =
    let k = hidden-the_row-Term-0 ts in
    let listed = items_hidden-the_row-Term-0 ts in
    ap (well_sorted sig) e
    ∙ ap (λ ss. is_declared sig op ss (slice_get sig.ops op.num) && well_sorted_row sig k) (sorts_items k ∙ ap (map least_sort) listed)
    ∙ ap (λ b. is_declared sig op (map least_sort ts) (slice_get sig.ops op.num) && b) (well_sorted_items sig k ∙ ap (list_all (well_sorted sig)) listed)

pub well_sorted_step : (sig : Signature) (args : List Term) (k : ℕ) (d : Term) → k < length args →
    list_all (well_sorted sig) (drop k args) ≡ (well_sorted sig (get_or args k d) && list_all (well_sorted sig) (drop (k + 1) args))
well_sorted_step sig args k d p = rw (drop-cons args k d, add-one) refl

-- t is an application; `given` and `items` are its arguments, as they were passed on and gone over
module _ (sig : Signature) (t : Term) (op : Op) (ts given : List Term) (is : t ≡ App op ts) (passed : given ≡ ts) where
  abbrev declared : Bool
  declared = is_declared sig op (map least_sort given) (slice_get sig.ops op.num)

  at_given : well_sorted sig t ≡ (declared && list_all (well_sorted sig) given)
  at_given = well_sorted_at sig t op given (is ∙ ap (App op) (sym passed))

  pub not_declared : declared ≡ false → false ≡ well_sorted sig t
  not_declared e = sym (at_given ∙ ap (λ b. b && list_all (well_sorted sig) given) e)

  module _ (items : List Term) (same : items ≡ ts) (e : declared ≡ true) where
    whole : well_sorted sig t ≡ list_all (well_sorted sig) items
    whole = at_given ∙ ap (λ b. b && list_all (well_sorted sig) given) e ∙ ap (list_all (well_sorted sig)) (passed ∙ sym same)

    pub not_all_sorted : (k : ℕ) (u : Term) → k < length items → u ≡ get_or items k u → list_all (well_sorted sig) (drop k items) ≡ list_all (well_sorted sig) items → well_sorted sig u ≡ false → false ≡ well_sorted sig t
    not_all_sorted k u l at rest f =
        let none : list_all (well_sorted sig) items ≡ false = sym rest ∙ well_sorted_step sig items k u l ∙ ap (λ (v : Term). well_sorted sig v && list_all (well_sorted sig) (drop (k + 1) items)) (sym at) ∙ ap (λ b. b && list_all (well_sorted sig) (drop (k + 1) items)) f in
        sym (whole ∙ none)

    pub all_sorted : (k : ℕ) → length items ≤ k → list_all (well_sorted sig) (drop k items) ≡ list_all (well_sorted sig) items → true ≡ well_sorted sig t
    all_sorted k l rest = sym (whole ∙ sym rest ∙ ap (list_all (well_sorted sig)) (drop_all k items l))
