-- A sent term is found at a place that is noted under its fingerprint.
use Rattle.std.proofs.Common.{◌≡◌, ℕ, List, Contains, Some, slice_get, refl, subst, ap, ◌∙◌}
use Rattle.std.proofs.lemmas.List.Elements.{Contains-get_or}
use Rattle.std.proofs.lemmas.Option.{get_or_from_slice_get, slice_get_within}
use Rattle.npa_term.specs.declared.term.Op.{Op}
use Rattle.npa_term.specs.declared.term.Term.{Term, App, Row_of-Term, end_of-Term, more_of-Term, items-the_row-Term, items_hidden-the_row-Term-0}
use Rattle.npa_term.specs.declared.term.Term.TheBlock.{hidden-the_row-Term-0}
use Rattle.npa_model.specs.Sent.{mixed, fingerprint, row_fingerprint, all_fingerprint}

-- the fingerprint of a row is that of its list
row_fingerprint_is : {n : _} (hash : ℕ) (k : Row_of-Term n) → row_fingerprint hash k ≡ all_fingerprint hash (items-the_row-Term n k)
row_fingerprint_is hash end_of-Term = refl
row_fingerprint_is hash (more_of-Term t rest) = row_fingerprint_is (fingerprint hash t) rest

pub fingerprint_at : (hash : ℕ) (t : Term) (op : Op) (ts : List Term) → t ≡ App op ts → fingerprint hash t ≡ all_fingerprint (mixed (mixed hash 3) op.num) ts
fingerprint_at hash t op ts e =
    let k = hidden-the_row-Term-0 ts in
    let start = mixed (mixed hash 3) op.num in
    ap (fingerprint hash) e ∙ row_fingerprint_is start k ∙ ap (all_fingerprint start) (items_hidden-the_row-Term-0 ts)

-- what stands at a place is in the list
pub contains_at : (ts : List Term) (i : ℕ) (t : Term) → slice_get ts i ≡ Some t → Contains ts t
contains_at ts i t at = subst (Contains ts) (get_or_from_slice_get ts i t t at) (Contains-get_or ts i t (slice_get_within ts i t at))
