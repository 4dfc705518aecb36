-- An application under values has its arguments under these.
use Rattle.std.proofs.Common.{◌≡◌, List, ◌∷◌, map, refl, ap, ◌∙◌}
use Rattle.npa_term.specs.declared.term.Op.{Op}
use Rattle.npa_term.specs.declared.term.Term.{Term, App, Row_of-Term, end_of-Term, more_of-Term, items-the_row-Term, items_hidden-the_row-Term-0}
use Rattle.npa_term.specs.declared.term.Term.TheBlock.{hidden-the_row-Term-0}
use Rattle.npa_sig.specs.Values.{under, under_row}

under_row_is : {n : _} (values : List Term) (k : Row_of-Term n) → under_row values k ≡ map (under values) (items-the_row-Term n k)
under_row_is values end_of-Term = refl
under_row_is values (more_of-Term t rest) = ap (λ ts. under values t ∷ ts) (under_row_is values rest)

pub under_at : (values : List Term) (t : Term) (op : Op) (ts : List Term) → t ≡ App op ts → under values t ≡ App op (map (under values) ts)
under_at values t op ts e =
    let k = hidden-the_row-Term-0 ts in
    ap (under values) e ∙ ap (App op) (under_row_is values k ∙ ap (map (under values)) (items_hidden-the_row-Term-0 ts))
