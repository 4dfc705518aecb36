-- The list of the parts of a term has just these.
use Rattle.std.proofs.Common.{◌≡◌, List, [], ◌∷◌, ◌++◌, refl, sym, ◌∙◌, ap, subst, inl, inr}
use Rattle.std.specs.Prelude.{Contains}
use Rattle.std.specs.List.{flat_map}
use Rattle.npa_term.specs.declared.term.Op.{Op}
use Rattle.npa_term.specs.declared.term.Term.{Term, Var, Name, App, Row_of-Term, end_of-Term, more_of-Term, items-the_row-Term, items_hidden-the_row-Term-0}
use Rattle.npa_term.specs.declared.term.Term.TheBlock.{hidden-the_row-Term-0}
use Rattle.npa_term.specs.Parts.{IsPart, whole, inside}
use Rattle.npa_term.proofs.Induction.{Each, by_terms, term_cases}
use Rattle.npa_unify.proofs.Members.{here, later, nowhere, member_cases, only_one, flat_map_member, member_flat_map}
use Rattle.npa_accept.specs.Parts.{parts, row_parts}

row_parts_is : {n : _} (k : Row_of-Term n) → row_parts k ≡ flat_map parts (items-the_row-Term n k)
row_parts_is end_of-Term = refl
row_parts_is (more_of-Term t rest) = ap (λ us. parts t ++ us) (row_parts_is rest)

pub parts_app : (op : Op) (ts : List Term) → parts (App op ts) ≡ App op ts ∷ flat_map parts ts
parts_app op ts =
    let k = hidden-the_row-Term-0 ts in
    ap (λ us. App op ts ∷ us) (row_parts_is k ∙ ap (flat_map parts) (items_hidden-the_row-Term-0 ts))

pub parts_at : (t : Term) (op : Op) (ts : List Term) → t ≡ App op ts → parts t ≡ t ∷ flat_map parts ts
parts_at t op ts e = subst (λ u. parts u ≡ u ∷ flat_map parts ts) (sym e) (parts_app op ts)

-- a term is the first of its parts
pub itself_listed : (t : Term) → Contains (parts t) t
itself_listed =
    term_cases (λ t. Contains (parts t) t) (λ v. here (Var v) []) (λ n. here (Name n) [])
    (λ op ts. subst (λ us. Contains us (App op ts)) (sym (parts_app op ts)) (here (App op ts) (flat_map parts ts)))

pub part_listed : {u t : Term} → IsPart u t → Contains (parts t) u
part_listed {u} whole = itself_listed u
part_listed {u} (inside op us w c p) =
    subst (λ xs. Contains xs u) (sym (parts_app op us)) (later (App op us) u (flat_map parts us) (member_flat_map parts us w u c (part_listed p)))

of_member : (u : Term) (ts : List Term) (w : Term) → Each (λ t. Contains (parts t) u → IsPart u t) ts → Contains ts w → Contains (parts w) u → IsPart u w
of_member u [] w each c d = absurd (nowhere w c)
of_member u (t ∷ ts) w each c d =
    elim (member_cases t w ts c) [ inl is ↦ subst (λ x. Contains (parts x) u → IsPart u x) is each.0 d | inr e ↦ of_member u ts w each.1 e d ]

pub listed_part : (u : Term) (t : Term) → Contains (parts t) u → IsPart u t
listed_part u =
    by_terms (λ t. Contains (parts t) u → IsPart u t)
    (λ v c. subst (λ x. IsPart u x) (sym (only_one (Var v) u c)) whole)
    (λ n c. subst (λ x. IsPart u x) (sym (only_one (Name n) u c)) whole)
    (λ op ts each c.
    elim (member_cases (App op ts) u (flat_map parts ts) (subst (λ us. Contains us u) (parts_app op ts) c)) [
      | inl is ↦ subst (λ x. IsPart u x) (sym is) whole
      | inr d ↦ let at = flat_map_member parts ts u d in inside op ts at.0 at.1 (of_member u ts at.0 each at.1 at.2)
    ])
