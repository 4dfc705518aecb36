-- The places of an application, and instances of a term with the hole in a place.
use Rattle.std.proofs.Common.{◌≡◌, cond, Some, List, [], ◌∷◌, ◌++◌, map, refl, sym, ◌∙◌, ap, subst, inl, inr}
use Rattle.std.specs.Prelude.{Contains, unwrap_or}
use Rattle.npa_term.specs.declared.term.Op.{Op}
use Rattle.npa_term.specs.declared.term.Var.{Var as Variable}
use Rattle.npa_term.specs.declared.term.Term.{Term, Var, App, Row_of-Term, end_of-Term, more_of-Term, items-the_row-Term, items_hidden-the_row-Term-0}
use Rattle.npa_term.specs.declared.term.Term.TheBlock.{hidden-the_row-Term-0}
use Rattle.npa_term.specs.Bound.{applied, value_of}
use Rattle.npa_term.specs.Parts.{image}
use Rattle.npa_term.specs.Variables.{variables}
use Rattle.npa_term.proofs.AppliedLaws.{applied_alike}
use Rattle.npa_term.proofs.Equality.{var_itself}
use Rattle.npa_unify.proofs.Members.{here, later, nowhere, member_cases}
use Rattle.npa_unify.proofs.PairVariables.{var_differ}
use Rattle.npa_conv.specs.Overlaps.{hole, holes, list_holes, row_holes}

-- the places of a row are those of its list
row_holes_is : {n : _} (k : Row_of-Term n) → row_holes k ≡ list_holes (items-the_row-Term n k)
row_holes_is end_of-Term = refl
row_holes_is (more_of-Term t rest) =
    ap (λ ps. map (λ p. (p.0, p.1 ∷ items-the_row-Term _ rest)) (holes t) ++ map (λ p. (p.0, t ∷ p.1)) ps) (row_holes_is rest)

-- the places of an application: its own, and those of its arguments
pub holes_app : (op : Op) (ts : List Term) → holes (App op ts) ≡ (App op ts, Var hole) ∷ map (λ p. (p.0, App op p.1)) (list_holes ts)
holes_app op ts =
    let k = hidden-the_row-Term-0 ts in
    ap (λ ps. (App op (items-the_row-Term _ k), Var hole) ∷ map (λ p. (p.0, App op p.1)) ps) (row_holes_is k)
    ∙ ap (λ us. (App op us, Var hole) ∷ map (λ p. (p.0, App op p.1)) (list_holes us)) (items_hidden-the_row-Term-0 ts)

pub map_member : {X Y : Type 0} (f : X → Y) (xs : List X) (x : X) → Contains xs x → Contains (map f xs) (f x)
map_member f [] x c = absurd (nowhere x c)
map_member f (z ∷ zs) x c =
    elim (member_cases z x zs c) [
      | inl e ↦ subst (λ w. Contains (f z ∷ map f zs) (f w)) e (here (f z) (map f zs))
      | inr d ↦ later (f z) (f x) (map f zs) (map_member f zs x d)
    ]

-- a term without the hole is as it was
pub plain : (s : List (Variable × Term)) (r t : Term) → (Contains (variables t) hole → ⊥) → applied s t ≡ applied ((hole, r) ∷ s) t
plain s r t free =
    applied_alike s ((hole, r) ∷ s) t
    (λ v c. sym (ap (λ b. cond b (Some r) (value_of s v)) (var_differ hole v (λ e. free (subst (Contains (variables t)) (sym e) c)))))

-- a bound variable has its term
pub bound_image : (s : List (Variable × Term)) (x : Variable) (t : Term) → image ((x, t) ∷ s) x ≡ t
bound_image s x t = ap (λ b. unwrap_or (cond b (Some t) (value_of s x)) (Var x)) (var_itself x)
