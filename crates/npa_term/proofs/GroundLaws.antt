-- Terms without variables.
use Rattle.std.proofs.Common.{◌≡◌, List, [], ◌∷◌, ◌++◌, map, refl, sym, ◌∙◌, ap, subst}
use Rattle.std.specs.List.{flat_map}
use Rattle.npa_term.specs.declared.term.Op.{Op}
use Rattle.npa_term.specs.declared.term.Var.{Var as Variable}
use Rattle.npa_term.specs.declared.term.Term.{Term, App}
use Rattle.npa_term.specs.Bound.{applied}
use Rattle.npa_term.specs.Canonical.{ordered, canonical}
use Rattle.npa_term.specs.Variables.{variables, IsGround}
use Rattle.npa_term.proofs.CanonicalLaws.{by_order}
use Rattle.npa_term.proofs.Induction.{Each, by_terms}
use Rattle.npa_term.proofs.Rows.{applied_app, canonical_app, variables_at}

empty_left : (vs ws : List Variable) → vs ++ ws ≡ [] → vs ≡ []
empty_left [] ws e = refl
empty_left (v ∷ vs) ws e = cc

empty_right : (vs ws : List Variable) → vs ++ ws ≡ [] → ws ≡ []
empty_right [] ws e = e
empty_right (v ∷ vs) ws e = cc

-- the members of a list without variables have none
pub ground_members : (ts : List Term) → flat_map variables ts ≡ [] → Each IsGround ts
ground_members [] e = tt
ground_members (t ∷ ts) e =
    (empty_left (variables t) (flat_map variables ts) e, ground_members ts (empty_right (variables t) (flat_map variables ts) e))

pub members_ground : (ts : List Term) → Each IsGround ts → flat_map variables ts ≡ []
members_ground [] each = refl
members_ground (t ∷ ts) each = ap (λ vs. vs ++ flat_map variables ts) each.0 ∙ members_ground ts each.1

pub ground_arguments : (op : Op) (ts : List Term) → IsGround (App op ts) → Each IsGround ts
ground_arguments op ts g = ground_members ts (sym (variables_at (App op ts) op ts refl) ∙ g)

pub ground_app : (op : Op) (ts : List Term) → Each IsGround ts → IsGround (App op ts)
ground_app op ts each = variables_at (App op ts) op ts refl ∙ members_ground ts each

applied_members : (s : List (Variable × Term)) (ts : List Term) → Each (λ t. IsGround t → applied s t ≡ t) ts → Each IsGround ts → map (applied s) ts ≡ ts
applied_members s [] each ground_each = refl
applied_members s (t ∷ ts) each ground_each =
    ap (λ u. u ∷ map (applied s) ts) (each.0 ground_each.0) ∙ ap (λ us. t ∷ us) (applied_members s ts each.1 ground_each.1)

-- a ground term is its own instance
pub applied-ground : (s : List (Variable × Term)) (t : Term) → IsGround t → applied s t ≡ t
applied-ground s =
    by_terms (λ t. IsGround t → applied s t ≡ t) (λ v g. cc) (λ n g. refl)
    (λ op ts each g. applied_app s op ts ∙ ap (App op) (applied_members s ts each (ground_arguments op ts g)))

canonical_members : (ts : List Term) → Each (λ t. IsGround t → IsGround (canonical t)) ts → Each IsGround ts → Each IsGround (map canonical ts)
canonical_members [] each ground_each = tt
canonical_members (t ∷ ts) each ground_each = (each.0 ground_each.0, canonical_members ts each.1 ground_each.1)

-- the canonical form of a ground term is ground
pub ground_canonical : (t : Term) → IsGround t → IsGround (canonical t)
ground_canonical =
    by_terms (λ t. IsGround t → IsGround (canonical t)) (λ v g. g) (λ n g. g)
    (λ op ts each g.
    let members : Each IsGround (map canonical ts) = canonical_members ts each (ground_arguments op ts g) in
    subst IsGround (sym (canonical_app op ts))
    (ground_app op (ordered op (map canonical ts))
    (by_order (Each IsGround) op (map canonical ts) members
    (λ t u e swaps above. let two : Each IsGround (t ∷ u ∷ []) = subst (Each IsGround) e members in (two.1.0, (two.0, tt))))))
