-- The variables and the sort of an instance.
use Rattle.std.proofs.Common.{List, [], ◌∷◌, map, inl, inr, refl, sym, ap, subst, arith}
use Rattle.std.specs.Prelude.{Contains}
use Rattle.std.specs.List.{flat_map}
use Rattle.std.proofs.lemmas.List.Elements.{Contains-append_left, Contains-append_right, Contains-append_cases}
use Rattle.npa_sorts.specs.Subsorts.{Subsorts, IsAtOrBelow}
use Rattle.npa_term.specs.declared.term.Op.{Op}
use Rattle.npa_term.specs.declared.term.Var.{Var as Variable}
use Rattle.npa_term.specs.declared.term.Term.{Term, Var, App}
use Rattle.npa_term.specs.Bound.{applied}
use Rattle.npa_term.specs.Parts.{image, least_sort}
use Rattle.npa_term.specs.Same.{Same, itself, through, swapped, below, SameAll, nothing, first}
use Rattle.npa_term.specs.Variables.{variables}
use Rattle.npa_term.proofs.Induction.{Each, by_terms, term_cases}
use Rattle.npa_term.proofs.Parts.{only_member}
use Rattle.npa_term.proofs.Rows.{applied_app, variables_at}
use Rattle.npa_rewrite.specs.Rewriting.{FitsSorts}

pub nowhere : (v : Variable) → Contains {X = Variable} [] v → ⊥
nowhere v c = omega (arith, c.1)

-- the variables of an application are those of its arguments
pub in_app : (op : Op) (ts : List Term) (v : Variable) → Contains (flat_map variables ts) v → Contains (variables (App op ts)) v
in_app op ts v c = subst (λ vs. Contains vs v) (sym (variables_at (App op ts) op ts refl)) c

pub of_app : (op : Op) (ts : List Term) (v : Variable) → Contains (variables (App op ts)) v → Contains (flat_map variables ts) v
of_app op ts v c = subst (λ vs. Contains vs v) (variables_at (App op ts) op ts refl) c

turned_variables : (t u : Term) (v : Variable) → Contains (flat_map variables (t ∷ u ∷ [])) v → Contains (flat_map variables (u ∷ t ∷ [])) v
turned_variables t u v c =
    elim (Contains-append_cases (variables t) (flat_map variables (u ∷ [])) v c) [
      | inl a ↦ Contains-append_right (variables u) (flat_map variables (t ∷ [])) v (Contains-append_left (variables t) [] v a)
      | inr b ↦ elim (Contains-append_cases (variables u) [] v b) [ inl a ↦ Contains-append_left (variables u) (flat_map variables (t ∷ [])) v a | inr n ↦ absurd (nowhere v n) ]
    ]

mutual
  -- terms that are equal modulo commutativity have the same variables
  pub same_variables : {t u : Term} → Same t u → (v : Variable) → Contains (variables t) v → Contains (variables u) v
  same_variables (itself t) v c = c
  same_variables (through s t u p q) v c = same_variables q v (same_variables p v c)
  same_variables (swapped op t u swaps) v c = in_app op (u ∷ t ∷ []) v (turned_variables t u v (of_app op (t ∷ u ∷ []) v c))
  same_variables (below op ts us p) v c = in_app op us v (same_all_variables p v (of_app op ts v c))

  same_all_variables : {ts us : List Term} → SameAll ts us → (v : Variable) → Contains (flat_map variables ts) v → Contains (flat_map variables us) v
  same_all_variables nothing v c = c
  same_all_variables (first t u ts us p q) v c =
      elim (Contains-append_cases (variables t) (flat_map variables ts) v c) [
        | inl a ↦ Contains-append_left (variables u) (flat_map variables us) v (same_variables p v a)
        | inr b ↦ Contains-append_right (variables u) (flat_map variables us) v (same_all_variables q v b)
      ]

image_members : (s : List (Variable × Term)) (x w : Variable) (ts : List Term) → Each (λ t. Contains (variables t) x → Contains (variables (image s x)) w → Contains (variables (applied s t)) w) ts →
    Contains (flat_map variables ts) x → Contains (variables (image s x)) w → Contains (flat_map variables (map (applied s) ts)) w
image_members s x w [] each c d = absurd (nowhere x c)
image_members s x w (t ∷ ts) each c d =
    elim (Contains-append_cases (variables t) (flat_map variables ts) x c) [
      | inl a ↦ Contains-append_left (variables (applied s t)) (flat_map variables (map (applied s) ts)) w (each.0 a d)
      | inr b ↦ Contains-append_right (variables (applied s t)) (flat_map variables (map (applied s) ts)) w (image_members s x w ts each.1 b d)
    ]

-- an instance has the variables of the terms of its variables
pub image_variables : (s : List (Variable × Term)) (x w : Variable) (l : Term) → Contains (variables l) x → Contains (variables (image s x)) w → Contains (variables (applied s l)) w
image_variables s x w =
    by_terms (λ l. Contains (variables l) x → Contains (variables (image s x)) w → Contains (variables (applied s l)) w)
    (λ v c d. subst (λ y. Contains (variables (applied s (Var y))) w) (sym (only_member v x c)) d)
    (λ n c d. absurd (nowhere x c))
    (λ op ts each c d.
    subst (λ t. Contains (variables t) w) (sym (applied_app s op ts)) (in_app op (map (applied s) ts) w (image_members s x w ts each (of_app op ts x c) d)))

-- a variable of an instance, with the one of the term that it comes from
pub record ComesFrom (s : List (Variable × Term)) (vs : List Variable) (w : Variable) : Type 0 where
  pub var : Variable
  pub occurs : Contains vs var
  pub of : Contains (variables (image s var)) w

applied_members : (s : List (Variable × Term)) (w : Variable) (ts : List Term) → Each (λ t. Contains (variables (applied s t)) w → ComesFrom s (variables t) w) ts →
    Contains (flat_map variables (map (applied s) ts)) w → ComesFrom s (flat_map variables ts) w
applied_members s w [] each c = absurd (nowhere w c)
applied_members s w (t ∷ ts) each c =
    elim (Contains-append_cases (variables (applied s t)) (flat_map variables (map (applied s) ts)) w c) [
      | inl a ↦ let f = each.0 a in record { var = f.var; occurs = Contains-append_left (variables t) (flat_map variables ts) f.var f.occurs; of = f.of }
      | inr b ↦ let f = applied_members s w ts each.1 b in record { var = f.var; occurs = Contains-append_right (variables t) (flat_map variables ts) f.var f.occurs; of = f.of }
    ]

-- and no others
pub applied_variables : (s : List (Variable × Term)) (w : Variable) (l : Term) → Contains (variables (applied s l)) w → ComesFrom s (variables l) w
applied_variables s w =
    by_terms (λ l. Contains (variables (applied s l)) w → ComesFrom s (variables l) w)
    (λ v c. record { var = v; occurs = (0, omega arith, refl); of = c })
    (λ n c. absurd (nowhere w c))
    (λ op ts each c.
    let f = applied_members s w ts each (of_app op (map (applied s) ts) w (subst (λ t. Contains (variables t) w) (applied_app s op ts) c)) in
    record { var = f.var; occurs = in_app op ts f.var f.occurs; of = f.of })

-- an instance is of a sort at or below the term's
pub sort_instance : (o : Subsorts) (d : List (Variable × Term)) (t : Term) → FitsSorts o (variables t) d → IsAtOrBelow o (least_sort (applied d t)) (least_sort t)
sort_instance o d =
    term_cases (λ t. FitsSorts o (variables t) d → IsAtOrBelow o (least_sort (applied d t)) (least_sort t))
    (λ v q. q v (0, omega arith, refl)) (λ n q. inl refl)
    (λ op ts q. inl (ap least_sort (applied_app d op ts)))
