-- Where a substitution that serves normal values isn't settled, an own application of the row has an instance
-- that equals an instance of a left side.
use Rattle.std.proofs.Common.{◌≡◌, ◌≢◌, ◌⊎◌, ℕ, Bool, true, false, List, [], ◌∷◌, map, take, drop, inl, inr, refl, sym, ◌∙◌, subst}
use Rattle.std.specs.Prelude.{Contains}
use Rattle.std.specs.List.{flat_map}
use Rattle.npa_term.specs.declared.term.Var.{Var as Variable}
use Rattle.npa_term.specs.declared.term.Term.{Term, Var, Name, App}
use Rattle.npa_term.specs.Bound.{applied}
use Rattle.npa_term.specs.Canonical.{canonical}
use Rattle.npa_term.specs.Parts.{image}
use Rattle.npa_term.specs.Same.{Same}
use Rattle.npa_term.specs.Symbols.{symbol_count}
use Rattle.npa_term.specs.Variables.{variables}
use Rattle.npa_term.proofs.Induction.{term_cases}
use Rattle.npa_term.proofs.Parts.{is_app}
use Rattle.npa_term.proofs.Renumbered.{member_variable, of_member}
use Rattle.npa_term.proofs.Rows.{applied_at}
use Rattle.npa_term.proofs.SameCases.{same_only_name}
use Rattle.npa_term.proofs.SameLaws.{same_sym, same_applied}
use Rattle.npa_sig.specs.declared.protocol.Equation.{Equation}
use Rattle.npa_rewrite.specs.declared.theory.Theory.{Theory}
use Rattle.npa_rewrite.specs.Reducing.{top}
use Rattle.npa_rewrite.specs.Rewriting.{AllCancel, FitsSorts, IsNormal, Rewrites, Steps, none, more}
use Rattle.npa_rewrite.proofs.Existence.{has_normal}
use Rattle.npa_rewrite.proofs.InstanceParts.{here, behind, member_cases, image_part, part_applied, part_of_instance}
use Rattle.npa_rewrite.proofs.InstanceSteps.{Redex, redex}
use Rattle.npa_rewrite.proofs.Kept.{shape_of}
use Rattle.npa_rewrite.proofs.Lightening.{cancel_lightens}
use Rattle.npa_rewrite.proofs.Parts.{normal_part}
use Rattle.npa_rewrite.proofs.Positions.{rewrites}
use Rattle.npa_rewrite.proofs.Under.{normal_same}
use Rattle.npa_variants.specs.Rows.{Row, is_among, is_application, own_parts, parts}
use Rattle.npa_variants.proofs.Listing.{among, is_own, of_parts}
use Rattle.npa_variants.proofs.Members.{none_there, of_flat}

-- what makes any steps makes a first one
some_step : (th : Theory) {t u v : Term} → Steps th t u → Rewrites th u v → (w : Term) × Rewrites th t w
some_step th none r = (_, r)
some_step th (more u w p q) r = some_step th p q

normal_or_first : (th : Theory) {t u : Term} → Steps th t u → IsNormal th u → IsNormal th t ⊎ ((w : Term) × Rewrites th t w)
normal_or_first th none normal = inl normal
normal_or_first th (more u w p r) normal = inr (some_step th p r)

-- a term is normal or makes a step
pub normal_or_step : (th : Theory) → AllCancel th → (t : Term) → IsNormal th t ⊎ ((w : Term) × Rewrites th t w)
normal_or_step th cancel t = let form = has_normal th symbol_count (cancel_lightens th cancel) t in normal_or_first th form.1 form.2

-- what equals an instance of a left side isn't normal
pub reducible : (th : Theory) (e : Equation) (z : List (Variable × Term)) (t : Term) → Contains th.equations e → FitsSorts th.sig.sorts (variables e.left) z →
    Same (applied z e.left) t → IsNormal th t → ⊥
reducible th e z t listed fits same normal = normal (canonical (applied z e.right)) (rewrites th (top e z t listed fits (same_sym same)))

-- An own application of a row, and an equation, whose instances are equal.
pub record Found (th : Theory) (m : ℕ) (r : Row) (s : List (Variable × Term)) : Type 0 where
  pub part : Term
  pub own : Contains (own_parts m r) part
  pub equation : Equation
  pub listed : Contains th.equations equation
  pub values : List (Variable × Term)
  pub fits : FitsSorts th.sig.sorts (variables equation.left) values
  pub equal : Same (applied values equation.left) (applied s part)

module _ (th : Theory) (cancel : AllCancel th) (m : ℕ) (r : Row) (s : List (Variable × Term))
    (inside_values : (y : Variable) → Contains (flat_map variables (drop m r)) y → Contains (flat_map variables (take m r)) y)
    (normal : (t : Term) → Contains (take m r) t → IsNormal th (applied s t)) where
  -- the terms of the variables are normal
  variable_normal : (t : Term) (y : Variable) → Contains (drop m r) t → Contains (variables t) y → IsNormal th (image s y)
  variable_normal t y c d =
      let at = of_member (take m r) y (inside_values y (member_variable (drop m r) t y c d)) in
      normal_part th (image_part s y at.0 at.2) (normal at.0 at.1)

  -- an application, since a left side is one
  app_there : (e : Equation) (z : List (Variable × Term)) → Contains th.equations e → (u : Term) → ((v : Variable) → u ≢ Var v) → Same (applied z e.left) (applied s u) →
      is_application u ≡ true
  app_there e z listed =
      term_cases (λ u. ((v : Variable) → u ≢ Var v) → Same (applied z e.left) (applied s u) → is_application u ≡ true)
      (λ v proper same. absurd (proper v refl))
      (λ n proper same.
      let shape = shape_of th cancel e listed in
      let app = is_app e.left shape.left shape.var shape.occurs in
      let one : applied z e.left ≡ Name n = same_only_name (same_sym same) n refl in
      let two : applied z e.left ≡ App app.0 (map (applied z) app.1) = applied_at z e.left app.0 app.1 app.2 in
      let both : Name n ≡ App app.0 (map (applied z) app.1) = sym one ∙ two in cc)
      (λ op ts proper same. refl)

  -- no part of a value has such an instance
  not_among : (u : Term) → (IsNormal th (applied s u) → ⊥) → is_among (flat_map parts (take m r)) u ≡ false
  not_among u never = by (is_among (flat_map parts (take m r)) u) refl
    where
      by : (b : Bool) → is_among (flat_map parts (take m r)) u ≡ b → b ≡ false
      by false e = refl
      by true e =
          let at = among (flat_map parts (take m r)) u e in
          let of = of_flat parts (take m r) at.0 at.1 in
          let part : IsNormal th (applied s at.0) = normal_part th (part_applied s (of_parts of.0 at.0 of.2)) (normal of.0 of.1) in
          absurd (never (normal_same th (applied s at.0) (applied s u) (same_sym (same_applied s at.2)) part))

  found_at : (t : Term) → Contains (drop m r) t → Redex th (applied s t) → Found th m r s
  found_at t c x =
      elim (part_of_instance s t x.part x.there) [
        | inl of ↦
            let same : Same (applied x.values x.equation.left) (applied s of.part) = subst (Same (applied x.values x.equation.left)) of.form x.equal in
            record {
              part = of.part;
              own = is_own m r of.part t c of.there (app_there x.equation x.values x.listed of.part of.proper same)
                  (not_among of.part (reducible th x.equation x.values (applied s of.part) x.listed x.fits same));
              equation = x.equation;
              listed = x.listed;
              values = x.values;
              fits = x.fits;
              equal = same;
            }
        | inr of ↦
            absurd (reducible th x.equation x.values x.part x.listed x.fits x.equal (normal_part th of.there (variable_normal t of.var c of.occurs)))
      ]

  -- all terms are normal, or an own application has a redex
  pub settled_or_found : (ts : List Term) → ((t : Term) → Contains ts t → Contains (drop m r) t) → ((t : Term) → Contains ts t → IsNormal th (applied s t)) ⊎ Found th m r s
  settled_or_found [] there = inl (λ t c. absurd (none_there t c))
  settled_or_found (t ∷ ts) there =
      elim (normal_or_step th cancel (applied s t)) [
        | inl one ↦ elim (settled_or_found ts (λ u c. there u (behind t u ts c))) [
          | inl rest ↦ inl (λ u c. elim (member_cases t u ts c) [ inl e ↦ subst (λ x. IsNormal th (applied s x)) e one | inr d ↦ rest u d ])
          | inr found ↦ inr found
        ]
        | inr step ↦ inr (found_at t (there t (here t ts)) (redex th (applied s t) step.0 step.1))
      ]
