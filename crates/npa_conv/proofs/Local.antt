-- Where critical pairs are joined, any two steps of one term are (the critical pair lemma: Huet 1980;
-- modulo commutativity: Peterson, Stickel 1981).
use Rattle.std.proofs.Common.{◌≡◌, ◌⊎◌, ℕ, true, false, cond, Some, List, [], ◌∷◌, refl, sym, subst, inl, inr}
use Rattle.std.specs.Prelude.{Contains, unwrap_or}
use Rattle.npa_sorts.specs.Subsorts.{IsAtOrBelow}
use Rattle.npa_sorts.proofs.Steps.{at_or_below_trans}
use Rattle.npa_term.specs.declared.term.Op.{Op}
use Rattle.npa_term.specs.declared.term.Var.{Var as Variable}
use Rattle.npa_term.specs.declared.term.Term.{Term, Var, App}
use Rattle.npa_term.specs.Bound.{applied, same_var, value_of}
use Rattle.npa_term.specs.Parts.{image, least_sort}
use Rattle.npa_term.specs.Same.{itself}
use Rattle.npa_term.specs.Variables.{variables}
use Rattle.npa_term.proofs.Equality.{var_equal}
use Rattle.npa_term.proofs.Induction.{Each, by_terms}
use Rattle.npa_term.proofs.SameLaws.{same_sym}
use Rattle.npa_sig.specs.declared.protocol.Equation.{Equation}
use Rattle.npa_rewrite.specs.declared.theory.Theory.{Theory}
use Rattle.npa_rewrite.specs.Lightening.{Lightens}
use Rattle.npa_rewrite.specs.Reducing.{Reduces, top, ReducesOne, now, later, Leads, equal, step, chain, Joins}
use Rattle.npa_rewrite.specs.Rewriting.{FitsSorts}
use Rattle.npa_rewrite.proofs.Leading.{LeadsAll, leads_all, leads_itself, spread}
use Rattle.npa_rewrite.proofs.Lightening.{reduces_sort}
use Rattle.npa_rewrite.proofs.Positions.{classes, nothing_reduces}
use Rattle.npa_conv.specs.Critical.{AreCritical}
use Rattle.npa_conv.specs.Overlaps.{AreHoleless}
use Rattle.npa_conv.proofs.Places.{At, Below, InOne, OfFirst, OfRest, Top, cases_app, cases_one, leads_itself_all, no_name, no_variable, places}

-- lists that lead to one list, place by place
record JoinsAll (th : Theory) (ts us : List Term) : Type 0 where
  to : List Term
  left : LeadsAll th ts to
  right : LeadsAll th us to

joins_turned : (th : Theory) (t u : Term) → Joins th t u → Joins th u t
joins_turned th t u j = record { to = j.to; left = j.right; right = j.left }

-- what leads to a term that is joined with another is joined with it
joins_before : (th : Theory) (t u v w : Term) → t ≡ u → Leads th v w → Joins th u w → Joins th t v
joins_before th t u v w is leads j = record {
  to = j.to;
  left = subst (λ x. Leads th x j.to) (sym is) j.left;
  right = chain v w j.to leads j.right;
}

one_leads : (th : Theory) {ts us : List Term} → ReducesOne th ts us → LeadsAll th ts us
one_leads th (now t u ts r) = (step t u r, leads_itself_all th ts)
one_leads th (later t ts us r) = (leads_itself th t, one_leads th r)

module _ (th : Theory) (weigh : Term → ℕ) (light : Lightens th weigh) where
  -- a substitution still fits after a step of the term of a variable
  stepped_fits : (vs : List Variable) (s : List (Variable × Term)) (x : Variable) (w : Term) → Contains vs x → Reduces th (image s x) w → FitsSorts th.sig.sorts vs s → FitsSorts th.sig.sorts vs ((x, w) ∷ s)
  stepped_fits vs s x w c r fits v d =
      elim (same_var x v) as (λ b. same_var x v ≡ b → IsAtOrBelow th.sig.sorts (least_sort (unwrap_or (cond b (Some w) (value_of s v)) (Var v))) v.sort) [
        | true ↦ λ e. subst (λ (y : Variable). IsAtOrBelow th.sig.sorts (least_sort w) y.sort) (var_equal x v e) (at_or_below_trans (reduces_sort th weigh light r) (fits x c))
        | false ↦ λ e. fits v d
      ] refl

  -- a step of the term itself and one below a variable of the left side
  below_joins : (e : Equation) (s : List (Variable × Term)) (v : Term) → Contains th.equations e → FitsSorts th.sig.sorts (variables e.left) s → Below th s e.left v → Joins th (applied s e.right) v
  below_joins e s v c fits b =
      let r : List (Variable × Term) = (b.var, b.to) ∷ s in
      let again : Reduces th (applied r e.left) (applied r e.right) = top e r (applied r e.left) c (stepped_fits (variables e.left) s b.var b.to b.occurs b.reduces fits) (itself (applied r e.left)) in
      record {
        to = applied r e.right;
        left = spread th s b.var b.to (step (image s b.var) b.to b.reduces) e.right;
        right = chain v (applied r e.left) (applied r e.right) b.leads (step (applied r e.left) (applied r e.right) again);
      }

  module _ (holeless : AreHoleless th) (critical : AreCritical th) where
    at_joins : (e : Equation) (s : List (Variable × Term)) (v : Term) → Contains th.equations e → FitsSorts th.sig.sorts (variables e.left) s → At th s e.left v → Joins th (applied s e.right) v
    at_joins e s v c fits a =
        subst (Joins th (applied s e.right)) (sym a.form) (critical e a.equation c a.listed s a.values fits a.fits a.part a.around a.is a.same)

    top_local : (t u v : Term) → Top th t u → Reduces th t v → Joins th u v
    top_local t u v f r =
        let left : Term = applied f.values f.equation.left in
        let one = classes th r left (same_sym f.same) in
        joins_before th u (applied f.values f.equation.right) v one.0 f.form (equal v one.0 (same_sym one.2))
        (elim (places th weigh light f.values f.equation.left one.0 (holeless f.equation f.listed) one.1) [
          | inl b ↦ below_joins f.equation f.values one.0 f.listed f.fits b
          | inr a ↦ at_joins f.equation f.values one.0 f.listed f.fits a
        ])

    abbrev IsLocal : Term → Type 0
    IsLocal t = (u v : Term) → Reduces th t u → Reduces th t v → Joins th u v

    -- two steps in one list
    both_first : (t : Term) (ts : List Term) (u v : Term) → Joins th u v → JoinsAll th (u ∷ ts) (v ∷ ts)
    both_first t ts u v j = record { to = j.to ∷ ts; left = (j.left, leads_itself_all th ts); right = (j.right, leads_itself_all th ts) }

    apart : (t u : Term) (ts us : List Term) → Reduces th t u → ReducesOne th ts us → JoinsAll th (u ∷ ts) (t ∷ us)
    apart t u ts us r q = record { to = u ∷ us; left = (leads_itself th u, one_leads th q); right = (step t u r, leads_itself_all th us) }

    turned : (ts us : List Term) → JoinsAll th ts us → JoinsAll th us ts
    turned ts us j = record { to = j.to; left = j.right; right = j.left }

    both_rest : (t : Term) (us vs : List Term) → JoinsAll th us vs → JoinsAll th (t ∷ us) (t ∷ vs)
    both_rest t us vs j = record { to = t ∷ j.to; left = (leads_itself th t, j.left); right = (leads_itself th t, j.right) }

    both_cases : (t : Term) (ts us vs : List Term) → IsLocal t → ((as_ bs : List Term) → ReducesOne th ts as_ → ReducesOne th ts bs → JoinsAll th as_ bs) →
        OfFirst th t ts us ⊎ OfRest th t ts us → OfFirst th t ts vs ⊎ OfRest th t ts vs → JoinsAll th us vs
    both_cases t ts us vs here rest first second = from first second
      where
        joined : (as_ bs : List Term) → us ≡ as_ → vs ≡ bs → JoinsAll th as_ bs → JoinsAll th us vs
        joined as_ bs e f j = subst (λ xs. JoinsAll th xs vs) (sym e) (subst (JoinsAll th as_) (sym f) j)

        from : OfFirst th t ts us ⊎ OfRest th t ts us → OfFirst th t ts vs ⊎ OfRest th t ts vs → JoinsAll th us vs
        from (inl a) (inl b) = joined (a.to ∷ ts) (b.to ∷ ts) a.form b.form (both_first t ts a.to b.to (here a.to b.to a.reduces b.reduces))
        from (inl a) (inr b) = joined (a.to ∷ ts) (t ∷ b.to) a.form b.form (apart t a.to ts b.to a.reduces b.reduces)
        from (inr a) (inl b) = joined (t ∷ a.to) (b.to ∷ ts) a.form b.form (turned (b.to ∷ ts) (t ∷ a.to) (apart t b.to ts a.to b.reduces a.reduces))
        from (inr a) (inr b) = joined (t ∷ a.to) (t ∷ b.to) a.form b.form (both_rest t a.to b.to (rest a.to b.to a.reduces b.reduces))

    both_local : (ts us vs : List Term) → Each IsLocal ts → ReducesOne th ts us → ReducesOne th ts vs → JoinsAll th us vs
    both_local [] us vs each r q = absurd (nothing_reduces th r refl)
    both_local (t ∷ ts) us vs each r q = both_cases t ts us vs each.0 (λ as_ bs. both_local ts as_ bs each.1) (cases_one th r) (cases_one th q)

    in_one : (op : Op) (u v : Term) (us vs : List Term) → u ≡ App op us → v ≡ App op vs → JoinsAll th us vs → Joins th u v
    in_one op u v us vs e f j = record {
      to = App op j.to;
      left = subst (λ x. Leads th x (App op j.to)) (sym e) (leads_all th op [] us j.to j.left);
      right = subst (λ x. Leads th x (App op j.to)) (sym f) (leads_all th op [] vs j.to j.right);
    }

    app_local : (op : Op) (ts : List Term) → Each IsLocal ts → IsLocal (App op ts)
    app_local op ts each u v r q = from (cases_app th r op ts refl) (cases_app th q op ts refl)
      where
        from : Top th (App op ts) u ⊎ InOne th op ts u → Top th (App op ts) v ⊎ InOne th op ts v → Joins th u v
        from (inl a) b = top_local (App op ts) u v a q
        from (inr a) (inl b) = joins_turned th v u (top_local (App op ts) v u b r)
        from (inr a) (inr b) = in_one op u v a.arguments b.arguments a.form b.form (both_local ts a.arguments b.arguments each a.reduces b.reduces)

    pub local : (t u v : Term) → Reduces th t u → Reduces th t v → Joins th u v
    local =
        by_terms IsLocal
        (λ x u v r q. absurd (no_variable th weigh light r x refl))
        (λ n u v r q. absurd (no_name th weigh light r n refl))
        app_local
