-- Where critical pairs are joined and equations make terms lighter, each term has one normal form
-- (Newman 1942; modulo an equational theory: Huet 1980).
use Rattle.std.proofs.Common.{◌≡◌, ◌<◌, ◌⊎◌, ℕ, zero, suc, sym, ◌∙◌, inl, inr, arith}
use Rattle.std.specs.Prelude.{IsTrue}
use Rattle.npa_term.specs.declared.term.Term.{Term}
use Rattle.npa_term.specs.Canonical.{canonical}
use Rattle.npa_term.specs.Same.{Same, through}
use Rattle.npa_term.specs.Symbols.{symbol_count}
use Rattle.npa_term.proofs.SameLaws.{same_sym}
use Rattle.npa_sig.specs.Operators.{PairsCommute}
use Rattle.npa_sig.specs.Sorting.{well_sorted}
use Rattle.npa_rewrite.specs.declared.theory.Theory.{Theory}
use Rattle.npa_rewrite.specs.Lightening.{Lightens}
use Rattle.npa_rewrite.specs.Reducing.{Reduces, Leads, chain}
use Rattle.npa_rewrite.specs.Rewriting.{AllCancel, IsConvergent, IsNormal, IsNormalFormOf}
use Rattle.npa_rewrite.proofs.Existence.{has_normal, lighter_form_exists}
use Rattle.npa_rewrite.proofs.Kept.{steps_canonical}
use Rattle.npa_rewrite.proofs.Leading.{first_step, steps_lead}
use Rattle.npa_rewrite.proofs.Lightening.{cancel_lightens, reduces_lighter}
use Rattle.npa_rewrite.proofs.Positions.{rewrites}
use Rattle.npa_rewrite.proofs.Sorted.{lighter_form_sorted}
use Rattle.npa_rewrite.proofs.Sorting.{sorted_canonical}
use Rattle.npa_rewrite.proofs.Under.{normal_same}
use Rattle.npa_conv.specs.Critical.{AreCritical}
use Rattle.npa_conv.specs.Overlaps.{AreHoleless}
use Rattle.npa_conv.proofs.Local.{local}

-- a term that makes a step is equal to no normal term
no_step : (th : Theory) (t u x : Term) → Same t u → IsNormal th u → Reduces th t x → ⊥
no_step th t u x same normal r = normal_same th u t (same_sym same) normal (canonical x) (rewrites th r)

module _ (th : Theory) (weigh : Term → ℕ) (light : Lightens th weigh) (holeless : AreHoleless th) (critical : AreCritical th) where
  abbrev Alike : ℕ → Type 0
  Alike n = (t u v : Term) → weigh t < n → Leads th t u → Leads th t v → IsNormal th u → IsNormal th v → Same u v

  -- two first steps, and what comes of them
  both_step : (n : ℕ) (t u v x y : Term) → Alike n → weigh t < suc n → Reduces th t x → Leads th x u → Reduces th t y → Leads th y v → IsNormal th u → IsNormal th v → Same u v
  both_step n t u v x y rest small r p s q first second =
      let join = local th weigh light holeless critical t x y r s in
      let form = has_normal th weigh light join.to in
      let end : Leads th join.to form.0 = steps_lead th form.1 in
      let less : weigh x < weigh t = reduces_lighter th weigh light r in
      let also : weigh y < weigh t = reduces_lighter th weigh light s in
      let one : Same u form.0 = rest x u form.0 (omega (arith, less, small)) p (chain x join.to form.0 join.left end) first form.2 in
      let two : Same v form.0 = rest y v form.0 (omega (arith, also, small)) q (chain y join.to form.0 join.right end) second form.2 in
      through u form.0 v one (same_sym two)

  either_step : (n : ℕ) (t u v : Term) → Alike n → weigh t < suc n → IsNormal th u → IsNormal th v → Same t u ⊎ ((x : Term) × Reduces th t x × Leads th x u) →
      Same t v ⊎ ((x : Term) × Reduces th t x × Leads th x v) → Same u v
  either_step n t u v rest small first second (inl a) (inl b) = through u t v (same_sym a) b
  either_step n t u v rest small first second (inl a) (inr b) = absurd (no_step th t u b.0 a first b.1)
  either_step n t u v rest small first second (inr a) (inl b) = absurd (no_step th t v a.0 b second a.1)
  either_step n t u v rest small first second (inr a) (inr b) = both_step n t u v a.0 b.0 rest small a.1 a.2 b.1 b.2 first second

  one_within : (n : ℕ) → Alike n
  one_within zero t u v small p q first second = absurd (let never : ⊥ = omega (arith, small) in never)
  one_within (suc n) t u v small p q first second = either_step n t u v (one_within n) small first second (first_step th p) (first_step th q)

  -- two normal forms of a term are equal modulo commutativity
  pub one_normal : (t u v : Term) → IsNormalFormOf th t u → IsNormalFormOf th t v → Same u v
  one_normal t u v f g =
      one_within (suc (weigh (canonical t))) (canonical t) u v (omega arith) (steps_lead th f.reached) (steps_lead th g.reached) f.normal g.normal

  -- and those of a well-sorted term are one
  one_canonical : PairsCommute th.sig → (t u v : Term) → IsTrue (well_sorted th.sig t) → IsNormalFormOf th t u → IsNormalFormOf th t v → v ≡ u
  one_canonical pairs t u v sorted f g =
      let same : canonical v ≡ canonical u = sorted_canonical th.sig pairs v u (one_normal t v u g f) (lighter_form_sorted th weigh light pairs t v g.reached sorted) in
      sym (steps_canonical th t g.reached) ∙ same ∙ steps_canonical th t f.reached

  pub lighter_convergent : PairsCommute th.sig → IsConvergent th
  lighter_convergent pairs t sorted =
      let form = lighter_form_exists th weigh light t in
      (form.0, form.1, λ v g. one_canonical pairs t form.0 v sorted form.1 g)

-- where all equations cancel and the critical pairs are joined, the theory is convergent
pub critical_convergent : (th : Theory) → AllCancel th → PairsCommute th.sig → AreHoleless th → AreCritical th → IsConvergent th
critical_convergent th cancel pairs holeless critical = lighter_convergent th symbol_count (cancel_lightens th cancel) holeless critical pairs
