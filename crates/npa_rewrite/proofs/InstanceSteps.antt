-- The steps of instances, and the places of steps.
use Rattle.std.proofs.Common.{◌≡◌, ℕ, List, refl, sym, ◌∙◌, subst, inl, inr}
use Rattle.std.specs.Prelude.{Contains, IsTrue}
use Rattle.npa_term.specs.declared.term.Var.{Var as Variable}
use Rattle.npa_term.specs.declared.term.Term.{Term, Name, App}
use Rattle.npa_term.specs.Bound.{applied}
use Rattle.npa_term.specs.Canonical.{canonical}
use Rattle.npa_term.specs.Parts.{IsPart, whole, inside, image}
use Rattle.npa_term.specs.Same.{Same, through}
use Rattle.npa_term.specs.Variables.{variables}
use Rattle.npa_term.proofs.CanonicalLaws.{canonical_same}
use Rattle.npa_term.proofs.SameCases.{same_only_name}
use Rattle.npa_term.proofs.SameLaws.{same_sym, same_applied}
use Rattle.npa_sig.specs.Operators.{PairsCommute}
use Rattle.npa_sig.specs.Sorting.{well_sorted}
use Rattle.npa_sig.specs.declared.protocol.Equation.{Equation}
use Rattle.npa_rewrite.specs.declared.theory.Theory.{Theory}
use Rattle.npa_rewrite.specs.Innermost.{normalized}
use Rattle.npa_rewrite.specs.Lightening.{Lightens}
use Rattle.npa_rewrite.specs.Reducing.{Reduces, top, under, ReducesOne, now, later}
use Rattle.npa_rewrite.specs.Rewriting.{AllCancel, FitsSorts, IsConvergent, IsNormal, IsNormalFormOf, Rewrites, Steps, none, more}
use Rattle.npa_term.specs.Symbols.{symbol_count}
use Rattle.npa_rewrite.proofs.InstanceParts.{behind, here, image_part, member_cases, part_cases, part_through, same_part}
use Rattle.npa_rewrite.proofs.Instances.{same_variables}
use Rattle.npa_rewrite.proofs.Kept.{one_form, right_is, shape_of, steps_canonical}
use Rattle.npa_rewrite.proofs.Leading.{instance}
use Rattle.npa_rewrite.proofs.Lightening.{cancel_lightens, reduces_variables}
use Rattle.npa_rewrite.proofs.Normalized.{normalized_form, normalized_is}
use Rattle.npa_rewrite.proofs.Positions.{reduces, rewrites}
use Rattle.npa_rewrite.proofs.Sorted.{form_sorted}
use Rattle.npa_rewrite.proofs.Sorting.{sorted_canonical}
use Rattle.npa_rewrite.proofs.Under.{rewrites_same, steps_after}

-- steps of instances

-- an instance of a term that makes a step makes one, to a term that equals the instance
pub record StepsTo (th : Theory) (t u : Term) : Type 0 where
  pub to : Term
  pub step : Rewrites th t to
  pub same : Same to u

pub rewrites_instance : (th : Theory) (d : List (Variable × Term)) (t u : Term) → Rewrites th t u → FitsSorts th.sig.sorts (variables t) d → StepsTo th (applied d t) (applied d u)
rewrites_instance th d t u r fits =
    let own = reduces th t u r in
    let one = instance th d own.1 fits in
    record {
      to = canonical one.0;
      step = rewrites th one.1;
      same = through (canonical one.0) one.0 (applied d u) (same_sym (canonical_same one.0))
          (through one.0 (applied d own.0) (applied d u) one.2 (same_applied d own.2));
    }

-- so a term is normal where an instance of it is
pub normal_of_instance : (th : Theory) (d : List (Variable × Term)) (t : Term) → FitsSorts th.sig.sorts (variables t) d → IsNormal th (applied d t) → IsNormal th t
normal_of_instance th d t fits normal = λ u r. let step = rewrites_instance th d t u r fits in normal step.to step.step

module _ (th : Theory) (weigh : Term → ℕ) (light : Lightens th weigh) where
  -- a step brings no variables
  pub rewrites_variables : (t u : Term) (v : Variable) → Rewrites th t u → Contains (variables u) v → Contains (variables t) v
  rewrites_variables t u v r c =
      let own = reduces th t u r in
      reduces_variables th weigh light own.1 v (same_variables (same_sym own.2) v c)

  steps_variables : {t u : Term} (v : Variable) → Steps th t u → Contains (variables u) v → Contains (variables t) v
  steps_variables v none c = c
  steps_variables v (more u w p r) c = steps_variables v p (rewrites_variables u w v r c)

  -- an instance makes all the steps that the term makes, from any equal term
  pub steps_instance : (d : List (Variable × Term)) (from : Term) {t u : Term} → Same from (applied d t) → FitsSorts th.sig.sorts (variables t) d → Steps th t u →
      (v : Term) × Steps th from v × Same v (applied d u)
  steps_instance d from same fits none = (from, none, same)
  steps_instance d from same fits (more u w p r) =
      let rest = steps_instance d from same fits p in
      let one = rewrites_instance th d u w r (λ v c. fits v (steps_variables v p c)) in
      (one.to, more rest.0 one.to rest.1 (rewrites_same th rest.0 (applied d u) one.to rest.2 one.step), one.same)

-- in a convergent theory the normal form of a term may be taken before an instance is made
pub form_of_instance : (th : Theory) (d : List (Variable × Term)) (t : Term) → AllCancel th → PairsCommute th.sig → IsConvergent th → FitsSorts th.sig.sorts (variables t) d →
    IsTrue (well_sorted th.sig (applied d t)) → normalized th (applied d (normalized th t)) ≡ normalized th (applied d t)
form_of_instance th d t cancel pairs convergent fits sorted =
    let form = normalized_form th cancel t in
    let u = applied d (normalized th t) in
    let from : Same (canonical (applied d t)) (applied d (canonical t)) =
    through (canonical (applied d t)) (applied d t) (applied d (canonical t)) (same_sym (canonical_same (applied d t))) (same_applied d (canonical_same t)) in
    let own : FitsSorts th.sig.sorts (variables (canonical t)) d = λ v c. fits v (same_variables (same_sym (canonical_same t)) v c) in
    let steps = steps_instance th symbol_count (cancel_lightens th cancel) d (canonical (applied d t)) from own form.reached in
    let there : steps.0 ≡ canonical u =
    sym (steps_canonical th (applied d t) steps.1) ∙ sorted_canonical th.sig pairs steps.0 u steps.2 (form_sorted th (applied d t) steps.0 cancel pairs steps.1 sorted) in
    let rest = normalized_is th cancel u in
    let whole : IsNormalFormOf th (applied d t) (normalized th u) = record {
      reached = steps_after th steps.1 (subst (λ x. Steps th x (normalized th u)) (sym there) rest.reached);
      normal = rest.normal;
    } in
    one_form th (applied d t) (normalized th u) (normalized th (applied d t)) convergent sorted whole (normalized_is th cancel (applied d t))

-- the places of steps

-- a part that equals an instance of a left side
pub record Redex (th : Theory) (t : Term) : Type 0 where
  pub equation : Equation
  pub values : List (Variable × Term)
  pub part : Term
  pub listed : Contains th.equations equation
  pub fits : FitsSorts th.sig.sorts (variables equation.left) values
  pub there : IsPart part t
  pub equal : Same (applied values equation.left) part

record RedexIn (th : Theory) (ts : List Term) : Type 0 where
  argument : Term
  listed : Contains ts argument
  redex : Redex th argument

mutual
  reduces_redex : (th : Theory) {t u : Term} → Reduces th t u → Redex th t
  reduces_redex th (top e s t c q p) = record { equation = e; values = s; part = t; listed = c; fits = q; there = whole; equal = same_sym p }
  reduces_redex th (under op ts us r) =
      let one = one_redex th r in
      let x = one.redex in
      record { equation = x.equation; values = x.values; part = x.part; listed = x.listed; fits = x.fits; there = inside op ts one.argument one.listed x.there; equal = x.equal }

  one_redex : (th : Theory) {ts us : List Term} → ReducesOne th ts us → RedexIn th ts
  one_redex th (now t u ts r) = record { argument = t; listed = here t ts; redex = reduces_redex th r }
  one_redex th (later t ts us r) = let rest = one_redex th r in record { argument = rest.argument; listed = behind t rest.argument ts rest.listed; redex = rest.redex }

-- a term that makes a step has one
pub redex : (th : Theory) (t u : Term) → Rewrites th t u → Redex th t
redex th t u r = reduces_redex th (reduces th t u r).1

-- names

only_name : (n : ℕ) (t p : Term) → IsPart p t → Same (Name n) p → IsPart (Name n) t
only_name n t p part same = subst (λ x. IsPart x t) (same_only_name same n refl) part

record NameIn (n : ℕ) (ts : List Term) : Type 0 where
  argument : Term
  listed : Contains ts argument
  there : IsPart (Name n) argument

module _ (th : Theory) (cancel : AllCancel th) (n : ℕ) where
  mutual
    reduces_names : {t u : Term} → Reduces th t u → IsPart (Name n) u → IsPart (Name n) t
    reduces_names (top e s t c q p) part =
        let shape = shape_of th cancel e c in
        let value : IsPart (Name n) (image s shape.var) = subst (IsPart (Name n)) (right_is th.sig.sorts e s shape) part in
        let there = same_part (same_sym p) (part_through value (image_part s shape.var e.left shape.occurs)) in
        only_name n t there.part there.there there.same
    reduces_names (under op ts us r) part =
        elim (part_cases part op us refl) [
          | inl e ↦ let other : Name n ≡ App op us = e in cc
          | inr a ↦ let one = one_names r a.argument a.listed a.there in inside op ts one.argument one.listed one.there
        ]

    one_names : {ts us : List Term} → ReducesOne th ts us → (a : Term) → Contains us a → IsPart (Name n) a → NameIn n ts
    one_names (now t u ts r) a c part =
        elim (member_cases u a ts c) [
          | inl e ↦ record { argument = t; listed = here t ts; there = reduces_names r (subst (IsPart (Name n)) (sym e) part) }
          | inr d ↦ record { argument = a; listed = behind t a ts d; there = part }
        ]
    one_names (later t ts us r) a c part =
        elim (member_cases t a us c) [
          | inl e ↦ record { argument = t; listed = here t ts; there = subst (IsPart (Name n)) (sym e) part }
          | inr d ↦ let rest = one_names r a d part in record { argument = rest.argument; listed = behind t rest.argument ts rest.listed; there = rest.there }
        ]

  -- where all equations cancel, a step brings no names
  pub rewrites_names : (t u : Term) → Rewrites th t u → IsPart (Name n) u → IsPart (Name n) t
  rewrites_names t u r part =
      let own = reduces th t u r in
      let there = same_part (same_sym own.2) part in
      reduces_names own.1 (only_name n own.0 there.part there.there there.same)
