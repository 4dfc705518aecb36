-- Where equations make terms lighter, each term has a normal form.
use Rattle.std.proofs.Common.{◌≡◌, ℕ, zero, suc, ◌<◌, List, [], ◌∷◌, ◌++◌, append_assoc, Option, Some, None, refl, sym, subst, inl, inr, arith}
use Rattle.std.specs.Prelude.{Contains}
use Rattle.std.specs.List.{All}
use Rattle.std.specs.Option.{option_map, IfSome, option_or}
use Rattle.std.proofs.lemmas.List.Elements.{All-head, All-tail, All-contains_itself, Contains-append_cases}
use Rattle.npa_term.specs.declared.term.Op.{Op}
use Rattle.npa_term.specs.declared.term.Var.{Var as Variable}
use Rattle.npa_term.specs.declared.term.Term.{Term, Var, Name, App}
use Rattle.npa_term.specs.Bound.{applied}
use Rattle.npa_term.specs.Canonical.{canonical}
use Rattle.npa_term.specs.Symbols.{symbol_count}
use Rattle.npa_term.proofs.CanonicalLaws.{canonical-canonical}
use Rattle.npa_term.proofs.Induction.{Each, by_terms}
use Rattle.npa_term.proofs.Parts.{only_member}
use Rattle.npa_match.specs.Matching.{IsMatcher}
use Rattle.npa_match.proofs.Answered.{first_answered, none_answered}
use Rattle.npa_sig.specs.declared.protocol.Equation.{Equation}
use Rattle.npa_rewrite.specs.declared.theory.Theory.{Theory}
use Rattle.npa_rewrite.specs.Innermost.{at_root, innermost, matcher}
use Rattle.npa_rewrite.specs.Lightening.{Lightens}
use Rattle.npa_rewrite.specs.Rewriting.{Rewrites, IsNormal, IsNormalFormOf, AllCancel, Steps, none, more}
use Rattle.npa_rewrite.specs.Stepping.{AreUnmatched, IsRootStep, IsOutcome, IsRootOutcome, outcome_of}
use Rattle.npa_rewrite.proofs.Lightening.{cancel_lightens, rewrites_lighter}
use Rattle.npa_rewrite.proofs.Root.{matches_from}
use Rattle.npa_rewrite.proofs.Under.{canonical_in, rewrites_in, normal_app}
use Rattle.npa_rewrite.proofs.Walk.{innermost_all, innermost_at, outcome_name, outcome_var, step_canonical}

-- what the first equation that matches tells, and what none tells
abbrev Tells : Theory → List Equation → Term → Option Term → Type 0
Tells th es t None = (e : Equation) → Contains es e → AreUnmatched th.sig.sorts e.left t
Tells th es t (Some u) = IsRootStep th t u

tells_more : (th : Theory) (e : Equation) (es : List Equation) (t : Term) (m : Option (List (Variable × Term))) (o : Option Term) →
    Contains th.equations e → IfSome m (IsMatcher th.sig.sorts ((e.left, t) ∷ [])) → (m ≡ None → AreUnmatched th.sig.sorts e.left t) → Tells th es t o →
    Tells th (e ∷ es) t (option_or (option_map (λ s. canonical (applied s e.right)) m) o)
tells_more th e es t (Some s) o c matched unmatched rest = record { equation = e; matcher = s; listed = c; matches = matched; form = refl }
tells_more th e es t None (Some u) c matched unmatched rest = rest
tells_more th e es t None None c matched unmatched rest = λ f d.
    elim (Contains-append_cases (e ∷ []) es f d) [ inl l ↦ subst (λ (g : Equation). AreUnmatched th.sig.sorts g.left t) (only_member e f l) (unmatched refl) | inr r ↦ rest f r ]

tells : (th : Theory) (es : List Equation) (t : Term) → All (Contains th.equations) es → Tells th es t (at_root th.sig.sorts es t)
tells th [] t all = λ e c. absurd (let empty : ⊥ = omega (arith, c.1) in empty)
tells th (e ∷ es) t all =
    tells_more th e es t (matcher th.sig.sorts e.left t) (at_root th.sig.sorts es t) (All-head (Contains th.equations) e es all)
    (first_answered th.sig.sorts ((e.left, t) ∷ [])) (none_answered th.sig.sorts ((e.left, t) ∷ []))
    (tells th es t (All-tail (Contains th.equations) e es all))

told : (th : Theory) (t : Term) (o : Option Term) → Tells th th.equations t o → IsRootOutcome th t (outcome_of t o)
told th t None rest = λ e s c q p. rest e c s (matches_from th.sig.sorts e.left t s q p)
told th t (Some u) step = step

pub root_told : (th : Theory) (t : Term) → IsRootOutcome th t (outcome_of t (at_root th.sig.sorts th.equations t))
root_told th t = told th t (at_root th.sig.sorts th.equations t) (tells th th.equations t (All-contains_itself th.equations))

-- the same of the arguments of an operator, behind others
abbrev AllTold : Theory → Op → List Term → List Term → Option (List Term) → Type 0
AllTold th op before ts None = Each (IsNormal th) ts
AllTold th op before ts (Some us) = Rewrites th (App op (before ++ ts)) (canonical (App op (before ++ us)))

all_more : (th : Theory) (op : Op) (before : List Term) (t : Term) (ts : List Term) (o : Option Term) (p : Option (List Term)) → IsOutcome th t (outcome_of t o) → AllTold th op (before ++ t ∷ []) ts p →
    AllTold th op before (t ∷ ts) (option_or (option_map (λ u. u ∷ ts) o) (option_map (λ us. t ∷ us) p))
all_more th op before t ts (Some u) p step rest =
    subst (Rewrites th (App op (before ++ t ∷ ts))) (canonical_in op before ts (canonical u) u (canonical-canonical u)) (rewrites_in th op before ts t (canonical u) step)
all_more th op before t ts None None step rest = (step, rest)
all_more th op before t ts None (Some us) step rest =
    subst (λ xs. Rewrites th (App op (before ++ t ∷ ts)) (canonical (App op xs))) (append_assoc before (t ∷ []) us)
    (subst (λ xs. Rewrites th (App op xs) (canonical (App op ((before ++ t ∷ []) ++ us)))) (append_assoc before (t ∷ []) ts) rest)

all_told : (th : Theory) (op : Op) (before ts : List Term) → Each (λ t. IsOutcome th t (outcome_of t (innermost (at_root th.sig.sorts th.equations) t))) ts →
    AllTold th op before ts (innermost_all (at_root th.sig.sorts th.equations) ts)
all_told th op before [] each = tt
all_told th op before (t ∷ ts) each =
    all_more th op before t ts (innermost (at_root th.sig.sorts th.equations) t) (innermost_all (at_root th.sig.sorts th.equations) ts) each.0 (all_told th op (before ++ t ∷ []) ts each.1)

app_told : (th : Theory) (op : Op) (ts : List Term) (p : Option (List Term)) (o : Option Term) → AllTold th op [] ts p → IsRootOutcome th (App op ts) (outcome_of (App op ts) o) →
    IsOutcome th (App op ts) (outcome_of (App op ts) (option_or (option_map (λ us. App op us) p) o))
app_told th op ts (Some us) o all root = all
app_told th op ts None (Some u) all root = step_canonical th (App op ts) u root
app_told th op ts None None all root = normal_app th op ts all root

-- the walk to the first innermost place finds a step exactly where there is one
pub innermost_told : (th : Theory) (t : Term) → IsOutcome th t (outcome_of t (innermost (at_root th.sig.sorts th.equations) t))
innermost_told th =
    let root = at_root th.sig.sorts th.equations in
    by_terms (λ t. IsOutcome th t (outcome_of t (innermost root t)))
    (λ v. outcome_var th (Var v) v (outcome_of (Var v) (root (Var v))) refl (root_told th (Var v)))
    (λ n. outcome_name th (Name n) n (outcome_of (Name n) (root (Name n))) refl (root_told th (Name n)))
    (λ op ts each. subst (λ o. IsOutcome th (App op ts) (outcome_of (App op ts) o)) (sym (innermost_at root (App op ts) op ts refl))
    (app_told th op ts (innermost_all root ts) (root (App op ts)) (all_told th op [] ts each) (root_told th (App op ts))))

-- a normal term that a term rewrites to
abbrev pub HasNormal : Theory → Term → Type 0
HasNormal th t = (u : Term) × Steps th t u × IsNormal th u

steps_from : (th : Theory) {t u v : Term} → Rewrites th t u → Steps th u v → Steps th t v
steps_from th r none = more _ _ none r
steps_from th r (more u v p q) = more u v (steps_from th r p) q

module _ (th : Theory) (weigh : Term → ℕ) (light : Lightens th weigh) where
  normal_next : (n : ℕ) (t : Term) → weigh t < suc n → (o : Option Term) → IsOutcome th t (outcome_of t o) → ((u : Term) → weigh u < n → HasNormal th u) → HasNormal th t
  normal_next n t small None normal rest = (t, none, normal)
  normal_next n t small (Some u) step rest =
      let less : weigh (canonical u) < weigh t = rewrites_lighter th weigh light t (canonical u) step in
      let form = rest (canonical u) (omega (arith, less, small)) in
      (form.0, steps_from th step form.1, form.2)

  normal_within : (n : ℕ) (t : Term) → weigh t < n → HasNormal th t
  normal_within zero t small = absurd (let never : ⊥ = omega (arith, small) in never)
  normal_within (suc n) t small =
      normal_next n t small (innermost (at_root th.sig.sorts th.equations) t) (innermost_told th t) (normal_within n)

  -- where equations make terms lighter, each term rewrites to a normal one
  pub has_normal : (t : Term) → HasNormal th t
  has_normal t = normal_within (suc (weigh t)) t (omega arith)

  pub lighter_form_exists : (t : Term) → (u : Term) × IsNormalFormOf th t u
  lighter_form_exists t = let form = has_normal (canonical t) in (form.0, record { reached = form.1; normal = form.2 })

-- where all equations cancel, each term has a normal form
pub normal_form_exists : (th : Theory) (t : Term) → AllCancel th → (u : Term) × IsNormalFormOf th t u
normal_form_exists th t cancel = lighter_form_exists th symbol_count (cancel_lightens th cancel) t
