-- What steps keep, and what they make smaller.
use Rattle.std.proofs.Common.{◌≡◌, ◌<◌, List, [], ◌∷◌, ◌++◌, map, Equal, refl, sym, ◌∙◌, ap, subst, inl, inr, arith}
use Rattle.std.specs.Prelude.{Contains, IsTrue}
use Rattle.std.specs.List.{flat_map}
use Rattle.std.proofs.lemmas.Cmp.{tied_itself}
use Rattle.std.proofs.lemmas.List.Elements.{All-contains, Contains-append_cases}
use Rattle.npa_sorts.specs.Subsorts.{Subsorts, IsAtOrBelow}
use Rattle.npa_sorts.proofs.Steps.{at_or_below_trans}
use Rattle.npa_term.specs.declared.term.Var.{Var as Variable}
use Rattle.npa_term.specs.declared.term.Term.{Term, Var, App}
use Rattle.npa_term.specs.Bound.{applied}
use Rattle.npa_term.specs.Canonical.{canonical}
use Rattle.npa_term.specs.Order.{term_cmp}
use Rattle.npa_term.specs.Parts.{least_sort}
use Rattle.npa_term.specs.Same.{Same, itself, through, swapped, below, SameAll, nothing, first}
use Rattle.npa_term.specs.Symbols.{symbol_count, all_count}
use Rattle.npa_term.specs.Variables.{variables, IsGround}
use Rattle.npa_term.proofs.CanonicalLaws.{canonical_same, canonical-canonical}
use Rattle.npa_term.proofs.GroundLaws.{ground_app, ground_arguments, ground_canonical}
use Rattle.npa_term.proofs.Induction.{Each, by_terms}
use Rattle.npa_term.proofs.OrderLaws.{term_cmp_total}
use Rattle.npa_term.proofs.Parts.{same_sort, counted_below, is_app, only_member}
use Rattle.npa_term.proofs.Rows.{applied_app, applied_at, symbol_count_at, variables_at}
use Rattle.npa_term.proofs.SameLaws.{same_count}
use Rattle.npa_sig.specs.Sorting.{well_sorted}
use Rattle.npa_sig.specs.declared.protocol.Equation.{Equation}
use Rattle.npa_rewrite.specs.declared.theory.Theory.{Theory}
use Rattle.npa_rewrite.specs.Rewriting.{Replaces, here, inside, Rewrites, IsNormal, IsNormalFormOf, IsLeastNormalForm, IsConvergent, IsCancelling, AllCancel, Steps, none, more}
use Rattle.npa_rewrite.proofs.Under.{rewrites_same}

pub shape_of : (th : Theory) → AllCancel th → (e : Equation) → Contains th.equations e → IsCancelling th.sig.sorts e
shape_of th cancel e c = All-contains (IsCancelling th.sig.sorts) th.equations e cancel c

-- the term of the right side's variable
pub right_is : (o : Subsorts) (e : Equation) (s : List (Variable × Term)) (shape : IsCancelling o e) → applied s e.right ≡ applied s (Var shape.var)
right_is o e s shape = ap (applied s) shape.right

-- sizes

pub count_in : (before after : List Term) (t u : Term) → symbol_count u < symbol_count t → all_count (before ++ u ∷ after) < all_count (before ++ t ∷ after)
count_in [] after t u small = omega (arith, small)
count_in (b ∷ before) after t u small = let rest = count_in before after t u small in omega (arith, rest)

pub replaced_smaller : (th : Theory) → AllCancel th → {t u : Term} → Replaces th t u → symbol_count u < symbol_count t
replaced_smaller th cancel (here e s c q) =
    let shape = shape_of th cancel e c in
    let app = is_app e.left shape.left shape.var shape.occurs in
    subst (λ u. symbol_count u < symbol_count (applied s e.left)) (sym (right_is th.sig.sorts e s shape)) (counted_below s shape.var e.left app.0 app.1 app.2 shape.occurs)
replaced_smaller th cancel (inside op before after t u r) =
    let rest = count_in before after t u (replaced_smaller th cancel r) in
    let l = symbol_count_at (App op (before ++ t ∷ after)) op (before ++ t ∷ after) refl in
    let m = symbol_count_at (App op (before ++ u ∷ after)) op (before ++ u ∷ after) refl in
    omega (arith, rest, l, m)

-- a step makes a term smaller
pub smaller : (th : Theory) (t u : Term) → AllCancel th → Rewrites th t u → symbol_count u < symbol_count t
smaller th t u cancel r =
    let step = replaced_smaller th cancel r.replaces in
    let left = same_count r.same in
    let form = ap symbol_count r.form ∙ sym (same_count (canonical_same r.to)) in
    omega (arith, step, left, form)

-- ground terms

ground_each : (before after : List Term) (t u : Term) → (IsGround t → IsGround u) → Each IsGround (before ++ t ∷ after) → Each IsGround (before ++ u ∷ after)
ground_each [] after t u f each = (f each.0, each.1)
ground_each (b ∷ before) after t u f each = (each.0, ground_each before after t u f each.1)

mutual
  same_ground : {t u : Term} → Same t u → IsGround t → IsGround u
  same_ground (itself t) g = g
  same_ground (through s t u p q) g = same_ground q (same_ground p g)
  same_ground (swapped op t u c) g =
      let each = ground_arguments op (t ∷ u ∷ []) g in ground_app op (u ∷ t ∷ []) (each.1.0, (each.0, tt))
  same_ground (below op ts us p) g = ground_app op us (same_all_ground p (ground_arguments op ts g))

  same_all_ground : {ts us : List Term} → SameAll ts us → Each IsGround ts → Each IsGround us
  same_all_ground nothing each = tt
  same_all_ground (first t u ts us p q) each = (same_ground p each.0, same_all_ground q each.1)

image_members : (s : List (Variable × Term)) (v : Variable) (ts : List Term) →
    Each (λ t. Contains (variables t) v → IsGround (applied s t) → IsGround (applied s (Var v))) ts →
    Contains (flat_map variables ts) v → Each IsGround (map (applied s) ts) → IsGround (applied s (Var v))
image_members s v [] each c g = absurd (let empty : ⊥ = omega (arith, c.1) in empty)
image_members s v (t ∷ ts) each c g =
    elim (Contains-append_cases (variables t) (flat_map variables ts) v c) [ inl l ↦ each.0 l g.0 | inr r ↦ image_members s v ts each.1 r g.1 ]

-- the term of a variable of a ground instance is ground
image_ground : (s : List (Variable × Term)) (v : Variable) (t : Term) → Contains (variables t) v → IsGround (applied s t) → IsGround (applied s (Var v))
image_ground s v =
    by_terms (λ t. Contains (variables t) v → IsGround (applied s t) → IsGround (applied s (Var v)))
    (λ w c g. subst (λ x. IsGround (applied s (Var x))) (only_member w v c) g)
    (λ n c g. absurd (let empty : ⊥ = omega (arith, c.1) in empty))
    (λ op ts each c g.
    image_members s v ts each (subst (λ vs. Contains vs v) (variables_at (App op ts) op ts refl) c)
    (ground_arguments op (map (applied s) ts) (subst IsGround (applied_app s op ts) g)))

replaced_ground : (th : Theory) → AllCancel th → {t u : Term} → Replaces th t u → IsGround t → IsGround u
replaced_ground th cancel (here e s c q) g =
    let shape = shape_of th cancel e c in
    subst IsGround (sym (right_is th.sig.sorts e s shape)) (image_ground s shape.var e.left shape.occurs g)
replaced_ground th cancel (inside op before after t u r) g =
    ground_app op (before ++ u ∷ after) (ground_each before after t u (replaced_ground th cancel r) (ground_arguments op (before ++ t ∷ after) g))

-- a step of a ground term makes a ground term
pub keeps_ground : (th : Theory) (t u : Term) → AllCancel th → Rewrites th t u → IsGround t → IsGround u
keeps_ground th t u cancel r g =
    subst IsGround (sym r.form) (ground_canonical r.to (replaced_ground th cancel r.replaces (same_ground r.same g)))

-- sorts

pub replaced_sort : (th : Theory) → AllCancel th → {t u : Term} → Replaces th t u → IsAtOrBelow th.sig.sorts (least_sort u) (least_sort t)
replaced_sort th cancel (here e s c q) =
    let shape = shape_of th cancel e c in
    let app = is_app e.left shape.left shape.var shape.occurs in
    let head : least_sort (applied s e.left) ≡ least_sort e.left = ap least_sort (applied_at s e.left app.0 app.1 app.2) ∙ sym (ap least_sort app.2) in
    let value : IsAtOrBelow th.sig.sorts (least_sort (applied s (Var shape.var))) (least_sort e.left) = at_or_below_trans (q shape.var shape.occurs) shape.sort in
    subst (λ u. IsAtOrBelow th.sig.sorts (least_sort u) (least_sort (applied s e.left))) (sym (right_is th.sig.sorts e s shape))
    (subst (IsAtOrBelow th.sig.sorts (least_sort (applied s (Var shape.var)))) (sym head) value)
replaced_sort th cancel (inside op before after t u r) = inl refl

-- a step makes a term of a sort at or below that of the term
pub keeps_sort : (th : Theory) (t u : Term) → AllCancel th → Rewrites th t u → IsAtOrBelow th.sig.sorts (least_sort u) (least_sort t)
keeps_sort th t u cancel r =
    let left : least_sort t ≡ least_sort r.from = same_sort t r.from r.same in
    let right : least_sort u ≡ least_sort r.to = ap least_sort r.form ∙ sym (same_sort r.to (canonical r.to) (canonical_same r.to)) in
    subst (λ s. IsAtOrBelow th.sig.sorts s (least_sort t)) (sym right)
    (subst (IsAtOrBelow th.sig.sorts (least_sort r.to)) (sym left) (replaced_sort th cancel r.replaces))

pub step_canonical_form : (th : Theory) (t u : Term) → Rewrites th t u → canonical u ≡ u
step_canonical_form th t u r = ap canonical r.form ∙ canonical-canonical r.to ∙ sym r.form

pub steps_canonical : (th : Theory) (t : Term) {u : Term} → Steps th (canonical t) u → canonical u ≡ u
steps_canonical th t none = canonical-canonical t
steps_canonical th t (more u v p r) = step_canonical_form th u v r

-- normal forms

no_steps : (th : Theory) (t : Term) → IsNormal th t → {u : Term} → Steps th (canonical t) u → u ≡ canonical t
no_steps th t n none = refl
no_steps th t n (more u v p r) =
    let same : u ≡ canonical t = no_steps th t n p in
    absurd (n v (rewrites_same th t u v (subst (Same t) (sym same) (canonical_same t)) r))

-- a normal term is its own normal form, up to commutativity
pub settled : (th : Theory) (t u : Term) → IsNormal th t → Steps th (canonical t) u → u ≡ canonical t
settled th t u n p = no_steps th t n p

pub steps_ground : (th : Theory) → AllCancel th → {t u : Term} → Steps th t u → IsGround t → IsGround u
steps_ground th cancel none g = g
steps_ground th cancel (more u v p r) g = keeps_ground th u v cancel r (steps_ground th cancel p g)

-- convergent theories

pub one_form : (th : Theory) (t u v : Term) → IsConvergent th → IsTrue (well_sorted th.sig t) → IsNormalFormOf th t u → IsNormalFormOf th t v → u ≡ v
one_form th t u v convergent sorted f g =
    let form = convergent t sorted in form.2 u f ∙ sym (form.2 v g)

pub least_form : (th : Theory) (t u : Term) → IsConvergent th → IsTrue (well_sorted th.sig t) → IsNormalFormOf th t u → IsLeastNormalForm th t u
least_form th t u convergent sorted f = record {
  form = f;
  least = λ v g e. let tied : term_cmp u v ≡ Equal = subst (λ w. term_cmp u w ≡ Equal) (one_form th t u v convergent sorted f g) (tied_itself term_cmp_total u) in cc;
}
