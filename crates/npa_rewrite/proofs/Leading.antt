-- What terms lead to, in any number of steps at positions.
use Rattle.std.proofs.Common.{◌≡◌, ◌⊎◌, ℕ, true, false, cond, Some, List, [], ◌∷◌, ◌++◌, append_assoc, map, inl, inr, refl, sym, subst}
use Rattle.std.specs.Prelude.{Contains, ⊤, unwrap_or}
use Rattle.std.specs.List.{flat_map}
use Rattle.std.proofs.lemmas.List.Elements.{Contains-append_left, Contains-append_right}
use Rattle.npa_sorts.specs.Subsorts.{IsAtOrBelow}
use Rattle.npa_sorts.proofs.Steps.{at_or_below_trans}
use Rattle.npa_term.specs.declared.term.Op.{Op}
use Rattle.npa_term.specs.declared.term.Var.{Var as Variable}
use Rattle.npa_term.specs.declared.term.Term.{Term, Var, Name, App}
use Rattle.npa_term.specs.Bound.{applied, same_var, value_of}
use Rattle.npa_term.specs.Canonical.{canonical}
use Rattle.npa_term.specs.Composition.{composed}
use Rattle.npa_term.specs.Parts.{image, least_sort}
use Rattle.npa_term.specs.Same.{Same, itself, through, below, SameAll, first}
use Rattle.npa_term.specs.Variables.{variables}
use Rattle.npa_term.proofs.CanonicalLaws.{canonical_same, canonical-canonical}
use Rattle.npa_term.proofs.CompositionLaws.{composed_does}
use Rattle.npa_term.proofs.Equality.{var_equal}
use Rattle.npa_term.proofs.Induction.{Each, by_terms}
use Rattle.npa_term.proofs.Parts.{same_sort}
use Rattle.npa_term.proofs.Rows.{applied_app}
use Rattle.npa_term.proofs.SameLaws.{same_sym, same_applied, same_all_itself}
use Rattle.npa_rewrite.specs.declared.theory.Theory.{Theory}
use Rattle.npa_rewrite.specs.Lightening.{Lightens}
use Rattle.npa_rewrite.specs.Reducing.{Reduces, top, under, ReducesOne, now, later, Leads, equal, step, chain, Joins}
use Rattle.npa_rewrite.specs.Rewriting.{FitsSorts, Rewrites, Steps, none, more}
use Rattle.npa_rewrite.proofs.Instances.{in_app, same_variables, image_variables, sort_instance}
use Rattle.npa_rewrite.proofs.Lightening.{reduces_variables}
use Rattle.npa_rewrite.proofs.Positions.{classes, one_at, reduces, rewrites}
use Rattle.npa_rewrite.proofs.Under.{same_in, steps_after}

pub leads_itself : (th : Theory) (t : Term) → Leads th t t
leads_itself th t = equal t t (itself t)

-- steps are what terms lead to, on canonical terms

rewrites_lead : (th : Theory) (t u : Term) → Rewrites th t u → Leads th t u
rewrites_lead th t u r = let one = reduces th t u r in chain t one.0 u (step t one.0 one.1) (equal one.0 u one.2)

pub steps_lead : (th : Theory) {t u : Term} → Steps th t u → Leads th t u
steps_lead th none = leads_itself th _
steps_lead th (more u v p r) = chain _ u v (steps_lead th p) (rewrites_lead th u v r)

pub leads_steps : (th : Theory) {t u : Term} → Leads th t u → (a : Term) → Same a t → canonical a ≡ a → (w : Term) × Steps th a w × Same w u × (canonical w ≡ w)
leads_steps th (equal t u p) a same form = (a, none, through a t u same p, form)
leads_steps th (step t u r) a same form =
    let one = classes th r a same in (
      canonical one.0,
      more a (canonical one.0) none (rewrites th one.1),
      through (canonical one.0) one.0 u (same_sym (canonical_same one.0)) one.2,
      canonical-canonical one.0,
    )
leads_steps th (chain t u v p q) a same form =
    let one = leads_steps th p a same form in
    let two = leads_steps th q one.0 one.2 one.3 in
    (two.0, steps_after th one.1 two.1, two.2, two.3)

-- a term leads to an equal one, or makes a first step
pub first_step : (th : Theory) {t u : Term} → Leads th t u → Same t u ⊎ ((v : Term) × Reduces th t v × Leads th v u)
first_step th (equal t u p) = inl p
first_step th (step t u r) = inr (u, r, leads_itself th u)
first_step th (chain t u v p q) = from (first_step th p) (first_step th q)
  where
    from : Same t u ⊎ ((x : Term) × Reduces th t x × Leads th x u) → Same u v ⊎ ((x : Term) × Reduces th u x × Leads th x v) → Same t v ⊎ ((x : Term) × Reduces th t x × Leads th x v)
    from (inr a) b = inr (a.0, a.1, chain a.0 u v a.2 q)
    from (inl same) (inl b) = inl (through t u v same b)
    from (inl same) (inr b) =
        let one = classes th b.1 t same in
        inr (one.0, one.1, chain one.0 b.0 v (equal one.0 b.0 one.2) b.2)

-- under an operator

pub leads_in : (th : Theory) (op : Op) (before after : List Term) {t u : Term} → Leads th t u → Leads th (App op (before ++ t ∷ after)) (App op (before ++ u ∷ after))
leads_in th op before after (equal t u p) =
    equal (App op (before ++ t ∷ after)) (App op (before ++ u ∷ after)) (below op (before ++ t ∷ after) (before ++ u ∷ after) (same_in before after t u p))
leads_in th op before after (step t u r) =
    step (App op (before ++ t ∷ after)) (App op (before ++ u ∷ after)) (under op (before ++ t ∷ after) (before ++ u ∷ after) (one_at th before after t u r))
leads_in th op before after (chain t u v p q) =
    chain (App op (before ++ t ∷ after)) (App op (before ++ u ∷ after)) (App op (before ++ v ∷ after)) (leads_in th op before after p) (leads_in th op before after q)

-- each term of a list leads to the one at its place
abbrev pub LeadsAll : Theory → List Term → List Term → Type 0
LeadsAll th [] [] = ⊤
LeadsAll th [] (u ∷ us) = ⊥
LeadsAll th (t ∷ ts) [] = ⊥
LeadsAll th (t ∷ ts) (u ∷ us) = Leads th t u × LeadsAll th ts us

pub leads_all : (th : Theory) (op : Op) (before ts us : List Term) → LeadsAll th ts us → Leads th (App op (before ++ ts)) (App op (before ++ us))
leads_all th op before [] [] all = leads_itself th (App op (before ++ []))
leads_all th op before [] (u ∷ us) all = absurd all
leads_all th op before (t ∷ ts) [] all = absurd all
leads_all th op before (t ∷ ts) (u ∷ us) all =
    chain (App op (before ++ t ∷ ts)) (App op (before ++ u ∷ ts)) (App op (before ++ u ∷ us)) (leads_in th op before ts all.0)
    (subst (λ xs. Leads th (App op (before ++ u ∷ ts)) (App op xs)) (append_assoc before (u ∷ []) us)
    (subst (λ xs. Leads th (App op xs) (App op ((before ++ u ∷ []) ++ us))) (append_assoc before (u ∷ []) ts) (leads_all th op (before ++ u ∷ []) ts us all.1)))

-- what the term of a variable leads to, in each place of the variable
spread_members : (th : Theory) (s r : List (Variable × Term)) (ts : List Term) → Each (λ l. Leads th (applied s l) (applied r l)) ts → LeadsAll th (map (applied s) ts) (map (applied r) ts)
spread_members th s r [] each = tt
spread_members th s r (t ∷ ts) each = (each.0, spread_members th s r ts each.1)

pub spread : (th : Theory) (s : List (Variable × Term)) (x : Variable) (w : Term) → Leads th (image s x) w → (l : Term) → Leads th (applied s l) (applied ((x, w) ∷ s) l)
spread th s x w leads =
    by_terms (λ l. Leads th (applied s l) (applied ((x, w) ∷ s) l))
    (λ v. elim (same_var x v) as (λ b. same_var x v ≡ b → Leads th (image s v) (unwrap_or (cond b (Some w) (value_of s v)) (Var v))) [
      | true ↦ λ e. subst (λ y. Leads th (image s y) w) (var_equal x v e) leads
      | false ↦ λ e. leads_itself th (image s v)
    ] refl)
    (λ n. leads_itself th (Name n))
    (λ op ts each.
    subst (λ t. Leads th (applied s (App op ts)) t) (sym (applied_app ((x, w) ∷ s) op ts))
    (subst (λ t. Leads th t (App op (map (applied ((x, w) ∷ s)) ts))) (sym (applied_app s op ts))
    (leads_all th op [] (map (applied s) ts) (map (applied ((x, w) ∷ s)) ts) (spread_members th s ((x, w) ∷ s) ts each))))

pub spread_all : (th : Theory) (s : List (Variable × Term)) (x : Variable) (w : Term) → Leads th (image s x) w → (ls : List Term) → LeadsAll th (map (applied s) ls) (map (applied ((x, w) ∷ s)) ls)
spread_all th s x w leads [] = tt
spread_all th s x w leads (l ∷ ls) = (spread th s x w leads l, spread_all th s x w leads ls)

-- instances

-- the composition of a matcher with a substitution that fits the instance fits
fits_composed : (th : Theory) (l t : Term) (s d : List (Variable × Term)) → FitsSorts th.sig.sorts (variables l) s → Same t (applied s l) → FitsSorts th.sig.sorts (variables t) d →
    FitsSorts th.sig.sorts (variables l) (composed s d)
fits_composed th l t s d q p fits v c =
    let inner : FitsSorts th.sig.sorts (variables (image s v)) d = λ w e. fits w (same_variables (same_sym p) w (image_variables s v w l c e)) in
    let low : IsAtOrBelow th.sig.sorts (least_sort (applied d (image s v))) v.sort = at_or_below_trans (sort_instance th.sig.sorts d (image s v) inner) (q v c) in
    subst (λ k. IsAtOrBelow th.sig.sorts k v.sort) (sym (same_sort (image (composed s d) v) (applied d (image s v)) (composed_does s d (Var v)))) low

mutual
  -- an instance makes the steps of the term
  pub instance : (th : Theory) (d : List (Variable × Term)) {t u : Term} → Reduces th t u → FitsSorts th.sig.sorts (variables t) d →
      (x : Term) × Reduces th (applied d t) x × Same x (applied d u)
  instance th d (top e s t c q p) fits =
      let m = composed s d in (
        applied m e.right,
        top e m (applied d t) c (fits_composed th e.left t s d q p fits)
            (through (applied d t) (applied d (applied s e.left)) (applied m e.left) (same_applied d p) (same_sym (composed_does s d e.left))),
        composed_does s d e.right,
      )
  instance th d (under op ts us r) fits =
      let one = instance_one th d r (λ v c. fits v (in_app op ts v c)) in (
        App op one.0,
        subst (λ t. Reduces th t (App op one.0)) (sym (applied_app d op ts)) (under op (map (applied d) ts) one.0 one.1),
        subst (Same (App op one.0)) (sym (applied_app d op us)) (below op one.0 (map (applied d) us) one.2),
      )

  instance_one : (th : Theory) (d : List (Variable × Term)) {ts us : List Term} → ReducesOne th ts us → FitsSorts th.sig.sorts (flat_map variables ts) d →
      (xs : List Term) × ReducesOne th (map (applied d) ts) xs × SameAll xs (map (applied d) us)
  instance_one th d (now t u ts r) fits =
      let one = instance th d r (λ v c. fits v (Contains-append_left (variables t) (flat_map variables ts) v c)) in
      (one.0 ∷ map (applied d) ts, now (applied d t) one.0 (map (applied d) ts) one.1, first one.0 (applied d u) (map (applied d) ts) (map (applied d) ts) one.2 (same_all_itself (map (applied d) ts)))
  instance_one th d (later t ts us r) fits =
      let rest = instance_one th d r (λ v c. fits v (Contains-append_right (variables t) (flat_map variables ts) v c)) in
      (applied d t ∷ rest.0, later (applied d t) (map (applied d) ts) rest.0 rest.1, first (applied d t) (applied d t) rest.0 (map (applied d) us) (itself (applied d t)) rest.2)

module _ (th : Theory) (weigh : Term → ℕ) (light : Lightens th weigh) where
  pub leads_variables : {t u : Term} → Leads th t u → (v : Variable) → Contains (variables u) v → Contains (variables t) v
  leads_variables (equal t u p) v c = same_variables (same_sym p) v c
  leads_variables (step t u r) v c = reduces_variables th weigh light r v c
  leads_variables (chain t u v p q) w c = leads_variables p w (leads_variables q w c)

  -- and leads to the instances of what the term leads to
  pub leads_instance : (d : List (Variable × Term)) {t u : Term} → Leads th t u → FitsSorts th.sig.sorts (variables t) d → Leads th (applied d t) (applied d u)
  leads_instance d (equal t u p) fits = equal (applied d t) (applied d u) (same_applied d p)
  leads_instance d (step t u r) fits =
      let one = instance th d r fits in
      chain (applied d t) one.0 (applied d u) (step (applied d t) one.0 one.1) (equal one.0 (applied d u) one.2)
  leads_instance d (chain t u v p q) fits =
      chain (applied d t) (applied d u) (applied d v) (leads_instance d p fits) (leads_instance d q (λ w c. fits w (leads_variables p w c)))

  pub joins_instance : (d : List (Variable × Term)) (t u : Term) → Joins th t u → FitsSorts th.sig.sorts (variables t) d → FitsSorts th.sig.sorts (variables u) d → Joins th (applied d t) (applied d u)
  joins_instance d t u joins fits also = record {
    to = applied d joins.to;
    left = leads_instance d joins.left fits;
    right = leads_instance d joins.right also;
  }
