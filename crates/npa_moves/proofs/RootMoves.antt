-- A choice of variants that is made part by part.
use Rattle.std.proofs.Common.{◌≡◌, ℕ, ◌+◌, ◌<◌, ◌⊎◌, inl, inr, Option, unwrap_or, List, [], ◌∷◌, ◌++◌, append-nil, map, zip, Contains, refl, sym, ◌∙◌, ap, subst, arith}
use Rattle.std.specs.List.{flat_map}
use Rattle.std.proofs.lemmas.List.Elements.{Contains-append_cases, Contains-append_left, Contains-append_right}
use Rattle.npa_sorts.specs.Subsorts.{Subsorts, IsAtOrBelow}
use Rattle.npa_term.specs.declared.term.Term.{Term, Var, App}
use Rattle.npa_term.specs.declared.term.Var.{Var as Variable}
use Rattle.npa_term.specs.Bound.{applied}
use Rattle.npa_term.specs.Parts.{image, least_sort}
use Rattle.npa_term.specs.Same.{Same, SameAll, nothing as no_terms, first}
use Rattle.npa_term.specs.Variables.{raised_var, renamed, variables}
use Rattle.npa_term.proofs.Lifted.{lifted, lifted_below, lifted_renamed, lifted_value}
use Rattle.npa_term.proofs.RenamedLaws.{variables-renamed}
use Rattle.npa_term.proofs.Renumbered.{member_variable}
use Rattle.npa_term.proofs.Induction.{Each, by_terms}
use Rattle.npa_term.proofs.Rows.{applied_app}
use Rattle.npa_rewrite.proofs.Instances.{in_app}
use Rattle.npa_unify.specs.Branches.{pair_variables}
use Rattle.npa_unify.proofs.Members.{here, nowhere, member_cases, only_one}
use Rattle.npa_unify.proofs.PairVariables.{first_has, pair_cases, rest_has, second_has, zip_variables}
use Rattle.npa_variants.specs.declared.variant.Variant.{Variant}
use Rattle.npa_variants.proofs.Members.{of_mapped, mapped_member}
use Rattle.npa_variants.proofs.Unifying.{past_above}
use Rattle.npa_moves.specs.Moves.{past_variant}
use Rattle.npa_moves.specs.Solving.{HasOneSort}
use Rattle.npa_moves.specs.Leading.{FitsVariables}

-- ## Pairs

pub pairs_cases : (xs ys : List (Term × Term)) (v : Variable) → Contains (pair_variables (xs ++ ys)) v → Contains (pair_variables xs) v ⊎ Contains (pair_variables ys) v
pairs_cases [] ys v c = inr c
pairs_cases (x ∷ xs) ys v c = elim (pair_cases x (xs ++ ys) v c) [
  | inl d ↦ inl (first_has x xs v d)
  | inr d ↦ elim d [
    | inl e ↦ inl (second_has x xs v e)
    | inr e ↦ elim (pairs_cases xs ys v e) [
      | inl f ↦ inl (rest_has x xs v f)
      | inr f ↦ inr f
    ]
  ]
]

pub zip_cases : (ts us : List Term) (v : Variable) → Contains (pair_variables (zip ts us)) v → Contains (flat_map variables ts) v ⊎ Contains (flat_map variables us) v
zip_cases ts us v c = elim (zip_variables ts us [] v (subst (λ (ps : List (Term × Term)). Contains (pair_variables ps) v) (sym (append-nil (zip ts us))) c)) [
  | inl d ↦ inl d
  | inr d ↦ elim d [
    | inl e ↦ inr e
    | inr e ↦ absurd (nowhere v e)
  ]
]

pub head_is : {x y : Term} {xs ys : List Term} → ◌≡◌ {A = List Term} (x ∷ xs) (y ∷ ys) → x ≡ y
head_is e = cc

pub rest_is : {x y : Term} {xs ys : List Term} → ◌≡◌ {A = List Term} (x ∷ xs) (y ∷ ys) → xs ≡ ys
rest_is e = cc

pub none_is : {x : Term} {xs : List Term} → ◌≡◌ {A = List Term} [] (x ∷ xs) → ⊥
none_is e = cc

pub zip_same : (f h : Term → Term) (ts us : List Term) → SameAll (map f ts) (map h us) → (t u : Term) → Contains (zip ts us) (t, u) → Same (f t) (h u)
zip_same f h ts us same t u c = by_members ts us same refl refl c
  where
    by_members : (ts us : List Term) {xs ys : List Term} → SameAll xs ys → xs ≡ map f ts → ys ≡ map h us → Contains (zip ts us) (t, u) → Same (f t) (h u)
    by_members [] us same is js c = absurd (nowhere (t, u) c)
    by_members (t0 ∷ ts) [] same is js c = absurd (nowhere (t, u) c)
    by_members (t0 ∷ ts) (u0 ∷ us) no_terms is js c = absurd (none_is is)
    by_members (t0 ∷ ts) (u0 ∷ us) (first x y xs ys p q) is js c = elim (member_cases (t0, u0) (t, u) (zip ts us) c) [
      | inl e ↦
          let one : x ≡ f t = head_is is ∙ ap (λ (p : Term × Term). f p.0) e in
          let two : y ≡ h u = head_is js ∙ ap (λ (p : Term × Term). h p.1) e in
          subst (λ (z : Term). Same (f t) z) two (subst (λ (z : Term). Same z y) one p)
      | inr d ↦ by_members ts us q (rest_is is) (rest_is js) d
    ]

-- ## Substitutions that agree on a term's variables

agreeing_list : (s u : List (Variable × Term)) (ts : List Term) → Each (λ t. ((v : Variable) → Contains (variables t) v → image s v ≡ image u v) → applied s t ≡ applied u t) ts →
    ((v : Variable) → Contains (flat_map variables ts) v → image s v ≡ image u v) → map (applied s) ts ≡ map (applied u) ts
agreeing_list s u [] each same = refl
agreeing_list s u (t ∷ ts) each same =
    ap (λ x. x ∷ map (applied s) ts) (each.0 (λ v c. same v (Contains-append_left (variables t) (flat_map variables ts) v c)))
    ∙ ap (λ xs. applied u t ∷ xs) (agreeing_list s u ts each.1 (λ v c. same v (Contains-append_right (variables t) (flat_map variables ts) v c)))

pub agreeing : (s u : List (Variable × Term)) (t : Term) → ((v : Variable) → Contains (variables t) v → image s v ≡ image u v) → applied s t ≡ applied u t
agreeing s u =
    by_terms (λ t. ((v : Variable) → Contains (variables t) v → image s v ≡ image u v) → applied s t ≡ applied u t)
    (λ v same. same v (here v [])) (λ n same. refl)
    (λ op ts each same. applied_app s op ts ∙ ap (App op) (agreeing_list s u ts each (λ v c. same v (in_app op ts v c))) ∙ sym (applied_app u op ts))

-- ## A substitution on raised variables, in front of another

module _ (o : Subsorts) (next : ℕ) (b σ : List (Variable × Term)) (v : Variant) where
  abbrev pub own : List Variable
  own = flat_map variables v.terms

  pub raised : List (Variable × Term)
  raised = lifted next b own ++ σ

  pub raised_below : (t : Term) → ((x : Variable) → Contains (variables t) x → x.num < next) → applied raised t ≡ applied σ t
  unfolding raised
  raised_below t low = lifted_below next b σ own t low

  pub raised_new : (t : Term) → Contains v.terms t → applied raised (renamed next t) ≡ applied b t
  unfolding raised
  raised_new t listed = lifted_renamed next b σ own t (λ x c. member_variable v.terms t x listed c)

  pub image_below : (x : Variable) → x.num < next → image raised x ≡ image σ x
  image_below x low = raised_below (Var x) (λ y c. subst (λ (z : Variable). z.num < next) (only_one x y c) low)

  pub image_raised : (x : Variable) → Contains own x → image raised (raised_var next x) ≡ image b x
  unfolding raised
  image_raised x c = ap (λ (t : Option Term). unwrap_or t (Var (raised_var next x))) (lifted_value next b σ own x c)

  -- ## The variables in scope

  module _ (scope : List Variable) (low : (x : Variable) → Contains scope x → x.num < next) where
    pub wider : List Variable
    wider = scope ++ map (raised_var next) own

    wide_cases : (x : Variable) → Contains wider x → Contains scope x ⊎ ((y : Variable) × Contains own y × (x ≡ raised_var next y))
    unfolding wider
    wide_cases x c = elim (Contains-append_cases scope (map (raised_var next) own) x c) [
      | inl d ↦ inl d
      | inr d ↦ inr (of_mapped (raised_var next) own x d)
    ]

    pub wide_old : (x : Variable) → Contains scope x → Contains wider x
    unfolding wider
    wide_old x c = Contains-append_left scope (map (raised_var next) own) x c

    pub wide_new : (y : Variable) → Contains own y → Contains wider (raised_var next y)
    unfolding wider
    wide_new y c = Contains-append_right scope (map (raised_var next) own) (raised_var next y) (mapped_member (raised_var next) own y c)

    pub wide_low : (x : Variable) → Contains wider x → x.num < next + past_variant v
    wide_low x c = elim (wide_cases x c) [
      | inl d ↦ omega (arith, low x d)
      | inr d ↦ let n : x.num ≡ d.0.num + next = ap (λ (z : Variable). z.num) d.2 in omega (arith, n, past_above own d.0 d.1)
    ]

    pub wide_fits : ((x : Variable) → Contains scope x → IsAtOrBelow o (least_sort (image σ x)) x.sort) → FitsVariables o own b → (x : Variable) → Contains wider x → IsAtOrBelow o (least_sort (image raised x)) x.sort
    wide_fits fits own_fits x c = elim (wide_cases x c) [
      | inl d ↦ subst (λ (t : Term). IsAtOrBelow o (least_sort t) x.sort) (sym (image_below x (low x d))) (fits x d)
      | inr d ↦ subst (λ (z : Variable). IsAtOrBelow o (least_sort (image raised z)) z.sort) (sym d.2)
          (subst (λ (t : Term). IsAtOrBelow o (least_sort t) d.0.sort) (sym (image_raised d.0 d.1)) (own_fits d.0 d.1))
    ]

    apart : (x y z : Variable) → Contains scope x → y ≡ raised_var next z → x.num ≡ y.num → ⊥
    apart x y z c is e = let n : y.num ≡ z.num + next = ap (λ (w : Variable). w.num) is in omega (arith, e, n, low x c)

    pub wide_one : HasOneSort scope → HasOneSort own → HasOneSort wider
    wide_one one own_one x y c d e = elim (wide_cases x c) [
      | inl f ↦ elim (wide_cases y d) [
        | inl h ↦ one x y f h e
        | inr h ↦ absurd (apart x y h.0 f h.2 e)
      ]
      | inr f ↦ elim (wide_cases y d) [
        | inl h ↦ absurd (apart y x f.0 h f.2 (sym e))
        | inr h ↦
            let n : x.num ≡ f.0.num + next = ap (λ (u : Variable). u.num) f.2 in
            let m : y.num ≡ h.0.num + next = ap (λ (u : Variable). u.num) h.2 in
            f.2 ∙ ap (raised_var next) (own_one f.0 h.0 f.1 h.1 (omega (arith, e, n, m))) ∙ sym h.2
      ]
    ]

    -- the variables of raised terms are in the wider scope
    pub wide_term : (ts : List Term) → ((t : Term) → Contains ts t → Contains v.terms t) → (u : Term) (x : Variable) → Contains (map (renamed next) ts) u → Contains (variables u) x → Contains wider x
    wide_term ts each u x c d =
        let t = of_mapped (renamed next) ts u c in
        let e = subst (λ (xs : List Variable). Contains xs x) (ap variables t.2 ∙ variables-renamed next t.0) d in
        let y = of_mapped (raised_var next) (variables t.0) x e in
        subst (Contains wider) (sym y.2) (wide_new y.0 (member_variable v.terms t.0 y.0 (each t.0 t.1) y.1))
