-- The variables and the symbols of terms and pairs, under one binding and in lists of arguments.
use Rattle.std.proofs.Common.{◌≡◌, ◌+◌, ◌<◌, ◌≤◌, true, false, cond, List, [], ◌∷◌, ◌++◌, map, length, Some, None, refl, sym, ◌∙◌, ap, subst, inl, inr, arith}
use Rattle.std.specs.Prelude.{Contains, ◌⊎◌, flat_map, zip, unwrap_or}
use Rattle.std.specs.Ordering.{is_gt}
use Rattle.std.proofs.lemmas.Bool.{true≢false}
use Rattle.std.proofs.lemmas.List.Elements.{Contains-append_left, Contains-append_right, Contains-append_cases}
use Rattle.npa_term.specs.declared.term.Var.{Var as Variable}
use Rattle.npa_term.specs.declared.term.Term.{Term, Var, App}
use Rattle.npa_term.specs.Bound.{same_var, applied}
use Rattle.npa_term.specs.Canonical.{canonical}
use Rattle.npa_term.specs.Computed.{turned}
use Rattle.npa_term.specs.Order.{term_cmp}
use Rattle.npa_term.specs.Symbols.{symbol_count, all_count}
use Rattle.npa_term.specs.Variables.{variables}
use Rattle.npa_term.proofs.Equality.{var_equal, var_itself}
use Rattle.npa_term.proofs.Induction.{Each, by_terms, term_cases}
use Rattle.npa_term.proofs.Rows.{applied_app, symbol_count_at, variables_at}
use Rattle.npa_unify.specs.Branches.{has_var, arranged, pair_symbols, pair_variables}
use Rattle.npa_unify.proofs.Members.{here, later, nowhere, member_cases, only_one}

-- the test of variables

pub var_differ : (v w : Variable) → (v ≡ w → ⊥) → same_var v w ≡ false
var_differ v w other = elim (same_var v w) as (λ b. same_var v w ≡ b → b ≡ false) [ true ↦ λ e. absurd (other (var_equal v w e)) | false ↦ λ e. refl ] refl

pub var_other : (v w : Variable) → same_var v w ≡ false → v ≡ w → ⊥
var_other v w e is = true≢false (sym (subst (λ x. same_var v x ≡ true) is (var_itself v)) ∙ e)

pub var_cases : (v w : Variable) → (v ≡ w) ⊎ (v ≡ w → ⊥)
var_cases v w = elim (same_var v w) as (λ b. same_var v w ≡ b → (v ≡ w) ⊎ (v ≡ w → ⊥)) [ true ↦ λ e. inl (var_equal v w e) | false ↦ λ e. inr (var_other v w e) ] refl

pub has_var_of : (ws : List Variable) (v : Variable) → Contains ws v → has_var ws v ≡ true
has_var_of [] v c = absurd (nowhere v c)
has_var_of (w ∷ ws) v c =
    elim (same_var w v) as (λ b. same_var w v ≡ b → cond b true (has_var ws v) ≡ true) [
      | true ↦ λ e. refl
      | false ↦ λ e. elim (member_cases w v ws c) [ inl is ↦ absurd (var_other w v e is) | inr d ↦ has_var_of ws v d ]
    ] refl

pub has_var_is : (ws : List Variable) (v : Variable) → has_var ws v ≡ true → Contains ws v
has_var_is [] v e = cc
has_var_is (w ∷ ws) v e =
    elim (same_var w v) as (λ b. same_var w v ≡ b → cond b true (has_var ws v) ≡ true → Contains (w ∷ ws) v) [
      | true ↦ λ d f. subst (Contains (w ∷ ws)) (var_equal w v d) (here w ws)
      | false ↦ λ d f. later w v ws (has_var_is ws v f)
    ] refl e

pub has_no_var : (ws : List Variable) (v : Variable) → has_var ws v ≡ false → Contains ws v → ⊥
has_no_var ws v e c = true≢false (sym (has_var_of ws v c) ∙ e)

-- a list without a variable

abbrev pub without : Variable → List Variable → List Variable
without v [] = []
without v (w ∷ ws) = cond (same_var v w) (without v ws) (w ∷ without v ws)

pub without_has : (v : Variable) (l : List Variable) (x : Variable) → Contains l x → (v ≡ x → ⊥) → Contains (without v l) x
without_has v [] x c other = absurd (nowhere x c)
without_has v (w ∷ ws) x c other =
    elim (same_var v w) as (λ b. same_var v w ≡ b → Contains (cond b (without v ws) (w ∷ without v ws)) x) [
      | true ↦ λ e. elim (member_cases w x ws c) [ inl is ↦ absurd (other (var_equal v w e ∙ is)) | inr d ↦ without_has v ws x d other ]
      | false ↦ λ e. elim (member_cases w x ws c) [
        | inl is ↦ subst (Contains (w ∷ without v ws)) is (here w (without v ws))
        | inr d ↦ later w x (without v ws) (without_has v ws x d other)
      ]
    ] refl

pub without_length : (v : Variable) (l : List Variable) → length (without v l) ≤ length l
without_length v [] = omega arith
without_length v (w ∷ ws) =
    let rest : length (without v ws) ≤ length ws = without_length v ws in
    elim (same_var v w) as (λ b. length (cond b (without v ws) (w ∷ without v ws)) ≤ length (w ∷ ws)) [ true ↦ omega (arith, rest) | false ↦ omega (arith, rest) ]

pub without_shorter : (v : Variable) (l : List Variable) → Contains l v → length (without v l) < length l
without_shorter v [] c = absurd (nowhere v c)
without_shorter v (w ∷ ws) c =
    elim (same_var v w) as (λ b. same_var v w ≡ b → length (cond b (without v ws) (w ∷ without v ws)) < length (w ∷ ws)) [
      | true ↦ λ e. let rest : length (without v ws) ≤ length ws = without_length v ws in omega (arith, rest)
      | false ↦ λ e. elim (member_cases w v ws c) [
        | inl is ↦ absurd (var_other v w e (sym is))
        | inr d ↦ let rest : length (without v ws) < length ws = without_shorter v ws d in omega (arith, rest)
      ]
    ] refl

-- each term has a symbol
pub some_symbol : (t : Term) → 0 < symbol_count t
some_symbol =
    term_cases (λ t. 0 < symbol_count t) (λ v. omega arith) (λ n. omega arith)
    (λ op ts. let whole : symbol_count (App op ts) ≡ 1 + all_count ts = symbol_count_at (App op ts) op ts refl in omega (arith, whole))

-- the variables of a term under one binding

abbrev Put : Variable → Term → Variable → Term → Type 0
Put v t w x = (Contains (variables x) w × (v ≡ w → ⊥)) ⊎ Contains (variables t) w

put_members : (v : Variable) (t : Term) (w : Variable) (ts : List Term) → Each (λ x. Contains (variables (applied ((v, t) ∷ []) x)) w → Put v t w x) ts →
    Contains (flat_map variables (map (applied ((v, t) ∷ [])) ts)) w → (Contains (flat_map variables ts) w × (v ≡ w → ⊥)) ⊎ Contains (variables t) w
put_members v t w [] each c = absurd (nowhere w c)
put_members v t w (x ∷ xs) each c =
    elim (Contains-append_cases (variables (applied ((v, t) ∷ []) x)) (flat_map variables (map (applied ((v, t) ∷ [])) xs)) w c) [
      | inl d ↦ elim (each.0 d) [ inl p ↦ inl (Contains-append_left (variables x) (flat_map variables xs) w p.0, p.1) | inr p ↦ inr p ]
      | inr d ↦ elim (put_members v t w xs each.1 d) [ inl p ↦ inl (Contains-append_right (variables x) (flat_map variables xs) w p.0, p.1) | inr p ↦ inr p ]
    ]

pub put_term : (v : Variable) (t : Term) (w : Variable) (x : Term) → Contains (variables (applied ((v, t) ∷ []) x)) w → Put v t w x
put_term v t w =
    by_terms (λ x. Contains (variables (applied ((v, t) ∷ []) x)) w → Put v t w x)
    (λ y. elim (same_var v y) as (λ b. same_var v y ≡ b → Contains (variables (unwrap_or (cond b (Some t) None) (Var y))) w → Put v t w (Var y)) [
      | true ↦ λ e c. inr c
      | false ↦ λ e c. let is : y ≡ w = only_one y w c in inl (c, λ f. var_other v y e (f ∙ sym is))
    ] refl)
    (λ n c. absurd (nowhere w c))
    (λ op ts each c.
    let whole : variables (App op ts) ≡ flat_map variables ts = variables_at (App op ts) op ts refl in
    let put : variables (applied ((v, t) ∷ []) (App op ts)) ≡ flat_map variables (map (applied ((v, t) ∷ [])) ts) =
    variables_at (applied ((v, t) ∷ []) (App op ts)) op (map (applied ((v, t) ∷ [])) ts) (applied_app ((v, t) ∷ []) op ts) in
    elim (put_members v t w ts each (subst (λ l. Contains l w) put c)) [ inl p ↦ inl (subst (λ l. Contains l w) (sym whole) p.0, p.1) | inr p ↦ inr p ])

-- and of pairs

abbrev pub put_pairs : Variable → Term → List (Term × Term) → List (Term × Term)
put_pairs v t ps = map (λ p. (applied ((v, t) ∷ []) p.0, applied ((v, t) ∷ []) p.1)) ps

pub first_has : (p : Term × Term) (ps : List (Term × Term)) (w : Variable) → Contains (variables p.0) w → Contains (pair_variables (p ∷ ps)) w
first_has p ps w c = Contains-append_left (variables p.0) (variables p.1 ++ pair_variables ps) w c

pub second_has : (p : Term × Term) (ps : List (Term × Term)) (w : Variable) → Contains (variables p.1) w → Contains (pair_variables (p ∷ ps)) w
second_has p ps w c = Contains-append_right (variables p.0) (variables p.1 ++ pair_variables ps) w (Contains-append_left (variables p.1) (pair_variables ps) w c)

pub rest_has : (p : Term × Term) (ps : List (Term × Term)) (w : Variable) → Contains (pair_variables ps) w → Contains (pair_variables (p ∷ ps)) w
rest_has p ps w c = Contains-append_right (variables p.0) (variables p.1 ++ pair_variables ps) w (Contains-append_right (variables p.1) (pair_variables ps) w c)

pub pair_cases : (p : Term × Term) (ps : List (Term × Term)) (w : Variable) → Contains (pair_variables (p ∷ ps)) w →
    Contains (variables p.0) w ⊎ (Contains (variables p.1) w ⊎ Contains (pair_variables ps) w)
pair_cases p ps w c =
    elim (Contains-append_cases (variables p.0) (variables p.1 ++ pair_variables ps) w c) [
      | inl d ↦ inl d
      | inr d ↦ inr (Contains-append_cases (variables p.1) (pair_variables ps) w d)
    ]

pub put_variables : (v : Variable) (t : Term) (w : Variable) (ps : List (Term × Term)) → Contains (pair_variables (put_pairs v t ps)) w →
    (Contains (pair_variables ps) w × (v ≡ w → ⊥)) ⊎ Contains (variables t) w
put_variables v t w [] c = absurd (nowhere w c)
put_variables v t w (p ∷ ps) c =
    elim (pair_cases (applied ((v, t) ∷ []) p.0, applied ((v, t) ∷ []) p.1) (put_pairs v t ps) w c) [
      | inl d ↦ elim (put_term v t w p.0 d) [ inl q ↦ inl (first_has p ps w q.0, q.1) | inr q ↦ inr q ]
      | inr d ↦ elim d [
        | inl e ↦ elim (put_term v t w p.1 e) [ inl q ↦ inl (second_has p ps w q.0, q.1) | inr q ↦ inr q ]
        | inr e ↦ elim (put_variables v t w ps e) [ inl q ↦ inl (rest_has p ps w q.0, q.1) | inr q ↦ inr q ]
      ]
    ]

-- arguments in another order

pub arranged_is : (ts : List Term) → (arranged ts ≡ ts) ⊎ (arranged ts ≡ turned ts)
arranged_is [] = inl refl
arranged_is (t ∷ []) = inl refl
arranged_is (t ∷ u ∷ []) =
    elim (is_gt (term_cmp (canonical t) (canonical u))) as (λ b. (cond b (u ∷ t ∷ []) (t ∷ u ∷ []) ≡ t ∷ u ∷ []) ⊎ (cond b (u ∷ t ∷ []) (t ∷ u ∷ []) ≡ u ∷ t ∷ []))
    [ true ↦ inr refl | false ↦ inl refl ]
arranged_is (t ∷ u ∷ x ∷ ts) = inl refl

pub turned_count : (ts : List Term) → all_count (turned ts) ≡ all_count ts
turned_count [] = refl
turned_count (t ∷ []) = refl
turned_count (t ∷ u ∷ []) = omega arith
turned_count (t ∷ u ∷ x ∷ ts) = refl

pub arranged_count : (ts : List Term) → all_count (arranged ts) ≡ all_count ts
arranged_count ts = elim (arranged_is ts) [ inl e ↦ ap all_count e | inr e ↦ ap all_count e ∙ turned_count ts ]

two_variables : (t u : Term) (w : Variable) → Contains (flat_map variables (u ∷ t ∷ [])) w → Contains (flat_map variables (t ∷ u ∷ [])) w
two_variables t u w c =
    elim (Contains-append_cases (variables u) (variables t ++ []) w c) [
      | inl d ↦ Contains-append_right (variables t) (variables u ++ []) w (Contains-append_left (variables u) [] w d)
      | inr d ↦ elim (Contains-append_cases (variables t) [] w d) [
        | inl e ↦ Contains-append_left (variables t) (variables u ++ []) w e
        | inr e ↦ absurd (nowhere w e)
      ]
    ]

pub turned_variables : (ts : List Term) (w : Variable) → Contains (flat_map variables (turned ts)) w → Contains (flat_map variables ts) w
turned_variables [] w c = c
turned_variables (t ∷ []) w c = c
turned_variables (t ∷ u ∷ []) w c = two_variables t u w c
turned_variables (t ∷ u ∷ x ∷ ts) w c = c

pub arranged_variables : (ts : List Term) (w : Variable) → Contains (flat_map variables (arranged ts)) w → Contains (flat_map variables ts) w
arranged_variables ts w c =
    elim (arranged_is ts) [
      | inl e ↦ subst (λ us. Contains (flat_map variables us) w) e c
      | inr e ↦ turned_variables ts w (subst (λ us. Contains (flat_map variables us) w) e c)
    ]

-- pairs of arguments in front of others

pub zip_variables : (ts us : List Term) (ps : List (Term × Term)) (w : Variable) → Contains (pair_variables (zip ts us ++ ps)) w →
    Contains (flat_map variables ts) w ⊎ (Contains (flat_map variables us) w ⊎ Contains (pair_variables ps) w)
zip_variables [] us ps w c = inr (inr c)
zip_variables (t ∷ ts) [] ps w c = inr (inr c)
zip_variables (t ∷ ts) (u ∷ us) ps w c =
    elim (pair_cases (t, u) (zip ts us ++ ps) w c) [
      | inl d ↦ inl (Contains-append_left (variables t) (flat_map variables ts) w d)
      | inr d ↦ elim d [
        | inl e ↦ inr (inl (Contains-append_left (variables u) (flat_map variables us) w e))
        | inr e ↦ elim (zip_variables ts us ps w e) [
          | inl f ↦ inl (Contains-append_right (variables t) (flat_map variables ts) w f)
          | inr f ↦ elim f [
            | inl g ↦ inr (inl (Contains-append_right (variables u) (flat_map variables us) w g))
            | inr g ↦ inr (inr g)
          ]
        ]
      ]
    ]

pub zip_symbols : (ts us : List Term) (ps : List (Term × Term)) → pair_symbols (zip ts us ++ ps) ≤ all_count ts + (all_count us + pair_symbols ps)
zip_symbols [] us ps = omega arith
zip_symbols (t ∷ ts) [] ps = omega arith
zip_symbols (t ∷ ts) (u ∷ us) ps =
    let rest : pair_symbols (zip ts us ++ ps) ≤ all_count ts + (all_count us + pair_symbols ps) = zip_symbols ts us ps in omega (arith, rest)
