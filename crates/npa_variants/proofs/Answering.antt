-- What the functions of the search answer.
use Rattle.std.proofs.Common.{◌≡◌, ℕ, ◌+◌, ◌≤◌, Bool, true, false, cond, Option, Some, None, IfSome, Result, Ok, Err, IfOk, IsTrue, List, [], ◌∷◌, ◌++◌, length, zip, map, drop, refl, sym, ◌∙◌, ap, subst, eq-eqb, arith}
use Rattle.std.specs.Prelude.{◌&&◌}
use Rattle.std.specs.Option.{is_some}
use Rattle.std.specs.List.{flat_map}
use Rattle.std.proofs.lemmas.List.{length-map}
use Rattle.npa_sorts.specs.Subsorts.{Subsorts}
use Rattle.npa_term.specs.declared.error.NoMemory.{NoMemory}
use Rattle.npa_term.specs.declared.term.Var.{Var as Variable}
use Rattle.npa_term.specs.declared.term.Term.{Term}
use Rattle.npa_term.specs.Bound.{applied}
use Rattle.npa_term.specs.Canonical.{canonical}
use Rattle.npa_term.specs.Numbering.{renumbered, variables_once}
use Rattle.npa_term.specs.Variables.{variables, renamed}
use Rattle.npa_sig.specs.declared.protocol.Equation.{Equation}
use Rattle.npa_match.specs.Branches.{branches, first_of}
use Rattle.npa_match.specs.Matching.{IsMatcher, HasMatch, HasMatcher}
use Rattle.npa_match.proofs.Answered.{first_answered, none_answered}
use Rattle.npa_unify.specs.Answers.{judged, unifiers as all_unifiers}
use Rattle.npa_rewrite.specs.declared.theory.Theory.{Theory}
use Rattle.npa_rewrite.specs.Innermost.{normalized}
use Rattle.npa_variants.specs.declared.kept.Kept.{Kept as FoundKept}
use Rattle.npa_variants.specs.declared.kept.Stop.{Stop as FoundStop}
use Rattle.npa_variants.specs.Rows.{Row, covers_row}
use Rattle.npa_variants.specs.Search.{Kept, Stop, symbols, are_normal, as_stop, by_unifier, first_large, past, placed, result_of, sized, start_row, too_many, variant_rows, variants_of, unifiers_at, values_under}
use Rattle.npa_variants.specs.declared.error.VarFail.{VarFail}
use Rattle.npa_variants.specs.declared.error.VarFail.TheVariants.{TooMany}
use Rattle.npa_variants.specs.declared.variant.Variant.{Variant}
use Rattle.npa_variants.specs.Told.{Gives, GivesUnifiers, Told}
use Rattle.npa_variants.specs.Variants.{variant_of}
use Rattle.npa_variants.proofs.Few.{Holds, OneMore}

-- a row covers another where their members match
some_first : (x : Option (List (Variable × Term))) → (x ≡ None → ⊥) → is_some x ≡ true
some_first None never = absurd (never refl)
some_first (Some s) never = refl

none_first : (o : Subsorts) (ps : List (Term × Term)) (x : Option (List (Variable × Term))) → IfSome x (IsMatcher o ps) → (HasMatch o ps → ⊥) → is_some x ≡ false
none_first o ps None m never = refl
none_first o ps (Some s) m never = absurd (never (record { by_ = s; matches = m.matches }))

covers_is : (o : Subsorts) (a b : Row) → length a ≡ length b → covers_row o a b ≡ is_some (first_of (branches o (zip a b)))
covers_is o a b long = ap (λ c. c && is_some (first_of (branches o (zip a b)))) (eq-eqb (length a) (length b) long)

pub covers_told : (o : Subsorts) (a b : Row) (ps : List (Term × Term)) (r : Result Bool NoMemory) → length a ≡ length b → ps ≡ zip a b →
    IfOk r (λ c. IsTrue c → HasMatcher o ps) → IfOk r (λ c. c ≡ false → HasMatch o ps → ⊥) → IfOk r (λ c. c ≡ covers_row o a b)
covers_told o a b ps (Ok true) long is found none =
    let m : HasMatcher o (zip a b) = subst (HasMatcher o) is (found refl) in
    sym (covers_is o a b long ∙ some_first (first_of (branches o (zip a b))) (λ e. none_answered o (zip a b) e m.by_ m.is.matches))
covers_told o a b ps (Ok false) long is found none =
    sym (covers_is o a b long ∙ none_first o (zip a b) (first_of (branches o (zip a b))) (first_answered o (zip a b)) (subst (λ qs. HasMatch o qs → ⊥) is (none refl)))
covers_told o a b ps (Err e) long is found none = tt

-- an application that has no unifier by its operator
pub none_unified : (th : Theory) (row : Row) (u : Term) (e : Equation) → ((o : Subsorts) (base next : ℕ) → all_unifiers o ((u, renamed base e.left) ∷ []) next ≡ []) →
    unifiers_at th row u e ≡ Ok []
none_unified th row u e none =
    let base = past (flat_map variables row) in
    ap (λ ss. as_stop (judged ss)) (none th.sig.sorts base (base + past (variables e.left)))

-- the unifiers of the problem that is made
pub unifiers_told : (th : Theory) (row : Row) (u : Term) (e : Equation) (r : Result (List (List (Variable × Term))) FoundStop) (o : Subsorts) (ps : List (Term × Term))
    (base more : ℕ) → GivesUnifiers r (as_stop (judged (all_unifiers o ps (base + more)))) → o ≡ th.sig.sorts → base ≡ past (flat_map variables row) →
    ps ≡ (u, renamed base e.left) ∷ [] → more ≡ past (variables e.left) → GivesUnifiers r (unifiers_at th row u e)
unifiers_told th row u e r o ps base more found sorts from pairs left =
    subst (GivesUnifiers r)
    (ap (λ (p : Subsorts). as_stop (judged (all_unifiers p ps (base + more)))) sorts
    ∙ ap (λ qs. as_stop (judged (all_unifiers th.sig.sorts qs (base + more)))) pairs
    ∙ ap (λ n. as_stop (judged (all_unifiers th.sig.sorts ((u, renamed base e.left) ∷ []) (base + n)))) left
    ∙ ap (λ b. as_stop (judged (all_unifiers th.sig.sorts ((u, renamed b e.left) ∷ []) (b + past (variables e.left))))) from)
    found

-- one unifier: an instance is too large, or the values aren't normal, or the result is placed
pub measured : (th : Theory) (m : ℕ) (row : Row) (s : List (Variable × Term)) (k : Kept) (n : ℕ) → Some n ≡ first_large (map (applied s) row) →
    by_unifier 64 th m row s k ≡ Err (symbols n)
measured th m row s k n e =
    ap (λ x. sized x (cond (are_normal th (values_under m row s)) (placed 64 th.sig.sorts (result_of th m row s) k) (Ok k))) (sym e)

pub judged_normal : (th : Theory) (m : ℕ) (row : Row) (s : List (Variable × Term)) (k : Kept) (values : List Term) (b : Bool) → None ≡ first_large (map (applied s) row) →
    values ≡ values_under m row s → b ≡ are_normal th values →
    by_unifier 64 th m row s k ≡ cond b (placed 64 th.sig.sorts (result_of th m row s) k) (Ok k)
judged_normal th m row s k values b e same normal =
    ap (λ x. sized x (cond (are_normal th (values_under m row s)) (placed 64 th.sig.sorts (result_of th m row s) k) (Ok k))) (sym e)
    ∙ ap (λ c. cond c (placed 64 th.sig.sorts (result_of th m row s) k) (Ok k)) (sym (normal ∙ ap (are_normal th) same))

pub placed_told : (th : Theory) (m : ℕ) (row : Row) (s : List (Variable × Term)) (k : Kept) (values : List Term) (b : Bool) (r : Result FoundKept FoundStop) (o : Subsorts)
    (terms : List Term) (w : Row) → {seen_values : List Term} → None ≡ first_large (map (applied s) row) → values ≡ values_under m row s → b ≡ are_normal th seen_values → seen_values ≡ values → b ≡ true →
    terms ≡ drop m row → w ≡ renumbered (values ++ map (λ t. normalized th (canonical (applied s t))) terms) → o ≡ th.sig.sorts → Gives r (placed 64 o w k) →
    Gives r (by_unifier 64 th m row s k)
placed_told th m row s k values b r o terms w small are normal seen so rest made sorts found =
    let is : w ≡ result_of th m row s =
    made ∙ ap (λ us. renumbered (us ++ map (λ t. normalized th (canonical (applied s t))) terms)) are
    ∙ ap (λ us. renumbered (values_under m row s ++ map (λ t. normalized th (canonical (applied s t))) us)) rest in
    subst (Gives r)
    (ap (λ (p : Subsorts). placed 64 p w k) sorts ∙ ap (λ u. placed 64 th.sig.sorts u k) is
    ∙ sym (judged_normal th m row s k values b small are (normal ∙ ap (are_normal th) seen) ∙ ap (λ c. cond c (placed 64 th.sig.sorts (result_of th m row s) k) (Ok k)) so))
    found

-- the rows of terms, and the variants that are told of them
pub same_rows : (th : Theory) (terms : List Term) (vs : List Variable) (m : ℕ) (row : Row) → vs ≡ variables_once terms → m ≡ length vs → row ≡ start_row th vs terms →
    variant_rows 64 th m row ≡ variants_of th terms
same_rows th terms vs m row is long first =
    ap (λ n. variant_rows 64 th n row) long ∙ ap (variant_rows 64 th (length vs)) first ∙ ap (λ ws. variant_rows 64 th (length ws) (start_row th ws terms)) is

pub told_list : (vs ws : List Variable) (list : List Variant) (rs : List Row) (r : Result (List Row) Stop) → vs ≡ ws → list ≡ map (variant_of vs) rs → r ≡ Ok rs → Told ws (Ok list) r
told_list vs ws list rs r is made e = subst (Told ws (Ok list)) (sym e) (made ∙ ap (λ us. map (variant_of us) rs) is)

pub told_many : (vs ws : List Variable) (list : List Variant) (rs : List Row) (r : Result (List Row) Stop) → vs ≡ ws → list ≡ map (variant_of vs) rs → r ≡ Err (too_many rs) →
    Told ws (Err (TooMany list)) r
told_many vs ws list rs r is made e = subst (Told ws (Err (TooMany list))) (sym e) (made ∙ ap (λ us. map (variant_of us) rs) is)

-- few variants are answered
pub few_told : (vs : List Variable) (r : Result (List Variant) VarFail) (rs : Result (List Row) Stop) → Told vs r rs → Holds (λ L. length L ≤ 64) (OneMore 64) rs →
    IfOk r (λ list. length list ≤ 64)
few_told vs (Ok list) (Ok rows) told few =
    let long : length list ≡ length rows = ap length told ∙ length-map rows (variant_of vs) in omega (arith, long, few)
few_told vs (Ok list) (Err s) told few = absurd told
few_told vs (Err e) rs told few = tt
