-- Composition of substitutions.
use Rattle.std.proofs.Common.{◌≡◌, ℕ, ◌+◌, ◌-◌, ◌^◌, ◌<◌, ◌≤◌, min, true, false, nat_lt, cond, Option, Some, None, List, [], ◌∷◌, ◌++◌, length, get_or, drop, map, find, refl, sym, ◌∙◌, ap, subst, arith}
use Rattle.std.specs.Prelude.{⊤, unwrap_or}
use Rattle.std.specs.Option.{is_none, option_map, option_or}
use Rattle.std.proofs.lemmas.List.{drop_more, map-append}
use Rattle.std.proofs.lemmas.List.Folds.{find-append}
use Rattle.npa_term.specs.declared.term.Var.{Var as Variable}
use Rattle.npa_term.specs.declared.term.Term.{Term, Var, Name, App}
use Rattle.npa_term.specs.Bound.{same_var, value_of, BindsOnce, applied}
use Rattle.npa_term.specs.Canonical.{canonical}
use Rattle.npa_term.specs.Symbols.{symbol_count}
use Rattle.npa_term.specs.Composition.{unbound, composed, first_past}
use Rattle.npa_term.specs.Same.{Same, itself, below, SameAll, nothing, first}
use Rattle.npa_term.proofs.Bindings.{same_var-comm, value_of-append, not_bound}
use Rattle.npa_term.proofs.AgreeingLaws.{same_variable}
use Rattle.npa_term.proofs.CanonicalLaws.{canonical_same, symbol_count-canonical}
use Rattle.npa_term.proofs.Induction.{Each, by_terms}
use Rattle.npa_term.proofs.Rows.{applied_app}
use Rattle.npa_term.proofs.SameLaws.{same_sym}

-- sizes

-- the first value is too large
pub past_here : (m n : ℕ) (b : Variable × Term) (bs : List (Variable × Term)) → n ≡ min (symbol_count b.1) (2 ^ 64 - 1) → m < n → first_past m (b ∷ bs) ≡ Some n
past_here m n b bs e large =
    let P : ℕ → Type 0 = λ k. cond (nat_lt m k) (Some k) (first_past m bs) ≡ Some n in
    subst P e (grind arith)

-- the first value is not too large
pub past_later : (m n : ℕ) (b : Variable × Term) (bs : List (Variable × Term)) → n ≡ min (symbol_count b.1) (2 ^ 64 - 1) → n ≤ m → first_past m (b ∷ bs) ≡ first_past m bs
past_later m n b bs e small =
    let P : ℕ → Type 0 = λ k. cond (nat_lt m k) (Some k) (first_past m bs) ≡ first_past m bs in
    subst P e (grind arith)

pub first_past-append : (m : ℕ) (s u : List (Variable × Term)) → first_past m (s ++ u) ≡ option_or (first_past m s) (first_past m u)
first_past-append m s u =
    ap (find (λ n. nat_lt m n)) (map-append (λ b. min (symbol_count b.1) (2 ^ 64 - 1)) s u)
    ∙ find-append (λ n. nat_lt m n) (map (λ b. min (symbol_count b.1) (2 ^ 64 - 1)) s) (map (λ b. min (symbol_count b.1) (2 ^ 64 - 1)) u)

-- the first large value of a composition is one of the front, or else one behind it
pub large_in_front : (m n : ℕ) (s u bs : List (Variable × Term)) → bs ≡ s → Some n ≡ first_past m (map (λ b. (b.0, canonical (applied u b.1))) bs) → Some n ≡ first_past m (composed s u)
large_in_front m n s u bs is e =
    ap (λ o. option_or o (first_past m (map (λ b. (b.0, canonical b.1)) (unbound s u))))
    (e ∙ ap (λ cs. first_past m (map (λ b. (b.0, canonical (applied u b.1))) cs)) is)
    ∙ sym (first_past-append m (map (λ b. (b.0, canonical (applied u b.1))) s) (map (λ b. (b.0, canonical b.1)) (unbound s u)))

pub large_behind : (m : ℕ) (o : Option ℕ) (s u bs cs : List (Variable × Term)) → bs ≡ s → cs ≡ u → None ≡ first_past m (map (λ b. (b.0, canonical (applied u b.1))) bs) →
    o ≡ first_past m (map (λ b. (b.0, canonical b.1)) (unbound s cs)) → o ≡ first_past m (composed s u)
large_behind m o s u bs cs is also small e =
    e ∙ ap (λ ds. first_past m (map (λ b. (b.0, canonical b.1)) (unbound s ds))) also
    ∙ ap (λ p. option_or p (first_past m (map (λ b. (b.0, canonical b.1)) (unbound s u))))
    (small ∙ ap (λ ds. first_past m (map (λ b. (b.0, canonical (applied u b.1))) ds)) is)
    ∙ sym (first_past-append m (map (λ b. (b.0, canonical (applied u b.1))) s) (map (λ b. (b.0, canonical b.1)) (unbound s u)))

-- the variables of the composition

same_var_is : (v w : Variable) → same_var v w ≡ true → v ≡ w
same_var_is v w e =
    let numbers : v.num ≡ w.num = grind arith in
    let sorts : v.sort ≡ w.sort = grind arith in
    same_variable v w numbers sorts

-- a value that was changed
pub value_of-map : (h : Term → Term) (s : List (Variable × Term)) (v : Variable) → value_of (map (λ b. (b.0, h b.1)) s) v ≡ option_map h (value_of s v)
value_of-map h [] v = refl
value_of-map h (b ∷ s) v =
    elim (same_var b.0 v) as (λ c. cond c (Some (h b.1)) (value_of (map (λ b. (b.0, h b.1)) s) v) ≡ option_map h (cond c (Some b.1) (value_of s v)))
    [ true ↦ refl | false ↦ value_of-map h s v ]

-- a variable that `s` leaves free has the value that `u` gives it
pub value_of-unbound : (s u : List (Variable × Term)) (v : Variable) → value_of s v ≡ None → value_of (unbound s u) v ≡ value_of u v
value_of-unbound s [] v free = refl
value_of-unbound s (b ∷ u) v free =
    let rest : value_of (unbound s u) v ≡ value_of u v = value_of-unbound s u v free in
    elim (is_none (value_of s b.0)) as (λ c. is_none (value_of s b.0) ≡ c → value_of (cond c (b ∷ unbound s u) (unbound s u)) v ≡ cond (same_var b.0 v) (Some b.1) (value_of u v)) [
      | true ↦ λ e. ap (λ o. cond (same_var b.0 v) (Some b.1) o) rest
      | false ↦ λ e.
          elim (same_var b.0 v) as (λ c. same_var b.0 v ≡ c → value_of (unbound s u) v ≡ cond c (Some b.1) (value_of u v)) [
            | true ↦ λ same. let none : is_none (value_of s b.0) ≡ true = ap (λ w. is_none (value_of s w)) (same_var_is b.0 v same) ∙ ap is_none free in cc
            | false ↦ λ other. rest
          ] refl
    ] refl

-- a variable that is free in `u` is free in what `s` leaves of it
free_unbound : (s u : List (Variable × Term)) (v : Variable) → value_of u v ≡ None → value_of (unbound s u) v ≡ None
free_unbound s [] v free = refl
free_unbound s (b ∷ u) v free =
    let parts = not_bound b u v free in
    let rest : value_of (unbound s u) v ≡ None = free_unbound s u v parts.1 in
    elim (is_none (value_of s b.0)) as (λ c. value_of (cond c (b ∷ unbound s u) (unbound s u)) v ≡ None)
    [ true ↦ ap (λ c. cond c (Some b.1) (value_of (unbound s u) v)) parts.0 ∙ rest | false ↦ rest ]

once_unbound : (s u : List (Variable × Term)) → BindsOnce u → BindsOnce (unbound s u)
once_unbound s [] once = tt
once_unbound s (b ∷ u) once =
    elim (is_none (value_of s b.0)) as (λ c. BindsOnce (cond c (b ∷ unbound s u) (unbound s u)))
    [ true ↦ (free_unbound s u b.0 once.0, once_unbound s u once.1) | false ↦ once_unbound s u once.1 ]

once_mapped : (h : Term → Term) (s : List (Variable × Term)) → BindsOnce s → BindsOnce (map (λ b. (b.0, h b.1)) s)
once_mapped h [] once = tt
once_mapped h (b ∷ s) once = (value_of-map h s b.0 ∙ ap (option_map h) once.0, once_mapped h s once.1)

none_is : {T : Type 0} (o : Option T) → is_none o ≡ true → o ≡ None
none_is None e = refl
none_is (Some x) e = cc

-- every variable of `u` is free in `s`
abbrev Apart : List (Variable × Term) → List (Variable × Term) → Type 0
Apart s [] = ⊤
Apart s (b ∷ u) = (value_of s b.0 ≡ None) × Apart s u

apart_unbound : (s u : List (Variable × Term)) → Apart s (unbound s u)
apart_unbound s [] = tt
apart_unbound s (b ∷ u) =
    elim (is_none (value_of s b.0)) as (λ c. is_none (value_of s b.0) ≡ c → Apart s (cond c (b ∷ unbound s u) (unbound s u)))
    [ true ↦ λ e. (none_is (value_of s b.0) e, apart_unbound s u) | false ↦ λ e. apart_unbound s u ] refl

apart_free : (b : Variable × Term) (s u : List (Variable × Term)) → Apart (b ∷ s) u → value_of u b.0 ≡ None
apart_free b s [] apart = refl
apart_free b s (c ∷ u) apart =
    ap (λ x. cond x (Some c.1) (value_of u b.0)) (same_var-comm c.0 b.0 ∙ (not_bound b s c.0 apart.0).0) ∙ apart_free b s u apart.1

apart_rest : (b : Variable × Term) (s u : List (Variable × Term)) → Apart (b ∷ s) u → Apart s u
apart_rest b s [] apart = tt
apart_rest b s (c ∷ u) apart = ((not_bound b s c.0 apart.0).1, apart_rest b s u apart.1)

apart_mapped : (g h : Term → Term) (s u : List (Variable × Term)) → Apart s u → Apart (map (λ b. (b.0, g b.1)) s) (map (λ b. (b.0, h b.1)) u)
apart_mapped g h s [] apart = tt
apart_mapped g h s (b ∷ u) apart = (value_of-map g s b.0 ∙ ap (option_map g) apart.0, apart_mapped g h s u apart.1)

once-append : (s u : List (Variable × Term)) → BindsOnce s → BindsOnce u → Apart s u → BindsOnce (s ++ u)
once-append [] u once later apart = later
once-append (b ∷ s) u once later apart =
    (value_of-append s u b.0 once.0 ∙ apart_free b s u apart, once-append s u once.1 later (apart_rest b s u apart))

-- the composition binds each variable once
pub composed_once : (s u : List (Variable × Term)) → BindsOnce s → BindsOnce u → BindsOnce (composed s u)
composed_once s u once later =
    once-append (map (λ b. (b.0, canonical (applied u b.1))) s) (map (λ b. (b.0, canonical b.1)) (unbound s u))
    (once_mapped (λ t. canonical (applied u t)) s once) (once_mapped canonical (unbound s u) (once_unbound s u later))
    (apart_mapped (λ t. canonical (applied u t)) canonical s (unbound s u) (apart_unbound s u))

-- a variable that is bound in the front is found there
found-append : (s u : List (Variable × Term)) (v : Variable) (t : Term) → value_of s v ≡ Some t → value_of (s ++ u) v ≡ Some t
found-append [] u v t e = cc
found-append (b ∷ s) u v t e =
    elim (same_var b.0 v) as (λ c. cond c (Some b.1) (value_of s v) ≡ Some t → cond c (Some b.1) (value_of (s ++ u) v) ≡ Some t)
    [ true ↦ λ d. d | false ↦ λ d. found-append s u v t d ] e

-- the value of a variable under the composition
pub value_of-composed : (s u : List (Variable × Term)) (v : Variable) → Same (applied (composed s u) (Var v)) (applied u (applied s (Var v)))
value_of-composed s u v =
    let front : List (Variable × Term) = map (λ b. (b.0, canonical (applied u b.1))) s in
    let back : List (Variable × Term) = map (λ b. (b.0, canonical b.1)) (unbound s u) in
    let P : Option Term → Option Term → Type 0 = λ o p. Same (unwrap_or o (Var v)) (applied u (unwrap_or p (Var v))) in
    elim (value_of s v) as (λ p. value_of s v ≡ p → P (value_of (composed s u) v) p) [
      | Some x ↦ λ e.
          let is : value_of (composed s u) v ≡ Some (canonical (applied u x)) =
          found-append front back v (canonical (applied u x)) (value_of-map (λ t. canonical (applied u t)) s v ∙ ap (option_map (λ t. canonical (applied u t))) e) in
          subst (λ o. P o (Some x)) (sym is) (same_sym (canonical_same (applied u x)))
      | None ↦ λ e.
          let is : value_of (composed s u) v ≡ option_map canonical (value_of u v) =
          value_of-append front back v (value_of-map (λ t. canonical (applied u t)) s v ∙ ap (option_map (λ t. canonical (applied u t))) e)
          ∙ value_of-map canonical (unbound s u) v ∙ ap (option_map canonical) (value_of-unbound s u v e) in
          subst (λ o. P o None) (sym is)
          (elim (value_of u v) as (λ p. Same (unwrap_or (option_map canonical p) (Var v)) (unwrap_or p (Var v)))
          [ Some x ↦ same_sym (canonical_same x) | None ↦ itself (Var v) ])
    ] refl

composed_each : (s u : List (Variable × Term)) (ts : List Term) → Each (λ t. Same (applied (composed s u) t) (applied u (applied s t))) ts →
    SameAll (map (applied (composed s u)) ts) (map (applied u) (map (applied s) ts))
composed_each s u [] each = nothing
composed_each s u (t ∷ ts) each =
    first (applied (composed s u) t) (applied u (applied s t)) (map (applied (composed s u)) ts) (map (applied u) (map (applied s) ts)) each.0 (composed_each s u ts each.1)

-- the composition does `s` and then `u`
pub composed_does : (s u : List (Variable × Term)) (t : Term) → Same (applied (composed s u) t) (applied u (applied s t))
composed_does s u =
    by_terms (λ t. Same (applied (composed s u) t) (applied u (applied s t))) (value_of-composed s u) (λ n. itself (Name n))
    (λ op ts each.
    let whole : Same (App op (map (applied (composed s u)) ts)) (App op (map (applied u) (map (applied s) ts))) =
    below op (map (applied (composed s u)) ts) (map (applied u) (map (applied s) ts)) (composed_each s u ts each) in
    let right : applied u (applied s (App op ts)) ≡ App op (map (applied u) (map (applied s) ts)) =
    ap (applied u) (applied_app s op ts) ∙ applied_app u op (map (applied s) ts) in
    subst (λ v. Same v (applied u (applied s (App op ts)))) (sym (applied_app (composed s u) op ts))
    (subst (λ v. Same (App op (map (applied (composed s u)) ts)) v) (sym right) whole))

-- steps of the loops

-- the instance of the first value is too large
pub past_instance_here : (u bs : List (Variable × Term)) (i n : ℕ) (b : Variable × Term) → i < length bs → b ≡ get_or bs i b →
    n ≡ min (symbol_count (applied u b.1)) (2 ^ 64 - 1) → 1024 < n → first_past 1024 (map (λ c. (c.0, canonical (applied u c.1))) (drop i bs)) ≡ Some n
past_instance_here u bs i n b small is e large =
    let this : drop i bs ≡ b ∷ drop (i + 1) bs = drop_more bs i b small ∙ ap (λ c. c ∷ drop (i + 1) bs) (sym is) in
    ap (λ cs. first_past 1024 (map (λ c. (c.0, canonical (applied u c.1))) cs)) this
    ∙ past_here 1024 n (b.0, canonical (applied u b.1)) (map (λ c. (c.0, canonical (applied u c.1))) (drop (i + 1) bs))
    (e ∙ ap (λ k. min k (2 ^ 64 - 1)) (sym (symbol_count-canonical (applied u b.1)))) large

-- it isn't
pub past_instance_later : (u bs : List (Variable × Term)) (i n : ℕ) (b : Variable × Term) → i < length bs → b ≡ get_or bs i b →
    n ≡ min (symbol_count (applied u b.1)) (2 ^ 64 - 1) → n ≤ 1024 →
    first_past 1024 (map (λ c. (c.0, canonical (applied u c.1))) (drop (i + 1) bs)) ≡ first_past 1024 (map (λ c. (c.0, canonical (applied u c.1))) (drop i bs))
past_instance_later u bs i n b small is e fits =
    let this : drop i bs ≡ b ∷ drop (i + 1) bs = drop_more bs i b small ∙ ap (λ c. c ∷ drop (i + 1) bs) (sym is) in
    sym (ap (λ cs. first_past 1024 (map (λ c. (c.0, canonical (applied u c.1))) cs)) this
    ∙ past_later 1024 n (b.0, canonical (applied u b.1)) (map (λ c. (c.0, canonical (applied u c.1))) (drop (i + 1) bs))
    (e ∙ ap (λ k. min k (2 ^ 64 - 1)) (sym (symbol_count-canonical (applied u b.1)))) fits)

-- the first variable is free, or it isn't
unbound_here : (s bs : List (Variable × Term)) (i : ℕ) (b : Variable × Term) → i < length bs → b ≡ get_or bs i b → value_of s b.0 ≡ None →
    unbound s (drop i bs) ≡ b ∷ unbound s (drop (i + 1) bs)
unbound_here s bs i b small is free =
    let this : drop i bs ≡ b ∷ drop (i + 1) bs = drop_more bs i b small ∙ ap (λ c. c ∷ drop (i + 1) bs) (sym is) in
    ap (unbound s) this ∙ ap (λ o. cond (is_none o) (b ∷ unbound s (drop (i + 1) bs)) (unbound s (drop (i + 1) bs))) free

pub unbound_later : (s bs : List (Variable × Term)) (i : ℕ) (b : Variable × Term) → i < length bs → b ≡ get_or bs i b → is_none (value_of s b.0) ≡ false →
    unbound s (drop (i + 1) bs) ≡ unbound s (drop i bs)
unbound_later s bs i b small is bound =
    let this : drop i bs ≡ b ∷ drop (i + 1) bs = drop_more bs i b small ∙ ap (λ c. c ∷ drop (i + 1) bs) (sym is) in
    sym (ap (unbound s) this ∙ ap (λ x. cond x (b ∷ unbound s (drop (i + 1) bs)) (unbound s (drop (i + 1) bs))) bound)

pub past_unbound_here : (s bs : List (Variable × Term)) (i n : ℕ) (b : Variable × Term) → i < length bs → b ≡ get_or bs i b → value_of s b.0 ≡ None →
    n ≡ min (symbol_count b.1) (2 ^ 64 - 1) → 1024 < n → first_past 1024 (map (λ c. (c.0, canonical c.1)) (unbound s (drop i bs))) ≡ Some n
past_unbound_here s bs i n b small is free e large =
    ap (λ cs. first_past 1024 (map (λ c. (c.0, canonical c.1)) cs)) (unbound_here s bs i b small is free)
    ∙ past_here 1024 n (b.0, canonical b.1) (map (λ c. (c.0, canonical c.1)) (unbound s (drop (i + 1) bs)))
    (e ∙ ap (λ k. min k (2 ^ 64 - 1)) (sym (symbol_count-canonical b.1))) large

pub past_unbound_later : (s bs : List (Variable × Term)) (i n : ℕ) (b : Variable × Term) → i < length bs → b ≡ get_or bs i b → value_of s b.0 ≡ None →
    n ≡ min (symbol_count b.1) (2 ^ 64 - 1) → n ≤ 1024 →
    first_past 1024 (map (λ c. (c.0, canonical c.1)) (unbound s (drop (i + 1) bs))) ≡ first_past 1024 (map (λ c. (c.0, canonical c.1)) (unbound s (drop i bs)))
past_unbound_later s bs i n b small is free e fits =
    sym (ap (λ cs. first_past 1024 (map (λ c. (c.0, canonical c.1)) cs)) (unbound_here s bs i b small is free)
    ∙ past_later 1024 n (b.0, canonical b.1) (map (λ c. (c.0, canonical c.1)) (unbound s (drop (i + 1) bs)))
    (e ∙ ap (λ k. min k (2 ^ 64 - 1)) (sym (symbol_count-canonical b.1))) fits)
