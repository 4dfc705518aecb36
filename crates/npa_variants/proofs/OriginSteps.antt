-- Steps of the loops that look for a variable that doesn't originate.
use Rattle.std.proofs.Common.{◌≡◌, ℕ, zero, suc, ◌+◌, ◌-◌, ◌<◌, ◌≤◌, min, Bool, true, false, not, ◌||◌, cond, Option, Some, None, List, [], ◌∷◌, ◌++◌, length, map, take, drop, get_or, replicate, refl, sym, ◌∙◌, ap, subst, length-append, arith}
use Rattle.std.specs.Prelude.{find}
use Rattle.std.specs.List.{flat_map}
use Rattle.std.specs.Option.{option_or}
use Rattle.std.proofs.lemmas.List.{drop_more, drop-drop, drop-take, length-replicate}
use Rattle.npa_term.specs.declared.term.Var.{Var as Variable}
use Rattle.npa_term.specs.declared.term.Term.{Term}
use Rattle.npa_term.specs.Bound.{same_var}
use Rattle.npa_term.specs.Numbering.{is_listed}
use Rattle.npa_term.specs.Variables.{variables}
use Rattle.npa_sig.specs.declared.protocol.Event.{Event}
use Rattle.npa_sig.specs.declared.protocol.Strand.{Strand}
use Rattle.npa_sig.specs.Parameters.{param_sorts}
use Rattle.npa_variants.specs.declared.variant.Variant.{Variant}
use Rattle.npa_variants.specs.Origination.{is_received, row_fault, at_variant, origin_fault}
use Rattle.npa_variants.specs.Origins.{fails_in}

-- the rest of a list begins with the member that is read
pub rest_at : {X : Type 0} (xs : List X) (i : ℕ) (x : X) → i < length xs → x ≡ get_or xs i x → drop i xs ≡ x ∷ drop (i + 1) xs
rest_at xs i x small is = drop_more xs i x small ∙ ap (λ y. y ∷ drop (i + 1) xs) (sym is)

-- ## Variables of terms

listed_append : (xs ys : List Variable) (v : Variable) → is_listed (xs ++ ys) v ≡ cond (is_listed xs v) true (is_listed ys v)
listed_append [] ys v = refl
listed_append (x ∷ xs) ys v =
    elim (same_var x v) as (λ b. cond b true (is_listed (xs ++ ys) v) ≡ cond (cond b true (is_listed xs v)) true (is_listed ys v))
    [ true ↦ refl | false ↦ listed_append xs ys v ]

pub listed_step : (ts : List Term) (i : ℕ) (t : Term) (v : Variable) → i < length ts → t ≡ get_or ts i t →
    is_listed (flat_map variables (drop i ts)) v ≡ cond (is_listed (variables t) v) true (is_listed (flat_map variables (drop (i + 1) ts)) v)
listed_step ts i t v small is =
    ap (λ us. is_listed (flat_map variables us) v) (rest_at ts i t small is) ∙ listed_append (variables t) (flat_map variables (drop (i + 1) ts)) v

find_append : {X : Type 0} (p : X → Bool) (xs ys : List X) → find p (xs ++ ys) ≡ option_or (find p xs) (find p ys)
find_append p [] ys = refl
find_append p (x ∷ xs) ys =
    elim (p x) as (λ b. cond b (Some x) (find p (xs ++ ys)) ≡ option_or (cond b (Some x) (find p xs)) (find p ys)) [ true ↦ refl | false ↦ find_append p xs ys ]

pub find_step : (p : Variable → Bool) (ts : List Term) (i : ℕ) (t : Term) → i < length ts → t ≡ get_or ts i t →
    find p (flat_map variables (drop i ts)) ≡ option_or (find p (variables t)) (find p (flat_map variables (drop (i + 1) ts)))
find_step p ts i t small is =
    ap (λ us. find p (flat_map variables us)) (rest_at ts i t small is) ∙ find_append p (variables t) (flat_map variables (drop (i + 1) ts))

-- ## Messages

pub received_step : (v : Variable) (es : List Event) (ts : List Term) (i : ℕ) (e : Event) (t : Term) → i < length es → i < length ts → e ≡ get_or es i e → t ≡ get_or ts i t →
    is_received v (drop i es) (drop i ts) ≡ cond (is_listed (variables t) v) (not e.sent) (is_received v (drop (i + 1) es) (drop (i + 1) ts))
received_step v es ts i e t small few is at =
    ap (λ xs. is_received v xs (drop i ts)) (rest_at es i e small is) ∙ ap (is_received v (e ∷ drop (i + 1) es)) (rest_at ts i t few at)

-- a message in which the variable doesn't occur is passed by
pub received_pass : (v : Variable) (es : List Event) (ts : List Term) (i : ℕ) (t : Term) → i < length es → i < length ts → t ≡ get_or ts i t → is_listed (variables t) v ≡ false →
    is_received v (drop (i + 1) es) (drop (i + 1) ts) ≡ is_received v (drop i es) (drop i ts)
received_pass v [] ts i t small few at free = absurd (let no : ⊥ = omega (arith, small) in no)
received_pass v (x ∷ xs) ts i t small few at free =
    sym (ap (λ es. is_received v es (drop i ts)) (drop_more (x ∷ xs) i x small) ∙ ap (is_received v (get_or (x ∷ xs) i x ∷ drop (i + 1) (x ∷ xs))) (rest_at ts i t few at)
    ∙ ap (λ b. cond b (not (get_or (x ∷ xs) i x).sent) (is_received v (drop (i + 1) (x ∷ xs)) (drop (i + 1) ts))) free)

pub received_end : (v : Variable) (es : List Event) (ts : List Term) (i : ℕ) → i ≡ min (length es) (length ts) → is_received v (drop i es) (drop i ts) ≡ false
received_end v [] ts zero is = refl
received_end v [] ts (suc i) is = refl
received_end v (e ∷ es) [] zero is = refl
received_end v (e ∷ es) [] (suc i) is = absurd (let no : ⊥ = omega (arith, is) in no)
received_end v (e ∷ es) (t ∷ ts) zero is = absurd (let no : ⊥ = omega (arith, is) in no)
received_end v (e ∷ es) (t ∷ ts) (suc i) is = received_end v es ts i (omega (arith, is))

-- ## Rows

take_min : {X : Type 0} (n : ℕ) (xs : List X) → take (min n (length xs)) xs ≡ take n xs
take_min zero xs = ap (λ k. take k xs) (let none : min 0 (length xs) ≡ 0 = omega arith in none)
take_min (suc n) [] = ap (λ k. take k []) (let none : min (suc n) 0 ≡ 0 = omega arith in none)
take_min (suc n) (x ∷ xs) =
    ap (λ k. take k (x ∷ xs)) (let more : min (suc n) (suc (length xs)) ≡ suc (min n (length xs)) = omega arith in more) ∙ ap (λ ys. x ∷ ys) (take_min n xs)

drop_min : {X : Type 0} (n : ℕ) (xs : List X) → drop (min n (length xs)) xs ≡ drop n xs
drop_min zero xs = ap (λ k. drop k xs) (let none : min 0 (length xs) ≡ 0 = omega arith in none)
drop_min (suc n) [] = ap (λ k. drop k []) (let none : min (suc n) 0 ≡ 0 = omega arith in none)
drop_min (suc n) (x ∷ xs) =
    ap (λ k. drop k (x ∷ xs)) (let more : min (suc n) (suc (length xs)) ≡ suc (min n (length xs)) = omega arith in more) ∙ drop_min n xs

param_count_is : (strand : Strand) → length (param_sorts strand) ≡ length strand.vars + strand.fresh
param_count_is strand = length-append strand.vars (replicate strand.fresh 1) ∙ ap (λ n. length strand.vars + n) (length-replicate strand.fresh 1)

-- a row is the values of the variables, those of the fresh parameters, and the messages
pub row_split : (marks : List Bool) (strand : Strand) (row behind_ fresh messages : List Term) (own count : ℕ) → own ≡ min (length strand.vars) (length row) → behind_ ≡ drop own row →
    count ≡ min strand.fresh (length behind_) → fresh ≡ take count behind_ → messages ≡ drop count behind_ →
    find (fails_in marks strand.events fresh messages) (flat_map variables row) ≡ row_fault marks (length (param_sorts strand)) strand row
row_split marks strand row behind_ fresh messages own count own_is behind_is count_is fresh_is messages_are =
    let rest : behind_ ≡ drop (length strand.vars) row = behind_is ∙ ap (λ n. drop n row) own_is ∙ drop_min (length strand.vars) row in
    let fresh_values : fresh ≡ drop (length strand.vars) (take (length (param_sorts strand)) row) =
    fresh_is ∙ ap (λ n. take n behind_) count_is ∙ take_min strand.fresh behind_ ∙ ap (take strand.fresh) rest
    ∙ sym (drop-take (length strand.vars) strand.fresh row) ∙ ap (λ n. drop (length strand.vars) (take n row)) (sym (param_count_is strand)) in
    let sent : messages ≡ drop (length (param_sorts strand)) row =
    messages_are ∙ ap (λ n. drop n behind_) count_is ∙ drop_min strand.fresh behind_ ∙ ap (drop strand.fresh) rest
    ∙ drop-drop strand.fresh (length strand.vars) row ∙ ap (λ n. drop n row) (sym (param_count_is strand)) in
    ap (λ ts. find (fails_in marks strand.events ts messages) (flat_map variables row)) fresh_values
    ∙ ap (λ ts. find (fails_in marks strand.events (drop (length strand.vars) (take (length (param_sorts strand)) row)) ts) (flat_map variables row)) sent

pub fault_step : (marks : List Bool) (m : ℕ) (strand : Strand) (vs : List Variant) (i : ℕ) (v : Variant) → i < length vs → v ≡ get_or vs i v →
    origin_fault marks m strand i (map (λ w. w.terms) (drop i vs)) ≡ at_variant i v.terms (row_fault marks m strand v.terms) (origin_fault marks m strand (i + 1) (map (λ w. w.terms) (drop (i + 1) vs)))
fault_step marks m strand vs i v small is = ap (λ ws. origin_fault marks m strand i (map (λ w. w.terms) ws)) (rest_at vs i v small is)
