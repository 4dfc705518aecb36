-- The fault of a critical pair, read off what was made of it.
use Rattle.std.proofs.Common.{◌≡◌, ℕ, ◌-◌, ◌^◌, ◌<◌, ◌≤◌, min, true, false, nat_lt, cond, Option, Some, None, List, ◌∷◌, refl, sym, ◌∙◌, ap, subst, arith}
use Rattle.std.specs.Prelude.{◌≢◌}
use Rattle.npa_term.specs.declared.term.Var.{Var as Variable}
use Rattle.npa_term.specs.declared.term.Term.{Term}
use Rattle.npa_term.specs.Bound.{applied}
use Rattle.npa_term.specs.Canonical.{canonical}
use Rattle.npa_term.specs.Computed.{equal}
use Rattle.npa_term.specs.Symbols.{symbol_count}
use Rattle.npa_term.proofs.CanonicalLaws.{symbol_count-canonical}
use Rattle.npa_term.proofs.Identity.{equal_are, equal_itself}
use Rattle.npa_sig.specs.declared.protocol.Equation.{Equation}
use Rattle.npa_rewrite.specs.declared.theory.Theory.{Theory}
use Rattle.npa_rewrite.specs.Innermost.{normalized}
use Rattle.npa_conv.specs.declared.error.ConvFail.{ConvFail}
use Rattle.npa_conv.specs.declared.error.ConvFail.TheVariants.{Pair, Symbols}
use Rattle.npa_conv.specs.Verdict.{from_of, left_of, right_of, pair_fault}

-- the fault of two normal forms
abbrev pub sides_fault : Term → Term → Term → Option ConvFail
sides_fault from left right = cond (equal left right) None (Some (Pair from left right))

abbrev pub sized_fault : ℕ → Option ConvFail → Option ConvFail
sized_fault n rest = cond (nat_lt 1024 n) (Some (Symbols (min n (2 ^ 64 - 1)))) rest

sized_large : (m n : ℕ) (rest : Option ConvFail) → n ≡ min m (2 ^ 64 - 1) → 1024 < n → sized_fault m rest ≡ Some (Symbols n)
sized_large m n rest e large =
    let test : nat_lt 1024 m ≡ true = grind arith in
    ap (λ b. cond b (Some (Symbols (min m (2 ^ 64 - 1)))) rest) test ∙ ap (λ k. Some (Symbols k)) (sym e)

sized_small : (m n : ℕ) (rest : Option ConvFail) → n ≡ min m (2 ^ 64 - 1) → n ≤ 1024 → sized_fault m rest ≡ rest
sized_small m n rest e small =
    let test : nat_lt 1024 m ≡ false = grind arith in
    ap (λ b. cond b (Some (Symbols (min m (2 ^ 64 - 1)))) rest) test

counted : (n : ℕ) (t : Term) → n ≡ min (symbol_count t) (2 ^ 64 - 1) → n ≡ min (symbol_count (canonical t)) (2 ^ 64 - 1)
counted n t e = e ∙ ap (λ k. min k (2 ^ 64 - 1)) (sym (symbol_count-canonical t))

pub pair_large : (th : Theory) (i : Equation) (crossed : Term) (s : List (Variable × Term)) (n : ℕ) → n ≡ min (symbol_count (applied s i.left)) (2 ^ 64 - 1) → 1024 < n →
    pair_fault th i crossed s ≡ Some (Symbols n)
pair_large th i crossed s n e large =
    sized_large (symbol_count (from_of i s)) n (sides_fault (from_of i s) (left_of th i s) (right_of th crossed s)) (counted n (applied s i.left) e) large

pair_small : (th : Theory) (i : Equation) (crossed : Term) (s : List (Variable × Term)) (n : ℕ) → n ≡ min (symbol_count (applied s i.left)) (2 ^ 64 - 1) → n ≤ 1024 →
    pair_fault th i crossed s ≡ sides_fault (from_of i s) (left_of th i s) (right_of th crossed s)
pair_small th i crossed s n e small =
    sized_small (symbol_count (from_of i s)) n (sides_fault (from_of i s) (left_of th i s) (right_of th crossed s)) (counted n (applied s i.left) e) small

pub pair_joined : (th : Theory) (i : Equation) (crossed : Term) (s : List (Variable × Term)) (n : ℕ) (t u left right : Term) →
    n ≡ min (symbol_count (applied s i.left)) (2 ^ 64 - 1) → n ≤ 1024 → t ≡ canonical (applied s i.right) → u ≡ canonical (applied s crossed) →
    left ≡ normalized th t → right ≡ normalized th u → left ≡ right → pair_fault th i crossed s ≡ None
pair_joined th i crossed s n t u left right e small first second l r same =
    let one : left_of th i s ≡ right_of th crossed s = sym (l ∙ ap (normalized th) first) ∙ same ∙ r ∙ ap (normalized th) second in
    let test : equal (left_of th i s) (right_of th crossed s) ≡ true = subst (λ x. equal (left_of th i s) x ≡ true) one (equal_itself (left_of th i s)) in
    pair_small th i crossed s n e small ∙ ap (λ b. cond b None (Some (Pair (from_of i s) (left_of th i s) (right_of th crossed s)))) test

not_equal : (t u : Term) → t ≢ u → equal t u ≡ false
not_equal t u differ = elim (equal t u) as (λ b. equal t u ≡ b → equal t u ≡ false) [ true ↦ λ e. absurd (differ (equal_are t u e)) | false ↦ λ e. e ] refl

pub pair_apart : (th : Theory) (i : Equation) (crossed : Term) (s : List (Variable × Term)) (n : ℕ) (t u from left right : Term) →
    n ≡ min (symbol_count (applied s i.left)) (2 ^ 64 - 1) → n ≤ 1024 → t ≡ canonical (applied s i.right) → u ≡ canonical (applied s crossed) →
    left ≡ normalized th t → right ≡ normalized th u → from ≡ canonical (applied s i.left) → left ≢ right →
    pair_fault th i crossed s ≡ Some (Pair from left right)
pair_apart th i crossed s n t u from left right e small first second l r f differ =
    let one : left ≡ left_of th i s = l ∙ ap (normalized th) first in
    let two : right ≡ right_of th crossed s = r ∙ ap (normalized th) second in
    let test : equal left right ≡ false = not_equal left right differ in
    pair_small th i crossed s n e small
    ∙ sym (ap (λ x. sides_fault x (left_of th i s) (right_of th crossed s)) f)
    ∙ sym (ap (λ x. sides_fault from x (right_of th crossed s)) one)
    ∙ sym (ap (λ x. sides_fault from left x) two)
    ∙ ap (λ b. cond b None (Some (Pair from left right))) test
