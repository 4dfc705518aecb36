use Rattle.std.proofs.Common.{◌≡◌, ◌+◌, None, [], ◌∷◌, ◌++◌, sym, ap, ◌∙◌, subst, get_or, take, arith}
use Rattle.npa_term.specs.declared.term.Var.{Var as Variable}
use Rattle.npa_term.specs.declared.term.Term.{Term, Var}
use Rattle.npa_term.specs.Bound.{value_of, BindsOnce}
use Rattle.npa_term.specs.Numbering.{anew, numbered, variables_once}
use Rattle.npa_checking.proofs.Numbering.{none_left, free, next}
use Rattle.npa_checking.proofs.numbers.line_numbers.Goals as goal

pub bind-requires : goal.bind-requires
bind-requires c =
    let vs = variables_once c.args.terms.now in
    let bs = c.as_slice-bindings.result.now in
    let i = c.loop-i.i in
    let b = c.index-bindings-i.result in
    let all : bs ≡ numbered 0 vs = c.as_slice-bindings.ensures.bindings ∙ c.in_ok-from_zero.ensures in
    let once : BindsOnce bs = subst BindsOnce (sym c.as_slice-bindings.ensures.bindings) c.as_slice-bindings.ensures.once in
    let here : value_of (numbered 1 (take i vs)) b.0 ≡ None = free vs bs all i b (omega (arith, c.loop-i-test.true)) c.index-bindings-i.is once in
    subst (λ s. value_of s (get_or bs i b).0 ≡ None) (sym c.loop-i.invariant)
    (subst (λ (p : Variable × Term). value_of (numbered 1 (take i vs)) p.0 ≡ None) c.index-bindings-i.is here)

pub loop-i-preserved : goal.loop-i-preserved
loop-i-preserved c =
    let vs = variables_once c.args.terms.now in
    let bs = c.as_slice-bindings.result.now in
    let i = c.loop-i.i in
    let b = c.index-bindings-i.result in
    let all : bs ≡ numbered 0 vs = c.as_slice-bindings.ensures.bindings ∙ c.in_ok-from_zero.ensures in
    let more : numbered 1 (take i vs) ++ (b.0, Var (anew (i + 1) b.0)) ∷ [] ≡ numbered 1 (take (i + 1) vs) = next vs bs all i b (omega (arith, c.loop-i-test.true)) c.index-bindings-i.is in
    let number : c.in-Ok.num ≡ i + 1 = grind (arith, c.in-Ok.ensures) in
    let var : (get_or bs i b).0 ≡ b.0 = ap (λ (p : Variable × Term). p.0) (sym c.index-bindings-i.is) in
    c.in_ok-bind.ensures.ok
    ∙ (λ j. c.loop-i.invariant j ++ (var j, Var (record { num = number j; sort = (var j).sort })) ∷ [])
    ∙ more

pub returns : goal.returns
returns c =
    let vs = variables_once c.args.terms.now in
    let bs = c.as_slice-bindings.result.now in
    let all : bs ≡ numbered 0 vs = c.as_slice-bindings.ensures.bindings ∙ c.in_ok-from_zero.ensures in
    c.loop-i.invariant ∙ none_left vs bs all c.loop-i.i (λ l. let no : ⊥ = omega (arith, l, c.loop-i-test.false) in no)
