use Rattle.std.proofs.Common.{sym, ◌∙◌, arith}
use Rattle.npa_term.specs.Same.{Same}
use Rattle.npa_term.proofs.Equality.{is_same_sound, is_same_complete}
use Rattle.npa_prune.proofs.Searching.{one_found, none_more, none_found, told_true, told_false}
use Rattle.npa_prune.proofs.pruning.has_same.Goals as goal

pub returns-then-equals : goal.returns-then-equals
returns-then-equals c =
    told_true (one_found (Same c.args.t.now) c.args.terms.now c.loop-u.u-index c.u-item.result (omega (arith, c.loop-u-test.true)) c.u-item.is
    (is_same_sound c.args.t.now c.u-item.result (sym c.equals.ensures ∙ c.if-equals.true)))

pub loop-u-preserved : goal.loop-u-preserved
loop-u-preserved c =
    none_more (Same c.args.t.now) c.args.terms.now c.loop-u.u-index c.u-item.result (omega (arith, c.loop-u-test.true)) c.u-item.is
    (λ same. let both = sym c.if-equals.false ∙ c.equals.ensures ∙ is_same_complete c.args.t.now c.u-item.result same in cc)
    c.loop-u.invariant

pub returns : goal.returns
returns c = told_false (none_found (Same c.args.t.now) c.args.terms.now c.loop-u.u-index (omega (arith, c.loop-u-test.false)) c.loop-u.invariant)
