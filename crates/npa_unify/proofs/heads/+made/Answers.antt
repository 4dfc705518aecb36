use Rattle.std.proofs.Common.{◌≡◌, ◌<◌, map, length, sym, ◌∙◌, ap, arith}
use Rattle.std.proofs.lemmas.Grind.{common_steps}
use Rattle.npa_term.specs.Canonical.{canonical}
use Rattle.npa_term.specs.Symbols.{symbol_count}
use Rattle.npa_unify.specs.Seen.{full, head_term, raw}
use Rattle.npa_unify.proofs.Heading.{part_smaller, made_variable, made_name, made_app}
use Rattle.npa_unify.proofs.heads.+made.Goals as goal

pub made-requires : goal.made-requires
made-requires t c =
    let small : c.loop-arg.arg-index < length c.in-App.args.now = omega (arith, c.loop-arg-test.true) in
    let less = part_smaller (raw c.args.bound.now) (head_term c.args.head) c.in-App.op c.in-App.args.now c.loop-arg.arg-index c.arg-item.result c.requires.sound (sym (ap head_term c.in-App.is) ∙ c.walk_head.ensures) small c.arg-item.is in
    let same : symbol_count (full (raw c.args.bound.now) (head_term c.head_of.result)) ≡ symbol_count (full (raw c.args.bound.now) c.arg-item.result) = ap (λ x. symbol_count (full (raw c.args.bound.now) x)) c.head_of.ensures in
    (omega (arith, less, same, c.decreases), c.requires.sound)

pub returns-in-Var : goal.returns-in-Var
returns-in-Var t c = made_variable (raw c.args.bound.now) (head_term c.args.head) c.in-Var.v c.requires.sound (sym (ap head_term c.in-Var.is) ∙ c.walk_head.ensures)

pub returns-in-Name : goal.returns-in-Name
returns-in-Name t c = made_name (raw c.args.bound.now) (head_term c.args.head) c.in-Name.n c.requires.sound (sym (ap head_term c.in-Name.is) ∙ c.walk_head.ensures)

pub returns-after-loop-arg : goal.returns-after-loop-arg
returns-after-loop-arg t c =
    let made : c.loop-arg.terms.items ≡ map (λ u. canonical (full (raw c.args.bound.now) u)) c.in-App.args.now = grind (arith, common_steps) in
    made_app (raw c.args.bound.now) (head_term c.args.head) c.in-App.op c.in-App.args.now _ c.loop-arg.terms.items c.requires.sound (sym (ap head_term c.in-App.is) ∙ c.walk_head.ensures) c.sort_arguments.ensures made
