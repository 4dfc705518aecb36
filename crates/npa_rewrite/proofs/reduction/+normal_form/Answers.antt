use Rattle.std.proofs.Common.{◌≡◌, ◌++◌, [], ◌∷◌, sym, subst, ap, arith}
use Rattle.npa_term.specs.Canonical.{canonical}
use Rattle.std.proofs.lemmas.Grind.{common_steps}
use Rattle.npa_rewrite.proofs.Forms.{IsForm}
use Rattle.npa_rewrite.proofs.Normalized.{normalized_form, value_made, value_kept, values_more}
use Rattle.npa_rewrite.proofs.Reducing.{made_reduced, reductions_none}
use Rattle.npa_rewrite.proofs.Root.{leaf_var, leaf_name, steps_none}
use Rattle.npa_rewrite.proofs.reduction.+normal_form.Goals as goal

pub returns-in-Var-clause-normal : goal.returns-in-Var-clause-normal
returns-in-Var-clause-normal t c = leaf_var c.args.th.now c.in-Var.v c.requires.cancelling

pub returns-in-Var-clause-reached : goal.returns-in-Var-clause-reached
returns-in-Var-clause-reached t c = steps_none c.args.th.now _ _ (ap canonical c.in-Var.is)

pub returns-in-Var-clause-by_reduce : goal.returns-in-Var-clause-by_reduce
returns-in-Var-clause-by_reduce t c decl a = reductions_none c.args.th.now _ _ (ap canonical c.in-Var.is)

pub returns-in-Name-clause-normal : goal.returns-in-Name-clause-normal
returns-in-Name-clause-normal t c = leaf_name c.args.th.now c.in-Name.n c.requires.cancelling

pub returns-in-Name-clause-reached : goal.returns-in-Name-clause-reached
returns-in-Name-clause-reached t c = steps_none c.args.th.now _ _ (ap canonical c.in-Name.is)

pub returns-in-Name-clause-by_reduce : goal.returns-in-Name-clause-by_reduce
returns-in-Name-clause-by_reduce t c decl a = reductions_none c.args.th.now _ _ (ap canonical c.in-Name.is)

pub loop-arg-preserved : goal.loop-arg-preserved
loop-arg-preserved t c =
    let pushed : c.push.new.self.items ≡ c.loop-arg.made.items ++ c.in_ok-normal_form-in-App.field-0 ∷ [] = grind (arith, common_steps) in
    let e = c.in_ok-normal_form-in-App.ensures in
    values_more c.args.th.now _ c.loop-arg.made.items _ _ c.arg-item.result c.in_ok-normal_form-in-App.field-0 c.loop-arg-test.true c.arg-item.is c.loop-arg.invariant pushed e.value

pub returns-in-Made : goal.returns-in-Made
returns-in-Made t c =
    let value = value_made c.args.th.now c.args.t.now c.in-App.op c.in-App.args _ c.loop-arg.made.items _ c.loop-arg.arg-index _ c.in-App.is c.as_slice-arg-items.ensures (omega arith) c.loop-arg.invariant c.sort_arguments.ensures c.in_ok-form-in-App.ensures.value c.in-Made.form c.in-Made.is in
    let form = subst (IsForm c.args.th.now c.args.t.now) (sym value) (normalized_form c.args.th.now c.requires.cancelling c.args.t.now) in
    record { value = value; canonical = form.settled; normal = form.normal; reached = form.reached; by_reduce = made_reduced c.args.th.now c.args.t.now c.in-Made.form c.requires.cancelling value }

pub returns-in-Normal : goal.returns-in-Normal
returns-in-Normal t c =
    let value = value_kept c.args.th.now c.args.t.now c.in-App.op c.in-App.args _ c.loop-arg.made.items _ c.loop-arg.arg-index _ c.in-App.is c.as_slice-arg-items.ensures (omega arith) c.loop-arg.invariant c.sort_arguments.ensures c.in_ok-form-in-App.ensures.value c.in-Normal.form c.in-Normal.is in
    let form = subst (IsForm c.args.th.now c.args.t.now) (sym value) (normalized_form c.args.th.now c.requires.cancelling c.args.t.now) in
    record { value = value; canonical = form.settled; normal = form.normal; reached = form.reached; by_reduce = made_reduced c.args.th.now c.args.t.now c.in-Normal.form c.requires.cancelling value }
