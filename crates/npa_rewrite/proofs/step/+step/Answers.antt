use Rattle.std.proofs.Common.{◌≡◌, ◌++◌, [], ◌∷◌, take, drop, ◌+◌, ap, sym, ◌∙◌, subst, arith}
use Rattle.std.proofs.lemmas.Grind.{common_steps}
use Rattle.std.proofs.lemmas.List.{take_all}
use Rattle.std.proofs.lemmas.List.Elements.{All-more}
use Rattle.npa_term.specs.declared.term.Term.{Var, Name, App}
use Rattle.npa_rewrite.specs.declared.step.Outcome.TheVariants.{Made}
use Rattle.npa_rewrite.specs.Innermost.{at_root, innermost}
use Rattle.npa_rewrite.specs.Rewriting.{IsNormal}
use Rattle.npa_rewrite.specs.Stepping.{IsOutcome, IsRootOutcome, outcome_of}
use Rattle.npa_rewrite.proofs.Walk.{made_is, normal_is, value_here, value_later, value_root, outcome_here, outcome_root, outcome_var, outcome_name, taken_more, where_ok, rest_of, parts_built}
use Rattle.npa_rewrite.proofs.step.+step.Goals as goal

pub returns-in-Var-clause-outcome : goal.returns-in-Var-clause-outcome
returns-in-Var-clause-outcome t c =
    where_ok (IsRootOutcome c.args.th.now (Var c.in-Var.v)) (IsOutcome c.args.th.now c.args.t.now) (λ o r. outcome_var c.args.th.now c.args.t.now c.in-Var.v o c.in-Var.is r) c.root_step.result c.root_step.ensures.outcome

pub returns-in-Name-clause-outcome : goal.returns-in-Name-clause-outcome
returns-in-Name-clause-outcome t c =
    where_ok (IsRootOutcome c.args.th.now (Name c.in-Name.n)) (IsOutcome c.args.th.now c.args.t.now) (λ o r. outcome_name c.args.th.now c.args.t.now c.in-Name.n o c.in-Name.is r) c.root_step-in-Name.result c.root_step-in-Name.ensures.outcome

pub returns-in-Made : goal.returns-in-Made
returns-in-Made t c =
    let th = c.args.th.now in
    let op = c.in-App.op in
    let ts = c.as_slice-args.result.now in
    let pushed : c.push-in-Made.new.self.items ≡ c.loop-i.made.items ++ c.in-Made.arg ∷ [] = grind (arith, common_steps) in
    let copied : c.push_copies.new.made.items ≡ c.push-in-Made.new.self.items ++ drop (c.loop-i.i + 1) ts = grind (arith, common_steps, rest_of) in
    let is : c.args.t.now ≡ App op ts = c.in-App.is ∙ ap (App op) (sym c.as_slice-args.ensures) in
    let built = parts_built ts c.loop-i.i c.in-Made.arg _ _ _ _ c.loop-i.invariant.made pushed copied c.from_vec.ensures in
    let found = made_is c.index-args-i.result c.in-Made.arg _ (sym c.in-Made.is ∙ c.in_ok-arg-in-App.ensures.value) in
    let step : IsOutcome th c.index-args-i.result (Made c.in-Made.arg) = subst (IsOutcome th c.index-args-i.result) c.in-Made.is c.in_ok-arg-in-App.ensures.outcome in
    record {
      value = value_here (at_root th.sig.sorts th.equations) c.args.t.now op ts c.loop-i.i c.index-args-i.result c.in-Made.arg c.from_vec.result is c.loop-i-test.true c.index-args-i.is c.loop-i.invariant.value found built;
      outcome = outcome_here th c.args.t.now op ts c.loop-i.i c.index-args-i.result c.in-Made.arg c.from_vec.result is c.loop-i-test.true c.index-args-i.is step built;
    }

pub loop-i-preserved : goal.loop-i-preserved
loop-i-preserved t c =
    let th = c.args.th.now in
    let ts = c.as_slice-args.result.now in
    let pushed : c.push.new.self.items ≡ c.loop-i.made.items ++ c.in-Normal.arg ∷ [] = grind (arith, common_steps) in
    let kept = normal_is c.index-args-i.result c.in-Normal.arg _ (sym c.in-Normal.is ∙ c.in_ok-arg-in-App.ensures.value) in
    let normal : IsNormal th c.index-args-i.result = subst (IsOutcome th c.index-args-i.result) c.in-Normal.is c.in_ok-arg-in-App.ensures.outcome in
    record {
      made = pushed ∙ ap (λ xs. xs ++ c.in-Normal.arg ∷ []) c.loop-i.invariant.made ∙ ap (λ x. take c.loop-i.i ts ++ x ∷ []) kept.0 ∙ sym (taken_more ts c.loop-i.i c.index-args-i.result c.loop-i-test.true c.index-args-i.is);
      value = value_later (at_root th.sig.sorts th.equations) ts c.loop-i.i c.index-args-i.result c.loop-i-test.true c.index-args-i.is c.loop-i.invariant.value kept.1;
      normal = All-more (IsNormal th) ts c.loop-i.i c.index-args-i.result c.loop-i-test.true c.loop-i.invariant.normal (subst (IsNormal th) c.index-args-i.is normal);
    }

pub returns-after-loop-i : goal.returns-after-loop-i
returns-after-loop-i t c =
    let th = c.args.th.now in
    let op = c.in-App.op in
    let ts = c.as_slice-args.result.now in
    let root = at_root th.sig.sorts th.equations in
    let is : c.args.t.now ≡ App op ts = c.in-App.is ∙ ap (App op) (sym c.as_slice-args.ensures) in
    let made = c.from_vec-in-App.ensures ∙ c.loop-i.invariant.made in
    let whole : App op c.from_vec-in-App.result ≡ c.args.t.now = ap (App op) (made ∙ take_all c.loop-i.i ts (omega arith)) ∙ sym is in
    let here = value_root root c.args.t.now op ts c.loop-i.i is (omega arith) c.loop-i.invariant.value in
    record {
      value = where_ok (λ o. o ≡ outcome_of (App op c.from_vec-in-App.result) (root (App op c.from_vec-in-App.result))) (λ o. o ≡ outcome_of c.args.t.now (innermost root c.args.t.now))
          (λ o e. e ∙ ap (λ u. outcome_of u (root u)) whole ∙ ap (outcome_of c.args.t.now) (sym here)) c.root_step-in-App.result c.root_step-in-App.ensures.value;
      outcome = where_ok (IsRootOutcome th (App op c.from_vec-in-App.result)) (IsOutcome th c.args.t.now)
          (λ o r. outcome_root th c.args.t.now op ts c.from_vec-in-App.result c.loop-i.i o is made (omega arith) c.loop-i.invariant.normal r) c.root_step-in-App.result c.root_step-in-App.ensures.outcome;
    }
