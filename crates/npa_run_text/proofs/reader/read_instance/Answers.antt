use Rattle.std.proofs.Common.{sym, ap, ◌∙◌}
use Rattle.npa_reading.specs.Trees.{seen}
use Rattle.npa_run_text.proofs.RunLaws.{instance_at, instance_refused, instance_made}
use Rattle.npa_run_text.proofs.reader.read_instance.Goals as goal

pub returns-in-Err : goal.returns-in-Err
returns-in-Err c =
    let at = instance_at c.args.bytes.now c.args.tokens.now c.args.protocol.now c.args.node.now c.child_for.result.now c.as_slice.result.now (seen c.as_slice-2.result.now) c.args.strands.now
    c.token_at-name.result c.token_text.result.now c.in-Some.strand c.requires c.child_for.ensures c.token_at-name.ensures c.token_text.ensures
    (sym c.place.ensures ∙ c.in-Some.is) c.as_slice.ensures (ap seen c.as_slice-2.ensures.value ∙ c.in_ok-values.ensures) in
    instance_refused c.args.bytes.now c.args.tokens.now c.args.protocol.now c.args.node.now (seen c.as_slice-2.result.now) c.in-Some.strand c.in-Err.fail at c.in-Err.ensures

pub returns : goal.returns
returns c =
    let at = instance_at c.args.bytes.now c.args.tokens.now c.args.protocol.now c.args.node.now c.child_for.result.now c.as_slice.result.now (seen c.as_slice-2.result.now) c.args.strands.now
    c.token_at-name.result c.token_text.result.now c.in-Some.strand c.requires c.child_for.ensures c.token_at-name.ensures c.token_text.ensures
    (sym c.place.ensures ∙ c.in-Some.is) c.as_slice.ensures (ap seen c.as_slice-2.ensures.value ∙ c.in_ok-values.ensures) in
    instance_made c.args.bytes.now c.args.tokens.now c.args.protocol.now c.args.node.now (seen c.as_slice-2.result.now) (seen c.as_slice-3.result.now) c.in-Some.strand c.in-Ok.terms c.in_ok-args.args
    c.same_names-named.result c.params_at-params.result.now at c.in-Ok.ensures c.params_at-params.ensures (ap seen (c.as_slice-3.ensures.value ∙ sym c.as_slice-2.ensures.value))
    c.same_names-named.ensures c.in_ok-args.ensures
