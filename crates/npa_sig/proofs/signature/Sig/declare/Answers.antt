use Rattle.std.proofs.Common.{rules, ◌≡◌, ◌<◌, length, subst, sym}
use Rattle.npa_sig.specs.Operators.{HasSorts}
use Rattle.npa_sig.specs.Signature.{Signature}
use Rattle.npa_sig.proofs.Operators.{indexed_op}
use Rattle.npa_sig.proofs.signature.Sig.declare.Goals as goal
use Rattle.std.proofs.Common.{◌∙◌}

pub invariant_of-result : goal.invariant_of-result
invariant_of-result c =
    let sig : Signature = record { sorts = c.self.inside.sorts; sort_names = c.self.inside.sort_names; ops = c.self.inside.ops } in
    let has : HasSorts c.self.inside.sorts c.args.decl = subst (λ (s : Signature). HasSorts s.sorts c.args.decl) (sym c.self.view_is) c.requires.sorts in
    let few : length c.self.inside.ops < 65535 = subst (λ (s : Signature). length s.ops < 65535) (sym c.self.view_is) c.requires.few in
    let count : c.len.result ≡ length c.self.inside.ops = search rules in
    indexed_op c.self.inside.names c.insert.new.self sig c.args.decl c.push.new.self c.len.result c.as_slice.result.now c.in_ok-insert.field-0
    c.self.invariant has few count (sym c.op_fault.ensures ∙ c.in_default.is) c.as_slice.ensures c.in_ok-insert.ensures.added c.in_ok-insert.ensures.names c.in_ok-push.ensures.ok
