use Rattle.std.proofs.Common.{◌≡◌, ◌∷◌, ◌++◌, [], List, ℕ, Bool, true, false, ap, sym, ◌∙◌}
use Rattle.std.specs.Prelude.{if◌then◌else◌, is_none}
use Rattle.npa_term.specs.declared.term.Var.{Var as Variable_}
use Rattle.npa_names.specs.Names.{place_of}
use Rattle.npa_sig.specs.declared.meaning.Scoped.{Scoped}
use Rattle.npa_sig.proofs.Scoping.{pushed_indexed}
use Rattle.npa_sig.proofs.scope.Scope.push.Goals as goal
use Rattle.npa_sig.proofs.scope.Scope.push.Goals.{then-branch, else-branch}

pub invariant_of-self-2 : goal.invariant_of-self-2
invariant_of-self-2 c =
    let names : List (List ℕ) = c.self.inside.names in
    let s : Scoped = c.args.scoped in
    let added : Bool = c.in_ok-insert.field-0 in
    let text : c.as_slice.result.now ≡ s.name = c.as_slice.ensures in
    let is : added ≡ is_none (place_of s.name names) = c.in_ok-insert.ensures.added ∙ ap (λ (n : List ℕ). is_none (place_of n names)) text in
    let after : c.insert.new.self ≡ (if added then names ++ s.name ∷ [] else names) =
    c.in_ok-insert.ensures.names ∙ ap (λ (n : List ℕ). if added then names ++ n ∷ [] else names) text in
    let pushed = pushed_indexed names c.if-branch.self-inside.names c.self.inside.vars.items c.if-branch.self-inside.vars.items c.self.inside.scoped.items c.push_reserved-2.new.self.items s in
    elim c.if-branch.branch [
      | then-branch w ↦
          pushed true (sym w.if-branch.true ∙ is)
          (ap (λ i. i.names) w.self-inside-is ∙ after ∙ ap (λ (b : Bool). if b then names ++ s.name ∷ [] else names) w.if-branch.true)
          (ap (λ i. i.vars.items) w.self-inside-is ∙ w.push_reserved.ensures.items ∙ ap (λ (vs : List Variable_). vs ++ s.var ∷ []) c.reserve-2.ensures.items)
          (c.push_reserved-2.ensures.items ∙ ap (λ (ss : List Scoped). ss ++ s ∷ []) (ap (λ i. i.scoped.items) w.self-inside-is ∙ c.reserve.ensures.items))
          c.self.invariant
      | else-branch w ↦
          pushed false (sym w.if-branch.false ∙ is)
          (ap (λ i. i.names) w.self-inside-is ∙ after ∙ ap (λ (b : Bool). if b then names ++ s.name ∷ [] else names) w.if-branch.false)
          (ap (λ i. i.vars.items) w.self-inside-is ∙ c.reserve-2.ensures.items)
          (c.push_reserved-2.ensures.items ∙ ap (λ (ss : List Scoped). ss ++ s ∷ []) (ap (λ i. i.scoped.items) w.self-inside-is ∙ c.reserve.ensures.items))
          c.self.invariant
    ]
