use Rattle.std.proofs.Common.{◌≡◌, ℕ, ◌^◌, ◌+◌, ◌<◌, false, List, sym, ◌∙◌, subst, arith}
use Rattle.std.specs.Prelude.{Contains, IsTrue, ◌↔◌}
use Rattle.std.proofs.lemmas.Grind.{common_steps}
use Rattle.npa_sorts.specs.Subsorts.{Subsorts, AreSorts, IsAtOrBelow, IsBelow, IsSort}
use Rattle.npa_term.specs.declared.term.Var.{Var as Variable}
use Rattle.npa_term.specs.declared.term.Term.{Term}
use Rattle.npa_term.specs.Variables.{variables}
use Rattle.npa_rewrite.specs.Accepted.{Unify}
use Rattle.npa_rewrite.proofs.Walk.{where_ok}
use Rattle.npa_unify.specs.Branches.{pair_variables}
use Rattle.npa_unify.specs.Unifiers.{AreLow, HaveOneSort, IsUnifier}
use Rattle.npa_unify.proofs.Members.{all_from}
use Rattle.npa_accept.specs.Fit.{heads_meet}
use Rattle.npa_accept.proofs.Heads.{heads_apart}
use Rattle.npa_accept.proofs.Renaming.{renamed_sorted}
use Rattle.npa_accept.proofs.Unifying.{are_low, are_sorts, have_one, pair_of, unifier, unify}
use Rattle.npa_accept.proofs.trying.unifies.Goals as goal

pub returns-then-not-heads_meet : goal.returns-then-not-heads_meet
returns-then-not-heads_meet c =
    let apart : heads_meet c.args.t.now c.args.left.now ≡ false = grind (arith, common_steps) in
    (λ e. cc, λ u. absurd (heads_apart c.args.t.now c.args.left.now apart u.first u.second u.equal))

pub rename-requires : goal.rename-requires
rename-requires c = record {
  fits = all_from (λ v. v.num + c.args.next < 2 ^ 32) (variables c.args.left.now) (λ v d. let small = c.requires.left.low v d in omega (arith, small, c.requires.room));
}

pub unifiable-requires-clause-sorts : goal.unifiable-requires-clause-sorts
unifiable-requires-clause-sorts c =
    let pair : c.push.new.self ≡ pair_of c.args.next c.args.t.now c.args.left.now = grind (arith, common_steps) in
    let sorts = are_sorts c.args.sig.now c.args.next (2 ^ 30) c.args.t.now c.args.left.now c.requires.term c.requires.left in
    λ v d. subst (λ (o : Subsorts). IsSort o v.sort) (sym c.sorts-sorts.ensures) (sorts v (subst (λ ps. Contains (pair_variables ps) v) pair d))

pub unifiable-requires-clause-low : goal.unifiable-requires-clause-low
unifiable-requires-clause-low c =
    let pair : c.push.new.self ≡ pair_of c.args.next c.args.t.now c.args.left.now = grind (arith, common_steps) in
    subst (λ ps. AreLow ps (c.args.next + 2 ^ 30)) (sym pair) (are_low c.args.sig.now c.args.next (2 ^ 30) c.args.t.now c.args.left.now c.requires.term c.requires.left)

pub unifiable-requires-clause-one : goal.unifiable-requires-clause-one
unifiable-requires-clause-one c =
    let pair : c.push.new.self ≡ pair_of c.args.next c.args.t.now c.args.left.now = grind (arith, common_steps) in
    subst HaveOneSort (sym pair) (have_one c.args.sig.now c.args.next (2 ^ 30) c.args.t.now c.args.left.now c.requires.term c.requires.left)

pub returns : goal.returns
returns c =
    let sig = c.args.sig.now in
    let base = c.args.next in
    let t = c.args.t.now in
    let left = c.args.left.now in
    let order = c.sorts-sorts.ensures in
    let pair : c.push.new.self ≡ pair_of base t left = grind (arith, common_steps) in
    let lower = subst (λ (o : Subsorts). (x y : ℕ) → IsAtOrBelow o x y → IsSort o y → IsSort o x) order c.laws-2.ensures.lower in
    let acyclic = subst (λ (o : Subsorts). (r : ℕ) → IsBelow o r r → ⊥) order c.laws-2.ensures.acyclic in
    let sorts = subst AreSorts order c.pairs-2.ensures.sorts in
    let moved = renamed_sorted sig base left ∙ c.requires.left.sorted in
    let there = unifier sig base (2 ^ 30) t left c.requires.term c.requires.left in
    let back = unify sig base (2 ^ 30) t left c.requires.term c.requires.left c.laws.ensures.formed.pairs sorts acyclic lower moved in
    where_ok (λ found. IsTrue found ↔ (s : List (Variable × Term)) × IsUnifier c.sorts-sorts.result.now c.push.new.self s) (λ found. IsTrue found ↔ Unify sig t left)
    (λ found exact. (
      λ e. let u = exact.0 e in back u.0 (subst (λ (o : Subsorts). IsUnifier o (pair_of base t left) u.0) order (subst (λ ps. IsUnifier c.sorts-sorts.result.now ps u.0) pair u.1)),
      λ u. let s = there u in exact.1 (s.0, subst (λ ps. IsUnifier c.sorts-sorts.result.now ps s.0) (sym pair) (subst (λ (o : Subsorts). IsUnifier o (pair_of base t left) s.0) (sym order) s.1)),
    ))
    c.unifiable.result c.unifiable.ensures
