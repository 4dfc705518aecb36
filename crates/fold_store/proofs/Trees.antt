-- A number that is new in a forest has a class of its own.
use Rattle.std.proofs.Common.{◌≡◌, ℕ, ◌<◌, inl, inr, cond, List, [], ◌∷◌, ◌++◌, length, ap, sym, ◌∙◌}
use Rattle.std.proofs.lemmas.Bool.{lt-ltb}
use Rattle.fold_core.proofs.Places.{stands_within, stands_append}
use Rattle.fold_store.specs.declared.forest.Node.{Node}
use Rattle.fold_store.specs.Forest.{InForest, SameInClass, with_own}

with_old : (label : ℕ → ℕ) (many own n : ℕ) → n < many → with_own label many own n ≡ label n
with_old label many own n h = ap (λ b. cond b (label n) own) (lt-ltb n many h)

pub own_added : (nodes : List Node) (v : Node) → InForest nodes → v.up ≡ length nodes → v.last ≡ length nodes → (label : ℕ → ℕ) (own : ℕ) → SameInClass label nodes
    → SameInClass (with_own label (length nodes) own) (nodes ++ v ∷ [])
own_added nodes v f up last label own same =
    let many = length nodes in
    let made = with_own label many own in
    record {
      up = λ n node s. elim (stands_append nodes v n node s) [
        | inl a ↦ with_old label many own node.up (f.up n node a) ∙ same.up n node a ∙ sym (with_old label many own n (stands_within a))
        | inr b ↦ ap (λ (w : Node). made w.up) b.1 ∙ ap made up ∙ ap made (sym b.0)
      ];
      last = λ n node s. elim (stands_append nodes v n node s) [
        | inl a ↦ with_old label many own node.last (f.last n node a) ∙ same.last n node a ∙ sym (with_old label many own n (stands_within a))
        | inr b ↦ ap (λ (w : Node). made w.last) b.1 ∙ ap made last ∙ ap made (sym b.0)
      ];
    }
