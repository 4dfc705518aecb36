-- The log of what was retired.
use Rattle.std.proofs.Common.{◌≡◌, ℕ, zero, suc, ◌+◌, ◌≤◌, inl, inr, min, List, [], ◌∷◌, ◌++◌, length, map, take, drop, refl, ap, sym, ◌∙◌, subst, arith}
use Rattle.fold_core.specs.Machine.{Stands}
use Rattle.fold_core.proofs.Places.{stands_within, stands_append, stands_old, stands_new, stands_map, stands_unmap}
use Rattle.fold_store.specs.declared.log.Mark.{Mark}
use Rattle.fold_store.specs.Log.{Ascends, Marked, NoneNewer, clip_mark}
use Rattle.fold_store.proofs.Numbers.{take_stands}

pub ascends_add : (marks : List Mark) (v : Mark) → Ascends marks → ((k : ℕ) (u : Mark) → Stands marks k u → u.tick ≤ v.tick) → Ascends (marks ++ v ∷ [])
ascends_add marks v a last = record {
  ascend = λ j k u w h s t. elim (stands_append marks v j u s) [
    | inl p ↦ elim (stands_append marks v k w t) [
      | inl q ↦ a.ascend j k u w h p q
      | inr q ↦ (let low = last j u p in let is = ap (λ (m : Mark). m.tick) q.1 in omega arith)
    ]
    | inr p ↦ elim (stands_append marks v k w t) [
      | inl q ↦ (let within = stands_within q in let at = p.0 in absurd (omega arith))
      | inr q ↦ (let is = ap (λ (m : Mark). m.tick) p.1 in let as_is = ap (λ (m : Mark). m.tick) q.1 in omega arith)
    ]
  ];
}

pub marked_new : (marks : List Mark) (v : Mark) (number tick : ℕ) → v.number ≡ number → tick ≤ v.tick → Marked (marks ++ v ∷ []) number tick
marked_new marks v number tick is since = record { place = length marks; mark = v; stands = stands_new marks v; number_is = is; since = since }

pub marked_old : (marks more : List Mark) (number tick : ℕ) → Marked marks number tick → Marked (marks ++ more) number tick
marked_old marks more number tick m = record { place = m.place; mark = m.mark; stands = stands_old more m.stands; number_is = m.number_is; since = m.since }

pub older_from : (marks : List Mark) (bound place : ℕ) (v : Mark) → Ascends marks → Stands marks place v → v.tick ≤ bound → NoneNewer bound (place + 1) marks
older_from marks bound place v a s low = record { older = λ k u h t. (let up = a.ascend k place u v (omega arith) t s in omega arith) }

pub ascends_clip : (bound : ℕ) (marks : List Mark) → Ascends marks → Ascends (map (clip_mark bound) marks)
ascends_clip bound marks a = record {
  ascend = λ j k u v h s t.
      (let x = stands_unmap (clip_mark bound) marks j u s in
      let y = stands_unmap (clip_mark bound) marks k v t in
      let up = a.ascend j k x.0 y.0 h x.1 y.1 in
      let u_is : u.tick ≡ min x.0.tick bound = ap (λ (m : Mark). m.tick) x.2 in
      let v_is : v.tick ≡ min y.0.tick bound = ap (λ (m : Mark). m.tick) y.2 in
      omega arith);
}

pub marked_clip : (bound : ℕ) (marks : List Mark) (number tick : ℕ) → Marked marks number tick → Marked (map (clip_mark bound) marks) number (min tick bound)
marked_clip bound marks number tick m =
    let since = m.since in
    record { place = m.place; mark = clip_mark bound m.mark; stands = stands_map (clip_mark bound) m.stands; number_is = m.number_is; since = omega arith }

-- What is old stays as it is.
clip_old : (bound : ℕ) (v : Mark) → v.tick ≤ bound → clip_mark bound v ≡ v
clip_old bound v low = let is : min v.tick bound ≡ v.tick = omega arith in ap (λ t. record v { tick = t }) is

pub front_same : (bound : ℕ) (marks : List Mark) (from : ℕ) → NoneNewer bound from marks → marks ≡ map (clip_mark bound) (take from marks) ++ drop from marks
front_same bound [] zero n = refl
front_same bound [] (suc from) n = refl
front_same bound (v ∷ marks) zero n = refl
front_same bound (v ∷ marks) (suc from) n =
    let first = n.older 0 v (omega arith) (record { is = refl }) in
    let rest = front_same bound marks from (record { older = λ k u h s. n.older (suc k) u (omega arith) (record { is = s.is }) }) in
    ap (λ w. w ∷ marks) (sym (clip_old bound v first)) ∙ ap (λ ws. clip_mark bound v ∷ ws) rest

-- One more number of the list is marked.
pub marked_more : (xs : List ℕ) (i x tick : ℕ) (old new : List Mark) → Stands xs i x → ((k n : ℕ) → Stands (take i xs) k n → Marked old n tick)
    → ((n since : ℕ) → Marked old n since → Marked new n since) → Marked new x tick → (k n : ℕ) → Stands (take (i + 1) xs) k n → Marked new n tick
marked_more xs i x tick old new at before keeps now k n s =
    let suc_is : i + 1 ≡ suc i = omega arith in
    let split = subst (λ w. Stands w k n) (ap (λ m. take m xs) suc_is ∙ take_stands xs i x at) s in
    elim (stands_append (take i xs) x k n split) [
      | inl a ↦ keeps n tick (before k n a)
      | inr b ↦ subst (λ m. Marked new m tick) (sym b.1) now
    ]
