-- Searches by branches are finite: the two numbers that bound them are large enough.
use Rattle.std.proofs.Common.{◌≡◌, ℕ, zero, suc, ◌<◌, ◌∷◌, sym, ◌∙◌, ap, subst, inl, inr, arith}
use Rattle.std.specs.Prelude.{Contains, ◌⊎◌, flat_map}
use Rattle.npa_unify.specs.Searches.{Move, splits, binds, nexts, after, visited_in, visited_at, visited_with}
use Rattle.npa_unify.proofs.Members.{EachOf, each_along, each_member, flat_map_each}

-- moves that bind nothing make the size smaller, and those that bind use up one of the bindings
abbrev pub Smaller : {B : Type 0} → (B → ℕ) → (ℕ → B → Type 0) → B → B → Type 0
Smaller size Enough b c = (size c < size b) × ((n : ℕ) → Enough n b → Enough n c)

abbrev pub Deeper : {B : Type 0} → (ℕ → B → Type 0) → B → B → Type 0
Deeper Enough b c = (n : ℕ) → Enough n b → (k : ℕ) × (n ≡ suc k) × Enough k c

abbrev pub Falls : {B : Type 0} → (B → ℕ) → (ℕ → B → Type 0) → B → Move B → Type 0
Falls size Enough b (splits bs) = EachOf (Smaller size Enough b) bs
Falls size Enough b (binds bs) = EachOf (Deeper Enough b) bs

module _ {B : Type 0} (moved : B → Move B) (size : B → ℕ) (Enough : ℕ → B → Type 0) (falls : (b : B) → Falls size Enough b (moved b)) where
  abbrev Agrees : ℕ → Type 0
  Agrees n = (n' m m' : ℕ) (b : B) → Enough n b → Enough n' b → size b < m → size b < m' →
      visited_in moved (visited_at moved size n) m b ≡ visited_in moved (visited_at moved size n') m' b

  -- after a binding
  deeper_alike : (n : ℕ) → ((k : ℕ) → n ≡ suc k → Agrees k) → (n' : ℕ) (b c : B) → Enough n b → Enough n' b → Deeper Enough b c →
      visited_at moved size n c ≡ visited_at moved size n' c
  deeper_alike n known n' b c enough enough' deeper =
      let one = deeper n enough in
      let two = deeper n' enough' in
      ap (λ i. visited_at moved size i c) one.1
      ∙ known one.0 one.1 two.0 (suc (size c)) (suc (size c)) c one.2 two.2 (omega arith) (omega arith)
      ∙ ap (λ i. visited_at moved size i c) (sym two.1)

  moves_alike : (n : ℕ) → ((k : ℕ) → n ≡ suc k → Agrees k) → (n' m m' : ℕ) (b : B) → Enough n b → Enough n' b → size b < suc m → size b < suc m' →
      ((c : B) → Enough n c → Enough n' c → size c < m → size c < m' → visited_in moved (visited_at moved size n) m c ≡ visited_in moved (visited_at moved size n') m' c) →
      (mv : Move B) → Falls size Enough b mv →
      after (visited_at moved size n) (visited_in moved (visited_at moved size n) m) mv ≡ after (visited_at moved size n') (visited_in moved (visited_at moved size n') m') mv
  moves_alike n known n' m m' b enough enough' small small' go (splits bs) fall =
      flat_map_each (visited_in moved (visited_at moved size n) m) (visited_in moved (visited_at moved size n') m') bs
      (each_along (Smaller size Enough b) (λ c. visited_in moved (visited_at moved size n) m c ≡ visited_in moved (visited_at moved size n') m' c)
      (λ c s. let less : size c < size b = s.0 in go c (s.1 n enough) (s.1 n' enough') (omega (arith, less, small)) (omega (arith, less, small'))) bs fall)
  moves_alike n known n' m m' b enough enough' small small' go (binds bs) fall =
      flat_map_each (visited_at moved size n) (visited_at moved size n') bs
      (each_along (Deeper Enough b) (λ c. visited_at moved size n c ≡ visited_at moved size n' c)
      (λ c d. deeper_alike n known n' b c enough enough' d) bs fall)

  agrees_in : (n : ℕ) → ((k : ℕ) → n ≡ suc k → Agrees k) → (m n' m' : ℕ) (b : B) → Enough n b → Enough n' b → size b < m → size b < m' →
      visited_in moved (visited_at moved size n) m b ≡ visited_in moved (visited_at moved size n') m' b
  agrees_in n known zero n' m' b enough enough' small small' = absurd (let no : ⊥ = omega (arith, small) in no)
  agrees_in n known (suc m) n' zero b enough enough' small small' = absurd (let no : ⊥ = omega (arith, small') in no)
  agrees_in n known (suc m) n' (suc m') b enough enough' small small' =
      ap (λ bs. b ∷ bs) (moves_alike n known n' m m' b enough enough' small small'
      (λ c e e' s s'. agrees_in n known m n' m' c e e' s s') (moved b) (falls b))

  agrees : (n : ℕ) → Agrees n
  agrees zero n' m m' b enough enough' small small' =
      agrees_in zero (λ k e. absurd (let no : ⊥ = omega (arith, e) in no)) m n' m' b enough enough' small small'
  agrees (suc n) n' m m' b enough enough' small small' =
      agrees_in (suc n) (λ k e. subst Agrees (let is : n ≡ k = omega (arith, e) in is) (agrees n)) m n' m' b enough enough' small small'

  unfolded_move : (most : B → ℕ) → ((b : B) → Enough (most b) b) → (b : B) (mv : Move B) → Falls size Enough b mv →
      after (visited_at moved size (most b)) (visited_in moved (visited_at moved size (most b)) (size b)) mv ≡ flat_map (visited_with moved size most) (nexts mv)
  unfolded_move most enough b (splits bs) fall =
      flat_map_each (visited_in moved (visited_at moved size (most b)) (size b)) (visited_with moved size most) bs
      (each_along (Smaller size Enough b) (λ c. visited_in moved (visited_at moved size (most b)) (size b) c ≡ visited_with moved size most c)
      (λ c s. agrees (most b) (most c) (size b) (suc (size c)) c (s.1 (most b) (enough b)) (enough c) s.0 (omega arith)) bs fall)
  unfolded_move most enough b (binds bs) fall =
      flat_map_each (visited_at moved size (most b)) (visited_with moved size most) bs
      (each_along (Deeper Enough b) (λ c. visited_at moved size (most b) c ≡ visited_with moved size most c)
      (λ c d. let one = d (most b) (enough b) in
      ap (λ i. visited_at moved size i c) one.1
      ∙ agrees one.0 (most c) (suc (size c)) (suc (size c)) c one.2 (enough c) (omega arith) (omega arith)) bs fall)

  -- what is visited is the branch and what is visited after its move
  pub search_unfolded : (most : B → ℕ) → ((b : B) → Enough (most b) b) → (b : B) →
      visited_with moved size most b ≡ b ∷ flat_map (visited_with moved size most) (nexts (moved b))
  search_unfolded most enough b = ap (λ bs. b ∷ bs) (unfolded_move most enough b (moved b) (falls b))

  falls_cases : (b c : B) (mv : Move B) → Falls size Enough b mv → Contains (nexts mv) c → Smaller size Enough b c ⊎ Deeper Enough b c
  falls_cases b c (splits bs) fall is = inl (each_member (Smaller size Enough b) bs c fall is)
  falls_cases b c (binds bs) fall is = inr (each_member (Deeper Enough b) bs c fall is)

  -- induction along branches
  inside : (P : B → Type 0) → ((b : B) → ((c : B) → Contains (nexts (moved b)) c → P c) → P b) →
      (n : ℕ) → ((k : ℕ) → n ≡ suc k → (c : B) → Enough k c → P c) → (m : ℕ) (b : B) → Enough n b → size b < m → P b
  inside P step n known zero b enough small = absurd (let no : ⊥ = omega (arith, small) in no)
  inside P step n known (suc m) b enough small =
      step b (λ c is. elim (falls_cases b c (moved b) (falls b) is) [
        | inl s ↦ let less : size c < size b = s.0 in inside P step n known m c (s.1 n enough) (omega (arith, less, small))
        | inr d ↦ let one = d n enough in known one.0 one.1 c one.2
      ])

  by_depth : (P : B → Type 0) → ((b : B) → ((c : B) → Contains (nexts (moved b)) c → P c) → P b) → (n : ℕ) (b : B) → Enough n b → P b
  by_depth P step zero b enough = inside P step zero (λ k e. absurd (let no : ⊥ = omega (arith, e) in no)) (suc (size b)) b enough (omega arith)
  by_depth P step (suc n) b enough =
      inside P step (suc n) (λ k e c small. by_depth P step n c (subst (λ i. Enough i c) (let is : k ≡ n = omega (arith, e) in is) small)) (suc (size b)) b enough (omega arith)

  pub by_search : (most : B → ℕ) → ((b : B) → Enough (most b) b) → (P : B → Type 0) → ((b : B) → ((c : B) → Contains (nexts (moved b)) c → P c) → P b) → (b : B) → P b
  by_search most enough P step b = by_depth P step (most b) b (enough b)
