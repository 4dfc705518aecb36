use Rattle.std.specs.Prelude.{ℕ, zero, suc, List, [], ◌∷◌, flat_map}

-- Searches by branches, whatever a branch is. A branch becomes other branches by a move. Two
-- numbers show that a search ends: most moves make the size of a branch smaller, and a move that
-- binds may make it larger but happens a bounded number of times along a branch.

-- What a branch becomes: branches that bind nothing, or branches that each have a new binding. No
-- branch is failure.
pub data Move (B : Type 0) : Type 0 where
  splits : List B → Move B
  binds : List B → Move B

-- The branches of a move.
abbrev pub nexts : {B : Type 0} → Move B → List B
nexts (splits bs) = bs
nexts (binds bs) = bs

-- What is visited after a move: by `go` where nothing was bound, by `deeper` where something was.
abbrev pub after : {B : Type 0} → (B → List B) → (B → List B) → Move B → List B
after deeper go (splits bs) = flat_map go bs
after deeper go (binds bs) = flat_map deeper bs

-- A branch and all that it becomes, depth first, with at most `m` moves until something is bound.
abbrev pub visited_in : {B : Type 0} → (B → Move B) → (B → List B) → ℕ → B → List B
visited_in moved deeper zero b = []
visited_in moved deeper (suc m) b = b ∷ after deeper (visited_in moved deeper m) (moved b)

-- The same with at most `n` bindings along a branch, where each move that binds nothing makes the
-- size smaller.
abbrev pub visited_at : {B : Type 0} → (B → Move B) → (B → ℕ) → ℕ → B → List B
visited_at moved size zero b = []
visited_at moved size (suc n) b = visited_in moved (visited_at moved size n) (suc (size b)) b

-- The same where `most` bounds the bindings.
abbrev pub visited_with : {B : Type 0} → (B → Move B) → (B → ℕ) → (B → ℕ) → B → List B
visited_with moved size most b = visited_at moved size (suc (most b)) b
