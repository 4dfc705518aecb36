use Rattle.std.specs.Prelude.{◌≡◌, Bool, ℕ, ◌-◌, ◌≤◌, ◌^◌, min, cond, Option, IfSome, Contains, List, [], ◌∷◌, ◌++◌, map, reverse, ⊤}
use Rattle.std.specs.Borrow.{Bor}
use Rattle.std.specs.List.{list_any}
use Rattle.npa_sorts.specs.Subsorts.{Subsorts, AreSorts, IsSort}
use Rattle.npa_term.specs.declared.term.Var.{Var as Variable}
use Rattle.npa_term.specs.declared.term.Term.{Term}
use Rattle.npa_term.specs.declared.term.Term.TheVariants.{Var, Name, App, App'}
use Rattle.npa_term.specs.Bound.{applied, same_var}
use Rattle.npa_term.specs.Canonical.{canonical}
use Rattle.npa_term.specs.Computed.{turned}
use Rattle.npa_term.specs.Same.{Same, SameAll}
use Rattle.npa_term.specs.Symbols.{symbol_count}
use Rattle.npa_term.specs.Variables.{variables}
use Rattle.npa_unify.specs.declared.heads.Head.{Head}
use Rattle.npa_unify.specs.declared.heads.Head.TheVariants.{Var as HeadVar, Name as HeadName, App as HeadApp}
use Rattle.npa_unify.specs.declared.search.State.{State}
use Rattle.npa_unify.specs.Answers.{finished, resolved, same_subst, started}
use Rattle.npa_unify.specs.Branches.{Branch, has_var, pair_variables, visited as branches_from}
use Rattle.npa_unify.specs.Unifiers.{AreLow, HaveOneSort}

-- What the private clauses of the search speak of. The search puts no binding into a term: it keeps
-- references into the pairs, and a branch is what they stand for.

-- The term of a head.
abbrev pub head_term : Head → Term
head_term (HeadVar v) = Var v
head_term (HeadName n) = Name n
head_term (HeadApp op ts) = App op ts.now

-- The bindings as they were made, with nothing put in.
abbrev pub raw : List (Variable × Head) → List (Variable × Term)
raw bs = map (λ b. (b.0, head_term b.1)) bs

-- The bindings, each with the earlier ones put in, behind such bindings `s`.
abbrev pub solved_after : List (Variable × Term) → List (Variable × Term) → List (Variable × Term)
solved_after s [] = []
solved_after s (b ∷ bs) = (b.0, resolved s b.1) ∷ solved_after (s ++ (b.0, resolved s b.1) ∷ []) bs

abbrev pub solved : List (Variable × Term) → List (Variable × Term)
solved bs = solved_after [] bs

-- A term with all bindings put in.
abbrev pub full : List (Variable × Term) → Term → Term
full bs t = resolved (solved bs) t

-- The canonical form of a term with all bindings put in.
abbrev pub form : List (Variable × Term) → Term → Term
form bs t = canonical (full bs t)

-- Arguments as they stand, or two of them in the other order.
abbrev pub placed : Bool → List Term → List Term
placed b ts = cond b (turned ts) ts

-- No substitution makes the terms equal, or all terms of two lists place by place, or the members of
-- each pair.
abbrev pub AreNeverEqual : Term → Term → Type 0
AreNeverEqual t u = (s : List (Variable × Term)) → Same (applied s t) (applied s u) → ⊥

abbrev pub AreNeverAllEqual : List Term → List Term → Type 0
AreNeverAllEqual ts us = (s : List (Variable × Term)) → SameAll (map (applied s) ts) (map (applied s) us) → ⊥

abbrev pub NoneEquates : List (Term × Term) → Type 0
NoneEquates ps = (s : List (Variable × Term)) → ((t u : Term) → Contains ps (t, u) → Same (applied s t) (applied s u)) → ⊥

-- The value of a variable that a binding is of; any other term as it is.
abbrev pub followed : Variable × Term → Term → Term
followed b (Var v) = cond (same_var b.0 v) b.1 (Var v)
followed b (Name n) = Name n
followed b (App' op n args) = App' op n args

-- The value of a variable under bindings that are followed one after the other.
abbrev pub walked : List (Variable × Term) → Term → Term
walked [] t = t
walked (b ∷ bs) t = walked bs (followed b t)

-- A binding that may follow others: its variable is none of theirs and doesn't occur in its value,
-- which is none of their variables.
pub record Follows (bs : List (Variable × Term)) (v : Variable) (t : Term) : Type 0 where
  pub other : Contains (map (λ b. b.0) bs) v → ⊥
  pub free : Contains (variables (full bs t)) v → ⊥
  pub head : (w : Variable) → t ≡ Var w → Contains (map (λ b. b.0) bs) w → ⊥

-- Bindings each of which may follow those before it.
abbrev pub SoundAfter : List (Variable × Term) → List (Variable × Term) → Type 0
SoundAfter done [] = ⊤
SoundAfter done (b ∷ bs) = Follows done b.0 b.1 × SoundAfter (done ++ b ∷ []) bs

abbrev pub IsSound : List (Variable × Term) → Type 0
IsSound bs = SoundAfter [] bs

-- The pairs that goals stand for, the next one first.
abbrev pub goal_pairs : List (Bor Term × Bor Term) → List (Term × Term)
goal_pairs gs = reverse (map (λ g. (g.0.now, g.1.now)) gs)

-- Pairs with all bindings put in.
abbrev pub full_pairs : List (Variable × Term) → List (Term × Term) → List (Term × Term)
full_pairs bs ps = map (λ p. (full bs p.0, full bs p.1)) ps

-- The branch that a state of the search stands for.
abbrev pub seen_as : List (Bor Term × Bor Term) → List (Variable × Head) → ℕ → Branch
seen_as goals bound next = record {
  pairs = full_pairs (raw bound) (goal_pairs goals);
  bound = solved (raw bound);
  next = next;
}

abbrev pub seen : State → Branch
seen s = seen_as s.goals.items s.bound.items s.next

-- What branches that wait stand for, the next one first.
abbrev pub seen_all : List State → List Branch
seen_all ss = map seen (reverse ss)

-- A term that is a variable is none of the bound ones.
abbrev pub IsUnbound : List (Variable × Term) → Term → Type 0
IsUnbound bs t = (w : Variable) → t ≡ Var w → Contains (map (λ b. b.0) bs) w → ⊥

-- The bindings of each state are sound.
abbrev pub AreSound : List State → Type 0
AreSound ss = (s : State) → Contains ss s → IsSound (raw s.bound.items)

-- A branch that a search visits, of pairs whose variables are of sorts, below a number that leaves
-- room for the new ones, and no number of which stands with two sorts.
pub record IsReached (o : Subsorts) (b : Branch) : Type 0 where
  pub pairs : List (Term × Term)
  pub next : ℕ
  pub order : AreSorts o
  pub few : next ≤ 2 ^ 31
  pub low : AreLow pairs next
  pub one : HaveOneSort pairs
  pub sorts : (v : Variable) → Contains (pair_variables pairs) v → IsSort o v.sort
  pub visited : Contains (branches_from o (started pairs next)) b

-- How many symbols the value of each binding has with all bindings put in, up to the greatest
-- 64-bit number.
abbrev pub counts : List (Variable × Term) → List ℕ
counts bs = map (λ b. min (symbol_count (full bs b.1)) (2 ^ 64 - 1)) bs

-- Whether a variable occurs in the value of each binding with all bindings put in.
abbrev pub have : Variable → List (Variable × Term) → List Bool
have v bs = map (λ b. has_var (variables (full bs b.1)) v) bs

-- A list as far as it is known.
abbrev pub AreKnown : {X : Type 0} → List (Option X) → List X → Type 0
AreKnown [] [] = ⊤
AreKnown (k ∷ ks) (n ∷ ns) = IfSome k (λ m. m ≡ n) × AreKnown ks ns
AreKnown ks ns = ⊥

-- With one more substitution where it isn't the same as a kept one.
abbrev pub added : List (List (Variable × Term)) → List (Variable × Term) → List (List (Variable × Term))
added kept s = cond (list_any (same_subst s) kept) kept (kept ++ s ∷ [])

-- The substitutions of branches.
abbrev pub finished_all : List Branch → List (List (Variable × Term))
finished_all bs = map (λ b. finished b.bound) bs
