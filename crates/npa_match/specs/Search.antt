use Rattle.std.specs.Prelude.{◌≡◌, ℕ, ◌+◌, ◌^◌, Option, Some, None, ⊤, List, ◌∷◌, ◌++◌, flat_map, map, reverse, zip, []}
use Rattle.std.specs.Borrow.{Bor}
use Rattle.npa_sorts.specs.Subsorts.{Subsorts}
use Rattle.npa_term.specs.declared.term.Var.{Var as Variable}
use Rattle.npa_term.specs.declared.term.Term.{Term}
use Rattle.npa_term.specs.Bound.{BindsOnce}
use Rattle.npa_term.specs.Computed.{turned}
use Rattle.npa_term.specs.Symbols.{symbol_count}
use Rattle.npa_match.specs.declared.search.Branch.{Branch}
use Rattle.npa_match.specs.declared.search.Outcome.{Outcome}
use Rattle.npa_match.specs.declared.search.Outcome.TheVariants.{Fails, Binds, Forks}
use Rattle.npa_match.specs.Branches.{after_term, after_pairs}
use Rattle.npa_match.specs.Matching.{bound_pairs}

-- What the private clauses of the search speak of.

-- The branches that a branch becomes by lists of terms, matched place by place.
abbrev pub after_all : Subsorts → List Term → List Term → List (Variable × Term) →
    List (List (Variable × Term))
after_all o [] [] s = s ∷ []
after_all o [] (u ∷ us) s = []
after_all o (t ∷ ts) [] s = []
after_all o (t ∷ ts) (u ∷ us) s = flat_map (after_all o ts us) (after_term o t u s)

-- Each of these substitutions binds each variable once.
abbrev pub AllBindOnce : List (List (Variable × Term)) → Type 0
AllBindOnce [] = ⊤
AllBindOnce (s ∷ ss) = BindsOnce s × AllBindOnce ss

-- The pairs that goals stand for, the next one first.
abbrev pub goal_pairs : List (Bor Term × Bor Term) → List (Term × Term)
goal_pairs gs = reverse (map (λ g. (g.0.now, g.1.now)) gs)

-- The pairs that a branch has still to match, in order.
abbrev pub pairs_of : Branch → List (Term × Term)
pairs_of b = goal_pairs b.goals.items

-- What it has bound.
abbrev pub bound_of : Branch → List (Variable × Term)
bound_of b = bound_pairs b.bound.items

-- What becomes of it.
abbrev pub ends_of : Subsorts → Branch → List (List (Variable × Term))
ends_of o b = after_pairs o (pairs_of b) (bound_of b)

abbrev pub outcome_ends : Subsorts → Outcome → List (List (Variable × Term))
outcome_ends o Fails = []
outcome_ends o (Binds bound) = bound_pairs bound.items ∷ []
outcome_ends o (Forks a b) = ends_of o a ++ ends_of o b

-- The symbols of the first members of pairs.
abbrev pub pair_symbols : List (Term × Term) → ℕ
pair_symbols [] = 0
pair_symbols (p ∷ ps) = symbol_count p.0 + pair_symbols ps

-- A bound on the steps that a branch takes.
abbrev pub work : Branch → ℕ
work b = 3 ^ pair_symbols (pairs_of b)

-- What becomes of the branches that wait, up to an empty place.
abbrev pub waiting_ends : Subsorts → List (Option Branch) → List (List (Variable × Term))
waiting_ends o [] = []
waiting_ends o (None ∷ bs) = []
waiting_ends o (Some b ∷ bs) = ends_of o b ++ waiting_ends o bs

abbrev pub waiting_work : List (Option Branch) → ℕ
waiting_work [] = 0
waiting_work (None ∷ bs) = 0
waiting_work (Some b ∷ bs) = work b + waiting_work bs

abbrev pub outcome_work : Outcome → ℕ
outcome_work Fails = 0
outcome_work (Binds bound) = 0
outcome_work (Forks a b) = work a + work b

-- An outcome that forks: the straight pairs of the arguments first, the crossed ones in the second
-- branch.
abbrev pub IsFork : List (Term × Term) → List (Variable × Term) → List Term → List Term → Outcome →
    Type 0
IsFork ps s ts us Fails = ⊥
IsFork ps s ts us (Binds bound) = ⊥
IsFork ps s ts us (Forks a b) =
    (pairs_of a ≡ zip ts us ++ ps) × (bound_of a ≡ s)
    × (pairs_of b ≡ zip ts (turned us) ++ ps) × (bound_of b ≡ s)
