use Rattle.std.specs.Prelude.{ℕ, ◌+◌, Bool, true, false, nat_eq, cond, ◌&&◌, List, [], ◌∷◌, ◌++◌, map, zip, length}
use Rattle.std.specs.List.{filter}
use Rattle.std.specs.Ordering.{is_gt}
use Rattle.npa_sorts.specs.Subsorts.{Subsorts, at_or_below}
use Rattle.npa_sorts.specs.Lowers.{lowers}
use Rattle.npa_term.specs.declared.term.Op.{Op}
use Rattle.npa_term.specs.declared.term.Var.{Var as Variable}
use Rattle.npa_term.specs.declared.term.Term.{Term, items-the_row-Term}
use Rattle.npa_term.specs.declared.term.Term.TheVariants.{Var, Name, App'}
use Rattle.npa_term.specs.Bound.{same_var, applied}
use Rattle.npa_term.specs.Canonical.{canonical}
use Rattle.npa_term.specs.Computed.{same_op, turned}
use Rattle.npa_term.specs.Order.{term_cmp}
use Rattle.npa_term.specs.Parts.{least_sort}
use Rattle.npa_term.specs.Symbols.{symbol_count}
use Rattle.npa_term.specs.Variables.{variables}
use Rattle.npa_unify.specs.Searches.{Move, splits, binds, visited_with}

-- Unification by branches: the rules of decomposition, orientation and elimination of variables
-- (Martelli, Montanari 1982; Baader, Snyder 2001), with a fork at commutative operators (Siekmann
-- 1989) and one at two variables of unrelated sorts (Walther 1988; Meseguer, Goguen, Smolka 1989).

-- A branch: the pairs of terms that are still to be made equal, with all bindings put in; the
-- bindings in the order in which they were made, none put into the values of earlier ones; and the
-- number of the next new variable.
pub record Branch : Type 0 where
  pub pairs : List (Term × Term)
  pub bound : List (Variable × Term)
  pub next : ℕ

-- A variable is bound: its term stands for it in all pairs that are left.
abbrev pub put : Variable → Term → Branch → Branch
put v t b = record {
  pairs = map (λ p. (applied ((v, t) ∷ []) p.0, applied ((v, t) ∷ []) p.1)) b.pairs;
  bound = b.bound ++ (v, t) ∷ [];
  next = b.next;
}

-- Whether a variable is one of a list.
abbrev pub has_var : List Variable → Variable → Bool
has_var [] v = false
has_var (w ∷ ws) v = cond (same_var w v) true (has_var ws v)

-- Two arguments in the order of their canonical forms; any other number of arguments as they are.
abbrev pub arranged : List Term → List Term
arranged (t ∷ u ∷ []) = cond (is_gt (term_cmp (canonical t) (canonical u))) (u ∷ t ∷ []) (t ∷ u ∷ [])
arranged ts = ts

-- Whether there are two arguments.
abbrev pub are_two : List Term → Bool
are_two (t ∷ u ∷ []) = true
are_two ts = false

-- A branch with more pairs in front.
abbrev pub with_pairs : List (Term × Term) → Branch → Branch
with_pairs ps b = record b { pairs = ps ++ b.pairs }

-- A variable against a term that is none: it is bound to the term, unless it occurs there or the
-- sort of the term doesn't allow it.
abbrev pub at_variable : Subsorts → Variable → Term → Branch → Move Branch
at_variable o v t b =
    cond (has_var (variables t) v)
    (splits [])
    (cond (at_or_below o (least_sort t) v.sort) (binds (put v t b ∷ [])) (splits []))

-- Two variables are bound to a new one of the sort `r`, the first one first.
abbrev pub fork : ℕ → Variable → Variable → Branch → Branch
fork r v w b =
    let z : Term = Var (record { num = b.next; sort = r }) in
    put w z (put v z (record b { next = b.next + 1 }))

-- Two variables: nothing is done where they are the same; otherwise the one of the upper sort is
-- bound to the other, the second one where they are of one sort; and where neither sort is above
-- the other there is a branch for each maximal lower sort, with a new variable of that sort.
abbrev pub at_variables : Subsorts → Variable → Variable → Branch → Move Branch
at_variables o v w b =
    cond (same_var v w)
    (splits (b ∷ []))
    (cond (at_or_below o v.sort w.sort)
    (binds (put w (Var v) b ∷ []))
    (cond (at_or_below o w.sort v.sort)
    (binds (put v (Var w) b ∷ []))
    (binds (map (λ r. fork r v w b) (lowers o v.sort w.sort)))))

-- The arguments of one operator, from the left. A commutative operator has a branch with the
-- arguments of both sides in the order of their canonical forms, and then one with them crosswise.
abbrev pub at_arguments : Op → List Term → List Term → Branch → Move Branch
at_arguments op ts us b =
    cond (nat_eq (length ts) (length us))
    (cond (op.com && are_two ts)
    (splits (with_pairs (zip (arranged ts) (arranged us)) b
    ∷ with_pairs (zip (arranged ts) (turned (arranged us))) b ∷ []))
    (splits (with_pairs (zip ts us) b ∷ [])))
    (splits [])

-- What a branch becomes by a pair, which isn't one of its pairs any more.
abbrev pub move : Subsorts → Term → Term → Branch → Move Branch
move o (Var v) (Var w) b = at_variables o v w b
move o (Var v) (Name n) b = at_variable o v (Name n) b
move o (Var v) (App' g k us) b = at_variable o v (App' g k us) b
move o (Name m) (Var w) b = at_variable o w (Name m) b
move o (Name m) (Name n) b = cond (nat_eq m n) (splits (b ∷ [])) (splits [])
move o (Name m) (App' g k us) b = splits []
move o (App' f j ts) (Var w) b = at_variable o w (App' f j ts) b
move o (App' f j ts) (Name n) b = splits []
move o (App' f j ts) (App' g k us) b =
    cond (same_op f g) (at_arguments f (items-the_row-Term _ ts) (items-the_row-Term _ us) b)
    (splits [])

-- What a branch becomes by the first of its pairs.
abbrev pub moved_from : Subsorts → List (Term × Term) → Branch → Move Branch
moved_from o [] b = splits []
moved_from o (p ∷ ps) b = move o p.0 p.1 (record b { pairs = ps })

abbrev pub moved : Subsorts → Branch → Move Branch
moved o b = moved_from o b.pairs b

-- The symbols of pairs together.
abbrev pub pair_symbols : List (Term × Term) → ℕ
pair_symbols [] = 0
pair_symbols (p ∷ ps) = symbol_count p.0 + (symbol_count p.1 + pair_symbols ps)

-- The variables of pairs, one for each occurrence.
abbrev pub pair_variables : List (Term × Term) → List Variable
pair_variables [] = []
pair_variables (p ∷ ps) = variables p.0 ++ (variables p.1 ++ pair_variables ps)

-- The size of a branch, which moves that bind nothing make smaller.
abbrev pub size : Branch → ℕ
size b = pair_symbols b.pairs

-- A bound on the bindings that a branch still makes.
abbrev pub most : Branch → ℕ
most b = length (pair_variables b.pairs)

-- A branch and all that it becomes, depth first.
abbrev pub visited : Subsorts → Branch → List Branch
visited o b = visited_with (moved o) size most b

-- Whether no pair is left.
abbrev pub none_left : List (Term × Term) → Bool
none_left [] = true
none_left (p ∷ ps) = false

-- Whether a branch has succeeded: it has no pair left.
abbrev pub is_end : Branch → Bool
is_end b = none_left b.pairs

-- The branches that succeed, in the order of the search.
abbrev pub ends : Subsorts → Branch → List Branch
ends o b = filter is_end (visited o b)
