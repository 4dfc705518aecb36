use Rattle.std.specs.Prelude.{◌≡◌, ℕ, ◌+◌, ◌<◌, ◌≤◌, ◌^◌, ◌⊎◌, Some, None, Contains, List, [], ◌∷◌}
use Rattle.npa_sorts.specs.Subsorts.{Subsorts, IsSort, IsAtOrBelow}
use Rattle.npa_term.specs.declared.term.Op.{Op}
use Rattle.npa_term.specs.declared.term.Var.{Var as Variable}
use Rattle.npa_term.specs.declared.term.Term.{Term}
use Rattle.npa_term.specs.declared.term.Term.TheVariants.{Var, App}
use Rattle.npa_term.specs.Bound.{value_of, applied, BindsOnce}
use Rattle.npa_term.specs.Canonical.{canonical}
use Rattle.npa_term.specs.Parts.{least_sort, image}
use Rattle.npa_term.specs.Same.{Same}
use Rattle.npa_term.specs.Variables.{variables}
use Rattle.npa_unify.specs.Branches.{pair_variables}

-- A unifier of pairs modulo commutativity that respects sorts (Baader, Snyder 2001; Meseguer,
-- Goguen, Smolka 1989): the term that it has for a variable of the pairs is of a sort at or below
-- the variable's, and it makes the members of each pair equal.
pub record IsUnifier (o : Subsorts) (ps : List (Term × Term)) (s : List (Variable × Term)) :
    Type 0 where
  pub sorts : (v : Variable) → Contains (pair_variables ps) v →
      IsAtOrBelow o (least_sort (image s v)) v.sort
  pub equal : (t u : Term) → Contains ps (t, u) → Same (applied s t) (applied s u)

-- A unifier as it is answered: it binds each variable once, only variables of the pairs and new
-- ones, which are numbered from `next`, and each to a canonical term of a sort at or below the
-- variable's, in which no bound variable occurs.
pub record IsAnswer (o : Subsorts) (ps : List (Term × Term)) (next : ℕ)
    (s : List (Variable × Term)) : Type 0 where
  pub unifier : IsUnifier o ps s
  pub once : BindsOnce s
  pub sorts : (v : Variable) (t : Term) → value_of s v ≡ Some t →
      IsAtOrBelow o (least_sort t) v.sort
  pub own : (v : Variable) (t : Term) → value_of s v ≡ Some t →
      Contains (pair_variables ps) v ⊎ (next ≤ v.num)
  pub values : (v : Variable) (t : Term) (w : Variable) → value_of s v ≡ Some t →
      Contains (variables t) w →
      (Contains (pair_variables ps) w ⊎ (next ≤ w.num)) × (value_of s w ≡ None)
      × (w.num < next + next)
  pub form : (v : Variable) (t : Term) → value_of s v ≡ Some t → canonical t ≡ t

-- A unifier `u` is an instance of an answer `s` (Baader, Snyder 2001, on the instantiation
-- quasi-ordering): some substitution after the answer has equal terms for every variable below
-- `next`, leaves these variables as the unifier has them, respects the sorts of the variables of
-- the answer's values, and has no value for these that the unifier hasn't for a variable of the
-- pairs.
pub record Factor (o : Subsorts) (ps : List (Term × Term)) (next : ℕ)
    (u s : List (Variable × Term)) : Type 0 where
  pub then : List (Variable × Term)
  pub old : (v : Variable) → v.num < next → image then v ≡ image u v
  pub equal : (v : Variable) → v.num < next → Same (image u v) (applied then (image s v))
  pub sorts : (v w : Variable) → Contains (pair_variables ps) v →
      Contains (variables (image s v)) w → IsAtOrBelow o (least_sort (image then w)) w.sort
  pub taken : (v w : Variable) → Contains (pair_variables ps) v →
      Contains (variables (image s v)) w →
      (x : Variable) × Contains (pair_variables ps) x × (image then w ≡ image u x)

-- Each unifier is an instance of one of these (Baader, Snyder 2001, on complete sets of unifiers).
abbrev pub IsComplete : Subsorts → List (Term × Term) → ℕ → List (List (Variable × Term)) → Type 0
IsComplete o ps next ss = (u : List (Variable × Term)) → IsUnifier o ps u →
    (s : List (Variable × Term)) × Contains ss s × Factor o ps next u s

-- The variables of the pairs have numbers below `next`.
abbrev pub AreLow : List (Term × Term) → ℕ → Type 0
AreLow ps next = (v : Variable) → Contains (pair_variables ps) v → v.num < next

-- No number stands with two sorts in the pairs.
abbrev pub HaveOneSort : List (Term × Term) → Type 0
HaveOneSort ps = (v w : Variable) → Contains (pair_variables ps) v → Contains (pair_variables ps) w
    → v.num ≡ w.num → v ≡ w

-- What unification asks of pairs, with new variables that are numbered from `next`: each variable is
-- of a sort and numbered below `next`, which leaves room for as many new ones, and no number stands
-- with two sorts.
pub record AreFit (o : Subsorts) (ps : List (Term × Term)) (next : ℕ) : Type 0 where
  pub sorts : (v : Variable) → Contains (pair_variables ps) v → IsSort o v.sort
  pub low : AreLow ps next
  pub room : next ≤ 2 ^ 31
  pub one : HaveOneSort ps

-- A property of terms that instances keep: the arguments of a term have it, canonical forms have
-- it, instances by values of allowed sorts that have it, and variables of lower sorts.
pub record Keeps (o : Subsorts) (P : Term → Type 0) : Type 0 where
  pub arguments : (op : Op) (ts : List Term) (t : Term) → P (App op ts) → Contains ts t → P t
  pub form : (t : Term) → P t → P (canonical t)
  pub put_in : (v : Variable) (t x : Term) → IsAtOrBelow o (least_sort t) v.sort → P t → P x →
      P (applied ((v, t) ∷ []) x)
  pub lower : (v z : Variable) → P (Var v) → IsAtOrBelow o z.sort v.sort → P (Var z)
