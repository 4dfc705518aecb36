-- The branches that wait.
use Rattle.std.proofs.Common.{◌≡◌, zero, Contains, arith, refl, Result, Ok, Err, OnErr, Option, Some, List, ◌∷◌, ◌++◌, reverse, sym, ◌∙◌, ap, subst, []}
use Rattle.std.proofs.lemmas.List.{append_assoc, append-nil, map-append, reverse-append, reverse-reverse}
use Rattle.std.specs.Borrow.{Bor}
use Rattle.npa_sorts.specs.Subsorts.{Subsorts}
use Rattle.npa_term.specs.declared.term.Var.{Var as Variable}
use Rattle.npa_term.specs.declared.term.Term.{Term}
use Rattle.npa_term.specs.Bound.{BindsOnce}
use Rattle.npa_match.specs.declared.search.Branch.{Branch}
use Rattle.npa_match.specs.Branches.{after_pairs, branches}
use Rattle.npa_match.specs.Matching.{AreLast, IsMatcher, read_pairs}
use Rattle.npa_match.specs.Search.{AllBindOnce, bound_of, ends_of, goal_pairs, pairs_of, waiting_ends}
use Rattle.npa_match.proofs.Answered.{each_branch}
use Rattle.npa_match.proofs.Exactness.{Each}

-- the branch that is popped goes first
pub popped : (o : Subsorts) (ws vs : List (Option Branch)) (b : Branch) → ws ≡ vs ++ Some b ∷ [] → waiting_ends o (reverse ws) ≡ ends_of o b ++ waiting_ends o (reverse vs)
popped o ws vs b e = ap (λ xs. waiting_ends o (reverse xs)) e ∙ ap (waiting_ends o) (reverse-append vs (Some b ∷ []))

-- a branch fails
pub failed : (o : Subsorts) (ws vs : List (Option Branch)) (b : Branch) → ws ≡ vs ++ Some b ∷ [] → [] ≡ ends_of o b → waiting_ends o (reverse vs) ≡ waiting_ends o (reverse ws)
failed o ws vs b e is = sym (popped o ws vs b e ∙ ap (λ xs. xs ++ waiting_ends o (reverse vs)) (sym is))

-- a branch comes to its end
pub ended : (o : Subsorts) (ws vs : List (Option Branch)) (b : Branch) (r : List (Variable × Term)) → ws ≡ vs ++ Some b ∷ [] → r ∷ [] ≡ ends_of o b →
    waiting_ends o (reverse ws) ≡ r ∷ waiting_ends o (reverse vs)
ended o ws vs b r e is = popped o ws vs b e ∙ ap (λ xs. xs ++ waiting_ends o (reverse vs)) (sym is)

-- a branch forks
pub forked : (o : Subsorts) (ws vs us xs : List (Option Branch)) (b straight crossed : Branch) →
    ws ≡ vs ++ Some b ∷ [] → ends_of o straight ++ ends_of o crossed ≡ ends_of o b →
    us ≡ vs ++ Some crossed ∷ [] → xs ≡ us ++ Some straight ∷ [] → waiting_ends o (reverse xs) ≡ waiting_ends o (reverse ws)
forked o ws vs us xs b straight crossed e is first second =
    popped o xs us straight second ∙ ap (λ ys. ends_of o straight ++ ys) (popped o us vs crossed first)
    ∙ sym (append_assoc (ends_of o straight) (ends_of o crossed) (waiting_ends o (reverse vs)))
    ∙ ap (λ ys. ys ++ waiting_ends o (reverse vs)) is ∙ sym (popped o ws vs b e)

-- what binds once
pub each_binds_once : (ss : List (List (Variable × Term))) → Each BindsOnce ss → AllBindOnce ss
each_binds_once [] each = tt
each_binds_once (s ∷ ss) each = (each.0, each_binds_once ss each.1)

matchers_once : (o : Subsorts) (ps : List (Term × Term)) (ss : List (List (Variable × Term))) → Each (IsMatcher o ps) ss → AllBindOnce ss
matchers_once o ps [] each = tt
matchers_once o ps (s ∷ ss) each = (each.0.once, matchers_once o ps ss each.1)

pub branches_once : (o : Subsorts) (ps : List (Term × Term)) → AllBindOnce (branches o ps)
branches_once o ps = matchers_once o ps (branches o ps) (each_branch o ps)

pub last_once : (all left : List (List (Variable × Term))) → AreLast all left → AllBindOnce all → AllBindOnce left
last_once all left last once = behind last.0 (subst (λ ss. AllBindOnce ss) last.1 once) where
  behind : (front : List (List (Variable × Term))) → AllBindOnce (front ++ left) → AllBindOnce left
  behind [] o = o
  behind (s ∷ front) o = behind front o.1

-- the end of what is left, and the same up to an equation
pub last_of : (all same left : List (List (Variable × Term))) → all ≡ same → AreLast same left → AreLast all left
last_of all same left e last = (last.0, e ∙ last.1)

-- pairs that are put on a branch the last first stand in their order
pub pairs_reversed : (ps : List (Bor Term × Bor Term)) → goal_pairs (reverse ps) ≡ read_pairs ps
pairs_reversed ps = ap reverse (map_reversed ps) ∙ reverse-reverse (read_pairs ps) where
  map_reversed : (qs : List (Bor Term × Bor Term)) → read_pairs (reverse qs) ≡ reverse (read_pairs qs)
  map_reversed [] = refl
  map_reversed (q ∷ qs) =
      ap read_pairs (reverse-append (q ∷ []) qs)
      ∙ map-append (λ (p : Bor Term × Bor Term). (p.0.now, p.1.now)) (reverse qs) (q ∷ [])
      ∙ ap (λ xs. xs ++ (q.0.now, q.1.now) ∷ []) (map_reversed qs)
      ∙ sym (reverse-append ((q.0.now, q.1.now) ∷ []) (read_pairs qs))

pub on_err : {X E : Type 0} (P : Type 0) (r : Result X E) → P → OnErr r P
on_err P (Ok x) p = tt
on_err P (Err e) p = p

-- where the first of two branches can't be kept, the ends of the second and of those that wait are left
pub lost_straight : (o : Subsorts) (ws vs us xs : List (Option Branch)) (b straight crossed : Branch) (all : List (List (Variable × Term))) →
    ws ≡ vs ++ Some b ∷ [] → ends_of o straight ++ ends_of o crossed ≡ ends_of o b → us ≡ vs ++ Some crossed ∷ [] → xs ≡ us →
    waiting_ends o (reverse ws) ≡ all → AreLast all (waiting_ends o (reverse xs))
lost_straight o ws vs us xs b straight crossed all e is first stays kept =
    let rest = waiting_ends o (reverse vs) in
    let left : waiting_ends o (reverse xs) ≡ ends_of o crossed ++ rest = ap (λ ys. waiting_ends o (reverse ys)) stays ∙ popped o us vs crossed first in
    let whole : all ≡ (ends_of o straight ++ ends_of o crossed) ++ rest = sym kept ∙ popped o ws vs b e ∙ ap (λ ys. ys ++ rest) (sym is) in
    (ends_of o straight, whole ∙ append_assoc (ends_of o straight) (ends_of o crossed) rest ∙ ap (λ ys. ends_of o straight ++ ys) (sym left))

-- all branches begin as one
pub started : (o : Subsorts) (ps : List (Term × Term)) (s : List (Variable × Term)) (ws : List (Option Branch)) (b : Branch) → ws ≡ Some b ∷ [] → pairs_of b ≡ ps → bound_of b ≡ s →
    waiting_ends o (reverse ws) ≡ after_pairs o ps s
started o ps s ws b e pairs bound =
    ap (λ xs. waiting_ends o (reverse xs)) e ∙ append-nil (ends_of o b) ∙ ap (λ qs. after_pairs o qs (bound_of b)) pairs ∙ ap (after_pairs o ps) bound

pub first_found : (all ends rest : List (List (Variable × Term))) (s : List (Variable × Term)) → ends ≡ all → ends ≡ s ∷ rest → Contains all s
first_found all ends rest s whole found = subst (λ ss. Contains ss s) (sym found ∙ whole) (zero, omega arith, refl)
