-- The verdict of the check of convergence, computed: the first fault of an equation, and otherwise the
-- first critical pair that isn't joined or can't be made (Knuth, Bendix 1970; Peterson, Stickel 1981).
use Rattle.std.specs.Prelude.{◌≡◌, ◌+◌, ◌-◌, ◌^◌, ℕ, Bool, true, false, ◌&&◌, cond, min, nat_lt, List, [], ◌∷◌, Option, None, Some, Result, Ok, Err}
use Rattle.std.specs.Option.{option_or}
use Rattle.npa_sorts.specs.Subsorts.{Subsorts, at_or_below}
use Rattle.npa_term.specs.declared.term.Var.{Var as Variable}
use Rattle.npa_term.specs.declared.term.Term.{Term}
use Rattle.npa_term.specs.declared.term.Term.TheVariants.{Var, Name, App'}
use Rattle.npa_term.specs.Bound.{applied}
use Rattle.npa_term.specs.Canonical.{canonical}
use Rattle.npa_term.specs.Computed.{equal}
use Rattle.npa_term.specs.Parts.{least_sort}
use Rattle.npa_term.specs.Symbols.{symbol_count}
use Rattle.npa_term.specs.Variables.{variables, renamed}
use Rattle.npa_sig.specs.declared.protocol.Equation.{Equation}
use Rattle.npa_unify.specs.declared.error.UnifyFail.{UnifyFail}
use Rattle.npa_unify.specs.declared.error.UnifyFail.TheVariants as unify_fail
use Rattle.npa_unify.specs.Answers.{judged, unifiers}
use Rattle.npa_unify.specs.Branches.{has_var}
use Rattle.npa_rewrite.specs.declared.theory.Theory.{Theory}
use Rattle.npa_rewrite.specs.Innermost.{normalized}
use Rattle.npa_conv.specs.declared.error.ConvFail.{ConvFail}
use Rattle.npa_conv.specs.declared.error.ConvFail.TheVariants.{Shape, SortUp, Pair, Unifiers, Symbols, NoMemory}
use Rattle.npa_conv.specs.Overlaps.{hole, holes, base_of, next_of, overlap}

-- the first fault of members, each with its place
abbrev pub first_at : {A : Type 0} → (ℕ → A → Option ConvFail) → ℕ → List A → Option ConvFail
first_at fault at [] = None
first_at fault at (x ∷ xs) = option_or (fault at x) (first_at fault (at + 1) xs)

-- the first fault of members
abbrev pub first_fault : {A : Type 0} → (A → Option ConvFail) → List A → Option ConvFail
first_fault fault [] = None
first_fault fault (x ∷ xs) = option_or (fault x) (first_fault fault xs)

-- whether a term is an application
abbrev pub is_app : Term → Bool
is_app (Var v) = false
is_app (Name n) = false
is_app (App' op n args) = true

-- whether the left side is an application and the right side a variable that occurs in it
abbrev pub are_shaped : Term → Term → Bool
are_shaped t (Var v) = is_app t && has_var (variables t) v
are_shaped t (Name n) = false
are_shaped t (App' op n args) = false

-- The fault of an equation by itself: its shape goes before its sorts.
abbrev pub shape_fault : Subsorts → ℕ → Equation → Option ConvFail
shape_fault o at e =
    cond (are_shaped e.left e.right)
    (cond (at_or_below o (least_sort e.right) (least_sort e.left)) None (Some (SortUp at)))
    (Some (Shape at))

-- A critical pair under a unifier: the instance of the first left side rewrites to both terms, by the
-- first equation at the top, and by the second one at the part that was unified.
abbrev pub from_of : Equation → List (Variable × Term) → Term
from_of i s = canonical (applied s i.left)

abbrev pub left_of : Theory → Equation → List (Variable × Term) → Term
left_of th i s = normalized th (canonical (applied s i.right))

-- the first left side with the second right side in the place of the part
abbrev pub crossing : Equation → Equation → Term → Term
crossing i j around = applied ((hole, renamed (base_of i) j.right) ∷ []) around

abbrev pub right_of : Theory → Term → List (Variable × Term) → Term
right_of th crossed s = normalized th (canonical (applied s crossed))

-- The fault of a critical pair: its term is too large, or its normal forms differ.
abbrev pub pair_fault : Theory → Equation → Term → List (Variable × Term) → Option ConvFail
pair_fault th i crossed s =
    cond (nat_lt 1024 (symbol_count (from_of i s)))
    (Some (Symbols (min (symbol_count (from_of i s)) (2 ^ 64 - 1))))
    (cond (equal (left_of th i s) (right_of th crossed s)) None
    (Some (Pair (from_of i s) (left_of th i s) (right_of th crossed s))))

-- the fault of an overlap of the equations of the places `m` and `n`, which has these unifiers
abbrev pub judged_fault : Theory → ℕ → ℕ → Equation → Term →
    Result (List (List (Variable × Term))) UnifyFail → Option ConvFail
judged_fault th m n i crossed (Ok ss) = first_fault (pair_fault th i crossed) ss
judged_fault th m n i crossed (Err unify_fail.TooMany) = Some (Unifiers m n)
judged_fault th m n i crossed (Err (unify_fail.TooLarge count)) = Some (Symbols count)
judged_fault th m n i crossed (Err unify_fail.NoMemory) = None

-- the fault of the overlap of a part of the equation `i` with the equation `j`, which has the place `n`
abbrev pub overlap_fault : Theory → ℕ → Equation → Term × Term → ℕ → Equation → Option ConvFail
overlap_fault th m i p n j =
    judged_fault th m n i (crossing i j p.1)
    (judged (unifiers th.sig.sorts (overlap i p.0 j) (next_of i j)))

-- the first fault of the overlaps of the equation `i`, which has the place `m`: its parts in the order
-- of the text, each with all equations in their order
abbrev pub pairs_fault : Theory → ℕ → Equation → Option ConvFail
pairs_fault th m i =
    first_fault (λ p. first_at (overlap_fault th m i p) 0 th.equations) (holes i.left)

-- The verdict on a theory.
abbrev pub conv_of : Theory → Option ConvFail
conv_of th =
    option_or (first_at (shape_fault th.sig.sorts) 0 th.equations)
    (first_at (pairs_fault th) 0 th.equations)

-- An answer tells this fault, or that there is none, unless memory was wanting.
abbrev pub Tells : Result (Unit {0}) ConvFail → Option ConvFail → Type 0
Tells (Ok _) fault = fault ≡ None
Tells (Err NoMemory) fault = Unit {0}
Tells (Err (Shape at)) fault = fault ≡ Some (Shape at)
Tells (Err (SortUp at)) fault = fault ≡ Some (SortUp at)
Tells (Err (Pair from left right)) fault = fault ≡ Some (Pair from left right)
Tells (Err (Unifiers m n)) fault = fault ≡ Some (Unifiers m n)
Tells (Err (Symbols count)) fault = fault ≡ Some (Symbols count)
