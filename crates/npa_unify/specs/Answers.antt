use Rattle.std.specs.Prelude.{ℕ, Bool, nat_le, cond, Option, Some, None, Result, Ok, Err, List, [], ◌∷◌, ◌++◌, map, take, length}
use Rattle.std.specs.List.{list_all, list_any}
use Rattle.npa_sorts.specs.Subsorts.{Subsorts}
use Rattle.npa_term.specs.declared.term.Var.{Var as Variable}
use Rattle.npa_term.specs.declared.term.Term.{Term}
use Rattle.npa_term.specs.Bound.{applied}
use Rattle.npa_term.specs.Canonical.{canonical}
use Rattle.npa_term.specs.Composition.{first_past}
use Rattle.npa_term.specs.Computed.{is_same}
use Rattle.npa_term.specs.Parts.{image}
use Rattle.npa_unify.specs.declared.error.UnifyFail.{UnifyFail}
use Rattle.npa_unify.specs.declared.error.UnifyFail.TheVariants.{TooMany, TooLarge}
use Rattle.npa_unify.specs.Branches.{Branch, ends}

-- The unifiers in the order of the search, and which of them are answered.

-- A term under bindings that are put in one after the other.
abbrev pub resolved : List (Variable × Term) → Term → Term
resolved [] t = t
resolved (b ∷ s) t = resolved s (applied (b ∷ []) t)

-- The substitution that bindings stand for: each value with the later bindings put in, canonical.
abbrev pub finished : List (Variable × Term) → List (Variable × Term)
finished [] = []
finished (b ∷ s) = (b.0, canonical (resolved s b.1)) ∷ finished s

-- The branch that has all pairs to unify and has bound nothing.
abbrev pub started : List (Term × Term) → ℕ → Branch
started ps next = record { pairs = ps; bound = []; next = next }

-- One unifier for each branch that succeeds, in order.
abbrev pub unifiers : Subsorts → List (Term × Term) → ℕ → List (List (Variable × Term))
unifiers o ps next = map (λ b. finished b.bound) (ends o (started ps next))

-- Whether two substitutions have equal terms, modulo commutativity, for each variable that either
-- binds.
abbrev pub same_subst : List (Variable × Term) → List (Variable × Term) → Bool
same_subst s u = list_all (λ b. is_same (image s b.0) (image u b.0)) (s ++ u)

-- The kept substitutions and those that aren't the same as an earlier one.
abbrev pub distinct_after : List (List (Variable × Term)) → List (List (Variable × Term)) →
    List (List (Variable × Term))
distinct_after kept [] = kept
distinct_after kept (s ∷ ss) =
    cond (list_any (same_subst s) kept) (distinct_after kept ss)
    (distinct_after (kept ++ s ∷ []) ss)

-- The substitutions that aren't the same as an earlier one.
abbrev pub distinct : List (List (Variable × Term)) → List (List (Variable × Term))
distinct ss = distinct_after [] ss

-- The first of a list that there is.
abbrev pub first_some : List (Option ℕ) → Option ℕ
first_some [] = None
first_some (None ∷ os) = first_some os
first_some (Some n ∷ os) = Some n

-- The size of the first value that has more than 1,024 symbols, among those of the first 4,097
-- unifiers.
abbrev pub first_large : List (List (Variable × Term)) → Option ℕ
first_large ss = first_some (map (first_past 1024) (take 4097 ss))

-- What unification answers of all unifiers: that a value is too large, then that there are more
-- than 4,096, and otherwise those that differ.
abbrev pub judged_as : Option ℕ → List (List (Variable × Term)) →
    Result (List (List (Variable × Term))) UnifyFail
judged_as (Some n) ss = Err (TooLarge n)
judged_as None ss = cond (nat_le 4097 (length ss)) (Err TooMany) (Ok (distinct ss))

abbrev pub judged : List (List (Variable × Term)) →
    Result (List (List (Variable × Term))) UnifyFail
judged ss = judged_as (first_large ss) ss
