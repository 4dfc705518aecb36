-- The search for the variants of terms as a function that computes: folding variant narrowing, level by
-- level, at a row's own applications alone (Escobar, Sasse, Meseguer 2012).
use Rattle.std.specs.Prelude.{ℕ, zero, suc, max, min, ◌+◌, ◌-◌, ◌^◌, Bool, not, cond, nat_lt, Option, Some, None, Result, Ok, Err, List, [], ◌∷◌, ◌++◌, length, map, take, drop, filter, find}
use Rattle.std.specs.List.{flat_map, list_all, list_any}
use Rattle.npa_sorts.specs.Subsorts.{Subsorts}
use Rattle.npa_term.specs.declared.term.Var.{Var as Variable}
use Rattle.npa_term.specs.declared.term.Term.{Term}
use Rattle.npa_term.specs.declared.term.Term.TheVariants.{Var}
use Rattle.npa_term.specs.Bound.{applied}
use Rattle.npa_term.specs.Canonical.{canonical}
use Rattle.npa_term.specs.Numbering.{renumbered, variables_once}
use Rattle.npa_term.specs.Symbols.{symbol_count}
use Rattle.npa_term.specs.Variables.{variables, renamed}
use Rattle.npa_sig.specs.declared.protocol.Equation.{Equation}
use Rattle.npa_unify.specs.declared.error.UnifyFail.{UnifyFail}
use Rattle.npa_unify.specs.declared.error.UnifyFail.TheVariants as unify_fail
use Rattle.npa_unify.specs.Answers.{judged, unifiers as all_unifiers}
use Rattle.npa_rewrite.specs.declared.theory.Theory.{Theory}
use Rattle.npa_rewrite.specs.Innermost.{normalized}
use Rattle.npa_rewrite.specs.Normal.{is_normal_by}
use Rattle.npa_variants.specs.Rows.{Row, own_parts, covers_row}

-- The kept rows in the order in which they were found: those of earlier levels, and those of this one.
pub record Kept : Type 0 where
  pub old : List Row
  pub new : List Row

abbrev pub rows : Kept → List Row
rows k = k.old ++ k.new

-- Why the search stops: too many rows are kept, these; a problem has too many unifiers; or a term has
-- too many symbols, so many.
pub data Stop : Type 0 where
  too_many : List Row → Stop
  unifiers : Stop
  symbols : ℕ → Stop

-- What is done after a search that may have stopped.
abbrev pub followed : {S T : Type 0} → Result S Stop → (S → Result T Stop) → Result T Stop
followed (Ok k) f = f k
followed (Err s) f = Err s

-- What is done with each of a list, one after the other, until one stops.
abbrev pub folded : {X S : Type 0} → (X → S → Result S Stop) → List X → S → Result S Stop
folded f [] k = Ok k
folded f (x ∷ xs) k = followed (f x k) (folded f xs)

-- Whether one of these rows covers a row, and those that a row doesn't cover.
abbrev pub is_covered : Subsorts → List Row → Row → Bool
is_covered o rs w = list_any (λ r. covers_row o r w) rs

abbrev pub uncovered : Subsorts → Row → List Row → List Row
uncovered o w rs = filter (λ r. not (covers_row o w r)) rs

-- A row is kept, and those that it covers are dropped.
abbrev pub with_row : Subsorts → Row → Kept → Kept
with_row o w k = record { old = uncovered o w k.old; new = uncovered o w k.new ++ w ∷ [] }

-- The search stops at the moment when more than `most` rows are kept.
abbrev pub few : ℕ → Kept → Result Kept Stop
few most k = cond (nat_lt most (length (rows k))) (Err (too_many (rows k))) (Ok k)

-- A row is placed: where a kept one covers it, it isn't kept.
abbrev pub placed : ℕ → Subsorts → Row → Kept → Result Kept Stop
placed most o w k = cond (is_covered o (rows k) w) (Ok k) (few most (with_row o w k))

-- How many symbols the first term has that has more than 1,024, up to the greatest 64-bit number.
abbrev pub first_large : List Term → Option ℕ
first_large ts = find (λ n. nat_lt 1024 n) (map (λ t. min (symbol_count t) (2 ^ 64 - 1)) ts)

abbrev pub sized : {S : Type 0} → Option ℕ → Result S Stop → Result S Stop
sized (Some n) r = Err (symbols n)
sized None r = r

-- The values of a row under a unifier, and the row that comes of it: the terms are put in normal form
-- and the variables numbered anew.
abbrev pub values_under : ℕ → Row → List (Variable × Term) → List Term
values_under m row θ = map (λ t. canonical (applied θ t)) (take m row)

abbrev pub result_of : Theory → ℕ → Row → List (Variable × Term) → Row
result_of th m row θ = renumbered (values_under m row θ ++ map (λ t. normalized th (canonical (applied θ t))) (drop m row))

abbrev pub are_normal : Theory → List Term → Bool
are_normal th ts = list_all (is_normal_by (normalized th)) ts

-- One unifier: the values and the terms are measured, a result whose values aren't normal isn't kept,
-- and any other is placed.
abbrev pub by_unifier : ℕ → Theory → ℕ → Row → List (Variable × Term) → Kept → Result Kept Stop
by_unifier most th m row θ k = sized (first_large (map (applied θ) row))
    (cond (are_normal th (values_under m row θ)) (placed most th.sig.sorts (result_of th m row θ) k) (Ok k))

-- A number past those of variables.
abbrev pub past : List Variable → ℕ
past [] = 0
past (v ∷ vs) = max (suc v.num) (past vs)

-- The unifiers of two terms that share no variable, as `unify` answers them.
abbrev pub as_stop : Result (List (List (Variable × Term))) UnifyFail → Result (List (List (Variable × Term))) Stop
as_stop (Ok ss) = Ok ss
as_stop (Err unify_fail.TooMany) = Err unifiers
as_stop (Err (unify_fail.TooLarge n)) = Err (symbols n)
as_stop (Err unify_fail.NoMemory) = Err unifiers

abbrev pub unified : Subsorts → Term → Term → ℕ → Result (List (List (Variable × Term))) Stop
unified o t u next = as_stop (judged (all_unifiers o ((t, u) ∷ []) next))

-- The unifiers of an application of a row with an equation's left side, whose variables are numbered
-- past the row's.
abbrev pub unifiers_at : Theory → Row → Term → Equation → Result (List (List (Variable × Term))) Stop
unifiers_at th row u e =
    let base = past (flat_map variables row) in
    unified th.sig.sorts u (renamed base e.left) (base + past (variables e.left))

-- One equation at one application, one application, one row, and the rows of one level.
abbrev pub by_equation : ℕ → Theory → ℕ → Row → Term → Equation → Kept → Result Kept Stop
by_equation most th m row u e k = followed (unifiers_at th row u e) (λ θs. folded (by_unifier most th m row) θs k)

abbrev pub by_part : ℕ → Theory → ℕ → Row → Term → Kept → Result Kept Stop
by_part most th m row u k = folded (by_equation most th m row u) th.equations k

abbrev pub by_row : ℕ → Theory → ℕ → Row → Kept → Result Kept Stop
by_row most th m row k = folded (by_part most th m row) (own_parts m row) k

abbrev pub level : ℕ → Theory → ℕ → List Row → Kept → Result Kept Stop
level most th m rs k = folded (by_row most th m) rs k

-- A level begins: what is kept is old.
abbrev pub begun : Kept → Kept
begun k = record { old = rows k; new = [] }

-- The end comes where the last level kept nothing new.
abbrev pub unless_ended : {X S : Type 0} → List X → S → S → S
unless_ended [] ended more = ended
unless_ended (w ∷ ws) ended more = more

-- So many levels, from those that are kept; `last` tells what is answered where there are more.
abbrev pub searched : ℕ → (Kept → Result (List Row) Stop) → Theory → ℕ → ℕ → Kept → Result (List Row) Stop
searched most last th m zero k = last k
searched most last th m (suc n) k =
    unless_ended k.new (Ok k.old) (followed (level most th m k.new (begun k)) (searched most last th m n))

-- The variants of a first row whose first `m` members are values, of which at most `most` are kept. No
-- row has a result after so many levels as the first one has own applications.
abbrev pub variant_rows : ℕ → Theory → ℕ → Row → Result (List Row) Stop
variant_rows most th m row =
    searched most (λ k. Ok (rows k)) th m (length (own_parts m row)) (record { old = []; new = row ∷ [] })

-- The first row of terms: their variables, each once in the order in which they first occur, and the
-- terms in normal form.
abbrev pub start_row : Theory → List Variable → List Term → Row
start_row th vs terms = map Var vs ++ map (normalized th) terms

-- The variants of terms, as rows, of which at most 64 are kept.
abbrev pub variants_of : Theory → List Term → Result (List Row) Stop
variants_of th terms =
    variant_rows 64 th (length (variables_once terms)) (start_row th (variables_once terms) terms)
