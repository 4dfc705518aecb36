-- What comes of a move by a unifier.
use Rattle.std.specs.Prelude.{ℕ, ◌+◌, ◌^◌, ◌-◌, min, Bool, cond, not, nat_lt, Option, None, Some, List, [], ◌∷◌, ◌++◌, length, map, zip}
use Rattle.std.specs.List.{flat_map, list_any}
use Rattle.std.specs.Option.{option_or}
use Rattle.fold_core.specs.declared.error.Measure.{Measure}
use Rattle.fold_core.specs.declared.error.Measure.TheVariants.{Strands, Facts, Symbols}
use Rattle.npa_term.specs.declared.term.Var.{Var as Variable}
use Rattle.npa_term.specs.declared.term.Term.{Term}
use Rattle.npa_term.specs.declared.term.Term.TheVariants.{Var}
use Rattle.npa_term.specs.Bound.{applied}
use Rattle.npa_term.specs.Canonical.{canonical}
use Rattle.npa_term.specs.Computed.{is_same}
use Rattle.npa_term.specs.Numbering.{numbering}
use Rattle.npa_model.specs.declared.pattern.PStrand.{PStrand}
use Rattle.npa_model.specs.declared.pattern.Pattern.{Pattern}
use Rattle.npa_model.specs.Patterns.{map_pattern, pattern_symbols}

-- Whether a unifier makes the members of none of these pairs equal, up to the order of commutative
-- arguments.
abbrev pub keeps_apart : List (Term × Term) → List (Variable × Term) → Bool
keeps_apart pairs s = not (list_any (λ p. is_same (applied s p.0) (applied s p.1)) pairs)

-- The facts that were kept, and each further one that equals none before it.
abbrev pub kept_after : List Term → List Term → List Term
kept_after kept [] = kept
kept_after kept (t ∷ ts) = cond (list_any (is_same t) kept) (kept_after kept ts) (kept_after (kept ++ t ∷ []) ts)

-- Facts, each once, at its first place.
abbrev pub kept_once : List Term → List Term
kept_once ts = kept_after [] ts

-- A pattern whose facts are kept once.
abbrev pub without_twice : Pattern → Pattern
without_twice g = record { strands = g.strands; known = kept_once g.known; unknown = kept_once g.unknown }

-- A term under a substitution, in canonical form.
abbrev pub instance_of : List (Variable × Term) → Term → Term
instance_of s t = canonical (applied s t)

-- A pattern under a unifier, and the values that it has for these variables.
pub record Draft : Type 0 where
  pub pattern : Pattern
  pub values : List Term

abbrev pub draft_of : List Variable → Pattern → List (Variable × Term) → Draft
draft_of vs from s = record {
  pattern = without_twice (map_pattern (instance_of s) from);
  values = map (λ v. instance_of s (Var v)) vs;
}

-- A count past its limit.
abbrev pub past_limit : ℕ → Measure → ℕ → Option (Measure × ℕ)
past_limit most measure n = cond (nat_lt most n) (Some (measure, min n (2 ^ 64 - 1))) None

-- The first measure of a pattern that is past its limit, with what it is.
abbrev pub excess : Pattern → Option (Measure × ℕ)
excess g =
    option_or (past_limit 32 Strands (length g.strands))
    (option_or (past_limit 64 Facts (length g.known + length g.unknown))
    (past_limit 1024 Symbols (pattern_symbols g)))

-- The terms of a strand, and of a pattern, in their order.
abbrev pub strand_terms : PStrand → List Term
strand_terms p = p.args ++ p.msgs

abbrev pub pattern_terms : Pattern → List Term
pattern_terms g = flat_map strand_terms g.strands ++ (g.known ++ g.unknown)

-- The numbers that a draft's variables get: first those of the pattern, as they occur, then the others
-- of the values.
abbrev pub new_numbers : Draft → List (Variable × Term)
new_numbers d = numbering (pattern_terms d.pattern ++ d.values)

-- A result: the label of the move, the value of each variable, and the pattern, in new numbers.
pub record Found (L : Type 0) : Type 0 where
  pub label : L
  pub unifier : List (Variable × Term)
  pub pattern : Pattern

abbrev pub found_of : {L : Type 0} → L → List Variable → Draft → Found L
found_of label vs d = record {
  label = label;
  unifier = zip vs (map (instance_of (new_numbers d)) d.values);
  pattern = map_pattern (instance_of (new_numbers d)) d.pattern;
}
