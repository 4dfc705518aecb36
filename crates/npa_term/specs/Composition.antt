use Rattle.std.specs.Prelude.{ℕ, min, ◌-◌, ◌^◌, nat_lt, Option, find, filter, map, List, ◌++◌}
use Rattle.std.specs.Option.{is_none}
use Rattle.npa_term.specs.declared.term.Var.{Var as Variable}
use Rattle.npa_term.specs.declared.term.Term.{Term}
use Rattle.npa_term.specs.Bound.{value_of, applied}
use Rattle.npa_term.specs.Canonical.{canonical}
use Rattle.npa_term.specs.Symbols.{symbol_count}

-- The bindings of the variables that a substitution leaves free.
abbrev pub unbound : List (Variable × Term) → List (Variable × Term) → List (Variable × Term)
unbound s bindings = filter (λ b. is_none (value_of s b.0)) bindings

-- The instances of the values under a substitution, each canonical.
abbrev pub instances_under : List (Variable × Term) → List (Variable × Term) →
    List (Variable × Term)
instances_under u bindings = map (λ b. (b.0, canonical (applied u b.1))) bindings

-- The values, each canonical.
abbrev pub canonical_values : List (Variable × Term) → List (Variable × Term)
canonical_values bindings = map (λ b. (b.0, canonical b.1)) bindings

-- The substitution that does `s` and then `u` (Baader, Nipkow 1998, on the composition of
-- substitutions): the variables of `s`, each with the instance of its value under `u`, then the
-- other variables of `u` with their values; each value is canonical.
abbrev pub composed : List (Variable × Term) → List (Variable × Term) →
    List (Variable × Term)
composed s u = instances_under u s ++ canonical_values (unbound s u)

-- How many symbols the first value has that has more than `most`, up to the greatest 64-bit number.
abbrev pub first_past : ℕ → List (Variable × Term) → Option ℕ
first_past most s = find (λ n. nat_lt most n) (map (λ b. min (symbol_count b.1) (2 ^ 64 - 1)) s)
