-- The terms of a strand whose variants are searched for.
use Rattle.std.specs.Prelude.{ℕ, ◌+◌, List, [], ◌∷◌, ◌++◌, length, map}
use Rattle.npa_term.specs.declared.term.Var.{Var as Variable}
use Rattle.npa_term.specs.declared.term.Term.{Term}
use Rattle.npa_term.specs.declared.term.Term.TheVariants.{Var}
use Rattle.npa_sig.specs.declared.protocol.Strand.{Strand}
use Rattle.npa_sig.specs.Parameters.{param_sorts}

-- Variables of these sorts, numbered from `k`.
abbrev pub placed_variables : ℕ → List ℕ → List Variable
placed_variables k [] = []
placed_variables k (s ∷ ss) = record { num = k; sort = s } ∷ placed_variables (k + 1) ss

-- The parameters of a strand, each with the number of its place.
abbrev pub params_of : Strand → List Variable
params_of strand = placed_variables 0 (param_sorts strand)

abbrev pub param_count : Strand → ℕ
param_count strand = length (param_sorts strand)

-- The parameters, and then the messages of the events in their order. So each parameter has its value
-- in the terms of a variant, whether a message uses it or not.
abbrev pub strand_terms : Strand → List Term
strand_terms strand = map Var (params_of strand) ++ map (λ e. e.msg) strand.events

-- Terms with variables of these sorts behind, each with the number of its place among all.
abbrev pub with_params : List Term → List ℕ → List Term
with_params ts sorts = ts ++ map Var (placed_variables (length ts) sorts)
