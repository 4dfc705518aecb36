-- The parameters of a strand, and their values.
use Rattle.std.specs.Prelude.{ℕ, List, [], ◌++◌, Option, None, Some, length, drop, replicate}
use Rattle.npa_term.specs.declared.term.Term.{Term}
use Rattle.npa_sig.specs.declared.protocol.Strand.{Strand}

-- the sorts of a strand's parameters: of its variables, then that of fresh values for each of those
abbrev pub param_sorts : Strand → List ℕ
param_sorts strand = strand.vars ++ replicate strand.fresh 1

-- the values of its fresh parameters, of the values of all its parameters
abbrev pub fresh_terms : Option Strand → List Term → List Term
fresh_terms None args = []
fresh_terms (Some strand) args = drop (length strand.vars) args
