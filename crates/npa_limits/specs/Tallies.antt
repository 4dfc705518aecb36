-- The parts of an aim, gone over one after another.
use Rattle.std.specs.Prelude.{◌+◌, ◌==◌, nat_lt, true, false, cond, List, [], ◌∷◌, Some, None}
use Rattle.std.specs.Option.{option_or}
use Rattle.npa_syntax.specs.declared.node.Node.{Node}
use Rattle.npa_syntax.specs.Nodes.{symbol_of, children_of}
use Rattle.npa_text.specs.declared.symbols.TheConstants as symbol
use Rattle.npa_limits.specs.declared.limits.Tally.{Tally}
use Rattle.npa_reading.specs.Trees.{all_with}
use Rattle.npa_limits.specs.Limits.{saturated, is_known}

-- the numbers of parts so far, and the kind of which there were too many first
abbrev pub with_part : Tally → Node → Tally
with_part t p =
    cond (is_known p)
    (record { strands = t.strands; known = saturated (t.known + 1); first = option_or t.first (cond (nat_lt 64 (t.known + 1)) (Some true) None) })
    (record { strands = saturated (t.strands + 1); known = t.known; first = option_or t.first (cond (nat_lt 32 (t.strands + 1)) (Some false) None) })

abbrev pub tallied : Tally → List Node → Tally
tallied t [] = t
tallied t (p ∷ ps) = tallied (with_part t p) ps

-- the parts so far and those that a node is, or has below it
abbrev pub with_node : Tally → Node → Tally
with_node t n =
    cond (symbol_of n == symbol.PART) (with_part t n)
    (cond (symbol_of n == symbol.NEXT_PART) (tallied t (all_with symbol.PART (children_of n))) t)
