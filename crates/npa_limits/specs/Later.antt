-- The items of a text, and those that aren't read so far: grammars.
use Rattle.std.specs.Prelude.{ℕ, Bool, ◌==◌, List, Option}
use Rattle.std.specs.Option.{option_map}
use Rattle.std.specs.List.{find}
use Rattle.npa_syntax.specs.declared.node.Node.{Node}
use Rattle.npa_text.specs.declared.token.Token.{Token}
use Rattle.npa_text.specs.declared.terminals.TheConstants.{GRAMMAR}
use Rattle.npa_text.specs.declared.symbols.TheConstants.{MODULE, ITEM}
use Rattle.npa_text.specs.Raws.{token_at}
use Rattle.npa_reading.specs.Trees.{all_with, below, kind_of}

-- the items of a module's trees
abbrev pub items_of : List Node → List Node
items_of nodes = all_with ITEM (below MODULE nodes)

abbrev pub is_later : Node → Bool
is_later item = kind_of item == GRAMMAR

abbrev pub place_of : List Token → Node → ℕ × ℕ
place_of tokens node = ((token_at tokens node).line, (token_at tokens node).col)

-- the place of the first item that is a grammar
abbrev pub later_of : List Token → List Node → Option (ℕ × ℕ)
later_of tokens nodes = option_map (place_of tokens) (find is_later (items_of nodes))
