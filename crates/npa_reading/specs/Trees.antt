-- What is read off the syntax trees of a text.
use Rattle.std.specs.Prelude.{ℕ, Bool, ◌==◌, cond, List, [], ◌∷◌, ◌++◌, filter, is_some, map, unwrap_or}
use Rattle.std.specs.Borrow.{Bor}
use Rattle.std.specs.Option.{option_map_or}
use Rattle.npa_syntax.specs.declared.node.Node.{Node}
use Rattle.npa_syntax.specs.Nodes.{symbol_of, head_of, children_of, first_with}
use Rattle.npa_text.specs.declared.token.Token.{Token}
use Rattle.npa_text.specs.Texts.{text_of}
use Rattle.npa_text.specs.declared.token.Raw.{Raw}
use Rattle.npa_text.specs.Raws.{token_at, no_token, raw_of, term_with}

-- the nodes for a nonterminal
abbrev pub all_with : ℕ → List Node → List Node
all_with symbol nodes = filter (λ n. symbol_of n == symbol) nodes

-- the nodes for a nonterminal, where the further ones stand below nodes of their own
abbrev pub listed : ℕ → ℕ → List Node → List Node
listed symbol next [] = []
listed symbol next (n ∷ ns) = cond (symbol_of n == symbol) (n ∷ listed symbol next ns) (cond (symbol_of n == next) (all_with symbol (children_of n) ++ listed symbol next ns) (listed symbol next ns))

-- the nodes behind the first one for a nonterminal
abbrev pub after : ℕ → List Node → List Node
after symbol [] = []
after symbol (n ∷ ns) = cond (symbol_of n == symbol) ns (after symbol ns)

-- whether there is a node for a nonterminal
abbrev pub has : ℕ → List Node → Bool
has symbol nodes = is_some (first_with symbol nodes)

-- the children of the first node for a nonterminal
abbrev pub below : ℕ → List Node → List Node
below symbol nodes = option_map_or children_of (first_with symbol nodes) []

-- the word with which a node begins
abbrev pub word_at : List ℕ → List Token → Node → List ℕ
word_at bytes tokens node = text_of bytes (token_at tokens node)

-- the word with which the first node for a nonterminal begins
abbrev pub word_of : List ℕ → List Token → ℕ → List Node → List ℕ
word_of bytes tokens symbol nodes = option_map_or (word_at bytes tokens) (first_with symbol nodes) []

-- the kind of terminal with which a node begins
abbrev pub kind_of : Node → ℕ
kind_of node = (head_of node).kind

-- nodes behind references
abbrev pub seen : List (Bor Node) → List Node
seen nodes = map (λ n. n.now) nodes

-- the token of the first node for a nonterminal
abbrev pub first_token : List Token → ℕ → List Node → Token
first_token tokens symbol nodes = option_map_or (token_at tokens) (first_with symbol nodes) no_token

-- the term of the first node for one
abbrev pub raw_below : List Token → ℕ → List Node → Raw
raw_below tokens symbol nodes = option_map_or (raw_of tokens) (first_with symbol nodes) (term_with no_token [])

-- the first child of a node for a nonterminal; the node itself where it has none
abbrev pub child_for : ℕ → Node → Node
child_for symbol node = unwrap_or (first_with symbol (children_of node)) node
