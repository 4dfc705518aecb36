-- The terms of a text, read off its syntax trees.
use Rattle.std.specs.Prelude.{ℕ, Bool, ◌==◌, ◌||◌, cond, List, [], ◌∷◌, ◌++◌, map, get_or}
use Rattle.npa_syntax.specs.declared.node.Terminal.{Terminal}
use Rattle.npa_syntax.specs.declared.node.Node.{Node}
use Rattle.npa_syntax.specs.Nodes.{head_of, children_of, fold_node}
use Rattle.npa_text.specs.declared.symbols.TheConstants.{TERM, GROUND}
use Rattle.npa_text.specs.declared.token.Kind.TheVariants.{Word}
use Rattle.npa_text.specs.declared.token.Token.{Token}
use Rattle.npa_text.specs.declared.token.Raw.{Raw, roll-Raw}

-- what stands for the token of a place at which there is none
abbrev pub no_token : Token
no_token = record { kind = Word; start = 0; end = 0; line = 1; col = 1 }

-- the token of a terminal
abbrev pub token_of : List Token → Terminal → Token
token_of tokens t = get_or tokens t.at no_token

-- the token with which a node begins
abbrev pub token_at : List Token → Node → Token
token_at tokens node = token_of tokens (head_of node)

-- whether a nonterminal is that of terms, or of ground terms
abbrev pub is_term : ℕ → Bool
is_term symbol = symbol == TERM || symbol == GROUND

-- the term with this word in front of these arguments
abbrev pub term_with : Token → List Raw → Raw
term_with head args = roll-Raw (record { head = head; args = args })

-- the lists one behind another
abbrev pub joined : List (List Raw) → List Raw
joined [] = []
joined (terms ∷ more) = terms ++ joined more

-- what a node stands for where its children stand for these
abbrev pub terms_over : List Token → ℕ → Terminal → List (List Raw) → List Raw
terms_over tokens symbol head below = cond (is_term symbol) (term_with (token_of tokens head) (joined below) ∷ []) (joined below)

-- The terms that a node stands for, in the order of the text: a term is one, and any other node stands
-- for the terms of its children, as a bracket does, or a comma with a further argument.
abbrev pub terms_in : List Token → Node → List Raw
terms_in tokens node = fold_node (terms_over tokens) node

-- the terms that nodes stand for, in order
abbrev pub terms_of : List Token → List Node → List Raw
terms_of tokens nodes = joined (map (terms_in tokens) nodes)

-- The term that a node begins: its word, and the terms that its children stand for as arguments.
abbrev pub raw_of : List Token → Node → Raw
raw_of tokens node = term_with (token_at tokens node) (terms_of tokens (children_of node))
