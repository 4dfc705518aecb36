-- What is read off a syntax tree.
use Rattle.std.specs.Prelude.{ℕ, ◌==◌, List, Option}
use Rattle.std.specs.List.{find}
use Rattle.std.specs.Option.{option_map}
use Rattle.npa_syntax.specs.declared.node.Terminal.{Terminal}
use Rattle.npa_syntax.specs.declared.node.Node.{Node, out-Node}
use Rattle.npa_syntax.specs.declared.node.Node.TheFolds.{fold-Node}

abbrev pub symbol_of : Node → ℕ
symbol_of n = (out-Node n).symbol

abbrev pub head_of : Node → Terminal
head_of n = (out-Node n).head

abbrev pub children_of : Node → List Node
children_of n = (out-Node n).children

-- the first of the nodes that is for this nonterminal
abbrev pub first_with : ℕ → List Node → Option Node
first_with symbol nodes = find (λ n. symbol_of n == symbol) nodes

-- the terminal with which it begins
abbrev pub first_head : ℕ → List Node → Option Terminal
first_head symbol nodes = option_map head_of (first_with symbol nodes)

-- a function of a whole tree, by what a node gives once its children have given theirs
abbrev pub fold_node : {A : Type 0} → (ℕ → Terminal → List A → A) → Node → A
fold_node {A} step = fold-Node A (λ layer. step layer.symbol layer.head layer.children)
