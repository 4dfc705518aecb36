-- Laws of functions of a whole syntax tree.
use Rattle.std.proofs.Common.{◌≡◌, ℕ, List, map, ap, ◌∙◌}
use mathlib.Core.Former.{this, arity}
use Rattle.npa_list.specs.formers.list.List.{the_former}
use Rattle.npa_syntax.specs.declared.node.Terminal.{Terminal}
use Rattle.npa_syntax.specs.declared.node.Node.{Node, Node', outs-Node', Row_of-Node, items-the_row-Node, items_shown-the_row-Node-0}
use Rattle.npa_syntax.specs.declared.node.Node.TheFolds.{fold_out-Node}
use Rattle.npa_syntax.specs.Nodes.{symbol_of, head_of, children_of, fold_node}

-- what a fold gives at a node
pub fold_node_at : {A : Type 0} (step : ℕ → Terminal → List A → A) (n : Node)
    → fold_node step n ≡ step (symbol_of n) (head_of n) (map (fold_node step) (children_of n))
fold_node_at {A} step n = fold_out-Node A (λ layer. step layer.symbol layer.head layer.children) n

-- A node as its constructor has it, for definitions that match on nodes and on rows of children.
module _ (symbol : ℕ) (head : Terminal) (shape : (the_former (this {0})).Shape) (row : Row_of-Node (arity (the_former (this {0})) shape)) where
  pub symbol_made : symbol_of (Node' symbol head shape row) ≡ symbol
  symbol_made = ap (λ layer. layer.symbol) (outs-Node' symbol head shape row)

  pub head_made : head_of (Node' symbol head shape row) ≡ head
  head_made = ap (λ layer. layer.head) (outs-Node' symbol head shape row)

  pub children_made : children_of (Node' symbol head shape row) ≡ items-the_row-Node (arity (the_former (this {0})) shape) row
  children_made = ap (λ layer. layer.children) (outs-Node' symbol head shape row) ∙ items_shown-the_row-Node-0 shape row
