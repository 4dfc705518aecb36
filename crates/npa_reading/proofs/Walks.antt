-- Nodes are gone over one after another.
use Rattle.std.proofs.Common.{◌≡◌, ℕ, ◌+◌, ◌<◌, ◌==◌, Bool, List, ◌∷◌, ◌++◌, refl, drop, length, get_or, drop-cons, add-one, cond}
use Rattle.npa_syntax.specs.declared.node.Node.{Node}
use Rattle.npa_syntax.specs.Nodes.{symbol_of, children_of}
use Rattle.npa_reading.specs.Trees.{all_with, listed}

pub all_with_step : (symbol : ℕ) (nodes : List Node) (i : ℕ) (d : Node) → i < length nodes →
    all_with symbol (drop i nodes) ≡ cond (symbol_of (get_or nodes i d) == symbol) (get_or nodes i d ∷ all_with symbol (drop (i + 1) nodes)) (all_with symbol (drop (i + 1) nodes))
all_with_step symbol nodes i d l = rw (drop-cons nodes i d, add-one) refl

pub listed_step : (symbol next : ℕ) (nodes : List Node) (i : ℕ) (d : Node) → i < length nodes →
    listed symbol next (drop i nodes) ≡ cond (symbol_of (get_or nodes i d) == symbol) (get_or nodes i d ∷ listed symbol next (drop (i + 1) nodes)) (cond (symbol_of (get_or nodes i d) == next) (all_with symbol (children_of (get_or nodes i d)) ++ listed symbol next (drop (i + 1) nodes)) (listed symbol next (drop (i + 1) nodes)))
listed_step symbol next nodes i d l = rw (drop-cons nodes i d, add-one) refl
