-- Each tree takes a terminal of the text, and each terminal a token.
use Rattle.std.proofs.Common.{◌≡◌, ℕ, zero, suc, ◌≤◌, List, length, length-append, Option, Some, sym, ap, ◌∙◌, arith}
use Rattle.std.specs.Prelude.{slice_get}
use Rattle.npa_syntax.specs.declared.node.Terminal.{Terminal}
use Rattle.npa_syntax.specs.declared.node.Node.{Node, out-roll-Node}
use Rattle.npa_syntax.specs.Grammars.{Piece, Rules, Spells, nothing, without, taking, tree}
use Rattle.npa_syntax.specs.Languages.{Language, IsText}
use Rattle.npa_syntax.specs.Nodes.{children_of}
use Rattle.npa_text.specs.declared.token.Token.{Token}
use Rattle.npa_text.specs.declared.place.Place.{Place}
use Rattle.npa_text.specs.Places.{first_place}
use Rattle.npa_text.specs.Lexing.{Lexes}
use Rattle.npa_text.specs.Parses.{terminals_from}
use Rattle.npa_text.specs.Sizes.{IsFew}
use Rattle.npa_text.proofs.Fronts.{few, terminals_length}

-- a text has no more trees than terminals
trees_fit : {rules : Rules} {ps : List Piece} {ts : List Terminal} {ns : List Node} → Spells rules ps ts ns → length ns ≤ length ts
trees_fit nothing = omega arith
trees_fit (without p ps ts ns needed d) = trees_fit d
trees_fit (taking p ps t body ts us kids ns begins d d') = omega (arith, trees_fit d', length-append ts us)

-- and neither has one of its trees more children
children_fit : {rules : Rules} {ps : List Piece} {ts : List Terminal} {ns : List Node} → Spells rules ps ts ns →
    (k : ℕ) (n : Node) → slice_get ns k ≡ Some n → length (children_of n) ≤ length ts
children_fit nothing k n e = absurd (cc)
children_fit (without p ps ts ns needed d) k n e = children_fit d k n e
children_fit (taking p ps t body ts us kids ns begins d d') zero n e =
    let same : tree p.nonterminal t kids ≡ n = cc in
    let opened = out-roll-Node (record { symbol = p.nonterminal.symbol; head = t; children = kids }) in
    let own : length (children_of n) ≡ length kids = ap (λ m. length (children_of m)) (sym same) ∙ ap (λ layer. length layer.children) opened in
    omega (arith, own, trees_fit d, length-append ts us)
children_fit (taking p ps t body ts us kids ns begins d d') (suc k) n e =
    omega (arith, children_fit d' k n e, length-append ts us)

-- so a text of few bytes has few trees
pub few_trees : (l : Language) (bytes : List ℕ) (tokens given : List Token) (terminals : List Terminal) (broken : Option Place) (nodes : List Node)
    → Lexes 0 first_place bytes tokens broken → given ≡ tokens → terminals ≡ terminals_from 0 bytes given → IsText l terminals nodes
    → length bytes ≤ 1048576 → IsFew nodes
few_trees l bytes tokens given terminals broken nodes d same is text small =
    let fit : length given ≤ 1048576 = few bytes tokens given broken d same small in
    let all : length terminals ≡ length given = ap length is ∙ terminals_length 0 bytes given in
    record {
      trees = omega (arith, trees_fit text, all, fit);
      children = λ k n e. omega (arith, children_fit text k n e, all, fit);
    }
