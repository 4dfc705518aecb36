-- Which nodes the pieces of a production have, for those who read trees.
use Rattle.std.proofs.Common.{◌≡◌, true, false, List, ◌∷◌, Some, refl, sym, ap, ◌∙◌, subst, subst₂, ◌⊎◌, inl, inr, ⊎_elim}
use Rattle.npa_syntax.specs.declared.node.Terminal.{Terminal}
use Rattle.npa_syntax.specs.declared.node.Node.{Node, out-roll-Node}
use Rattle.npa_syntax.specs.Grammars.{Piece, Rules, Spells, nothing, without, taking, is_needed, leaving, tree}
use Rattle.npa_syntax.specs.Nodes.{symbol_of, head_of, children_of}

-- The first piece is the first node: for its nonterminal, by the production that the node's
-- terminal begins, with that production's nodes as children; the rest of the nodes are the rest.
pub record Taken (rules : Rules) (p : Piece) (ps : List Piece) (nodes : List Node) : Type 0 where
  pub node : Node
  pub rest : List Node
  pub body : List Piece
  pub inside : List Terminal
  pub later : List Terminal
  pub all : nodes ≡ node ∷ rest
  pub symbol : symbol_of node ≡ p.nonterminal.symbol
  pub begins : rules p.nonterminal (head_of node).kind ≡ Some body
  pub below : Spells rules body inside (children_of node)
  pub others : Spells rules (leaving p ps) later rest

taken : (rules : Rules) (p : Piece) (ps : List Piece) (t : Terminal) (body : List Piece) (ts us : List Terminal) (kids ns : List Node)
    → rules p.nonterminal t.kind ≡ Some body → Spells rules body ts kids → Spells rules (leaving p ps) us ns → Taken rules p ps (tree p.nonterminal t kids ∷ ns)
taken rules p ps t body ts us kids ns begins d d' =
    let opened = out-roll-Node (record { symbol = p.nonterminal.symbol; head = t; children = kids }) in
    record {
      node = tree p.nonterminal t kids;
      rest = ns;
      body = body;
      inside = ts;
      later = us;
      all = refl;
      symbol = ap (λ layer. layer.symbol) opened;
      begins = ap (λ layer. rules p.nonterminal layer.head.kind) opened ∙ begins;
      below = subst (λ layer. Spells rules body ts layer.children) (sym opened) d;
      others = d';
    }

-- the first piece is left out, or it is the first node
pub first_piece : {rules : Rules} {xs : List Piece} {ts : List Terminal} {ns : List Node} → Spells rules xs ts ns
    → (p : Piece) (ps : List Piece) → xs ≡ p ∷ ps → ((is_needed p.occurs ≡ false) × Spells rules ps ts ns) ⊎ Taken rules p ps ns
first_piece nothing p ps e = absurd (cc)
first_piece {rules = rules} (without q qs ts ns needed d) p ps e =
    let same : q ≡ p = cc in let rest : qs ≡ ps = cc in
    inl (ap (λ x. is_needed x.occurs) (sym same) ∙ needed, subst (λ xs. Spells rules xs ts ns) rest d)
first_piece {rules = rules} (taking q qs t body ts us kids ns begins d d') p ps e =
    let same : q ≡ p = cc in let rest : qs ≡ ps = cc in
    inr (subst₂ (λ x xs. Taken rules x xs (tree q.nonterminal t kids ∷ ns)) same rest (taken rules q qs t body ts us kids ns begins d d'))

-- a needed piece is the first node
pub needed_piece : {rules : Rules} (p : Piece) (ps : List Piece) {ts : List Terminal} {ns : List Node} → Spells rules (p ∷ ps) ts ns
    → is_needed p.occurs ≡ true → Taken rules p ps ns
needed_piece {rules = rules} p ps {ns = ns} d needed =
    ⊎_elim (λ x. let clash : true ≡ false = sym needed ∙ x.0 in absurd (cc)) (λ x. x) (first_piece d p ps refl)
