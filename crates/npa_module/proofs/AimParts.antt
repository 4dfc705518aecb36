-- An aim of a module text has a part, since the grammar asks for one.
use Rattle.std.proofs.Common.{◌≡◌, ℕ, zero, suc, ◌+◌, ◌≤◌, ◌==◌, Bool, true, false, cond, List, [], ◌∷◌, ◌++◌, Some, map, length, refl, ap, sym, ◌∙◌, subst, arith, length-append, ◌⊎◌, inl, inr}
use Rattle.std.specs.Prelude.{slice_get}
use Rattle.std.specs.Option.{option_map_or}
use Rattle.npa_syntax.specs.declared.production.Occurrence.TheVariants.{Once, Optional, Repeated}
use Rattle.npa_syntax.specs.declared.production.Part.{Part as GrammarPart}
use Rattle.npa_syntax.specs.declared.node.Terminal.{Terminal}
use Rattle.npa_syntax.specs.declared.node.Node.{Node, out-roll-Node}
use Rattle.npa_syntax.specs.Grammars.{Nonterminal, Piece, Rules, Spells, nothing, without, taking, is_needed, is_repeated, leaving, tree}
use Rattle.npa_syntax.specs.Nodes.{symbol_of, head_of, children_of, first_with}
use Rattle.npa_syntax.specs.Tables.{piece}
use Rattle.npa_syntax.specs.Languages.{rules_in}
use Rattle.npa_text.specs.declared.symbols.TheConstants as symbol
use Rattle.npa_text.specs.declared.terminals.TheConstants as terminal
use Rattle.npa_text.specs.declared.token.Token.{Token}
use Rattle.npa_text.specs.Languages.{module_language}
use Rattle.npa_text.specs.Parses.{IsParse}
use Rattle.npa_reading.specs.Trees.{all_with, listed, below}
use Rattle.npa_limits.specs.Later.{items_of}
use Rattle.npa_module.proofs.Formed.{EachOf}
use Rattle.npa_module.proofs.FormedModules.{HasParts, AllHaveParts}

-- one of the nodes is for this nonterminal
abbrev pub Somewhere : ℕ → List Node → Type 0
Somewhere s [] = ⊥
Somewhere s (n ∷ ns) = (symbol_of n ≡ s) ⊎ Somewhere s ns

tree_symbol : (n : Nonterminal) (t : Terminal) (kids : List Node) → symbol_of (tree n t kids) ≡ n.symbol
tree_symbol n t kids = ap (λ layer. layer.symbol) (out-roll-Node (record { symbol = n.symbol; head = t; children = kids }))

tree_head : (n : Nonterminal) (t : Terminal) (kids : List Node) → head_of (tree n t kids) ≡ t
tree_head n t kids = ap (λ layer. layer.head) (out-roll-Node (record { symbol = n.symbol; head = t; children = kids }))

tree_children : (n : Nonterminal) (t : Terminal) (kids : List Node) → children_of (tree n t kids) ≡ kids
tree_children n t kids = ap (λ layer. layer.children) (out-roll-Node (record { symbol = n.symbol; head = t; children = kids }))

-- a needed piece has a node
pub needed_there : {rules : Rules} {ps : List Piece} {ts : List Terminal} {ns : List Node} → Spells rules ps ts ns →
    (front : List Piece) (p : Piece) (back : List Piece) → ps ≡ front ++ p ∷ back → is_needed p.occurs ≡ true → Somewhere p.nonterminal.symbol ns
needed_there nothing [] p back e needed = absurd (cc)
needed_there nothing (f ∷ front) p back e needed = absurd (cc)
needed_there (without q qs ts ns optional d) [] p back e needed =
    let same : q ≡ p = cc in
    let clash : false ≡ true = sym optional ∙ ap (λ (x : Piece). is_needed x.occurs) same ∙ needed in
    absurd (cc)
needed_there (without q qs ts ns optional d) (f ∷ front) p back e needed =
    let rest : qs ≡ front ++ p ∷ back = cc in
    needed_there d front p back rest needed
needed_there (taking q qs t body ts us kids ns begins d d') [] p back e needed =
    let same : q ≡ p = cc in
    inl (tree_symbol q.nonterminal t kids ∙ ap (λ (x : Piece). x.nonterminal.symbol) same)
needed_there (taking q qs t body ts us kids ns begins d d') (f ∷ front) p back e needed =
    inr (split (is_repeated q.occurs) refl (λ g h. needed_there d' g p back h needed))
  where
    split : (b : Bool) → is_repeated q.occurs ≡ b → ((g : List Piece) → leaving q qs ≡ g ++ p ∷ back → Somewhere p.nonterminal.symbol ns) → Somewhere p.nonterminal.symbol ns
    split true is rest = rest (f ∷ front) (ap (λ b. cond b (q ∷ qs) qs) is ∙ e)
    split false is rest = let tail : qs ≡ front ++ p ∷ back = cc in rest front (ap (λ b. cond b (q ∷ qs) qs) is ∙ tail)

pub listed_some : (s next : ℕ) (ns : List Node) → Somewhere s ns → 1 ≤ length (listed s next ns)
listed_some s next [] w = absurd w
listed_some s next (n ∷ ns) w = split (symbol_of n == s) refl (symbol_of n == next) w (λ v. listed_some s next ns v)
  where
    equal : (i j : ℕ) → i ≡ j → (i == j) ≡ true
    equal i j q = grind arith

    split : (b : Bool) → (symbol_of n == s) ≡ b → (c : Bool) → (symbol_of n ≡ s) ⊎ Somewhere s ns → (Somewhere s ns → 1 ≤ length (listed s next ns)) →
        1 ≤ length (cond b (n ∷ listed s next ns) (cond c (all_with s (children_of n) ++ listed s next ns) (listed s next ns)))
    split true is c v rest = omega arith
    split false is c (inl e) rest = let clash : true ≡ false = sym (equal (symbol_of n) s e) ∙ is in absurd (cc)
    split false is true (inr v) rest =
        let long : length (all_with s (children_of n) ++ listed s next ns) ≡ length (all_with s (children_of n)) + length (listed s next ns) = length-append (all_with s (children_of n)) (listed s next ns) in
        let more = rest v in
        omega (arith, long, more)
    split false is false (inr v) rest = rest v

-- what a node of a text has: a production for its nonterminal, and its children by that
pub record IsNode (rules : Rules) (n : Node) : Type 0 where
  pub room : ℕ
  pub body : List Piece
  pub terminals : List Terminal
  pub begins : rules (record { symbol = symbol_of n; room = room }) (head_of n).kind ≡ Some body
  pub spells : Spells rules body terminals (children_of n)

pub each_node : {rules : Rules} {ps : List Piece} {ts : List Terminal} {ns : List Node} → Spells rules ps ts ns → EachOf (IsNode rules) ns
each_node nothing = tt
each_node (without p ps ts ns optional d) = each_node d
each_node {rules = rules} (taking p ps t body ts us kids ns begins d d') = (
  record {
    room = p.nonterminal.room;
    body = body;
    terminals = ts;
    begins =
        ap (λ (s : ℕ). rules (record { symbol = s; room = p.nonterminal.room }) (head_of (tree p.nonterminal t kids)).kind) (tree_symbol p.nonterminal t kids)
        ∙ ap (λ (h : Terminal). rules p.nonterminal h.kind) (tree_head p.nonterminal t kids) ∙ begins;
    spells = subst (λ (k : List Node). Spells rules body ts k) (sym (tree_children p.nonterminal t kids)) d;
  },
  each_node d',
)

pub below_each : (rules : Rules) (s : ℕ) (ns : List Node) → EachOf (IsNode rules) ns → EachOf (IsNode rules) (below s ns)
below_each rules s [] each = tt
below_each rules s (n ∷ ns) each = split (symbol_of n == s) (below_each rules s ns each.1)
  where
    split : (b : Bool) → EachOf (IsNode rules) (option_map_or children_of (first_with s ns) []) → EachOf (IsNode rules) (option_map_or children_of (cond b (Some n) (first_with s ns)) [])
    split true rest = each_node each.0.spells
    split false rest = rest

-- a node for this nonterminal
pub record IsItem (rules : Rules) (n : Node) : Type 0 where
  pub node : IsNode rules n
  pub symbol_is : (symbol_of n == symbol.ITEM) ≡ true

pub items_each : (rules : Rules) (ns : List Node) → EachOf (IsNode rules) ns → EachOf (IsItem rules) (all_with symbol.ITEM ns)
items_each rules [] each = tt
items_each rules (n ∷ ns) each = split (symbol_of n == symbol.ITEM) refl (items_each rules ns each.1)
  where
    split : (b : Bool) → (symbol_of n == symbol.ITEM) ≡ b → EachOf (IsItem rules) (all_with symbol.ITEM ns) → EachOf (IsItem rules) (cond b (n ∷ all_with symbol.ITEM ns) (all_with symbol.ITEM ns))
    split true is rest = (record { node = each.0; symbol_is = is }, rest)
    split false is rest = rest

pub got_item : (P : Node → Type 0) (ns : List Node) → EachOf P ns → (k : ℕ) (n : Node) → slice_get ns k ≡ Some n → P n
got_item P [] each k n e = absurd (cc)
got_item P (x ∷ ns) each zero n e = let q : x ≡ n = cc in subst P q each.0
got_item P (x ∷ ns) each (suc k) n e = got_item P ns each.1 k n e

pub number_is : (i j : ℕ) → (i == j) ≡ true → i ≡ j
number_is i j e = grind arith

-- the production of an aim
abbrev aim_rule : List GrammarPart
aim_rule =
    record { symbol = symbol.AIM_NAME; occurs = Once } ∷ record { symbol = symbol.VARIABLES; occurs = Optional } ∷ record { symbol = symbol.COLON_MARK; occurs = Once }
    ∷ record { symbol = symbol.PART; occurs = Once } ∷ record { symbol = symbol.NEXT_PART; occurs = Repeated } ∷ record { symbol = symbol.SEMICOLON_MARK; occurs = Once } ∷ []

aim_body : (room : ℕ) → rules_in module_language (record { symbol = symbol.ITEM; room = room }) terminal.AIM ≡ Some (map (piece room) aim_rule)
unfolding module_language
aim_body zero = refl
aim_body (suc room) = refl

aim_has_parts : (n : Node) → IsItem (rules_in module_language) n → HasParts n
aim_has_parts n is t =
    let of : symbol_of n ≡ symbol.ITEM = number_is (symbol_of n) symbol.ITEM is.symbol_is in
    let kind : (head_of n).kind ≡ terminal.AIM = number_is (head_of n).kind terminal.AIM t in
    let room : ℕ = is.node.room in
    let begins : rules_in module_language (record { symbol = symbol.ITEM; room = is.node.room }) terminal.AIM ≡ Some is.node.body =
    sym (ap (λ (s : ℕ). rules_in module_language (record { symbol = s; room = is.node.room }) (head_of n).kind) of ∙ ap (λ (k : ℕ). rules_in module_language (record { symbol = symbol.ITEM; room = is.node.room }) k) kind) ∙ is.node.begins in
    let body : map (piece is.node.room) aim_rule ≡ is.node.body = (let q : Some (map (piece is.node.room) aim_rule) ≡ Some is.node.body = sym (aim_body is.node.room) ∙ begins in cc) in
    listed_some symbol.PART symbol.NEXT_PART (children_of n)
    (needed_there is.node.spells
    (piece is.node.room (record { symbol = symbol.AIM_NAME; occurs = Once }) ∷ piece is.node.room (record { symbol = symbol.VARIABLES; occurs = Optional }) ∷ piece is.node.room (record { symbol = symbol.COLON_MARK; occurs = Once }) ∷ [])
    (piece is.node.room (record { symbol = symbol.PART; occurs = Once }))
    (piece is.node.room (record { symbol = symbol.NEXT_PART; occurs = Repeated }) ∷ piece is.node.room (record { symbol = symbol.SEMICOLON_MARK; occurs = Once }) ∷ [])
    (sym body) refl)

pub parts_there : (bytes : List ℕ) (tokens : List Token) (nodes : List Node) → IsParse module_language bytes tokens nodes → AllHaveParts (items_of nodes)
parts_there bytes tokens nodes parse k n e =
    aim_has_parts n
    (got_item (IsItem (rules_in module_language)) (items_of nodes)
    (items_each (rules_in module_language) (below symbol.MODULE nodes) (below_each (rules_in module_language) symbol.MODULE nodes (each_node parse.text))) k n e)
