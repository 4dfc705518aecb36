-- Each terminal of a text begins a production, and each node applies one.
use Rattle.std.proofs.Common.{◌≡◌, ℕ, zero, suc, ◌==◌, ◌&&◌, ◌||◌, true, false, Bool, cond, List, [], ◌∷◌, ◌++◌, Option, None, Some, refl, sym, ap, ◌∙◌, subst, Contains, ⊎_elim, arith}
use Rattle.std.specs.List.{list_any}
use Rattle.std.proofs.lemmas.List.Elements.{Contains-append_cases, Contains-append_left, Contains-append_right}
use Rattle.npa_syntax.specs.declared.production.Part.{Part}
use Rattle.npa_syntax.specs.declared.node.Terminal.{Terminal}
use Rattle.npa_syntax.specs.declared.node.Node.{Node, out-roll-Node}
use Rattle.npa_syntax.specs.Grammars.{Nonterminal, Piece, Rules, Spells, nothing, without, taking, tree}
use Rattle.npa_syntax.specs.Nodes.{symbol_of, head_of, children_of}
use Rattle.npa_syntax.specs.Tables.{Rule, parts_of, room_in, pieces_in}
use Rattle.npa_syntax.specs.Languages.{Language, IsText}

-- a production begins with a terminal of this kind
record Begun (rules : Rules) (kind : ℕ) : Type 0 where
  nonterminal : Nonterminal
  body : List Piece
  begins : rules nonterminal kind ≡ Some body

one_member : {A : Type 0} (x y : A) → Contains (x ∷ []) y → x ≡ y
one_member x y (zero, lt, e) = e
one_member x y (suc k, lt, e) = absurd (let no : ⊥ = omega (arith, lt) in no)

begun : {rules : Rules} {ps : List Piece} {ts : List Terminal} {ns : List Node} → Spells rules ps ts ns → (t : Terminal) → Contains ts t → Begun rules t.kind
begun nothing t h = absurd (let lt = h.1 in let no : ⊥ = omega (arith, lt) in no)
begun (without p ps ts ns needed d) t h = begun d t h
begun {rules = rules} (taking p ps u body ts us kids ns begins d d') t h =
    ⊎_elim
    (λ first. subst (λ (x : Terminal). Begun rules x.kind) (one_member u t first) (record { nonterminal = p.nonterminal; body = body; begins = begins }))
    (λ rest. ⊎_elim (begun d t) (begun d' t) (Contains-append_cases ts us t rest))
    (Contains-append_cases (u ∷ []) (ts ++ us) t h)

-- whether a production of a table begins with this kind
abbrev pub begins_some : List Rule → ℕ → Bool
begins_some rules kind = list_any (λ r. r.kind == kind) rules

rule_begins : (rules : List Rule) (symbol kind : ℕ) (parts : List Part) → parts_of rules symbol kind ≡ Some parts → begins_some rules kind ≡ true
rule_begins [] symbol kind parts e = cc
rule_begins (r ∷ rules) symbol kind parts e = split (r.symbol == symbol) (r.kind == kind) (rule_begins rules symbol kind parts) e
  where
    split : (a b : Bool) → (parts_of rules symbol kind ≡ Some parts → begins_some rules kind ≡ true) → cond (a && b) (Some r.parts) (parts_of rules symbol kind) ≡ Some parts → (b || begins_some rules kind) ≡ true
    split a true rest q = refl
    split true false rest q = rest q
    split false false rest q = rest q

pieces_begin : (rules : List Rule) (symbol kind : ℕ) (room : Option ℕ) (found : Option (List Part)) (body : List Piece) → parts_of rules symbol kind ≡ found → pieces_in room found ≡ Some body → begins_some rules kind ≡ true
pieces_begin rules symbol kind None found body is e = cc
pieces_begin rules symbol kind (Some room) None body is e = cc
pieces_begin rules symbol kind (Some room) (Some parts) body is e = rule_begins rules symbol kind parts is

-- each terminal of a text has a kind with which a production of the table begins
pub terminal_begins : (l : Language) (ts : List Terminal) (trees : List Node) → IsText l ts trees → (t : Terminal) → Contains ts t → begins_some l.productions t.kind ≡ true
terminal_begins l ts trees text t h =
    let b = begun text t h in
    pieces_begin l.productions b.nonterminal.symbol t.kind (room_in l.nesting b.nonterminal.symbol b.nonterminal.room) (parts_of l.productions b.nonterminal.symbol t.kind) b.body refl b.begins

-- ## Nodes

-- A node of trees: one of them, or a node of the children of one.
pub data IsInside (n : Node) : List Node → Type 0 where
  member : (ns : List Node) → Contains ns n → IsInside n ns
  deeper : (ns : List Node) (m : Node) → Contains ns m → IsInside n (children_of m) → IsInside n ns

-- a node applies a production that begins with its terminal, which is one of these
record Applies (rules : Rules) (ts : List Terminal) (n : Node) : Type 0 where
  room : ℕ
  body : List Piece
  begins : rules (record { symbol = symbol_of n; room = room }) (head_of n).kind ≡ Some body
  there : Contains ts (head_of n)

more_terminals : (rules : Rules) (ts us : List Terminal) (n : Node) → ((t : Terminal) → Contains ts t → Contains us t) → Applies rules ts n → Applies rules us n
more_terminals rules ts us n more a = record { room = a.room; body = a.body; begins = a.begins; there = more (head_of n) a.there }

tree_applies : (rules : Rules) (p : Nonterminal) (t : Terminal) (body : List Piece) (kids : List Node) (ts : List Terminal) → rules p t.kind ≡ Some body → Applies rules (t ∷ ts) (tree p t kids)
tree_applies rules p t body kids ts begins =
    let opened = out-roll-Node (record { symbol = p.symbol; head = t; children = kids }) in
    let symbol : symbol_of (tree p t kids) ≡ p.symbol = ap (λ layer. layer.symbol) opened in
    let head : head_of (tree p t kids) ≡ t = ap (λ layer. layer.head) opened in
    record {
      room = p.room;
      body = body;
      begins = ap (λ s. rules (record { symbol = s; room = p.room }) (head_of (tree p t kids)).kind) symbol ∙ ap (λ (h : Terminal). rules p h.kind) head ∙ begins;
      there = subst (λ (h : Terminal). Contains (t ∷ ts) h) (sym head) (0, omega arith, refl);
    }

tree_kids : (p : Nonterminal) (t : Terminal) (kids : List Node) → children_of (tree p t kids) ≡ kids
tree_kids p t kids = ap (λ layer. layer.children) (out-roll-Node (record { symbol = p.symbol; head = t; children = kids }))

applies : {rules : Rules} {ps : List Piece} {ts : List Terminal} {ns : List Node} → Spells rules ps ts ns → (n : Node) → IsInside n ns → Applies rules ts n
applies nothing n (member ns h) = absurd (let lt = h.1 in let no : ⊥ = omega (arith, lt) in no)
applies nothing n (deeper ns m h i) = absurd (let lt = h.1 in let no : ⊥ = omega (arith, lt) in no)
applies (without p ps ts ns needed d) n i = applies d n i
applies {rules = rules} (taking p ps t body ts us kids ns begins d d') n (member nodes h) =
    ⊎_elim
    (λ first. subst (Applies rules (t ∷ ts ++ us)) (one_member (tree p.nonterminal t kids) n first) (tree_applies rules p.nonterminal t body kids (ts ++ us) begins))
    (λ rest. more_terminals rules us (t ∷ ts ++ us) n (λ x c. Contains-append_right (t ∷ ts) us x c) (applies d' n (member ns rest)))
    (Contains-append_cases (tree p.nonterminal t kids ∷ []) ns n h)
applies {rules = rules} (taking p ps t body ts us kids ns begins d d') n (deeper nodes m h i) =
    ⊎_elim
    (λ first.
    let same : tree p.nonterminal t kids ≡ m = one_member (tree p.nonterminal t kids) m first in
    let inner : IsInside n kids = subst (IsInside n) (ap children_of (sym same) ∙ tree_kids p.nonterminal t kids) i in
    more_terminals rules ts (t ∷ ts ++ us) n (λ x c. Contains-append_right (t ∷ []) (ts ++ us) x (Contains-append_left ts us x c)) (applies d n inner))
    (λ rest. more_terminals rules us (t ∷ ts ++ us) n (λ x c. Contains-append_right (t ∷ ts) us x c) (applies d' n (deeper ns m rest i)))
    (Contains-append_cases (tree p.nonterminal t kids ∷ []) ns m h)

-- whether a table has a production of this symbol that begins with this kind
abbrev pub has_row : List Rule → ℕ → ℕ → Bool
has_row rules symbol kind = list_any (λ r. r.symbol == symbol && r.kind == kind) rules

rule_there : (rules : List Rule) (symbol kind : ℕ) (parts : List Part) → parts_of rules symbol kind ≡ Some parts → has_row rules symbol kind ≡ true
rule_there [] symbol kind parts e = cc
rule_there (r ∷ rules) symbol kind parts e = split (r.symbol == symbol && r.kind == kind) (rule_there rules symbol kind parts) e
  where
    split : (b : Bool) → (parts_of rules symbol kind ≡ Some parts → has_row rules symbol kind ≡ true) → cond b (Some r.parts) (parts_of rules symbol kind) ≡ Some parts → (b || has_row rules symbol kind) ≡ true
    split true rest q = refl
    split false rest q = rest q

pieces_there : (rules : List Rule) (symbol kind : ℕ) (room : Option ℕ) (found : Option (List Part)) (body : List Piece) → parts_of rules symbol kind ≡ found → pieces_in room found ≡ Some body → has_row rules symbol kind ≡ true
pieces_there rules symbol kind None found body is e = cc
pieces_there rules symbol kind (Some room) None body is e = cc
pieces_there rules symbol kind (Some room) (Some parts) body is e = rule_there rules symbol kind parts is

-- Each node of a text applies a production of the table: its symbol and the kind of its terminal are a
-- row; and its terminal is one of the text.
pub node_row : (l : Language) (ts : List Terminal) (trees : List Node) → IsText l ts trees → (n : Node) → IsInside n trees → (has_row l.productions (symbol_of n) (head_of n).kind ≡ true) × Contains ts (head_of n)
node_row l ts trees text n i =
    let a = applies text n i in (
      pieces_there l.productions (symbol_of n) (head_of n).kind (room_in l.nesting (symbol_of n) a.room) (parts_of l.productions (symbol_of n) (head_of n).kind) a.body refl a.begins,
      a.there,
    )
