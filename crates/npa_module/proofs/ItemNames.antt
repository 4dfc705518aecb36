-- Each item of a module text has the names that its grammar asks for, and a strand has an event.
use Rattle.std.proofs.Common.{◌≡◌, ℕ, zero, suc, ◌<◌, ◌≤◌, ◌==◌, ◌||◌, Bool, true, false, cond, List, [], ◌∷◌, ◌++◌, Option, Some, map, length, get_or, refl, ap, sym, ◌∙◌, subst, arith, Contains, ◌⊎◌, inl, inr}
use Rattle.std.specs.Prelude.{slice_get}
use Rattle.std.specs.Option.{option_map_or}
use Rattle.std.proofs.lemmas.List.Elements.{Contains-append_right}
use Rattle.npa_syntax.specs.declared.production.Part.{Part as GrammarPart}
use Rattle.npa_syntax.specs.declared.node.Node.{Node}
use Rattle.npa_syntax.specs.Grammars.{Piece, is_needed}
use Rattle.npa_syntax.specs.Nodes.{symbol_of, children_of, first_with}
use Rattle.npa_syntax.specs.Tables.{one, optional, repeated, piece}
use Rattle.npa_syntax.specs.Languages.{rules_in, start_in}
use Rattle.npa_syntax.proofs.Heads.{IsInside, member, deeper, has_row, node_row}
use Rattle.npa_text.specs.declared.terminals.TheConstants as terminal
use Rattle.npa_text.specs.declared.symbols.TheConstants as symbol
use Rattle.npa_text.specs.declared.token.Token.{Token}
use Rattle.npa_text.specs.Languages.{module_language}
use Rattle.npa_text.specs.Parses.{IsParse, terminals_of}
use Rattle.npa_text.specs.Raws.{no_token, token_at}
use Rattle.npa_text.specs.Texts.{text_of}
use Rattle.npa_reading.specs.Trees.{all_with, below, kind_of, word_at, word_of, first_token}
use Rattle.npa_limits.specs.Later.{items_of}
use Rattle.npa_limits.specs.Limits.{is_sort, is_op, is_strand, is_aim}
use Rattle.npa_sig.specs.Rules.{IsName}
use Rattle.npa_module.specs.Items.{fresh_nodes, variable_nodes, event_nodes}
use Rattle.npa_module.proofs.Formed.{each_member}
use Rattle.npa_module.proofs.AimParts.{Somewhere, needed_there, listed_some, IsNode, each_node, below_each, IsItem, items_each, got_item, number_is}
use Rattle.npa_module.proofs.NodeNames.{BeginsName, named_node}

-- ## Nodes inside others

pub inside_through : (n m : Node) (ns : List Node) → IsInside n ns → IsInside m (children_of n) → IsInside m ns
inside_through n m ns (member nodes h) i = deeper ns n h i
inside_through n m ns (deeper nodes x h j) i = deeper ns x h (inside_through n m (children_of x) j i)

pub in_tail : (n x : Node) (ns : List Node) → Contains ns x → Contains (n ∷ ns) x
in_tail n x ns h = Contains-append_right (n ∷ []) ns x h

pub inside_tail : (n m : Node) (ns : List Node) → IsInside m ns → IsInside m (n ∷ ns)
inside_tail n m ns (member nodes h) = member (n ∷ ns) (in_tail n m ns h)
inside_tail n m ns (deeper nodes x h i) = deeper (n ∷ ns) x (in_tail n x ns h) i

pub inside_first : (n m : Node) (ns : List Node) → IsInside m (children_of n) → IsInside m (n ∷ ns)
inside_first n m ns i = deeper (n ∷ ns) n (0, omega arith, refl) i

pub inside_below : (s : ℕ) (ns : List Node) (m : Node) → IsInside m (below s ns) → IsInside m ns
inside_below s [] m (member nodes h) = absurd (let lt = h.1 in let no : ⊥ = omega (arith, lt) in no)
inside_below s [] m (deeper nodes x h i) = absurd (let lt = h.1 in let no : ⊥ = omega (arith, lt) in no)
inside_below s (n ∷ ns) m i = split (symbol_of n == s) (λ j. inside_tail n m ns (inside_below s ns m j)) i
  where
    split : (b : Bool) → (IsInside m (option_map_or children_of (first_with s ns) []) → IsInside m (n ∷ ns)) → IsInside m (option_map_or children_of (cond b (Some n) (first_with s ns)) []) → IsInside m (n ∷ ns)
    split true rest j = inside_first n m ns j
    split false rest j = rest j

-- a node that a filter by a symbol keeps
pub record IsKept (s : ℕ) (ns : List Node) (m : Node) : Type 0 where
  pub there : Contains ns m
  pub symbol_is : symbol_of m ≡ s

pub kept : (s : ℕ) (ns : List Node) (m : Node) → Contains (all_with s ns) m → IsKept s ns m
kept s [] m h = let lt = h.1 in absurd (let no : ⊥ = omega (arith, lt) in no)
kept s (n ∷ ns) m h = split (symbol_of n == s) refl (λ c. kept s ns m c) h
  where
    more : IsKept s ns m → IsKept s (n ∷ ns) m
    more k = record { there = in_tail n m ns k.there; symbol_is = k.symbol_is }

    first : (symbol_of n == s) ≡ true → (Contains (all_with s ns) m → IsKept s ns m) → (j : ℕ) → j < suc (length (all_with s ns)) → get_or (n ∷ all_with s ns) j m ≡ m → IsKept s (n ∷ ns) m
    first is rest zero lt e = record { there = (0, omega arith, e); symbol_is = ap symbol_of (sym e) ∙ number_is (symbol_of n) s is }
    first is rest (suc j) lt e = more (rest (j, omega (arith, lt), e))

    split : (b : Bool) → (symbol_of n == s) ≡ b → (Contains (all_with s ns) m → IsKept s ns m) → Contains (cond b (n ∷ all_with s ns) (all_with s ns)) m → IsKept s (n ∷ ns) m
    split true is rest c = first is rest c.0 c.1 c.2
    split false is rest c = more (rest c)

pub got_there : {A : Type 0} (xs : List A) (k : ℕ) (x : A) → slice_get xs k ≡ Some x → Contains xs x
got_there [] k x e = absurd (cc)
got_there (y ∷ xs) zero x e = let q : y ≡ x = cc in (0, omega arith, q)
got_there (y ∷ xs) (suc k) x e = let h = got_there xs k x e in let lt = h.1 in (suc h.0, omega (arith, lt), h.2)

-- the first node for a symbol that stands somewhere
pub record IsFirst (s : ℕ) (ns : List Node) : Type 0 where
  pub node : Node
  pub is : first_with s ns ≡ Some node
  pub there : Contains ns node
  pub symbol_is : symbol_of node ≡ s

pub first_there : (s : ℕ) (ns : List Node) → Somewhere s ns → IsFirst s ns
first_there s [] w = absurd w
first_there s (n ∷ ns) w = split (symbol_of n == s) refl w (λ v. first_there s ns v)
  where
    equal : (i j : ℕ) → i ≡ j → (i == j) ≡ true
    equal i j q = grind arith

    Found : Bool → Type 0
    Found b = (m : Node) × (cond b (Some n) (first_with s ns) ≡ Some m) × Contains (n ∷ ns) m × (symbol_of m ≡ s)

    found : (b : Bool) → (symbol_of n == s) ≡ b → (symbol_of n ≡ s) ⊎ Somewhere s ns → (Somewhere s ns → IsFirst s ns) → Found b
    found true is w rest = (n, refl, (0, omega arith, refl), number_is (symbol_of n) s is)
    found false is (inl e) rest = let clash : true ≡ false = sym (equal (symbol_of n) s e) ∙ is in absurd (cc)
    found false is (inr v) rest = let f = rest v in (f.node, f.is, in_tail n f.node ns f.there, f.symbol_is)

    split : (b : Bool) → (symbol_of n == s) ≡ b → (symbol_of n ≡ s) ⊎ Somewhere s ns → (Somewhere s ns → IsFirst s ns) → IsFirst s (n ∷ ns)
    split b is w rest =
        let f = found b is w rest in
        record { node = f.0; is = ap (λ c. cond c (Some n) (first_with s ns)) is ∙ f.1; there = f.2; symbol_is = f.3 }

-- ## What the grammar asks for

equal_name : (kind : ℕ) → ((terminal.NAME == kind) || false) ≡ true → kind ≡ terminal.NAME
equal_name kind e = grind arith

equal_protocol : (kind : ℕ) → ((terminal.PROTOCOL == kind) || false) ≡ true → kind ≡ terminal.PROTOCOL
equal_protocol kind e = grind arith

protocol_begins : (kind : ℕ) → has_row module_language.productions symbol.PROTOCOL_NAME kind ≡ true → kind ≡ terminal.NAME
unfolding module_language
protocol_begins kind e = equal_name kind e

sort_begins : (kind : ℕ) → has_row module_language.productions symbol.SORT_NAME kind ≡ true → kind ≡ terminal.NAME
unfolding module_language
sort_begins kind e = equal_name kind e

op_begins : (kind : ℕ) → has_row module_language.productions symbol.OPERATOR_NAME kind ≡ true → kind ≡ terminal.NAME
unfolding module_language
op_begins kind e = equal_name kind e

strand_begins : (kind : ℕ) → has_row module_language.productions symbol.STRAND_NAME kind ≡ true → kind ≡ terminal.NAME
unfolding module_language
strand_begins kind e = equal_name kind e

aim_begins : (kind : ℕ) → has_row module_language.productions symbol.AIM_NAME kind ≡ true → kind ≡ terminal.NAME
unfolding module_language
aim_begins kind e = equal_name kind e

fresh_begins : (kind : ℕ) → has_row module_language.productions symbol.FRESH_VALUE kind ≡ true → kind ≡ terminal.NAME
unfolding module_language
fresh_begins kind e = equal_name kind e

variable_begins : (kind : ℕ) → has_row module_language.productions symbol.VARIABLE kind ≡ true → kind ≡ terminal.NAME
unfolding module_language
variable_begins kind e = equal_name kind e

module_begins : (kind : ℕ) → has_row module_language.productions symbol.MODULE kind ≡ true → kind ≡ terminal.PROTOCOL
unfolding module_language
module_begins kind e = equal_protocol kind e

starts : start_in module_language ≡ piece module_language.limit (one symbol.MODULE) ∷ []
unfolding module_language
starts = refl

-- the pieces of an item's production
abbrev pub pieces : ℕ → List GrammarPart → GrammarPart → List GrammarPart → List Piece
pieces room front p back = map (piece room) front ++ piece room p ∷ map (piece room) back

sort_body : (room : ℕ) → rules_in module_language (record { symbol = symbol.ITEM; room = room }) terminal.SORT ≡ Some (pieces room [] (one symbol.SORT_NAME) (one symbol.SEMICOLON_MARK ∷ []))
unfolding module_language
sort_body zero = refl
sort_body (suc room) = refl

abbrev op_rest : List GrammarPart
op_rest = one symbol.COLON_MARK ∷ repeated symbol.ARGUMENT_SORT ∷ one symbol.ARROW_MARK ∷ one symbol.RESULT_SORT ∷ optional symbol.COMMUTATIVE ∷ one symbol.SEMICOLON_MARK ∷ []

op_body : (room : ℕ) → rules_in module_language (record { symbol = symbol.ITEM; room = room }) terminal.OP ≡ Some (pieces room [] (one symbol.OPERATOR_NAME) op_rest)
unfolding module_language
op_body zero = refl
op_body (suc room) = refl

abbrev strand_front : List GrammarPart
strand_front = one symbol.STRAND_NAME ∷ optional symbol.FRESH_VALUES ∷ optional symbol.VARIABLES ∷ one symbol.COLON_MARK ∷ []

abbrev strand_back : List GrammarPart
strand_back = repeated symbol.NEXT_EVENT ∷ one symbol.SEMICOLON_MARK ∷ []

abbrev strand_rest : List GrammarPart
strand_rest = optional symbol.FRESH_VALUES ∷ optional symbol.VARIABLES ∷ one symbol.COLON_MARK ∷ one symbol.EVENT ∷ strand_back

strand_body : (room : ℕ) → rules_in module_language (record { symbol = symbol.ITEM; room = room }) terminal.STRAND ≡ Some (pieces room strand_front (one symbol.EVENT) strand_back)
unfolding module_language
strand_body zero = refl
strand_body (suc room) = refl

intruder_body : (room : ℕ) → rules_in module_language (record { symbol = symbol.ITEM; room = room }) terminal.INTRUDER ≡ Some (pieces room strand_front (one symbol.EVENT) strand_back)
unfolding module_language
intruder_body zero = refl
intruder_body (suc room) = refl

abbrev aim_rest : List GrammarPart
aim_rest = optional symbol.VARIABLES ∷ one symbol.COLON_MARK ∷ one symbol.PART ∷ repeated symbol.NEXT_PART ∷ one symbol.SEMICOLON_MARK ∷ []

aim_body : (room : ℕ) → rules_in module_language (record { symbol = symbol.ITEM; room = room }) terminal.AIM ≡ Some (pieces room [] (one symbol.AIM_NAME) aim_rest)
unfolding module_language
aim_body zero = refl
aim_body (suc room) = refl

abbrev protocol_rest : List GrammarPart
protocol_rest = one symbol.SEMICOLON_MARK ∷ repeated symbol.ITEM ∷ []

module_body : (room : ℕ) → rules_in module_language (record { symbol = symbol.MODULE; room = room }) terminal.PROTOCOL ≡ Some (pieces room [] (one symbol.PROTOCOL_NAME) protocol_rest)
unfolding module_language
module_body zero = refl
module_body (suc room) = refl

-- a node of this production has the piece
pub has_piece : (n : Node) → IsNode (rules_in module_language) n → (s kind : ℕ) → symbol_of n ≡ s → kind_of n ≡ kind → (front : List GrammarPart) (p : GrammarPart) (back : List GrammarPart) →
    ((room : ℕ) → rules_in module_language (record { symbol = s; room = room }) kind ≡ Some (pieces room front p back)) → is_needed p.occurs ≡ true → Somewhere p.symbol (children_of n)
has_piece n is s kind symbol_is kind_is front p back rule_is needed =
    let begins : rules_in module_language (record { symbol = s; room = is.room }) kind ≡ Some is.body =
    sym (ap (λ (x : ℕ). rules_in module_language (record { symbol = x; room = is.room }) (kind_of n)) symbol_is ∙ ap (λ (k : ℕ). rules_in module_language (record { symbol = s; room = is.room }) k) kind_is) ∙ is.begins in
    let body : pieces is.room front p back ≡ is.body = (let q : Some (pieces is.room front p back) ≡ Some is.body = sym (rule_is is.room) ∙ begins in cc) in
    needed_there is.spells (map (piece is.room) front) (piece is.room p) (map (piece is.room) back) (sym body) needed

-- ## The names of items

-- the words of an item that stand where names do are names, and a strand has an event
pub record HasNames (bytes : List ℕ) (tokens : List Token) (n : Node) : Type 0 where
  pub sort : is_sort n ≡ true → IsName (text_of bytes (first_token tokens symbol.SORT_NAME (children_of n)))
  pub op : is_op n ≡ true → IsName (text_of bytes (first_token tokens symbol.OPERATOR_NAME (children_of n)))
  pub strand : is_strand n ≡ true → IsName (text_of bytes (first_token tokens symbol.STRAND_NAME (children_of n)))
  pub aim : is_aim n ≡ true → IsName (text_of bytes (first_token tokens symbol.AIM_NAME (children_of n)))
  pub fresh : (m : Node) → Contains (fresh_nodes (children_of n)) m → IsName (word_at bytes tokens m)
  pub variables : (m : Node) → Contains (variable_nodes (children_of n)) m → IsName (word_at bytes tokens m)
  pub events : is_strand n ≡ true → 1 ≤ length (event_nodes (children_of n))

-- the kind of a strand is one of two
either_kind : (P : Type 0) (n : Node) → (kind_of n ≡ terminal.STRAND → P) → (kind_of n ≡ terminal.INTRUDER → P) → is_strand n ≡ true → P
either_kind P n honest intruder is = split (kind_of n == terminal.STRAND) refl (kind_of n == terminal.INTRUDER) refl is
  where
    split : (a : Bool) → (kind_of n == terminal.STRAND) ≡ a → (b : Bool) → (kind_of n == terminal.INTRUDER) ≡ b → (a || b) ≡ true → P
    split true e b f t = honest (number_is (kind_of n) terminal.STRAND e)
    split false e true f t = intruder (number_is (kind_of n) terminal.INTRUDER f)
    split false e false f t = absurd (cc)

module _ (n : Node) (is : IsItem (rules_in module_language) n) where
  item_has : (kind : ℕ) → kind_of n ≡ kind → (front : List GrammarPart) (p : GrammarPart) (back : List GrammarPart) →
      ((room : ℕ) → rules_in module_language (record { symbol = symbol.ITEM; room = room }) kind ≡ Some (pieces room front p back)) → is_needed p.occurs ≡ true → Somewhere p.symbol (children_of n)
  item_has kind kind_is front p back rule_is needed = has_piece n is.node symbol.ITEM kind (number_is (symbol_of n) symbol.ITEM is.symbol_is) kind_is front p back rule_is needed

  strand_name_there : is_strand n ≡ true → Somewhere symbol.STRAND_NAME (children_of n)
  strand_name_there t =
      either_kind (Somewhere symbol.STRAND_NAME (children_of n)) n
      (λ k. item_has terminal.STRAND k [] (one symbol.STRAND_NAME) strand_rest strand_body refl)
      (λ k. item_has terminal.INTRUDER k [] (one symbol.STRAND_NAME) strand_rest intruder_body refl) t

  event_there : is_strand n ≡ true → Somewhere symbol.EVENT (children_of n)
  event_there t =
      either_kind (Somewhere symbol.EVENT (children_of n)) n
      (λ k. item_has terminal.STRAND k strand_front (one symbol.EVENT) strand_back strand_body refl)
      (λ k. item_has terminal.INTRUDER k strand_front (one symbol.EVENT) strand_back intruder_body refl) t

module _ (bytes : List ℕ) (tokens : List Token) (nodes : List Node) (parse : IsParse module_language bytes tokens nodes) where
  first_name : (s : ℕ) → BeginsName s → (n : Node) → IsInside n nodes → Somewhere s (children_of n) → IsName (text_of bytes (first_token tokens s (children_of n)))
  first_name s begins n inside w =
      let f = first_there s (children_of n) w in
      let same : first_token tokens s (children_of n) ≡ token_at tokens f.node = ap (λ (o : Option Node). option_map_or (token_at tokens) o no_token) f.is in
      subst (λ (t : Token). IsName (text_of bytes t)) (sym same)
      (named_node bytes tokens nodes parse s begins f.node (inside_through n f.node nodes inside (member (children_of n) f.there)) f.symbol_is)

  each_name : (s outer : ℕ) → BeginsName s → (n : Node) → IsInside n nodes → (m : Node) → Contains (all_with s (below outer (children_of n))) m → IsName (word_at bytes tokens m)
  each_name s outer begins n inside m h =
      let k = kept s (below outer (children_of n)) m h in
      named_node bytes tokens nodes parse s begins m
      (inside_through n m nodes inside (inside_below outer (children_of n) m (member (below outer (children_of n)) k.there))) k.symbol_is

  item_names : (n : Node) → IsInside n nodes → IsItem (rules_in module_language) n → HasNames bytes tokens n
  item_names n inside is = record {
    sort = λ t. first_name symbol.SORT_NAME sort_begins n inside (item_has n is terminal.SORT (number_is (kind_of n) terminal.SORT t) [] (one symbol.SORT_NAME) (one symbol.SEMICOLON_MARK ∷ []) sort_body refl);
    op = λ t. first_name symbol.OPERATOR_NAME op_begins n inside (item_has n is terminal.OP (number_is (kind_of n) terminal.OP t) [] (one symbol.OPERATOR_NAME) op_rest op_body refl);
    strand = λ t. first_name symbol.STRAND_NAME strand_begins n inside (strand_name_there n is t);
    aim = λ t. first_name symbol.AIM_NAME aim_begins n inside (item_has n is terminal.AIM (number_is (kind_of n) terminal.AIM t) [] (one symbol.AIM_NAME) aim_rest aim_body refl);
    fresh = λ m h. each_name symbol.FRESH_VALUE symbol.FRESH_VALUES fresh_begins n inside m h;
    variables = λ m h. each_name symbol.VARIABLE symbol.VARIABLES variable_begins n inside m h;
    events = λ t. listed_some symbol.EVENT symbol.NEXT_EVENT (children_of n) (event_there n is t);
  }

  pub inside_items : (k : ℕ) (n : Node) → slice_get (items_of nodes) k ≡ Some n → IsInside n nodes
  inside_items k n e =
      let h = kept symbol.ITEM (below symbol.MODULE nodes) n (got_there (items_of nodes) k n e) in
      inside_below symbol.MODULE nodes n (member (below symbol.MODULE nodes) h.there)

  pub all_names : (k : ℕ) (n : Node) → slice_get (items_of nodes) k ≡ Some n → HasNames bytes tokens n
  all_names k n e =
      item_names n (inside_items k n e)
      (got_item (IsItem (rules_in module_language)) (items_of nodes)
      (items_each (rules_in module_language) (below symbol.MODULE nodes) (below_each (rules_in module_language) symbol.MODULE nodes (each_node parse.text))) k n e)

  -- ## The name of the module

  module_there : Somewhere symbol.MODULE nodes
  module_there = needed_there parse.text [] (piece module_language.limit (one symbol.MODULE)) [] starts refl

  module_kind : (n : Node) → IsInside n nodes → symbol_of n ≡ symbol.MODULE → kind_of n ≡ terminal.PROTOCOL
  module_kind n inside is =
      let row = node_row module_language (terminals_of bytes tokens) nodes parse.text n inside in
      module_begins (kind_of n) (ap (λ (x : ℕ). has_row module_language.productions x (kind_of n)) (sym is) ∙ row.0)

  pub protocol_named : IsName (word_of bytes tokens symbol.PROTOCOL_NAME (below symbol.MODULE nodes))
  protocol_named =
      let m = first_there symbol.MODULE nodes module_there in
      let inside : IsInside m.node nodes = member nodes m.there in
      let node : IsNode (rules_in module_language) m.node = each_member (IsNode (rules_in module_language)) nodes (each_node parse.text) m.node m.there in
      let w = has_piece m.node node symbol.MODULE terminal.PROTOCOL m.symbol_is (module_kind m.node inside m.symbol_is) [] (one symbol.PROTOCOL_NAME) protocol_rest module_body refl in
      let f = first_there symbol.PROTOCOL_NAME (children_of m.node) w in
      let below_is : below symbol.MODULE nodes ≡ children_of m.node = ap (λ (o : Option Node). option_map_or children_of o []) m.is in
      let word : word_of bytes tokens symbol.PROTOCOL_NAME (below symbol.MODULE nodes) ≡ word_at bytes tokens f.node =
      ap (word_of bytes tokens symbol.PROTOCOL_NAME) below_is ∙ ap (λ (o : Option Node). option_map_or (word_at bytes tokens) o []) f.is in
      subst IsName (sym word)
      (named_node bytes tokens nodes parse symbol.PROTOCOL_NAME protocol_begins f.node (inside_through m.node f.node nodes inside (member (children_of m.node) f.there)) f.symbol_is)
