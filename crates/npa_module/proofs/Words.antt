-- A module text has no fresh names, and so its terms have none.
use Rattle.std.proofs.Common.{◌≡◌, ℕ, zero, suc, ◌+◌, ◌&&◌, Bool, true, false, cond, List, [], ◌∷◌, ◌++◌, Option, None, Some, get_or, refl, ap, sym, ◌∙◌, Contains, arith}
use Rattle.std.specs.Prelude.{slice_get}
use Rattle.std.specs.Option.{option_map_or}
use Rattle.std.proofs.lemmas.Bool.{and_from}
use Rattle.std.proofs.lemmas.List.Elements.{Contains-append_right}
use Rattle.npa_syntax.specs.declared.node.Terminal.{Terminal}
use Rattle.npa_syntax.specs.declared.node.Node.{Node, Node', Row_of-Node, end_of-Node, more_of-Node, items-the_row-Node}
use Rattle.npa_syntax.specs.Nodes.{symbol_of, head_of, children_of, first_with}
use Rattle.npa_syntax.proofs.Folds.{children_made}
use Rattle.npa_syntax.proofs.Heads.{begins_some, terminal_begins}
use Rattle.npa_text.specs.declared.terminals.TheConstants as terminal
use Rattle.npa_text.specs.declared.token.Kind.{Kind}
use Rattle.npa_text.specs.declared.token.Kind.TheVariants.{Word, Number, FreshName, VariableMark, Open, Close, Comma, Colon, Semicolon, Equals, Less, Plus, Minus, Arrow}
use Rattle.npa_text.specs.declared.token.Token.{Token}
use Rattle.npa_text.specs.declared.token.Raw.{Raw}
use Rattle.npa_text.specs.Languages.{module_language}
use Rattle.npa_text.specs.Parses.{IsParse, terminals_from, terminals_of}
use Rattle.npa_text.specs.Raws.{is_term, no_token, term_with, token_at, terms_in, terms_of, raw_of}
use Rattle.npa_text.specs.Terminals.{terminal_as, terminal_of}
use Rattle.npa_text.proofs.RawLaws.{terms_at}
use Rattle.npa_sig.specs.Meaning.{is_fresh_name}
use Rattle.npa_sig.proofs.Unnamed.{is_plain, all_plain, plain_with}
use Rattle.npa_reading.specs.Trees.{raw_below}

-- the terminal of a token
record HasTerminal (bytes : List ℕ) (ts : List Terminal) (t : Token) : Type 0 where
  terminal_ : Terminal
  there : Contains ts terminal_
  kind : terminal_.kind ≡ terminal_of bytes t

terminal_there : (bytes : List ℕ) (at : ℕ) (tokens : List Token) (k : ℕ) (t : Token) → slice_get tokens k ≡ Some t → HasTerminal bytes (terminals_from at bytes tokens) t
terminal_there bytes at [] k t e = absurd (cc)
terminal_there bytes at (u ∷ tokens) zero t e =
    let same : u ≡ t = cc in
    record { terminal_ = record { kind = terminal_of bytes u; at = at }; there = (0, omega arith, refl); kind = ap (terminal_of bytes) same }
terminal_there bytes at (u ∷ tokens) (suc k) t e =
    let h = terminal_there bytes (at + 1) tokens k t e in
    let first : Terminal = record { kind = terminal_of bytes u; at = at } in
    record { terminal_ = h.terminal_; there = Contains-append_right (first ∷ []) (terminals_from (at + 1) bytes tokens) h.terminal_ h.there; kind = h.kind }

fresh_terminal : (kind : Kind) (text : List ℕ) → is_fresh_name kind ≡ true → terminal_as kind text ≡ terminal.FRESH_NAME
fresh_terminal Word text e = absurd (cc)
fresh_terminal Number text e = absurd (cc)
fresh_terminal FreshName text e = refl
fresh_terminal VariableMark text e = absurd (cc)
fresh_terminal Open text e = absurd (cc)
fresh_terminal Close text e = absurd (cc)
fresh_terminal Comma text e = absurd (cc)
fresh_terminal Colon text e = absurd (cc)
fresh_terminal Semicolon text e = absurd (cc)
fresh_terminal Equals text e = absurd (cc)
fresh_terminal Less text e = absurd (cc)
fresh_terminal Plus text e = absurd (cc)
fresh_terminal Minus text e = absurd (cc)
fresh_terminal Arrow text e = absurd (cc)

-- no production of a module text begins with a fresh name
none_begins : begins_some module_language.productions terminal.FRESH_NAME ≡ false
unfolding module_language
none_begins = refl

module _ (bytes : List ℕ) (tokens : List Token) (nodes : List Node) (parse : IsParse module_language bytes tokens nodes) where
  none_fresh : (k : ℕ) (t : Token) → slice_get tokens k ≡ Some t → is_fresh_name t.kind ≡ false
  none_fresh k t e = split (is_fresh_name t.kind) refl
    where
      split : (b : Bool) → is_fresh_name t.kind ≡ b → b ≡ false
      split false is = refl
      split true is =
          let h = terminal_there bytes 0 tokens k t e in
          let begins : begins_some module_language.productions h.terminal_.kind ≡ true = terminal_begins module_language (terminals_of bytes tokens) nodes parse.text h.terminal_ h.there in
          let kind : h.terminal_.kind ≡ terminal.FRESH_NAME = h.kind ∙ fresh_terminal t.kind _ is in
          let clash : true ≡ false = sym begins ∙ ap (begins_some module_language.productions) kind ∙ none_begins in
          clash

  at_each : (ts : List Token) (k : ℕ) → ((j : ℕ) (t : Token) → slice_get ts j ≡ Some t → is_fresh_name t.kind ≡ false) → is_fresh_name (get_or ts k no_token).kind ≡ false
  at_each [] k each = refl
  at_each (t ∷ ts) zero each = each 0 t refl
  at_each (t ∷ ts) (suc k) each = at_each ts k (λ j u e. each (suc j) u e)

  -- the word of no node is a fresh name
  word_at : (n : Node) → is_fresh_name (token_at tokens n).kind ≡ false
  word_at n = at_each tokens (head_of n).at none_fresh

  all_append : (raws more : List Raw) → all_plain raws ≡ true → all_plain more ≡ true → all_plain (raws ++ more) ≡ true
  all_append [] more e f = f
  all_append (r ∷ raws) more e f = split (is_plain r) (all_plain raws) e (λ g. all_append raws more g f)
    where
      split : (a b : Bool) → (a && b) ≡ true → (b ≡ true → all_plain (raws ++ more) ≡ true) → (a && all_plain (raws ++ more)) ≡ true
      split true true p rest = rest refl
      split true false p rest = cc
      split false b p rest = cc

  node_split : (n : Node) → all_plain (terms_of tokens (children_of n)) ≡ true → all_plain (terms_in tokens n) ≡ true
  node_split n inner = ap all_plain (terms_at tokens n) ∙ split (is_term (symbol_of n))
    where
      split : (b : Bool) → all_plain (cond b (raw_of tokens n ∷ []) (terms_of tokens (children_of n))) ≡ true
      split true = and_from (is_plain (raw_of tokens n)) true (plain_with (token_at tokens n) (terms_of tokens (children_of n)) (word_at n) inner) refl
      split false = inner

  mutual
    node_plain : (n : Node) → all_plain (terms_in tokens n) ≡ true
    node_plain (Node' symbol head shape row) =
        node_split (Node' symbol head shape row) (ap (λ (ns : List Node). all_plain (terms_of tokens ns)) (children_made symbol head shape row) ∙ row_plain row)

    row_plain : {m : _} (k : Row_of-Node m) → all_plain (terms_of tokens (items-the_row-Node m k)) ≡ true
    row_plain end_of-Node = refl
    row_plain (more_of-Node n rest) = all_append (terms_in tokens n) (terms_of tokens (items-the_row-Node _ rest)) (node_plain n) (row_plain rest)

  list_plain : (ns : List Node) → all_plain (terms_of tokens ns) ≡ true
  list_plain [] = refl
  list_plain (n ∷ ns) = all_append (terms_in tokens n) (terms_of tokens ns) (node_plain n) (list_plain ns)

  -- nor one of the words of a term
  pub plain_below : (symbol : ℕ) (ns : List Node) → is_plain (raw_below tokens symbol ns) ≡ true
  plain_below symbol ns = split (first_with symbol ns)
    where
      split : (o : Option Node) → is_plain (option_map_or (raw_of tokens) o (term_with no_token [])) ≡ true
      split None = plain_with no_token [] refl refl
      split (Some n) = plain_with (token_at tokens n) (terms_of tokens (children_of n)) (word_at n) (list_plain (children_of n))
