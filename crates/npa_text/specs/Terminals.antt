-- The terminals of the grammars: reserved words name nothing, and any other word is a name.
use Rattle.std.specs.Prelude.{ℕ, List, [], ◌∷◌, codes, if◌then◌else◌}
use Rattle.std.specs.Str.{bytes_eq}
use Rattle.npa_text.specs.declared.token.Kind.{Kind}
use Rattle.npa_text.specs.declared.token.Kind.TheVariants.{Word, Number, FreshName, VariableMark, Open, Close, Comma, Colon, Semicolon, Equals, Less, Plus, Minus, Arrow}
use Rattle.npa_text.specs.declared.token.Token.{Token}
use Rattle.npa_text.specs.declared.terminals.TheConstants.{NAME, PROTOCOL, SORT, SUBSORT, OP, COMM, EQ, VARS, FRESH, STRAND, INTRUDER, AIM, GRAMMAR, KNOWN, UNKNOWN, AT, IF, IN, NOT, AND, USE, DO, REACHED, UNREACHABLE, PATTERN, END, NUMBER, FRESH_NAME, VARIABLE_MARK, OPEN, CLOSE, COMMA, COLON, SEMICOLON, EQUALS, LESS, PLUS, MINUS, ARROW}
use Rattle.npa_text.specs.Texts.{text_of}

-- the reserved words and their terminals
abbrev pub reserved : List (List ℕ × ℕ)
reserved =
    (codes "protocol", PROTOCOL) ∷ (codes "sort", SORT) ∷ (codes "subsort", SUBSORT) ∷ (codes "op", OP) ∷
    (codes "comm", COMM) ∷ (codes "eq", EQ) ∷ (codes "vars", VARS) ∷ (codes "fresh", FRESH) ∷
    (codes "strand", STRAND) ∷ (codes "intruder", INTRUDER) ∷ (codes "aim", AIM) ∷ (codes "grammar", GRAMMAR) ∷
    (codes "known", KNOWN) ∷ (codes "unknown", UNKNOWN) ∷ (codes "at", AT) ∷ (codes "if", IF) ∷
    (codes "in", IN) ∷ (codes "not", NOT) ∷ (codes "and", AND) ∷ (codes "use", USE) ∷
    (codes "do", DO) ∷ (codes "reached", REACHED) ∷ (codes "unreachable", UNREACHABLE) ∷ (codes "pattern", PATTERN) ∷
    (codes "end", END) ∷
    []

-- the terminal that a table gives to a word; any other word is a name
abbrev pub word_in : List (List ℕ × ℕ) → List ℕ → ℕ
word_in [] word = NAME
word_in (row ∷ rows) word = if bytes_eq row.0 word then row.1 else word_in rows word

abbrev pub word_terminal : List ℕ → ℕ
word_terminal word = word_in reserved word

-- the terminal of a token of this kind with this text
abbrev pub terminal_as : Kind → List ℕ → ℕ
terminal_as Word text = word_terminal text
terminal_as Number text = NUMBER
terminal_as FreshName text = FRESH_NAME
terminal_as VariableMark text = VARIABLE_MARK
terminal_as Open text = OPEN
terminal_as Close text = CLOSE
terminal_as Comma text = COMMA
terminal_as Colon text = COLON
terminal_as Semicolon text = SEMICOLON
terminal_as Equals text = EQUALS
terminal_as Less text = LESS
terminal_as Plus text = PLUS
terminal_as Minus text = MINUS
terminal_as Arrow text = ARROW

-- the terminal of a token of a text
abbrev pub terminal_of : List ℕ → Token → ℕ
terminal_of bytes t = terminal_as t.kind (text_of bytes t)
