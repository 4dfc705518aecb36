-- The grammars of the texts, a production a line: the nonterminal, the terminal that it begins with,
-- and what follows.
use Rattle.std.specs.Prelude.{List, [], ◌∷◌}
use Rattle.npa_syntax.specs.Tables.{Rule, rule, one, optional, repeated}
use Rattle.npa_syntax.specs.Languages.{Language}
use Rattle.npa_text.specs.declared.symbols.TheConstants.{AIM_NAME, ARGUMENTS, ARGUMENT_SORT, ARROW_MARK, AT_WORD, BAR, CLOSING, COLON_MARK, COMMUTATIVE, CONDITION, CONDITIONS, DEMAND, EQUALS_MARK, EVENT, EXCLUSION, FRESH_VALUE, FRESH_VALUES, GRAMMAR_NAME, GROUND, GROUND_ARGUMENTS, ITEM, LESS_MARK, LOWER_SORT, MODULE, NEXT_ARGUMENT, NEXT_CONDITION, NEXT_EVENT, NEXT_GROUND, NEXT_PARAMETER, NEXT_PART, NEXT_PRODUCTION, OPENING, OPERATOR_NAME, PARAMETER, PARAMETERS, PART, PART_STRAND, PROTOCOL_NAME, REACHED_WORD, RESULT_SORT, SCHEDULE, SEMICOLON_MARK, SORT_NAME, STEP, STRAND_NAME, TERM, UPPER_SORT, USED, USED_STRAND, VALUE, VARIABLE, VARIABLES, VARIABLE_SORT}
use Rattle.npa_text.specs.declared.terminals.TheConstants.{AIM, AND, ARROW, AT, CLOSE, COLON, COMM, COMMA, DO, EQ, EQUALS, FRESH, FRESH_NAME, GRAMMAR, IF, IN, INTRUDER, KNOWN, LESS, MINUS, NAME, NOT, NUMBER, OP, OPEN, PLUS, PROTOCOL, REACHED, SEMICOLON, SORT, STRAND, SUBSORT, USE, VARS}

-- A module text: its name, then items. A term's brackets nest at most 1,200 deep.
abbrev pub module_rules : List Rule
module_rules =
    rule MODULE PROTOCOL (one PROTOCOL_NAME ∷ one SEMICOLON_MARK ∷ repeated ITEM ∷ []) ∷
    rule ITEM SORT (one SORT_NAME ∷ one SEMICOLON_MARK ∷ []) ∷
    rule ITEM SUBSORT (one LOWER_SORT ∷ one LESS_MARK ∷ one UPPER_SORT ∷ one SEMICOLON_MARK ∷ []) ∷
    rule ITEM OP (one OPERATOR_NAME ∷ one COLON_MARK ∷ repeated ARGUMENT_SORT ∷ one ARROW_MARK ∷ one RESULT_SORT ∷ optional COMMUTATIVE ∷ one SEMICOLON_MARK ∷ []) ∷
    rule ITEM EQ (optional VARIABLES ∷ one COLON_MARK ∷ one TERM ∷ one EQUALS_MARK ∷ one TERM ∷ one SEMICOLON_MARK ∷ []) ∷
    rule ITEM STRAND (one STRAND_NAME ∷ optional FRESH_VALUES ∷ optional VARIABLES ∷ one COLON_MARK ∷ one EVENT ∷ repeated NEXT_EVENT ∷ one SEMICOLON_MARK ∷ []) ∷
    rule ITEM INTRUDER (one STRAND_NAME ∷ optional FRESH_VALUES ∷ optional VARIABLES ∷ one COLON_MARK ∷ one EVENT ∷ repeated NEXT_EVENT ∷ one SEMICOLON_MARK ∷ []) ∷
    rule ITEM AIM (one AIM_NAME ∷ optional VARIABLES ∷ one COLON_MARK ∷ one PART ∷ repeated NEXT_PART ∷ one SEMICOLON_MARK ∷ []) ∷
    rule ITEM GRAMMAR (one GRAMMAR_NAME ∷ optional VARIABLES ∷ one COLON_MARK ∷ one TERM ∷ optional CONDITIONS ∷ repeated NEXT_PRODUCTION ∷ one SEMICOLON_MARK ∷ []) ∷
    rule FRESH_VALUES FRESH (one FRESH_VALUE ∷ repeated FRESH_VALUE ∷ []) ∷
    rule VARIABLES VARS (one VARIABLE ∷ repeated VARIABLE ∷ []) ∷
    rule VARIABLE NAME (one COLON_MARK ∷ one VARIABLE_SORT ∷ []) ∷
    rule EVENT PLUS (one TERM ∷ []) ∷
    rule EVENT MINUS (one TERM ∷ []) ∷
    rule NEXT_EVENT COMMA (one EVENT ∷ []) ∷
    rule PART KNOWN (one TERM ∷ []) ∷
    rule PART STRAND (one PART_STRAND ∷ one OPENING ∷ optional PARAMETERS ∷ one CLOSING ∷ one AT_WORD ∷ one BAR ∷ []) ∷
    rule NEXT_PART COMMA (one PART ∷ []) ∷
    rule PARAMETERS NAME (one EQUALS_MARK ∷ one TERM ∷ repeated NEXT_PARAMETER ∷ []) ∷
    rule NEXT_PARAMETER COMMA (one PARAMETER ∷ []) ∷
    rule PARAMETER NAME (one EQUALS_MARK ∷ one TERM ∷ []) ∷
    rule NEXT_PRODUCTION COMMA (one TERM ∷ optional CONDITIONS ∷ []) ∷
    rule CONDITIONS IF (one CONDITION ∷ repeated NEXT_CONDITION ∷ []) ∷
    rule NEXT_CONDITION AND (one CONDITION ∷ []) ∷
    rule CONDITION NAME (one DEMAND ∷ []) ∷
    rule DEMAND IN ([]) ∷
    rule DEMAND NOT (one EXCLUSION ∷ []) ∷
    rule EXCLUSION KNOWN ([]) ∷
    rule EXCLUSION NAME (optional ARGUMENTS ∷ []) ∷
    rule TERM NAME (optional ARGUMENTS ∷ []) ∷
    rule ARGUMENTS OPEN (one TERM ∷ repeated NEXT_ARGUMENT ∷ one CLOSING ∷ []) ∷
    rule NEXT_ARGUMENT COMMA (one TERM ∷ []) ∷
    rule PROTOCOL_NAME NAME ([]) ∷
    rule SORT_NAME NAME ([]) ∷
    rule LOWER_SORT NAME ([]) ∷
    rule UPPER_SORT NAME ([]) ∷
    rule OPERATOR_NAME NAME ([]) ∷
    rule ARGUMENT_SORT NAME ([]) ∷
    rule RESULT_SORT NAME ([]) ∷
    rule COMMUTATIVE COMM ([]) ∷
    rule STRAND_NAME NAME ([]) ∷
    rule FRESH_VALUE NAME ([]) ∷
    rule VARIABLE_SORT NAME ([]) ∷
    rule AIM_NAME NAME ([]) ∷
    rule PART_STRAND NAME ([]) ∷
    rule BAR NUMBER ([]) ∷
    rule GRAMMAR_NAME NAME ([]) ∷
    rule OPENING OPEN ([]) ∷
    rule CLOSING CLOSE ([]) ∷
    rule COLON_MARK COLON ([]) ∷
    rule SEMICOLON_MARK SEMICOLON ([]) ∷
    rule EQUALS_MARK EQUALS ([]) ∷
    rule LESS_MARK LESS ([]) ∷
    rule ARROW_MARK ARROW ([]) ∷
    rule AT_WORD AT ([]) ∷
    []

unfoldable pub module_language : Language
module_language = record { productions = module_rules; start = one MODULE ∷ []; nesting = ARGUMENTS; limit = 1200 }

-- A term, as it stands in a module.
abbrev pub term_rules : List Rule
term_rules =
    rule TERM NAME (optional ARGUMENTS ∷ []) ∷
    rule ARGUMENTS OPEN (one TERM ∷ repeated NEXT_ARGUMENT ∷ one CLOSING ∷ []) ∷
    rule NEXT_ARGUMENT COMMA (one TERM ∷ []) ∷
    rule CLOSING CLOSE ([]) ∷
    []

unfoldable pub term_language : Language
term_language = record { productions = term_rules; start = one TERM ∷ []; nesting = ARGUMENTS; limit = 1200 }

-- A run text: perhaps the word of a printed run, instances with their parameters, and a schedule.
abbrev pub run_rules : List Rule
run_rules =
    rule USED USE (one USED_STRAND ∷ repeated VALUE ∷ []) ∷
    rule VALUE NAME (one EQUALS_MARK ∷ one GROUND ∷ []) ∷
    rule GROUND NAME (optional GROUND_ARGUMENTS ∷ []) ∷
    rule GROUND FRESH_NAME ([]) ∷
    rule GROUND_ARGUMENTS OPEN (one GROUND ∷ repeated NEXT_GROUND ∷ one CLOSING ∷ []) ∷
    rule NEXT_GROUND COMMA (one GROUND ∷ []) ∷
    rule SCHEDULE DO (repeated STEP ∷ []) ∷
    rule STEP NUMBER ([]) ∷
    rule REACHED_WORD REACHED ([]) ∷
    rule USED_STRAND NAME ([]) ∷
    rule EQUALS_MARK EQUALS ([]) ∷
    rule CLOSING CLOSE ([]) ∷
    []

unfoldable pub run_language : Language
run_language = record { productions = run_rules; start = optional REACHED_WORD ∷ repeated USED ∷ one SCHEDULE ∷ []; nesting = GROUND_ARGUMENTS; limit = 1200 }
