-- The limits of a module text, read off its syntax trees.
use Rattle.std.specs.Prelude.{ℕ, ◌+◌, ◌-◌, ◌^◌, min, nat_lt, Bool, true, false, ◌==◌, ◌||◌, not, cond, List, [], ◌∷◌, ◌++◌, Option, Some, None, map, filter, length, codes}
use Rattle.std.specs.Option.{option_or, option_map}
use Rattle.npa_syntax.specs.declared.node.Terminal.{Terminal}
use Rattle.npa_syntax.specs.declared.node.Node.{Node}
use Rattle.npa_syntax.specs.Nodes.{children_of, fold_node}
use Rattle.npa_text.specs.declared.terminals.TheConstants as terminal
use Rattle.npa_text.specs.declared.symbols.TheConstants as symbol
use Rattle.npa_limits.specs.declared.part.LimitPart.{LimitPart}
use Rattle.npa_limits.specs.declared.part.LimitPart.TheVariants as part
use Rattle.npa_reading.specs.Trees.{all_with, listed, below, kind_of}
use Rattle.npa_limits.specs.Later.{items_of}

-- the word that names a part
abbrev pub word_of_part : LimitPart → List ℕ
word_of_part part.Sorts = codes "sorts"
word_of_part part.Ops = codes "ops"
word_of_part part.Args = codes "args"
word_of_part part.Equations = codes "equations"
word_of_part part.Strands = codes "strands"
word_of_part part.Events = codes "events"
word_of_part part.Params = codes "params"
word_of_part part.Aims = codes "aims"
word_of_part part.Parts = codes "parts"
word_of_part part.Grammars = codes "grammars"
word_of_part part.Productions = codes "productions"
word_of_part part.Conditions = codes "conditions"
word_of_part part.Symbols = codes "symbols"

-- A limit that is passed: of which part, and by what number.
abbrev pub Passed : Type 0
Passed = Option (LimitPart × ℕ)

-- the number as the answer has it: it stops at the greatest of 64 bits
abbrev pub saturated : ℕ → ℕ
saturated n = min n (2 ^ 64 - 1)

-- the number, where it passes the most of its part
abbrev pub past : LimitPart → ℕ → ℕ → Passed
past part most n = cond (nat_lt most n) (Some (part, saturated n)) None

-- the first that is passed
abbrev pub first_passed : List Passed → Passed
first_passed [] = None
first_passed (p ∷ ps) = option_or p (first_passed ps)

abbrev pub number : (Node → Bool) → List Node → ℕ
number p nodes = length (filter p nodes)

-- a limit that holds for items of a kind alone
abbrev pub where_is : Bool → Passed → Passed
where_is is p = cond is p None

-- ## What an item is

abbrev pub is_sort : Node → Bool
is_sort item = kind_of item == terminal.SORT

abbrev pub is_op : Node → Bool
is_op item = kind_of item == terminal.OP

abbrev pub is_eq : Node → Bool
is_eq item = kind_of item == terminal.EQ

-- a strand is honest or the intruder's
abbrev pub is_strand : Node → Bool
is_strand item = kind_of item == terminal.STRAND || kind_of item == terminal.INTRUDER

abbrev pub is_aim : Node → Bool
is_aim item = kind_of item == terminal.AIM

-- ## Symbols

abbrev pub total : List ℕ → ℕ
total [] = 0
total (n ∷ ns) = n + total ns

abbrev pub joined : List (List ℕ) → List ℕ
joined [] = []
joined (ns ∷ more) = ns ++ joined more

-- a term has one symbol more than the terms in it together; any other node has the terms below it
abbrev pub sizes_over : ℕ → Terminal → List (List ℕ) → List ℕ
sizes_over of head inside = cond (of == symbol.TERM) ((1 + total (joined inside)) ∷ []) (joined inside)

-- The numbers of symbols of the terms that a node has, in the order of the text: each occurrence of a
-- variable or an operator is a symbol (Baader, Nipkow 1998, on the size of a term).
abbrev pub sizes : Node → List ℕ
sizes node = fold_node sizes_over node

-- the same for a list of nodes
abbrev pub sizes_of : List Node → List ℕ
sizes_of nodes = joined (map sizes nodes)

-- ## What an item may have

abbrev pub args_of : Node → ℕ
args_of item = length (all_with symbol.ARGUMENT_SORT (children_of item))

abbrev pub events_of : Node → ℕ
events_of item = length (listed symbol.EVENT symbol.NEXT_EVENT (children_of item))

-- the variables and the fresh values
abbrev pub params_of : List Node → ℕ
params_of nodes =
    length (all_with symbol.VARIABLE (below symbol.VARIABLES nodes))
    + length (all_with symbol.FRESH_VALUE (below symbol.FRESH_VALUES nodes))

abbrev pub parts_of : Node → List Node
parts_of item = listed symbol.PART symbol.NEXT_PART (children_of item)

-- a part is a known term or else a strand
abbrev pub is_known : Node → Bool
is_known part = kind_of part == terminal.KNOWN

abbrev pub is_strand_part : Node → Bool
is_strand_part part = not (is_known part)

-- Behind so many strand parts and so many known parts: the kind of the first part with which there are
-- more than 32 strand parts, or more than 64 known ones; true stands for the known ones.
abbrev pub crowded : ℕ → ℕ → List Node → Option Bool
crowded strands known [] = None
crowded strands known (p ∷ ps) =
    cond (is_known p) (cond (nat_lt 64 (known + 1)) (Some true) (crowded strands (known + 1) ps))
    (cond (nat_lt 32 (strands + 1)) (Some false) (crowded (strands + 1) known ps))

-- the number of all parts of that kind
abbrev pub crowd : List Node → Bool → LimitPart × ℕ
crowd parts known = (part.Parts, saturated (cond known (number is_known parts) (number is_strand_part parts)))

-- ## What an item passes of a row

abbrev pub args_past : Node → Passed
args_past item = where_is (is_op item) (past part.Args 16 (args_of item))

abbrev pub events_past : Node → Passed
events_past item = where_is (is_strand item) (past part.Events 32 (events_of item))

abbrev pub params_past : Node → Passed
params_past item = where_is (is_strand item) (past part.Params 64 (params_of (children_of item)))

-- of its two numbers the one that is passed first
abbrev pub parts_past : Node → Passed
parts_past item = where_is (is_aim item) (option_map (crowd (parts_of item)) (crowded 0 0 (parts_of item)))

-- the messages of a strand together, and each term of an equation or an aim by itself
abbrev pub symbols_past : Node → Passed
symbols_past item =
    option_or (where_is (is_strand item) (past part.Symbols 1024 (total (sizes_of (children_of item)))))
    (where_is (is_eq item || is_aim item) (first_passed (map (past part.Symbols 1024) (sizes_of (children_of item)))))

-- what an item passes of a row that looks at one item after another
abbrev pub item_row : LimitPart → Node → Passed
item_row part.Args = args_past
item_row part.Events = events_past
item_row part.Params = params_past
item_row part.Parts = parts_past
item_row part.Symbols = symbols_past
item_row part.Sorts = λ item. None
item_row part.Ops = λ item. None
item_row part.Equations = λ item. None
item_row part.Strands = λ item. None
item_row part.Aims = λ item. None
item_row part.Grammars = λ item. None
item_row part.Productions = λ item. None
item_row part.Conditions = λ item. None

-- the items that a row counts
abbrev pub is_counted : LimitPart → Node → Bool
is_counted part.Sorts = is_sort
is_counted part.Ops = is_op
is_counted part.Equations = is_eq
is_counted part.Strands = is_strand
is_counted part.Aims = is_aim
is_counted part.Args = λ item. false
is_counted part.Events = λ item. false
is_counted part.Params = λ item. false
is_counted part.Parts = λ item. false
is_counted part.Grammars = λ item. false
is_counted part.Productions = λ item. false
is_counted part.Conditions = λ item. false
is_counted part.Symbols = λ item. false

-- ## The rows, in their order

abbrev pub rows : List Node → List Passed
rows items =
    past part.Sorts 256 (number is_sort items)
    ∷ past part.Ops 4096 (number is_op items)
    ∷ first_passed (map args_past items)
    ∷ past part.Equations 256 (number is_eq items)
    ∷ past part.Strands 1024 (number is_strand items)
    ∷ first_passed (map events_past items)
    ∷ first_passed (map params_past items)
    ∷ past part.Aims 256 (number is_aim items)
    ∷ first_passed (map parts_past items)
    ∷ first_passed (map symbols_past items)
    ∷ []

-- The limit of the first row that is passed, at the first item in the text that passes it.
abbrev pub limit_of : List Node → Passed
limit_of nodes = first_passed (rows (items_of nodes))
