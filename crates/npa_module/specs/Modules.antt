-- Module texts: which bytes stand for which module, and which refusal other bytes have.
use Rattle.std.specs.Prelude.{ℕ, List, Result, Ok}
use Rattle.std.specs.Option.{option_map}
use Rattle.npa_syntax.specs.declared.node.Node.{Node}
use Rattle.npa_text.specs.declared.token.Token.{Token}
use Rattle.npa_text.specs.declared.fault.TextFault.{TextFault}
use Rattle.npa_text.specs.declared.fault.TextFault.TheVariants as text_fault
use Rattle.npa_text.specs.declared.symbols.TheConstants as symbol
use Rattle.npa_text.specs.Languages.{module_language}
use Rattle.npa_module.specs.declared.source.Source.{Source}
use Rattle.npa_limits.specs.declared.part.LimitPart.{LimitPart}
use Rattle.npa_module.specs.declared.source.ReadError.{ReadError}
use Rattle.npa_module.specs.declared.source.ReadError.TheVariants as read_error
use Rattle.npa_reading.specs.Trees.{word_of, below}
use Rattle.npa_module.specs.declared.draft.Draft.{Draft}
use Rattle.npa_module.specs.Drafts.{nothing}
use Rattle.npa_limits.specs.Later.{items_of, later_of}
use Rattle.npa_limits.specs.Limits.{limit_of}
use Rattle.npa_reading.specs.Reading.{unless, then_read}
use Rattle.npa_reading.specs.Verdicts.{Reader, ReadsAs, AnswersText, OnlyAnswersText}
use Rattle.npa_module.specs.Items.{items_read}

-- what the items have declared, as a module of a name
abbrev pub finished : List ℕ → Draft → Result Source ReadError
finished name d = Ok (record { name = name; protocol = record { sig = d.sig; equations = d.equations; strands = d.strands.list }; aims = d.aims.list })

-- the module of a text's trees, or the first word that breaks a rule on names or sorts
abbrev pub source_of : List ℕ → List Token → List Node → Result Source ReadError
source_of bytes tokens nodes =
    then_read (finished (word_of bytes tokens symbol.PROTOCOL_NAME (below symbol.MODULE nodes))) (items_read bytes tokens nothing (items_of nodes))

-- the refusal of a text that isn't one of the grammar's
abbrev pub text_refusal : TextFault → ReadError
text_refusal (text_fault.Syntax line col) = read_error.Syntax line col
text_refusal text_fault.NoMemory = read_error.NoMemory

abbrev pub later_refusal : ℕ × ℕ → ReadError
later_refusal place = read_error.Later place.0 place.1

abbrev pub limit_refusal : LimitPart × ℕ → ReadError
limit_refusal passed = read_error.Limit passed.0 passed.1

-- Of a text's trees: the first item that isn't read so far, or else the first limit that is passed, or
-- else what the items declare or refuse.
abbrev pub verdict : List ℕ → List Token → List Node → Result Source ReadError
verdict bytes tokens nodes =
    unless (option_map later_refusal (later_of tokens nodes))
    (unless (option_map limit_refusal (limit_of nodes)) (source_of bytes tokens nodes))

-- how a module text is read
abbrev pub module_reader : List ℕ → Reader Source ReadError
module_reader bytes = record { stop = read_error.Syntax; wanting = read_error.NoMemory; verdict = verdict bytes }

-- What bytes are read as: bytes that are no text of the grammar have the first place at which no text
-- can go on, and others the verdict on their trees.
abbrev pub Reads : List ℕ → Result Source ReadError → Type 0
Reads bytes read = ReadsAs module_language (module_reader bytes) bytes read

-- the bytes stand for a module
abbrev pub IsModule : List ℕ → Source → Type 0
IsModule bytes source = Reads bytes (Ok source)

-- the answer is what the bytes are read as, unless memory was wanting
abbrev pub IsRead : List ℕ → Result Source ReadError → Type 0
IsRead bytes answer = AnswersText module_language (module_reader bytes) bytes answer

-- whatever the bytes are read as is answered, unless memory was wanting; so they are read as one thing
abbrev pub AnswersModule : List ℕ → Result Source ReadError → Type 0
AnswersModule bytes answer = OnlyAnswersText module_language (module_reader bytes) bytes answer
