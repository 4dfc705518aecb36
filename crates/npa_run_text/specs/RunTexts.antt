-- Run texts: which run of a protocol bytes stand for, or where they break the grammar of runs or a
-- rule on names and sorts.
use Rattle.std.specs.Prelude.{◌≡◌, ℕ, Bool, ◌==◌, cond, List, [], ◌∷◌, Option, None, Some, Result, Ok, Err, map, length, slice_get}
use Rattle.std.specs.Option.{option_map_or, option_and_then}
use Rattle.std.specs.Str.{bytes_eq}
use Rattle.std.specs.Cmp.Lexicographic.{pointwise}
use Rattle.npa_names.specs.Names.{place_of}
use Rattle.npa_syntax.specs.declared.node.Node.{Node}
use Rattle.npa_syntax.specs.Nodes.{children_of}
use Rattle.npa_text.specs.declared.token.Token.{Token}
use Rattle.npa_text.specs.declared.fault.TextFault.{TextFault}
use Rattle.npa_text.specs.declared.fault.TextFault.TheVariants as text_fault
use Rattle.npa_text.specs.declared.symbols.TheConstants as symbol
use Rattle.npa_text.specs.Languages.{run_language}
use Rattle.npa_text.specs.Raws.{raw_of, token_at}
use Rattle.npa_text.specs.Texts.{text_of, number_of}
use Rattle.npa_term.specs.declared.term.Term.{Term}
use Rattle.npa_term.specs.declared.term.Term.TheVariants.{Name}
use Rattle.npa_sig.specs.Meaning.{read}
use Rattle.npa_sig.specs.declared.fault.UseFail.{UseFail}
use Rattle.npa_sig.specs.declared.fault.UseFail.TheVariants as use_fail
use Rattle.npa_sig.specs.declared.protocol.Strand.{Strand}
use Rattle.npa_sig.specs.declared.protocol.Protocol.{Protocol}
use Rattle.npa_model.specs.declared.run.Instance.{Instance}
use Rattle.npa_model.specs.declared.run.Run.{Run}
use Rattle.npa_reading.specs.Reading.{at_word, mapped, then_read, all_read, found_or, Tells as TellsOver, Gives as GivesOver}
use Rattle.npa_reading.specs.Trees.{all_with, below, word_at, child_for}
use Rattle.npa_reading.specs.Verdicts.{Reader, ReadsAs, AnswersText, OnlyAnswersText}
use Rattle.npa_run_text.specs.declared.fault.RunTextFail.{RunTextFail}
use Rattle.npa_run_text.specs.declared.fault.RunTextFail.TheVariants as run_fail
use Rattle.npa_run_text.specs.declared.strand_table.StrandTable.{StrandTable}

-- ## Strands and parameters

-- the place of the first strand of a name
abbrev pub strand_of : List ℕ → List Strand → Option ℕ
strand_of name strands = place_of name (map (λ strand. strand.name) strands)

-- the strand that a table has for a name
abbrev pub found_in : StrandTable → List ℕ → Option ℕ
found_in table name = option_and_then (slice_get table.places.items) (place_of name table.names)

-- the table has for each name the first strand of that name
abbrev pub IsTableOf : List Strand → StrandTable → Type 0
IsTableOf strands table = (name : List ℕ) → found_in table name ≡ strand_of name strands

-- the same names in the same order
abbrev pub same_names : List (List ℕ) → List (List ℕ) → Bool
same_names names others = pointwise bytes_eq names others

-- the terms, or else one term for no parameters and none for some
abbrev pub chosen : Bool → ℕ → List Term → List Term
chosen named params terms = cond named terms (cond (params == 0) (Name 0 ∷ []) [])

-- The terms of an instance of a strand with these parameters. Where the names aren't those of the
-- parameters, each once and in order, a list of a wrong length stands for them.
abbrev pub args_of : List (List ℕ) → List (List ℕ) → List Term → List Term
args_of params names terms = chosen (same_names names params) (length params) terms

-- the names of a strand's parameters
abbrev pub params_at : Protocol → ℕ → List (List ℕ)
params_at protocol k = option_map_or (λ strand. strand.names) (slice_get protocol.strands k) []

-- ## Refusals

-- the refusal of a term's word
abbrev pub refusal_of : UseFail → RunTextFail
refusal_of (use_fail.Name name line col) = run_fail.Name name line col
refusal_of (use_fail.Sort name line col) = run_fail.Sort name line col
refusal_of use_fail.NoMemory = run_fail.NoMemory

abbrev pub term_or : Result Term UseFail → Result Term RunTextFail
term_or (Ok t) = Ok t
term_or (Err e) = Err (refusal_of e)

-- the refusal of a text that isn't one of the grammar
abbrev pub fail_of : TextFault → RunTextFail
fail_of (text_fault.Syntax line col) = run_fail.Syntax line col
fail_of text_fault.NoMemory = run_fail.NoMemory

-- the refusal of a token's word as a name
abbrev pub unknown : List ℕ → Token → RunTextFail
unknown bytes token = at_word run_fail.Name bytes token

-- ## The trees of a run

-- the number with which a node begins
abbrev pub step_at : List ℕ → List Token → Node → ℕ
step_at bytes tokens node = number_of bytes (token_at tokens node)

module _ (bytes : List ℕ) (tokens : List Token) (protocol : Protocol) where
  -- the ground term that is the value of a parameter
  abbrev pub value_read : Node → Result Term RunTextFail
  value_read node = term_or (read protocol.sig [] bytes (raw_of tokens (child_for symbol.GROUND node)))

  abbrev pub values_read : List Node → Result (List Term) RunTextFail
  values_read nodes = all_read (map value_read nodes)

  -- the strand of an instance's name
  abbrev pub strand_read : Token → Result ℕ RunTextFail
  strand_read name = found_or (unknown bytes name) (strand_of (text_of bytes name) protocol.strands)

  abbrev pub instance_with : List Node → ℕ → List Term → Instance
  instance_with values k terms = record { strand = k; args = args_of (params_at protocol k) (map (word_at bytes tokens) values) terms }

  abbrev pub instance_of : List Node → ℕ → Result Instance RunTextFail
  instance_of values k = mapped (instance_with values k) (values_read values)

  -- an instance: the strand of its name, then the values of its parameters in order
  abbrev pub instance_read : Node → Result Instance RunTextFail
  instance_read node = then_read (instance_of (all_with symbol.VALUE (children_of node))) (strand_read (token_at tokens (child_for symbol.USED_STRAND node)))

  abbrev pub instances_read : List Node → Result (List Instance) RunTextFail
  instances_read nodes = all_read (map instance_read nodes)

  abbrev pub run_with : List Node → List Instance → Run
  run_with nodes instances = record { instances = instances; schedule = map (step_at bytes tokens) (all_with symbol.STEP (below symbol.SCHEDULE nodes)) }

  -- the run of a text's trees: its instances in order, and the numbers of its schedule
  abbrev pub run_of : List Node → Result Run RunTextFail
  run_of nodes = mapped (run_with nodes) (instances_read (all_with symbol.USED nodes))

-- ## Run texts

-- how a run text is read
abbrev pub run_reader : Protocol → List ℕ → Reader Run RunTextFail
run_reader protocol bytes = record { stop = run_fail.Syntax; wanting = run_fail.NoMemory; verdict = λ tokens nodes. run_of bytes tokens protocol nodes }

-- What bytes stand for: where they are no text of the grammar of runs, the first place at which none
-- goes on; else their trees' run, or the first word, in the order of the text, that names no strand or
-- operator or whose arguments don't fit it.
abbrev pub ReadsRun : Protocol → List ℕ → Result Run RunTextFail → Type 0
ReadsRun protocol bytes read = ReadsAs run_language (run_reader protocol bytes) bytes read

-- the refusal is this one, unless memory was wanting
abbrev pub Tells : RunTextFail → RunTextFail → Type 0
Tells fail wanted = TellsOver run_fail.NoMemory fail wanted

-- the answer is this one, unless memory was wanting
abbrev pub Gives : {A : Type 0} → Result A RunTextFail → Result A RunTextFail → Type 0
Gives answer wanted = GivesOver run_fail.NoMemory answer wanted

-- the answer is what the bytes stand for, unless memory was wanting
abbrev pub AnswersRun : Protocol → List ℕ → Result Run RunTextFail → Type 0
AnswersRun protocol bytes answer = AnswersText run_language (run_reader protocol bytes) bytes answer

-- whatever the bytes stand for is answered, unless memory was wanting; so they stand for one thing
abbrev pub OnlyRun : Protocol → List ℕ → Result Run RunTextFail → Type 0
OnlyRun protocol bytes answer = OnlyAnswersText run_language (run_reader protocol bytes) bytes answer
