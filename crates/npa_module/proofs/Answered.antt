-- A module that is answered is well formed.
use Rattle.std.proofs.Common.{◌≡◌, ℕ, ◌≤◌, List, Option, None, Some, Result, Ok, Err, length, refl, ⊎_elim, arith}
use Rattle.std.specs.Prelude.{IfOk}
use Rattle.std.specs.Option.{option_map}
use Rattle.npa_syntax.specs.declared.node.Node.{Node}
use Rattle.npa_text.specs.declared.token.Token.{Token}
use Rattle.npa_text.specs.Languages.{module_language}
use Rattle.npa_text.specs.Parses.{IsParse, terminals_of}
use Rattle.npa_text.proofs.Fronts.{few as few_tokens, terminals_length}
use Rattle.npa_text.specs.declared.fault.TextFault.{TextFault}
use Rattle.npa_text.specs.declared.fault.TextFault.TheVariants.{Syntax, NoMemory}
use Rattle.npa_module.specs.declared.source.Source.{Source}
use Rattle.npa_limits.specs.declared.part.LimitPart.{LimitPart}
use Rattle.npa_module.specs.declared.source.ReadError.{ReadError}
use Rattle.npa_reading.specs.Reading.{unless}
use Rattle.npa_limits.specs.Later.{later_of}
use Rattle.npa_limits.specs.Limits.{limit_of}
use Rattle.npa_reading.specs.Verdicts.{stops, parsed, text_refusal as refusal_of_text}
use Rattle.npa_module.specs.Modules.{Reads, IsRead, module_reader, text_refusal, later_refusal, limit_refusal, source_of, verdict}
use Rattle.npa_module.specs.Forms.{IsWellFormedSource, IsPlainSource, IsNamedSource, IsWithinSource, IsSmallSource}
use Rattle.npa_module.proofs.Counting.{all_count, nodes_fit}
use Rattle.npa_module.proofs.Words.{plain_below}
use Rattle.npa_module.proofs.PlainModules.{source_plain}
use Rattle.npa_module.proofs.RuledModules.{IsRuledSource, source_ruled}
use Rattle.npa_module.proofs.Growth.{ok_unless}
use Rattle.npa_module.proofs.Formed.{none_unless}
use Rattle.npa_module.proofs.FormedModules.{source_formed}
use Rattle.npa_module.proofs.AimParts.{parts_there}

none_mapped : (o : Option (LimitPart × ℕ)) → option_map limit_refusal o ≡ None → o ≡ None
none_mapped None e = refl
none_mapped (Some p) e = absurd (cc)

-- the module of trees that was answered
record IsOf (bytes : List ℕ) (tokens : List Token) (nodes : List Node) (source : Source) : Type 0 where
  within : limit_of nodes ≡ None
  read : source_of bytes tokens nodes ≡ Ok source

of_trees : (bytes : List ℕ) (tokens : List Token) (nodes : List Node) (source : Source) → verdict bytes tokens nodes ≡ Ok source → IsOf bytes tokens nodes source
of_trees bytes tokens nodes source e =
    let behind : unless (option_map limit_refusal (limit_of nodes)) (source_of bytes tokens nodes) ≡ Ok source =
    ok_unless (option_map later_refusal (later_of tokens nodes)) (unless (option_map limit_refusal (limit_of nodes)) (source_of bytes tokens nodes)) source e in
    record {
      within = none_mapped (limit_of nodes) (none_unless (option_map limit_refusal (limit_of nodes)) (source_of bytes tokens nodes) source behind);
      read = ok_unless (option_map limit_refusal (limit_of nodes)) (source_of bytes tokens nodes) source behind;
    }

reads_formed : {bytes : List ℕ} {r : Result Source ReadError} → Reads bytes r → (source : Source) → r ≡ Ok source → IsWellFormedSource source
reads_formed (stops line col fault) source e = absurd (cc)
reads_formed {bytes = bytes} (parsed tokens nodes parse) source e =
    let o = of_trees bytes tokens nodes source e in
    source_formed bytes tokens nodes source o.within (parts_there bytes tokens nodes parse) o.read

-- a text of few bytes has few nodes
few_nodes : {bytes : List ℕ} {tokens : List Token} {nodes : List Node} → IsParse module_language bytes tokens nodes → length bytes ≤ 1048576 → all_count nodes ≤ 1048576
few_nodes {bytes = bytes} {tokens = tokens} parse short =
    let few : length tokens ≤ 1048576 = few_tokens bytes tokens tokens None parse.lexes refl short in
    let many : length (terminals_of bytes tokens) ≡ length tokens = terminals_length 0 bytes tokens in
    omega (arith, nodes_fit parse.text, few, many)

reads_plain : {bytes : List ℕ} {r : Result Source ReadError} → Reads bytes r → length bytes ≤ 1048576 → (source : Source) → r ≡ Ok source → IsPlainSource source
reads_plain (stops line col fault) short source e = absurd (cc)
reads_plain {bytes = bytes} (parsed tokens nodes parse) short source e =
    let o = of_trees bytes tokens nodes source e in
    source_plain bytes tokens (plain_below bytes tokens nodes parse) nodes source (few_nodes parse short) o.within
    (reads_formed (parsed tokens nodes parse) source e) o.read

reads_ruled : {bytes : List ℕ} {r : Result Source ReadError} → Reads bytes r → length bytes ≤ 1048576 → (source : Source) → r ≡ Ok source → IsRuledSource source
reads_ruled (stops line col fault) short source e = absurd (cc)
reads_ruled {bytes = bytes} (parsed tokens nodes parse) short source e =
    let o = of_trees bytes tokens nodes source e in
    source_ruled bytes tokens nodes source parse (few_nodes parse short) (plain_below bytes tokens nodes parse) o.within o.read

pub formed_answer : (bytes : List ℕ) (result : Result Source ReadError) → IsRead bytes result → IfOk result IsWellFormedSource
formed_answer bytes (Ok source) is = ⊎_elim (λ e. absurd (cc)) (λ reads. reads_formed reads source refl) is
formed_answer bytes (Err e) is = tt

pub plain_answer : (bytes : List ℕ) (result : Result Source ReadError) → length bytes ≤ 1048576 → IsRead bytes result → IfOk result IsPlainSource
plain_answer bytes (Ok source) short is = ⊎_elim (λ e. absurd (cc)) (λ reads. reads_plain reads short source refl) is
plain_answer bytes (Err e) short is = tt

pub named_answer : (bytes : List ℕ) (result : Result Source ReadError) → length bytes ≤ 1048576 → IsRead bytes result → IfOk result IsNamedSource
named_answer bytes (Ok source) short is = ⊎_elim (λ e. absurd (cc)) (λ reads. (reads_ruled reads short source refl).named) is
named_answer bytes (Err e) short is = tt

pub within_answer : (bytes : List ℕ) (result : Result Source ReadError) → length bytes ≤ 1048576 → IsRead bytes result → IfOk result IsWithinSource
within_answer bytes (Ok source) short is = ⊎_elim (λ e. absurd (cc)) (λ reads. (reads_ruled reads short source refl).within) is
within_answer bytes (Err e) short is = tt

pub small_answer : (bytes : List ℕ) (result : Result Source ReadError) → length bytes ≤ 1048576 → IsRead bytes result → IfOk result IsSmallSource
small_answer bytes (Ok source) short is = ⊎_elim (λ e. absurd (cc)) (λ reads. (reads_ruled reads short source refl).small) is
small_answer bytes (Err e) short is = tt

-- the refusal of a text that isn't a module is that of its reader
pub same_refusal : (bytes : List ℕ) (fault : TextFault) → text_refusal fault ≡ refusal_of_text (module_reader bytes) fault
same_refusal bytes (Syntax line col) = refl
same_refusal bytes NoMemory = refl
