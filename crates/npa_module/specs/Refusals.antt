-- Refusals of a module text, and what is read of it where nothing is refused.
use Rattle.std.specs.Prelude.{ℕ, List, Result}
use Rattle.npa_text.specs.declared.token.Token.{Token}
use Rattle.npa_reading.specs.Reading.{at_word, Tells as TellsOver, Refuses as RefusesOver, Gives as GivesOver}
use Rattle.npa_sig.specs.declared.fault.UseFail.{UseFail}
use Rattle.npa_sig.specs.declared.fault.UseFail.TheVariants as use_fail
use Rattle.npa_module.specs.declared.source.ReadError.{ReadError}
use Rattle.npa_module.specs.declared.source.ReadError.TheVariants as read_error

-- the refusal of a word as a name
abbrev pub name_refusal : List ℕ → Token → ReadError
name_refusal bytes token = at_word read_error.Name bytes token

-- the refusal of a word for its sort
abbrev pub sort_refusal : List ℕ → Token → ReadError
sort_refusal bytes token = at_word read_error.Sort bytes token

-- a refusal of a term's word
abbrev pub use_refusal : UseFail → ReadError
use_refusal (use_fail.Name name line col) = read_error.Name name line col
use_refusal (use_fail.Sort name line col) = read_error.Sort name line col
use_refusal use_fail.NoMemory = read_error.NoMemory

-- this refusal, unless memory was wanting
abbrev pub Tells : ReadError → ReadError → Type 0
Tells e wanted = TellsOver read_error.NoMemory e wanted

-- this refusal is to be answered, unless memory was wanting
abbrev pub Refuses : {A : Type 0} → ReadError → Result A ReadError → Type 0
Refuses e wanted = RefusesOver read_error.NoMemory e wanted

-- the answer is this one, unless memory was wanting
abbrev pub Gives : {A : Type 0} → Result A ReadError → Result A ReadError → Type 0
Gives answer wanted = GivesOver read_error.NoMemory answer wanted
