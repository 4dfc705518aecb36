-- What the bytes of a text are read as in a language, over any verdict on a text's trees.
use Rattle.std.specs.Prelude.{◌≡◌, ◌⊎◌, ℕ, List, Result, Ok, Err}
use Rattle.npa_syntax.specs.declared.node.Node.{Node}
use Rattle.npa_syntax.specs.Languages.{Language}
use Rattle.npa_text.specs.declared.token.Token.{Token}
use Rattle.npa_text.specs.declared.fault.TextFault.{TextFault}
use Rattle.npa_text.specs.declared.fault.TextFault.TheVariants.{Syntax, NoMemory}
use Rattle.npa_text.specs.Parses.{IsParse, IsFirstFault}
use Rattle.npa_reading.specs.Reading.{Gives}

-- How a language is read: the refusal of a place at which no text goes on, that for want of memory, and
-- the verdict on the trees of a text.
pub record Reader (A E : Type 0) : Type 0 where
  pub stop : ℕ → ℕ → E
  pub wanting : E
  pub verdict : List Token → List Node → Result A E

-- the refusal of a text that isn't one of the language
abbrev pub text_refusal : {A E : Type 0} → Reader A E → TextFault → E
text_refusal reader (Syntax line col) = reader.stop line col
text_refusal reader NoMemory = reader.wanting

-- Bytes that are no text of the language are read as the first place at which none goes on (the
-- viable-prefix property: Aho, Sethi, Ullman 1986), and others as the verdict on their trees.
pub data ReadsAs {A E : Type 0} (language : Language) (reader : Reader A E) (bytes : List ℕ) : Result A E → Type 0 where
  stops : (line col : ℕ) → IsFirstFault language bytes line col → ReadsAs language reader bytes (Err (reader.stop line col))
  parsed : (tokens : List Token) (nodes : List Node) → IsParse language bytes tokens nodes → ReadsAs language reader bytes (reader.verdict tokens nodes)

-- the answer is what the bytes are read as, unless memory was wanting
abbrev pub AnswersText : {A E : Type 0} → Language → Reader A E → List ℕ → Result A E → Type 0
AnswersText language reader bytes answer = (answer ≡ Err reader.wanting) ⊎ ReadsAs language reader bytes answer

-- whatever the bytes are read as is answered, unless memory was wanting; so they are read as one thing
abbrev pub OnlyAnswersText : {A E : Type 0} → Language → Reader A E → List ℕ → Result A E → Type 0
OnlyAnswersText {A} {E} language reader bytes answer = (other : Result A E) → ReadsAs language reader bytes other → Gives reader.wanting answer other
