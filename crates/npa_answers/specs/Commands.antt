-- The words of a command line: which command they ask for, with its numbers.
use Rattle.std.specs.Prelude.{ℕ, ◌+◌, ◌==◌, List, [], ◌∷◌, ◌++◌, Option, None, Some, codes, cond, length, map, slice_get, unwrap_or}
use Rattle.std.specs.Option.{option_map, option_and_then}
use Rattle.std.specs.Str.{bytes_eq}
use Rattle.npa_text.specs.Numerals.{numeral_in}
use Rattle.npa_answers.specs.declared.commands.Command.{Command}
use Rattle.npa_answers.specs.declared.commands.Command.TheVariants as command

-- the word at a place
abbrev pub word_at : List (List ℕ) → ℕ → List ℕ
word_at words k = unwrap_or (slice_get words k) []

-- ## Options

-- an option: its word, the least and the greatest number behind it, and the number where it isn't given
pub record OptionRow : Type 0 where
  pub word : List ℕ
  pub least : ℕ
  pub most : ℕ
  pub usual : ℕ

abbrev pub budget : OptionRow
budget = record { word = codes "--budget"; least = 0; most = 100000; usual = 10000 }

abbrev pub workers : OptionRow
workers = record { word = codes "--workers"; least = 1; most = 16; usual = 4 }

-- the number of an option that may stand at a place, and the place behind it
abbrev pub option_at : List (List ℕ) → OptionRow → ℕ → Option (ℕ × ℕ)
option_at words row at =
    cond (bytes_eq (word_at words at) row.word)
    (option_map (λ n. (n, at + 2)) (numeral_in row.least row.most (word_at words (at + 1))))
    (Some (row.usual, at))

-- ## Commands

-- a command that has so many words, its own among them
abbrev pub with_words : ℕ → Command → List (List ℕ) → Option Command
with_words count command words = cond (length words == count) (Some command) None

-- a command that ends behind its last option
abbrev pub ended : List (List ℕ) → Command → ℕ → Option Command
ended words command at = cond (at == length words) (Some command) None

abbrev pub search_of : List (List ℕ) → Option Command
search_of words =
    option_and_then (λ b. option_and_then (λ w. ended words (command.Search b.0 w.0) w.1) (option_at words workers b.1))
    (option_at words budget 3)

abbrev pub gen_of : List (List ℕ) → Option Command
gen_of words =
    option_and_then (λ n. option_and_then (λ w. ended words (command.Gen n w.0) w.1) (option_at words workers 2))
    (numeral_in 1 1000 (word_at words 1))

-- a row of the usage line: the word of a command, how the words behind it are told, and what is read
pub record CommandRow : Type 0 where
  pub word : List ℕ
  pub behind : List ℕ
  pub read : List (List ℕ) → Option Command

-- the commands, in the order of the usage line
abbrev pub commands : List CommandRow
commands =
    record { word = codes "check"; behind = codes " FILE"; read = with_words 2 command.Check }
    ∷ record { word = codes "search"; behind = codes " FILE AIM [--budget N] [--workers N]"; read = search_of }
    ∷ record { word = codes "verify"; behind = codes " FILE AIM CERT"; read = with_words 4 command.Verify }
    ∷ record { word = codes "replay"; behind = codes " FILE AIM RUN"; read = with_words 4 command.Replay }
    ∷ record { word = codes "gen"; behind = codes " N [--workers N]"; read = gen_of }
    ∷ []

-- the command of the first row whose word is this one
abbrev pub read_by : List CommandRow → List ℕ → List (List ℕ) → Option Command
read_by [] word words = None
read_by (row ∷ rows) word words = cond (bytes_eq word row.word) (row.read words) (read_by rows word words)

-- The command that the words ask for. FILE, AIM and the third name are the words 1, 2 and 3.
unfoldable pub command_of : List (List ℕ) → Option Command
command_of words = read_by commands (word_at words 0) words

-- ## The usage line

-- the rows, parted by bars
abbrev pub told_rows : List CommandRow → List ℕ
told_rows [] = []
told_rows (row ∷ []) = row.word ++ row.behind
told_rows (row ∷ next ∷ rows) = row.word ++ (row.behind ++ (codes " | " ++ told_rows (next ∷ rows)))

unfoldable pub usage_line : List ℕ
usage_line = codes "usage: npa " ++ (told_rows commands ++ codes "\n")
