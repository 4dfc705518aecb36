-- What printed lines have in common. Each ends with a line feed.
use Rattle.std.specs.Prelude.{ℕ, List, ◌++◌, codes}
use Rattle.std.specs.Fmt.{decimal}

-- a file that is too long
abbrev pub limit_bytes : List ℕ
limit_bytes = codes "limit bytes 1048576\n"

-- a word and a number
abbrev pub numbered : List ℕ → ℕ → List ℕ
numbered word n = word ++ decimal n

-- some words, then a line and a column
abbrev pub at_place : List ℕ → ℕ → ℕ → List ℕ
at_place words line col = numbered words line ++ (numbered (codes ":") col ++ codes "\n")

-- some words, the word at fault, its line and column
abbrev pub at_word : List ℕ → List ℕ → ℕ → ℕ → List ℕ
at_word words name line col = at_place (words ++ (name ++ codes " ")) line col

-- some words, what is counted, and how many there are
abbrev pub counted : List ℕ → List ℕ → ℕ → List ℕ
counted words part n = numbered (words ++ (part ++ codes " ")) n ++ codes "\n"
