-- The printed lines where a file holds no module, or the module no such aim.
use Rattle.std.specs.Prelude.{ℕ, List, ◌++◌, Option, None, Some, codes}
use Rattle.npa_limits.specs.Limits.{word_of_part}
use Rattle.npa_module.specs.declared.source.ReadError.{ReadError}
use Rattle.npa_module.specs.declared.source.ReadError.TheVariants as read_error
use Rattle.npa_outside.specs.Lines.{at_place, at_word, counted}

-- the text and the status where a module text is refused
abbrev pub refusal : ReadError → Option (List ℕ × ℕ)
refusal (read_error.Syntax line col) = Some (at_place (codes "refused syntax ") line col, 3)
refusal (read_error.Later line col) = Some (at_place (codes "refused later ") line col, 3)
refusal (read_error.Limit part n) = Some (counted (codes "limit ") (word_of_part part) n, 7)
refusal (read_error.Name name line col) = Some (at_word (codes "refused name ") name line col, 3)
refusal (read_error.Sort name line col) = Some (at_word (codes "refused sort ") name line col, 3)
refusal read_error.NoMemory = None

-- the text where a module has no such aim
abbrev pub refused_no_aim : List ℕ → List ℕ
refused_no_aim word = codes "refused no aim " ++ (word ++ codes "\n")
