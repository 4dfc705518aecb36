-- A row of the table of reserved words, as contracts see it.
use Rattle.std.specs.Prelude.{ℕ, List}
use Rattle.npa_text.specs.declared.words.ReservedWord.{ReservedWord}

abbrev pub plain : ReservedWord → List ℕ × ℕ
plain row = (row.text.now, row.terminal)
