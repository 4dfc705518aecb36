-- Lines and columns, as editors count them.
use Rattle.std.specs.Prelude.{ℕ, ◌==◌, ◌+◌, List, [], ◌∷◌, if◌then◌else◌}
use Rattle.npa_text.specs.declared.place.Place.{Place}

-- the place of the first byte of a text
abbrev pub first_place : Place
first_place = record { line = 1; col = 1 }

-- the place behind a byte that stands at p: a line feed ends its line
abbrev pub moved : ℕ → Place → Place
moved b p = if b == 10 then record { line = p.line + 1; col = 1 } else record { line = p.line; col = p.col + 1 }

-- the place behind bytes the first of which stands at p
abbrev pub moved_over : List ℕ → Place → Place
moved_over [] p = p
moved_over (b ∷ bs) p = moved_over bs (moved b p)

-- the place behind so many bytes of a line
abbrev pub along : ℕ → Place → Place
along n p = record { line = p.line; col = p.col + n }

-- the place behind the last byte of a text
abbrev pub end_place : List ℕ → Place
end_place bytes = moved_over bytes first_place
