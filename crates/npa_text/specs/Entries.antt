-- Texts in memory, found by their names.
use Rattle.std.specs.Prelude.{ℕ, ◌+◌, List, [], ◌∷◌, Option, Some, None, if◌then◌else◌}
use Rattle.std.specs.Str.{bytes_eq}
use Rattle.npa_text.specs.declared.memory.MemEntry.{MemEntry}
use Rattle.npa_text.specs.Counts.{one_more}

-- the first entry with the name
abbrev pub entry_of : List MemEntry → List ℕ → Option MemEntry
entry_of [] name = None
entry_of (e ∷ es) name = if bytes_eq e.name name then Some e else entry_of es name

-- the place of that entry, where the list's first one has the place i
abbrev pub place_from : ℕ → List MemEntry → List ℕ → Option ℕ
place_from i [] name = None
place_from i (e ∷ es) name = if bytes_eq e.name name then Some i else place_from (i + 1) es name

-- the list with the first entry of the name changed
abbrev pub changed : (MemEntry → MemEntry) → List MemEntry → List ℕ → List MemEntry
changed f [] name = []
changed f (e ∷ es) name = if bytes_eq e.name name then f e ∷ es else e ∷ changed f es name

-- an entry with one fault more
abbrev pub with_fault : MemEntry → MemEntry
with_fault e = record e { faults = one_more e.faults }

-- an entry with one more read that found it too long
abbrev pub with_long : MemEntry → MemEntry
with_long e = record e { longs = one_more e.longs }

-- the text of the entry, if there is one
abbrev pub text_in : Option MemEntry → Option (List ℕ)
text_in (Some e) = Some e.bytes
text_in None = None

-- its count of faults; without an entry it is the count of strange names
abbrev pub faults_in : Option MemEntry → ℕ → ℕ
faults_in (Some e) strange = e.faults
faults_in None strange = strange

-- its count of reads that found it too long
abbrev pub longs_in : Option MemEntry → ℕ
longs_in (Some e) = e.longs
longs_in None = 0
