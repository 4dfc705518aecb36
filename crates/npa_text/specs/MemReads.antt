-- What reads of texts in memory answer, and what they count.
use Rattle.std.specs.Prelude.{ℕ, ◌≡◌, ◌==◌, Bool, true, false, nat_lt, List, [], length, Option, Some, None, Result, Ok, Err, IsOk, if◌then◌else◌}
use Rattle.std.specs.List.{list_any}
use Rattle.npa_text.specs.declared.memory.MemEntry.{MemEntry}
use Rattle.npa_text.specs.declared.memory.MemFiles.{MemFiles}
use Rattle.npa_text.specs.declared.outside.ReadFail.{ReadFail}
use Rattle.npa_text.specs.declared.outside.ReadFail.TheVariants.{Fault, TooLong, NoMemory}
use Rattle.npa_text.specs.Counts.{one_more}
use Rattle.npa_text.specs.Entries.{entry_of, with_fault, with_long, changed}

-- the call with this number is to fail
abbrev pub is_marked : List ℕ → ℕ → Bool
is_marked failing call = list_any (λ mark. mark == call) failing

-- more bytes than a text may have
abbrev pub is_long : MemEntry → Bool
is_long e = nat_lt 1048576 (length e.bytes)

-- what a read answers, given the name's entry and whether the call is to fail
abbrev pub answer_at : Option MemEntry → Bool → Result (List ℕ) ReadFail
answer_at None marked = Err Fault
answer_at (Some e) true = Err Fault
answer_at (Some e) false = if is_long e then Err TooLong else Ok e.bytes

abbrev pub answer_of : MemFiles → List ℕ → Result (List ℕ) ReadFail
answer_of s name = answer_at (entry_of s.files name) (is_marked s.failing (one_more s.calls))

-- what a read counts: a name without an entry, a fault, or a text that is too long
abbrev pub counted : Option MemEntry → Bool → MemFiles → List ℕ → MemFiles
counted None marked s name = record s { strange = one_more s.strange }
counted (Some e) true s name = record s { files = changed with_fault s.files name }
counted (Some e) false s name = if is_long e then record s { files = changed with_long s.files name } else s

abbrev pub after_read : MemFiles → List ℕ → MemFiles
after_read s name =
    counted (entry_of s.files name) (is_marked s.failing (one_more s.calls)) (record s { calls = one_more s.calls }) name

-- the result, with what the vector holds then, is this answer; only in place of a text memory may be
-- wanting
abbrev pub IsRead : Result (Unit {0}) ReadFail → List ℕ → Result (List ℕ) ReadFail → Type 0
IsRead (Ok _) into answer = answer ≡ Ok into
IsRead (Err NoMemory) into answer = (into ≡ []) × IsOk answer
IsRead (Err Fault) into answer = (into ≡ []) × (answer ≡ Err Fault)
IsRead (Err TooLong) into answer = (into ≡ []) × (answer ≡ Err TooLong)
