-- What the functions of the search answer, told of the search as it is defined. Want of memory tells
-- nothing.
use Rattle.std.specs.Prelude.{◌≡◌, ⊤, ℕ, false, Some, Result, Ok, Err, List, map, slice_get, take}
use Rattle.std.specs.Borrow.{Bor}
use Rattle.npa_term.specs.declared.term.Var.{Var as Variable}
use Rattle.npa_term.specs.declared.term.Term.{Term}
use Rattle.npa_term.specs.Numbering.{is_listed}
use Rattle.npa_variants.specs.declared.error.VarFail.{VarFail}
use Rattle.npa_variants.specs.declared.error.VarFail.TheVariants as fail
use Rattle.npa_variants.specs.declared.kept.Kept.{Kept as FoundKept}
use Rattle.npa_variants.specs.declared.kept.Stop.{Stop as FoundStop}
use Rattle.npa_variants.specs.declared.kept.Stop.TheVariants as stop
use Rattle.npa_variants.specs.declared.variant.Variant.{Variant}
use Rattle.npa_variants.specs.Rows.{Row}
use Rattle.npa_variants.specs.Search.{Kept, Stop, symbols, too_many, unifiers}
use Rattle.npa_variants.specs.Variants.{variant_of}

-- The terms that references stand for.
abbrev pub seen : List (Bor Term) → List Term
seen ts = map (λ t. t.now) ts

-- Variables of which none stands twice.
abbrev pub AreDistinct : List Variable → Type 0
AreDistinct vs = (i : ℕ) (v : Variable) → slice_get vs i ≡ Some v → is_listed (take i vs) v ≡ false

-- The kept rows of the search.
abbrev pub as_kept : FoundKept → Kept
as_kept k = record { old = k.old; new = k.new }

-- An answer is this one of the search, with its value seen by a function.
abbrev pub GivesAs : {S T : Type 0} → (S → T) → Result S FoundStop → Result T Stop → Type 0
GivesAs see (Ok k) r = r ≡ Ok (see k)
GivesAs see (Err (stop.TooMany rows)) r = r ≡ Err (too_many rows)
GivesAs see (Err stop.Unifiers) r = r ≡ Err unifiers
GivesAs see (Err (stop.Symbols n)) r = r ≡ Err (symbols n)
GivesAs see (Err stop.NoMemory) r = ⊤

abbrev pub Gives : Result FoundKept FoundStop → Result Kept Stop → Type 0
Gives found r = GivesAs as_kept found r

abbrev pub GivesRows : Result (List Row) FoundStop → Result (List Row) Stop → Type 0
GivesRows found r = GivesAs (λ rows. rows) found r

abbrev pub GivesUnifiers : Result (List (List (Variable × Term))) FoundStop →
    Result (List (List (Variable × Term))) Stop → Type 0
GivesUnifiers found r = GivesAs (λ ss. ss) found r

-- The variants that are answered are those of the rows, with their values for these variables.
abbrev pub Told : List Variable → Result (List Variant) VarFail → Result (List Row) Stop → Type 0
Told vs (Ok list) (Ok rows) = list ≡ map (variant_of vs) rows
Told vs (Ok list) (Err s) = ⊥
Told vs (Err (fail.TooMany list)) (Ok rows) = ⊥
Told vs (Err (fail.TooMany list)) (Err (too_many rows)) = list ≡ map (variant_of vs) rows
Told vs (Err (fail.TooMany list)) (Err unifiers) = ⊥
Told vs (Err (fail.TooMany list)) (Err (symbols n)) = ⊥
Told vs (Err fail.Unifiers) r = r ≡ Err unifiers
Told vs (Err (fail.Symbols n)) r = r ≡ Err (symbols n)
Told vs (Err fail.NoMemory) r = ⊤
