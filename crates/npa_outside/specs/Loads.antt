-- What was loaded of a file.
use Rattle.std.specs.Prelude.{◌≡◌, ◌≤◌, ◌<◌, ℕ, List, Option, Some, Result, Ok, Err, IfSome, length}
use Rattle.npa_outside.specs.declared.loading.Loaded.{Loaded}
use Rattle.npa_outside.specs.declared.loading.Loaded.TheVariants as loaded
use Rattle.npa_outside.specs.Outside.{Outside}

-- a text that is too long
abbrev pub IsLong : List ℕ → Type 0
IsLong text = 1048576 < length text

-- a text that isn't too long is read so
pub record IsText {T E : Type 0} (Reads : List ℕ → Result T E → Type 0) (read : Result T E) (text : List ℕ) : Type 0 where
  pub short : length text ≤ 1048576
  pub reads : Reads text read

-- ## Of a text

-- what is loaded where this is read
abbrev pub loaded_of : {T E : Type 0} → Result T E → Loaded T E
loaded_of (Ok x) = loaded.Read x
loaded_of (Err e) = loaded.Refused e

-- the text is too long, or it is read or refused so
abbrev pub IsLoadedOf : {T E : Type 0} → (Result T E → List ℕ → Type 0) → List ℕ → Loaded T E → Type 0
IsLoadedOf Is text loaded.TooLong = IsLong text
IsLoadedOf Is text (loaded.Refused e) = Is (Err e) text
IsLoadedOf Is text (loaded.Read x) = Is (Ok x) text

-- whatever a text that isn't too long is read as was loaded
abbrev pub IsOnlyLoadedOf : {T E : Type 0} → (Result T E → List ℕ → Type 0) → List ℕ → Loaded T E → Type 0
IsOnlyLoadedOf {T} {E} Is text found = (read : Result T E) → Is read text → found ≡ loaded_of read

-- this was loaded of a text, where it is told
abbrev pub LoadsText : {T E : Type 0} → (List ℕ → Result T E → Type 0) → Option (List ℕ) → Loaded T E → Type 0
LoadsText Reads told found = IfSome told (λ text. IsLoadedOf (IsText Reads) text found)

-- and nothing else is, where the text isn't too long
abbrev pub LoadsTextAlone : {T E : Type 0} → (List ℕ → Result T E → Type 0) → Option (List ℕ) → Loaded T E → Type 0
LoadsTextAlone Reads told found = IfSome told (λ text. IsOnlyLoadedOf (IsText Reads) text found)

-- what holds of what was read, if something was
abbrev pub IfRead : {T E : Type 0} → Loaded T E → (T → Type 0) → Type 0
IfRead loaded.TooLong P = Unit {0}
IfRead (loaded.Refused e) P = Unit {0}
IfRead (loaded.Read x) P = P x

-- what holds where the text is too long
abbrev pub OnTooLong : {T E : Type 0} → Loaded T E → Type 0 → Type 0
OnTooLong loaded.TooLong P = P
OnTooLong (loaded.Refused e) P = Unit {0}
OnTooLong (loaded.Read x) P = Unit {0}

-- ## Of a file

-- The file holds a text that is too long, and the count of such reads rose; or a text that is read or
-- refused so. Where nothing is told of what the file holds, nothing is said of it.
abbrev pub IsLoaded : {T E : Type 0} → (List ℕ → Result T E → Type 0) → Outside → List ℕ → Loaded T E → Type 0
IsLoaded Reads outside name loaded.TooLong = outside.long name × IfSome (outside.told name) IsLong
IsLoaded Reads outside name (loaded.Refused e) = IfSome (outside.told name) (IsText Reads (Err e))
IsLoaded Reads outside name (loaded.Read x) = IfSome (outside.told name) (IsText Reads (Ok x))

-- nothing else can be loaded of the file, whatever the counts did
abbrev pub IsOnlyLoaded : {T E : Type 0} → (List ℕ → Result T E → Type 0) → Outside → List ℕ → Loaded T E → Type 0
IsOnlyLoaded {T} {E} Reads outside name found = (other : Loaded T E) → IsLoaded Reads outside name other → other ≡ found
