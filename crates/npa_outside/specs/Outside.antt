-- What lies outside the program, and what an answer says of it.
use Rattle.std.specs.Prelude.{◌≡◌, ℕ, List, Option, Some}
use Rattle.npa_text.specs.Counts.{Rose}

-- What the files hold, by their names, as far as that is known, and which counts rose: those of the
-- texts that were too long, and those of the reads that failed.
pub record Outside : Type 1 where
  pub told : List ℕ → Option (List ℕ)
  pub long : List ℕ → Type 0
  pub fault : List ℕ → Type 0

-- files with these counts before and after
abbrev pub counted : (List ℕ → Option (List ℕ)) → (List ℕ → ℕ) → (List ℕ → ℕ) → (List ℕ → ℕ) → (List ℕ → ℕ) → Outside
counted told longs longs_after faults faults_after = record { told = told; long = λ name. Rose (longs name) (longs_after name); fault = λ name. Rose (faults name) (faults_after name) }

-- the same files, whatever the counts did
abbrev pub whatever_rose : Outside → Outside
whatever_rose outside = record { told = outside.told; long = λ name. Unit {0}; fault = λ name. Unit {0} }

-- what a name's file holds is known
abbrev pub IsTold : Outside → List ℕ → Type 0
IsTold outside name = (text : List ℕ) × (outside.told name ≡ Some text)

-- no other text and status are so
abbrev pub IsOnly : (List ℕ → ℕ → Type 0) → List ℕ → ℕ → Type 0
IsOnly Holds text status = (other : List ℕ) (number : ℕ) → Holds other number → (other ≡ text) × (number ≡ status)

-- The text and the status are so, and where enough is known, no others are, whatever the counts did.
pub record IsTheOne (known : Type 0) (Holds Anyhow : List ℕ → ℕ → Type 0) (text : List ℕ) (status : ℕ) : Type 0 where
  pub shown : Holds text status
  pub only : known → IsOnly Anyhow text status
