-- What is read of a text, or the first refusal in the order of the text, over any type of refusals.
use Rattle.std.specs.Prelude.{◌≡◌, ◌⊎◌, ℕ, Bool, true, false, List, [], ◌∷◌, ◌++◌, Option, None, Some, Result, Ok, Err}
use Rattle.npa_text.specs.declared.token.Token.{Token}
use Rattle.npa_text.specs.Texts.{text_of}

-- a refusal of a token's word, at its place
abbrev pub at_word : {E : Type 0} → (List ℕ → ℕ → ℕ → E) → List ℕ → Token → E
at_word refusal bytes token = refusal (text_of bytes token) token.line token.col

-- ## What is read where nothing is refused

-- what is read, and what that makes
abbrev pub mapped : {A B E : Type 0} → (A → B) → Result A E → Result B E
mapped f (Ok x) = Ok (f x)
mapped f (Err e) = Err e

-- what is read, and what is read behind it
abbrev pub then_read : {A B E : Type 0} → (A → Result B E) → Result A E → Result B E
then_read f (Ok x) = f x
then_read f (Err e) = Err e

-- what is found, or else this refusal
abbrev pub found_or : {A E : Type 0} → E → Option A → Result A E
found_or e None = Err e
found_or e (Some x) = Ok x

-- what is read, in front of all that is read behind it
abbrev pub in_front : {A E : Type 0} → Result A E → Result (List A) E → Result (List A) E
in_front (Ok x) (Ok xs) = Ok (x ∷ xs)
in_front (Ok x) (Err e) = Err e
in_front (Err e) r = Err e

-- what was read so far, in front of all that is read behind it
abbrev pub with_front : {A E : Type 0} → List A → Result (List A) E → Result (List A) E
with_front xs (Ok ys) = Ok (xs ++ ys)
with_front xs (Err e) = Err e

-- all values, or the first refusal
abbrev pub all_read : {A E : Type 0} → List (Result A E) → Result (List A) E
all_read [] = Ok []
all_read (r ∷ rs) = in_front r (all_read rs)

-- ## Rules

-- a refusal that is told where its rule is broken
abbrev pub told_if : {E : Type 0} → Bool → E → Option E
told_if true e = Some e
told_if false e = None

-- the first refusal that is told
abbrev pub first_told : {E : Type 0} → List (Option E) → Option E
first_told [] = None
first_told (Some e ∷ told) = Some e
first_told (None ∷ told) = first_told told

-- what is read where no refusal is told
abbrev pub unless : {A E : Type 0} → Option E → Result A E → Result A E
unless (Some e) r = Err e
unless None r = r

-- ## Want of memory, of which a text tells nothing

-- this refusal, unless memory was wanting
abbrev pub Tells : {E : Type 0} → E → E → E → Type 0
Tells wanting e wanted = (e ≡ wanting) ⊎ (e ≡ wanted)

abbrev pub Refuses : {A E : Type 0} → E → E → Result A E → Type 0
Refuses wanting e wanted = (e ≡ wanting) ⊎ (wanted ≡ Err e)

-- the answer is this one, unless memory was wanting
abbrev pub Gives : {A E : Type 0} → E → Result A E → Result A E → Type 0
Gives wanting (Ok x) wanted = wanted ≡ Ok x
Gives wanting (Err e) wanted = Refuses wanting e wanted
