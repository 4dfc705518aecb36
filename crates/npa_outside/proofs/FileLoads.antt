-- What is loaded of a file, and that nothing else can be.
use Rattle.std.proofs.Common.{◌≡◌, ℕ, ◌≤◌, ◌<◌, List, Option, Some, Result, Ok, Err, inl, inr, refl, sym, ap, subst, arith, length}
use Rattle.std.specs.Prelude.{IfSome, IfOk}
use Rattle.npa_text.specs.Counts.{Rose}
use Rattle.npa_outside.specs.declared.loading.Loaded.{Loaded}
use Rattle.npa_outside.specs.declared.loading.Loaded.TheVariants as loaded
use Rattle.npa_outside.specs.Outside.{Outside, IsTold, whatever_rose}
use Rattle.npa_outside.specs.Loads.{IsLong, IsText, loaded_of, IsLoadedOf, IsOnlyLoadedOf, LoadsText, LoadsTextAlone, IsLoaded, IsOnlyLoaded, IfRead, OnTooLong}

-- what is said of the text that a file is told to hold
said_of : (told : Option (List ℕ)) (P : List ℕ → Type 0) → IfSome told P → (text : List ℕ) → told ≡ Some text → P text
said_of told P p text is = subst (λ (o : Option (List ℕ)). IfSome o P) is p

module _ {T E : Type 0} (Reads : List ℕ → Result T E → Type 0) (outside : Outside) (name : List ℕ) where
  pub is_loaded : (found : Loaded T E) → LoadsText Reads (outside.told name) found → OnTooLong found (outside.long name) → IsLoaded Reads outside name found
  is_loaded loaded.TooLong is long = (long, is)
  is_loaded (loaded.Refused e) is long = is
  is_loaded (loaded.Read x) is long = is

  -- a text that is read isn't too long
  not_both : (text : List ℕ) (read : Result T E) → IsText Reads read text → IsLong text → ⊥
  not_both text read r long = omega (arith, r.short, long)

  pub only_loaded : (found : Loaded T E) → LoadsText Reads (outside.told name) found → LoadsTextAlone Reads (outside.told name) found →
      IsTold outside name → IsOnlyLoaded Reads (whatever_rose outside) name found
  only_loaded found is others known other = at other
    where
      text : List ℕ
      text = known.0

      here : IsLoadedOf (IsText Reads) text found
      here = said_of (outside.told name) (λ t. IsLoadedOf (IsText Reads) t found) is text known.1

      one : (read : Result T E) → IsText Reads read text → found ≡ loaded_of read
      one = said_of (outside.told name) (λ t. IsOnlyLoadedOf (IsText Reads) t found) others text known.1

      too_long : IsLong text → (l : Loaded T E) → IsLoadedOf (IsText Reads) text l → loaded.TooLong ≡ l
      too_long long loaded.TooLong is_l = refl
      too_long long (loaded.Refused e) is_l = absurd (not_both text (Err e) is_l long)
      too_long long (loaded.Read x) is_l = absurd (not_both text (Ok x) is_l long)

      at : (l : Loaded T E) → IsLoaded Reads (whatever_rose outside) name l → l ≡ found
      at loaded.TooLong l = too_long (said_of (outside.told name) IsLong l.1 text known.1) found here
      at (loaded.Refused e) l = sym (one (Err e) (said_of (outside.told name) (IsText Reads (Err e)) l text known.1))
      at (loaded.Read x) l = sym (one (Ok x) (said_of (outside.told name) (IsText Reads (Ok x)) l text known.1))

-- what was loaded, seen from further back
pub moved : {T E : Type 0} (Reads : List ℕ → Result T E → Type 0) (near far : Outside) (name : List ℕ) → near.told name ≡ far.told name → (near.long name → far.long name) →
    (found : Loaded T E) → IsLoaded Reads near name found → IsLoaded Reads far name found
moved Reads near far name same since loaded.TooLong l = (since l.0, subst (λ (o : Option (List ℕ)). IfSome o IsLong) same l.1)
moved Reads near far name same since (loaded.Refused e) l = subst (λ (o : Option (List ℕ)). IfSome o (IsText Reads (Err e))) same l
moved Reads near far name same since (loaded.Read x) l = subst (λ (o : Option (List ℕ)). IfSome o (IsText Reads (Ok x))) same l

-- what holds of what was read
pub if_read : {T E : Type 0} (found : Loaded T E) (P : T → Type 0) (x : T) → IfRead found P → found ≡ loaded.Read x → P x
if_read found P x p is = subst (λ (l : Loaded _ _). IfRead l P) is p

-- a count that rose after a time rose since before it
pub rose_since : (before between after : ℕ) → before ≤ between → Rose between after → Rose before after
rose_since before between after le (inl lt) = inl (omega (arith, le, lt))
rose_since before between after le (inr full) = inr full
