-- What a term of a text means: names are looked up, sorts are compared, and the first word at
-- fault, in the order of the text, is told.
use Rattle.std.specs.Prelude.{◌≡◌, ℕ, Bool, true, false, ◌&&◌, List, [], ◌∷◌, Option, None, Some, Result, Ok, Err, map, Contains, slice_get, cond}
use Rattle.std.specs.Option.{option_map, option_and_then, option_or}
use Rattle.std.specs.Str.{bytes_eq}
use Rattle.npa_term.specs.declared.term.Var.{Var as Variable_}
use Rattle.npa_term.specs.declared.term.Term.{Term, Var, Name, App}
use Rattle.npa_text.specs.declared.token.Kind.{Kind}
use Rattle.npa_text.specs.declared.token.Kind.TheVariants.{FreshName}
use Rattle.npa_text.specs.declared.token.Token.{Token}
use Rattle.npa_text.specs.declared.token.Raw.{Raw, Raw', out-Raw, Row_of-Raw, end_of-Raw, more_of-Raw}
use Rattle.npa_sig.specs.declared.fault.UseFail.{UseFail}
use Rattle.npa_sig.specs.declared.fault.UseFail.TheVariants as use_fail
use Rattle.npa_sig.specs.declared.meaning.Scoped.{Scoped}
use Rattle.npa_sig.specs.declared.meaning.Head.{Head}
use Rattle.npa_sig.specs.declared.meaning.Head.TheVariants.{Variable, Fresh, Operator}
use Rattle.npa_sig.specs.declared.signature.OpDecl.{OpDecl}
use Rattle.npa_sig.specs.Signature.{Signature, number_of}
use Rattle.npa_sig.specs.Sorting.{is_sort, is_below}
use Rattle.npa_text.specs.Texts.{text_of, number_of as number_in}
use Rattle.npa_reading.specs.Reading.{at_word, mapped, in_front, all_read, Tells as TellsOver, Gives as GivesOver}

-- the variable that a scope gives a word
abbrev pub variable_of : List ℕ → List Scoped → Option Variable_
variable_of word [] = None
variable_of word (s ∷ scope) = cond (bytes_eq word s.name) (Some s.var) (variable_of word scope)

-- the variables of a scope
abbrev pub scope_variables : List Scoped → List Variable_
scope_variables scope = map (λ s. s.var) scope

-- the sorts of a scope's variables are sorts
abbrev pub IsSorted : Signature → List Scoped → Type 0
IsSorted sig scope = (v : Variable_) → Contains (scope_variables scope) v → is_sort sig v.sort ≡ true

-- the operator of a number, as it stands in terms
abbrev pub operator_at : Signature → ℕ → Option Head
operator_at sig num = option_map (λ decl. Operator (record { num = num; result = decl.result; «com» = decl.com })) (slice_get sig.ops num)

-- the operator of a name
abbrev pub operator_of : Signature → List ℕ → Option Head
operator_of sig word = option_and_then (operator_at sig) (number_of sig word)

-- a word stands for a variable of the scope, or else for an operator
abbrev pub word_head : Signature → List Scoped → List ℕ → Option Head
word_head sig scope word = option_or (option_map Variable (variable_of word scope)) (operator_of sig word)

abbrev pub is_fresh_name : Kind → Bool
is_fresh_name FreshName = true
is_fresh_name kind = false

-- a fresh name stands for itself, and any other token for what its word stands for
abbrev pub head_of : Signature → List Scoped → List ℕ → Token → Option Head
head_of sig scope bytes token = cond (is_fresh_name token.kind) (Some (Fresh (number_in bytes token))) (word_head sig scope (text_of bytes token))

abbrev pub head_sort : Head → ℕ
head_sort (Variable v) = v.sort
head_sort (Fresh n) = 1
head_sort (Operator op) = op.result

-- the sort of a term, which its first word tells, if it stands for something
abbrev pub sort_at : Signature → List Scoped → List ℕ → Raw → Option ℕ
sort_at sig scope bytes raw = option_map head_sort (head_of sig scope bytes (out-Raw raw).head)

abbrev pub one_fits : Signature → Option ℕ → ℕ → Bool
one_fits sig None t = true
one_fits sig (Some s) t = is_below sig s t

-- there are as many arguments as sorts, and each argument's sort, where it is known, is at or below
abbrev pub all_fit : Signature → List (Option ℕ) → List ℕ → Bool
all_fit sig [] [] = true
all_fit sig (s ∷ ss) (t ∷ ts) = one_fits sig s t && all_fit sig ss ts
all_fit sig [] (t ∷ ts) = false
all_fit sig (s ∷ ss) [] = false

abbrev pub is_none_left : List (Option ℕ) → Bool
is_none_left [] = true
is_none_left (s ∷ ss) = false

abbrev pub fits_decl : Signature → List (Option ℕ) → Option OpDecl → Bool
fits_decl sig sorts None = false
fits_decl sig sorts (Some decl) = all_fit sig sorts decl.args

-- a variable and a fresh name have no arguments, and an operator those that were declared
abbrev pub fits : Signature → Head → List (Option ℕ) → Bool
fits sig (Variable v) sorts = is_none_left sorts
fits sig (Fresh n) sorts = is_none_left sorts
fits sig (Operator op) sorts = fits_decl sig sorts (slice_get sig.ops op.num)

-- the refusal of a word that stands for nothing, and of one whose arguments don't fit it
abbrev pub unknown : List ℕ → Token → UseFail
unknown bytes token = at_word use_fail.Name bytes token

abbrev pub unfit : List ℕ → Token → UseFail
unfit bytes token = at_word use_fail.Sort bytes token

-- the head with its arguments
abbrev pub built : Head → List Term → Term
built (Variable v) args = Var v
built (Fresh n) args = Name n
built (Operator op) args = App op args

-- a word is judged first, then its arguments in order
abbrev pub judged : Signature → List ℕ → Token → Option Head → List (Option ℕ) → Result (List Term) UseFail → Result Term UseFail
judged sig bytes token None sorts args = Err (unknown bytes token)
judged sig bytes token (Some h) sorts args = cond (fits sig h sorts) (mapped (built h) args) (Err (unfit bytes token))

abbrev mutual
  -- the term that a term of a text stands for, or the first word at fault
  pub read : Signature → List Scoped → List ℕ → Raw → Result Term UseFail
  read sig scope bytes (Raw' head n args) = judged sig bytes head (head_of sig scope bytes head) (sorts_of_row sig scope bytes args) (read_row sig scope bytes args)

  pub read_row : {m : _} → Signature → List Scoped → List ℕ → Row_of-Raw m → Result (List Term) UseFail
  read_row sig scope bytes end_of-Raw = Ok []
  read_row sig scope bytes (more_of-Raw r rest) = in_front (read sig scope bytes r) (read_row sig scope bytes rest)

  pub sorts_of_row : {m : _} → Signature → List Scoped → List ℕ → Row_of-Raw m → List (Option ℕ)
  sorts_of_row sig scope bytes end_of-Raw = []
  sorts_of_row sig scope bytes (more_of-Raw r rest) = sort_at sig scope bytes r ∷ sorts_of_row sig scope bytes rest

-- the same for a list of terms
abbrev pub read_all : Signature → List Scoped → List ℕ → List Raw → Result (List Term) UseFail
read_all sig scope bytes raws = all_read (map (read sig scope bytes) raws)

-- the fault is this one, unless memory was wanting
abbrev pub Tells : UseFail → UseFail → Type 0
Tells fault wanted = TellsOver use_fail.NoMemory fault wanted

-- the answer is what the text means, unless memory was wanting
abbrev pub Gives : Result Term UseFail → Result Term UseFail → Type 0
Gives answer wanted = GivesOver use_fail.NoMemory answer wanted
