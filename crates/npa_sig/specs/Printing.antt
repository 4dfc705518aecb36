-- The text of a term.
use Rattle.std.specs.Prelude.{◌≡◌, ℕ, zero, suc, List, [], ◌∷◌, ◌++◌, slice_get, codes, take, length, unwrap_or}
use Rattle.std.specs.Fmt.{decimal}
use Rattle.std.specs.Option.{option_map_or}
use Rattle.npa_term.specs.declared.term.Term.{Term, Row_of-Term, end_of-Term, more_of-Term}
use Rattle.npa_term.specs.declared.term.Term.TheVariants.{Var, Name, App'}
use Rattle.npa_sig.specs.Signature.{Signature}

-- the name of a sort: 0 and 1 are built in, the declared ones follow
abbrev pub sort_text : Signature → ℕ → List ℕ
sort_text sig zero = codes "Msg"
sort_text sig (suc zero) = codes "Fresh"
sort_text sig (suc (suc n)) = unwrap_or (slice_get sig.sort_names n) []

abbrev pub op_text : Signature → ℕ → List ℕ
op_text sig number = option_map_or (λ decl. decl.name) (slice_get sig.ops number) []

-- `(` stands before the first argument and `,` before each further one
abbrev pub before_argument : ℕ → List ℕ
before_argument zero = codes "("
before_argument (suc n) = codes ","

-- and `)` behind the last
abbrev pub after_arguments : ℕ → List ℕ
after_arguments zero = []
after_arguments (suc n) = codes ")"

-- the texts of arguments from place i on
abbrev pub arguments_from : ℕ → List (List ℕ) → List ℕ
arguments_from i [] = after_arguments i
arguments_from i (x ∷ xs) = before_argument i ++ x ++ arguments_from (suc i) xs

-- arguments in brackets with commas between them, and nothing where there are none
abbrev pub bracketed : List (List ℕ) → List ℕ
bracketed xs = arguments_from 0 xs

abbrev mutual
  -- an operator's name with its arguments in brackets, `#` and a fresh name's number, or `?`, a
  -- variable's number, `:` and its sort
  pub printed : Signature → Term → List ℕ
  printed sig (Var v) = 63 ∷ decimal v.num ++ 58 ∷ sort_text sig v.sort
  printed sig (Name n) = 35 ∷ decimal n
  printed sig (App' op n args) = op_text sig op.num ++ bracketed (printed_row sig args)

  pub printed_row : {m : _} → Signature → Row_of-Term m → List (List ℕ)
  printed_row sig end_of-Term = []
  printed_row sig (more_of-Term t rest) = printed sig t ∷ printed_row sig rest

-- a text that begins as another
abbrev pub Extends : List ℕ → List ℕ → Type 0
Extends old new = take (length old) new ≡ old
