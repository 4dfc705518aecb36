-- The instances that a run begins with.
use Rattle.std.specs.Prelude.{◌≡◌, ℕ, ◌+◌, true, false, ◌==◌, List, [], ◌∷◌, ◌++◌, Option, None, Some, Result, Ok, Err, map, length, replicate, slice_get, cond, Contains, nat_eq}
use Rattle.std.specs.Option.{option_map, option_or}
use Rattle.std.specs.List.{list_any}
use Rattle.npa_term.specs.declared.term.Term.{Term}
use Rattle.npa_term.specs.declared.term.Term.TheVariants.{Var, Name, App'}
use Rattle.npa_sig.specs.declared.protocol.Strand.{Strand}
use Rattle.npa_sig.specs.Parameters.{param_sorts, fresh_terms}
use Rattle.npa_sig.specs.Signature.{Signature}
use Rattle.npa_sig.specs.Sorting.{is_below, all_below, IsGroundTerm}
use Rattle.npa_term.specs.Parts.{least_sort}
use Rattle.npa_rewrite.specs.Normal.{is_normal_by, IsNormalTerm}
use Rattle.npa_model.specs.declared.run.Instance.{Instance}
use Rattle.npa_model.specs.declared.run.Cause.{Cause}
use Rattle.npa_model.specs.declared.run.Cause.TheVariants as cause
use Rattle.npa_model.specs.declared.run.RunFail.{RunFail}
use Rattle.npa_model.specs.declared.run.RunFail.TheVariants as run_fail
use Rattle.npa_model.specs.State.{State}

-- An instance is a strand with a normal ground term for each parameter, of a sort at or below the
-- parameter's.
pub record IsInstance (nf : Term → Term) (sig : Signature) (strands : List Strand) (instance : Instance) : Type 0 where
  pub strand : Strand
  pub there : slice_get strands instance.strand ≡ Some strand
  pub sorts : all_below sig (map least_sort instance.args) (param_sorts strand) ≡ true
  pub normal : (t : Term) → Contains instance.args t → IsNormalTerm nf sig t

-- each term of each instance is ground and well sorted
abbrev pub AreGroundTerms : Signature → List Instance → Type 0
AreGroundTerms sig instances = (k : ℕ) (instance : Instance) → slice_get instances k ≡ Some instance → (t : Term) → Contains instance.args t → IsGroundTerm sig t

abbrev pub name_in : Term → List ℕ
name_in (Var v) = []
name_in (Name n) = n ∷ []
name_in (App' op n args) = []

-- the fresh names among terms
abbrev pub names_among : List Term → List ℕ
names_among [] = []
names_among (t ∷ ts) = name_in t ++ names_among ts

-- the fresh names that are the values of fresh parameters, instance by instance
abbrev pub fresh_names : List Strand → List Instance → List ℕ
fresh_names strands [] = []
fresh_names strands (i ∷ is) = names_among (fresh_terms (slice_get strands i.strand) i.args) ++ fresh_names strands is

-- no name stands twice
abbrev pub AreApart : List ℕ → Type 0
AreApart [] = Unit {0}
AreApart (n ∷ ns) = (list_any (nat_eq n) ns ≡ false) × AreApart ns

-- what a run begins with: instances, and no fresh name is the value of two fresh parameters
pub record AreInstances (nf : Term → Term) (sig : Signature) (strands : List Strand) (instances : List Instance) : Type 0 where
  pub each : (k : ℕ) (instance : Instance) → slice_get instances k ≡ Some instance → IsInstance nf sig strands instance
  pub apart : AreApart (fresh_names strands instances)

-- the first parameter, from p on, whose term has a wrong sort
abbrev pub sort_fault : Signature → ℕ → ℕ → List Term → List ℕ → Option Cause
sort_fault sig k p [] sorts = None
sort_fault sig k p (t ∷ ts) [] = None
sort_fault sig k p (t ∷ ts) (s ∷ sorts) = cond (is_below sig (least_sort t) s) (sort_fault sig k (p + 1) ts sorts) (Some (cause.Sort k p))

-- the first parameter, from p on, whose term isn't normal
abbrev pub normal_fault : (Term → Term) → ℕ → ℕ → List Term → Option Cause
normal_fault nf k p [] = None
normal_fault nf k p (t ∷ ts) = cond (is_normal_by nf t) (normal_fault nf k (p + 1) ts) (Some (cause.Normal k p))

abbrev pub strand_fault : (Term → Term) → Signature → ℕ → Option Strand → List Term → Option Cause
strand_fault nf sig k None args = Some (cause.Params k)
strand_fault nf sig k (Some strand) args = cond (length args == length (param_sorts strand)) (option_or (sort_fault sig k 0 args (param_sorts strand)) (normal_fault nf k 0 args)) (Some (cause.Params k))

-- why the instance of number k is none: its number of terms, then the first wrong sort, then the
-- first term that isn't normal
abbrev pub instance_fault : (Term → Term) → Signature → List Strand → ℕ → Instance → Option Cause
instance_fault nf sig strands k instance = strand_fault nf sig k (slice_get strands instance.strand) instance.args

abbrev pub first_fault : (Term → Term) → Signature → List Strand → ℕ → List Instance → Option Cause
first_fault nf sig strands k [] = None
first_fault nf sig strands k (i ∷ is) = option_or (instance_fault nf sig strands k i) (first_fault nf sig strands (k + 1) is)

-- the first name that stands a second time, behind names that were seen
abbrev pub first_again : List ℕ → List ℕ → Option ℕ
first_again seen [] = None
first_again seen (n ∷ ns) = cond (list_any (nat_eq n) seen) (Some n) (first_again (seen ++ n ∷ []) ns)

-- why a run doesn't begin with these instances: the first fault of an instance, then the first fresh
-- name that is the value of a second fresh parameter
abbrev pub start_fault : (Term → Term) → Signature → List Strand → List Instance → Option Cause
start_fault nf sig strands instances = option_or (first_fault nf sig strands 0 instances) (option_map cause.Twice (first_again [] (fresh_names strands instances)))

-- the run begins with nothing executed and nothing sent, or this is why it doesn't
abbrev pub Starts : (Term → Term) → Signature → List Strand → List Instance → Result State RunFail → Type 0
Starts nf sig strands instances (Ok state) = (start_fault nf sig strands instances ≡ None) × (state ≡ record { executed = replicate (length instances) 0; sent = [] })
Starts nf sig strands instances (Err (run_fail.Stop why)) = start_fault nf sig strands instances ≡ Some why
Starts nf sig strands instances (Err run_fail.NoMemory) = Unit {0}
