-- All variables of a problem have numbers below the one that new variables are numbered from.
use Rattle.std.proofs.Common.{◌≡◌, ◌≤◌, ◌-◌, ◌+◌, ℕ, zero, suc, Some, List, [], ◌∷◌, Contains, length, drop, get_or, slice_get, inl, inr, sym, ap, subst, arith}
use Rattle.std.specs.List.{flat_map}
use Rattle.std.proofs.lemmas.Bool.{cases_lt}
use Rattle.std.proofs.lemmas.List.{get_or_past}
use Rattle.std.proofs.lemmas.List.Elements.{Contains-get_or}
use Rattle.npa_term.specs.declared.term.Term.{Term}
use Rattle.npa_term.specs.declared.term.Term.TheVariants.{Name}
use Rattle.npa_term.specs.declared.term.Var.{Var as Variable}
use Rattle.npa_term.specs.Variables.{raised_var, renamed, variables}
use Rattle.npa_term.proofs.RenamedLaws.{variables-renamed}
use Rattle.npa_unify.proofs.Members.{later, map_member, member_flat_map, nowhere}
use Rattle.npa_sig.specs.declared.protocol.Strand.{Strand}
use Rattle.npa_variants.specs.declared.variant.Variant.{Variant}
use Rattle.npa_variants.specs.Search.{past}
use Rattle.npa_variants.specs.StrandVariants.{messages_of}
use Rattle.npa_variants.specs.Strands.{param_count}
use Rattle.npa_variants.proofs.Unifying.{past_above}
use Rattle.npa_model.specs.declared.pattern.PStrand.{PStrand}
use Rattle.npa_model.specs.declared.pattern.Pattern.{Pattern}
use Rattle.npa_model.specs.Patterns.{IsTermOf, of_known, of_msgs}
use Rattle.npa_moves.specs.Moves.{last_message, past_pattern, past_variant, raised_message}
use Rattle.npa_moves.proofs.OwnMoves.{below_past}
use Rattle.npa_sets.specs.Sets.{IsLow}

low_term : (g : Pattern) (t : Term) → IsTermOf g t → IsLow (past_pattern g) t
low_term g t there v within = below_past g v (record { term = t; there = there; within = within })

higher : (m n : ℕ) (t : Term) → m ≤ n → IsLow m t → IsLow n t
higher m n t more low v c = let below = low v c in omega (arith, more, below)

-- a member of a list, or what stands for one that isn't there
member_or : {X : Type 0} (P : X → Type 0) (xs : List X) (i : ℕ) (d : X) → P d → ((x : X) → Contains xs x → P x) → P (get_or xs i d)
member_or P xs i d other each = elim (cases_lt i (length xs)) [
  | inl within ↦ each (get_or xs i d) (Contains-get_or xs i d within)
  | inr beyond ↦ subst P (sym (get_or_past xs i d beyond)) other
]

pub known_low : (g : Pattern) (next : ℕ) → past_pattern g ≤ next → (t : Term) → Contains g.known t → IsLow next t
known_low g next more t c = higher (past_pattern g) next t more (low_term g t (of_known c))

pub message_low : (g : Pattern) (k : ℕ) (p : PStrand) → slice_get g.strands k ≡ Some p → IsLow (past_pattern g) (last_message p)
message_low g k p there = member_or (IsLow (past_pattern g)) p.msgs (p.bar - 1) (Name 0) (λ v c. absurd (nowhere v c)) (λ t c. low_term g t (of_msgs k p there c))

-- the message of a variant that is raised
low_raised : (base : ℕ) (ts : List Term) (t : Term) → Contains ts t → IsLow (base + past (flat_map variables ts)) (renamed base t)
low_raised base ts t c v d =
    let from = map_member (raised_var base) (variables t) v (subst (λ vs. Contains vs v) (variables-renamed base t) d) in
    let is : from.0.num + base ≡ v.num = ap (λ (x : Variable). x.num) from.2 in
    let below = past_above (flat_map variables ts) from.0 (member_flat_map variables ts t from.0 c from.1) in
    omega (arith, is, below)

-- a member of what is left of a list
of_dropped : {X : Type 0} (xs : List X) (n : ℕ) (x : X) → Contains (drop n xs) x → Contains xs x
of_dropped [] zero x c = c
of_dropped [] (suc n) x c = c
of_dropped (y ∷ xs) zero x c = c
of_dropped (y ∷ xs) (suc n) x c = later y x xs (of_dropped xs n x c)

pub raised_low : (base : ℕ) (strand : Strand) (v : Variant) (e : ℕ) → IsLow (base + past_variant v) (raised_message base strand v e)
raised_low base strand v e =
    member_or (λ t. IsLow (base + past_variant v) (renamed base t)) (messages_of strand v) e (Name 0) (λ x c. absurd (nowhere x c))
    (λ t c. low_raised base v.terms t (of_dropped v.terms (param_count strand) t c))
