-- Whether a variable occurs in the values of bindings.
use Rattle.std.proofs.Common.{◌≡◌, ℕ, ◌<◌, Bool, true, false, cond, Option, Some, List, [], ◌∷◌, map, length, get_or, refl, sym, ◌∙◌, ap, arith}
use Rattle.std.specs.Prelude.{Contains, slice_get, option_map}
use Rattle.std.proofs.lemmas.Option.{slice_get-map}
use Rattle.npa_term.specs.declared.term.Var.{Var as Variable}
use Rattle.npa_term.specs.declared.term.Term.{Term, Var}
use Rattle.npa_term.specs.Bound.{same_var}
use Rattle.npa_term.specs.Variables.{variables}
use Rattle.npa_unify.specs.declared.heads.Head.{Head}
use Rattle.npa_unify.specs.Branches.{has_var}
use Rattle.npa_unify.specs.Seen.{AreKnown, IsSound, full, have, head_term, raw}
use Rattle.npa_unify.proofs.Finishing.{names}
use Rattle.npa_unify.proofs.Measuring.{bound_value, known_length, raw_got, raw_length}
use Rattle.npa_unify.proofs.Seeing.{full_unbound}

have_got : (v : Variable) (bs : List (Variable × Term)) (i : ℕ) (b : Variable × Term) → slice_get bs i ≡ Some b → slice_get (have v bs) i ≡ Some (has_var (variables (full bs b.1)) v)
have_got v bs i b e =
    slice_get-map (λ (d : Variable × Term). has_var (variables (full bs d.1)) v) bs i ∙ ap (option_map (λ (d : Variable × Term). has_var (variables (full bs d.1)) v)) e

have_length : (v : Variable) (bs cs : List (Variable × Term)) → length (map (λ b. has_var (variables (full cs b.1)) v) bs) ≡ length bs
have_length v [] cs = refl
have_length v (b ∷ bs) cs = let rest : length (map (λ b. has_var (variables (full cs b.1)) v) bs) ≡ length bs = have_length v bs cs in omega (arith, rest)

pub all_have : (v : Variable) (bs : List (Variable × Head)) → length (have v (raw bs)) ≡ length bs
all_have v bs = have_length v (raw bs) (raw bs) ∙ raw_length bs

pub found_places : (v : Variable) (ks : List (Option Bool)) (bs : List (Variable × Head)) → AreKnown ks (have v (raw bs)) → length ks ≡ length bs
found_places v ks bs known = known_length ks (have v (raw bs)) known ∙ all_have v bs

pub raw_has : (v : Variable) (bs : List (Variable × Head)) (i : ℕ) (d : Variable × Head) (b : Bool) → i < length bs → b ≡ has_var (variables (full (raw bs) (head_term (get_or bs i d).1))) v →
    slice_get (have v (raw bs)) i ≡ Some b
raw_has v bs i d b small e = have_got v (raw bs) i ((get_or bs i d).0, head_term (get_or bs i d).1) (raw_got bs i d small) ∙ ap Some (sym e)

pub bound_has : (v : Variable) (bs : List (Variable × Term)) (i : ℕ) (b : Variable × Term) (w : Variable) (t : Term) (n : Bool) → IsSound bs → slice_get bs i ≡ Some b → b.0 ≡ w → t ≡ Var w →
    slice_get (have v bs) i ≡ Some n → n ≡ has_var (variables (full bs t)) v
bound_has v bs i b w t n sound e is same found =
    some_equal n (has_var (variables (full bs b.1)) v) (sym found ∙ have_got v bs i b e)
    ∙ ap (λ x. has_var (variables x) v) (sym (bound_value bs i b w t sound e is same))
  where
    some_equal : (m n : Bool) → Some m ≡ Some n → m ≡ n
    some_equal m n e = cc

pub unbound_has : (v : Variable) (bs : List (Variable × Term)) (w : Variable) (t : Term) (n : Bool) → t ≡ Var w → (Contains (names bs) w → ⊥) → n ≡ same_var w v → n ≡ has_var (variables (full bs t)) v
unbound_has v bs w t n e other is =
    is ∙ (elim (same_var w v) as (λ c. c ≡ cond c true false) [ true ↦ refl | false ↦ refl ])
    ∙ sym (ap (λ x. has_var (variables x) v) (ap (full bs) e ∙ full_unbound bs w other))
