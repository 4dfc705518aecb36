-- The computed fault of origination is none exactly where every row originates.
use Rattle.std.proofs.Common.{◌≡◌, ◌≢◌, ◌⊎◌, ◌↔◌, ◌<◌, ℕ, zero, suc, ◌+◌, Bool, true, false, not, ◌&&◌, ◌||◌, cond, Option, Some, None, List, [], ◌∷◌, length, take, drop, get_or, slice_get, inl, inr, refl, sym, ◌∙◌, ap, subst, arith}
use Rattle.std.specs.Prelude.{Contains, find}
use Rattle.std.specs.List.{flat_map, list_any}
use Rattle.std.proofs.lemmas.Bool.{or_left, or_right, or_parts, or_cases, and_cases, true_from_ne_false, false_from_ne_true}
use Rattle.npa_term.specs.declared.term.Var.{Var as Variable}
use Rattle.npa_term.specs.declared.term.Term.{Term, Var}
use Rattle.npa_term.specs.Bound.{same_var}
use Rattle.npa_term.specs.Computed.{is_same}
use Rattle.npa_term.specs.Numbering.{is_listed}
use Rattle.npa_term.specs.Same.{Same, itself}
use Rattle.npa_term.specs.Variables.{variables}
use Rattle.npa_term.proofs.Equality.{is_same_sound, is_same_complete, var_itself}
use Rattle.npa_term.proofs.Numbered.{listed}
use Rattle.npa_term.proofs.SameCases.{same_only_var}
use Rattle.npa_sig.specs.declared.protocol.Event.{Event}
use Rattle.npa_sig.specs.declared.protocol.Strand.{Strand}
use Rattle.npa_sig.specs.Nameless.{CarriesNames, AreCarriers}
use Rattle.npa_sig.specs.Signature.{Signature}
use Rattle.npa_rewrite.proofs.InstanceParts.{here, behind, member_cases}
use Rattle.npa_variants.specs.Rows.{Row, is_among}
use Rattle.npa_variants.specs.Origination.{IsFirstReceived, Originates, is_received, is_originating, is_unoriginated, row_fault, at_variant, origin_fault}
use Rattle.npa_variants.proofs.Members.{none_there, any_of, any_member, flat_member, of_flat, of_dropped}

-- ## Tests

-- a variable of a list is listed
pub is_listed_member : (vs : List Variable) (v : Variable) → Contains vs v → is_listed vs v ≡ true
is_listed_member [] v c = absurd (none_there v c)
is_listed_member (w ∷ ws) v c =
    elim (member_cases w v ws c) [
      | inl e ↦ ap (λ b. cond b true (is_listed ws v)) (subst (λ x. same_var w x ≡ true) e (var_itself w))
      | inr d ↦ elim (same_var w v) as (λ b. cond b true (is_listed ws v) ≡ true) [ true ↦ refl | false ↦ is_listed_member ws v d ]
    ]

-- a variable equals no other term
among_variable : (ts : List Term) (v : Variable) → is_among ts (Var v) ≡ true → Contains ts (Var v)
among_variable ts v e =
    let found = any_of (is_same (Var v)) ts e in
    subst (Contains ts) (same_only_var (is_same_sound (Var v) found.0 found.2) v refl) found.1

variable_among : (ts : List Term) (v : Variable) → Contains ts (Var v) → is_among ts (Var v) ≡ true
variable_among ts v c = any_member (is_same (Var v)) ts (Var v) c (is_same_complete (Var v) (Var v) (itself (Var v)))

-- the first message in which a variable occurs
some_same : {X : Type 0} (x y : X) → Some x ≡ Some y → x ≡ y
some_same x y e = cc

-- a message in front of those
received_later : (e : Event) (es : List Event) (t : Term) (ts : List Term) (v : Variable) → (Contains (variables t) v → ⊥) → IsFirstReceived es ts v →
    IsFirstReceived (e ∷ es) (t ∷ ts) v
received_later e es t ts v free r = record {
  place = suc r.place;
  event = r.event;
  message = r.message;
  event_there = r.event_there;
  message_there = r.message_there;
  received = r.received;
  occurs = r.occurs;
  first = before;
} where
  before : (i : ℕ) (u : Term) → i < suc r.place → slice_get (t ∷ ts) i ≡ Some u → Contains (variables u) v → ⊥
  before zero u less is there = free (subst (λ w. Contains (variables w) v) (sym (some_same t u is)) there)
  before (suc i) u less is there = r.first i u (omega (arith, less)) is there

received_sound : (v : Variable) (es : List Event) (ts : List Term) → is_received v es ts ≡ true → IsFirstReceived es ts v
received_sound v [] ts e = cc
received_sound v (a ∷ es) [] e = cc
received_sound v (a ∷ es) (t ∷ ts) e =
    elim (is_listed (variables t) v) as (λ b. is_listed (variables t) v ≡ b → cond b (not a.sent) (is_received v es ts) ≡ true → IsFirstReceived (a ∷ es) (t ∷ ts) v) [
      | true ↦ λ is d. record {
        place = zero;
        event = a;
        message = t;
        event_there = refl;
        message_there = refl;
        received = not_is a.sent d;
        occurs = listed (variables t) v is;
        first = λ i u less at there. let no : ⊥ = omega (arith, less) in no;
      }
      | false ↦ λ is d.
          received_later a es t ts v (λ c. let yes : is_listed (variables t) v ≡ true = is_listed_member (variables t) v c in let no : ⊥ = cc in no)
          (received_sound v es ts d)
    ] refl e
  where
    not_is : (b : Bool) → not b ≡ true → b ≡ false
    not_is true e = cc
    not_is false e = refl

received_at : (v : Variable) (es : List Event) (ts : List Term) (k : ℕ) (a : Event) (t : Term) → slice_get es k ≡ Some a → slice_get ts k ≡ Some t → a.sent ≡ false →
    Contains (variables t) v → ((i : ℕ) (u : Term) → i < k → slice_get ts i ≡ Some u → Contains (variables u) v → ⊥) → is_received v es ts ≡ true
received_at v [] ts k a t at is got occurs first = cc
received_at v (b ∷ es) [] k a t at is got occurs first = cc
received_at v (b ∷ es) (u ∷ ts) zero a t at is got occurs first =
    let same : b ≡ a = some_same b a at in
    let here_ : is_listed (variables u) v ≡ true = is_listed_member (variables u) v (subst (λ w. Contains (variables w) v) (sym (some_same u t is)) occurs) in
    ap (λ c. cond c (not b.sent) (is_received v es ts)) here_ ∙ ap not (ap (λ e. e.sent) same ∙ got)
received_at v (b ∷ es) (u ∷ ts) (suc k) a t at is got occurs first =
    let free : is_listed (variables u) v ≡ false = false_from_ne_true (is_listed (variables u) v) (λ e. first 0 u (omega arith) refl (listed (variables u) v e)) in
    ap (λ c. cond c (not b.sent) (is_received v es ts)) free
    ∙ received_at v es ts k a t at is got occurs (λ i w less at_i there. first (suc i) w (omega (arith, less)) at_i there)

-- ## A list without a fault

none_found : {X : Type 0} (p : X → Bool) (xs : List X) → ((x : X) → Contains xs x → p x ≡ false) → find p xs ≡ None
none_found p [] fails = refl
none_found p (x ∷ xs) fails =
    ap (λ b. cond b (Some x) (find p xs)) (fails x (here x xs)) ∙ none_found p xs (λ y c. fails y (behind x y xs c))

found_none : {X : Type 0} (p : X → Bool) (xs : List X) → find p xs ≡ None → (x : X) → Contains xs x → p x ≡ false
found_none p [] e x c = absurd (none_there x c)
found_none p (y ∷ ys) e x c =
    elim (p y) as (λ b. p y ≡ b → cond b (Some y) (find p ys) ≡ None → p x ≡ false) [
      | true ↦ λ is d. cc
      | false ↦ λ is d. elim (member_cases y x ys c) [ inl s ↦ ap p (sym s) ∙ is | inr f ↦ found_none p ys d x f ]
    ] refl e

module _ (sig : Signature) (marks : List Bool) (are : AreCarriers sig marks) (m : ℕ) (strand : Strand) where
  -- a variable of a row
  originating_sound : (row : Row) (v : Variable) → is_originating marks m strand row v ≡ true →
      Contains (drop (length strand.vars) (take m row)) (Var v) ⊎ ((CarriesNames sig v.sort → ⊥) ⊎ IsFirstReceived strand.events (drop m row) v)
  originating_sound row v e =
      elim (or_cases (is_among (drop (length strand.vars) (take m row)) (Var v)) (not (get_or marks v.sort false) || is_received v strand.events (drop m row)) e) [
        | inl a ↦ inl (among_variable (drop (length strand.vars) (take m row)) v a)
        | inr b ↦ elim (or_cases (not (get_or marks v.sort false)) (is_received v strand.events (drop m row)) b) [
          | inl n ↦ inr (inl (λ carries. let yes : get_or marks v.sort false ≡ true = (are.exact v.sort).1 carries in let no : ⊥ = cc in no))
          | inr r ↦ inr (inr (received_sound v strand.events (drop m row) r))
        ]
      ]

  originating_complete : (row : Row) (v : Variable) →
      Contains (drop (length strand.vars) (take m row)) (Var v) ⊎ ((CarriesNames sig v.sort → ⊥) ⊎ IsFirstReceived strand.events (drop m row) v) →
      is_originating marks m strand row v ≡ true
  originating_complete row v (inl c) =
      or_left (is_among (drop (length strand.vars) (take m row)) (Var v)) (not (get_or marks v.sort false) || is_received v strand.events (drop m row))
      (variable_among (drop (length strand.vars) (take m row)) v c)
  originating_complete row v (inr (inl n)) =
      or_right (is_among (drop (length strand.vars) (take m row)) (Var v)) (not (get_or marks v.sort false) || is_received v strand.events (drop m row))
      (or_left (not (get_or marks v.sort false)) (is_received v strand.events (drop m row))
      (ap not (false_from_ne_true (get_or marks v.sort false) (λ yes. n ((are.exact v.sort).0 yes)))))
  originating_complete row v (inr (inr r)) =
      or_right (is_among (drop (length strand.vars) (take m row)) (Var v)) (not (get_or marks v.sort false) || is_received v strand.events (drop m row))
      (or_right (not (get_or marks v.sort false)) (is_received v strand.events (drop m row))
      (received_at v strand.events (drop m row) r.place r.event r.message r.event_there r.message_there r.received r.occurs r.first))

  -- a row has no fault exactly where it originates
  message_variable : (row : Row) (v : Variable) → Contains (flat_map variables (drop m row)) v → Contains (flat_map variables row) v
  message_variable row v c =
      let of = of_flat variables (drop m row) v c in flat_member variables row of.0 v (of_dropped m row of.0 of.1) of.2

  row_sound : (row : Row) → row_fault marks m strand row ≡ None → Originates sig m strand row
  row_sound row e v c =
      let passes = found_none (is_unoriginated marks m strand row) (flat_map variables row) e v (message_variable row v c) in
      elim (and_cases (is_listed (flat_map variables (drop m row)) v) (not (is_originating marks m strand row v)) passes) [
        | inl none ↦ let listed_ : is_listed (flat_map variables (drop m row)) v ≡ true = is_listed_member (flat_map variables (drop m row)) v c in
            let no : ⊥ = cc in absurd no
        | inr fine ↦ originating_sound row v (not_not (is_originating marks m strand row v) fine)
      ]
    where
      not_not : (b : Bool) → not b ≡ false → b ≡ true
      not_not true e = refl
      not_not false e = cc

  row_complete : (row : Row) → Originates sig m strand row → row_fault marks m strand row ≡ None
  row_complete row from =
      none_found (is_unoriginated marks m strand row) (flat_map variables row)
      (λ v c. elim (is_listed (flat_map variables (drop m row)) v) as (λ b. is_listed (flat_map variables (drop m row)) v ≡ b → (b && not (is_originating marks m strand row v)) ≡ false) [
        | true ↦ λ e. ap not (originating_complete row v (from v (listed (flat_map variables (drop m row)) v e)))
        | false ↦ λ e. refl
      ] refl)

  pub row_originating : (row : Row) → (row_fault marks m strand row ≡ None) ↔ Originates sig m strand row
  row_originating row = (row_sound row, row_complete row)

  at_none : (j : ℕ) (row : Row) (o : Option Variable) (later : Option (ℕ × Variable)) → at_variant j row o later ≡ None → (o ≡ None) × (later ≡ None)
  at_none j row None later e = (refl, e)
  at_none j row (Some v) later e = cc

  rows_sound : (j : ℕ) (rows : List Row) → origin_fault marks m strand j rows ≡ None → (row : Row) → Contains rows row → Originates sig m strand row
  rows_sound j [] e row c = absurd (none_there row c)
  rows_sound j (r ∷ rs) e row c =
      let both = at_none j r (row_fault marks m strand r) (origin_fault marks m strand (j + 1) rs) e in
      elim (member_cases r row rs c) [
        | inl s ↦ subst (Originates sig m strand) s (row_sound r both.0)
        | inr d ↦ rows_sound (j + 1) rs both.1 row d
      ]

  rows_complete : (j : ℕ) (rows : List Row) → ((row : Row) → Contains rows row → Originates sig m strand row) → origin_fault marks m strand j rows ≡ None
  rows_complete j [] each = refl
  rows_complete j (r ∷ rs) each =
      ap (λ o. at_variant j r o (origin_fault marks m strand (j + 1) rs)) (row_complete r (each r (here r rs)))
      ∙ rows_complete (j + 1) rs (λ row c. each row (behind r row rs c))

  -- no row has a fault exactly where each originates
  pub originating : (j : ℕ) (rows : List Row) → (origin_fault marks m strand j rows ≡ None) ↔ ((row : Row) → Contains rows row → Originates sig m strand row)
  originating j rows = (rows_sound j rows, rows_complete j rows)
