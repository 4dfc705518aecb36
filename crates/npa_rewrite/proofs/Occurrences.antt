-- Occurrences of a variable in the arguments of an operator.
use Rattle.std.proofs.Common.{◌≡◌, ℕ, ◌+◌, ◌<◌, ◌≤◌, List, [], ◌∷◌, ◌++◌, length, take, drop, get_or, sym, ◌∙◌, ap, subst, inl, inr}
use Rattle.std.specs.Prelude.{Contains}
use Rattle.std.specs.List.{flat_map}
use Rattle.std.proofs.lemmas.Grind.{flat_map-append}
use Rattle.std.proofs.lemmas.List.{append-nil, take_all}
use Rattle.std.proofs.lemmas.List.Elements.{Contains-append_left, Contains-append_right, Contains-append_cases}
use Rattle.npa_term.specs.declared.term.Op.{Op}
use Rattle.npa_term.specs.declared.term.Var.{Var as Variable}
use Rattle.npa_term.specs.declared.term.Term.{Term, App}
use Rattle.npa_term.specs.Variables.{variables}
use Rattle.npa_term.proofs.Rows.{variables_at}
use Rattle.npa_rewrite.proofs.Walk.{parts_are, taken_more}

occurs_before : (v : Variable) (ts us : List Term) → Contains (flat_map variables ts) v → Contains (flat_map variables (ts ++ us)) v
occurs_before v ts us c =
    subst (λ vs. Contains vs v) (sym (flat_map-append variables ts us)) (Contains-append_left (flat_map variables ts) (flat_map variables us) v c)

occurs_behind : (v : Variable) (ts us : List Term) → Contains (flat_map variables us) v → Contains (flat_map variables (ts ++ us)) v
occurs_behind v ts us c =
    subst (λ vs. Contains vs v) (sym (flat_map-append variables ts us)) (Contains-append_right (flat_map variables ts) (flat_map variables us) v c)

-- in an argument, and so in the term
pub occurs_argument : (v : Variable) (t : Term) (op : Op) (ts items : List Term) (i : ℕ) (a : Term) → t ≡ App op ts → items ≡ ts → i < length items → a ≡ get_or items i a →
    Contains (variables a) v → Contains (variables t) v
occurs_argument v t op ts items i a is same small at c =
    let here = Contains-append_left (variables a) (flat_map variables (drop (i + 1) items)) v c in
    let whole : Contains (flat_map variables items) v =
    subst (λ us. Contains (flat_map variables us) v) (parts_are items i a small at) (occurs_behind v (take i items) (a ∷ drop (i + 1) items) here) in
    subst (λ vs. Contains vs v) (ap (flat_map variables) same ∙ sym (variables_at t op ts is)) whole

-- in none of the arguments so far
pub occurs_later : (v : Variable) (items : List Term) (i : ℕ) (a : Term) → i < length items → a ≡ get_or items i a →
    (Contains (flat_map variables (take i items)) v → ⊥) → (Contains (variables a) v → ⊥) → Contains (flat_map variables (take (i + 1) items)) v → ⊥
occurs_later v items i a small at before here c =
    let split : flat_map variables (take (i + 1) items) ≡ flat_map variables (take i items) ++ variables a =
    ap (flat_map variables) (taken_more items i a small at) ∙ flat_map-append variables (take i items) (a ∷ []) ∙ ap (λ vs. flat_map variables (take i items) ++ vs) (append-nil (variables a)) in
    elim (Contains-append_cases (flat_map variables (take i items)) (variables a) v (subst (λ vs. Contains vs v) split c)) [ inl l ↦ before l | inr r ↦ here r ]

-- in none
pub occurs_nowhere : (v : Variable) (t : Term) (op : Op) (ts items : List Term) (i : ℕ) → t ≡ App op ts → items ≡ ts → length items ≤ i →
    (Contains (flat_map variables (take i items)) v → ⊥) → Contains (variables t) v → ⊥
occurs_nowhere v t op ts items i is same end before c =
    before (subst (λ vs. Contains vs v) (variables_at t op ts is ∙ ap (flat_map variables) (sym (take_all i items end ∙ same))) c)
