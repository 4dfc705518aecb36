-- The parts of a term as a list, and a row's own applications.
use Rattle.std.proofs.Common.{◌≡◌, ℕ, Bool, true, false, not, ◌&&◌, List, [], ◌∷◌, ◌++◌, take, drop, inl, inr, refl, sym, ◌∙◌, ap, subst}
use Rattle.std.specs.Prelude.{Contains}
use Rattle.std.specs.List.{flat_map, list_all}
use Rattle.std.proofs.lemmas.Bool.{and_parts}
use Rattle.npa_term.specs.declared.term.Op.{Op}
use Rattle.npa_term.specs.declared.term.Var.{Var as Variable}
use Rattle.npa_term.specs.declared.term.Term.{Term, Var, Name, App, Row_of-Term, end_of-Term, more_of-Term, items-the_row-Term, items_hidden-the_row-Term-0}
use Rattle.npa_term.specs.declared.term.Term.TheBlock.{hidden-the_row-Term-0}
use Rattle.npa_term.specs.Computed.{is_same}
use Rattle.npa_term.specs.Parts.{IsPart, whole, inside}
use Rattle.npa_term.specs.Same.{Same}
use Rattle.npa_term.proofs.Equality.{is_same_sound, is_same_complete}
use Rattle.npa_term.proofs.Induction.{by_terms}
use Rattle.npa_term.proofs.Parts.{each_member, only_member}
use Rattle.npa_rewrite.proofs.InstanceParts.{here, behind, member_cases, part_cases}
use Rattle.npa_sig.specs.Signature.{Signature}
use Rattle.npa_sig.specs.Sorting.{well_sorted}
use Rattle.npa_sig.proofs.SortedTerms.{arguments_sorted}
use Rattle.npa_variants.specs.Rows.{Row, applications, is_among, is_application, own_parts, parts, row_parts}
use Rattle.npa_variants.proofs.Members.{none_there, any_member, any_of, filtered_member, flat_member, of_filtered, of_flat}

row_parts_are : {n : _} (k : Row_of-Term n) → row_parts k ≡ flat_map parts (items-the_row-Term n k)
row_parts_are end_of-Term = refl
row_parts_are (more_of-Term t rest) = ap (λ us. parts t ++ us) (row_parts_are rest)

-- an application comes first, and then the parts of its arguments
pub parts_app : (op : Op) (ts : List Term) → parts (App op ts) ≡ App op ts ∷ flat_map parts ts
parts_app op ts =
    let k = hidden-the_row-Term-0 ts in
    ap (λ us. App op ts ∷ us) (row_parts_are k ∙ ap (flat_map parts) (items_hidden-the_row-Term-0 ts))

-- what is listed is a part
pub of_parts : (t u : Term) → Contains (parts t) u → IsPart u t
of_parts =
    by_terms (λ t. (u : Term) → Contains (parts t) u → IsPart u t)
    (λ v u c. subst (λ x. IsPart x (Var v)) (only_member (Var v) u c) whole)
    (λ n u c. subst (λ x. IsPart x (Name n)) (only_member (Name n) u c) whole)
    (λ op ts each u c.
    elim (member_cases (App op ts) u (flat_map parts ts) (subst (λ xs. Contains xs u) (parts_app op ts) c)) [
      | inl e ↦ subst (λ x. IsPart x (App op ts)) e whole
      | inr d ↦
          let of = of_flat parts ts u d in
          inside op ts of.0 of.1 (each_member (λ t. (u : Term) → Contains (parts t) u → IsPart u t) ts of.0 each of.1 u of.2)
    ])

-- and a part is listed
pub in_parts : (t u : Term) → IsPart u t → Contains (parts t) u
in_parts =
    by_terms (λ t. (u : Term) → IsPart u t → Contains (parts t) u)
    (λ v u p. subst (Contains (Var v ∷ [])) (sym (var_part v u p refl)) (here (Var v) []))
    (λ n u p. subst (Contains (Name n ∷ [])) (sym (name_part n u p refl)) (here (Name n) []))
    (λ op ts each u p.
    subst (λ xs. Contains xs u) (sym (parts_app op ts))
    (elim (part_cases p op ts refl) [
      | inl e ↦ subst (Contains (App op ts ∷ flat_map parts ts)) (sym e) (here (App op ts) (flat_map parts ts))
      | inr a ↦
          behind (App op ts) u (flat_map parts ts)
          (flat_member parts ts a.argument u a.listed (each_member (λ t. (u : Term) → IsPart u t → Contains (parts t) u) ts a.argument each a.listed u a.there))
    ]))
  where
    var_part : (v : Variable) (u : Term) {w : Term} → IsPart u w → w ≡ Var v → u ≡ Var v
    var_part v u whole e = e
    var_part v u (inside op us x c p) e = cc

    name_part : (n : ℕ) (u : Term) {w : Term} → IsPart u w → w ≡ Name n → u ≡ Name n
    name_part n u whole e = e
    name_part n u (inside op us x c p) e = cc

-- one of these equals the term, and where none does
pub among : (ts : List Term) (u : Term) → is_among ts u ≡ true → (t : Term) × Contains ts t × Same u t
among ts u e = let any = any_of (is_same u) ts e in (any.0, any.1, is_same_sound u any.0 any.2)

pub is_among_of : (ts : List Term) (u t : Term) → Contains ts t → Same u t → is_among ts u ≡ true
is_among_of ts u t c same = any_member (is_same u) ts t c (is_same_complete u t same)

-- An own application of a row: a part of one of its terms, which equals no part of a value.
pub record IsOwn (m : ℕ) (row : Row) (u : Term) : Type 0 where
  pub term : Term
  pub listed : Contains (drop m row) term
  pub there : IsPart u term
  pub is : is_application u ≡ true
  pub apart : is_among (flat_map parts (take m row)) u ≡ false

not_true : (b : Bool) → not b ≡ true → b ≡ false
not_true true e = cc
not_true false e = refl

pub own_is : (m : ℕ) (row : Row) (u : Term) → Contains (own_parts m row) u → IsOwn m row u
own_is m row u c =
    let f = of_filtered (λ x. not (is_among (flat_map parts (take m row)) x)) (flat_map applications (drop m row)) u c in
    let of = of_flat applications (drop m row) u f.0 in
    let is = of_filtered is_application (parts of.0) u of.2 in
    record { term = of.0; listed = of.1; there = of_parts of.0 u is.0; is = is.1; apart = not_true (is_among (flat_map parts (take m row)) u) f.1 }

pub is_own : (m : ℕ) (row : Row) (u t : Term) → Contains (drop m row) t → IsPart u t → is_application u ≡ true → is_among (flat_map parts (take m row)) u ≡ false →
    Contains (own_parts m row) u
is_own m row u t c p is apart =
    filtered_member (λ x. not (is_among (flat_map parts (take m row)) x)) (flat_map applications (drop m row)) u
    (flat_member applications (drop m row) t u c (filtered_member is_application (parts t) u (in_parts t u p) is)) (ap not apart)

-- parts of well-sorted terms are well sorted
pub part_sorted : (sig : Signature) {u t : Term} → IsPart u t → well_sorted sig t ≡ true → well_sorted sig u ≡ true
part_sorted sig whole sorted = sorted
part_sorted sig (inside op us x c p) sorted =
    part_sorted sig p (each_member (λ t. well_sorted sig t ≡ true) us x (arguments_sorted sig op us sorted) c)

-- what all members of a list pass
pub all_member : {X : Type 0} (p : X → Bool) (xs : List X) (x : X) → list_all p xs ≡ true → Contains xs x → p x ≡ true
all_member p [] x e c = absurd (none_there x c)
all_member p (y ∷ ys) x e c =
    let halves = and_parts (p y) (list_all p ys) e in
    elim (member_cases y x ys c) [ inl s ↦ sym (ap p s) ∙ halves.0 | inr d ↦ all_member p ys x halves.1 d ]

pub all_pass : {X : Type 0} (p : X → Bool) (xs : List X) → ((x : X) → Contains xs x → p x ≡ true) → list_all p xs ≡ true
all_pass p [] each = refl
all_pass p (y ∷ ys) each = passes (p y) (list_all p ys) (each y (here y ys)) (all_pass p ys (λ x c. each x (behind y x ys c)))
  where
    passes : (a b : Bool) → a ≡ true → b ≡ true → a && b ≡ true
    passes true b e f = f
    passes false b e f = e
