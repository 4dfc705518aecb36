-- The order of terms is total. It is the lexicographic order of their spellings as lists of
-- numbers, in which no term is the beginning of another.
use Rattle.std.proofs.Common.{◌≡◌, ℕ, List, [], ◌∷◌, Ordering, Less, Equal, Greater, refl, sym, ◌∙◌, ap}
use Rattle.std.specs.Cmp.{IsTotalOrder}
use Rattle.std.specs.Cmp.Lexicographic.{slice_cmp}
use Rattle.std.specs.Ordering.{nat_cmp, ordering_then, ordering_reverse, on}
use Rattle.std.proofs.lemmas.Cmp.{nat_list_cmp_total, on_total, lists_total}
use Rattle.npa_term.specs.declared.term.Term.{Term, Var, Name, App', Row_of-Term, end_of-Term, more_of-Term}
use Rattle.npa_term.specs.Order.{term_cmp, row_cmp}

abbrev mutual
  -- the spelling of a term in front of a list
  pub spelling : Term → List ℕ → List ℕ
  spelling (Var v) ns = 0 ∷ v.num ∷ v.sort ∷ ns
  spelling (Name n) ns = 1 ∷ n ∷ ns
  spelling (App' op n args) ns = 2 ∷ op.num ∷ row_spelling args ns

  pub row_spelling : {n : _} → Row_of-Term n → List ℕ → List ℕ
  row_spelling end_of-Term ns = 0 ∷ ns
  row_spelling (more_of-Term t rest) ns = 1 ∷ spelling t (row_spelling rest ns)

then_assoc : (o p q : Ordering) → ordering_then o (ordering_then p q) ≡ ordering_then (ordering_then o p) q
then_assoc Less p q = refl
then_assoc Equal p q = refl
then_assoc Greater p q = refl

then_equal : (o : Ordering) → ordering_then o Equal ≡ o
then_equal Less = refl
then_equal Equal = refl
then_equal Greater = refl

mutual
  -- spellings are compared as the terms, and then by what follows them
  spelled : (t u : Term) (ms ns : List ℕ) → slice_cmp nat_cmp (spelling t ms) (spelling u ns) ≡ ordering_then (term_cmp t u) (slice_cmp nat_cmp ms ns)
  spelled (Var v) (Var w) ms ns = then_assoc (nat_cmp v.num w.num) (nat_cmp v.sort w.sort) (slice_cmp nat_cmp ms ns)
  spelled (Var v) (Name n) ms ns = refl
  spelled (Var v) (App' g k us) ms ns = refl
  spelled (Name m) (Var w) ms ns = refl
  spelled (Name m) (Name n) ms ns = refl
  spelled (Name m) (App' g k us) ms ns = refl
  spelled (App' f j ts) (Var w) ms ns = refl
  spelled (App' f j ts) (Name n) ms ns = refl
  spelled (App' f j ts) (App' g k us) ms ns =
      ap (λ o. ordering_then (nat_cmp f.num g.num) o) (row_spelled ts us ms ns)
      ∙ then_assoc (nat_cmp f.num g.num) (row_cmp ts us) (slice_cmp nat_cmp ms ns)

  row_spelled : {m n : _} (ts : Row_of-Term m) (us : Row_of-Term n) (ms ns : List ℕ) → slice_cmp nat_cmp (row_spelling ts ms) (row_spelling us ns) ≡ ordering_then (row_cmp ts us) (slice_cmp nat_cmp ms ns)
  row_spelled end_of-Term end_of-Term ms ns = refl
  row_spelled end_of-Term (more_of-Term u us) ms ns = refl
  row_spelled (more_of-Term t ts) end_of-Term ms ns = refl
  row_spelled (more_of-Term t ts) (more_of-Term u us) ms ns =
      spelled t u (row_spelling ts ms) (row_spelling us ns)
      ∙ ap (λ o. ordering_then (term_cmp t u) o) (row_spelled ts us ms ns)
      ∙ then_assoc (term_cmp t u) (row_cmp ts us) (slice_cmp nat_cmp ms ns)

cmp_is : (t u : Term) → term_cmp t u ≡ on (λ v. spelling v []) (slice_cmp nat_cmp) t u
cmp_is t u = sym (spelled t u [] [] ∙ then_equal (term_cmp t u))

-- the order of terms is total
pub term_cmp_total : IsTotalOrder term_cmp
term_cmp_total =
    let o : IsTotalOrder (on (λ (v : Term). spelling v []) (slice_cmp nat_cmp)) = on_total (λ v. spelling v []) nat_list_cmp_total in
    record {
      antisymm = λ x y. cmp_is x y ∙ o.antisymm x y ∙ ap ordering_reverse (sym (cmp_is y x));
      trans = λ x y z p q. cmp_is x z ∙ o.trans x y z (sym (cmp_is x y) ∙ p) (sym (cmp_is y z) ∙ q);
      congr = λ x y z p. cmp_is x z ∙ o.congr x y z (sym (cmp_is x y) ∙ p) ∙ sym (cmp_is y z);
    }

-- and so is that of lists of terms
pub all_cmp_total : IsTotalOrder (slice_cmp term_cmp)
all_cmp_total = lists_total term_cmp_total
