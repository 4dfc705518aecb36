-- What is read of a module text is well formed.
use Rattle.std.proofs.Common.{◌≡◌, ℕ, zero, suc, ◌+◌, ◌<◌, ◌==◌, nat_lt, Bool, true, false, cond, List, [], ◌∷◌, Option, None, Some, Result, Ok, Err, map, length, get_or, refl, ap, sym, ◌∙◌, subst, arith, All, Contains, is_none, option_map, bytes_eq}
use Rattle.std.specs.Prelude.{slice_get, unwrap_or}
use Rattle.std.proofs.lemmas.Slice.Eq.{bytes_eq-Decides}
use Rattle.npa_syntax.specs.declared.node.Node.{Node}
use Rattle.npa_text.specs.declared.token.Token.{Token}
use Rattle.npa_text.specs.declared.token.Raw.{Raw, out-Raw}
use Rattle.npa_text.specs.Raws.{token_at}
use Rattle.npa_text.specs.Texts.{text_of}
use Rattle.npa_names.specs.Names.{place_of}
use Rattle.npa_term.specs.declared.term.Var.{Var as Variable_}
use Rattle.npa_term.specs.declared.term.Term.{Term}
use Rattle.npa_term.specs.Variables.{variables}
use Rattle.npa_sig.specs.declared.fault.UseFail.{UseFail}
use Rattle.npa_sig.specs.Signature.{Signature, is_pair as is_sort_pair}
use Rattle.npa_sig.specs.Sorting.{is_sort as is_sort_number}
use Rattle.npa_term.specs.Parts.{least_sort as sort_of}
use Rattle.npa_sig.specs.Meaning.{read, IsSorted, scope_variables}
use Rattle.npa_sig.proofs.Sorted.{sorted_answer, own_answer}
use Rattle.npa_sig.specs.WellFormed.{IsTermOver, IsMessageOver, AreSorts}
use Rattle.npa_module.specs.declared.source.ReadError.{ReadError}
use Rattle.npa_module.specs.declared.draft.Draft.{Draft}
use Rattle.npa_reading.specs.Trees.{word_at}
use Rattle.npa_module.specs.Drafts.{sort_number}
use Rattle.npa_reading.specs.Reading.{told_if, first_told, unless, in_front, all_read}
use Rattle.npa_module.specs.Refusals.{name_refusal}
use Rattle.npa_module.specs.Items.{is_pair, scope_from, sort_named, one_sort_read, sorts_read, term_from, term_read, message, message_read}
use Rattle.npa_module.specs.Rooms.{IsNamed}
use Rattle.npa_module.proofs.Growth.{ok_unless, ok_then}

abbrev pub OkOf : {A : Type 0} → A → Result A ReadError
OkOf x = Ok x

pub ok_is : {A : Type 0} (x y : A) → OkOf x ≡ OkOf y → x ≡ y
ok_is x y e = cc

-- ## Refusals that aren't told

pub none_unless : {A : Type 0} (o : Option ReadError) (r : Result A ReadError) (y : A) → unless o r ≡ Ok y → o ≡ None
none_unless None r y e = refl
none_unless (Some f) r y e = absurd (cc)

pub untold : (b : Bool) (e : ReadError) → told_if b e ≡ None → b ≡ false
untold true e q = absurd (cc)
untold false e q = refl

pub untold_first : (b : Bool) (e : ReadError) (rest : List (Option ReadError)) → first_told (told_if b e ∷ rest) ≡ None → b ≡ false
untold_first true e rest q = absurd (cc)
untold_first false e rest q = refl

pub untold_rest : (b : Bool) (e : ReadError) (rest : List (Option ReadError)) → first_told (told_if b e ∷ rest) ≡ None → first_told rest ≡ None
untold_rest true e rest q = absurd (cc)
untold_rest false e rest q = q

-- ## Lists

-- P holds of each member, by cases on the list
abbrev pub EachOf : {A : Type 0} → (A → Type 0) → List A → Type 0
EachOf P [] = Unit {0}
EachOf P (x ∷ xs) = P x × EachOf P xs

each_at : {A : Type 0} (P : A → Type 0) (xs : List A) → EachOf P xs → (k : ℕ) (d : A) → k < length xs → P (get_or xs k d)
each_at P [] each k d lt = absurd (let no : ⊥ = omega (arith, lt) in no)
each_at P (x ∷ xs) each zero d lt = each.0
each_at P (x ∷ xs) each (suc k) d lt = each_at P xs each.1 k d (omega (arith, lt))

pub each_member : {A : Type 0} (P : A → Type 0) (xs : List A) → EachOf P xs → (x : A) → Contains xs x → P x
each_member P xs each x h = subst P h.2 (each_at P xs each h.0 x h.1)

pub each_read : {A B : Type 0} (P : B → Type 0) (f : A → Result B ReadError) (ns : List A) (xs : List B) →
    ((n : A) (x : B) → f n ≡ Ok x → P x) → all_read (map f ns) ≡ Ok xs → EachOf P xs
each_read P f [] xs good e = let q : [] ≡ xs = cc in subst (EachOf P) q tt
each_read {A} {B} P f (n ∷ ns) xs good e = split (f n) (all_read (map f ns)) refl (λ ys q. each_read P f ns ys good q) e
  where
    split : (r : Result B ReadError) (o : Result (List B) ReadError) → f n ≡ r → ((ys : List B) → o ≡ Ok ys → EachOf P ys) → in_front r o ≡ Ok xs → EachOf P xs
    split (Ok x) (Ok ys) is rest q = let same : x ∷ ys ≡ xs = cc in subst (EachOf P) same (good n x is, rest ys refl)
    split (Ok x) (Err y) is rest q = absurd (cc)
    split (Err x) o is rest q = absurd (cc)

-- ## Sorts

place_next : (o : Option ℕ) (n k : ℕ) → ((j : ℕ) → o ≡ Some j → j < n) → option_map (λ j. j + 1) o ≡ Some k → k < suc n
place_next None n k rest e = absurd (cc)
place_next (Some j) n k rest e = let q : j + 1 ≡ k = cc in let r : j < n = rest j refl in omega (arith, q, r)

pub place_within : (name : List ℕ) (names : List (List ℕ)) (k : ℕ) → place_of name names ≡ Some k → k < length names
place_within name [] k e = absurd (cc)
place_within name (n ∷ ns) k e = split (bytes_eq name n) (λ j q. place_within name ns j q) e
  where
    split : (b : Bool) → ((j : ℕ) → place_of name ns ≡ Some j → j < length ns) → cond b (Some 0) (option_map (λ j. j + 1) (place_of name ns)) ≡ Some k → k < suc (length ns)
    split true rest q = let z : 0 ≡ k = cc in omega (arith, z)
    split false rest q = place_next (place_of name ns) (length ns) k rest q

below_is_less : (s n : ℕ) → s < n → nat_lt s n ≡ true
below_is_less s n lt = grind arith

less_is_below : (s n : ℕ) → nat_lt s n ≡ true → s < n
less_is_below s n e = grind arith

module _ (bytes : List ℕ) where
  pub sort_value : (sorts : List (List ℕ)) (token : Token) (s : ℕ) → one_sort_read bytes sorts token ≡ Ok s → s ≡ sort_named bytes sorts token
  sort_value sorts token s e = sym (ok_is _ s (ok_unless _ _ s e))

  named_within : (sorts : List (List ℕ)) (token : Token) (s : ℕ) → one_sort_read bytes sorts token ≡ Ok s → s < length sorts
  named_within sorts token s e = split (sort_number sorts (text_of bytes token)) refl e
    where
      split : (o : Option ℕ) → sort_number sorts (text_of bytes token) ≡ o → unless (told_if (is_none o) (name_refusal bytes token)) (Ok (unwrap_or o 0)) ≡ Ok s → s < length sorts
      split None is q = absurd (cc)
      split (Some k) is q = let same : k ≡ s = cc in subst (λ n. n < length sorts) same (place_within (text_of bytes token) sorts k is)

  module _ (d : Draft) (named : IsNamed d) where
    -- a declared sort is a sort
    pub sort_is : (token : Token) (s : ℕ) → one_sort_read bytes d.sorts token ≡ Ok s → s < d.sig.sorts.declared + 2
    sort_is token s e = let p = named_within d.sorts token s e in let n = named.sorts in omega (arith, p, n)

    pub sort_is_number : (token : Token) (s : ℕ) → one_sort_read bytes d.sorts token ≡ Ok s → is_sort_number d.sig s ≡ true
    sort_is_number token s e = below_is_less s (d.sig.sorts.declared + 2) (sort_is token s e)

  module _ (tokens : List Token) where
    -- two words that are the same stand for one sort
    pub pair_is : (sorts : List (List ℕ)) (nodes : List Node) (args : List ℕ) → is_pair (map (word_at bytes tokens) nodes) ≡ true → sorts_read bytes tokens sorts nodes ≡ Ok args → is_sort_pair args ≡ true
    pair_is sorts [] args p e = absurd (cc)
    pair_is sorts (n ∷ []) args p e = absurd (cc)
    pair_is sorts (n ∷ m ∷ []) args p e = split (one_sort_read bytes sorts (token_at tokens n)) (one_sort_read bytes sorts (token_at tokens m)) refl refl e
      where
        same_word : word_at bytes tokens n ≡ word_at bytes tokens m
        same_word = (bytes_eq-Decides (word_at bytes tokens n) (word_at bytes tokens m)).0 p

        equal : (s t : ℕ) → s ≡ t → (s == t) ≡ true
        equal s t q = grind arith

        split : (r o : Result ℕ ReadError) → one_sort_read bytes sorts (token_at tokens n) ≡ r → one_sort_read bytes sorts (token_at tokens m) ≡ o → all_read (r ∷ o ∷ []) ≡ Ok args → is_sort_pair args ≡ true
        split (Ok s) (Ok t) is js q =
            let made : s ∷ t ∷ [] ≡ args = cc in
            subst (λ (l : List ℕ). is_sort_pair l ≡ true) made
            (equal s t (sort_value sorts (token_at tokens n) s is ∙ ap (λ (w : List ℕ). unwrap_or (sort_number sorts w) 0) same_word ∙ sym (sort_value sorts (token_at tokens m) t js)))
        split (Ok s) (Err y) is js q = absurd (cc)
        split (Err x) o is js q = absurd (cc)
    pair_is sorts (n ∷ m ∷ k ∷ ns) args p e = absurd (cc)

-- ## Scopes

-- a variable of a scope has the number of a place among the sorts, and the sort there
pub record HasPlace (k : ℕ) (sorts : List ℕ) (v : Variable_) : Type 0 where
  pub place : ℕ
  pub number : v.num ≡ k + place
  pub sort : slice_get sorts place ≡ Some v.sort

next_place : (k s : ℕ) (ss : List ℕ) (v : Variable_) → HasPlace (k + 1) ss v → HasPlace k (s ∷ ss) v
next_place k s ss v h = record { place = suc h.place; number = (let q = h.number in omega (arith, q)); sort = h.sort }

pub scope_place : (k : ℕ) (ns : List (List ℕ)) (ss : List ℕ) (v : Variable_) → Contains (scope_variables (scope_from k ns ss)) v → HasPlace k ss v
scope_place k [] ss v h = let lt = h.1 in absurd (let no : ⊥ = omega (arith, lt) in no)
scope_place k (n ∷ ns) [] v h = let lt = h.1 in absurd (let no : ⊥ = omega (arith, lt) in no)
scope_place k (n ∷ ns) (s ∷ ss) v h = split h.0 h.1 h.2 (λ g. scope_place (k + 1) ns ss v g)
  where
    here : Variable_
    here = record { num = k; sort = s }

    split : (j : ℕ) → j < suc (length (scope_variables (scope_from (k + 1) ns ss))) → get_or (here ∷ scope_variables (scope_from (k + 1) ns ss)) j v ≡ v →
        (Contains (scope_variables (scope_from (k + 1) ns ss)) v → HasPlace (k + 1) ss v) → HasPlace k (s ∷ ss) v
    split zero lt q rest =
        record {
          place = 0;
          number = (let e : k ≡ v.num = ap (λ (w : Variable_). w.num) q in omega (arith, e));
          sort = ap Some (ap (λ (w : Variable_). w.sort) q);
        }
    split (suc j) lt q rest = next_place k s ss v (rest (j, omega (arith, lt), q))

pub scope_own : (ns : List (List ℕ)) (ss : List ℕ) (v : Variable_) → Contains (scope_variables (scope_from 0 ns ss)) v → slice_get ss v.num ≡ Some v.sort
scope_own ns ss v h =
    let p = scope_place 0 ns ss v h in
    let q : v.num ≡ p.place = (let e = p.number in omega (arith, e)) in
    ap (slice_get ss) q ∙ p.sort

pub got_contained : (ss : List ℕ) (k s : ℕ) → slice_get ss k ≡ Some s → Contains ss s
got_contained [] k s e = absurd (cc)
got_contained (x ∷ ss) zero s e = let q : x ≡ s = cc in (0, omega arith, q)
got_contained (x ∷ ss) (suc k) s e = further (got_contained ss k s e)
  where
    further : Contains ss s → Contains (x ∷ ss) s
    further h = let lt = h.1 in (suc h.0, omega (arith, lt), h.2)

pub scope_sorted : (sig : Signature) (ns : List (List ℕ)) (ss : List ℕ) → AreSorts sig ss → IsSorted sig (scope_from 0 ns ss)
scope_sorted sig ns ss are v h = are v.sort (got_contained ss v.num v.sort (scope_own ns ss v h))

-- ## Terms

pub read_ok : (r : Result Term UseFail) (t : Term) → term_from r ≡ Ok t → r ≡ Ok t
read_ok (Ok u) t e = let q : u ≡ t = cc in ap Ok q
read_ok (Err f) t e = absurd (cc)

module _ (bytes : List ℕ) (sig : Signature) (ns : List (List ℕ)) (ss : List ℕ) (are : AreSorts sig ss) where
  pub term_over : (raw : Raw) (t : Term) → term_read bytes sig (scope_from 0 ns ss) raw ≡ Ok t → IsTermOver sig ss t
  term_over raw t e =
      let is : read sig (scope_from 0 ns ss) bytes raw ≡ Ok t = read_ok (read sig (scope_from 0 ns ss) bytes raw) t e in
      record {
        sorted = sorted_answer sig (scope_from 0 ns ss) bytes (Ok t) raw is (scope_sorted sig ns ss are);
        own = λ v h.
            let all : All (Contains (scope_variables (scope_from 0 ns ss))) (variables t) = own_answer sig (scope_from 0 ns ss) bytes (Ok t) raw is in
            scope_own ns ss v (subst (Contains (scope_variables (scope_from 0 ns ss))) h.2 (all h.0 v h.1));
      }

  pub message_over : (raw : Raw) (t : Term) → message_read bytes sig (scope_from 0 ns ss) raw ≡ Ok t → IsMessageOver sig ss t
  message_over raw t e =
      let b = ok_then (message bytes (out-Raw raw).head) (term_read bytes sig (scope_from 0 ns ss) raw) t e in
      let same : b.value ≡ t = ok_is b.value t (ok_unless _ _ t b.gives) in
      let apart : (sort_of b.value == 1) ≡ false = untold _ _ (none_unless _ _ t b.gives) in
      subst (IsMessageOver sig ss) same (record {
        term = term_over raw b.value b.is;
        not_fresh = λ one. let clash : (1 == 1) ≡ false = sym (ap (λ n. n == 1) one) ∙ apart in absurd (cc);
      })
