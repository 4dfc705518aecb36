-- Signatures stay well formed while they are made.
use Rattle.std.proofs.Common.{◌≡◌, ◌≢◌, ℕ, zero, suc, ◌+◌, ◌<◌, ◌≤◌, ◌==◌, ◌&&◌, not, Bool, true, false, cond, if◌then◌else◌, List, [], ◌∷◌, ◌++◌, Option, None, Some, is_some, is_none, length, take, drop, slice_get, refl, ap, sym, ◌∙◌, subst, arith}
use Rattle.std.specs.Option.{option_or}
use Rattle.std.proofs.lemmas.List.{drop_all, take_all, length_push}
use Rattle.npa_sorts.specs.Subsorts.{Subsorts, subsorts}
use Rattle.npa_names.specs.Names.{place_of}
use Rattle.npa_sig.specs.declared.signature.OpDecl.{OpDecl}
use Rattle.npa_sig.specs.declared.fault.SigFail.{SigFail}
use Rattle.npa_sig.specs.declared.fault.SigFail.TheVariants.{Fresh, Comm, Twice}
use Rattle.npa_sig.specs.Signature.{Signature, bare, is_pair, names_of, op_fault, first_op_fault, next_fault, with_op, with_sort, with_subsort}
use Rattle.npa_sig.specs.Operators.{HasSorts, HaveSorts, PairsCommute, IsWellFormedSignature, IsIndexed}

-- ## What can be declared

-- a commutative operator takes a pair of one sort, and the result isn't `Fresh`
record IsFine (decl : OpDecl) : Type 0 where
  pair : decl.com ≡ true → is_pair decl.args ≡ true
  not_fresh : decl.result ≢ 1

pair_of : (a b p : Bool) (x y : SigFail) (rest : Option SigFail) → cond a (Some x) (cond (b && not p) (Some y) rest) ≡ None → b ≡ true → p ≡ true
pair_of true b p x y rest e swaps = cc
pair_of false true true x y rest e swaps = refl
pair_of false true false x y rest e swaps = cc
pair_of false false p x y rest e swaps = cc

not_first : (a : Bool) (x : SigFail) (rest : Option SigFail) → cond a (Some x) rest ≡ None → a ≡ false
not_first true x rest e = cc
not_first false x rest e = refl

apart : (n m : ℕ) → (n == m) ≡ false → n ≢ m
apart n m e = grind arith

fine : (k : ℕ) (before : List (List ℕ)) (decl : OpDecl) → op_fault k before decl ≡ None → IsFine decl
fine k before decl e = record {
  pair = pair_of (decl.result == 1) decl.com (is_pair decl.args) (Fresh k) (Comm k) _ e;
  not_fresh = apart decl.result 1 (not_first (decl.result == 1) (Fresh k) _ e);
}

none_first : (o p : Option SigFail) → option_or o p ≡ None → o ≡ None
none_first None p e = refl
none_first (Some f) p e = cc

none_rest : (o p : Option SigFail) → option_or o p ≡ None → p ≡ None
none_rest None p e = e
none_rest (Some f) p e = cc

all_fine : (before : List (List ℕ)) (ops : List OpDecl) → first_op_fault before ops ≡ None → (k : ℕ) (decl : OpDecl) → slice_get ops k ≡ Some decl → IsFine decl
all_fine before [] e k decl at = cc
all_fine before (d ∷ ds) e zero decl at =
    let is : d ≡ decl = cc in
    subst IsFine is (fine (length before) before d (none_first (op_fault (length before) before d) (first_op_fault (before ++ d.name ∷ []) ds) e))
all_fine before (d ∷ ds) e (suc k) decl at =
    all_fine (before ++ d.name ∷ []) ds (none_rest (op_fault (length before) before d) (first_op_fault (before ++ d.name ∷ []) ds) e) k decl at

-- in a signature whose operators can all be declared, a commutative one takes two arguments of one sort
pub pairs_commute : (sig : Signature) → first_op_fault [] sig.ops ≡ None → PairsCommute sig
pairs_commute sig e k decl at = (all_fine [] sig.ops e k decl at).pair

-- ## Each way to make a signature

pub formed_bare : IsWellFormedSignature bare
formed_bare = record { sorts = λ k decl e. absurd (cc); pairs = λ k decl e. absurd (cc); not_fresh = λ k decl e. absurd (cc) }

pub formed_new : (sorts : Subsorts) (names : List (List ℕ)) (ops : List OpDecl) → HaveSorts sorts ops → first_op_fault [] ops ≡ None → IsWellFormedSignature (record { sorts = sorts; sort_names = names; ops = ops })
formed_new sorts names ops have e = record {
  sorts = have;
  pairs = λ k decl at. (all_fine [] ops e k decl at).pair;
  not_fresh = λ k decl at. (all_fine [] ops e k decl at).not_fresh;
}

wider : (n m : ℕ) (o : Subsorts) (decl : OpDecl) → o.declared ≡ n → n ≤ m → HasSorts o decl → (decl.result < m + 2) × ((j s : ℕ) → slice_get decl.args j ≡ Some s → s < m + 2)
wider n m o decl is wide has =
    ((let r : decl.result < o.declared + 2 = has.0 in omega (arith, r, is, wide)), λ j s g. let r : s < o.declared + 2 = has.1 j s g in omega (arith, r, is, wide))

pub formed_sort : (sig : Signature) (name : List ℕ) → IsWellFormedSignature sig → IsWellFormedSignature (with_sort sig name)
formed_sort sig name formed = record {
  sorts = λ k decl at. wider sig.sorts.declared (sig.sorts.declared + 1) sig.sorts decl refl (omega arith) (formed.sorts k decl at);
  pairs = formed.pairs;
  not_fresh = formed.not_fresh;
}

pub formed_subsort : (sig : Signature) (lower upper : ℕ) → IsWellFormedSignature sig → IsWellFormedSignature (with_subsort sig lower upper)
formed_subsort sig lower upper formed = record { sorts = formed.sorts; pairs = formed.pairs; not_fresh = formed.not_fresh }

last_or_earlier : (P : OpDecl → Type 0) (xs : List OpDecl) (x : OpDecl) → ((k : ℕ) (y : OpDecl) → slice_get xs k ≡ Some y → P y) → P x →
    (k : ℕ) (y : OpDecl) → slice_get (xs ++ x ∷ []) k ≡ Some y → P y
last_or_earlier P [] x each p zero y e = let q : x ≡ y = cc in subst P q p
last_or_earlier P [] x each p (suc k) y e = absurd (cc)
last_or_earlier P (z ∷ xs) x each p zero y e = each zero y e
last_or_earlier P (z ∷ xs) x each p (suc k) y e = last_or_earlier P xs x (λ j w f. each (suc j) w f) p k y e

pub formed_op : (sig : Signature) (decl : OpDecl) → IsWellFormedSignature sig → HasSorts sig.sorts decl → next_fault sig decl ≡ None → IsWellFormedSignature (with_op sig decl)
formed_op sig decl formed has e =
    let good = fine (length sig.ops) (names_of sig.ops) decl e in
    record {
      sorts = last_or_earlier (HasSorts sig.sorts) sig.ops decl formed.sorts has;
      pairs = last_or_earlier (λ (x : OpDecl). x.com ≡ true → is_pair x.args ≡ true) sig.ops decl formed.pairs good.pair;
      not_fresh = last_or_earlier (λ (x : OpDecl). x.result ≢ 1) sig.ops decl formed.not_fresh good.not_fresh;
    }

-- ## The table of names goes with it

names_push : (ops : List OpDecl) (decl : OpDecl) → names_of (ops ++ decl ∷ []) ≡ names_of ops ++ decl.name ∷ []
names_push [] decl = refl
names_push (d ∷ ops) decl = ap (λ ns. d.name ∷ ns) (names_push ops decl)

none_third : (a b c : Bool) (x y z : SigFail) → cond a (Some x) (cond b (Some y) (cond c (Some z) None)) ≡ None → c ≡ false
none_third true b c x y z e = cc
none_third false true c x y z e = cc
none_third false false true x y z e = cc
none_third false false false x y z e = refl

none_is : (o : Option ℕ) → is_some o ≡ false → is_none o ≡ true
none_is None e = refl
none_is (Some n) e = cc

-- where one more operator is declared: it isn't refused, and its name is added
pub indexed_op : (names added : List (List ℕ)) (sig : Signature) (decl : OpDecl) (ops : List OpDecl) (len : ℕ) (word : List ℕ) (new : Bool) →
    IsIndexed names sig → HasSorts sig.sorts decl → length sig.ops < 65535 → len ≡ length sig.ops → op_fault len names decl ≡ None →
    word ≡ decl.name → new ≡ is_none (place_of word names) → added ≡ (if new then names ++ word ∷ [] else names) → ops ≡ sig.ops ++ decl ∷ [] →
    IsIndexed added (record { sorts = sig.sorts; sort_names = sig.sort_names; ops = ops })
indexed_op names added sig decl ops len word new indexed has few count none is fresh made pushed =
    let told : next_fault sig decl ≡ None = ap (λ k. op_fault k (names_of sig.ops) decl) (sym count) ∙ ap (λ ns. op_fault len ns decl) (sym indexed.same) ∙ none in
    let apart : is_some (place_of decl.name names) ≡ false = none_third (decl.result == 1) (decl.com && not (is_pair decl.args)) (is_some (place_of decl.name names)) (Fresh len) (Comm len) (Twice len) none in
    let first : new ≡ true = fresh ∙ ap (λ w. is_none (place_of w names)) is ∙ none_is (place_of decl.name names) apart in
    let same : added ≡ names_of ops =
    made ∙ ap (λ b. if b then names ++ word ∷ [] else names) first ∙ ap (λ w. names ++ w ∷ []) is ∙ ap (λ ns. ns ++ decl.name ∷ []) indexed.same
    ∙ sym (names_push sig.ops decl) ∙ ap names_of (sym pushed) in
    let long : length ops ≡ length sig.ops + 1 = ap length pushed ∙ length_push sig.ops decl in
    record {
      same = same;
      few = omega (arith, few, long);
      named = indexed.named;
      formed = subst (λ (os : List OpDecl). IsWellFormedSignature (record { sorts = sig.sorts; sort_names = sig.sort_names; ops = os })) (sym pushed) (formed_op sig decl indexed.formed has told);
    }

-- where one more sort is declared
pub indexed_sort : (names : List (List ℕ)) (sig : Signature) (name : List ℕ) (sorts : Subsorts) (sort_names : List (List ℕ)) →
    IsIndexed names sig → sorts ≡ subsorts (sig.sorts.declared + 1) sig.sorts.pairs → sort_names ≡ sig.sort_names ++ name ∷ [] →
    IsIndexed names (record { sorts = sorts; sort_names = sort_names; ops = sig.ops })
indexed_sort names sig name sorts sort_names indexed more pushed =
    let long : length sort_names ≡ length sig.sort_names + 1 = ap length pushed ∙ length_push sig.sort_names name in
    let count : sorts.declared ≡ sig.sorts.declared + 1 = ap (λ (o : Subsorts). o.declared) more in
    let even : length sig.sort_names ≡ sig.sorts.declared = indexed.named in
    record {
      same = indexed.same;
      few = indexed.few;
      named = omega (arith, long, count, even);
      formed = subst (λ (ns : List (List ℕ)). IsWellFormedSignature (record { sorts = sorts; sort_names = ns; ops = sig.ops })) (sym pushed)
          (subst (λ (o : Subsorts). IsWellFormedSignature (record { sorts = o; sort_names = sig.sort_names ++ name ∷ []; ops = sig.ops })) (sym more) (formed_sort sig name indexed.formed));
    }

-- where all operators were gone over
pub indexed_new : (names : List (List ℕ)) (sorts : Subsorts) (sort_names : List (List ℕ)) (ops items : List OpDecl) (k : ℕ) →
    length sort_names ≡ sorts.declared → length ops < 65535 → HaveSorts sorts ops → items ≡ ops → length items ≤ k →
    first_op_fault names (drop k items) ≡ first_op_fault [] items → names ≡ names_of (take k items) →
    IsIndexed names (record { sorts = sorts; sort_names = sort_names; ops = ops })
indexed_new names sorts sort_names ops items k named few have is past rest so_far = record {
  same = so_far ∙ ap names_of (take_all k items past ∙ is);
  few = omega (arith, few);
  named = named;
  formed = formed_new sorts sort_names ops have (subst (λ (os : List OpDecl). first_op_fault [] os ≡ None) is (sym rest ∙ ap (first_op_fault names) (drop_all k items past)));
}
