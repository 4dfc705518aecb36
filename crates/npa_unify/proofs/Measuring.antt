-- The values of bindings and their sizes.
use Rattle.std.proofs.Common.{◌≡◌, ℕ, zero, suc, ◌+◌, ◌-◌, ◌<◌, ◌≤◌, ◌^◌, min, Bool, true, false, cond, Option, Some, None, List, [], ◌∷◌, ◌++◌, map, take, drop, length, get_or, set, refl, sym, ◌∙◌, ap, subst, inl, inr, arith}
use Rattle.std.specs.Prelude.{Contains, IfSome, slice_get, find, nat_lt, option_map, replicate}
use Rattle.std.proofs.lemmas.List.Elements.{Contains-append_cases}
use Rattle.std.proofs.lemmas.Option.{get_or_from_slice_get, slice_get-get_or, slice_get-map, slice_get_within}
use Rattle.std.proofs.lemmas.List.{append_assoc, take_all, take_more}
use Rattle.npa_term.specs.declared.term.Op.{Op}
use Rattle.npa_term.specs.declared.term.Var.{Var as Variable}
use Rattle.npa_term.specs.declared.term.Term.{Term, Var, Name, App}
use Rattle.npa_term.specs.Bound.{same_var}
use Rattle.npa_term.specs.Canonical.{canonical}
use Rattle.npa_term.specs.Composition.{first_past}
use Rattle.npa_term.specs.Symbols.{symbol_count, all_count}
use Rattle.npa_term.proofs.CanonicalLaws.{symbol_count-canonical}
use Rattle.npa_term.proofs.Equality.{var_equal}
use Rattle.npa_term.proofs.Rows.{count_member, symbol_count_at}
use Rattle.npa_unify.specs.declared.heads.Head.{Head}
use Rattle.npa_unify.specs.Answers.{resolved, finished}
use Rattle.npa_unify.specs.Seen.{AreKnown, SoundAfter, IsSound, counts, full, head_term, raw, solved, solved_after, walked}
use Rattle.npa_unify.proofs.Finishing.{names}
use Rattle.npa_unify.proofs.Heading.{map_at, map_length}
use Rattle.npa_unify.proofs.Members.{EachOf, each_member, member_at, only_one}
use Rattle.npa_unify.proofs.PairVariables.{var_other}
use Rattle.npa_unify.proofs.Seeing.{absent, full_app, full_behind, full_more, full_name, full_unbound, solved_more, value_is, walk_app, walk_name, walk_var}

-- a value stands for what its variable stands for

values_stand : (done bs : List (Variable × Term)) → SoundAfter done bs → EachOf (λ b. full (done ++ bs) b.1 ≡ full (done ++ bs) (Var b.0)) bs
values_stand done [] sound = tt
values_stand done (b ∷ bs) sound =
    let split : (done ++ b ∷ []) ++ bs ≡ done ++ b ∷ bs = append_assoc done (b ∷ []) bs in
    let here_ : full ((done ++ b ∷ []) ++ bs) b.1 ≡ full ((done ++ b ∷ []) ++ bs) (Var b.0) =
    full_behind (done ++ b ∷ []) bs b.1 ∙ ap (resolved (solved_after (solved (done ++ b ∷ [])) bs)) (value_is done b.0 b.1 sound.0)
    ∙ sym (full_behind (done ++ b ∷ []) bs (Var b.0)) in (
      subst (λ cs. full cs b.1 ≡ full cs (Var b.0)) split here_,
      subst (λ cs. EachOf (λ (d : Variable × Term). full cs d.1 ≡ full cs (Var d.0)) bs) split (values_stand (done ++ b ∷ []) bs sound.1),
    )

pub value_stands : (bs : List (Variable × Term)) (b : Variable × Term) → IsSound bs → Contains bs b → full bs b.1 ≡ full bs (Var b.0)
value_stands bs b sound c = each_member (λ (d : Variable × Term). full bs d.1 ≡ full bs (Var d.0)) bs b (values_stand [] bs sound) c

-- the values as they are answered

pub finished_values : (done bs : List (Variable × Term)) → SoundAfter done bs → finished (solved_after (solved done) bs) ≡ map (λ b. (b.0, canonical (full (done ++ bs) b.1))) bs
finished_values done [] sound = refl
finished_values done (b ∷ bs) sound =
    let new : Variable × Term = (b.0, resolved (solved done) b.1) in
    let split : (done ++ b ∷ []) ++ bs ≡ done ++ b ∷ bs = append_assoc done (b ∷ []) bs in
    let more : solved done ++ new ∷ [] ≡ solved (done ++ b ∷ []) = sym (solved_more done b.0 b.1) in
    let value : full ((done ++ b ∷ []) ++ bs) b.1 ≡ resolved (solved_after (solved (done ++ b ∷ [])) bs) (full done b.1) =
    full_behind (done ++ b ∷ []) bs b.1
    ∙ ap (resolved (solved_after (solved (done ++ b ∷ [])) bs)) (full_more done b.0 b.1 b.1 ∙ absent b.0 (full done b.1) (full done b.1) sound.0.free) in
    let first : canonical (resolved (solved_after (solved done ++ new ∷ []) bs) (resolved (solved done) b.1)) ≡ canonical (full (done ++ b ∷ bs) b.1) =
    ap (λ s. canonical (resolved (solved_after s bs) (resolved (solved done) b.1))) more ∙ ap canonical (sym value) ∙ ap (λ cs. canonical (full cs b.1)) split in
    let rest : finished (solved_after (solved done ++ new ∷ []) bs) ≡ map (λ d. (d.0, canonical (full (done ++ b ∷ bs) d.1))) bs =
    ap (λ s. finished (solved_after s bs)) more ∙ finished_values (done ++ b ∷ []) bs sound.1 ∙ ap (λ cs. map (λ (d : Variable × Term). (d.0, canonical (full cs d.1))) bs) split in
    ap (λ t. (b.0, t) ∷ finished (solved_after (solved done ++ new ∷ []) bs)) first
    ∙ ap (λ l. (b.0, canonical (full (done ++ b ∷ bs) b.1)) ∷ l) rest

-- sizes

map_counts : (h : Term → Term) (bs : List (Variable × Term)) →
    map (λ (b : Variable × Term). min (symbol_count b.1) (2 ^ 64 - 1)) (map (λ (b : Variable × Term). (b.0, canonical (h b.1))) bs) ≡ map (λ b. min (symbol_count (h b.1)) (2 ^ 64 - 1)) bs
map_counts h [] = refl
map_counts h (b ∷ bs) =
    ap (λ n. min n (2 ^ 64 - 1) ∷ map (λ (d : Variable × Term). min (symbol_count d.1) (2 ^ 64 - 1)) (map (λ (d : Variable × Term). (d.0, canonical (h d.1))) bs)) (symbol_count-canonical (h b.1))
    ∙ ap (λ ns. min (symbol_count (h b.1)) (2 ^ 64 - 1) ∷ ns) (map_counts h bs)

pub counts_past : (bs : List (Variable × Term)) → IsSound bs → first_past 1024 (finished (solved bs)) ≡ find (λ n. nat_lt 1024 n) (counts bs)
counts_past bs sound =
    ap (λ ns. find (λ n. nat_lt 1024 n) ns) (ap (map (λ (b : Variable × Term). min (symbol_count b.1) (2 ^ 64 - 1))) (finished_values [] bs sound) ∙ map_counts (full bs) bs)

pub raw_length : (bs : List (Variable × Head)) → length (raw bs) ≡ length bs
raw_length [] = refl
raw_length (b ∷ bs) = let rest : length (raw bs) ≡ length bs = raw_length bs in omega (arith, rest)

pub counts_length : (bs cs : List (Variable × Term)) → length (map (λ b. min (symbol_count (full cs b.1)) (2 ^ 64 - 1)) bs) ≡ length bs
counts_length [] cs = refl
counts_length (b ∷ bs) cs = let rest : length (map (λ b. min (symbol_count (full cs b.1)) (2 ^ 64 - 1)) bs) ≡ length bs = counts_length bs cs in omega (arith, rest)

-- what is known

pub known_length : {X : Type 0} (ks : List (Option X)) (ns : List X) → AreKnown ks ns → length ks ≡ length ns
known_length [] [] known = refl
known_length [] (n ∷ ns) known = absurd known
known_length (k ∷ ks) [] known = absurd known
known_length (k ∷ ks) (n ∷ ns) known = let rest : length ks ≡ length ns = known_length ks ns known.1 in omega (arith, rest)

pub known_at : {X : Type 0} (ks : List (Option X)) (ns : List X) (i : ℕ) (m : X) → AreKnown ks ns → slice_get ks i ≡ Some (Some m) → slice_get ns i ≡ Some m
known_at [] ns i m known e = cc
known_at (k ∷ ks) [] i m known e = absurd known
known_at {X = X} (k ∷ ks) (n ∷ ns) zero m known e =
    let is : k ≡ Some m = cc in
    let same : m ≡ n = subst (λ (o : Option X). IfSome o (λ j. j ≡ n)) is known.0 in
    sym (ap Some same)
known_at (k ∷ ks) (n ∷ ns) (suc i) m known e = known_at ks ns i m known.1 e

pub known_set : {X : Type 0} (ks : List (Option X)) (ns : List X) (i : ℕ) (m : X) → AreKnown ks ns → slice_get ns i ≡ Some m → AreKnown (set ks i (Some m)) ns
known_set [] [] i m known e = cc
known_set [] (n ∷ ns) i m known e = absurd known
known_set (k ∷ ks) [] i m known e = absurd known
known_set (k ∷ ks) (n ∷ ns) zero m known e = (let is : n ≡ m = cc in sym is, known.1)
known_set (k ∷ ks) (n ∷ ns) (suc i) m known e = (known.0, known_set ks ns i m known.1 e)

-- members by their places

pub member_got : {X : Type 0} (xs : List X) (i : ℕ) (x : X) → slice_get xs i ≡ Some x → Contains xs x
member_got xs i x e = subst (Contains xs) (get_or_from_slice_get xs i x x e) (member_at xs i x (slice_get_within xs i x e))

counts_got : {X : Type 0} (h : Variable × Term → X) (bs : List (Variable × Term)) (i : ℕ) (b : Variable × Term) → slice_get bs i ≡ Some b → slice_get (map h bs) i ≡ Some (h b)
counts_got h bs i b e = slice_get-map h bs i ∙ ap (option_map h) e

pub raw_got : (bs : List (Variable × Head)) (i : ℕ) (d : Variable × Head) → i < length bs → slice_get (raw bs) i ≡ Some ((get_or bs i d).0, head_term (get_or bs i d).1)
raw_got bs i d small =
    slice_get-map (λ (b : Variable × Head). (b.0, head_term b.1)) bs i
    ∙ ap (option_map (λ (b : Variable × Head). (b.0, head_term b.1))) (slice_get-get_or bs i d small)

-- the measure of a value
abbrev pub measures : List (Variable × Term) → List ℕ
measures bs = map (λ b. symbol_count (full bs b.1)) bs

pub value_measure : (bs : List (Variable × Term)) (i : ℕ) (b : Variable × Term) → slice_get bs i ≡ Some b → get_or (measures bs) i 0 ≡ symbol_count (full bs b.1)
value_measure bs i b e = get_or_from_slice_get (measures bs) i (symbol_count (full bs b.1)) 0 (counts_got (λ d. symbol_count (full bs d.1)) bs i b e)

pub value_count : (bs : List (Variable × Term)) (i : ℕ) (b : Variable × Term) → slice_get bs i ≡ Some b → slice_get (counts bs) i ≡ Some (min (symbol_count (full bs b.1)) (2 ^ 64 - 1))
value_count bs i b e = counts_got (λ d. min (symbol_count (full bs d.1)) (2 ^ 64 - 1)) bs i b e

pub raw_measure : (bs : List (Variable × Head)) (i : ℕ) (d : Variable × Head) → i < length bs → get_or (measures (raw bs)) i 0 ≡ symbol_count (full (raw bs) (head_term (get_or bs i d).1))
raw_measure bs i d small = value_measure (raw bs) i ((get_or bs i d).0, head_term (get_or bs i d).1) (raw_got bs i d small)

pub raw_count : (bs : List (Variable × Head)) (i : ℕ) (d : Variable × Head) (n : ℕ) → i < length bs → n ≡ min (symbol_count (full (raw bs) (head_term (get_or bs i d).1))) (2 ^ 64 - 1) →
    slice_get (counts (raw bs)) i ≡ Some n
raw_count bs i d n small e = value_count (raw bs) i ((get_or bs i d).0, head_term (get_or bs i d).1) (raw_got bs i d small) ∙ ap Some (sym e)

pub known_places : (ks : List (Option ℕ)) (bs : List (Variable × Head)) → AreKnown ks (counts (raw bs)) → length ks ≡ length bs
known_places ks bs known = known_length ks (counts (raw bs)) known ∙ counts_length (raw bs) (raw bs) ∙ raw_length bs

-- a variable that is bound, and one that isn't

pub bound_value : (bs : List (Variable × Term)) (i : ℕ) (b : Variable × Term) (v : Variable) (t : Term) → IsSound bs → slice_get bs i ≡ Some b → b.0 ≡ v → t ≡ Var v → full bs t ≡ full bs b.1
bound_value bs i b v t sound e is same = ap (full bs) same ∙ ap (λ w. full bs (Var w)) (sym is) ∙ sym (value_stands bs b sound (member_got bs i b e))

pub bound_measure : (bs : List (Variable × Term)) (i : ℕ) (b : Variable × Term) (v : Variable) (t : Term) → IsSound bs → slice_get bs i ≡ Some b → b.0 ≡ v → t ≡ Var v →
    get_or (measures bs) i 0 ≡ symbol_count (full bs t)
bound_measure bs i b v t sound e is same = value_measure bs i b e ∙ ap symbol_count (sym (bound_value bs i b v t sound e is same))

pub bound_within : (bs : List (Variable × Head)) (i : ℕ) (b : Variable × Term) → slice_get (raw bs) i ≡ Some b → i < length bs
bound_within bs i b e =
    let long : length (raw bs) ≡ length bs = raw_length bs in
    let within : i < length (raw bs) = slice_get_within (raw bs) i b e in
    omega (arith, long, within)

pub bound_count : (bs : List (Variable × Term)) (i : ℕ) (b : Variable × Term) (v : Variable) (t : Term) (n : ℕ) → IsSound bs → slice_get bs i ≡ Some b → b.0 ≡ v → t ≡ Var v →
    slice_get (counts bs) i ≡ Some n → n ≡ min (symbol_count (full bs t)) (2 ^ 64 - 1)
bound_count bs i b v t n sound e is same found =
    some_equal n (min (symbol_count (full bs b.1)) (2 ^ 64 - 1)) (sym found ∙ value_count bs i b e)
    ∙ ap (λ x. min (symbol_count x) (2 ^ 64 - 1)) (sym (bound_value bs i b v t sound e is same))
  where
    some_equal : (m n : ℕ) → Some m ≡ Some n → m ≡ n
    some_equal m n e = cc

pub one_symbol : (t : Term) (v : Variable) (bs : List (Variable × Term)) → t ≡ Var v → (Contains (names bs) v → ⊥) → 1 ≡ min (symbol_count (full bs t)) (2 ^ 64 - 1)
one_symbol t v bs e other = sym (ap (λ x. min (symbol_count x) (2 ^ 64 - 1)) (ap (full bs) e ∙ full_unbound bs v other))

pub one_name : (t : Term) (n : ℕ) (bs : List (Variable × Term)) → t ≡ Name n → 1 ≡ min (symbol_count (full bs t)) (2 ^ 64 - 1)
one_name t n bs e = sym (ap (λ x. min (symbol_count x) (2 ^ 64 - 1)) (ap (full bs) e ∙ full_name bs n))

pub walked_variable : (bs : List (Variable × Term)) (t : Term) (v : Variable) → IsSound bs → Var v ≡ walked bs t → 1 ≡ min (symbol_count (full bs t)) (2 ^ 64 - 1)
walked_variable bs t v sound e = sym (ap (λ x. min (symbol_count x) (2 ^ 64 - 1)) (walk_var bs t v sound e))

pub walked_name : (bs : List (Variable × Term)) (t : Term) (n : ℕ) → IsSound bs → Name n ≡ walked bs t → 1 ≡ min (symbol_count (full bs t)) (2 ^ 64 - 1)
walked_name bs t n sound e = sym (ap (λ x. min (symbol_count x) (2 ^ 64 - 1)) (walk_name bs t n sound e))

-- applications

pub whole_measure : (bs : List (Variable × Term)) (t : Term) (f : Op) (ts : List Term) → t ≡ App f ts → symbol_count (full bs t) ≡ 1 + all_count (map (full bs) ts)
whole_measure bs t f ts e = symbol_count_at (full bs t) f (map (full bs) ts) (ap (full bs) e ∙ full_app bs f ts)

pub walked_measure : (bs : List (Variable × Term)) (t : Term) (f : Op) (ts : List Term) → IsSound bs → App f ts ≡ walked bs t → symbol_count (full bs t) ≡ 1 + all_count (map (full bs) ts)
walked_measure bs t f ts sound e = symbol_count_at (full bs t) f (map (full bs) ts) (walk_app bs t f ts sound e)

pub argument_measure : (bs : List (Variable × Term)) (ts : List Term) (i : ℕ) (t : Term) → i < length ts → t ≡ get_or ts i t → symbol_count (full bs t) ≤ all_count (map (full bs) ts)
argument_measure bs ts i t small is =
    let long : length (map (full bs) ts) ≡ length ts = map_length (full bs) ts in
    let least : symbol_count (get_or (map (full bs) ts) i (full bs t)) ≤ all_count (map (full bs) ts) = count_member (map (full bs) ts) i (full bs t) (omega (arith, small, long)) in
    let same : symbol_count (get_or (map (full bs) ts) i (full bs t)) ≡ symbol_count (full bs t) = ap symbol_count (map_at (full bs) ts i t small ∙ ap (full bs) (sym is)) in
    omega (arith, least, same)

-- the place of a variable

pub bound_at : (bs : List (Variable × Head)) (i : ℕ) (d : Variable × Head) (v : Variable) → i < length bs → true ≡ same_var (get_or bs i d).0 v →
    (b : Variable × Term) × (slice_get (raw bs) i ≡ Some b) × (b.0 ≡ v)
bound_at bs i d v small same = (((get_or bs i d).0, head_term (get_or bs i d).1), raw_got bs i d small, var_equal (get_or bs i d).0 v (sym same))

pub unbound_all : (bs : List (Variable × Head)) (i : ℕ) (v : Variable) → length bs ≤ i → (Contains (names (raw (take i bs))) v → ⊥) → Contains (names (raw bs)) v → ⊥
unbound_all bs i v most other c = other (subst (λ l. Contains (names (raw l)) v) (sym (take_all i bs most)) c)

raw_behind : (bs cs : List (Variable × Head)) → names (raw (bs ++ cs)) ≡ names (raw bs) ++ names (raw cs)
raw_behind [] cs = refl
raw_behind (b ∷ bs) cs = ap (λ l. b.0 ∷ l) (raw_behind bs cs)

pub unbound_more : (bs : List (Variable × Head)) (i : ℕ) (d : Variable × Head) (v : Variable) → i < length bs → false ≡ same_var (get_or bs i d).0 v → (Contains (names (raw (take i bs))) v → ⊥) →
    Contains (names (raw (take (i + 1) bs))) v → ⊥
unbound_more bs i d v small new other c =
    elim (Contains-append_cases (names (raw (take i bs))) ((get_or bs i d).0 ∷ []) v
    (subst (λ l. Contains l v) (ap (λ l. names (raw l)) (take_more bs i d small) ∙ raw_behind (take i bs) (get_or bs i d ∷ [])) c)) [
      | inl e ↦ other e
      | inr e ↦ var_other (get_or bs i d).0 v (sym new) (only_one (get_or bs i d).0 v e)
    ]

-- nothing is known

pub none_known : {X : Type 0} (ks : List (Option X)) (n : ℕ) (ns : List X) → ks ≡ replicate n None → length ns ≡ n → AreKnown ks ns
none_known {X = X} ks n ns is e = subst (λ (ls : List (Option X)). AreKnown ls ns) (sym is) (known_all n ns e)
  where
    known_all : {Y : Type 0} (n : ℕ) (ns : List Y) → length ns ≡ n → AreKnown (replicate n None) ns
    known_all zero [] e = tt
    known_all zero (n ∷ ns) e = absurd (let no : ⊥ = omega (arith, e) in no)
    known_all (suc k) [] e = absurd (let no : ⊥ = omega (arith, e) in no)
    known_all (suc k) (n ∷ ns) e = (tt, known_all k ns (omega (arith, e)))

pub known_read : {X : Type 0} (ks : List (Option X)) (ns : List X) (i : ℕ) (m : X) (k : Option X) → AreKnown ks ns → i < length ks → k ≡ get_or ks i k → k ≡ Some m → slice_get ns i ≡ Some m
known_read ks ns i m k known small is e = known_at ks ns i m known (slice_get-get_or ks i k small ∙ ap Some (sym is ∙ e))

-- the first large one

pub find_here : (p : ℕ → Bool) (ns : List ℕ) (i n : ℕ) → slice_get ns i ≡ Some n → p n ≡ true → find p (drop i ns) ≡ Some n
find_here p [] i n e is = cc
find_here p (m ∷ ns) zero n e is =
    let same : m ≡ n = cc in
    subst (λ x. cond (p x) (Some x) (find p ns) ≡ Some n) (sym same) (ap (λ b. cond b (Some n) (find p ns)) is)
find_here p (m ∷ ns) (suc i) n e is = find_here p ns i n e is

pub find_later : (p : ℕ → Bool) (ns : List ℕ) (i n : ℕ) → slice_get ns i ≡ Some n → p n ≡ false → find p (drop i ns) ≡ find p (drop (i + 1) ns)
find_later p [] i n e is = cc
find_later p (m ∷ ns) zero n e is =
    let same : m ≡ n = cc in
    ap (λ x. cond (p x) (Some x) (find p ns)) same ∙ ap (λ b. cond b (Some n) (find p ns)) is
find_later p (m ∷ ns) (suc i) n e is =
    let on : suc i + 1 ≡ suc (i + 1) = omega arith in
    find_later p ns i n e is ∙ ap (λ k. find p (drop k (m ∷ ns))) (sym on)

pub find_none : (p : ℕ → Bool) (ns : List ℕ) (i : ℕ) → length ns ≤ i → find p (drop i ns) ≡ None
find_none p [] zero most = refl
find_none p [] (suc i) most = refl
find_none p (n ∷ ns) zero most = absurd (let no : ⊥ = omega (arith, most) in no)
find_none p (n ∷ ns) (suc i) most = find_none p ns i (omega (arith, most))

pub past_limit : (n : ℕ) → 1024 < n → nat_lt 1024 n ≡ true
past_limit n more = grind arith

pub within_limit : (n : ℕ) → n ≤ 1024 → nat_lt 1024 n ≡ false
within_limit n less = grind arith
