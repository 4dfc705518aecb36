-- What the definitions by cases on a term say of an operator and its list of arguments.
use Rattle.std.proofs.Common.{◌≡◌, ℕ, zero, suc, ◌+◌, ◌<◌, ◌≤◌, min, List, [], ◌∷◌, ◌++◌, length, length-append, get_or, drop, map, Ordering, Equal, refl, sym, ◌∙◌, ap, subst, arith}
use Rattle.std.proofs.lemmas.List.{get_or_append_left, get_or-append-add}
use Rattle.std.specs.List.{All, flat_map}
use Rattle.std.specs.Cmp.Lexicographic.{slice_cmp}
use Rattle.std.specs.Ordering.{nat_cmp, ordering_then}
use Rattle.npa_term.specs.declared.term.Op.{Op}
use Rattle.npa_term.specs.declared.term.Var.{Var as Variable}
use Rattle.npa_term.specs.declared.term.Term.{Term, App, Row_of-Term, end_of-Term, more_of-Term, items-the_row-Term, items_hidden-the_row-Term-0}
use Rattle.npa_term.specs.declared.term.Term.TheBlock.{hidden-the_row-Term-0}
use Rattle.npa_term.specs.Symbols.{symbol_count, row_count, all_count}
use Rattle.npa_term.specs.Order.{term_cmp, row_cmp}
use Rattle.npa_term.specs.Canonical.{ordered, canonical, canonical_row}
use Rattle.npa_term.specs.Bound.{applied, applied_row}
use Rattle.npa_term.specs.Variables.{variables, row_variables, renamed, renamed_row}

-- the symbols of a row are those of its list
row_count_is : {n : _} (k : Row_of-Term n) → row_count k ≡ all_count (items-the_row-Term n k)
row_count_is end_of-Term = refl
row_count_is (more_of-Term t rest) = ap (λ n. symbol_count t + n) (row_count_is rest)

pub symbol_count_at : (t : Term) (op : Op) (ts : List Term) → t ≡ App op ts → symbol_count t ≡ 1 + all_count ts
symbol_count_at t op ts e =
    let k = hidden-the_row-Term-0 ts in
    ap symbol_count e ∙ ap (λ n. 1 + n) (row_count_is k ∙ ap all_count (items_hidden-the_row-Term-0 ts))

-- rows are compared as their lists
row_cmp_is : {m n : _} (j : Row_of-Term m) (k : Row_of-Term n) → row_cmp j k ≡ slice_cmp term_cmp (items-the_row-Term m j) (items-the_row-Term n k)
row_cmp_is end_of-Term end_of-Term = refl
row_cmp_is end_of-Term (more_of-Term u us) = refl
row_cmp_is (more_of-Term t ts) end_of-Term = refl
row_cmp_is (more_of-Term t ts) (more_of-Term u us) = ap (λ o. ordering_then (term_cmp t u) o) (row_cmp_is ts us)

pub cmp_apps : (f g : Op) (ts us : List Term) → term_cmp (App f ts) (App g us) ≡ ordering_then (nat_cmp f.num g.num) (slice_cmp term_cmp ts us)
cmp_apps f g ts us =
    let j = hidden-the_row-Term-0 ts in
    let k = hidden-the_row-Term-0 us in
    ap (λ o. ordering_then (nat_cmp f.num g.num) o)
    (row_cmp_is j k ∙ ap (λ vs. slice_cmp term_cmp vs (items-the_row-Term _ k)) (items_hidden-the_row-Term-0 ts) ∙ ap (slice_cmp term_cmp ts) (items_hidden-the_row-Term-0 us))

pub cmp_at : (t u : Term) (f g : Op) (ts us : List Term) → t ≡ App f ts → u ≡ App g us → term_cmp t u ≡ ordering_then (nat_cmp f.num g.num) (slice_cmp term_cmp ts us)
cmp_at t u f g ts us d e = ap (λ v. term_cmp v u) d ∙ ap (term_cmp (App f ts)) e ∙ cmp_apps f g ts us

-- the canonical forms of a row are those of its list
canonical_row_is : {n : _} (k : Row_of-Term n) → canonical_row k ≡ map canonical (items-the_row-Term n k)
canonical_row_is end_of-Term = refl
canonical_row_is (more_of-Term t rest) = ap (λ ts. canonical t ∷ ts) (canonical_row_is rest)

pub canonical_app : (op : Op) (ts : List Term) → canonical (App op ts) ≡ App op (ordered op (map canonical ts))
canonical_app op ts =
    let k = hidden-the_row-Term-0 ts in
    ap (λ us. App op (ordered op us)) (canonical_row_is k ∙ ap (map canonical) (items_hidden-the_row-Term-0 ts))

pub canonical_at : (t : Term) (op : Op) (ts : List Term) → t ≡ App op ts → canonical t ≡ App op (ordered op (map canonical ts))
canonical_at t op ts e = ap canonical e ∙ canonical_app op ts

-- the instances of a row are those of its list
applied_row_is : {n : _} (s : List (Variable × Term)) (k : Row_of-Term n) → applied_row s k ≡ map (applied s) (items-the_row-Term n k)
applied_row_is s end_of-Term = refl
applied_row_is s (more_of-Term t rest) = ap (λ ts. applied s t ∷ ts) (applied_row_is s rest)

pub applied_app : (s : List (Variable × Term)) (op : Op) (ts : List Term) → applied s (App op ts) ≡ App op (map (applied s) ts)
applied_app s op ts =
    let k = hidden-the_row-Term-0 ts in
    ap (App op) (applied_row_is s k ∙ ap (map (applied s)) (items_hidden-the_row-Term-0 ts))

pub applied_at : (s : List (Variable × Term)) (t : Term) (op : Op) (ts : List Term) → t ≡ App op ts → applied s t ≡ App op (map (applied s) ts)
applied_at s t op ts e = ap (applied s) e ∙ applied_app s op ts

-- applications of operators with one number are compared by their arguments
pub cmp_tied : (t u : Term) (f g : Op) (ts us : List Term) (o : Ordering) →
    t ≡ App f ts → u ≡ App g us → o ≡ nat_cmp f.num g.num → o ≡ Equal → term_cmp t u ≡ slice_cmp term_cmp ts us
cmp_tied t u f g ts us o d e first tied =
    cmp_at t u f g ts us d e ∙ ap (λ p. ordering_then p (slice_cmp term_cmp ts us)) (sym first ∙ tied)

-- where one list has ended, the shorter comes first
pub cmp_ends : (n : ℕ) (ts us : List Term) → n ≡ min (length ts) (length us) → slice_cmp term_cmp (drop n ts) (drop n us) ≡ nat_cmp (length ts) (length us)
cmp_ends zero [] [] e = refl
cmp_ends (suc n) [] [] e = refl
cmp_ends zero [] (u ∷ us) e = grind arith
cmp_ends (suc n) [] (u ∷ us) e = grind arith
cmp_ends zero (t ∷ ts) [] e = grind arith
cmp_ends (suc n) (t ∷ ts) [] e = grind arith
cmp_ends zero (t ∷ ts) (u ∷ us) e = grind arith
cmp_ends (suc n) (t ∷ ts) (u ∷ us) e =
    let fewer : n ≡ min (length ts) (length us) = omega arith in
    let shorter : nat_cmp (length (t ∷ ts)) (length (u ∷ us)) ≡ nat_cmp (length ts) (length us) = grind arith in
    cmp_ends n ts us fewer ∙ sym shorter

-- the canonical forms of the instances, in one pass or in two
map_twice : (s : List (Variable × Term)) (ts : List Term) → map canonical (map (applied s) ts) ≡ map (λ t. canonical (applied s t)) ts
map_twice s [] = refl
map_twice s (t ∷ ts) = ap (λ us. canonical (applied s t) ∷ us) (map_twice s ts)

-- the canonical form of an operator is made from those of its arguments
pub canonical_made : (t : Term) (op : Op) (ts us made : List Term) →
    t ≡ App op ts → us ≡ ordered op made → made ≡ map canonical ts → App op us ≡ canonical t
canonical_made t op ts us made e sorted is =
    ap (App op) (sorted ∙ ap (ordered op) is) ∙ sym (canonical_at t op ts e)

-- the canonical instance of an operator is made from those of its arguments
pub instance_made : (s : List (Variable × Term)) (t : Term) (op : Op) (ts us made : List Term) →
    t ≡ App op ts → us ≡ ordered op made → made ≡ map (λ u. canonical (applied s u)) ts → App op us ≡ canonical (applied s t)
instance_made s t op ts us made e sorted is =
    canonical_made (applied s t) op (map (applied s) ts) us made (applied_at s t op ts e) sorted (is ∙ sym (map_twice s ts))

-- the symbols of an instance of an operator
pub applied_count_at : (s : List (Variable × Term)) (t : Term) (op : Op) (ts : List Term) → t ≡ App op ts → symbol_count (applied s t) ≡ 1 + all_count (map (applied s) ts)
applied_count_at s t op ts e = symbol_count_at (applied s t) op (map (applied s) ts) (applied_at s t op ts e)

-- the renamings of a row are those of its list
renamed_row_is : {n : _} (base : ℕ) (k : Row_of-Term n) → renamed_row base k ≡ map (renamed base) (items-the_row-Term n k)
renamed_row_is base end_of-Term = refl
renamed_row_is base (more_of-Term t rest) = ap (λ ts. renamed base t ∷ ts) (renamed_row_is base rest)

pub renamed_app : (base : ℕ) (op : Op) (ts : List Term) → renamed base (App op ts) ≡ App op (map (renamed base) ts)
renamed_app base op ts =
    let k = hidden-the_row-Term-0 ts in
    ap (App op) (renamed_row_is base k ∙ ap (map (renamed base)) (items_hidden-the_row-Term-0 ts))

pub renamed_made : (base : ℕ) (t : Term) (op : Op) (ts us made : List Term) → t ≡ App op ts → us ≡ made → made ≡ map (renamed base) ts → App op us ≡ renamed base t
renamed_made base t op ts us made e same is = ap (App op) (same ∙ is) ∙ sym (ap (renamed base) e ∙ renamed_app base op ts)

-- the variables of a row are those of its members
row_variables_is : {n : _} (k : Row_of-Term n) → row_variables k ≡ flat_map variables (items-the_row-Term n k)
row_variables_is end_of-Term = refl
row_variables_is (more_of-Term t rest) = ap (λ vs. variables t ++ vs) (row_variables_is rest)

pub variables_at : (t : Term) (op : Op) (ts : List Term) → t ≡ App op ts → variables t ≡ flat_map variables ts
variables_at t op ts e =
    let k = hidden-the_row-Term-0 ts in
    ap variables e ∙ row_variables_is k ∙ ap (flat_map variables) (items_hidden-the_row-Term-0 ts)

all_left : (P : Variable → Type 0) (vs ws : List Variable) → All P (vs ++ ws) → All P vs
all_left P vs ws all = λ k d small. subst P (get_or_append_left vs ws d k small) (all k d (omega (arith, length-append vs ws)))

all_right : (P : Variable → Type 0) (vs ws : List Variable) → All P (vs ++ ws) → All P ws
all_right P vs ws all = λ k d small. subst P (get_or-append-add vs ws k d) (all (length vs + k) d (omega (arith, length-append vs ws)))

-- what holds of the variables of all members holds of those of each
pub all_member : (P : Variable → Type 0) (ts : List Term) (i : ℕ) (d : Term) → i < length ts → All P (flat_map variables ts) → All P (variables (get_or ts i d))
all_member P [] i d small all = absurd (let no : ⊥ = omega (arith, small) in no)
all_member P (t ∷ ts) zero d small all = all_left P (variables t) (flat_map variables ts) all
all_member P (t ∷ ts) (suc i) d small all = all_member P ts i d (omega arith) (all_right P (variables t) (flat_map variables ts) all)

-- and so it is for the arguments of an operator
pub all_argument : (P : Variable → Type 0) (t : Term) (op : Op) (ts : List Term) (i : ℕ) (d : Term) → t ≡ App op ts → i < length ts → d ≡ get_or ts i d →
    All P (variables t) → All P (variables d)
all_argument P t op ts i d e small is all =
    subst (λ u. All P (variables u)) (sym is) (all_member P ts i d small (subst (All P) (variables_at t op ts e) all))

-- a member has no more symbols than the list
pub count_member : (ts : List Term) (i : ℕ) (d : Term) → i < length ts → symbol_count (get_or ts i d) ≤ all_count ts
count_member [] i d small = absurd (let no : ⊥ = omega (arith, small) in no)
count_member (t ∷ ts) zero d small = omega arith
count_member (t ∷ ts) (suc i) d small = let rest : symbol_count (get_or ts i d) ≤ all_count ts = count_member ts i d (omega arith) in omega (arith, rest)

-- an argument has fewer symbols than the application
pub count_argument : (t : Term) (op : Op) (ts : List Term) (i : ℕ) (d : Term) → t ≡ App op ts → i < length ts → d ≡ get_or ts i d → symbol_count d < symbol_count t
count_argument t op ts i d e small is =
    let whole : symbol_count t ≡ 1 + all_count ts = symbol_count_at t op ts e in
    let part : symbol_count d ≤ all_count ts = subst (λ u. symbol_count u ≤ all_count ts) (sym is) (count_member ts i d small) in
    omega (arith, whole, part)
