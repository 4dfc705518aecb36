-- How a branch goes on with the pair at its front.
use Rattle.std.proofs.Common.{◌≡◌, ℕ, zero, suc, ◌+◌, ◌*◌, ◌^◌, ◌<◌, ◌≤◌, Bool, true, false, cond, length, Result, Ok, Err, IfOk, List, ◌∷◌, ◌++◌, map, reverse, refl, sym, ◌∙◌, ap, arith, []}
use Rattle.std.specs.Borrow.{Bor}
use Rattle.std.specs.Prelude.{flat_map, zip}
use Rattle.std.proofs.Math.Nat.{pow-suc, one-le-pow, pow-le-pow_right}
use Rattle.std.proofs.lemmas.Grind.{flat_map-append}
use Rattle.std.proofs.lemmas.List.{append-nil, map-append, reverse-append}
use Rattle.npa_sorts.specs.Subsorts.{Subsorts}
use Rattle.npa_term.specs.declared.term.Op.{Op}
use Rattle.npa_term.specs.declared.term.Var.{Var as Variable}
use Rattle.npa_term.specs.declared.term.Term.{Term, Name, App}
use Rattle.npa_term.specs.Computed.{is_same, same_op, turned}
use Rattle.npa_term.specs.Symbols.{symbol_count, all_count}
use Rattle.npa_term.proofs.Rows.{symbol_count_at}
use Rattle.npa_term.proofs.Equality.{op_equal, op_itself}
use Rattle.npa_term.proofs.Induction.{term_cases}
use Rattle.npa_match.specs.declared.search.Branch.{Branch}
use Rattle.npa_match.specs.declared.search.Outcome.{Outcome}
use Rattle.npa_match.specs.declared.search.Outcome.TheVariants.{Fails, Binds, Forks}
use Rattle.npa_match.specs.Branches.{after_term, after_pairs, forks}
use Rattle.npa_match.specs.Search.{after_all, goal_pairs, pairs_of, bound_of, ends_of, outcome_ends, pair_symbols, work, outcome_work, IsFork}
use Rattle.npa_match.proofs.Lists.{after_arguments, after_apps, after_zip, after_uneven}

-- the pair that is popped is the one at the front
popped_pairs : (gs hs : List (Bor Term × Bor Term)) (t u : Bor Term) → gs ≡ hs ++ (t, u) ∷ [] → goal_pairs gs ≡ (t.now, u.now) ∷ goal_pairs hs
popped_pairs gs hs t u e =
    ap goal_pairs e ∙ ap reverse (map-append (λ g. (g.0.now, g.1.now)) hs ((t, u) ∷ []))
    ∙ reverse-append (map (λ g. (g.0.now, g.1.now)) hs) ((t.now, u.now) ∷ [])

popped_ends : (o : Subsorts) (s : List (Variable × Term)) (gs hs : List (Bor Term × Bor Term)) (t u : Bor Term) → gs ≡ hs ++ (t, u) ∷ [] →
    after_pairs o (goal_pairs gs) s ≡ flat_map (after_pairs o (goal_pairs hs)) (after_term o t.now u.now s)
popped_ends o s gs hs t u e = ap (λ ps. after_pairs o ps s) (popped_pairs gs hs t u e)

pub popped_symbols : (gs hs : List (Bor Term × Bor Term)) (t u : Bor Term) → gs ≡ hs ++ (t, u) ∷ [] →
    pair_symbols (goal_pairs gs) ≡ symbol_count t.now + pair_symbols (goal_pairs hs)
popped_symbols gs hs t u e = ap pair_symbols (popped_pairs gs hs t u e)

-- a branch that can't match its first pair fails
pub fails : (o : Subsorts) (s : List (Variable × Term)) (gs hs : List (Bor Term × Bor Term)) (t u : Bor Term) → gs ≡ hs ++ (t, u) ∷ [] →
    after_term o t.now u.now s ≡ [] → [] ≡ after_pairs o (goal_pairs gs) s
fails o s gs hs t u e none = sym (popped_ends o s gs hs t u e ∙ ap (flat_map (after_pairs o (goal_pairs hs))) none)

-- and goes on as it is where its first pair is equal
pub goes_as_is : (o : Subsorts) (s r : List (Variable × Term)) (gs hs : List (Bor Term × Bor Term)) (t u : Bor Term) → gs ≡ hs ++ (t, u) ∷ [] →
    after_term o t.now u.now s ≡ r ∷ [] → after_pairs o (goal_pairs hs) r ≡ after_pairs o (goal_pairs gs) s
goes_as_is o s r gs hs t u e one =
    sym (popped_ends o s gs hs t u e ∙ ap (flat_map (after_pairs o (goal_pairs hs))) one ∙ append-nil (after_pairs o (goal_pairs hs) r))

-- a fresh name
pub name_after : (o : Subsorts) (s : List (Variable × Term)) (t u : Term) (n : ℕ) → t ≡ Name n → after_term o t u s ≡ cond (is_same t u) (s ∷ []) []
name_after o s t u n e =
    ap (λ v. after_term o v u s) e
    ∙ term_cases (λ v. after_term o (Name n) v s ≡ cond (is_same (Name n) v) (s ∷ []) []) (λ v. refl) (λ m. refl) (λ op ts. refl) u
    ∙ ap (λ v. cond (is_same v u) (s ∷ []) []) (sym e)

-- an application onto a term of another kind or another operator
other_operator : (o : Subsorts) (s : List (Variable × Term)) (f g : Op) (ts us : List Term) → (f ≡ g → ⊥) → after_term o (App f ts) (App g us) s ≡ []
other_operator o s f g ts us other =
    let no : same_op f g ≡ false = elim (same_op f g) as (λ b. same_op f g ≡ b → b ≡ false) [ true ↦ λ e. absurd (other (op_equal f g e)) | false ↦ λ e. refl ] refl in
    after_apps o f g ts us s ∙ ap (λ b. cond b (after_arguments o f ts us s) []) no

pub other_term : (o : Subsorts) (s : List (Variable × Term)) (t u : Term) (f : Op) (ts : List Term) → t ≡ App f ts → ((us : List Term) → u ≡ App f us → ⊥) →
    after_term o t u s ≡ []
other_term o s t u f ts d other =
    ap (λ v. after_term o v u s) d
    ∙ term_cases (λ v. ((us : List Term) → v ≡ App f us → ⊥) → after_term o (App f ts) v s ≡ []) (λ v no_app. refl) (λ n no_app. refl)
    (λ g us no_app. other_operator o s f g ts us (λ e. no_app us (ap (λ h. App h us) (sym e)))) u other

pub matched : (o : Subsorts) (s : List (Variable × Term)) (t u : Term) (f : Op) (ts us : List Term) → t ≡ App f ts → u ≡ App f us →
    after_term o t u s ≡ after_arguments o f ts us s
matched o s t u f ts us d e =
    ap (λ v. after_term o v u s) d ∙ ap (λ v. after_term o (App f ts) v s) e ∙ after_apps o f f ts us s ∙ ap (λ b. cond b (after_arguments o f ts us s) []) (op_itself f)

turned_length : (us : List Term) → length (turned us) ≡ length us
turned_length [] = refl
turned_length (t ∷ []) = refl
turned_length (t ∷ u ∷ []) = refl
turned_length (t ∷ u ∷ v ∷ ts) = refl

either_none : (b : Bool) → cond {A = List (List (Variable × Term))} b [] [] ≡ []
either_none true = refl
either_none false = refl

pub other_arguments : (o : Subsorts) (s : List (Variable × Term)) (t u : Term) (f : Op) (ts us : List Term) → t ≡ App f ts → u ≡ App f us →
    (length ts ≡ length us → ⊥) → after_term o t u s ≡ []
other_arguments o s t u f ts us d e uneven =
    matched o s t u f ts us d e
    ∙ ap (λ bs. bs ++ cond (forks f us) (after_all o ts (turned us) s) []) (after_uneven o ts us s uneven)
    ∙ ap (λ bs. cond (forks f us) bs []) (after_uneven o ts (turned us) s (λ l. uneven (l ∙ turned_length us)))
    ∙ either_none (forks f us)

-- arguments that don't fork go to the front
pub goes_on : (o : Subsorts) (s : List (Variable × Term)) (gs hs ks : List (Bor Term × Bor Term)) (t u : Bor Term) (f : Op) (ts us : List Term) → gs ≡ hs ++ (t, u) ∷ [] →
    t.now ≡ App f ts → u.now ≡ App f us → length ts ≡ length us → forks f us ≡ false → goal_pairs ks ≡ zip ts us ++ goal_pairs hs →
    after_pairs o (goal_pairs ks) s ≡ after_pairs o (goal_pairs gs) s
goes_on o s gs hs ks t u f ts us e d h even single pushed =
    let after : after_term o t.now u.now s ≡ after_all o ts us s =
    matched o s t.now u.now f ts us d h ∙ ap (λ b. after_all o ts us s ++ cond b (after_all o ts (turned us) s) []) single ∙ append-nil (after_all o ts us s) in
    ap (λ ps. after_pairs o ps s) pushed ∙ after_zip o ts us (goal_pairs hs) s even
    ∙ ap (flat_map (after_pairs o (goal_pairs hs))) (sym after) ∙ sym (popped_ends o s gs hs t u e)

-- and where they fork, straight and crossed ones
pub fork_ends : (o : Subsorts) (s : List (Variable × Term)) (gs hs : List (Bor Term × Bor Term)) (t u : Bor Term) (f : Op) (ts us : List Term) → gs ≡ hs ++ (t, u) ∷ [] →
    t.now ≡ App f ts → u.now ≡ App f us → length ts ≡ length us → forks f us ≡ true →
    (outcome : Outcome) → IsFork (goal_pairs hs) s ts us outcome → outcome_ends o outcome ≡ after_pairs o (goal_pairs gs) s
fork_ends o s gs hs t u f ts us e d h even double Fails is = absurd is
fork_ends o s gs hs t u f ts us e d h even double (Binds bound) is = absurd is
fork_ends o s gs hs t u f ts us e d h even double (Forks a b) is =
    let K : List (Variable × Term) → List (List (Variable × Term)) = after_pairs o (goal_pairs hs) in
    let straight : ends_of o a ≡ flat_map K (after_all o ts us s) =
    ap (λ ps. after_pairs o ps (bound_of a)) is.0 ∙ ap (after_pairs o (zip ts us ++ goal_pairs hs)) is.1 ∙ after_zip o ts us (goal_pairs hs) s even in
    let cross : ends_of o b ≡ flat_map K (after_all o ts (turned us) s) =
    ap (λ ps. after_pairs o ps (bound_of b)) is.2 ∙ ap (after_pairs o (zip ts (turned us) ++ goal_pairs hs)) is.3 ∙ after_zip o ts (turned us) (goal_pairs hs) s (even ∙ sym (turned_length us)) in
    let after : after_term o t.now u.now s ≡ after_all o ts us s ++ after_all o ts (turned us) s =
    matched o s t.now u.now f ts us d h ∙ ap (λ c. after_all o ts us s ++ cond c (after_all o ts (turned us) s) []) double in
    ap (λ xs. xs ++ ends_of o b) straight ∙ ap (λ xs. flat_map K (after_all o ts us s) ++ xs) cross
    ∙ sym (flat_map-append K (after_all o ts us s) (after_all o ts (turned us) s))
    ∙ ap (flat_map K) (sym after) ∙ sym (popped_ends o s gs hs t u e)

-- each step leaves fewer symbols
zip_symbols : (ts us : List Term) (ps : List (Term × Term)) → length ts ≡ length us → pair_symbols (zip ts us ++ ps) ≡ all_count ts + pair_symbols ps
zip_symbols [] us ps even = omega arith
zip_symbols (t ∷ ts) [] ps even = absurd (let no : ⊥ = omega (arith, even) in no)
zip_symbols (t ∷ ts) (u ∷ us) ps even =
    let rest : pair_symbols (zip ts us ++ ps) ≡ all_count ts + pair_symbols ps = zip_symbols ts us ps (omega (arith, even)) in omega (arith, rest)

pub pushed_fewer : (gs hs ks : List (Bor Term × Bor Term)) (t u : Bor Term) (f : Op) (ts us : List Term) → gs ≡ hs ++ (t, u) ∷ [] → t.now ≡ App f ts → length ts ≡ length us →
    goal_pairs ks ≡ zip ts us ++ goal_pairs hs → pair_symbols (goal_pairs ks) < pair_symbols (goal_pairs gs)
pushed_fewer gs hs ks t u f ts us e d even pushed =
    let new : pair_symbols (goal_pairs ks) ≡ all_count ts + pair_symbols (goal_pairs hs) = ap pair_symbols pushed ∙ zip_symbols ts us (goal_pairs hs) even in
    let old : pair_symbols (goal_pairs gs) ≡ symbol_count t.now + pair_symbols (goal_pairs hs) = popped_symbols gs hs t u e in
    let own : symbol_count t.now ≡ 1 + all_count ts = symbol_count_at t.now f ts d in
    omega (arith, new, old, own)

pub work_positive : (b : Branch) → 0 < work b
work_positive b = let one : 1 ≤ 3 ^ pair_symbols (pairs_of b) = one-le-pow (pair_symbols (pairs_of b)) 3 (omega arith) in omega (arith, one)

two_powers : (x y z : ℕ) → x < z → y < z → 3 ^ x + 3 ^ y < 3 ^ z
two_powers x y zero p q = absurd (let no : ⊥ = omega (arith, p) in no)
two_powers x y (suc z) p q =
    let first : 3 ^ x ≤ 3 ^ z = pow-le-pow_right {n = 3} (omega arith) (omega (arith, p)) in
    let second : 3 ^ y ≤ 3 ^ z = pow-le-pow_right {n = 3} (omega arith) (omega (arith, q)) in
    let one : 1 ≤ 3 ^ z = one-le-pow z 3 (omega arith) in
    let is : 3 ^ suc z ≡ 3 ^ z * 3 = pow-suc 3 z in
    omega (arith, first, second, one, is)

pub fork_work : (n : ℕ) (s : List (Variable × Term)) (gs hs : List (Bor Term × Bor Term)) (t u : Bor Term) (f : Op) (ts us : List Term) → gs ≡ hs ++ (t, u) ∷ [] →
    t.now ≡ App f ts → length ts ≡ length us → pair_symbols (goal_pairs gs) ≤ n →
    (outcome : Outcome) → IsFork (goal_pairs hs) s ts us outcome → outcome_work outcome < 3 ^ n
fork_work n s gs hs t u f ts us e d even fewer Fails is = absurd is
fork_work n s gs hs t u f ts us e d even fewer (Binds bound) is = absurd is
fork_work n s gs hs t u f ts us e d even fewer (Forks a b) is =
    let old : pair_symbols (goal_pairs gs) ≡ symbol_count t.now + pair_symbols (goal_pairs hs) = popped_symbols gs hs t u e in
    let own : symbol_count t.now ≡ 1 + all_count ts = symbol_count_at t.now f ts d in
    let straight : pair_symbols (pairs_of a) ≡ all_count ts + pair_symbols (goal_pairs hs) = ap pair_symbols is.0 ∙ zip_symbols ts us (goal_pairs hs) even in
    let cross : pair_symbols (pairs_of b) ≡ all_count ts + pair_symbols (goal_pairs hs) = ap pair_symbols is.2 ∙ zip_symbols ts (turned us) (goal_pairs hs) (even ∙ sym (turned_length us)) in
    two_powers (pair_symbols (pairs_of a)) (pair_symbols (pairs_of b)) n (omega (arith, old, own, straight, fewer)) (omega (arith, old, own, cross, fewer))

pub on_ok : {X E : Type 0} (P Q : X → Type 0) → ((x : X) → P x → Q x) → (r : Result X E) → IfOk r P → IfOk r Q
on_ok P Q f (Ok x) p = f x p
on_ok P Q f (Err e) p = tt
