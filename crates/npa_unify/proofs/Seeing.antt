-- Bindings that are put into no term, and what terms stand for under them.
use Rattle.std.proofs.Common.{◌≡◌, ℕ, true, false, cond, List, [], ◌∷◌, ◌++◌, map, Some, None, refl, sym, ◌∙◌, ap, subst, inl, inr}
use Rattle.std.specs.Prelude.{Contains, ◌⊎◌, unwrap_or}
use Rattle.std.proofs.lemmas.List.{append_assoc, append-nil}
use Rattle.npa_term.specs.declared.term.Op.{Op}
use Rattle.npa_term.specs.declared.term.Var.{Var as Variable}
use Rattle.npa_term.specs.declared.term.Term.{Term, Var, Name, App}
use Rattle.npa_term.specs.Bound.{same_var, applied}
use Rattle.npa_term.specs.Variables.{variables}
use Rattle.npa_term.proofs.AppliedLaws.{applied-empty}
use Rattle.npa_term.proofs.Equality.{var_equal, var_itself}
use Rattle.npa_term.proofs.Induction.{term_cases}
use Rattle.npa_term.proofs.Rows.{applied_app}
use Rattle.npa_unify.specs.Answers.{resolved}
use Rattle.npa_unify.specs.Seen.{solved_after, solved, full, followed, walked, Follows, SoundAfter, IsSound, IsUnbound}
use Rattle.npa_unify.proofs.Finishing.{names}
use Rattle.npa_unify.proofs.Members.{here, later, nowhere, member_cases, only_one}
use Rattle.npa_unify.proofs.PairVariables.{var_differ, var_other}
use Rattle.npa_unify.proofs.Progress.{new_term}

-- bindings one after the other

pub resolved_behind : (s u : List (Variable × Term)) (x : Term) → resolved (s ++ u) x ≡ resolved u (resolved s x)
resolved_behind [] u x = refl
resolved_behind (b ∷ s) u x = resolved_behind s u (applied (b ∷ []) x)

pub resolved_name : (s : List (Variable × Term)) (n : ℕ) → resolved s (Name n) ≡ Name n
resolved_name [] n = refl
resolved_name (b ∷ s) n = resolved_name s n

map_itself : (ts : List Term) → ts ≡ map (resolved []) ts
map_itself [] = refl
map_itself (t ∷ ts) = ap (λ us. t ∷ us) (map_itself ts)

map_resolved : (b : Variable × Term) (s : List (Variable × Term)) (ts : List Term) → map (resolved s) (map (applied (b ∷ [])) ts) ≡ map (resolved (b ∷ s)) ts
map_resolved b s [] = refl
map_resolved b s (t ∷ ts) = ap (λ us. resolved s (applied (b ∷ []) t) ∷ us) (map_resolved b s ts)

pub resolved_app : (s : List (Variable × Term)) (f : Op) (ts : List Term) → resolved s (App f ts) ≡ App f (map (resolved s) ts)
resolved_app [] f ts = ap (App f) (map_itself ts)
resolved_app (b ∷ s) f ts =
    ap (resolved s) (applied_app (b ∷ []) f ts) ∙ resolved_app s f (map (applied (b ∷ [])) ts) ∙ ap (App f) (map_resolved b s ts)

one_unbound : (b : Variable × Term) (w : Variable) → (b.0 ≡ w → ⊥) → applied (b ∷ []) (Var w) ≡ Var w
one_unbound b w other = ap (λ c. unwrap_or (cond c (Some b.1) None) (Var w)) (var_differ b.0 w other)

pub resolved_unbound : (s : List (Variable × Term)) (w : Variable) → (Contains (names s) w → ⊥) → resolved s (Var w) ≡ Var w
resolved_unbound [] w other = refl
resolved_unbound (b ∷ s) w other =
    ap (resolved s) (one_unbound b w (λ e. other (subst (Contains (names (b ∷ s))) e (here b.0 (names s)))))
    ∙ resolved_unbound s w (λ c. other (later b.0 w (names s) c))

-- bindings with the earlier ones put in

solved_behind : (s bs cs : List (Variable × Term)) → solved_after s (bs ++ cs) ≡ solved_after s bs ++ solved_after (s ++ solved_after s bs) cs
solved_behind s [] cs = ap (λ r. solved_after r cs) (sym (append-nil s))
solved_behind s (b ∷ bs) cs =
    let new : Variable × Term = (b.0, resolved s b.1) in
    ap (λ r. new ∷ r) (solved_behind (s ++ new ∷ []) bs cs
    ∙ ap (λ r. solved_after (s ++ new ∷ []) bs ++ solved_after r cs) (append_assoc s (new ∷ []) (solved_after (s ++ new ∷ []) bs)))

pub solved_more : (bs : List (Variable × Term)) (v : Variable) (t : Term) → solved (bs ++ (v, t) ∷ []) ≡ solved bs ++ (v, full bs t) ∷ []
solved_more bs v t = solved_behind [] bs ((v, t) ∷ [])

pub names_solved : (s bs : List (Variable × Term)) → names (solved_after s bs) ≡ names bs
names_solved s [] = refl
names_solved s (b ∷ bs) = ap (λ l. b.0 ∷ l) (names_solved (s ++ (b.0, resolved s b.1) ∷ []) bs)

pub full_behind : (bs cs : List (Variable × Term)) (x : Term) → full (bs ++ cs) x ≡ resolved (solved_after (solved bs) cs) (full bs x)
full_behind bs cs x = ap (λ s. resolved s x) (solved_behind [] bs cs) ∙ resolved_behind (solved bs) (solved_after (solved bs) cs) x

-- one more binding is put into what the terms stood for
pub full_more : (bs : List (Variable × Term)) (v : Variable) (t x : Term) → full (bs ++ (v, t) ∷ []) x ≡ applied ((v, full bs t) ∷ []) (full bs x)
full_more bs v t x = full_behind bs ((v, t) ∷ []) x

pub full_name : (bs : List (Variable × Term)) (n : ℕ) → full bs (Name n) ≡ Name n
full_name bs n = resolved_name (solved bs) n

pub full_app : (bs : List (Variable × Term)) (f : Op) (ts : List Term) → full bs (App f ts) ≡ App f (map (full bs) ts)
full_app bs f ts = resolved_app (solved bs) f ts

pub full_unbound : (bs : List (Variable × Term)) (w : Variable) → (Contains (names bs) w → ⊥) → full bs (Var w) ≡ Var w
full_unbound bs w other = resolved_unbound (solved bs) w (λ c. other (subst (λ l. Contains l w) (names_solved [] bs) c))

-- following bindings

pub absent : (v : Variable) (t x : Term) → (Contains (variables x) v → ⊥) → applied ((v, t) ∷ []) x ≡ x
absent v t x free = new_term [] v t x (λ w c. var_differ v w (λ e. free (subst (Contains (variables x)) (sym e) c))) ∙ applied-empty x

pub value_is : (bs : List (Variable × Term)) (v : Variable) (t : Term) → Follows bs v t → full (bs ++ (v, t) ∷ []) t ≡ full (bs ++ (v, t) ∷ []) (Var v)
value_is bs v t new =
    let left : full (bs ++ (v, t) ∷ []) t ≡ full bs t = full_more bs v t t ∙ absent v (full bs t) (full bs t) new.free in
    let right : full (bs ++ (v, t) ∷ []) (Var v) ≡ full bs t =
    full_more bs v t (Var v) ∙ ap (applied ((v, full bs t) ∷ [])) (full_unbound bs v new.other)
    ∙ ap (λ c. unwrap_or (cond c (Some (full bs t)) None) (Var v)) (var_itself v) in
    left ∙ sym right

followed_is : (bs : List (Variable × Term)) (b : Variable × Term) → Follows bs b.0 b.1 → (t : Term) → full (bs ++ b ∷ []) (followed b t) ≡ full (bs ++ b ∷ []) t
followed_is bs b new =
    term_cases (λ t. full (bs ++ b ∷ []) (followed b t) ≡ full (bs ++ b ∷ []) t)
    (λ w. elim (same_var b.0 w) as (λ c. same_var b.0 w ≡ c → full (bs ++ b ∷ []) (cond c b.1 (Var w)) ≡ full (bs ++ b ∷ []) (Var w)) [
      | true ↦ λ e. value_is bs b.0 b.1 new ∙ ap (λ x. full (bs ++ b ∷ []) (Var x)) (var_equal b.0 w e)
      | false ↦ λ e. refl
    ] refl)
    (λ n. refl) (λ f ts. refl)

full_walked : (done bs : List (Variable × Term)) (t : Term) → SoundAfter done bs → full (done ++ bs) (walked bs t) ≡ full (done ++ bs) t
full_walked done [] t sound = refl
full_walked done (b ∷ bs) t sound =
    let split : (done ++ b ∷ []) ++ bs ≡ done ++ b ∷ bs = append_assoc done (b ∷ []) bs in
    let rest : full ((done ++ b ∷ []) ++ bs) (walked bs (followed b t)) ≡ full ((done ++ b ∷ []) ++ bs) (followed b t) = full_walked (done ++ b ∷ []) bs (followed b t) sound.1 in
    let step : full ((done ++ b ∷ []) ++ bs) (followed b t) ≡ full ((done ++ b ∷ []) ++ bs) t =
    full_behind (done ++ b ∷ []) bs (followed b t) ∙ ap (resolved (solved_after (solved (done ++ b ∷ [])) bs)) (followed_is done b sound.0 t) ∙ sym (full_behind (done ++ b ∷ []) bs t) in
    subst (λ cs. full cs (walked bs (followed b t)) ≡ full cs t) split (rest ∙ step)

pub names_behind : (bs : List (Variable × Term)) (b : Variable × Term) (w : Variable) → Contains (names (bs ++ b ∷ [])) w → Contains (names bs) w ⊎ (b.0 ≡ w)
names_behind [] b w c = inr (only_one b.0 w c)
names_behind (a ∷ bs) b w c =
    elim (member_cases a.0 w (names (bs ++ b ∷ [])) c) [
      | inl e ↦ inl (subst (Contains (names (a ∷ bs))) e (here a.0 (names bs)))
      | inr d ↦ elim (names_behind bs b w d) [ inl e ↦ inl (later a.0 w (names bs) e) | inr e ↦ inr e ]
    ]

pub var_injective : (v w : Variable) → Var v ≡ Var w → v ≡ w
var_injective v w e = cc

followed_free : (bs : List (Variable × Term)) (b : Variable × Term) → Follows bs b.0 b.1 → (t : Term) → IsUnbound bs t → IsUnbound (bs ++ b ∷ []) (followed b t)
followed_free bs b new =
    term_cases (λ t. IsUnbound bs t → IsUnbound (bs ++ b ∷ []) (followed b t))
    (λ y other. elim (same_var b.0 y) as (λ c. same_var b.0 y ≡ c → IsUnbound (bs ++ b ∷ []) (cond c b.1 (Var y))) [
      | true ↦ λ same w e c. elim (names_behind bs b w c) [
        | inl d ↦ new.head w e d
        | inr is ↦
            let value : full bs b.1 ≡ Var w = ap (full bs) e ∙ full_unbound bs w (new.head w e) in
            new.free (subst (λ x. Contains (variables x) b.0) (sym value) (subst (Contains (w ∷ [])) (sym is) (here w [])))
      ]
      | false ↦ λ same w e c. elim (names_behind bs b w c) [
        | inl d ↦ other w e d
        | inr is ↦ var_other b.0 y same (is ∙ sym (var_injective y w e))
      ]
    ] refl)
    (λ n other w e c. cc) (λ f ts other w e c. cc)

walked_free : (done bs : List (Variable × Term)) (t : Term) → SoundAfter done bs → IsUnbound done t → IsUnbound (done ++ bs) (walked bs t)
walked_free done [] t sound other = subst (λ cs. IsUnbound cs t) (sym (append-nil done)) other
walked_free done (b ∷ bs) t sound other =
    subst (λ cs. IsUnbound cs (walked bs (followed b t))) (append_assoc done (b ∷ []) bs)
    (walked_free (done ++ b ∷ []) bs (followed b t) sound.1 (followed_free done b sound.0 t other))

-- what a term stands for, by the head that it is followed to

pub walk_is : (bs : List (Variable × Term)) (t : Term) → IsSound bs → full bs (walked bs t) ≡ full bs t
walk_is bs t sound = full_walked [] bs t sound

pub walk_free : (bs : List (Variable × Term)) (t : Term) (w : Variable) → IsSound bs → Var w ≡ walked bs t → Contains (names bs) w → ⊥
walk_free bs t w sound e = walked_free [] bs t sound (λ x f c. nowhere x c) w (sym e)

pub walk_unbound : (bs : List (Variable × Term)) (t : Term) → IsSound bs → IsUnbound bs (walked bs t)
walk_unbound bs t sound = walked_free [] bs t sound (λ x f c. nowhere x c)

pub walk_var : (bs : List (Variable × Term)) (t : Term) (w : Variable) → IsSound bs → Var w ≡ walked bs t → full bs t ≡ Var w
walk_var bs t w sound e = sym (walk_is bs t sound) ∙ ap (full bs) (sym e) ∙ full_unbound bs w (walk_free bs t w sound e)

pub walk_name : (bs : List (Variable × Term)) (t : Term) (n : ℕ) → IsSound bs → Name n ≡ walked bs t → full bs t ≡ Name n
walk_name bs t n sound e = sym (walk_is bs t sound) ∙ ap (full bs) (sym e) ∙ full_name bs n

pub walk_app : (bs : List (Variable × Term)) (t : Term) (f : Op) (ts : List Term) → IsSound bs → App f ts ≡ walked bs t → full bs t ≡ App f (map (full bs) ts)
walk_app bs t f ts sound e = sym (walk_is bs t sound) ∙ ap (full bs) (sym e) ∙ full_app bs f ts

-- one more binding

sound_behind : (done bs : List (Variable × Term)) (v : Variable) (t : Term) → SoundAfter done bs → Follows (done ++ bs) v t → SoundAfter done (bs ++ (v, t) ∷ [])
sound_behind done [] v t sound new = (subst (λ cs. Follows cs v t) (append-nil done) new, tt)
sound_behind done (b ∷ bs) v t sound new =
    (sound.0, sound_behind (done ++ b ∷ []) bs v t sound.1 (subst (λ cs. Follows cs v t) (sym (append_assoc done (b ∷ []) bs)) new))

pub sound_more : (bs : List (Variable × Term)) (v : Variable) (t : Term) → IsSound bs → Follows bs v t → IsSound (bs ++ (v, t) ∷ [])
sound_more bs v t sound new = sound_behind [] bs v t sound new
