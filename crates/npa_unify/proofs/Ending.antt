-- The substitution that the bindings of an end stand for.
use Rattle.std.proofs.Common.{◌≡◌, ℕ, zero, suc, ◌+◌, ◌<◌, ◌≤◌, cond, None, Some, List, [], ◌∷◌, ◌++◌, map, take, length, get_or, refl, sym, ◌∙◌, ap, subst, arith}
use Rattle.std.specs.Prelude.{Contains}
use Rattle.std.proofs.lemmas.List.{append_assoc, append-nil, take_all, take_more}
use Rattle.npa_term.specs.declared.term.Var.{Var as Variable}
use Rattle.npa_term.specs.declared.term.Term.{Term}
use Rattle.npa_term.specs.Bound.{value_of}
use Rattle.npa_term.specs.Canonical.{canonical}
use Rattle.npa_unify.specs.declared.heads.Head.{Head}
use Rattle.npa_unify.specs.Answers.{finished}
use Rattle.npa_unify.specs.Seen.{IsSound, SoundAfter, full, head_term, raw, solved}
use Rattle.npa_unify.proofs.Finishing.{names}
use Rattle.npa_unify.proofs.Measuring.{finished_values}
use Rattle.npa_unify.proofs.Members.{here, later}
use Rattle.npa_unify.proofs.PairVariables.{var_differ}

-- the values of some of the bindings
abbrev pub values : List (Variable × Term) → List (Variable × Head) → List (Variable × Term)
values bs cs = map (λ (c : Variable × Head). (c.0, canonical (full bs (head_term c.1)))) cs

values_raw : (bs : List (Variable × Term)) (cs : List (Variable × Head)) → map (λ (c : Variable × Term). (c.0, canonical (full bs c.1))) (raw cs) ≡ values bs cs
values_raw bs [] = refl
values_raw bs (c ∷ cs) = ap (λ l. (c.0, canonical (full bs (head_term c.1))) ∷ l) (values_raw bs cs)

pub finished_all : (bs : List (Variable × Head)) (i : ℕ) (s : List (Variable × Term)) → IsSound (raw bs) → length bs ≤ i → s ≡ values (raw bs) (take i bs) → s ≡ finished (solved (raw bs))
finished_all bs i s sound most is = is ∙ ap (values (raw bs)) (take_all i bs most) ∙ sym (finished_values [] (raw bs) sound ∙ values_raw (raw bs) bs)

values_behind : (bs : List (Variable × Term)) (cs ds : List (Variable × Head)) → values bs (cs ++ ds) ≡ values bs cs ++ values bs ds
values_behind bs [] ds = refl
values_behind bs (c ∷ cs) ds = ap (λ l. (c.0, canonical (full bs (head_term c.1))) ∷ l) (values_behind bs cs ds)

pub finished_more : (bs : List (Variable × Head)) (i : ℕ) (d : Variable × Head) (s u : List (Variable × Term)) (t : Term) → i < length bs → s ≡ values (raw bs) (take i bs) →
    t ≡ canonical (full (raw bs) (head_term (get_or bs i d).1)) → u ≡ s ++ ((get_or bs i d).0, t) ∷ [] → u ≡ values (raw bs) (take (i + 1) bs)
finished_more bs i d s u t small is made bound =
    bound ∙ ap (λ x. s ++ ((get_or bs i d).0, x) ∷ []) made ∙ ap (λ l. l ++ ((get_or bs i d).0, canonical (full (raw bs) (head_term (get_or bs i d).1))) ∷ []) is
    ∙ sym (ap (values (raw bs)) (take_more bs i d small) ∙ values_behind (raw bs) (take i bs) (get_or bs i d ∷ []))

-- no variable is bound twice

free_at : (done : List (Variable × Term)) (bs : List (Variable × Head)) (i : ℕ) (d : Variable × Head) → SoundAfter done (raw bs) → i < length bs →
    Contains (names (done ++ raw (take i bs))) (get_or bs i d).0 → ⊥
free_at done [] i d sound small c = absurd (let no : ⊥ = omega (arith, small) in no)
free_at done (b ∷ bs) zero d sound small c = sound.0.other (subst (λ l. Contains (names l) b.0) (append-nil done) c)
free_at done (b ∷ bs) (suc i) d sound small c =
    free_at (done ++ (b.0, head_term b.1) ∷ []) bs i d sound.1 (omega (arith, small))
    (subst (λ l. Contains (names l) (get_or bs i d).0) (sym (append_assoc done ((b.0, head_term b.1) ∷ []) (raw (take i bs)))) c)

no_value : (bs : List (Variable × Term)) (cs : List (Variable × Head)) (v : Variable) → (Contains (names (raw cs)) v → ⊥) → value_of (values bs cs) v ≡ None
no_value bs [] v other = refl
no_value bs (c ∷ cs) v other =
    ap (λ b. cond b (Some (canonical (full bs (head_term c.1)))) (value_of (values bs cs) v))
    (var_differ c.0 v (λ e. other (subst (Contains (names (raw (c ∷ cs)))) e (here c.0 (names (raw cs))))))
    ∙ no_value bs cs v (λ m. other (later c.0 v (names (raw cs)) m))

pub unbound_yet : (bs : List (Variable × Head)) (i : ℕ) (d : Variable × Head) (s : List (Variable × Term)) → IsSound (raw bs) → i < length bs → s ≡ values (raw bs) (take i bs) →
    value_of s (get_or bs i d).0 ≡ None
unbound_yet bs i d s sound small is =
    ap (λ l. value_of l (get_or bs i d).0) is ∙ no_value (raw bs) (take i bs) (get_or bs i d).0 (free_at [] bs i d sound small)
