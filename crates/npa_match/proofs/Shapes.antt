-- Operators that keep terms from matching.
use Rattle.std.proofs.Common.{◌≡◌, ℕ, zero, suc, ◌<◌, length, get_or, false, cond, ◌&&◌, List, ◌∷◌, ◌++◌, ◌∙◌, ap, subst, arith, []}
use Rattle.std.specs.Prelude.{flat_map}
use Rattle.std.specs.Borrow.{Bor}
use Rattle.npa_sorts.specs.Subsorts.{Subsorts}
use Rattle.npa_term.specs.declared.term.Op.{Op}
use Rattle.npa_term.specs.declared.term.Var.{Var as Variable}
use Rattle.npa_term.specs.declared.term.Term.{Term, App}
use Rattle.npa_match.specs.Branches.{after_pairs, after_term, differ}
use Rattle.npa_term.specs.Computed.{turned}
use Rattle.npa_match.specs.Matching.{read_pairs}
use Rattle.npa_match.specs.Search.{after_all}
use Rattle.npa_match.proofs.Going.{matched}
use Rattle.npa_match.proofs.Lists.{flat_map_none}

-- whatever is bound, the first term matches the second in no branch
abbrev pub Never : Term → Term → Type 0
Never t u = (o : Subsorts) (s : List (Variable × Term)) → after_term o t u s ≡ []

-- arguments that match in no branch, of an operator that isn't commutative
pub no_arguments : (t u : Term) (f : Op) (ts us : List Term) → t ≡ App f ts → u ≡ App f us → f.com ≡ false →
    ((o : Subsorts) (s : List (Variable × Term)) → after_all o ts us s ≡ []) → Never t u
no_arguments t u f ts us d e single none o s =
    matched o s t u f ts us d e
    ∙ ap (λ bs. bs ++ cond (f.com && differ us) (after_all o ts (turned us) s) []) (none o s)
    ∙ ap (λ b. cond (b && differ us) (after_all o ts (turned us) s) []) single

-- one place is enough
pub unlike_at : (ts us : List Term) (i : ℕ) (d e : Term) → i < length ts → length ts ≡ length us → Never (get_or ts i d) (get_or us i e) →
    (o : Subsorts) (s : List (Variable × Term)) → after_all o ts us s ≡ []
unlike_at [] us i d e small even never o s = absurd (let no : ⊥ = omega (arith, small) in no)
unlike_at (t ∷ ts) [] i d e small even never o s = absurd (let no : ⊥ = omega (arith, even) in no)
unlike_at (t ∷ ts) (u ∷ us) zero d e small even never o s = ap (flat_map (after_all o ts us)) (never o s)
unlike_at (t ∷ ts) (u ∷ us) (suc i) d e small even never o s =
    flat_map_none (after_all o ts us) (λ r. unlike_at ts us i d e (omega (arith, small)) (omega (arith, even)) never o r) (after_term o t u s)

pub unlike_place : (ts us : List Term) (i : ℕ) (t u : Term) → i < length ts → length ts ≡ length us → t ≡ get_or ts i t → u ≡ get_or us i u → Never t u →
    (o : Subsorts) (s : List (Variable × Term)) → after_all o ts us s ≡ []
unlike_place ts us i t u small even first second never =
    unlike_at ts us i t u small even (subst (λ x. Never x (get_or us i u)) first (subst (λ x. Never t x) second never))

-- and one pair
pub unlike_pair : (ps : List (Bor Term × Bor Term)) (i : ℕ) (d : Bor Term × Bor Term) → i < length ps → Never (get_or ps i d).0.now (get_or ps i d).1.now →
    (o : Subsorts) (s : List (Variable × Term)) → after_pairs o (read_pairs ps) s ≡ []
unlike_pair [] i d small never o s = absurd (let no : ⊥ = omega (arith, small) in no)
unlike_pair (p ∷ ps) zero d small never o s = ap (flat_map (after_pairs o (read_pairs ps))) (never o s)
unlike_pair (p ∷ ps) (suc i) d small never o s =
    flat_map_none (after_pairs o (read_pairs ps)) (λ r. unlike_pair ps i d (omega (arith, small)) never o r) (after_term o p.0.now p.1.now s)

pub unlike_member : (ps : List (Bor Term × Bor Term)) (i : ℕ) (p : Bor Term × Bor Term) → i < length ps → p ≡ get_or ps i p → Never p.0.now p.1.now →
    (o : Subsorts) (s : List (Variable × Term)) → after_pairs o (read_pairs ps) s ≡ []
unlike_member ps i p small is never = unlike_pair ps i p small (subst (λ (q : Bor Term × Bor Term). Never q.0.now q.1.now) is never)
