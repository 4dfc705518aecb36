-- What the definitions by cases on a term say of an operator and its list of arguments.
use Rattle.std.proofs.Common.{◌≡◌, cond, List, ◌∷◌, ◌++◌, refl, sym, ◌∙◌, ap, arith, []}
use Rattle.std.proofs.lemmas.Grind.{flat_map-append}
use Rattle.std.proofs.lemmas.List.{append-nil}
use Rattle.std.specs.Prelude.{flat_map, zip, length}
use Rattle.npa_sorts.specs.Subsorts.{Subsorts}
use Rattle.npa_term.specs.declared.term.Op.{Op}
use Rattle.npa_term.specs.declared.term.Var.{Var as Variable}
use Rattle.npa_term.specs.declared.term.Term.{Term, App, Row_of-Term, end_of-Term, more_of-Term, items-the_row-Term, items_hidden-the_row-Term-0}
use Rattle.npa_term.specs.declared.term.Term.TheBlock.{hidden-the_row-Term-0}
use Rattle.npa_term.specs.Computed.{same_op, turned}
use Rattle.npa_match.specs.Branches.{after_term, after_row, after_pairs, forks}
use Rattle.npa_match.specs.Search.{after_all}

pub flat_map_alike : {X Y : Type 0} (f g : X → List Y) → ((x : X) → f x ≡ g x) → (xs : List X) → flat_map f xs ≡ flat_map g xs
flat_map_alike f g e [] = refl
flat_map_alike f g e (x ∷ xs) = ap (λ ys. ys ++ flat_map f xs) (e x) ∙ ap (λ ys. g x ++ ys) (flat_map_alike f g e xs)

after_row_is : {n : _} (o : Subsorts) (k : Row_of-Term n) (us : List Term) (s : List (Variable × Term)) → after_row o k us s ≡ after_all o (items-the_row-Term n k) us s
after_row_is o end_of-Term [] s = refl
after_row_is o end_of-Term (u ∷ us) s = refl
after_row_is o (more_of-Term t ts) [] s = refl
after_row_is o (more_of-Term t ts) (u ∷ us) s =
    flat_map_alike (after_row o ts us) (after_all o (items-the_row-Term _ ts) us) (after_row_is o ts us) (after_term o t u s)

-- an operator is matched by its arguments, straight and where it forks crosswise
abbrev pub after_arguments : Subsorts → Op → List Term → List Term → List (Variable × Term) → List (List (Variable × Term))
after_arguments o f ts us s = after_all o ts us s ++ cond (forks f us) (after_all o ts (turned us) s) []

pub after_apps : (o : Subsorts) (f g : Op) (ts us : List Term) (s : List (Variable × Term)) →
    after_term o (App f ts) (App g us) s ≡ cond (same_op f g) (after_arguments o f ts us s) []
after_apps o f g ts us s =
    let j = hidden-the_row-Term-0 ts in
    ap (λ vs. cond (same_op f g) (after_row o j vs s ++ cond (forks f vs) (after_row o j (turned vs) s) []) []) (items_hidden-the_row-Term-0 us)
    ∙ ap (λ bs. cond (same_op f g) (bs ++ cond (forks f us) (after_row o j (turned us) s) []) []) (after_row_is o j us s)
    ∙ ap (λ bs. cond (same_op f g) (after_all o (items-the_row-Term _ j) us s ++ cond (forks f us) bs []) []) (after_row_is o j (turned us) s)
    ∙ ap (λ vs. cond (same_op f g) (after_arguments o f vs us s) []) (items_hidden-the_row-Term-0 ts)

pub flat_map-flat_map : {X Y Z : Type 0} (f : X → List Y) (g : Y → List Z) (xs : List X) → flat_map g (flat_map f xs) ≡ flat_map (λ x. flat_map g (f x)) xs
flat_map-flat_map f g [] = refl
flat_map-flat_map f g (x ∷ xs) =
    flat_map-append g (f x) (flat_map f xs) ∙ ap (λ zs. flat_map g (f x) ++ zs) (flat_map-flat_map f g xs)

-- what is matched place by place is matched as pairs at the front
pub after_zip : (o : Subsorts) (ts us : List Term) (ps : List (Term × Term)) (s : List (Variable × Term)) → length ts ≡ length us →
    after_pairs o (zip ts us ++ ps) s ≡ flat_map (after_pairs o ps) (after_all o ts us s)
after_zip o [] [] ps s e = sym (append-nil (after_pairs o ps s))
after_zip o [] (u ∷ us) ps s e = cc
after_zip o (t ∷ ts) [] ps s e = cc
after_zip o (t ∷ ts) (u ∷ us) ps s e =
    flat_map_alike (after_pairs o (zip ts us ++ ps)) (λ r. flat_map (after_pairs o ps) (after_all o ts us r))
    (λ r. after_zip o ts us ps r (omega arith)) (after_term o t u s)
    ∙ sym (flat_map-flat_map (after_all o ts us) (after_pairs o ps) (after_term o t u s))

-- lists of different lengths match in no branch
pub flat_map_none : {X Y : Type 0} (f : X → List Y) → ((x : X) → f x ≡ []) → (xs : List X) → flat_map f xs ≡ []
flat_map_none f e [] = refl
flat_map_none f e (x ∷ xs) = ap (λ ys. ys ++ flat_map f xs) (e x) ∙ flat_map_none f e xs

pub after_uneven : (o : Subsorts) (ts us : List Term) (s : List (Variable × Term)) → (length ts ≡ length us → ⊥) → after_all o ts us s ≡ []
after_uneven o [] [] s ne = absurd (ne refl)
after_uneven o [] (u ∷ us) s ne = refl
after_uneven o (t ∷ ts) [] s ne = refl
after_uneven o (t ∷ ts) (u ∷ us) s ne =
    flat_map_none (after_all o ts us) (λ r. after_uneven o ts us r (λ e. ne (omega (arith, e)))) (after_term o t u s)
