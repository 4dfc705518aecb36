-- The parts of the arguments of an operator, one argument after another, and a row's own applications
-- among them.
use Rattle.std.proofs.Common.{◌≡◌, Bool, true, false, cond, List, [], ◌∷◌, ◌++◌, refl, sym, ◌∙◌, ap}
use Rattle.std.specs.Prelude.{◌||◌, filter}
use Rattle.std.specs.List.{flat_map, list_any}
use Rattle.std.proofs.lemmas.List.{append_assoc}
use Rattle.std.proofs.lemmas.List.Elements.{filter-append}
use Rattle.npa_term.specs.declared.term.Op.{Op}
use Rattle.npa_term.specs.declared.term.Term.{Term, Var, Name, App}
use Rattle.npa_term.specs.declared.term.Term.TheVariants.{App'}
use Rattle.npa_term.specs.Computed.{is_same}
use Rattle.npa_variants.specs.Rows.{applications, is_among, is_application, parts, row_parts}
use Rattle.npa_variants.proofs.Listing.{parts_app}

-- an application's parts are itself and those of its arguments
pub parts_at : (t : Term) (op : Op) (ts : List Term) → t ≡ App op ts → parts t ≡ t ∷ flat_map parts ts
parts_at t op ts e = ap parts e ∙ parts_app op ts ∙ ap (λ u. u ∷ flat_map parts ts) (sym e)

any_here : {X : Type 0} (p : X → Bool) (x : X) (xs : List X) → p x ≡ true → list_any p (x ∷ xs) ≡ true
any_here p x xs e = ap (λ b. b || list_any p xs) e

any_past : {X : Type 0} (p : X → Bool) (x : X) (xs : List X) → p x ≡ false → list_any p (x ∷ xs) ≡ list_any p xs
any_past p x xs e = ap (λ b. b || list_any p xs) e

-- a term that equals another, or an application that doesn't
pub among_whole : (t u : Term) → is_same u t ≡ true → is_among (parts t) u ≡ true
among_whole (Var v) u e = any_here (is_same u) (Var v) [] e
among_whole (Name n) u e = any_here (is_same u) (Name n) [] e
among_whole (App' op n args) u e = any_here (is_same u) (App' op n args) (row_parts args) e

pub among_inside : (t u : Term) (op : Op) (ts : List Term) → t ≡ App op ts → is_same u t ≡ false → is_among (parts t) u ≡ is_among (flat_map parts ts) u
among_inside t u op ts is e = ap (λ ps. is_among ps u) (parts_at t op ts is) ∙ any_past (is_same u) t (flat_map parts ts) e

-- the applications of several terms
filter_flat : {X Y : Type 0} (p : Y → Bool) (f : X → List Y) (xs : List X) → filter p (flat_map f xs) ≡ flat_map (λ x. filter p (f x)) xs
filter_flat p f [] = refl
filter_flat p f (x ∷ xs) = filter-append p (f x) (flat_map f xs) ∙ ap (λ ys. filter p (f x) ++ ys) (filter_flat p f xs)

pub applications_at : (t : Term) (op : Op) (ts : List Term) → t ≡ App op ts → applications t ≡ t ∷ flat_map applications ts
applications_at t op ts e =
    ap (filter is_application) (parts_at t op ts e)
    ∙ ap (λ b. cond b (t ∷ filter is_application (flat_map parts ts)) (filter is_application (flat_map parts ts))) (ap is_application e)
    ∙ ap (λ us. t ∷ us) (filter_flat is_application parts ts)

-- an application is added where it passes, and then those in its arguments
pub added_all : (p : Term → Bool) (old pushed new : List Term) (t : Term) (op : Op) (ts items : List Term) → t ≡ App op ts → items ≡ ts →
    pushed ≡ old ++ filter p (t ∷ []) → new ≡ pushed ++ filter p (flat_map applications items) → new ≡ old ++ filter p (applications t)
added_all p old pushed new t op ts items is same more e =
    e ∙ ap (λ us. us ++ filter p (flat_map applications items)) more
    ∙ append_assoc old (filter p (t ∷ [])) (filter p (flat_map applications items))
    ∙ ap (λ us. old ++ us)
    (sym (filter-append p (t ∷ []) (flat_map applications items)) ∙ ap (λ us. filter p (t ∷ flat_map applications us)) same
    ∙ ap (filter p) (sym (applications_at t op ts is)))
