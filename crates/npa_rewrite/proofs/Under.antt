-- Rewriting under operators, and up to commutativity.
use Rattle.std.proofs.Common.{◌≡◌, ℕ, append_assoc, List, [], ◌∷◌, ◌++◌, map, refl, sym, ◌∙◌, ap, subst, inl, inr}
use Rattle.npa_term.specs.declared.term.Op.{Op}
use Rattle.npa_term.specs.declared.term.Var.{Var as Variable}
use Rattle.npa_term.specs.declared.term.Term.{Term, Var, Name, App}
use Rattle.npa_term.specs.Canonical.{canonical, ordered}
use Rattle.npa_term.specs.Same.{Same, itself, through, below, SameAll, nothing, first, Crossed, crossed, SameArguments}
use Rattle.npa_term.proofs.CanonicalLaws.{canonical_same, canonical-canonical}
use Rattle.npa_term.proofs.Induction.{Each}
use Rattle.npa_term.proofs.Rows.{canonical_app}
use Rattle.npa_term.proofs.SameCases.{app_injective, same_app, same_only_var, same_only_name}
use Rattle.npa_term.proofs.SameLaws.{same_sym, same_all_itself}
use Rattle.npa_rewrite.specs.declared.theory.Theory.{Theory}
use Rattle.npa_rewrite.specs.Rewriting.{Replaces, here, inside, Rewrites, IsNormal, Steps, none, more}
use Rattle.npa_rewrite.specs.Stepping.{HasNoMatch}

-- what rewrites is the class of a term
pub rewrites_same : (th : Theory) (t u v : Term) → Same t u → Rewrites th u v → Rewrites th t v
rewrites_same th t u v p r = record { from = r.from; to = r.to; same = through t u r.from p r.same; replaces = r.replaces; form = r.form }

pub normal_same : (th : Theory) (t u : Term) → Same t u → IsNormal th t → IsNormal th u
normal_same th t u p n = λ v r. n v (rewrites_same th t u v p r)

-- a replacement is a step
pub replaced : (th : Theory) (t u : Term) → Replaces th t u → Rewrites th t (canonical u)
replaced th t u r = record { from = t; to = u; same = itself t; replaces = r; form = refl }

-- one argument in the place of another
pub same_in : (before after : List Term) (t u : Term) → Same t u → SameAll (before ++ t ∷ after) (before ++ u ∷ after)
same_in [] after t u p = first t u after after p (same_all_itself after)
same_in (b ∷ before) after t u p = first b b (before ++ t ∷ after) (before ++ u ∷ after) (itself b) (same_in before after t u p)

map_in : (before after : List Term) (t u : Term) → canonical t ≡ canonical u → map canonical (before ++ t ∷ after) ≡ map canonical (before ++ u ∷ after)
map_in [] after t u e = ap (λ v. v ∷ map canonical after) e
map_in (b ∷ before) after t u e = ap (λ vs. canonical b ∷ vs) (map_in before after t u e)

pub canonical_in : (op : Op) (before after : List Term) (t u : Term) → canonical t ≡ canonical u → canonical (App op (before ++ t ∷ after)) ≡ canonical (App op (before ++ u ∷ after))
canonical_in op before after t u e =
    canonical_app op (before ++ t ∷ after)
    ∙ ap (λ vs. App op (ordered op vs)) (map_in before after t u e)
    ∙ sym (canonical_app op (before ++ u ∷ after))

-- a step of an argument is a step of the application
pub rewrites_in : (th : Theory) (op : Op) (before after : List Term) (t u : Term) → Rewrites th t u →
    Rewrites th (App op (before ++ t ∷ after)) (canonical (App op (before ++ u ∷ after)))
rewrites_in th op before after t u r =
    let form : canonical u ≡ canonical r.to = ap canonical r.form ∙ canonical-canonical r.to in
    record {
      from = App op (before ++ r.from ∷ after);
      to = App op (before ++ r.to ∷ after);
      same = below op (before ++ t ∷ after) (before ++ r.from ∷ after) (same_in before after t r.from r.same);
      replaces = inside op before after r.from r.to r.replaces;
      form = canonical_in op before after u r.to form;
    }

pub steps_after : (th : Theory) {t u v : Term} → Steps th t u → Steps th u v → Steps th t v
steps_after th p none = p
steps_after th p (more u v q r) = more u v (steps_after th p q) r

-- and so are any number of them
pub steps_in : (th : Theory) (op : Op) (before after : List Term) {t u : Term} → Steps th t u →
    Steps th (canonical (App op (before ++ t ∷ after))) (canonical (App op (before ++ u ∷ after)))
steps_in th op before after none = none
steps_in th op before after (more u v p r) =
    let whole : Term = App op (before ++ u ∷ after) in
    let next : Term = canonical (App op (before ++ v ∷ after)) in
    more (canonical whole) next (steps_in th op before after p)
    (rewrites_same th (canonical whole) whole next (same_sym (canonical_same whole)) (rewrites_in th op before after u v r))

-- the argument in the middle
each_middle : (P : Term → Type 0) (before after : List Term) (t : Term) → Each P (before ++ t ∷ after) → P t
each_middle P [] after t each = each.0
each_middle P (b ∷ before) after t each = each_middle P before after t each.1

normal_all : (th : Theory) {ts us : List Term} → SameAll ts us → Each (IsNormal th) ts → Each (IsNormal th) us
normal_all th nothing each = tt
normal_all th (first t u ts us p ps) each = (normal_same th t u p each.0, normal_all th ps each.1)

normal_crossed : (th : Theory) {op : Op} {ts us : List Term} → Crossed op ts us → Each (IsNormal th) ts → Each (IsNormal th) us
normal_crossed th (crossed a b c d swaps p q) each = (normal_same th b c q each.1.0, (normal_same th a d p each.0, tt))

normal_arguments : (th : Theory) (op : Op) (ts us : List Term) → SameArguments op ts us → Each (IsNormal th) ts → Each (IsNormal th) us
normal_arguments th op ts us (inl p) each = normal_all th p each
normal_arguments th op ts us (inr p) each = normal_crossed th p each

no_replacement : (th : Theory) (op : Op) (ts : List Term) → Each (IsNormal th) ts → HasNoMatch th (App op ts) →
    {from to : Term} → Same (App op ts) from → Replaces th from to → ⊥
no_replacement th op ts each unmatched p (here e s c q) = unmatched e s c q (same_sym p)
no_replacement th op ts each unmatched p (inside f before after t u r) =
    let cases = same_app p op ts refl in
    let is = app_injective f op (before ++ t ∷ after) cases.0 cases.1 in
    let normal : Each (IsNormal th) cases.0 = normal_arguments th op ts cases.0 cases.2 each in
    each_middle (IsNormal th) before after t (subst (Each (IsNormal th)) (sym is.1) normal) (canonical u) (replaced th t u r)

-- an application is normal where its arguments are and no equation matches it
pub normal_app : (th : Theory) (op : Op) (ts : List Term) → Each (IsNormal th) ts → HasNoMatch th (App op ts) → IsNormal th (App op ts)
normal_app th op ts each unmatched = λ u r. no_replacement th op ts each unmatched r.same r.replaces

no_variable : (th : Theory) (v : Variable) → HasNoMatch th (Var v) → {from to : Term} → from ≡ Var v → Replaces th from to → ⊥
no_variable th v unmatched is (here e s c q) = unmatched e s c q (subst (λ u. Same u (Var v)) (sym is) (itself (Var v)))
no_variable th v unmatched is (inside f before after t u r) = cc

pub normal_var : (th : Theory) (v : Variable) → HasNoMatch th (Var v) → IsNormal th (Var v)
normal_var th v unmatched = λ u r. no_variable th v unmatched (same_only_var r.same v refl) r.replaces

no_name : (th : Theory) (n : ℕ) → HasNoMatch th (Name n) → {from to : Term} → from ≡ Name n → Replaces th from to → ⊥
no_name th n unmatched is (here e s c q) = unmatched e s c q (subst (λ u. Same u (Name n)) (sym is) (itself (Name n)))
no_name th n unmatched is (inside f before after t u r) = cc

pub normal_name : (th : Theory) (n : ℕ) → HasNoMatch th (Name n) → IsNormal th (Name n)
normal_name th n unmatched = λ u r. no_name th n unmatched (same_only_name r.same n refl) r.replaces

normal_from : (th : Theory) (op : Op) (before ts : List Term) → IsNormal th (App op (before ++ ts)) → Each (IsNormal th) ts
normal_from th op before [] n = tt
normal_from th op before (t ∷ ts) n =
    let next : IsNormal th (App op ((before ++ t ∷ []) ++ ts)) = subst (λ us. IsNormal th (App op us)) (sym (append_assoc before (t ∷ []) ts)) n in
    (λ u r. n (canonical (App op (before ++ u ∷ ts))) (rewrites_in th op before ts t u r), normal_from th op (before ++ t ∷ []) ts next)

-- the arguments of a normal application are normal
pub arguments_normal : (th : Theory) (op : Op) (ts : List Term) → IsNormal th (App op ts) → Each (IsNormal th) ts
arguments_normal th op ts n = normal_from th op [] ts n

-- a term that makes a step isn't normal
pub not_normal : (th : Theory) (t u v : Term) → u ≡ canonical t → Rewrites th u v → IsNormal th t → ⊥
not_normal th t u v is r n = n v (rewrites_same th t u v (subst (Same t) (sym is) (canonical_same t)) r)

-- a term whose canonical form is normal is normal
pub normal_before : (th : Theory) (t u : Term) → u ≡ canonical t → IsNormal th u → IsNormal th t
normal_before th t u is n = normal_same th u t (same_sym (subst (Same t) (sym is) (canonical_same t))) n
