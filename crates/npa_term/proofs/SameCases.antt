-- What equality modulo commutativity says of a variable, a name and an application.
use Rattle.std.proofs.Common.{◌≡◌, ℕ, true, List, [], ◌∷◌, sym, ◌∙◌, ap, subst, inl, inr}
use Rattle.npa_term.specs.declared.term.Op.{Op}
use Rattle.npa_term.specs.declared.term.Var.{Var as Variable}
use Rattle.npa_term.specs.declared.term.Term.{Term, Var, Name, App, out-Term}
use Rattle.npa_term.specs.declared.term.Term.TheOpen.{Term-F, Var as OpenVar, Name as OpenName, App as OpenApp}
use Rattle.npa_term.specs.declared.term.Term.TheVariants.{outs-App}
use Rattle.npa_term.specs.Same.{Same, itself, through, swapped, below, SameAll, nothing, first, Crossed, crossed, SameArguments}
use Rattle.npa_term.proofs.SameLaws.{same_all_itself}

head_of : Term-F Term → Op → Op
head_of (OpenVar v) op = op
head_of (OpenName n) op = op
head_of (OpenApp f ts) op = f

arguments_of : Term-F Term → List Term → List Term
arguments_of (OpenVar v) us = us
arguments_of (OpenName n) us = us
arguments_of (OpenApp f ts) us = ts

-- an application has one operator and one list of arguments
pub app_injective : (f g : Op) (ts us : List Term) → App f ts ≡ App g us → (f ≡ g) × (ts ≡ us)
unfolding head_of arguments_of
app_injective f g ts us e =
    let open_e : OpenApp f ts ≡ OpenApp g us = sym (outs-App f ts) ∙ ap out-Term e ∙ outs-App g us in
    (ap (λ x. head_of x f) open_e, ap (λ x. arguments_of x ts) open_e)

pub same_all_trans : {ts us vs : List Term} → SameAll ts us → SameAll us vs → SameAll ts vs
same_all_trans nothing q = q
same_all_trans (first t u ts us p ps) (first w v ws vs q qs) = first t v ts vs (through t u v p q) (same_all_trans ps qs)

crossed_after : {op : Op} {ts us vs : List Term} → Crossed op us vs → SameAll ts us → Crossed op ts vs
crossed_after (crossed a b c d swaps p q) (first t _ _ _ r (first u _ _ _ s nothing)) = crossed t u c d swaps (through t a d r p) (through u b c s q)

crossed_before : {op : Op} {ts us vs : List Term} → Crossed op ts us → SameAll us vs → Crossed op ts vs
crossed_before (crossed a b c d swaps p q) (first _ v _ _ r (first _ w _ _ s nothing)) = crossed a b v w swaps (through a d w p s) (through b c v q r)

crossed_twice : {op : Op} {ts us vs : List Term} → Crossed op ts us → Crossed op us vs → SameAll ts vs
crossed_twice (crossed a b c d swaps p q) (crossed _ _ e f also r s) =
    first a e (b ∷ []) (f ∷ []) (through a d e p s) (first b f [] [] (through b c f q r) nothing)

same_arguments_trans : {op : Op} {ts us vs : List Term} → SameArguments op ts us → SameArguments op us vs → SameArguments op ts vs
same_arguments_trans (inl p) (inl q) = inl (same_all_trans p q)
same_arguments_trans (inl p) (inr q) = inr (crossed_after q p)
same_arguments_trans (inr p) (inl q) = inr (crossed_before p q)
same_arguments_trans (inr p) (inr q) = inl (crossed_twice p q)

-- a term that equals an application is one of the same operator
pub same_app : {t u : Term} → Same t u → (op : Op) (ts : List Term) → t ≡ App op ts → (us : List Term) × (u ≡ App op us) × SameArguments op ts us
same_app (itself t) op ts e = (ts, e, inl (same_all_itself ts))
same_app (through s t u p q) op ts e =
    let one = same_app p op ts e in
    let two = same_app q op one.0 one.1 in
    (two.0, two.1, same_arguments_trans one.2 two.2)
same_app (swapped f t u swaps) op ts e =
    let is = app_injective f op (t ∷ u ∷ []) ts e in (
      u ∷ t ∷ [],
      ap (λ g. App g (u ∷ t ∷ [])) is.0,
      subst (λ xs. SameArguments op xs (u ∷ t ∷ [])) is.1
          (inr (crossed t u u t (subst (λ g. g.com ≡ true) is.0 swaps) (itself t) (itself u))),
    )
same_app (below f ss us p) op ts e =
    let is = app_injective f op ss ts e in
    (us, ap (λ g. App g us) is.0, subst (λ xs. SameArguments op xs us) is.1 (inl p))

-- and the other way round
pub same_from_arguments : (op : Op) (ts us : List Term) → SameArguments op ts us → Same (App op ts) (App op us)
same_from_arguments op ts us (inl p) = below op ts us p
same_from_arguments op ts us (inr (crossed a b c d swaps p q)) =
    through (App op (a ∷ b ∷ [])) (App op (d ∷ c ∷ [])) (App op (c ∷ d ∷ []))
    (below op (a ∷ b ∷ []) (d ∷ c ∷ []) (first a d (b ∷ []) (c ∷ []) p (first b c [] [] q nothing)))
    (swapped op d c swaps)

-- a term that equals a variable is that variable
pub same_only_var : {t u : Term} → Same t u → (v : Variable) → t ≡ Var v → u ≡ Var v
same_only_var (itself t) v e = e
same_only_var (through s t u p q) v e = same_only_var q v (same_only_var p v e)
same_only_var (swapped op t u swaps) v e = cc
same_only_var (below op ts us p) v e = cc

-- a term that equals a fresh name is that name
pub same_only_name : {t u : Term} → Same t u → (n : ℕ) → t ≡ Name n → u ≡ Name n
same_only_name (itself t) n e = e
same_only_name (through s t u p q) n e = same_only_name q n (same_only_name p n e)
same_only_name (swapped op t u swaps) n e = cc
same_only_name (below op ts us p) n e = cc
