-- The parts of equal terms, and those of an instance.
use Rattle.std.proofs.Common.{◌≡◌, ◌≢◌, ◌⊎◌, ℕ, zero, suc, List, [], ◌∷◌, map, inl, inr, refl, sym, subst, arith}
use Rattle.std.specs.Prelude.{Contains}
use Rattle.std.specs.List.{flat_map}
use Rattle.std.proofs.lemmas.List.Elements.{Contains-append_left, Contains-append_right, Contains-append_cases}
use Rattle.npa_term.specs.declared.term.Op.{Op}
use Rattle.npa_term.specs.declared.term.Var.{Var as Variable}
use Rattle.npa_term.specs.declared.term.Term.{Term, Var, Name, App}
use Rattle.npa_term.specs.Bound.{applied}
use Rattle.npa_term.specs.Parts.{IsPart, whole, inside, image}
use Rattle.npa_term.specs.Same.{Same, itself, through, swapped, below, SameAll, nothing, first}
use Rattle.npa_term.specs.Variables.{variables}
use Rattle.npa_term.proofs.Induction.{by_terms}
use Rattle.npa_term.proofs.Parts.{each_member, only_member}
use Rattle.npa_term.proofs.Rows.{applied_app}
use Rattle.npa_term.proofs.SameCases.{app_injective}
use Rattle.npa_rewrite.proofs.Instances.{in_app, of_app, nowhere}

-- members

pub here : {X : Type 0} (x : X) (xs : List X) → Contains (x ∷ xs) x
here x xs = (zero, omega arith, refl)

pub behind : {X : Type 0} (x y : X) (xs : List X) → Contains xs y → Contains (x ∷ xs) y
behind x y xs c = (suc c.0, omega (arith, c.1), c.2)

pub member_cases : {X : Type 0} (x y : X) (xs : List X) → Contains (x ∷ xs) y → (x ≡ y) ⊎ Contains xs y
member_cases x y xs (zero, small, is) = inl is
member_cases x y xs (suc k, small, is) = inr (k, omega (arith, small), is)

no_member : {X : Type 0} (x : X) → Contains [] x → ⊥
no_member x c = omega (arith, c.1)

map_member : (f : Term → Term) (ts : List Term) (t : Term) → Contains ts t → Contains (map f ts) (f t)
map_member f [] t c = absurd (no_member t c)
map_member f (u ∷ us) t c =
    elim (member_cases u t us c) [
      | inl e ↦ subst (λ w. Contains (f u ∷ map f us) (f w)) e (here (f u) (map f us))
      | inr d ↦ behind (f u) (f t) (map f us) (map_member f us t d)
    ]

member_map : (f : Term → Term) (ts : List Term) (u : Term) → Contains (map f ts) u → (t : Term) × Contains ts t × (u ≡ f t)
member_map f [] u c = absurd (no_member u c)
member_map f (t ∷ ts) u c =
    elim (member_cases (f t) u (map f ts) c) [
      | inl e ↦ (t, here t ts, sym e)
      | inr d ↦ let rest = member_map f ts u d in (rest.0, behind t rest.0 ts rest.1, rest.2)
    ]

variable_of : (ts : List Term) (t : Term) (v : Variable) → Contains ts t → Contains (variables t) v → Contains (flat_map variables ts) v
variable_of [] t v c d = absurd (no_member t c)
variable_of (u ∷ us) t v c d =
    elim (member_cases u t us c) [
      | inl e ↦ Contains-append_left (variables u) (flat_map variables us) v (subst (λ w. Contains (variables w) v) (sym e) d)
      | inr f ↦ Contains-append_right (variables u) (flat_map variables us) v (variable_of us t v f d)
    ]

of_member : (ts : List Term) (v : Variable) → Contains (flat_map variables ts) v → (t : Term) × Contains ts t × Contains (variables t) v
of_member [] v c = absurd (nowhere v c)
of_member (t ∷ ts) v c =
    elim (Contains-append_cases (variables t) (flat_map variables ts) v c) [
      | inl d ↦ (t, here t ts, d)
      | inr d ↦ let rest = of_member ts v d in (rest.0, behind t rest.0 ts rest.1, rest.2)
    ]

turned_member : (t u a : Term) → Contains (t ∷ u ∷ []) a → Contains (u ∷ t ∷ []) a
turned_member t u a c =
    elim (member_cases t a (u ∷ []) c) [
      | inl e ↦ subst (Contains (u ∷ t ∷ [])) e (behind u t (t ∷ []) (here t []))
      | inr d ↦ subst (Contains (u ∷ t ∷ [])) (only_member u a d) (here u (t ∷ []))
    ]

-- parts

-- a part of an argument
pub record InArgument (p : Term) (ts : List Term) : Type 0 where
  pub argument : Term
  pub listed : Contains ts argument
  pub there : IsPart p argument

-- a part of an application is the application or a part of an argument
pub part_cases : {p w : Term} → IsPart p w → (op : Op) (ts : List Term) → w ≡ App op ts → (p ≡ w) ⊎ InArgument p ts
part_cases whole op ts is = inl refl
part_cases (inside f us u c p) op ts is = inr (record { argument = u; listed = subst (λ xs. Contains xs u) (app_injective f op us ts is).1 c; there = p })

pub part_through : {p q t : Term} → IsPart p q → IsPart q t → IsPart p t
part_through p whole = p
part_through p (inside op us u c q) = inside op us u c (part_through p q)

-- a name has no other part
pub part_name : {p w : Term} → IsPart p w → (n : ℕ) → w ≡ Name n → p ≡ Name n
part_name whole n is = is
part_name (inside op us u c p) n is = cc

-- the variables of a part are the term's
pub part_variables : {u t : Term} (v : Variable) → IsPart u t → Contains (variables u) v → Contains (variables t) v
part_variables v whole d = d
part_variables v (inside op us u c p) d = in_app op us v (variable_of us u v c (part_variables v p d))

-- a part that equals another modulo commutativity
pub record HasSamePart (p u : Term) : Type 0 where
  pub part : Term
  pub there : IsPart part u
  pub same : Same p part

record HasSameIn (p : Term) (us : List Term) : Type 0 where
  argument : Term
  listed : Contains us argument
  part : HasSamePart p argument

in_same : (op : Op) (us : List Term) (p : Term) → HasSameIn p us → HasSamePart p (App op us)
in_same op us p h = record { part = h.part.part; there = inside op us h.argument h.listed h.part.there; same = h.part.same }

mutual
  -- terms that are equal modulo commutativity have equal parts
  pub same_part : {p t u : Term} → Same t u → IsPart p t → HasSamePart p u
  same_part (itself t) part = record { part = _; there = part; same = itself _ }
  same_part (through s t u a b) part =
      let one = same_part a part in
      let two = same_part b one.there in
      record { part = two.part; there = two.there; same = through _ one.part two.part one.same two.same }
  same_part (swapped op t u swaps) part =
      elim (part_cases part op (t ∷ u ∷ []) refl) [
        | inl e ↦ record { part = App op (u ∷ t ∷ []); there = whole; same = subst (λ x. Same x (App op (u ∷ t ∷ []))) (sym e) (swapped op t u swaps) }
        | inr a ↦ record { part = _; there = inside op (u ∷ t ∷ []) a.argument (turned_member t u a.argument a.listed) a.there; same = itself _ }
      ]
  same_part (below op ts us q) part =
      elim (part_cases part op ts refl) [
        | inl e ↦ record { part = App op us; there = whole; same = subst (λ x. Same x (App op us)) (sym e) (below op ts us q) }
        | inr a ↦ in_same op us _ (same_all_part q a.argument a.listed a.there)
      ]

  same_all_part : {p : Term} {ts us : List Term} → SameAll ts us → (a : Term) → Contains ts a → IsPart p a → HasSameIn p us
  same_all_part nothing a c part = absurd (no_member a c)
  same_all_part (first t u ts us p q) a c part =
      elim (member_cases t a ts c) [
        | inl e ↦ record { argument = u; listed = here u us; part = same_part p (subst (IsPart _) (sym e) part) }
        | inr d ↦ let rest = same_all_part q a d part in record { argument = rest.argument; listed = behind u rest.argument us rest.listed; part = rest.part }
      ]

-- an instance of a part that isn't a variable
pub record OfTerm (s : List (Variable × Term)) (t q : Term) : Type 0 where
  pub part : Term
  pub there : IsPart part t
  pub proper : (v : Variable) → part ≢ Var v
  pub form : q ≡ applied s part

-- a part of the term of a variable
pub record OfValue (s : List (Variable × Term)) (t q : Term) : Type 0 where
  pub var : Variable
  pub occurs : Contains (variables t) var
  pub there : IsPart q (image s var)

module _ (s : List (Variable × Term)) where
  abbrev Comes : Term → Type 0
  Comes t = (q : Term) → IsPart q (applied s t) → OfTerm s t q ⊎ OfValue s t q

  from_argument : (op : Op) (ts : List Term) (t q : Term) → Contains ts t → OfTerm s t q ⊎ OfValue s t q → OfTerm s (App op ts) q ⊎ OfValue s (App op ts) q
  from_argument op ts t q c (inl f) = inl (record { part = f.part; there = inside op ts t c f.there; proper = f.proper; form = f.form })
  from_argument op ts t q c (inr f) = inr (record { var = f.var; occurs = in_app op ts f.var (variable_of ts t f.var c f.occurs); there = f.there })

  -- a part of an instance is one of these
  pub part_of_instance : (t q : Term) → IsPart q (applied s t) → OfTerm s t q ⊎ OfValue s t q
  part_of_instance =
      by_terms Comes (λ v q part. inr (record { var = v; occurs = here v []; there = part }))
      (λ n q part. inl (record { part = Name n; there = whole; proper = λ v e. let other : Name n ≡ Var v = e in cc; form = part_name part n refl }))
      (λ op ts each q part.
      elim (part_cases part op (map (applied s) ts) (applied_app s op ts)) [
        | inl e ↦ inl (record { part = App op ts; there = whole; proper = λ v e. let other : App op ts ≡ Var v = e in cc; form = e })
        | inr a ↦
            let m = member_map (applied s) ts a.argument a.listed in
            from_argument op ts m.0 q m.1 (each_member Comes ts m.0 each m.1 q (subst (IsPart q) m.2 a.there))
      ])

  abbrev HasImages : Variable → Term → Type 0
  HasImages v t = Contains (variables t) v → IsPart (image s v) (applied s t)

  -- the term of a variable is a part of the instance
  pub image_part : (v : Variable) (t : Term) → Contains (variables t) v → IsPart (image s v) (applied s t)
  image_part v =
      by_terms (HasImages v) (λ w c. subst (λ x. IsPart (image s v) (image s x)) (sym (only_member w v c)) whole)
      (λ n c. absurd (nowhere v c))
      (λ op ts each c.
      let m = of_member ts v (of_app op ts v c) in
      subst (IsPart (image s v)) (sym (applied_app s op ts))
      (inside op (map (applied s) ts) (applied s m.0) (map_member (applied s) ts m.0 m.1) (each_member (HasImages v) ts m.0 each m.1 m.2)))

  -- and so are the instances of the parts
  pub part_applied : {u t : Term} → IsPart u t → IsPart (applied s u) (applied s t)
  part_applied whole = whole
  part_applied (inside op us u c p) =
      subst (IsPart (applied s _)) (sym (applied_app s op us))
      (inside op (map (applied s) us) (applied s u) (map_member (applied s) us u c) (part_applied p))
