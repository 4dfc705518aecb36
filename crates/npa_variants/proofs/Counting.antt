-- How many applications of a term pass a test that equal terms pass alike: those of instances and of the terms
-- that it rewrites to.
use Rattle.std.proofs.Common.{◌≡◌, ◌<◌, ◌≤◌, ◌+◌, ℕ, Bool, true, false, cond, List, [], ◌∷◌, ◌++◌, length, length-append, map, inl, inr, refl, ◌∙◌, ap, subst, arith}
use Rattle.std.specs.Prelude.{Contains, filter}
use Rattle.std.specs.List.{flat_map}
use Rattle.npa_term.specs.declared.term.Op.{Op}
use Rattle.npa_term.specs.declared.term.Var.{Var as Variable}
use Rattle.npa_term.specs.declared.term.Term.{Term, App}
use Rattle.npa_term.specs.Bound.{applied}
use Rattle.npa_term.specs.Canonical.{canonical}
use Rattle.npa_term.specs.Parts.{IsPart, whole, inside, image}
use Rattle.npa_term.specs.Same.{Same, SameAll, itself, through, swapped, below, nothing, first}
use Rattle.npa_term.specs.Variables.{variables}
use Rattle.npa_term.proofs.CanonicalLaws.{canonical_same}
use Rattle.npa_term.proofs.Induction.{Each, by_terms}
use Rattle.npa_term.proofs.Parts.{is_app}
use Rattle.npa_term.proofs.Renumbered.{member_variable, of_member}
use Rattle.npa_term.proofs.Rows.{applied_app, applied_at}
use Rattle.npa_term.proofs.SameLaws.{same_sym}
use Rattle.npa_sig.specs.declared.protocol.Equation.{Equation}
use Rattle.npa_rewrite.specs.declared.theory.Theory.{Theory}
use Rattle.npa_rewrite.specs.Innermost.{normalized}
use Rattle.npa_rewrite.specs.Reducing.{Reduces, top, under, ReducesOne, now, later}
use Rattle.npa_rewrite.specs.Rewriting.{AllCancel, FitsSorts, IsNormal, Rewrites, Steps, none, more}
use Rattle.npa_rewrite.proofs.InstanceParts.{here, behind, member_cases, image_part}
use Rattle.npa_rewrite.proofs.Instances.{in_app, of_app}
use Rattle.npa_rewrite.proofs.Kept.{right_is, shape_of}
use Rattle.npa_rewrite.proofs.Normalized.{normalized_form}
use Rattle.npa_rewrite.proofs.Positions.{reduces, rewrites}
use Rattle.npa_rewrite.proofs.Under.{normal_same}
use Rattle.npa_variants.specs.Rows.{applications, is_application, parts}
use Rattle.npa_variants.proofs.Covers.{total}
use Rattle.npa_variants.proofs.Listing.{parts_app}
use Rattle.npa_variants.proofs.Members.{none_there, mapped_member}
use Rattle.npa_variants.proofs.Redexes.{reducible}

-- lists that are filtered

filter_append : {X : Type 0} (p : X → Bool) (xs ys : List X) → filter p (xs ++ ys) ≡ filter p xs ++ filter p ys
filter_append p [] ys = refl
filter_append p (x ∷ xs) ys =
    elim (p x) as (λ b. cond b (x ∷ filter p (xs ++ ys)) (filter p (xs ++ ys)) ≡ cond b (x ∷ filter p xs) (filter p xs) ++ filter p ys) [
      | true ↦ ap (λ zs. x ∷ zs) (filter_append p xs ys)
      | false ↦ filter_append p xs ys
    ]

filter_flat : {X Y : Type 0} (p : Y → Bool) (f : X → List Y) (xs : List X) → filter p (flat_map f xs) ≡ flat_map (λ x. filter p (f x)) xs
filter_flat p f [] = refl
filter_flat p f (x ∷ xs) = filter_append p (f x) (flat_map f xs) ∙ ap (λ ys. filter p (f x) ++ ys) (filter_flat p f xs)

filter_none : {X : Type 0} (p : X → Bool) (xs : List X) → ((x : X) → Contains xs x → p x ≡ false) → length (filter p xs) ≡ 0
filter_none p [] never = refl
filter_none p (x ∷ xs) never = ap (λ b. length (cond b (x ∷ filter p xs) (filter p xs))) (never x (here x xs)) ∙ filter_none p xs (λ y c. never y (behind x y xs c))

-- an application, and then those of its arguments
pub applications_app : (op : Op) (ts : List Term) → applications (App op ts) ≡ App op ts ∷ flat_map applications ts
applications_app op ts = ap (filter is_application) (parts_app op ts) ∙ ap (λ us. App op ts ∷ us) (filter_flat is_application parts ts)

abbrev pub bit : Bool → ℕ
bit b = cond b 1 0

bit_upto : (b c : Bool) → (b ≡ true → c ≡ true) → bit b ≤ bit c
bit_upto false c f = omega arith
bit_upto true c f = let e : bit c ≡ 1 = ap bit (f refl) in omega (arith, e)

bit_small : (b : Bool) → bit b ≤ 1
bit_small true = omega arith
bit_small false = omega arith

module _ (p : Term → Bool) where
  abbrev pub count : Term → ℕ
  count t = length (filter p (applications t))

  abbrev pub count_all : List Term → ℕ
  count_all ts = length (filter p (flat_map applications ts))

  pub count_more : (t : Term) (ts : List Term) → count_all (t ∷ ts) ≡ count t + count_all ts
  count_more t ts =
      ap length (filter_append p (applications t) (flat_map applications ts)) ∙ length-append (filter p (applications t)) (filter p (flat_map applications ts))

  pub count_total : (ts : List Term) → count_all ts ≡ total count ts
  count_total [] = refl
  count_total (t ∷ ts) = count_more t ts ∙ ap (λ n. count t + n) (count_total ts)

  pub count_app : (op : Op) (ts : List Term) → count (App op ts) ≡ bit (p (App op ts)) + count_all ts
  count_app op ts =
      ap (λ us. length (filter p us)) (applications_app op ts)
      ∙ (elim (p (App op ts)) as (λ b. length (cond b (App op ts ∷ filter p (flat_map applications ts)) (filter p (flat_map applications ts))) ≡ bit b + count_all ts) [
        | true ↦ omega arith
        | false ↦ omega arith
      ])

  pub count_none : (t : Term) → ((x : Term) → Contains (applications t) x → p x ≡ false) → count t ≡ 0
  count_none t never = filter_none p (applications t) never

  count_member : (ts : List Term) (t : Term) → Contains ts t → count t ≤ count_all ts
  count_member [] t c = absurd (none_there t c)
  count_member (u ∷ us) t c =
      let split = count_more u us in
      elim (member_cases u t us c) [
        | inl e ↦ (let same : count u ≡ count t = ap count e in omega (arith, split, same))
        | inr d ↦ (let rest = count_member us t d in omega (arith, split, rest))
      ]

  -- a part has no more
  pub count_part : {x t : Term} → IsPart x t → count x ≤ count t
  count_part whole = omega arith
  count_part (inside op us u c part) =
      let one = count_part part in
      let two = count_member us u c in
      let three = count_app op us in
      omega (arith, one, two, three)

  module _ (respects : (t u : Term) → Same t u → p t ≡ p u) where
    mutual
      -- equal terms have as many
      pub same_counts : {t u : Term} → Same t u → count t ≡ count u
      same_counts (itself t) = refl
      same_counts (through s t u a b) = same_counts a ∙ same_counts b
      same_counts (swapped op t u swaps) =
          let one = count_app op (t ∷ u ∷ []) in
          let two = count_app op (u ∷ t ∷ []) in
          let test : bit (p (App op (t ∷ u ∷ []))) ≡ bit (p (App op (u ∷ t ∷ []))) = ap bit (respects (App op (t ∷ u ∷ [])) (App op (u ∷ t ∷ [])) (swapped op t u swaps)) in
          let three = count_more t (u ∷ []) in
          let four = count_more u [] in
          let five = count_more u (t ∷ []) in
          let six = count_more t [] in
          omega (arith, one, two, test, three, four, five, six)
      same_counts (below op ts us q) =
          let one = count_app op ts in
          let two = count_app op us in
          let test : bit (p (App op ts)) ≡ bit (p (App op us)) = ap bit (respects (App op ts) (App op us) (below op ts us q)) in
          let three = same_counts_all q in
          omega (arith, one, two, test, three)

      same_counts_all : {ts us : List Term} → SameAll ts us → count_all ts ≡ count_all us
      same_counts_all nothing = refl
      same_counts_all (first t u ts us a b) =
          let one = same_counts a in
          let two = same_counts_all b in
          let three = count_more t ts in
          let four = count_more u us in
          omega (arith, one, two, three, four)

    -- what a term rewrites to has fewer, where all terms pass that aren't normal
    module _ (th : Theory) (cancel : AllCancel th) (passes : (t : Term) → (IsNormal th t → ⊥) → p t ≡ true) where
      passed : (t : Term) → (IsNormal th t → ⊥) → bit (p t) ≡ 1
      passed t never = ap bit (passes t never)

      right_fewer : (e : Equation) (s : List (Variable × Term)) → Contains th.equations e → FitsSorts th.sig.sorts (variables e.left) s → count (applied s e.right) < count (applied s e.left)
      right_fewer e s c fits =
          let shape = shape_of th cancel e c in
          let app = is_app e.left shape.left shape.var shape.occurs in
          let op = app.0 in
          let ts = app.1 in
          let form : applied s e.left ≡ App op (map (applied s) ts) = applied_at s e.left op ts app.2 in
          let at = of_member ts shape.var (of_app op ts shape.var (subst (λ t. Contains (variables t) shape.var) app.2 shape.occurs)) in
          let part : count (image s shape.var) ≤ count (applied s at.0) = count_part (image_part s shape.var at.0 at.2) in
          let member : count (applied s at.0) ≤ count_all (map (applied s) ts) = count_member (map (applied s) ts) (applied s at.0) (mapped_member (applied s) ts at.0 at.1) in
          let right : count (applied s e.right) ≡ count (image s shape.var) = ap count (right_is th.sig.sorts e s shape) in
          let left : count (applied s e.left) ≡ count (App op (map (applied s) ts)) = ap count form in
          let all = count_app op (map (applied s) ts) in
          let test : bit (p (App op (map (applied s) ts))) ≡ 1 =
          passed (App op (map (applied s) ts)) (reducible th e s (App op (map (applied s) ts)) c fits (subst (Same (applied s e.left)) form (itself (applied s e.left)))) in
          omega (arith, part, member, right, left, all, test)

      mutual
        reduces_fewer : {t u : Term} → Reduces th t u → count u < count t
        reduces_fewer (top e s t c q same) =
            let one = same_counts same in
            let two = right_fewer e s c q in
            omega (arith, one, two)
        reduces_fewer (under op ts us r) =
            let one = count_app op ts in
            let two = count_app op us in
            let test : bit (p (App op ts)) ≡ 1 = passed (App op ts) (λ normal. normal (canonical (App op us)) (rewrites th (under op ts us r))) in
            let small = bit_small (p (App op us)) in
            let rest = one_fewer r in
            omega (arith, one, two, test, small, rest)

        one_fewer : {ts us : List Term} → ReducesOne th ts us → count_all us < count_all ts
        one_fewer (now t u ts r) =
            let one = reduces_fewer r in
            let two = count_more t ts in
            let three = count_more u ts in
            omega (arith, one, two, three)
        one_fewer (later t ts us r) =
            let one = one_fewer r in
            let two = count_more t ts in
            let three = count_more t us in
            omega (arith, one, two, three)

      rewrites_fewer : (t u : Term) → Rewrites th t u → count u < count t
      rewrites_fewer t u r =
          let own = reduces th t u r in
          let one = reduces_fewer own.1 in
          let two = same_counts own.2 in
          omega (arith, one, two)

      steps_fewer : {t u : Term} → Steps th t u → count u ≤ count t
      steps_fewer none = omega arith
      steps_fewer (more u v q r) = let one = rewrites_fewer u v r in let rest = steps_fewer q in omega (arith, one, rest)

      steps_less : {t u : Term} → Steps th t u → IsNormal th u → (IsNormal th t → ⊥) → count u < count t
      steps_less none normal never = absurd (never normal)
      steps_less (more u v q r) normal never = let one = rewrites_fewer u v r in let rest = steps_fewer q in omega (arith, one, rest)

      pub form_fewer : (t : Term) → count (normalized th t) ≤ count t
      form_fewer t =
          let one = steps_fewer (normalized_form th cancel t).reached in
          let two = same_counts (canonical_same t) in
          omega (arith, one, two)

      pub form_less : (t : Term) → (IsNormal th t → ⊥) → count (normalized th t) < count t
      form_less t never =
          let form = normalized_form th cancel t in
          let one = steps_less form.reached form.normal (λ normal. never (normal_same th (canonical t) t (same_sym (canonical_same t)) normal)) in
          let two = same_counts (canonical_same t) in
          omega (arith, one, two)

-- instances have no more, by a test that an instance passes only where the term passes the first test
module _ (p q : Term → Bool) (d : List (Variable × Term)) (back : (t : Term) → q (applied d t) ≡ true → p t ≡ true) (within : Variable → Type 0)
    (uncounted : (y : Variable) → within y → count q (image d y) ≡ 0) where
  abbrev Fewer : Term → Type 0
  Fewer t = ((y : Variable) → Contains (variables t) y → within y) → count q (applied d t) ≤ count p t

  fewer_all : (ts : List Term) → Each Fewer ts → ((y : Variable) → Contains (flat_map variables ts) y → within y) → count_all q (map (applied d) ts) ≤ count_all p ts
  fewer_all [] each own = omega arith
  fewer_all (t ∷ ts) each own =
      let one = each.0 (λ y c. own y (member_variable (t ∷ ts) t y (here t ts) c)) in
      let rest = fewer_all ts each.1 (λ y c. let of = of_member ts y c in own y (member_variable (t ∷ ts) of.0 y (behind t of.0 ts of.1) of.2)) in
      let two = count_more q (applied d t) (map (applied d) ts) in
      let three = count_more p t ts in
      omega (arith, one, rest, two, three)

  pub instance_fewer : (t : Term) → Fewer t
  instance_fewer =
      by_terms Fewer
      (λ v own. let zero_count : count q (image d v) ≡ 0 = uncounted v (own v (here v [])) in omega (arith, zero_count))
      (λ n own. omega arith)
      (λ op ts each own.
      let one : count q (applied d (App op ts)) ≡ count q (App op (map (applied d) ts)) = ap (count q) (applied_app d op ts) in
      let two = count_app q op (map (applied d) ts) in
      let three = count_app p op ts in
      let test : bit (q (App op (map (applied d) ts))) ≤ bit (p (App op ts)) =
      bit_upto (q (App op (map (applied d) ts))) (p (App op ts)) (λ e. back (App op ts) (ap q (applied_app d op ts) ∙ e)) in
      let rest = fewer_all ts each (λ y c. own y (in_app op ts y c)) in
      omega (arith, one, two, three, test, rest))
