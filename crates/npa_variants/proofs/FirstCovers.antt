-- A sound row that covers the first row is covered by it.
use Rattle.std.proofs.Common.{◌≡◌, true, List, [], ◌∷◌, ◌++◌, length, map, take, drop, inl, inr, refl, sym, ◌∙◌, ap, subst}
use Rattle.std.specs.Prelude.{Contains}
use Rattle.std.specs.List.{flat_map}
use Rattle.std.proofs.lemmas.List.{map-append, take-append-drop}
use Rattle.std.proofs.lemmas.List.Elements.{Contains-append_cases}
use Rattle.npa_term.specs.declared.term.Var.{Var as Variable}
use Rattle.npa_term.specs.declared.term.Term.{Term, Var}
use Rattle.npa_term.specs.Bound.{applied}
use Rattle.npa_term.specs.Parts.{image}
use Rattle.npa_term.specs.Same.{Same, SameAll, nothing, first}
use Rattle.npa_term.specs.Variables.{variables}
use Rattle.npa_term.proofs.AppliedLaws.{applied-empty}
use Rattle.npa_term.proofs.CanonicalLaws.{canonical_same}
use Rattle.npa_term.proofs.Parts.{only_member}
use Rattle.npa_term.proofs.Renumbered.{member_variable, of_member}
use Rattle.npa_term.proofs.SameLaws.{same_all_itself, same_sym}
use Rattle.npa_sig.specs.Sorting.{well_sorted}
use Rattle.npa_rewrite.specs.declared.theory.Theory.{Theory}
use Rattle.npa_rewrite.specs.Innermost.{normalized}
use Rattle.npa_rewrite.specs.Rewriting.{FitsSorts, IsNormal}
use Rattle.npa_rewrite.proofs.InstanceParts.{here, behind, member_cases}
use Rattle.npa_rewrite.proofs.InstanceSteps.{form_of_instance, normal_of_instance}
use Rattle.npa_rewrite.proofs.Instances.{applied_variables}
use Rattle.npa_rewrite.proofs.Under.{normal_same}
use Rattle.npa_variants.specs.Rows.{Row}
use Rattle.npa_variants.specs.Search.{start_row}
use Rattle.npa_variants.specs.Variants.{Covers, bound}
use Rattle.npa_variants.proofs.Forms.{form_normal, form_variables, normal_form_is}
use Rattle.npa_variants.proofs.Members.{none_there, of_mapped, same_all_take, taken_map}
use Rattle.npa_variants.proofs.Sound.{IsSound, agree, map_map, row_values, taken_variable, under_sorted, value_listed}
use Rattle.npa_variants.proofs.Starting.{start_taken}
use Rattle.npa_variants.proofs.Theories.{IsNarrowing}

-- lists that are equal place by place

same_head : {ts us : List Term} → SameAll ts us → (t u : Term) (rest others : List Term) → ts ≡ t ∷ rest → us ≡ u ∷ others → Same t u × SameAll rest others
same_head nothing t u rest others e f = cc
same_head (first x y xs ys p q) t u rest others e f =
    let one : x ≡ t = cc in
    let two : y ≡ u = cc in
    let three : xs ≡ rest = cc in
    let four : ys ≡ others = cc in
    (subst (λ z. Same z u) one (subst (Same x) two p), subst (λ zs. SameAll zs others) three (subst (SameAll xs) four q))

-- equal at each member
pub same_all_at : {X : Type 0} (f g : X → Term) (xs : List X) → SameAll (map f xs) (map g xs) → (x : X) → Contains xs x → Same (f x) (g x)
same_all_at f g [] all x c = absurd (none_there x c)
same_all_at f g (y ∷ ys) all x c =
    let head = same_head all (f y) (g y) (map f ys) (map g ys) refl refl in
    elim (member_cases y x ys c) [ inl e ↦ subst (λ z. Same (f z) (g z)) e head.0 | inr d ↦ same_all_at f g ys head.1 x d ]

pub same_all_from : {X : Type 0} (f g : X → Term) (xs : List X) → ((x : X) → Contains xs x → Same (f x) (g x)) → SameAll (map f xs) (map g xs)
same_all_from f g [] each = nothing
same_all_from f g (x ∷ xs) each = first (f x) (g x) (map f xs) (map g xs) (each x (here x xs)) (same_all_from f g xs (λ y c. each y (behind x y xs c)))

pub same_all_append : {ts us vs ws : List Term} → SameAll ts us → SameAll vs ws → SameAll (ts ++ vs) (us ++ ws)
same_all_append nothing all = all
same_all_append (first t u ts us p q) all = first t u _ _ p (same_all_append q all)

module _ (th : Theory) (vs : List Variable) (terms : List Term) (can : IsNarrowing th) (sorted : (t : Term) → Contains terms t → well_sorted th.sig t ≡ true)
    (own : (v : Variable) → Contains (flat_map variables terms) v → Contains vs v) (of : (v : Variable) → Contains vs v → Contains (flat_map variables terms) v) where
  abbrev start : Row
  start = start_row th vs terms

  -- the first row has the variables alone
  pub start_variables : (v : Variable) → Contains (flat_map variables start) v → Contains vs v
  start_variables v c =
      let at = of_member start v c in
      elim (Contains-append_cases (map Var vs) (map (normalized th) terms) at.0 at.1) [
        | inl a ↦
            let x = of_mapped Var vs at.0 a in
            subst (Contains vs) (only_member x.0 v (subst (λ t. Contains (variables t) v) x.2 at.2)) x.1
        | inr b ↦
            let t = of_mapped (normalized th) terms at.0 b in
            own v (member_variable terms t.0 v t.1 (form_variables th can.cancel t.0 v (subst (λ u. Contains (variables u) v) t.2 at.2)))
      ]

  module _ (w : Row) (sound : IsSound th vs terms w) (c : Covers th.sig.sorts w start) where
    abbrev s : List (Variable × Term)
    s = bound vs w

    -- what covers takes the values back to the variables
    taken_back : (x : Variable) → Contains vs x → Same (applied c.by_ (image s x)) (Var x)
    taken_back x i =
        let front : SameAll (take (length vs) (map (applied c.by_) w)) (take (length vs) start) = same_all_take (length vs) c.equal in
        let all : SameAll (map (λ v. applied c.by_ (image s v)) vs) (map Var vs) =
        subst (λ ts. SameAll ts (map Var vs))
        (taken_map (applied c.by_) (length vs) w ∙ ap (map (applied c.by_)) (row_values th vs terms w sound) ∙ map_map (image s) (applied c.by_) vs)
        (subst (SameAll (take (length vs) (map (applied c.by_) w))) (start_taken th vs terms) front) in
        same_all_at (λ v. applied c.by_ (image s v)) Var vs all x i

    form_within : (t : Term) → Contains terms t → (v : Variable) → Contains (variables (normalized th t)) v → Contains vs v
    form_within t i v d = own v (member_variable terms t v i (form_variables th can.cancel t v d))

    -- so an instance of a normal form is normal
    instance_normal : (t : Term) → Contains terms t → IsNormal th (applied s (normalized th t))
    instance_normal t i =
        let u = normalized th t in
        let fits : FitsSorts th.sig.sorts (variables (applied s u)) c.by_ =
        λ y d. (let from = applied_variables s y u d in
        c.sorts y (taken_variable th vs terms w (image s from.var) y (value_listed th vs terms w sound from.var (form_within t i from.var from.occurs)) from.of)) in
        let same : Same (applied c.by_ (applied s u)) u =
        subst (Same (applied c.by_ (applied s u))) (applied-empty u) (agree s [] c.by_ u (λ v d. taken_back v (form_within t i v d))) in
        normal_of_instance th c.by_ (applied s u) fits (normal_same th u (applied c.by_ (applied s u)) (same_sym same) (form_normal th can.cancel t))

    form_same_row : (t : Term) → Contains terms t → Same (applied s (normalized th t)) (normalized th (applied s t))
    form_same_row t i =
        let fits : FitsSorts th.sig.sorts (variables t) s = λ v d. sound.below_sort v (own v (member_variable terms t v i d)) in
        let one = form_of_instance th s t can.cancel can.pairs can.convergent fits (under_sorted th vs terms can sorted own w sound t i) in
        let two = normal_form_is th can.cancel (applied s (normalized th t)) (instance_normal t i) in
        subst (Same (applied s (normalized th t))) (sym two ∙ one) (canonical_same (applied s (normalized th t)))

    whole_same : SameAll (map (applied s) start) w
    whole_same =
        let values : SameAll (map (applied s) (map Var vs)) (take (length vs) w) = subst (SameAll (map (applied s) (map Var vs))) sound.values (same_all_itself (map (applied s) (map Var vs))) in
        let forms : SameAll (map (applied s) (map (normalized th) terms)) (drop (length vs) w) =
        subst (λ ts. SameAll ts (drop (length vs) w)) (sym (map_map (normalized th) (applied s) terms))
        (subst (SameAll (map (λ t. applied s (normalized th t)) terms)) (sym sound.forms)
        (same_all_from (λ t. applied s (normalized th t)) (λ t. normalized th (applied s t)) terms form_same_row)) in
        subst (λ ts. SameAll ts w) (sym (map-append (applied s) (map Var vs) (map (normalized th) terms)))
        (subst (SameAll (map (applied s) (map Var vs) ++ map (applied s) (map (normalized th) terms))) (take-append-drop (length vs) w) (same_all_append values forms))

    pub first_covers : Covers th.sig.sorts start w
    first_covers = record { by_ = s; sorts = λ v d. sound.below_sort v (start_variables v d); equal = whole_same }
