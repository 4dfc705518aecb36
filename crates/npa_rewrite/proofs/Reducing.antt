-- The normal form that is made from the leaves up is the term where steps at the first innermost
-- place end.
use Rattle.std.proofs.Common.{◌≡◌, ℕ, zero, suc, ◌<◌, true, List, [], ◌∷◌, map, Option, Some, None, refl, sym, ◌∙◌, ap, subst, arith}
use Rattle.std.specs.Prelude.{unwrap_or}
use Rattle.std.specs.List.{AllZip}
use Rattle.std.specs.Option.{option_map, option_or}
use Rattle.npa_term.specs.declared.term.Op.{Op}
use Rattle.npa_term.specs.declared.term.Term.{Term, Var, Name, App}
use Rattle.npa_term.specs.Agreeing.{Agrees}
use Rattle.npa_term.specs.Canonical.{canonical, ordered}
use Rattle.npa_term.specs.Same.{swapped}
use Rattle.npa_term.specs.Symbols.{symbol_count, all_count}
use Rattle.npa_term.proofs.AgreeingLaws.{agrees_app, agrees_arguments, agrees_canonical, same_canonical}
use Rattle.npa_term.proofs.CanonicalLaws.{by_order, canonical-canonical}
use Rattle.npa_term.proofs.Induction.{Each, by_terms}
use Rattle.npa_term.proofs.Parts.{part_agrees}
use Rattle.npa_term.proofs.Rows.{canonical_app}
use Rattle.npa_term.proofs.SameCases.{app_injective}
use Rattle.npa_rewrite.specs.declared.theory.Theory.{Theory}
use Rattle.npa_rewrite.specs.Innermost.{at_root, innermost, reduced, rooted, normalized, Reductions, none, more}
use Rattle.npa_rewrite.specs.Rewriting.{AllCancel, IsNormal}
use Rattle.npa_rewrite.specs.Stepping.{IsOutcome, IsRootOutcome, outcome_of}
use Rattle.npa_rewrite.proofs.Existence.{innermost_told, root_told}
use Rattle.npa_rewrite.proofs.Forms.{ordered_each}
use Rattle.npa_rewrite.proofs.Kept.{smaller}
use Rattle.npa_rewrite.proofs.Normalized.{normalized_app, normalized_form}
use Rattle.npa_rewrite.proofs.Parts.{root_part}
use Rattle.npa_rewrite.proofs.Walk.{innermost_all, innermost_at}

abbrev root : Theory → Term → Option Term
root th t = at_root th.sig.sorts th.equations t

abbrev walk : Theory → Term → Option Term
walk th t = innermost (root th) t

-- where the steps from a term end
record Ends (th : Theory) (t u : Term) : Type 0 where
  settled : canonical t ≡ t
  path : Reductions th t u
  last : reduced th u ≡ None

abbrev AllEnd : Theory → List Term → List Term → Type 0
AllEnd th ts us = AllZip (Ends th) ts us

stays : (th : Theory) {t u : Term} → Reductions th t u → reduced th t ≡ None → t ≡ u
stays th (none t) e = refl
stays th (more t u v step rest) e = cc

next : (th : Theory) {t u : Term} → Reductions th t u → reduced th u ≡ None → (v : Term) → reduced th t ≡ Some v → Reductions th v u
next th (none t) last v e = cc
next th (more t u w step rest) last v e = let same : u ≡ v = cc in subst (λ x. Reductions th x w) same rest

-- a step on a canonical term
reduced_is : (th : Theory) (t : Term) (o : Option Term) → canonical t ≡ t → walk th t ≡ o → reduced th t ≡ option_map canonical o
reduced_is th t o settled e = ap (λ u. option_map canonical (walk th u)) settled ∙ ap (option_map canonical) e

normal_stays : (th : Theory) (t : Term) (o : Option Term) → IsNormal th t → IsOutcome th t (outcome_of t o) → o ≡ None
normal_stays th t None normal step = refl
normal_stays th t (Some u) normal step = absurd (normal (canonical u) step)

normal_last : (th : Theory) (t : Term) → canonical t ≡ t → IsNormal th t → reduced th t ≡ None
normal_last th t settled normal =
    reduced_is th t None settled (normal_stays th t (walk th t) normal (innermost_told th t))

settled_all : (th : Theory) (ts us : List Term) → AllEnd th ts us → map canonical ts ≡ ts
settled_all th [] [] ends = refl
settled_all th [] (u ∷ us) ends = absurd ends
settled_all th (t ∷ ts) [] ends = absurd ends
settled_all th (t ∷ ts) (u ∷ us) ends =
    ap (λ v. v ∷ map canonical ts) ends.0.settled ∙ ap (λ vs. t ∷ vs) (settled_all th ts us ends.1)

-- what a step of the arguments leaves, and what none tells
abbrev Stepped : Theory → List Term → List Term → Option (List Term) → Type 0
Stepped th ts us None = ts ≡ us
Stepped th ts us (Some vs) = AllEnd th (map canonical vs) us × (all_count (map canonical vs) < all_count ts)

smaller_next : (th : Theory) → AllCancel th → (t v : Term) → walk th t ≡ Some v → symbol_count (canonical v) < symbol_count t
smaller_next th cancel t v e = smaller th t (canonical v) cancel (subst (λ o. IsOutcome th t (outcome_of t o)) e (innermost_told th t))

stepped_more : (th : Theory) → AllCancel th → (t u : Term) (ts us : List Term) (o : Option Term) (p : Option (List Term)) → walk th t ≡ o → Ends th t u → AllEnd th ts us → Stepped th ts us p →
    Stepped th (t ∷ ts) (u ∷ us) (option_or (option_map (λ v. v ∷ ts) o) (option_map (λ vs. t ∷ vs) p))
stepped_more th cancel t u ts us (Some v) p e end ends rest =
    let less = smaller_next th cancel t v e in
    let settled = settled_all th ts us ends in
    let step : Ends th (canonical v) u = record {
      settled = canonical-canonical v;
      path = next th end.path end.last (canonical v) (reduced_is th t (Some v) end.settled e);
      last = end.last;
    } in
    let size : all_count (map canonical ts) ≡ all_count ts = ap all_count settled in
    ((step, subst (λ vs. AllEnd th vs us) (sym settled) ends), omega (arith, less, size))
stepped_more th cancel t u ts us None (Some vs) e end ends rest =
    let less = rest.1 in
    let size : symbol_count (canonical t) ≡ symbol_count t = ap symbol_count end.settled in
    ((subst (λ v. Ends th v u) (sym end.settled) end, rest.0), omega (arith, less, size))
stepped_more th cancel t u ts us None None e end ends rest =
    ap (λ v. v ∷ ts) (stays th end.path (reduced_is th t None end.settled e)) ∙ ap (λ vs. u ∷ vs) rest

stepped : (th : Theory) → AllCancel th → (ts us : List Term) → AllEnd th ts us → Stepped th ts us (innermost_all (root th) ts)
stepped th cancel [] [] ends = refl
stepped th cancel [] (u ∷ us) ends = absurd ends
stepped th cancel (t ∷ ts) [] ends = absurd ends
stepped th cancel (t ∷ ts) (u ∷ us) ends =
    stepped_more th cancel t u ts us (walk th t) (innermost_all (root th) ts) refl ends.0 ends.1 (stepped th cancel ts us ends.1)

-- normal forms of arguments, with the operators of one declaration
record IsPlain (decl : ℕ → Op) (t : Term) : Type 0 where
  settled : canonical t ≡ t
  agrees : Agrees decl t

crossed_alike : (decl : ℕ → Op) (op : Op) (t u : Term) → op ≡ decl op.num → op.com ≡ true → IsPlain decl t → IsPlain decl u → ordered op (u ∷ t ∷ []) ≡ ordered op (t ∷ u ∷ [])
crossed_alike decl op t u declared swaps a b =
    let forms : canonical (App op (u ∷ t ∷ [])) ≡ canonical (App op (t ∷ u ∷ [])) =
    same_canonical decl (App op (u ∷ t ∷ [])) (App op (t ∷ u ∷ []))
    (agrees_app decl op (u ∷ t ∷ []) declared (b.agrees, (a.agrees, tt))) (agrees_app decl op (t ∷ u ∷ []) declared (a.agrees, (b.agrees, tt))) (swapped op u t swaps) in
    let lists : ordered op (canonical u ∷ canonical t ∷ []) ≡ ordered op (canonical t ∷ canonical u ∷ []) =
    (app_injective op op (ordered op (canonical u ∷ canonical t ∷ [])) (ordered op (canonical t ∷ canonical u ∷ []))
    (sym (canonical_app op (u ∷ t ∷ [])) ∙ forms ∙ canonical_app op (t ∷ u ∷ []))).1 in
    subst (λ x. ordered op (u ∷ x ∷ []) ≡ ordered op (x ∷ u ∷ [])) a.settled
    (subst (λ y. ordered op (y ∷ canonical t ∷ []) ≡ ordered op (canonical t ∷ y ∷ [])) b.settled lists)

-- arguments that were sorted, with where their steps end
record Sorted (th : Theory) (decl : ℕ → Op) (op : Op) (us : List Term) (size : ℕ) (ts : List Term) : Type 0 where
  forms : List Term
  ends : AllEnd th ts forms
  plain : Each (IsPlain decl) forms
  alike : ordered op forms ≡ ordered op us
  count : all_count ts ≡ size

sorted_crossed : (th : Theory) (decl : ℕ → Op) (op : Op) (t u : Term) (us : List Term) → op ≡ decl op.num → op.com ≡ true → AllEnd th (t ∷ u ∷ []) us → Each (IsPlain decl) us →
    Sorted th decl op us (all_count (t ∷ u ∷ [])) (u ∷ t ∷ [])
sorted_crossed th decl op t u [] declared swaps ends plain = absurd ends
sorted_crossed th decl op t u (a ∷ []) declared swaps ends plain = absurd ends.1
sorted_crossed th decl op t u (a ∷ b ∷ c ∷ us) declared swaps ends plain = absurd ends.1.1
sorted_crossed th decl op t u (a ∷ b ∷ []) declared swaps ends plain = record {
  forms = b ∷ a ∷ [];
  ends = (ends.1.0, (ends.0, tt));
  plain = (plain.1.0, (plain.0, tt));
  alike = crossed_alike decl op a b declared swaps plain.0 plain.1.0;
  count = omega arith;
}

sorted : (th : Theory) (decl : ℕ → Op) (op : Op) (ts us : List Term) → op ≡ decl op.num → AllEnd th ts us → Each (IsPlain decl) us → Sorted th decl op us (all_count ts) (ordered op ts)
sorted th decl op ts us declared ends plain =
    by_order (Sorted th decl op us (all_count ts)) op ts (record { forms = us; ends = ends; plain = plain; alike = refl; count = refl })
    (λ t u e swaps above. subst (λ n. Sorted th decl op us n (u ∷ t ∷ [])) (sym (ap all_count e))
    (sorted_crossed th decl op t u us declared swaps (subst (λ xs. AllEnd th xs us) e ends) plain))

-- the last step is that at the root
root_last : (th : Theory) (t : Term) (o : Option Term) → canonical t ≡ t → walk th t ≡ o → IsRootOutcome th t (outcome_of t o) → Reductions th t (unwrap_or o t)
root_last th t None settled e told = none t
root_last th t (Some u) settled e told =
    let form : canonical u ≡ u = ap canonical told.form ∙ canonical-canonical _ ∙ sym told.form in
    more t u u (reduced_is th t (Some u) settled e ∙ ap Some form) (none u)

walk_is : (th : Theory) (op : Op) (ts : List Term) (o : Option (List Term)) → innermost_all (root th) ts ≡ o → walk th (App op ts) ≡ option_or (option_map (λ us. App op us) o) (root th (App op ts))
walk_is th op ts o e =
    innermost_at (root th) (App op ts) op ts refl ∙ ap (λ p. option_or (option_map (λ us. App op us) p) (root th (App op ts))) e

-- from canonical arguments in order, as long as there are enough symbols
reach_next : (th : Theory) (op : Op) (n : ℕ) (ts us : List Term) (o : Option (List Term)) → canonical (App op ts) ≡ App op ts → ordered op ts ≡ ts → all_count ts < suc n →
    innermost_all (root th) ts ≡ o → Stepped th ts us o →
    ((vs : List Term) → all_count vs < n → AllEnd th vs us → Reductions th (App op (ordered op vs)) (rooted th (App op (ordered op us)))) →
    Reductions th (App op ts) (rooted th (App op (ordered op us)))
reach_next th op n ts us None settled inorder small e same rest =
    let whole : App op ts ≡ App op (ordered op us) = ap (App op) (sym inorder ∙ ap (ordered op) same) in
    subst (λ w. Reductions th (App op ts) (rooted th w)) whole
    (root_last th (App op ts) (root th (App op ts)) settled (walk_is th op ts None e) (root_told th (App op ts)))
reach_next th op n ts us (Some vs) settled inorder small e step rest =
    let less = step.1 in
    more (App op ts) (App op (ordered op (map canonical vs))) (rooted th (App op (ordered op us)))
    (reduced_is th (App op ts) (Some (App op vs)) settled (walk_is th op ts (Some vs) e) ∙ ap Some (canonical_app op vs))
    (rest (map canonical vs) (omega (arith, less, small)) step.0)

-- an application of canonical arguments that are sorted is canonical
sorted_settled : (op : Op) (ts : List Term) → map canonical ts ≡ ts → canonical (App op (ordered op ts)) ≡ App op (ordered op ts)
sorted_settled op ts settled =
    let form : canonical (App op ts) ≡ App op (ordered op ts) = canonical_app op ts ∙ ap (λ us. App op (ordered op us)) settled in
    ap canonical (sym form) ∙ canonical-canonical (App op ts) ∙ form

sorted_inorder : (op : Op) (ts : List Term) → canonical (App op ts) ≡ App op ts → map canonical ts ≡ ts → ordered op ts ≡ ts
sorted_inorder op ts form settled =
    (app_injective op op (ordered op ts) ts (sym (canonical_app op ts ∙ ap (λ us. App op (ordered op us)) settled) ∙ form)).1

reach : (th : Theory) → AllCancel th → (decl : ℕ → Op) (op : Op) → op ≡ decl op.num → (n : ℕ) (ts us : List Term) → all_count ts < n → AllEnd th ts us → Each (IsPlain decl) us →
    Reductions th (App op (ordered op ts)) (rooted th (App op (ordered op us)))
reach th cancel decl op declared zero ts us small ends plain = absurd (let never : ⊥ = omega (arith, small) in never)
reach th cancel decl op declared (suc n) ts us small ends plain =
    let s = sorted th decl op ts us declared ends plain in
    let size = s.count in
    let settled = sorted_settled op ts (settled_all th ts us ends) in
    let inorder = sorted_inorder op (ordered op ts) settled (settled_all th (ordered op ts) s.forms s.ends) in
    subst (λ vs. Reductions th (App op (ordered op ts)) (rooted th (App op vs))) s.alike
    (reach_next th op n (ordered op ts) s.forms (innermost_all (root th) (ordered op ts)) settled inorder (omega (arith, small, size)) refl
    (stepped th cancel (ordered op ts) s.forms s.ends)
    (λ vs less more_ends. reach th cancel decl op declared n vs s.forms less more_ends s.plain))

-- what holds of a term and its normal form
record Reached (th : Theory) (decl : ℕ → Op) (t : Term) : Type 0 where
  path : Reductions th (canonical t) (normalized th t)
  agrees : Agrees decl (normalized th t)

root_agrees : (th : Theory) → AllCancel th → (decl : ℕ → Op) (t : Term) (o : Option Term) → Agrees decl t → IsRootOutcome th t (outcome_of t o) → Agrees decl (unwrap_or o t)
root_agrees th cancel decl t None agrees told = agrees
root_agrees th cancel decl t (Some u) agrees told =
    let part = root_part th t u cancel told in
    subst (Agrees decl) (sym part.1) (agrees_canonical decl part.0 (part_agrees decl part.2 agrees))

ends_of : (th : Theory) → AllCancel th → (decl : ℕ → Op) (ts : List Term) → Each (Reached th decl) ts → AllEnd th (map canonical ts) (map (normalized th) ts)
ends_of th cancel decl [] each = tt
ends_of th cancel decl (t ∷ ts) each =
    let form = normalized_form th cancel t in
    (record { settled = canonical-canonical t; path = each.0.path; last = normal_last th (normalized th t) form.settled form.normal }, ends_of th cancel decl ts each.1)

plain_of : (th : Theory) → AllCancel th → (decl : ℕ → Op) (ts : List Term) → Each (Reached th decl) ts → Each (IsPlain decl) (map (normalized th) ts)
plain_of th cancel decl [] each = tt
plain_of th cancel decl (t ∷ ts) each =
    (record { settled = (normalized_form th cancel t).settled; agrees = each.0.agrees }, plain_of th cancel decl ts each.1)

plain_agrees : (decl : ℕ → Op) (ts : List Term) → Each (IsPlain decl) ts → Each (Agrees decl) ts
plain_agrees decl [] each = tt
plain_agrees decl (t ∷ ts) each = (each.0.agrees, plain_agrees decl ts each.1)

reached_all : (th : Theory) (decl : ℕ → Op) (ts : List Term) → Each (λ t. Agrees decl t → Reached th decl t) ts → Each (Agrees decl) ts → Each (Reached th decl) ts
reached_all th decl [] each agrees = tt
reached_all th decl (t ∷ ts) each agrees = (each.0 agrees.0, reached_all th decl ts each.1 agrees.1)

reached_app : (th : Theory) → AllCancel th → (decl : ℕ → Op) (op : Op) (ts : List Term) → op ≡ decl op.num → Each (Reached th decl) ts → Reached th decl (App op ts)
reached_app th cancel decl op ts declared each =
    let forms = map (normalized th) ts in
    let last = App op (ordered op forms) in
    let plain = plain_of th cancel decl ts each in
    let path = reach th cancel decl op declared (suc (all_count (map canonical ts))) (map canonical ts) forms (omega arith) (ends_of th cancel decl ts each) plain in
    let agrees = root_agrees th cancel decl last (root th last) (agrees_app decl op (ordered op forms) declared (ordered_each (Agrees decl) op forms (plain_agrees decl forms plain))) (root_told th last) in
    record {
      path = subst (λ t. Reductions th t (normalized th (App op ts))) (sym (canonical_app op ts)) (subst (Reductions th (App op (ordered op (map canonical ts)))) (sym (normalized_app th op ts)) path);
      agrees = subst (Agrees decl) (sym (normalized_app th op ts)) agrees;
    }

reached : (th : Theory) → AllCancel th → (decl : ℕ → Op) (t : Term) → Agrees decl t → Reached th decl t
reached th cancel decl =
    by_terms (λ t. Agrees decl t → Reached th decl t)
    (λ v a. record { path = none (Var v); agrees = tt }) (λ n a. record { path = none (Name n); agrees = tt })
    (λ op ts each a. reached_app th cancel decl op ts a.0 (reached_all th decl ts each (agrees_arguments decl op ts a)))

-- where all equations cancel, and operators of one number are one, the steps reach the normal form
pub normalized_reduced : (th : Theory) (decl : ℕ → Op) (t : Term) → AllCancel th → Agrees decl t → Reductions th (canonical t) (normalized th t)
normalized_reduced th decl t cancel agrees = (reached th cancel decl t agrees).path

-- the same of what is made
pub made_reduced : (th : Theory) (t u : Term) → AllCancel th → u ≡ normalized th t → (decl : ℕ → Op) → Agrees decl t → Reductions th (canonical t) u
made_reduced th t u cancel value decl agrees = subst (Reductions th (canonical t)) (sym value) (normalized_reduced th decl t cancel agrees)

pub reductions_none : (th : Theory) (t u : Term) → t ≡ u → Reductions th t u
reductions_none th t u e = subst (Reductions th t) e (none t)
