-- Steps of the loops over operators and over their arguments.
use Rattle.std.proofs.Common.{◌≡◌, ℕ, ◌+◌, ◌<◌, ◌≤◌, ◌-◌, ◌^◌, min, true, false, List, [], ◌∷◌, ◌++◌, Option, None, Some, map, take, drop, length, get_or, drop-cons, add-one, cond, refl, sym, ◌∙◌, ap, subst, arith}
use Rattle.std.specs.Prelude.{Contains, IfSome, nat_le}
use Rattle.std.specs.Option.{option_and_then}
use Rattle.std.proofs.lemmas.Bool.{leb-true, leb-false}
use Rattle.std.proofs.lemmas.List.{take_more, map-append}
use Rattle.std.proofs.lemmas.List.Elements.{All-push, All-weaker, Contains-append_left, Contains-push}
use Rattle.npa_sig.specs.declared.signature.OpDecl.{OpDecl}
use Rattle.npa_sig.specs.declared.least.Offer.{Offer}
use Rattle.npa_sig.specs.Sizes.{summed, offered, better, IsCheapest}

pub summed_step : (sizes : List (Option ℕ)) (args : List ℕ) (n i d : ℕ) → i < length args →
    summed sizes n (drop i args) ≡ option_and_then (λ m. summed sizes (min (n + m) (2 ^ 64 - 1)) (drop (i + 1) args)) (get_or sizes (get_or args i d) None)
summed_step sizes args n i d p = rw (drop-cons args i d, add-one) refl

-- an offer that is among those of more operators
module _ (sizes : List (Option ℕ)) (ops : List OpDecl) (decl : OpDecl) where
  old_offer : (b : Option Offer) → Contains (map (offered sizes) ops) b → Contains (map (offered sizes) (ops ++ decl ∷ [])) b
  old_offer b has = subst (λ os. Contains os b) (sym (map-append (offered sizes) ops (decl ∷ []))) (Contains-append_left (map (offered sizes) ops) (offered sizes decl ∷ []) b has)

  new_offer : (b : Option Offer) → offered sizes decl ≡ b → Contains (map (offered sizes) (ops ++ decl ∷ [])) b
  new_offer b is = subst (λ os. Contains os b) (sym (map-append (offered sizes) ops (decl ∷ []))) (subst (Contains (map (offered sizes) ops ++ offered sizes decl ∷ [])) is (Contains-push (map (offered sizes) ops) (offered sizes decl)))

  abbrev NotLess : Offer → OpDecl → Type 0
  NotLess b d = IfSome (offered sizes d) (λ other. b.size ≤ other.size)

  none_less : (b : Offer) (d : OpDecl) → offered sizes d ≡ None → NotLess b d
  none_less b d none = subst (λ o. IfSome o (λ other. b.size ≤ other.size)) (sym none) tt

  some_less : (b x : Offer) (d : OpDecl) → offered sizes d ≡ Some x → b.size ≤ x.size → NotLess b d
  some_less b x d some le = subst (λ o. IfSome o (λ other. b.size ≤ other.size)) (sym some) le

  less_less : (b x : Offer) (d : OpDecl) → x.size ≤ b.size → NotLess b d → NotLess x d
  less_less b x d le = from (offered sizes d)
    where
      from : (o : Option Offer) → IfSome o (λ other. b.size ≤ other.size) → IfSome o (λ other. x.size ≤ other.size)
      from None h = tt
      from (Some other) h = omega (arith, h, le)

  cheapest_push : (best o : Option Offer) → offered sizes decl ≡ o → IsCheapest sizes ops best → IsCheapest sizes (ops ++ decl ∷ []) (better best o)
  cheapest_push None None e old = All-push (λ d. offered sizes d ≡ None) ops decl old e
  cheapest_push None (Some x) e old =
      (new_offer (Some x) e, All-push (NotLess x) ops decl (All-weaker (λ d. offered sizes d ≡ None) (NotLess x) (none_less x) ops old) (some_less x x decl e (omega arith)))
  cheapest_push (Some b) None e old = (old_offer (Some b) old.0, All-push (NotLess b) ops decl old.1 (none_less b decl e))
  cheapest_push (Some b) (Some x) e old =
      elim (nat_le b.size x.size) as (λ t. nat_le b.size x.size ≡ t → IsCheapest sizes (ops ++ decl ∷ []) (cond t (Some b) (Some x))) [
        | true ↦ λ le. (old_offer (Some b) old.0, All-push (NotLess b) ops decl old.1 (some_less b x decl e (leb-true b.size x.size le)))
        | false ↦ λ gt.
            let less : x.size ≤ b.size = omega (arith, leb-false b.size x.size gt) in
            (new_offer (Some x) e, All-push (NotLess x) ops decl (All-weaker (NotLess b) (NotLess x) (λ d. less_less b x d less) ops old.1) (some_less x x decl e (omega arith)))
      ] refl

pub cheapest_more : (sizes : List (Option ℕ)) (ops : List OpDecl) (best : Option Offer) (i : ℕ) (decl : OpDecl) → i < length ops → decl ≡ get_or ops i decl → IsCheapest sizes (take i ops) best →
    IsCheapest sizes (take (i + 1) ops) (better best (offered sizes decl))
cheapest_more sizes ops best i decl small is before =
    subst (λ ds. IsCheapest sizes ds (better best (offered sizes decl))) (ap (λ d. take i ops ++ d ∷ []) is ∙ sym (take_more ops i decl small))
    (cheapest_push sizes (take i ops) decl best (offered sizes decl) refl before)
