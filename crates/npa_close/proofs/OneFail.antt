-- One check of a protocol and its aims fails first.
use Rattle.std.proofs.Common.{◌≡◌, ℕ, zero, suc, ◌<◌, ◌≤◌, Option, None, Some, List, refl, sym, ap, subst, ◌∙◌, arith}
use Rattle.std.specs.Prelude.{min, ◌^◌, ◌-◌}
use Rattle.npa_term.specs.Symbols.{symbol_count}
use Rattle.npa_sig.specs.Signature.{Signature}
use Rattle.npa_sig.specs.declared.fault.GroundFault.{GroundFault}
use Rattle.npa_sig.specs.declared.fault.GroundFault.TheVariants.{Inhabited, Ground}
use Rattle.npa_sig.specs.declared.protocol.Protocol.{Protocol}
use Rattle.npa_sig.specs.Least.{IsTermOf, IsGroundFault, IsLeastCount, IsSmall, IsEmpty, IsInhabited}
use Rattle.npa_rewrite.specs.Theories.{theory_of}
use Rattle.npa_conv.specs.declared.error.ConvFail.{ConvFail}
use Rattle.npa_conv.specs.Verdict.{conv_of}
use Rattle.npa_accept.specs.declared.accepted.Unaccepted.{Unaccepted}
use Rattle.npa_variants.specs.declared.fault.ReadyFail.{ReadyFail}
use Rattle.npa_model.specs.declared.aim.Aim.{Aim}
use Rattle.npa_close.specs.declared.fail.CheckFail.{CheckFail}
use Rattle.npa_close.specs.declared.fail.CheckFail.TheVariants as fail
use Rattle.npa_close.specs.Checks.{HasAimFault, HasReadyFault, IsFirstFail, ground_fail, aim_fail}
use Rattle.npa_close.proofs.Accepting.{one_aim}
use Rattle.npa_close.proofs.Marks.{one_ready_fault}

-- the member of an option
the_same : {A : Type 0} {x y : A} → Some x ≡ Some y → x ≡ y
the_same e = cc

-- ## One fault of the sorts

module _ (sig : Signature) where
  -- a sort has one least number of symbols
  one_count : (s n m : ℕ) → IsLeastCount (IsTermOf sig s) n → IsLeastCount (IsTermOf sig s) m → n ≡ m
  one_count s n m a b =
      let reached_a : min (symbol_count a.term) (2 ^ 64 - 1) ≡ n = a.count in
      let reached_b : min (symbol_count b.term) (2 ^ 64 - 1) ≡ m = b.count in
      let few_a : n ≤ symbol_count b.term = a.fewest b.term b.reached in
      let few_b : m ≤ symbol_count a.term = b.fewest a.term a.reached in
      grind (arith, reached_a, reached_b, few_a, few_b)

  -- a sort that is small isn't empty
  not_empty : (s : ℕ) → IsEmpty (IsTermOf sig s) → IsSmall sig s → ⊥
  not_empty s empty small = empty small.2.term small.2.reached

  not_inhabited : (s : ℕ) → IsEmpty (IsTermOf sig s) → IsInhabited sig s → ⊥
  not_inhabited s empty there = empty there.0 there.1

  past : (s n : ℕ) → 64 < n → IsLeastCount (IsTermOf sig s) n → IsSmall sig s → ⊥
  past s n l least small = omega (arith, l, small.1, one_count s n small.0 least small.2)

  in_order : (r s : ℕ) → ((r < s) → ⊥) → ((s < r) → ⊥) → r ≡ s
  in_order zero zero a b = refl
  in_order zero (suc s) a b = absurd (a (omega arith))
  in_order (suc r) zero a b = absurd (b (omega arith))
  in_order (suc r) (suc s) a b = ap suc (in_order r s (λ l. a (omega (arith, l))) (λ l. b (omega (arith, l))))

  pub one_fault : (a b : Option GroundFault) → IsGroundFault sig a → IsGroundFault sig b → b ≡ a
  one_fault None None f g = refl
  one_fault None (Some (Inhabited s)) f g = absurd (not_empty s g.1 (f s g.0))
  one_fault None (Some (Ground s n)) f g = absurd (past s n g.1 g.2 (f s g.0))
  one_fault (Some (Inhabited s)) None f g = absurd (not_empty s f.1 (g s f.0))
  one_fault (Some (Inhabited s)) (Some (Inhabited r)) f g =
      ap (λ (x : ℕ). Some (Inhabited x)) (in_order r s (λ l. not_inhabited r g.1 (f.2 r l)) (λ l. not_inhabited s f.1 (g.2 s l)))
  one_fault (Some (Inhabited s)) (Some (Ground r n)) f g = absurd (not_inhabited s f.1 (g.4 s f.0))
  one_fault (Some (Ground s n)) None f g = absurd (past s n f.1 f.2 (g s f.0))
  one_fault (Some (Ground s n)) (Some (Inhabited r)) f g = absurd (not_inhabited r g.1 (f.4 r g.0))
  one_fault (Some (Ground s n)) (Some (Ground r m)) f g =
      let same : r ≡ s = in_order r s (λ l. past r m g.1 g.2 (f.3 r l)) (λ l. past s n f.1 f.2 (g.3 s l)) in
      let here : IsLeastCount (IsTermOf sig s) m = subst (λ (x : ℕ). IsLeastCount (IsTermOf sig x) m) same g.2 in
      ap (λ (x : ℕ). Some (Ground x m)) same ∙ ap (λ (y : ℕ). Some (Ground s y)) (one_count s m n here f.2)

-- ## One check

-- what a fault says of each check, where the ones before it hold
abbrev ground_part : Option CheckFail → Option GroundFault
ground_part None = None
ground_part (Some (fail.Inhabited s)) = Some (Inhabited s)
ground_part (Some (fail.Ground s n)) = Some (Ground s n)
ground_part (Some (fail.Conv f)) = None
ground_part (Some (fail.Ready f)) = None
ground_part (Some (fail.AimForm k t e)) = None
ground_part (Some fail.NoMemory) = None

abbrev conv_part : Option CheckFail → Option ConvFail
conv_part None = None
conv_part (Some (fail.Inhabited s)) = None
conv_part (Some (fail.Ground s n)) = None
conv_part (Some (fail.Conv f)) = Some f
conv_part (Some (fail.Ready f)) = None
conv_part (Some (fail.AimForm k t e)) = None
conv_part (Some fail.NoMemory) = None

abbrev ready_part : Option CheckFail → Option ReadyFail
ready_part None = None
ready_part (Some (fail.Inhabited s)) = None
ready_part (Some (fail.Ground s n)) = None
ready_part (Some (fail.Conv f)) = None
ready_part (Some (fail.Ready f)) = Some f
ready_part (Some (fail.AimForm k t e)) = None
ready_part (Some fail.NoMemory) = None

abbrev aim_part : Option CheckFail → Option (ℕ × Unaccepted)
aim_part None = None
aim_part (Some (fail.Inhabited s)) = None
aim_part (Some (fail.Ground s n)) = None
aim_part (Some (fail.Conv f)) = None
aim_part (Some (fail.Ready f)) = None
aim_part (Some (fail.AimForm k t e)) = Some (k, record { term = t; equation = e })
aim_part (Some fail.NoMemory) = None

-- the fault again, from what it says of each check
abbrev rebuilt : Option GroundFault → Option ConvFail → Option ReadyFail → Option (ℕ × Unaccepted) → Option CheckFail
rebuilt (Some g) c r a = Some (ground_fail g)
rebuilt None (Some c) r a = Some (fail.Conv c)
rebuilt None None (Some r) a = Some (fail.Ready r)
rebuilt None None None (Some a) = Some (aim_fail a)
rebuilt None None None None = None

module _ (protocol : Protocol) (aims : List Aim) where
  by_parts : (f : Option CheckFail) → IsFirstFail protocol aims f → rebuilt (ground_part f) (conv_part f) (ready_part f) (aim_part f) ≡ f
  by_parts None is = refl
  by_parts (Some (fail.Inhabited s)) is = refl
  by_parts (Some (fail.Ground s n)) is = refl
  by_parts (Some (fail.Conv f)) is = refl
  by_parts (Some (fail.Ready f)) is = refl
  by_parts (Some (fail.AimForm k t e)) is = refl
  by_parts (Some fail.NoMemory) is = absurd is

  ground_said : (f : Option CheckFail) → IsFirstFail protocol aims f → IsGroundFault protocol.sig (ground_part f)
  ground_said None is = is.0.0.0
  ground_said (Some (fail.Inhabited s)) is = is
  ground_said (Some (fail.Ground s n)) is = is
  ground_said (Some (fail.Conv f)) is = is.0
  ground_said (Some (fail.Ready f)) is = is.0.0
  ground_said (Some (fail.AimForm k t e)) is = is.0.0.0
  ground_said (Some fail.NoMemory) is = absurd is

  conv_said : (f : Option CheckFail) → IsFirstFail protocol aims f → ground_part f ≡ None → conv_of (theory_of protocol) ≡ conv_part f
  conv_said None is g = is.0.0.1
  conv_said (Some (fail.Inhabited s)) is g = absurd (cc)
  conv_said (Some (fail.Ground s n)) is g = absurd (cc)
  conv_said (Some (fail.Conv f)) is g = is.1
  conv_said (Some (fail.Ready f)) is g = is.0.1
  conv_said (Some (fail.AimForm k t e)) is g = is.0.0.1
  conv_said (Some fail.NoMemory) is g = absurd is

  ready_said : (f : Option CheckFail) → IsFirstFail protocol aims f → ground_part f ≡ None → conv_part f ≡ None → HasReadyFault protocol (ready_part f)
  ready_said None is g c = is.0.1
  ready_said (Some (fail.Inhabited s)) is g c = absurd (cc)
  ready_said (Some (fail.Ground s n)) is g c = absurd (cc)
  ready_said (Some (fail.Conv f)) is g c = absurd (cc)
  ready_said (Some (fail.Ready f)) is g c = is.1
  ready_said (Some (fail.AimForm k t e)) is g c = is.0.1
  ready_said (Some fail.NoMemory) is g c = absurd is

  aim_said : (f : Option CheckFail) → IsFirstFail protocol aims f → ground_part f ≡ None → conv_part f ≡ None → ready_part f ≡ None → HasAimFault (theory_of protocol) aims (aim_part f)
  aim_said None is g c r = is.1
  aim_said (Some (fail.Inhabited s)) is g c r = absurd (cc)
  aim_said (Some (fail.Ground s n)) is g c r = absurd (cc)
  aim_said (Some (fail.Conv f)) is g c r = absurd (cc)
  aim_said (Some (fail.Ready f)) is g c r = absurd (cc)
  aim_said (Some (fail.AimForm k t e)) is g c r = is.1
  aim_said (Some fail.NoMemory) is g c r = absurd is

  -- one check fails first
  pub one_first : (a b : Option CheckFail) → IsFirstFail protocol aims a → IsFirstFail protocol aims b → b ≡ a
  one_first a b f g =
      sym (by_parts b g)
      ∙ at_ground (ground_part a) (ground_part b) refl refl (one_fault protocol.sig (ground_part a) (ground_part b) (ground_said a f) (ground_said b g))
      ∙ by_parts a f
    where
      at_aim : ground_part a ≡ None → ground_part b ≡ None → conv_part a ≡ None → conv_part b ≡ None → (x y : Option ReadyFail) → ready_part a ≡ x → ready_part b ≡ y → y ≡ x →
          rebuilt None None y (aim_part b) ≡ rebuilt None None x (aim_part a)
      at_aim ga gb ca cb (Some x) None xs ys same = absurd (cc)
      at_aim ga gb ca cb None (Some y) xs ys same = absurd (cc)
      at_aim ga gb ca cb (Some x) (Some y) xs ys same = ap (λ (z : Option ReadyFail). rebuilt None None z (aim_part b)) same
      at_aim ga gb ca cb None None xs ys same =
          ap (rebuilt None None None) (one_aim (theory_of protocol) aims (aim_part a) (aim_part b) (aim_said a f ga ca xs) (aim_said b g gb cb ys))

      at_conv : ground_part a ≡ None → ground_part b ≡ None → (x y : Option ConvFail) → conv_part a ≡ x → conv_part b ≡ y → y ≡ x →
          rebuilt None y (ready_part b) (aim_part b) ≡ rebuilt None x (ready_part a) (aim_part a)
      at_conv ga gb (Some x) None xs ys same = absurd (cc)
      at_conv ga gb None (Some y) xs ys same = absurd (cc)
      at_conv ga gb (Some x) (Some y) xs ys same = ap (λ (z : Option ConvFail). rebuilt None z (ready_part b) (aim_part b)) same
      at_conv ga gb None None xs ys same =
          at_aim ga gb xs ys (ready_part a) (ready_part b) refl refl (one_ready_fault protocol (ready_part b) (ready_part a) (ready_said b g gb ys) (ready_said a f ga xs))

      at_ground : (x y : Option GroundFault) → ground_part a ≡ x → ground_part b ≡ y → y ≡ x →
          rebuilt y (conv_part b) (ready_part b) (aim_part b) ≡ rebuilt x (conv_part a) (ready_part a) (aim_part a)
      at_ground (Some x) None xs ys same = absurd (cc)
      at_ground None (Some y) xs ys same = absurd (cc)
      at_ground (Some x) (Some y) xs ys same = ap (λ (z : Option GroundFault). rebuilt z (conv_part b) (ready_part b) (aim_part b)) same
      at_ground None None xs ys same =
          at_conv xs ys (conv_part a) (conv_part b) refl refl (sym (conv_said b g ys) ∙ conv_said a f xs)
