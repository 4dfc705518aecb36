-- The first fault of members, one after another.
use Rattle.std.proofs.Common.{◌≡◌, ℕ, suc, ◌+◌, ◌<◌, List, [], ◌∷◌, length, drop, get_or, drop-cons, add-one, Option, None, Some, refl, sym, ◌∙◌, ap, subst}
use Rattle.std.specs.Prelude.{Result, Ok, Err}
use Rattle.std.specs.Option.{option_or}
use Rattle.npa_conv.specs.declared.error.ConvFail.{ConvFail}
use Rattle.npa_conv.specs.declared.error.ConvFail.TheVariants.{Shape, SortUp, Pair, Unifiers, Symbols, NoMemory}
use Rattle.npa_conv.specs.Verdict.{Tells, first_at, first_fault}

-- an error that tells the first of two faults tells the first one that there is
pub tells_first : (e : ConvFail) (f g : Option ConvFail) → Tells (Err e) f → Tells (Err e) (option_or f g)
tells_first (Shape at) f g t = ap (λ x. option_or x g) t
tells_first (SortUp at) f g t = ap (λ x. option_or x g) t
tells_first (Pair from left right) f g t = ap (λ x. option_or x g) t
tells_first (Unifiers m n) f g t = ap (λ x. option_or x g) t
tells_first (Symbols count) f g t = ap (λ x. option_or x g) t
tells_first NoMemory f g t = t

pub tells_second : (r : Result (Unit {0}) ConvFail) (f g : Option ConvFail) → f ≡ None → Tells r g → Tells r (option_or f g)
tells_second r f g none t = subst (λ x. Tells r (option_or x g)) (sym none) t

at_drop : {A : Type 0} (fault : ℕ → A → Option ConvFail) (items : List A) (at : ℕ) (x : A) → at < length items → x ≡ get_or items at x →
    first_at fault at (drop at items) ≡ option_or (fault at x) (first_at fault (at + 1) (drop (at + 1) items))
at_drop fault items at x small is =
    rw (drop-cons items at x, add-one) (ap (λ y. option_or (fault at y) (first_at fault (suc at) (drop (suc at) items))) (sym is))

-- a member without a fault
pub at_passed : {A : Type 0} (fault : ℕ → A → Option ConvFail) (items : List A) (at : ℕ) (x : A) → at < length items → x ≡ get_or items at x →
    fault at x ≡ None → first_at fault (at + 1) (drop (at + 1) items) ≡ first_at fault at (drop at items)
at_passed fault items at x small is none =
    sym (at_drop fault items at x small is ∙ ap (λ f. option_or f (first_at fault (at + 1) (drop (at + 1) items))) none)

-- a member with one
pub at_fault : {A : Type 0} (fault : ℕ → A → Option ConvFail) (items : List A) (at : ℕ) (x : A) (e : ConvFail) → at < length items → x ≡ get_or items at x →
    Tells (Err e) (fault at x) → Tells (Err e) (first_at fault at (drop at items))
at_fault fault items at x e small is t =
    subst (Tells (Err e)) (sym (at_drop fault items at x small is)) (tells_first e (fault at x) (first_at fault (at + 1) (drop (at + 1) items)) t)

fault_drop : {A : Type 0} (fault : A → Option ConvFail) (items : List A) (at : ℕ) (x : A) → at < length items → x ≡ get_or items at x →
    first_fault fault (drop at items) ≡ option_or (fault x) (first_fault fault (drop (at + 1) items))
fault_drop fault items at x small is =
    rw (drop-cons items at x, add-one) (ap (λ y. option_or (fault y) (first_fault fault (drop (suc at) items))) (sym is))

pub fault_passed : {A : Type 0} (fault : A → Option ConvFail) (items : List A) (at : ℕ) (x : A) → at < length items → x ≡ get_or items at x →
    fault x ≡ None → first_fault fault (drop (at + 1) items) ≡ first_fault fault (drop at items)
fault_passed fault items at x small is none =
    sym (fault_drop fault items at x small is ∙ ap (λ f. option_or f (first_fault fault (drop (at + 1) items))) none)

pub fault_fault : {A : Type 0} (fault : A → Option ConvFail) (items : List A) (at : ℕ) (x : A) (e : ConvFail) → at < length items → x ≡ get_or items at x →
    Tells (Err e) (fault x) → Tells (Err e) (first_fault fault (drop at items))
fault_fault fault items at x e small is t =
    subst (Tells (Err e)) (sym (fault_drop fault items at x small is)) (tells_first e (fault x) (first_fault fault (drop (at + 1) items)) t)

-- a fault that is handed on
pub handed : (r : Result (Unit {0}) ConvFail) (x e : ConvFail) (f : Option ConvFail) → r ≡ Err x → x ≡ e → Tells (Err e) f → Tells r f
handed r x e f is same t = subst (λ q. Tells q f) (sym (is ∙ ap Err same)) t

-- the same of all members, from the fault of one
pub at_handed : {A : Type 0} (fault : ℕ → A → Option ConvFail) (items : List A) (at : ℕ) (x : A) (r : Result (Unit {0}) ConvFail) (d e : ConvFail) (f : Option ConvFail) →
    at < length items → x ≡ get_or items at x → first_at fault at (drop at items) ≡ f → r ≡ Err d → d ≡ e → Tells (Err e) (fault at x) → Tells r f
at_handed fault items at x r d e f small is all one two t =
    handed r d e f one two (subst (Tells (Err e)) all (at_fault fault items at x e small is t))

pub fault_handed : {A : Type 0} (fault : A → Option ConvFail) (items : List A) (at : ℕ) (x : A) (r : Result (Unit {0}) ConvFail) (d e : ConvFail) (f : Option ConvFail) →
    at < length items → x ≡ get_or items at x → first_fault fault (drop at items) ≡ f → r ≡ Err d → d ≡ e → Tells (Err e) (fault x) → Tells r f
fault_handed fault items at x r d e f small is all one two t =
    handed r d e f one two (subst (Tells (Err e)) all (fault_fault fault items at x e small is t))
