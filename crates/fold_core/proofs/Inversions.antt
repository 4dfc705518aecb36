-- What a step by each kind of event says.
use Rattle.std.proofs.Common.{◌≡◌, ℕ, ◌+◌, List, ◌∷◌, length, map, set, None, Some, refl, subst}
use Rattle.fold_core.specs.declared.error.Large.{Large}
use Rattle.fold_core.specs.declared.event.Placed.{Placed}
use Rattle.fold_core.specs.declared.event.Origin.TheVariants.{Root as FromRoot, Child}
use Rattle.fold_core.specs.declared.event.Status.TheVariants.{Taken}
use Rattle.fold_core.specs.declared.event.Event.{Event}
use Rattle.fold_core.specs.declared.event.Event.TheVariants.{Root, Take, Insert, Finish, Halt, Reset}
use Rattle.fold_core.specs.Rules.{Rules}
use Rattle.fold_core.specs.Machine.{Entry, Core, Stands, placed, place_of, Accepts, Settles, settled, settles, Expanding, Overflowing, NextRoot, MayTake, let_go, put_back_entry, Step, root, take, insert, finish, halt, reset}

pub record RootStep {I : Type 0} (r : Rules I) (roots : List I) (before : List Event) (c : Core I) (number : ℕ) (p : Placed) (d : Core I) : Type 0 where
  pub item : I
  pub next : NextRoot roots before number item
  pub place : p ≡ place_of r item c
  pub after : d ≡ placed r (length before) item (FromRoot number) p c

pub record TakeStep {I : Type 0} (budget : ℕ) (c : Core I) (n : ℕ) (d : Core I) : Type 0 where
  pub entry : Entry I
  pub may : MayTake budget n entry c
  pub after : d ≡ record c { entries = set c.entries n (record entry { status = Taken }) }

pub record InsertStep {I : Type 0} (r : Rules I) (before : List Event) (c : Core I) (parent child : ℕ) (p : Placed) (d : Core I) : Type 0 where
  pub children : List I
  pub item : I
  pub expanding : Expanding r parent children c
  pub stands : Stands children child item
  pub place : p ≡ place_of r item c
  pub after : d ≡ placed r (length before) item (Child parent child) p c

pub record FinishStep {I : Type 0} (r : Rules I) (before : List Event) (c : Core I) (n : ℕ) (ps : List Placed) (d : Core I) : Type 0 where
  pub children : List I
  pub last : Core I
  pub entry : Entry I
  pub expanding : Expanding r n children c
  pub settles : Settles r (length before) n 0 children ps c last
  pub stands : Stands last.entries n entry
  pub after : d ≡ record last { entries = set last.entries n (record entry { status = let_go entry.status }); finished = last.finished + 1 }

pub record HaltStep {I : Type 0} (r : Rules I) (c : Core I) (n : ℕ) (why : Large) (d : Core I) : Type 0 where
  pub free : c.halted ≡ None
  pub overflowing : Overflowing r n why c
  pub after : d ≡ record c { halted = Some why }

-- What the step says of its event.
abbrev pub Says : {I : Type 0} → Rules I → List I → ℕ → List Event → Core I → Event → Core I → Type 0
Says r roots budget before c (Root number p) d = RootStep r roots before c number p d
Says r roots budget before c (Take n) d = TakeStep budget c n d
Says r roots budget before c (Insert parent child p) d = InsertStep r before c parent child p d
Says r roots budget before c (Finish n ps) d = FinishStep r before c n ps d
Says r roots budget before c (Halt n why) d = HaltStep r c n why d
Says r roots budget before c Reset d = d ≡ record c { entries = map put_back_entry c.entries }

pub step_says : {I : Type 0} {r : Rules I} {roots : List I} {budget : ℕ} {before : List Event} {c d : Core I} {event : Event}
    → Step r roots budget before c event d → Says r roots budget before c event d
step_says (root number p x next is) = record { item = x; next = next; place = is; after = refl }
step_says (take n e may) = record { entry = e; may = may; after = refl }
step_says (insert parent child p children x e s is) = record { children = children; item = x; expanding = e; stands = s; place = is; after = refl }
step_says (finish n ps children d e x s t) = record { children = children; last = d; entry = e; expanding = x; settles = s; stands = t; after = refl }
step_says (halt n why free x) = record { free = free; overflowing = x; after = refl }
step_says reset = refl

-- The next child, and the rest.
pub record NextChild {I : Type 0} (r : Rules I) (tick parent k : ℕ) (x : I) (xs : List I) (p : Placed) (ps : List Placed) (c d : Core I) : Type 0 where
  pub accepts : Accepts r x p c
  pub rest : Settles r tick parent (k + 1) xs ps (placed r tick x (Child parent k) p c) d

pub next_of : {I : Type 0} {r : Rules I} {tick parent k : ℕ} {ys : List I} {qs : List Placed} {c d : Core I} → Settles r tick parent k ys qs c d
    → (x : I) (xs : List I) (p : Placed) (ps : List Placed) → ys ≡ x ∷ xs → qs ≡ p ∷ ps → NextChild r tick parent k x xs p ps c d
next_of (settled k c) x xs p ps e f = absurd (cc)
next_of {r = r} {tick = tick} {parent = parent} {d = d} (settles k y ys q qs c d' a rest) x xs p ps e f =
    let item : y ≡ x = cc in
    let items : ys ≡ xs = cc in
    let place : q ≡ p = cc in
    let places : qs ≡ ps = cc in
    subst (λ w. NextChild r tick parent k w xs p ps c d') item
    (subst (λ w. NextChild r tick parent k y w p ps c d') items
    (subst (λ w. NextChild r tick parent k y ys w ps c d') place
    (subst (λ w. NextChild r tick parent k y ys q w c d') places (record { accepts = a; rest = rest }))))
