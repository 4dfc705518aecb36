-- A history begins with the events that placed the roots.
use Rattle.std.proofs.Common.{◌≡◌, ℕ, suc, ◌+◌, ◌≤◌, Result, Ok, Err, OnOk, OnErr, cond, List, [], ◌∷◌, ◌++◌, length, refl, ap, sym, ◌∙◌, subst, arith, length-append, append-nil, append_assoc}
use Rattle.std.proofs.lemmas.List.Sums.{sum_by-cons, sum_by-append}
use Rattle.fold_core.specs.declared.event.Placed.{Placed}
use Rattle.fold_core.specs.declared.event.Event.{Event}
use Rattle.fold_core.specs.declared.event.Event.TheVariants.{Root}
use Rattle.fold_core.specs.Rules.{Rules}
use Rattle.fold_core.specs.Machine.{Core, Stands, NextRoot, is_root, roots_placed, Step, root, take, insert, finish, halt, reset, After, begin, more}
use Rattle.fold_core.proofs.Places.{stands_within}
use Rattle.fold_core.proofs.Histories.{roots_more}
use Rattle.fold_store.specs.declared.answer.Taken.{Taken}
use Rattle.fold_store.specs.declared.answer.Taken.TheVariants.{Got, Nothing, Spent, Stopped}
use Rattle.fold_store.specs.Store.{State, Next, Takes, Inserts, nothing, one_more, Finishes, root_events, RootsAlone, Opens, PlacesRoot, Opened}

roots_in : (n : ℕ) (ps : List Placed) → roots_placed (root_events n ps) ≡ length ps
roots_in n [] = refl
roots_in n (p ∷ ps) =
    let now = sum_by-cons (λ (e : Event). cond (is_root e) 1 0) (Root n p) (root_events (n + 1) ps) in
    let rest = roots_in (n + 1) ps in
    omega arith

events_in : (n : ℕ) (ps : List Placed) → length (root_events n ps) ≡ length ps
events_in n [] = refl
events_in n (p ∷ ps) = ap suc (events_in (n + 1) ps)

events_more : (n m : ℕ) (ps : List Placed) (p : Placed) → m ≡ n + length ps → root_events n (ps ++ p ∷ []) ≡ root_events n ps ++ Root m p ∷ []
events_more n m [] p at = let e : n ≡ m = omega arith in ap (λ k. Root k p ∷ []) e
events_more n m (q ∷ ps) p at = ap (λ es. Root n q ∷ es) (events_more (n + 1) m ps p (omega arith))

pub next_root : {I : Type 0} {roots : List I} {number : ℕ} {history : List Event} {x : I} → RootsAlone number history → Stands roots number x → NextRoot roots history number x
next_root {history = history} a s =
    let placed = ap roots_placed a.events ∙ roots_in 0 a.places in
    let many = ap length a.events ∙ events_in 0 a.places in
    record {
      next = sym a.number ∙ sym placed;
      only_roots = placed ∙ sym many;
      root = s;
    }

pub alone_start : RootsAlone 0 []
alone_start = record { places = []; number = refl; events = refl }

pub alone_next : (number next : ℕ) (p : Placed) (history : List Event) → RootsAlone number history → next ≡ number + 1 → RootsAlone next (history ++ Root number p ∷ [])
alone_next number next p history a is = record {
  places = a.places ++ p ∷ [];
  number = (let h = length-append a.places (p ∷ []) in let q = a.number in omega arith);
  events = ap (λ h. h ++ Root number p ∷ []) a.events ∙ sym (events_more 0 number a.places p (let q = a.number in omega arith));
}

-- How far the roots are placed.
pub record Opening {F I : Type 0} (began now : State F I) (number : ℕ) : Type 0 where
  pub same : now ≡ record began { history = now.history; core = now.core }
  pub alone : RootsAlone number now.history

pub opening_start : {F I : Type 0} (s t : State F I) → s ≡ t → t.history ≡ [] → Opening t s 0
opening_start s t is none = subst (λ w. Opening t w 0) (sym is) (record { same = refl; alone = subst (RootsAlone 0) (sym none) alone_start })

pub opening_next : {F I : Type 0} {r : Rules I} {began now next : State F I} {number : ℕ} (later : ℕ) → Opening began now number → PlacesRoot r number now next → later ≡ number + 1 → Opening began next later
opening_next {began = began} {now = now} {next = next} {number = number} later o p is =
    let event = Root number p.placed in
    let events : next.history ≡ now.history ++ event ∷ [] = ap (λ (v : State _ _). v.history) p.next.same in
    record {
      same = p.next.same ∙ ap (λ (v : State _ _). record v { history = now.history ++ event ∷ []; core = next.core }) o.same ∙ ap (λ h. record began { history = h; core = next.core }) (sym events);
      alone = subst (RootsAlone later) (sym events) (alone_next number later p.placed now.history o.alone is);
    }

pub opening_end : {F I : Type 0} {began now : State F I} {number : ℕ} (rules : F) (roots : List I) (budget : ℕ) → Opening began now number → began.rules ≡ rules → began.roots ≡ roots → began.budget ≡ budget
    → number ≡ length roots → Opened rules roots budget now
opening_end {now = now} rules roots budget o p q s at = record {
  rules_are = ap (λ (v : State _ _). v.rules) o.same ∙ p;
  roots_are = ap (λ (v : State _ _). v.roots) o.same ∙ q;
  budget_is = ap (λ (v : State _ _). v.budget) o.same ∙ s;
  alone = subst (λ k. RootsAlone k now.history) at o.alone;
}

pub opens_opened : {F I : Type 0} {rules : F} {roots : List I} {budget : ℕ} {s : State F I} → Opened rules roots budget s → Opens s.roots s.history
opens_opened {roots = roots} {s = s} o = subst (λ w. Opens w s.history) (sym o.roots_are)
    (record { begins = s.history; rest = []; alone = o.alone; is = sym (append-nil s.history) })

opens_more : {I : Type 0} {roots : List I} {history : List Event} (e : Event) → Opens roots history → Opens roots (history ++ e ∷ [])
opens_more e o = record { begins = o.begins; rest = o.rest ++ e ∷ []; alone = o.alone; is = ap (λ h. h ++ e ∷ []) o.is ∙ append_assoc o.begins o.rest (e ∷ []) }

pub opens_next : {F I : Type 0} {r : Rules I} {s t : State F I} {e : Event} → Next r s e t → Opens s.roots s.history → Opens t.roots t.history
opens_next {s = s} {t = t} {e = e} n o =
    subst (λ (v : State _ _). Opens v.roots v.history) (sym n.same) (opens_more e o)

pub opens_same : {F I : Type 0} {s t : State F I} → t ≡ s → Opens s.roots s.history → Opens t.roots t.history
opens_same is o = subst (λ (v : State _ _). Opens v.roots v.history) (sym is) o

pub opens_takes : {F I : Type 0} (r : Rules I) (s : State F I) (a : Taken) (t : State F I) → Takes r s a t → Opens s.roots s.history → Opens t.roots t.history
opens_takes r s (Got n) t did o = opens_next did o
opens_takes r s Nothing t did o = opens_same did.0 o
opens_takes r s Spent t did o = opens_same did.0 o
opens_takes r s Stopped t did o = opens_same did.0 o

pub opens_inserts : {F I : Type 0} {rules : F → Rules I} {n : ℕ} {s t : State F I} → Inserts rules n s t → Opens s.roots s.history → Opens t.roots t.history
opens_inserts nothing o = o
opens_inserts (one_more t u child p before step) o = opens_next step (opens_inserts before o)

-- No more roots are placed than there are.
bound_step : {I : Type 0} {r : Rules I} {roots : List I} {budget : ℕ} {before : List Event} {c d : Core I} {event : Event} → Step r roots budget before c event d
    → roots_placed before ≤ length roots → roots_placed before + cond (is_root event) 1 0 ≤ length roots
bound_step (root number p x next is) h = let w = stands_within next.root in let q = next.next in omega arith
bound_step (take n e may) h = omega arith
bound_step (insert parent child p children x e s is) h = omega arith
bound_step (finish n ps children d e x s t) h = omega arith
bound_step (halt n why free x) h = omega arith
bound_step reset h = omega arith

roots_bound : {I : Type 0} {r : Rules I} {roots : List I} {budget : ℕ} {history : List Event} {c : Core I} → After r roots budget history c → roots_placed history ≤ length roots
roots_bound begin = omega arith
roots_bound (more before c event d a step) = let h = bound_step step (roots_bound a) in let count = roots_more before event in omega arith

pub roots_all : {I : Type 0} {r : Rules I} {roots : List I} {budget : ℕ} {history : List Event} {c : Core I} → After r roots budget history c → Opens roots history → roots_placed history ≡ length roots
roots_all {roots = roots} {history = history} a o =
    let bound = roots_bound a in
    let begins = ap roots_placed o.alone.events ∙ roots_in 0 o.alone.places in
    let number = o.alone.number in
    let both = sum_by-append (λ (e : Event). cond (is_root e) 1 0) o.begins o.rest in
    let whole : roots_placed history ≡ roots_placed (o.begins ++ o.rest) = ap roots_placed o.is in
    omega arith

pub opens_finish : {F I X E : Type 0} (r : Rules I) (rules : F → Rules I) (n : ℕ) (children : List I) (hints : List ℕ) (s t : State F I) (result : Result X E) → OnOk result (Finishes r n children hints s t) → OnErr result (Inserts rules n s t)
    → Opens s.roots s.history → Opens t.roots t.history
opens_finish r rules n children hints s t (Ok x) done kept o = opens_next done.next o
opens_finish r rules n children hints s t (Err e) done kept o = opens_inserts kept o
