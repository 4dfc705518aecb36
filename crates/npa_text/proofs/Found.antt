-- An entry at its place, and the list after a change there.
use Rattle.std.proofs.Common.{◌≡◌, ℕ, suc, zero, ◌+◌, ◌<◌, ◌≤◌, true, false, cond, Some, None, List, [], ◌∷◌, length, get_or, set, refl, ap, ◌∙◌, arith}
use Rattle.std.specs.Str.{bytes_eq}
use Rattle.npa_text.specs.declared.memory.MemEntry.{MemEntry}
use Rattle.npa_text.specs.Entries.{place_from, changed, with_fault, with_long}
use Rattle.npa_text.specs.Counts.{one_more}

-- the place is past the ones before the list, and within it
place_bounds : (es : List MemEntry) (name : List ℕ) (i at : ℕ) → place_from i es name ≡ Some at → (i ≤ at) × (at < i + length es)
place_bounds [] name i at e = absurd (cc)
place_bounds (x ∷ es) name i at e =
    elim (bytes_eq x.name name) as (λ v. cond v (Some i) (place_from (i + 1) es name) ≡ Some at → (i ≤ at) × (at < i + suc (length es))) [
      | true ↦ λ f. let g : i ≡ at = cc in (omega arith, omega arith)
      | false ↦ λ f. let b = place_bounds es name (i + 1) at f in (omega arith, omega arith)
    ] e

pub place_within : (es : List MemEntry) (name : List ℕ) (at : ℕ) → place_from 0 es name ≡ Some at → at < length es
place_within es name at e = let b = place_bounds es name 0 at e in omega arith

set_changed : (f : MemEntry → MemEntry) (es : List MemEntry) (name : List ℕ) (i at k : ℕ) (d : MemEntry)
    → at ≡ i + k → place_from i es name ≡ Some at → set es k (f (get_or es k d)) ≡ changed f es name
set_changed f [] name i at k d p e = absurd (cc)
set_changed f (x ∷ es) name i at zero d p e =
    elim (bytes_eq x.name name) as (λ v. cond v (Some i) (place_from (i + 1) es name) ≡ Some at → f x ∷ es ≡ cond v (f x ∷ es) (x ∷ changed f es name)) [
      | true ↦ λ g. refl
      | false ↦ λ g. let b = place_bounds es name (i + 1) at g in absurd (omega arith)
    ] e
set_changed f (x ∷ es) name i at (suc k) d p e =
    elim (bytes_eq x.name name) as (λ v. cond v (Some i) (place_from (i + 1) es name) ≡ Some at → x ∷ set es k (f (get_or es k d)) ≡ cond v (f x ∷ es) (x ∷ changed f es name)) [
      | true ↦ λ g. let h : i ≡ at = cc in absurd (omega arith)
      | false ↦ λ g. let q : at ≡ i + 1 + k = omega arith in ap (λ ys. x ∷ ys) (set_changed f es name (i + 1) at k d q g)
    ] e

pub changed_at : (f : MemEntry → MemEntry) (es : List MemEntry) (name : List ℕ) (at : ℕ) (d : MemEntry)
    → place_from 0 es name ≡ Some at → set es at (f (get_or es at d)) ≡ changed f es name
changed_at f es name at d e = let p : at ≡ 0 + at = omega arith in set_changed f es name 0 at at d p e

unchanged : (f : MemEntry → MemEntry) (es : List MemEntry) (name : List ℕ) (i : ℕ) → place_from i es name ≡ None → changed f es name ≡ es
unchanged f [] name i e = refl
unchanged f (x ∷ es) name i e =
    elim (bytes_eq x.name name) as (λ v. cond v (Some i) (place_from (i + 1) es name) ≡ None → cond v (f x ∷ es) (x ∷ changed f es name) ≡ x ∷ es) [
      | true ↦ λ g. absurd (cc)
      | false ↦ λ g. ap (λ ys. x ∷ ys) (unchanged f es name (i + 1) g)
    ] e

pub changed_nowhere : (f : MemEntry → MemEntry) (es : List MemEntry) (name : List ℕ) → place_from 0 es name ≡ None → changed f es name ≡ es
changed_nowhere f es name e = unchanged f es name 0 e

pub fault_added : (es : List MemEntry) (name : List ℕ) (at n : ℕ) (x : MemEntry)
    → place_from 0 es name ≡ Some at → x ≡ get_or es at x → n ≡ one_more x.faults
    → set es at (record { name = x.name; bytes = x.bytes; faults = n; longs = x.longs }) ≡ changed with_fault es name
fault_added es name at n x p r e =
    ap (λ (m : ℕ). set es at (record { name = x.name; bytes = x.bytes; faults = m; longs = x.longs })) e
    ∙ ap (λ y. set es at (with_fault y)) r ∙ changed_at with_fault es name at x p

pub long_added : (es : List MemEntry) (name : List ℕ) (at n : ℕ) (x : MemEntry)
    → place_from 0 es name ≡ Some at → x ≡ get_or es at x → n ≡ one_more x.longs
    → set es at (record { name = x.name; bytes = x.bytes; faults = x.faults; longs = n }) ≡ changed with_long es name
long_added es name at n x p r e =
    ap (λ (m : ℕ). set es at (record { name = x.name; bytes = x.bytes; faults = x.faults; longs = m })) e
    ∙ ap (λ y. set es at (with_long y)) r ∙ changed_at with_long es name at x p
