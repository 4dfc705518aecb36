-- What a read of texts in memory leaves as it was, and which counts it raises.
use Rattle.std.proofs.Common.{◌≡◌, ℕ, ◌+◌, ◌<◌, ◌≤◌, Bool, true, false, cond, Option, Some, None, Result, Ok, Err, List, [], ◌∷◌, refl, ap, ◌∙◌, arith, sym, subst, inl, inr}
use Rattle.std.specs.Prelude.{nat_lt, ◌⊎◌, IsSome}
use Rattle.std.specs.Result.{IsErrOf}
use Rattle.std.specs.Str.{bytes_eq}
use Rattle.std.proofs.lemmas.Bool.Decides.{nat_tests}
use Rattle.npa_text.specs.declared.memory.MemEntry.{MemEntry}
use Rattle.npa_text.specs.declared.memory.MemFiles.{MemFiles}
use Rattle.npa_text.specs.declared.outside.ReadFail.{ReadFail}
use Rattle.npa_text.specs.declared.outside.ReadFail.TheVariants.{Fault, TooLong, NoMemory}
use Rattle.npa_text.specs.Counts.{one_more, Rose}
use Rattle.npa_text.specs.Entries.{entry_of, changed, with_fault, with_long, text_in, faults_in, longs_in}
use Rattle.npa_text.specs.MemReads.{is_long, is_marked, answer_at, answer_of, counted, after_read, IsRead}

one_more_grows : (n : ℕ) → n ≤ one_more n
one_more_grows n = grind (arith, nat_tests)

one_more_rose : (n : ℕ) → Rose n (one_more n)
one_more_rose n =
    elim (nat_lt n 18446744073709551615) as (λ v. nat_lt n 18446744073709551615 ≡ v → (n < cond v (n + 1) n) ⊎ (18446744073709551615 ≤ cond v (n + 1) n)) [
      | true ↦ λ e. inl (omega arith)
      | false ↦ λ e. let h : 18446744073709551615 ≤ n = grind (arith, nat_tests) in inr h
    ] refl

-- an entry after another: the same text, and no count fell
record LaterEntry (e d : MemEntry) : Type 0 where
  name : d.name ≡ e.name
  bytes : d.bytes ≡ e.bytes
  faults : e.faults ≤ d.faults
  longs : e.longs ≤ d.longs

Later : Option MemEntry → Option MemEntry → Type 0
Later (Some e) (Some d) = LaterEntry e d
Later (Some e) None = ⊥
Later None (Some d) = ⊥
Later None None = Unit {0}

entry_same : (e : MemEntry) → LaterEntry e e
entry_same e = record { name = refl; bytes = refl; faults = omega arith; longs = omega arith }

same_later : (o : Option MemEntry) → Later o o
unfolding Later
same_later (Some e) = entry_same e
same_later None = tt

first_later : (e d : MemEntry) (es : List MemEntry) (n : List ℕ) → LaterEntry e d → Later (entry_of (e ∷ es) n) (entry_of (d ∷ es) n)
unfolding Later
first_later e d es n h =
    subst (λ (m : List ℕ). Later (cond (bytes_eq e.name n) (Some e) (entry_of es n)) (cond (bytes_eq m n) (Some d) (entry_of es n))) (sym h.name)
    (elim (bytes_eq e.name n) as (λ v. Later (cond v (Some e) (entry_of es n)) (cond v (Some d) (entry_of es n))) [
      | true ↦ h
      | false ↦ same_later (entry_of es n)
    ])

changed_later : (f : MemEntry → MemEntry) → ((e : MemEntry) → LaterEntry e (f e)) → (es : List MemEntry) (name n : List ℕ)
    → Later (entry_of es n) (entry_of (changed f es name) n)
unfolding Later
changed_later f h [] name n = tt
changed_later f h (e ∷ es) name n =
    elim (bytes_eq e.name name) as (λ v. Later (cond (bytes_eq e.name n) (Some e) (entry_of es n)) (entry_of (cond v (f e ∷ es) (e ∷ changed f es name)) n)) [
      | true ↦ first_later e (f e) es n (h e)
      | false ↦ elim (bytes_eq e.name n) as (λ v. Later (cond v (Some e) (entry_of es n)) (cond v (Some e) (entry_of (changed f es name) n))) [
        | true ↦ entry_same e
        | false ↦ changed_later f h es name n
      ]
    ]

fault_later : (e : MemEntry) → LaterEntry e (with_fault e)
fault_later e = record { name = refl; bytes = refl; faults = one_more_grows e.faults; longs = omega arith }

long_later : (e : MemEntry) → LaterEntry e (with_long e)
long_later e = record { name = refl; bytes = refl; faults = omega arith; longs = one_more_grows e.longs }

-- the entry of the name itself
changed_here : (f : MemEntry → MemEntry) → ((e : MemEntry) → (f e).name ≡ e.name) → (es : List MemEntry) (name : List ℕ) (e : MemEntry)
    → entry_of es name ≡ Some e → entry_of (changed f es name) name ≡ Some (f e)
changed_here f h [] name e p = absurd (cc)
changed_here f h (x ∷ es) name e p =
    elim (bytes_eq x.name name) as (λ v. bytes_eq x.name name ≡ v → cond v (Some x) (entry_of es name) ≡ Some e
    → entry_of (cond v (f x ∷ es) (x ∷ changed f es name)) name ≡ Some (f e)) [
      | true ↦ λ q r.
          let s : x ≡ e = cc in
          ap (λ v. cond v (Some (f x)) (entry_of es name)) (ap (λ (m : List ℕ). bytes_eq m name) (h x) ∙ q)
          ∙ ap (λ (y : MemEntry). Some (f y)) s
      | false ↦ λ q r. rw q (changed_here f h es name e r)
    ] refl p

-- the clauses, one by one
texts_of_later : (o p : Option MemEntry) → Later o p → text_in p ≡ text_in o
unfolding Later
texts_of_later (Some e) (Some d) h = ap (λ (b : List ℕ). Some b) h.bytes
texts_of_later (Some e) None h = absurd h
texts_of_later None (Some d) h = absurd h
texts_of_later None None h = refl

faults_of_later : (o p : Option MemEntry) (m n : ℕ) → m ≤ n → Later o p → faults_in o m ≤ faults_in p n
unfolding Later
faults_of_later (Some e) (Some d) m n g h = h.faults
faults_of_later (Some e) None m n g h = absurd h
faults_of_later None (Some d) m n g h = absurd h
faults_of_later None None m n g h = g

longs_of_later : (o p : Option MemEntry) → Later o p → longs_in o ≤ longs_in p
unfolding Later
longs_of_later (Some e) (Some d) h = h.longs
longs_of_later (Some e) None h = absurd h
longs_of_later None (Some d) h = absurd h
longs_of_later None None h = omega arith

-- the state after a read
record LaterFiles (s t : MemFiles) : Type 0 where
  entries : (n : List ℕ) → Later (entry_of s.files n) (entry_of t.files n)
  strange : s.strange ≤ t.strange

counted_later : (o : Option MemEntry) (marked : Bool) (s : MemFiles) (name : List ℕ) → LaterFiles s (counted o marked s name)
counted_later None marked s name = record { entries = λ n. same_later (entry_of s.files n); strange = one_more_grows s.strange }
counted_later (Some e) true s name = record { entries = λ n. changed_later with_fault fault_later s.files name n; strange = omega arith }
counted_later (Some e) false s name =
    elim (is_long e) as (λ v. LaterFiles s (cond v (record s { files = changed with_long s.files name }) s)) [
      | true ↦ record { entries = λ n. changed_later with_long long_later s.files name n; strange = omega arith }
      | false ↦ record { entries = λ n. same_later (entry_of s.files n); strange = omega arith }
    ]

read_later : (s t : MemFiles) (name : List ℕ) → t ≡ after_read s name → LaterFiles s t
read_later s t name e =
    let called : MemFiles = record s { calls = one_more s.calls } in
    let l = counted_later (entry_of s.files name) (is_marked s.failing (one_more s.calls)) called name in
    subst (λ (u : MemFiles). LaterFiles s u) (sym e) (record { entries = l.entries; strange = l.strange })

pub texts_stay : (s t : MemFiles) (name n : List ℕ) → t ≡ after_read s name → text_in (entry_of t.files n) ≡ text_in (entry_of s.files n)
texts_stay s t name n e = texts_of_later (entry_of s.files n) (entry_of t.files n) ((read_later s t name e).entries n)

pub faults_stay : (s t : MemFiles) (name n : List ℕ) → t ≡ after_read s name
    → faults_in (entry_of s.files n) s.strange ≤ faults_in (entry_of t.files n) t.strange
faults_stay s t name n e =
    let l = read_later s t name e in
    faults_of_later (entry_of s.files n) (entry_of t.files n) s.strange t.strange l.strange (l.entries n)

pub longs_stay : (s t : MemFiles) (name n : List ℕ) → t ≡ after_read s name → longs_in (entry_of s.files n) ≤ longs_in (entry_of t.files n)
longs_stay s t name n e = longs_of_later (entry_of s.files n) (entry_of t.files n) ((read_later s t name e).entries n)

-- a fault raises the name's count of faults
counted_fault : (o : Option MemEntry) (marked : Bool) (s : MemFiles) (name : List ℕ) → entry_of s.files name ≡ o → answer_at o marked ≡ Err Fault
    → Rose (faults_in o s.strange) (faults_in (entry_of (counted o marked s name).files name) (counted o marked s name).strange)
counted_fault None marked s name e a = rw e (one_more_rose s.strange)
counted_fault (Some x) true s name e a = rw (changed_here with_fault (λ y. refl) s.files name x e) (one_more_rose x.faults)
counted_fault (Some x) false s name e a =
    elim (is_long x) as (λ v. cond v (Err TooLong) (Ok x.bytes) ≡ Err Fault
    → Rose x.faults (faults_in (entry_of (cond v (record s { files = changed with_long s.files name }) s).files name) (cond v (record s { files = changed with_long s.files name }) s).strange)) [
      | true ↦ λ b. absurd (cc)
      | false ↦ λ b. absurd (cc)
    ] a

counted_long : (o : Option MemEntry) (marked : Bool) (s : MemFiles) (name : List ℕ) → entry_of s.files name ≡ o → answer_at o marked ≡ Err TooLong
    → Rose (longs_in o) (longs_in (entry_of (counted o marked s name).files name))
counted_long None marked s name e a = absurd (cc)
counted_long (Some x) true s name e a = absurd (cc)
counted_long (Some x) false s name e a =
    elim (is_long x) as (λ v. cond v (Err TooLong) (Ok x.bytes) ≡ Err TooLong
    → Rose x.longs (longs_in (entry_of (cond v (record s { files = changed with_long s.files name }) s).files name))) [
      | true ↦ λ b. rw (changed_here with_long (λ y. refl) s.files name x e) (one_more_rose x.longs)
      | false ↦ λ b. absurd (cc)
    ] a

read_fault : (r : Result (Unit {0}) ReadFail) (into : List ℕ) (a : Result (List ℕ) ReadFail) → IsRead r into a → IsErrOf r Fault → a ≡ Err Fault
read_fault (Ok u) into a h e = absurd (cc)
read_fault (Err Fault) into a h e = h.1
read_fault (Err TooLong) into a h e = absurd (cc)
read_fault (Err NoMemory) into a h e = absurd (cc)

read_long : (r : Result (Unit {0}) ReadFail) (into : List ℕ) (a : Result (List ℕ) ReadFail) → IsRead r into a → IsErrOf r TooLong → a ≡ Err TooLong
read_long (Ok u) into a h e = absurd (cc)
read_long (Err Fault) into a h e = absurd (cc)
read_long (Err TooLong) into a h e = h.1
read_long (Err NoMemory) into a h e = absurd (cc)

pub fault_rises : (s t : MemFiles) (name : List ℕ) (r : Result (Unit {0}) ReadFail) (into : List ℕ) → t ≡ after_read s name
    → IsRead r into (answer_of s name) → IsErrOf r Fault
    → Rose (faults_in (entry_of s.files name) s.strange) (faults_in (entry_of t.files name) t.strange)
fault_rises s t name r into e h f =
    let called : MemFiles = record s { calls = one_more s.calls } in
    subst (λ (u : MemFiles). Rose (faults_in (entry_of s.files name) s.strange) (faults_in (entry_of u.files name) u.strange)) (sym e)
    (counted_fault (entry_of s.files name) (is_marked s.failing (one_more s.calls)) called name refl (read_fault r into (answer_of s name) h f))

pub long_rises : (s t : MemFiles) (name : List ℕ) (r : Result (Unit {0}) ReadFail) (into : List ℕ) → t ≡ after_read s name
    → IsRead r into (answer_of s name) → IsErrOf r TooLong
    → Rose (longs_in (entry_of s.files name)) (longs_in (entry_of t.files name))
long_rises s t name r into e h f =
    let called : MemFiles = record s { calls = one_more s.calls } in
    subst (λ (u : MemFiles). Rose (longs_in (entry_of s.files name)) (longs_in (entry_of u.files name))) (sym e)
    (counted_long (entry_of s.files name) (is_marked s.failing (one_more s.calls)) called name refl (read_long r into (answer_of s name) h f))

-- a read that isn't marked leaves the faults of every name with an entry
FaultsSame : Option MemEntry → Option MemEntry → Type 0
FaultsSame (Some e) (Some d) = d.faults ≡ e.faults
FaultsSame (Some e) None = ⊥
FaultsSame None o = Unit {0}

long_same : (es : List MemEntry) (name n : List ℕ) → FaultsSame (entry_of es n) (entry_of (changed with_long es name) n)
unfolding FaultsSame
long_same [] name n = tt
long_same (e ∷ es) name n =
    elim (bytes_eq e.name name) as (λ v. FaultsSame (cond (bytes_eq e.name n) (Some e) (entry_of es n)) (entry_of (cond v (with_long e ∷ es) (e ∷ changed with_long es name)) n)) [
      | true ↦ elim (bytes_eq e.name n) as (λ v. FaultsSame (cond v (Some e) (entry_of es n)) (cond v (Some (with_long e)) (entry_of es n))) [
        | true ↦ refl
        | false ↦ faults_same (entry_of es n)
      ]
      | false ↦ elim (bytes_eq e.name n) as (λ v. FaultsSame (cond v (Some e) (entry_of es n)) (cond v (Some e) (entry_of (changed with_long es name) n))) [
        | true ↦ refl
        | false ↦ long_same es name n
      ]
    ]
  where
    faults_same : (o : Option MemEntry) → FaultsSame o o
    faults_same (Some e) = refl
    faults_same None = tt

faults_of_same : (o p : Option MemEntry) (x : ℕ) → FaultsSame o p → IsSome o → faults_in p x ≡ faults_in o x
unfolding FaultsSame
faults_of_same (Some e) (Some d) x h i = h
faults_of_same (Some e) None x h i = absurd h
faults_of_same None p x h i = absurd (cc)

pub long_keeps_faults : (es fs : List MemEntry) (name n : List ℕ) (x : ℕ) → fs ≡ changed with_long es name → IsSome (entry_of es n)
    → faults_in (entry_of fs n) x ≡ faults_in (entry_of es n) x
long_keeps_faults es fs name n x e i =
    faults_of_same (entry_of es n) (entry_of fs n) x
    (subst (λ (us : List MemEntry). FaultsSame (entry_of es n) (entry_of us n)) (sym e) (long_same es name n)) i
