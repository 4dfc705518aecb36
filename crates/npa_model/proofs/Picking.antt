-- Instances that suit strands are picked, all different, exactly where they serve the strands.
use Rattle.std.proofs.Common.{◌≡◌, ℕ, zero, suc, ◌+◌, ◌<◌, ◌≤◌, ◌↔◌, ⊎_elim, Bool, true, false, cond, List, [], ◌∷◌, ◌++◌, Some, map, length, take, drop, get_or, slice_get, Contains, append-nil, refl, ap, sym, ◌∙◌, subst, arith}
use Rattle.std.specs.Prelude.{IsTrue}
use Rattle.std.specs.List.{AllZip}
use Rattle.std.proofs.lemmas.Bool.{cases_lt}
use Rattle.std.proofs.lemmas.List.{take_more, drop_all}
use Rattle.std.proofs.lemmas.List.Elements.{Contains-append_left, Contains-append_right, Contains-append_cases, Contains-push_cases}
use Rattle.std.proofs.lemmas.Option.{same_Some, slice_get-get_or}
use Rattle.std.proofs.Math.Seq.{drop-cons}
use Rattle.npa_rewrite.proofs.InstanceParts.{here, behind, member_cases}
use Rattle.npa_term.specs.declared.term.Term.{Term}
use Rattle.npa_term.specs.Canonical.{canonical}
use Rattle.npa_sig.specs.Values.{under}
use Rattle.npa_sig.specs.declared.protocol.Event.{Event}
use Rattle.npa_sig.specs.declared.protocol.Strand.{Strand}
use Rattle.npa_model.specs.declared.run.Instance.{Instance}
use Rattle.npa_model.specs.declared.pattern.PStrand.{PStrand}
use Rattle.npa_model.specs.declared.pattern.Pattern.{Pattern}
use Rattle.npa_model.specs.declared.pattern.Standing.{Standing}
use Rattle.npa_model.specs.Encounters.{CanPick, done, next, HasCounted, IsSuited, AreSuited, AreAllSuited, AreFactsMet, IsMet}
use Rattle.npa_model.specs.Meeting.{Stands, Suits, Serves, AreServed, MeetsGround}
use Rattle.npa_model.specs.Runs.{events_of}
use Rattle.npa_model.specs.State.{State, done_of}
use Rattle.npa_model.proofs.Places.{member_at}
use Rattle.npa_model.proofs.Serving.{served_none, served_more, served_less}

-- ## Picking

-- a row in front of the others
row_at : (rows : List (List ℕ)) (k : ℕ) (row : List ℕ) → k < length rows → row ≡ get_or rows k row → drop k rows ≡ row ∷ drop (k + 1) rows
row_at rows k row l e =
    let more : suc k ≡ k + 1 = omega arith in
    drop-cons rows k row l ∙ ap (λ (x : List ℕ). x ∷ drop (suc k) rows) (sym e) ∙ ap (λ m. row ∷ drop m rows) more

pub picks_none : (rows : List (List ℕ)) (k : ℕ) (used : List ℕ) → k ≡ length rows → CanPick (drop k rows) used
picks_none rows k used e = subst (λ (rs : List (List ℕ)). CanPick rs used) (sym (drop_all k rows (omega (arith, e)))) (done used)

pub picks_one : (rows : List (List ℕ)) (k : ℕ) (row used : List ℕ) (n : ℕ) → k < length rows → row ≡ get_or rows k row → Contains row n → (Contains used n → ⊥) → CanPick (drop (k + 1) rows) (used ++ n ∷ []) → CanPick (drop k rows) used
picks_one rows k row used n l e c free rest = subst (λ (rs : List (List ℕ)). CanPick rs used) (sym (row_at rows k row l e)) (next row (drop (k + 1) rows) used n c free rest)

pub number_at : (items : List ℕ) (i : ℕ) → i < length items → Contains items (get_or items i 0)
number_at items i l = member_at items i (get_or items i 0) (slice_get-get_or items i 0 l)

-- of the number at a place of a row
pub picks_here : (rows : List (List ℕ)) (k : ℕ) (row items used seen now more : List ℕ) (i : ℕ) → k < length rows → row ≡ get_or rows k row → items ≡ row → i < length items →
    seen ≡ used → (Contains seen (get_or items i 0) → ⊥) → now ≡ used → more ≡ now ++ get_or items i 0 ∷ [] → CanPick (drop (k + 1) rows) more → CanPick (drop k rows) used
picks_here rows k row items used seen now more i l e f within s free g m can =
    picks_one rows k row used (get_or items i 0) l e (subst (λ (xs : List ℕ). Contains xs (get_or items i 0)) f (number_at items i within))
    (λ u. free (subst (λ (xs : List ℕ). Contains xs (get_or items i 0)) (sym s) u))
    (subst (λ (xs : List ℕ). CanPick (drop (k + 1) rows) xs) (m ∙ ap (λ (xs : List ℕ). xs ++ get_or items i 0 ∷ []) g) can)

-- a number that can't be picked
abbrev pub Hopeless : List (List ℕ) → List ℕ → ℕ → Type 0
Hopeless rows used m = (Contains used m → ⊥) → CanPick rows (used ++ m ∷ []) → ⊥

pub hopeless_more : (rows : List (List ℕ)) (items used : List ℕ) (i : ℕ) → i < length items → Hopeless rows used (get_or items i 0) → ((m : ℕ) → Contains (take i items) m → Hopeless rows used m) → (m : ℕ) → Contains (take (i + 1) items) m → Hopeless rows used m
hopeless_more rows items used i l none each m c = ⊎_elim
    (each m)
    (λ (s : get_or items i 0 ≡ m). subst (λ (x : ℕ). Hopeless rows used x) s none)
    (Contains-push_cases (take i items) (get_or items i 0) m (subst (λ (xs : List ℕ). Contains xs m) (take_more items i 0 l) c))

pub used_hopeless : (rows : List (List ℕ)) (used seen : List ℕ) (m : ℕ) → seen ≡ used → Contains seen m → Hopeless rows used m
used_hopeless rows used seen m e c free can = free (subst (λ (xs : List ℕ). Contains xs m) e c)

pub rest_hopeless : (rows : List (List ℕ)) (used now more : List ℕ) (m : ℕ) → now ≡ used → more ≡ now ++ m ∷ [] → (CanPick rows more → ⊥) → Hopeless rows used m
rest_hopeless rows used now more m g e none free can = none (subst (λ (xs : List ℕ). CanPick rows xs) (sym (e ∙ ap (λ (xs : List ℕ). xs ++ m ∷ []) g)) can)

head_of : {row : List ℕ} {rows : List (List ℕ)} {all : List (List ℕ)} {used : List ℕ} → CanPick all used → all ≡ row ∷ rows → ((n : ℕ) → Contains row n → (Contains used n → ⊥) → CanPick rows (used ++ n ∷ []) → ⊥) → ⊥
head_of (done used) e none = cc
head_of {row} {rows} (next first others used n c free rest) e none =
    let heads : first ≡ row = cc in
    let tails : others ≡ rows = cc in
    none n (subst (λ (x : List ℕ). Contains x n) heads c) free (subst (λ (x : List (List ℕ)). CanPick x (used ++ n ∷ [])) tails rest)

pub picks_fail : (rows : List (List ℕ)) (k : ℕ) (row used : List ℕ) → k < length rows → row ≡ get_or rows k row → ((n : ℕ) → Contains row n → (Contains used n → ⊥) → CanPick (drop (k + 1) rows) (used ++ n ∷ []) → ⊥) → CanPick (drop k rows) used → ⊥
picks_fail rows k row used l e none can = head_of can (row_at rows k row l e) none

-- ## Rows

pub zip_push : {X Y : Type 0} (R : X → Y → Type 0) (xs : List X) (ys : List Y) (x : X) (y : Y) → AllZip R xs ys → R x y → AllZip R (xs ++ x ∷ []) (ys ++ y ∷ [])
zip_push R [] [] x y z r = (r, tt)
zip_push R [] (w ∷ ys) x y z r = absurd z
zip_push R (v ∷ xs) [] x y z r = absurd z
zip_push R (v ∷ xs) (w ∷ ys) x y z r = (z.0, zip_push R xs ys x y z.1 r)

pub zip_more : {X Y : Type 0} (R : X → Y → Type 0) (xs : List X) (ys : List Y) (i : ℕ) (x : X) (y : Y) → i < length xs → x ≡ get_or xs i x → AllZip R (take i xs) ys → R x y → AllZip R (take (i + 1) xs) (ys ++ y ∷ [])
zip_more {X = X} R xs ys i x y l e z r =
    subst (λ (zs : List X). AllZip R zs (ys ++ y ∷ [])) (sym (take_more xs i x l)) (zip_push R (take i xs) ys (get_or xs i x) y z (subst (λ (v : X). R v y) e r))

-- the numbers that pass a test, one more
pub row_more : (S : ℕ → Type 0) (row more : List ℕ) (n : ℕ) (b : Bool) → ((m : ℕ) → Contains row m ↔ ((m < n) × S m)) → IsTrue b ↔ S n → more ≡ row ++ cond b (n ∷ []) [] → (m : ℕ) → Contains more m ↔ ((m < n + 1) × S m)
row_more S row more n b each test e m = (
  λ c. forth b test (subst (λ (xs : List ℕ). Contains xs m) e c),
  λ p. subst (λ (xs : List ℕ). Contains xs m) (sym e) (back b test p.0 p.1),
)
  where
    old : Contains row m → (m < n + 1) × S m
    old c = let p = (each m).0 c in (omega (arith, p.0), p.1)

    forth : (b : Bool) → IsTrue b ↔ S n → Contains (row ++ cond b (n ∷ []) []) m → (m < n + 1) × S m
    forth true t c = ⊎_elim old (λ (s : n ≡ m). (omega (arith, s), subst S s (t.0 refl))) (Contains-push_cases row n m c)
    forth false t c = old (subst (λ (xs : List ℕ). Contains xs m) (append-nil row) c)

    here_it : (b : Bool) → IsTrue b ↔ S n → n ≡ m → S m → Contains (row ++ cond b (n ∷ []) []) m
    here_it true t s p = Contains-append_right row (n ∷ []) m (0, omega arith, s)
    here_it false t s p = let no : false ≡ true = t.1 (subst S (sym s) p) in cc

    back : (b : Bool) → IsTrue b ↔ S n → m < n + 1 → S m → Contains (row ++ cond b (n ∷ []) []) m
    back b t l p = ⊎_elim
        (λ (s : m < n). Contains-append_left row (cond b (n ∷ []) []) m ((each m).1 (s, p)))
        (λ (s : n ≤ m). here_it b t (omega (arith, l, s)) p)
        (cases_lt m n)

-- ## Suiting

module _ (nf : Term → Term) (strands : List Strand) (standing : Standing) where
  -- the tests of an instance one after another
  pub suits_exactly : (instance : Instance) (executed : ℕ) (p : PStrand) (events : List Event) (b : Bool) → instance.strand ≡ p.strand → Stands standing executed p.bar → map canonical instance.args ≡ map canonical p.args →
      events ≡ take p.bar (events_of strands instance) → IsTrue b ↔ (map (λ event. nf (under instance.args event.msg)) events ≡ map canonical p.msgs) → IsTrue b ↔ Suits nf strands standing instance executed p
  suits_exactly instance executed p events b strand counted values is test = (
    λ t. record {
      same_strand = strand;
      counted = counted;
      same_values = values;
      same_messages = ap (map (λ event. nf (under instance.args event.msg))) (sym is) ∙ test.0 t;
    },
    λ s. test.1 (ap (map (λ event. nf (under instance.args event.msg))) is ∙ s.same_messages),
  )

  -- the tests of an instance, by its number
  pub suited_exactly : (instances : List Instance) (state : State) (instance : Instance) (executed n : ℕ) (p : PStrand) (b : Bool) → slice_get instances n ≡ Some instance → executed ≡ done_of state n → IsTrue b ↔ Suits nf strands standing instance executed p → IsTrue b ↔ IsSuited nf strands instances standing state p n
  suited_exactly instances state instance executed n p b there counted test = (
    λ t. record { instance = instance; there = there; suits = subst (λ (k : ℕ). Suits nf strands standing instance k p) counted (test.0 t) },
    λ s. test.1 (subst (λ (x : Instance). Suits nf strands standing x executed p) (same_Some s.instance instance (sym s.there ∙ there)) (subst (λ (k : ℕ). Suits nf strands standing s.instance k p) (sym counted) s.suits)),
  )

-- ## Facts

pub facts_exactly : (sent : List Term) (g : Pattern) (ks us : List Term) (b : Bool) → ks ≡ g.known → us ≡ g.unknown → ((t : Term) → Contains ks t → Contains sent (canonical t)) →
    IsTrue b ↔ ((t : Term) → Contains us t → Contains sent (canonical t) → ⊥) → IsTrue b ↔ AreFactsMet sent g
facts_exactly sent g ks us b e f known test = (
  λ t. record {
    known = λ x c. known x (subst (λ (ts : List Term). Contains ts x) (sym e) c);
    unknown = λ x c. test.0 t x (subst (λ (ts : List Term). Contains ts x) (sym f) c);
  },
  λ facts. test.1 (λ x c. facts.unknown x (subst (λ (ts : List Term). Contains ts x) f c)),
)

pub facts_fail : (sent : List Term) (g : Pattern) (ks : List Term) → ks ≡ g.known → (((t : Term) → Contains ks t → Contains sent (canonical t)) → ⊥) → AreFactsMet sent g → ⊥
facts_fail sent g ks e none facts = none (λ x c. facts.known x (subst (λ (ts : List Term). Contains ts x) e c))

-- ## Serving

module _ (nf : Term → Term) (strands : List Strand) (instances : List Instance) (schedule : List ℕ) (standing : Standing) (state : State) (counted : HasCounted state schedule) where
  to_serve : (p : PStrand) (n : ℕ) → IsSuited nf strands instances standing state p n → Serves nf strands instances schedule standing n p
  to_serve p n s = record { instance = s.instance; there = s.there; suits = subst (λ (k : ℕ). Suits nf strands standing s.instance k p) (counted n) s.suits }

  of_serve : (p : PStrand) (n : ℕ) → Serves nf strands instances schedule standing n p → IsSuited nf strands instances standing state p n
  of_serve p n s = record { instance = s.instance; there = s.there; suits = subst (λ (k : ℕ). Suits nf strands standing s.instance k p) (sym (counted n)) s.suits }

  -- instances that serve the strands, none of them used
  record Chosen (ps : List PStrand) (used : List ℕ) : Type 0 where
    chosen : List ℕ
    served : AreServed nf strands instances schedule standing ps chosen
    free : (n : ℕ) → Contains chosen n → Contains used n → ⊥

  picked : {rows : List (List ℕ)} {used : List ℕ} → CanPick rows used → (ps : List PStrand) → AreAllSuited nf strands instances standing state ps rows → Chosen ps used
  picked (done used) [] z = record { chosen = []; served = served_none nf strands instances schedule standing; free = λ n c. absurd (omega (arith, c.1)) }
  picked (done used) (p ∷ ps) z = absurd z
  picked (next row rows used n c free rest) [] z = absurd z
  picked (next row rows used n c free rest) (p ∷ ps) z =
      let others = picked rest ps z.1 in
      record {
        chosen = n ∷ others.chosen;
        served = served_more nf strands instances schedule standing p ps n others.chosen (to_serve p n ((z.0.each n).0 c))
            (λ d. others.free n d (Contains-append_right used (n ∷ []) n (here n []))) others.served;
        free = λ m d u. ⊎_elim
            (λ (s : n ≡ m). free (subst (λ (x : ℕ). Contains used x) (sym s) u))
            (λ (d : Contains others.chosen m). others.free m d (Contains-append_left used (n ∷ []) m u))
            (member_cases n m others.chosen d);
      }

  picking : (ps : List PStrand) (rows : List (List ℕ)) (used chosen : List ℕ) → AreAllSuited nf strands instances standing state ps rows → AreServed nf strands instances schedule standing ps chosen → ((n : ℕ) → Contains chosen n → Contains used n → ⊥) → CanPick rows used
  picking [] [] used chosen z a free = done used
  picking [] (row ∷ rows) used chosen z a free = absurd z
  picking (p ∷ ps) [] used chosen z a free = absurd z
  picking (p ∷ ps) (row ∷ rows) used [] z a free = absurd (omega (arith, a.as_many))
  picking (p ∷ ps) (row ∷ rows) used (n ∷ chosen) z a free =
      let less = served_less nf strands instances schedule standing p ps n chosen a in
      next row rows used n ((z.0.each n).1 (of_serve p n less.0)) (free n (here n chosen))
      (picking ps rows (used ++ n ∷ []) chosen z.1 less.2 (λ m c u. ⊎_elim
      (free m (behind n m chosen c))
      (λ (s : n ≡ m). less.1 (subst (λ (x : ℕ). Contains chosen x) (sym s) c))
      (Contains-push_cases used n m u)))

  module _ (sent : List Term) (g : Pattern) where
    -- the test tells whether the run meets the pattern
    pub met_exactly : (rows : List (List ℕ)) (met : Bool) → AreAllSuited nf strands instances standing state g.strands rows → AreFactsMet sent g → IsTrue met ↔ CanPick rows [] → IsTrue met ↔ IsMet nf strands instances schedule standing sent g
    met_exactly rows met z facts test = (
      λ t. let found = picked (test.0 t) g.strands z in (found.chosen, record { served = found.served; known = facts.known; unknown = facts.unknown }),
      λ m. test.1 (picking g.strands rows [] m.0 z m.1.served (λ n c u. omega (arith, u.1))),
    )

    -- the same of lists that are those
    pub met_told : (ps : List PStrand) (rows rs : List (List ℕ)) (none : List ℕ) (met : Bool) → ps ≡ g.strands → AreAllSuited nf strands instances standing state ps rows → rs ≡ rows → none ≡ [] → AreFactsMet sent g → IsTrue met ↔ CanPick rs none → IsTrue met ↔ IsMet nf strands instances schedule standing sent g
    met_told ps rows rs none met e z f n facts test =
        met_exactly rows met (subst (λ (xs : List PStrand). AreAllSuited nf strands instances standing state xs rows) e z) facts
        (subst (λ (xs : List (List ℕ)). IsTrue met ↔ CanPick xs []) f (subst (λ (u : List ℕ). IsTrue met ↔ CanPick rs u) n test))

    pub met_facts : IsMet nf strands instances schedule standing sent g → AreFactsMet sent g
    met_facts m = record { known = m.1.known; unknown = m.1.unknown }
