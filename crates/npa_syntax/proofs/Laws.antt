-- What the reader's answers mean for the language of a grammar.
use Rattle.std.proofs.Common.{◌≡◌, ℕ, zero, suc, ◌<◌, ◌≤◌, List, [], ◌∷◌, ◌++◌, length, take, drop, Some, None, refl, sym, ap, ◌∙◌, subst, append_assoc, append-nil, take-append-drop, drop_of_length-le, take_all, Result, Ok, Err, arith, le_of_suc-le-suc, le_refl, length-drop, IfOk, true}
use Rattle.std.proofs.lemmas.List.{append_cancel_right}
use Rattle.npa_syntax.specs.declared.node.Terminal.{Terminal}
use Rattle.npa_syntax.specs.declared.node.Node.{Node}
use Rattle.npa_syntax.specs.declared.fault.ReadFault.{ReadFault}
use Rattle.npa_syntax.specs.declared.fault.ReadFault.TheVariants.{Syntax, NoMemory}
use Rattle.npa_syntax.specs.Grammars.{Piece, Rules, Spells, Begins, GoesOn, StopsAt}
use Rattle.npa_syntax.specs.Tables.{is_decided, is_productive}
use Rattle.npa_syntax.specs.Automata.{fault, Follows, ends, same, Reads, Stuck}
use Rattle.npa_syntax.specs.Languages.{Language, rules_in, start_in, IsText, FaultAt, NoneGoesOn, IsFront}
use Rattle.npa_syntax.specs.Answers.{Answers, PlacesFault, ReadsBetween, StuckAt, ReadsOrStops}
use Rattle.npa_syntax.proofs.Texts.{accepts, stops}
use Rattle.npa_syntax.proofs.Trees.{one_tree}
use Rattle.npa_syntax.proofs.Decides.{Decided, followed, decided}

-- ## Lists

-- the front of a list is what stands before what is left
front_is : (ts front : List Terminal) (at : ℕ) → ts ≡ front ++ drop at ts → front ≡ take at ts
front_is ts front at e = append_cancel_right front (take at ts) (drop at ts) (sym e ∙ sym (take-append-drop at ts))

-- a later place goes on from an earlier one by the terminal that stands there
record Ahead (ts : List Terminal) (e n : ℕ) : Type 0 where
  t : Terminal
  rest : List Terminal
  more : List Terminal
  next : drop e ts ≡ t ∷ rest
  front : take n ts ≡ (take e ts ++ t ∷ []) ++ more

ahead : (ts : List Terminal) (e n : ℕ) → e < n → n ≤ length ts → Ahead ts e n
ahead [] e zero h w = absurd (omega arith)
ahead [] e (suc n) h w = absurd (omega arith)
ahead (t ∷ ts) e zero h w = absurd (omega arith)
ahead (t ∷ ts) zero (suc n) h w = record { t = t; rest = ts; more = take n ts; next = refl; front = refl }
ahead (t ∷ ts) (suc e) (suc n) h w =
    let a = ahead ts e n (le_of_suc-le-suc h) (le_of_suc-le-suc w) in
    record { t = a.t; rest = a.rest; more = a.more; next = a.next; front = ap (λ xs. t ∷ xs) a.front }

-- what is left follows itself
itself : (left : List Terminal) → Follows left left
itself [] = ends []
itself (t ∷ left) = same t left left

-- the automaton goes on from what is left with nothing to come
pub fault_after : (rules : Rules) (ps : List Piece) (ts : List Terminal) (nodes : List Node) (left : List Terminal) → Reads rules ps ts nodes left
    → fault rules ts ps ≡ fault rules left []
fault_after rules ps ts nodes left r =
    ap (λ xs. fault rules xs ps) r.all ∙ ap (λ qs. fault rules (r.taken ++ left) qs) (sym (append-nil ps)) ∙ r.onward left (itself left) []

pub fault_of : (rules : Rules) (ps : List Piece) (ts left : List Terminal) → Stuck rules ps ts left → fault rules ts ps ≡ Some left
fault_of rules ps ts left s =
    ap (λ xs. fault rules xs ps) s.all ∙ ap (λ qs. fault rules (s.front ++ left) qs) (sym (append-nil ps)) ∙ s.stuck left (itself left) []

-- what stands before the fault is no text
pub fault_front : (rules : Rules) (ps : List Piece) (ts left : List Terminal) → (s : Stuck rules ps ts left) → fault rules s.front ps ≡ Some []
fault_front rules ps ts left s =
    ap (λ xs. fault rules xs ps) (sym (append-nil s.front)) ∙ ap (λ qs. fault rules (s.front ++ []) qs) (sym (append-nil ps)) ∙ s.stuck [] (ends left) []

-- ## The automaton's answer and the language

module _ (l : Language) (decides : is_decided l.productions l.start ≡ true) (produces : is_productive l.productions l.nesting l.start ≡ true) where
  laws : Decided l.productions l.nesting l.start
  laws = decided l.productions l.nesting l.start decides produces

  no_fault : (ts : List Terminal) (trees : List Node) → IsText l ts trees → fault (rules_in l) ts (start_in l) ≡ None
  no_fault ts trees d = accepts (followed laws.follow) (λ k. ⊥) laws.rules_closed ts (start_in l) trees (laws.start_apart l.limit) d

  pub trees_same : (ts : List Terminal) (ns ms : List Node) → IsText l ts ns → IsText l ts ms → ns ≡ ms
  trees_same ts ns ms d e = one_tree (rules_in l) (followed laws.follow) (λ k. ⊥) laws.rules_closed (start_in l) ts ns ms (laws.start_apart l.limit) d e

  fault_stops : (ts : List Terminal) (at : ℕ) → fault (rules_in l) ts (start_in l) ≡ Some (drop at ts)
      → StopsAt (rules_in l) (start_in l) (take at ts) (drop at ts)
  fault_stops ts at e =
      let s = stops (rules_in l) (followed laws.follow) (λ k. ⊥) laws.rules_closed laws.rules_sound ts (start_in l) (drop at ts)
      (laws.start_apart l.limit) (laws.start_ready l.limit) e in
      subst (λ xs. StopsAt (rules_in l) (start_in l) xs (drop at ts)) (front_is ts s.front at s.all) s.stops

  -- ## Where texts go on

  -- with a text of `n` terminals, some text goes on from each earlier place
  begins_before : (ts : List Terminal) (e n : ℕ) (a : Ahead ts e n) → Begins (rules_in l) (start_in l) (take n ts)
      → Begins (rules_in l) (start_in l) (take e ts ++ a.t ∷ [])
  begins_before ts e n a b = record {
    more = a.more ++ b.more;
    trees = b.trees;
    spells = subst (λ xs. Spells (rules_in l) (start_in l) xs b.trees) (ap (λ xs. xs ++ b.more) a.front ∙ append_assoc (take e ts ++ a.t ∷ []) a.more b.more) b.spells;
  }

  -- none goes on at `e`, so no text reaches past it
  not_past_front : (ts : List Terminal) (e n : ℕ) → NoneGoesOn l (take e ts) (drop e ts) → Begins (rules_in l) (start_in l) (take n ts)
      → n ≤ length ts → e < n → ⊥
  not_past_front ts e n none b within h =
      let a = ahead ts e n h within in
      let none' = subst (λ xs. NoneGoesOn l (take e ts) xs) a.next none in
      none' (begins_before ts e n a b)

  not_past_fault : (ts : List Terminal) (at n : ℕ) → (GoesOn (rules_in l) (start_in l) (take at ts) (drop at ts) → ⊥) → Begins (rules_in l) (start_in l) (take n ts)
      → n ≤ length ts → at < n → ⊥
  not_past_fault ts at n none b within h =
      let a = ahead ts at n h within in
      let none' = subst (λ xs. GoesOn (rules_in l) (start_in l) (take at ts) xs → ⊥) a.next none in
      none' (begins_before ts at n a b)

  text_begins : (ts : List Terminal) (trees : List Node) → IsText l ts trees → Begins (rules_in l) (start_in l) ts
  text_begins ts trees d = record { more = []; trees = trees; spells = subst (λ xs. Spells (rules_in l) (start_in l) xs trees) (sym (append-nil ts)) d }

  none_left : (ts front left : List Terminal) → fault (rules_in l) ts (start_in l) ≡ fault (rules_in l) left [] → ts ≡ front ++ left → NoneGoesOn l front left
  none_left ts front [] e all = tt
  none_left ts front (t ∷ left) e all =
      let s = stops (rules_in l) (followed laws.follow) (λ k. ⊥) laws.rules_closed laws.rules_sound ts (start_in l) (t ∷ left)
      (laws.start_apart l.limit) (laws.start_ready l.limit) e in
      subst (λ xs. NoneGoesOn l xs (t ∷ left)) (append_cancel_right s.front front (t ∷ left) (sym s.all ∙ all)) s.stops.stuck

  -- ## What was read is the front

  pub front_found : (ts : List Terminal) (nodes : List Node) (end : ℕ) → ReadsBetween (rules_in l) (start_in l) ts 0 nodes end → IsFront l ts nodes end
  front_found ts nodes end r =
      let is : r.reads.taken ≡ take end ts = front_is ts r.reads.taken end r.reads.all in
      record {
        within = r.within;
        text = subst (λ xs. Spells (rules_in l) (start_in l) xs nodes) is r.reads.spells;
        longest = none_left ts (take end ts) (drop end ts) (fault_after (rules_in l) (start_in l) ts nodes (drop end ts) r.reads) (sym (take-append-drop end ts));
      }

  pub fault_found : (ts : List Terminal) (at : ℕ) → StuckAt (rules_in l) (start_in l) ts 0 at → FaultAt l ts at
  fault_found ts at s = record { within = s.within; stops = fault_stops ts at (fault_of (rules_in l) (start_in l) ts (drop at ts) s.stuck) }

  -- ## There is one front

  front_same : (ts : List Terminal) (ns ms : List Node) (e n : ℕ) → IsFront l ts ns e → IsFront l ts ms n → e ≡ n
  front_same ts ns ms e n f g =
      let not_less : e < n → ⊥ = not_past_front ts e n f.longest (text_begins (take n ts) ms g.text) g.within in
      let not_more : n < e → ⊥ = not_past_front ts n e g.longest (text_begins (take e ts) ns f.text) f.within in
      omega (arith, not_less, not_more)

  pub front_one : (ts : List Terminal) (ns ms : List Node) (e n : ℕ) → IsFront l ts ns e → IsFront l ts ms n → ◌≡◌ {A = List Node × ℕ} (ns, e) (ms, n)
  front_one ts ns ms e n f g =
      let same_end = front_same ts ns ms e n f g in
      let text : IsText l (take n ts) ns = subst (λ k. IsText l (take k ts) ns) same_end f.text in
      ap (λ xs. (xs, e)) (trees_same (take n ts) ns ms text g.text) ∙ ap (λ k. (ms, k)) same_end

  pub no_front : (ts : List Terminal) (at : ℕ) (ms : List Node) (n : ℕ) → StuckAt (rules_in l) (start_in l) ts 0 at → IsFront l ts ms n → ⊥
  no_front ts at ms n s g =
      let f = fault_found ts at s in
      let not_less : at < n → ⊥ = not_past_fault ts at n f.stops.stuck (text_begins (take n ts) ms g.text) g.within in
      let not_more : n < at → ⊥ = not_past_front ts n at g.longest f.stops.begins f.within in
      let same_end : n ≡ at = omega (arith, not_less, not_more) in
      let is : s.stuck.front ≡ take at ts = front_is ts s.stuck.front at s.stuck.all in
      let some = fault_front (rules_in l) (start_in l) ts (drop at ts) s.stuck in
      let none = no_fault (take n ts) ms g.text in
      let clash : None ≡ Some [] = sym none ∙ ap (λ k. fault (rules_in l) (take k ts) (start_in l)) same_end ∙ ap (λ xs. fault (rules_in l) xs (start_in l)) (sym is) ∙ some in
      absurd (cc)

  -- ## The clauses of the readers

  pub found_of : (ts : List Terminal) (r : Result (List Node × ℕ) ReadFault) → ReadsOrStops (rules_in l) (start_in l) ts 0 r
      → IfOk r (λ read. IsFront l ts read.0 read.1)
  found_of ts (Ok read) h = front_found ts read.0 read.1 h
  found_of ts (Err e) h = tt

  pub only_of : (ts : List Terminal) (r : Result (List Node × ℕ) ReadFault) → ReadsOrStops (rules_in l) (start_in l) ts 0 r
      → (nodes : List Node) (end : ℕ) → IsFront l ts nodes end → Answers r (nodes, end)
  only_of ts (Ok read) h nodes end f = front_one ts read.0 nodes read.1 end (front_found ts read.0 read.1 h) f
  only_of ts (Err (Syntax at)) h nodes end f = no_front ts at nodes end h f
  only_of ts (Err NoMemory) h nodes end f = tt

  pub fault_of_all : (ts : List Terminal) (r : Result (List Node × ℕ) ReadFault) → ReadsOrStops (rules_in l) (start_in l) ts 0 r → PlacesFault l ts r
  fault_of_all ts (Ok read) h = tt
  fault_of_all ts (Err (Syntax at)) h = fault_found ts at h
  fault_of_all ts (Err NoMemory) h = tt

-- ## From the front to the whole

-- a text is the front of its terminals
pub whole_front : (l : Language) (ts : List Terminal) (nodes : List Node) → IsText l ts nodes → IsFront l ts nodes (length ts)
whole_front l ts nodes d = record {
  within = le_refl (length ts);
  text = subst (λ xs. IsText l xs nodes) (sym (take_all (length ts) ts (le_refl (length ts)))) d;
  longest = subst (λ xs. NoneGoesOn l (take (length ts) ts) xs) (sym (drop_of_length-le ts (le_refl (length ts)))) tt;
}

-- a front that is the whole is a text
pub front_whole : (l : Language) (ts : List Terminal) (nodes : List Node) (end : ℕ) → IsFront l ts nodes end → length ts ≤ end → IsText l ts nodes
front_whole l ts nodes end f h = subst (λ xs. IsText l xs nodes) (take_all end ts h) f.text

goes_on_stuck : (l : Language) (front left : List Terminal) → NoneGoesOn l front left → 0 < length left → GoesOn (rules_in l) (start_in l) front left → ⊥
goes_on_stuck l front [] none h g = absurd (omega arith)
goes_on_stuck l front (t ∷ left) none h g = none g

-- where the front isn't the whole, its end is the fault
pub front_fault : (l : Language) (ts : List Terminal) (nodes : List Node) (end : ℕ) → IsFront l ts nodes end → end < length ts → FaultAt l ts end
front_fault l ts nodes end f h = record {
  within = f.within;
  stops = record {
    begins = record { more = []; trees = nodes; spells = subst (λ xs. Spells (rules_in l) (start_in l) xs nodes) (sym (append-nil (take end ts))) f.text };
    stuck = goes_on_stuck l (take end ts) (drop end ts) f.longest (omega (arith, length-drop end ts));
  };
}

pub only_fault : (l : Language) (ts : List Terminal) (e : ReadFault)
    → ((nodes : List Node) (end : ℕ) → IsFront l ts nodes end → Answers {A = List Node × ℕ} (Err e) (nodes, end))
    → (nodes : List Node) → IsText l ts nodes → Answers {A = List Node} (Err e) nodes
only_fault l ts (Syntax at) only nodes d = only nodes (length ts) (whole_front l ts nodes d)
only_fault l ts NoMemory only nodes d = tt

pub only_whole : (l : Language) (ts : List Terminal) (found : List Node) (end : ℕ)
    → ((nodes : List Node) (n : ℕ) → IsFront l ts nodes n → ◌≡◌ {A = List Node × ℕ} (found, end) (nodes, n))
    → (nodes : List Node) → IsText l ts nodes → found ≡ nodes
only_whole l ts found end only nodes d = ap (λ p. p.0) (only nodes (length ts) (whole_front l ts nodes d))

pub only_short : (l : Language) (ts : List Terminal) (found : List Node) (end : ℕ) → end < length ts
    → ((nodes : List Node) (n : ℕ) → IsFront l ts nodes n → ◌≡◌ {A = List Node × ℕ} (found, end) (nodes, n))
    → (nodes : List Node) → IsText l ts nodes → ⊥
only_short l ts found end h only nodes d =
    let same_end : end ≡ length ts = ap (λ p. p.1) (only nodes (length ts) (whole_front l ts nodes d)) in omega arith
