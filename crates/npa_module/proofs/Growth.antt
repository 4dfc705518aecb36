-- What one item adds to the numbers of sorts, operators and strands, and the limits behind it.
use Rattle.std.proofs.Common.{◌≡◌, ℕ, zero, suc, ◌+◌, ◌≤◌, ◌==◌, Bool, true, false, cond, List, [], ◌∷◌, ◌++◌, Option, None, Some, Result, Ok, Err, filter, map, length, refl, ap, sym, ◌∙◌, subst, arith, length-append, inl, inr, ◌<◌, drop, get_or, drop-cons, add-one, Bor}
use Rattle.std.proofs.lemmas.List.{length-map}
use Rattle.npa_syntax.specs.declared.node.Node.{Node}
use Rattle.npa_syntax.specs.Nodes.{children_of}
use Rattle.npa_text.specs.declared.token.Token.{Token}
use Rattle.npa_text.specs.Texts.{text_of}
use Rattle.npa_text.specs.declared.terminals.TheConstants as terminal
use Rattle.npa_text.specs.declared.symbols.TheConstants as symbol
use Rattle.npa_sig.specs.declared.protocol.Strand.{Strand}
use Rattle.npa_module.specs.declared.source.ReadError.{ReadError}
use Rattle.npa_module.specs.declared.draft.Draft.{Draft}
use Rattle.npa_reading.specs.Trees.{kind_of, first_token, seen}
use Rattle.npa_module.specs.Drafts.{nothing, with_sort, with_pair, with_operator, with_equation, with_strand, with_aim}
use Rattle.npa_reading.specs.Reading.{unless, then_read, in_front, all_read}
use Rattle.npa_module.specs.Refusals.{Refuses}
use Rattle.npa_limits.specs.Limits.{number, limit_of, is_sort, is_op, is_eq, is_strand, is_aim, events_of}
use Rattle.npa_limits.specs.Later.{items_of}
use Rattle.npa_module.specs.Items.{sort_named, sort_read, subsort_read, op_read, operator_read, operator_declared, equation_read, one_equation_read, equation_declared, strand_read, one_strand_read, strand_declared, strand_behind, strand_over, strand_with, aim_read, one_aim_read, aim_declared, item_read, items_read, event_read, event_nodes, parameters}
use Rattle.npa_module.specs.Rooms.{AreShort, IsNamed, HasRoom, HaveRoom}
use Rattle.npa_limits.proofs.KeptLimits.{kept_limits}

-- ## What stands behind an answer

pub ok_unless : {A : Type 0} (o : Option ReadError) (r : Result A ReadError) (y : A) → unless o r ≡ Ok y → r ≡ Ok y
ok_unless None r y e = e
ok_unless (Some f) r y e = absurd (cc)

abbrev value_or : {A : Type 0} → A → Result A ReadError → A
value_or d (Ok x) = x
value_or d (Err e) = d

abbrev answered : {A : Type 0} → A → Result A ReadError
answered x = Ok x

pub ok_is : {A : Type 0} (x y : A) → answered x ≡ answered y → x ≡ y
ok_is x y e = ap (value_or x) e

pub record Behind {A B : Type 0} (f : A → Result B ReadError) (r : Result A ReadError) (y : B) : Type 0 where
  pub value : A
  pub is : r ≡ Ok value
  pub gives : f value ≡ Ok y

pub ok_then : {A B : Type 0} (f : A → Result B ReadError) (r : Result A ReadError) (y : B) → then_read f r ≡ Ok y → Behind f r y
ok_then f (Ok x) y e = record { value = x; is = refl; gives = e }
ok_then f (Err x) y e = absurd (cc)

pub same_length : {A : Type 0} (rs : List (Result A ReadError)) (xs : List A) → all_read rs ≡ Ok xs → length xs ≡ length rs
same_length [] xs e = let q : [] ≡ xs = cc in ap length (sym q)
same_length {A} (r ∷ rs) xs e = split r (all_read rs) (same_length rs) refl e
  where
    split : (r : Result A ReadError) (o : Result (List A) ReadError) → ((ys : List A) → all_read rs ≡ Ok ys → length ys ≡ length rs) → all_read rs ≡ o → in_front r o ≡ Ok xs → length xs ≡ suc (length rs)
    split (Ok x) (Ok ys) rest f e = let q : x ∷ ys ≡ xs = cc in ap length (sym q) ∙ ap suc (rest ys f)
    split (Ok x) (Err y) rest f e = absurd (cc)
    split (Err x) o rest f e = absurd (cc)

-- ## Numbers

abbrev pub one_if : Bool → ℕ
one_if true = 1
one_if false = 0

pub record Grown (d e : Draft) (sorts ops strands : ℕ) : Type 0 where
  pub sorts_grow : e.sig.sorts.declared ≤ d.sig.sorts.declared + sorts
  pub ops_grow : length e.sig.ops ≤ length d.sig.ops + ops
  pub strands_grow : length e.strands.list ≤ length d.strands.list + strands
  pub named : IsNamed d → IsNamed e
  pub short : AreShort d.strands.list → AreShort e.strands.list

same : (d e : Draft) (sorts ops strands : ℕ) → d ≡ e → Grown d e sorts ops strands
same d e s o t q = subst (λ x. Grown d x s o t) q (record { sorts_grow = omega arith; ops_grow = omega arith; strands_grow = omega arith; named = λ n. n; short = λ s. s })

one_more : {X : Type 0} (xs : List X) (x : X) → length (xs ++ x ∷ []) ≡ length xs + 1
one_more xs x = length-append xs (x ∷ [])

at_most : (m n k : ℕ) → m ≡ n + k → m ≤ n + k
at_most m n k e = omega (arith, e)

wider : {d e : Draft} {s o t : ℕ} (s2 o2 t2 : ℕ) → s ≤ s2 → o ≤ o2 → t ≤ t2 → Grown d e s o t → Grown d e s2 o2 t2
wider s2 o2 t2 p q r g =
    let x = g.sorts_grow in
    let y = g.ops_grow in
    let z = g.strands_grow in
    record { sorts_grow = omega (arith, x, p); ops_grow = omega (arith, y, q); strands_grow = omega (arith, z, r); named = g.named; short = g.short }

short_with : (strands : List Strand) (strand : Strand) → length strand.events ≤ 32 → AreShort strands → AreShort (strands ++ strand ∷ [])
short_with [] strand few all zero y e = let q : strand ≡ y = cc in subst (λ (s : Strand). length s.events ≤ 32) q few
short_with [] strand few all (suc k) y e = absurd (cc)
short_with (s ∷ ss) strand few all zero y e = all zero y e
short_with (s ∷ ss) strand few all (suc k) y e = short_with ss strand few (λ i z f. all (suc i) z f) k y e

-- a strand has as many events as stand in the text
pub strand_events : (bytes : List ℕ) (tokens : List Token) (d : Draft) (b : Bool) (nodes : List Node) (strand : Strand) → one_strand_read bytes tokens d b nodes ≡ Ok strand →
    length strand.events ≡ length (event_nodes nodes)
strand_events bytes tokens d b nodes strand q =
    let name = first_token tokens symbol.STRAND_NAME nodes in
    let fresh = ok_then (strand_behind bytes tokens d b name nodes) _ strand (ok_unless _ _ strand q) in
    let vars = ok_then (strand_over bytes tokens d b name nodes fresh.value.names) _ strand fresh.gives in
    let events = ok_then (strand_with bytes b name fresh.value.names vars.value) _ strand vars.gives in
    let scope = parameters fresh.value.names vars.value in
    ap (λ (s : Strand). length s.events) (sym (ok_is _ _ events.gives))
    ∙ same_length (map (event_read bytes tokens d.sig scope) (event_nodes nodes)) events.value events.is ∙ length-map (event_nodes nodes) (event_read bytes tokens d.sig scope)

module _ (bytes : List ℕ) (tokens : List Token) (d e : Draft) where
  sort_grows : (nodes : List Node) → sort_read bytes tokens d nodes ≡ Ok e → Grown d e 1 0 0
  sort_grows nodes q =
      let name = text_of bytes (first_token tokens symbol.SORT_NAME nodes) in
      subst (λ x. Grown d x 1 0 0) (ok_is (with_sort d name) e (ok_unless _ _ e q)) (record {
        sorts_grow = omega arith;
        ops_grow = omega arith;
        strands_grow = omega arith;
        named = λ n. (let p = n.sorts in let g = one_more d.sorts name in record { sorts = omega (arith, p, g); strands = n.strands });
        short = λ s. s;
      })

  subsort_grows : (nodes : List Node) → subsort_read bytes tokens d nodes ≡ Ok e → Grown d e 0 0 0
  subsort_grows nodes q =
      let lower = sort_named bytes d.sorts (first_token tokens symbol.LOWER_SORT nodes) in
      let upper = sort_named bytes d.sorts (first_token tokens symbol.UPPER_SORT nodes) in
      subst (λ x. Grown d x 0 0 0) (ok_is (with_pair d lower upper) e (ok_unless _ _ e q)) (record {
        sorts_grow = omega arith;
        ops_grow = omega arith;
        strands_grow = omega arith;
        named = λ n. record { sorts = n.sorts; strands = n.strands };
        short = λ s. s;
      })

  op_grows : (nodes : List Node) → op_read bytes tokens d nodes ≡ Ok e → Grown d e 0 1 0
  op_grows nodes q =
      let decl = ok_then (operator_declared d) (operator_read bytes tokens d nodes) e q in
      subst (λ x. Grown d x 0 1 0) (ok_is (with_operator d decl.value) e decl.gives) (record {
        sorts_grow = omega arith;
        ops_grow = at_most _ (length d.sig.ops) 1 (one_more d.sig.ops decl.value);
        strands_grow = omega arith;
        named = λ n. record { sorts = n.sorts; strands = n.strands };
        short = λ s. s;
      })

  equation_grows : (nodes : List Node) → equation_read bytes tokens d nodes ≡ Ok e → Grown d e 0 0 0
  equation_grows nodes q =
      let equation = ok_then (equation_declared d) (one_equation_read bytes tokens d nodes) e q in
      subst (λ x. Grown d x 0 0 0) (ok_is (with_equation d equation.value) e equation.gives) (record {
        sorts_grow = omega arith;
        ops_grow = omega arith;
        strands_grow = omega arith;
        named = λ n. record { sorts = n.sorts; strands = n.strands };
        short = λ s. s;
      })

  strand_grows : (b : Bool) (nodes : List Node) → length (event_nodes nodes) ≤ 32 → strand_read bytes tokens d b nodes ≡ Ok e → Grown d e 0 0 1
  strand_grows b nodes few q =
      let strand = ok_then (strand_declared d) (one_strand_read bytes tokens d b nodes) e q in
      let s = strand.value in
      let many = strand_events bytes tokens d b nodes s strand.is in
      subst (λ x. Grown d x 0 0 1) (ok_is (with_strand d s) e strand.gives) (record {
        sorts_grow = omega arith;
        ops_grow = omega arith;
        strands_grow = at_most _ (length d.strands.list) 1 (one_more d.strands.list s);
        named = λ n. (let p = n.strands in let g = one_more d.strands.names s.name in let h = one_more d.strands.list s in record { sorts = n.sorts; strands = omega (arith, p, g, h) });
        short = λ all. short_with d.strands.list s (omega (arith, many, few)) all;
      })

  aim_grows : (nodes : List Node) → aim_read bytes tokens d nodes ≡ Ok e → Grown d e 0 0 0
  aim_grows nodes q =
      let aim = ok_then (aim_declared d) (one_aim_read bytes tokens d nodes) e q in
      subst (λ x. Grown d x 0 0 0) (ok_is (with_aim d aim.value) e aim.gives) (record {
        sorts_grow = omega arith;
        ops_grow = omega arith;
        strands_grow = omega arith;
        named = λ n. record { sorts = n.sorts; strands = n.strands };
        short = λ s. s;
      })

  by_kind : (b1 b2 b3 b4 b5 b6 : Bool) (r1 r2 r3 r4 r5 r6 : Result Draft ReadError) →
      (r1 ≡ Ok e → Grown d e 1 0 0) → (r2 ≡ Ok e → Grown d e 0 0 0) → (r3 ≡ Ok e → Grown d e 0 1 0) → (r4 ≡ Ok e → Grown d e 0 0 0) → (b5 ≡ true → r5 ≡ Ok e → Grown d e 0 0 1) → (r6 ≡ Ok e → Grown d e 0 0 0) →
      cond b1 r1 (cond b2 r2 (cond b3 r3 (cond b4 r4 (cond b5 r5 (cond b6 r6 (Ok d)))))) ≡ Ok e → Grown d e (one_if b1) (one_if b3) (one_if b5)
  by_kind true b2 b3 b4 b5 b6 r1 r2 r3 r4 r5 r6 f1 f2 f3 f4 f5 f6 q = wider 1 (one_if b3) (one_if b5) (omega arith) (omega arith) (omega arith) (f1 q)
  by_kind false true b3 b4 b5 b6 r1 r2 r3 r4 r5 r6 f1 f2 f3 f4 f5 f6 q = wider 0 (one_if b3) (one_if b5) (omega arith) (omega arith) (omega arith) (f2 q)
  by_kind false false true b4 b5 b6 r1 r2 r3 r4 r5 r6 f1 f2 f3 f4 f5 f6 q = wider 0 1 (one_if b5) (omega arith) (omega arith) (omega arith) (f3 q)
  by_kind false false false true b5 b6 r1 r2 r3 r4 r5 r6 f1 f2 f3 f4 f5 f6 q = wider 0 0 (one_if b5) (omega arith) (omega arith) (omega arith) (f4 q)
  by_kind false false false false true b6 r1 r2 r3 r4 r5 r6 f1 f2 f3 f4 f5 f6 q = f5 refl q
  by_kind false false false false false true r1 r2 r3 r4 r5 r6 f1 f2 f3 f4 f5 f6 q = f6 q
  by_kind false false false false false false r1 r2 r3 r4 r5 r6 f1 f2 f3 f4 f5 f6 q = same d e 0 0 0 (ok_is d e q)

  pub item_grows : (n : Node) → (is_strand n ≡ true → events_of n ≤ 32) → item_read bytes tokens d n ≡ Ok e → Grown d e (one_if (is_sort n)) (one_if (is_op n)) (one_if (is_strand n))
  item_grows n few q =
      by_kind (is_sort n) (kind_of n == terminal.SUBSORT) (is_op n) (is_eq n) (is_strand n) (is_aim n) _ _ _ _ _ _
      (sort_grows (children_of n)) (subsort_grows (children_of n)) (op_grows (children_of n)) (equation_grows (children_of n)) (λ t. strand_grows (kind_of n == terminal.INTRUDER) (children_of n) (few t)) (aim_grows (children_of n)) q

-- ## Limits

counted : (p : Node → Bool) (n : Node) (ns : List Node) → number p (n ∷ ns) ≡ one_if (p n) + number p ns
counted p n ns = split (p n)
  where
    split : (b : Bool) → length (cond b (n ∷ filter p ns) (filter p ns)) ≡ one_if b + length (filter p ns)
    split true = omega arith
    split false = omega arith

pub room_for : (d : Draft) (n : Node) (ns : List Node) → HaveRoom d (n ∷ ns) → HasRoom d n
room_for d n ns room =
    let s = room.sorts in
    let o = room.ops in
    let t = room.strands in
    record { named = room.named; sorts = omega (arith, s); ops = omega (arith, o); strands = omega (arith, t); short = room.short; within = room.each 0 n refl }

pub room_behind : (bytes : List ℕ) (tokens : List Token) (d e : Draft) (n : Node) (ns : List Node) → item_read bytes tokens d n ≡ Ok e → HaveRoom d (n ∷ ns) → HaveRoom e ns
room_behind bytes tokens d e n ns q room =
    let s = room.sorts in
    let o = room.ops in
    let t = room.strands in
    let cs = counted is_sort n ns in
    let co = counted is_op n ns in
    let ct = counted is_strand n ns in
    let within = room.each 0 n refl in
    let grown = item_grows bytes tokens d e n within.events q in
    let gs = grown.sorts_grow in
    let go = grown.ops_grow in
    let gt = grown.strands_grow in
    record {
      named = grown.named room.named;
      sorts = omega (arith, s, cs, gs);
      ops = omega (arith, o, co, go);
      strands = omega (arith, t, ct, gt);
      short = grown.short room.short;
      each = λ k m f. room.each (suc k) m f;
    }

-- a text that passes no limit has room for its items
pub room_at_first : (nodes : List Node) → limit_of nodes ≡ None → HaveRoom nothing (items_of nodes)
room_at_first nodes e =
    let kept = kept_limits nodes e in
    let s = kept.sorts in
    let o = kept.ops in
    let t = kept.strands in
    record {
      named = record { sorts = refl; strands = refl };
      sorts = omega (arith, s);
      ops = omega (arith, o);
      strands = omega (arith, t);
      short = λ k strand f. absurd (cc);
      each = kept.each;
    }

-- ## Items, one after another

first_item : (items : List (Bor Node)) (i : ℕ) (x : Bor Node) → i < length items → x ≡ get_or items i x → seen (drop i items) ≡ x.now ∷ seen (drop (i + 1) items)
first_item items i x l is =
    ap seen (let e : drop i items ≡ get_or items i x ∷ drop (i + 1) items = rw (drop-cons items i x, add-one) refl in e)
    ∙ ap (λ (y : Bor Node). y.now ∷ seen (drop (i + 1) items)) (sym is)

pub item_room : (d : Draft) (items : List (Bor Node)) (i : ℕ) (x : Bor Node) → i < length items → x ≡ get_or items i x → HaveRoom d (seen (drop i items)) → HasRoom d x.now
item_room d items i x l is room = room_for d x.now (seen (drop (i + 1) items)) (subst (HaveRoom d) (first_item items i x l is) room)

module _ (bytes : List ℕ) (tokens : List Token) (d : Draft) (items : List (Bor Node)) (i : ℕ) (x : Bor Node) (l : i < length items) (is : x ≡ get_or items i x) (whole : Result Draft ReadError) where
  abbrev onward : Draft → Result Draft ReadError
  onward e = items_read bytes tokens e (seen (drop (i + 1) items))

  pub item_fails : (error : ReadError) → Refuses error (item_read bytes tokens d x.now) → items_read bytes tokens d (seen (drop i items)) ≡ whole → Refuses error whole
  item_fails error told so_far = split told
    where
      split : Refuses error (item_read bytes tokens d x.now) → Refuses error whole
      split (inl wanting) = inl wanting
      split (inr e) = inr (sym so_far ∙ ap (items_read bytes tokens d) (first_item items i x l is) ∙ ap (then_read onward) e)

  pub next_item : (e : Draft) → item_read bytes tokens d x.now ≡ Ok e → items_read bytes tokens d (seen (drop i items)) ≡ whole → items_read bytes tokens e (seen (drop (i + 1) items)) ≡ whole
  next_item e q so_far = sym (ap (then_read onward) q) ∙ sym (ap (items_read bytes tokens d) (first_item items i x l is)) ∙ so_far

  pub next_room : (e : Draft) → item_read bytes tokens d x.now ≡ Ok e → HaveRoom d (seen (drop i items)) → HaveRoom e (seen (drop (i + 1) items))
  next_room e q room = room_behind bytes tokens d e x.now (seen (drop (i + 1) items)) q (subst (HaveRoom d) (first_item items i x l is) room)
