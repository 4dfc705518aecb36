-- The moves of receiving, sending, learning and introducing, as those of a kind.
use Rattle.std.proofs.Common.{◌≡◌, ℕ, zero, suc, ◌+◌, ◌-◌, List, [], ◌∷◌, ◌++◌, map, drop, take, slice_set, slice_index_or, refl, ◌∙◌, ap}
use Rattle.npa_term.specs.declared.term.Term.{Term}
use Rattle.npa_term.specs.declared.term.Term.TheVariants.{Name}
use Rattle.npa_term.specs.Variables.{renamed}
use Rattle.npa_sig.specs.declared.protocol.Strand.{Strand}
use Rattle.npa_variants.specs.declared.variant.Variant.{Variant}
use Rattle.npa_variants.specs.StrandVariants.{args_of, messages_of}
use Rattle.npa_variants.specs.Strands.{param_count}
use Rattle.npa_variants.proofs.Members.{dropped_map, taken_map}
use Rattle.npa_model.specs.declared.pattern.PStrand.{PStrand}
use Rattle.npa_model.specs.declared.pattern.Pattern.{Pattern}
use Rattle.npa_model.specs.Backward.{set_back}
use Rattle.npa_moves.specs.Moves.{introduce_move, last_message, learn_move, past_pattern, past_variant, raised_message, raised_strand}
use Rattle.npa_moves.specs.Picks.{picks}
use Rattle.npa_back.specs.declared.kind.Kind.TheVariants as kind
use Rattle.npa_back.specs.Told.{told_moves}

pub learn_told : (g : Pattern) (k : ℕ) (p : PStrand) (before : Pattern) (m : Term) (next : ℕ) →
    before ≡ record { strands = slice_set g.strands k (set_back p (p.bar - 1)); known = []; unknown = g.unknown ++ last_message p ∷ [] } → m ≡ last_message p → next ≡ past_pattern g →
    told_moves (kind.Learn k) before m g next ≡ map (learn_move g k p) (picks g.known)
learn_told g k p before m next is same past =
    ap (λ (x : Pattern). told_moves (kind.Learn k) x m g next) is
    ∙ ap (λ (x : Term). told_moves (kind.Learn k) (record { strands = slice_set g.strands k (set_back p (p.bar - 1)); known = []; unknown = g.unknown ++ last_message p ∷ [] }) x g next) same
    ∙ ap (λ (n : ℕ). told_moves (kind.Learn k) (record { strands = slice_set g.strands k (set_back p (p.bar - 1)); known = []; unknown = g.unknown ++ last_message p ∷ [] }) (last_message p) g n) past

index_map : {X Y : Type 0} (f : X → Y) (xs : List X) (i : ℕ) (d : X) → slice_index_or (map f xs) i (f d) ≡ f (slice_index_or xs i d)
index_map f [] i d = refl
index_map f (x ∷ xs) zero d = refl
index_map f (x ∷ xs) (suc i) d = index_map f xs i d

-- the strand that is introduced, of the raised terms of a variant
pub strand_raised : (base s : ℕ) (strand : Strand) (v : Variant) (e : ℕ) (terms : List Term) → terms ≡ map (renamed base) v.terms →
    (let made : PStrand = record { strand = s; bar = e; args = take (param_count strand) terms; msgs = take e (drop (param_count strand) terms) } in made) ≡ raised_strand base s strand v e
strand_raised base s strand v e terms is =
    let n = param_count strand in
    ap (λ (ts : List Term). let made : PStrand = record { strand = s; bar = e; args = take n ts; msgs = take e (drop n ts) } in made) is
    ∙ ap (λ (ts : List Term). let made : PStrand = record { strand = s; bar = e; args = ts; msgs = take e (drop n (map (renamed base) v.terms)) } in made) (taken_map (renamed base) n v.terms)
    ∙ ap (λ (ts : List Term). let made : PStrand = record { strand = s; bar = e; args = map (renamed base) (args_of strand v); msgs = ts } in made)
    (ap (take e) (dropped_map (renamed base) n v.terms) ∙ taken_map (renamed base) e (messages_of strand v))

pub message_raised : (base : ℕ) (strand : Strand) (v : Variant) (e : ℕ) (terms : List Term) → terms ≡ map (renamed base) v.terms →
    slice_index_or (drop (param_count strand) terms) e (Name 0) ≡ raised_message base strand v e
message_raised base strand v e terms is =
    ap (λ (ts : List Term). slice_index_or (drop (param_count strand) ts) e (Name 0)) is
    ∙ ap (λ (ts : List Term). slice_index_or ts e (Name 0)) (dropped_map (renamed base) (param_count strand) v.terms)
    ∙ index_map (renamed base) (messages_of strand v) e (Name 0)

-- the pattern that these are introduced into, of which nothing is known
abbrev pub introduced_before : Pattern → ℕ → Strand → ℕ → List Term → Pattern
introduced_before g s strand e terms = record {
  strands = g.strands ++ record { strand = s; bar = e; args = take (param_count strand) terms; msgs = take e (drop (param_count strand) terms) } ∷ [];
  known = [];
  unknown = g.unknown ++ slice_index_or (drop (param_count strand) terms) e (Name 0) ∷ [];
}

-- what was built of the number of an event and of parameters
pub before_is : (g : Pattern) (s : ℕ) (strand : Strand) (e event params : ℕ) (terms left : List Term) (before : Pattern) → event ≡ e → params ≡ param_count strand → left ≡ [] →
    before ≡ record {
      strands = g.strands ++ record { strand = s; bar = event; args = take params terms; msgs = take event (drop params terms) } ∷ [];
      known = left;
      unknown = g.unknown ++ slice_index_or (drop params terms) event (Name 0) ∷ [];
    } → before ≡ introduced_before g s strand e terms
before_is g s strand e event params terms left before same few none built =
    let made = λ (k n : ℕ) (ts : List Term). let all : Pattern = record {
      strands = g.strands ++ record { strand = s; bar = k; args = take n terms; msgs = take k (drop n terms) } ∷ [];
      known = ts;
      unknown = g.unknown ++ slice_index_or (drop n terms) k (Name 0) ∷ [];
    } in all in
    built ∙ ap (λ k. made k params left) same ∙ ap (λ n. made e n left) few ∙ ap (made e (param_count strand)) none

pub message_is : (base : ℕ) (strand : Strand) (v : Variant) (e params : ℕ) (terms : List Term) (m : Term) → params ≡ param_count strand → terms ≡ v.terms →
    m ≡ renamed base (slice_index_or (drop params terms) e (Name 0)) → m ≡ raised_message base strand v e
message_is base strand v e params terms m few same is =
    is ∙ ap (λ (ts : List Term). renamed base (slice_index_or (drop params ts) e (Name 0))) same
    ∙ ap (λ n. renamed base (slice_index_or (drop n v.terms) e (Name 0))) few

pub introduce_told : (g : Pattern) (s : ℕ) (strand : Strand) (n : ℕ) (v : Variant) (e : ℕ) (terms : List Term) (before : Pattern) (m : Term) (base next : ℕ) →
    terms ≡ map (renamed base) v.terms →
    before ≡ introduced_before g s strand e terms → m ≡ raised_message base strand v e → base ≡ past_pattern g → next ≡ base + past_variant v →
    told_moves (kind.Introduce s n e) before m g next ≡ map (introduce_move g s strand n v e) (picks g.known)
introduce_told g s strand n v e terms before m base next raised is same past more =
    let at_base = λ (b : ℕ). told_moves (kind.Introduce s n e) (record { strands = g.strands ++ raised_strand b s strand v e ∷ []; known = []; unknown = g.unknown ++ raised_message b strand v e ∷ [] }) (raised_message b strand v e) g (b + past_variant v) in
    ap (λ (x : Pattern). told_moves (kind.Introduce s n e) x m g next) (is
    ∙ ap (λ (p : PStrand). let made : Pattern = record { strands = g.strands ++ p ∷ []; known = []; unknown = g.unknown ++ slice_index_or (drop (param_count strand) terms) e (Name 0) ∷ [] } in made) (strand_raised base s strand v e terms raised)
    ∙ ap (λ (t : Term). let made : Pattern = record { strands = g.strands ++ raised_strand base s strand v e ∷ []; known = []; unknown = g.unknown ++ t ∷ [] } in made) (message_raised base strand v e terms raised))
    ∙ ap (λ (x : Term). told_moves (kind.Introduce s n e) (record { strands = g.strands ++ raised_strand base s strand v e ∷ []; known = []; unknown = g.unknown ++ raised_message base strand v e ∷ [] }) x g next) same
    ∙ ap (λ (x : ℕ). told_moves (kind.Introduce s n e) (record { strands = g.strands ++ raised_strand base s strand v e ∷ []; known = []; unknown = g.unknown ++ raised_message base strand v e ∷ [] }) (raised_message base strand v e) g x) more
    ∙ ap at_base past
