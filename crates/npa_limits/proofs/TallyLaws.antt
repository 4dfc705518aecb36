-- The parts of an aim, gone over one after another, give their numbers and the one passed first.
use Rattle.std.proofs.Common.{◌≡◌, ℕ, ◌+◌, ◌<◌, ◌==◌, nat_lt, Bool, true, false, not, cond, List, [], ◌∷◌, ◌++◌, Option, Some, None, length, drop, get_or, refl, sym, ap, ◌∙◌, drop-cons, add-one, arith}
use Rattle.std.proofs.lemmas.Bool.Decides.{nat_tests}
use Rattle.std.specs.Prelude.{filter}
use Rattle.std.specs.Option.{option_or, option_map}
use Rattle.npa_syntax.specs.declared.node.Node.{Node}
use Rattle.npa_syntax.specs.Nodes.{symbol_of, children_of}
use Rattle.npa_text.specs.declared.symbols.TheConstants as symbol
use Rattle.npa_limits.specs.declared.limits.Tally.{Tally}
use Rattle.npa_reading.specs.Trees.{all_with, listed}
use Rattle.npa_limits.specs.declared.part.LimitPart.TheVariants as part
use Rattle.npa_limits.specs.Limits.{saturated, number, where_is, is_aim, parts_of, is_known, is_strand_part, crowded, crowd, parts_past}
use Rattle.npa_limits.specs.Tallies.{with_part, tallied, with_node}
use Rattle.npa_limits.proofs.LimitLaws.{or_none}

tallied_append : (t : Tally) (ps qs : List Node) → tallied t (ps ++ qs) ≡ tallied (tallied t ps) qs
tallied_append t [] qs = refl
tallied_append t (p ∷ ps) qs = tallied_append (with_part t p) ps qs

pub tallied_all : (t : Tally) (nodes : List Node) (i : ℕ) (d : Node) → i < length nodes → tallied t (all_with symbol.PART (drop i nodes))
    ≡ tallied (cond (symbol_of (get_or nodes i d) == symbol.PART) (with_part t (get_or nodes i d)) t) (all_with symbol.PART (drop (i + 1) nodes))
tallied_all t nodes i d l =
    let first : drop i nodes ≡ get_or nodes i d ∷ drop (i + 1) nodes = rw (drop-cons nodes i d, add-one) refl in
    ap (λ ns. tallied t (all_with symbol.PART ns)) first ∙ split (symbol_of (get_or nodes i d) == symbol.PART)
  where
    split : (b : Bool) → tallied t (cond b (get_or nodes i d ∷ all_with symbol.PART (drop (i + 1) nodes)) (all_with symbol.PART (drop (i + 1) nodes)))
        ≡ tallied (cond b (with_part t (get_or nodes i d)) t) (all_with symbol.PART (drop (i + 1) nodes))
    split true = refl
    split false = refl

pub tallied_listed : (t : Tally) (nodes : List Node) (i : ℕ) (d : Node) → i < length nodes → tallied t (listed symbol.PART symbol.NEXT_PART (drop i nodes))
    ≡ tallied (with_node t (get_or nodes i d)) (listed symbol.PART symbol.NEXT_PART (drop (i + 1) nodes))
tallied_listed t nodes i d l =
    let first : drop i nodes ≡ get_or nodes i d ∷ drop (i + 1) nodes = rw (drop-cons nodes i d, add-one) refl in
    ap (λ ns. tallied t (listed symbol.PART symbol.NEXT_PART ns)) first ∙ split (symbol_of (get_or nodes i d) == symbol.PART) (symbol_of (get_or nodes i d) == symbol.NEXT_PART)
  where
    split : (b c : Bool) → tallied t (cond b (get_or nodes i d ∷ listed symbol.PART symbol.NEXT_PART (drop (i + 1) nodes)) (cond c (all_with symbol.PART (children_of (get_or nodes i d)) ++ listed symbol.PART symbol.NEXT_PART (drop (i + 1) nodes)) (listed symbol.PART symbol.NEXT_PART (drop (i + 1) nodes))))
        ≡ tallied (cond b (with_part t (get_or nodes i d)) (cond c (tallied t (all_with symbol.PART (children_of (get_or nodes i d)))) t)) (listed symbol.PART symbol.NEXT_PART (drop (i + 1) nodes))
    split true c = refl
    split false true = tallied_append t (all_with symbol.PART (children_of (get_or nodes i d))) (listed symbol.PART symbol.NEXT_PART (drop (i + 1) nodes))
    split false false = refl

-- the numbers of these parts behind so many
abbrev pub tally_of : ℕ → ℕ → Option Bool → Tally
tally_of strands known first = record { strands = saturated strands; known = saturated known; first = first }

abbrev with_first : ℕ → ℕ → Option Bool → Bool → Bool → Tally
with_first strands known f kind b = record { strands = strands; known = known; first = option_or f (cond b (Some kind) None) }

same_parts : (s s' k k' : ℕ) (f : Option Bool) (kind b b' : Bool) → s ≡ s' → k ≡ k' → b ≡ b' → with_first s k f kind b ≡ with_first s' k' f kind b'
same_parts s s' k k' f kind b b' d e g = ap (λ n. with_first n k f kind b) d ∙ ap (λ n. with_first s' n f kind b) e ∙ ap (with_first s' k' f kind) g

-- one part more, where what is saturated may be added to
more_known : (s k : ℕ) (f : Option Bool) → record { strands = saturated s; known = saturated (saturated k + 1); first = option_or f (cond (nat_lt 64 (saturated k + 1)) (Some true) None) }
    ≡ tally_of s (k + 1) (option_or f (cond (nat_lt 64 (k + 1)) (Some true) None))
more_known s k f =
    let n : saturated (saturated k + 1) ≡ saturated (k + 1) = omega arith in
    let b : nat_lt 64 (saturated k + 1) ≡ nat_lt 64 (k + 1) = grind (arith, nat_tests) in
    same_parts (saturated s) (saturated s) (saturated (saturated k + 1)) (saturated (k + 1)) f true (nat_lt 64 (saturated k + 1)) (nat_lt 64 (k + 1)) refl n b

more_strands : (s k : ℕ) (f : Option Bool) → record { strands = saturated (saturated s + 1); known = saturated k; first = option_or f (cond (nat_lt 32 (saturated s + 1)) (Some false) None) }
    ≡ tally_of (s + 1) k (option_or f (cond (nat_lt 32 (s + 1)) (Some false) None))
more_strands s k f =
    let n : saturated (saturated s + 1) ≡ saturated (s + 1) = omega arith in
    let b : nat_lt 32 (saturated s + 1) ≡ nat_lt 32 (s + 1) = grind (arith, nat_tests) in
    same_parts (saturated (saturated s + 1)) (saturated (s + 1)) (saturated k) (saturated k) f false (nat_lt 32 (saturated s + 1)) (nat_lt 32 (s + 1)) n refl b

or_more : (f : Option Bool) (b known : Bool) (rest : Option Bool) → option_or (option_or f (cond b (Some known) None)) rest ≡ option_or f (cond b (Some known) rest)
or_more (Some x) b known rest = refl
or_more None true known rest = refl
or_more None false known rest = refl

same_tally : (s s' k k' : ℕ) (f f' : Option Bool) → s ≡ s' → k ≡ k' → f ≡ f' → tally_of s k f ≡ tally_of s' k' f'
same_tally s s' k k' f f' d e g = ap (λ n. tally_of n k f) d ∙ ap (λ n. tally_of s' n f) e ∙ ap (tally_of s' k') g

pub tallied_is : (s k : ℕ) (f : Option Bool) (ps : List Node) → tallied (tally_of s k f) ps
    ≡ tally_of (s + number is_strand_part ps) (k + number is_known ps) (option_or f (crowded s k ps))
tallied_is s k f [] = same_tally _ _ _ _ _ _ (omega arith) (omega arith) (sym (or_none f))
tallied_is s k f (p ∷ ps) = split (is_known p) (tallied_is s (k + 1) (option_or f (cond (nat_lt 64 (k + 1)) (Some true) None)) ps) (tallied_is (s + 1) k (option_or f (cond (nat_lt 32 (s + 1)) (Some false) None)) ps)
  where
    split : (b : Bool) →
        tallied (tally_of s (k + 1) (option_or f (cond (nat_lt 64 (k + 1)) (Some true) None))) ps
        ≡ tally_of (s + number is_strand_part ps) (k + 1 + number is_known ps) (option_or (option_or f (cond (nat_lt 64 (k + 1)) (Some true) None)) (crowded s (k + 1) ps)) →
        tallied (tally_of (s + 1) k (option_or f (cond (nat_lt 32 (s + 1)) (Some false) None))) ps
        ≡ tally_of (s + 1 + number is_strand_part ps) (k + number is_known ps) (option_or (option_or f (cond (nat_lt 32 (s + 1)) (Some false) None)) (crowded (s + 1) k ps)) →
        tallied (cond b
        (record { strands = saturated s; known = saturated (saturated k + 1); first = option_or f (cond (nat_lt 64 (saturated k + 1)) (Some true) None) })
        (record { strands = saturated (saturated s + 1); known = saturated k; first = option_or f (cond (nat_lt 32 (saturated s + 1)) (Some false) None) })) ps
        ≡ tally_of (s + length (cond (not b) (p ∷ filter is_strand_part ps) (filter is_strand_part ps))) (k + length (cond b (p ∷ filter is_known ps) (filter is_known ps)))
        (option_or f (cond b (cond (nat_lt 64 (k + 1)) (Some true) (crowded s (k + 1) ps)) (cond (nat_lt 32 (s + 1)) (Some false) (crowded (s + 1) k ps))))
    split true knowns strands =
        ap (λ t. tallied t ps) (more_known s k f) ∙ knowns
        ∙ same_tally _ _ _ _ _ _ refl (omega arith) (or_more f (nat_lt 64 (k + 1)) true (crowded s (k + 1) ps))
    split false knowns strands =
        ap (λ t. tallied t ps) (more_strands s k f) ∙ strands
        ∙ same_tally _ _ _ _ _ _ (omega arith) refl (or_more f (nat_lt 32 (s + 1)) false (crowded (s + 1) k ps))

-- what an aim's parts pass
parts_done : (item : Node) (nodes : List Node) (t : Tally) → is_aim item ≡ true → nodes ≡ children_of item →
    t ≡ tallied (record { strands = 0; known = 0; first = None }) (listed symbol.PART symbol.NEXT_PART nodes) →
    option_map (λ known. (part.Parts, cond known t.known t.strands)) t.first ≡ parts_past item
parts_done item nodes t is kids e =
    let all : t ≡ tally_of (number is_strand_part (parts_of item)) (number is_known (parts_of item)) (crowded 0 0 (parts_of item)) =
    e ∙ ap (λ ns. tallied (record { strands = 0; known = 0; first = None }) (listed symbol.PART symbol.NEXT_PART ns)) kids
    ∙ tallied_is 0 0 None (parts_of item) ∙ same_tally _ _ _ _ _ _ (omega arith) (omega arith) refl in
    ap (λ (u : Tally). option_map (λ known. (part.Parts, cond known u.known u.strands)) u.first) all ∙ answer (crowded 0 0 (parts_of item))
    ∙ sym (ap (λ b. where_is b (option_map (crowd (parts_of item)) (crowded 0 0 (parts_of item)))) is)
  where
    answer : (o : Option Bool) → option_map (λ known. (part.Parts, cond known (saturated (number is_known (parts_of item))) (saturated (number is_strand_part (parts_of item))))) o ≡ option_map (crowd (parts_of item)) o
    answer None = refl
    answer (Some true) = refl
    answer (Some false) = refl

pub parts_none : (item : Node) (nodes : List Node) (t : Tally) → is_aim item ≡ true → nodes ≡ children_of item →
    t ≡ tallied (record { strands = 0; known = 0; first = None }) (listed symbol.PART symbol.NEXT_PART nodes) →
    t.first ≡ None → None ≡ parts_past item
parts_none item nodes t is kids e none = ap (option_map (λ known. (part.Parts, cond known t.known t.strands))) (sym none) ∙ parts_done item nodes t is kids e

pub parts_some : (item : Node) (nodes : List Node) (t : Tally) (known : Bool) (n : ℕ) → is_aim item ≡ true → nodes ≡ children_of item →
    t ≡ tallied (record { strands = 0; known = 0; first = None }) (listed symbol.PART symbol.NEXT_PART nodes) →
    t.first ≡ Some known → n ≡ cond known t.known t.strands → Some (part.Parts, n) ≡ parts_past item
parts_some item nodes t known n is kids e some count =
    ap (λ m. Some (part.Parts, m)) count ∙ ap (option_map (λ known. (part.Parts, cond known t.known t.strands))) (sym some) ∙ parts_done item nodes t is kids e
