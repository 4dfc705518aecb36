-- The term at the front of the tokens that are left.
use Rattle.std.proofs.Common.{◌≡◌, ℕ, ◌+◌, ◌-◌, ◌≤◌, List, [], ◌∷◌, length, drop, get_or, None, Err, refl, sym, ap, ◌∙◌, subst, take-append-drop, arith, length-drop}
use Rattle.std.specs.Prelude.{take}
use Rattle.std.proofs.lemmas.List.{drop-drop}
use Rattle.npa_syntax.specs.declared.node.Terminal.{Terminal}
use Rattle.npa_syntax.specs.declared.node.Node.{Node}
use Rattle.npa_syntax.specs.declared.fault.ReadFault.{ReadFault}
use Rattle.npa_syntax.specs.declared.fault.ReadFault.TheVariants as read_fault
use Rattle.npa_syntax.specs.Grammars.{Piece, Rules, Spells, nothing, without, taking, GoesOn}
use Rattle.npa_syntax.specs.Languages.{Language, rules_in, start_in, IsText, FaultAt, NoneGoesOn, IsFront}
use Rattle.npa_syntax.specs.Answers.{PlacesFault, AnswersFront}
use Rattle.npa_syntax.specs.Tables.{piece, one}
use Rattle.npa_syntax.proofs.Shapes.{needed_piece}
use Rattle.npa_text.specs.declared.symbols.TheConstants.{TERM}
use Rattle.npa_text.specs.declared.token.Token.{Token}
use Rattle.npa_text.specs.declared.token.Raw.{Raw}
use Rattle.npa_text.specs.declared.fault.TextFault.{TextFault}
use Rattle.npa_text.specs.declared.fault.TextFault.TheVariants.{Syntax}
use Rattle.npa_text.specs.Languages.{term_language}
use Rattle.npa_text.specs.Parses.{terminals_from, place_at}
use Rattle.npa_text.specs.Raws.{raw_of}
use Rattle.npa_text.specs.RawTerms.{IsTermAt, PlacesTermFault}
use Rattle.npa_text.proofs.Fronts.{terminals_length, terminals_take, stops_there}

no_pieces : {rules : Rules} {xs : List Piece} {ts : List Terminal} {ns : List Node} → Spells rules xs ts ns → xs ≡ [] → ns ≡ []
no_pieces nothing e = refl
no_pieces (without p ps ts ns needed d) e = absurd (cc)
no_pieces (taking p ps t body ts us kids ns begins d d') e = absurd (cc)

-- a text of the grammar of terms has one tree
pub one_tree : (ts : List Terminal) (nodes : List Node) → IsText term_language ts nodes → (tree : Node) × (nodes ≡ tree ∷ [])
unfolding term_language
one_tree ts nodes d =
    let t = needed_piece (piece 1200 (one TERM)) [] d refl in
    (t.node, t.all ∙ ap (λ ns. t.node ∷ ns) (no_pieces t.others refl))

-- where no text goes on, what stands in front would be the answer if it were a text
none_goes_on : (l : Language) (front left : List Terminal) → (GoesOn (rules_in l) (start_in l) front left → ⊥) → NoneGoesOn l front left
none_goes_on l front [] h = tt
none_goes_on l front (t ∷ left) h = h

not_unfinished : (l : Language) (ts : List Terminal) (e : ReadFault) (n : ℕ) → e ≡ read_fault.Syntax n → AnswersFront l ts (Err e) → FaultAt l ts n
    → (trees : List Node) → IsText l (take n ts) trees → ⊥
not_unfinished l ts e n syntax none f trees text =
    let none_read : AnswersFront l ts (Err (read_fault.Syntax n)) = subst (λ (x : ReadFault). AnswersFront l ts (Err x)) syntax none in
    none_read.every trees n (record { within = f.within; text = text; longest = none_goes_on l (take n ts) (drop n ts) f.stops.stuck })

-- ## What the reader of a term answers: `given` are the tokens and `terminals` those of the tokens from
-- a place on

module _ (l : Language) (bytes : List ℕ) (tokens given : List Token) (from : ℕ) (terminals : List Terminal) (is : l ≡ term_language) (same : given ≡ tokens)
    (made : terminals ≡ terminals_from from bytes (drop from given)) where
  here : terminals ≡ terminals_from from bytes (drop from tokens)
  here = made ∙ ap (λ ts. terminals_from from bytes (drop from ts)) same

  pub count_within : (nodes : List Node) (count : ℕ) → IsFront l terminals nodes count → count ≤ length tokens - from
  count_within nodes count f =
      omega (arith, f.within, ap length here, terminals_length from bytes (drop from tokens), length-drop from tokens)

  pub has_tree : (nodes : List Node) (count : ℕ) → IsFront l terminals nodes count → (tree : Node) × (nodes ≡ tree ∷ [])
  has_tree nodes count f = one_tree (take count terminals) nodes (subst (λ k. IsText k (take count terminals) nodes) is f.text)

  pub term_found : (nodes items : List Node) (count : ℕ) (tree : Node) (term : Raw) → IsFront l terminals nodes count → items ≡ nodes
      → tree ≡ get_or items 0 tree → term ≡ raw_of tokens tree → IsTermAt bytes tokens from term (from + count)
  term_found nodes items count tree term f list first read =
      let t = has_tree nodes count f in
      let first_is : tree ≡ t.0 = first ∙ ap (λ ns. get_or ns 0 tree) (list ∙ t.1) in
      record {
        tree = tree;
        count = count;
        front = subst (λ k. IsFront k (terminals_from from bytes (drop from tokens)) (tree ∷ []) count) is
            (subst (λ ts. IsFront l ts (tree ∷ []) count) here
            (subst (λ ns. IsFront l terminals ns count) (t.1 ∙ ap (λ (n : Node). n ∷ []) (sym first_is)) f));
        end_is = refl;
        term_is = read;
      }

  pub term_fault : (e : ReadFault) (n : ℕ) (fault : TextFault) → PlacesFault {A = List Node × ℕ} l terminals (Err e) → AnswersFront l terminals (Err e) → e ≡ read_fault.Syntax n
      → fault ≡ Syntax (place_at bytes (drop (from + n) given) None).line (place_at bytes (drop (from + n) given) None).col
      → PlacesTermFault bytes tokens from (Err fault)
  term_fault e n fault f none syntax at =
      let found : FaultAt l terminals n = subst (λ (x : ReadFault). PlacesFault {A = List Node × ℕ} l terminals (Err x)) syntax f in
      let left : drop (from + n) given ≡ drop n (drop from tokens) = sym (drop-drop n from given) ∙ ap (λ ts. drop n (drop from ts)) same in
      let there : fault ≡ Syntax (place_at bytes (drop n (drop from tokens)) None).line (place_at bytes (drop n (drop from tokens)) None).col =
      at ∙ ap (λ ts. Syntax (place_at bytes ts None).line (place_at bytes ts None).col) left in
      subst (λ (x : TextFault). PlacesTermFault bytes tokens from (Err x)) (sym there) (record {
        front = take n (drop from tokens);
        left = drop n (drop from tokens);
        all = sym (take-append-drop n (drop from tokens));
        stops = stops_there term_language bytes from (drop from tokens) n None
            (subst (λ k. FaultAt k (terminals_from from bytes (drop from tokens)) n) is (subst (λ ts. FaultAt l ts n) here found));
        unfinished = λ trees text. not_unfinished l terminals e n syntax none found trees
            (subst (λ k. IsText k (take n terminals) trees) (sym is)
            (subst (λ ts. IsText term_language ts trees) (sym (ap (take n) here ∙ terminals_take n from bytes (drop from tokens))) text));
      })
