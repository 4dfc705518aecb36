-- What comes of a choice of variants is a root by the result's own unifier.
use Rattle.std.proofs.Common.{◌≡◌, ℕ, suc, true, Some, List, [], ◌∷◌, ◌++◌, append-nil, map, zip, length, slice_get, Contains, refl, sym, ◌∙◌, ap, subst}
use Rattle.std.specs.List.{flat_map}
use Rattle.std.proofs.lemmas.Bool.{and_parts}
use Rattle.std.proofs.lemmas.List.{append_assoc, length-map}
use Rattle.std.proofs.lemmas.List.Elements.{Contains-append_left, Contains-append_right}
use Rattle.std.proofs.lemmas.Option.{same_Some}
use Rattle.npa_sorts.specs.Subsorts.{IsAtOrBelow}
use Rattle.npa_term.specs.declared.term.Term.{Term}
use Rattle.npa_term.specs.declared.term.Var.{Var as Variable}
use Rattle.npa_term.specs.Bound.{applied}
use Rattle.npa_term.specs.Parts.{least_sort}
use Rattle.npa_term.specs.Same.{Same, SameAll, nothing as no_terms, first}
use Rattle.npa_term.specs.Variables.{raised_var, renamed, variables}
use Rattle.npa_term.proofs.Renumbered.{member_variable}
use Rattle.npa_term.proofs.SameCases.{same_all_trans}
use Rattle.npa_term.proofs.SameLaws.{same_all_sym}
use Rattle.npa_sig.specs.declared.protocol.Protocol.{Protocol}
use Rattle.npa_sig.specs.declared.protocol.Strand.{Strand}
use Rattle.npa_sig.specs.Parameters.{param_sorts}
use Rattle.npa_sig.specs.Signature.{Signature}
use Rattle.npa_sig.specs.Sorting.{all_below, is_below}
use Rattle.npa_unify.specs.Answers.{unifiers}
use Rattle.npa_unify.proofs.Members.{here, later, only_one}
use Rattle.npa_rewrite.specs.Theories.{theory_of}
use Rattle.npa_variants.specs.declared.variant.Variant.{Variant}
use Rattle.npa_variants.specs.StrandVariants.{IsStrandVariant, args_of}
use Rattle.npa_variants.specs.Strands.{param_count}
use Rattle.npa_variants.proofs.Members.{flat_member, of_taken}
use Rattle.npa_variants.proofs.Starting.{in_once}
use Rattle.npa_variants.proofs.Theories.{IsNarrowing}
use Rattle.npa_model.specs.declared.aim.Aim.{Aim}
use Rattle.npa_model.specs.declared.aim.Part.{Part}
use Rattle.npa_model.specs.declared.aim.Part.TheVariants as part
use Rattle.npa_model.specs.declared.pattern.PStrand.{PStrand}
use Rattle.npa_model.specs.declared.pattern.Pattern.{Pattern}
use Rattle.npa_model.specs.Accepted.{part_terms}
use Rattle.npa_model.specs.WellFormed.{IsPlainAim, IsStrandPart, IsWellFormedAim, IsWellFormedPart}
use Rattle.npa_model.proofs.Places.{member_at}
use Rattle.npa_moves.specs.Leading.{FitsVariables, strand_under}
use Rattle.npa_moves.specs.Lists.{Made, begun, root_moves, root_problem, variants_at, with_known, with_strand}
use Rattle.npa_moves.specs.Moves.{raised_strand}
use Rattle.npa_moves.specs.RootLeading.{AsksFor, IsRootBy, nothing, known, strand, known_first, strand_first}
use Rattle.npa_moves.specs.Roots.{aim_once}
use Rattle.npa_moves.proofs.Covered.{same_list}
use Rattle.npa_moves.proofs.OtherSteps.{map_push}
use Rattle.npa_moves.proofs.RootChoices.{joined}
use Rattle.npa_moved.proofs.Drafting.{IsMade, made_alike, made_joined, raised_list, raised_made, raising, result, unifier, unifier_agrees, ν}
use Rattle.npa_moved.proofs.Finished.{IsFitMove}
use Rattle.npa_moved.proofs.FitRoots.{of_variants, root_fits}
use Rattle.npa_moved.proofs.Making.{made, raised_image, same_joined}
use Rattle.npa_moved.proofs.SoundMoves.{made_below, pair_made}
use Rattle.npa_moved.proofs.StepMoves.{of_zero}

-- ## Lists

below_length : (sig : Signature) (ss ts : List ℕ) → all_below sig ss ts ≡ true → length ss ≡ length ts
below_length sig [] [] e = refl
below_length sig [] (t ∷ ts) e = cc
below_length sig (s ∷ ss) [] e = cc
below_length sig (s ∷ ss) (t ∷ ts) e = ap suc (below_length sig ss ts (and_parts (is_below sig s t) (all_below sig ss ts) e).1)

same_zip : (f : Term → Term) (ts us : List Term) → length ts ≡ length us → ((t u : Term) → Contains (zip ts us) (t, u) → Same (f t) (f u)) → SameAll (map f ts) (map f us)
same_zip f [] [] e each = no_terms
same_zip f [] (u ∷ us) e each = cc
same_zip f (t ∷ ts) [] e each = cc
same_zip f (t ∷ ts) (u ∷ us) e each =
    first (f t) (f u) (map f ts) (map f us) (each t u (here (t, u) (zip ts us)))
    (same_zip f ts us (let rest : length ts ≡ length us = cc in rest) (λ x y c. each x y (later (t, u) (x, y) (zip ts us) c)))

-- a strand part's terms are of the sorts of the strand that is there
part_below : (sig : Signature) (strands : List Strand) (sorts : List ℕ) (n bar : ℕ) (args : List Term) (role : Strand) → IsStrandPart sig strands sorts n bar args → slice_get strands n ≡ Some role →
    all_below sig (map least_sort args) (param_sorts role) ≡ true
part_below sig strands sorts n bar args role one there =
    subst (λ (x : Strand). all_below sig (map least_sort args) (param_sorts x) ≡ true) (same_Some one.strand role (sym one.there ∙ there)) one.below

-- ## The pairs of a choice stay

module _ (strands : List Strand) (variants : Strand → List Variant) where
  pairs_stay : (parts : List Part) (m move : Made) → Contains (root_moves strands variants parts m) move → (p : Term × Term) → Contains m.pairs p → Contains move.pairs p
  pairs_stay [] m move c p d = subst (λ (x : Made). Contains x.pairs p) (only_one m move c) d
  pairs_stay (part.Known t ∷ parts) m move c p d = pairs_stay parts (with_known t m) move c p d
  pairs_stay (part.Strand s bar args ∷ parts) m move c p d =
      let at = of_zero (λ n by. root_moves strands variants parts (with_strand s bar args by.0 n by.1 m)) (variants_at variants (slice_get strands s)) move c in
      let by = at.1 in
      pairs_stay parts (with_strand s bar args by.0 at.0 by.1 m) move at.3 p
      (Contains-append_left m.pairs (zip args (map (renamed m.next) (args_of by.0 by.1))) p d)

-- ## What the parts ask for

module _ (protocol : Protocol) (can : IsNarrowing (theory_of protocol)) (variants : Strand → List Variant)
    (varied : (s : ℕ) (role : Strand) (v : Variant) → slice_get protocol.strands s ≡ Some role → Contains (variants role) v → IsStrandVariant (theory_of protocol) role v)
    (sorts : List ℕ) (vs : List Variable) (move : Made) (fit : IsFitMove protocol move) (s : List (Variable × Term)) (listed : Contains (unifiers protocol.sig.sorts move.pairs move.next) s) where
  -- the unifier
  abbrev a : List (Variable × Term)
  a = unifier vs move.from s

  abbrev makes_of : Term → Term
  makes_of = made s (ν vs move.from s)

  -- Parts that name strands that are there, with terms over the variables that are bound.
  abbrev AreOwnParts : List Part → Type 0
  AreOwnParts parts = (p : Part) → Contains parts p → IsWellFormedPart protocol.sig protocol.strands sorts p × ((t : Term) → Contains (part_terms p) t → (v : Variable) → Contains (variables t) v → Contains vs v)

  -- What the rest of the parts asks for, behind what is made.
  record Asked (parts : List Part) (before : Pattern) : Type 0 where
    pub asked : Pattern
    pub asks : AsksFor protocol.strands variants protocol.sig.sorts a parts asked
    pub like : IsMade vs move.from s (joined before asked) move.from

  with_known_made : (t : Term) (m : Made) (g : Pattern) → ((v : Variable) → Contains (variables t) v → Contains vs v) → IsMade vs move.from s g m.from →
      IsMade vs move.from s (record { strands = g.strands; known = g.known ++ applied a t ∷ []; unknown = g.unknown }) (with_known t m).from
  with_known_made t m g own like = record {
    strands = like.strands;
    known = subst (SameAll (g.known ++ applied a t ∷ [])) (sym (map_push makes_of m.from.known t))
        (same_joined like.known (first (applied a t) (makes_of t) [] [] (unifier_agrees vs move.from s t own) no_terms));
    unknown = like.unknown;
  }

  module _ (n bar : ℕ) (args : List Term) (role : Strand) (k : ℕ) (v : Variant) (m : Made) (there : slice_get protocol.strands n ≡ Some role) (at : slice_get (variants role) k ≡ Some v) where
    abbrev b : List (Variable × Term)
    b = raising vs move.from s m.next v

    with_strand_made : (g : Pattern) → IsMade vs move.from s g m.from →
        IsMade vs move.from s (record { strands = g.strands ++ strand_under b n role v bar ∷ []; known = g.known; unknown = g.unknown }) (with_strand n bar args role k v m).from
    with_strand_made g like = record {
      strands = made_joined vs move.from s g.strands m.from.strands (strand_under b n role v bar ∷ []) (raised_strand m.next n role v bar ∷ []) like.strands (raised_made vs move.from s m.next v n role bar, tt);
      known = like.known;
      unknown = like.unknown;
    }

    b_below : FitsVariables protocol.sig.sorts (flat_map variables v.terms) b
    b_below y c =
        subst (λ (t : Term). IsAtOrBelow protocol.sig.sorts (least_sort t) y.sort) (sym (raised_image s (ν vs move.from s) m.next (flat_map variables v.terms) y c))
        (made_below protocol can move fit vs s listed (raised_var m.next y))

    same_length : all_below protocol.sig (map least_sort args) (param_sorts role) ≡ true → length args ≡ length (map (renamed m.next) (args_of role v))
    same_length below =
        let variant = varied n role v there (member_at (variants role) k v at) in
        sym (length-map args least_sort) ∙ below_length protocol.sig (map least_sort args) (param_sorts role) below
        ∙ sym (below_length protocol.sig (map least_sort (args_of role v)) (param_sorts role) variant.below_sorts)
        ∙ length-map (args_of role v) least_sort ∙ sym (length-map (args_of role v) (renamed m.next))

    -- the part's terms are the values of the parameters
    same_args : all_below protocol.sig (map least_sort args) (param_sorts role) ≡ true → ((t : Term) → Contains args t → (x : Variable) → Contains (variables t) x → Contains vs x) →
        ((p : Term × Term) → Contains (with_strand n bar args role k v m).pairs p → Contains move.pairs p) → SameAll (map (applied a) args) (map (applied b) (args_of role v))
    same_args below own stay =
        same_all_trans (same_list (applied a) makes_of args (λ t c. unifier_agrees vs move.from s t (own t c)))
        (same_all_trans
        (same_zip makes_of args (map (renamed m.next) (args_of role v)) (same_length below)
        (λ t u c. pair_made protocol can move fit vs s listed t u (stay (t, u) (Contains-append_right m.pairs (zip args (map (renamed m.next) (args_of role v))) (t, u) c))))
        (same_all_sym (raised_list vs move.from s m.next v (args_of role v) (λ t c. of_taken (param_count role) v.terms t c))))

  joined_nothing : (g : Pattern) → g ≡ joined g (record { strands = []; known = []; unknown = [] })
  joined_nothing g =
      ap (λ (ps : List PStrand). record { strands = ps; known = g.known; unknown = g.unknown }) (sym (append-nil g.strands))
      ∙ ap (λ (ts : List Term). record { strands = g.strands ++ []; known = ts; unknown = g.unknown }) (sym (append-nil g.known))
      ∙ ap (λ (ts : List Term). record { strands = g.strands ++ []; known = g.known ++ []; unknown = ts }) (sym (append-nil g.unknown))

  known_moves : (t : Term) (g h : Pattern) → joined (record { strands = g.strands; known = g.known ++ t ∷ []; unknown = g.unknown }) h ≡ joined g (known_first t h)
  known_moves t g h = ap (λ (ts : List Term). record { strands = g.strands ++ h.strands; known = ts; unknown = g.unknown ++ h.unknown }) (append_assoc g.known (t ∷ []) h.known)

  strand_moves : (p : PStrand) (g h : Pattern) → joined (record { strands = g.strands ++ p ∷ []; known = g.known; unknown = g.unknown }) h ≡ joined g (strand_first p h)
  strand_moves p g h = ap (λ (ps : List PStrand). record { strands = ps; known = g.known ++ h.known; unknown = g.unknown ++ h.unknown }) (append_assoc g.strands (p ∷ []) h.strands)

  known_joined : (t : Term) (g h : Pattern) → IsMade vs move.from s (joined (record { strands = g.strands; known = g.known ++ t ∷ []; unknown = g.unknown }) h) move.from → IsMade vs move.from s (joined g (known_first t h)) move.from
  known_joined t g h = subst (λ (x : Pattern). IsMade vs move.from s x move.from) (known_moves t g h)

  strand_joined : (p : PStrand) (g h : Pattern) → IsMade vs move.from s (joined (record { strands = g.strands ++ p ∷ []; known = g.known; unknown = g.unknown }) h) move.from → IsMade vs move.from s (joined g (strand_first p h)) move.from
  strand_joined p g h = subst (λ (x : Pattern). IsMade vs move.from s x move.from) (strand_moves p g h)

  asked_by : (parts : List Part) (m : Made) (g : Pattern) → AreOwnParts parts → IsMade vs move.from s g m.from → Contains (root_moves protocol.strands variants parts m) move → Asked parts g
  asked_by [] m g own like c = record {
    asked = record { strands = []; known = []; unknown = [] };
    asks = nothing;
    like = subst (λ (x : Pattern). IsMade vs move.from s x move.from) (joined_nothing g) (subst (λ (x : Made). IsMade vs move.from s g x.from) (only_one m move c) like);
  }
  asked_by (part.Known t ∷ parts) m g own like c =
      let one = own (part.Known t) (here (part.Known t) parts) in
      let g2 : Pattern = record { strands = g.strands; known = g.known ++ applied a t ∷ []; unknown = g.unknown } in
      let rest = asked_by parts (with_known t m) g2 (λ p d. own p (later (part.Known t) p parts d)) (with_known_made t m g (one.1 t (here t [])) like) c in
      record {
        asked = known_first (applied a t) rest.asked;
        asks = known t parts rest.asked rest.asks;
        like = known_joined (applied a t) g rest.asked rest.like;
      }
  asked_by (part.Strand n bar args ∷ parts) m g own like c =
      let this = part.Strand n bar args in
      let one = own this (here this parts) in
      let at = of_zero (λ k by. root_moves protocol.strands variants parts (with_strand n bar args by.0 k by.1 m)) (variants_at variants (slice_get protocol.strands n)) move c in
      let k = at.0 in
      let role = at.1.0 in
      let v = at.1.1 in
      let there = of_variants protocol.strands variants n k at.1 (slice_get protocol.strands n) refl at.2 in
      let below = part_below protocol.sig protocol.strands sorts n bar args role one.0 there.0 in
      let under_it : PStrand = strand_under (raising vs move.from s m.next v) n role v bar in
      let g2 : Pattern = record { strands = g.strands ++ under_it ∷ []; known = g.known; unknown = g.unknown } in
      let m2 : Made = with_strand n bar args role k v m in
      let rest = asked_by parts m2 g2 (λ p d. own p (later this p parts d)) (with_strand_made n bar args role k v m there.0 there.1 g like) at.3 in
      record {
        asked = strand_first under_it rest.asked;
        asks = strand n bar args role k v (raising vs move.from s m.next v) parts rest.asked there.0 there.1
            (b_below n bar args role k v m there.0 there.1)
            (same_args n bar args role k v m there.0 there.1 below one.1 (pairs_stay protocol.strands variants parts m2 move at.3)) rest.asks;
        like = strand_joined under_it g rest.asked rest.like;
      }

module _ (protocol : Protocol) (can : IsNarrowing (theory_of protocol)) (variants : Strand → List Variant)
    (varied : (s : ℕ) (role : Strand) (v : Variant) → slice_get protocol.strands s ≡ Some role → Contains (variants role) v → IsStrandVariant (theory_of protocol) role v)
    (aim : Aim) (formed : IsWellFormedAim protocol.sig protocol.strands aim) (plain : IsPlainAim aim) where
  -- what comes of a choice by each unifier is a root by the result's unifier
  pub choice_sound : (m : Made) → Contains (root_problem protocol.strands variants aim) m → (s : List (Variable × Term)) → Contains (unifiers protocol.sig.sorts m.pairs m.next) s →
      IsRootBy protocol.strands variants protocol.sig.sorts (unifier (aim_once aim) m.from s) aim (result (aim_once aim) m.from s)
  choice_sound m c s listed =
      let vs = aim_once aim in
      let fit = root_fits protocol can variants varied aim formed plain m c in
      let all = asked_by protocol can variants varied aim.sorts vs m fit s listed aim.parts (begun aim) (begun aim).from own begun_made c in
      record { asked = all.asked; asks = all.asks; alike = made_alike vs m.from s all.asked all.like }
    where
      own : (p : Part) → Contains aim.parts p → IsWellFormedPart protocol.sig protocol.strands aim.sorts p × ((t : Term) → Contains (part_terms p) t → (v : Variable) → Contains (variables t) v → Contains (aim_once aim) v)
      own p d = (
        formed.parts p d,
        λ t e v f. in_once (flat_map part_terms aim.parts) v (member_variable (flat_map part_terms aim.parts) t v (flat_member part_terms aim.parts p t d e) f),
      )

      begun_made : IsMade (aim_once aim) m.from s (begun aim).from (begun aim).from
      begun_made = record { strands = tt; known = no_terms; unknown = no_terms }
