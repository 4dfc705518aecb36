-- The variables of a pattern are those of its terms.
use Rattle.std.proofs.Common.{◌≡◌, List, [], ◌∷◌, ◌++◌, refl, sym, ◌∙◌, ap}
use Rattle.std.specs.List.{flat_map}
use Rattle.std.proofs.lemmas.List.{append_assoc}
use Rattle.npa_term.specs.declared.term.Term.{Term}
use Rattle.npa_term.specs.Numbering.{once_after, variables_once}
use Rattle.npa_term.specs.Variables.{variables}
use Rattle.npa_model.specs.declared.pattern.PStrand.{PStrand}
use Rattle.npa_model.specs.declared.pattern.Pattern.{Pattern}
use Rattle.npa_model.specs.Fitting.{pattern_variables, strand_variables}
use Rattle.npa_moves.specs.Finishing.{pattern_terms, strand_terms}
use Rattle.npa_moves.specs.Steps.{pattern_once}

both : (ts us : List Term) → flat_map variables (ts ++ us) ≡ flat_map variables ts ++ flat_map variables us
both [] us = refl
both (t ∷ ts) us = ap (λ vs. variables t ++ vs) (both ts us) ∙ sym (append_assoc (variables t) (flat_map variables ts) (flat_map variables us))

of_strands : (ps : List PStrand) → flat_map variables (flat_map strand_terms ps) ≡ flat_map strand_variables ps
of_strands [] = refl
of_strands (p ∷ ps) =
    both (strand_terms p) (flat_map strand_terms ps)
    ∙ ap (λ vs. vs ++ flat_map variables (flat_map strand_terms ps)) (both p.args p.msgs)
    ∙ ap (λ vs. strand_variables p ++ vs) (of_strands ps)

pub of_pattern : (g : Pattern) → flat_map variables (pattern_terms g) ≡ pattern_variables g
of_pattern g =
    both (flat_map strand_terms g.strands) (g.known ++ g.unknown)
    ∙ ap (λ vs. vs ++ flat_map variables (g.known ++ g.unknown)) (of_strands g.strands)
    ∙ ap (λ vs. flat_map strand_variables g.strands ++ vs) (both g.known g.unknown)

pub once_of : (g : Pattern) → variables_once (pattern_terms g) ≡ pattern_once g
once_of g = ap (once_after []) (of_pattern g)
