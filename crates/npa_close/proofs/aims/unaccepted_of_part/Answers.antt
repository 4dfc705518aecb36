use Rattle.std.proofs.Common.{[], sym, subst}
use Rattle.std.specs.Prelude.{Contains}
use Rattle.npa_unify.proofs.Members.{here}
use Rattle.npa_rewrite.proofs.Walk.{where_ok}
use Rattle.npa_accept.specs.Parts.{parts}
use Rattle.npa_accept.specs.Unaccepted.{IsFirst}
use Rattle.std.specs.List.{flat_map}
use Rattle.npa_model.specs.declared.aim.Part.{Part}
use Rattle.npa_model.specs.Accepted.{part_terms}
use Rattle.npa_close.specs.Checks.{part_parts}
use Rattle.npa_close.proofs.Accepting.{of_term}
use Rattle.npa_close.proofs.aims.unaccepted_of_part.Goals as goal

pub first_unaccepted-requires-clause-formed : goal.first_unaccepted-requires-clause-formed
first_unaccepted-requires-clause-formed c = c.requires.theory.formed

pub first_unaccepted-requires-clause-plain : goal.first_unaccepted-requires-clause-plain
first_unaccepted-requires-clause-plain c = c.requires.theory.plain

pub first_unaccepted-requires-clause-few : goal.first_unaccepted-requires-clause-few
first_unaccepted-requires-clause-few c = c.requires.theory.few

pub first_unaccepted-requires-clause-term : goal.first_unaccepted-requires-clause-term
first_unaccepted-requires-clause-term c =
    c.requires.fit c.in-Known.term (subst (λ (p : Part). Contains (part_terms p) c.in-Known.term) (sym c.in-Known.is) (here c.in-Known.term []))

pub unaccepted_among-requires-clause-fit : goal.unaccepted_among-requires-clause-fit
unaccepted_among-requires-clause-fit c = λ t h.
    c.requires.fit t (subst (λ (p : Part). Contains (part_terms p) t) (sym c.in-Strand.is) (subst (λ ts. Contains ts t) c.as_slice.ensures h))

pub returns-in-Known : goal.returns-in-Known
returns-in-Known c =
    where_ok (IsFirst c.args.th.now (parts c.in-Known.term)) (IsFirst c.args.th.now (part_parts c.args.part.now))
    (λ o is. subst (λ (p : Part). IsFirst c.args.th.now (part_parts p) o) (sym c.in-Known.is) (of_term c.args.th.now c.in-Known.term o is))
    c.first_unaccepted.result c.first_unaccepted.ensures.first

pub returns-in-Strand : goal.returns-in-Strand
returns-in-Strand c =
    where_ok (IsFirst c.args.th.now (flat_map parts c.as_slice.result.now)) (IsFirst c.args.th.now (part_parts c.args.part.now))
    (λ o is. subst (λ (p : Part). IsFirst c.args.th.now (part_parts p) o) (sym c.in-Strand.is) (subst (λ ts. IsFirst c.args.th.now (flat_map parts ts) o) c.as_slice.ensures is))
    c.unaccepted_among.result c.unaccepted_among.ensures
