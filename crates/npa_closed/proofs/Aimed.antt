-- The terms of an accepted aim are normal under normal values.
use Rattle.std.proofs.Common.{ℕ, List, Contains, subst}
use Rattle.npa_term.specs.declared.term.Term.{Term}
use Rattle.npa_sig.specs.declared.protocol.Strand.{Strand}
use Rattle.npa_sig.specs.Operators.{PairsCommute}
use Rattle.npa_sig.specs.Signature.{Signature}
use Rattle.npa_sig.specs.WellFormed.{IsTermOver}
use Rattle.npa_sig.proofs.SortedTerms.{under_ground}
use Rattle.npa_unify.proofs.Members.{only_one}
use Rattle.npa_rewrite.specs.declared.theory.Theory.{Theory}
use Rattle.npa_rewrite.specs.Innermost.{normalized}
use Rattle.npa_rewrite.specs.Rewriting.{AllCancel}
use Rattle.npa_model.specs.declared.aim.Aim.{Aim}
use Rattle.npa_model.specs.declared.aim.Part.{Part}
use Rattle.npa_model.specs.declared.aim.Part.TheVariants as part
use Rattle.npa_model.specs.Accepted.{IsAccepted, part_terms}
use Rattle.npa_model.specs.Aims.{Assigns}
use Rattle.npa_model.specs.WellFormed.{IsWellFormedAim, IsWellFormedPart}
use Rattle.npa_replay.proofs.Settling.{stable}
use Rattle.npa_moves.specs.GoingBack.{AreNormalUnder}

-- the terms of a part are over the aim's variables
part_over : (sig : Signature) (strands : List Strand) (sorts : List ℕ) (p : Part) → IsWellFormedPart sig strands sorts p → (t : Term) → Contains (part_terms p) t → IsTermOver sig sorts t
part_over sig strands sorts (part.Known u) formed t c = subst (IsTermOver sig sorts) (only_one u t c) formed.term
part_over sig strands sorts (part.Strand number bar args) formed t c = formed.terms t c

pub aim_normal : (th : Theory) → AllCancel th → PairsCommute th.sig → (strands : List Strand) (aim : Aim) (values : List Term) → IsWellFormedAim th.sig strands aim → IsAccepted th aim →
    Assigns (normalized th) th.sig aim.sorts values → AreNormalUnder (normalized th) th.sig aim values
aim_normal th cancel pairs strands aim values formed accepted assigns p c t d =
    let over = part_over th.sig strands aim.sorts p (formed.parts p c) t d in
    record {
      term = under_ground th.sig aim.sorts values assigns.sorted (λ u h. (assigns.normal u h).term) t over;
      normal = (stable th cancel pairs).values aim.sorts values assigns.sorted assigns.normal t over (accepted p c t d);
    }
