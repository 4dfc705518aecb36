-- A protocol and its aims meet the conditions of their checks.
use Rattle.std.proofs.Common.{◌≡◌, ℕ, List, Some, slice_get, Contains, sym, subst}
use Rattle.npa_term.specs.declared.term.Term.{Term}
use Rattle.npa_sig.specs.Signature.{Signature}
use Rattle.npa_sig.specs.WellFormed.{IsTermOver, IsWellFormedProtocol, IsPlainProtocol}
use Rattle.npa_sig.specs.declared.protocol.Protocol.{Protocol}
use Rattle.npa_sig.specs.declared.protocol.Strand.{Strand}
use Rattle.npa_rewrite.specs.declared.theory.Theory.{Theory}
use Rattle.npa_rewrite.specs.Theories.{theory_of}
use Rattle.npa_conv.specs.Theories.{IsPlainTheory}
use Rattle.npa_unify.proofs.Members.{only_one}
use Rattle.npa_accept.proofs.Own.{own_fit}
use Rattle.npa_model.specs.declared.aim.Part.{Part}
use Rattle.npa_model.specs.declared.aim.Part.TheVariants as part
use Rattle.npa_model.specs.declared.aim.Aim.{Aim}
use Rattle.npa_model.specs.Accepted.{part_terms}
use Rattle.npa_model.specs.WellFormed.{IsWellFormedPart, IsWellFormedAim, IsPlainAim}
use Rattle.npa_close.specs.Checks.{IsFitAim}

-- the terms of a part are over the aim's variables
over_sorts : (sig : Signature) (strands : List Strand) (sorts : List ℕ) (p : Part) → IsWellFormedPart sig strands sorts p → (t : Term) → Contains (part_terms p) t → IsTermOver sig sorts t
over_sorts sig strands sorts (part.Known u) good t h = subst (IsTermOver sig sorts) (only_one u t h) good.term
over_sorts sig strands sorts (part.Strand number bar args) good t h = good.terms t h

pub fit_aim : (sig : Signature) (strands : List Strand) (aim : Aim) → IsWellFormedAim sig strands aim → IsPlainAim aim → IsFitAim sig aim
fit_aim sig strands aim good plain = λ p in_aim t in_part.
    own_fit sig aim.sorts t (over_sorts sig strands aim.sorts p (good.parts p in_aim) t in_part) (plain p in_aim t in_part)

pub plain_theory : (protocol : Protocol) → IsWellFormedProtocol protocol → IsPlainProtocol protocol → (th : Theory) → th ≡ theory_of protocol → IsPlainTheory th
plain_theory protocol form plain th same = subst IsPlainTheory (sym same) (record { formed = form.equations; plain = plain.equations; few = plain.few_equations })
