-- Values over the signature without operators are well formed.
use Rattle.std.proofs.Common.{◌≡◌, ℕ, true, length, slice_get, List, [], ◌∷◌, Some, refl, sym, ap, subst, Contains, arith}
use Rattle.npa_term.specs.declared.term.Var.{Var as Variable}
use Rattle.npa_term.specs.declared.term.Term.{Var}
use Rattle.npa_sig.specs.declared.protocol.Protocol.{Protocol}
use Rattle.npa_sig.specs.Signature.{Signature, bare}
use Rattle.npa_sig.specs.Sorting.{is_sort}
use Rattle.npa_model.specs.declared.aim.Aim.{Aim}
use Rattle.npa_model.specs.declared.aim.Part.{Part}
use Rattle.npa_model.specs.declared.aim.Part.TheVariants as part
use Rattle.npa_model.specs.declared.run.Run.{Run}
use Rattle.npa_model.specs.WellFormed.{IsWellFormedPart, IsWellFormedAim, IsWellFormedRun}
use Rattle.npa_sig.specs.WellFormed.{IsWellFormedProtocol}
use Rattle.npa_sig.specs.Operators.{IsWellFormedSignature}
use Rattle.npa_sig.proofs.Operators.{formed_bare}
use Rattle.npa_replay.proofs.Members.{contains_one}

pub protocol_formed : (p : Protocol) → p.sig ≡ bare → p.equations ≡ [] → p.strands ≡ [] → IsWellFormedProtocol p
protocol_formed p sig equations strands = record {
  signature = subst (λ (s : Signature). IsWellFormedSignature s) (sym sig) formed_bare;
  equations = λ k equation at. cc;
  strands = λ k strand at. cc;
}

pub aim_formed : (a : Aim) → a.sorts ≡ 0 ∷ [] → a.parts ≡ part.Known (Var (record { num = 0; sort = 0 })) ∷ [] → IsWellFormedAim bare [] a
aim_formed a sorts parts =
    let v : Variable = record { num = 0; sort = 0 } in
    let known : Part = part.Known (Var v) in
    record {
      sorts = λ s h. subst (λ n. is_sort bare n ≡ true) (contains_one 0 s (subst (λ (ss : List ℕ). Contains ss s) sorts h)) refl;
      parts = λ p h. subst (λ (q : Part). IsWellFormedPart bare [] a.sorts q) (contains_one known p (subst (λ (ps : List Part). Contains ps p) parts h)) (record {
        term = record {
          sorted = refl;
          own = λ w o. subst (λ (x : Variable). slice_get a.sorts x.num ≡ Some x.sort) (contains_one v w o) (ap (λ (ss : List ℕ). slice_get ss 0) sorts);
        };
        not_fresh = λ e. cc;
      });
      has_parts = omega (arith, ap length parts);
      few = omega (arith, ap length parts);
    }

pub run_formed : (r : Run) → r.instances ≡ [] → r.schedule ≡ [] → IsWellFormedRun bare r
run_formed r instances schedule = record {
  terms = λ k instance at. cc;
  few_instances = omega (arith, ap length instances);
  few_steps = omega (arith, ap length schedule);
}
