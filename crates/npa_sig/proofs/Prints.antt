-- Terms are printed argument by argument.
use Rattle.std.proofs.Common.{◌≡◌, ℕ, ◌+◌, ◌<◌, ◌≤◌, List, ◌∷◌, ◌++◌, map, length, take, drop, get_or, refl, ap, sym, ◌∙◌, drop-cons, add-one, arith}
use Rattle.std.proofs.lemmas.List.{drop_all, take-append-le, take-take, length-take}
use Rattle.std.proofs.Math.Seq.{take-length}
use Rattle.npa_term.specs.declared.term.Op.{Op}
use Rattle.npa_term.specs.declared.term.Term.{Term, App, Row_of-Term, end_of-Term, more_of-Term, items-the_row-Term, items_hidden-the_row-Term-0}
use Rattle.npa_term.specs.declared.term.Term.TheBlock.{hidden-the_row-Term-0}
use Rattle.npa_sig.specs.Signature.{Signature}
use Rattle.npa_sig.specs.Printing.{printed, printed_row, op_text, bracketed, arguments_from, before_argument, after_arguments, Extends}

printed_items : {n : _} (sig : Signature) (k : Row_of-Term n) → printed_row sig k ≡ map (printed sig) (items-the_row-Term n k)
printed_items sig end_of-Term = refl
printed_items sig (more_of-Term t rest) = ap (λ ts. printed sig t ∷ ts) (printed_items sig rest)

pub printed_at : (sig : Signature) (t : Term) (op : Op) (ts : List Term) → t ≡ App op ts → printed sig t ≡ op_text sig op.num ++ bracketed (map (printed sig) ts)
printed_at sig t op ts e =
    let k = hidden-the_row-Term-0 ts in
    ap (printed sig) e ∙ ap (λ xs. op_text sig op.num ++ bracketed xs) (printed_items sig k ∙ ap (map (printed sig)) (items_hidden-the_row-Term-0 ts))

pub arguments_step : (sig : Signature) (args : List Term) (i : ℕ) (d : Term) → i < length args →
    arguments_from i (map (printed sig) (drop i args)) ≡ before_argument i ++ printed sig (get_or args i d) ++ arguments_from (i + 1) (map (printed sig) (drop (i + 1) args))
arguments_step sig args i d l = rw (drop-cons args i d, add-one) refl

pub arguments_end : (sig : Signature) (args : List Term) (i : ℕ) → length args ≤ i → arguments_from i (map (printed sig) (drop i args)) ≡ after_arguments i
arguments_end sig args i l = ap (λ ts. arguments_from i (map (printed sig) ts)) (drop_all i args l)

-- a text that is added to begins as it was
pub begins_added : (old new more : List ℕ) → new ≡ old ++ more → Extends old new
begins_added old new more e = ap (take (length old)) e ∙ take-append-le (length old) old more (omega arith) ∙ take-length old

pub begins_on : (old mid new : List ℕ) → Extends old mid → Extends mid new → Extends old new
begins_on old mid new p q =
    let short : length old ≤ length mid = omega (arith, length-take (length old) mid, ap length p) in
    sym (take-take (length old) (length mid) new short) ∙ ap (take (length old)) q ∙ p
