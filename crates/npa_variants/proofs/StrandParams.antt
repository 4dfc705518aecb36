-- Variables that are put behind terms one after the other.
use Rattle.std.proofs.Common.{◌≡◌, ℕ, zero, suc, ◌+◌, ◌-◌, ◌<◌, List, [], ◌∷◌, ◌++◌, length, map, drop, get_or, replicate, refl, sym, ◌∙◌, ap, append_assoc, append-nil, length-append, arith}
use Rattle.std.proofs.lemmas.List.{drop_more}
use Rattle.npa_term.specs.declared.term.Term.{Term, Var}
use Rattle.npa_sig.specs.declared.protocol.Event.{Event}
use Rattle.npa_sig.specs.declared.protocol.Strand.{Strand}
use Rattle.npa_variants.specs.Strands.{placed_variables, with_params, strand_terms}

pub params_none : (ts : List Term) → with_params ts [] ≡ ts
params_none ts = append-nil ts

pub params_step : (ts : List Term) (s : ℕ) (ss : List ℕ) → with_params (with_params ts (s ∷ [])) ss ≡ with_params ts (s ∷ ss)
params_step ts s ss =
    let x : Term = Var (record { num = length ts; sort = s }) in
    ap (λ n. (ts ++ x ∷ []) ++ map Var (placed_variables n ss)) (length-append ts (x ∷ []))
    ∙ append_assoc ts (x ∷ []) (map Var (placed_variables (length ts + 1) ss))

pub params_append : (ts : List Term) (ss rs : List ℕ) → with_params (with_params ts ss) rs ≡ with_params ts (ss ++ rs)
params_append ts [] rs = ap (λ us. with_params us rs) (params_none ts)
params_append ts (s ∷ ss) rs =
    ap (λ us. with_params us rs) (sym (params_step ts s ss)) ∙ params_append (with_params ts (s ∷ [])) ss rs ∙ params_step ts s (ss ++ rs)

pub fresh_step : (ts us : List Term) (count at : ℕ) → at < count → us ≡ with_params ts (1 ∷ []) →
    with_params us (replicate (count - (at + 1)) 1) ≡ with_params ts (replicate (count - at) 1)
fresh_step ts us count at small is =
    let more : count - at ≡ suc (count - (at + 1)) = omega (arith, small) in
    ap (λ xs. with_params xs (replicate (count - (at + 1)) 1)) is ∙ params_step ts 1 (replicate (count - (at + 1)) 1)
    ∙ ap (λ n. with_params ts (replicate n 1)) (sym more)

-- the parameters and then the messages
pub terms_made : (strand : Strand) (none params all terms : List Term) (sorts : List ℕ) (events : List Event) → none ≡ [] → params ≡ with_params none sorts → sorts ≡ strand.vars →
    all ≡ with_params params (replicate strand.fresh 1) → terms ≡ all ++ map (λ e. e.msg) events → events ≡ strand.events → terms ≡ strand_terms strand
terms_made strand none params all terms sorts events empty first sorts_are second third events_are =
    third ∙ ap (λ es. all ++ map (λ e. e.msg) es) events_are
    ∙ ap (λ ts. ts ++ map (λ e. e.msg) strand.events) (
    second ∙ ap (λ ts. with_params ts (replicate strand.fresh 1)) (first ∙ ap (λ ts. with_params ts sorts) empty ∙ ap (with_params []) sorts_are)
    ∙ params_append [] strand.vars (replicate strand.fresh 1))
