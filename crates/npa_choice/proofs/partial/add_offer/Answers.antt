use Rattle.std.proofs.Common.{◌≡◌, ◌++◌, Some, slice_set, ◌∙◌, ap, rules}
use Rattle.npa_match.specs.Matching.{read_pairs}
use Rattle.npa_choice.specs.Partial.{IsFree, placed}
use Rattle.npa_choice.proofs.Holding.{both_read, witnessed_more}
use Rattle.npa_choice.proofs.partial.add_offer.Goals as goal

pub returns-clause-added : goal.returns-clause-added
returns-clause-added c =
    let o = c.args.sorts.now in
    let choice = c.args.choice.now in
    let f = c.args.offer.now in
    let new : c.extend_from_slice.new.self ≡ choice.pairs ++ f.pairs =
    c.in_ok-extend_from_slice.ensures.ok ∙ ap (λ ps. c.in_ok-pairs.pairs ++ ps) c.as_slice-more.ensures ∙ ap (λ ps. ps ++ f.pairs) (c.in_ok-pairs.ensures ∙ c.as_slice-4.ensures) in
    let read = both_read choice.pairs f.pairs c.extend_from_slice.new.self new in
    let witness = rw (c.in-Some.is, c.as_slice-more.ensures) at c.in_ok-bound.ensures.found in
    let free : IsFree choice.used f.place = search rules in
    record {
      chosen = c.set.ensures ∙ ap (λ xs. slice_set xs c.args.k (Some c.args.n)) (c.in_ok-chosen.ensures ∙ c.as_slice-3.ensures);
      used = c.in_ok-used.ensures ∙ ap (λ us. us ++ placed f.place) c.as_slice-2.ensures;
      pairs = read;
      free = free;
      witnessed = witnessed_more o choice c.requires.witnessed _ (read_pairs f.pairs) read witness
          (λ e. let x = c.stays_once-once.ensures e in (x.0, λ s. rw c.as_slice-more.ensures at (x.1 o s)));
    }
