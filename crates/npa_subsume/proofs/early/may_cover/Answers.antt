use Rattle.std.proofs.Common.{sym, ◌∙◌}
use Rattle.npa_subsume.proofs.Kept.{sent_strands}
use Rattle.npa_subsume.proofs.early.may_cover.Goals.{then-have_kinds, else-have_kinds}
use Rattle.npa_subsume.proofs.early.may_cover.Goals as goal

pub returns-then-have_heads : goal.returns-then-have_heads
returns-then-have_heads c e o (u, at, cover) =
    let no = rw (c.as_slice-then-have_heads.ensures, c.as_slice-then-have_heads-2.ensures) at c.have_heads-then-have_heads.ensures in
    no e u cover.lies.unknown

pub returns-else-have_heads : goal.returns-else-have_heads
returns-else-have_heads c e o (u, at, cover) = elim c.if-have_kinds.branch [
  | then-have_kinds w ↦
      let no = rw (w.as_slice-then-have_kinds.ensures, w.as_slice-then-have_kinds-2.ensures) at w.have_heads.ensures in
      no (sym w.value-is ∙ e) u cover.lies.known
  | else-have_kinds w ↦
      let sent = sent_strands o c.args.t.now c.args.s.now (u, at, cover) in
      let no = rw (c.as_slice.ensures, c.as_slice-2.ensures) at c.have_kinds.ensures in
      no w.if-have_kinds.false sent.0 sent.1
]
