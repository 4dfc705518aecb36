use Rattle.std.proofs.Common.{Contains, sym, subst}
use Rattle.std.proofs.lemmas.List.Elements.{Contains-get_or}
use Rattle.npa_back.proofs.PastNumbers.{fits}
use Rattle.npa_back.proofs.raising.raised.Goals as goal

-- src/raising.rt:21:19
pub rename-requires : goal.rename-requires
rename-requires c = record { fits = fits c.t-item.result c.args.terms.now c.args.base (subst (Contains c.args.terms.now) (sym c.t-item.is) (Contains-get_or c.args.terms.now c.loop-t.t-index c.t-item.result c.loop-t-test.true)) c.requires.few c.requires.room }
