use Rattle.npa_back.proofs.PastNumbers.{fits, there_is}
use Rattle.npa_back.proofs.raising.raised_message.Goals as goal

-- src/raising.rt:41:24
pub rename-requires : goal.rename-requires
rename-requires c =
    let t = c.in-Some-get.t.now in
    let there = c.in-Some-get.ensures.lookup in
    record { fits = fits t c.args.terms.now c.args.base (there_is c.args.terms.now c.in-Some.at t there.0 there.1) c.requires.few c.requires.room }
