use Rattle.npa_model.proofs.Comparing.{if_ok}
use Rattle.npa_model.proofs.Fitted.{fits_exactly}
use Rattle.npa_model.proofs.fit.is_fit.Goals as goal

pub returns : goal.returns
returns c = if_ok c.fits.result c.fits.ensures (λ b e. fits_exactly c.args.protocol.now c.args.g.now b e)
