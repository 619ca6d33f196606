use Rattle.stream_lists.proofs.Fitting.{fits_is}
use Rattle.stream_lists.proofs.list_laws.fits_is_all_in_range.Goals as goal

pub returns : goal.returns
returns c = fits_is
