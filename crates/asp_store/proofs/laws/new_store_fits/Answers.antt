use Rattle.asp_store.proofs.FitsLaws.{fits_begin}
use Rattle.asp_store.proofs.laws.new_store_fits.Goals as goal

pub returns : goal.returns
returns c = fits_begin
