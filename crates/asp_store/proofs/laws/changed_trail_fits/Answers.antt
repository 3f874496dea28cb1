use Rattle.std.proofs.Common.{sym, ◌∙◌}
use Rattle.std.proofs.lemmas.Option.{none-some}
use Rattle.asp_store.proofs.FitsLaws.{fits_clear, fits_cut, fits_imply, fits_open}
use Rattle.asp_store.proofs.laws.changed_trail_fits.Goals as goal

pub returns-clause-open : goal.returns-clause-open
returns-clause-open c s t e le none f = fits_open s t e le (λ id small q. none-some id (sym none ∙ q)) f

pub returns-clause-imply : goal.returns-clause-imply
returns-clause-imply c s t e id n le some g r f = fits_imply s t e id n le some g r f

pub returns-clause-cut : goal.returns-clause-cut
returns-clause-cut c s t l r f = fits_cut s t l r f

pub returns-clause-clear : goal.returns-clause-clear
returns-clause-clear c s t active f = fits_clear s t active f
