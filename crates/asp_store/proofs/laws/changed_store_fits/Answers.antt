use Rattle.asp_store.proofs.FitsLaws.{fits_add, fits_lock, fits_recall, fits_remove, fits_lose}
use Rattle.asp_store.proofs.laws.changed_store_fits.Goals as goal

pub returns-clause-add : goal.returns-clause-add
returns-clause-add c s z t id n kind a f = fits_add s z t id n kind a f

pub returns-clause-lock : goal.returns-clause-lock
returns-clause-lock c s t id b h f = fits_lock s t id b h f

pub returns-clause-recall : goal.returns-clause-recall
returns-clause-recall c s t f = fits_recall s t f

pub returns-clause-lose : goal.returns-clause-lose
returns-clause-lose c s z t l named f = fits_lose s z t l named f

pub returns-clause-remove : goal.returns-clause-remove
returns-clause-remove c s t id h unnamed f = fits_remove s t id h unnamed f
