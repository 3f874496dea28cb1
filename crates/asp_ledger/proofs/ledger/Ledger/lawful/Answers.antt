use Rattle.asp_ledger.proofs.LedgerLaws.{listing-of}
use Rattle.asp_ledger.proofs.ledger.Ledger.lawful.Goals as goal

pub returns-clause-task : goal.returns-clause-task
returns-clause-task c = listing-of c.self.inside c.args.self.now c.self.view_is c.self.invariant
