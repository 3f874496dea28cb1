use Rattle.std.proofs.Common.{refl}
use Rattle.asp_ledger.specs.declared.ledger.Ledger.TheInside.{Inside}
use Rattle.asp_ledger.proofs.LedgerLaws.{ledger-delivered}
use Rattle.asp_ledger.proofs.ledger.Ledger.deliver.Goals as goal

pub invariant_of-self-2 : goal.invariant_of-self-2
invariant_of-self-2 c =
    let i : Inside = c.self.inside in
    ledger-delivered i (record i { journal = c.push.new.self }) c.args.self.now c.self.view_is c.self.invariant refl refl refl c.args.set.now
    c.requires.answer c.requires.listed refl _ c.in_ok-push.ensures.items c.listing.ensures
