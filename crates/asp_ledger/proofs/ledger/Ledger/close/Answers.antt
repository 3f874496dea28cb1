use Rattle.std.proofs.Common.{refl}
use Rattle.asp_ledger.specs.declared.ledger.Ledger.TheInside.{Inside}
use Rattle.asp_ledger.proofs.LedgerLaws.{ledger-closed}
use Rattle.asp_ledger.proofs.ledger.Ledger.close.Goals as goal

pub invariant_of-self-2 : goal.invariant_of-self-2
invariant_of-self-2 c =
    let i : Inside = c.self.inside in
    ledger-closed i (record i { tree = c.mark.new.self; journal = c.push.new.self }) c.args.self.now c.self.view_is c.self.invariant refl refl refl c.args.leaf c.args.nogood
    c.requires.held c.requires.within c.requires.settled c.mark.ensures _ c.in_ok-push.ensures.items c.of.ensures
