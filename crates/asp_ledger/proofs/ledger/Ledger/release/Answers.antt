use Rattle.std.proofs.Common.{refl}
use Rattle.asp_ledger.specs.declared.ledger.Ledger.TheInside.{Inside}
use Rattle.asp_ledger.proofs.LedgerLaws.{ledger-released}
use Rattle.asp_ledger.proofs.ledger.Ledger.release.Goals as goal

pub invariant_of-self-2 : goal.invariant_of-self-2
invariant_of-self-2 c =
    let i : Inside = c.self.inside in
    ledger-released i (record i { tree = c.release.new.self; journal = c.push.new.self }) c.args.self.now c.self.view_is c.self.invariant refl refl refl c.args.leaf
    c.requires c.release.ensures _ c.in_ok-push.ensures.items c.of.ensures
