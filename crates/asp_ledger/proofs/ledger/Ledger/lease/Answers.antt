use Rattle.std.proofs.Common.{refl, arith}
use Rattle.asp_ledger.specs.declared.ledger.Ledger.TheInside.{Inside}
use Rattle.asp_ledger.proofs.LedgerLaws.{ledger-leased}
use Rattle.asp_ledger.proofs.ledger.Ledger.lease.Goals as goal

pub invariant_of-self-2 : goal.invariant_of-self-2
invariant_of-self-2 c =
    let i : Inside = c.self.inside in
    ledger-leased i (record i { journal = c.push.new.self }) c.args.self.now c.self.view_is c.self.invariant refl refl refl c.left-units.result
    (omega (arith, c.left-units.ensures.left)) refl _ c.in_ok-push.ensures.items c.of.ensures
