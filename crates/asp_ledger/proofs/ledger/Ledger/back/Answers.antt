use Rattle.std.proofs.Common.{refl, arith}
use Rattle.asp_ledger.specs.declared.ledger.Ledger.TheInside.{Inside}
use Rattle.asp_ledger.proofs.LedgerLaws.{ledger-back}
use Rattle.asp_ledger.proofs.ledger.Ledger.back.Goals as goal

pub invariant_of-self-2 : goal.invariant_of-self-2
invariant_of-self-2 c =
    let i : Inside = c.self.inside in
    ledger-back i (record i { journal = c.push.new.self }) c.args.self.now c.self.view_is c.self.invariant refl refl refl c.left-left.result c.burnt-burnt.result
    (omega (arith, c.left-left.ensures.left, c.burnt-burnt.ensures.burnt)) refl _ c.in_ok-push.ensures.items c.of.ensures
