use Rattle.std.proofs.Common.{refl, sym, ◌∙◌}
use Rattle.asp_ledger.specs.declared.ledger.Ledger.TheInside.{Inside}
use Rattle.asp_ledger.proofs.LedgerLaws.{ledger-took}
use Rattle.asp_ledger.proofs.ledger.Ledger.take.Goals as goal

pub invariant_of-self-2 : goal.invariant_of-self-2
invariant_of-self-2 c =
    let i : Inside = c.self.inside in
    ledger-took i (record i { tree = c.hold.new.self; journal = c.push.new.self }) c.args.self.now c.self.view_is c.self.invariant refl refl refl c.args.leaf
    (sym c.is_open.ensures ∙ c.if-not-is_open.false) c.requires c.hold.ensures _ c.in_ok-push.ensures.items c.of.ensures
