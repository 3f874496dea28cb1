use Rattle.std.proofs.Common.{List, [], ◌∷◌, ◌++◌, refl, ap, ◌∙◌}
use Rattle.asp_core.specs.declared.event.Event.{Event}
use Rattle.asp_ledger.specs.declared.ledger.Ledger.TheInside.{Inside}
use Rattle.asp_ledger.proofs.LedgerLaws.{ledger-split}
use Rattle.asp_ledger.proofs.ledger.Ledger.split.Goals as goal

pub invariant_of-self-2 : goal.invariant_of-self-2
invariant_of-self-2 c =
    let i : Inside = c.self.inside in
    ledger-split i (record i { tree = c.split.new.self; journal = c.push_reserved.new.self }) c.args.self.now c.self.view_is c.self.invariant refl refl refl c.args.leaf c.args.lit
    c.requires.held c.requires.variable c.requires.new (c.room.ensures.0 c.if-not-room.false) c.in_ok-leaves.ensures.ok _
    (c.push_reserved.ensures.items ∙ ap (λ (l : List Event). l ++ c.of.result ∷ []) c.in_ok-reserve.ensures.items) c.of.ensures
