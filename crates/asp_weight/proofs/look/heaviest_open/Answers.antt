-- From the first item that is light enough on all are.
use Rattle.std.proofs.Common.{ap, arith}
use Rattle.std.proofs.lemmas.List.{get_or_read}
use Rattle.asp_weight.proofs.RowLaws.{none_open, light_from}
use Rattle.asp_trail.specs.Fixpoint.{is_open}
use Rattle.asp_weight.specs.declared.item.Item.{Item}
use Rattle.asp_weight.proofs.look.heaviest_open.Goals as goal

pub returns-then-item-least-clause-none : goal.returns-then-item-least-clause-none
returns-then-item-least-clause-none c =
    light_from (is_open c.args.values.now) c.args.least c.args.row.now c.loop-i.i c.requires.falling
    (none_open (is_open c.args.values.now) c.args.least c.args.row.now c.loop-i.i c.loop-i.invariant.each)
    (λ d h. omega (arith, c.if-item-least.true, ap (λ (i : Item). i.weight) (get_or_read c.args.row.now c.loop-i.i c.index-row-i.result h c.index-row-i.is d)))

pub returns-clause-none : goal.returns-clause-none
returns-clause-none c =
    light_from (is_open c.args.values.now) c.args.least c.args.row.now c.loop-i.i c.requires.falling
    (none_open (is_open c.args.values.now) c.args.least c.args.row.now c.loop-i.i c.loop-i.invariant.each)
    (λ d h. absurd (omega (arith, h, c.loop-i-test.false)))
