use Rattle.std.proofs.Common.{◌≡◌, ◌+◌, ◌*◌, ◌/◌, ◌%◌, ◌-◌, List, length, get_or, sym, ap, ◌∙◌, arith}
use Rattle.std.proofs.lemmas.List.{length-drop}
use Rattle.asp_vars.specs.declared.nogood.Nogood.{Nogood}
use Rattle.asp_log.specs.declared.block.Block.{Block}
use Rattle.asp_log.specs.Blocks.{stored}
use Rattle.asp_log.proofs.BlockLaws.{length-stored, at-blocked, at-tail, shown-at}
use Rattle.asp_log.proofs.shown.View.entry.Goals as goal

pub index-requires-else-at-len : goal.index-requires-else-at-len
index-requires-else-at-len c =
    let i = c.self.inside in
    omega (
      arith,
      ap (λ (x : List Nogood). length x) c.self.view_is,
      length-drop i.skipped (stored i.blocks.items i.tail.items),
      length-stored i.blocks.items i.tail.items,
      c.requires,
      c.len.ensures,
      c.len-else-at-len.ensures,
    )

pub returns-then-at-len : goal.returns-then-at-len
returns-then-at-len c =
    let i = c.self.inside in
    let entry = c.index-then-at-len.result.now in
    let read : entry ≡ get_or (stored i.blocks.items i.tail.items) (i.skipped + c.args.i) entry =
    c.index-then-at-len.ensures ∙ ap (λ (b : Block). get_or b.items.items ((i.skipped + c.args.i) % 64) entry) c.deref-block.ensures
    ∙ sym (at-blocked i.blocks.items i.tail.items ((i.skipped + c.args.i) / 64) ((i.skipped + c.args.i) % 64) (i.skipped + c.args.i)
    c.index.result.now entry (omega (arith, c.if-at-len.true, c.len.ensures)) (omega arith) (omega arith) c.index.ensures) in
    shown-at c.args.self.now (stored i.blocks.items i.tail.items) i.skipped c.args.i entry c.self.view_is c.requires read

pub returns-else-at-len : goal.returns-else-at-len
returns-else-at-len c =
    let i = c.self.inside in
    let entry = c.index-else-at-len.result.now in
    let read : entry ≡ get_or (stored i.blocks.items i.tail.items) (i.skipped + c.args.i) entry =
    c.index-else-at-len.ensures
    ∙ sym (at-tail i.blocks.items i.tail.items (i.skipped + c.args.i - c.len-else-at-len.result * 64) (i.skipped + c.args.i) entry
    (omega (arith, c.if-at-len.false, c.len.ensures, c.len-else-at-len.ensures))) in
    shown-at c.args.self.now (stored i.blocks.items i.tail.items) i.skipped c.args.i entry c.self.view_is c.requires read
