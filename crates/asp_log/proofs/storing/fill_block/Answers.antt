use Rattle.std.proofs.Common.{◌≡◌, [], ◌∷◌, ◌++◌, ap, ◌∙◌}
use Rattle.std.specs.Arc.{arc_value}
use Rattle.asp_log.specs.declared.block.Block.{Block}
use Rattle.asp_log.proofs.BlockLaws.{stored-filled}
use Rattle.asp_log.proofs.storing.fill_block.Goals as goal

pub returns-in-Ok-clause-ok : goal.returns-in-Ok-clause-ok
returns-in-Ok-clause-ok c =
    let items : (arc_value c.in-Ok.block).items.items ≡ c.args.tail.now.items ++ c.args.entry ∷ [] =
    ap (λ (b : Block). b.items.items) c.in-Ok.ensures.ok ∙ (λ k. (c.replace-items.ensures.value k).items) ∙ c.in_ok-push.ensures.ok in
    stored-filled c.args.blocks.now.items c.push_reserved.new.self.items c.in-Ok.block c.args.tail.now.items c.replace-items.new.dest.items c.args.entry
    (c.push_reserved.ensures.items ∙ ap (λ bs. bs ++ c.in-Ok.block ∷ []) c.reserve.ensures.items) items ((λ k. (c.replace-items.ensures.after k).items) ∙ c.new.ensures.items)
