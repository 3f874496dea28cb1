use Rattle.std.proofs.Common.{◌≡◌, ◌++◌, take}
use Rattle.asp_compile.specs.Forms.{item_words}
use Rattle.asp_compile.proofs.form.add_items.Given as goal

abbrev pub invariant-loop-literal : goal.invariant-loop-literal
invariant-loop-literal l = l.key.items ≡ l.initial.key.items ++ item_words (take l.literal-index l.items)
