use Rattle.std.proofs.Common.{◌≡◌, ◌++◌, flat_map, take}
use Rattle.asp_make.specs.Texts.{line, output_text}
use Rattle.asp_make.proofs.written.write_outputs.Given as goal

abbrev pub invariant-loop-i : goal.invariant-loop-i
invariant-loop-i l = l.out.items ≡ l.initial.out.items ++ flat_map (λ o. line (output_text o)) (take l.i l.outputs)
