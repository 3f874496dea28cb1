use Rattle.std.proofs.Common.{List, length, sym, ap, ◌∙◌}
use Rattle.std.specs.List.{list_all}
use Rattle.asp_model.specs.declared.program.Program.{Program}
use Rattle.asp_vars.specs.Literals.{Literal}
use Rattle.asp_vars.specs.Numbering.{nth_body}
use Rattle.asp_found.proofs.MarkLaws.{literals_small}
use Rattle.asp_stable.specs.Holding.{is_held}
use Rattle.asp_stable.proofs.HoldingLaws.{held_normal}
use Rattle.asp_stable.proofs.holding.holds.Goals as goal

pub all_held-requires-clause-assign : goal.all_held-requires-clause-assign
all_held-requires-clause-assign c = literals_small c.args.compiled.now c.literals.result.now (length c.args.assign.now) c.requires.assign c.literals.ensures.atoms

pub all_held-requires-clause-marks : goal.all_held-requires-clause-marks
all_held-requires-clause-marks c = literals_small c.args.compiled.now c.literals.result.now (length c.args.marks.now) c.requires.marks c.literals.ensures.atoms

pub returns-in-None : goal.returns-in-None
returns-in-None c =
    let p : Program = c.args.compiled.now in
    c.all_held.ensures
    ∙ ap (λ (ls : List Literal). list_all (is_held c.args.assign.now c.args.marks.now) ls) c.literals.ensures.literals
    ∙ held_normal p c.args.assign.now c.args.marks.now (nth_body p c.args.body) (sym c.in-None.ensures)
