use Rattle.std.proofs.Common.{List, length, sym, ap, ◌∙◌}
use Rattle.std.specs.List.{list_all}
use Rattle.asp_model.specs.declared.program.Program.{Program}
use Rattle.asp_vars.specs.Literals.{Literal}
use Rattle.asp_vars.specs.Numbering.{nth_body}
use Rattle.asp_found.specs.Marks.{lit_between}
use Rattle.asp_found.proofs.MarkLaws.{holds_normal, literals_small}
use Rattle.asp_found.proofs.marks.holds.Goals as goal

pub all_between-requires-clause-lits : goal.all_between-requires-clause-lits
all_between-requires-clause-lits c = literals_small c.args.compiled.now c.literals.result.now (length c.args.set.now) c.requires.set c.literals.ensures.atoms

pub returns-in-None : goal.returns-in-None
returns-in-None c =
    let p : Program = c.args.compiled.now in
    c.all_between.ensures
    ∙ ap (λ (ls : List Literal). list_all (lit_between c.args.set.now c.args.derived.now) ls) c.literals.ensures.literals
    ∙ holds_normal p c.args.set.now c.args.derived.now (nth_body p c.args.body) (sym c.in-None.ensures)
