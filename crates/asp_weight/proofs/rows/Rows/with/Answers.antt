use Rattle.std.proofs.Common.{subst, sym, List}
use Rattle.asp_model.specs.declared.program.Body.{Body}
use Rattle.asp_weight.specs.Rows.{AreRows}
use Rattle.asp_weight.proofs.BuildLaws.{next_unweighed}
use Rattle.asp_weight.proofs.rows.Rows.with.Goals as goal

pub returns-in-None : goal.returns-in-None
returns-in-None c =
    let p = c.args.compiled.now in
    subst (λ (bs : List Body). AreRows p bs c.args.self.shapes.items c.args.self.rows) (next_unweighed p c.args.body c.requires.body (sym c.in-None.ensures)) c.requires.rows
