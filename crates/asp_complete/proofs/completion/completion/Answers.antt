use Rattle.std.proofs.Common.{List, sym, subst}
use Rattle.std.specs.List.{AllByRecursion}
use Rattle.asp_vars.specs.declared.nogood.Nogood.{Nogood}
use Rattle.asp_vars.specs.Entailment.{Entailed}
use Rattle.asp_complete.proofs.ListedLaws.{listed_entailed}
use Rattle.asp_complete.proofs.completion.completion.Goals as goal

pub returns-clause-entailed : goal.returns-clause-entailed
returns-clause-entailed c =
    subst (λ (ns : List Nogood). AllByRecursion (λ n. Entailed c.args.compiled.now n.lits) ns) (sym c.in_ok-nogoods.ensures)
    (listed_entailed c.args.compiled.now c.program-program.ensures.sound)
