use Rattle.std.proofs.Common.{ℕ, List, ap, ◌∙◌, ◌++◌}
use Rattle.std.proofs.lemmas.Result.{on_ok_weaker}
use Rattle.asp_unsat.specs.Blaming.{coded_in}
use Rattle.asp_unsat.proofs.BlamedLaws.{coded-blamed}
use Rattle.asp_unsat.proofs.blamed.add_blamed.Goals as goal

pub returns : goal.returns
returns c =
    on_ok_weaker c.add_coded.result
    (λ is. is
    ∙ ap (λ (ks : List ℕ). c.args.core.now.items ++ coded_in c.args.compiled.now ks c.args.literals.now) c.in_ok-codes.ensures
    ∙ ap (λ xs. c.args.core.now.items ++ xs) (coded-blamed c.args.compiled.now c.args.reasons.now c.args.literals.now))
    c.add_coded.ensures
