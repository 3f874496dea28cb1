use Rattle.std.proofs.Common.{refl, rules}
use Rattle.asp_top.specs.Progress.{scope}
use Rattle.asp_top.proofs.TellLaws.{held_told}
use Rattle.asp_top.proofs.progress.Progress.tell_held.Goals as goal

pub returns-clause-told : goal.returns-clause-told
returns-clause-told g c = λ sought.
    held_told (scope c.args.self.now.on c.args.self.now.parts c.args.self.now.row sought) _ _ c.args.counts.now.answers
    (search rules) (search rules) (search rules) refl refl refl c.write_held-self.ensures
