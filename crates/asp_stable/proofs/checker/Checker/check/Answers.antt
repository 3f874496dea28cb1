use Rattle.std.proofs.Common.{subst}
use Rattle.asp_model.specs.Sets.{IsAscending}
use Rattle.asp_model.specs.Sound.{IsSound}
use Rattle.asp_stable.proofs.FoundingLaws.{derived_stable}
use Rattle.asp_stable.proofs.checker.Checker.check.Goals as goal

pub returns-then-is_founded-clause-verdict : goal.returns-then-is_founded-clause-verdict
returns-then-is_founded-clause-verdict c =
    derived_stable c.args.self.now c.args.interp.now c.args.assign.now (subst IsSound c.self.view_is c.program-program.ensures.sound)
    (subst IsAscending c.as_slice-atoms.ensures.value c.as_slice-atoms.ensures.ascending)
    c.requires.within c.requires.kept c.requires.values (c.is_founded.ensures.founded c.if-is_founded.true)
