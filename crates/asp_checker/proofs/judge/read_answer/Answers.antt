use Rattle.asp_checker.proofs.SetListLaws.{among_answer}
use Rattle.asp_checker.proofs.judge.read_answer.Goals as goal

pub push-requires : goal.push-requires
push-requires c = among_answer c.args.compiled.now c.args.answers.now.atoms c.in_ok-set.set c.requires.atoms (rw c.in-None.is at c.in_ok-fault.ensures).member
