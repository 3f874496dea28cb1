use Rattle.std.proofs.Common.{◌+◌, ap, refl, sym}
use Rattle.asp_proof.specs.Walk.{proof_of}
use Rattle.asp_checker.proofs.StreamLaws.{end_front, end_refused}
use Rattle.asp_checker.proofs.stream.judge_end.Goals as goal

pub judge_last-requires-clause-last : goal.judge_last-requires-clause-last
judge_last-requires-clause-last g c = rw c.line.ensures at c.in-Some.ensures

pub returns-in-Some-clause-says : goal.returns-in-Some-clause-says
returns-in-Some-clause-says g c = λ p entries sound l a.
    let q = proof_of c.args.sought entries c.args.answers.now.sets in
    c.judge_last.ensures.says p q
    (end_front p c.args.sought entries c.args.tally.count (c.args.tally.count + c.len-count.result + 3) c.args.tally.whole c.args.found.now.sets c.args.answers.now.sets
    c.args.reader.now sound l a (ap (λ n. c.args.tally.count + n + 3) c.len-count.ensures.count))
    (sym c.len-count.ensures.count)
    (c.fault_of_end-fault.ensures p q refl refl l.whole_is l.found_is)

pub returns-in-None-clause-says : goal.returns-in-None-clause-says
returns-in-None-clause-says g c = λ p entries sound l a. rw c.refused.ensures
    (end_refused p c.args.sought entries c.args.tally.count (c.args.tally.count + c.len-count.result + 3) c.args.tally.whole c.args.found.now.sets c.args.answers.now.sets
    (g.S.Source.left c.args.source.now) c.args.reader.now l a (ap (λ n. c.args.tally.count + n + 3) c.len-count.ensures.count) (rw c.line.ensures at c.in-None.ensures))
