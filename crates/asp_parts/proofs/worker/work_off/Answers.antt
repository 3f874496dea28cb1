use Rattle.std.proofs.Common.{None}
use Rattle.asp_parts.specs.declared.part.Part.{Part}
use Rattle.asp_parts.proofs.PartLaws.{alone-ends, alone-row}
use Rattle.asp_parts.proofs.worker.work_off.Goals as goal

pub take_all-requires-clause-row : goal.take_all-requires-clause-row
take_all-requires-clause-row c =
    let t : Part = record { leaf = c.args.leaf; found = None; tries = c.args.tries } in
    alone-row c.args.bench.now.compiled.now t c.new-waiting.result.items c.push.new.self.items c.new-done.result.items (record { leaf = c.requires.leaf; found = tt })
    c.new-waiting.ensures.items c.in_ok-push.ensures.items c.new-done.ensures.items

pub returns-clause-pieces : goal.returns-clause-pieces
returns-clause-pieces c =
    let t : Part = record { leaf = c.args.leaf; found = None; tries = c.args.tries } in
    alone-ends c.args.bench.now.compiled.now t c.new-waiting.result.items c.push.new.self.items c.new-done.result.items c.take_all.new.waiting.items c.take_all.new.done.items
    c.reverse.new.self.items c.append.new.self.items c.new-waiting.ensures.items c.in_ok-push.ensures.items c.new-done.ensures.items c.in_ok-take_all.ensures.same
    c.reverse.ensures.items c.in_ok-append.ensures.items
