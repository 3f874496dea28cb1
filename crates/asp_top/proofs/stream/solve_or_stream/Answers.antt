use Rattle.std.proofs.Common.{◌∙◌}
use Rattle.asp_top.proofs.EndLaws.{solves-at-once, solves-streamed, streamed-as, streamed-list, streams-told}
use Rattle.asp_top.proofs.stream.solve_or_stream.Goals as goal

pub stream_list-requires-clause-listed : goal.stream_list-requires-clause-listed
stream_list-requires-clause-listed g c = streamed-list c.args.options.now c.ask_of-ask.result.mode c.is_streamed.result c.is_streamed.ensures c.if-is_streamed.true

pub returns-then-is_streamed-clause-solves : goal.returns-then-is_streamed-clause-solves
returns-then-is_streamed-clause-solves g c = λ p is.
    let on = streamed-as c.args.options.now p c.args.prepared.now c.program.result.now c.ask_of-ask.result c.is_streamed.result is c.program.ensures.program
    c.ask_of-ask.ensures c.is_streamed.ensures in
    solves-streamed c.args.options.now p c.args.prepared.now c.program.result.now c.ask_of-ask.result _ _ _ _ c.stream_list.result is
    c.program.ensures.program c.ask_of-ask.ensures (on ∙ c.if-is_streamed.true) c.stream_list.ensures.streams

pub returns-else-is_streamed-clause-solves : goal.returns-else-is_streamed-clause-solves
returns-else-is_streamed-clause-solves g c = λ p is.
    let off = streamed-as c.args.options.now p c.args.prepared.now c.program.result.now c.ask_of-ask.result c.is_streamed.result is c.program.ensures.program
    c.ask_of-ask.ensures c.is_streamed.ensures in
    solves-at-once c.args.options.now p _ _ _ _ c.solve.result (off ∙ c.if-is_streamed.false) (c.solve.ensures.solves p is)

pub returns-then-is_streamed-clause-flushed : goal.returns-then-is_streamed-clause-flushed
returns-then-is_streamed-clause-flushed g c =
    streams-told c.args.prepared.now.compiled c.ask_of-ask.result.mode c.args.options.now.budget c.args.options.now.models _ _ _ _ c.stream_list.result c.stream_list.ensures.streams
