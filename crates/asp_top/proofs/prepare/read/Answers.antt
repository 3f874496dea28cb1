use Rattle.asp_read.specs.declared.fault.ReadError.TheVariants as errors
use Rattle.asp_top.proofs.RunLaws.{ok-no-fault, over-unread, prepares, ready-read}
use Rattle.asp_top.proofs.prepare.read.Goals as goal

pub ready-requires : goal.ready-requires
ready-requires g c = c.in-Ok.ensures.sound

pub returns-in-Ok : goal.returns-in-Ok
returns-in-Ok g c = λ none.
    let read = c.in-Ok.ensures in
    prepares c.args.options.now _ _ _ _ c.in-Ok.program _
    (ready-read c.args.options.now _ _ _ _ c.in-Ok.program none read.sound read.text read.some_text read.end read.later
    (read.quiet (ok-no-fault c.in-Ok.program errors.ReadFault)))
    c.ready.ensures.same c.ready.ensures.numbers c.ready.ensures.wanting

pub returns-in-Err : goal.returns-in-Err
returns-in-Err g c = λ none.
    let read = c.in-Err.ensures in
    over-unread c.args.options.now _ _ _ _ c.in-Err.error c.status_of.result c.status_of.ensures none read.text read.some_text read.later read.cause read.stops read.quiet
