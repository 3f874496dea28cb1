use Rattle.std.proofs.Common.{List, [], sym, ap, ◌∙◌, subst}
use Rattle.asp_model.specs.Costs.{cost, optima}
use Rattle.asp_model.specs.Sets.{Atoms}
use Rattle.asp_core.specs.declared.task.Task.{Task}
use Rattle.asp_core.specs.Boards.{is_answer, lists}
use Rattle.asp_book.specs.Books.{Booked}
use Rattle.asp_watermark.specs.Floors.{listed}
use Rattle.asp_stream.specs.Streams.{IsStreamOf, leaves_of}
use Rattle.asp_stream.specs.declared.part.Part.{Part}
use Rattle.asp_stream.proofs.PartLaws.{stream-atoms}
use Rattle.asp_stream.proofs.RunLaws.{start-begun}
use Rattle.asp_stream.proofs.TieLaws.{begun-delivered, delivered-some, optima-listed, ties-answers, ties-list, ties-lists, ties-task}
use Rattle.asp_stream.proofs.run.begun.Goals as goal

pub start-requires : goal.start-requires
start-requires c = ties-list c.in_ok-goal.goal c.args.bound.now c.in_ok-goal.ensures

pub deliver-requires : goal.deliver-requires
deliver-requires c =
    let p = c.args.compiled.now in
    let S = c.args.best.now in
    let s = c.in_ok-stream.stream in
    let task = ties-task p c.in_ok-goal.goal (cost p S) c.args.bound.now c.args.budget s c.in_ok-goal.ensures c.requires.bound c.in_ok-stream.ensures in
    record {
      answer = ap (λ (t : Task). is_answer t S) task ∙ ties-answers p S c.args.budget c.requires.best;
      listed = ap (λ (t : Task). lists t S) task ∙ ties-lists p S c.args.budget c.requires.best;
      program = c.in_ok-stream.ensures.stream.program;
      atoms = stream-atoms s _ _ _ c.in_ok-stream.ensures.stream;
    }

pub returns-clause-compiled : goal.returns-clause-compiled
returns-clause-compiled c = (λ k. (c.deliver.ensures.same.0 k).now) ∙ c.in_ok-stream.ensures.compiled

pub returns-clause-task : goal.returns-clause-task
returns-clause-task c =
    let p = c.args.compiled.now in
    ap (λ (v : Booked). v.task) c.in_ok-deliver.ensures.ledger
    ∙ ties-task p c.in_ok-goal.goal (cost p c.args.best.now) c.args.bound.now c.args.budget c.in_ok-stream.stream c.in_ok-goal.ensures c.requires.bound c.in_ok-stream.ensures

pub returns-clause-begun : goal.returns-clause-begun
returns-clause-begun c =
    begun-delivered c.in_ok-stream.stream.ledger c.deliver.new.self.ledger c.args.best.now
    (start-begun c.args.compiled.now c.in_ok-goal.goal c.args.budget c.in_ok-stream.stream.ledger c.in_ok-stream.ensures.ledger) c.in_ok-deliver.ensures.ledger

pub returns-clause-stream : goal.returns-clause-stream
returns-clause-stream c =
    let p = c.args.compiled.now in
    let S = c.args.best.now in
    let s = c.in_ok-stream.stream in
    let t = c.deliver.new.self in
    let task = ties-task p c.in_ok-goal.goal (cost p S) c.args.bound.now c.args.budget s c.in_ok-goal.ensures c.requires.bound c.in_ok-stream.ensures in
    let all = c.in_ok-stream.ensures.stream.all_are ∙ ap listed task ∙ optima-listed p S c.args.budget c.requires.best in
    subst (λ (l : List Part). IsStreamOf t (optima p) [] (leaves_of l)) (λ k. (sym c.deliver.ensures.same.1 k).items)
    (subst (λ (l : List Atoms). IsStreamOf t l [] (leaves_of s.parts.items)) all (c.in_ok-deliver.ensures.told _ _ _ c.in_ok-stream.ensures.stream))

pub returns-clause-some : goal.returns-clause-some
returns-clause-some c =
    delivered-some c.in_ok-stream.stream.ledger c.deliver.new.self.ledger c.args.best.now c.in_ok-deliver.ensures.ledger
