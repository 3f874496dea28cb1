use Rattle.std.proofs.Common.{ℕ, List, [], ◌∷◌, sym, ap, ◌∙◌, subst}
use Rattle.asp_vars.specs.Literals.{Literal}
use Rattle.asp_vars.specs.Numbering.{IsVar, var_count}
use Rattle.asp_core.specs.declared.task.Task.{Task}
use Rattle.asp_book.specs.Books.{Booked, board}
use Rattle.asp_crew.proofs.BookLaws.{board-task}
use Rattle.asp_stream.specs.Lows.{IsSure}
use Rattle.asp_stream.specs.Streams.{HasHalves, IsStream, leaves_of}
use Rattle.asp_stream.specs.declared.stream.Stream.{Stream}
use Rattle.asp_stream.proofs.LowLaws.{sure-low, sure-second}
use Rattle.asp_stream.proofs.StreamLaws.{divided-now, first-held, halves-at, halves-more, has-room, row-of-board, split-now, stream-divided}
use Rattle.asp_stream.proofs.stream.divide.Goals as goal

pub low-requires : goal.low-requires
low-requires g c = c.requires.knows.program ∙ c.requires.program

pub low-requires-2 : goal.low-requires-2
low-requires-2 g c = c.requires.knows.program ∙ c.requires.program

pub split-requires-clause-variable : goal.split-requires-clause-variable
split-requires-clause-variable g c =
    subst (λ (t : Task). IsVar (var_count t.program) c.args.lit.var) (sym (board-task c.args.stream.now.ledger)) c.requires.open.0

pub split-requires-clause-new : goal.split-requires-clause-new
split-requires-clause-new g c = c.requires.open.1

pub unreachable-requires : goal.unreachable-requires
unreachable-requires g c = has-room (board c.args.stream.now.ledger) c.in_ok-split.field-0 c.in_ok-split.ensures.leaves c.requires.room c.in-None.is

pub unreachable-unreachable : goal.unreachable-unreachable
unreachable-unreachable g c = has-room (board c.args.stream.now.ledger) c.in_ok-split.field-0 c.in_ok-split.ensures.leaves c.requires.room c.in-None.is

pub release-requires : goal.release-requires
release-requires g c =
    let v = c.args.stream.now.ledger in
    let at = halves-at (board v) c.in_ok-split.field-0 c.in-Some.leaves c.in_ok-split.ensures.leaves c.in-Some.is in
    first-held v c.split.new.self c.args.leaf c.args.lit c.in-Some.leaves.0 c.requires.held
    (split-now v c.split.new.self c.args.leaf c.args.lit c.in_ok-split.field-0 c.in-Some.leaves c.in_ok-split.ensures.journal c.in-Some.is) (ap (λ (l : ℕ × ℕ). l.0) at)

pub returns-clause-ledger : goal.returns-clause-ledger
returns-clause-ledger g c =
    let v = c.args.stream.now.ledger in
    let at = halves-at (board v) c.in_ok-split.field-0 c.in-Some.leaves c.in_ok-split.ensures.leaves c.in-Some.is in
    ap (λ (s : Stream). s.ledger) c.push_halves.ensures.same
    ∙ divided-now v c.split.new.self c.release.new.self c.args.leaf c.args.lit c.in-Some.leaves.0
    (split-now v c.split.new.self c.args.leaf c.args.lit c.in_ok-split.field-0 c.in-Some.leaves c.in_ok-split.ensures.journal c.in-Some.is) (ap (λ (l : ℕ × ℕ). l.0) at)
    c.in_ok-release-in-Some.ensures.ok

pub returns-clause-parts : goal.returns-clause-parts
returns-clause-parts g c =
    halves-more c.in-Some.leaves c.in_ok-first.first c.in_ok-second.second c.args.stream.now.parts.items c.push_halves.new.stream.parts.items c.in_ok-push_halves-in-Some.ensures.parts

pub returns-clause-stream : goal.returns-clause-stream
returns-clause-stream g c = λ all heard is.
    let s = c.args.stream.now in
    let v = s.ledger in
    let parts = c.push_halves.new.stream.parts.items in
    let at = halves-at (board v) c.in_ok-split.field-0 c.in-Some.leaves c.in_ok-split.ensures.leaves c.in-Some.is in
    let now =
    divided-now v c.split.new.self c.release.new.self c.args.leaf c.args.lit c.in-Some.leaves.0
    (split-now v c.split.new.self c.args.leaf c.args.lit c.in_ok-split.field-0 c.in-Some.leaves c.in_ok-split.ensures.journal c.in-Some.is) (ap (λ (l : ℕ × ℕ). l.0) at)
    c.in_ok-release-in-Some.ensures.ok in
    let second =
    subst (λ (more : List Literal). IsSure c.args.search.now more c.in_ok-second.second.set) (c.as_slice.ensures ∙ ap (λ (l : Literal). l ∷ []) c.complement.ensures) c.in_ok-second.ensures.low in
    subst (λ (t : Stream). IsStream t.compiled.now t.ledger t.heard all heard t.backlog t.parts.items (leaves_of t.parts.items)) (sym c.push_halves.ensures.same)
    (subst (λ (w : Booked). IsStream s.compiled.now w s.heard all heard s.backlog parts (leaves_of parts)) (sym now)
    (stream-divided s.compiled.now v c.args.leaf c.args.lit c.in_ok-first.first c.in_ok-second.second all heard s.backlog s.parts.items parts is
    (c.requires.held, c.requires.room, subst (λ (t : Task). IsVar (var_count t.program) c.args.lit.var) (sym (board-task v)) c.requires.open.0, c.requires.open.1)
    (sure-low v c.args.search.now c.args.leaf c.lawful.ensures.task c.requires.knows c.in_ok-first.first.set c.in_ok-first.ensures.row.among.rising c.in_ok-first.ensures.low)
    (sure-second v c.args.search.now c.args.leaf c.lawful.ensures.task c.requires.knows c.args.lit c.in_ok-second.second.set c.in_ok-second.ensures.row.among.rising second)
    (row-of-board s.compiled.now v c.in_ok-first.first c.requires.program c.in_ok-first.ensures.row)
    (row-of-board s.compiled.now v c.in_ok-second.second c.requires.program c.in_ok-second.ensures.row)
    (subst (λ (l : ℕ × ℕ). HasHalves l c.in_ok-first.first c.in_ok-second.second s.parts.items parts) at c.in_ok-push_halves-in-Some.ensures.parts)))
