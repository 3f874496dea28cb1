use Rattle.std.proofs.Common.{◌≡◌, ◌-◌, ◌<◌, ◌++◌, List, ℕ, [], Err, length, take, drop, refl, sym, ap, subst, ◌∙◌, arith, rules}
use Rattle.std.specs.Io.KnownBytes.{Consumes}
use Rattle.std.proofs.lemmas.List.{length-take-le}
use Rattle.std.proofs.lemmas.Result.{err_from_is_err_and}
use Rattle.asp_text.specs.Unread.{Unread}
use Rattle.asp_read.proofs.Supply.{starts, ended, any_text, taken, stopped_as, over, never, same_piece, parts, stops_failed, stops_ended, stops_refused, stops_over}
use Rattle.asp_read.proofs.stream.read_all.Goals as goal

-- ---- a failed read

pub returns-in-Err-clause-answers : goal.returns-in-Err-clause-answers
returns-in-Err-clause-answers g c = any_text g.J.Judge.format _ _ _ (λ o. tt)

pub returns-in-Err-clause-stops : goal.returns-in-Err-clause-stops
returns-in-Err-clause-stops g c =
    let left = g.S.Source.left in
    stops_failed g.J.Judge.format c.args.limit (left c.args.source.now) (left c.reading.source) (left c.read.new.self) c.reading.lines
    c.reading.reader c.reading.room c.reading.invariant.text c.in-Err.ensures.bytes c.reading.invariant.none_left

-- ---- the end

pub returns-then-count-eq0-clause-ends : goal.returns-then-count-eq0-clause-ends
returns-then-count-eq0-clause-ends g c =
    let left = g.S.Source.left in
    let none : take c.in-Ok.count c.read.new.buf ≡ [] = rw c.if-count-eq0.true refl in
    let eaten : Consumes (left c.reading.source) (left c.read.new.self) [] = subst (λ (b : List ℕ). Consumes (left c.reading.source) (left c.read.new.self) b) none c.in-Ok.ensures.bytes.0 in
    let some : 0 < length c.read.new.buf = search rules in
    λ r gives. ended g.J.Judge.format (left c.args.source.now) (left c.reading.source) (left c.read.new.self) c.args.limit c.reading.lines
    c.reading.reader c.reading.room r c.reading.invariant.text eaten (c.in-Ok.ensures.bytes.1 c.if-count-eq0.true some) gives

pub returns-then-count-eq0-clause-ends_there : goal.returns-then-count-eq0-clause-ends_there
returns-then-count-eq0-clause-ends_there g c =
    let left = g.S.Source.left in
    let none : take c.in-Ok.count c.read.new.buf ≡ [] = rw c.if-count-eq0.true refl in
    let eaten : Consumes (left c.reading.source) (left c.read.new.self) [] = subst (λ (b : List ℕ). Consumes (left c.reading.source) (left c.read.new.self) b) none c.in-Ok.ensures.bytes.0 in
    let some : 0 < length c.read.new.buf = search rules in
    λ r of_lines. stops_ended g.J.Judge.format c.args.limit (left c.args.source.now) (left c.reading.source) (left c.read.new.self) c.reading.lines
    c.reading.reader c.reading.room r c.reading.invariant.text eaten (c.in-Ok.ensures.bytes.1 c.if-count-eq0.true some)
    c.reading.invariant.none_left of_lines

pub returns-then-count-eq0-clause-quiet : goal.returns-then-count-eq0-clause-quiet
returns-then-count-eq0-clause-quiet g c = λ _. c.in-Ok.ensures.quiet ∙ c.reading.invariant.quiet

-- ---- more than may come

pub returns-in_err-take_piece-clause-answers : goal.returns-in_err-take_piece-clause-answers
returns-in_err-take_piece-clause-answers g c =
    let p = err_from_is_err_and c.from_residual.result c.from_residual.ensures.1 in
    let left = g.S.Source.left in
    let q = parts (left c.reading.source) (left c.read.new.self) c.read.new.buf (drop c.min-most.result c.reading.buf) c.reading.room c.in-Ok.count
    (omega arith) c.in-Ok.ensures.bound.0 c.in-Ok.ensures.bytes.0 in
    rw p.1 (stopped_as g.J.Judge.format (Err p.0) p.0 c.in_err-take_piece.field-0.0 _ (left c.reading.source) (left c.read.new.self)
    (take c.reading.room (c.read.new.buf ++ drop c.min-most.result c.reading.buf)) (drop c.reading.room (take c.in-Ok.count c.read.new.buf))
    c.args.limit c.reading.lines c.reading.reader c.reading.room 0 refl p.2 c.reading.invariant.text q.eaten (omega (arith, q.front))
    c.in_err-take_piece.ensures.fails)

pub returns-in_err-take_piece-clause-stops : goal.returns-in_err-take_piece-clause-stops
returns-in_err-take_piece-clause-stops g c =
    let p = err_from_is_err_and c.from_residual.result c.from_residual.ensures.1 in
    let left = g.S.Source.left in
    let q = parts (left c.reading.source) (left c.read.new.self) c.read.new.buf (drop c.min-most.result c.reading.buf) c.reading.room c.in-Ok.count
    (omega arith) c.in-Ok.ensures.bound.0 c.in-Ok.ensures.bytes.0 in
    rw p.1 (stops_refused g.J.Judge.format (Err p.0) p.0 c.in_err-take_piece.field-0.0 _ (left c.reading.source) (left c.read.new.self)
    (take c.reading.room (c.read.new.buf ++ drop c.min-most.result c.reading.buf)) (drop c.reading.room (take c.in-Ok.count c.read.new.buf))
    c.args.limit c.reading.lines c.reading.reader c.reading.room 0 refl p.2 c.reading.invariant.text q.eaten (omega (arith, q.front))
    c.reading.invariant.none_left c.in_err-take_piece.ensures.of_lines c.in_err-take_piece.ensures.fails)

pub returns-in_err-take_piece-clause-cause : goal.returns-in_err-take_piece-clause-cause
returns-in_err-take_piece-clause-cause g c =
    let p = err_from_is_err_and c.from_residual.result c.from_residual.ensures.1 in
    λ h. absurd (never c.from_residual.result p.0 c.in_err-take_piece.field-0.0 p.1 p.2 c.in_err-take_piece.ensures.of_lines h)

pub returns-in_err-take_piece-clause-quiet : goal.returns-in_err-take_piece-clause-quiet
returns-in_err-take_piece-clause-quiet g c = λ _. c.in-Ok.ensures.quiet ∙ c.reading.invariant.quiet

pub returns-then-count-room-clause-answers : goal.returns-then-count-room-clause-answers
returns-then-count-room-clause-answers g c =
    let left = g.S.Source.left in
    let q = parts (left c.reading.source) (left c.read.new.self) c.read.new.buf (drop c.min-most.result c.reading.buf) c.reading.room c.in-Ok.count
    (omega arith) c.in-Ok.ensures.bound.0 c.in-Ok.ensures.bytes.0 in
    over g.J.Judge.format _ (left c.reading.source) (left c.read.new.self)
    (take c.reading.room (c.read.new.buf ++ drop c.min-most.result c.reading.buf)) (drop c.reading.room (take c.in-Ok.count c.read.new.buf))
    c.args.limit c.reading.lines c.take_piece.new.lines c.reading.reader c.take_piece.new.reader c.reading.room c.reading.invariant.text q.eaten
    (sym q.front) (omega (arith, q.back, c.if-count-room.true)) c.in_ok-take_piece.ensures.none_left c.in_ok-take_piece.ensures.goes_on

pub returns-then-count-room-clause-stops : goal.returns-then-count-room-clause-stops
returns-then-count-room-clause-stops g c =
    let left = g.S.Source.left in
    let q = parts (left c.reading.source) (left c.read.new.self) c.read.new.buf (drop c.min-most.result c.reading.buf) c.reading.room c.in-Ok.count
    (omega arith) c.in-Ok.ensures.bound.0 c.in-Ok.ensures.bytes.0 in
    stops_over g.J.Judge.format _ (left c.reading.source) (left c.read.new.self)
    (take c.reading.room (c.read.new.buf ++ drop c.min-most.result c.reading.buf)) (drop c.reading.room (take c.in-Ok.count c.read.new.buf))
    c.args.limit c.reading.lines c.take_piece.new.lines c.reading.reader c.take_piece.new.reader c.reading.room c.reading.invariant.text q.eaten
    (sym q.front) (omega (arith, q.back, c.if-count-room.true)) c.reading.invariant.none_left c.in_ok-take_piece.ensures.none_left
    c.in_ok-take_piece.ensures.goes_on

pub returns-then-count-room-clause-quiet : goal.returns-then-count-room-clause-quiet
returns-then-count-room-clause-quiet g c = λ _. c.in-Ok.ensures.quiet ∙ c.reading.invariant.quiet

-- ---- one more piece

pub returns-in_err-take_piece-2-clause-answers : goal.returns-in_err-take_piece-2-clause-answers
returns-in_err-take_piece-2-clause-answers g c =
    let p = err_from_is_err_and c.from_residual-in_err-take_piece-2.result c.from_residual-in_err-take_piece-2.ensures.1 in
    let left = g.S.Source.left in
    let q = parts (left c.reading.source) (left c.read.new.self) c.read.new.buf (drop c.min-most.result c.reading.buf) c.in-Ok.count c.in-Ok.count
    (omega arith) c.in-Ok.ensures.bound.0 c.in-Ok.ensures.bytes.0 in
    rw p.1 (stopped_as g.J.Judge.format (Err p.0) p.0 c.in_err-take_piece-2.field-0.0 _ (left c.reading.source) (left c.read.new.self)
    (take c.in-Ok.count (c.read.new.buf ++ drop c.min-most.result c.reading.buf)) (drop c.in-Ok.count (take c.in-Ok.count c.read.new.buf))
    c.args.limit c.reading.lines c.reading.reader c.reading.room (c.reading.room - c.in-Ok.count) refl p.2 c.reading.invariant.text q.eaten
    (omega (arith, q.front, c.if-count-room.false)) c.in_err-take_piece-2.ensures.fails)

pub returns-in_err-take_piece-2-clause-stops : goal.returns-in_err-take_piece-2-clause-stops
returns-in_err-take_piece-2-clause-stops g c =
    let p = err_from_is_err_and c.from_residual-in_err-take_piece-2.result c.from_residual-in_err-take_piece-2.ensures.1 in
    let left = g.S.Source.left in
    let q = parts (left c.reading.source) (left c.read.new.self) c.read.new.buf (drop c.min-most.result c.reading.buf) c.in-Ok.count c.in-Ok.count
    (omega arith) c.in-Ok.ensures.bound.0 c.in-Ok.ensures.bytes.0 in
    rw p.1 (stops_refused g.J.Judge.format (Err p.0) p.0 c.in_err-take_piece-2.field-0.0 _ (left c.reading.source) (left c.read.new.self)
    (take c.in-Ok.count (c.read.new.buf ++ drop c.min-most.result c.reading.buf)) (drop c.in-Ok.count (take c.in-Ok.count c.read.new.buf))
    c.args.limit c.reading.lines c.reading.reader c.reading.room (c.reading.room - c.in-Ok.count) refl p.2 c.reading.invariant.text q.eaten
    (omega (arith, q.front, c.if-count-room.false)) c.reading.invariant.none_left c.in_err-take_piece-2.ensures.of_lines
    c.in_err-take_piece-2.ensures.fails)

pub returns-in_err-take_piece-2-clause-cause : goal.returns-in_err-take_piece-2-clause-cause
returns-in_err-take_piece-2-clause-cause g c =
    let p = err_from_is_err_and c.from_residual-in_err-take_piece-2.result c.from_residual-in_err-take_piece-2.ensures.1 in
    λ h. absurd (never c.from_residual-in_err-take_piece-2.result p.0 c.in_err-take_piece-2.field-0.0 p.1 p.2 c.in_err-take_piece-2.ensures.of_lines h)

pub returns-in_err-take_piece-2-clause-quiet : goal.returns-in_err-take_piece-2-clause-quiet
returns-in_err-take_piece-2-clause-quiet g c = λ _. c.in-Ok.ensures.quiet ∙ c.reading.invariant.quiet

pub reading-init : goal.reading-init
reading-init g c = record {
  text = starts g.J.Judge.format (g.S.Source.left c.args.source.now) c.args.limit c.args.lines.now c.args.reader.now c.requires.lines c.requires.start;
  none_left = rw c.requires.lines refl;
  fed = omega (arith, ap (λ (u : Unread). u.fed) c.requires.lines);
  quiet = refl;
  later = omega arith;
}

pub reading-preserved : goal.reading-preserved
reading-preserved g c =
    let left = g.S.Source.left in
    let piece = take c.in-Ok.count (c.read.new.buf ++ drop c.min-most.result c.reading.buf) in
    let within = c.in-Ok.ensures.bound.0 in
    let same : piece ≡ take c.in-Ok.count c.read.new.buf = same_piece c.read.new.buf (drop c.min-most.result c.reading.buf) c.in-Ok.count within in
    let eaten : Consumes (left c.reading.source) (left c.read.new.self) piece = subst (λ (b : List ℕ). Consumes (left c.reading.source) (left c.read.new.self) b) (sym same) c.in-Ok.ensures.bytes.0 in
    let len : length piece ≡ c.in-Ok.count = ap length same ∙ length-take-le c.in-Ok.count c.read.new.buf within in
    record {
      text = taken g.J.Judge.format _ (left c.reading.source) (left c.read.new.self) piece c.args.limit c.reading.lines
          c.take_piece-in-reading.new.lines c.reading.reader c.take_piece-in-reading.new.reader c.reading.room (c.reading.room - c.in-Ok.count)
          c.reading.invariant.text eaten (omega (arith, len, c.if-count-room.false)) c.in_ok-take_piece-2.ensures.goes_on;
      none_left = c.in_ok-take_piece-2.ensures.none_left;
      fed = omega (arith, c.in_ok-take_piece-2.ensures.fed, len, c.if-count-room.false, c.reading.invariant.fed);
      quiet = c.in-Ok.ensures.quiet ∙ c.reading.invariant.quiet;
      later = omega (arith, c.reading.invariant.later, c.in-Ok.ensures.cause.later);
    }
