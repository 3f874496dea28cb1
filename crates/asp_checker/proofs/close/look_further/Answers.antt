use Rattle.std.proofs.Common.{Some, set, sym, ap, ◌∙◌}
use Rattle.std.specs.Prelude.{List, Option, Bool}
use Rattle.asp_checker.specs.Blocks.{known_by}
use Rattle.asp_checker.proofs.CloseLaws.{found_conflict, found_implied}
use Rattle.asp_checker.proofs.close.look_further.Goals as goal

pub returns-then-is_blocked : goal.returns-then-is_blocked
returns-then-is_blocked c = λ rows. found_conflict c.args.compiled.now (known_by rows c.args.bound.now) c.args.values.now c.program-program.ensures.sound (sym c.if-is_blocked.ensures)

pub returns-in-None : goal.returns-in-None
returns-in-None c = λ rows. (c.in-None.ensures.same, sym c.if-is_blocked.ensures, c.in-None.ensures.implied)

pub returns-in-Some : goal.returns-in-Some
returns-in-Some c = λ rows.
    found_implied c.args.compiled.now (known_by rows c.args.bound.now) c.args.values.now c.set.new.self c.in-Some.lit c.program-program.ensures.sound c.requires.size c.in-Some.ensures.implied
    (c.set.ensures ∙ ap (λ (z : List (Option Bool)). set z c.in-Some.lit.var (Some c.in-Some.lit.truth)) c.in-Some.ensures.same)
