use Rattle.std.proofs.Common.{◌≡◌, List, Option, Bool, Some, set, ap, ◌∙◌}
use Rattle.asp_checker.specs.Blocks.{known_by}
use Rattle.asp_checker.proofs.CloseLaws.{found_implied}
use Rattle.asp_checker.proofs.chase.force_open.Goals as goal

pub would_be_blocked_by-blocked-requires-clause-of : goal.would_be_blocked_by-blocked-requires-clause-of
would_be_blocked_by-blocked-requires-clause-of c = rw c.complement.ensures c.requires.of

pub would_be_blocked_by-blocked-requires-clause-no_value : goal.would_be_blocked_by-blocked-requires-clause-no_value
would_be_blocked_by-blocked-requires-clause-no_value c = rw c.complement.ensures c.requires.no_value

pub returns : goal.returns
returns c = λ rows.
    let now : c.set.new.self ≡ set c.args.values.now c.args.lit.var (Some c.args.lit.truth) =
    c.set.ensures ∙ ap (λ (z : List (Option Bool)). set z c.args.lit.var (Some c.args.lit.truth)) c.would_be_blocked_by-blocked.ensures.same in
    let found = found_implied c.args.compiled.now (known_by rows c.args.bound.now) c.args.values.now c.set.new.self c.args.lit c.program-program.ensures.sound c.requires.size
    (record {
      var = c.requires.positive;
      of = c.requires.of;
      no_value = c.requires.no_value;
      blocked =
          rw c.complement.ensures at (c.would_be_blocked_by-blocked.ensures.blocked c.if-not-blocked.false);
    })
    now in
    (found.0, now)
