use Rattle.std.proofs.Common.{Bool, true, false, List, Option, Some, set, sym, ap, ◌∙◌}
use Rattle.asp_vars.specs.Literals.{Literal, complement, value_of}
use Rattle.asp_checker.specs.Blocks.{is_blocked, cost_of_bound}
use Rattle.asp_checker.proofs.BlockLaws.{implied_other, neither_blocks}
use Rattle.asp_checker.proofs.blocks.implied_of.Goals as goal

pub would_be_blocked-is_false-requires-clause-no_value : goal.would_be_blocked-is_false-requires-clause-no_value
would_be_blocked-is_false-requires-clause-no_value c = ap (λ (l : Literal). value_of c.args.values.now l.var) c.new-held.ensures ∙ c.requires.no_value

pub would_be_blocked-is_true-requires-clause-no_value : goal.would_be_blocked-is_true-requires-clause-no_value
would_be_blocked-is_true-requires-clause-no_value c =
    ap (λ (l : Literal). value_of c.would_be_blocked-is_false.new.values l.var) (c.complement-failed.ensures ∙ ap complement c.new-held.ensures)
    ∙ ap (λ (z : List (Option Bool)). value_of z c.args.var) c.would_be_blocked-is_false.ensures.same ∙ c.requires.no_value

pub returns-then-is_false-clause-implied : goal.returns-then-is_false-clause-implied
returns-then-is_false-clause-implied c =
    implied_other c.args.compiled.now (cost_of_bound c.args.bound.now) c.args.values.now c.args.var true c.new-held.result c.complement-failed.result
    c.requires.positive c.requires.of c.requires.no_value c.new-held.ensures
    (c.complement-failed.ensures ∙ ap complement c.new-held.ensures) (sym c.would_be_blocked-is_false.ensures.blocked ∙ c.if-is_false.true)

pub returns-then-is_true-clause-implied : goal.returns-then-is_true-clause-implied
returns-then-is_true-clause-implied c =
    implied_other c.args.compiled.now (cost_of_bound c.args.bound.now) c.args.values.now c.args.var false c.complement-failed.result c.new-held.result
    c.requires.positive c.requires.of c.requires.no_value
    (c.complement-failed.ensures ∙ ap complement c.new-held.ensures) c.new-held.ensures
    (ap (λ (z : List (Option Bool)). is_blocked c.args.compiled.now (cost_of_bound c.args.bound.now)
    (set z c.complement-failed.result.var (Some c.complement-failed.result.truth))) (sym c.would_be_blocked-is_false.ensures.same)
    ∙ sym c.would_be_blocked-is_true.ensures.blocked ∙ c.if-is_true.true)

pub returns-clause-implied : goal.returns-clause-implied
returns-clause-implied c =
    neither_blocks c.args.compiled.now (cost_of_bound c.args.bound.now) c.args.values.now c.args.var c.new-held.result c.complement-failed.result c.new-held.ensures
    (c.complement-failed.ensures ∙ ap complement c.new-held.ensures) (sym c.would_be_blocked-is_false.ensures.blocked ∙ c.if-is_false.false)
    (ap (λ (z : List (Option Bool)). is_blocked c.args.compiled.now (cost_of_bound c.args.bound.now)
    (set z c.complement-failed.result.var (Some c.complement-failed.result.truth))) (sym c.would_be_blocked-is_false.ensures.same)
    ∙ sym c.would_be_blocked-is_true.ensures.blocked ∙ c.if-is_true.false)
