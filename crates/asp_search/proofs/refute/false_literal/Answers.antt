use Rattle.std.proofs.Common.{ℕ, IsSome, sym, subst}
use Rattle.asp_vars.specs.Literals.{complement, value_of}
use Rattle.asp_trail.specs.Entries.{assignment}
use Rattle.asp_search.proofs.RefuteLaws.{has_value}
use Rattle.asp_search.proofs.refute.false_literal.Goals as goal

pub level_of-requires-clause-has : goal.level_of-requires-clause-has
level_of-requires-clause-has c =
    let l = c.lit-item.result in
    let es = c.args.trail.now.entries in
    let has : IsSome (value_of (assignment c.args.vars es) l.var) =
    has_value (value_of (assignment c.args.vars es) l.var) (complement l) (c.is_false.ensures.holds c.if-is_false.true) in
    subst (λ (v : ℕ). IsSome (value_of (assignment c.args.trail.now.vars es) v)) (sym c.var.ensures)
    (subst (λ (n : ℕ). IsSome (value_of (assignment n es) l.var)) (sym c.requires) has)
