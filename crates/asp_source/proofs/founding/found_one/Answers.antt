use Rattle.std.proofs.Common.{◌-◌, Bool, true, false, List, set, arith, sym, subst}
use Rattle.asp_source.specs.Ranks.{Ranking}
use Rattle.asp_source.specs.Founding.{Founds}
use Rattle.asp_source.proofs.FoundLaws.{founds_same, founds_one, founded_by}
use Rattle.asp_source.proofs.founding.found_one.Goals as goal

pub returns-then-not-loose-var-clause-founds : goal.returns-then-not-loose-var-clause-founds
returns-then-not-loose-var-clause-founds c = founds_same c.args.compiled.now c.args.values.now c.args.sources.now c.args.ranks.now c.args.loose.now c.args.waiting.now

pub returns-in_default-clause-founds : goal.returns-in_default-clause-founds
returns-in_default-clause-founds c = founds_same c.args.compiled.now c.args.values.now c.args.sources.now c.args.ranks.now c.args.loose.now c.args.waiting.now

pub returns-clause-founds : goal.returns-clause-founds
returns-clause-founds c =
    subst (λ (w : List Bool). Founds c.args.compiled.now c.args.values.now c.args.sources.now c.args.ranks.now c.args.loose.now c.args.waiting.now
    (set c.args.sources.now c.args.var c.in-Some.body) c.raise.new.self (set c.args.loose.now c.args.var false) w) (sym c.add.ensures)
    (subst (λ (r : Ranking). Founds c.args.compiled.now c.args.values.now c.args.sources.now c.args.ranks.now c.args.loose.now c.args.waiting.now
    (set c.args.sources.now c.args.var c.in-Some.body) r (set c.args.loose.now c.args.var false)
    (set c.args.waiting.now (c.args.var - 1) true)) (sym c.raise.ensures.raised)
    (founds_one c.args.compiled.now c.args.values.now c.args.sources.now c.args.ranks.now c.args.loose.now c.args.waiting.now c.args.var
    c.in-Some.body c.requires.var c.if-not-loose-var.false c.in-Some.ensures.some c.raise.ensures.above
    (omega (arith, c.requires.var.0, c.requires.var.1, c.requires.room.waits))))

pub returns-clause-founded : goal.returns-clause-founded
returns-clause-founded c =
    sym (founded_by c.args.compiled.now c.args.values.now c.args.loose.now c.args.var c.in-Some.body c.if-not-loose-var.false c.in-Some.ensures.some)
