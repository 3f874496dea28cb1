use Rattle.std.proofs.Common.{sym, ◌∙◌}
use Rattle.asp_source.proofs.GatherLaws.{Drops, drops_lost, gather_dropped, steps_same, steps_lost, not_lost, same_lost}
use Rattle.asp_source.proofs.gather.release.Goals as goal

pub returns-then-not-lose-clause-steps : goal.returns-then-not-lose-clause-steps
returns-then-not-lose-clause-steps c =
    steps_same c.args.region.now.compiled.now c.args.region.now.components.now c.args.region.now.values.now c.args.region.now.component
    c.args.region.now.ranks.now.ranks c.args.busy c.args.sources.now c.args.loose.now c.args.waiting.now c.args.joined.now c.lose.new.sources
    (same_lost c.args.sources.now c.lose.new.sources c.args.var c.args.body c.lose.result c.lose.ensures.sources c.lose.ensures.lost
    c.if-not-lose.true) c.requires.gathering

pub returns-then-not-lose-clause-released : goal.returns-then-not-lose-clause-released
returns-then-not-lose-clause-released c =
    not_lost c.args.region.now.compiled.now c.args.region.now.components.now c.args.region.now.values.now c.args.region.now.component
    c.args.region.now.ranks.now.ranks c.args.sources.now c.args.loose.now c.args.waiting.now c.lose.new.sources c.args.var c.args.body
    c.lose.result (same_lost c.args.sources.now c.lose.new.sources c.args.var c.args.body c.lose.result c.lose.ensures.sources c.lose.ensures.lost
    c.if-not-lose.true) c.lose.ensures.lost c.if-not-lose.true

pub admit-requires-clause-gathering : goal.admit-requires-clause-gathering
admit-requires-clause-gathering c =
    gather_dropped c.args.region.now.compiled.now c.args.region.now.components.now c.args.region.now.values.now c.args.region.now.component
    c.args.region.now.ranks.now.ranks c.args.busy c.args.sources.now c.args.loose.now c.args.waiting.now c.args.joined.now c.lose.new.sources
    c.args.var (drops_lost c.args.sources.now c.lose.new.sources c.args.var c.args.body c.lose.result c.lose.ensures.sources c.lose.ensures.lost
    c.if-not-lose.false) c.requires.gathering

pub admit-requires-clause-at : goal.admit-requires-clause-at
admit-requires-clause-at c = sym c.of.ensures ∙ c.if-of-region.false

pub admit-requires-clause-none : goal.admit-requires-clause-none
admit-requires-clause-none c =
    let drops : Drops c.args.sources.now c.lose.new.sources c.args.var =
    drops_lost c.args.sources.now c.lose.new.sources c.args.var c.args.body c.lose.result c.lose.ensures.sources c.lose.ensures.lost
    c.if-not-lose.false in
    drops.none

pub returns-clause-steps : goal.returns-clause-steps
returns-clause-steps c =
    steps_lost c.args.region.now.compiled.now c.args.region.now.components.now c.args.region.now.values.now c.args.region.now.component
    c.args.region.now.ranks.now.ranks c.args.busy c.args.var c.args.sources.now c.args.loose.now c.args.waiting.now c.lose.new.sources
    c.admit.new.sources c.admit.new.loose c.admit.new.waiting c.admit.new.joined
    (drops_lost c.args.sources.now c.lose.new.sources c.args.var c.args.body c.lose.result c.lose.ensures.sources c.lose.ensures.lost
    c.if-not-lose.false) c.admit.ensures

pub returns-clause-released : goal.returns-clause-released
returns-clause-released c = c.admit.ensures.clear c.args.body c.requires.body
