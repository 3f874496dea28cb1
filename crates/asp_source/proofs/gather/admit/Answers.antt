use Rattle.std.proofs.Common.{sym, ap, ◌∙◌}
use Rattle.std.proofs.lemmas.Bool.{false≢true}
use Rattle.asp_vars.specs.Literals.{holds_in}
use Rattle.asp_source.proofs.GatherLaws.{admits_none, admits_seated, admits_joined}
use Rattle.asp_source.proofs.gather.admit.Goals as goal

pub returns-then-holds : goal.returns-then-holds
returns-then-holds c =
    admits_none c.args.region.now.compiled.now c.args.region.now.components.now c.args.region.now.values.now c.args.region.now.component
    c.args.region.now.ranks.now.ranks c.args.busy c.args.var c.args.sources.now c.args.loose.now c.args.waiting.now c.args.joined.now
    c.requires.none
    (λ alive. absurd (false≢true (sym alive ∙ (ap (holds_in c.args.region.now.values.now) (sym c.new.ensures) ∙ (sym c.holds.ensures ∙ c.if-holds.true))))) c.requires.gathering

pub returns-then-loose-var : goal.returns-then-loose-var
returns-then-loose-var c =
    admits_none c.args.region.now.compiled.now c.args.region.now.components.now c.args.region.now.values.now c.args.region.now.component
    c.args.region.now.ranks.now.ranks c.args.busy c.args.var c.args.sources.now c.args.loose.now c.args.waiting.now c.args.joined.now
    c.requires.none (λ alive. c.if-loose-var.true) c.requires.gathering

pub returns-then-reseat : goal.returns-then-reseat
returns-then-reseat c =
    admits_seated c.args.region.now.compiled.now c.args.region.now.components.now c.args.region.now.values.now c.args.region.now.component
    c.args.region.now.ranks.now.ranks c.args.busy c.args.var c.args.sources.now c.args.loose.now c.args.waiting.now c.args.joined.now
    c.reseat.new.sources c.program-program.ensures.sound c.requires.var c.requires.at c.if-loose-var.false
    (c.reseat.ensures.seated c.if-reseat.true) c.requires.gathering

pub returns : goal.returns
returns c =
    admits_joined c.args.region.now.compiled.now c.args.region.now.components.now c.args.region.now.values.now c.args.region.now.component
    c.args.region.now.ranks.now.ranks c.args.busy c.args.var c.args.sources.now c.args.loose.now c.args.waiting.now c.args.joined.now
    c.reseat.new.sources c.join.new.loose c.join.new.waiting c.join.new.joined c.program-program.ensures.sound c.requires.var c.requires.at
    c.requires.none c.if-loose-var.false (c.reseat.ensures.same c.if-reseat.false)
    c.join.ensures.loose c.join.ensures.waiting c.join.ensures.joined c.requires.gathering
