use Rattle.std.proofs.Common.{◌≡◌, ℕ, ◌∙◌, [], ap, false, refl, rules, subst, sym}
use mathlib.Core.List.{IsPrefix}
use Rattle.asp_limit.specs.Limits.{heard_of}
use Rattle.asp_outlet.specs.Outlets.{Heard, moment}
use Rattle.asp_top.specs.Runs.{Streams, mode_after}
use Rattle.asp_top.proofs.AfterLaws.{list-is, mode-of-first, rest-after}
use Rattle.asp_top.proofs.EndLaws.{from-start, limited-start, streams-moved, streams-of}
use Rattle.asp_top.proofs.stream.stream.Goals as goal

pub tell-told-requires-clause-all : goal.tell-told-requires-clause-all
tell-told-requires-clause-all g c = ap (λ (l : Heard). l.all) c.new-outlet.ensures.heard
    ∙ list-is c.is_some.result c.program.result.now c.args.compiled.now c.args.first c.is_some.ensures c.program.ensures.program

pub end_run-outcome-requires-clause-mode : goal.end_run-outcome-requires-clause-mode
end_run-outcome-requires-clause-mode g c = mode-of-first c.args.compiled.now c.args.options.now.budget c.args.first c.requires.first

pub end_run-outcome-requires-clause-rest : goal.end_run-outcome-requires-clause-rest
end_run-outcome-requires-clause-rest g c =
    rest-after c.tell-told.result c.args.compiled.now _ c.args.options.now.budget c.args.first _ _ c.requires.first c.tell-told.ensures.front.program c.tell-told.ensures.told

pub returns-clause-streams : goal.returns-clause-streams
returns-clause-streams g c =
    let p = c.args.compiled.now in
    let first = c.args.first in
    let units = c.args.options.now.budget in
    let reader = c.tell-told.new.reader in
    let begun = c.new-outlet.result in
    let h = g.K.Sink.held c.args.sink.now in
    let w = g.K.Sink.faults c.args.sink.now in
    let ended = c.end_run-outcome in
    let told = c.tell-told.ensures in
    let none = ap (λ (l : Heard). l.sets) c.new-outlet.ensures.heard in
    let list = told.front.all_are ∙ ap (λ (l : Heard). l.all) c.new-outlet.ensures.heard ∙ list-is c.is_some.result c.program.result.now p first c.is_some.ensures c.program.ensures.program in
    let front = subst (IsPrefix (heard_of reader.outlet.listing.all reader.outlet.listing.sets reader.left)) (sym told.front.all_are) told.front.front in
    let after = from-start g.K.Sink.held g.K.Sink.faults c.args.sink.now begun.outlet.sink.now reader.outlet.sink.now begun.outlet.listing reader.outlet.listing
    begun.outlet.failed reader.outlet.failed
    c.new-outlet.ensures.now none c.new-outlet.ensures.failed told.after.1 told.after.3 in
    let limited = told.after.4 (limited-start begun.models begun.outlet.listing.sets begun.left begun.short none c.new-outlet.ensures.left) in
    let models : reader.models ≡ c.args.options.now.models = told.after.2 ∙ c.new-outlet.ensures.models in
    let inner = streams-of c.tell-told.result p reader.outlet.listing.program reader.outlet.listing.all first units reader.models reader.outlet.listing.sets reader.left reader.outlet.failed
    reader.short h (g.K.Sink.held ended.new.outlet.outlet.sink.now) w (g.K.Sink.faults ended.new.outlet.outlet.sink.now) ended.result c.requires.first told.front.program list front limited
    told.told told.some (ended.ensures.ends (moment [] h w false) refl refl after) in
    streams-moved g.K.Sink.held g.K.Sink.faults p (mode_after first) units c.args.options.now.models h w _ c.hand_back.new._sink ended.result
    (search (rules, ended.ensures.same, told.after.0, c.new-outlet.ensures.same))
    (streams-moved g.K.Sink.held g.K.Sink.faults p (mode_after first) units c.args.options.now.models h w c.hand_back.new._sink ended.new.outlet.outlet.sink.now ended.result c.hand_back.ensures
    (subst (λ (n : ℕ). Streams p (mode_after first) units n h (g.K.Sink.held ended.new.outlet.outlet.sink.now) w (g.K.Sink.faults ended.new.outlet.outlet.sink.now) ended.result) models inner))
