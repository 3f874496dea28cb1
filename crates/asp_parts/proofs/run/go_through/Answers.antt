use Rattle.std.proofs.Common.{refl, ◌∙◌}
use Rattle.asp_parts.proofs.CourseLaws.{front-of, front-then, telling-front}
use Rattle.asp_parts.proofs.run.go_through.Goals as goal

pub rounds-init : goal.rounds-init
rounds-init g c = record {
  run = c.requires.run;
  program = c.requires.program;
  all = refl;
  after = g.met.R.Reader.begins c.args.reader.now;
  heard = g.met.W.Watch.begins c.args.watch.now;
}

pub returns-then-is_empty-clause-front : goal.returns-then-is_empty-clause-front
returns-then-is_empty-clause-front g c =
    front-of c.args.compiled.now (g.R.Reader.program c.rounds.reader) (g.R.Reader.all c.args.reader.now) (g.R.Reader.all c.rounds.reader) (g.R.Reader.heard c.rounds.reader)
    c.rounds.invariant.program c.rounds.invariant.all c.requires.all (telling-front c.args.compiled.now _ c.rounds.run.parts.items c.rounds.invariant.run.telling)

pub go_on-requires-clause-all : goal.go_on-requires-clause-all
go_on-requires-clause-all g c κs within = c.rounds.invariant.all ∙ c.requires.all

pub returns-in_err-go_on-clause-front : goal.returns-in_err-go_on-clause-front
returns-in_err-go_on-clause-front g c = front-then c.args.compiled.now _ _ _ _ _ c.rounds.invariant.all c.go_on.ensures.front

pub returns-in_err-go_on-clause-after : goal.returns-in_err-go_on-clause-after
returns-in_err-go_on-clause-after g c = g.met.R.Reader.goes_on c.args.reader.now c.rounds.reader c.go_on.new.reader c.rounds.invariant.after c.go_on.ensures.after

pub returns-in_err-go_on-clause-heard : goal.returns-in_err-go_on-clause-heard
returns-in_err-go_on-clause-heard g c = g.met.W.Watch.goes_on c.args.watch.now c.rounds.watch c.go_on.new.watch c.rounds.invariant.heard c.go_on.ensures.heard

pub returns-then-not-branch-clause-front : goal.returns-then-not-branch-clause-front
returns-then-not-branch-clause-front g c = front-then c.args.compiled.now _ _ _ _ _ c.rounds.invariant.all c.go_on.ensures.front

pub returns-then-not-branch-clause-after : goal.returns-then-not-branch-clause-after
returns-then-not-branch-clause-after g c = g.met.R.Reader.goes_on c.args.reader.now c.rounds.reader c.go_on.new.reader c.rounds.invariant.after c.go_on.ensures.after

pub returns-then-not-branch-clause-heard : goal.returns-then-not-branch-clause-heard
returns-then-not-branch-clause-heard g c = g.met.W.Watch.goes_on c.args.watch.now c.rounds.watch c.go_on.new.watch c.rounds.invariant.heard c.go_on.ensures.heard

pub rounds-preserved : goal.rounds-preserved
rounds-preserved g c = record {
  run = c.in_ok-go_on.ensures.run;
  program = c.go_on.ensures.front.program;
  all = c.go_on.ensures.front.all_are ∙ c.rounds.invariant.all;
  after = g.met.R.Reader.goes_on c.args.reader.now c.rounds.reader c.go_on.new.reader c.rounds.invariant.after c.go_on.ensures.after;
  heard = g.met.W.Watch.goes_on c.args.watch.now c.rounds.watch c.go_on.new.watch c.rounds.invariant.heard c.go_on.ensures.heard;
}
