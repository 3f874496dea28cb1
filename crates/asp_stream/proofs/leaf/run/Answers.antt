use Rattle.std.proofs.Common.{◌<◌, length, refl, sym, ◌∙◌, subst}
use Rattle.asp_model.specs.declared.results.Mode.TheVariants.{Enum}
use Rattle.asp_path.specs.Trees.{cube_of}
use Rattle.asp_book.specs.Books.{Booked, board}
use Rattle.asp_search.specs.Beside.{IsOpen}
use Rattle.asp_crew.proofs.StepLaws.{along-begins}
use Rattle.asp_stream.specs.Leaves.{GoesOn}
use Rattle.asp_stream.specs.Streams.{IsCrowded}
use Rattle.asp_stream.specs.declared.leaf.Course.{Course}
use Rattle.asp_stream.proofs.CourseLaws.{along-same, along-step, ends-closed, ends-crowded, ends-unpaid, ends-unwanted, knows-now}
use Rattle.asp_stream.proofs.PartLaws.{front-then, leaves-same, program-same, stream-atoms, stream-front}
use Rattle.asp_stream.proofs.leaf.run.Goals as goal

pub steps-init : goal.steps-init
steps-init g c = record {
  along = along-begins Enum c.args.stream.now.ledger c.args.search.now c.args.fuel.now c.requires.underway;
  compiled = refl;
  parts = refl;
  stream = c.requires.stream;
  front = stream-front c.args.stream.now _ _ _ _ c.lawful.ensures.task c.lawful.ensures.journal c.requires.program c.requires.stream;
  after = g.met.R.Reader.begins c.args.reader.now;
  heard = g.met.W.Watch.begins c.args.watch.now;
}

pub advance-requires : goal.advance-requires
advance-requires g c = record {
  underway = c.steps.invariant.along.underway;
  program = c.steps.invariant.stream.program;
  atoms = stream-atoms c.steps.stream _ _ _ c.steps.invariant.stream;
}

pub look-requires : goal.look-requires
look-requires g c = record {
  stream =
      leaves-same c.steps.stream c.advance.new.stream _ _ c.args.leaf c.advance.ensures.same.1 (c.in_ok-course.ensures.stream _ _ _ c.steps.invariant.stream);
  program = program-same c.args.stream.now c.advance.new.stream _ (c.advance.ensures.same.0 ∙ c.steps.invariant.compiled) c.steps.invariant.front.program;
  knows =
      knows-now c.args.stream.now.ledger c.advance.new.stream.ledger c.args.leaf c.args.search.now c.advance.new.search c.advance.new.fuel
      (along-step _ c.steps.stream.ledger c.advance.new.stream.ledger _ c.steps.search c.advance.new.search c.steps.fuel c.advance.new.fuel _
      c.steps.invariant.along c.in_ok-course.ensures.goes) c.requires.cube;
}

pub steps-preserved : goal.steps-preserved
steps-preserved g c = record {
  along =
      along-same c.args.stream.now.ledger c.advance.new.stream.ledger c.look.new.stream.ledger c.args.search.now c.advance.new.search c.advance.new.fuel
      (along-step _ c.steps.stream.ledger c.advance.new.stream.ledger _ c.steps.search c.advance.new.search c.steps.fuel c.advance.new.fuel _
      c.steps.invariant.along c.in_ok-course.ensures.goes) c.look.ensures.keeps.ledger;
  compiled = c.look.ensures.keeps.compiled ∙ c.advance.ensures.same.0 ∙ c.steps.invariant.compiled;
  parts = c.look.ensures.keeps.parts ∙ c.advance.ensures.same.1 ∙ c.steps.invariant.parts;
  stream = c.in_ok-look.ensures.stream;
  front = front-then c.args.stream.now c.advance.new.stream _ _ _ _ _ (c.advance.ensures.same.0 ∙ c.steps.invariant.compiled) c.steps.invariant.front.all_are c.look.ensures.front;
  after = g.met.R.Reader.goes_on c.args.reader.now c.steps.reader c.look.new.reader c.steps.invariant.after c.look.ensures.after;
  heard = g.met.W.Watch.goes_on c.args.watch.now c.steps.watch c.tell.new.self c.steps.invariant.heard c.tell.ensures;
}

pub steps-smaller : goal.steps-smaller
steps-smaller g c =
    (subst (λ (how : Course). GoesOn c.steps.stream.ledger c.advance.new.stream.ledger c.steps.search c.advance.new.search c.steps.fuel c.advance.new.fuel how)
    c.in-Open.is c.in_ok-course.ensures.goes).course

pub returns-in-Closed-clause-ends : goal.returns-in-Closed-clause-ends
returns-in-Closed-clause-ends g c =
    ends-closed c.args.stream.now.ledger c.steps.stream.ledger c.advance.new.stream.ledger c.args.leaf c.args.search.now c.steps.search c.advance.new.search
    c.steps.fuel c.advance.new.fuel c.in-Closed.nogood c.steps.invariant.along
    (subst (λ (how : Course). GoesOn c.steps.stream.ledger c.advance.new.stream.ledger c.steps.search c.advance.new.search c.steps.fuel c.advance.new.fuel how)
    c.in-Closed.is c.in_ok-course.ensures.goes)

pub returns-in-Unpaid-clause-ends : goal.returns-in-Unpaid-clause-ends
returns-in-Unpaid-clause-ends g c =
    ends-unpaid c.args.stream.now.ledger c.steps.stream.ledger c.advance.new.stream.ledger c.args.leaf c.args.search.now c.steps.search c.advance.new.search
    c.steps.fuel c.advance.new.fuel c.in-Unpaid.conflict c.steps.invariant.along
    (subst (λ (how : Course). GoesOn c.steps.stream.ledger c.advance.new.stream.ledger c.steps.search c.advance.new.search c.steps.fuel c.advance.new.fuel how)
    c.in-Unpaid.is c.in_ok-course.ensures.goes)

pub returns-in-Crowded-clause-ends : goal.returns-in-Crowded-clause-ends
returns-in-Crowded-clause-ends g c =
    let crowded = subst (IsCrowded c.advance.new.stream.ledger c.args.leaf) c.in-Crowded.is c.in_ok-look.ensures.view in
    let now = c.look.ensures.keeps.ledger in
    ends-crowded c.args.stream.now.ledger c.look.new.stream.ledger c.args.leaf c.args.search.now c.advance.new.search c.advance.new.fuel c.in-Crowded.lit
    (along-same c.args.stream.now.ledger c.advance.new.stream.ledger c.look.new.stream.ledger c.args.search.now c.advance.new.search c.advance.new.fuel
    (along-step _ c.steps.stream.ledger c.advance.new.stream.ledger _ c.steps.search c.advance.new.search c.steps.fuel c.advance.new.fuel _
    c.steps.invariant.along c.in_ok-course.ensures.goes) now)
    (subst (λ (v : Booked). length (board v).nodes < 4194304) (sym now) crowded.0)
    (subst (λ (v : Booked). IsOpen v.task.program (cube_of (board v).nodes c.args.leaf) c.in-Crowded.lit) (sym now) crowded.1)

pub returns-in-Unwanted-clause-ends : goal.returns-in-Unwanted-clause-ends
returns-in-Unwanted-clause-ends g c =
    ends-unwanted c.args.stream.now.ledger c.look.new.stream.ledger c.args.leaf c.args.search.now c.advance.new.search c.advance.new.fuel
    (along-same c.args.stream.now.ledger c.advance.new.stream.ledger c.look.new.stream.ledger c.args.search.now c.advance.new.search c.advance.new.fuel
    (along-step _ c.steps.stream.ledger c.advance.new.stream.ledger _ c.steps.search c.advance.new.search c.steps.fuel c.advance.new.fuel _
    c.steps.invariant.along c.in_ok-course.ensures.goes) c.look.ensures.keeps.ledger)

pub returns-in_err-course-clause-same : goal.returns-in_err-course-clause-same
returns-in_err-course-clause-same g c = (c.advance.ensures.same.0 ∙ c.steps.invariant.compiled, c.advance.ensures.same.1 ∙ c.steps.invariant.parts)

pub returns-in_err-course-clause-front : goal.returns-in_err-course-clause-front
returns-in_err-course-clause-front g c = c.steps.invariant.front

pub returns-in_err-course-clause-after : goal.returns-in_err-course-clause-after
returns-in_err-course-clause-after g c = c.steps.invariant.after

pub returns-in_err-course-clause-heard : goal.returns-in_err-course-clause-heard
returns-in_err-course-clause-heard g c = c.steps.invariant.heard

pub returns-in-Closed-clause-same : goal.returns-in-Closed-clause-same
returns-in-Closed-clause-same g c = (c.advance.ensures.same.0 ∙ c.steps.invariant.compiled, c.advance.ensures.same.1 ∙ c.steps.invariant.parts)

pub returns-in-Closed-clause-front : goal.returns-in-Closed-clause-front
returns-in-Closed-clause-front g c = c.steps.invariant.front

pub returns-in-Closed-clause-after : goal.returns-in-Closed-clause-after
returns-in-Closed-clause-after g c = c.steps.invariant.after

pub returns-in-Closed-clause-heard : goal.returns-in-Closed-clause-heard
returns-in-Closed-clause-heard g c = g.met.W.Watch.goes_on c.args.watch.now c.steps.watch c.tell.new.self c.steps.invariant.heard c.tell.ensures

pub returns-in-Closed-clause-unwanted : goal.returns-in-Closed-clause-unwanted
returns-in-Closed-clause-unwanted g c = λ e. absurd (let f : ⊥ = cc in f)

pub returns-in-Closed-clause-stream : goal.returns-in-Closed-clause-stream
returns-in-Closed-clause-stream g c = leaves-same c.steps.stream c.advance.new.stream _ _ c.args.leaf c.advance.ensures.same.1 (c.in_ok-course.ensures.stream _ _ _ c.steps.invariant.stream)

pub returns-in-Unpaid-clause-same : goal.returns-in-Unpaid-clause-same
returns-in-Unpaid-clause-same g c = (c.advance.ensures.same.0 ∙ c.steps.invariant.compiled, c.advance.ensures.same.1 ∙ c.steps.invariant.parts)

pub returns-in-Unpaid-clause-front : goal.returns-in-Unpaid-clause-front
returns-in-Unpaid-clause-front g c = c.steps.invariant.front

pub returns-in-Unpaid-clause-after : goal.returns-in-Unpaid-clause-after
returns-in-Unpaid-clause-after g c = c.steps.invariant.after

pub returns-in-Unpaid-clause-heard : goal.returns-in-Unpaid-clause-heard
returns-in-Unpaid-clause-heard g c = g.met.W.Watch.goes_on c.args.watch.now c.steps.watch c.tell.new.self c.steps.invariant.heard c.tell.ensures

pub returns-in-Unpaid-clause-unwanted : goal.returns-in-Unpaid-clause-unwanted
returns-in-Unpaid-clause-unwanted g c = λ e. absurd (let f : ⊥ = cc in f)

pub returns-in-Unpaid-clause-stream : goal.returns-in-Unpaid-clause-stream
returns-in-Unpaid-clause-stream g c = leaves-same c.steps.stream c.advance.new.stream _ _ c.args.leaf c.advance.ensures.same.1 (c.in_ok-course.ensures.stream _ _ _ c.steps.invariant.stream)

pub returns-in_err-look-clause-same : goal.returns-in_err-look-clause-same
returns-in_err-look-clause-same g c = (
  c.look.ensures.keeps.compiled ∙ c.advance.ensures.same.0 ∙ c.steps.invariant.compiled,
  c.look.ensures.keeps.parts ∙
      c.advance.ensures.same.1 ∙ c.steps.invariant.parts,
)

pub returns-in_err-look-clause-front : goal.returns-in_err-look-clause-front
returns-in_err-look-clause-front g c = front-then c.args.stream.now c.advance.new.stream _ _ _ _ _ (c.advance.ensures.same.0
    ∙ c.steps.invariant.compiled) c.steps.invariant.front.all_are c.look.ensures.front

pub returns-in_err-look-clause-after : goal.returns-in_err-look-clause-after
returns-in_err-look-clause-after g c = g.met.R.Reader.goes_on c.args.reader.now c.steps.reader c.look.new.reader c.steps.invariant.after c.look.ensures.after

pub returns-in_err-look-clause-heard : goal.returns-in_err-look-clause-heard
returns-in_err-look-clause-heard g c = g.met.W.Watch.goes_on c.args.watch.now c.steps.watch c.tell.new.self c.steps.invariant.heard c.tell.ensures

pub returns-in-Crowded-clause-same : goal.returns-in-Crowded-clause-same
returns-in-Crowded-clause-same g c = (
  c.look.ensures.keeps.compiled ∙ c.advance.ensures.same.0 ∙ c.steps.invariant.compiled,
  c.look.ensures.keeps.parts ∙
      c.advance.ensures.same.1 ∙ c.steps.invariant.parts,
)

pub returns-in-Crowded-clause-front : goal.returns-in-Crowded-clause-front
returns-in-Crowded-clause-front g c = front-then c.args.stream.now c.advance.new.stream _ _ _ _ _ (c.advance.ensures.same.0
    ∙ c.steps.invariant.compiled) c.steps.invariant.front.all_are c.look.ensures.front

pub returns-in-Crowded-clause-after : goal.returns-in-Crowded-clause-after
returns-in-Crowded-clause-after g c = g.met.R.Reader.goes_on c.args.reader.now c.steps.reader c.look.new.reader c.steps.invariant.after c.look.ensures.after

pub returns-in-Crowded-clause-heard : goal.returns-in-Crowded-clause-heard
returns-in-Crowded-clause-heard g c = g.met.W.Watch.goes_on c.args.watch.now c.steps.watch c.tell.new.self c.steps.invariant.heard c.tell.ensures

pub returns-in-Unwanted-clause-same : goal.returns-in-Unwanted-clause-same
returns-in-Unwanted-clause-same g c = (
  c.look.ensures.keeps.compiled ∙ c.advance.ensures.same.0 ∙ c.steps.invariant.compiled,
  c.look.ensures.keeps.parts ∙
      c.advance.ensures.same.1 ∙ c.steps.invariant.parts,
)

pub returns-in-Unwanted-clause-front : goal.returns-in-Unwanted-clause-front
returns-in-Unwanted-clause-front g c = front-then c.args.stream.now c.advance.new.stream _ _ _ _ _ (c.advance.ensures.same.0
    ∙ c.steps.invariant.compiled) c.steps.invariant.front.all_are c.look.ensures.front

pub returns-in-Unwanted-clause-after : goal.returns-in-Unwanted-clause-after
returns-in-Unwanted-clause-after g c = g.met.R.Reader.goes_on c.args.reader.now c.steps.reader c.look.new.reader c.steps.invariant.after c.look.ensures.after

pub returns-in-Unwanted-clause-heard : goal.returns-in-Unwanted-clause-heard
returns-in-Unwanted-clause-heard g c = g.met.W.Watch.goes_on c.args.watch.now c.steps.watch c.tell.new.self c.steps.invariant.heard c.tell.ensures

pub returns-in-Crowded-clause-stream : goal.returns-in-Crowded-clause-stream
returns-in-Crowded-clause-stream g c = c.in_ok-look.ensures.stream

pub returns-in-Unwanted-clause-stream : goal.returns-in-Unwanted-clause-stream
returns-in-Unwanted-clause-stream g c = c.in_ok-look.ensures.stream

pub returns-in-Crowded-clause-unwanted : goal.returns-in-Crowded-clause-unwanted
returns-in-Crowded-clause-unwanted g c = λ e. absurd (let f : ⊥ = cc in f)

pub returns-in-Unwanted-clause-unwanted : goal.returns-in-Unwanted-clause-unwanted
returns-in-Unwanted-clause-unwanted g c = λ e. c.in_ok-look.ensures.unwanted c.in-Unwanted.is
