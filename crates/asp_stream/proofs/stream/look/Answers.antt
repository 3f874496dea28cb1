use Rattle.std.proofs.Common.{◌∷◌, ◌<◌, length, refl, sym, ap, ◌∙◌, subst}
use Rattle.asp_model.specs.declared.program.Program.{Program}
use Rattle.asp_path.specs.Trees.{cube_of}
use Rattle.asp_book.specs.Books.{Booked, board}
use Rattle.asp_search.specs.Beside.{IsOpen}
use Rattle.asp_stream.specs.Streams.{leaves_of}
use Rattle.asp_stream.proofs.LowLaws.{sure-low}
use Rattle.asp_stream.proofs.StreamLaws.{front-of}
use Rattle.asp_stream.proofs.stream.look.Goals as goal

pub returns-then-not-is_due-clause-front : goal.returns-then-not-is_due-clause-front
returns-then-not-is_due-clause-front g c =
    let s = c.args.stream.now in
    front-of s.compiled.now (g.R.Reader.program c.args.reader.now) s.ledger (g.R.Reader.all c.args.reader.now) (g.R.Reader.all c.args.reader.now)
    (g.R.Reader.heard c.args.reader.now) s.backlog s.parts.items (c.args.leaf ∷ leaves_of s.parts.items)
    c.lawful.ensures.task c.lawful.ensures.journal c.requires.program refl c.requires.stream

pub low-requires : goal.low-requires
low-requires g c = c.requires.knows.program ∙ c.requires.stream.program

pub returns-in_err-low-clause-front : goal.returns-in_err-low-clause-front
returns-in_err-low-clause-front g c =
    let s = c.args.stream.now in
    front-of s.compiled.now (g.R.Reader.program c.args.reader.now) s.ledger (g.R.Reader.all c.args.reader.now) (g.R.Reader.all c.args.reader.now)
    (g.R.Reader.heard c.args.reader.now) s.backlog s.parts.items (c.args.leaf ∷ leaves_of s.parts.items)
    c.lawful.ensures.task c.lawful.ensures.journal c.requires.program refl c.requires.stream

pub tell-requires-clause-low : goal.tell-requires-clause-low
tell-requires-clause-low g c =
    sure-low c.args.stream.now.ledger c.args.search.now c.args.leaf c.lawful.ensures.task c.requires.knows c.in_ok-low.low.set c.in_ok-low.ensures.row.among.rising c.in_ok-low.ensures.low

pub returns-then-not-branch-clause-unwanted : goal.returns-then-not-branch-clause-unwanted
returns-then-not-branch-clause-unwanted g c = λ same. c.in_ok-tell.ensures.unwanted c.if-not-branch.true

pub cut-requires : goal.cut-requires
cut-requires g c = c.requires.knows.program ∙ c.requires.stream.program ∙ ap (λ b. b.now) (sym c.tell.ensures.keeps.compiled)

pub returns-in-Some-clause-view : goal.returns-in-Some-clause-view
returns-in-Some-clause-view g c =
    let v : Booked = c.args.stream.now.ledger in (
      subst (λ (w : Booked). length (board w).nodes < 4194304) c.tell.ensures.keeps.ledger (c.in-Some.ensures.room refl),
      subst (λ (p : Program). IsOpen p (cube_of (board v).nodes c.args.leaf) c.in-Some.lit) c.requires.knows.program
          (c.in-Some.ensures.open (cube_of (board v).nodes c.args.leaf) c.requires.knows.cube),
    )
