use Rattle.std.proofs.Common.{◌∷◌, refl}
use Rattle.asp_stream.specs.Streams.{leaves_of}
use Rattle.asp_stream.proofs.StreamLaws.{front-of, stream-atoms, stream-rows}
use Rattle.asp_stream.proofs.stream.tell.Goals as goal

pub may_rise-requires-clause-atoms : goal.may_rise-requires-clause-atoms
may_rise-requires-clause-atoms g c =
    let s = c.args.stream.now in
    stream-atoms s.compiled.now s.ledger (g.R.Reader.all c.args.reader.now) (g.R.Reader.heard c.args.reader.now) s.backlog s.parts.items (c.args.leaf ∷ leaves_of s.parts.items) c.requires.stream

pub may_rise-requires-clause-parts : goal.may_rise-requires-clause-parts
may_rise-requires-clause-parts g c =
    let s = c.args.stream.now in
    stream-rows s.compiled.now s.ledger (g.R.Reader.all c.args.reader.now) (g.R.Reader.heard c.args.reader.now) s.backlog s.parts.items (c.args.leaf ∷ leaves_of s.parts.items) c.requires.stream

pub returns-else-may_rise-clause-front : goal.returns-else-may_rise-clause-front
returns-else-may_rise-clause-front g c =
    let s = c.args.stream.now in
    front-of s.compiled.now (g.R.Reader.program c.args.reader.now) s.ledger (g.R.Reader.all c.args.reader.now) (g.R.Reader.all c.args.reader.now)
    (g.R.Reader.heard c.args.reader.now) s.backlog s.parts.items (c.args.leaf ∷ leaves_of s.parts.items)
    c.lawful.ensures.task c.lawful.ensures.journal c.requires.program refl c.requires.stream
