use Rattle.std.proofs.Common.{◌+◌, ◌∷◌, ◌++◌, List, Some, filter, refl, sym, ap, ◌∙◌, subst, arith}
use mathlib.Core.List.{IsPrefix}
use Rattle.asp_model.specs.Models.{atoms_of}
use Rattle.asp_model.specs.Sets.{Atoms}
use Rattle.asp_rows.specs.Listed.{IsRowOf, Listed}
use Rattle.asp_watermark.specs.Floors.{is_below}
use Rattle.asp_stream.specs.Streams.{IsStream, leaves_of}
use Rattle.asp_stream.proofs.StreamLaws.{front-of, stream-atoms, stream-raised, stream-rose}
use Rattle.asp_stream.proofs.stream.raise.Goals as goal

pub raise-requires : goal.raise-requires
raise-requires g c =
    let s = c.args.stream.now in
    subst (λ (A : Atoms). IsRowOf A c.args.low)
    (sym (stream-atoms s.compiled.now s.ledger (g.R.Reader.all c.args.reader.now) (g.R.Reader.heard c.args.reader.now) s.backlog s.parts.items
    (c.args.leaf ∷ leaves_of s.parts.items) c.requires.stream)) c.requires.row

pub returns-in_err-rows-clause-front : goal.returns-in_err-rows-clause-front
returns-in_err-rows-clause-front g c =
    let s = c.args.stream.now in
    front-of s.compiled.now (g.R.Reader.program c.args.reader.now) s.ledger (g.R.Reader.all c.args.reader.now) (g.R.Reader.all c.args.reader.now)
    (g.R.Reader.heard c.args.reader.now) s.backlog s.parts.items (c.args.leaf ∷ leaves_of s.parts.items)
    c.lawful.ensures.task c.lawful.ensures.journal c.requires.program refl c.requires.stream

pub returns-in_err-stream-clause-front : goal.returns-in_err-stream-clause-front
returns-in_err-stream-clause-front g c =
    let s = c.args.stream.now in
    front-of s.compiled.now (g.R.Reader.program c.args.reader.now) s.ledger (g.R.Reader.all c.args.reader.now) (g.R.Reader.all c.args.reader.now)
    (g.R.Reader.heard c.args.reader.now) s.backlog s.parts.items (c.args.leaf ∷ leaves_of s.parts.items)
    c.lawful.ensures.task c.lawful.ensures.journal c.requires.program refl c.requires.stream

pub hear-requires-clause-atoms : goal.hear-requires-clause-atoms
hear-requires-clause-atoms g c =
    let s = c.args.stream.now in
    ap (λ (l : Listed). l.atoms) c.in_ok-rows.ensures.below
    ∙ stream-atoms s.compiled.now s.ledger (g.R.Reader.all c.args.reader.now) (g.R.Reader.heard c.args.reader.now) s.backlog s.parts.items (c.args.leaf ∷ leaves_of s.parts.items) c.requires.stream
    ∙ ap atoms_of (sym c.requires.program)

pub hear-requires-clause-front : goal.hear-requires-clause-front
hear-requires-clause-front g c =
    let s = c.args.stream.now in
    let all = g.R.Reader.all c.args.reader.now in
    let heard = g.R.Reader.heard c.args.reader.now in
    let front =
    front-of s.compiled.now s.compiled.now s.ledger all all (heard ++ filter (is_below (Some c.args.low.set)) s.backlog.sets) _ s.parts.items (c.args.leaf ∷ leaves_of s.parts.items)
    c.lawful.ensures.task c.lawful.ensures.journal refl refl
    (stream-raised s.compiled.now s.ledger c.args.leaf c.args.low.set all heard s.backlog s.parts.items c.requires.stream c.requires.low c.requires.rises) in
    subst (λ (sets : List Atoms). IsPrefix (heard ++ sets) all) (sym (ap (λ (l : Listed). l.sets) c.in_ok-rows.ensures.below)) front.front

pub hear-requires-clause-room : goal.hear-requires-clause-room
hear-requires-clause-room g c = omega (arith, c.in_ok-stream.ensures.sum, c.in_ok-stream.ensures.room, c.len.ensures, c.requires.stream.counted)

pub returns-clause-stream : goal.returns-clause-stream
returns-clause-stream g c =
    let s = c.args.stream.now in
    subst
    (λ (l : List Atoms).
    IsStream s.compiled.now s.ledger c.in_ok-stream.field-0 l (g.R.Reader.heard c.hear.new.self) c.raise.new.self s.parts.items (c.args.leaf ∷ leaves_of s.parts.items))
    (sym c.hear.ensures.all)
    (stream-rose s.compiled.now s.ledger c.args.leaf c.args.low.set s.heard c.in_ok-stream.field-0 (g.R.Reader.all c.args.reader.now) (g.R.Reader.heard c.args.reader.now)
    (g.R.Reader.heard c.hear.new.self) c.in_ok-rows.rows.sets
    s.backlog c.raise.new.self s.parts.items c.requires.stream c.requires.low c.requires.rises (ap (λ (l : Listed). l.sets) c.in_ok-rows.ensures.below)
    (c.in_ok-stream.ensures.sum ∙ ap (λ k. s.heard + k) c.len.ensures) c.hear.ensures.heard c.in_ok-rows.ensures.rest)

pub returns-clause-front : goal.returns-clause-front
returns-clause-front g c =
    let s = c.args.stream.now in
    front-of s.compiled.now (g.R.Reader.program c.hear.new.self) s.ledger (g.R.Reader.all c.hear.new.self) (g.R.Reader.all c.args.reader.now) (g.R.Reader.heard c.hear.new.self)
    c.raise.new.self s.parts.items (c.args.leaf ∷ leaves_of s.parts.items)
    c.lawful.ensures.task c.lawful.ensures.journal (c.hear.ensures.program ∙ c.requires.program) c.hear.ensures.all
    (stream-rose s.compiled.now s.ledger c.args.leaf c.args.low.set s.heard c.in_ok-stream.field-0 (g.R.Reader.all c.args.reader.now) (g.R.Reader.heard c.args.reader.now)
    (g.R.Reader.heard c.hear.new.self) c.in_ok-rows.rows.sets
    s.backlog c.raise.new.self s.parts.items c.requires.stream c.requires.low c.requires.rises (ap (λ (l : Listed). l.sets) c.in_ok-rows.ensures.below)
    (c.in_ok-stream.ensures.sum ∙ ap (λ k. s.heard + k) c.len.ensures) c.hear.ensures.heard c.in_ok-rows.ensures.rest)
