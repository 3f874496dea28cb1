use Rattle.std.proofs.Common.{None, Some, refl, sym, ap, ◌∙◌, subst}
use Rattle.std.proofs.lemmas.Result.{IfOk-weaker}
use Rattle.asp_model.specs.declared.results.Mode.TheVariants.{Enum}
use Rattle.asp_path.specs.Trees.{status_of}
use Rattle.asp_book.specs.Books.{Booked, board, with_events}
use Rattle.asp_book.specs.Replies.{taken_this}
use Rattle.asp_crew.specs.Running.{IsReady}
use Rattle.asp_crew.proofs.FinishLaws.{IsTaken, free-now, held-taken}
use Rattle.asp_stream.specs.Leaves.{LeavesHeld, LeavesPart}
use Rattle.asp_stream.specs.declared.told.End.TheVariants as end
use Rattle.asp_stream.proofs.LeafLaws.{after-unwanted, held-left, left-self, only-same, taken-is}
use Rattle.asp_stream.proofs.PartLaws.{front-then, less-taken, less-untaken, part-row, part-taken, program-same, same-count, stream-front, stream-opened, stream-taken, stream-untaken, untaken}
use Rattle.asp_stream.proofs.leaf.work_off.Goals as goal

-- ---- the leaf is taken
pub take-requires : goal.take-requires
take-requires g c = free-now (board c.args.stream.now.ledger) c.requires.alone

pub returns-in_err-taken-clause-front : goal.returns-in_err-taken-clause-front
returns-in_err-taken-clause-front g c = stream-front c.args.stream.now _ _ _ _ c.lawful.ensures.task c.lawful.ensures.journal c.requires.program c.requires.stream

pub returns-in_err-taken-clause-after : goal.returns-in_err-taken-clause-after
returns-in_err-taken-clause-after g c = g.met.R.Reader.begins c.args.reader.now

pub returns-in_err-taken-clause-heard : goal.returns-in_err-taken-clause-heard
returns-in_err-taken-clause-heard g c = g.met.W.Watch.begins c.args.watch.now

-- ---- it isn't open
pub returns-then-not-taken-clause-leaves : goal.returns-then-not-taken-clause-leaves
returns-then-not-taken-clause-leaves g c =
    subst (λ (w : Booked). LeavesPart c.args.stream.now.ledger w c.args.search.now c.args.fuel.now None) (sym
    (untaken c.args.stream.now.ledger c.take.new.self c.args.part.leaf _ c.in_ok-taken.ensures.journal c.if-not-taken.true))
    (left-self c.args.stream.now.ledger c.args.search.now c.args.fuel.now c.requires.ready c.requires.alone)

pub returns-then-not-taken-clause-less : goal.returns-then-not-taken-clause-less
returns-then-not-taken-clause-less g c = λ none. less-untaken c.args.stream.now.ledger c.take.new.self c.args.stream.now.parts.items (untaken c.args.stream.now.ledger
    c.take.new.self c.args.part.leaf _ c.in_ok-taken.ensures.journal c.if-not-taken.true)

pub returns-then-not-taken-clause-stream : goal.returns-then-not-taken-clause-stream
returns-then-not-taken-clause-stream g c =
    stream-untaken c.args.stream.now c.take.new.self _ _ c.args.part.leaf _ c.requires.stream c.requires.alone (sym c.in_ok-taken.ensures.open_leaf ∙ c.if-not-taken.true)
    (untaken c.args.stream.now.ledger c.take.new.self c.args.part.leaf _ c.in_ok-taken.ensures.journal c.if-not-taken.true)

pub returns-then-not-taken-clause-front : goal.returns-then-not-taken-clause-front
returns-then-not-taken-clause-front g c = stream-front c.args.stream.now _ _ _ _ c.lawful.ensures.task c.lawful.ensures.journal c.requires.program c.requires.stream

pub returns-then-not-taken-clause-after : goal.returns-then-not-taken-clause-after
returns-then-not-taken-clause-after g c = g.met.R.Reader.begins c.args.reader.now

pub returns-then-not-taken-clause-heard : goal.returns-then-not-taken-clause-heard
returns-then-not-taken-clause-heard g c = g.met.W.Watch.begins c.args.watch.now

-- ---- what is told before it is searched
pub tell-requires : goal.tell-requires
tell-requires g c = record {
  stream = stream-taken c.args.stream.now c.take.new.self _ _ c.args.part.leaf _ c.requires.stream c.requires.alone (sym c.in_ok-taken.ensures.open_leaf ∙ c.if-not-taken.false)
      (c.in_ok-taken.ensures.journal ∙ ap (λ r. with_events c.args.stream.now.ledger (taken_this 0 c.args.part.leaf r)) c.if-not-taken.false);
  program = c.requires.program;
  low = (part-taken c.args.stream.now c.take.new.self _ _ c.args.part _ c.requires.stream c.requires.alone (sym c.in_ok-taken.ensures.open_leaf ∙ c.if-not-taken.false)
      (c.in_ok-taken.ensures.journal ∙ ap (λ r. with_events c.args.stream.now.ledger (taken_this 0 c.args.part.leaf r)) c.if-not-taken.false) c.requires.part).low;
  row = part-row c.args.stream.now _ _ _ (board c.args.stream.now.ledger) c.args.part c.requires.stream refl c.requires.part;
}

-- ---- no more is wanted
pub release-requires : goal.release-requires
release-requires g c =
    ap (λ (z : Booked). status_of (board z).nodes c.args.part.leaf) c.tell.ensures.keeps.ledger ∙ held-taken Enum c.args.stream.now.ledger c.take.new.self c.args.part.leaf
    c.args.search.now c.args.fuel.now
    (taken-is c.args.stream.now.ledger c.take.new.self c.args.part.leaf c.args.search.now c.args.fuel.now c.requires.ready c.requires.alone (sym
    c.in_ok-taken.ensures.open_leaf ∙ c.if-not-taken.false)
    (c.in_ok-taken.ensures.journal ∙ ap (λ r. with_events c.args.stream.now.ledger (taken_this 0 c.args.part.leaf r)) c.if-not-taken.false))

pub returns-then-not-wanted-clause-leaves : goal.returns-then-not-wanted-clause-leaves
returns-then-not-wanted-clause-leaves g c =
    let taken : IsTaken Enum c.args.stream.now.ledger c.take.new.self c.args.part.leaf c.args.search.now c.args.fuel.now =
    (taken-is c.args.stream.now.ledger c.take.new.self c.args.part.leaf c.args.search.now c.args.fuel.now c.requires.ready c.requires.alone (sym
    c.in_ok-taken.ensures.open_leaf ∙ c.if-not-taken.false)
    (c.in_ok-taken.ensures.journal ∙ ap (λ r. with_events c.args.stream.now.ledger (taken_this 0 c.args.part.leaf r)) c.if-not-taken.false)) in
    held-left c.args.stream.now.ledger c.take.new.self c.release.new.self c.args.part.leaf c.args.search.now c.args.search.now c.args.fuel.now c.args.fuel.now (Some
    end.Unwanted) c.requires.alone taken
    (after-unwanted c.take.new.self c.tell.new.stream.ledger c.release.new.self c.args.part.leaf c.args.search.now c.args.fuel.now (held-taken Enum c.args.stream.now.ledger
    c.take.new.self c.args.part.leaf c.args.search.now c.args.fuel.now taken)
    (subst (λ (z : Booked). IsReady Enum z c.args.search.now c.args.fuel.now) (sym c.tell.ensures.keeps.ledger) taken.ready)
    (only-same c.take.new.self c.tell.new.stream.ledger c.tell.ensures.keeps.ledger) c.in_ok-release.ensures.ok)

pub returns-then-not-wanted-clause-stream : goal.returns-then-not-wanted-clause-stream
returns-then-not-wanted-clause-stream g c =
    stream-opened c.tell.new.stream c.release.new.self _ _ c.args.part.leaf _ c.in_ok-wanted.ensures.stream
    (ap (λ (z : Booked). status_of (board z).nodes c.args.part.leaf) c.tell.ensures.keeps.ledger ∙ held-taken Enum c.args.stream.now.ledger c.take.new.self c.args.part.leaf
    c.args.search.now c.args.fuel.now
    (taken-is c.args.stream.now.ledger c.take.new.self c.args.part.leaf c.args.search.now c.args.fuel.now c.requires.ready c.requires.alone (sym
    c.in_ok-taken.ensures.open_leaf ∙ c.if-not-taken.false)
    (c.in_ok-taken.ensures.journal ∙ ap (λ r. with_events c.args.stream.now.ledger (taken_this 0 c.args.part.leaf r)) c.if-not-taken.false))) c.in_ok-release.ensures.ok

pub returns-then-not-wanted-clause-unwanted : goal.returns-then-not-wanted-clause-unwanted
returns-then-not-wanted-clause-unwanted g c = λ same. c.in_ok-wanted.ensures.unwanted c.if-not-wanted.true

pub returns-then-not-wanted-clause-heard : goal.returns-then-not-wanted-clause-heard
returns-then-not-wanted-clause-heard g c = g.met.W.Watch.begins c.args.watch.now

pub returns-in_err-release-clause-heard : goal.returns-in_err-release-clause-heard
returns-in_err-release-clause-heard g c = g.met.W.Watch.begins c.args.watch.now

pub returns-in_err-wanted-clause-heard : goal.returns-in_err-wanted-clause-heard
returns-in_err-wanted-clause-heard g c = g.met.W.Watch.begins c.args.watch.now

-- ---- it is searched
pub search_leaf-requires : goal.search_leaf-requires
search_leaf-requires g c =
    let taken : IsTaken Enum c.args.stream.now.ledger c.take.new.self c.args.part.leaf c.args.search.now c.args.fuel.now =
    (taken-is c.args.stream.now.ledger c.take.new.self c.args.part.leaf c.args.search.now c.args.fuel.now c.requires.ready c.requires.alone (sym
    c.in_ok-taken.ensures.open_leaf ∙ c.if-not-taken.false)
    (c.in_ok-taken.ensures.journal ∙ ap (λ r. with_events c.args.stream.now.ledger (taken_this 0 c.args.part.leaf r)) c.if-not-taken.false)) in
    record {
      ready = subst (λ (z : Booked). IsReady Enum z c.args.search.now c.args.fuel.now) (sym c.tell.ensures.keeps.ledger) taken.ready;
      held = ap (λ (z : Booked). status_of (board z).nodes c.args.part.leaf) c.tell.ensures.keeps.ledger ∙ held-taken Enum c.args.stream.now.ledger c.take.new.self
          c.args.part.leaf c.args.search.now c.args.fuel.now taken;
      stream = c.in_ok-wanted.ensures.stream;
      program = program-same c.args.stream.now c.tell.new.stream _ c.tell.ensures.keeps.compiled c.tell.ensures.front.program;
    }

pub returns-clause-leaves : goal.returns-clause-leaves
returns-clause-leaves g c =
    let y = c.search_leaf.new.stream.ledger in
    let t = c.search_leaf.new.search in
    let f = c.search_leaf.new.fuel in
    IfOk-weaker c.search_leaf.result (LeavesHeld c.tell.new.stream.ledger y c.args.part.leaf t f) (LeavesPart c.args.stream.now.ledger y t f)
    (λ how left. held-left c.args.stream.now.ledger c.take.new.self y c.args.part.leaf c.args.search.now t c.args.fuel.now f how c.requires.alone
    (taken-is c.args.stream.now.ledger c.take.new.self c.args.part.leaf c.args.search.now c.args.fuel.now c.requires.ready c.requires.alone (sym
    c.in_ok-taken.ensures.open_leaf ∙ c.if-not-taken.false)
    (c.in_ok-taken.ensures.journal ∙ ap (λ r. with_events c.args.stream.now.ledger (taken_this 0 c.args.part.leaf r)) c.if-not-taken.false))
    (subst (λ (z : Booked). LeavesHeld z y c.args.part.leaf t f how) c.tell.ensures.keeps.ledger left)) c.search_leaf.ensures.leaves

pub returns-clause-less : goal.returns-clause-less
returns-clause-less g c =
    IfOk-weaker c.search_leaf.result _ _
    (λ how less none. less-taken c.args.stream.now.ledger c.take.new.self c.tell.new.stream.ledger c.search_leaf.new.stream.ledger c.args.part.leaf
    c.args.stream.now.parts.items c.tell.new.stream.parts.items c.search_leaf.new.stream.parts.items
    (c.in_ok-taken.ensures.journal ∙ ap (λ r. with_events c.args.stream.now.ledger (taken_this 0 c.args.part.leaf r)) c.if-not-taken.false)
    c.tell.ensures.keeps.ledger (same-count c.args.stream.now c.tell.new.stream c.tell.ensures.keeps.parts) (less none)) c.search_leaf.ensures.less

pub returns-clause-front : goal.returns-clause-front
returns-clause-front g c = front-then c.args.stream.now c.tell.new.stream _ _ _ _ _ c.tell.ensures.keeps.compiled c.tell.ensures.front.all_are c.search_leaf.ensures.front

pub returns-clause-after : goal.returns-clause-after
returns-clause-after g c = g.met.R.Reader.goes_on c.args.reader.now c.tell.new.reader c.search_leaf.new.reader c.tell.ensures.after c.search_leaf.ensures.after
