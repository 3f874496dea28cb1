use Rattle.std.proofs.Common.{sym, ap, ◌∙◌, subst}
use Rattle.asp_model.specs.Models.{atoms_of}
use Rattle.asp_model.specs.Sets.{Atoms}
use Rattle.asp_rows.specs.Bits.{IsAmong}
use Rattle.asp_core.proofs.StateLaws.{answer-among}
use Rattle.asp_backlog.specs.Backlogs.{Pending}
use Rattle.asp_stream.specs.Streams.{IsStream}
use Rattle.asp_stream.proofs.StreamLaws.{deliver-guard, stream-delivered}
use Rattle.asp_stream.proofs.stream.Stream.deliver.Goals as goal

pub add-requires : goal.add-requires
add-requires c =
    subst (λ (A : Atoms). IsAmong A c.args.set.now) (ap atoms_of c.requires.program ∙ sym c.requires.atoms)
    (answer-among c.args.self.now.ledger.task c.args.set.now c.requires.answer)

pub returns-clause-told : goal.returns-clause-told
returns-clause-told c = λ all heard leaves is.
    subst (λ (q : Pending). IsStream c.args.self.now.compiled.now c.deliver.new.self c.args.self.now.heard all heard q c.args.self.now.parts.items leaves)
    (sym c.in_ok-add.ensures.ok)
    (stream-delivered c.args.self.now.compiled.now c.args.self.now.ledger c.deliver.new.self c.args.set.now all heard c.args.self.now.backlog c.args.self.now.parts.items leaves
    c.lawful.ensures.task c.lawful.ensures.journal (deliver-guard c.args.self.now.ledger c.args.set.now c.lawful.ensures.task c.requires.answer c.requires.listed) c.in_ok-deliver.ensures.ok is)
