use Rattle.std.proofs.Common.{refl, sym, ◌∙◌, inl}
use Rattle.asp_model.specs.declared.results.Mode.TheVariants.{Enum}
use Rattle.asp_crew.proofs.RecordLaws.{answer-now, delivered-now, recorded-by}
use Rattle.asp_query.proofs.leaf.deliver.Goals as goal

pub deliver-requires-clause-listed : goal.deliver-requires-clause-listed
deliver-requires-clause-listed c = delivered-now Enum c.args.book.now c.args.set (inl refl) c.requires.listed

pub deliver-requires-clause-answer : goal.deliver-requires-clause-answer
deliver-requires-clause-answer c = answer-now c.args.book.now c.args.set (c.requires.answer (sym c.all_hold.ensures ∙ c.if-not-all_hold.false))

pub returns : goal.returns
returns c =
    let r = recorded-by Enum c.args.book.now c.deliver.new.self c.args.set c.in_ok-_listed._listed (inl refl) c.requires.listed
    (c.requires.answer (sym c.all_hold.ensures ∙ c.if-not-all_hold.false)) c.requires.more c.in_ok-_listed.ensures.enough c.in_ok-_listed.ensures.journal in
    (r.only, r.recorded)
