use Rattle.std.proofs.Common.{List, length, ap, ◌∙◌, get_or}
use Rattle.std.proofs.lemmas.Option.{slice_get_read}
use Rattle.asp_vars.specs.Codes.{code_of}
use Rattle.asp_store.specs.Marks.{Watch}
use Rattle.asp_store.specs.Lists.{list_at}
use Rattle.asp_store.proofs.GetLaws.{list_of, list_within}
use Rattle.asp_store.proofs.lists.WatchLists.watch.Goals as goal

pub returns : goal.returns
returns c =
    let k = code_of c.args.lit in
    let is = list_of (λ v. v.items) c.self.inside.lists.items c.args.self.now c.code.result k c.index.result.now c.self.view_is c.code.ensures.code
    (list_within c.args.self.now k c.args.i c.requires) c.index.ensures in
    slice_get_read (list_at c.args.self.now k) (length (list_at c.args.self.now k)) c.args.i c.index-2.result.now (λ i. length (list_at c.args.self.now k)) c.requires
    (c.index-2.ensures ∙ ap (λ (xs : List Watch). get_or xs c.args.i c.index-2.result.now) is)
