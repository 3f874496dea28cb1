use Rattle.std.proofs.Common.{List, ap, set}
use Rattle.std.specs.Vec.{with_item}
use Rattle.asp_vars.specs.Codes.{code_of}
use Rattle.asp_store.specs.Marks.{Watch}
use Rattle.asp_store.specs.Lists.{list_at}
use Rattle.asp_store.proofs.GetLaws.{map_set, list_of, list_within}
use Rattle.asp_store.proofs.lists.WatchLists.set_watch.Goals as goal

pub returns : goal.returns
returns c =
    let k = code_of c.args.lit in
    let is = list_of (λ v. v.items) c.self.inside.lists.items c.args.self.now c.code.result k c.index_mut-list.result.now c.self.view_is c.code.ensures.code
    (list_within c.args.self.now k c.args.i c.requires) c.index_mut-list.ensures.value in
    map_set (λ v. v.items) c.self.inside.lists.items c.args.self.now c.code.result k (with_item c.index_mut-list.result.now c.args.i c.args.watch)
    (set (list_at c.args.self.now k) c.args.i c.args.watch) c.self.view_is c.code.ensures.code
    (ap (λ (xs : List Watch). set xs c.args.i c.args.watch) is)
