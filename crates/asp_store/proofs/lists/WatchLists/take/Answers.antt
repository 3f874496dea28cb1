use Rattle.std.proofs.Common.{List, ap, ◌∙◌}
use Rattle.std.specs.List.{swap_remove}
use Rattle.asp_vars.specs.Codes.{code_of}
use Rattle.asp_store.specs.Marks.{Watch}
use Rattle.asp_store.specs.Lists.{list_at}
use Rattle.asp_store.proofs.GetLaws.{map_set, list_of, list_within}
use Rattle.asp_store.proofs.lists.WatchLists.take.Goals as goal

pub returns : goal.returns
returns c =
    let k = code_of c.args.lit in
    let is = list_of (λ v. v.items) c.self.inside.lists.items c.args.self.now c.code.result k c.index_mut.result.now c.self.view_is c.code.ensures.code
    (list_within c.args.self.now k c.args.i c.requires) c.index_mut.ensures.value in (
      c.swap_remove.result,
      map_set (λ v. v.items) c.self.inside.lists.items c.args.self.now c.code.result k c.swap_remove.new.self
          (swap_remove (list_at c.args.self.now k) c.args.i c.swap_remove.result) c.self.view_is c.code.ensures.code
          (c.swap_remove.ensures.items ∙ ap (λ (xs : List Watch). swap_remove xs c.args.i c.swap_remove.result) is),
    )
