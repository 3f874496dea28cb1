use Rattle.std.proofs.Common.{rules, eqb, not, filter, ap, ◌∙◌}
use Rattle.std.proofs.lemmas.Fn.{filter_same}
use Rattle.asp_vars.specs.Codes.{code_of}
use Rattle.asp_store.specs.Marks.{Watch}
use Rattle.asp_store.specs.Lists.{list_at}
use Rattle.asp_store.proofs.GetLaws.{map_set, list_of}
use Rattle.asp_store.proofs.lists.WatchLists.drop_all.Goals as goal

pub returns : goal.returns
returns c =
    let k = code_of c.args.lit in
    let is = list_of (λ v. v.items) c.self.inside.lists.items c.args.self.now c.code.result k c.index_mut.result.now c.self.view_is c.code.ensures.code
    c.requires c.index_mut.ensures.value in
    let kept = filter_same _ (λ (x : Watch). not (eqb x.id c.args.id)) _ (λ x b f' k. search rules) _ _ c.retain.ensures.filtered in
    map_set (λ v. v.items) c.self.inside.lists.items c.args.self.now c.code.result k c.retain.new.self
    (filter (λ (x : Watch). not (eqb x.id c.args.id)) (list_at c.args.self.now k)) c.self.view_is c.code.ensures.code
    (kept ∙ ap (filter (λ (x : Watch). not (eqb x.id c.args.id))) is)
