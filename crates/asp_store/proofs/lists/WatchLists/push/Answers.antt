use Rattle.std.proofs.Common.{[], ◌∷◌, ◌++◌, List, ap, ◌∙◌}
use Rattle.std.proofs.lemmas.List.{set-get_or}
use Rattle.std.proofs.lemmas.Result.{on_ok_weaker, on_err_weaker}
use Rattle.asp_vars.specs.Codes.{code_of}
use Rattle.asp_store.specs.Marks.{Watch}
use Rattle.asp_store.specs.Lists.{list_at}
use Rattle.asp_store.proofs.GetLaws.{map_set, list_of}
use Rattle.asp_store.proofs.lists.WatchLists.push.Goals as goal

pub returns-clause-ok : goal.returns-clause-ok
returns-clause-ok c =
    let k = code_of c.args.lit in
    let is = list_of (λ v. v.items) c.self.inside.lists.items c.args.self.now c.code.result k c.index_mut.result.now c.self.view_is c.code.ensures.code
    c.requires c.index_mut.ensures.value in
    on_ok_weaker c.push_watch.result (λ e. map_set (λ v. v.items) c.self.inside.lists.items c.args.self.now c.code.result k c.push_watch.new.list
    (list_at c.args.self.now k ++ c.args.watch ∷ []) c.self.view_is c.code.ensures.code
    (e ∙ ap (λ (xs : List Watch). xs ++ c.args.watch ∷ []) is)) c.push_watch.ensures.ok

pub returns-clause-err : goal.returns-clause-err
returns-clause-err c =
    let k = code_of c.args.lit in
    let is = list_of (λ v. v.items) c.self.inside.lists.items c.args.self.now c.code.result k c.index_mut.result.now c.self.view_is c.code.ensures.code
    c.requires c.index_mut.ensures.value in
    on_err_weaker c.push_watch.result (λ e. map_set (λ v. v.items) c.self.inside.lists.items c.args.self.now c.code.result k c.push_watch.new.list
    (list_at c.args.self.now k) c.self.view_is c.code.ensures.code (e ∙ is) ∙ set-get_or c.args.self.now k []) c.push_watch.ensures.err
