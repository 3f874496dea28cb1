use Rattle.std.proofs.Common.{[], ap, ◌∙◌}
use Rattle.asp_vars.specs.Codes.{code_of}
use Rattle.asp_store.proofs.GetLaws.{map_set}
use Rattle.asp_store.proofs.lists.WatchLists.take_list.Goals as goal

pub returns-clause-left : goal.returns-clause-left
returns-clause-left c =
    map_set (λ v. v.items) c.self.inside.lists.items c.args.self.now c.code-2.result (code_of c.args.lit) c.replace.new.dest [] c.self.view_is c.code-2.ensures.code
    (ap (λ v. v.items) c.replace.ensures.after ∙ c.new-empty.ensures.items)
