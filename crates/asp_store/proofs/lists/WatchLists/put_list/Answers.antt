use Rattle.std.proofs.Common.{refl}
use Rattle.asp_vars.specs.Codes.{code_of}
use Rattle.asp_store.proofs.GetLaws.{map_set}
use Rattle.asp_store.proofs.lists.WatchLists.put_list.Goals as goal

pub returns : goal.returns
returns c = map_set (λ v. v.items) c.self.inside.lists.items c.args.self.now c.code.result (code_of c.args.lit) c.args.list c.args.list.items c.self.view_is c.code.ensures.code refl
