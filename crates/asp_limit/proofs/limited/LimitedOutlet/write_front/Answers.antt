use Rattle.std.proofs.Common.{List, ◌++◌, ap, sym, subst}
use mathlib.Core.List.{IsPrefix}
use Rattle.asp_model.specs.Sets.{Atoms}
use Rattle.asp_rows.specs.Listed.{Listed}
use Rattle.asp_limit.proofs.LimitLaws.{prefix-cut}
use Rattle.asp_limit.proofs.limited.LimitedOutlet.write_front.Goals as goal

pub write_next-requires-in-Ok-clause-front : goal.write_next-requires-in-Ok-clause-front
write_next-requires-in-Ok-clause-front g c =
    let written = c.args.self.now.outlet.listing.sets in
    let all = c.args.self.now.outlet.listing.all in
    subst (λ (Ss : List Atoms). IsPrefix (written ++ Ss) all) (sym (ap (λ (l : Listed). l.sets) c.in-Ok.ensures)) (prefix-cut written c.args.rows.now.sets all c.args.count c.requires.front)
