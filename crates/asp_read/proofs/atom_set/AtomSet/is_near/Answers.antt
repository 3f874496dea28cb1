use Rattle.std.proofs.Common.{◌≡◌, true, false, get_or}
use Rattle.asp_read.proofs.TableLaws.{near_has}
use Rattle.asp_read.proofs.atom_set.AtomSet.is_near.Goals as goal

pub returns : goal.returns
returns c = λ e.
    let marked : get_or c.self.inside.near.items c.args.atom false ≡ true = cc (e, c.is_marked.ensures, c.as_slice.ensures.value) in
    near_has c.self.inside.near.items c.self.inside.far.keys c.args.self.now c.args.atom c.self.view_is marked
