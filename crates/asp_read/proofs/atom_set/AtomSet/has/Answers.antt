use Rattle.std.proofs.Common.{◌≡◌, true, false, get_or, sym, ◌∙◌}
use Rattle.asp_model.specs.Sets.{has}
use Rattle.asp_read.proofs.TableLaws.{near_has, far_has}
use Rattle.asp_read.proofs.atom_set.AtomSet.has.Goals as goal

pub returns-then-is_marked : goal.returns-then-is_marked
returns-then-is_marked c =
    let marked : get_or c.self.inside.near.items c.args.atom false ≡ true = cc (c.if-is_marked.ensures, c.as_slice.ensures.value) in
    let stands : has c.args.self.now c.args.atom ≡ true = near_has c.self.inside.near.items c.self.inside.far.keys c.args.self.now c.args.atom c.self.view_is marked in
    cc (stands, c.if-is_marked.true)

pub returns-else-is_marked : goal.returns-else-is_marked
returns-else-is_marked c =
    let unmarked : get_or c.self.inside.near.items c.args.atom false ≡ false = cc (c.if-is_marked.ensures, c.as_slice.ensures.value) in
    c.is_far.ensures ∙ sym (far_has c.self.inside.near.items c.self.inside.far.keys c.args.self.now c.args.atom c.self.view_is unmarked)
