use Rattle.std.proofs.Common.{ap, ◌∙◌}
use Rattle.asp_model.specs.Sets.{with_atom}
use Rattle.asp_read.proofs.TableLaws.{put_near, put_far}
use Rattle.asp_read.proofs.atom_set.AtomSet.insert.Goals as goal

pub returns-then-atom-reach-clause-inserted : goal.returns-then-atom-reach-clause-inserted
returns-then-atom-reach-clause-inserted c =
    put_far c.self.inside.near.items c.self.inside.far.keys c.insert.new.self.keys c.args.atom c.in_ok-insert.ensures.updates.0 ∙ ap (with_atom c.args.atom) c.self.view_is

pub returns-clause-inserted : goal.returns-clause-inserted
returns-clause-inserted c =
    put_near c.self.inside.near.items c.mark.new.near.items c.self.inside.far.keys c.args.atom c.in_ok-mark.ensures.marked ∙ ap (with_atom c.args.atom) c.self.view_is
