use Rattle.asp_source.proofs.search.left_of.Goals as goal

pub atom_at-atom-requires : goal.atom_at-atom-requires
atom_at-atom-requires c = c.requires.atoms c.in-Some.var c.in-Some.ensures.some

pub returns-clause-atom : goal.returns-clause-atom
returns-clause-atom c = (c.in-Some.var, c.in-Some.ensures.some, c.atom_at-atom.ensures)
