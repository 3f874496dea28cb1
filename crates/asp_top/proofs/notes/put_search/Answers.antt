use Rattle.asp_top.proofs.notes.put_search.Goals as goal

pub returns : goal.returns
returns g c = rw c.search_items-items.ensures at c.put_items.ensures
