use Rattle.asp_json.proofs.lists.put_comma.Goals as goal

pub returns : goal.returns
returns g c = rw c.comma.ensures at c.put.ensures
