use Rattle.asp_top.proofs.runs.write_page.Goals as goal

pub returns : goal.returns
returns g c = rw (c.page_front.ensures, c.usage.ensures, c.page_back.ensures) at c.write_three.ensures
