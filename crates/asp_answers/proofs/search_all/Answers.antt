use Rattle.asp_answers.proofs.search_all.Goals as goal

pub returns : goal.returns
returns c = c.listed-found.ensures c.args.compiled.now c.in_ok-report.ensures
