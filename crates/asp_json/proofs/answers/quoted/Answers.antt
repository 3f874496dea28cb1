use Rattle.asp_json.proofs.answers.quoted.Goals as goal

pub returns : goal.returns
returns c = record { outputs = c.in_ok-same.ensures; table = c.in_ok-table.ensures }
