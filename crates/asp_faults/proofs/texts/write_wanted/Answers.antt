use Rattle.asp_faults.proofs.texts.write_wanted.Goals as goal

pub returns-in-RuleType : goal.returns-in-RuleType
returns-in-RuleType g c = rw c.in-RuleType.is c.write.ensures

pub returns-in-AfterProgram : goal.returns-in-AfterProgram
returns-in-AfterProgram g c = rw c.in-AfterProgram.is c.write-in-AfterProgram.ensures
