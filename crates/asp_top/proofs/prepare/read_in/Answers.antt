use Rattle.asp_top.proofs.prepare.read_in.Goals as goal

pub returns-in-Aspif-clause-text : goal.returns-in-Aspif-clause-text
returns-in-Aspif-clause-text g c = rw c.in-Aspif.is c.read_program.ensures.text

pub returns-in-Aspif-clause-some_text : goal.returns-in-Aspif-clause-some_text
returns-in-Aspif-clause-some_text g c = rw c.in-Aspif.is c.read_program.ensures.some_text

pub returns-in-Aspif-clause-stops : goal.returns-in-Aspif-clause-stops
returns-in-Aspif-clause-stops g c = rw c.in-Aspif.is c.read_program.ensures.stops

pub returns-in-Smodels-clause-text : goal.returns-in-Smodels-clause-text
returns-in-Smodels-clause-text g c = rw c.in-Smodels.is c.read_smodels.ensures.text

pub returns-in-Smodels-clause-some_text : goal.returns-in-Smodels-clause-some_text
returns-in-Smodels-clause-some_text g c = rw c.in-Smodels.is c.read_smodels.ensures.some_text

pub returns-in-Smodels-clause-stops : goal.returns-in-Smodels-clause-stops
returns-in-Smodels-clause-stops g c = rw c.in-Smodels.is c.read_smodels.ensures.stops
