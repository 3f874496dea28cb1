use Rattle.asp_checkrun.proofs.notes.write_check.Goals as goal

pub returns-in-Memory : goal.returns-in-Memory
returns-in-Memory g c = rw c.in-Memory.is c.write-in-Memory.ensures

pub returns-in-ReadFault : goal.returns-in-ReadFault
returns-in-ReadFault g c = rw c.in-ReadFault.is c.write-in-ReadFault.ensures

pub returns-in-TooLong : goal.returns-in-TooLong
returns-in-TooLong g c = rw c.in-TooLong.is c.write-in-TooLong.ensures

pub returns-in-NoProof : goal.returns-in-NoProof
returns-in-NoProof g c = rw c.in-NoProof.is c.write-in-NoProof.ensures

pub returns-in-WriteFault : goal.returns-in-WriteFault
returns-in-WriteFault g c = rw c.in-WriteFault.is c.write_failed.ensures
