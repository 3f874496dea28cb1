use Rattle.asp_checkrun.proofs.notes.write_word_fault.Goals as goal

pub returns-in-Twice : goal.returns-in-Twice
returns-in-Twice g c = rw c.in-Twice.is c.write.ensures

pub returns-in-Missing : goal.returns-in-Missing
returns-in-Missing g c = rw c.in-Missing.is c.write-in-Missing.ensures

pub returns-in-Unknown : goal.returns-in-Unknown
returns-in-Unknown g c = rw c.in-Unknown.is (rw c.as_bytes.ensures.value at c.write_three.ensures)

pub returns-in-Value : goal.returns-in-Value
returns-in-Value g c = rw c.in-Value.is (rw c.as_bytes-in-Value.ensures.value at c.write_both.ensures)
