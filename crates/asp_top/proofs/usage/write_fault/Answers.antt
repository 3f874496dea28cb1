use Rattle.asp_top.proofs.usage.write_fault.Goals as goal

pub returns-in-NoWords : goal.returns-in-NoWords
returns-in-NoWords g c = rw c.in-NoWords.is c.write.ensures

pub returns-in-Unexpected : goal.returns-in-Unexpected
returns-in-Unexpected g c = rw c.in-Unexpected.is (rw c.as_bytes.ensures.value at c.write_three.ensures)

pub returns-in-Twice : goal.returns-in-Twice
returns-in-Twice g c = rw c.in-Twice.is (rw (c.as_bytes-in-Twice.ensures.value, c.text.ensures) at c.write_both.ensures)

pub returns-in-Missing : goal.returns-in-Missing
returns-in-Missing g c = rw c.in-Missing.is (rw (c.as_bytes-in-Missing.ensures.value, c.text-in-Missing.ensures) at c.write_both-in-Missing.ensures)
