use Rattle.asp_roundtrip.proofs.PartTexts.{part_reads}
use Rattle.asp_roundtrip.proofs.laws.a_part_reads_as_the_program_under_its_cube.Goals as goal

pub returns : goal.returns
returns c = λ front program cube e part. part_reads front program cube e part
