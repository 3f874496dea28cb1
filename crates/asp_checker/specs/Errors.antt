-- Why no proof was judged.
use Rattle.asp_proof.specs.declared.error.ProofError.{ProofError}
use Rattle.asp_proof.specs.declared.error.ProofError.TheVariants as proof
use Rattle.asp_read.specs.declared.fault.ReadError.{ReadError}
use Rattle.asp_read.specs.declared.fault.ReadError.TheVariants as read
use Rattle.asp_checker.specs.declared.error.CheckError.{CheckError}
use Rattle.asp_checker.specs.declared.error.CheckError.TheVariants as error

abbrev pub proof_error : ProofError → CheckError
proof_error proof.Memory = error.Memory
proof_error proof.ReadFault = error.Proof proof.ReadFault
proof_error proof.TooLong = error.Proof proof.TooLong
proof_error (proof.Refused n) = error.Proof (proof.Refused n)

abbrev pub program_error : ReadError → CheckError
program_error read.Memory = error.Memory
program_error read.ReadFault = error.Program read.ReadFault
program_error read.TooLong = error.Program read.TooLong
program_error (read.Refused f n) = error.Program (read.Refused f n)

-- a read failed
abbrev pub read_fault : CheckError
read_fault = error.Proof proof.ReadFault
