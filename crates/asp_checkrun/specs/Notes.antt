-- What is said on standard error.
use Rattle.std.specs.Prelude.{ℕ, Bool, List, [], ◌++◌, codes, decimal, if◌then◌else◌}
use Rattle.asp_checker.specs.declared.judge.Why.{Why}
use Rattle.asp_checker.specs.declared.judge.Why.TheVariants as why
use Rattle.asp_checker.specs.declared.run.CheckStatus.{CheckStatus}
use Rattle.asp_checker.specs.declared.run.CheckStatus.TheVariants as check
use Rattle.asp_faults.specs.Faults.{fault_text}
use Rattle.asp_proof.specs.declared.error.ProofError.{ProofError}
use Rattle.asp_proof.specs.declared.error.ProofError.TheVariants as proof
use Rattle.asp_read.specs.declared.fault.ReadError.{ReadError}
use Rattle.asp_read.specs.declared.fault.ReadError.TheVariants as read
use Rattle.asp_checkrun.specs.declared.status.Status.{Status}
use Rattle.asp_checkrun.specs.declared.status.Status.TheVariants as status
use Rattle.asp_checkrun.specs.Given.{Given, Misuse, bad_value, misuse, missing, twice, unknown}
use Rattle.asp_checkrun.specs.Texts.{usage_line}

-- why a line of a proof isn't right
abbrev pub why_text : Why → List ℕ
why_text why.Member = codes "the set is no stable model in which the assumptions hold"
why_text why.Order = codes "the set doesn't come after the one before it, is a second one where an optimum was sought, or was found at no lower cost"
why_text why.Literal = codes "the program has no such variable or atom"
why_text why.Loop = codes "the set has support from outside"
why_text why.NotImplied = codes "it doesn't follow from the lines before it"
why_text why.NotWhole = codes "no line before it says that there is nothing else"
why_text why.Cost = codes "the set costs other than the first one, where all optima were sought"
why_text why.NotListed = codes "a set that was found isn't listed"

-- a line of the proof, and what is said of it
abbrev pub proof_line : ℕ → List ℕ → List ℕ
proof_line n text = codes "aspcheck: line " ++ decimal n ++ codes " of the proof: " ++ (text ++ codes "\n")

-- why the program's text was refused
abbrev pub program_note : ReadError → List ℕ
program_note read.Memory = codes "aspcheck: out of memory\n"
program_note read.ReadFault = codes "aspcheck: read failed\n"
program_note read.TooLong = codes "aspcheck: input too long\n"
program_note (read.Refused f line) = codes "aspcheck: line " ++ decimal line ++ fault_text f ++ codes "\n"

-- why the proof's text was
abbrev pub proof_note : ProofError → List ℕ
proof_note proof.Memory = codes "aspcheck: out of memory\n"
proof_note proof.ReadFault = codes "aspcheck: read failed\n"
proof_note proof.TooLong = codes "aspcheck: input too long\n"
proof_note (proof.Refused n) = proof_line n (codes "wrong or missing")

-- where nobody reads any more, the status alone tells of a failed write
abbrev pub write_note : Bool → List ℕ
write_note closed = if closed then [] else codes "aspcheck: write failed\n"

-- what is said of a right proof whose answers are a part of what was sought
abbrev pub part_text : List ℕ
part_text = codes "aspcheck: the proof is right; its sets are answers, but it doesn't say that there are no others\n"

abbrev pub check_note : Bool → CheckStatus → List ℕ
check_note closed check.Yes = []
check_note closed (check.Part n) = part_text
check_note closed (check.No w n) = proof_line n (why_text w)
check_note closed check.Memory = codes "aspcheck: out of memory\n"
check_note closed (check.Program e) = program_note e
check_note closed check.ReadFault = codes "aspcheck: read failed\n"
check_note closed check.TooLong = codes "aspcheck: input too long\n"
check_note closed check.NoProof = codes "aspcheck: no line is 'proof 3', with which a proof begins (the program's last line needs its line feed)\n"
check_note closed (check.Proof e) = proof_note e
check_note closed check.WriteFault = write_note closed

-- the lines for a status, where nobody reads any more or not; Usage is here that of arguments that can't be had
abbrev pub note_of : Bool → Status → List ℕ
note_of closed (status.Checked s) = check_note closed s
note_of closed status.Told = []
note_of closed status.Memory = codes "aspcheck: out of memory\n"
note_of closed status.Usage = codes "aspcheck: an argument is not UTF-8\n" ++ usage_line
note_of closed status.WriteFault = write_note closed

-- the end of a fault's line, and the usage line
abbrev pub usage_text : List ℕ
usage_text = codes "\n" ++ usage_line

abbrev pub misuse_text : Misuse → List ℕ
misuse_text (unknown w) = codes "unknown argument " ++ w ++ codes " (the program and its proof are read from standard input; see --help)"
misuse_text twice = codes "--format is given twice"
misuse_text missing = codes "a value is missing after --format"
misuse_text (bad_value v) = codes "--format takes aspif or smodels, not " ++ v

-- the line of the fault, and the usage line
abbrev pub misuse_note : Misuse → List ℕ
misuse_note m = codes "aspcheck: " ++ misuse_text m ++ usage_text

-- what is said of arguments and of how the run ended
abbrev pub note_for : Given → Bool → Status → List ℕ
note_for (misuse m) closed s = misuse_note m
note_for given closed s = note_of closed s
