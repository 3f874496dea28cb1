-- What is said of a program's text and a proof's text.
use Rattle.std.specs.Prelude.{◌≡◌, ◌⊎◌, ℕ, suc, ◌+◌, ◌<◌, ◌≤◌, ◌==◌, nat_eq, Bool, true, ◌&&◌, if◌then◌else◌, List, [], ◌∷◌, ◌++◌, take, drop, length, Option, Some, None, Result, IfSome, codes, decimal}
use Rattle.std.specs.List.{starts_with}
use Rattle.std.specs.declared.result.Result.TheVariants.{Ok, Err}
use Rattle.std.specs.Io.KnownBytes.{Appends, Keeps}
use Rattle.asp_model.specs.declared.program.Program.{Program}
use Rattle.asp_proof.specs.Grammar.{most_bytes}
use Rattle.asp_proof.specs.Reading.{Comes, HasLongLine, Moves, Window, held}
use Rattle.asp_checker.specs.declared.judge.Why.{Why}
use Rattle.asp_checker.specs.declared.judge.Why.TheVariants as why
use Rattle.asp_checker.specs.declared.judge.Judgement.{Judgement}
use Rattle.asp_checker.specs.declared.judge.Judgement.TheVariants as judgement
use Rattle.asp_io.specs.Causes.{AppendsFront}
use Rattle.asp_proof.specs.declared.error.ProofError.{ProofError}
use Rattle.asp_proof.specs.declared.error.ProofError.TheVariants as proof
use Rattle.asp_checker.specs.declared.run.CheckStatus.{CheckStatus}
use Rattle.asp_checker.specs.declared.run.CheckStatus.TheVariants as status
use Rattle.asp_checker.specs.declared.error.CheckError.{CheckError}
use Rattle.asp_checker.specs.declared.error.CheckError.TheVariants as error
use Rattle.asp_checker.specs.declared.run.Format.{Format}
use Rattle.asp_checker.specs.Formats.{outcome_for}
use Rattle.asp_checker.specs.Streams.{IsFaultAt, Judges}

-- what is said of a program's text and of the proof's text after it
abbrev pub TextsSay : Format → List ℕ → List ℕ → Result Judgement CheckError → Type 0
TextsSay format program text (Ok j) = (p : Program) × (outcome_for format program ≡ Ok p) × Judges p text (Ok j)
TextsSay format program text (Err error.Memory) = Unit {0}
TextsSay format program text (Err error.NoProof) = ⊥
TextsSay format program text (Err (error.Program e)) = outcome_for format program ≡ Err e
TextsSay format program text (Err (error.Proof proof.Memory)) = ⊥
TextsSay format program text (Err (error.Proof proof.ReadFault)) = Unit {0}
TextsSay format program text (Err (error.Proof proof.TooLong)) = HasLongLine text
TextsSay format program text (Err (error.Proof (proof.Refused number))) = (p : Program) × (outcome_for format program ≡ Ok p) × IsFaultAt p text number

-- ---- one text
-- The text begins with a proof's first line.
abbrev pub is_proof_line : List ℕ → Bool
is_proof_line text = starts_with nat_eq text (codes "proof 3\n")

-- how many bytes stand before the first line of a proof, where the text begins at a line's start, or doesn't
abbrev pub place_from : Bool → List ℕ → ℕ
place_from at_start [] = 0
place_from at_start (b ∷ text) = if at_start && is_proof_line (b ∷ text) then 0 else suc (place_from (b == 10) text)

abbrev pub proof_place : List ℕ → ℕ
proof_place text = place_from true text

abbrev pub number_of : Why → ℕ
number_of why.Member = 1
number_of why.Order = 2
number_of why.Literal = 3
number_of why.Loop = 4
number_of why.NotImplied = 5
number_of why.NotWhole = 6
number_of why.Cost = 7
number_of why.NotListed = 8

-- what is written
abbrev pub said : Judgement → List ℕ
said judgement.Yes = codes "YES\n"
said (judgement.Part n) = codes "PART " ++ decimal n ++ codes "\n"
said (judgement.No w line) = codes "NO " ++ decimal (number_of w) ++ codes " " ++ decimal line ++ codes "\n"

abbrev pub proof_status : ProofError → CheckStatus
proof_status proof.Memory = status.Memory
proof_status proof.ReadFault = status.ReadFault
proof_status proof.TooLong = status.TooLong
proof_status (proof.Refused number) = status.Proof (proof.Refused number)

abbrev pub status_of : CheckError → CheckStatus
status_of error.Memory = status.Memory
status_of (error.Program e) = status.Program e
status_of error.NoProof = status.NoProof
status_of (error.Proof e) = proof_status e

abbrev pub status_said : Judgement → CheckStatus
status_said judgement.Yes = status.Yes
status_said (judgement.Part n) = status.Part n
status_said (judgement.No w n) = status.No w n

-- where a judgement was written, all of it was sent on
abbrev pub IsSentOn : Bool → CheckStatus → Type 0
IsSentOn sent status.Yes = sent ≡ true
IsSentOn sent (status.Part n) = sent ≡ true
IsSentOn sent (status.No w n) = sent ≡ true
IsSentOn sent s = Unit {0}

-- what became of a sink where a judgement was written
abbrev pub Writes : Option (List ℕ) → Option (List ℕ) → Judgement → CheckStatus → Type 0
Writes old new j status.Yes = (j ≡ judgement.Yes) × Appends old new (said j)
Writes old new j (status.Part n) = (j ≡ judgement.Part n) × Appends old new (said j)
Writes old new j (status.No w n) = (j ≡ judgement.No w n) × Appends old new (said j)
Writes old new j status.Memory = Keeps old new
Writes old new j status.WriteFault = AppendsFront old new (said j)
Writes old new j (status.Program e) = ⊥
Writes old new j status.ReadFault = ⊥
Writes old new j status.TooLong = ⊥
Writes old new j status.NoProof = ⊥
Writes old new j (status.Proof e) = ⊥

-- the program's text, and the proof's
abbrev pub program_part : List ℕ → List ℕ
program_part text = take (proof_place text) text

abbrev pub proof_part : List ℕ → List ℕ
proof_part text = drop (proof_place text) text

-- a line is too long, or the program
abbrev pub IsTooLong : List ℕ → Type 0
IsTooLong text = HasLongLine text ⊎ (most_bytes < length (program_part text))

-- what is said of a text, whose program is in this format
abbrev pub InputSays : Format → List ℕ → Result Judgement CheckError → Type 0
InputSays format text (Ok j) = TextsSay format (program_part text) (proof_part text) (Ok j)
InputSays format text (Err error.Memory) = Unit {0}
InputSays format text (Err error.NoProof) = proof_place text ≡ length text
InputSays format text (Err (error.Program e)) = outcome_for format (program_part text) ≡ Err e
InputSays format text (Err (error.Proof proof.Memory)) = ⊥
InputSays format text (Err (error.Proof proof.ReadFault)) = Unit {0}
InputSays format text (Err (error.Proof proof.TooLong)) = IsTooLong text
InputSays format text (Err (error.Proof (proof.Refused number))) = TextsSay format (program_part text) (proof_part text) (Err (error.Proof (proof.Refused number)))

-- what a text comes to
abbrev pub TextSays : Format → List ℕ → Option (List ℕ) → Option (List ℕ) → CheckStatus → Type 0
TextSays format text old new status.Yes = InputSays format text (Ok judgement.Yes) × Appends old new (said judgement.Yes)
TextSays format text old new (status.Part n) = InputSays format text (Ok (judgement.Part n)) × Appends old new (said (judgement.Part n))
TextSays format text old new (status.No w n) = InputSays format text (Ok (judgement.No w n)) × Appends old new (said (judgement.No w n))
TextSays format text old new status.Memory = Keeps old new
TextSays format text old new (status.Program e) = InputSays format text (Err (error.Program e)) × Keeps old new
TextSays format text old new status.ReadFault = Keeps old new
TextSays format text old new status.TooLong = IsTooLong text × Keeps old new
TextSays format text old new status.NoProof = (proof_place text ≡ length text) × Keeps old new
TextSays format text old new (status.Proof e) = InputSays format text (Err (error.Proof e)) × Keeps old new
TextSays format text old new status.WriteFault = (j : Judgement) × InputSays format text (Ok j) × AppendsFront old new (said j)

-- There is a text, the source's where it tells its bytes, that comes to this.
pub record RunSays (format : Format) (source old new : Option (List ℕ)) (s : CheckStatus) : Type 0 where
  pub text : List ℕ
  pub told : IfSome source (λ t. t ≡ text)
  pub says : TextSays format text old new s

-- ---- on the way
-- a text with one line more, or why it hasn't
abbrev pub AddsLine : {U : Type 0} → List ℕ → List ℕ → List ℕ → Result U CheckError → Type 0
AddsLine old new line (Ok u) = (new ≡ old ++ (line ++ 10 ∷ [])) × (length new ≤ most_bytes)
AddsLine old new line (Err error.Memory) = Unit {0}
AddsLine old new line (Err error.NoProof) = ⊥
AddsLine old new line (Err (error.Program e)) = ⊥
AddsLine old new line (Err (error.Proof e)) = (e ≡ proof.TooLong) × (most_bytes < length old + length line + 1)

abbrev pub found_text : {V : Type 0} → (V → List ℕ) → Result (Option V) CheckError → Result (Option (List ℕ)) CheckError
found_text items (Ok (Some v)) = Ok (Some (items v))
found_text items (Ok None) = Ok None
found_text items (Err e) = Err e

-- The program's text, and what was read has the first line of a proof behind it; or there is no such line, or no text.
abbrev pub FindsProof : Option (List ℕ) → Option (List ℕ) → Window → Result (Option (List ℕ)) CheckError → Type 0
FindsProof source now w (Ok (Some program)) = (w.line ≡ codes "proof 3") × Moves source now [] (program ++ held w) ×
    ((rest : List ℕ) → proof_place (program ++ (codes "proof 3" ++ 10 ∷ rest)) ≡ length program)
FindsProof source now w (Ok None) = Comes source [] (λ text. (format : Format) → InputSays format text (Err error.NoProof))
FindsProof source now w (Err e) = Comes source [] (λ text. (format : Format) → InputSays format text (Err e))
