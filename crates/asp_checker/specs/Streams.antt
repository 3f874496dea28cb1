-- What is said of a proof whose text is read and judged line by line.
use Rattle.std.specs.Prelude.{◌≡◌, ◌⊎◌, ℕ, ◌+◌, List, [], ◌++◌, length, codes, Bool, true, false, Option, Result, Contains, IsTrue}
use Rattle.std.specs.List.{list_any, AllByRecursion}
use Rattle.std.specs.declared.result.Result.TheVariants.{Ok, Err}
use Rattle.std.specs.declared.option.Option.TheVariants.{None, Some}
use Rattle.asp_model.specs.Sets.{Atoms}
use Rattle.asp_model.specs.Models.{atoms_of}
use Rattle.asp_model.specs.declared.program.Program.{Program}
use Rattle.asp_model.specs.Sound.{IsSound}
use Rattle.asp_proof.specs.declared.proof.Line.{Line}
use Rattle.asp_proof.specs.declared.proof.Proof.{Proof}
use Rattle.asp_proof.specs.declared.proof.Sought.{Sought}
use Rattle.asp_proof.specs.declared.error.ProofError.{ProofError}
use Rattle.asp_proof.specs.declared.error.ProofError.TheVariants as proof
use Rattle.asp_proof.specs.Texts.{answer_text, line_text, text_of}
use Rattle.asp_proof.specs.Grammar.{IsProof, IsSet, IsLine, IsUnbroken, IsFirstFault}
use Rattle.asp_proof.specs.Fields.{IsNone}
use Rattle.asp_proof.specs.Walk.{IsBegun, front_of, proof_of}
use Rattle.asp_proof.specs.Reading.{HasLongLine, IsNextLine, Moves, Comes, Window, held}
use Rattle.asp_checker.specs.declared.judge.Why.{Why}
use Rattle.asp_checker.specs.declared.judge.Why.TheVariants as why
use Rattle.asp_checker.specs.declared.judge.Judgement.{Judgement}
use Rattle.asp_checker.specs.declared.judge.Judgement.TheVariants as judgement
use Rattle.asp_checker.specs.declared.error.CheckError.{CheckError}
use Rattle.asp_checker.specs.declared.error.CheckError.TheVariants as error
use Rattle.asp_checker.specs.Lines.{AreConfirmed, first_gathered, gathered_after}
use Rattle.asp_checker.specs.Right.{closes, found_of, promised, IsRight, ShowsBy}
use Rattle.asp_checker.specs.declared.propagator.Propagator.{Propagator}
use Rattle.asp_checker.specs.declared.stream.Tally.{Tally}
use Rattle.asp_checker.specs.Judging.{AreRightAnswers, IsRefused, HasLastFault, gathered_by}

-- All of a text is a right proof's, which shows what it lists, and tells whether that is a part of what was sought.
pub record IsShown (p : Program) (text : List ℕ) (part : Bool) : Type 0 where
  pub proof : Proof
  pub is : IsProof proof
  pub same : text_of proof ≡ text
  pub right : IsRight p proof
  pub ends : proof.part ≡ part
  pub shows : ShowsBy p part proof.sought proof.answers

-- The same of a proof that lists so many answers, and tells that they are a part of what was sought.
pub record IsPartShown (p : Program) (text : List ℕ) (count : ℕ) : Type 0 where
  pub shown : IsShown p text true
  pub counted : length shown.proof.answers ≡ count

-- The fault is the last line's.
abbrev pub is_last_fault : Why → Bool
is_last_fault why.NotWhole = true
is_last_fault why.NotListed = true
is_last_fault why.Member = false
is_last_fault why.Order = false
is_last_fault why.Literal = false
is_last_fault why.Loop = false
is_last_fault why.NotImplied = false
is_last_fault why.Cost = false

-- A text begins with lines of a proof, of which this one is the first that is wrong. Where that is the last line, the text has it.
pub record IsWrongAt (p : Program) (text : List ℕ) (w : Why) (number : ℕ) : Type 0 where
  pub proof : Proof
  pub is : IsProof proof
  pub rest : List ℕ
  pub begins : front_of proof ++ rest ≡ text
  pub wrong : IsRefused p proof w number
  pub last : IsTrue (is_last_fault w) → (after : List ℕ) × (codes "0\n" ++ after ≡ rest)

-- A text begins with lines of a proof that are right, and this line comes next, or comes after the last line.
pub record IsRightBefore (p : Program) (text : List ℕ) (number : ℕ) : Type 0 where
  pub proof : Proof
  pub is : IsProof proof
  pub rest : List ℕ
  pub begins : front_of proof ++ rest ≡ text
  pub lines : AreConfirmed p proof.sought (first_gathered p) proof.lines
  pub answers : AreRightAnswers p proof.sought proof.answers
  pub next : (number ≡ length proof.lines + length proof.answers + 3) ⊎ ((number ≡ length proof.lines + length proof.answers + 4) × IsRight p proof)

-- The line is the first with which no proof's text begins, and those before it are right. The first two have nothing to be judged.
pub record IsFaultAt (p : Program) (text : List ℕ) (number : ℕ) : Type 0 where
  pub first : IsFirstFault text number
  pub right : (number ≡ 2) ⊎ IsRightBefore p text number

-- why a proof's text was refused, or not had
abbrev pub RefusesProof : Program → List ℕ → ProofError → Type 0
RefusesProof p text proof.Memory = ⊥
RefusesProof p text proof.ReadFault = Unit {0}
RefusesProof p text proof.TooLong = HasLongLine text
RefusesProof p text (proof.Refused number) = IsFaultAt p text number

-- what is said of the text of a proof
abbrev pub Judges : Program → List ℕ → Result Judgement CheckError → Type 0
Judges p text (Ok judgement.Yes) = IsShown p text false
Judges p text (Ok (judgement.Part n)) = IsPartShown p text n
Judges p text (Ok (judgement.No w number)) = IsWrongAt p text w number
Judges p text (Err error.Memory) = Unit {0}
Judges p text (Err error.NoProof) = ⊥
Judges p text (Err (error.Program e)) = ⊥
Judges p text (Err (error.Proof e)) = RefusesProof p text e

-- ---- on the way
-- why no next line was had
abbrev pub FailsOn : List ℕ → CheckError → Type 0
FailsOn text error.Memory = Unit {0}
FailsOn text error.NoProof = ⊥
FailsOn text (error.Program e) = ⊥
FailsOn text (error.Proof proof.Memory) = ⊥
FailsOn text (error.Proof proof.ReadFault) = Unit {0}
FailsOn text (error.Proof proof.TooLong) = HasLongLine text
FailsOn text (error.Proof (proof.Refused number)) = ⊥

-- the next line came, or the end of the source
abbrev pub StepsTo : Option (List ℕ) → Option (List ℕ) → Window → Window → Result Bool CheckError → Type 0
StepsTo source now old new (Ok is_whole) = IsNextLine source now old new (Ok is_whole)
StepsTo source now old new (Err e) = Comes source old.behind (λ text. FailsOn text e)

-- what is said of a proof that is right and lists so many answers
abbrev pub right_judgement : Bool → ℕ → Judgement
right_judgement true n = judgement.Part n
right_judgement false n = judgement.Yes

-- ---- lines, and then answers
-- These lines are right, with which a proof's text begins; so many, whether one of them says that there is nothing else, and what they find.
pub record AreLinesBefore (p : Program) (o : Sought) (entries : List Line) (count : ℕ) (whole : Bool) (found : List Atoms) : Type 0 where
  pub begun : IsBegun (length entries + 2) (proof_of o entries [])
  pub confirmed : AreConfirmed p o (first_gathered p) entries
  pub counted : count ≡ length entries
  pub whole_is : whole ≡ list_any (closes p) entries
  pub found_is : found ≡ found_of p entries

-- The lines so far are right, and what was read has this behind them.
pub record AreSoFar (p : Program) (o : Sought) (h : Propagator) (t : Tally) (source now : Option (List ℕ)) (first behind : List ℕ) : Type 0 where
  pub entries : List Line
  pub right : AreLinesBefore p o entries t.count t.whole h.found.sets
  pub gathered : gathered_by h ≡ gathered_after (first_gathered p) entries
  pub moved : Moves source now first (front_of (proof_of o entries []) ++ behind)

-- Lines are right, and the next one is none of those that come before the answers.
pub record AreLinesOf (p : Program) (o : Sought) (entries : List Line) (count : ℕ) (whole : Bool) (found : List Atoms) (w : Window) : Type 0 where
  pub right : AreLinesBefore p o entries count whole found
  pub unbroken : IsUnbroken w.line
  pub no_line : IsNone IsLine line_text w.line

-- The same of what was read.
pub record AreAllRead (p : Program) (o : Sought) (h : Propagator) (t : Tally) (source now : Option (List ℕ)) (first : List ℕ) (w : Window) : Type 0 where
  pub atoms : h.found.atoms ≡ atoms_of p
  pub entries : List Line
  pub lines : AreLinesOf p o entries t.count t.whole h.found.sets w
  pub moved : Moves source now first (front_of (proof_of o entries []) ++ held w)

-- what judging the lines came to
abbrev pub JudgesLines : Program → Sought → Propagator → Tally → Option (List ℕ) → Option (List ℕ) → List ℕ → Window → Result (Option Why) CheckError → Type 0
JudgesLines p o h t source now first w (Ok None) = AreAllRead p o h t source now first w
JudgesLines p o h t source now first w (Ok (Some why)) = Comes source first (λ text. Judges p text (Ok (judgement.No why (t.count + 3))))
JudgesLines p o h t source now first w (Err e) = Comes source first (λ text. Judges p text (Err e))

-- Answers behind these lines are right, and the reader is at the next line.
pub record AreAnswersBefore (p : Program) (o : Sought) (entries : List Line) (answers : List Atoms) (w : Window) : Type 0 where
  pub right : AreRightAnswers p o answers
  pub begun : IsBegun (length entries + length answers + 2) (proof_of o entries answers)
  pub unbroken : IsUnbroken w.line
  pub no_line : answers ≡ [] → IsNone IsLine line_text w.line

-- The same of what was read.
pub record AreListed (p : Program) (o : Sought) (entries : List Line) (answers : List Atoms) (source now : Option (List ℕ)) (first : List ℕ) (w : Window) : Type 0 where
  pub before : AreAnswersBefore p o entries answers w
  pub moved : Moves source now first (front_of (proof_of o entries answers) ++ held w)

-- Answers are right, and the next line is none.
pub record AreAtEnd (p : Program) (o : Sought) (entries : List Line) (answers : List Atoms) (w : Window) : Type 0 where
  pub before : AreAnswersBefore p o entries answers w
  pub no_answer : IsNone IsSet answer_text w.line

-- The same of what was read.
pub record AreAllListed (p : Program) (o : Sought) (entries : List Line) (answers : List Atoms) (source now : Option (List ℕ)) (first : List ℕ) (w : Window) : Type 0 where
  pub at_end : AreAtEnd p o entries answers w
  pub moved : Moves source now first (front_of (proof_of o entries answers) ++ held w)

-- what judging the answers came to, where so many lines come before them
abbrev pub JudgesAnswers : Program → Sought → List Line → ℕ → List Atoms → Option (List ℕ) → Option (List ℕ) → List ℕ → Window → Result (Option Why) CheckError → Type 0
JudgesAnswers p o entries count answers source now first w (Ok None) = AreAllListed p o entries answers source now first w
JudgesAnswers p o entries count answers source now first w (Ok (Some why)) = Comes source first (λ text. Judges p text (Ok (judgement.No why (count + length answers + 3))))
JudgesAnswers p o entries count answers source now first w (Err e) = Comes source first (λ text. Judges p text (Err e))

-- The lines and the answers of a proof are right, as far as they were read; the line that comes next has this number.
pub record IsRightFront (p : Program) (q : Proof) (number : ℕ) : Type 0 where
  pub sound : IsSound p
  pub begun : IsBegun (length q.lines + length q.answers + 2) q
  pub lines : AreConfirmed p q.sought (first_gathered p) q.lines
  pub answers : AreRightAnswers p q.sought q.answers
  pub counted : number ≡ length q.lines + length q.answers + 3

-- ---- the last line
-- A line says that there is nothing else, and what was promised is listed.
pub record IsComplete (p : Program) (q : Proof) : Type 0 where
  pub whole : IsTrue (list_any (closes p) q.lines)
  pub kept : AllByRecursion (Contains q.answers) (promised q.sought (found_of p q.lines))

-- what is wrong with the last line, where it doesn't tell that the answers are a part of what was sought
abbrev pub IsEndJudged : Program → Proof → Bool → Option Why → Type 0
IsEndJudged p q part None = part ≡ false → IsComplete p q
IsEndJudged p q part (Some w) = (part ≡ false) × HasLastFault p q w
