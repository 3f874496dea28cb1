-- What a judgement of a proof says: that it is right, or the first line that isn't, and why.
use Rattle.std.specs.Prelude.{◌≡◌, ℕ, ◌+◌, ◌<◌, ◌≤◌, Bool, true, false, ◌⊎◌, List, [], ◌∷◌, ◌++◌, take, length, slice_index_or, AllPairs, Contains, IsTrue, ℤ}
use Rattle.std.specs.List.{list_all, list_any, AllByRecursion}
use Rattle.asp_model.specs.declared.program.Program.{Program}
use Rattle.std.specs.declared.cmp.Ordering.TheVariants.{Less}
use Rattle.asp_model.specs.Sets.{Atoms, has, set_cmp, IsBefore}
use Rattle.asp_model.specs.Models.{atoms_of, answers}
use Rattle.asp_proof.specs.declared.proof.Line.{Line}
use Rattle.asp_proof.specs.declared.proof.Line.TheVariants as line
use Rattle.asp_proof.specs.declared.proof.Proof.{Proof}
use Rattle.asp_checker.specs.declared.judge.Why.{Why}
use Rattle.asp_checker.specs.declared.judge.Why.TheVariants as why
use Rattle.asp_checker.specs.declared.judge.Judgement.TheVariants as judgement
use Rattle.asp_checker.specs.declared.judge.Listed.{Listed}
use Rattle.asp_checker.specs.declared.judge.Listed.TheVariants as seen
use Rattle.asp_checker.specs.declared.propagator.Read.{Read}
use Rattle.asp_checker.specs.declared.propagator.Read.TheVariants as read
use Rattle.asp_proof.specs.declared.proof.Sought.{Sought}
use Rattle.asp_proof.specs.Texts.{answer_text, line_text}
use Rattle.asp_proof.specs.Grammar.{IsSet, IsLine}
use Rattle.asp_proof.specs.Fields.{IsNone, IsWhole}
use Rattle.asp_proof.specs.Walk.{IsNextAnswer}
use Rattle.asp_checker.specs.Propagation.{Known, LeadsToConflict}
use Rattle.asp_checker.specs.declared.propagator.Propagator.{Propagator}
use Rattle.asp_checker.specs.Lines.{AreOf, IsLoop, IsConfirmed, AreConfirmed, literals_of, bound_by, avoided, IsCheaper, CostsAlike, Gathered, gathered, first_gathered, known_of, found_by, with_line, gathered_after}
use Rattle.asp_checker.specs.Right.{closes, is_best, AreAlike, promised, found_of}
use Rattle.asp_checker.specs.Blocks.{HasLevels, known_with, cost_of_bound}
use Rattle.asp_checker.specs.Chasing.{IsRoot}
use Rattle.asp_vars.specs.Literals.{Literal}

-- ---- answers
-- The set comes after those before it, and there is none before it where an optimum is sought.
pub record IsInOrder (opt : Bool) (before : List Atoms) (S : Atoms) : Type 0 where
  pub later : AllByRecursion (λ T. IsBefore T S) before
  pub single : IsTrue opt → before ≡ []

-- The answers are right, as far as they go.
pub record AreRightAnswers (p : Program) (sought : Sought) (listed : List Atoms) : Type 0 where
  pub members : AllByRecursion (Contains (answers p)) listed
  pub order : AllPairs IsBefore listed
  pub single : IsTrue (is_best sought) → length listed ≤ 1
  pub alike : AreAlike p sought listed

-- Each of the sets comes before the later ones, as lists are compared.
abbrev pub AreSorted : List Atoms → Type 0
AreSorted listed = AllPairs (λ S T. set_cmp S T ≡ Less) listed

-- The set is right behind them.
pub record IsRightAnswer (p : Program) (sought : Sought) (before : List Atoms) (S : Atoms) : Type 0 where
  pub order : IsInOrder (is_best sought) before S
  pub member : Contains (answers p) S
  pub alike : CostsAlike p sought before S

-- what is wrong with a set behind answers that are right
abbrev pub HasAnswerFault : Program → Sought → List Atoms → Atoms → Why → Type 0
HasAnswerFault p s before S why.Order = IsInOrder (is_best s) before S → ⊥
HasAnswerFault p s before S why.Literal = IsInOrder (is_best s) before S × (list_all (has (atoms_of p)) S ≡ false)
HasAnswerFault p s before S why.Member = IsInOrder (is_best s) before S × (list_all (has (atoms_of p)) S ≡ true) × (Contains (answers p) S → ⊥)
HasAnswerFault p s before S why.Cost = IsInOrder (is_best s) before S × Contains (answers p) S × (CostsAlike p s before S → ⊥)
HasAnswerFault p s before S why.Loop = ⊥
HasAnswerFault p s before S why.NotImplied = ⊥
HasAnswerFault p s before S why.NotWhole = ⊥
HasAnswerFault p s before S why.NotListed = ⊥

-- what the bytes of a line came to where an answer may come, which they tell by its change: one that is right, and listed now, or is wrong, or none
abbrev pub IsAnswerRead : Program → Sought → List Atoms → List Atoms → List ℕ → Listed → Type 0
IsAnswerRead p s before now bytes seen.Right = (S : Atoms) × IsNextAnswer before bytes S × IsRightAnswer p s before S × (now ≡ before ++ S ∷ [])
IsAnswerRead p s before now bytes (seen.Wrong w) = (S : Atoms) × IsNextAnswer before bytes S × HasAnswerFault p s before S w × (now ≡ before)
IsAnswerRead p s before now bytes seen.Other = IsNone IsSet answer_text bytes × (now ≡ before)

-- the first set that is wrong
pub record IsWrongAnswer (p : Program) (sought : Sought) (listed : List Atoms) (w : Why) (place : ℕ) : Type 0 where
  pub within : place < length listed
  pub before : AreRightAnswers p sought (take place listed)
  pub fault : HasAnswerFault p sought (take place listed) (slice_index_or listed place []) w

-- ---- lines
-- The program has the variables of a loop's literals and the atoms of its set.
abbrev pub HasLoopLiterals : Program → Atoms → List ℤ → Type 0
HasLoopLiterals p set nogood = (list_all (has (atoms_of p)) set ≡ true) × AreOf p (literals_of nogood)

-- The program has the variables of the line's literals, and the atoms of its set, where this was gathered before it.
abbrev pub HasLiterals : Program → Gathered → Line → Type 0
HasLiterals p g (line.Loop place set nogood) = HasLoopLiterals p set nogood
HasLiterals p g (line.Learned place nogood names) = AreOf p (literals_of nogood)
HasLiterals p g (line.Cube nogood) = AreOf p (literals_of nogood)
HasLiterals p g (line.Found change) = list_all (has (atoms_of p)) (found_by g change) ≡ true

-- what the line is to show isn't so
abbrev pub IsNoLoop : Program → Line → Type 0
IsNoLoop p (line.Loop place set nogood) = IsLoop p set (literals_of nogood) → ⊥
IsNoLoop p (line.Learned place nogood names) = ⊥
IsNoLoop p (line.Cube nogood) = ⊥
IsNoLoop p (line.Found change) = ⊥

abbrev pub IsNotImplied : Program → Known → Line → Type 0
IsNotImplied p k (line.Loop place set nogood) = ⊥
IsNotImplied p k (line.Learned place nogood names) = LeadsToConflict p k (literals_of nogood) → ⊥
IsNotImplied p k (line.Cube nogood) = LeadsToConflict p k (literals_of nogood) → ⊥
IsNotImplied p k (line.Found change) = ⊥

-- what a set that is found costs is wrong
abbrev pub IsNotCheaper : Program → Sought → Gathered → Line → Type 0
IsNotCheaper p o g (line.Loop place set nogood) = ⊥
IsNotCheaper p o g (line.Learned place nogood names) = ⊥
IsNotCheaper p o g (line.Cube nogood) = ⊥
IsNotCheaper p o g (line.Found change) = IsCheaper p o g.found (found_by g change) → ⊥

abbrev pub IsNotAlike : Program → Sought → Gathered → Line → Type 0
IsNotAlike p o g (line.Loop place set nogood) = ⊥
IsNotAlike p o g (line.Learned place nogood names) = ⊥
IsNotAlike p o g (line.Cube nogood) = ⊥
IsNotAlike p o g (line.Found change) = CostsAlike p o g.found (found_by g change) → ⊥

-- what is wrong with a line, where this was gathered before it
abbrev pub HasLineFault : Program → Sought → Gathered → Line → Why → Type 0
HasLineFault p o g l why.Literal = HasLiterals p g l → ⊥
HasLineFault p o g l why.Loop = HasLiterals p g l × IsNoLoop p l
HasLineFault p o g l why.NotImplied = HasLiterals p g l × IsNotImplied p (known_of p o g) l
HasLineFault p o g l why.Order = HasLiterals p g l × IsNotCheaper p o g l
HasLineFault p o g l why.Cost = HasLiterals p g l × IsNotAlike p o g l
HasLineFault p o g l why.Member = ⊥
HasLineFault p o g l why.NotWhole = ⊥
HasLineFault p o g l why.NotListed = ⊥

-- what is wrong with a set that is found behind others
abbrev pub HasFoundFault : Program → Sought → List Atoms → Atoms → Why → Type 0
HasFoundFault p o before S why.Literal = list_all (has (atoms_of p)) S ≡ true → ⊥
HasFoundFault p o before S why.Order = (list_all (has (atoms_of p)) S ≡ true) × (IsCheaper p o before S → ⊥)
HasFoundFault p o before S why.Cost = (list_all (has (atoms_of p)) S ≡ true) × (CostsAlike p o before S → ⊥)
HasFoundFault p o before S why.Loop = ⊥
HasFoundFault p o before S why.NotImplied = ⊥
HasFoundFault p o before S why.Member = ⊥
HasFoundFault p o before S why.NotWhole = ⊥
HasFoundFault p o before S why.NotListed = ⊥

-- ---- what is kept while lines are judged
-- what was gathered
abbrev pub gathered_by : Propagator → Gathered
gathered_by h = gathered h.found.sets h.rows

-- It is over the program's variables and atoms, and the values follow from what is known for good.
pub record IsReady (p : Program) (o : Sought) (h : Propagator) : Type 0 where
  pub kept : AllByRecursion (AreOf p) h.rows.kept.items
  pub placed : AllByRecursion (AreOf p) h.rows.placed.items
  pub atoms : h.found.atoms ≡ atoms_of p
  pub levels : HasLevels p h.bound
  pub bound : cost_of_bound h.bound ≡ bound_by p o h.found.sets
  pub root : IsRoot p (known_with p (avoided o h.found.sets) h.rows.kept.items h.bound) h.values

-- A line is right, and was gathered; whether it says that there is nothing else.
pub record IsGatheredNow (p : Program) (o : Sought) (old new : Propagator) (l : Line) (closing : Bool) : Type 0 where
  pub confirmed : IsConfirmed p o (gathered_by old) l
  pub ready : IsReady p o new
  pub now : gathered_by new ≡ with_line (gathered_by old) l
  pub closing_is : closing ≡ closes p l

-- what a line came to
abbrev pub IsLineTaken : Program → Sought → Propagator → Propagator → Line → Read → Type 0
IsLineTaken p o old new l read.Other = ⊥
IsLineTaken p o old new l (read.Wrong w) = HasLineFault p o (gathered_by old) l w
IsLineTaken p o old new l (read.Right closing) = IsGatheredNow p o old new l closing

-- what the bytes of a line came to where a line may come that is no answer's: no such line, or one that was judged
abbrev pub IsLineRead : Program → Sought → Propagator → Propagator → List ℕ → Read → Type 0
IsLineRead p o old new bytes read.Other = IsNone IsLine line_text bytes × (new ≡ old)
IsLineRead p o old new bytes (read.Wrong w) = (l : Line) × IsWhole IsLine line_text bytes l × IsLineTaken p o old new l (read.Wrong w)
IsLineRead p o old new bytes (read.Right closing) = (l : Line) × IsWhole IsLine line_text bytes l × IsLineTaken p o old new l (read.Right closing)

-- the line past the last
abbrev pub no_line : Line
no_line = line.Cube []

-- the first line that is wrong
pub record IsWrongLine (p : Program) (o : Sought) (lines : List Line) (w : Why) (place : ℕ) : Type 0 where
  pub within : place < length lines
  pub before : AreConfirmed p o (first_gathered p) (take place lines)
  pub fault : HasLineFault p o (gathered_after (first_gathered p) (take place lines)) (slice_index_or lines place no_line) w

-- ---- the whole
-- In the text the first line is on line 3, the lines are followed by the answers, and these by the last line.
pub record IsLineFault (p : Program) (proof : Proof) (w : Why) (number : ℕ) : Type 0 where
  pub place : ℕ
  pub wrong : IsWrongLine p proof.sought proof.lines w place
  pub is : number ≡ place + 3

pub record IsAnswerFault (p : Program) (proof : Proof) (w : Why) (number : ℕ) : Type 0 where
  pub lines : AreConfirmed p proof.sought (first_gathered p) proof.lines
  pub place : ℕ
  pub wrong : IsWrongAnswer p proof.sought proof.answers w place
  pub is : number ≡ length proof.lines + place + 3

-- The lines and the answers are right, and it isn't told that these are a part of what was sought.
pub record ClaimsAll (p : Program) (proof : Proof) (number : ℕ) : Type 0 where
  pub lines : AreConfirmed p proof.sought (first_gathered p) proof.lines
  pub answers : AreRightAnswers p proof.sought proof.answers
  pub ends : proof.part ≡ false
  pub is : number ≡ length proof.lines + length proof.answers + 3

-- No line says that there is nothing else; or one does, and a set isn't listed that was promised.
abbrev pub HasLastFault : Program → Proof → Why → Type 0
HasLastFault p proof why.NotWhole = list_any (closes p) proof.lines ≡ false
HasLastFault p proof why.NotListed = IsTrue (list_any (closes p) proof.lines) × (AllByRecursion (Contains proof.answers) (promised proof.sought (found_of p proof.lines)) → ⊥)
HasLastFault p proof why.Member = ⊥
HasLastFault p proof why.Order = ⊥
HasLastFault p proof why.Literal = ⊥
HasLastFault p proof why.Loop = ⊥
HasLastFault p proof why.NotImplied = ⊥
HasLastFault p proof why.Cost = ⊥

-- why a proof isn't right, and on which line
abbrev pub IsRefused : Program → Proof → Why → ℕ → Type 0
IsRefused p proof w number = IsLineFault p proof w number ⊎ (IsAnswerFault p proof w number ⊎ (ClaimsAll p proof number × HasLastFault p proof w))
