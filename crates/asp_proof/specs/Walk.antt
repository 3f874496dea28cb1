-- A text of which some lines were taken.
use Rattle.std.specs.Prelude.{◌≡◌, ◌⊎◌, ℕ, ◌<◌, Bool, false, List, [], ◌∷◌, ◌++◌, length}
use Rattle.std.specs.List.{AllByRecursion}
use Rattle.asp_proof.specs.Texts.{line, lines}
use Rattle.asp_model.specs.Sets.{Atoms}
use Rattle.asp_proof.specs.declared.proof.Line.{Line}
use Rattle.asp_proof.specs.declared.proof.Proof.{Proof}
use Rattle.asp_proof.specs.declared.proof.Sought.{Sought}
use Rattle.asp_proof.specs.Texts.{answer_text, line_text, last_word, head_text}
use Rattle.asp_proof.specs.Changes.{changed, changes_of, last_of}
use Rattle.asp_proof.specs.Grammar.{IsSet, IsLine, IsProof, IsLines, IsProofText}
use Rattle.asp_proof.specs.Fields.{IsNone, IsWhole}

abbrev pub proof_of : Sought → List Line → List Atoms → Proof
proof_of sought entries answers = record { sought = sought; lines = entries; answers = answers; part = false }

-- the same proof, which says of its answers whether they are a part of what was sought
abbrev pub ended : Proof → Bool → Proof
ended p part = record p { part = part }

-- the lines that were taken, and not the last one
abbrev pub front_of : Proof → List ℕ
front_of p = head_text p.sought ++ lines line_text p.lines ++ lines answer_text (changes_of p.answers)

-- what ends a proof's text whose answers so far are these: more lines, if there is no answer yet, more answers, and the last line
pub record Ends (answers : List Atoms) (rest : List ℕ) : Type 0 where
  pub more_lines : List Line
  pub more_changes : List Atoms
  pub are_lines : AllByRecursion IsLine more_lines
  pub are_sets : AllByRecursion IsSet more_changes
  pub in_order : 0 < length answers → more_lines ≡ []
  pub part : Bool
  pub same : lines line_text more_lines ++ (lines answer_text more_changes ++ line (last_word part)) ≡ rest

-- so many lines are the front of a proof's text, and what a proof's text has after them is what may come next
pub record IsBegun (count : ℕ) (p : Proof) : Type 0 where
  pub is : IsProof p
  pub counted : IsLines count (front_of p)
  pub only : (more : List ℕ) → IsProofText (front_of p ++ more) → Ends p.answers more

-- one proof begins as another does
pub record IsStart (q p : Proof) : Type 0 where
  pub mode : q.sought ≡ p.sought
  pub more_lines : List Line
  pub lines : p.lines ≡ q.lines ++ more_lines
  pub more_answers : List Atoms
  pub answers : p.answers ≡ q.answers ++ more_answers
  pub all_lines : 0 < length q.answers → more_lines ≡ []

-- so many lines were taken, of which this proof is made, and the rest of the text wasn't looked at
pub record IsWalked (text : List ℕ) (count : ℕ) (p : Proof) (rest : List ℕ) : Type 0 where
  pub is : IsProof p
  pub parted : front_of p ++ rest ≡ text
  pub counted : IsLines count (front_of p)
  pub only : (more : List ℕ) → IsProofText (front_of p ++ more) → Ends p.answers more

-- the answer that comes after these by the change that a line tells
pub record IsNextAnswer (answers : List Atoms) (bytes : List ℕ) (S : Atoms) : Type 0 where
  pub change : Atoms
  pub whole : IsWhole IsSet answer_text bytes change
  pub is : S ≡ changed (last_of answers) change

-- one line was taken
abbrev pub Takes : List ℕ → List Line → List Atoms → List Line → List Atoms → Type 0
Takes bytes entries answers now_entries now_answers =
    ((l : Line) × (answers ≡ []) × (now_answers ≡ []) × (now_entries ≡ entries ++ l ∷ []) × IsWhole IsLine line_text bytes l)
    ⊎ ((S : Atoms) × (now_entries ≡ entries) × (now_answers ≡ answers ++ S ∷ []) × IsNextAnswer answers bytes S)

-- no line that may come next is this
pub record IsRefused (bytes : List ℕ) (answers : List Atoms) : Type 0 where
  pub no_answer : IsNone IsSet answer_text bytes
  pub no_line : answers ≡ [] → IsNone IsLine line_text bytes
