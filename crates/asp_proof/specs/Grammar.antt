-- Which proofs have a text, and which texts are one.
use Rattle.std.specs.Prelude.{◌≡◌, ℕ, ◌+◌, ◌^◌, ◌<◌, ◌≤◌, ◌≢◌, List, ◌++◌, ◌∷◌, length, ℤ}
use Rattle.std.specs.List.{AllByRecursion}
use Rattle.asp_proof.specs.Texts.{line, lines}
use Rattle.asp_model.specs.Sets.{Atoms, IsAscending}
use Rattle.asp_model.specs.Holding.{atom_of}
use Rattle.asp_proof.specs.declared.proof.Line.{Line}
use Rattle.asp_proof.specs.declared.proof.Line.TheVariants as kind
use Rattle.asp_proof.specs.declared.proof.Proof.{Proof}
use Rattle.asp_proof.specs.Texts.{text_of}
use Rattle.asp_proof.specs.Fields.{IsCount}

abbrev pub most : ℕ
most = 2147483647

-- the greatest length of a line
abbrev pub most_bytes : ℕ
most_bytes = 268435456

abbrev pub IsAtom : ℕ → Type 0
IsAtom a = (0 < a) × (a ≤ most)

-- a variable, with a sign
abbrev pub IsLiteral : ℤ → Type 0
IsLiteral l = IsAtom (atom_of l)

-- each of them is such, and a number of 32 bits counts them
pub record AreCounted {A : Type 0} (P : A → Type 0) (xs : List A) : Type 0 where
  pub each : AllByRecursion P xs
  pub few : length xs < 2 ^ 32

pub record IsSet (S : Atoms) : Type 0 where
  pub ascending : IsAscending S
  pub atoms : AreCounted IsAtom S

abbrev pub IsNogood : List ℤ → Type 0
IsNogood = AreCounted IsLiteral

abbrev pub ArePlaces : List ℕ → Type 0
ArePlaces = AreCounted IsCount

abbrev pub Both : {A B : Type 0} → (A → Type 0) → (B → Type 0) → A × B → Type 0
Both P Q x = P x.0 × Q x.1

-- the set of a loop isn't empty
abbrev pub IsLoopSet : Atoms → Type 0
IsLoopSet S = IsSet S × (0 < length S)

abbrev pub IsLoop : ℕ × (Atoms × List ℤ) → Type 0
IsLoop = Both IsCount (Both IsLoopSet IsNogood)

abbrev pub IsLearned : ℕ × (List ℤ × List ℕ) → Type 0
IsLearned = Both IsCount (Both IsNogood ArePlaces)

-- a line that a text may have
abbrev pub IsLine : Line → Type 0
IsLine (kind.Loop place set nogood) = IsLoop (place, (set, nogood))
IsLine (kind.Learned place nogood names) = IsLearned (place, (nogood, names))
IsLine (kind.Cube cube) = IsNogood cube
IsLine (kind.Found change) = IsSet change

pub record IsProof (p : Proof) : Type 0 where
  pub lines : AllByRecursion IsLine p.lines
  pub answers : AllByRecursion IsSet p.answers

-- the text of some proof
pub record IsProofText (text : List ℕ) : Type 0 where
  pub proof : Proof
  pub is : IsProof proof
  pub same : text_of proof ≡ text

-- some proof's text begins so
pub record Begins (front : List ℕ) : Type 0 where
  pub rest : List ℕ
  pub whole : IsProofText (front ++ rest)

-- no line feed stands in it
abbrev pub IsUnbroken : List ℕ → Type 0
IsUnbroken = AllByRecursion (λ b. b ≢ 10)

-- so many lines, each with its line feed
pub record IsLines (count : ℕ) (text : List ℕ) : Type 0 where
  pub parts : List (List ℕ)
  pub counted : length parts ≡ count
  pub unbroken : AllByRecursion IsUnbroken parts
  pub same : lines (λ (bytes : List ℕ). bytes) parts ≡ text

-- the line with this number is the first with which no proof's text begins: the lines before it begin one, and with it they don't, nor is all of the text one
pub record IsFirstFault (text : List ℕ) (number : ℕ) : Type 0 where
  pub before : ℕ
  pub numbered : number ≡ before + 1
  pub front : List ℕ
  pub rest : List ℕ
  pub parted : front ++ rest ≡ text
  pub lines_before : IsLines before front
  pub begins : Begins front
  pub with_it : (bytes after : List ℕ) → IsUnbroken bytes → bytes ++ 10 ∷ after ≡ rest → Begins (front ++ line bytes) → ⊥
  pub whole : IsProofText text → ⊥
