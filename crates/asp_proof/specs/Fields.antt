-- Fields at the front of a line.
use Rattle.std.specs.Prelude.{◌≡◌, ◌≢◌, ℕ, ◌<◌, ◌^◌, List, [], ◌∷◌, ◌++◌, length, ℤ}
use Rattle.std.specs.List.{AllByRecursion}
use Rattle.asp_model.specs.Holding.{atom_of}

-- nothing, or such a byte first
abbrev pub Stops : ℕ → List ℕ → Type 0
Stops byte [] = Unit {0}
Stops byte (b ∷ bs) = b ≡ byte

-- a text in two parts, before the first such byte and from it on
pub record IsCut (byte : ℕ) (text front rest : List ℕ) : Type 0 where
  pub whole : front ++ rest ≡ text
  pub none : AllByRecursion (λ b. b ≢ byte) front
  pub at : Stops byte rest

-- a number of 32 bits and a sign
abbrev pub IsNumber : ℤ → Type 0
IsNumber z = atom_of z < 2 ^ 32

abbrev pub IsCount : ℕ → Type 0
IsCount n = n < 2 ^ 32

-- a line begins with the text of x, and rest follows
pub record IsAt {A : Type 0} (P : A → Type 0) (text : A → List ℕ) (line : List ℕ) (x : A) (rest : List ℕ) : Type 0 where
  pub is : P x
  pub same : text x ++ rest ≡ line
  pub stops : Stops 32 rest

-- a line doesn't begin with the text of any
abbrev pub IsMissing : {A : Type 0} → (A → Type 0) → (A → List ℕ) → List ℕ → Type 0
IsMissing {A} P text line = (x : A) (rest : List ℕ) → IsAt P text line x rest → ⊥

-- a line is the text of x
pub record IsWhole {A : Type 0} (P : A → Type 0) (text : A → List ℕ) (line : List ℕ) (x : A) : Type 0 where
  pub is : P x
  pub same : text x ≡ line

abbrev pub IsNone : {A : Type 0} → (A → Type 0) → (A → List ℕ) → List ℕ → Type 0
IsNone {A} P text line = (x : A) → IsWhole P text line x → ⊥

-- so many of them
pub record AreSo {A : Type 0} (P : A → Type 0) (n : ℕ) (xs : List A) : Type 0 where
  pub each : AllByRecursion P xs
  pub counted : length xs ≡ n
