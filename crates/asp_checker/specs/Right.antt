-- When a proof is right, and what it shows.
use Rattle.std.specs.Prelude.{◌≡◌, ◌≤◌, Bool, true, false, List, [], ◌∷◌, map, length, AllPairs, Contains, IsTrue}
use Rattle.std.specs.List.{list_all, list_any, AllByRecursion}
use Rattle.asp_model.specs.declared.program.Program.{Program}
use Rattle.asp_model.specs.Sets.{Atoms, IsBefore}
use Rattle.asp_model.specs.Models.{answers}
use Rattle.asp_model.specs.Costs.{cost, optima, IsOptimum}
use Rattle.asp_vars.specs.Literals.{Literal, has_literal}
use Rattle.asp_vars.specs.Numbering.{literal_of}
use Rattle.asp_proof.specs.declared.proof.Line.{Line}
use Rattle.asp_proof.specs.declared.proof.Line.TheVariants as line
use Rattle.asp_proof.specs.declared.proof.Proof.{Proof}
use Rattle.asp_proof.specs.declared.proof.Sought.{Sought}
use Rattle.asp_proof.specs.declared.proof.Sought.TheVariants as sought
use Rattle.asp_proof.specs.Changes.{last_from}
use Rattle.asp_checker.specs.Lines.{literals_of, AreConfirmed, first_gathered, gathered_after}

-- Each of the literals is an assumption.
abbrev pub is_assumed : Program → List Literal → Bool
is_assumed p n = list_all (has_literal (map (literal_of p) p.assumptions)) n

-- The line says that nothing else is to be found.
abbrev pub closes : Program → Line → Bool
closes p (line.Loop place set nogood) = false
closes p (line.Learned place nogood names) = is_assumed p (literals_of nogood)
closes p (line.Cube nogood) = is_assumed p (literals_of nogood)
closes p (line.Found change) = false

-- whether one answer that none betters is sought
abbrev pub is_best : Sought → Bool
is_best sought.All = false
is_best sought.Best = true
is_best sought.Optima = false

-- Where all answers that none betters are sought, these sets cost alike.
abbrev pub AreAlike : Program → Sought → List Atoms → Type 0
AreAlike p sought.All listed = Unit {0}
AreAlike p sought.Best listed = Unit {0}
AreAlike p sought.Optima [] = Unit {0}
AreAlike p sought.Optima (T ∷ listed) = AllByRecursion (λ S. cost p S ≡ cost p T) listed

-- of the sets found those that are to be listed: all, or where one answer that none betters is sought, the last one
abbrev pub promised : Sought → List Atoms → List Atoms
promised sought.All found = found
promised sought.Best [] = []
promised sought.Best (S ∷ found) = last_from S found ∷ []
promised sought.Optima found = found

-- the sets that lines find
abbrev pub found_of : Program → List Line → List Atoms
found_of p lines = (gathered_after (first_gathered p) lines).found

-- The lines are right, and the listed sets are answers. Where it isn't told that these are a part of what was sought, a line says that there
-- is nothing else, and what was promised is listed.
pub record IsRight (p : Program) (proof : Proof) : Type 0 where
  pub lines : AreConfirmed p proof.sought (first_gathered p) proof.lines
  pub members : AllByRecursion (Contains (answers p)) proof.answers
  pub order : AllPairs IsBefore proof.answers
  pub single : IsTrue (is_best proof.sought) → length proof.answers ≤ 1
  pub alike : AreAlike p proof.sought proof.answers
  pub whole : proof.part ≡ false → IsTrue (list_any (closes p) proof.lines)
  pub kept : proof.part ≡ false → AllByRecursion (Contains proof.answers) (promised proof.sought (found_of p proof.lines))

-- An optimisation lists one answer that none betters, and none only where there is none.
abbrev pub ShowsBest : Program → List Atoms → Type 0
ShowsBest p [] = answers p ≡ []
ShowsBest p (S ∷ others) = (others ≡ []) × IsOptimum p S (cost p S)

-- An enumeration lists all answers, each once and in order; where all that none betters are sought, these.
abbrev pub ShowsAll : Program → Sought → List Atoms → Type 0
ShowsAll p sought.All listed = listed ≡ answers p
ShowsAll p sought.Best listed = ShowsBest p listed
ShowsAll p sought.Optima listed = listed ≡ optima p

-- The listed sets are answers, each once and in order.
pub record ShowsSome (p : Program) (listed : List Atoms) : Type 0 where
  pub members : AllByRecursion (Contains (answers p)) listed
  pub order : AllPairs IsBefore listed

-- what a proof shows by its last line, which tells whether the answers are a part of what was sought
abbrev pub ShowsBy : Program → Bool → Sought → List Atoms → Type 0
ShowsBy p true s listed = ShowsSome p listed
ShowsBy p false s listed = ShowsAll p s listed

abbrev pub Shows : Program → Proof → Type 0
Shows p proof = ShowsBy p proof.part proof.sought proof.answers
