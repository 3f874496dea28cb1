-- What the notes get while a run goes on.
use Rattle.std.specs.Prelude.{◌≡◌, ℕ, ◌+◌, ◌<◌, ◌≤◌, ◌^◌, ◌⊎◌, ◌&&◌, Bool, true, false, List, [], ◌∷◌, ◌++◌, codes, ℤ, Option, None, Some, cond, nat_eq, IfSome, length}
use Rattle.std.proofs.Common.{inl, inr}
use Rattle.std.specs.List.{AllByRecursion, flat_map}
use Rattle.std.specs.Fmt.{decimal, signed_decimal}
use Rattle.asp_counts.specs.declared.counts.Counts.{Counts}
pub use Rattle.asp_counts.specs.Counting.{nothing}
use Rattle.asp_counts.specs.Counting.{since}
use Rattle.asp_counts.specs.declared.watch.Best.{Best}
use Rattle.asp_crew_laws.specs.Reports.{IsPriced}
use Rattle.asp_model.specs.declared.program.Program.{Program}
use Rattle.asp_model.specs.Sets.{Atoms}
use Rattle.asp_model.specs.Models.{atoms_of}
use Rattle.asp_model.specs.Texts.{answers_from}
use Rattle.asp_rows.specs.Listed.{Listed}
use Rattle.asp_cli.specs.declared.Options.{Options}
use Rattle.asp_top.specs.Counts.{item_text, part_items, search_items, told_items}
use Rattle.asp_top.specs.Held.{IsMuch, held_text}
use Rattle.asp_faults.specs.Writing.{IsNoted}

-- what the best answer costs that is told
abbrev pub cost_in : Option Best → Option (List ℤ)
cost_in None = None
cost_in (Some b) = Some b.cost.now

-- sets that are told as answers of a program
pub record Shown : Type 0 where
  pub program : Program
  pub sets : List Atoms

-- what a line tells: the counts, and in an optimisation the cost of the best answer so far; and what is shown behind it
pub record Told : Type 0 where
  pub counts : Counts
  pub best : Option (List ℤ)
  pub shown : Option Shown

-- the sums of the best cost, each behind a blank
abbrev pub best_text : Option (List ℤ) → List ℕ
best_text None = []
best_text (Some c) = codes ", best" ++ flat_map (λ q. 32 ∷ signed_decimal q) c

abbrev pub query_text : ℕ → List ℕ
query_text query = codes ", query " ++ decimal query ++ codes "\n"

-- the end of a line: in a series it names the query that is being answered
abbrev pub end_of : ℕ → List ℕ
end_of query = cond (nat_eq query 0) (codes "\n") (query_text query)

abbrev pub line_of : Told → List ℕ
line_of t = flat_map item_text (told_items t.counts) ++ best_text t.best ++ end_of t.counts.query

-- rows that are told as answers of this program, where some are
abbrev pub shown_of : Program → Option Listed → Option Shown
shown_of p None = None
shown_of p (Some rows) = Some (record { program = p; sets = rows.sets })

-- the lines of the sets, of which the first has this number
abbrev pub shown_text : ℕ → Option Shown → List ℕ
shown_text n None = []
shown_text n (Some s) = answers_from s.program n s.sets

-- a line with what is shown behind it: the best answer has its number among the answers found
abbrev pub told_text : Told → List ℕ
told_text t = line_of t ++ shown_text t.counts.answers t.shown

-- what was counted of a query, or of all queries together
pub record Part : Type 0 where
  pub all : Bool
  pub counts : Counts

abbrev pub part_text : Part → List ℕ
part_text x = flat_map item_text (part_items x.all x.counts) ++ flat_map item_text (search_items x.counts) ++ codes "\n"

-- a line of a run that goes on, a part of a series, or that so many answers are held
abbrev pub Entry : Type 0
Entry = Told ⊎ (Part ⊎ ℕ)

abbrev pub entry_text : Entry → List ℕ
entry_text (inl t) = told_text t
entry_text (inr (inl x)) = part_text x
entry_text (inr (inr answers)) = held_text answers

-- whether parts are told: of a series, where counts are asked for
abbrev pub tells_parts : Options → Bool
tells_parts given = given.stats && given.queries

-- what is told of a run: whether lines and parts are, how many bytes each answer takes that it holds, and the program whose better answers
-- are shown, if they are
pub record Scope : Type 0 where
  pub on : Bool
  pub parts : Bool
  pub row : ℕ
  pub sought : Option Program

abbrev pub scope : Bool → Bool → ℕ → Option Program → Scope
scope on parts row sought = record { on = on; parts = parts; row = row; sought = sought }

-- What is shown are answers of the program, each of this cost.
pub record AreBest (sought : Option Program) (best : Option (List ℤ)) (s : Shown) : Type 0 where
  pub program : sought ≡ Some s.program
  pub cost : List ℤ
  pub cost_is : best ≡ Some cost
  pub answers : AllByRecursion (λ S. IsPriced s.program (S, cost)) s.sets

-- a row of an answer that costs so much, among the program's atoms
pub record IsRowOfBest (p : Program) (c : List ℤ) (r : Listed) : Type 0 where
  pub atoms : r.atoms ≡ atoms_of p
  pub answers : AllByRecursion (λ S. IsPriced p (S, c)) r.sets
  pub one : length r.sets ≡ 1

-- the number of answers is one, and there is room for the next
abbrev pub IsNumber : ℕ → Type 0
IsNumber n = (0 < n) × (n + 1 < 2 ^ 64)

-- What is told is asked for, and what is shown the best; that answers are held is told where they take much, each so many bytes.
abbrev pub IsDue : Scope → Entry → Type 0
IsDue s (inl t) = (s.on ≡ true) × IfSome t.shown (AreBest s.sought t.best)
IsDue s (inr (inl x)) = s.parts ≡ true
IsDue s (inr (inr answers)) = IsMuch answers s.row

-- neither conflicts nor answers are fewer, and one of them are more
pub record IsMore (c d : Counts) : Type 0 where
  pub conflicts : c.conflicts ≤ d.conflicts
  pub answers : c.answers ≤ d.answers
  pub more : c.conflicts + c.answers < d.conflicts + d.answers

-- the counts of these lines rise from the first to the last
abbrev pub Rises : Counts → List Entry → Counts → Type 0
Rises c [] d = c ≡ d
Rises c (inl t ∷ told) d = IsMore c t.counts × Rises t.counts told d
Rises c (inr (inl x) ∷ told) d = Rises c told d
Rises c (inr (inr answers) ∷ told) d = Rises c told d

-- A part of a query is what was done since the end of the query before, that of all queries what was done until the end of the last one.
abbrev pub IsCountedTo : Bool → Counts → Counts → Counts → Type 0
IsCountedTo true c told d = (told ≡ c) × (d ≡ c)
IsCountedTo false c told d = told ≡ since d c

abbrev pub IsPartOf : Counts → Part → Counts → Type 0
IsPartOf c x d = IsCountedTo x.all c x.counts d

-- one part begins where the one before it ends
abbrev pub Adds : Counts → List Entry → Counts → Type 0
Adds c [] d = c ≡ d
Adds c (inl t ∷ told) d = Adds c told d
Adds c (inr (inl x) ∷ told) d = (e : Counts) × IsPartOf c x e × Adds e told d
Adds c (inr (inr answers) ∷ told) d = Adds c told d

-- That answers are held is told once at most, and not where it was told before.
abbrev pub Warns : Bool → List Entry → Bool → Type 0
Warns w [] v = w ≡ v
Warns w (inl t ∷ told) v = Warns w told v
Warns w (inr (inl x) ∷ told) v = Warns w told v
Warns w (inr (inr answers) ∷ told) v = (w ≡ false) × Warns true told v

-- A front of the lines of a run that went on, of the parts of a series, and of this text was written, and all of it where no fault was
-- counted. What isn't due isn't told.
pub record IsTold (s : Scope) (held held' : Option (List ℕ)) (faults faults' : ℕ) (text : List ℕ) : Type 0 where
  pub told : List Entry
  pub due : AllByRecursion (IsDue s) told
  pub last : Counts
  pub rises : Rises nothing told last
  pub before : Counts
  pub adds : Adds nothing told before
  pub warned : Bool
  pub warns : Warns false told warned
  pub noted : IsNoted held held' faults faults' (flat_map entry_text told ++ text)
