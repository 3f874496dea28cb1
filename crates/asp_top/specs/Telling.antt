-- Who writes to the notes how a run goes on, line by line.
use Rattle.std.specs.Prelude.{◌≡◌, ℕ, Bool, true, false, List, [], ◌∷◌, ◌++◌, ℤ, Option, None, Some, Result, Ok, Err, IfSome}
use Rattle.std.proofs.Common.{inl, inr, refl, sym, subst}
use Rattle.asp_io.specs.declared.traits.Failed.{Failed}
use Rattle.asp_counts.specs.declared.counts.Counts.{Counts}
use Rattle.asp_model.specs.declared.program.Program.{Program}
use Rattle.asp_faults.specs.Writing.{IsNoted, Writes}
use Rattle.asp_top.specs.Progress.{AreBest, Entry, Shown, IsDue, Scope, scope, IsMore, IsPartOf, entry_text}

-- the notes, whether they failed, the counts of the last line and at the end of the last query, and whether it was told that answers are held
pub record Point : Type 0 where
  pub held : Option (List ℕ)
  pub faults : ℕ
  pub state : Result (Unit {0}) Failed
  pub last : Counts
  pub before : Counts
  pub warned : Bool

abbrev pub point : Option (List ℕ) → ℕ → Result (Unit {0}) Failed → Counts → Counts → Bool → Point
point held faults state last before warned = record { held = held; faults = faults; state = state; last = last; before = before; warned = warned }

-- A line is told where there is more to tell than before; a part goes on from the one before it; that answers are held is told once.
abbrev pub IsNext : Point → Entry → Point → Type 0
IsNext p (inl t) q = IsMore p.last t.counts × (q.last ≡ t.counts) × (q.before ≡ p.before) × (q.warned ≡ p.warned)
IsNext p (inr (inl x)) q = IsPartOf p.before x q.before × (q.last ≡ p.last) × (q.warned ≡ p.warned)
IsNext p (inr (inr answers)) q = (p.warned ≡ false) × (q.warned ≡ true) × (q.last ≡ p.last) × (q.before ≡ p.before)

-- One was written, or a front of it where the notes failed; they hadn't failed before, and it is due.
pub record Step (s : Scope) (p : Point) (e : Entry) (q : Point) : Type 0 where
  pub due : IsDue s e
  pub fine : p.state ≡ Ok tt
  pub next : IsNext p e q
  pub writes : Writes p.held q.held p.faults q.faults q.state (entry_text e)

-- what is told, and what stands after it
pub record Line : Type 0 where
  pub told : Entry
  pub after : Point

abbrev pub Chain : Scope → Point → List Line → Point → Type 0
Chain s p [] q = p ≡ q
Chain s p (l ∷ ls) q = Step s p l.told l.after × Chain s l.after ls q

-- some lines and parts were told
pub record Tells (s : Scope) (p q : Point) : Type 0 where
  pub lines : List Line
  pub chain : Chain s p lines q

-- the last text of all, if the notes hadn't failed
abbrev pub EndsWith : Result (Unit {0}) Failed → Option (List ℕ) → Option (List ℕ) → ℕ → ℕ → List ℕ → Type 0
EndsWith (Ok v) held held' faults faults' text = IsNoted held held' faults faults' text
EndsWith (Err e) held held' faults faults' text = (held' ≡ held) × (faults' ≡ faults)

pub nothing_told : (s : Scope) (p : Point) → Tells s p p
nothing_told s p = record { lines = []; chain = refl }

chain-then : (s : Scope) (p q r : Point) (x y : List Line) → Chain s p x q → Chain s q y r → Chain s p (x ++ y) r
chain-then s p q r [] y c d = subst (λ (x : Point). Chain s x y r) (sym c) d
chain-then s p q r (l ∷ x) y c d = (c.0, chain-then s l.after q r x y c.1 d)

pub more_told : (s : Scope) (p q r : Point) → Tells s p q → Tells s q r → Tells s p r
more_told s p q r a b = record { lines = a.lines ++ b.lines; chain = chain-then s p q r a.lines b.lines a.chain b.chain }

-- what is asked for and the width of a row under other names
pub as_told : (on on' parts parts' : Bool) (row row' : ℕ) (sought : Option Program) (p q : Point) → on' ≡ on → parts' ≡ parts → row' ≡ row
    → Tells (scope on' parts' row' sought) p q → Tells (scope on parts row sought) p q
as_told on on' parts parts' row row' sought p q a b c t =
    subst (λ (n : ℕ). Tells (scope on parts n sought) p q) c
    (subst (λ (y : Bool). Tells (scope on y row' sought) p q) b (subst (λ (x : Bool). Tells (scope x parts' row' sought) p q) a t))

-- Where no program's answers are shown, none is.
shown-any : (o : Option Program) (best : Option (List ℤ)) (x : Option Shown) → IfSome x (AreBest None best) → IfSome x (AreBest o best)
shown-any o best None h = tt
shown-any o best (Some x) h = absurd (let no : None ≡ Some x.program = h.program in let f : ⊥ = cc in f)

due-any : (on parts : Bool) (row : ℕ) (o : Option Program) (e : Entry) → IsDue (scope on parts row None) e → IsDue (scope on parts row o) e
due-any on parts row o (inl t) d = (d.0, shown-any o t.best t.shown d.1)
due-any on parts row o (inr (inl x)) d = d
due-any on parts row o (inr (inr n)) d = d

chain-any : (on parts : Bool) (row : ℕ) (o : Option Program) (p q : Point) (ls : List Line) → Chain (scope on parts row None) p ls q → Chain (scope on parts row o) p ls q
chain-any on parts row o p q [] c = c
chain-any on parts row o p q (l ∷ ls) c =
    (record { due = due-any on parts row o l.told c.0.due; fine = c.0.fine; next = c.0.next; writes = c.0.writes }, chain-any on parts row o l.after q ls c.1)

pub told_any : (on parts : Bool) (row : ℕ) (o : Option Program) (p q : Point) → Tells (scope on parts row None) p q → Tells (scope on parts row o) p q
told_any on parts row o p q t = record { lines = t.lines; chain = chain-any on parts row o p q t.lines t.chain }
