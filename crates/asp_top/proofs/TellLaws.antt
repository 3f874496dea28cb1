-- Lines told one after another, and the text of the end.
use Rattle.std.proofs.Common.{◌≡◌, inl, inr, ℕ, Bool, true, false, List, [], ◌∷◌, ◌++◌, map, refl, sym, subst, ap, arith, append-nil}
use Rattle.std.specs.Prelude.{ℤ, Option, None, Some, Result, Ok, Err, IfSome}
use Rattle.std.specs.List.{AllByRecursion, flat_map}
use Rattle.std.proofs.KnownBytes.{Appends-nil, Appends-trans}
use Rattle.asp_io.specs.declared.traits.Failed.{Failed}
use Rattle.asp_buffer.proofs.OutLaws.{front-after, front-more}
use Rattle.asp_counts.specs.declared.counts.Counts.{Counts}
use Rattle.asp_model.specs.declared.program.Program.{Program}
use Rattle.asp_cli.specs.declared.Options.{Options}
use Rattle.asp_rows.specs.Listed.{Listed}
use Rattle.asp_prepare.specs.declared.prepared.Prepared.{Prepared}
use Rattle.asp_equal.specs.Reduced.{restored}
use Rattle.asp_prepare.specs.Naming.{HasNumbers, asked, prepared_of, searched, set_aside}
use Rattle.asp_prepare.proofs.AskedLaws.{asked-sound}
use Rattle.asp_faults.specs.Writing.{IsNoted, Writes}
use Rattle.asp_top.specs.Held.{IsMuch, held_text, row_in}
use Rattle.asp_top.specs.Progress.{Adds, AreBest, Entry, IsDue, IsMore, IsPartOf, IsTold, Part, Rises, Scope, Told, Warns, entry_text, nothing, part_text, scope, shown_of, told_text}
use Rattle.asp_top.specs.Runs.{Around, Hears, IsReady, around}
use Rattle.asp_top.specs.Telling.{Chain, EndsWith, IsNext, Line, Point, Tells, as_told, nothing_told, point}
use Rattle.asp_top.proofs.ShownLaws.{searched-whole, told-whole}
use Rattle.asp_faults.proofs.WriteLaws.{writes_same, writes_then}

abbrev State : Type 0
State = Result (Unit {0}) Failed

abbrev told_of : List Line → List Entry
told_of ls = map (λ l. l.told) ls

-- one line was told
pub one_told : (s : Scope) (p q : Point) (t : Told) → s.on ≡ true → IfSome t.shown (AreBest s.sought t.best) → p.state ≡ Ok tt → IsMore p.last t.counts → q.last ≡ t.counts → q.before ≡ p.before →
    q.warned ≡ p.warned → Writes p.held q.held p.faults q.faults q.state (told_text t) → Tells s p q
one_told s p q t asked best fine more last before warned w =
    record { lines = record { told = inl t; after = q } ∷ []; chain = (record { due = (asked, best); fine = fine; next = (more, last, before, warned); writes = w }, refl) }

-- one part was told
pub part_told : (s : Scope) (p q : Point) (x : Part) → s.parts ≡ true → p.state ≡ Ok tt → IsPartOf p.before x q.before → q.last ≡ p.last →
    q.warned ≡ p.warned → Writes p.held q.held p.faults q.faults q.state (part_text x) → Tells s p q
part_told s p q x asked fine is last warned w =
    record { lines = record { told = inr (inl x); after = q } ∷ []; chain = (record { due = asked; fine = fine; next = (is, last, warned); writes = w }, refl) }

-- that answers are held was told
pub held_told : (s : Scope) (p q : Point) (answers : ℕ) → IsMuch answers s.row → p.state ≡ Ok tt → p.warned ≡ false → q.warned ≡ true → q.last ≡ p.last →
    q.before ≡ p.before → Writes p.held q.held p.faults q.faults q.state (held_text answers) → Tells s p q
held_told s p q answers much fine once warned last before w =
    record { lines = record { told = inr (inr answers); after = q } ∷ []; chain = (record { due = much; fine = fine; next = (once, warned, last, before); writes = w }, refl) }

chain-due : (s : Scope) (p q : Point) (ls : List Line) → Chain s p ls q → AllByRecursion (IsDue s) (told_of ls)
chain-due s p q [] c = tt
chain-due s p q (l ∷ ls) c = (c.0.due, chain-due s l.after q ls c.1)

rises-by : (p q : Point) (e : Entry) (ls : List Entry) (d : Counts) → IsNext p e q → Rises q.last ls d → Rises p.last (e ∷ ls) d
rises-by p q (inl t) ls d n r = (n.0, subst (λ (a : Counts). Rises a ls d) n.1 r)
rises-by p q (inr (inl x)) ls d n r = subst (λ (a : Counts). Rises a ls d) n.1 r
rises-by p q (inr (inr answers)) ls d n r = subst (λ (a : Counts). Rises a ls d) n.2 r

chain-rises : (s : Scope) (p q : Point) (ls : List Line) → Chain s p ls q → Rises p.last (told_of ls) q.last
chain-rises s p q [] c = ap (λ (x : Point). x.last) c
chain-rises s p q (l ∷ ls) c = rises-by p l.after l.told (told_of ls) q.last c.0.next (chain-rises s l.after q ls c.1)

adds-by : (p q : Point) (e : Entry) (ls : List Entry) (d : Counts) → IsNext p e q → Adds q.before ls d → Adds p.before (e ∷ ls) d
adds-by p q (inl t) ls d n r = subst (λ (a : Counts). Adds a ls d) n.2 r
adds-by p q (inr (inl x)) ls d n r = (q.before, n.0, r)
adds-by p q (inr (inr answers)) ls d n r = subst (λ (a : Counts). Adds a ls d) n.3 r

chain-adds : (s : Scope) (p q : Point) (ls : List Line) → Chain s p ls q → Adds p.before (told_of ls) q.before
chain-adds s p q [] c = ap (λ (x : Point). x.before) c
chain-adds s p q (l ∷ ls) c = adds-by p l.after l.told (told_of ls) q.before c.0.next (chain-adds s l.after q ls c.1)

warns-by : (p q : Point) (e : Entry) (ls : List Entry) (v : Bool) → IsNext p e q → Warns q.warned ls v → Warns p.warned (e ∷ ls) v
warns-by p q (inl t) ls v n r = subst (λ (b : Bool). Warns b ls v) n.3 r
warns-by p q (inr (inl x)) ls v n r = subst (λ (b : Bool). Warns b ls v) n.2 r
warns-by p q (inr (inr answers)) ls v n r = (n.0, subst (λ (b : Bool). Warns b ls v) n.1 r)

chain-warns : (s : Scope) (p q : Point) (ls : List Line) → Chain s p ls q → Warns p.warned (told_of ls) q.warned
chain-warns s p q [] c = ap (λ (x : Point). x.warned) c
chain-warns s p q (l ∷ ls) c = warns-by p l.after l.told (told_of ls) q.warned c.0.next (chain-warns s l.after q ls c.1)

unwritten : (p : Point) (v : Unit {0}) → Writes {T = Unit {0}} {E = Failed} p.held p.held p.faults p.faults (Ok v) []
unwritten p v = record { all = Appends-nil p.held; front = tt; later = omega arith; cause = tt; quiet = refl }

chain-writes : (s : Scope) (p q : Point) (ls : List Line) → Chain s p ls q → p.state ≡ Ok tt →
    Writes p.held q.held p.faults q.faults q.state (flat_map entry_text (told_of ls))
chain-writes s p q [] c fine =
    subst (λ (x : Point). Writes p.held x.held p.faults x.faults x.state []) c (subst (λ (s : State). Writes p.held p.held p.faults p.faults s []) (sym fine) (unwritten p tt))
chain-writes s p q (l ∷ []) c fine =
    subst (λ (x : Point). Writes p.held x.held p.faults x.faults x.state (entry_text l.told ++ [])) c.1
    (writes_same _ _ _ _ _ _ _ c.0.writes (sym (append-nil (entry_text l.told))))
chain-writes s p q (l ∷ m ∷ ls) c fine =
    writes_then p.held l.after.held q.held p.faults l.after.faults q.faults tt q.state (entry_text l.told) _
    (subst (λ (s : State). Writes p.held l.after.held p.faults l.after.faults s (entry_text l.told)) c.1.0.fine c.0.writes)
    (chain-writes s l.after q (m ∷ ls) c.1 c.1.0.fine)

-- the text of the end after the lines
ends : (s : State) (h i j : Option (List ℕ)) (f g k : ℕ) (x y : List ℕ) → Writes h i f g s x → EndsWith s i j g k y → IsNoted h j f k (x ++ y)
ends (Ok v) h i j f g k x y w e = record {
  front = front-after h i j x y w.all e.front;
  whole = λ none. Appends-trans h i j x y w.all (e.whole (λ rose. none (omega (arith, w.later, rose))));
  later = omega (arith, w.later, e.later);
}
ends (Err d) h i j f g k x y w e =
    subst (λ (m : Option (List ℕ)). IsNoted h m f k (x ++ y)) (sym e.0) (subst (λ (n : ℕ). IsNoted h i f n (x ++ y)) (sym e.1) (record {
      front = front-more h i x y w.front;
      whole = λ none. absurd (none w.cause);
      later = w.later;
    }))

-- all that was told, from a beginning at which nothing was
pub told_in_all : (asked series on parts : Bool) (row : ℕ) (sought : Option Program) (h : Option (List ℕ)) (f : ℕ) (p q : Point) (j : Option (List ℕ)) (k : ℕ) (text : List ℕ)
    → on ≡ asked → parts ≡ series → p ≡ point h f (Ok tt) nothing nothing false → Tells (scope on parts row sought) p q → EndsWith q.state q.held j q.faults k text
    → IsTold (scope asked series row sought) h j f k text
told_in_all asked series on parts row sought h f p q j k text a b start tells e =
    let t = as_told asked on series parts row row sought p q a b refl tells in
    let s = scope asked series row sought in
    let x = point h f (Ok tt) nothing nothing false in
    let chain : Chain s x t.lines q = subst (λ (y : Point). Chain s y t.lines q) start t.chain in
    record {
      told = told_of t.lines;
      due = chain-due s x q t.lines chain;
      last = q.last;
      rises = chain-rises s x q t.lines chain;
      before = q.before;
      adds = chain-adds s x q t.lines chain;
      warned = q.warned;
      warns = chain-warns s x q t.lines chain;
      noted = ends q.state h q.held j f q.faults k _ text (chain-writes s x q t.lines chain refl) e;
    }

-- the notes are the same at another name
pub moved : {N : Type 0} (held : N → Option (List ℕ)) (faults : N → ℕ) (s : Scope) (h : Option (List ℕ)) (f : ℕ) (x y : N) (text : List ℕ) → x ≡ y →
    IsTold s h (held y) f (faults y) text → IsTold s h (held x) f (faults x) text
moved {N = N} held faults s h f x y text e t = subst (λ (n : N). IsTold s h (held n) f (faults n) text) (sym e) t

-- what is shown of the best answer is of the program that is searched
pub best-shown : (q p : Program) (best cost : Option (List ℤ)) (row : Option Listed) → p ≡ q → best ≡ cost
    → IfSome row (λ r. AreBest (Some q) cost (record { program = q; sets = r.sets })) → IfSome (shown_of p row) (AreBest (Some q) best)
best-shown q p best cost None e d h = tt
best-shown q p best cost (Some r) e d h =
    subst (λ (x : Program). AreBest (Some q) best (record { program = x; sets = r.sets })) (sym e)
    (subst (λ (o : Option (List ℤ)). AreBest (Some q) o (record { program = q; sets = r.sets })) (sym d) h)

-- what was told of a run whose program is there
pub heard_of : (given : Options) (left left' : Option (List ℕ)) (reads reads' : ℕ) (held held' : Option (List ℕ)) (writes writes' : ℕ) (p : Program) (prepared : Prepared)
    (on parts : Bool) (x y : Point) → IsReady given left left' reads reads' p → HasNumbers given p → prepared ≡ prepared_of given p
    → Tells (scope on parts (row_in given prepared.compiled) (Some prepared.compiled)) x y
    → Hears given (around left left' reads reads' held held' writes writes') on parts x y
heard_of given left left' reads reads' held held' writes writes' p prepared on parts x y ready numbers is t =
    let row = row_in given prepared.compiled in (
      row,
      Some (asked given p),
      inr (p, ready.source held held' writes writes', ap (λ (z : Prepared). row_in given z.compiled) is, refl),
      told-whole (searched given p) (asked given p) (restored (set_aside given p)) on parts row x y (searched-whole given p (asked-sound given p ready.sound numbers))
          (subst (λ (z : Prepared). Tells (scope on parts row (Some z.compiled)) x y) is t),
    )

-- nothing was told of one without
pub heard_nothing : (given : Options) (a : Around) (on parts : Bool) (x : Point) → Hears given a on parts x x
heard_nothing given a on parts x = (0, None, inl (refl, refl), nothing_told (scope on parts 0 None) x)
