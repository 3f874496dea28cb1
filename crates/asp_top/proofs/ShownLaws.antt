-- Better answers of what is searched are answers of the program, with what was set aside, and have the same texts.
use Rattle.std.proofs.Common.{◌≡◌, ◌∙◌, inl, inr, ℕ, ◌+◌, Bool, true, false, cond, List, [], ◌∷◌, ◌++◌, map, refl, sym, ap, subst, Contains}
use Rattle.std.specs.Prelude.{ℤ, Option, None, Some, IfSome, codes, decimal}
use Rattle.std.specs.List.{AllByRecursion, join_with_byte}
use Rattle.asp_cli.specs.declared.Options.{Options}
use Rattle.asp_crew_laws.specs.Reports.{IsPriced}
use Rattle.asp_equal.specs.Reduced.{aside_of, none_aside, reduced, restored}
use Rattle.asp_equal.proofs.AgainLaws.{restored-none}
use Rattle.asp_equal.proofs.ReducedLaws.{cost-reduced, same-answers, shown-reduced, sound-reduced}
use Rattle.asp_model.specs.declared.program.Program.{Program}
use Rattle.asp_model.specs.Models.{answers}
use Rattle.asp_model.specs.Sets.{Atoms}
use Rattle.asp_model.specs.Sound.{IsSound}
use Rattle.asp_model.specs.Texts.{answer_lines, answers_from, ended_line, shown}
use Rattle.asp_model.proofs.ModelLaws.{answers-are}
use Rattle.asp_prepare.specs.Naming.{asked, is_settled, searched, set_aside}
use Rattle.asp_settle.proofs.StableLaws.{contains-map}
use Rattle.asp_unfold.specs.Unfolded.{unfolded}
use Rattle.asp_unfold.proofs.SameLaws.{same-answers as same-unfolded, same-cost}
use Rattle.asp_top.specs.Progress.{AreBest, Entry, Shown, Told, line_of, scope, shown_text}
use Rattle.asp_faults.specs.Writing.{Writes}
use Rattle.asp_top.specs.Telling.{Chain, Line, Point, Step, Tells}

-- ---- one set
-- With these sets of the one program come sets of the other: its answers, of the same cost and with the same texts.
pub record Restores (q p : Program) (whole : Atoms → Atoms) : Type 0 where
  pub priced : (S : Atoms) (c : List ℤ) → IsPriced q (S, c) → IsPriced p (whole S, c)
  pub shown : (S : Atoms) → shown q S ≡ shown p (whole S)

priced-left : (p : Program) (S : Atoms) (c : List ℤ) → IsSound p → IsPriced (unfolded (reduced p)) (S, c) → IsPriced p (restored (aside_of p) S, c)
priced-left p S c sound h =
    let answer : Contains (answers (reduced p)) S = subst (λ Ss. Contains Ss S) (same-unfolded (reduced p)) h.0 in
    let cost = h.1 ∙ same-cost (reduced p) S (sound-reduced p sound) ((answers-are (reduced p) S).0 answer).0 in
    (subst (λ Ss. Contains Ss (restored (aside_of p) S)) (sym (same-answers p sound)) (contains-map (restored (aside_of p)) (answers (reduced p)) S answer), cost ∙ sym (cost-reduced p S))

pub searched-whole : (given : Options) (p : Program) → IsSound (asked given p) → Restores (searched given p) (asked given p) (restored (set_aside given p))
searched-whole given p = by (asked given p) (is_settled given)
  where
    by : (q : Program) (b : Bool) → IsSound q → Restores (cond b (unfolded (reduced q)) q) q (restored (cond b (aside_of q) none_aside))
    by q true sound = record { priced = λ S c h. priced-left q S c sound h; shown = λ S. sym (shown-reduced q S) }
    by q false sound = record {
      priced = λ S c h. subst (λ (T : Atoms). IsPriced q (T, c)) (sym (restored-none S)) h;
      shown = λ S. ap (shown q) (sym (restored-none S));
    }

-- ---- what is shown
abbrev shown_whole : Program → (Atoms → Atoms) → Option Shown → Option Shown
shown_whole p whole None = None
shown_whole p whole (Some s) = Some (record { program = p; sets = map whole s.sets })

all-priced : (q p : Program) (whole : Atoms → Atoms) (c : List ℤ) (Ss : List Atoms) → Restores q p whole
    → AllByRecursion (λ S. IsPriced q (S, c)) Ss → AllByRecursion (λ S. IsPriced p (S, c)) (map whole Ss)
all-priced q p whole c [] law h = tt
all-priced q p whole c (S ∷ Ss) law h = (law.priced S c h.0, all-priced q p whole c Ss law h.1)

best-whole : (q p : Program) (whole : Atoms → Atoms) (best : Option (List ℤ)) (s : Option Shown) → Restores q p whole
    → IfSome s (AreBest (Some q) best) → IfSome (shown_whole p whole s) (AreBest (Some p) best)
best-whole q p whole best None law h = tt
best-whole q p whole best (Some s) law h =
    let is : Some q ≡ Some s.program = h.program in
    let same : s.program ≡ q = cc in
    record {
      program = refl;
      cost = h.cost;
      cost_is = h.cost_is;
      answers = all-priced q p whole h.cost s.sets law (subst (λ (x : Program). AllByRecursion (λ S. IsPriced x (S, h.cost)) s.sets) same h.answers);
    }

line-whole : (q p : Program) (whole : Atoms → Atoms) (n : ℕ) (S : Atoms) → Restores q p whole → answer_lines q n S ≡ answer_lines p n (whole S)
line-whole q p whole n S law = ap (λ (ts : List (List ℕ)). ended_line (codes "Answer: " ++ decimal n) ++ ended_line (join_with_byte 32 ts)) (law.shown S)

lines-whole : (q p : Program) (whole : Atoms → Atoms) (n : ℕ) (Ss : List Atoms) → Restores q p whole → answers_from q n Ss ≡ answers_from p n (map whole Ss)
lines-whole q p whole n [] law = refl
lines-whole q p whole n (S ∷ Ss) law =
    ap (λ xs. xs ++ answers_from q (n + 1) Ss) (line-whole q p whole n S law) ∙ ap (λ xs. answer_lines p n (whole S) ++ xs) (lines-whole q p whole (n + 1) Ss law)

text-whole : (q p : Program) (whole : Atoms → Atoms) (best : Option (List ℤ)) (n : ℕ) (s : Option Shown) → Restores q p whole
    → IfSome s (AreBest (Some q) best) → shown_text n s ≡ shown_text n (shown_whole p whole s)
text-whole q p whole best n None law h = refl
text-whole q p whole best n (Some s) law h =
    let is : Some q ≡ Some s.program = h.program in
    let same : s.program ≡ q = cc in
    ap (λ (x : Program). answers_from x n s.sets) same ∙ lines-whole q p whole n s.sets law

-- ---- what is told
abbrev told_whole : Program → (Atoms → Atoms) → Told → Told
told_whole p whole t = record t { shown = shown_whole p whole t.shown }

abbrev entry_whole : Program → (Atoms → Atoms) → Entry → Entry
entry_whole p whole (inl t) = inl (told_whole p whole t)
entry_whole p whole (inr x) = inr x

step-whole : (q p : Program) (whole : Atoms → Atoms) (on parts : Bool) (row : ℕ) (x y : Point) (e : Entry) → Restores q p whole
    → Step (scope on parts row (Some q)) x e y → Step (scope on parts row (Some p)) x (entry_whole p whole e) y
step-whole q p whole on parts row x y (inl t) law d = record {
  due = (d.due.0, best-whole q p whole t.best t.shown law d.due.1);
  fine = d.fine;
  next = d.next;
  writes = subst (λ (text : List ℕ). Writes x.held y.held x.faults y.faults y.state (line_of t ++ text)) (text-whole q p whole t.best t.counts.answers t.shown law d.due.1) d.writes;
}
step-whole q p whole on parts row x y (inr (inl z)) law d = record { due = d.due; fine = d.fine; next = d.next; writes = d.writes }
step-whole q p whole on parts row x y (inr (inr n)) law d = record { due = d.due; fine = d.fine; next = d.next; writes = d.writes }

abbrev line_whole : Program → (Atoms → Atoms) → Line → Line
line_whole p whole l = record { told = entry_whole p whole l.told; after = l.after }

chain-whole : (q p : Program) (whole : Atoms → Atoms) (on parts : Bool) (row : ℕ) (x y : Point) (ls : List Line) → Restores q p whole
    → Chain (scope on parts row (Some q)) x ls y → Chain (scope on parts row (Some p)) x (map (line_whole p whole) ls) y
chain-whole q p whole on parts row x y [] law c = c
chain-whole q p whole on parts row x y (l ∷ ls) law c = (step-whole q p whole on parts row x l.after l.told law c.0, chain-whole q p whole on parts row l.after y ls law c.1)

-- What was told of what is searched was told of the program.
pub told-whole : (q p : Program) (whole : Atoms → Atoms) (on parts : Bool) (row : ℕ) (x y : Point) → Restores q p whole
    → Tells (scope on parts row (Some q)) x y → Tells (scope on parts row (Some p)) x y
told-whole q p whole on parts row x y law t = record { lines = map (line_whole p whole) t.lines; chain = chain-whole q p whole on parts row x y t.lines law t.chain }
