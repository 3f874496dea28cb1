-- A run whose workers have come back.
use Rattle.std.proofs.Common.{◌≡◌, ℕ, ◌<◌, ◌≤◌, Bool, true, List, ◌++◌, length, Option, Some, None, refl, sym, ap, ◌∙◌, subst, inl, arith}
use Rattle.std.specs.Prelude.{slice_index_or}
use Rattle.std.specs.List.{All, AllByRecursion}
use Rattle.asp_model.specs.declared.program.Program.{Program}
use Rattle.asp_model.specs.declared.results.Ask.{Ask}
use Rattle.asp_vault.specs.declared.view.View.{View}
use Rattle.asp_vault.specs.Makers.{placed, of_number, named, NoneBy}
use Rattle.asp_vault.specs.Seats.{view}
use Rattle.asp_core.specs.declared.event.Event.{Event}
use Rattle.asp_core.specs.declared.task.Task.{Task}
use Rattle.asp_core.specs.Events.{maker}
use Rattle.asp_book.specs.Books.{Booked, signed, IsJournalOf}
use Rattle.asp_book.specs.Calls.{Knows}
use Rattle.asp_crew_laws.specs.declared.report.Report.{Report}
use Rattle.asp_crew_laws.specs.Gone.{IsCrewGone, IsShared}
use Rattle.asp_crew_laws.specs.Reports.{IsPlayed, IsPlayedBy, IsReport}
use Rattle.asp_crew_laws.specs.Runs.{asks, task_of}
use Rattle.asp_crew_laws.specs.Working.{MayBegin}
use Rattle.asp_crew_laws.proofs.SharedLaws.{shared-when}
use Rattle.asp_crew.specs.Running.{QueryStands, IsRunFor}
use Rattle.asp_worker.specs.declared.worker.Worker.{Worker}
use Rattle.asp_worker.specs.declared.worker.Shared.{Shared}
use Rattle.asp_team.specs.declared.lead.Lead.{Lead}
use Rattle.asp_team.specs.Joined.{CameHome, IsHome, Joins, LeftBy}
use Rattle.asp_team.specs.Teams.{AreForks, AreReady, HasOut, HaveLeft, IsAllBack}
use Rattle.asp_team.proofs.IdleLaws.{each-number}
use Rattle.asp_team.proofs.JoinLaws.{since-none}

-- ---- each worker has come back
pub all-back : {D E : Type 0} (v w : View D E) (n : ℕ) → HasOut v n → Joins v w n → IsAllBack w
all-back v w n out j = omega (arith, out.splits, out.joins, j.splits, j.joins)

pub all-home : (c : Shared) (l k : Lead) (hs : List Worker) → AreReady c l hs → Joins (view l.seat) (view k.seat) (length hs) →
    All (λ h. IsHome (view k.seat) (view h.seat).number) hs → (n : ℕ) → 0 < n → n ≤ (view k.seat).splits → IsHome (view k.seat) n
all-home c l k hs ready j came n some few = each-number (IsHome (view k.seat)) 1 hs ready.numbered came n (omega (arith, some)) (omega (arith, few, j.splits, ready.out.splits))

-- ---- what the book is for
pub book-task : (p : Program) (ask : Ask) (budget : ℕ) (b : Booked) (v w : Knows) → Some b.task ≡ w.about → w.about ≡ v.about → v.about ≡ Some (task_of p ask budget) → b.task ≡ task_of p ask budget
book-task p ask budget b v w is same about = let e : Some b.task ≡ Some (task_of p ask budget) = is ∙ same ∙ about in (let f : b.task ≡ task_of p ask budget = cc in f)

pub run-in : (p : Program) (ask : Ask) (budget : ℕ) (t : Task) → t ≡ task_of p ask budget → IsRunFor ask t
run-in p ask budget t e = subst (IsRunFor ask) (sym e) refl

pub run-query : (p : Program) (ask : Ask) (budget : ℕ) (t : Task) → t ≡ task_of p ask budget → QueryStands t
run-query p ask budget t e = subst QueryStands (sym e) tt

pub run-begins : (p : Program) (ask : Ask) (budget : ℕ) (t : Task) → t ≡ task_of p ask budget → MayBegin ask.mode None t.goal
run-begins p ask budget t e = subst (λ (x : Task). MayBegin ask.mode None x.goal) (sym e) (inl ((ask.by_name, refl), refl))

pub report-is : (p : Program) (ask : Ask) (budget : ℕ) (t : Task) (r : Report) → t ≡ task_of p ask budget →
    IsReport t.program (asks ask.mode ask.models ask.by_name) t.budget r → IsReport p (asks ask.mode ask.models ask.by_name) budget r
report-is p ask budget t r e is = subst (λ (x : Task). IsReport x.program (asks ask.mode ask.models ask.by_name) x.budget r) e is

-- ---- who did what
-- what the workers left, once all have come back
pub have-left : (stopped : Type 0) (never : Bool) → (never ≡ true → stopped → ⊥) → (c : Shared) (l k : Lead) (hs : List Worker) →
    AreForks (view l.seat).seen → AreReady c l hs → Joins (view l.seat) (view k.seat) (length hs) → (view l.seat).number ≡ 0 →
    (view k.seat).number ≡ 0 →
    of_number signed (view l.seat).number (placed 0 (view l.seat).seen) ≡ named signed (view l.seat).own →
    of_number signed (view k.seat).number (placed 0 (view k.seat).seen) ≡ named signed (view k.seat).own → All (CameHome stopped k) hs →
    HaveLeft k never (view l.seat).seen
have-left stopped never denied c l k hs forks ready j first last mine now came =
    let v : Knows = view l.seat in
    let w : Knows = view k.seat in
    let stands : of_number signed v.number (placed 0 w.seen) ≡ named signed v.own = ap (λ n. of_number signed n (placed 0 w.seen)) (first ∙ sym last) ∙ now ∙ ap (named signed) j.own in
    record {
      rest = j.seen.0;
      seen = sym j.seen.1;
      forks = forks;
      since = subst (λ n. NoneBy signed n j.seen.0) first (since-none v.number v.seen w.seen v.own j.seen mine stands);
      gone = λ n some few.
          each-number (LeftBy w k.short never v.seen) 1 hs ready.numbered
          (λ i d lt. subst (λ (b : List Event). LeftBy w k.short never b (view (slice_index_or hs i d).seat).number) (ready.began i d lt) ((came i d lt).gone never denied))
          n (omega (arith, some)) (omega (arith, few, j.splits, ready.out.splits));
    }

-- the report of a run whose main thread went on alone
pub report-shared : (p : Program) (ask : Ask) (budget : ℕ) (r : Report) → IsReport p (asks ask.mode ask.models ask.by_name) budget r →
    r.second ≡ None → (workers : ℕ) (short never : Bool) (begun rest more : List Event) → 0 < workers →
    IsCrewGone (task_of p ask budget) workers short never begun rest →
    r.journal ≡ (begun ++ rest) ++ more → AllByRecursion (λ e. maker e ≡ 0) more → r.short ≡ short → IsShared (task_of p ask budget) r.short never r.journal
report-shared p ask budget r is second workers short never begun rest more some crew journal main same =
    let t : Task = task_of p ask budget in
    let played : IsPlayed t r = subst (λ (o : Option (List Event)). IsPlayedBy o p (asks ask.mode ask.models ask.by_name) budget r) second is.played in
    subst (λ (s : Bool). IsShared t s never r.journal) (sym same)
    (subst (IsShared t short never) (sym journal) (shared-when t workers short never begun rest crew some more (subst (IsJournalOf t) journal played.lawful) main))
