-- Seats are split from the first ones, a worker at a time.
use Rattle.std.proofs.Common.{◌≡◌, ℕ, suc, ◌+◌, ◌^◌, ◌<◌, zero, List, [], ◌∷◌, ◌++◌, length, Option, Some, refl, sym, ap, ◌∙◌, subst, arith, length-append}
use Rattle.std.specs.Prelude.{unwrap_or, option_to_list}
use Rattle.std.specs.List.{All}
use Rattle.std.proofs.lemmas.List.Elements.{All-append, All-nil}
use lib.ListN.{get_elem?}
use Rattle.asp_model.specs.declared.program.Program.{Program}
use Rattle.asp_model.specs.declared.results.Ask.{Ask}
use Rattle.asp_model.specs.declared.results.Mode.{Mode}
use Rattle.asp_vault.specs.declared.view.View.{View}
use Rattle.asp_vault.specs.Makers.{NoneBy}
use Rattle.asp_vault.specs.Rules.{parted, fresh, opened}
use Rattle.asp_vault.specs.Seats.{view, IsOf, IsBeside}
use Rattle.asp_pool.specs.declared.pool.Pass.{Pass}
use Rattle.asp_pool.specs.Lists.{Every}
use Rattle.asp_pool.specs.Pools.{IsOfPool}
use Rattle.asp_core.specs.declared.event.Event.TheVariants as event
use Rattle.asp_core.specs.declared.task.Task.{Task}
use Rattle.asp_core.specs.Boards.{start, goal_of}
use Rattle.asp_core.specs.Growth.{Spares}
use Rattle.asp_core.proofs.GrowthLaws.{Spares-run}
use Rattle.asp_book.specs.Books.{signed, IsJournalOf}
use Rattle.asp_book.specs.Calls.{Knows, no_task, task_of, seen_board}
use Rattle.asp_book.proofs.CallLaws.{others-are}
use Rattle.asp_crew_laws.specs.Runs as runs
use Rattle.asp_slots.specs.Shelves.{program_of, IsAt, IsFirst, HasSplit}
use Rattle.asp_worker.specs.declared.worker.Worker.{Worker}
use Rattle.asp_worker.specs.declared.worker.Shared.{Shared}
use Rattle.asp_worker.specs.Seats.{IsIdle, IsRunOf}
use Rattle.asp_team.specs.declared.lead.Lead.{Lead}
use Rattle.asp_team.specs.Joined.{MayJoin}
use Rattle.asp_team.specs.Teams.{AreForks, AreNew, AreNumbered, AreReady, HasOut, IsBegun, IsHost}
use Rattle.asp_team.proofs.JoinLaws.{place-kept, place-last}

-- ---- the first seat at a new book
pub opened-idle : (p : Program) (ask : Ask) (budget : ℕ) (v : Knows) → budget < 2 ^ 64 → v ≡ opened (runs.task_of p ask budget) [] → IsIdle v
opened-idle p ask budget v fits is = subst IsIdle (sym is) (record {
  settled = record { seated = record { about = refl; rests = refl; lawful = tt }; run = record { query = tt; budget = fits } };
  free = refl;
  home = refl;
})

pub opened-begun : (p : Program) (ask : Ask) (budget : ℕ) (v : Knows) → budget < 2 ^ 64 → v ≡ opened (runs.task_of p ask budget) [] → IsBegun (runs.task_of p ask budget) v
opened-begun p ask budget v fits is =
    let t : Task = runs.task_of p ask budget in
    subst (IsBegun t) (sym is) (record {
      about = refl;
      first = refl;
      idle = opened-idle p ask budget (opened t []) fits refl;
      new = λ n over. tt;
      out = record { splits = refl; joins = refl };
      forks = tt;
    })

-- ---- one seat is split in two
pub parted-idle : (v : Knows) → IsIdle v → IsIdle (parted v)
parted-idle v i = record {
  settled = record { seated = record { about = i.settled.seated.about; rests = i.settled.seated.rests; lawful = i.settled.seated.lawful }; run = i.settled.run };
  free = i.free;
  home = i.home;
}

pub fresh-idle : (v : Knows) → IsIdle v → AreNew v → IsIdle (fresh v)
fresh-idle v i new =
    let n : ℕ = v.splits + 1 in
    let s : Spares n (start (task_of v)) (seen_board v) = Spares-run (start (task_of v)) v.seen n i.settled.seated.lawful (others-are n v.seen (new n (omega arith))) in
    record {
      settled = record { seated = record { about = i.settled.seated.about; rests = refl; lawful = i.settled.seated.lawful }; run = i.settled.run };
      free = s.count;
      home = s.units;
    }

module _ (c : Shared) (l k : Lead) (is : IsHost c l) (beside : IsBeside l.seat k.seat) (at : IsAt c.log k.pages) (first : IsFirst k.pages) (e : view k.seat ≡ parted (view l.seat)) where
  pub host-parted : IsHost c k
  host-parted =
      let v : Knows = view l.seat in
      record {
        lead = record {
          book = beside ∙ is.lead.book;
          log = at;
          first = ap (λ (y : Knows). y.number) e ∙ is.lead.first;
          pages_first = first;
          rests = ap (λ (y : Knows). y.holds) e ∙ is.lead.rests;
          lawful = subst (λ (y : Knows). IsJournalOf (task_of y) y.seen) (sym e) is.lead.lawful;
        };
        idle = subst IsIdle (sym e) (parted-idle v is.idle);
        run = subst (λ (y : Knows). IsRunOf (task_of y).program c.mode y) (sym e) (record { program = refl; goal = is.run.goal });
        program = subst (λ (y : Knows). program_of c.log ≡ (task_of y).program) (sym e) is.program;
        new = subst AreNew (sym e) (λ n more. is.new n (omega (arith, more)));
        forks = subst (λ (y : Knows). AreForks y.seen) (sym e) is.forks;
      }

-- the new worker may begin
pub may-join : (c : Shared) (l : Lead) (h : Worker) → IsHost c l → IsBeside l.seat h.seat → IsAt c.log h.pages → IsOfPool c.pool h.pass →
    view h.seat ≡ fresh (view l.seat) → MayJoin (task_of (view l.seat)).program c (view l.seat).about h
may-join c l h is beside at pool e =
    let v : Knows = view l.seat in
    let p : Program = (task_of v).program in
    let idle : IsIdle (view h.seat) = subst IsIdle (sym e) (fresh-idle v is.idle is.new) in
    record {
      may = record {
        ready = record {
          book = beside ∙ is.lead.book;
          log = at;
          program = subst (λ (y : Knows). program_of c.log ≡ (task_of y).program) (sym e) is.program;
          pool = pool;
          settled = idle.settled;
        };
        number = omega (arith, ap (λ (y : Knows). y.number) e);
        run = subst (IsRunOf p c.mode) (sym e) (record { program = refl; goal = is.run.goal });
        idle = idle;
        new = subst (λ (y : Knows). NoneBy signed y.number y.seen) (sym e) (is.new (v.splits + 1) (omega arith));
      };
      about_is = ap (λ (y : Knows). y.about) e;
    }

-- ---- one worker more
numbered-more : (i : ℕ) (hs : List Worker) (h : Worker) → AreNumbered i hs → (view h.seat).number ≡ i + length hs → AreNumbered i (hs ++ h ∷ [])
numbered-more i [] h is at = (omega (arith, at), tt)
numbered-more i (x ∷ hs) h is at = (is.0, numbered-more (suc i) hs h is.1 (omega (arith, at)))

only : {X : Type 0} (P : X → Type 0) (x : X) → P x → All P (x ∷ [])
only P x h zero d lt = h
only P x h (suc k) d lt = absurd (omega arith)

out-more : {D E : Type 0} (v w : View D E) (n m : ℕ) → HasOut v n → w ≡ parted v → m ≡ n + 1 → HasOut w m
out-more {D = D} {E = E} v w n m is e more = record {
  splits = omega (arith, ap (λ (y : View D E). y.splits) e, is.splits, more);
  joins = ap (λ (y : View D E). y.joins) e ∙ is.joins;
}

pub ready-more : (c : Shared) (l k : Lead) (hs xs : List Worker) (h : Worker) → AreReady c l hs → view k.seat ≡ parted (view l.seat) →
    ((n : ℕ) → HasSplit l.pages n → HasSplit k.pages (n + 1)) → MayJoin (task_of (view l.seat)).program c (view l.seat).about h →
    (view h.seat).number ≡ (view l.seat).splits + 1 → (view h.seat).seen ≡ (view l.seat).seen → xs ≡ hs ++ h ∷ [] → AreReady c k xs
ready-more c l k hs xs h is e f may number began at =
    let v : Knows = view l.seat in
    let len : length xs ≡ length hs + 1 = omega (arith, ap length at, length-append hs (h ∷ [])) in
    record {
      out = out-more v (view k.seat) (length hs) (length xs) is.out e len;
      pages_out = subst (HasSplit k.pages) (sym len) (f (length hs) is.pages_out);
      may = subst (λ (y : Knows). All (MayJoin (task_of y).program c y.about) xs) (sym e)
          (subst (All (MayJoin (task_of v).program c v.about)) (sym at) (All-append (MayJoin (task_of v).program c v.about) hs (h ∷ []) is.may (only (MayJoin (task_of v).program c v.about) h may)));
      numbered = subst (AreNumbered 1) (sym at) (numbered-more 1 hs h is.numbered (omega (arith, number, is.out.splits)));
      began = subst (λ (y : Knows). All (λ x. (view x.seat).seen ≡ y.seen) xs) (sym e)
          (subst (All (λ x. (view x.seat).seen ≡ v.seen)) (sym at) (All-append (λ x. (view x.seat).seen ≡ v.seen) hs (h ∷ []) is.began (only (λ x. (view x.seat).seen ≡ v.seen) h began)));
    }

pub ready-none : (c : Shared) (l : Lead) → HasOut (view l.seat) 0 → HasSplit l.pages 0 → AreReady c l []
ready-none c l out pages_out = record {
  out = out;
  pages_out = pages_out;
  may = All-nil (MayJoin (task_of (view l.seat)).program c (view l.seat).about);
  numbered = tt;
  began =
      All-nil (λ x. (view x.seat).seen ≡ (view l.seat).seen);
}

-- ---- a pass is taken
pub popped-rest : {X : Type 0} (P : X → Type 0) (xs ys : List X) (o : Option X) → Every P xs → xs ≡ ys ++ option_to_list o → Every P ys
popped-rest {X = X} P xs ys o every is k x at = every k x (ap (λ (l : List X). get_elem? l k) is ∙ place-kept ys (option_to_list o) k x at)

pub popped-one : {X : Type 0} (P : X → Type 0) (xs ys : List X) (o : Option X) (x : X) → Every P xs → xs ≡ ys ++ option_to_list o → o ≡ Some x → P x
popped-one {X = X} P xs ys o x every is some_x =
    every (length ys) x (ap (λ (l : List X). get_elem? l (length ys)) (is ∙ ap (λ (q : Option X). ys ++ option_to_list q) some_x) ∙ place-last ys x)

-- ---- the whole team
pub host-begun : (p : Program) (ask : Ask) (budget : ℕ) (c : Shared) (l : Lead) → ask.mode ≡ c.mode → IsOf c.book l.seat → IsAt c.log l.pages →
    IsBegun (runs.task_of p ask budget) (view l.seat) → program_of c.log ≡ p → IsFirst l.pages → IsHost c l
host-begun p ask budget c l mode book log is for first =
    let t : Task = runs.task_of p ask budget in
    let same : task_of (view l.seat) ≡ t = ap (λ (o : Option Task). unwrap_or o no_task) is.about in
    record {
      lead = record { book = book; log = log; first = is.first; pages_first = first; rests = is.idle.settled.seated.rests; lawful = is.idle.settled.seated.lawful };
      idle = is.idle;
      run = record { program = refl; goal = (ask.by_name, ap (λ (x : Task). x.goal) same ∙ ap (λ (m : Mode). goal_of m ask.by_name) mode) };
      program = for ∙ ap (λ (x : Task). x.program) (sym same);
      new = is.new;
      forks = is.forks;
    }

-- the workers may join, by what the team is for
pub all-may : (p : Program) (ask : Ask) (budget : ℕ) (c : Shared) (l : Lead) (hs : List Worker) →
    (view l.seat).about ≡ Some (runs.task_of p ask budget) → AreReady c l hs → All (MayJoin p c (view l.seat).about) hs
all-may p ask budget c l hs about is = subst (λ (q : Program). All (MayJoin q c (view l.seat).about) hs) (ap (λ (o : Option Task). (unwrap_or o no_task).program) about) is.may

-- ---- workers are added while lanes are left
pub record IsGathering (c : Shared) (start now : Lead) (hs : List Worker) (lanes : ℕ) (passes : List Pass) (all : ℕ) : Type 0 where
  pub host : IsHost c now
  pub about : (view now.seat).about ≡ (view start.seat).about
  pub ready : AreReady c now hs
  pub count : length hs + lanes ≡ all
  pub even : length passes ≡ lanes
  pub of_pool : Every (IsOfPool c.pool) passes
