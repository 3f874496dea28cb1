-- What workers that have come back left behind.
use Rattle.std.proofs.Common.{◌≡◌, ◌⊎◌, ℕ, ◌<◌, ◌≤◌, Bool, true, List, [], ◌∷◌, refl, sym, ◌∙◌, subst, inl, inr}
use Rattle.std.specs.List.{AllByRecursion}
use Rattle.std.proofs.lemmas.Bool.{cases_lt, eq-eqb, false≢true}
use mathlib.Core.List.{IsPrefix}
use Rattle.asp_vault.specs.Makers.{NoneBy}
use Rattle.asp_vault.specs.Seats.{view}
use Rattle.asp_core.specs.declared.event.Event.{Event}
use Rattle.asp_core.specs.declared.task.Task.{Task}
use Rattle.asp_core.specs.Events.{maker}
use Rattle.asp_book.specs.Books.{signed, IsJournalOf}
use Rattle.asp_book.specs.Calls.{Knows, task_of}
use Rattle.asp_book.proofs.CallLaws.{others-are}
use Rattle.asp_crew_laws.specs.Gone.{IsCut, IsGone, IsRelease, IsThrough}
use Rattle.asp_crew_laws.proofs.GoneLaws.{gone-later, gone-shorter}
use Rattle.asp_worker.specs.declared.worker.Worker.{Worker}
use Rattle.asp_worker.specs.declared.worker.Shared.{Shared}
use Rattle.asp_worker.specs.Seats.{HasCause, IsTidy, Worked}
use Rattle.asp_worker.proofs.OwnLaws.{own-weaker}
use Rattle.asp_team.specs.declared.lead.Lead.{Lead}
use Rattle.asp_team.specs.Joined.{CameHome, IsHome, LeftBy, StayHome}

-- as others go on, one of whom may have been short of memory
pub gone-prefix : (t : Task) (n : ℕ) (xs ys : List Event) (p : IsPrefix xs ys) → IsJournalOf t ys → NoneBy signed n p.0 → (s short never : Bool) →
    (s ≡ true → short ≡ true) → (begun : List Event) → IsGone t s never n begun xs → IsGone t short never n begun ys
gone-prefix t n xs ys p lawful none s short never more begun g =
    subst (IsGone t short never n begun) p.1
    (gone-later t n xs p.0 (subst (IsJournalOf t) (sym p.1) lawful) (others-are n p.0 none) short never begun (gone-shorter t n begun xs s short never more g))

-- a worker that has ended is gone
module _ (stopped : Type 0) (never : Bool) (no : never ≡ true → stopped → ⊥) where
  why : (v : Knows) (short : Bool) (begun : List Event) → HasCause stopped short begun v → IsThrough (task_of v) v.number begun v.seen ⊎ IsCut (task_of v) short never v.seen
  why v short begun (inl t) = inl (record {
    quiet = t.quiet.quiet;
    late = (t.quiet.late.0, sym t.quiet.late.1);
    kept = own-weaker IsTidy (λ e. IsRelease e → ⊥) v.number v.seen (λ e k. k.1) t.tidy;
  })
  why v short begun (inr (inl s)) = inr (inl s)
  why v short begun (inr (inr (inl e))) = inr (inr (inl (record { before = e.before; after = e.after; is = e.is; so = e.so })))
  why v short begun (inr (inr (inr (inl e)))) = inr (inr (inr (inl (record { before = e.before; after = e.after; is = e.is; so = e.so }))))
  why v short begun (inr (inr (inr (inr s)))) = inr (inr (inr (inr (λ yes. no yes s))))

  pub gone-worked : (c : Shared) (h k : Worker) → Worked stopped c h k → LeftBy (view k.seat) k.short never (view h.seat).seen (view k.seat).number
  gone-worked c h k w = record { free = w.idle.free; home = w.idle.home; leases = w.small; why = why (view k.seat) k.short (view h.seat).seen w.cause }

-- ---- worker by worker
pub stay-on : (l k m : Lead) → StayHome l k → StayHome k m → StayHome l m
stay-on l k m a b n h = let first = a n h in let second = b n first.0 in (second.0, λ never begun g. second.1 never begun (first.1 never begun g))

pub came-on : (stopped : Type 0) (l k : Lead) (h : Worker) → StayHome l k → CameHome stopped l h → CameHome stopped k h
came-on stopped l k h stay came =
    let s = stay (view h.seat).number came.home in
    record { home = s.0; gone = λ never no. s.1 never (view h.seat).seen (came.gone never no) }

pub came-worked : (stopped : Type 0) (c : Shared) (h m : Worker) (k : Lead) → Worked stopped c h m → IsHome (view k.seat) (view m.seat).number →
    ((never : Bool) (begun : List Event) → LeftBy (view m.seat) m.short never begun (view m.seat).number → LeftBy (view k.seat) k.short never begun (view m.seat).number) → CameHome stopped k h
came-worked stopped c h m k w home gone = record {
  home = subst (IsHome (view k.seat)) w.keeps.seat.number home;
  gone = λ never no. subst (LeftBy (view k.seat) k.short never (view h.seat).seen) w.keeps.seat.number (gone never (view h.seat).seen (gone-worked stopped never no c h m w));
}

-- ---- no others did anything
few-or : (n k : ℕ) → (k < n → ⊥) → n ≤ k
few-or n k h = here (cases_lt k n)
  where
    here : (k < n) ⊎ (n ≤ k) → n ≤ k
    here (inl more) = absurd (h more)
    here (inr le) = le

pub all-few : (k : ℕ) (xs : List Event) → ((n : ℕ) → k < n → NoneBy signed n xs) → AllByRecursion (λ e. maker e ≤ k) xs
all-few k [] h = tt
all-few k (e ∷ xs) h = (few-or (maker e) k (λ more. absurd (false≢true (sym (h (maker e) more).0 ∙ eq-eqb (maker e) (maker e) refl))), all-few k xs (λ n more. (h n more).1))
