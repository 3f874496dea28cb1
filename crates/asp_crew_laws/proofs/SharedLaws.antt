-- A whole run: when all numbers are gone, what is left on the board, and who did the work.
use Rattle.std.proofs.Common.{◌≡◌, ◌⊎◌, ℕ, zero, suc, ◌+◌, ◌-◌, ◌<◌, ◌≤◌, Bool, true, false, not, cond, ◌||◌, eqb, leb, List, [], ◌∷◌, ◌++◌, length, drop, append_assoc, refl, sym, ap, ◌∙◌, subst, inl, inr, arith}
use Rattle.std.specs.List.{AllByRecursion}
use Rattle.std.proofs.lemmas.Bool.{false≢true, eq-eqb, and_parts, cases_eq, cases_lt, leb-true, le-leb, or_left, or_right}
use Rattle.std.proofs.lemmas.List.Sums.{sum_by-cons}
use Rattle.asp_model.proofs.MemberLaws.{each_weaker, each-append, each-front}
use Rattle.asp_vars.proofs.StandingLaws.{back-append}
use Rattle.asp_path.specs.declared.status.Status.{Status}
use Rattle.asp_path.specs.declared.status.Status.TheVariants as status
use Rattle.asp_path.specs.Trees.{Node, is_held, is_held_by, is_unclosed, held_count, status_of, all_closed}
use Rattle.asp_core.specs.declared.event.Event.{Event}
use Rattle.asp_core.specs.declared.event.Event.TheVariants as event
use Rattle.asp_core.specs.declared.task.Task.{Task}
use Rattle.asp_core.specs.Units.{out_of}
use Rattle.asp_core.specs.Boards.{Board, start}
use Rattle.asp_core.specs.Events.{held_by, Guard, happens, maker, IsLawful, replay}
use Rattle.asp_core.proofs.GrowthLaws.{Spares-run}
use Rattle.asp_book.proofs.CallLaws.{lawful-rest}
use Rattle.asp_crew_laws.specs.Runs.{IsBack, Quiet}
use Rattle.asp_crew_laws.specs.Gone.{IsSmall, IsRelease, IsEmpty, IsEnough, IsFork, IsThrough, IsCut, IsCutShort, IsCrewGone, IsUnshared, IsShared, Was, WasEarly}
use Rattle.asp_crew_laws.specs.Reports.{IsIdle}
use Rattle.asp_crew_laws.proofs.GoneLaws.{cut-later}
use Rattle.asp_crew_laws.proofs.QuietLaws.{all-join, quiet-both, quiet-closed}

-- ---- nobody holds a leaf
pub held-none : (nodes : List Node) → ((n : ℕ) → held_by n nodes ≡ 0) → held_count nodes ≡ 0
held-none [] none = refl
held-none (x ∷ nodes) none = here x.status refl (held-none nodes (λ n. omega (arith, none n, at n)))
  where
    at : (n : ℕ) → held_by n (x ∷ nodes) ≡ cond (is_held_by n x.status) 1 0 + held_by n nodes
    at n = sum_by-cons (λ (y : Node). cond (is_held_by n y.status) 1 0) x nodes

    all : held_count (x ∷ nodes) ≡ cond (is_held x.status) 1 0 + held_count nodes
    all = sum_by-cons (λ (y : Node). cond (is_held y.status) 1 0) x nodes

    here : (s : Status) → x.status ≡ s → held_count nodes ≡ 0 → held_count (x ∷ nodes) ≡ 0
    here status.Open q rest = omega (arith, all, rest, ap (λ s. let k : ℕ = cond (is_held s) 1 0 in k) q)
    here (status.Held n) q rest = absurd (omega (arith, none n, at n, ap (λ s. let k : ℕ = cond (is_held_by n s) 1 0 in k) q, ap (λ b. let k : ℕ = cond b 1 0 in k) (eq-eqb n n refl)))
    here status.Closed q rest = omega (arith, all, rest, ap (λ s. let k : ℕ = cond (is_held s) 1 0 in k) q)
    here status.Forked q rest = omega (arith, all, rest, ap (λ s. let k : ℕ = cond (is_held s) 1 0 in k) q)

-- ---- where all leaves are closed, none is closed again
closed-at : (nodes : List Node) (n : ℕ) → all_closed nodes ≡ true → is_unclosed (status_of nodes n) ≡ false
closed-at [] n h = refl
closed-at (x ∷ nodes) zero h = here (is_unclosed x.status) (and_parts (not (is_unclosed x.status)) (all_closed nodes) h).0
  where
    here : (b : Bool) → not b ≡ true → b ≡ false
    here true e = absurd (false≢true e)
    here false e = refl
closed-at (x ∷ nodes) (suc n) h = closed-at nodes n (and_parts (not (is_unclosed x.status)) (all_closed nodes) h).1

unclosed-not : (nodes : List Node) (n : ℕ) (s : Status) → all_closed nodes ≡ true → status_of nodes n ≡ s → is_unclosed s ≡ true → ⊥
unclosed-not nodes n s closed e h = false≢true (sym (closed-at nodes n closed) ∙ ap is_unclosed e ∙ h)

still-closed : (b : Board) (e : Event) → all_closed b.nodes ≡ true → Guard b e → (happens b e).nodes ≡ b.nodes
still-closed b (event.Take s leaf) h g = absurd (unclosed-not b.nodes leaf status.Open h g.0 refl)
still-closed b (event.Split s leaf l) h g = absurd (unclosed-not b.nodes leaf (status.Held s) h g.0 refl)
still-closed b (event.Deliver s S) h g = refl
still-closed b (event.Improve s S) h g = refl
still-closed b (event.Close s leaf n) h g = absurd (unclosed-not b.nodes leaf (status.Held s) h g.0 refl)
still-closed b (event.Release s leaf) h g = absurd (unclosed-not b.nodes leaf (status.Held s) h g refl)
still-closed b (event.Lease s n) h g = refl
still-closed b (event.Back s left burnt) h g = refl

shared-closed : (b : Board) (e : Event) → all_closed b.nodes ≡ true → Guard b e → IsUnshared e → ⊥
shared-closed b (event.Take s leaf) h g u = u
shared-closed b (event.Split s leaf l) h g u = u
shared-closed b (event.Deliver s S) h g u = u
shared-closed b (event.Improve s S) h g u = u
shared-closed b (event.Close s leaf n) h g u = unclosed-not b.nodes leaf (status.Held s) h g.0 refl
shared-closed b (event.Release s leaf) h g u = unclosed-not b.nodes leaf (status.Held s) h g refl
shared-closed b (event.Lease s n) h g u = u
shared-closed b (event.Back s left burnt) h g u = u

none-more : (b : Board) (events : List Event) → all_closed b.nodes ≡ true → IsLawful b events → AllByRecursion (λ e. IsUnshared e → ⊥) events
none-more b [] h lawful = tt
none-more b (e ∷ events) h lawful = (shared-closed b e h lawful.0, none-more (happens b e) events (ap all_closed (still-closed b e h lawful.0) ∙ h) lawful.1)

-- ---- all numbers together
pub below-or : (n k : ℕ) → (n ≡ 0) ⊎ (((0 < n) × (n ≤ k)) ⊎ (k < n))
below-or zero k = inl refl
below-or (suc n) k = here (cases_lt k (suc n))
  where
    here : (k < suc n) ⊎ (suc n ≤ k) → (suc n ≡ 0) ⊎ (((0 < suc n) × (suc n ≤ k)) ⊎ (k < suc n))
    here (inl more) = inr (inr more)
    here (inr le) = inr (inl (omega arith, le))

-- what holds of each worker's events holds of all but number 0's
each-of : (P : Event → Type 0) (workers : ℕ) (xs : List Event) → AllByRecursion (λ e. maker e ≤ workers) xs →
    ((n : ℕ) → 0 < n → n ≤ workers → AllByRecursion (λ e. maker e ≡ n → P e) xs) → AllByRecursion (λ e. (maker e ≡ 0 → ⊥) → P e) xs
each-of P workers [] few h = tt
each-of P workers (x ∷ xs) few h = (λ some. (h (maker x) (omega (arith, some)) few.0).0 refl, each-of P workers xs few.1 (λ n some le. (h n some le).1))

unshared-fork : (e : Event) → maker e ≡ 0 → IsFork e → IsUnshared e → ⊥
unshared-fork (event.Take s leaf) z fork u = u
unshared-fork (event.Split s leaf l) z fork u = u
unshared-fork (event.Deliver s S) z fork u = u
unshared-fork (event.Improve s S) z fork u = u
unshared-fork (event.Close s leaf n) z fork u = fork
unshared-fork (event.Release s leaf) z fork u = u z
unshared-fork (event.Lease s n) z fork u = u
unshared-fork (event.Back s left burnt) z fork u = u

unshared-worker : (e : Event) → (maker e ≡ 0 → ⊥) → (IsRelease e → ⊥) → IsUnshared e → ⊥
unshared-worker (event.Take s leaf) ne kept u = u
unshared-worker (event.Split s leaf l) ne kept u = u
unshared-worker (event.Deliver s S) ne kept u = u
unshared-worker (event.Improve s S) ne kept u = u
unshared-worker (event.Close s leaf n) ne kept u = ne u
unshared-worker (event.Release s leaf) ne kept u = kept tt
unshared-worker (event.Lease s n) ne kept u = u
unshared-worker (event.Back s left burnt) ne kept u = u

quiet-fewer : (t : Task) (P Q : ℕ → Bool) (xs : List Event) → ((n : ℕ) → Q n ≡ true → P n ≡ true) → Quiet t P xs → Quiet t Q xs
quiet-fewer t P Q xs f q = record {
  before = q.before;
  after = q.after;
  is = q.is;
  none = q.none;
  since =
      each_weaker (λ e. P (maker e) ≡ true → IsBack e) (λ e. Q (maker e) ≡ true → IsBack e) (λ e h s. h (f (maker e) s)) q.after q.since;
}

rest-is : (begun rest : List Event) → drop (length begun) (begun ++ rest) ≡ rest
rest-is [] rest = refl
rest-is (x ∷ begun) rest = rest-is begun rest

module _ (t : Task) (workers : ℕ) (short never : Bool) (begun rest : List Event) (is : IsCrewGone t workers short never begun rest) where
  strangers : (n : ℕ) → workers < n → AllByRecursion (λ e. maker e ≡ n → ⊥) (begun ++ rest)
  strangers n more = each_weaker (λ e. maker e ≤ workers) (λ e. maker e ≡ n → ⊥) (λ e le same. omega (arith, le, same, more)) (begun ++ rest) is.few

  free-all : (n : ℕ) → held_by n (replay t (begun ++ rest)).nodes ≡ 0
  free-all n = here (below-or n workers)
    where
      here : (n ≡ 0) ⊎ (((0 < n) × (n ≤ workers)) ⊎ (workers < n)) → held_by n (replay t (begun ++ rest)).nodes ≡ 0
      here (inl e) = ap (λ k. held_by k (replay t (begun ++ rest)).nodes) e ∙ is.free
      here (inr (inl w)) = (is.gone n w.0 w.1).free
      here (inr (inr s)) = (Spares-run (start t) (begun ++ rest) n is.lawful (strangers n s)).count

  home-all : (n : ℕ) → out_of (replay t (begun ++ rest)).out n ≡ 0
  home-all n = here (below-or n workers)
    where
      here : (n ≡ 0) ⊎ (((0 < n) × (n ≤ workers)) ⊎ (workers < n)) → out_of (replay t (begun ++ rest)).out n ≡ 0
      here (inl e) = ap (λ k. out_of (replay t (begun ++ rest)).out k) e ∙ is.home
      here (inr (inl w)) = (is.gone n w.0 w.1).home
      here (inr (inr s)) = (Spares-run (start t) (begun ++ rest) n is.lawful (strangers n s)).units

  none-held : held_count (replay t (begun ++ rest)).nodes ≡ 0
  none-held = held-none (replay t (begun ++ rest)).nodes free-all

  -- Then the main thread may finish what is left.
  pub idle-when : IsIdle (replay t (begun ++ rest))
  idle-when = record { free = none-held; home = home-all }

  -- ---- number 0 did no more than split the root
  only-forks : AllByRecursion (λ e. maker e ≡ 0 → IsFork e) (begun ++ rest)
  only-forks = each-append (λ e. maker e ≡ 0 → IsFork e) begun rest (each_weaker (λ e. (maker e ≡ 0) × IsFork e) (λ e. maker e ≡ 0 → IsFork e) (λ e h z. h.1) begun is.forks)
      (each_weaker (λ e. maker e ≡ 0 → ⊥) (λ e. maker e ≡ 0 → IsFork e) (λ e h z. absurd (h z)) rest is.since)

  early-when : (P : Board → Type 0) → Was P t (begun ++ rest) → WasEarly P t (begun ++ rest)
  early-when P w = record {
    before = w.before;
    after = w.after;
    is = w.is;
    so = w.so;
    early = each-front (λ e. maker e ≡ 0 → IsFork e) w.before w.after (subst (AllByRecursion (λ e. maker e ≡ 0 → IsFork e)) w.is only-forks);
  }

  cut-short : IsCut t short never (begun ++ rest) → IsCutShort t short never (begun ++ rest)
  cut-short (inl s) = inl s
  cut-short (inr (inl w)) = inr (inl (early-when IsEmpty w))
  cut-short (inr (inr (inl w))) = inr (inr (inl (early-when IsEnough w)))
  cut-short (inr (inr (inr h))) = inr (inr (inr h))

  -- ---- each worker came through, or one was cut short
  abbrev Outcome : ℕ → Type 0
  Outcome k = ((n : ℕ) → 0 < n → n ≤ k → IsThrough t n begun (begun ++ rest)) ⊎ IsCut t short never (begun ++ rest)

  one-more : (k : ℕ) → Outcome k → IsThrough t (suc k) begun (begun ++ rest) ⊎ IsCut t short never (begun ++ rest) → Outcome (suc k)
  one-more k (inr cut) w = inr cut
  one-more k (inl through) (inr cut) = inr cut
  one-more k (inl through) (inl last) = inl (λ n some few. at n some (cases_eq n (suc k)) few)
    where
      at : (n : ℕ) → 0 < n → (n ≡ suc k) ⊎ (n ≡ suc k → ⊥) → n ≤ suc k → IsThrough t n begun (begun ++ rest)
      at n some (inl e) few = subst (λ m. IsThrough t m begun (begun ++ rest)) (sym e) last
      at n some (inr ne) few = through n some (omega (arith, few, ne))

  outcomes : (k : ℕ) → k ≤ workers → Outcome k
  outcomes zero le = inl (λ n some few. absurd (omega (arith, some, few)))
  outcomes (suc k) le = one-more k (outcomes k (omega (arith, le))) (is.gone (suc k) (omega arith) le).why

  -- since a worker's quiet moment number 0 did nothing
  main-quiet : (n : ℕ) (w : IsThrough t n begun (begun ++ rest)) → AllByRecursion (λ e. maker e ≡ 0 → ⊥) w.quiet.after
  main-quiet n w =
      let q = w.quiet in
      let cut : begun ++ rest ≡ begun ++ (w.late.0 ++ q.after) = q.is ∙ ap (λ (l : List Event). l ++ q.after) w.late.1 ∙ append_assoc begun w.late.0 q.after in
      let tail : rest ≡ w.late.0 ++ q.after = sym (rest-is begun rest) ∙ ap (drop (length begun)) cut ∙ rest-is begun (w.late.0 ++ q.after) in
      back-append (λ e. maker e ≡ 0 → ⊥) w.late.0 q.after (subst (AllByRecursion (λ e. maker e ≡ 0 → ⊥)) tail is.since)

  quiet-first : IsThrough t 1 begun (begun ++ rest) → Quiet t (λ n. leb n 1) (begun ++ rest)
  quiet-first w =
      let q = w.quiet in
      record {
        before = q.before;
        after = q.after;
        is = q.is;
        none = q.none;
        since = all-join (λ e. maker e ≡ 0 → ⊥) (λ e. eqb (maker e) 1 ≡ true → IsBack e) (λ e. leb (maker e) 1 ≡ true → IsBack e)
            (λ e ne h s. h (eq-eqb (maker e) 1 (omega (arith, ne, leb-true (maker e) 1 s)))) q.after (main-quiet 1 w) q.since;
      }

  quiet-next : (k : ℕ) → Quiet t (λ n. leb n k) (begun ++ rest) → Quiet t (λ n. eqb n (suc k)) (begun ++ rest) → Quiet t (λ n. leb n (suc k)) (begun ++ rest)
  quiet-next k p q = quiet-fewer t (λ n. leb n k || eqb n (suc k)) (λ n. leb n (suc k)) (begun ++ rest)
      (λ n h. at n (leb-true n (suc k) h) (cases_eq n (suc k))) (quiet-both t (λ n. leb n k) (λ n. eqb n (suc k)) (begun ++ rest) p q)
    where
      at : (n : ℕ) → n ≤ suc k → (n ≡ suc k) ⊎ (n ≡ suc k → ⊥) → (leb n k || eqb n (suc k)) ≡ true
      at n le (inl e) = or_right (leb n k) (eqb n (suc k)) (eq-eqb n (suc k) e)
      at n le (inr ne) = or_left (leb n k) (eqb n (suc k)) (le-leb n k (omega (arith, le, ne)))

  module _ (through : (n : ℕ) → 0 < n → n ≤ workers → IsThrough t n begun (begun ++ rest)) where
    quiet-upto : (k : ℕ) → suc k ≤ workers → Quiet t (λ n. leb n (suc k)) (begun ++ rest)
    quiet-upto zero le = quiet-first (through 1 (omega arith) le)
    quiet-upto (suc k) le = quiet-next (suc k) (quiet-upto k (omega (arith, le))) (through (suc (suc k)) (omega arith) le).quiet

    quiet-all : Quiet t (λ n. leb n workers) (begun ++ rest) → Quiet t (λ n. true) (begun ++ rest)
    quiet-all q = record {
      before = q.before;
      after = q.after;
      is = q.is;
      none = q.none;
      since = all-join (λ e. maker e ≤ workers) (λ e. leb (maker e) workers ≡ true → IsBack e) (λ e. true ≡ true → IsBack e) (λ e le h s. h (le-leb (maker e) workers le)) q.after
          (back-append (λ e. maker e ≤ workers) q.before q.after (subst (AllByRecursion (λ e. maker e ≤ workers)) q.is is.few)) q.since;
    }

    all-shut : 0 < workers → all_closed (replay t (begun ++ rest)).nodes ≡ true
    all-shut some =
        let one : suc (workers - 1) ≡ workers = omega (arith, some) in
        quiet-closed t (λ n. true) (begun ++ rest) (quiet-all (subst (λ k. Quiet t (λ n. leb n k) (begun ++ rest)) one (quiet-upto (workers - 1) (omega (arith, one))))) (λ n. refl) none-held

    none-unshared : AllByRecursion (λ e. IsUnshared e → ⊥) (begun ++ rest)
    none-unshared =
        let kept : AllByRecursion (λ e. (maker e ≡ 0 → ⊥) → IsRelease e → ⊥) (begun ++ rest) = each-of (λ e. IsRelease e → ⊥) workers (begun ++ rest) is.few (λ n some le. (through n some le).kept) in
        each-append (λ e. IsUnshared e → ⊥) begun rest
        (each_weaker (λ e. (maker e ≡ 0) × IsFork e) (λ e. IsUnshared e → ⊥) (λ e h u. unshared-fork e h.0 h.1 u) begun is.forks)
        (all-join (λ e. maker e ≡ 0 → ⊥) (λ e. (maker e ≡ 0 → ⊥) → IsRelease e → ⊥) (λ e. IsUnshared e → ⊥) (λ e ne h u. unshared-worker e ne (h ne) u) rest is.since
        (back-append (λ e. (maker e ≡ 0 → ⊥) → IsRelease e → ⊥) begun rest kept))

  module _ (some : 0 < workers) (more : List Event) (lawful : IsLawful (start t) ((begun ++ rest) ++ more)) (main : AllByRecursion (λ e. maker e ≡ 0) more) where
    causes-by : Outcome workers → AllByRecursion (λ e. IsUnshared e → IsCutShort t short never ((begun ++ rest) ++ more)) ((begun ++ rest) ++ more)
    causes-by (inr cut) =
        let late : IsCutShort t short never ((begun ++ rest) ++ more) = cut-later t (begun ++ rest) more short never (cut-short cut) in
        all-of (λ e. IsUnshared e → IsCutShort t short never ((begun ++ rest) ++ more)) (λ e u. late) ((begun ++ rest) ++ more)
      where
        all-of : (P : Event → Type 0) → ((e : Event) → P e) → (xs : List Event) → AllByRecursion P xs
        all-of P f [] = tt
        all-of P f (x ∷ xs) = (f x, all-of P f xs)
    causes-by (inl through) =
        each_weaker (λ e. IsUnshared e → ⊥) (λ e. IsUnshared e → IsCutShort t short never ((begun ++ rest) ++ more)) (λ e h u. absurd (h u)) ((begun ++ rest) ++ more)
        (each-append (λ e. IsUnshared e → ⊥) (begun ++ rest) more (none-unshared through)
        (none-more (replay t (begun ++ rest)) more (all-shut through some) (lawful-rest (start t) (begun ++ rest) more lawful)))

    -- The run was shared.
    pub shared-when : IsShared t short never ((begun ++ rest) ++ more)
    shared-when = record {
      leases = each-append (λ e. (maker e ≡ 0 → ⊥) → IsSmall e) (begun ++ rest) more (each-of IsSmall workers (begun ++ rest) is.few (λ n some le. (is.gone n some le).leases))
          (each_weaker (λ e. maker e ≡ 0) (λ e. (maker e ≡ 0 → ⊥) → IsSmall e) (λ e z ne. absurd (ne z)) more main);
      causes = causes-by (outcomes workers (omega arith));
    }
