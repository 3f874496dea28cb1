-- Why nothing is left when each number has found no leaf open.
use Rattle.std.proofs.Common.{◌≡◌, ◌⊎◌, ℕ, suc, ◌+◌, Bool, true, false, not, cond, ◌&&◌, ◌||◌, List, [], ◌∷◌, ◌++◌, length, append_assoc, refl, sym, ap, ◌∙◌, subst, inl, inr, arith}
use Rattle.std.specs.List.{AllByRecursion}
use Rattle.std.proofs.lemmas.List.{append-nil}
use Rattle.std.proofs.lemmas.List.Sums.{sum_by-cons}
use Rattle.asp_model.proofs.MemberLaws.{each_weaker, each-append}
use Rattle.asp_vars.proofs.StandingLaws.{back-append}
use Rattle.asp_path.specs.declared.status.Status.{Status}
use Rattle.asp_path.specs.declared.status.Status.TheVariants as status
use Rattle.asp_path.specs.Trees.{Node, is_open, is_held, is_unclosed, open_from, held_count, all_closed}
use Rattle.asp_core.specs.declared.event.Event.{Event}
use Rattle.asp_core.specs.declared.event.Event.TheVariants as event
use Rattle.asp_core.specs.declared.task.Task.{Task}
use Rattle.asp_core.specs.Boards.{Board, start}
use Rattle.asp_core.specs.Events.{happens, maker, run, replay}
use Rattle.asp_book.proofs.CallLaws.{run-append}
use Rattle.asp_crew_laws.specs.Runs.{IsBack, Quiet}

-- ---- lists
pub all-join : {E : Type 0} (P Q R : E → Type 0) → ((x : E) → P x → Q x → R x) → (xs : List E) → AllByRecursion P xs → AllByRecursion Q xs → AllByRecursion R xs
all-join P Q R f [] h k = tt
all-join P Q R f (x ∷ xs) h k = (f x h.0 k.0, all-join P Q R f xs h.1 k.1)

head_or : {E : Type 0} → E → List E → E
head_or d [] = d
head_or d (x ∷ xs) = x

tail_of : {E : Type 0} → List E → List E
tail_of [] = []
tail_of (x ∷ xs) = xs

-- of two cuts of one list, one lies in the other's first part
record Cut {E : Type 0} (a b c d : List E) : Type 0 where
  mid : List E
  front : c ≡ a ++ mid
  back : b ≡ mid ++ d

two-cuts : {E : Type 0} (a b c d : List E) → a ++ b ≡ c ++ d → Cut a b c d ⊎ Cut c d a b
unfolding head_or tail_of
two-cuts [] b c d e = inl (record { mid = c; front = refl; back = e })
two-cuts (x ∷ a) b [] d e = inr (record { mid = x ∷ a; front = refl; back = sym e })
two-cuts {E} (x ∷ a) b (y ∷ c) d e = here (ap (head_or x) e) (two-cuts a b c d (ap tail_of e))
  where
    here : x ≡ y → Cut a b c d ⊎ Cut c d a b → Cut (x ∷ a) b (y ∷ c) d ⊎ Cut (y ∷ c) d (x ∷ a) b
    here q (inl k) = inl (record { mid = k.mid; front = ap (λ (z : E). z ∷ c) (sym q) ∙ ap (λ (l : List E). x ∷ l) k.front; back = k.back })
    here q (inr k) = inr (record { mid = k.mid; front = ap (λ (z : E). z ∷ a) q ∙ ap (λ (l : List E). y ∷ l) k.front; back = k.back })

-- ---- quiet moments
pub quiet-now : (t : Task) (by : ℕ → Bool) (journal : List Event) → open_from 0 (replay t journal).nodes ≡ [] → Quiet t by journal
quiet-now t by journal none = record { before = journal; after = []; is = sym (append-nil journal); none = none; since = tt }

pub quiet-later : (t : Task) (by : ℕ → Bool) (journal more : List Event) → Quiet t by journal → AllByRecursion (λ e. by (maker e) ≡ true → IsBack e) more → Quiet t by (journal ++ more)
quiet-later t by journal more q h = record {
  before = q.before;
  after = q.after ++ more;
  is = ap (λ (l : List Event). l ++ more) q.is ∙ append_assoc q.before q.after more;
  none = q.none;
  since = each-append (λ e. by (maker e) ≡ true → IsBack e) q.after more q.since h;
}

module _ (t : Task) (P Q : ℕ → Bool) (journal : List Event) where
  either-back : (e : Event) → (P (maker e) ≡ true → IsBack e) → (Q (maker e) ≡ true → IsBack e) → (P (maker e) || Q (maker e)) ≡ true → IsBack e
  either-back e f g h = here (P (maker e)) f h
    where
      here : (x : Bool) → (x ≡ true → IsBack e) → (x || Q (maker e)) ≡ true → IsBack e
      here true f h = f refl
      here false f h = g h

  cut-in : (u v : List Event) (a b : List Event) → Cut a b u v → AllByRecursion (λ e. P (maker e) ≡ true → IsBack e) b →
      AllByRecursion (λ e. Q (maker e) ≡ true → IsBack e) v → AllByRecursion (λ e. (P (maker e) || Q (maker e)) ≡ true → IsBack e) v
  cut-in u v a b k p q = all-join (λ e. P (maker e) ≡ true → IsBack e) (λ e. Q (maker e) ≡ true → IsBack e) (λ e. (P (maker e) || Q (maker e)) ≡ true → IsBack e) either-back v
      (back-append (λ e. P (maker e) ≡ true → IsBack e) k.mid v (subst (AllByRecursion (λ e. P (maker e) ≡ true → IsBack e)) k.back p)) q

  cut-out : (u v : List Event) (a b : List Event) → Cut u v a b → AllByRecursion (λ e. P (maker e) ≡ true → IsBack e) b →
      AllByRecursion (λ e. Q (maker e) ≡ true → IsBack e) v → AllByRecursion (λ e. (P (maker e) || Q (maker e)) ≡ true → IsBack e) b
  cut-out u v a b k p q = all-join (λ e. P (maker e) ≡ true → IsBack e) (λ e. Q (maker e) ≡ true → IsBack e) (λ e. (P (maker e) || Q (maker e)) ≡ true → IsBack e) either-back b p
      (back-append (λ e. Q (maker e) ≡ true → IsBack e) k.mid b (subst (AllByRecursion (λ e. Q (maker e) ≡ true → IsBack e)) k.back q))

  -- the later moment is quiet for both
  pub quiet-both : Quiet t P journal → Quiet t Q journal → Quiet t (λ n. P n || Q n) journal
  quiet-both p q = here (two-cuts p.before p.after q.before q.after (sym p.is ∙ q.is))
    where
      here : Cut p.before p.after q.before q.after ⊎ Cut q.before q.after p.before p.after → Quiet t (λ n. P n || Q n) journal
      here (inl k) = record { before = q.before; after = q.after; is = q.is; none = q.none; since = cut-in q.before q.after p.before p.after k p.since q.since }
      here (inr k) = record { before = p.before; after = p.after; is = p.is; none = p.none; since = cut-out q.before q.after p.before p.after k p.since q.since }

-- ---- what is left then
back-nodes : (b : Board) (e : Event) → IsBack e → (happens b e).nodes ≡ b.nodes
back-nodes b (event.Back s left burnt) h = refl
back-nodes b (event.Take s leaf) h = absurd h
back-nodes b (event.Split s leaf l) h = absurd h
back-nodes b (event.Deliver s S) h = absurd h
back-nodes b (event.Improve s S) h = absurd h
back-nodes b (event.Close s leaf n) h = absurd h
back-nodes b (event.Release s leaf) h = absurd h
back-nodes b (event.Lease s n) h = absurd h

backs-nodes : (b : Board) (events : List Event) → AllByRecursion IsBack events → (run b events).nodes ≡ b.nodes
backs-nodes b [] h = refl
backs-nodes b (e ∷ events) h = backs-nodes (happens b e) events h.1 ∙ back-nodes b e h.0

some-open : (i : ℕ) (is : List ℕ) → i ∷ is ≡ [] → ⊥
some-open i is e = omega (arith, ap length e)

closed-from : (i : ℕ) (nodes : List Node) → open_from i nodes ≡ [] → held_count nodes ≡ 0 → all_closed nodes ≡ true
closed-from i [] o h = refl
closed-from i (n ∷ nodes) o h = here n.status refl o (sum_by-cons (λ (x : Node). cond (is_held x.status) 1 0) n nodes) (closed-from (suc i) nodes)
  where
    here : (s : Status) → s ≡ n.status → cond (is_open n.status) (i ∷ open_from (suc i) nodes) (open_from (suc i) nodes) ≡ [] → held_count (n ∷ nodes) ≡ cond (is_held n.status) 1 0 + held_count nodes
        → (open_from (suc i) nodes ≡ [] → held_count nodes ≡ 0 → all_closed nodes ≡ true) → (not (is_unclosed n.status) && all_closed nodes) ≡ true
    here status.Open q o c rest = absurd (some-open i (open_from (suc i) nodes) (ap (λ s. cond (is_open s) (i ∷ open_from (suc i) nodes) (open_from (suc i) nodes)) q ∙ o))
    here (status.Held s) q o c rest = absurd (omega (arith, c, h, ap (λ s. let k : ℕ = cond (is_held s) 1 0 in k) q))
    here status.Closed q o c rest =
        ap (λ s. not (is_unclosed s) && all_closed nodes) (sym q)
        ∙ rest (ap (λ s. cond (is_open s) (i ∷ open_from (suc i) nodes) (open_from (suc i) nodes)) q ∙ o) (omega (arith, c, h))
    here status.Forked q o c rest =
        ap (λ s. not (is_unclosed s) && all_closed nodes) (sym q)
        ∙ rest (ap (λ s. cond (is_open s) (i ∷ open_from (suc i) nodes) (open_from (suc i) nodes)) q ∙ o) (omega (arith, c, h))

-- Where all numbers that still did something found no leaf open, and none is held, every leaf is closed.
pub quiet-closed : (t : Task) (by : ℕ → Bool) (journal : List Event) → Quiet t by journal → ((n : ℕ) → by n ≡ true) →
    held_count (replay t journal).nodes ≡ 0 → all_closed (replay t journal).nodes ≡ true
quiet-closed t by journal q all none =
    let same : (replay t journal).nodes ≡ (replay t q.before).nodes =
    ap (λ (l : List Event). (replay t l).nodes) q.is ∙ ap (λ (b : Board). b.nodes) (run-append (start t) q.before q.after)
    ∙ backs-nodes (replay t q.before) q.after (each_weaker (λ e. by (maker e) ≡ true → IsBack e) IsBack (λ e f. f (all (maker e))) q.after q.since) in
    closed-from 0 (replay t journal).nodes (ap (open_from 0) same ∙ q.none) none
