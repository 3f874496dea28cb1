-- A search that agrees with the board still does so after events of others and of its own.
use Rattle.std.proofs.Common.{◌≡◌, ℕ, ◌+◌, ◌≤◌, Bool, true, false, ◌||◌, List, [], ◌∷◌, ◌++◌, length, Option, Some, None, inl, inr, refl, sym, ap, ◌∙◌, subst, arith}
use Rattle.std.specs.Prelude.{ℤ, IsTrue}
use Rattle.std.specs.Option.{IfSome}
use Rattle.std.specs.List.{list_any, AllByRecursion}
use Rattle.std.specs.Cmp.Lexicographic.{same_text}
use Rattle.std.proofs.lemmas.Bool.{false≢true, or_cases, or_left, or_right}
use Rattle.asp_model.specs.declared.program.Program.{Program}
use Rattle.asp_model.specs.declared.results.Reasoning.{Reasoning}
use Rattle.asp_model.specs.Consequences.{common_sets, unshown, used_up}
use Rattle.asp_model.specs.Sets.{Atoms, IsSubset, same_set}
use Rattle.asp_model.proofs.MemberLaws.{each_weaker, one_passes}
use Rattle.asp_model.proofs.ConsequenceLaws.{AreAmong, common-push, first-among, pushed-some, unshown-all, unshown-among, unshown-common, unshown-push, used-common, used-less, used-more}
use Rattle.asp_vars.specs.Literals.{Literal}
use Rattle.asp_vars.specs.Entailment.{HitsOnly, Settled, costs_bound, is_done}
use Rattle.asp_vars.proofs.ResolutionLaws.{HitsOnly-weaker}
use Rattle.asp_core.specs.declared.event.Event.TheVariants as event
use Rattle.asp_core.specs.declared.task.Task.{Task}
use Rattle.asp_core.specs.Boards.{Board, IsBoundOf, bound_of, is_excused, showing, showing_of, sought, used}
use Rattle.asp_core.specs.Events.{happens}
use Rattle.asp_core.specs.Growth.{Grows}
use Rattle.asp_core.proofs.AskedLaws.{showing-among, showing-empty, sought-none, unshown-showing}
use Rattle.asp_core.proofs.BoardLaws.{excused-delivered}
use Rattle.asp_core.proofs.SortingLaws.{same_itself}
use Rattle.asp_crew_laws.specs.Agrees.{Agrees, AreRecorded}

-- what the search leaves out
abbrev pub used_by : Board → List Atoms → List Atoms
used_by b known = used_up (sought b.task.goal) b.task.program known

-- ---- a leaf may be closed for what the search has settled
pub settled-excused : (b : Board) (known : List Atoms) (bound : Option (List ℤ)) (q : List Literal) → Agrees b known bound →
    Settled b.task.program (used_by b known) bound q → HitsOnly b.task.program (is_excused b) q
settled-excused b known bound q a h = HitsOnly-weaker b.task.program (is_done b.task.program (used_by b known) bound) (is_excused b) q a.excused h

-- ---- what others do
excused-grows : (b c : Board) (known : List Atoms) (bound : Option (List ℤ)) → Grows b c → Agrees b known bound → (S : Atoms) →
    IsTrue (is_done c.task.program (used_by c known) bound S) → IsTrue (is_excused c S)
excused-grows b c known bound g a S h = g.excused S (a.excused S (ap (λ (t : Task). is_done t.program (used_up (sought t.goal) t.program known) bound S) (sym g.task) ∙ h))

bounded-grows : (b c : Board) (bound : Option (List ℤ)) → Grows b c → IfSome bound (IsBoundOf b) → IfSome bound (IsBoundOf c)
bounded-grows b c None g h = tt
bounded-grows b c (Some d) g h = g.bounds d h

one-more : (r : Reasoning) (p : Program) (A B : List Atoms) → AreAmong A B → length (common_sets r p A) ≤ length (common_sets r p B)
one-more r p [] B among = omega arith
one-more r p (S ∷ A) [] among = absurd (false≢true (among S (first-among S A)))
one-more r p (S ∷ A) (T ∷ B) among = omega arith

recorded-more : (k : Option Reasoning) (p : Program) (known A B : List Atoms) → AreAmong A B → AreRecorded k p known A → AreRecorded k p known B
recorded-more None p known A B among h = each_weaker (λ S. IsTrue (list_any (same_set S) A)) (λ S. IsTrue (list_any (same_set S) B)) among known h
recorded-more (Some r) p known A B among h = (λ a e. h.0 a (unshown-among r p A B among a e), omega (arith, h.1, one-more r p A B among))

pub agrees-grows : (b c : Board) (known : List Atoms) (bound : Option (List ℤ)) → Grows b c → Agrees b known bound → Agrees c known bound
agrees-grows b c known bound g a = record {
  excused = excused-grows b c known bound g a;
  recorded =
      subst (λ (t : Task). AreRecorded (sought t.goal) t.program known (showing t.goal t.program c.answers)) (sym g.task)
      (recorded-more (sought b.task.goal) b.task.program known (showing_of b) (showing b.task.goal b.task.program c.answers)
      (showing-among b.task.goal b.task.program b.answers c.answers g.listed) a.recorded);
  bounded = bounded-grows b c bound g a.bounded;
}

-- a search that knows nothing
pub none-recorded : (k : Option Reasoning) (p : Program) (A : List Atoms) → AreRecorded k p [] A
none-recorded None p A = tt
none-recorded (Some r) p A = (unshown-all r p A, omega arith)

-- ---- an answer that was delivered is known
pub any-push : (S : Atoms) (L : List Atoms) (T : Atoms) → list_any (same_set T) (L ++ S ∷ []) ≡ (list_any (same_set T) L || same_set T S)
any-push S [] T = or-nil (same_set T S)
  where
    or-nil : (a : Bool) → (a || false) ≡ a
    or-nil true = refl
    or-nil false = refl
any-push S (R ∷ L) T = here (same_set T R) (any-push S L T)
  where
    here : (x : Bool) → list_any (same_set T) (L ++ S ∷ []) ≡ (list_any (same_set T) L || same_set T S) → (x || list_any (same_set T) (L ++ S ∷ [])) ≡ ((x || list_any (same_set T) L) || same_set T S)
    here true e = refl
    here false e = e

-- each of a list holds, and so does the last one more
each-push : (P : Atoms → Type 0) (L : List Atoms) (S : Atoms) → AllByRecursion P L → P S → AllByRecursion P (L ++ S ∷ [])
each-push P [] S h k = (k, tt)
each-push P (T ∷ L) S h k = (h.0, each-push P L S h.1 k)

-- each of a list is among the others
pub among-each : (K L : List Atoms) → AllByRecursion (λ S. IsTrue (list_any (same_set S) L)) K → AreAmong K L
among-each K L h T e =
    one_passes (list_any (same_set T) L ≡ true) (same_set T) K
    (each_weaker (λ S. IsTrue (list_any (same_set S) L)) (λ S. same_set T S ≡ true → list_any (same_set T) L ≡ true)
    (λ S there same. ap (λ (U : Atoms). list_any (same_set U) L) (same_text T S (sym same)) ∙ there) K h) e

-- what is done by one more answer, or what is used up before
done-more : (p : Program) (K L : List Atoms) (bound c : Option (List ℤ)) (T : Atoms) → AreAmong K L →
    (costs_bound p bound T ≡ true → is_done p L c T ≡ true) → is_done p K bound T ≡ true → is_done p L c T ≡ true
done-more p K L bound c T among dear h = elim (or_cases (list_any (same_set T) K) (costs_bound p bound T) h) [
  | inl e ↦ or_left (list_any (same_set T) L) (costs_bound p c T) (among T e)
  | inr e ↦ dear e
]

-- what is too dear for the search is excused before and after
dear-delivered : (b : Board) (s : ℕ) (S : Atoms) (known : List Atoms) (bound : Option (List ℤ)) (T : Atoms) → Agrees b known bound →
    costs_bound b.task.program bound T ≡ true → is_excused (happens b (event.Deliver s S)) T ≡ true
dear-delivered b s S known bound T a e = excused-delivered b S T (a.excused T (or_right (list_any (same_set T) (used_by b known)) (costs_bound b.task.program bound T) e))

among-push : (K L : List Atoms) (S : Atoms) → AllByRecursion (λ T. IsTrue (list_any (same_set T) L)) K → AllByRecursion (λ T. IsTrue (list_any (same_set T) (L ++ S ∷ []))) (K ++ S ∷ [])
among-push K L S h =
    each-push (λ T. IsTrue (list_any (same_set T) (L ++ S ∷ []))) K S
    (each_weaker (λ T. IsTrue (list_any (same_set T) L)) (λ T. IsTrue (list_any (same_set T) (L ++ S ∷ []))) (λ T e. any-push S L T ∙ or_left (list_any (same_set T) L) (same_set T S) e) K h)
    (any-push S L S ∙ or_right (list_any (same_set S) L) (same_set S S) (same_itself S))

pub agrees-delivered : (b : Board) (s : ℕ) (S : Atoms) (known : List Atoms) (bound : Option (List ℤ)) → sought b.task.goal ≡ None →
    Agrees b known bound → Agrees (happens b (event.Deliver s S)) (known ++ S ∷ []) bound
agrees-delivered b s S known bound none a =
    let p : Program = b.task.program in
    let more : List Atoms = b.answers ++ S ∷ [] in
    let shown : List Atoms = showing b.task.goal p more in
    let was : AllByRecursion (λ T. IsTrue (list_any (same_set T) b.answers)) known =
    subst (λ (L : List Atoms). AreRecorded None p known L) (sought-none b.task.goal p b.answers none) (subst (λ (k : Option Reasoning). AreRecorded k p known (showing_of b)) none a.recorded) in
    let all : AllByRecursion (λ T. IsTrue (list_any (same_set T) shown)) (known ++ S ∷ []) =
    subst (λ (L : List Atoms). AllByRecursion (λ T. IsTrue (list_any (same_set T) L)) (known ++ S ∷ [])) (sym (sought-none b.task.goal p more none)) (among-push known b.answers S was) in
    record {
      excused = λ T h. done-more p (used_by b (known ++ S ∷ [])) (used_by b shown) bound (bound_of b) T
          (used-more (sought b.task.goal) p (known ++ S ∷ []) shown (among-each (known ++ S ∷ []) shown all)) (dear-delivered b s S known bound T a) h;
      recorded = subst (λ (k : Option Reasoning). AreRecorded k p (known ++ S ∷ []) shown) (sym none) all;
      bounded = a.bounded;
    }

-- ---- where consequences are sought
-- what shows where an answer more was delivered shows all that it shows beside what is known
unshown-told : (b : Board) (r : Reasoning) (known : List Atoms) (S : Atoms) → IsSubset (unshown r b.task.program (showing_of b)) (unshown r b.task.program known) →
    IsSubset (unshown r b.task.program (showing b.task.goal b.task.program (b.answers ++ S ∷ []))) (unshown r b.task.program (known ++ S ∷ []))
unshown-told b r known S sub a h =
    let p : Program = b.task.program in
    unshown-push r p known (showing_of b) S sub a (unshown-showing r b.task.goal p b.answers S a h)

one-common : (r : Reasoning) (p : Program) (K : List Atoms) → (K ≡ [] → ⊥) → length (common_sets r p K) ≡ 1
one-common r p [] some = absurd (some refl)
one-common r p (S ∷ K) some = omega arith

recorded-told : (r : Reasoning) (p : Program) (known D : List Atoms) (S : Atoms) → IsSubset (unshown r p D) (unshown r p (known ++ S ∷ [])) →
    (D ≡ [] → ⊥) → AreRecorded (Some r) p (common_sets r p (known ++ S ∷ [])) D
recorded-told r p known D S sub some = (
  subst (λ (L : Atoms). IsSubset (unshown r p D) L) (sym (unshown-common r p (known ++ S ∷ []))) sub,
  omega (arith, ap length (common-push r p known S), one-common r p D some),
)

used-told : (r : Reasoning) (p : Program) (known D : List Atoms) (S : Atoms) → IsSubset (unshown r p D) (unshown r p (known ++ S ∷ [])) →
    (D ≡ [] → ⊥) → AreAmong (used_up (Some r) p (common_sets r p (known ++ S ∷ []))) (used_up (Some r) p D)
used-told r p known D S sub some =
    subst (λ (L : List Atoms). AreAmong L (used_up (Some r) p D)) (sym (used-common r p (known ++ S ∷ []))) (used-less r p (known ++ S ∷ []) D sub some)

pub agrees-told : (b : Board) (s : ℕ) (S : Atoms) (r : Reasoning) (known : List Atoms) (bound : Option (List ℤ)) → sought b.task.goal ≡ Some r → Agrees b known bound →
    Agrees (happens b (event.Deliver s S)) (common_sets r b.task.program (known ++ S ∷ [])) bound
agrees-told b s S r known bound is a =
    let p : Program = b.task.program in
    let was : AreRecorded (Some r) p known (showing_of b) = subst (λ (k : Option Reasoning). AreRecorded k p known (showing_of b)) is a.recorded in
    let more : List Atoms = common_sets r p (known ++ S ∷ []) in
    let shown : List Atoms = showing b.task.goal p (b.answers ++ S ∷ []) in
    let some : shown ≡ [] → ⊥ = λ e. pushed-some b.answers S (showing-empty b.task.goal p (b.answers ++ S ∷ []) e) in
    let less : IsSubset (unshown r p shown) (unshown r p (known ++ S ∷ [])) = unshown-told b r known S was.0 in
    let among : AreAmong (used_by b more) (used_by b shown) = subst (λ (k : Option Reasoning). AreAmong (used_up k p more) (used_up k p shown)) (sym is) (used-told r p known shown S less some) in
    record {
      excused = λ T h. done-more p (used_by b more) (used_by b shown) bound (bound_of b) T among (dear-delivered b s S known bound T a) h;
      recorded = subst (λ (k : Option Reasoning). AreRecorded k p more shown) (sym is) (recorded-told r p known shown S less some);
      bounded = a.bounded;
    }

-- what all that shows has in common is taken over
pub agrees-adopted : (b : Board) (r : Reasoning) (known : List Atoms) (bound : Option (List ℤ)) → sought b.task.goal ≡ Some r → Agrees b known bound →
    Agrees b (common_sets r b.task.program (showing_of b)) bound
agrees-adopted b r known bound is a =
    let p : Program = b.task.program in
    let all : List Atoms = common_sets r p (showing_of b) in
    let among : AreAmong (used_by b all) (used b) =
    subst (λ (k : Option Reasoning). AreAmong (used_up k p all) (used_up k p (showing_of b))) (sym is)
    (subst (λ (L : List Atoms). AreAmong (used_up (Some r) p all) L) (used-common r p (showing_of b)) (λ S h. h)) in
    record {
      excused = λ T h. done-more p (used_by b all) (used b) bound (bound_of b) T among (λ e. a.excused T (or_right (list_any (same_set T) (used_by b known)) (costs_bound p bound T) e)) h;
      recorded = subst (λ (k : Option Reasoning). AreRecorded k p all (showing_of b)) (sym is)
          (subst (IsSubset (unshown r p (showing_of b))) (sym (unshown-common r p (showing_of b))) (λ a h. h), omega arith);
      bounded = a.bounded;
    }
