-- Whom the lines of a proof may exclude: who was found, and who costs too much by what was found.
use Rattle.std.proofs.Common.{◌≡◌, ℕ, zero, suc, Bool, true, false, not, ◌||◌, List, [], ◌∷◌, ◌++◌, map, Ordering, eqb, refl, sym, ap, ◌∙◌, subst, Some, None, inl, inr}
use Rattle.std.specs.Prelude.{ℤ, Option}
use Rattle.std.specs.declared.cmp.Ordering.TheVariants.{Less, Equal, Greater}
use Rattle.std.specs.Ordering.{int_cmp, is_lt}
use Rattle.std.specs.Cmp.Lexicographic.{slice_cmp}
use Rattle.std.specs.List.{list_all, list_any, AllByRecursion}
use Rattle.std.proofs.lemmas.Bool.{false≢true, and_parts, and_from, or_cases, or_left, or_right, eqb-true}
use Rattle.std.proofs.lemmas.List.Folds.{list_any-append}
use Rattle.asp_model.specs.declared.program.Program.{Program}
use Rattle.asp_model.specs.Sets.{Atoms, IsAscending, IsSubset, has, same_set}
use Rattle.asp_model.specs.Holding.{all_hold}
use Rattle.asp_model.specs.Models.{atoms_of, is_stable}
use Rattle.asp_model.specs.Costs.{cost, betters}
use Rattle.asp_model.specs.Sound.{IsSound}
use Rattle.asp_model.specs.Orders.{costs_total}
use Rattle.asp_model.proofs.SetLaws.{same_from_has}
use Rattle.asp_model.proofs.ListedLaws.{same_set-itself}
use Rattle.asp_model.proofs.ModelLaws.{stable-subset}
use Rattle.asp_model.proofs.MemberLaws.{each-append, each_weaker, each-map, HasAll-itself}
use Rattle.asp_vars.specs.Literals.{Literal, is_true, hits, has_literal}
use Rattle.asp_vars.specs.Numbering.{literal_of, values, var_of_atom}
use Rattle.asp_vars.specs.Completion.{completion}
use Rattle.asp_vars.specs.Entailment.{HitsOnly, Entailed, is_done, costs, costs_bound}
use Rattle.asp_vars.specs.Unfounded.{assigned}
use Rattle.asp_vars.proofs.AssumptionLaws.{assumptions-stand}
use Rattle.asp_vars.proofs.LiteralLaws.{hits-has}
use Rattle.asp_vars.proofs.CompletionLaws.{completion_entailed, hits-literals, atom-true, atom-false}
use Rattle.asp_proof.specs.Changes.{last_from}
use Rattle.asp_proof.specs.declared.proof.Line.{Line}
use Rattle.asp_proof.specs.declared.proof.Line.TheVariants as line
use Rattle.asp_proof.specs.declared.proof.Sought.{Sought}
use Rattle.asp_proof.specs.declared.proof.Sought.TheVariants.{All, Best, Optima}
use Rattle.asp_checker.specs.Propagation.{reaches_bound}
use Rattle.asp_checker.specs.Lines.{AreConfirmed, IsConfirmed, MayBeFound, Gathered, nogood_of_answer, literals_of, avoided, bound_by, first_gathered, known_of, found_by, with_nogood, with_found, with_line, gathered_after}
use Rattle.asp_checker.specs.Right.{closes, found_of}
use Rattle.asp_checker.proofs.ConflictLaws.{IsKnownFor, conflict-excused, optimistic-assigned}
use Rattle.asp_checker.proofs.LoopLaws.{line-entailed}
use Rattle.asp_checker.proofs.StockLaws.{put_each}

-- It was found, where those are avoided, or it costs too much by what was found.
abbrev pub excused_by : Program → Sought → List Atoms → Atoms → Bool
excused_by p o found T = is_done p (avoided o found) (bound_by p o found) T

-- ---- one set more
-- the last of sets, one of which was added
pub last_push : (S : Atoms) (found : List Atoms) (U : Atoms) → last_from S (found ++ U ∷ []) ≡ U
last_push S [] U = refl
last_push S (T ∷ found) U = last_push T found U

less-than : (o : Ordering) → is_lt o ≡ true → o ≡ Less
less-than Less e = refl
less-than Equal e = absurd (false≢true e)
less-than Greater e = absurd (false≢true e)

pub betters_then : (c d e : List ℤ) → betters c d ≡ true → betters d e ≡ true → betters c e ≡ true
betters_then c d e f g = ap is_lt (costs_total.trans c d e (less-than (slice_cmp int_cmp c d) f) (less-than (slice_cmp int_cmp d e) g))

-- what costs too much costs too much where less is asked for
dearer_still : (x y : Bool) → (x ≡ true → y ≡ true) → not y ≡ true → not x ≡ true
dearer_still true true h e = e
dearer_still true false h e = absurd (false≢true (h refl))
dearer_still false y h e = refl

one-more : (T : Atoms) (found : List Atoms) (S : Atoms) → list_any (same_set T) found ≡ true → list_any (same_set T) (found ++ S ∷ []) ≡ true
one-more T found S e = list_any-append (same_set T) found (S ∷ []) ∙ or_left (list_any (same_set T) found) (list_any (same_set T) (S ∷ [])) e

pub found-more : (p : Program) (o : Sought) (found : List Atoms) (S T : Atoms) → MayBeFound p o found S → excused_by p o found T ≡ true → excused_by p o (found ++ S ∷ []) T ≡ true
found-more p All found S T may e = elim (or_cases (list_any (same_set T) found) false e) [
  | inl h ↦ or_left (list_any (same_set T) (found ++ S ∷ [])) false (one-more T found S h)
  | inr h ↦ absurd (false≢true h)
]
found-more p Best [] S T may e = absurd (false≢true e)
found-more p Best (U ∷ found) S T may e =
    let c = cost p (last_from U found) in
    ap (λ (V : Atoms). costs p (cost p V) T) (last_push U found S)
    ∙ dearer_still (betters (cost p T) (cost p S)) (betters (cost p T) c) (λ less. betters_then (cost p T) (cost p S) c less may.cheaper) e
found-more p Optima [] S T may e = absurd (false≢true e)
found-more p Optima (U ∷ found) S T may e =
    let b = bound_by p Optima (U ∷ found) in
    elim (or_cases (list_any (same_set T) (U ∷ found)) (costs_bound p b T) e) [
      | inl h ↦ or_left (list_any (same_set T) ((U ∷ found) ++ S ∷ [])) (costs_bound p b T) (one-more T (U ∷ found) S h)
      | inr h ↦ or_right (list_any (same_set T) ((U ∷ found) ++ S ∷ [])) (costs_bound p b T) h
    ]

entailed-excused : (p : Program) (excuse : Atoms → Bool) (n : List Literal) → Entailed p n → HitsOnly p excuse n
entailed-excused p excuse n h = record { excused = λ S stable hit. absurd (false≢true (h.excused S stable hit)) }

-- ---- the nogood of a set
answer-hits : (p : Program) (S : Atoms) → all_hold S p.assumptions ≡ true → hits (values p S) (map (literal_of p) p.assumptions) ≡ true
answer-hits p S h = hits-literals p S p.assumptions (assumptions-stand p) ∙ h

completion-excused : (p : Program) (excuse : Atoms → Bool) → IsSound p → AllByRecursion (HitsOnly p excuse) (completion p)
completion-excused p excuse sound = each_weaker (Entailed p) (HitsOnly p excuse) (entailed-excused p excuse) (completion p) (completion_entailed p sound)

pub undone : (b : Bool) → not b ≡ true → b ≡ false
undone true e = absurd (false≢true e)
undone false e = refl

-- a stable set that hits the nogood of an answer is that answer
agree : (p : Program) (S T : Atoms) (L : List ℕ) → AllByRecursion (λ a. has (atoms_of p) a ≡ true) L →
    hits (values p T) (map (λ a. record { var = var_of_atom p a; truth = has S a }) L) ≡ true → AllByRecursion (λ a. has T a ≡ has S a) L
agree p S T [] stand hit = tt
agree p S T (a ∷ L) stand hit =
    let parts = and_parts (is_true (values p T) (record { var = var_of_atom p a; truth = has S a })) (hits (values p T) (map (λ a. record { var = var_of_atom p a; truth = has S a }) L)) hit in
    (one (has S a) refl parts.0, agree p S T L stand.1 parts.1)
  where
    one : (b : Bool) → b ≡ has S a → is_true (values p T) (record { var = var_of_atom p a; truth = has S a }) ≡ true → has T a ≡ has S a
    one true q e =
        let P : Bool → Type 0 = λ t. is_true (values p T) (record { var = var_of_atom p a; truth = t }) ≡ true in
        sym (atom-true p T a stand.0) ∙ subst P (sym q) e ∙ q
    one false q e =
        let P : Bool → Type 0 = λ t. is_true (values p T) (record { var = var_of_atom p a; truth = t }) ≡ true in
        undone (has T a) (sym (atom-false p T a stand.0) ∙ subst P (sym q) e) ∙ q

at_has : (P : ℕ → Type 0) (L : List ℕ) (a : ℕ) → AllByRecursion P L → has L a ≡ true → P a
at_has P [] a h e = absurd (false≢true e)
at_has P (b ∷ L) a h e = cases (eqb b a) refl (at_has P L a h.1)
  where
    cases : (t : Bool) → t ≡ eqb b a → (has L a ≡ true → P a) → P a
    cases true q later = subst P (eqb-true b a (sym q)) h.0
    cases false q later = later (ap (λ t. t || has L a) q ∙ e)

all-each : (q : ℕ → Bool) (xs : List ℕ) → list_all q xs ≡ true → AllByRecursion (λ x. q x ≡ true) xs
all-each q [] e = tt
all-each q (x ∷ xs) e = let parts = and_parts (q x) (list_all q xs) e in (parts.0, all-each q xs parts.1)

-- It is of the program's atoms, and ascends.
abbrev IsSetOf : Program → Atoms → Type 0
IsSetOf p S = IsAscending S × (list_all (has (atoms_of p)) S ≡ true)

same-found : (p : Program) (S T : Atoms) → IsSetOf p S → is_stable p T ≡ true → hits (values p T) (nogood_of_answer p S) ≡ true → T ≡ S
same-found p S T s t hit =
    let both = agree p S T (atoms_of p) (HasAll-itself (atoms_of p)) hit in
    let of_T = stable-subset p T t in
    same_from_has T S of_T.0 s.0 (λ a. cases a both subset of_T.1 (has (atoms_of p) a) refl)
  where
    subset : IsSubset S (atoms_of p)
    subset a e = at_has (λ b. has (atoms_of p) b ≡ true) S a (all-each (has (atoms_of p)) S s.1) e

    lacks : (U : Atoms) (a : ℕ) → IsSubset U (atoms_of p) → has (atoms_of p) a ≡ false → (b : Bool) → b ≡ has U a → has U a ≡ false
    lacks U a sub e false q = sym q
    lacks U a sub e true q = absurd (false≢true (sym e ∙ sub a (sym q)))

    cases : (a : ℕ) → AllByRecursion (λ a. has T a ≡ has S a) (atoms_of p) → IsSubset S (atoms_of p) → IsSubset T (atoms_of p) → (b : Bool) → b ≡ has (atoms_of p) a → has T a ≡ has S a
    cases a both sub_S sub_T true q = at_has (λ a. has T a ≡ has S a) (atoms_of p) a both (sym q)
    cases a both sub_S sub_T false q = lacks T a sub_T (sym q) (has T a) refl ∙ sym (lacks S a sub_S (sym q) (has S a) refl)

-- the last of sets is one of them
last-same : (T : Atoms) (found : List Atoms) → list_any (same_set T) (found ++ T ∷ []) ≡ true
last-same T found =
    list_any-append (same_set T) found (T ∷ [])
    ∙ or_right (list_any (same_set T) found) (list_any (same_set T) (T ∷ [])) (or_left (same_set T T) false (same_set-itself T))

-- ---- what is gathered
-- Each nogood hits excused models alone, and the sets found are of the program's atoms.
pub record IsGatheredFor (p : Program) (o : Sought) (g : Gathered) : Type 0 where
  pub sets : AllByRecursion (IsSetOf p) g.found
  pub avoided : AllByRecursion (λ S. HitsOnly p (excused_by p o g.found) (nogood_of_answer p S)) (avoided o g.found)
  pub kept : AllByRecursion (HitsOnly p (excused_by p o g.found)) g.kept
  pub placed : AllByRecursion (HitsOnly p (excused_by p o g.found)) g.placed

-- what costs too much is excused
bound-reached : (p : Program) (o : Option (List ℤ)) (T : Atoms) → reaches_bound p o (assigned p T) ≡ costs_bound p o T
bound-reached p None T = refl
bound-reached p (Some c) T = ap (λ d. not (betters d c)) (optimistic-assigned p T)

bound-excused : (p : Program) (o : Sought) (found : List Atoms) (S : Atoms) → reaches_bound p (bound_by p o found) (assigned p S) ≡ true → excused_by p o found S ≡ true
bound-excused p o found S e = or_right (list_any (same_set S) (avoided o found)) (costs_bound p (bound_by p o found) S) (sym (bound-reached p (bound_by p o found) S) ∙ e)

pub known-for : (p : Program) (o : Sought) (g : Gathered) → IsGatheredFor p o g → IsKnownFor p (excused_by p o g.found) (known_of p o g)
known-for p o g h =
    let E = excused_by p o g.found in
    let nogoods = map (nogood_of_answer p) (avoided o g.found) in
    record {
      nogoods = each-append (HitsOnly p E) g.placed (nogoods ++ g.kept) h.placed
          (each-append (HitsOnly p E) nogoods g.kept (each-map (HitsOnly p E) (nogood_of_answer p) (avoided o g.found) h.avoided) h.kept);
      bound = λ S stable reached. bound-excused p o g.found S reached;
    }

excused-more : (p : Program) (e f : Atoms → Bool) (n : List Literal) → ((T : Atoms) → e T ≡ true → f T ≡ true) → HitsOnly p e n → HitsOnly p f n
excused-more p e f n more h = record { excused = λ T stable hit. more T (h.excused T stable hit) }

-- ---- one line more
with-nogood : (p : Program) (o : Sought) (g : Gathered) (at : ℕ) (n : List Literal) → IsGatheredFor p o g → HitsOnly p (excused_by p o g.found) n → IsGatheredFor p o (with_nogood g at n)
with-nogood p o g zero n h k = record { sets = h.sets; avoided = h.avoided; kept = each-append (HitsOnly p (excused_by p o g.found)) g.kept (n ∷ []) h.kept (k, tt); placed = h.placed }
with-nogood p o g (suc at) n h k = record { sets = h.sets; avoided = h.avoided; kept = h.kept; placed = put_each (HitsOnly p (excused_by p o g.found)) g.placed at n h.placed k }

found-hits : (p : Program) (found : List Atoms) (b : Option (List ℤ)) (S : Atoms) → IsSetOf p S → HitsOnly p (is_done p (found ++ S ∷ []) b) (nogood_of_answer p S)
found-hits p found b S of = record {
  excused = λ T stable hit.
      let same : T ≡ S = same-found p S T of stable hit in
      or_left (list_any (same_set T) (found ++ S ∷ [])) (costs_bound p b T) (ap (λ (U : Atoms). list_any (same_set U) (found ++ S ∷ [])) same ∙ last-same S found);
}

avoided-more : (p : Program) (o : Sought) (found : List Atoms) (S : Atoms) → IsSetOf p S → ((T : Atoms) → excused_by p o found T ≡ true → excused_by p o (found ++ S ∷ []) T ≡ true) →
    AllByRecursion (λ U. HitsOnly p (excused_by p o found) (nogood_of_answer p U)) (avoided o found)
    → AllByRecursion (λ U. HitsOnly p (excused_by p o (found ++ S ∷ [])) (nogood_of_answer p U)) (avoided o (found ++ S ∷ []))
avoided-more p All found S of more h =
    each-append (λ U. HitsOnly p (excused_by p All (found ++ S ∷ [])) (nogood_of_answer p U)) found (S ∷ [])
    (each_weaker (λ U. HitsOnly p (excused_by p All found) (nogood_of_answer p U)) (λ U. HitsOnly p (excused_by p All (found ++ S ∷ [])) (nogood_of_answer p U))
    (λ U k. excused-more p (excused_by p All found) (excused_by p All (found ++ S ∷ [])) (nogood_of_answer p U) more k) found h)
    (found-hits p found (bound_by p All (found ++ S ∷ [])) S of, tt)
avoided-more p Best found S of more h = tt
avoided-more p Optima found S of more h =
    each-append (λ U. HitsOnly p (excused_by p Optima (found ++ S ∷ [])) (nogood_of_answer p U)) found (S ∷ [])
    (each_weaker (λ U. HitsOnly p (excused_by p Optima found) (nogood_of_answer p U)) (λ U. HitsOnly p (excused_by p Optima (found ++ S ∷ [])) (nogood_of_answer p U))
    (λ U k. excused-more p (excused_by p Optima found) (excused_by p Optima (found ++ S ∷ [])) (nogood_of_answer p U) more k) found h)
    (found-hits p found (bound_by p Optima (found ++ S ∷ [])) S of, tt)

with-found : (p : Program) (o : Sought) (g : Gathered) (S : Atoms) → IsGatheredFor p o g → MayBeFound p o g.found S → IsGatheredFor p o (with_found g S)
with-found p o g S h may =
    let e = excused_by p o g.found in
    let f = excused_by p o (g.found ++ S ∷ []) in
    let more : (T : Atoms) → e T ≡ true → f T ≡ true = λ T k. found-more p o g.found S T may k in
    record {
      sets = each-append (IsSetOf p) g.found (S ∷ []) h.sets ((may.ascending, may.atoms), tt);
      avoided = avoided-more p o g.found S (may.ascending, may.atoms) more h.avoided;
      kept = each_weaker (HitsOnly p e) (HitsOnly p f) (λ n k. excused-more p e f n more k) g.kept h.kept;
      placed = each_weaker (HitsOnly p e) (HitsOnly p f) (λ n k. excused-more p e f n more k) g.placed h.placed;
    }

-- what the nogood of a line hits
loop-hits : (p : Program) (excuse : Atoms → Bool) (set : Atoms) (n : List ℤ) → IsSound p → IsConfirmed p All (first_gathered p) (line.Loop 0 set n) → HitsOnly p excuse (literals_of n)
loop-hits p excuse set n sound h = entailed-excused p excuse (literals_of n) (line-entailed p set (literals_of n) sound h.1)

pub line-gathered : (p : Program) (o : Sought) (g : Gathered) (l : Line) → IsSound p → IsGatheredFor p o g → IsConfirmed p o g l → IsGatheredFor p o (with_line g l)
line-gathered p o g (line.Loop place set n) sound h c = with-nogood p o g place (literals_of n) h (loop-hits p (excused_by p o g.found) set n sound c)
line-gathered p o g (line.Learned place n names) sound h c =
    with-nogood p o g place (literals_of n) h (conflict-excused p (excused_by p o g.found) (known_of p o g) (literals_of n) (known-for p o g h) c.0 c.1)
line-gathered p o g (line.Cube n) sound h c =
    with-nogood p o g 0 (literals_of n) h (conflict-excused p (excused_by p o g.found) (known_of p o g) (literals_of n) (known-for p o g h) c.0 c.1)
line-gathered p o g (line.Found change) sound h c = with-found p o g (found_by g change) h c

-- what is excused stays so
line-more : (p : Program) (o : Sought) (g : Gathered) (l : Line) (T : Atoms) → IsConfirmed p o g l → excused_by p o g.found T ≡ true → excused_by p o (with_line g l).found T ≡ true
line-more p o g (line.Loop zero set n) T c e = e
line-more p o g (line.Loop (suc at) set n) T c e = e
line-more p o g (line.Learned zero n names) T c e = e
line-more p o g (line.Learned (suc at) n names) T c e = e
line-more p o g (line.Cube n) T c e = e
line-more p o g (line.Found change) T c e = found-more p o g.found (found_by g change) T c e

lines-more : (p : Program) (o : Sought) (g : Gathered) (lines : List Line) (T : Atoms) → AreConfirmed p o g lines → excused_by p o g.found T ≡ true →
    excused_by p o (gathered_after g lines).found T ≡ true
lines-more p o g [] T c e = e
lines-more p o g (l ∷ lines) T c e = lines-more p o (with_line g l) lines T c.1 (line-more p o g l T c.0 e)

-- ---- a line within the assumptions
within-hits : (v : List Bool) (q n : List Literal) → hits v q ≡ true → list_all (has_literal q) n ≡ true → hits v n ≡ true
within-hits v q [] hit e = refl
within-hits v q (l ∷ n) hit e =
    let parts = and_parts (has_literal q l) (list_all (has_literal q) n) e in
    and_from (is_true v l) (hits v n) (hits-has v q l hit parts.0) (within-hits v q n hit parts.1)

cube-hits : (p : Program) (o : Sought) (g : Gathered) (n : List ℤ) (S : Atoms) → IsGatheredFor p o g → IsConfirmed p o g (line.Cube n) → is_stable p S ≡ true →
    hits (values p S) (map (literal_of p) p.assumptions) ≡ true → closes p (line.Cube n) ≡ true → excused_by p o g.found S ≡ true
cube-hits p o g n S h c stable assumed e =
    let k = conflict-excused p (excused_by p o g.found) (known_of p o g) (literals_of n) (known-for p o g h) c.0 c.1 in
    k.excused S stable (within-hits (values p S) (map (literal_of p) p.assumptions) (literals_of n) assumed e)

line-closes : (p : Program) (o : Sought) (g : Gathered) (l : Line) (S : Atoms) → IsGatheredFor p o g → IsConfirmed p o g l → is_stable p S ≡ true →
    hits (values p S) (map (literal_of p) p.assumptions) ≡ true → closes p l ≡ true → excused_by p o g.found S ≡ true
line-closes p o g (line.Loop place set n) S h c stable assumed e = absurd (false≢true e)
line-closes p o g (line.Learned place n names) S h c stable assumed e = cube-hits p o g n S h c stable assumed e
line-closes p o g (line.Cube n) S h c stable assumed e = cube-hits p o g n S h c stable assumed e
line-closes p o g (line.Found change) S h c stable assumed e = absurd (false≢true e)

-- Each answer is excused, where a line closes.
lines-close : (p : Program) (o : Sought) (g : Gathered) (lines : List Line) → IsSound p → IsGatheredFor p o g → AreConfirmed p o g lines →
    list_any (closes p) lines ≡ true → (S : Atoms) → is_stable p S ≡ true → hits (values p S) (map (literal_of p) p.assumptions) ≡ true →
    excused_by p o (gathered_after g lines).found S ≡ true
lines-close p o g [] sound h c e S stable assumed = absurd (false≢true e)
lines-close p o g (l ∷ lines) sound h c e S stable assumed = elim (or_cases (closes p l) (list_any (closes p) lines) e) [
  | inl k ↦ lines-more p o g (l ∷ lines) S c (line-closes p o g l S h c.0 stable assumed k)
  | inr k ↦ lines-close p o (with_line g l) lines sound (line-gathered p o g l sound h c.0) c.1 k S stable assumed
]

first-for : (p : Program) (o : Sought) → IsSound p → IsGatheredFor p o (first_gathered p)
first-for p o sound = record { sets = tt; avoided = none o; kept = completion-excused p (excused_by p o []) sound; placed = tt }
  where
    none : (o : Sought) → AllByRecursion (λ S. HitsOnly p (excused_by p o []) (nogood_of_answer p S)) (avoided o [])
    none All = tt
    none Best = tt
    none Optima = tt

pub closed-excused : (p : Program) (o : Sought) (lines : List Line) → IsSound p → AreConfirmed p o (first_gathered p) lines → list_any (closes p) lines ≡ true →
    (S : Atoms) → is_stable p S ≡ true → all_hold S p.assumptions ≡ true → excused_by p o (found_of p lines) S ≡ true
closed-excused p o lines sound c e S stable hold = lines-close p o (first_gathered p) lines sound (first-for p o sound) c e S stable (answer-hits p S hold)
