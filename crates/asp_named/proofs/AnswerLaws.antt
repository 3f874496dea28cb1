-- The answers of a program whose outputs have atoms, and what they have in common, by the texts.
use Rattle.std.proofs.Common.{◌≡◌, ℕ, suc, ◌+◌, ◌<◌, ◌≤◌, Bool, true, false, cond, ◌&&◌, ◌||◌, eqb, List, [], ◌∷◌, ◌++◌, map, filter, flat_map, ℤ, pos, negsuc, refl, sym, ap, ◌∙◌, subst, arith, inl, inr, Contains}
use Rattle.std.specs.List.{AllByRecursion, AllPairs, list_any, list_all}
use Rattle.std.proofs.Math.Bool.{and-true}
use Rattle.std.proofs.lemmas.Bool.{eq-eqb, eqb-true, false≢true, ne_eqb, or_cases, or_left}
use Rattle.std.proofs.lemmas.List.Elements.{recursion_from_All}
use Rattle.std.proofs.lemmas.List.Folds.{list_all-map}
use Rattle.asp_model.specs.declared.program.Output.{Output}
use Rattle.asp_model.specs.declared.program.Program.{Program}
use Rattle.asp_model.specs.declared.program.Minimize.{Minimize}
use Rattle.asp_model.specs.declared.program.External.{External}
use Rattle.asp_model.specs.declared.results.Reasoning.{Reasoning}
use Rattle.asp_model.specs.declared.results.Reasoning.TheVariants.{Brave, Cautious}
use Rattle.asp_model.specs.Sets.{Atoms, IsAscending, IsBefore, has}
use Rattle.asp_model.specs.Holding.{all_hold, atom_of}
use Rattle.asp_model.specs.Models.{answers, atoms_of, mentions}
use Rattle.asp_model.specs.Consequences.{consequences}
use Rattle.asp_model.specs.Sound.{IsSound}
use Rattle.asp_model.specs.Texts.{shown}
use Rattle.asp_model.proofs.SetLaws.{has-set_of}
use Rattle.asp_model.proofs.MemberLaws.{HasAll, HasAll-itself, HasAll-left, HasAll-right, each-front, each_weaker, list_any-map}
use Rattle.asp_model.proofs.ListedLaws.{same_from_members}
use Rattle.asp_model.proofs.SubsetLaws.{IsRising, pairs_from_rising}
use Rattle.asp_model.proofs.ModelLaws.{answers-are, answers-rise, stable-subset}
use Rattle.asp_model.proofs.ConsequenceLaws.{atoms-ascend, has-filter}
use Rattle.asp_settle.proofs.StableLaws.{contains-map, each-contained, map-contains}
use Rattle.asp_named.specs.Named.{extended_from, first_free, greatest, has_numbers, is_plain, named_from, named_output, named_outputs, names_by}
use Rattle.asp_named.specs.Told.{is_told, told_texts}
use Rattle.asp_named.proofs.BelowLaws.{Below, all-same, atoms_at, below-from, below-has, each-back}
use Rattle.asp_named.proofs.ForceLaws.{absent-below, assumed-below, outputs-below}
use Rattle.asp_named.proofs.LimitLaws.{sound-named}
use Rattle.asp_named.proofs.SplitLaws.{IsSplit, extended-high, extended-low, low-agrees, low_part, names-high, stable-down, stable-up}

-- ---- answers
answer-below : (a : ℕ) (p : Program) → IsSplit a p → (S : Atoms) → Contains (answers p) S → Below a S
answer-below a p is S h = below-from a S (λ b e. is.under b ((stable-subset p S ((answers-are p S).0 h).0).1 b e))

rising_from_pairs : (Ss : List Atoms) → AllPairs IsBefore Ss → IsRising Ss
rising_from_pairs [] pairs = tt
rising_from_pairs (S ∷ Ss) pairs = (
  recursion_from_All (IsBefore S) Ss (λ k d lt. pairs 0 (suc k) d (omega arith) (omega arith)),
  rising_from_pairs Ss (λ i j d lt len. pairs (suc i) (suc j) d (omega arith) (omega arith)),
)

before-extended : (a : ℕ) (p : Program) (S T : Atoms) → Below a T → IsBefore S T → IsBefore (extended_from a p S) (extended_from a p T)
before-extended a p S T low h =
    let lt = below-has a T h.0 low h.1 in (
      h.0,
      extended-low a p T h.0 lt ∙ h.1,
      extended-low a p S h.0 lt ∙ h.2,
      λ b less. let lt' : b < a = omega (arith, less, lt) in extended-low a p S b lt' ∙ h.3 b less ∙ sym (extended-low a p T b lt'),
    )

each-before : (a : ℕ) (p : Program) (S : Atoms) (Ts : List Atoms) → AllByRecursion (Below a) Ts → AllByRecursion (IsBefore S) Ts →
    AllByRecursion (IsBefore (extended_from a p S)) (map (extended_from a p) Ts)
each-before a p S [] low h = tt
each-before a p S (T ∷ Ts) low h = (before-extended a p S T low.0 h.0, each-before a p S Ts low.1 h.1)

rising-extended : (a : ℕ) (p : Program) (Ss : List Atoms) → AllByRecursion (Below a) Ss → IsRising Ss → IsRising (map (extended_from a p) Ss)
rising-extended a p [] low h = tt
rising-extended a p (S ∷ Ss) low h = (each-before a p S Ss low.1 h.0, rising-extended a p Ss low.1 h.1)

pub answers-named : (a : ℕ) (p : Program) → IsSplit a p → answers (named_from a p) ≡ map (extended_from a p) (answers p)
answers-named a p is =
    same_from_members (answers (named_from a p)) (map (extended_from a p) (answers p)) (answers-rise (named_from a p))
    (pairs_from_rising (map (extended_from a p) (answers p))
    (rising-extended a p (answers p) (each-contained (Below a) (answers p) (answer-below a p is))
    (rising_from_pairs (answers p) (answers-rise p))))
    (λ X. (there X, back X))
  where
    there : (X : Atoms) → Contains (answers (named_from a p)) X → Contains (map (extended_from a p) (answers p)) X
    there X h =
        let parts = (answers-are (named_from a p) X).0 h in
        let down = stable-down a p is X parts.0 in
        let S = low_part a X in
        let assumed : all_hold S p.assumptions ≡ true = sym (all-same a X S (low-agrees a X) p.assumptions (assumed-below a p is.under)) ∙ parts.1 in
        subst (Contains (map (extended_from a p) (answers p))) (sym down.1) (contains-map (extended_from a p) (answers p) S ((answers-are p S).1 (down.0, assumed)))

    back : (X : Atoms) → Contains (map (extended_from a p) (answers p)) X → Contains (answers (named_from a p)) X
    back X h =
        let m = map-contains (extended_from a p) (answers p) X h in
        let parts = (answers-are p m.0).0 m.1 in
        subst (Contains (answers (named_from a p))) (sym m.2)
        ((answers-are (named_from a p) (extended_from a p m.0)).1 (
          stable-up a p is m.0 parts.0,
          all-same a (extended_from a p m.0) m.0 (extended-low a p m.0) p.assumptions
              (assumed-below a p is.under) ∙ parts.1,
        ))

-- ---- what some sets pass, or all
abbrev passes : Reasoning → List Atoms → (Atoms → Bool) → Bool
passes Brave K test = list_any test K
passes Cautious K test = list_all test K

passes-same : (w : Reasoning) (K : List Atoms) (f g : Atoms → Bool) → AllByRecursion (λ S. f S ≡ g S) K → passes w K f ≡ passes w K g
passes-same Brave [] f g h = refl
passes-same Brave (S ∷ K) f g h = ap (λ (b : Bool). b || list_any f K) h.0 ∙ ap (λ (b : Bool). g S || b) (passes-same Brave K f g h.1)
passes-same Cautious [] f g h = refl
passes-same Cautious (S ∷ K) f g h = ap (λ (b : Bool). b && list_all f K) h.0 ∙ ap (λ (b : Bool). g S && b) (passes-same Cautious K f g h.1)

passes-map : (w : Reasoning) (test : Atoms → Bool) (f : Atoms → Atoms) (K : List Atoms) → passes w (map f K) test ≡ passes w K (λ S. test (f S))
passes-map Brave test f K = list_any-map test f K
passes-map Cautious test f K = list_all-map test f K

passes-always : (w : Reasoning) (K : List Atoms) → ¬ (K ≡ []) → true ≡ passes w K (λ S. true)
passes-always Brave [] some = absurd (some refl)
passes-always Brave (S ∷ K) some = refl
passes-always Cautious K some = each K
  where
    each : (K : List Atoms) → true ≡ list_all (λ (S : Atoms). true) K
    each [] = refl
    each (S ∷ K) = each K

has-common : (w : Reasoning) (q : Program) (K : List Atoms) (c : ℕ) → has (atoms_of q) c ≡ true → has (consequences w q K) c ≡ passes w K (λ S. has S c)
has-common Brave q K c e = has-filter (λ b. list_any (λ S. has S b) K) (atoms_of q) c ∙ ap (λ (x : Bool). list_any (λ S. has S c) K && x) e ∙ and-true (list_any (λ S. has S c) K)
has-common Cautious q K c e = has-filter (λ b. list_all (λ S. has S b) K) (atoms_of q) c ∙ ap (λ (x : Bool). list_all (λ S. has S c) K && x) e ∙ and-true (list_all (λ S. has S c) K)

abbrev common : Reasoning → ℕ → Program → Atoms
common w a p = consequences w (named_from a p) (answers (named_from a p))

-- an atom that each answer has exactly where it passes the test
told-atom : (w : Reasoning) (a : ℕ) (p : Program) → IsSplit a p → (c : ℕ) (test : Atoms → Bool) → has (atoms_of (named_from a p)) c ≡ true →
    AllByRecursion (λ S. has (extended_from a p S) c ≡ test S) (answers p)
    → all_hold (common w a p) (pos c ∷ []) ≡ passes w (answers p) test
told-atom w a p is c test standing h =
    and-true (has (common w a p) c)
    ∙ has-common w (named_from a p) (answers (named_from a p)) c standing
    ∙ ap (λ (K : List Atoms). passes w K (λ S. has S c)) (answers-named a p is)
    ∙ passes-map w (λ S. has S c) (extended_from a p) (answers p)
    ∙ passes-same w (answers p) (λ S. has (extended_from a p S) c) test h

-- ---- one output
abbrev named_condition : ℕ → List ℤ → List ℤ
named_condition n ls = cond (is_plain ls) ls (pos n ∷ [])

told-condition : (w : Reasoning) (a : ℕ) (p : Program) → IsSplit a p → ¬ (answers p ≡ []) → (n : ℕ) (ls : List ℤ) → Below a (map atom_of ls) →
    HasAll (atoms_of (named_from a p)) (map atom_of (named_condition n ls))
    → (is_plain ls ≡ false → AllByRecursion (λ S. has (extended_from a p S) n ≡ all_hold S ls) (answers p)) → all_hold (common w a p) (named_condition n ls) ≡ passes w (answers p) (λ S. all_hold S ls)
told-condition w a p is some n [] low standing h = passes-always w (answers p) some
told-condition w a p is some n (pos c ∷ []) low standing h =
    told-atom w a p is c (λ S. all_hold S (pos c ∷ [])) standing.0
    (each_weaker (Below a) (λ S. has (extended_from a p S) c ≡ all_hold S (pos c ∷ []))
    (λ S under. extended-low a p S c low.0 ∙ sym (and-true (has S c))) (answers p)
    (each-contained (Below a) (answers p) (answer-below a p is)))
told-condition w a p is some n (negsuc c ∷ []) low standing h = told-atom w a p is n (λ S. all_hold S (negsuc c ∷ [])) standing.0 (h refl)
told-condition w a p is some n (l ∷ m ∷ ls) low standing h = told-atom w a p is n (λ S. all_hold S (l ∷ m ∷ ls)) standing.0 (h refl)

condition-of : (n : ℕ) (o : Output) → (named_output n o).condition ≡ named_condition n o.condition
condition-of n o = by (is_plain o.condition)
  where
    by : (c : Bool) → (cond c o (record { text = o.text; condition = pos n ∷ [] })).condition ≡ cond c o.condition (pos n ∷ [])
    by true = refl
    by false = refl

text-of : (n : ℕ) (o : Output) → (named_output n o).text ≡ o.text
text-of n o = by (is_plain o.condition)
  where
    by : (c : Bool) → (cond c o (record { text = o.text; condition = pos n ∷ [] })).text ≡ o.text
    by true = refl
    by false = refl

told-by : (w : Reasoning) (K : List Atoms) (o : Output) → is_told w K o ≡ passes w K (λ S. all_hold S o.condition)
told-by Brave K o = refl
told-by Cautious K o = refl

-- ---- the outputs from one on, of which the first has the number n
own-first : (n : ℕ) (t : Bool) (rest : List ℕ) → AllByRecursion (λ b. n + 1 ≤ b) rest → has (cond t (n ∷ []) [] ++ rest) n ≡ t
own-first n true rest h = or_left (eqb n n) (has rest n) (eq-eqb n n refl)
own-first n false rest h = absent-below (n + 1) rest n h (omega arith)

not-first : (n b : ℕ) (c t : Bool) (rest : List ℕ) → n + 1 ≤ b → has (cond c [] (cond t (n ∷ []) []) ++ rest) b ≡ has rest b
not-first n b true t rest le = refl
not-first n b false true rest le = ap (λ (x : Bool). x || has rest b) (ne_eqb n b (λ same. let no : ⊥ = omega (arith, same, le) in no))
not-first n b false false rest le = refl

abbrev HasNames : ℕ → Program → ℕ → List Output → Atoms → Type 0
HasNames a p n os S = (b : ℕ) → n ≤ b → has (extended_from a p S) b ≡ has (names_by n os (all_hold S)) b

own-name : (a : ℕ) (p : Program) (n : ℕ) (o : Output) (os : List Output) (S : Atoms) → is_plain o.condition ≡ false → HasNames a p n (o ∷ os) S → has (extended_from a p S) n ≡ all_hold S o.condition
own-name a p n o os S plain h =
    h n (omega arith)
    ∙ ap (λ (c : Bool). has (cond c [] (cond (all_hold S o.condition) (n ∷ []) []) ++ names_by (n + 1) os (all_hold S)) n) plain
    ∙ own-first n (all_hold S o.condition) (names_by (n + 1) os (all_hold S)) (names-high (n + 1) os (all_hold S))

later-names : (a : ℕ) (p : Program) (n : ℕ) (o : Output) (os : List Output) (S : Atoms) → HasNames a p n (o ∷ os) S → HasNames a p (n + 1) os S
later-names a p n o os S h = λ b le. h b (omega (arith, le)) ∙ not-first n b (is_plain o.condition) (all_hold S o.condition) (names_by (n + 1) os (all_hold S)) le

pick : (c : Bool) (x y : Output) (xs ys : List Output) → x.text ≡ y.text → map (λ (o : Output). o.text) xs ≡ map (λ (o : Output). o.text) ys →
    map (λ (o : Output). o.text) (cond c (x ∷ xs) xs) ≡ map (λ (o : Output). o.text) (cond c (y ∷ ys) ys)
pick true x y xs ys e h = ap (λ (t : List ℕ). t ∷ map (λ (o : Output). o.text) xs) e ∙ ap (λ (ts : List (List ℕ)). y.text ∷ ts) h
pick false x y xs ys e h = h

told-outputs : (w : Reasoning) (a : ℕ) (p : Program) → IsSplit a p → ¬ (answers p ≡ []) → (n : ℕ) (os : List Output) → AllByRecursion (λ (o : Output). Below a (map atom_of o.condition)) os
    → HasAll (atoms_of (named_from a p)) (flat_map (λ (o : Output). map atom_of o.condition) (named_outputs n os)) → AllByRecursion (HasNames a p n os) (answers p)
    → map (λ (o : Output). o.text) (filter (λ (o : Output). all_hold (common w a p) o.condition) (named_outputs n os)) ≡ map (λ (o : Output). o.text) (filter (is_told w (answers p)) os)
told-outputs w a p is some n [] low standing h = refl
told-outputs w a p is some n (o ∷ os) low standing h =
    let Q = atoms_of (named_from a p) in
    let here : HasAll Q (map atom_of (named_output n o).condition) =
    each-front (λ b. has Q b ≡ true) (map atom_of (named_output n o).condition)
    (flat_map (λ (x : Output). map atom_of x.condition) (named_outputs (n + 1) os)) standing in
    let rest : HasAll Q (flat_map (λ (x : Output). map atom_of x.condition) (named_outputs (n + 1) os)) =
    each-back (λ b. has Q b ≡ true) (map atom_of (named_output n o).condition)
    (flat_map (λ (x : Output). map atom_of x.condition) (named_outputs (n + 1) os)) standing in
    let same : all_hold (common w a p) (named_output n o).condition ≡ is_told w (answers p) o =
    ap (all_hold (common w a p)) (condition-of n o)
    ∙ told-condition w a p is some n o.condition low.0 (subst (λ (ls : List ℤ). HasAll Q (map atom_of ls)) (condition-of n o) here)
    (λ plain. each_weaker (HasNames a p n (o ∷ os)) (λ S. has (extended_from a p S) n ≡ all_hold S o.condition)
    (λ S hs. own-name a p n o os S plain hs) (answers p) h)
    ∙ sym (told-by w (answers p) o) in
    let kept : List Output = filter (λ (x : Output). all_hold (common w a p) x.condition) (named_outputs (n + 1) os) in
    ap (λ (c : Bool). map (λ (x : Output). x.text) (cond c (named_output n o ∷ kept) kept)) same
    ∙ pick (is_told w (answers p) o) (named_output n o) o kept (filter (is_told w (answers p)) os) (text-of n o)
    (told-outputs w a p is some (n + 1) os low.1 rest (each_weaker (HasNames a p n (o ∷ os)) (HasNames a p (n + 1) os) (λ S hs. later-names a p n o os S hs) (answers p) h))

outputs-stand : (q : Program) → HasAll (atoms_of q) (flat_map (λ (o : Output). map atom_of o.condition) q.outputs)
outputs-stand q =
    let A = flat_map atoms_at q.rules in
    let B = flat_map (λ (m : Minimize). map (λ item. atom_of item.0) m.items) q.minimize in
    let C = flat_map (λ (o : Output). map atom_of o.condition) q.outputs in
    let D = map (λ (e : External). e.atom) q.externals in
    let E = map atom_of q.assumptions in
    each_weaker (λ b. has (mentions q) b ≡ true) (λ b. has (atoms_of q) b ≡ true) (λ b e. has-set_of (mentions q) b ∙ e) C
    (HasAll-left (A ++ B ++ C ++ D) E C (HasAll-left (A ++ B ++ C) D C (HasAll-right (A ++ B) C C (HasAll-itself C))))

-- The texts that consequences of the program with atoms for its outputs show are those of the outputs that some, or every, answer shows.
pub told-named : (w : Reasoning) (a : ℕ) (p : Program) → IsSplit a p → ¬ (answers p ≡ []) → shown (named_from a p) (common w a p) ≡ told_texts w p
told-named w a p is some =
    told-outputs w a p is some a p.outputs (outputs-below a p is.under) (outputs-stand (named_from a p))
    (each_weaker (Below a) (HasNames a p a p.outputs) (λ S low b le. extended-high a p S low b le) (answers p)
    (each-contained (Below a) (answers p) (answer-below a p is)))

-- ---- with the first number that is free
greatest-above : (S : Atoms) → IsAscending S → (b : ℕ) → has S b ≡ true → b ≤ greatest S
greatest-above [] up b e = absurd (false≢true e)
greatest-above (x ∷ []) up b e = elim (or_cases (eqb x b) false e) [
  | inl same ↦ let is : x ≡ b = eqb-true x b same in omega (arith, is)
  | inr none ↦ absurd (false≢true none)
]
greatest-above (x ∷ y ∷ S) up b e = elim (or_cases (eqb x b) (has (y ∷ S) b) e) [
  | inl same ↦ let is : x ≡ b = eqb-true x b same in let lt : x < y = up.0.0 in let le = greatest-above (y ∷ S) up.1 y (or_left (eqb y y) (has S y) (eq-eqb y y refl)) in omega (arith, is, lt, le)
  | inr more ↦ greatest-above (y ∷ S) up.1 b more
]

pub split-named : (p : Program) → IsSound p → has_numbers p ≡ true → IsSplit (first_free p) p
split-named p sound numbers = record {
  under = λ b e. let le = greatest-above (atoms_of p) (atoms-ascend p) b e in omega (arith, le);
  whole = sound;
  sound = sound-named p sound numbers;
}
