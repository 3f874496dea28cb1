-- Numbers for classes, and their members.
use Rattle.std.proofs.Common.{◌≡◌, ◌≢◌, ℕ, ◌+◌, ◌-◌, ◌<◌, ◌≤◌, Bool, true, false, ◌&&◌, ◌||◌, eqb, ltb, List, [], ◌∷◌, ◌++◌, length, get_or, set, take, drop, refl, sym, ap, ◌∙◌, subst, arith, replicate}
use Rattle.std.specs.Prelude.{fold, All}
use Rattle.std.proofs.lemmas.Bool.{false≢true, eqb-true, eq-eqb, lt-ltb, ltb-true}
use Rattle.std.proofs.lemmas.Bool.Decides.{nat_tests}
use Rattle.std.proofs.lemmas.List.{get_or-set_same, get_or-set_other, get_or-replicate, length-replicate, length-map, length-take, get_or-take, get_or-map, get_or-drop, drop_all}
use Rattle.std.proofs.lemmas.List.Elements.{All-head, All-tail, All-weaker, All-take, All-drop}
use Rattle.std.proofs.Math.ListN.{length-set, get_or-eq_default}
use Rattle.std.proofs.Math.Seq.{take-length}
use Rattle.asp_scc.specs.Graphs.{is_in}
use Rattle.asp_scc.specs.Edges.{with_edge}
use Rattle.asp_scc.specs.Numbers.{give_number, numbers_from, AreNumbered, HasMembers}
use Rattle.asp_scc.proofs.TurnLaws.{edge_in}
use Rattle.asp_scc.proofs.SearchLaws.{is_in-at}
use Rattle.std.proofs.Common.{length-drop}

-- ---- numbers
-- Different classes have different numbers, none above the count.
pub record Apart (given : List ℕ) (count : ℕ) : Type 0 where
  pub below : (c : ℕ) → get_or given c 0 ≤ count
  pub apart : (c d : ℕ) → get_or given c 0 ≡ get_or given d 0 → get_or given c 0 ≢ 0 → c ≡ d

pub none_given : (n : ℕ) → Apart (replicate n 0) 0
none_given n = record {
  below = λ c. let e = zero_at c (ltb c n) refl in omega (arith, e);
  apart = λ c d same some. absurd (some (zero_at c (ltb c n) refl));
}
  where
    zero_at : (c : ℕ) (b : Bool) → b ≡ ltb c n → get_or {A = ℕ} (replicate n 0) c 0 ≡ 0
    zero_at c true e = get_or-replicate n c 0 0 (ltb-true c n (sym e))
    zero_at c false e =
        get_or-eq_default (replicate n 0) 0 (let size = length-replicate {A = ℕ} n 0 in let past : n ≤ c = grind (arith, nat_tests) in omega (arith, size, past))

given_next : (given : List ℕ) (count class : ℕ) → class < length given → Apart given count → Apart (set given class (count + 1)) (count + 1)
given_next given count class lt h = record {
  below = λ c. below c (eqb class c) refl;
  apart = λ c d same some. apart c d same some (eqb class c) refl (eqb class d) refl;
}
  where
    at : (c : ℕ) → true ≡ eqb class c → get_or (set given class (count + 1)) c 0 ≡ count + 1
    at c e = subst (λ (x : ℕ). get_or (set given class (count + 1)) x 0 ≡ count + 1) (eqb-true class c (sym e)) (get_or-set_same given class (count + 1) 0 lt)

    off : (c : ℕ) → false ≡ eqb class c → get_or (set given class (count + 1)) c 0 ≡ get_or given c 0
    off c e = get_or-set_other given class c (count + 1) 0 (λ z. false≢true (e ∙ eq-eqb class c (sym z)))

    below : (c : ℕ) (b : Bool) → b ≡ eqb class c → get_or (set given class (count + 1)) c 0 ≤ count + 1
    below c true e = let q = at c e in omega (arith, q)
    below c false e = let q = off c e in let k = h.below c in omega (arith, q, k)

    apart : (c d : ℕ) → get_or (set given class (count + 1)) c 0 ≡ get_or (set given class (count + 1)) d 0 →
        get_or (set given class (count + 1)) c 0 ≢ 0 → (a : Bool) → a ≡ eqb class c → (b : Bool) → b ≡ eqb class d → c ≡ d
    apart c d same some true e true q = sym (eqb-true class c (sym e)) ∙ eqb-true class d (sym q)
    apart c d same some true e false q =
        let x = at c e in let y = off d q in let k = h.below d in absurd (omega (arith, same, x, y, k))
    apart c d same some false e true q =
        let x = off c e in let y = at d q in let k = h.below c in absurd (omega (arith, same, x, y, k))
    apart c d same some false e false q = h.apart c d (sym (off c e) ∙ same ∙ off d q) (λ z. some (off c e ∙ z))

-- one class
pub record Gives (given : List ℕ) (class : ℕ) (s : List ℕ × ℕ) : Type 0 where
  pub apart : Apart s.0 s.1
  pub size : length s.0 ≡ length given
  pub kept : (c : ℕ) → 0 < get_or given c 0 → 0 < get_or s.0 c 0
  pub done : 0 < get_or s.0 class 0

give_one : (given : List ℕ) (count class : ℕ) → class < length given → Apart given count → Gives given class (give_number (given, count) class)
give_one given count class lt h = cases (eqb (get_or given class 0) 0) refl
  where
    positive : (c : ℕ) (b : Bool) → b ≡ eqb class c → 0 < get_or given c 0 → 0 < get_or (set given class (count + 1)) c 0
    positive c true e lt' =
        let q : get_or (set given class (count + 1)) c 0 ≡ count + 1 =
        subst (λ (x : ℕ). get_or (set given class (count + 1)) x 0 ≡ count + 1) (eqb-true class c (sym e))
        (get_or-set_same given class (count + 1) 0 lt) in
        omega (arith, q)
    positive c false e lt' =
        let q = get_or-set_other given class c (count + 1) 0 (λ z. false≢true (e ∙ eq-eqb class c (sym z))) in omega (arith, q, lt')

    cases : (b : Bool) → b ≡ eqb (get_or given class 0) 0 → Gives given class (give_number (given, count) class)
    cases true e = rw (← e) record {
      apart = given_next given count class lt h;
      size = length-set given class (count + 1);
      kept = λ c lt'. positive c (eqb class c) refl lt';
      done = let q = get_or-set_same given class (count + 1) 0 lt in omega (arith, q);
    }
    cases false e = rw (← e) record {
      apart = h;
      size = refl;
      kept = λ c lt'. lt';
      done = let some : get_or given class 0 ≢ 0 = λ z. false≢true (e ∙ eq-eqb (get_or given class 0) 0 z) in omega arith;
    }

-- all classes of a list
pub record GivesAll (given classes : List ℕ) (s : List ℕ × ℕ) : Type 0 where
  pub apart : Apart s.0 s.1
  pub size : length s.0 ≡ length given
  pub kept : (c : ℕ) → 0 < get_or given c 0 → 0 < get_or s.0 c 0
  pub done : (c : ℕ) → is_in classes c ≡ true → 0 < get_or s.0 c 0

pub give_all : (classes given : List ℕ) (count : ℕ) → All (λ c. c < length given) classes → Apart given count → GivesAll given classes (fold give_number (given, count) classes)
give_all [] given count small h = record { apart = h; size = refl; kept = λ c lt. lt; done = λ c e. absurd (false≢true e) }
give_all (x ∷ classes) given count small h =
    let s : List ℕ × ℕ = give_number (given, count) x in
    let first = give_one given count x (All-head (λ c. c < length given) x classes small) h in
    let rest = give_all classes s.0 s.1 (All-weaker (λ c. c < length given) (λ c. c < length s.0) (λ c lt. omega (arith, lt, first.size)) classes
    (All-tail (λ c. c < length given) x classes small)) first.apart in
    record {
      apart = rest.apart;
      size = rest.size ∙ first.size;
      kept = λ c lt. rest.kept c (first.kept c lt);
      done = λ c e. cases c (eqb x c) refl (rest.kept x first.done) (rest.done c) e;
    }
  where
    cases : (c : ℕ) (b : Bool) → b ≡ eqb x c → 0 < get_or (fold give_number (give_number (given, count) x) classes).0 x 0 →
        (is_in classes c ≡ true → 0 < get_or (fold give_number (give_number (given, count) x) classes).0 c 0) → (eqb x c || is_in classes c) ≡ true →
        0 < get_or (fold give_number (give_number (given, count) x) classes).0 c 0
    cases c true q here later e =
        subst (λ (y : ℕ). 0 < get_or (fold give_number (give_number (given, count) x) classes).0 y 0) (eqb-true x c (sym q)) here
    cases c false q here later e = later (ap (λ b. b || is_in classes c) q ∙ e)

-- ---- members
pub one_member : (numbers : List ℕ) (count i : ℕ) (rows rows' : List (List ℕ)) → 0 < i → get_or numbers i 0 < count →
    rows' ≡ with_edge i rows (get_or numbers i 0) → HasMembers numbers count i rows → HasMembers numbers count (i + 1) rows'
one_member numbers count i rows rows' pos_i lt is h = subst (λ (r : List (List ℕ)). HasMembers numbers count (i + 1) r) (sym is) record {
  size = length-set rows (get_or numbers i 0) (get_or rows (get_or numbers i 0) [] ++ i ∷ []) ∙ h.size;
  has = λ k v lt'.
      edge_in rows i k (get_or numbers i 0) v (omega (arith, lt, h.size))
      ∙ ap (λ b. b || (eqb i v && eqb (get_or numbers i 0) k)) (h.has k v lt') ∙ cases k v (eqb i v) refl;
}
  where
    last_or : (a : Bool) → (a || false) ≡ a
    last_or true = refl
    last_or false = refl

    cases : (k v : ℕ) (b : Bool) → b ≡ eqb i v →
        ((ltb 0 v && (ltb v i && eqb (get_or numbers v 0) k)) || (eqb i v && eqb (get_or numbers i 0) k)) ≡
        (ltb 0 v && (ltb v (i + 1) && eqb (get_or numbers v 0) k))
    cases k v true e =
        let same : i ≡ v = eqb-true i v (sym e) in
        let early : ltb v i ≡ false = grind (arith, nat_tests) in
        let some : ltb 0 v ≡ true = lt-ltb 0 v (omega arith) in
        let late : ltb v (i + 1) ≡ true = lt-ltb v (i + 1) (omega arith) in
        ap (λ t. (ltb 0 v && (t && eqb (get_or numbers v 0) k)) || (eqb i v && eqb (get_or numbers i 0) k)) early
        ∙ ap (λ t. (t && false) || (eqb i v && eqb (get_or numbers i 0) k)) some
        ∙ ap (λ t. t && eqb (get_or numbers i 0) k) (sym e) ∙ ap (λ x. eqb (get_or numbers x 0) k) same
        ∙ sym (ap (λ t. t && (ltb v (i + 1) && eqb (get_or numbers v 0) k)) some ∙ ap (λ t. t && eqb (get_or numbers v 0) k) late)
    cases k v false e =
        let other : v ≢ i = λ z. false≢true (e ∙ eq-eqb i v (sym z)) in
        let same : ltb v i ≡ ltb v (i + 1) = grind (arith, nat_tests) in
        ap (λ t. (ltb 0 v && (ltb v i && eqb (get_or numbers v 0) k)) || (t && eqb (get_or numbers i 0) k)) (sym e)
        ∙ last_or (ltb 0 v && (ltb v i && eqb (get_or numbers v 0) k))
        ∙ ap (λ t. ltb 0 v && (t && eqb (get_or numbers v 0) k)) same

-- ---- the numbers of places
-- what the classes of places are numbered by
pub numbered : (classes given numbers : List ℕ) (last count : ℕ) → last < length classes → All (λ c. c < length classes + 2) classes →
    (given, count) ≡ fold give_number (replicate (length classes + 2) 0, 0) (take (last + 1 - 1) (drop 1 classes)) →
    numbers ≡ numbers_from given (take (last + 1) classes) → AreNumbered classes last numbers count
numbered classes given numbers last count lt small is read =
    let start : List ℕ = replicate (length classes + 2) 0 in
    let part : List ℕ = take (last + 1 - 1) (drop 1 classes) in
    let room : length start ≡ length classes + 2 = length-replicate (length classes + 2) 0 in
    let within : All (λ c. c < length start) part =
    All-take (λ c. c < length start) (last + 1 - 1) (drop 1 classes)
    (All-drop (λ c. c < length start) 1 classes (All-weaker (λ c. c < length classes + 2) (λ c. c < length start) (λ c l. omega (arith, l, room))
    classes small)) in
    let all = give_all part start 0 within (none_given (length classes + 2)) in
    let Q : List ℕ × ℕ → Type 0 = λ s. Apart s.0 s.1 × ((c : ℕ) → is_in part c ≡ true → 0 < get_or s.0 c 0) in
    let facts : Q (given, count) = subst Q (sym is) (all.apart, all.done) in
    let size : length numbers ≡ last + 1 = ap length read ∙ length-map (take (last + 1) classes) (λ c. get_or given c 0 - 1) ∙ (let e = length-take (last + 1) classes in omega (arith, e)) in
    record {
      size = size;
      within = λ v p l. let n = value v (omega (arith, l, size)) in let s = some v facts.1 p (omega (arith, l, size)) in let b = facts.0.below (get_or classes v 0) in omega (arith, n, s, b);
      same = λ v w e l m. value v (omega (arith, l, size)) ∙ ap (λ c. get_or given c 0 - 1) e ∙ sym (value w (omega (arith, m, size)));
      apart = λ v w p l q m e.
          let n = value v (omega (arith, l, size)) in let o = value w (omega (arith, m, size)) in
          let s = some v facts.1 p (omega (arith, l, size)) in let t = some w facts.1 q (omega (arith, m, size)) in
          facts.0.apart (get_or classes v 0) (get_or classes w 0) (omega (arith, n, o, s, t, e)) (λ z. absurd (omega (arith, z, s)));
    }
  where
    value : (v : ℕ) → v < last + 1 → get_or numbers v 0 ≡ get_or given (get_or classes v 0) 0 - 1
    value v l =
        ap (λ xs. get_or xs v 0) read
        ∙ get_or-map (λ c. get_or given c 0 - 1) (take (last + 1) classes) v 0 0 (let e = length-take (last + 1) classes in omega (arith, e))
        ∙ ap (λ c. get_or given c 0 - 1) (get_or-take (last + 1) classes v 0 l)

    some : (v : ℕ) → ((c : ℕ) → is_in (take (last + 1 - 1) (drop 1 classes)) c ≡ true → 0 < get_or given c 0) → 0 < v → v < last + 1 → 0 < get_or given (get_or classes v 0) 0
    some v done p l =
        let part : List ℕ = take (last + 1 - 1) (drop 1 classes) in
        let e = length-take (last + 1 - 1) (drop 1 classes) in
        let f = length-drop 1 classes in
        let inside : v - 1 < length part = omega (arith, e, f) in
        let at : get_or part (v - 1) 0 ≡ get_or classes v 0 =
        get_or-take (last + 1 - 1) (drop 1 classes) (v - 1) 0 (omega arith) ∙ get_or-drop 1 classes (v - 1) 0
        ∙ ap (λ i. get_or classes i 0) (let k : 1 + (v - 1) ≡ v = omega arith in k) in
        done (get_or classes v 0) (ap (λ c. is_in part c) (sym at) ∙ is_in-at part (v - 1) inside)

-- a slice that is written back whole
pub written_back : (new old : List ℕ) (len : ℕ) → len ≡ length new → length old ≤ length new → take len (new ++ drop (length new) old) ≡ new
written_back new old len e short =
    ap (λ xs. take len (new ++ xs)) (drop_all (length new) old short) ∙ ap (take len) (append_nil new) ∙ ap (λ n. take n new) e ∙ take-length new
  where
    append_nil : (xs : List ℕ) → xs ++ [] ≡ xs
    append_nil [] = refl
    append_nil (x ∷ xs) = ap (λ ys. x ∷ ys) (append_nil xs)
