-- A look: from the pointers to candidates, and back.
use Rattle.std.proofs.Common.{◌≡◌, ℕ, ◌+◌, ◌-◌, ◌<◌, Bool, true, false, eqb, List, [], length, get_or, set, Option, refl, sym, ap, ◌∙◌, arith, ◌⊎◌, inl, inr, get_or-set_other}
use Rattle.std.proofs.lemmas.Bool.{false≢true, eqb-true, eq-eqb}
use Rattle.std.proofs.lemmas.List.{length-set}
use Rattle.std.specs.List.{All}
use Rattle.asp_model.specs.declared.program.Program.{Program}
use Rattle.asp_model.specs.Sets.{has}
use Rattle.asp_model.specs.Models.{atoms_of}
use Rattle.asp_model.specs.Sound.{IsSound}
use Rattle.asp_vars.specs.Literals.{F, holds_in}
use Rattle.asp_vars.specs.Tabled.{IsAtomVar}
use Rattle.asp_scc.specs.Components.{Parts}
use Rattle.asp_source.specs.Marks.{is_marked}
use Rattle.asp_source.specs.Marks.{AreBlank}
use Rattle.asp_source.specs.Pointers.{ArePointers, IsSettling}
use Rattle.asp_source.specs.Founding.{GetSources}
use Rattle.asp_source.specs.Founding.GetSources.{gets_none, gets_one}
use Rattle.asp_source.specs.Ranks.{Ranking}
use Rattle.asp_source.specs.Gathering.{is_done, IsSetting, IsGathering, Gathers}
use Rattle.asp_source.proofs.LooseLaws.{unset_marked}
use Rattle.asp_source.proofs.LookLaws.{at_member}
use Rattle.asp_source.proofs.PointerLaws.{ranked_fewer}
use Rattle.asp_source.proofs.GatherLaws.{done_parts, done_from, gathers_then}
use Rattle.asp_source.proofs.FoundLaws.{settled}

-- where no atom is a candidate they can be gathered
pub gathering_begins : (p : Program) (c : Parts) (x : List (Option Bool)) (k : ℕ) (s ranks : List ℕ) (q l w j : List Bool) → IsSetting p c x →
    IsSound p → ArePointers p c x s ranks q [] → AreBlank l → length l ≡ length (atoms_of p) + 1 → length w ≡ length (atoms_of p) →
    length j ≡ length (atoms_of p) → IsGathering p c x k ranks 0 s l w j
gathering_begins p c x k s ranks q l w j setting sound h blank size waits joins = record {
  setting = setting;
  size = h.size;
  rank_room = h.rank_room;
  waits = waits;
  joins = joins;
  supports = h.supports;
  ranked = ranked_fewer p c x ranks (is_marked []) (is_done l w 0) s sound h.supports (λ v e. absurd (none v (done_parts l w 0 v e).0)) h.ranked;
  candidates = record {
    size = size;
    atoms = λ v e. absurd (none v e);
    at = λ v e. absurd (none v e);
    not_false = λ v e. absurd (none v e);
    bare = λ v e. absurd (none v e);
  };
  listed = λ v e. absurd (none v e);
}
  where
    none : (v : ℕ) → is_marked l v ≡ true → ⊥
    none v e = false≢true (sym (blank v) ∙ e)

-- when all are gathered they settle; the atom that was looked at has left the queue
pub settling_begins : (p : Program) (c : Parts) (x : List (Option Bool)) (k v : ℕ) (s ranks : List ℕ) (q l w : List Bool) (t : List ℕ)
    (m y z : List Bool) → IsSound p → ArePointers p c x s ranks (set q (v - 1) true) [] → IsAtomVar p v →
    (get_or t v 0 ≡ 0 → holds_in x (F v) ≡ false → is_marked m v ≡ true) → Gathers x s l w t m y → IsGathering p c x k ranks 0 t m y z →
    ((i : ℕ) → is_marked y i ≡ false) → IsSettling p c x k t ranks q m
settling_begins p c x k v s ranks q l w t m y z sound h is admitted gathers g done = record {
  pointers = record {
    size = g.size;
    rank_room = g.rank_room;
    room = sym (length-set q (v - 1) true) ∙ h.room;
    supports = g.supports;
    ranked = ranked_fewer p c x ranks (is_done m y 0) (is_marked m) t sound g.supports
        (λ u e. done_from m y 0 u e (done (u - 1)) (λ i. let some_ = (g.candidates.atoms u e).0 in absurd (omega (arith, i, some_)))) g.ranked;
    sought = λ u at none cyclic alive. elim (gathers.left u none alive) [
      | inl e ↦ elim (h.sought u at e cyclic alive) [
        | inl f ↦ before u at none alive f (eqb u v) refl
        | inr f ↦ absurd (false≢true f)
      ]
      | inr e ↦ inr e
    ];
  };
  candidates = g.candidates;
}
  where
    before : (u : ℕ) → IsAtomVar p u → get_or t u 0 ≡ 0 → holds_in x (F u) ≡ false → is_marked (set q (v - 1) true) (u - 1) ≡ true → (b : Bool) →
        b ≡ eqb u v → (is_marked q (u - 1) ≡ true) ⊎ (is_marked m u ≡ true)
    before u at none alive e true i =
        let same : u ≡ v = eqb-true u v (sym i) in
        inr (ap (is_marked m) same ∙ admitted (ap (λ a. get_or t a 0) (sym same) ∙ none) (ap (λ a. holds_in x (F a)) (sym same) ∙ alive))
    before u at none alive e false i =
        let a = at.0 in
        let b = is.0 in
        inl (sym (get_or-set_other q (v - 1) (u - 1) true false (λ j. false≢true (i ∙ eq-eqb u v (omega (arith, a, b, j))))) ∙ e)

-- candidates only go as they get sources
pub gets_less : (p : Program) (x : List (Option Bool)) (s : List ℕ) (r : Ranking) (l : List Bool) (t : List ℕ) (o : Ranking) (m : List Bool) →
    GetSources p x s r l t o m → (v : ℕ) → is_marked m v ≡ true → is_marked l v ≡ true
gets_less p x s r l t o m gets_none v e = e
gets_less p x s r l t o m (gets_one {s = u} {r = i} {l = n} {v = w} {b = b} more is marked by ranking) v e = gets_less p x s r l u i n more v (unset_marked n w v e)

-- an atom that was admitted, and has no source when all are gathered, is a candidate
pub admitted_then : (x : List (Option Bool)) (v : ℕ) (s : List ℕ) (l w : List Bool) (t : List ℕ) (m y : List Bool) →
    (get_or s v 0 ≡ 0 → holds_in x (F v) ≡ false → is_marked l v ≡ true) → Gathers x s l w t m y → get_or t v 0 ≡ 0 → holds_in x (F v) ≡ false →
    is_marked m v ≡ true
admitted_then x v s l w t m y admitted gathers none alive = elim (gathers.left v none alive) [
  | inl e ↦ gathers.more v (admitted e alive)
  | inr e ↦ e
]

-- a look: the pointers before it, the atom admitted, all gathered
pub record IsLooked (p : Program) (c : Parts) (x : List (Option Bool)) (k v : ℕ) (s ranks : List ℕ) (q l w : List Bool) (first : List ℕ)
    (joined waits : List Bool) (t : List ℕ) (m y z : List Bool) : Type 0 where
  pub sound : IsSound p
  pub pointers : ArePointers p c x s ranks (set q (v - 1) true) []
  pub is : IsAtomVar p v
  pub admits : Gathers x s l w first joined waits
  pub admitted : get_or first v 0 ≡ 0 → holds_in x (F v) ≡ false → is_marked joined v ≡ true
  pub gathers : Gathers x first joined waits t m y
  pub gathering : IsGathering p c x k ranks 0 t m y z
  pub done : (i : ℕ) → is_marked y i ≡ false

-- from the pointers to candidates that settled
pub look_settles : (p : Program) (c : Parts) (x : List (Option Bool)) (k v : ℕ) (s : List ℕ) (ranks : Ranking) (q l w : List Bool) (first : List ℕ)
    (joined waits : List Bool) (t : List ℕ) (m y z : List Bool) (u : List ℕ) (o : Ranking) (n : List Bool) →
    IsLooked p c x k v s ranks.ranks q l w first joined waits t m y z → GetSources p x t ranks m u o n → IsSettling p c x k u o.ranks q n
look_settles p c x k v s ranks q l w first joined waits t m y z u o n h gets =
    settled p c x k t ranks q m u o n h.sound gets
    (settling_begins p c x k v s ranks.ranks q l w t m y z h.sound h.pointers h.is (admitted_then x v first joined waits t m y h.admitted h.gathers)
    (gathers_then x s l w first joined waits t m y h.admits h.gathers) h.gathering h.done)

-- a candidate that is left has joined
pub left_listed : (p : Program) (c : Parts) (x : List (Option Bool)) (k : ℕ) (ranks t : List ℕ) (r : Ranking) (m y z : List Bool) (u : List ℕ)
    (o : Ranking) (n : List Bool) → IsGathering p c x k ranks 0 t m y z → GetSources p x t r m u o n → (v : ℕ) → is_marked n v ≡ true → (0 < v) ×
    (is_marked z (v - 1) ≡ true)
left_listed p c x k ranks t r m y z u o n gathering gets v e =
    let before = gets_less p x t r m u o n gets v e in
    ((gathering.candidates.atoms v before).0, gathering.listed v before)

-- where none of those that joined is a candidate none is one
pub none_left : (l : List Bool) (places : List ℕ) → All (λ k. is_marked l (k + 1) ≡ false) places → ((v : ℕ) → is_marked l v ≡ true → (0 < v) × (has places (v - 1) ≡ true)) → AreBlank l
none_left l places none listed v = cases (is_marked l v) refl
  where
    cases : (b : Bool) → b ≡ is_marked l v → is_marked l v ≡ false
    cases false q = sym q
    cases true q =
        let there = listed v (sym q) in
        let positive = there.0 in
        ap (is_marked l) (omega (arith, positive)) ∙ at_member (λ k. is_marked l (k + 1) ≡ false) places (v - 1) none there.1

-- candidates that are left are queued
pub settling_ends : (p : Program) (c : Parts) (x : List (Option Bool)) (k : ℕ) (s ranks : List ℕ) (q l r : List Bool) → IsSound p →
    IsSettling p c x k s ranks q l → length r ≡ length q → ((i : ℕ) → is_marked q i ≡ true → is_marked r i ≡ true) →
    ((v : ℕ) → is_marked l v ≡ true → is_marked r (v - 1) ≡ true) → ArePointers p c x s ranks r []
settling_ends p c x k s ranks q l r sound h size more queued = record {
  size = h.pointers.size;
  rank_room = h.pointers.rank_room;
  room = size ∙ h.pointers.room;
  supports = h.pointers.supports;
  ranked = ranked_fewer p c x ranks (is_marked l) (is_marked []) s sound h.pointers.supports (λ v e. absurd (false≢true e)) h.pointers.ranked;
  sought = λ v at none cyclic alive. elim (h.pointers.sought v at none cyclic alive) [
    | inl e ↦ inl (more (v - 1) e)
    | inr e ↦ inl (queued v e)
  ];
}

-- a look from its first atom to its last: the pointers are kept
pub look_ends : (p : Program) (c : Parts) (x : List (Option Bool)) (k v : ℕ) (s : List ℕ) (ranks : Ranking) (q l w : List Bool) (first : List ℕ)
    (joined waits : List Bool) (t : List ℕ) (m y z : List Bool) (u : List ℕ) (o : Ranking) (n r : List Bool) →
    IsLooked p c x k v s ranks.ranks q l w first joined waits t m y z → GetSources p x t ranks m u o n → length r ≡ length q →
    ((i : ℕ) → is_marked q i ≡ true → is_marked r i ≡ true) → ((a : ℕ) → is_marked n a ≡ true → is_marked r (a - 1) ≡ true) →
    ArePointers p c x u o.ranks r []
look_ends p c x k v s ranks q l w first joined waits t m y z u o n r h gets room more queued =
    settling_ends p c x k u o.ranks q n r h.sound (look_settles p c x k v s ranks q l w first joined waits t m y z u o n h gets) room more queued
