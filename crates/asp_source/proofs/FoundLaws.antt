-- How candidates get sources, one after another.
use Rattle.std.proofs.Common.{◌≡◌, ◌≢◌, ℕ, ◌+◌, ◌-◌, ◌<◌, ◌≤◌, Bool, true, false, not, eqb, List, length, set, get_or, count_by, Option, refl, sym, ap, ◌∙◌, subst, arith, ◌⊎◌, inl, inr, get_or-set_other, get_or-set_same}
use Rattle.std.proofs.lemmas.Bool.{false≢true, and_from, eqb-true, eq-eqb}
use Rattle.std.proofs.lemmas.List.{length-set}
use Rattle.asp_model.specs.declared.program.Program.{Program}
use Rattle.asp_model.specs.Sound.{IsSound}
use Rattle.asp_vars.specs.Completion.{supports}
use Rattle.asp_vars.specs.Literals.{F, holds_in}
use Rattle.asp_vars.specs.Numbering.{nth_atom}
use Rattle.asp_vars.specs.Tabled.{IsAtomVar}
use Rattle.asp_scc.specs.Components.{Parts}
use Rattle.asp_vars.specs.Unfounded.{is_excused}
use Rattle.asp_loop.specs.Parts.{form_of}
use Rattle.asp_loop.proofs.EntailedLaws.{any_of}
use Rattle.asp_source.specs.Marks.{is_marked, shown, is_founded, is_dropped}
use Rattle.asp_source.specs.Ranks.{Ranking, IsRanking, raised}
use Rattle.asp_source.specs.Founding.{IsFoundBy, HaveRoom, GetSources, Founds, AreStuck}
use Rattle.asp_source.specs.Founding.GetSources.{gets_none, gets_one}
use Rattle.asp_source.specs.Pointers.{IsSettling}
use Rattle.asp_source.proofs.LooseLaws.{marks_less, unset_marked}
use Rattle.asp_source.proofs.QueueLaws.{one_more}
use Rattle.asp_source.proofs.PointerLaws.{ranked_raised, support_positive, supports_set}

pub gets_then : (p : Program) (x : List (Option Bool)) (s : List ℕ) (r : Ranking) (l : List Bool) (t : List ℕ) (o : Ranking) (m : List Bool)
    (u : List ℕ) (i : Ranking) (n : List Bool) → GetSources p x s r l t o m → GetSources p x t o m u i n → GetSources p x s r l u i n
gets_then p x s r l t o m u i n h gets_none = h
gets_then p x s r l t o m u i n h (gets_one k is marked by ranking) = gets_one (gets_then p x s r l t o m _ _ _ h k) is marked by ranking

pub founds_same : (p : Program) (x : List (Option Bool)) (s : List ℕ) (r : Ranking) (l w : List Bool) → Founds p x s r l w s r l w
founds_same p x s r l w = record { gets = gets_none; size = refl; rank_room = refl; marks = refl; room = refl; fewer = omega arith; ticks = omega arith; paid = omega arith }

pub founds_then : (p : Program) (x : List (Option Bool)) (s : List ℕ) (r : Ranking) (l w : List Bool) (t : List ℕ) (o : Ranking) (m v : List Bool)
    (u : List ℕ) (i : Ranking) (n y : List Bool) → Founds p x s r l w t o m v → Founds p x t o m v u i n y → Founds p x s r l w u i n y
founds_then p x s r l w t o m v u i n y h k = record {
  gets = gets_then p x s r l t o m u i n h.gets k.gets;
  size = k.size ∙ h.size;
  rank_room = k.rank_room ∙ h.rank_room;
  marks = k.marks ∙ h.marks;
  room = k.room ∙ h.room;
  fewer = let a = h.fewer in let b = k.fewer in omega (arith, a, b);
  ticks = let a = h.ticks in let b = k.ticks in omega (arith, a, b);
  paid = let a = h.paid in let b = k.paid in omega (arith, a, b);
}

pub room_then : (p : Program) (x : List (Option Bool)) (s : List ℕ) (r : Ranking) (l w : List Bool) (t : List ℕ) (o : Ranking) (m y : List Bool) →
    HaveRoom p x s r l w → Founds p x s r l w t o m y → HaveRoom p x t o m y
room_then p x s r l w t o m y h k = record {
  values = h.values;
  size = k.size ∙ h.size;
  marks = k.marks ∙ h.marks;
  waits = k.room ∙ h.waits;
  rank_room = k.rank_room ∙ h.rank_room;
  time = let a = h.time in let b = k.ticks in omega (arith, a, b);
}

pub founds_one : (p : Program) (x : List (Option Bool)) (s : List ℕ) (r : Ranking) (l w : List Bool) (v b : ℕ) → IsAtomVar p v →
    is_marked l v ≡ true → IsFoundBy p x (is_marked l) v b → IsRanking r.ranks r.clock → v - 1 < length w →
    Founds p x s r l w (set s v b) (raised r v) (set l v false) (set w (v - 1) true)
founds_one p x s r l w v b is marked by ranking lt =
    let less = marks_less l v marked in
    let more = one_more w (v - 1) lt in
    record {
      gets = gets_one gets_none is marked by ranking;
      size = length-set s v b;
      rank_room = length-set r.ranks v r.clock;
      marks = length-set l v false;
      room = length-set w (v - 1) true;
      fewer = omega (arith, less);
      ticks = omega (arith, less);
      paid = omega (arith, less, more);
    }

pub founds_less : (p : Program) (x : List (Option Bool)) (s : List ℕ) (r : Ranking) (l w less : List Bool) (k : ℕ) → less ≡ set w k false →
    count_by (λ b. b) less < count_by (λ b. b) w → Founds p x s r l w s r l less
founds_less p x s r l w less k is fewer =
    record {
      gets = gets_none;
      size = refl;
      rank_room = refl;
      marks = refl;
      room = ap length is ∙ length-set w k false;
      fewer = omega arith;
      ticks =
          omega arith;
      paid = omega (arith, fewer);
    }

-- the pointers stay as they settle
settle_one : (p : Program) (c : Parts) (x : List (Option Bool)) (k : ℕ) (s : List ℕ) (r : Ranking) (queue l : List Bool) (v b : ℕ) → IsSound p →
    IsAtomVar p v → is_marked l v ≡ true → IsFoundBy p x (is_marked l) v b → IsRanking r.ranks r.clock → IsSettling p c x k s r.ranks queue l →
    IsSettling p c x k (set s v b) (set r.ranks v r.clock) queue (set l v false)
settle_one p c x k s r queue l v b sound is marked by ranking h = record {
  pointers = record {
    size = length-set s v b ∙ h.pointers.size;
    rank_room = length-set r.ranks v r.clock ∙ h.pointers.rank_room;
    room = h.pointers.room;
    supports = supports_set p s v b lt by.support h.pointers.supports;
    ranked = ranked_raised p c x r.ranks r.clock l s v b sound lt (let small = is.1 in let size = h.pointers.rank_room in omega (arith, small, size))
        ranking marked by h.pointers.supports h.pointers.ranked;
    sought = λ w at z cyclic not_false. sought w at z cyclic not_false (eqb w v) refl;
  };
  candidates = record {
    size = length-set l v false ∙ h.candidates.size;
    atoms = λ w e. h.candidates.atoms w (unset_marked l v w e);
    at = λ w e. h.candidates.at w (unset_marked l v w e);
    not_false = λ w e. h.candidates.not_false w (unset_marked l v w e);
    bare = λ w e. get_or-set_other s v w b 0 (other w e) ∙ h.candidates.bare w (unset_marked l v w e);
  };
}
  where
    lt : v < length s
    lt = let small = is.1 in let size = h.pointers.size in omega (arith, small, size)

    other : (w : ℕ) → is_marked (set l v false) w ≡ true → w ≢ v
    other w e z = false≢true (sym (get_or-set_same l v false false (let small = is.1 in let size = h.candidates.size in omega (arith, small, size))) ∙ (ap (is_marked (set l v false)) (sym z) ∙ e))

    sought : (w : ℕ) → IsAtomVar p w → get_or (set s v b) w 0 ≡ 0 → get_or c.trivial (get_or c.numbers w 0) false ≡ false → holds_in x (F w) ≡ false →
        (t : Bool) → t ≡ eqb w v → (is_marked queue (w - 1) ≡ true) ⊎ (is_marked (set l v false) w ≡ true)
    sought w at z cyclic not_false true q =
        let e : w ≡ v = eqb-true w v (sym q) in
        absurd (support_positive p (nth_atom p (v - 1)) b by.support (sym (get_or-set_same s v b 0 lt) ∙ (ap (λ u. get_or (set s v b) u 0) (sym e) ∙ z)))
    sought w at z cyclic not_false false q =
        let ne : w ≢ v = λ e. false≢true (q ∙ eq-eqb w v e) in
        elim (h.pointers.sought w at (sym (get_or-set_other s v w b 0 ne) ∙ z) cyclic not_false) [
          | inl e ↦ inl e
          | inr e ↦ inr (get_or-set_other l v w false false ne ∙ e)
        ]

pub settled : (p : Program) (c : Parts) (x : List (Option Bool)) (k : ℕ) (s : List ℕ) (r : Ranking) (queue l : List Bool) (t : List ℕ) (o : Ranking)
    (m : List Bool) → IsSound p → GetSources p x s r l t o m → IsSettling p c x k s r.ranks queue l → IsSettling p c x k t o.ranks queue m
settled p c x k s r queue l t o m sound gets_none h = h
settled p c x k s r queue l t o m sound (gets_one {s = u} {r = i} {l = n} {v = v} {b = b} more is marked by ranking) h =
    settle_one p c x k u i queue n v b sound is marked by ranking (settled p c x k s r queue l u i n sound more h)

-- what founds an atom makes it founded
pub founded_by : (p : Program) (x : List (Option Bool)) (l : List Bool) (v b : ℕ) → is_marked l v ≡ true → IsFoundBy p x (is_marked l) v b → is_dropped p x l v ≡ true
founded_by p x l v b marked by =
    and_from (is_marked l v) (is_founded p x (shown p (is_marked l)) (nth_atom p (v - 1))) marked
    (any_of (λ w. not (is_excused p x (shown p (is_marked l)) (form_of p w))) (supports p (nth_atom p (v - 1))) b by.support (ap not by.firm))

-- ---- a sweep
pub record Sweeping (p : Program) (x : List (Option Bool)) (s : List ℕ) (r : Ranking) (l w : List Bool) (t : List ℕ) (o : Ranking) (m y : List Bool)
    (places : List ℕ) (i : ℕ) (dropped : Bool) : Type 0 where
  pub founds : Founds p x s r l w t o m y
  pub fewer : dropped ≡ true → count_by (λ b. b) m < count_by (λ b. b) l
  pub still : dropped ≡ false → m ≡ l
  pub stuck : dropped ≡ false → (j : ℕ) (d : ℕ) → j < i → j < length places → is_dropped p x l (get_or places j d + 1) ≡ false

pub sweep_begins : (p : Program) (x : List (Option Bool)) (s : List ℕ) (r : Ranking) (l w : List Bool) (places : List ℕ) → Sweeping p x s r l w s r l w places 0 false
sweep_begins p x s r l w places = record { founds = founds_same p x s r l w; fewer = λ e. absurd (false≢true e); still = λ e. refl; stuck = λ e j d lt within. absurd (omega (arith, lt)) }

pub sweep_drops : (p : Program) (x : List (Option Bool)) (s : List ℕ) (r : Ranking) (l w : List Bool) (t : List ℕ) (o : Ranking) (m y : List Bool)
    (u : List ℕ) (g : Ranking) (n z : List Bool) (places : List ℕ) (i : ℕ) (before : Bool) → Founds p x t o m y u g n z →
    count_by (λ b. b) n < count_by (λ b. b) m → Sweeping p x s r l w t o m y places i before → Sweeping p x s r l w u g n z places (i + 1) true
sweep_drops p x s r l w t o m y u g n z places i before founds fewer h = record {
  founds = founds_then p x s r l w t o m y u g n z h.founds founds;
  fewer = λ e. let most = h.founds.fewer in omega (arith, fewer, most);
  still = λ e. absurd (false≢true (sym e));
  stuck = λ e. absurd (false≢true (sym e));
}

pub sweep_passes : (p : Program) (x : List (Option Bool)) (s : List ℕ) (r : Ranking) (l w : List Bool) (t : List ℕ) (o : Ranking) (m y : List Bool)
    (u : List ℕ) (g : Ranking) (n z : List Bool) (places : List ℕ) (i k : ℕ) (before : Bool) → Founds p x t o m y u g n z → n ≡ m →
    is_dropped p x m (k + 1) ≡ false → ((d : ℕ) → i < length places → get_or places i d ≡ k) → Sweeping p x s r l w t o m y places i before →
    Sweeping p x s r l w u g n z places (i + 1) before
sweep_passes p x s r l w t o m y u g n z places i k before founds same passed at h = record {
  founds = founds_then p x s r l w t o m y u g n z h.founds founds;
  fewer = λ e. let most = h.fewer e in let now = ap (count_by (λ b. b)) same in omega (arith, most, now);
  still = λ e. same ∙ h.still e;
  stuck = λ e j d lt within. cases e j d lt within (eqb j i) refl;
}
  where
    cases : before ≡ false → (j : ℕ) (d : ℕ) → j < i + 1 → j < length places → (b : Bool) → b ≡ eqb j i → is_dropped p x l (get_or places j d + 1) ≡ false
    cases e j d lt within true q =
        let is : j ≡ i = eqb-true j i (sym q) in
        let place : get_or places j d ≡ k = ap (λ a. get_or places a d) is ∙ at d (omega (arith, is, within)) in
        ap (λ a. is_dropped p x l (a + 1)) place ∙ ap (λ a. is_dropped p x a (k + 1)) (sym (h.still e)) ∙ passed
    cases e j d lt within false q = h.stuck e j d (let ne : j ≢ i = (λ a. false≢true (q ∙ eq-eqb j i a)) in omega (arith, lt, ne)) within

pub sweep_ends : (p : Program) (x : List (Option Bool)) (s : List ℕ) (r : Ranking) (l w : List Bool) (t : List ℕ) (o : Ranking) (m y : List Bool)
    (places : List ℕ) (i : ℕ) → length places ≤ i → Sweeping p x s r l w t o m y places i false → AreStuck p x m places
sweep_ends p x s r l w t o m y places i end h =
    subst (λ (a : List Bool). AreStuck p x a places) (sym (h.still refl)) (λ j d lt. h.stuck refl j d (omega (arith, end, lt)) lt)
