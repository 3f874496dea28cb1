-- What is kept when a variable gets a value or loses it, and what a call of `next` says.
use Rattle.std.proofs.Common.{◌≡◌, ◌≢◌, ℕ, suc, zero, ◌+◌, ◌<◌, ◌≤◌, ◌^◌, Bool, true, false, not, cond, ◌||◌, List, [], ◌∷◌, filter, length, set, replicate, get_or, Option, Some, None, refl, sym, ap, ◌∙◌, subst, arith}
use Rattle.std.specs.List.{All, list_any}
use Rattle.std.proofs.lemmas.Bool.{false≢true}
use Rattle.std.proofs.lemmas.List.{length-set, set-get_or, get_or_read}
use Rattle.std.proofs.lemmas.Grind.{common_steps}
use Rattle.std.proofs.lemmas.List.Elements.{All-from_recursion}
use Rattle.std.proofs.lemmas.List.Sums.{sum_by-cons}
use Rattle.asp_model.specs.declared.program.Body.{Body}
use Rattle.asp_model.specs.declared.program.Body.TheVariants as body
use Rattle.asp_model.specs.declared.program.Program.{Program}
use Rattle.asp_model.specs.Models.{atoms_of}
use Rattle.asp_model.specs.Sound.{IsSound}
use Rattle.asp_model.proofs.MemberLaws.{each-filter}
use Rattle.asp_vars.specs.Literals.{Literal, value_of, holds_in, agrees}
use Rattle.asp_vars.specs.Numbering.{body_eq, bodies_of, is_apart, apart_bodies, var_count}
use Rattle.asp_vars.specs.Tabled.{Stands}
use Rattle.asp_vars.specs.Entailment.{Entailed}
use Rattle.asp_vars.specs.declared.nogood.Base.TheVariants as base
use Rattle.asp_vars.specs.declared.nogood.Nogood.{Nogood}
use Rattle.asp_vars.proofs.LiteralLaws.{beq_same}
use Rattle.asp_vars.proofs.StandingLaws.{bodies_of-stand, bodies_of-themselves}
use Rattle.asp_trail.specs.Fixpoint.{is_at_fixpoint}
use Rattle.asp_trail.specs.Trails.{IsVar}
use Rattle.asp_trail.proofs.EntryLaws.{set_set}
use Rattle.asp_weight.specs.declared.item.Item.{Item}
use Rattle.asp_weight.specs.declared.item.Shape.{Shape}
use Rattle.asp_weight.specs.declared.item.Place.{Place}
use Rattle.asp_weight.specs.declared.tally.Tally.{Tally}
use Rattle.asp_weight.specs.declared.look.Speech.{Speech}
use Rattle.asp_weight.specs.Silence.{is_silent}
use Rattle.asp_weight.specs.Definition.{Excludes, IsGiven}
use Rattle.asp_weight.specs.Rows.{on, weight_if, sum_where, total_of, IsRow, is_weighed, weighed_bodies, nth_weighed, AreRows, shape_at, row_at, is_silent_row}
use Rattle.asp_weight.specs.Tallied.{fresh, tally_at, raise_all, lower_all, sum_in, CanRaise, CanLower}
use Rattle.asp_weight.specs.Placed.{places_at, touches, ArePlaces, HaveRoom}
use Rattle.asp_weight.specs.Spoken.{spoken, Speaks, AreReady}
use Rattle.asp_weight.specs.Kept.{ArePassed, AreCounted, AreSilentRows, IsKept}
use Rattle.asp_weight.proofs.TallyLaws.{length-raise_all, length-lower_all, raise_all-reached, raise_all-missed, raise_all-queued, lower_all-reached, lower_all-missed, lower_all-queued, raise_all-start, lower_all-start}
use Rattle.asp_weight.proofs.SumLaws.{sum_more, turned, value_elsewhere, sum_in-untouched, sum_at-absent, silence_alike, sum_where-le-total}
use Rattle.asp_weight.proofs.PassLaws.{passed_none, passed_more, passed_alike}
use Rattle.asp_weight.proofs.SilenceLaws.{weighed_at, positive_at, all_silent, one_speaks}
use Rattle.asp_weight.proofs.SpeechLaws.{speaks_not_silent, spoken_wanted, spoken_vars, spoken_excluded, excluded_entailed}

none : Tally
none = record { reached = 0; missed = 0; start = 0; queued = false }

-- ---- the rows' parts, for any number
fits_anywhere : (p : Program) (shapes : List Shape) (rows : List (List Item)) (w : ℕ) → AreRows p (weighed_bodies p) shapes rows → w < length rows → total_of (row_at rows w) < 2 ^ 63
fits_anywhere p shapes rows w r h = (r.row w (omega (arith, h, r.whole))).fits

-- ---- a variable gets a value
-- the sums with the value are those before with what the places weigh
sums_more : (p : Program) (a : List (Option Bool)) (shapes : List Shape) (rows : List (List Item)) (places : List (List Place)) (v w : ℕ) (t side : Bool) → ArePlaces shapes rows places →
    v < length a → value_of a v ≡ None → sum_where (holds_in (set a v (Some t))) side (row_at rows w) ≡ sum_where (holds_in a) side (row_at rows w) + sum_in w (turned side t) (places_at places v)
sums_more p a shapes rows places v w t side pl h n =
    sum_more a v t side (row_at rows w) h n ∙ ap (λ m. sum_where (holds_in a) side (row_at rows w) + m) (sym (pl.sums w v (turned side t)))

or_parts : (a b : Bool) → (a || b) ≡ false → (a ≡ false) × (b ≡ false)
or_parts true b e = absurd (false≢true (sym e))
or_parts false b e = (refl, e)

-- in a body that the variable's places don't touch it doesn't stand, so the literals have the values that they have with any value of it
alike_untouched : (p : Program) (a b : List (Option Bool)) (shapes : List Shape) (rows : List (List Item)) (places : List (List Place)) (v w : ℕ) →
    AreRows p (weighed_bodies p) shapes rows → ArePlaces shapes rows places →
    ((u : ℕ) → u ≢ v → value_of a u ≡ value_of b u) → w < length rows → touches w (places_at places v) ≡ false → All (λ i. value_of a i.lit.var ≡ value_of b i.lit.var) (row_at rows w)
alike_untouched p a b shapes rows places v w r pl alike h un k d l = alike (get_or (row_at rows w) k d).lit.var (absent k d l)
  where
    absent : All (λ (i : Item). i.lit.var ≢ v) (row_at rows w)
    absent =
        sum_at-absent v (row_at rows w) (r.row w (omega (arith, h, r.whole))).ordered.positive
        (sym (pl.sums w v true) ∙ sum_in-untouched w true (places_at places v) un) (sym (pl.sums w v false) ∙ sum_in-untouched w false (places_at places v) un)

-- and it is as silent
silence_untouched : (p : Program) (a b : List (Option Bool)) (shapes : List Shape) (rows : List (List Item)) (places : List (List Place)) (v w : ℕ) →
    AreRows p (weighed_bodies p) shapes rows → ArePlaces shapes rows places →
    ((u : ℕ) → u ≢ v → value_of a u ≡ value_of b u) → w < length rows → touches w (places_at places v) ≡ false →
    is_silent_row a (shape_at shapes w) (row_at rows w) ≡ is_silent_row b (shape_at shapes w) (row_at rows w)
silence_untouched p a b shapes rows places v w r pl alike h un =
    silence_alike a b (shape_at shapes w) (row_at rows w) (alike (shape_at shapes w).var other) (alike_untouched p a b shapes rows places v w r pl alike h un)
  where
    other : (shape_at shapes w).var ≢ v
    other e = false≢true (sym un ∙ (ap (λ u. touches w (places_at places u)) (sym e) ∙ pl.own w h))

within_tallies : (rows : List (List Item)) (places : List Place) (tallies : List Tally) → length tallies ≡ length rows →
    All (λ o. o.body < length rows) places → All (λ o. o.body < length tallies) places
within_tallies rows places tallies e a k d h = omega (arith, e, a k d h)

pub can_raise : (p : Program) (a : List (Option Bool)) (shapes : List Shape) (rows : List (List Item)) (places : List (List Place)) (tallies : List Tally) (v : ℕ) (t : Bool) →
    IsKept p a shapes rows places tallies → v ≤ var_count p → value_of a v ≡ None → CanRaise t tallies (places_at places v)
can_raise p a shapes rows places tallies v t k h n = record {
  within = within_tallies rows (places_at places v) tallies k.counted.whole (k.placed.within v);
  reached = λ w l. omega (
    arith,
    k.counted.reached w,
    sums_more p a shapes rows places v w t true k.placed small n,
    sum_where-le-total (holds_in (set a v (Some t))) true (row_at rows w),
    fits_anywhere p shapes rows w k.rowed (omega (arith, l, k.counted.whole)),
  );
  missed = λ w l. omega (
    arith,
    k.counted.missed w,
    sums_more p a shapes rows places v w t false k.placed small n,
    sum_where-le-total (holds_in (set a v (Some t))) false (row_at rows w),
    fits_anywhere p shapes rows w k.rowed (omega (arith, l, k.counted.whole)),
  );
}
  where
    small : v < length a
    small = omega (arith, h, k.sized)

pub assigned : (p : Program) (a : List (Option Bool)) (shapes : List Shape) (rows : List (List Item)) (places : List (List Place)) (tallies : List Tally) (v : ℕ) (t : Bool) →
    IsKept p a shapes rows places tallies → v ≤ var_count p → value_of a v ≡ None → IsKept p (set a v (Some t)) shapes rows places (raise_all t tallies (places_at places v))
assigned p a shapes rows places tallies v t k h n = record {
  sound = k.sound;
  few = k.few;
  sized = length-set a v (Some t) ∙ k.sized;
  rowed = k.rowed;
  placed = k.placed;
  counted = record {
    whole = length-raise_all t tallies (places_at places v) ∙ k.counted.whole;
    reached = λ w. raise_all-reached t tallies (places_at places v) w within
        ∙ (ap (λ m. m + sum_in w t (places_at places v)) (k.counted.reached w) ∙ sym (sums_more p a shapes rows places v w t true k.placed small n));
    missed = λ w. raise_all-missed t tallies (places_at places v) w within
        ∙ (ap (λ m. m + sum_in w (not t) (places_at places v)) (k.counted.missed w)
        ∙ sym (sums_more p a shapes rows places v w t false k.placed small n));
    passed = λ w l.
        subst (ArePassed (set a v (Some t)) (row_at rows w)) (sym (raise_all-start t tallies (places_at places v) w within))
        (passed_more a v t (row_at rows w) (tally_at tallies w).start small (k.counted.passed w l));
  };
  silence = λ w l q.
      let parts = or_parts (touches w (places_at places v)) (tally_at tallies w).queued (sym (raise_all-queued t tallies (places_at places v) w within) ∙ q) in
      silence_untouched p (set a v (Some t)) a shapes rows places v w k.rowed k.placed (λ u ne. value_elsewhere a v u (Some t) ne) l parts.0 ∙ k.silence w l parts.1;
}
  where
    small : v < length a
    small = omega (arith, h, k.sized)

    within : All (λ o. o.body < length tallies) (places_at places v)
    within = within_tallies rows (places_at places v) tallies k.counted.whole (k.placed.within v)

-- ---- a variable loses its value
-- the values are those without it, and it
with_it : (a : List (Option Bool)) (l : Literal) → holds_in a l ≡ true → a ≡ set (set a l.var None) l.var (Some l.truth)
with_it a l h =
    sym (set_set a l.var None (Some l.truth) ∙ (ap (set a l.var) (sym (valued (value_of a l.var) refl h)) ∙ set-get_or a l.var None))
  where
    valued : (o : Option Bool) → o ≡ value_of a l.var → agrees o l ≡ true → value_of a l.var ≡ Some l.truth
    valued None q e = absurd (false≢true e)
    valued (Some b) q e = sym q ∙ ap Some (beq_same b l.truth e)

none_there : (a : List (Option Bool)) (v : ℕ) → value_of (set a v None) v ≡ None
none_there [] v = refl
none_there (o ∷ a) zero = refl
none_there (o ∷ a) (suc v) = none_there a v

sums_less : (p : Program) (a : List (Option Bool)) (shapes : List Shape) (rows : List (List Item)) (places : List (List Place)) (l : Literal) (w : ℕ) (side : Bool) → ArePlaces shapes rows places →
    l.var < length a → holds_in a l ≡ true →
    sum_where (holds_in a) side (row_at rows w) ≡ sum_where (holds_in (set a l.var None)) side (row_at rows w) + sum_in w (turned side l.truth) (places_at places l.var)
sums_less p a shapes rows places l w side pl h e =
    ap (λ b. sum_where (holds_in b) side (row_at rows w)) (with_it a l e)
    ∙ sums_more p (set a l.var None) shapes rows places l.var w l.truth side pl (omega (arith, h, length-set a l.var None)) (none_there a l.var)

pub can_lower : (p : Program) (a : List (Option Bool)) (shapes : List Shape) (rows : List (List Item)) (places : List (List Place)) (tallies : List Tally) (l : Literal) →
    IsKept p a shapes rows places tallies → l.var ≤ var_count p → holds_in a l ≡ true → CanLower l.truth tallies (places_at places l.var)
can_lower p a shapes rows places tallies l k h e = record {
  within = within_tallies rows (places_at places l.var) tallies k.counted.whole (k.placed.within l.var);
  reached = λ w q. omega (arith, k.counted.reached w, sums_less p a shapes rows places l w true k.placed small e);
  missed = λ w q. omega (arith, k.counted.missed w, sums_less p a shapes rows places l w false k.placed small e);
}
  where
    small : l.var < length a
    small = omega (arith, h, k.sized)

pub undone : (p : Program) (a : List (Option Bool)) (shapes : List Shape) (rows : List (List Item)) (places : List (List Place)) (tallies : List Tally) (l : Literal) →
    IsKept p a shapes rows places tallies → l.var ≤ var_count p → holds_in a l ≡ true → IsKept p (set a l.var None) shapes rows places (lower_all l.truth tallies (places_at places l.var))
undone p a shapes rows places tallies l k h e = record {
  sound = k.sound;
  few = k.few;
  sized = length-set a l.var None ∙ k.sized;
  rowed = k.rowed;
  placed = k.placed;
  counted = record {
    whole = length-lower_all l.truth tallies (places_at places l.var) ∙ k.counted.whole;
    reached = λ w. omega (arith, lower_all-reached l.truth tallies (places_at places l.var) w within, k.counted.reached w, sums_less p a shapes rows places l w true k.placed small e);
    missed = λ w. omega (arith, lower_all-missed l.truth tallies (places_at places l.var) w within, k.counted.missed w, sums_less p a shapes rows places l w false k.placed small e);
    passed = λ w m. subst (ArePassed (set a l.var None) (row_at rows w)) (sym (lower_all-start l.truth tallies (places_at places l.var) w within))
        (passed w m (touches w (places_at places l.var)) refl);
  };
  silence = λ w m q.
      let parts = or_parts (touches w (places_at places l.var)) (tally_at tallies w).queued (sym (lower_all-queued l.truth tallies (places_at places l.var) w within) ∙ q) in
      silence_untouched p (set a l.var None) a shapes rows places l.var w k.rowed k.placed (λ u ne. value_elsewhere a l.var u None ne) m parts.0 ∙ k.silence w m parts.1;
}
  where
    small : l.var < length a
    small = omega (arith, h, k.sized)

    within : All (λ o. o.body < length tallies) (places_at places l.var)
    within = within_tallies rows (places_at places l.var) tallies k.counted.whole (k.placed.within l.var)

    passed : (w : ℕ) → w < length rows → (b : Bool) → b ≡ touches w (places_at places l.var) → ArePassed (set a l.var None) (row_at rows w) (cond b 0 (tally_at tallies w).start)
    passed w m true q = passed_none (set a l.var None) (row_at rows w)
    passed w m false q =
        passed_alike (set a l.var None) a (row_at rows w) (tally_at tallies w).start
        (alike_untouched p (set a l.var None) a shapes rows places l.var w k.rowed k.placed (λ u ne. value_elsewhere a l.var u None ne) m (sym q)) (k.counted.passed w m)

-- ---- the start
no_values : (n v : ℕ) → (let o : Option Bool = None in get_or (replicate n o) v o) ≡ None
no_values zero v = refl
no_values (suc n) zero = refl
no_values (suc n) (suc v) = no_values n v

nothing_holds : (a : List (Option Bool)) (side : Bool) (row : List Item) → ((v : ℕ) → value_of a v ≡ None) → sum_where (holds_in a) side row ≡ 0
nothing_holds a side [] f = refl
nothing_holds a side (i ∷ row) f =
    sum_by-cons (weight_if (holds_in a) side) i row
    ∙ (ap (λ o. cond (agrees o (on side i.lit)) i.weight 0 + sum_where (holds_in a) side row) (f (on side i.lit).var) ∙ (omega arith ∙ nothing_holds a side row f))

length-none : (n : ℕ) → (let o : Option Bool = None in length (replicate n o)) ≡ n
length-none n = grind (arith, common_steps)

fresh_at : (n w : ℕ) → ((tally_at (replicate n fresh) w).reached ≡ 0) × ((tally_at (replicate n fresh) w).missed ≡ 0) × ((tally_at (replicate n fresh) w).start ≡ 0)
fresh_at zero w = (refl, refl, refl)
fresh_at (suc n) zero = (refl, refl, refl)
fresh_at (suc n) (suc w) = fresh_at n w

fresh_queued : (n w : ℕ) → w < n → (tally_at (replicate n fresh) w).queued ≡ true
fresh_queued zero w h = absurd (omega (arith, h))
fresh_queued (suc n) zero h = refl
fresh_queued (suc n) (suc w) h = fresh_queued n w (omega (arith, h))

length-fresh : (n : ℕ) → length (replicate n fresh) ≡ n
length-fresh n = grind (arith, common_steps)

pub begun : (p : Program) (a : List (Option Bool)) (shapes : List Shape) (rows : List (List Item)) (places : List (List Place)) (tallies : List Tally) (n : ℕ) → IsSound p → var_count p < 2 ^ 31 →
    AreRows p (weighed_bodies p) shapes rows → ArePlaces shapes rows places → a ≡ replicate (var_count p + 1) None → tallies ≡ replicate n fresh →
    n ≡ length shapes → IsKept p a shapes rows places tallies
begun p a shapes rows places tallies n sound few r pl e f g = record {
  sound = sound;
  few = few;
  sized = ap length e ∙ length-none (var_count p + 1);
  rowed = r;
  placed = pl;
  counted = record {
    whole = ap length f ∙ (length-fresh n ∙ (g ∙ (r.shaped ∙ sym r.whole)));
    reached = λ w. ap (λ ts. (tally_at ts w).reached) f ∙ ((fresh_at n w).0 ∙ sym (nothing_holds a true (row_at rows w) all_none));
    missed = λ w. ap (λ ts. (tally_at ts w).missed) f ∙ ((fresh_at n w).1 ∙ sym (nothing_holds a false (row_at rows w) all_none));
    passed = λ w h. subst (ArePassed a (row_at rows w)) (sym (ap (λ ts. (tally_at ts w).start) f ∙ (fresh_at n w).2)) (passed_none a (row_at rows w));
  };
  silence = λ w h q. absurd (false≢true (sym q ∙ (ap (λ ts. (tally_at ts w).queued) f ∙ fresh_queued n w (omega (arith, h, g, r.shaped, r.whole)))));
}
  where
    all_none : (v : ℕ) → value_of a v ≡ None
    all_none v = ap (λ b. value_of b v) e ∙ no_values (var_count p + 1) v

-- ---- a look
pub are_ready : (p : Program) (a : List (Option Bool)) (shapes : List Shape) (rows : List (List Item)) (places : List (List Place))
    (tallies : List Tally) → IsKept p a shapes rows places tallies → AreReady a shapes rows
are_ready p a shapes rows places tallies k = record {
  shaped = k.rowed.shaped ∙ sym k.rowed.whole;
  each = λ w h.
      let r = k.rowed.row w (omega (arith, h, k.rowed.whole)) in
      record {
        var = omega (arith, r.small.1, k.sized);
        small = omega (arith, r.small.1, k.few);
        within = λ i d l. omega (arith, r.ordered.within i d l, k.sized);
        falling = r.ordered.falling;
        fits = r.fits;
        whole = omega (arith, r.miss);
      };
}

pub looked : (p : Program) (a b : List (Option Bool)) (shapes : List Shape) (rows : List (List Item)) (places : List (List Place))
    (tallies more : List Tally) → IsKept p a shapes rows places tallies → b ≡ a →
    AreCounted b rows more → AreSilentRows b shapes rows more → IsKept p a shapes rows places more
looked p a b shapes rows places tallies more k e c q = record {
  sound = k.sound;
  few = k.few;
  sized = k.sized;
  rowed = k.rowed;
  placed = k.placed;
  counted = subst (λ (x : List (Option Bool)). AreCounted x rows more) e c;
  silence = subst (λ (x : List (Option Bool)). AreSilentRows x shapes rows more) e q;
}

pub in_program : (p : Program) (w : ℕ) → w < length (weighed_bodies p) → (list_any (body_eq (nth_weighed p w)) (bodies_of p) ≡ true) × Stands (atoms_of p) (nth_weighed p w)
in_program p w h = (
  All-from_recursion (λ b. list_any (body_eq b) (bodies_of p) ≡ true) (weighed_bodies p)
      (each-filter (λ b. list_any (body_eq b) (bodies_of p) ≡ true) is_weighed (bodies_of p) (bodies_of-themselves p)) w (body.All []) h,
  All-from_recursion (Stands (atoms_of p)) (weighed_bodies p) (each-filter (Stands (atoms_of p)) is_weighed (bodies_of p) (bodies_of-stand p)) w (body.All []) h,
)

-- what is said of a body its definition excludes
pub excluded_by : (p : Program) (w : ℕ) (s : Shape) (row : List Item) (x : Speech) (a : List (Option Bool)) → IsSound p →
    w < length (weighed_bodies p) → IsRow p (nth_weighed p w) s row → Speaks x a s row →
    Excludes p (nth_weighed p w) (spoken x a s row)
excluded_by p w s row x a sound h r says = record {
  stands = (in_program p w h).0;
  broken = λ v hit. spoken_excluded p (nth_weighed p w) x.open x.side a s row (weighed_at p w h) (positive_at p w sound h) r says v hit;
}

pub given : (p : Program) (a : List (Option Bool)) (shapes : List Shape) (rows : List (List Item)) (w : ℕ) (x : Speech) (n : Nogood) → IsSound p →
    AreRows p (weighed_bodies p) shapes rows → w < length rows →
    Speaks x a (shape_at shapes w) (row_at rows w) → n.lits ≡ spoken x a (shape_at shapes w) (row_at rows w) → n.base ≡ base.Pure → IsGiven (record { program = p; values = a }) n
given p a shapes rows w x n sound r h s e f =
    record {
      base = f;
      entailed = subst (Entailed p) (sym e) (excluded_entailed p (nth_weighed p w) _ (in_program p w l).1 shown);
      within = subst (λ (ls : List Literal). All (λ l. IsVar (var_count p) l.var) ls) (sym e)
          (spoken_vars (var_count p) x.open x.side a (shape_at shapes w) (row_at rows w) s row.small row.ordered.within);
      wanted = ap (is_at_fixpoint a) e ∙ spoken_wanted x.open x.side a (shape_at shapes w) (row_at rows w) s;
      excluded = (nth_weighed p w, subst (Excludes p (nth_weighed p w)) (sym e) shown);
    }
  where
    l : w < length (weighed_bodies p)
    l = omega (arith, h, r.whole)

    row : IsRow p (nth_weighed p w) (shape_at shapes w) (row_at rows w)
    row = r.row w l

    shown : Excludes p (nth_weighed p w) (spoken x a (shape_at shapes w) (row_at rows w))
    shown = excluded_by p w (shape_at shapes w) (row_at rows w) x a sound l row s

-- ---- in the form of the code
pub kept_as : (p : Program) (a b : List (Option Bool)) (shapes : List Shape) (rows : List (List Item)) (places : List (List Place))
    (tallies more : List Tally) → IsKept p a shapes rows places tallies → b ≡ a → more ≡ tallies →
    IsKept p b shapes rows places more
kept_as p a b shapes rows places tallies more k e f =
    subst (λ (ts : List Tally). IsKept p b shapes rows places ts) (sym f) (subst (λ (x : List (Option Bool)). IsKept p x shapes rows places tallies) (sym e) k)

-- each weight body has a variable
pub few_rows : (p : Program) → length (weighed_bodies p) ≤ length (apart_bodies p)
few_rows p = fewer (bodies_of p)
  where
    or_more : (t : Bool) (b : Body) (n : ℕ) (bs : List Body) → n ≤ length bs → n ≤ length (cond t (b ∷ bs) bs)
    or_more true b n bs le = omega (arith, le)
    or_more false b n bs le = le

    one_more : (b : Body) (bs : List Body) → length (filter is_weighed bs) ≤ length (filter (is_apart p) bs) → length (filter is_weighed (b ∷ bs)) ≤ length (filter (is_apart p) (b ∷ bs))
    one_more (body.All literals) bs le = or_more (is_apart p (body.All literals)) (body.All literals) (length (filter is_weighed bs)) (filter (is_apart p) bs) le
    one_more (body.AtLeast bound items) bs le = omega (arith, le)

    fewer : (bs : List Body) → length (filter is_weighed bs) ≤ length (filter (is_apart p) bs)
    fewer [] = omega arith
    fewer (b ∷ bs) = one_more b bs (fewer bs)

pub have_room : (p : Program) (vars : ℕ) (shapes also : List Shape) (rows : List (List Item)) → var_count p < 2 ^ 31 →
    AreRows p (weighed_bodies p) shapes rows → vars ≡ var_count p → also ≡ shapes → HaveRoom vars also rows
have_room p vars shapes also rows few r e f = subst (λ (ss : List Shape). HaveRoom vars ss rows) (sym f) (record {
  shaped = r.shaped ∙ sym r.whole;
  few = omega (arith, r.whole, few_rows p, few);
  own = λ w h. omega (arith, (r.row w (omega (arith, h, r.whole))).small.1, e);
  within = λ w h k d l. omega (arith, ((r.row w (omega (arith, h, r.whole))).ordered.within k d l).1, e);
})

pub begun_as : (p q : Program) (a : List (Option Bool)) (shapes also : List Shape) (rows : List (List Item)) (places : List (List Place))
    (tallies : List Tally) (n vars : ℕ) → IsSound p → var_count p < 2 ^ 31 →
    AreRows p (weighed_bodies p) shapes rows → ArePlaces also rows places → also ≡ shapes → a ≡ replicate (vars + 1) None → vars ≡ var_count p →
    tallies ≡ replicate n fresh → n ≡ length shapes → q ≡ p →
    IsKept q a shapes rows places tallies
begun_as p q a shapes also rows places tallies n vars sound few r pl s e v f g same =
    subst (λ (x : Program). IsKept x a shapes rows places tallies) (sym same)
    (begun p a shapes rows places tallies n sound few r (subst (λ (ss : List Shape). ArePlaces ss rows places) s pl) (e ∙ ap (λ m. replicate (m + 1) None) v) f g)

-- with no body queued all are silent
pub silent_when_none : (p : Program) (a : List (Option Bool)) (shapes : List Shape) (rows : List (List Item)) (places : List (List Place))
    (tallies : List Tally) → IsKept p a shapes rows places tallies →
    All (λ t. t.queued ≡ false) tallies → is_silent p a ≡ true
silent_when_none p a shapes rows places tallies k none_queued =
    all_silent p a shapes rows k.sound k.rowed (λ w h. k.silence w h (none_queued w (record { reached = 0; missed = 0; start = 0; queued = false }) (omega (arith, h, k.counted.whole))))

pub not_silent : (p : Program) (a : List (Option Bool)) (shapes : List Shape) (rows : List (List Item)) (places : List (List Place))
    (tallies : List Tally) (w : ℕ) (x : Speech) → IsKept p a shapes rows places tallies →
    w < length rows → Speaks x a (shape_at shapes w) (row_at rows w) → is_silent p a ≡ false
not_silent p a shapes rows places tallies w x k h s = one_speaks p a shapes rows w k.sound k.rowed h (speaks_not_silent x a (shape_at shapes w) (row_at rows w) s)

pub none_said : (p : Program) (a b : List (Option Bool)) (shapes also : List Shape) (rows : List (List Item)) (places : List (List Place))
    (tallies more : List Tally) → IsKept p a shapes rows places tallies → b ≡ a → also ≡ shapes →
    AreCounted b rows more → AreSilentRows b also rows more → All (λ t. t.queued ≡ false) more → is_silent p a ≡ true
none_said p a b shapes also rows places tallies more k e f c q none_queued =
    silent_when_none p a shapes rows places more (looked p a b shapes rows places tallies more k e c (subst (λ (ss : List Shape). AreSilentRows b ss rows more) f q)) none_queued

-- what was said of a body is a nogood of the program
pub one_said : (p : Program) (a b : List (Option Bool)) (shapes also : List Shape) (rows : List (List Item)) (places : List (List Place))
    (tallies : List Tally) (w : ℕ) (x : Speech) (s : Shape) (row : List Item) (n : Nogood) →
    IsKept p a shapes rows places tallies → b ≡ a → also ≡ shapes → (w < length rows) × Speaks x b (shape_at also w) (row_at rows w) →
    s ≡ get_or shapes w s → row ≡ row_at rows w → n.lits ≡ spoken x b s row → n.base ≡ base.Pure →
    (is_silent p a ≡ false) × IsGiven (record { program = p; values = a }) n
one_said p a b shapes also rows places tallies w x s row n k e f h i j l m =
    (not_silent p a shapes rows places tallies w x k h.0 said, given p a shapes rows w x n k.sound k.rowed h.0 said lits m)
  where
    said : Speaks x a (shape_at shapes w) (row_at rows w)
    said = subst (λ (v : List (Option Bool)). Speaks x v (shape_at shapes w) (row_at rows w)) e (subst (λ (ss : List Shape). Speaks x b (shape_at ss w) (row_at rows w)) f h.1)

    shape : s ≡ shape_at shapes w
    shape = get_or_read shapes w s (omega (arith, h.0, k.rowed.shaped, k.rowed.whole)) i (record { var = 0; reach = 0; miss = 0 })

    lits : n.lits ≡ spoken x a (shape_at shapes w) (row_at rows w)
    lits = l ∙ (ap (λ v. spoken x v s row) e ∙ (ap (λ y. spoken x a y row) shape ∙ ap (spoken x a (shape_at shapes w)) j))
