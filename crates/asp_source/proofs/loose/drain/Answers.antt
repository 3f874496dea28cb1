use Rattle.std.proofs.Common.{◌≡◌, ◌≢◌, ℕ, ◌+◌, ◌-◌, ◌<◌, Bool, true, false, cond, eqb, List, length, set, refl, sym, ap, ◌∙◌, arith, ◌⊎◌, inl, inr, get_or-set_other, get_or-set_same}
use Rattle.std.proofs.lemmas.Bool.{false≢true, eqb-true, eq-eqb}
use Rattle.std.proofs.lemmas.List.{length-set}
use Rattle.asp_source.specs.Marks.{is_marked, requeue_places}
use Rattle.asp_source.specs.Marks.{AreBlank}
use Rattle.asp_source.proofs.LooseLaws.{unset_marked}
use Rattle.asp_source.proofs.ChangeLaws.{set_marked}
use Rattle.asp_source.proofs.loose.drain.Goals as goal

same_room : (queue loose : List Bool) (v : ℕ) → length (requeue_places queue loose v) ≡ length queue
same_room queue loose v = cases (is_marked loose v)
  where
    cases : (b : Bool) → length (cond b (set queue (v - 1) true) queue) ≡ length queue
    cases true = length-set queue (v - 1) true
    cases false = refl

still_queued : (queue loose : List Bool) (v k : ℕ) → is_marked queue k ≡ true → is_marked (requeue_places queue loose v) k ≡ true
still_queued queue loose v k e = cases (is_marked loose v)
  where
    cases : (b : Bool) → is_marked (cond b (set queue (v - 1) true) queue) k ≡ true
    cases true = set_marked queue (v - 1) k e
    cases false = e

newly_queued : (queue loose : List Bool) (v : ℕ) → v - 1 < length queue → is_marked loose v ≡ true → is_marked (requeue_places queue loose v) (v - 1) ≡ true
newly_queued queue loose v lt e =
    ap (λ (b : Bool). is_marked (cond b (set queue (v - 1) true) queue) (v - 1)) e ∙ get_or-set_same queue (v - 1) true false lt

-- where no atom was a candidate none is queued
none_queued : (queue loose first : List Bool) (v : ℕ) → ((w : ℕ) → is_marked loose w ≡ true → is_marked first w ≡ true) → AreBlank first → requeue_places queue loose v ≡ queue
none_queued queue loose first v less blank = cases (is_marked loose v) refl
  where
    cases : (b : Bool) → b ≡ is_marked loose v → requeue_places queue loose v ≡ queue
    cases true q = absurd (false≢true (sym (blank v) ∙ less v (sym q)))
    cases false q = ap (λ (b : Bool). cond b (set queue (v - 1) true) queue) (sym q)

-- a mark that is left was there before
left_before : (loose l : List Bool) (v w : ℕ) → l ≡ set loose v false → is_marked l w ≡ true → is_marked loose w ≡ true
left_before loose l v w is e = unset_marked loose v w (sym (ap (λ (m : List Bool). is_marked m w) is) ∙ e)

-- a mark that is left stands elsewhere
elsewhere : (loose l : List Bool) (v w : ℕ) → v < length loose → l ≡ set loose v false → is_marked l w ≡ true → w ≢ v
elsewhere loose l v w lt is e z =
    false≢true (sym (get_or-set_same loose v false false lt) ∙ (ap (is_marked (set loose v false)) (sym z) ∙ (sym (ap (λ (m : List Bool). is_marked m w) is) ∙ e)))

-- a place leaves those that joined, and its atom's mark goes
listed_less : (loose joined l j : List Bool) (k v : ℕ) → k + 1 < length loose → l ≡ set loose (k + 1) false → j ≡ set joined k false →
    ((w : ℕ) → is_marked loose w ≡ true → (0 < w) × (is_marked joined (w - 1) ≡ true)) → is_marked l v ≡ true → (0 < v) × (is_marked j (v - 1) ≡ true)
listed_less loose joined l j k v lt is left listed e =
    let before = listed v (left_before loose l (k + 1) v is e) in
    let ne = elsewhere loose l (k + 1) v lt is e in
    let positive = before.0 in
    (positive, ap (λ (m : List Bool). is_marked m (v - 1)) left ∙ (get_or-set_other joined k (v - 1) false false (λ i. ne (omega (arith, i, positive))) ∙ before.1))

queued_more : (queue loose q l : List Bool) (k v : ℕ) → k < length queue → q ≡ requeue_places queue loose (k + 1) → l ≡ set loose (k + 1) false →
    (is_marked queue (v - 1) ≡ true) ⊎ (is_marked loose v ≡ true) → (is_marked q (v - 1) ≡ true) ⊎ (is_marked l v ≡ true)
queued_more queue loose q l k v lt is less before = elim before [
  | inl there ↦ inl (ap (λ (m : List Bool). is_marked m (v - 1)) is ∙ still_queued queue loose (k + 1) (v - 1) there)
  | inr marked ↦ cases marked (eqb v (k + 1)) refl
]
  where
    cases : is_marked loose v ≡ true → (b : Bool) → b ≡ eqb v (k + 1) → (is_marked q (v - 1) ≡ true) ⊎ (is_marked l v ≡ true)
    cases marked true e =
        let same : v ≡ k + 1 = eqb-true v (k + 1) (sym e) in
        inl (ap (λ (m : List Bool). is_marked m (v - 1)) is
        ∙ (ap (λ w. is_marked (requeue_places queue loose (k + 1)) (w - 1)) same
        ∙ newly_queued queue loose (k + 1) (omega (arith, lt)) (ap (is_marked loose) (sym same) ∙ marked)))
    cases marked false e =
        inr (ap (λ (m : List Bool). is_marked m v) less ∙ (get_or-set_other loose (k + 1) v false false (λ i. false≢true (e ∙ eq-eqb v (k + 1) i)) ∙ marked))

pub loop-place-init : goal.loop-place-init
loop-place-init c = record { room = refl; seats = refl; listed = c.requires.listed; more = λ k e. e; queued = λ v e. inr e; less = λ v e. e; same = λ blank. refl }

pub loop-place-preserved : goal.loop-place-preserved
loop-place-preserved c =
    let within : c.in-Some.place < length c.loop-place.joined = c.in-Some.ensures.within in
    let fits : c.in-Some.place < length c.loop-place.queue = omega (arith, within, c.requires.joined, c.loop-place.invariant.room, c.loop-place.invariant.seats) in
    let marks : c.in-Some.place + 1 < length c.loop-place.loose = omega (arith, fits, c.requires.queue, c.loop-place.invariant.room, c.loop-place.auto.loose) in
    record {
      room = ap length c.requeue.ensures.queue ∙ (same_room c.loop-place.queue c.loop-place.loose (c.in-Some.place + 1) ∙ c.loop-place.invariant.room);
      seats = ap length c.in-Some.ensures.some ∙ (length-set c.loop-place.joined c.in-Some.place false ∙ c.loop-place.invariant.seats);
      listed = λ v e. listed_less c.loop-place.loose c.loop-place.joined c.requeue.new.loose c.pop.new.self c.in-Some.place v marks
          c.requeue.ensures.loose c.in-Some.ensures.some c.loop-place.invariant.listed e;
      more = λ k e. ap (λ (m : List Bool). is_marked m k) c.requeue.ensures.queue ∙ still_queued c.loop-place.queue c.loop-place.loose (c.in-Some.place + 1) k (c.loop-place.invariant.more k e);
      queued = λ v e. queued_more c.loop-place.queue c.loop-place.loose c.requeue.new.queue c.requeue.new.loose c.in-Some.place v fits
          c.requeue.ensures.queue c.requeue.ensures.loose (c.loop-place.invariant.queued v e);
      less = λ v e. c.loop-place.invariant.less v (left_before c.loop-place.loose c.requeue.new.loose (c.in-Some.place + 1) v c.requeue.ensures.loose e);
      same = λ blank. c.requeue.ensures.queue
          ∙ (none_queued c.loop-place.queue c.loop-place.loose c.args.loose.now (c.in-Some.place + 1) c.loop-place.invariant.less blank
          ∙ c.loop-place.invariant.same blank);
    }
