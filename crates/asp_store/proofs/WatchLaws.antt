-- Reasons and watches, where a trail grows and where it is cut to a level.
use Rattle.std.proofs.Common.{◌≡◌, ℕ, suc, zero, ◌<◌, ◌≤◌, Bool, true, false, cond, leb, List, [], ◌∷◌, ◌++◌, length, None, get_or, take, min, refl, sym, ap, ◌∙◌, subst, arith}
use Rattle.std.specs.List.{All, AllPairs}
use Rattle.std.proofs.lemmas.Bool.Decides.{nat_tests}
use Rattle.std.proofs.lemmas.Grind.{common_steps}
use Rattle.std.proofs.lemmas.List.{length-append, get_or_append_left, get_or-take}
use Rattle.asp_vars.specs.Literals.{Literal, complement}
use Rattle.asp_trail.specs.declared.trail.Entry.{Entry}
use Rattle.asp_trail.specs.Entries.{cut}
use Rattle.asp_trail.specs.Reasons.{Stands, IsReason}
use Rattle.asp_store.specs.Fitting.{IsFalseBy, HasFalse, Watches, IsWatched}
use Rattle.asp_store.specs.declared.watch.Pair.{Pair}

length-take_le : {X : Type 0} → (k : ℕ) (xs : List X) → k ≤ length xs → length (take k xs) ≡ k
length-take_le k xs h = grind (arith, common_steps)

pub stands_grow : (es fs : List Entry) (l : Literal) (i b : ℕ) → Stands es l i b → Stands (es ++ fs) l i b
stands_grow es fs l i b s = record {
  within = omega (arith, s.within, length-append es fs);
  lit = λ d. ap (λ e. e.lit) (get_or_append_left es fs d i s.within) ∙ s.lit d;
  level = λ d. ap (λ e. e.level) (get_or_append_left es fs d i s.within) ∙ s.level d;
}

pub stands_before : (es fs : List Entry) (l : Literal) (i b : ℕ) → i < length es → Stands (es ++ fs) l i b → Stands es l i b
stands_before es fs l i b h s = record {
  within = h;
  lit = λ d. ap (λ e. e.lit) (sym (get_or_append_left es fs d i h)) ∙ s.lit d;
  level = λ d. ap (λ e. e.level) (sym (get_or_append_left es fs d i h)) ∙ s.level d;
}

pub false_grow : (es fs : List Entry) (l : Literal) (b : ℕ) → IsFalseBy es l b → IsFalseBy (es ++ fs) l b
false_grow es fs l b f = (f.0, f.1, f.2, stands_grow es fs (complement l) f.0 f.1 f.3)

pub has_false_grow : (es fs : List Entry) (n : List Literal) (b : ℕ) → HasFalse es n b → HasFalse (es ++ fs) n b
has_false_grow es fs n b f = (f.0, f.1, false_grow es fs f.0 b f.2)

-- where entries are added, watches stay
pub watches_grow : (es fs : List Entry) (seen : ℕ) (n : List Literal) (w : Literal) → seen ≤ length es → Watches es seen n w → Watches (es ++ fs) seen n w
watches_grow es fs seen n w k t i b h s = has_false_grow es fs n b (t i b h (stands_before es fs w i b (omega arith) s))

pub watched_grow : (es fs : List Entry) (seen : ℕ) (n : List Literal) (p : Pair) → seen ≤ length es → IsWatched n p es seen → IsWatched n p (es ++ fs) seen
watched_grow es fs seen n p k t = record {
  has = t.has;
  differ = t.differ;
  watches = λ l o. watches_grow es fs seen n l k (t.watches l o);
}

pub reason_grow : (es fs : List Entry) (i : ℕ) (l : Literal) (n : List Literal) → IsReason es i l n → IsReason (es ++ fs) i l n
reason_grow es fs i l n r = record {
  has = r.has;
  others = λ k h ne. let o = r.others k h ne in (o.0, o.1, o.2, stands_grow es fs k o.0 o.1 o.3);
}

-- ---- a cut leaves the front of the entries whose levels are small enough
pub record IsFront (l k : ℕ) (es : List Entry) : Type 0 where
  pub is : cut l es ≡ take k es
  pub fits : k ≤ length es
  pub low : (i : ℕ) (d : Entry) → i < length es → (get_or es i d).level ≤ l → i < k
  pub high : (i : ℕ) (d : Entry) → i < k → (get_or es i d).level ≤ l

pub front : (l : ℕ) (es : List Entry) → AllPairs (λ e f. e.level ≤ f.level) es → (k : ℕ) × IsFront l k es
front l [] r = (0, record { is = refl; fits = omega arith; low = λ i d h m. absurd (omega arith); high = λ i d h. absurd (omega arith) })
front l (e ∷ es) r = cases (leb e.level l) refl (front l es (λ i j d a b. r (suc i) (suc j) d (omega arith) (omega arith)))
  where
    none : (fs : List Entry) → All (λ f. e.level ≤ f.level) fs → leb e.level l ≡ false → cut l fs ≡ []
    none [] a q = refl
    none (f ∷ fs) a q =
        let above : e.level ≤ f.level = a 0 f (omega arith) in
        let no : leb f.level l ≡ false = grind (arith, nat_tests) in
        ap (λ b. cond b (f ∷ cut l fs) (cut l fs)) no ∙ none fs (λ i d h. a (suc i) d (omega arith)) q

    cases : (b : Bool) → b ≡ leb e.level l → (k : ℕ) × IsFront l k es → (k : ℕ) × IsFront l k (e ∷ es)
    cases true q f =
        let small : e.level ≤ l = grind (arith, nat_tests) in (
          suc f.0,
          record {
            is = ap (λ b. cond b (e ∷ cut l es) (cut l es)) (sym q) ∙ ap (λ fs. e ∷ fs) f.1.is;
            fits = omega (arith, f.1.fits);
            low = λ i d h m. below i d h m;
            high = λ i d h. upto i d h small;
          },
        )
      where
        below : (i : ℕ) (d : Entry) → i < length (e ∷ es) → (get_or (e ∷ es) i d).level ≤ l → i < suc f.0
        below zero d h m = omega arith
        below (suc i) d h m = omega (arith, f.1.low i d (omega arith) m)

        upto : (i : ℕ) (d : Entry) → i < suc f.0 → e.level ≤ l → (get_or (e ∷ es) i d).level ≤ l
        upto zero d h s = s
        upto (suc i) d h s = f.1.high i d (omega arith)
    cases false q f = (
      0,
      record {
        is = ap (λ b. cond b (e ∷ cut l es) (cut l es)) (sym q) ∙ none es (λ i d h. r 0 (suc i) d (omega arith) (omega arith)) (sym q);
        fits = omega arith;
        low = λ i d h m. absurd (over i d h m);
        high = λ i d h. absurd (omega arith);
      },
    )
      where
        over : (i : ℕ) (d : Entry) → i < length (e ∷ es) → (get_or (e ∷ es) i d).level ≤ l → ⊥
        over zero d h m = let big : l < e.level = grind (arith, nat_tests) in omega arith
        over (suc i) d h m = let big : l < e.level = grind (arith, nat_tests) in omega (arith, r 0 (suc i) d (omega arith) (omega arith))

stands_take : (k : ℕ) (es : List Entry) (l : Literal) (i b : ℕ) → k ≤ length es → i < k → Stands es l i b → Stands (take k es) l i b
stands_take k es l i b f h s = record {
  within = omega (arith, length-take_le k es f);
  lit = λ d. ap (λ e. e.lit) (get_or-take k es i d h) ∙ s.lit d;
  level = λ d. ap (λ e. e.level) (get_or-take k es i d h) ∙ s.level d;
}

stands_untake : (k : ℕ) (es : List Entry) (l : Literal) (i b : ℕ) → k ≤ length es → Stands (take k es) l i b → Stands es l i b
stands_untake k es l i b f s =
    let h : i < k = omega (arith, s.within, length-take_le k es f) in
    record {
      within = omega (arith, h);
      lit = λ d. ap (λ e. e.lit) (sym (get_or-take k es i d h)) ∙ s.lit d;
      level = λ d. ap (λ e. e.level) (sym (get_or-take k es i d h)) ∙ s.level d;
    }

-- where a trail is cut to a level, what is false at that level or below stays so
false_front : (l k : ℕ) (es : List Entry) (v : Literal) (b : ℕ) → IsFront l k es → b ≤ l → IsFalseBy es v b → IsFalseBy (take k es) v b
false_front l k es v b f le was =
    let d : Entry = record { lit = v; level = 0; reason = None } in
    let in_front : was.0 < k = f.low was.0 d was.3.within (omega (arith, was.3.level d, was.2, le)) in
    (was.0, was.1, was.2, stands_take k es (complement v) was.0 was.1 f.fits in_front was.3)

pub false_cut : (l : ℕ) (es : List Entry) (v : Literal) (b : ℕ) → AllPairs (λ e f. e.level ≤ f.level) es → b ≤ l → IsFalseBy es v b → IsFalseBy (cut l es) v b
false_cut l es v b r le was =
    let f = front l es r in
    subst (λ (xs : List Entry). IsFalseBy xs v b) (sym f.1.is) (false_front l f.0 es v b f.1 le was)

pub has_false_cut : (l : ℕ) (es : List Entry) (n : List Literal) (b : ℕ) → AllPairs (λ e f. e.level ≤ f.level) es → b ≤ l → HasFalse es n b → HasFalse (cut l es) n b
has_false_cut l es n b r le f = (f.0, f.1, false_cut l es f.0 b r le f.2)

-- where a trail is cut to a level, watches stay
pub watches_cut : (l : ℕ) (es : List Entry) (seen : ℕ) (n : List Literal) (w : Literal) → AllPairs (λ e f. e.level ≤ f.level) es → Watches es seen n w →
    Watches (cut l es) (min seen (length (cut l es))) n w
watches_cut l es seen n w r t =
    let f = front l es r in
    let P : List Entry → Type 0 = λ fs. Watches fs (min seen (length fs)) n w in
    subst P (sym f.1.is) (λ i b h s. kept f.0 f.1 i b (omega (arith, h, length-take_le f.0 es f.1.fits)) (omega (arith, h, length-take_le f.0 es f.1.fits)) s)
  where
    kept : (k : ℕ) → IsFront l k es → (i b : ℕ) → i < seen → i < k → Stands (take k es) w i b → HasFalse (take k es) n b
    kept k f i b h g s =
        let old = stands_untake k es w i b f.fits s in
        let d : Entry = record { lit = w; level = 0; reason = None } in
        let was = t i b h old in
        (was.0, was.1, false_front l k es was.0 b f (omega (arith, old.level d, f.high i d g)) was.2)

pub watched_cut : (l : ℕ) (es : List Entry) (seen : ℕ) (n : List Literal) (p : Pair) → AllPairs (λ e f. e.level ≤ f.level) es → IsWatched n p es seen →
    IsWatched n p (cut l es) (min seen (length (cut l es)))
watched_cut l es seen n p r t = record {
  has = t.has;
  differ = t.differ;
  watches = λ k o. watches_cut l es seen n k r (t.watches k o);
}

-- and so does a reason whose literal is left
pub reason_cut : (c : ℕ) (es : List Entry) (i : ℕ) (l : Literal) (n : List Literal) → AllPairs (λ e f. e.level ≤ f.level) es → i < length (cut c es) →
    IsReason es i l n → IsReason (cut c es) i l n
reason_cut c es i l n r h q =
    let f = front c es r in
    let P : List Entry → Type 0 = λ fs. i < length fs → IsReason fs i l n in
    subst P (sym f.1.is) (λ g. record {
      has = q.has;
      others = λ k m ne. let o = q.others k m ne in
          (o.0, o.1, o.2, stands_take f.0 es k o.0 o.1 f.1.fits (omega (arith, o.2, g, length-take_le f.0 es f.1.fits)) o.3);
    }) h

-- what is left by a cut stands where it stood
pub cut_at : (l : ℕ) (es : List Entry) (i : ℕ) (d : Entry) → AllPairs (λ e f. e.level ≤ f.level) es → i < length (cut l es) → (i < length es) × (get_or (cut l es) i d ≡ get_or es i d)
cut_at l es i d r h =
    let f = front l es r in
    let k : i < f.0 = omega (arith, h, ap (length {A = Entry}) f.1.is, length-take_le f.0 es f.1.fits) in
    (omega (arith, k, f.1.fits), ap (λ (xs : List Entry). get_or xs i d) f.1.is ∙ get_or-take f.0 es i d k)
