-- Marks, their literals and their numbers.
use Rattle.std.proofs.Common.{◌≡◌, ◌≢◌, ℕ, suc, zero, ◌+◌, ◌-◌, ◌<◌, ◌≤◌, Bool, true, false, cond, eqb, List, [], ◌∷◌, ◌++◌, length, replicate, set, get_or, take, None, count_by, refl, sym, ap, ◌∙◌, subst, arith, get_or-set_other, get_or-set_same}
use Rattle.std.specs.List.{All}
use Rattle.std.proofs.lemmas.Bool.{eqb-true, false≢true}
use Rattle.std.proofs.lemmas.Bool.Decides.{nat_tests}
use Rattle.std.proofs.lemmas.Grind.{common_steps}
use Rattle.std.proofs.lemmas.List.{length-append, length-set, take_more}
use Rattle.asp_trail.specs.declared.trail.Entry.{Entry}
use Rattle.asp_analyze.specs.Way.{AreUpTo}
use Rattle.std.proofs.lemmas.List.Elements.{All-push}
use Rattle.std.proofs.lemmas.List.Folds.{sum_by-replicate}
use Rattle.std.proofs.lemmas.List.Sums.{sum_by-set}
use Rattle.asp_vars.specs.Literals.{Literal, has_literal}
use Rattle.asp_analyze.specs.declared.marks.Mark.{Mark}
use Rattle.asp_analyze.specs.declared.marks.Mark.TheVariants as mark
use Rattle.asp_analyze.specs.Marks.{mark_of, is_clean, is_pending, ones, AreMarks, Cleaned}
use Rattle.asp_analyze.proofs.LitLaws.{all_has, has_last, has_more}

pub mark_set_same : (marks : List Mark) (v : ℕ) (m : Mark) → v < length marks → mark_of (set marks v m) v ≡ m
mark_set_same marks v m h = get_or-set_same marks v m mark.Clean h

pub mark_set_other : (marks : List Mark) (v w : ℕ) (m : Mark) → w ≢ v → mark_of (set marks v m) w ≡ mark_of marks w
mark_set_other marks v w m ne = get_or-set_other marks v w m mark.Clean ne

abbrev clear_ones : Mark → ℕ
clear_ones m = cond (is_clean m) 1 0

clean_ones : (m : Mark) → is_clean m ≡ true → ones m ≡ 0
clean_ones mark.Clean h = refl
clean_ones mark.Pending h = absurd (false≢true h)
clean_ones mark.Zero h = absurd (false≢true h)
clean_ones mark.Kept h = absurd (false≢true h)
clean_ones mark.Resolved h = absurd (false≢true h)
clean_ones mark.Needed h = absurd (false≢true h)

-- a listed variable
listed_after : (marks : List Mark) (lits more : List Literal) (v : ℕ) (m : Mark) → v < length marks → ((l : Literal) → has_literal lits l ≡ true → has_literal more l ≡ true) →
    (l : Literal) × (has_literal more l ≡ true) × (l.var ≡ v) →
    ((w : ℕ) → is_clean (mark_of marks w) ≡ false → (l : Literal) × (has_literal lits l ≡ true) × (l.var ≡ w)) →
    (w : ℕ) → is_clean (mark_of (set marks v m) w) ≡ false → (l : Literal) × (has_literal more l ≡ true) × (l.var ≡ w)
listed_after marks lits more v m h grow here old w c = cases (eqb w v) refl
  where
    cases : (b : Bool) → b ≡ eqb w v → (l : Literal) × (has_literal more l ≡ true) × (l.var ≡ w)
    cases true q = (here.0, here.1, here.2 ∙ sym (eqb-true w v (sym q)))
    cases false q =
        let ne : w ≢ v = grind (arith, nat_tests) in
        let f = old w (sym (ap is_clean (mark_set_other marks v w m ne)) ∙ c) in
        (f.0, grow f.0 f.1, f.2)

pub marks_added : (marks : List Mark) (lits : List Literal) (p room more : ℕ) (l : Literal) (m : Mark) → AreMarks marks lits p room → room ≤ more → l.var < length marks →
    is_clean (mark_of marks l.var) ≡ true → is_clean m ≡ false → AreMarks (set marks l.var m) (lits ++ l ∷ []) (p + ones m) more
marks_added marks lits p room more l m a r h c k = record {
  counted = omega (
    arith,
    a.counted,
    length-append lits (l ∷ []),
    length-set marks l.var m,
    sum_by-set clear_ones marks l.var m mark.Clean h,
    ap {B = ℕ} (λ (b : Bool). cond b 1 0) c,
    ap {B = ℕ} (λ (b : Bool). cond b 1 0) k,
  );
  waiting = omega (arith, a.waiting, sum_by-set ones marks l.var m mark.Clean h, clean_ones (mark_of marks l.var) c);
  roomy = omega (arith, a.roomy, r, length-set marks l.var m);
  listed = listed_after marks lits (lits ++ l ∷ []) l.var m h (has_more lits (l ∷ [])) (l, has_last lits l, refl) a.listed;
  small = All-push (λ k. k.var < length (set marks l.var m)) lits l (λ i d g. omega (arith, a.small i d g, length-set marks l.var m)) (omega (arith, h, length-set marks l.var m));
}

-- ---- all marks are taken away
all_clean : (marks : List Mark) → ((v : ℕ) → is_clean (mark_of marks v) ≡ true) → marks ≡ replicate (length marks) mark.Clean
all_clean [] f = refl
all_clean (m ∷ marks) f = ap (λ (x : Mark). x ∷ marks) (same m (f 0)) ∙ ap (λ (xs : List Mark). mark.Clean ∷ xs) (all_clean marks (λ v. f (suc v)))
  where
    same : (x : Mark) → is_clean x ≡ true → x ≡ mark.Clean
    same mark.Clean h = refl
    same mark.Pending h = absurd (false≢true h)
    same mark.Zero h = absurd (false≢true h)
    same mark.Kept h = absurd (false≢true h)
    same mark.Resolved h = absurd (false≢true h)
    same mark.Needed h = absurd (false≢true h)

pub marks_cleaned : (old new : List Mark) (lits : List Literal) (p room : ℕ) → AreMarks old lits p room → Cleaned old new lits → new ≡ replicate (length new) mark.Clean
marks_cleaned old new lits p room a c = all_clean new (λ v. at v (is_clean (mark_of old v)) refl)
  where
    at : (v : ℕ) (b : Bool) → b ≡ is_clean (mark_of old v) → is_clean (mark_of new v) ≡ true
    at v true q = c.others v (sym q)
    at v false q =
        let f = a.listed v (sym q) in
        sym (ap (λ (w : ℕ). is_clean (mark_of new w)) f.2) ∙ all_has (λ l. is_clean (mark_of new l.var) ≡ true) lits f.0 c.gone f.1

pub marks_none : (n room : ℕ) → n ≤ room → AreMarks (replicate n mark.Clean) [] 0 room
marks_none n room h = record {
  counted = cleans n;
  waiting = sym (pendings n);
  roomy = omega (arith, h, len n);
  listed = λ v c. absurd (false≢true (sym c ∙ clean n v));
  small = λ i d g. absurd (omega (arith, g));
}
  where
    len : (k : ℕ) → length (replicate k mark.Clean) ≡ k
    len k = grind (arith, common_steps)

    cleans : (k : ℕ) → 0 + count_by is_clean (replicate k mark.Clean) ≡ length (replicate k mark.Clean)
    cleans k = omega (arith, sum_by-replicate clear_ones k mark.Clean, len k)

    pendings : (k : ℕ) → count_by is_pending (replicate k mark.Clean) ≡ 0
    pendings k = omega (arith, sum_by-replicate ones k mark.Clean)

    clean : (k v : ℕ) → is_clean (mark_of (replicate k mark.Clean) v) ≡ true
    clean zero v = refl
    clean (suc k) zero = refl
    clean (suc k) (suc v) = clean k v

-- ---- the greatest variable
pub up_to_more : (es : List Entry) (i n m : ℕ) (l : Literal) → i < length es → ((d : Entry) → l ≡ (get_or es i d).lit) → AreUpTo n (take i es) → n ≤ m → l.var ≤ m → AreUpTo m (take (i + 1) es)
up_to_more es i n m l h q a le u =
    let d : Entry = record { lit = l; level = 0; reason = None } in
    subst (λ (xs : List Entry). All (λ e. e.lit.var ≤ m) xs) (sym (take_more es i d h))
    (All-push (λ e. e.lit.var ≤ m) (take i es) (get_or es i d) (λ k f g. omega (arith, a k f g, le)) (omega (arith, u, ap (λ (x : Literal). x.var) (q d))))
