-- What stays true of the heap where variables are put in and bumped.
use Rattle.std.proofs.Common.{◌≡◌, ℕ, suc, zero, ◌+◌, ◌-◌, ◌/◌, ◌^◌, ◌<◌, Bool, true, false, cond, leb, List, [], ◌∷◌, ◌++◌, length, set, get_or, replicate, refl, sym, ap, ◌∙◌, subst, arith}
use Rattle.std.proofs.lemmas.List.{length-set, length-map}
use Rattle.asp_vars.specs.Literals.{Literal}
use Rattle.asp_order.specs.Heaps.{Ranking, is_in, within, rescaled, bumped, decayed}
use Rattle.asp_order.specs.Waiting.{IsOrder, fresh, all_bumped, aged, learnt}

-- ---- filling
-- the first k variables are in, and the m others not yet
abbrev pub filled : ℕ → ℕ → List Bool
filled k m = false ∷ (replicate k true ++ replicate m false)

fill_next : (k m : ℕ) → set (replicate k true ++ replicate (suc m) false) k true ≡ replicate (suc k) true ++ replicate m false
fill_next zero m = refl
fill_next (suc k) m = ap (λ xs. true ∷ xs) (fill_next k m)

fill_members : (vars i : ℕ) → i < vars → set (filled i (vars - i)) (i + 1) true ≡ filled (i + 1) (vars - (i + 1))
fill_members vars i h =
    let e : suc i ≡ i + 1 = omega arith in
    let m : suc (vars - suc i) ≡ vars - i = omega arith in
    subst (λ (k : ℕ). set (filled i (vars - i)) k true ≡ filled k (vars - k)) e
    (subst (λ (n : ℕ). set (filled i n) (suc i) true ≡ filled (suc i) (vars - suc i)) m (ap (λ xs. false ∷ xs) (fill_next i (vars - suc i))))

pub fill_step : (vars i : ℕ) (old new : Ranking) → i < vars → old ≡ record (fresh vars) { members = filled i (vars - i) } →
    new ≡ record old { members = set old.members (i + 1) true } → new ≡ record (fresh vars) { members = filled (i + 1) (vars - (i + 1)) }
fill_step vars i old new h o e =
    e
    ∙ (ap (λ (x : Ranking). let y : Ranking = record x { members = set x.members (i + 1) true } in y) o
    ∙ ap (λ (m : List Bool). let y : Ranking = record (fresh vars) { members = m } in y) (fill_members vars i h))

-- ---- bumps
-- The same variables are in the heap, and the same have an activity.
pub record IsAlike (old new : Ranking) : Type 0 where
  pub members : new.members ≡ old.members
  pub vars : length new.activities ≡ length old.activities

pub alike_still : (r s t : Ranking) → IsAlike r s → IsAlike s t → IsAlike r t
alike_still r s t p q = record { members = q.members ∙ p.members; vars = q.vars ∙ p.vars }

within_alike : (h : Ranking) (most : ℕ) → IsAlike h (within h most)
within_alike h most = cases (leb most (2 ^ 60))
  where
    cases : (b : Bool) → IsAlike h (cond b h (rescaled h))
    cases true = record { members = refl; vars = refl }
    cases false = record { members = refl; vars = length-map h.activities (λ (n : ℕ). n / 2 ^ 30) }

pub bumped_alike : (h : Ranking) (v : ℕ) → IsAlike h (bumped h v)
bumped_alike h v =
    let w : Ranking = within h (get_or h.activities v 0 + h.increment) in
    alike_still h w (bumped h v) (within_alike h (get_or h.activities v 0 + h.increment))
    (record { members = refl; vars = length-set w.activities v (get_or w.activities v 0 + w.increment) })

decayed_alike : (h : Ranking) → IsAlike h (decayed h)
decayed_alike h =
    let w : Ranking = within h (h.increment + h.increment / 16) in
    alike_still h w (decayed h) (within_alike h (h.increment + h.increment / 16)) (record { members = refl; vars = refl })

pub all_bumped_alike : (h : Ranking) (lits : List Literal) → IsAlike h (all_bumped h lits)
all_bumped_alike h [] = record { members = refl; vars = refl }
all_bumped_alike h (l ∷ lits) = alike_still h (bumped h l.var) (all_bumped (bumped h l.var) lits) (bumped_alike h l.var) (all_bumped_alike (bumped h l.var) lits)

pub learnt_alike : (old new : Ranking) (lits : List Literal) → new ≡ learnt old lits → IsAlike old new
learnt_alike old new lits n =
    subst (IsAlike old) (sym n) (alike_still old (all_bumped old lits) (learnt old lits) (all_bumped_alike old lits) (decayed_alike (all_bumped old lits)))

pub aged_alike : (h : Ranking) (times : ℕ) → IsAlike h (aged h times)
unfolding aged
aged_alike h zero = record { members = refl; vars = refl }
aged_alike h (suc times) = alike_still h (aged h times) (decayed (aged h times)) (aged_alike h times) (decayed_alike (aged h times))

-- once more
pub aged_more : (h old new : Ranking) (times : ℕ) → old ≡ aged h times → new ≡ decayed old → new ≡ aged h (times + 1)
unfolding aged
aged_more h old new times o n = n ∙ ap decayed o ∙ ap (aged h) (one_more times)
  where
    one_more : (k : ℕ) → suc k ≡ k + 1
    one_more k = omega arith

pub aged_never : (h : Ranking) → h ≡ aged h 0
unfolding aged
aged_never h = refl

pub alike_order : (old new : Ranking) → IsAlike old new → IsOrder old → IsOrder new
alike_order old new a o = record {
  sized = ap (length {A = Bool}) a.members ∙ (o.sized ∙ sym a.vars);
  zeroth = ap (λ m. is_in m 0) a.members ∙ o.zeroth;
}
