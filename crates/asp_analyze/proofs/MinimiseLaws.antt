-- The path of a minimisation.
use Rattle.std.proofs.Common.{◌≡◌, ◌≢◌, ℕ, ◌<◌, true, List, [], ◌∷◌, ◌++◌, Some, length, refl, sym, ◌∙◌, subst, arith}
use Rattle.std.specs.List.{All}
use Rattle.std.proofs.lemmas.List.{length-append, get_or_append_left, get_or_push}
use Rattle.asp_vars.specs.Literals.{Literal, has_literal}
use Rattle.asp_vars.specs.declared.nogood.Nogood.{Nogood}
use Rattle.asp_trail.specs.declared.trail.Entry.{Entry}
use Rattle.asp_trail.specs.Entries.{level_in, reason_in}
use Rattle.asp_trail.specs.Reasons.{AreReasons}
use Rattle.asp_trail.specs.Trails.{IsOrdered}
use Rattle.asp_analyze.specs.declared.minimise.Look.{Look}
use Rattle.asp_analyze.specs.Marks.{Marked}
use Rattle.asp_analyze.specs.Way.{IsOn, AreMarked, Opened, Goes, CanGo, IsOther}
use Rattle.asp_analyze.proofs.LitLaws.{all_from}
use Rattle.asp_analyze.proofs.OpenLaws.{reason_var}
use Rattle.asp_analyze.proofs.GoesLaws.{goes_opened}

pub all_last : {X : Type 0} → (P : X → Type 0) (xs : List X) (x : X) → All P (xs ++ x ∷ []) → P x
all_last P xs x a = subst P (get_or_push xs x x (length xs) refl) (a (length xs) x (omega (arith, length-append xs (x ∷ []))))

pub all_front : {X : Type 0} → (P : X → Type 0) (xs : List X) (x : X) → All P (xs ++ x ∷ []) → All P xs
all_front P xs x a i d h = subst P (get_or_append_left xs (x ∷ []) d i h) (a i d (omega (arith, h, length-append xs (x ∷ []))))

-- the last of the path, and those before it
pub can_last : (es : List Entry) (top : ℕ) (m : Marked) (path front : List Look) (last : Look) → path ≡ front ++ last ∷ [] → All (λ f. CanGo es top m f.lit) path → CanGo es top m last.lit
can_last es top m path front last e a = all_last (λ f. CanGo es top m f.lit) front last (subst (λ (xs : List Look). All (λ f. CanGo es top m f.lit) xs) e a)

pub can_front : (es : List Entry) (top : ℕ) (m : Marked) (path front : List Look) (last : Look) → path ≡ front ++ last ∷ [] →
    All (λ f. CanGo es top m f.lit) path → All (λ f. CanGo es top m f.lit) front
can_front es top m path front last e a = all_front (λ f. CanGo es top m f.lit) front last (subst (λ (xs : List Look). All (λ f. CanGo es top m f.lit) xs) e a)

-- one that can go still can later
pub can_later : (es : List Entry) (top : ℕ) (old new : Marked) (l : Literal) → Goes es old new → CanGo es top old l → CanGo es top new l
can_later es top old new l g c = record { on = c.on; low = c.low; high = c.high; marked = g.marked l.var c.marked }

-- the other literals of the reason are entries'
pub others_on : (vars : ℕ) (es : List Entry) (says : Literal → ℕ → Nogood → Type 0) (lit : Literal) (id v : ℕ) (n : Nogood) → IsOrdered vars es → AreReasons says es → IsOn es lit →
    reason_in es lit.var ≡ Some id → says lit id n → v ≡ lit.var → All (λ l. l.var ≢ v → IsOn es l) n.lits
others_on vars es says lit id v n o r on q k e =
    all_from (λ l. l.var ≢ v → IsOn es l) n.lits (λ l h ne. (reason_var vars es says lit id n o r on q k l h (λ s. ne (s ∙ sym e))).on)

pub other_high : (vars : ℕ) (es : List Entry) (says : Literal → ℕ → Nogood → Type 0) (top : ℕ) (m : Marked) (lit other : Literal) (id v : ℕ) (n : Nogood) → IsOrdered vars es → AreReasons says es →
    CanGo es top m lit → reason_in es lit.var ≡ Some id → says lit id n → v ≡ lit.var → has_literal n.lits other ≡ true → IsOther es other v → level_in es other.var < top
other_high vars es says top m lit other id v n o r c q k e h t =
    omega (arith, (reason_var vars es says lit id n o r c.on q k other h (λ s. t.var (s ∙ sym e))).level, c.high)

pub goes_looked : (es : List Entry) (top : ℕ) (old new : Marked) (lit : Literal) → AreMarked es top old → AreMarked es top new → CanGo es top old lit → Opened es lit old new → Goes es old new
goes_looked es top old new lit a b c t = goes_opened es top old new lit a b c.on (λ p. c.high) t
