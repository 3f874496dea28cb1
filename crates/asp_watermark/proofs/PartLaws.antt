-- Parts that follow one another are a front of the list.
use Rattle.std.proofs.Common.{◌≡◌, ℕ, ◌+◌, Bool, true, false, not, cond, ◌&&◌, List, [], ◌∷◌, ◌++◌, filter, length, take, Option, None, refl, sym, ap, ◌∙◌, subst, append_assoc, arith, add-zero}
use Rattle.std.proofs.Math.Seq.{take-append_seam}
use mathlib.Core.List.{IsPrefix}
use Rattle.asp_model.specs.declared.program.Program.{Program}
use Rattle.asp_model.specs.Sets.{Atoms}
use Rattle.asp_model.specs.Texts.{answer_lines, answers_from}
use Rattle.asp_core.specs.Boards.{Board, sought}
use Rattle.asp_core.specs.Invariant.{IsBoard}
use Rattle.asp_core.specs.Sorting.{sorted_once}
use Rattle.asp_core.proofs.SortingLaws.{Rise, sorted-rise}
use Rattle.asp_watermark.specs.Floors.{IsFloor, is_below, is_between, listed, passed}
use Rattle.asp_watermark.specs.Parts.{IsNext, IsRest}
use Rattle.asp_watermark.proofs.BelowLaws.{all-below, front-below, goes-on}
use Rattle.asp_watermark.proofs.FloorLaws.{listed-rise, passed-listed}

-- ---- fronts of one list
front-take : (xs zs : List Atoms) → IsPrefix xs zs → take (length xs) zs ≡ xs
front-take xs zs h = ap (take (length xs)) (sym h.1) ∙ take-append_seam xs h.0

same-front : (xs ys zs : List Atoms) → IsPrefix xs zs → IsPrefix ys zs → length xs ≡ length ys → xs ≡ ys
same-front xs ys zs h k e = sym (front-take xs zs h) ∙ ap (λ n. take n zs) e ∙ front-take ys zs k

pub passed-front : (b : Board) (floor : Option Atoms) → IsBoard b → sought b.task.goal ≡ None → IsFloor b floor → IsPrefix (passed b floor) (listed b.task)
passed-front b floor is none low =
    let Front : List Atoms → Type 0 = λ L. IsPrefix L (listed b.task) in
    subst Front (sym (passed-listed b floor is none low)) (front-below floor (listed b.task) (listed-rise b.task))

gone-passed : (b : Board) (floor : Option Atoms) (gone : List Atoms) → IsBoard b → sought b.task.goal ≡ None → IsFloor b floor →
    IsPrefix gone (listed b.task) → length (passed b floor) ≡ length gone → gone ≡ passed b floor
gone-passed b floor gone is none low front count = same-front gone (passed b floor) (listed b.task) front (passed-front b floor is none low) (sym count)

-- ---- the next part, and the rest
pub next-follows : (b : Board) (gone sets : List Atoms) → IsBoard b → sought b.task.goal ≡ None → IsPrefix gone (listed b.task) → IsNext b (length gone) sets → IsPrefix (gone ++ sets) (listed b.task)
next-follows b gone sets is none front next =
    let Front : List Atoms → Type 0 = λ L. IsPrefix L (listed b.task) in
    let same : gone ++ sets ≡ passed b next.high =
    ap (λ (X : List Atoms). X ++ sets) (gone-passed b next.low gone is none next.was front next.count)
    ∙ ap (λ (X : List Atoms). passed b next.low ++ X) next.sets_are
    ∙ sym (goes-on next.low next.high next.rises (sorted_once b.answers) (sorted-rise [] b.answers tt)) in
    subst Front (sym same) (passed-front b next.high is none next.is)

and-true : (a : Bool) → a ≡ (a && true)
and-true true = refl
and-true false = refl

filter-same : (q r : Atoms → Bool) → ((S : Atoms) → q S ≡ r S) → (L : List Atoms) → filter q L ≡ filter r L
filter-same q r same [] = refl
filter-same q r same (S ∷ L) = ap (λ x. cond x (S ∷ filter q L) (filter q L)) (same S) ∙ ap (λ (X : List Atoms). cond (r S) (S ∷ X) X) (filter-same q r same L)

split-by : (floor : Option Atoms) (L : List Atoms) → Rise L → L ≡ filter (is_below floor) L ++ filter (λ S. not (is_below floor S)) L
split-by floor L up =
    sym (all-below L) ∙ goes-on floor None (λ S h. refl) L up
    ∙ ap (λ (X : List Atoms). filter (is_below floor) L ++ X) (sym (filter-same (λ S. not (is_below floor S)) (is_between floor None) (λ S. and-true (not (is_below floor S))) L))

pub rest-follows : (b : Board) (gone sets : List Atoms) → IsBoard b → sought b.task.goal ≡ None → IsPrefix gone (listed b.task) → IsRest b (length gone) sets → gone ++ sets ≡ sorted_once b.answers
rest-follows b gone sets is none front rest =
    ap (λ (X : List Atoms). X ++ sets) (gone-passed b rest.floor gone is none rest.is front rest.count)
    ∙ ap (λ (X : List Atoms). passed b rest.floor ++ X) rest.sets_are
    ∙ sym (split-by rest.floor (sorted_once b.answers) (sorted-rise [] b.answers tt))

-- ---- texts
pub text-append : (p : Program) (i : ℕ) (xs ys : List Atoms) → answers_from p i (xs ++ ys) ≡ answers_from p i xs ++ answers_from p (i + length xs) ys
text-append p i [] ys = ap (λ n. answers_from p n ys) (sym (add-zero i))
text-append p i (S ∷ xs) ys =
    ap (λ (t : List ℕ). answer_lines p i S ++ t) (text-append p (i + 1) xs ys ∙ ap (λ n. answers_from p (i + 1) xs ++ answers_from p n ys) (omega arith))
    ∙ sym (append_assoc (answer_lines p i S) (answers_from p (i + 1) xs) (answers_from p (i + length (S ∷ xs)) ys))

pub text-front : (p : Program) (xs zs : List Atoms) → IsPrefix xs zs → IsPrefix (answers_from p 1 xs) (answers_from p 1 zs)
text-front p xs zs h = (answers_from p (1 + length xs) h.0, sym (text-append p 1 xs h.0) ∙ ap (answers_from p 1) h.1)
