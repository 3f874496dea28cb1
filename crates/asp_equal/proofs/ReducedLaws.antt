-- Both steps together: the facts set aside, and then the copies.
use Rattle.std.proofs.Common.{◌≡◌, Bool, List, [], ◌∷◌, map, filter, Some, None, refl, sym, ap, ◌∙◌, ℤ}
use Rattle.std.specs.Prelude.{Option, option_map}
use Rattle.asp_model.specs.declared.program.Program.{Program}
use Rattle.asp_model.specs.declared.results.Reasoning.{Reasoning}
use Rattle.asp_model.specs.Sets.{Atoms}
use Rattle.asp_model.specs.Consequences.{consequences_of}
use Rattle.asp_model.specs.Costs.{IsOptimum, cost, optima}
use Rattle.asp_model.specs.Models.{answers}
use Rattle.asp_model.specs.Sound.{IsSound}
use Rattle.asp_model.specs.Texts.{shown}
use Rattle.asp_settle.specs.Settled.{facts_of, left_of, united}
use Rattle.asp_settle.proofs.SettledLaws as settled
use Rattle.asp_equal.specs.Merged.{copies_of, extended, merged_of, staying}
use Rattle.asp_equal.specs.Reduced.{reduced, reduced_set, whole}
use Rattle.asp_equal.proofs.ResultLaws as results
use Rattle.asp_equal.proofs.WholeLaws.{cost-whole, goes_by, has-results, shown-whole, sound-whole}

map-map : {X Y Z : Type 0} (f : Y → Z) (g : X → Y) (xs : List X) → map f (map g xs) ≡ map (λ x. f (g x)) xs
map-map f g [] = refl
map-map f g (x ∷ xs) = ap (λ ys. f (g x) ∷ ys) (map-map f g xs)

option-map : {X Y Z : Type 0} (f : Y → Z) (g : X → Y) (o : Option X) → option_map f (option_map g o) ≡ option_map (λ x. f (g x)) o
option-map f g None = refl
option-map f g (Some x) = refl

-- the set with the copies of what is left
abbrev copied : Program → Atoms → Atoms
copied p = extended (copies_of (left_of p))

abbrev sound : (p : Program) → IsSound p → IsSound (left_of p)
sound p h = settled.sound-left p h

pub sound-reduced : (p : Program) → IsSound p → IsSound (reduced p)
sound-reduced p h = sound-whole (left_of p) (sound p h)

-- ---- answers
pub same-answers : (p : Program) → IsSound p → answers p ≡ map (whole p) (answers (reduced p))
same-answers p h =
    let q = left_of p in
    settled.same-answers p h
    ∙ ap (map (united (facts_of p))) (results.same-answers (goes_by q) (copied p) q (merged_of q) (has-results q (sound p h)))
    ∙ map-map (united (facts_of p)) (copied p) (answers (merged_of q))

pub shown-reduced : (p : Program) (S : Atoms) → shown p (whole p S) ≡ shown (reduced p) S
shown-reduced p S = settled.shown-left p (copied p S) ∙ shown-whole (left_of p) S

pub cost-reduced : (p : Program) (S : Atoms) → cost p (whole p S) ≡ cost (reduced p) S
cost-reduced p S = settled.cost-left p (copied p S) ∙ cost-whole (left_of p) S

-- ---- optima, and some of the answers
pub optima-reduced : (p : Program) → IsSound p → optima p ≡ map (whole p) (optima (reduced p))
optima-reduced p h =
    let q = left_of p in
    settled.optima-left p h
    ∙ ap (map (united (facts_of p))) (results.optima-merged (goes_by q) (copied p) q (merged_of q) (has-results q (sound p h)))
    ∙ map-map (united (facts_of p)) (copied p) (optima (merged_of q))

pub optimum-reduced : (p : Program) (S : Atoms) (c : List ℤ) → IsSound p → IsOptimum (reduced p) S c → IsOptimum p (whole p S) c
optimum-reduced p S c h o =
    let q = left_of p in
    settled.optimum-left p (copied p S) c h (results.optimum-merged (goes_by q) (copied p) q (merged_of q) (has-results q (sound p h)) S c o)

pub chosen-reduced : (p : Program) (chosen : Atoms → Bool) → IsSound p → map (whole p) (filter chosen (answers (reduced p))) ≡ filter (λ S. chosen (reduced_set p S)) (answers p)
chosen-reduced p chosen h =
    let q = left_of p in
    sym (map-map (united (facts_of p)) (copied p) (filter chosen (answers (merged_of q))))
    ∙ ap (map (united (facts_of p))) (results.chosen-merged (goes_by q) (copied p) q (merged_of q) (has-results q (sound p h)) chosen)
    ∙ settled.chosen-left p (λ S. chosen (staying q S)) h

pub optima-chosen : (p : Program) (chosen : Atoms → Bool) → IsSound p → map (whole p) (filter chosen (optima (reduced p))) ≡ filter (λ S. chosen (reduced_set p S)) (optima p)
optima-chosen p chosen h =
    let q = left_of p in
    sym (map-map (united (facts_of p)) (copied p) (filter chosen (optima (merged_of q))))
    ∙ ap (map (united (facts_of p))) (results.optima-chosen (goes_by q) (copied p) q (merged_of q) (has-results q (sound p h)) chosen)
    ∙ settled.optima-chosen p (λ S. chosen (staying q S)) h

-- ---- what they have in common
pub all-consequences : (p : Program) (w : Reasoning) → IsSound p → consequences_of w p (answers p) ≡ option_map (whole p) (consequences_of w (reduced p) (answers (reduced p)))
all-consequences p w h =
    let q = left_of p in
    settled.all-consequences p w h
    ∙ ap (option_map (united (facts_of p))) (results.all-consequences (goes_by q) (copied p) q (merged_of q) (has-results q (sound p h)) w)
    ∙ option-map (united (facts_of p)) (copied p) (consequences_of w (merged_of q) (answers (merged_of q)))

pub some-consequences : (p : Program) (w : Reasoning) (chosen : Atoms → Bool) → IsSound p →
    consequences_of w p (map (whole p) (filter chosen (answers (reduced p)))) ≡ option_map (whole p)
    (consequences_of w (reduced p) (filter chosen (answers (reduced p))))
some-consequences p w chosen h =
    let q = left_of p in
    let r = has-results q (sound p h) in
    let some : map (copied p) (filter chosen (answers (merged_of q))) ≡ filter (λ S. chosen (staying q S)) (answers q) = results.chosen-merged (goes_by q) (copied p) q (merged_of q) r chosen in
    ap (consequences_of w p) (sym (map-map (united (facts_of p)) (copied p) (filter chosen (answers (merged_of q)))) ∙ ap (map (united (facts_of p))) some)
    ∙ settled.consequences-left p w (λ S. chosen (staying q S)) h
    ∙ ap (λ Ss. option_map (united (facts_of p)) (consequences_of w q Ss)) (sym some)
    ∙ ap (option_map (united (facts_of p))) (results.some-consequences (goes_by q) (copied p) q (merged_of q) r w chosen)
    ∙ option-map (united (facts_of p)) (copied p) (consequences_of w (merged_of q) (filter chosen (answers (merged_of q))))
