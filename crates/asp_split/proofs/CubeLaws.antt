-- From leaves to cubes.
use Rattle.std.proofs.Common.{◌≡◌, ℕ, ◌<◌, ◌≤◌, ◌+◌, List, [], ◌∷◌, ◌++◌, map, length, refl, sym, ap, ◌∙◌, subst, arith}
use Rattle.std.specs.Prelude.{ℤ, flat_map}
use Rattle.std.specs.List.{AllByRecursion}
use Rattle.std.proofs.lemmas.List.{append-nil, length-map}
use Rattle.asp_model.specs.declared.program.Program.{Program}
use Rattle.asp_model.specs.Sets.{Atoms}
use Rattle.asp_model.specs.Models.{answers}
use Rattle.asp_split.specs.declared.leaf.Leaf.{Leaf}
use Rattle.asp_split.specs.Parts.{AreStanding, answers_of_parts, assuming}
use Rattle.asp_split.specs.Dividing.{part, sets_of, cubes_of, AreLeaves, IsPlaced, IsParted, IsWhole}
use Rattle.asp_split.proofs.PartLaws.{answers-assuming, answers_of_parts-is, part-whole}

-- ---- the first leaf
pub first_whole : (p : Program) (old new : List Leaf) (cube : List ℤ) → old ≡ [] → cube ≡ [] → IsPlaced p old new cube → length new ≤ length old + 1 → IsWhole p new
first_whole p old new cube none empty h few =
    let is : new ≡ h.added = h.is ∙ ap (λ (ls : List Leaf). ls ++ h.added) none in
    record {
      leaves = subst (AreLeaves p) (sym is) h.leaves;
      sets = ap (sets_of p) is ∙ h.sets ∙ ap (part p) empty ∙ part-whole p;
      few = omega (arith, ap (λ (ls : List Leaf). length ls) none, few);
    }

-- ---- one round after another
pub parted_first : (p : Program) (old : List Leaf) (parts : ℕ) → AreLeaves p old → length old ≤ parts → IsParted p old old parts
parted_first p old parts leaves few = record { leaves = leaves; sets = refl; few = few }

-- ---- the cubes
flat-of_map : (p : Program) (leaves : List Leaf) → flat_map (part p) (map (λ (leaf : Leaf). leaf.cube) leaves) ≡ sets_of p leaves
flat-of_map p [] = refl
flat-of_map p (leaf ∷ leaves) = ap (λ (Ss : List Atoms). part p leaf.cube ++ Ss) (flat-of_map p leaves)

map-stand : (p : Program) (leaves : List Leaf) → AreLeaves p leaves → AllByRecursion (AreStanding p) (map (λ (leaf : Leaf). leaf.cube) leaves)
map-stand p [] h = tt
map-stand p (leaf ∷ leaves) h = (h.0.stands, map-stand p leaves h.1)

pub cubes_of-stand : (p : Program) (leaves : List Leaf) → AreLeaves p leaves → AllByRecursion (AreStanding p) (cubes_of leaves)
cubes_of-stand p [] h = (tt, tt)
cubes_of-stand p (leaf ∷ leaves) h = map-stand p (leaf ∷ leaves) h

pub cubes_of-answers : (p : Program) (leaves : List Leaf) → AreLeaves p leaves → sets_of p leaves ≡ answers p → answers_of_parts p (cubes_of leaves) ≡ answers p
cubes_of-answers p [] h e = append-nil (answers (assuming p [])) ∙ (answers-assuming p [] tt ∙ part-whole p)
cubes_of-answers p (leaf ∷ leaves) h e = answers_of_parts-is p (cubes_of (leaf ∷ leaves)) (map-stand p (leaf ∷ leaves) h) ∙ (flat-of_map p (leaf ∷ leaves) ∙ e)

pub cubes_of-some : (leaves : List Leaf) → 0 < length (cubes_of leaves)
cubes_of-some [] = omega arith
cubes_of-some (leaf ∷ leaves) = omega arith

pub cubes_of-few : (leaves : List Leaf) (parts : ℕ) → 0 < parts → length leaves ≤ parts → length (cubes_of leaves) ≤ parts
cubes_of-few [] parts some few = omega (arith, some)
cubes_of-few (leaf ∷ leaves) parts some few = omega (arith, few, length-map leaves (λ (l : Leaf). l.cube))
