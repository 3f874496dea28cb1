-- A program with more assumptions has the same models; its answers are those in which they hold.
use Rattle.std.proofs.Common.{◌≡◌, ℕ, ◌+◌, Bool, true, false, not, ◌&&◌, ◌||◌, eqb, List, [], ◌∷◌, ◌++◌, map, length, refl, sym, ap, ◌∙◌, subst}
use Rattle.std.specs.Prelude.{ℤ, filter, flat_map}
use Rattle.std.specs.List.{list_any, AllByRecursion}
use Rattle.std.proofs.lemmas.Bool.{false≢true, eqb-true}
use Rattle.std.proofs.lemmas.List.{append-nil, map-append}
use Rattle.std.proofs.lemmas.List.Folds.{list_any-append}
use Rattle.asp_model.specs.declared.program.Program.{Program}
use Rattle.asp_model.specs.declared.program.Rule.{Rule}
use Rattle.asp_model.specs.declared.program.Minimize.{Minimize}
use Rattle.asp_model.specs.declared.program.Output.{Output}
use Rattle.asp_model.specs.declared.program.External.{External}
use Rattle.asp_model.specs.Sets.{Atoms, has, same_set, subsets}
use Rattle.asp_model.specs.Holding.{atom_of, all_hold, body_atoms}
use Rattle.asp_model.specs.Reduct.{reduct, steps}
use Rattle.asp_model.specs.Models.{atoms_of, mentions, models, answers, rules_in_force, is_violated, head_atoms}
use Rattle.asp_model.proofs.SetLaws.{has-set_of, IsAscending-set_of, same_from_has}
use Rattle.asp_split.specs.Parts.{assuming, AreStanding, answers_of_parts}
use Rattle.asp_split.specs.Dividing.{part}

-- an atom of a literal that stands
standing_has : (p : Program) (cube : List ℤ) (a : ℕ) → AreStanding p cube → has (map atom_of cube) a ≡ true → has (atoms_of p) a ≡ true
standing_has p [] a s h = absurd (false≢true h)
standing_has p (l ∷ cube) a s h = cases (eqb (atom_of l) a) refl (standing_has p cube a s.1)
  where
    cases : (b : Bool) → b ≡ eqb (atom_of l) a → (has (map atom_of cube) a ≡ true → has (atoms_of p) a ≡ true) → has (atoms_of p) a ≡ true
    cases true q rest = subst (λ c. has (atoms_of p) c ≡ true) (eqb-true (atom_of l) a (sym q)) s.0
    cases false q rest = rest (ap (λ t. t || has (map atom_of cube) a) q ∙ h)

-- no atom more
absorbed : (x y c : Bool) → (c ≡ true → (x || y) ≡ true) → (x || (y || c)) ≡ (x || y)
absorbed true y c f = refl
absorbed false true c f = refl
absorbed false false true f = sym (f refl)
absorbed false false false f = refl

-- what stands in the other statements
others : Program → List ℕ
others p =
    flat_map (λ (r : Rule). head_atoms r.head ++ body_atoms r.body) p.rules
    ++ flat_map (λ (m : Minimize). map (λ item. atom_of item.0) m.items) p.minimize
    ++ flat_map (λ (o : Output). map atom_of o.condition) p.outputs
    ++ map (λ (e : External). e.atom) p.externals

has_assuming : (p : Program) (cube : List ℤ) (a : ℕ) → AreStanding p cube → has (mentions (assuming p cube)) a ≡ has (mentions p) a
unfolding others
has_assuming p cube a s =
    list_any-append (λ b. eqb b a) (others p) (map atom_of (p.assumptions ++ cube))
    ∙ ap (λ ls. has (others p) a || has ls a) (map-append atom_of p.assumptions cube)
    ∙ ap (λ t. has (others p) a || t) (list_any-append (λ b. eqb b a) (map atom_of p.assumptions) (map atom_of cube))
    ∙ absorbed (has (others p) a) (has (map atom_of p.assumptions) a) (has (map atom_of cube) a) (λ h. sym both ∙ (sym (has-set_of (mentions p) a) ∙ standing_has p cube a s h))
    ∙ sym both
  where
    both : has (mentions p) a ≡ (has (others p) a || has (map atom_of p.assumptions) a)
    both = list_any-append (λ b. eqb b a) (others p) (map atom_of p.assumptions)

pub atoms_of-assuming : (p : Program) (cube : List ℤ) → AreStanding p cube → atoms_of (assuming p cube) ≡ atoms_of p
atoms_of-assuming p cube s =
    same_from_has (atoms_of (assuming p cube)) (atoms_of p) (IsAscending-set_of (mentions (assuming p cube))) (IsAscending-set_of (mentions p))
    (λ a. has-set_of (mentions (assuming p cube)) a ∙ has_assuming p cube a s ∙ sym (has-set_of (mentions p) a))

models-assuming : (p : Program) (cube : List ℤ) → AreStanding p cube → models (assuming p cube) ≡ models p
models-assuming p cube s =
    ap (λ (L : Atoms). filter (λ S. same_set S (steps (reduct S (rules_in_force p)) (length L + 1)) && not (list_any (is_violated S) (rules_in_force p))) (subsets L)) (atoms_of-assuming p cube s)

pub answers-assuming : (p : Program) (cube : List ℤ) → AreStanding p cube → answers (assuming p cube) ≡ part p cube
answers-assuming p cube s = ap (filter (λ S. all_hold S (p.assumptions ++ cube))) (models-assuming p cube s)

pub part-whole : (p : Program) → part p [] ≡ answers p
part-whole p = ap (λ (ls : List ℤ). filter (λ S. all_hold S ls) (models p)) (append-nil p.assumptions)

-- ---- all parts
pub answers_of_parts-is : (p : Program) (cubes : List (List ℤ)) → AllByRecursion (AreStanding p) cubes → answers_of_parts p cubes ≡ flat_map (part p) cubes
answers_of_parts-is p [] s = refl
answers_of_parts-is p (cube ∷ cubes) s =
    ap (λ (Ss : List Atoms). Ss ++ answers_of_parts p cubes) (answers-assuming p cube s.0) ∙ ap (λ (Ss : List Atoms). part p cube ++ Ss) (answers_of_parts-is p cubes s.1)
