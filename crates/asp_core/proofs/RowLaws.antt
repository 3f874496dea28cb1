-- Guards of small programs, by looking at each model.
use Rattle.std.proofs.Common.{◌≡◌, ℕ, zero, suc, ◌<◌, Bool, true, false, not, ◌||◌, List, [], ◌∷◌, length, get_or, take, refl, sym, ap, ◌∙◌, arith}
use Rattle.std.specs.List.{list_all}
use Rattle.std.proofs.lemmas.Bool.{false≢true, and_parts}
use Rattle.asp_model.specs.declared.program.Program.{Program}
use Rattle.asp_model.specs.Sets.{Atoms}
use Rattle.asp_model.specs.Models.{models}
use Rattle.asp_model.proofs.ModelLaws.{models-are}
use Rattle.asp_vars.specs.Literals.{Literal, F, T, hits}
use Rattle.asp_vars.specs.Numbering.{values}
use Rattle.asp_vars.specs.Entailment.{HitsOnly}
use Rattle.asp_core.specs.declared.goal.Goal.TheVariants as goal
use Rattle.asp_core.specs.Boards.{start, is_excused}
use Rattle.asp_core.specs.Events.{IsLawful, replay}
use Rattle.asp_core.specs.Rows.{two_atoms, two_atoms_listed, two_paths}

passes_at : {X : Type 0} (test : X → Bool) (xs : List X) (k : ℕ) (d : X) → list_all test xs ≡ true → k < length xs → test (get_or xs k d) ≡ true
passes_at test [] k d h lt = absurd (omega (arith, lt))
passes_at test (x ∷ xs) zero d h lt = (and_parts (test x) (list_all test xs) h).0
passes_at test (x ∷ xs) (suc k) d h lt = passes_at test xs k d (and_parts (test x) (list_all test xs) h).1 (omega (arith, lt))

then_true : (a b : Bool) → (not a || b) ≡ true → a ≡ true → b ≡ true
then_true true b h e = h
then_true false b h e = absurd (false≢true e)

pub HitsOnly-listed : (p : Program) (excuse : Atoms → Bool) (n : List Literal) → list_all (λ S. not (hits (values p S) n) || excuse S) (models p) ≡ true → HitsOnly p excuse n
HitsOnly-listed p excuse n h = record {
  excused = λ S stable hit.
      let at = (models-are p S).1 stable in
      let here : (not (hits (values p S) n) || excuse S) ≡ true =
      ap (λ (T : Atoms). not (hits (values p T) n) || excuse T) (sym at.2)
      ∙ passes_at (λ T. not (hits (values p T) n) || excuse T) (models p) at.0 S h at.1 in
      then_true (hits (values p S) n) (excuse S) here hit;
}

pub two_paths-lawful : IsLawful (start two_atoms_listed) two_paths
two_paths-lawful = (
  (refl, refl),
  (
    (refl, omega arith, (omega arith, omega arith), refl),
    (
      (refl, refl),
      (
        (refl, refl, refl),
        (
          (refl, refl, refl),
          (
            (refl, refl, HitsOnly-listed two_atoms (is_excused (replay two_atoms_listed (take 5 two_paths))) (T 1 ∷ []) refl),
            (
              (refl, refl, refl),
              (
                (refl, refl, refl),
                (
                  (refl, refl, refl),
                  (
                    (refl, refl, HitsOnly-listed two_atoms (is_excused (replay two_atoms_listed (take 9 two_paths))) (F 1 ∷ []) refl),
                    tt,
                  ),
                ),
              ),
            ),
          ),
        ),
      ),
    ),
  ),
)
