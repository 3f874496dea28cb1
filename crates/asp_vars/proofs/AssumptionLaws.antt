-- The assumptions' atoms stand in the program.
use Rattle.std.proofs.Common.{◌≡◌, true, List, [], ◌∷◌, map, ℕ, ◌∙◌}
use Rattle.std.specs.Prelude.{ℤ}
use Rattle.std.specs.List.{AllByRecursion}
use Rattle.asp_model.specs.declared.program.Program.{Program}
use Rattle.asp_model.specs.Sets.{has}
use Rattle.asp_model.specs.Holding.{atom_of}
use Rattle.asp_model.specs.Models.{atoms_of, mentions}
use Rattle.asp_model.proofs.MemberLaws.{each_weaker, HasAll, HasAll-right, HasAll-itself}
use Rattle.asp_model.proofs.SetLaws.{has-set_of}

each-of-map : (p : Program) (ls : List ℤ) → HasAll (atoms_of p) (map atom_of ls) → AllByRecursion (λ l. has (atoms_of p) (atom_of l) ≡ true) ls
each-of-map p [] h = tt
each-of-map p (l ∷ ls) h = (h.0, each-of-map p ls h.1)

pub assumptions-stand : (p : Program) → AllByRecursion (λ l. has (atoms_of p) (atom_of l) ≡ true) p.assumptions
assumptions-stand p =
    let atoms : List ℕ = map atom_of p.assumptions in
    each-of-map p p.assumptions
    (each_weaker (λ a. has (mentions p) a ≡ true) (λ a. has (atoms_of p) a ≡ true) (λ a h. has-set_of (mentions p) a ∙ h) atoms (HasAll-right _ atoms atoms (HasAll-itself atoms)))
