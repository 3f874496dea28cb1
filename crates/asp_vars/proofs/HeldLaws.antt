-- The literals of bodies, by whether they have variables of their own.
use Rattle.std.proofs.Common.{◌≡◌, ◌≢◌, ℕ, suc, ◌+◌, true, ltb, List, [], ◌∷◌, length, Some, refl, arith}
use Rattle.std.specs.Prelude.{ℤ}
use Rattle.std.specs.List.{list_any}
use Rattle.std.proofs.lemmas.Bool.{false≢true, lt-ltb, le-ltb}
use Rattle.asp_model.specs.declared.program.Body.{Body}
use Rattle.asp_model.specs.declared.program.Body.TheVariants as body
use Rattle.asp_model.specs.declared.program.Program.{Program}
use Rattle.asp_model.specs.Sets.{Atoms}
use Rattle.asp_model.specs.Models.{atoms_of}
use Rattle.asp_model.specs.Holding.{atom_of}
use Rattle.asp_vars.specs.Numbering.{body_eq, is_wide, is_nameless, is_apart, named_or, names, bodies_of, apart_bodies, place_of, var_of_atom, var_of_form, literal_by, literal_of_form}
use Rattle.asp_vars.specs.Tabled.{bound_of, Stands}
use Rattle.asp_vars.proofs.NumberingLaws.{named}
use Rattle.asp_vars.proofs.RowLaws.{atom_var}
use Rattle.asp_vars.proofs.StandingLaws.{form-stands}

-- a body that has a variable
pub literal_by-wide : (atoms : Atoms) (v : ℕ) (b : Body) → is_wide b ≡ true → literal_by atoms v b ≡ record { var = v; truth = true }
literal_by-wide atoms v (body.All []) w = refl
literal_by-wide atoms v (body.All (l ∷ [])) w = absurd (false≢true w)
literal_by-wide atoms v (body.All (l ∷ k ∷ ks)) w = refl
literal_by-wide atoms v (body.AtLeast bound items) w = refl

pub literal_by-weighed : (atoms : Atoms) (v : ℕ) (b : Body) (bound : ℤ) → bound_of b ≡ Some bound → literal_by atoms v b ≡ record { var = v; truth = true }
literal_by-weighed atoms v (body.All ls) bound e = cc e
literal_by-weighed atoms v (body.AtLeast c items) bound e = refl

-- a body has a variable of its own where its literal's is none of an atom
pub apart_by_var : (p : Program) (b : Body) → list_any (body_eq b) (bodies_of p) ≡ true → ltb (length (atoms_of p)) (literal_of_form p b).var ≡ is_apart p b
apart_by_var p b listed = by_form b (form-stands p b listed)
  where
    by_name : (c : Body) → ltb (length (atoms_of p)) (var_of_form p c) ≡ is_nameless (names p c)
    by_name c = cases (names p c) refl
      where
        cases : (more : List ℕ) → more ≡ names p c → ltb (length (atoms_of p)) (named_or (atoms_of p) (suc (length (atoms_of p) + place_of (body_eq c) (apart_bodies p))) more) ≡ is_nameless more
        cases [] q = lt-ltb (length (atoms_of p)) (suc (length (atoms_of p) + place_of (body_eq c) (apart_bodies p))) (omega arith)
        cases (a ∷ more) q = le-ltb (length (atoms_of p)) (var_of_atom p a) (atom_var p a (named p c a more q).0).1

    by_form : (c : Body) → Stands (atoms_of p) c → ltb (length (atoms_of p)) (literal_of_form p c).var ≡ is_apart p c
    by_form (body.All []) s = by_name (body.All [])
    by_form (body.All (l ∷ [])) s = le-ltb (length (atoms_of p)) (var_of_atom p (atom_of l)) (atom_var p (atom_of l) s.0).1
    by_form (body.All (l ∷ k ∷ ks)) s = by_name (body.All (l ∷ k ∷ ks))
    by_form (body.AtLeast bound items) s = by_name (body.AtLeast bound items)
