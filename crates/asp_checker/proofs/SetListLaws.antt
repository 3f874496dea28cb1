-- The sets of a list, and their rows.
use Rattle.std.proofs.Common.{◌≡◌, ℕ, ◌+◌, ◌<◌, List, [], ◌∷◌, ◌++◌, map, length, get_or, refl, sym, ap, ◌∙◌, arith}
use Rattle.std.specs.Prelude.{Contains}
use Rattle.std.specs.Ordering.{nat_cmp}
use Rattle.std.specs.Cmp.Lexicographic.{slice_cmp}
use Rattle.std.proofs.lemmas.List.{get_or-map, get_or_default}
use Rattle.std.proofs.lemmas.List.Elements.{All-from_recursion}
use Rattle.asp_model.specs.declared.program.Program.{Program}
use Rattle.asp_model.specs.Sets.{Atoms, IsAscending, has, set_cmp}
use Rattle.asp_model.specs.Models.{atoms_of, answers}
use Rattle.asp_model.proofs.ModelLaws.{answers-are, stable-subset}
use Rattle.asp_member.proofs.StableLaws.{all_within}
use Rattle.asp_proof.specs.declared.proof.Sought.{Sought}
use Rattle.asp_proof.specs.Changes.{last_of}
use Rattle.asp_proof.proofs.ChangeLaws.{last_at}
use Rattle.asp_rows.specs.declared.row.Row.{Row}
use Rattle.asp_rows.specs.Bits.{IsAmong}
use Rattle.asp_rows.specs.Listed.{AreRows, IsRowOf, Listed}
use Rattle.asp_rows.proofs.OrderLaws.{row_cmp_is}
use Rattle.asp_checker.specs.Lines.{MayBeFound}
use Rattle.asp_checker.proofs.ExcuseLaws.{last_push}

-- the first set and the last one, by their places
pub first_is : (sets : List Atoms) (T : Atoms) → 0 < length sets → T ≡ get_or sets 0 [] → T ≡ get_or sets 0 T
first_is sets T lt e = e ∙ get_or_default sets 0 [] T lt

pub last_is : (sets : List Atoms) (n : ℕ) (T : Atoms) → length sets ≡ n + 1 → T ≡ last_of sets → T ≡ get_or sets n T
last_is sets n T size e =
    let U = get_or sets n [] in
    let lt : n < length sets = omega (arith, size) in
    e ∙ last_at [] sets n U size (get_or_default sets n [] U lt) ∙ get_or_default sets n [] T lt

-- the same with a set more
first_front : (sets : List Atoms) (S : Atoms) → 0 < length sets → get_or sets 0 [] ≡ get_or (sets ++ S ∷ []) 0 []
first_front [] S lt = absurd (omega arith)
first_front (T ∷ sets) S lt = refl

pub first_stays : (old now : Listed) (S first : Atoms) → 0 < length old.sets → now ≡ record { atoms = old.atoms; sets = old.sets ++ S ∷ [] } →
    first ≡ get_or old.sets 0 [] → first ≡ get_or now.sets 0 []
first_stays old now S first lt e is = is ∙ first_front old.sets S lt ∙ ap (λ (l : Listed). get_or l.sets 0 []) (sym e)

pub last_pushed : (old now : Listed) (S : Atoms) → now ≡ record { atoms = old.atoms; sets = old.sets ++ S ∷ [] } → S ≡ last_of now.sets
last_pushed old now S e = sym (ap (λ (l : Listed). last_of l.sets) e ∙ last_push [] old.sets S)

-- sets of the program's atoms
pub among_answer : (p : Program) (atoms S : Atoms) → atoms ≡ atoms_of p → Contains (answers p) S → IsAmong atoms S
among_answer p atoms S e member =
    let sub = stable-subset p S ((answers-are p S).0 member).0 in
    record { rising = sub.0; stand = λ a h. ap (λ (L : Atoms). has L a) e ∙ sub.1 a h }

pub among_found : (p : Program) (o : Sought) (before : List Atoms) (atoms S : Atoms) → atoms ≡ atoms_of p → MayBeFound p o before S → IsAmong atoms S
among_found p o before atoms S e may = record { rising = may.ascending; stand = λ a h. ap (λ (L : Atoms). has L a) e ∙ all_within p S may.atoms a h }

-- how a row among others compares is how its set does
pub row_at : (atoms : Atoms) (rows : List Row) (x : Row) (k : ℕ) (e : Row) → IsAscending atoms → AreRows atoms rows → IsRowOf atoms x → k < length rows →
    slice_cmp nat_cmp (get_or rows k e).words.items x.words.items ≡ set_cmp (get_or (map (λ (r : Row). r.set) rows) k e.set) x.set
row_at atoms rows x k e up all of lt =
    row_cmp_is atoms up (get_or rows k e) x (All-from_recursion (IsRowOf atoms) rows all k e lt) of
    ∙ ap (λ (S : Atoms). set_cmp S x.set) (sym (get_or-map (λ (r : Row). r.set) rows k e e.set lt))
