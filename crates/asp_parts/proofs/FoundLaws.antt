-- A part's answers, listed one after another.
use Rattle.std.proofs.Common.{◌≡◌, ℕ, zero, suc, ◌+◌, ◌<◌, List, [], ◌∷◌, ◌++◌, length, map, get_or, take, sym, ap, ◌∙◌, subst, arith}
use Rattle.std.specs.Prelude.{ℤ}
use Rattle.std.specs.List.{AllByRecursion}
use Rattle.std.proofs.lemmas.List.{map-append, map_more, take-map}
use Rattle.asp_model.specs.declared.program.Program.{Program}
use Rattle.asp_model.specs.Models.{atoms_of}
use Rattle.asp_model.specs.Sets.{Atoms}
use Rattle.asp_rows.specs.declared.row.Row.{Row}
use Rattle.asp_rows.specs.Bits.{IsAmong}
use Rattle.asp_rows.specs.Listed.{Listed}
use Rattle.asp_core.specs.declared.event.Event.{Event}
use Rattle.asp_core.specs.declared.event.Event.TheVariants as event
use Rattle.asp_split.specs.Dividing.{part}
use Rattle.asp_parts.specs.declared.part.Found.{Found}
use Rattle.asp_parts.specs.Parts.{IsListed, deliveries}
use Rattle.asp_parts.proofs.PartLaws.{part-among}

-- one set more
pub sets-more : (rows : List Row) (sets : List Atoms) (place : ℕ) (row : Row) (set : Atoms) → map (λ (x : Row). x.set) rows ≡ sets → row ≡ get_or rows place row → place < length rows →
    set ≡ row.set → take (place + 1) sets ≡ take place sets ++ set ∷ []
sets-more rows sets place row set are is within same =
    let f : Row → Atoms = λ (x : Row). x.set in
    ap (take (place + 1)) (sym are) ∙ take-map f (place + 1) rows ∙ map_more f rows place row within
    ∙ ap (λ (t : List Atoms). t ++ f (get_or rows place row) ∷ []) (sym (take-map f place rows) ∙ ap (take place) are)
    ∙ ap (λ (S : Atoms). take place sets ++ S ∷ []) (ap f (sym is) ∙ sym same)

pub listed-more : (atoms : Atoms) (sets : List Atoms) (place : ℕ) (set : Atoms) (old new : Listed) → take (place + 1) sets ≡ take place sets ++ set ∷ [] →
    old ≡ record { atoms = atoms; sets = take place sets } → new ≡ record old { sets = old.sets ++ set ∷ [] } → new ≡ record { atoms = atoms; sets = take (place + 1) sets }
listed-more atoms sets place set old new more was now =
    now ∙ ap (λ (l : Listed). record l { sets = l.sets ++ set ∷ [] }) was ∙ ap (λ (Ss : List Atoms). record { atoms = atoms; sets = Ss }) (sym more)

pub entries-more : (sets : List Atoms) (place : ℕ) (set : Atoms) (old new : List Event) (e : Event) → take (place + 1) sets ≡ take place sets ++ set ∷ [] →
    old ≡ deliveries (take place sets) → new ≡ old ++ e ∷ [] → e ≡ event.Deliver 0 set → new ≡ deliveries (take (place + 1) sets)
entries-more sets place set old new e more was now is =
    now ∙ ap (λ (es : List Event). es ++ e ∷ []) was ∙ ap (λ (x : Event). deliveries (take place sets) ++ x ∷ []) is
    ∙ sym (map-append (λ (S : Atoms). event.Deliver 0 S) (take place sets) (set ∷ [])) ∙ ap deliveries (sym more)

pub deliveries-append : (A B : List Atoms) → deliveries (A ++ B) ≡ deliveries A ++ deliveries B
deliveries-append A B = map-append (λ (S : Atoms). event.Deliver 0 S) A B

-- ---- among the atoms
each-at : {X : Type 0} (P : Atoms → Type 0) (f : X → Atoms) (xs : List X) (place : ℕ) (d : X) → AllByRecursion P (map f xs) → place < length xs → P (f (get_or xs place d))
each-at P f [] place d all lt = absurd (omega (arith, lt))
each-at P f (x ∷ xs) zero d all lt = all.0
each-at P f (x ∷ xs) (suc place) d all lt = each-at P f xs place d all.1 (omega (arith, lt))

pub set-among : (atoms : Atoms) (rows : List Row) (sets : List Atoms) (place : ℕ) (row : Row) (set : Atoms) (old : Listed) → AllByRecursion (IsAmong atoms) sets →
    map (λ (x : Row). x.set) rows ≡ sets → row ≡ get_or rows place row → place < length rows → set ≡ row.set → old ≡ record { atoms = atoms; sets = take place sets } → IsAmong old.atoms set
set-among atoms rows sets place row set old all are is within same was =
    let f : Row → Atoms = λ (x : Row). x.set in
    let here : IsAmong atoms (f (get_or rows place row)) = each-at (IsAmong atoms) f rows place row (subst (AllByRecursion (IsAmong atoms)) (sym are) all) within in
    subst (λ (A : Atoms). IsAmong A set) (sym (ap (λ (l : Listed). l.atoms) was)) (subst (IsAmong atoms) (ap f (sym is) ∙ sym same) here)

pub asked-among : (p s : Program) (cube : List ℤ) (atoms : Atoms) (sets answers : List Atoms) → s ≡ p → atoms ≡ atoms_of p → sets ≡ answers → answers ≡ part s cube →
    AllByRecursion (IsAmong atoms) sets
asked-among p s cube atoms sets answers program all same are =
    subst (λ (A : Atoms). AllByRecursion (IsAmong A) sets) (ap atoms_of program ∙ sym all)
    (subst (AllByRecursion (IsAmong (atoms_of s))) (sym (same ∙ are)) (part-among s cube))

-- what is found of a part are its sets
pub asked-is : (p s : Program) (cube : List ℤ) (atoms : Atoms) (sets answers : List Atoms) (f : Found) → s ≡ p → atoms ≡ atoms_of p → sets ≡ answers → answers ≡ part s cube →
    f.rows ≡ record { atoms = atoms; sets = sets } → f.entries.items ≡ deliveries sets → IsListed p (part p cube) f
asked-is p s cube atoms sets answers f program all same are rows entries =
    let is : sets ≡ part p cube = same ∙ are ∙ ap (λ (q : Program). part q cube) program in
    record {
      rows = rows ∙ ap (λ (A : Atoms). let l : Listed = record { atoms = A; sets = sets } in l) all ∙ ap (λ (Ss : List Atoms). let l : Listed = record { atoms = atoms_of p; sets = Ss } in l) is;
      entries = entries ∙ ap deliveries is;
    }
