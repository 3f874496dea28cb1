-- Each node's cube begins with the wanted literals, and its variables are the program's.
use Rattle.std.proofs.Common.{◌≡◌, ℕ, ◌<◌, Bool, true, List, [], ◌∷◌, ◌++◌, length, map, sym, ap, ◌∙◌, arith, append_assoc}
use Rattle.std.specs.List.{AllByRecursion}
use mathlib.Core.List.{IsPrefix}
use Rattle.std.proofs.lemmas.Bool.{and_from, and_parts}
use Rattle.std.proofs.lemmas.List.{append-nil}
use Rattle.std.proofs.lemmas.List.Elements.{All-from_recursion, All-push}
use Rattle.asp_model.specs.declared.program.Program.{Program}
use Rattle.asp_model.specs.Sets.{Atoms, has}
use Rattle.asp_model.specs.Holding.{atom_of, all_hold}
use Rattle.asp_model.specs.Models.{atoms_of, is_stable}
use Rattle.asp_model.proofs.MemberLaws.{each_weaker, each-map}
use Rattle.asp_vars.specs.Literals.{Literal, hits}
use Rattle.asp_vars.specs.Numbering.{literal_of, values}
use Rattle.asp_vars.proofs.CompletionLaws.{hits-literals}
use Rattle.asp_vars.proofs.LiteralLaws.{hits-append}
use Rattle.asp_vars.proofs.PlaceLaws.{atom-within, at_each}
use Rattle.asp_path.specs.Trees.{Node, nowhere, cube_of}
use Rattle.asp_core.specs.declared.task.Task.{Task}
use Rattle.asp_core.specs.Boards.{wanted, is_answer}
use Rattle.asp_core.specs.Events.{IsVariable}
use Rattle.asp_core.specs.Invariant.{IsCube}

-- the wanted literals themselves
pub IsCube-start : (t : Task) → AllByRecursion (λ l. has (atoms_of t.program) (atom_of l) ≡ true) (wanted t) → IsCube t (map (literal_of t.program) (wanted t))
IsCube-start t stand =
    let p : Program = t.program in
    record {
      begins = ([], append-nil (map (literal_of p) (wanted t)));
      variables = All-from_recursion (λ (l : Literal). IsVariable p l.var) (map (literal_of p) (wanted t)) (each-map (λ (l : Literal). IsVariable p l.var) (literal_of p) (wanted t)
          (each_weaker (λ l. has (atoms_of p) (atom_of l) ≡ true) (λ l. IsVariable p (literal_of p l).var) (λ l h. (omega arith, atom-within p (atom_of l) h)) (wanted t) stand));
    }

pub IsCube-push : (t : Task) (cube : List Literal) (l : Literal) → IsVariable t.program l.var → IsCube t cube → IsCube t (cube ++ l ∷ [])
IsCube-push t cube l var is = record {
  begins = (is.begins.0 ++ l ∷ [], sym (append_assoc (map (literal_of t.program) (wanted t)) is.begins.0 (l ∷ [])) ∙ ap (λ (c : List Literal). c ++ l ∷ []) is.begins.1);
  variables = All-push (λ (x : Literal). IsVariable t.program x.var) cube l is.variables var;
}

pub cube-at : (t : Task) (nodes : List Node) (n : ℕ) → n < length nodes → AllByRecursion (λ x. IsCube t x.cube) nodes → IsCube t (cube_of nodes n)
cube-at t nodes n lt is = at_each (λ (x : Node). IsCube t x.cube) nodes n nowhere is lt

-- a stable model that hits a cube is an answer
hits-front : (v : List Bool) (xs zs : List Literal) → IsPrefix xs zs → hits v zs ≡ true → hits v xs ≡ true
hits-front v xs zs begins h = (and_parts (hits v xs) (hits v begins.0) (sym (hits-append v xs begins.0) ∙ ap (hits v) begins.1 ∙ h)).0

pub answer-in_cube : (t : Task) (cube : List Literal) (S : Atoms) → AllByRecursion (λ l. has (atoms_of t.program) (atom_of l) ≡ true) (wanted t) →
    IsCube t cube → is_stable t.program S ≡ true → hits (values t.program S) cube ≡ true → is_answer t S ≡ true
answer-in_cube t cube S stand is stable hit =
    let p : Program = t.program in
    and_from (is_stable p S) (all_hold S (wanted t)) stable (sym (hits-literals p S (wanted t) stand) ∙ hits-front (values p S) (map (literal_of p) (wanted t)) cube is.begins hit)
