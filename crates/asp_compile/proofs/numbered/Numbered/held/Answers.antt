use Rattle.std.proofs.Common.{◌≡◌, ◌+◌, ◌-◌, ◌<◌, ◌^◌, ℕ, List, All, map, length, sym, ap, ◌∙◌, subst, arith}
use Rattle.std.proofs.lemmas.List.{length-map}
use Rattle.asp_model.specs.declared.program.Body.{Body}
use Rattle.asp_model.specs.declared.program.Program.{Program}
use Rattle.asp_model.specs.Models.{atoms_of}
use Rattle.asp_vars.specs.Numbering.{bodies_of, number_count}
use Rattle.asp_vars.specs.Tabled.{Stands}
use Rattle.asp_compile.specs.Forms.{body_of}
use Rattle.asp_compile.specs.Held.{literals_from, var_behind}
use Rattle.asp_compile.specs.Named.{name_var}
use Rattle.asp_compile.proofs.NumberedLaws.{forms_stand}
use Rattle.asp_compile.proofs.HeldLaws.{literals_of_bodies, behind_all, names_small}
use Rattle.asp_compile.proofs.numbered.Numbered.held.Goals as goal

pub held-requires-clause-few : goal.held-requires-clause-few
held-requires-clause-few c =
    let p : Program = c.self.inside.program in
    let atoms = ap length (c.as_slice-atoms.ensures.value ∙ c.self.invariant.atoms) in
    let count : length c.forms.result.now ≡ length (bodies_of p) = sym (length-map c.forms.result.now body_of) ∙ ap length (c.forms.ensures ∙ c.self.invariant.bodies) in
    omega (arith, atoms, count, c.self.invariant.few)

pub held-requires-clause-stand : goal.held-requires-clause-stand
held-requires-clause-stand c =
    let p : Program = c.self.inside.program in
    let atoms : c.as_slice-atoms.result.now ≡ atoms_of p = c.as_slice-atoms.ensures.value ∙ c.self.invariant.atoms in
    subst (λ (L : List ℕ). All (λ f. Stands L (body_of f)) c.forms.result.now) (sym atoms) (forms_stand p body_of c.forms.result.now (c.forms.ensures ∙ c.self.invariant.bodies))

pub held-requires-clause-names : goal.held-requires-clause-names
held-requires-clause-names c =
    let p : Program = c.args.self.now in
    ap length (c.as_slice.ensures.value ∙ c.in_ok-names.ensures)
    ∙ length-map (bodies_of p) (name_var p)
    ∙ sym (sym (length-map c.forms.result.now body_of) ∙ ap length (c.forms.ensures ∙ c.self.invariant.bodies ∙ ap bodies_of c.self.view_is))

pub held-requires-clause-small : goal.held-requires-clause-small
held-requires-clause-small c =
    let p : Program = c.args.self.now in
    let few : number_count p < 2 ^ 31 = subst (λ (q : Program). number_count q < 2 ^ 31) c.self.view_is c.self.invariant.few in
    subst (λ (ns : List ℕ). All (λ n. n < 2 ^ 31) ns) (sym (c.as_slice.ensures.value ∙ c.in_ok-names.ensures)) (names_small p few)

pub overflow_sub-result : goal.overflow_sub-result
overflow_sub-result c =
    let p : Program = c.args.self.now in
    let first : ℕ = length c.as_slice-atoms.result.now + 1 in
    let forms : map body_of c.forms.result.now ≡ bodies_of p = c.forms.ensures ∙ c.self.invariant.bodies ∙ ap bodies_of c.self.view_is in
    let names : c.as_slice.result.now ≡ map (name_var p) (bodies_of p) = c.as_slice.ensures.value ∙ c.in_ok-names.ensures in
    let next : c.in_ok-lits.next ≡ var_behind first (bodies_of p) (map (name_var p) (bodies_of p)) =
    c.in_ok-lits.ensures.next ∙ ap (λ (bs : List Body). var_behind first bs c.as_slice.result.now) forms ∙ ap (λ (ns : List ℕ). var_behind first (bodies_of p) ns) names in
    let all = behind_all p first in
    omega (arith, next, all)

pub returns-clause-lits : goal.returns-clause-lits
returns-clause-lits c =
    let p : Program = c.args.self.now in
    let first : ℕ = length c.as_slice-atoms.result.now + 1 in
    let atoms : c.as_slice-atoms.result.now ≡ atoms_of p = c.as_slice-atoms.ensures.value ∙ c.self.invariant.atoms ∙ ap atoms_of c.self.view_is in
    let forms : map body_of c.forms.result.now ≡ bodies_of p = c.forms.ensures ∙ c.self.invariant.bodies ∙ ap bodies_of c.self.view_is in
    let names : c.as_slice.result.now ≡ map (name_var p) (bodies_of p) = c.as_slice.ensures.value ∙ c.in_ok-names.ensures in
    c.in_ok-lits.ensures.lits
    ∙ ap (λ (L : List ℕ). literals_from L first (map body_of c.forms.result.now) c.as_slice.result.now) atoms
    ∙ ap (λ (bs : List Body). literals_from (atoms_of p) first bs c.as_slice.result.now) forms
    ∙ ap (λ (ns : List ℕ). literals_from (atoms_of p) first (bodies_of p) ns) names
    ∙ literals_of_bodies p first (ap (λ (L : List ℕ). length L + 1) atoms)

pub returns-clause-vars : goal.returns-clause-vars
returns-clause-vars c =
    let p : Program = c.args.self.now in
    let first : ℕ = length c.as_slice-atoms.result.now + 1 in
    let atoms = ap length (c.as_slice-atoms.ensures.value ∙ c.self.invariant.atoms ∙ ap atoms_of c.self.view_is) in
    let forms : map body_of c.forms.result.now ≡ bodies_of p = c.forms.ensures ∙ c.self.invariant.bodies ∙ ap bodies_of c.self.view_is in
    let names : c.as_slice.result.now ≡ map (name_var p) (bodies_of p) = c.as_slice.ensures.value ∙ c.in_ok-names.ensures in
    let next : c.in_ok-lits.next ≡ var_behind first (bodies_of p) (map (name_var p) (bodies_of p)) =
    c.in_ok-lits.ensures.next ∙ ap (λ (bs : List Body). var_behind first bs c.as_slice.result.now) forms ∙ ap (λ (ns : List ℕ). var_behind first (bodies_of p) ns) names in
    let all = behind_all p first in
    omega (arith, next, all, atoms)
