-- Rules whose heads are looked at first, and an atom whose variable has its number.
use Rattle.std.proofs.Common.{◌≡◌, ℕ, suc, ◌<◌, Bool, true, false, not, ◌||◌, List, length, Option, get_or, refl, sym, ap, ◌∙◌}
use Rattle.asp_model.specs.declared.program.Rule.{Rule}
use Rattle.asp_model.specs.declared.program.Program.{Program}
use Rattle.asp_model.specs.Sets.{Atoms, has}
use Rattle.asp_model.specs.Models.{atoms_of}
use Rattle.asp_model.proofs.SetLaws.{has_at}
use Rattle.asp_vars.specs.Literals.{F, holds_in}
use Rattle.asp_vars.specs.Numbering.{normal, var_of_atom}
use Rattle.asp_vars.proofs.PlaceLaws.{var_of_nth_atom}
use Rattle.asp_found.specs.Verdicts.{is_kept}
use Rattle.asp_member.specs.Founding.{passes, AreFounded, keeps}

or_true : (b : Bool) → (b || true) ≡ true
or_true true = refl
or_true false = refl

or_false : (b : Bool) → (b || false) ≡ b
or_false true = refl
or_false false = refl

twice : (b : Bool) → not (not b) ≡ b
twice true = refl
twice false = refl

-- A rule whose head is as it must be is kept,
pub kept_keeps : (p : Program) (S : Atoms) (x : List (Option Bool)) (r : Rule) → true ≡ is_kept S r.head → true ≡ keeps p S x r
kept_keeps p S x r e = sym (ap (λ b. not (passes p (holds_in x) (normal r.body)) || b) (sym e) ∙ or_true (not (passes p (holds_in x) (normal r.body))))

-- and any other where its body doesn't hold.
pub unkept_keeps : (p : Program) (S : Atoms) (x : List (Option Bool)) (r : Rule) → false ≡ is_kept S r.head → not (passes p (holds_in x) (normal r.body)) ≡ keeps p S x r
unkept_keeps p S x r e = sym (ap (λ b. not (passes p (holds_in x) (normal r.body)) || b) (sym e) ∙ or_false (not (passes p (holds_in x) (normal r.body))))

-- An atom that stands at the place before its number has its number as its variable: it is in the set unless that is false.
pub in_by_value : (p : Program) (S : Atoms) (x : List (Option Bool)) (i a : ℕ) → AreFounded p S x → i < length (atoms_of p) →
    get_or (atoms_of p) i 0 ≡ a → suc i ≡ a → not (holds_in x (F a)) ≡ has S a
in_by_value p S x i a h lt at number =
    let stands : has (atoms_of p) a ≡ true = has_at (atoms_of p) a i lt at in
    let var : var_of_atom p a ≡ a = ap (var_of_atom p) (sym at) ∙ var_of_nth_atom p i lt ∙ number in
    ap not (ap (λ v. holds_in x (F v)) (sym var) ∙ h.outside a stands) ∙ twice (has S a)
