use Rattle.std.proofs.Common.{◌≡◌, ◌-◌, ◌+◌, ℕ, List, [], ◌∷◌, ◌++◌, map, ap, ◌∙◌, arith}
use Rattle.asp_model.specs.declared.program.Program.{Program}
use Rattle.asp_vars.specs.Literals.{Literal, T, complement}
use Rattle.asp_vars.specs.Numbering.{form_at, literal_of_form, nth_atom, var_of_atom}
use Rattle.asp_vars.proofs.PlaceLaws.{var_of_nth_atom}
use Rattle.asp_vars.proofs.SupportLaws.{of_supports}
use Rattle.asp_vars.proofs.support.atom_nogood.Goals as goal

pub returns : goal.returns
returns c =
    let p : Program = c.args.compiled.now in
    let a : ℕ = nth_atom p (c.args.var - 1) in
    let number : c.args.var ≡ var_of_atom p a = let e = var_of_nth_atom p (c.args.var - 1) (omega (arith, c.requires)) in omega (arith, e, c.requires) in
    let f : ℕ → Literal = λ n. complement (literal_of_form p (form_at p n)) in
    c.in_ok-push_false.ensures
    ∙ ap (λ (ls : List Literal). ls ++ map f c.supports.result.now) (c.in_ok-push.ensures.ok ∙ ap (λ (ls : List Literal). ls ++ c.new.result ∷ []) c.new-lits.ensures)
    ∙ ap (λ (l : Literal). l ∷ map f c.supports.result.now) (c.new.ensures ∙ ap T number)
    ∙ ap (λ (ns : List ℕ). T (var_of_atom p a) ∷ map f ns) c.supports.ensures.supports
    ∙ ap (λ (ls : List Literal). T (var_of_atom p a) ∷ ls) (of_supports p (λ b. complement (literal_of_form p b)) a)
