use Rattle.std.proofs.Common.{◌≡◌, List, [], ◌∷◌, ◌++◌, ℕ, Bool, sym, ap, ◌∙◌, subst}
use Rattle.std.specs.Prelude.{All}
use Rattle.asp_vars.specs.Tabled.{IsBodyNumber}
use Rattle.asp_vars.specs.Literals.{Literal, T}
use Rattle.asp_vars.specs.Numbering.{var_of_atom}
use Rattle.asp_loop.specs.Parts.{AreAdded}
use Rattle.asp_loop.proofs.LoopLaws.{member_stands, vars_of_bodies, vars_are, loop_nogood_is, supports_are, firm_founded, form_of-all}
use Rattle.asp_loop.proofs.loops.loop_nogood.Goals as goal

pub atom_var-requires : goal.atom_var-requires
atom_var-requires c = member_stands c.args.compiled.now c.args.u.now c.args.a c.requires.stand c.requires.member

pub add_parts-requires-clause-bodies : goal.add_parts-requires-clause-bodies
add_parts-requires-clause-bodies c =
    subst (λ (xs : List ℕ). All (IsBodyNumber c.args.compiled.now) xs) (sym c.as_slice.ensures.value) (vars_of_bodies c.args.compiled.now c.args.u.now c.in_ok-bodies.bodies c.in_ok-bodies.ensures)

pub returns-then-excused : goal.returns-then-excused
returns-then-excused c =
    let p = c.args.compiled.now in
    let of_U = vars_are p c.args.u.now c.in_ok-vars.vars c.requires.stand c.in_ok-vars.ensures in
    let added = subst (λ (b : Bool). AreAdded p c.args.assign.now c.in_ok-vars.vars c.in_ok-bodies.bodies c.push.new.self c.add_parts.new.lits b) c.if-excused.true
    (subst (λ (xs : List ℕ). AreAdded p c.args.assign.now c.in_ok-vars.vars xs c.push.new.self c.add_parts.new.lits c.in_ok-excused.excused) c.as_slice.ensures.value c.in_ok-excused.ensures) in
    let first : c.push.new.self ≡ T (var_of_atom p c.args.a) ∷ [] =
    c.in_ok-push.ensures.ok ∙ ap (λ (ls : List Literal). ls ++ c.new.result ∷ []) c.new-lits.ensures
    ∙ ap (λ (l : Literal). l ∷ []) (c.new.ensures ∙ ap T c.atom_var.ensures.var) in
    loop_nogood_is p c.args.assign.now c.args.u.now c.in_ok-bodies.bodies c.args.a c.push.new.self c.add_parts.new.lits
    c.program-program.ensures.sound c.requires.member (member_stands p c.args.u.now c.args.a c.requires.stand c.requires.member)
    c.in_ok-bodies.ensures first (added c.args.u.now of_U)

pub returns : goal.returns
returns c =
    let p = c.args.compiled.now in
    let of_U = vars_are p c.args.u.now c.in_ok-vars.vars c.requires.stand c.in_ok-vars.ensures in
    let firm = subst (λ (b : Bool). AreAdded p c.args.assign.now c.in_ok-vars.vars c.in_ok-bodies.bodies c.push.new.self c.add_parts.new.lits b) c.if-excused.false
    (subst (λ (xs : List ℕ). AreAdded p c.args.assign.now c.in_ok-vars.vars xs c.push.new.self c.add_parts.new.lits c.in_ok-excused.excused) c.as_slice.ensures.value c.in_ok-excused.ensures) in
    firm_founded p c.args.assign.now c.args.u.now (form_of-all p c.in_ok-bodies.bodies) (supports_are p c.args.u.now c.in_ok-bodies.bodies c.in_ok-bodies.ensures) (firm c.args.u.now of_U)
