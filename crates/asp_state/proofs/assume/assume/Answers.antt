use Rattle.std.proofs.Common.{◌≡◌, ℕ, List, [], ◌∷◌, ◌++◌, Some, None, refl, sym, ap, ◌∙◌, subst}
use Rattle.asp_vars.specs.Literals.{value_of}
use Rattle.asp_vars.specs.Numbering.{var_count}
use Rattle.asp_trail.specs.declared.trail.Entry.{Entry}
use Rattle.asp_trail.specs.Entries.{assignment}
use Rattle.asp_trail.specs.Trails.{IsOrdered}
use Rattle.asp_propagate.specs.Propagating.{Propagating}
use Rattle.asp_trail_laws.specs.Starts.{AreAtZero}
use Rattle.asp_trail_laws.proofs.AssumeLaws.{stand_one, held, clash}
use Rattle.asp_state.proofs.AssumedLaws.{same_bit, other_bit}
use Rattle.asp_state.proofs.assume.assume.Goals as goal

pub returns-in-None-clause-stands : goal.returns-in-None-clause-stands
returns-in-None-clause-stands g c t cube part a z =
    subst (λ (f : Propagating). AreAtZero (part ++ c.args.lit ∷ []) f.entries) (sym c.assume.ensures)
    (stand_one part c.args.engine.now.entries c.args.lit (record { lit = c.args.lit; level = 0; reason = None }) refl refl z)

pub returns-in-Some-clause-stands : goal.returns-in-Some-clause-stands
returns-in-Some-clause-stands g c t cube part a z =
    let es = c.args.engine.now.entries in
    let n = var_count c.args.engine.now.program in
    let ordered : IsOrdered n es =
    subst (λ (k : ℕ). IsOrdered k es) c.trail.ensures.vars (subst (λ (xs : List Entry). IsOrdered c.trail.result.now.vars xs) c.trail.ensures.entries c.len-len.ensures.ordered) in
    let value : value_of (assignment n es) c.args.lit.var ≡ Some c.in-Some.truth =
    sym (c.value.ensures.value
    ∙ (ap (λ (k : ℕ). value_of (assignment k c.trail-2.result.now.entries) c.var.result) c.trail-2.ensures.vars
    ∙ (ap (λ (xs : List Entry). value_of (assignment n xs) c.var.result) c.trail-2.ensures.entries ∙ ap (value_of (assignment n es)) c.var.ensures)))
    ∙ c.in-Some.is in
    held cube part n es c.args.lit c.in-Some.truth ordered a z value (same_bit c.in-Some.truth c.truth.result t ∙ c.truth.ensures)

pub returns-in-Some-clause-clash : goal.returns-in-Some-clause-clash
returns-in-Some-clause-clash g c t cube a =
    let es = c.args.engine.now.entries in
    let n = var_count c.args.engine.now.program in
    let ordered : IsOrdered n es =
    subst (λ (k : ℕ). IsOrdered k es) c.trail.ensures.vars (subst (λ (xs : List Entry). IsOrdered c.trail.result.now.vars xs) c.trail.ensures.entries c.len-len.ensures.ordered) in
    let value : value_of (assignment n es) c.args.lit.var ≡ Some c.in-Some.truth =
    sym (c.value.ensures.value
    ∙ (ap (λ (k : ℕ). value_of (assignment k c.trail-2.result.now.entries) c.var.result) c.trail-2.ensures.vars
    ∙ (ap (λ (xs : List Entry). value_of (assignment n xs) c.var.result) c.trail-2.ensures.entries ∙ ap (value_of (assignment n es)) c.var.ensures)))
    ∙ c.in-Some.is in
    clash cube n es c.args.lit c.in-Some.truth ordered a value (λ x. other_bit c.in-Some.truth c.truth.result t (x ∙ sym c.truth.ensures))
