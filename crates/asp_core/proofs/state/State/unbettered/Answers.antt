use Rattle.std.proofs.Common.{◌≡◌, true, false, sym, ap, ◌∙◌, subst}
use Rattle.std.specs.Prelude.{option_map}
use Rattle.std.specs.Option.{IfSome}
use Rattle.asp_model.specs.declared.program.Program.{Program}
use Rattle.asp_model.specs.Sets.{Atoms}
use Rattle.asp_model.specs.Costs.{cost, betters}
use Rattle.asp_core.specs.Boards.{Board, optimises, is_excused}
use Rattle.asp_core.specs.Stored.{board_of}
use Rattle.asp_core.proofs.PriceLaws.{cost-priced}
use Rattle.asp_core.proofs.ResultLaws.{unexcused-none, unexcused-better}
use Rattle.asp_core.proofs.state.State.unbettered.Goals as goal

pub returns-in-None-clause-none : goal.returns-in-None-clause-none
returns-in-None-clause-none c = λ _.
    let asked : optimises c.self.inside.goal ≡ true = ap (λ (b : Board). optimises b.task.goal) c.self.view_is ∙ c.requires in
    subst (λ (b : Board). is_excused b c.args.set.now ≡ false) c.self.view_is
    (unexcused-none (board_of c.self.inside) c.args.set.now c.self.invariant.board asked (ap (option_map (λ x. x.0)) c.in-None.is))

pub returns-then-lt-clause-none : goal.returns-then-lt-clause-none
returns-then-lt-clause-none c = λ _.
    let asked : optimises c.self.inside.goal ≡ true = ap (λ (b : Board). optimises b.task.goal) c.self.view_is ∙ c.requires in
    let p : Program = c.self.inside.program.value in
    let S : Atoms = c.args.set.now in
    let B : Atoms = c.in-Some.best.0 in
    let mine : cost p S ≡ c.in_ok-cost.cost = sym (c.in_ok-cost.ensures ∙ cost-priced c.self.inside.prices p S c.self.invariant.priced) in
    let theirs : cost p B ≡ c.in-Some.best.1 = sym (subst (λ o. IfSome o (λ x. x.1 ≡ cost p x.0)) c.in-Some.is c.self.invariant.costed) in
    let better : betters (cost p S) (cost p B) ≡ true = (λ k. betters (mine k) (theirs k)) ∙ sym c.if-lt.ensures in
    subst (λ (b : Board). is_excused b S ≡ false) c.self.view_is (unexcused-better (board_of c.self.inside) B S c.self.invariant.board asked (ap (option_map (λ x. x.0)) c.in-Some.is) better)
