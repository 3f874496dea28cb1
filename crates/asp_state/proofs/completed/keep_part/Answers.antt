use Rattle.std.proofs.Common.{◌∙◌, List, length, fold, get_or, ap, sym, subst}
use Rattle.std.specs.List.{All}
use Rattle.asp_model.specs.declared.program.Program.{Program}
use Rattle.asp_vars.specs.Numbering.{var_count}
use Rattle.asp_vars.specs.declared.nogood.Nogood.{Nogood}
use Rattle.asp_trail.specs.Trails.{IsVar}
use Rattle.asp_complete.specs.Listed.{nogoods_between}
use Rattle.asp_order.specs.Heaps.{Ranking}
use Rattle.asp_state.specs.SearchStates.{AreOf, with_places}
use Rattle.asp_state.proofs.ListedLaws.{vars_between}
use Rattle.asp_state.proofs.BegunLaws.{places_listed, vars_ranked}
use Rattle.asp_state.proofs.completed.keep_part.Goals as goal

pub begin_all-requires : goal.begin_all-requires
begin_all-requires g c =
    let p = c.args.compiled.now in
    let order : Ranking = c.args.order.now in
    let listed : All (λ (n : Nogood). All (λ l. IsVar (var_count p) l.var) n.lits) c.as_slice.result.now =
    subst (λ (ns : List Nogood). All (λ (n : Nogood). All (λ l. IsVar (var_count p) l.var) n.lits) ns)
    (sym (c.as_slice.ensures.value ∙ c.in_ok-nogoods.ensures)) (vars_between p c.args.from c.args.to c.requires.from c.requires.to) in
    λ k d h. vars_ranked (var_count p) (length order.activities) (get_or c.as_slice.result.now k d).lits c.requires.vars (listed k d h)

pub keep_all-requires : goal.keep_all-requires
keep_all-requires g c =
    let p = c.args.compiled.now in
    subst (λ (x : Program). All (λ n. AreOf x n.lits) c.in_ok-nogoods.nogoods.items) (sym c.requires.program)
    (subst (λ (ns : List Nogood). All (λ n. AreOf p n.lits) ns) (sym c.in_ok-nogoods.ensures) (vars_between p c.args.from c.args.to c.requires.from c.requires.to))

pub returns-clause-adds : goal.returns-clause-adds
returns-clause-adds g c = rw c.in_ok-nogoods.ensures at c.in_ok-keep_all.ensures.ok

pub returns-clause-order : goal.returns-clause-order
returns-clause-order g c =
    let p = c.args.compiled.now in
    c.begin_all.ensures
    ∙ ap (λ (ns : List Nogood). fold (λ (r : Ranking) (n : Nogood). with_places r n.lits) c.args.order.now ns) (c.as_slice.ensures.value ∙ c.in_ok-nogoods.ensures)
    ∙ places_listed c.args.order.now (nogoods_between p c.args.from c.args.to)
