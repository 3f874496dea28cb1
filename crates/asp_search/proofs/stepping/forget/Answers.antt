use Rattle.std.proofs.Common.{List, ap, subst}
use Rattle.asp_trail.specs.declared.trail.Entry.{Entry}
use Rattle.asp_propagate.specs.Propagating.{IsReduced}
use Rattle.asp_search_laws.proofs.SlotLaws.{reduced_twice}
use Rattle.asp_state.specs.SearchStates.{SearchView}
use Rattle.asp_search.proofs.BlockLaws.{slots_twice}
use Rattle.asp_search.proofs.stepping.forget.Goals as goal

pub returns-clause-same : goal.returns-clause-same
returns-clause-same g c = slots_twice c.args.state.now c.drop_given.new.self c.reduce.new.state c.drop_given.ensures.same c.reduce.ensures.same

pub returns-clause-reduced : goal.returns-clause-reduced
returns-clause-reduced g c =
    let t = c.args.state.now in
    let m = c.drop_given.new.self in
    let u = c.reduce.new.state in
    let second : IsReduced t.entries m.slots u.slots =
    subst (λ (es : List Entry). IsReduced es m.slots u.slots) (ap (λ (x : SearchView). x.entries) c.drop_given.ensures.same) c.reduce.ensures.reduced in
    reduced_twice t.entries t.slots m.slots u.slots c.drop_given.ensures.kept second
