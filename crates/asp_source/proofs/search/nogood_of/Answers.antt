use Rattle.std.proofs.Common.{ℕ, List, sym, subst}
use Rattle.std.specs.List.{All}
use Rattle.asp_scc.specs.Components.{Stands}
use Rattle.asp_loop.specs.LoopNogoods.{IsLoopNogood}
use Rattle.asp_source.proofs.RestLaws.{found_joined, all_stand}
use Rattle.asp_source.proofs.search.nogood_of.Goals as goal

pub loop_nogood-requires-clause-stand : goal.loop_nogood-requires-clause-stand
loop_nogood-requires-clause-stand c =
    subst (λ (U : List ℕ). All (Stands c.args.setting.now.compiled.now) U) (sym c.as_slice-atoms.ensures.value)
    (all_stand c.args.setting.now.compiled.now c.args.found.now.atoms.items
    (found_joined c.args.setting.now.compiled.now c.args.setting.now.values.now c.args.found.now.atoms.items c.args.found.now.atom
    c.requires.found))

pub returns : goal.returns
returns c =
    let made = rw c.in-Some.is at c.in_ok-nogood.ensures in
    subst (λ (U : List ℕ). IsLoopNogood c.args.setting.now.compiled.now c.args.setting.now.values.now U c.args.found.now.atom c.in-Some.nogood) c.as_slice-atoms.ensures.value made
