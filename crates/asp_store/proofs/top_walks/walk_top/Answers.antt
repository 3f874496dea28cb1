use Rattle.std.proofs.Common.{◌≡◌, List, sym, ap, ◌∙◌, subst, arith}
use Rattle.std.specs.Result.{IfOk}
use Rattle.std.proofs.lemmas.List.{length-set}
use Rattle.asp_vars.specs.Codes.{code_of}
use Rattle.asp_trail.specs.Trails.{Trailed}
use Rattle.asp_store.specs.Marks.{Watch}
use Rattle.asp_store.specs.declared.watches.Watches.{Watches}
use Rattle.asp_store.specs.declared.front.Front.{Front}
use Rattle.asp_store.specs.Sounding.{IsSound}
use Rattle.asp_store.specs.Walking.{back, IsWalking, Walked}
use Rattle.asp_store.proofs.StepLaws.{code_of_list, front_var}
use Rattle.asp_store.proofs.BackLaws.{back_taken}
use Rattle.asp_store.proofs.top_walks.walk_top.Goals as goal

pub take_list-list-requires : goal.take_list-list-requires
take_list-list-requires c =
    let small = front_var c.args.trail.now c.args.front.now c.len-len.ensures.ordered c.requires.walking.stands in
    code_of_list c.args.slots.now c.args.watches.now c.args.trail.now c.args.front.now.lit c.requires.walking.sound small

pub walk_list-found-requires-clause-walking : goal.walk_list-found-requires-clause-walking
walk_list-found-requires-clause-walking c =
    let w : Watches = c.args.watches.now in
    let k = code_of c.args.front.now.lit in
    let l = c.take_list-list.ensures.left in
    let m = c.take_list-list.ensures.list in
    let e : back (record w { lists = c.take_list-list.new.self }) k c.take_list-list.result.items ≡ w = (λ j. back (record w { lists = l j }) k (m j)) ∙ back_taken w k in
    subst (λ (u : Watches). IsWalking c.args.slots.now u c.args.trail.now c.args.front.now 0) (sym e) c.requires.walking

pub put_list-requires : goal.put_list-requires
put_list-requires c =
    let f : Front = c.args.front.now in
    let small = front_var c.args.trail.now f c.len-len.ensures.ordered c.requires.walking.stands in
    let w : Watches = c.walk_list-found.new.watches in
    let l : List Watch = c.walk_list-found.new.list.items in
    let within = code_of_list c.args.slots.now (back w (code_of f.lit) l) c.walk_list-found.new.trail f.lit c.walk_list-found.ensures.sound
    (omega (arith, small, ap (λ (t : Trailed). t.vars) c.walk_list-found.ensures.same)) in
    omega (arith, within, length-set w.lists (code_of f.lit) l)

pub returns-clause-sound : goal.returns-clause-sound
returns-clause-sound c =
    let w : Watches = c.walk_list-found.new.watches in
    let e : record w { lists = c.put_list.new.self } ≡ back w (code_of c.args.front.now.lit) c.walk_list-found.new.list.items = λ j. record w { lists = c.put_list.ensures j } in
    subst (λ (u : Watches). IsSound c.args.slots.now u c.walk_list-found.new.trail) (sym e) c.walk_list-found.ensures.sound

pub returns-clause-walked : goal.returns-clause-walked
returns-clause-walked c =
    let w : Watches = c.walk_list-found.new.watches in
    let e : record w { lists = c.put_list.new.self } ≡ back w (code_of c.args.front.now.lit) c.walk_list-found.new.list.items = λ j. record w { lists = c.put_list.ensures j } in
    subst (λ (u : Watches). IfOk c.walk_list-found.result (Walked c.args.slots.now u c.walk_list-found.new.trail c.args.front.now)) (sym e) c.walk_list-found.ensures.walked
