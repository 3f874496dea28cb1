use Rattle.std.proofs.Common.{◌<◌, length, ap, sym, subst, arith}
use Rattle.std.specs.Prelude.{option_to_list, vec_len}
use Rattle.std.specs.List.{All, AllZip}
use Rattle.asp_vault.specs.Seats.{view}
use Rattle.asp_worker.specs.Seats.{Worked}
use Rattle.asp_team.specs.Joined.{CameBack, CameHome, IsBack, MayJoin}
use Rattle.asp_team.proofs.GoneLaws.{came-on, came-worked, stay-on}
use Rattle.asp_team.proofs.Ready.{popped, all-left, all-pushed}
use Rattle.asp_team.proofs.BackLaws.{all-came, all-worked, back-worked, list-back}
use Rattle.asp_team.proofs.crew.crew.Goals as goal

pub all_joined-lead-requires-clause-back : goal.all_joined-lead-requires-clause-back
all_joined-lead-requires-clause-back g c =
    let R = Worked (g.H.Halt.never c.args.halt.now → ⊥) c.args.shared.now in
    let hs = c.pop.new.self.items in
    let e = list-back R c.pop.new.self.len hs c.as_mut_slice.result.now c.beside.new.others c.as_mut_slice.ensures.value c.beside.ensures.others (omega (arith, c.pop.new.self.ok.0)) in
    subst (All (IsBack c.args.shared.now (view c.args.lead.seat).about)) (sym e)
    (all-worked (g.H.Halt.never c.args.halt.now → ⊥) c.args.shared.now c.args.compiled.now (view c.args.lead.seat).about hs c.beside.new.others
    (all-left (MayJoin c.args.compiled.now c.args.shared.now (view c.args.lead.seat).about) c.args.workers.items hs c.pop.result c.pop.ensures.items c.requires.workers)
    (subst (λ ws. AllZip R ws c.beside.new.others) c.as_mut_slice.ensures.value c.beside.ensures.others))

pub joined-requires-clause-back : goal.joined-requires-clause-back
joined-requires-clause-back g c =
    let v = c.args.workers in
    let some : 0 < vec_len v = omega (arith, c.pop.ensures.len, ap (λ o. length (option_to_list o)) c.in-Some.is) in
    let first : MayJoin c.args.compiled.now c.args.shared.now (view c.args.lead.seat).about c.in-Some.worker =
    popped (MayJoin c.args.compiled.now c.args.shared.now (view c.args.lead.seat).about) v.items (vec_len v) c.pop.result c.in-Some.worker
    c.requires.workers (omega (arith, v.ok.0)) some c.pop.ensures.value c.in-Some.is in
    subst (λ about. IsBack c.args.shared.now about c.beside.new.worker) (sym c.all_joined-lead.ensures.joins.about)
    (back-worked (g.H.Halt.never c.args.halt.now → ⊥) c.args.shared.now c.args.compiled.now (view c.args.lead.seat).about c.in-Some.worker c.beside.new.worker first c.beside.ensures.worker)

pub returns-in-Some-clause-stay : goal.returns-in-Some-clause-stay
returns-in-Some-clause-stay g c = stay-on c.args.lead c.all_joined-lead.result c.joined.result c.all_joined-lead.ensures.stay c.joined.ensures.stay

pub returns-in-Some-clause-came : goal.returns-in-Some-clause-came
returns-in-Some-clause-came g c =
    let R = Worked (g.H.Halt.never c.args.halt.now → ⊥) c.args.shared.now in
    let hs = c.pop.new.self.items in let l = c.all_joined-lead.result in
    let e = list-back R c.pop.new.self.len hs c.as_mut_slice.result.now c.beside.new.others c.as_mut_slice.ensures.value c.beside.ensures.others (omega (arith, c.pop.new.self.ok.0)) in
    let came : All (CameHome (g.H.Halt.never c.args.halt.now → ⊥) l) hs =
    all-came (g.H.Halt.never c.args.halt.now → ⊥) c.args.shared.now l hs c.beside.new.others
    (subst (λ ws. AllZip R ws c.beside.new.others) c.as_mut_slice.ensures.value c.beside.ensures.others) (subst (All (CameBack l)) e c.all_joined-lead.ensures.came) in
    all-pushed (CameHome (g.H.Halt.never c.args.halt.now → ⊥) c.joined.result) c.args.workers.items hs c.pop.result c.in-Some.worker c.pop.ensures.items c.in-Some.is
    (λ k d lt. came-on (g.H.Halt.never c.args.halt.now → ⊥) l c.joined.result _ c.joined.ensures.stay (came k d lt))
    (came-worked (g.H.Halt.never c.args.halt.now → ⊥) c.args.shared.now c.in-Some.worker c.beside.new.worker c.joined.result c.beside.ensures.worker
    c.joined.ensures.came.home c.joined.ensures.came.gone)
