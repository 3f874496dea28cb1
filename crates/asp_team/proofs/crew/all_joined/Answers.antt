use Rattle.std.proofs.Common.{◌<◌, length, ap, sym, subst, arith}
use Rattle.std.specs.Prelude.{option_to_list, vec_len}
use Rattle.asp_vault.specs.Seats.{view}
use Rattle.asp_team.specs.Joined.{IsBack}
use Rattle.asp_team.proofs.Ready.{popped}
use Rattle.asp_team.proofs.BackLaws.{none-joined, one-joined}
use Rattle.asp_team.proofs.crew.all_joined.Goals as goal

pub workers-init : goal.workers-init
workers-init c = none-joined c.args.shared.now c.args.lead c.args.workers.items c.requires.lead c.requires.back

pub joined-lead-requires-clause-back : goal.joined-lead-requires-clause-back
joined-lead-requires-clause-back c =
    let v = c.workers.workers in let j = c.workers.invariant in
    let some : 0 < vec_len v = omega (arith, c.pop.ensures.len, ap (λ o. length (option_to_list o)) c.in-Some.is) in
    subst (λ about. IsBack c.args.shared.now about c.in-Some.worker) (sym j.joins.about)
    (popped (IsBack c.args.shared.now (view c.args.lead.seat).about) v.items (vec_len v) c.pop.result c.in-Some.worker j.back (omega (arith, v.ok.0)) some c.pop.ensures.value c.in-Some.is)

pub workers-preserved : goal.workers-preserved
workers-preserved c =
    one-joined c.args.shared.now c.args.lead c.workers.lead c.joined-lead.result c.args.workers.items c.workers.workers.items c.pop.new.self.items c.pop.result c.in-Some.worker c.workers.invariant
    c.pop.ensures.items c.in-Some.is c.joined-lead.ensures.lead c.joined-lead.ensures.joins c.joined-lead.ensures.pages_join c.joined-lead.ensures.stay c.joined-lead.ensures.came
