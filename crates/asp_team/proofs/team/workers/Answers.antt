use Rattle.std.proofs.Common.{length, refl, sym, ap, subst, arith}
use Rattle.asp_team.specs.Teams.{AreReady}
use Rattle.asp_team.proofs.TeamLaws.{ready-none}
use Rattle.asp_team.proofs.team.workers.Goals as goal

pub lanes-init : goal.lanes-init
lanes-init c = record {
  host = c.requires.host;
  about = refl;
  ready = subst (AreReady c.args.shared.now c.args.lead.now) (sym c.in_ok-workers.ensures.items) (ready-none c.args.shared.now c.args.lead.now c.requires.none_out.0 c.requires.none_out.1);
  count = omega (arith, ap length c.in_ok-workers.ensures.items);
  even = omega (arith, c.requires.even, c.reverse.ensures.len, c.reverse.new.self.ok.0, c.args.lanes.ok.0);
  of_pool = c.requires.passes;
}
