use Rattle.std.proofs.Common.{arith}
use Rattle.asp_checker.proofs.SetListLaws.{first_stays, last_pushed}
use Rattle.asp_checker.proofs.set_list.SetList.push.Goals as goal

pub invariant_of-self-2 : goal.invariant_of-self-2
invariant_of-self-2 c =
    let old = c.self.inside.rows in (
      first_stays old c.push.new.self c.args.set c.self.inside.first (omega (arith, c.len.ensures, c.if-len-eq0.false)) c.in_ok-push.ensures.ok c.self.invariant.0,
      last_pushed old c.push.new.self c.args.set c.in_ok-push.ensures.ok,
    )
