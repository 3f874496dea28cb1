use Rattle.std.proofs.Common.{◌<◌, ◌^◌, arith, refl, rules}
use Rattle.asp_limit.proofs.LimitLaws.{fits-more, heard-more}
use Rattle.asp_limit.proofs.limited.LimitedOutlet.hear_next.Goals as goal

pub overflow_add-self : goal.overflow_add-self
overflow_add-self g c =
    let old = c.args.self.now in
    let small : old.left < 2 ^ 64 = search (rules, arith) in
    let fits = fits-more old.outlet.listing.all old.outlet.listing.sets c.args.rows.now.sets old.left c.write_some-written.result c.len.result
    c.requires.front c.requires.room small c.len.ensures in
    search (rules, arith, fits)

pub returns-clause-heard : goal.returns-clause-heard
returns-clause-heard g c =
    let old = c.args.self.now in
    let new = c.write_some-written.new.self in
    heard-more old.outlet.listing.all new.outlet.listing.all old.outlet.listing.sets new.outlet.listing.sets c.args.rows.now.sets old.left old.left c.write_some-written.result c.len.result
    c.write_some-written.ensures.all c.write_some-written.ensures.hears.heard refl c.len.ensures c.requires.front c.write_some-written.ensures.order c.write_some-written.ensures.within
