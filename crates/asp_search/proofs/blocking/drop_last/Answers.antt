use Rattle.std.proofs.Common.{◌-◌, sym, subst, arith}
use Rattle.asp_search_laws.specs.Keeping.{IsBlocking}
use Rattle.asp_search.proofs.BlockLaws.{blocking_has, last_dropped}
use Rattle.asp_search.proofs.CoverLaws.{last_spared}
use Rattle.asp_search.proofs.blocking.drop_last.Goals as goal

pub is_redundant-requires : goal.is_redundant-requires
is_redundant-requires g c =
    let t = c.args.state.now in
    blocking_has t.slots c.index-id.result.now (subst (IsBlocking t.slots) (sym c.index-id.ensures) (c.requires.each (c.len-len.result - 1) c.index-id.result.now (omega arith)))

pub returns-clause-blocking : goal.returns-clause-blocking
returns-clause-blocking g c =
    (last_dropped c.args.state.now c.remove.new.self c.args.blocking.now.items c.truncate.new.self.items (c.len-len.result - 1) c.index-id.result.now
    c.args.lits.now (omega arith) c.index-id.ensures c.requires
    (c.is_redundant.ensures c.if-not-is_redundant.false) c.remove.ensures c.truncate.ensures.items).0

pub returns-clause-drops : goal.returns-clause-drops
returns-clause-drops g c =
    (last_dropped c.args.state.now c.remove.new.self c.args.blocking.now.items c.truncate.new.self.items (c.len-len.result - 1) c.index-id.result.now
    c.args.lits.now (omega arith) c.index-id.ensures c.requires
    (c.is_redundant.ensures c.if-not-is_redundant.false) c.remove.ensures c.truncate.ensures.items).1

pub returns-clause-spares : goal.returns-clause-spares
returns-clause-spares g c =
    (last_spared c.args.state.now c.remove.new.self c.args.blocking.now.items c.truncate.new.self.items (c.len-len.result - 1) c.index-id.result.now (omega arith) c.index-id.ensures c.requires
    c.remove.ensures c.truncate.ensures.items).1
