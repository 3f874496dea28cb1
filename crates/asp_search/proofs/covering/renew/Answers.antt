use Rattle.std.proofs.Common.{refl, sym, subst}
use Rattle.asp_search_laws.specs.Keeping.{AreBlocking}
use Rattle.asp_search.proofs.CoverLaws.{cover_done, kept_blocking_stand}
use Rattle.asp_search.proofs.covering.renew.Goals as goal

pub drop_all-requires : goal.drop_all-requires
drop_all-requires g c =
    kept_blocking_stand c.args.state.now c.keep_cover.new.state c.in_ok-id.id _ c.args.blocking.now.items c.keep_cover.new.blocking.items
    c.requires.blocking c.in_ok-id.ensures.ok c.keep_cover.ensures.blocking

pub returns-clause-ok : goal.returns-clause-ok
returns-clause-ok g c =
    cover_done _ c.args.state.now c.keep_cover.new.state c.keep_cover.new.state c.drop_all.new.state c.in_ok-id.id c.keep_cover.new.blocking.items
    c.drop_all.new.blocking.items c.push_reserved.new.self.items refl
    c.keep_cover.ensures.same c.in_ok-id.ensures.ok refl c.drop_all.ensures.same
    (subst (AreBlocking c.args.state.now.slots) (sym c.keep_cover.ensures.blocking) c.requires.blocking) c.drop_all.ensures.spares
    c.push_reserved.ensures.items
