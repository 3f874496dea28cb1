use Rattle.asp_vars.specs.Literals.{complement}
use Rattle.asp_vars.specs.Tabled.{bodies_with}
use Rattle.asp_source.proofs.LoseLaws.{less_of, each_gone_less}
use Rattle.asp_source.proofs.pointers.lose_by.Goals as goal

pub returns-clause-body : goal.returns-clause-body
returns-clause-body c =
    each_gone_less c.args.compiled.now c.lose_bodies.new.sources c.lose_all.new.sources (bodies_with c.args.compiled.now (complement c.args.lit))
    (less_of c.lose_bodies.new.sources c.lose_bodies.new.queue c.lose_all.new.sources c.lose_all.new.queue c.lose_all.ensures.loses) c.lose_bodies.ensures.gone
