use Rattle.std.proofs.Common.{length, ap, ◌∙◌, arith, get_or, ◌-◌, true, None}
use Rattle.asp_trail.specs.declared.trail.Entry.{Entry}
use Rattle.asp_trail.specs.Trails.{Trailed}
use Rattle.asp_trail.proofs.TrailLaws.{cut_pop, cut_all}
use Rattle.asp_trail.proofs.trail.Trail.undo_to.Goals as goal

pub loop-self-preserved : goal.loop-self-preserved
loop-self-preserved c =
    let new : Trailed = c.pop.new.self in
    let old : Trailed = c.loop-self.self in
    let d : Entry = record { lit = record { var = 0; truth = true }; level = 0; reason = None } in (
      c.pop.ensures.same ∙ ap (λ (t : Trailed). let r : Trailed = record { vars = t.vars; entries = new.entries; seen = new.seen; room = t.room } in r) c.loop-self.invariant.0,
      cut_pop c.args.level old.entries new.entries (get_or old.entries (length old.entries - 1) d) (c.pop.ensures.entries d)
          (omega (arith, c.loop-self-test.true, c.level.ensures.level)) ∙ c.loop-self.invariant.1,
      omega (arith, c.pop.ensures.len, c.loop-self.invariant.2),
      omega (arith, c.pop.ensures.len, c.pop.ensures.seen, c.loop-self.invariant.3),
    )

pub returns-clause-entries : goal.returns-clause-entries
returns-clause-entries c = cut_all c.args.level c.level.result c.loop-self.self.entries c.level.ensures.top c.loop-self-test.false ∙ c.loop-self.invariant.1
