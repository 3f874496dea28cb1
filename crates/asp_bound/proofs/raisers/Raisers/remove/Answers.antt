use Rattle.asp_bound.proofs.RaiserLaws.{removed_as, absent_as}
use Rattle.std.specs.Vec.{vec_capacity}
use Rattle.asp_bound.proofs.raisers.Raisers.remove.Goals as goal

pub returns-in-Some : goal.returns-in-Some
returns-in-Some c =
    removed_as c.self.inside.vars.items c.remove-var.new.self.items c.as_slice.result.now c.args.var c.in-Some.place (vec_capacity c.self.inside.vars)
    (vec_capacity c.remove-var.new.self) c.args.self.now c.self.view_is c.requires c.as_slice.ensures.value c.in-Some.ensures.some
    c.remove-var.ensures.items c.remove-var.ensures.capacity

pub returns-in_default : goal.returns-in_default
returns-in_default c =
    absent_as c.self.inside.vars.items c.as_slice.result.now c.args.var (vec_capacity c.self.inside.vars) c.args.self.now c.self.view_is
    c.as_slice.ensures.value c.in_default.ensures.none
