use Rattle.std.proofs.Common.{ℕ, refl, subst}
use Rattle.asp_source.specs.Marks.{is_marked}
use Rattle.asp_source.specs.Ranks.{is_above}
use Rattle.asp_source.specs.Founding.{IsFoundBy}
use Rattle.asp_source.proofs.gather.reseat.Goals as goal

pub returns-clause-seated : goal.returns-clause-seated
returns-clause-seated c e = record {
  body = c.in-Some.body;
  by = subst (λ (r : ℕ). IsFoundBy c.args.region.now.compiled.now c.args.region.now.values.now
      (is_above c.args.region.now.components.now c.args.region.now.ranks.now.ranks (is_marked c.args.loose.now) c.args.region.now.component r)
      c.args.var c.in-Some.body) c.of.ensures c.in-Some.ensures.some;
  is = refl;
}
