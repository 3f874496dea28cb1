-- Without a bound nothing is given that a bound excludes.
use Rattle.std.proofs.Common.{◌≡◌, None, inl, inr}
use Rattle.std.proofs.lemmas.Option.{none-some}
use Rattle.asp_model.specs.declared.program.Program.{Program}
use Rattle.asp_vars.specs.declared.nogood.Base.TheVariants as base
use Rattle.asp_vars.specs.declared.nogood.Nogood.{Nogood}
use Rattle.asp_vars.specs.Entailment.{Entailed}
use Rattle.asp_propagators.specs.Saying.{gives}

pub unbounded-entailed : (p : Program) (n : Nogood) → gives p None n → (n.base ≡ base.Pure) × Entailed p n.lits
unbounded-entailed p n (inl w) = (w.base, w.entailed)
unbounded-entailed p n (inr (inl d)) = absurd (none-some d.cost d.stands)
unbounded-entailed p n (inr (inr l)) = (l.base, l.entailed)
