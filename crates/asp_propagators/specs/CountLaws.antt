-- What is given counts for a search.
use Rattle.std.proofs.Common.{◌≡◌, true, false, not, List, Option, Some, ℤ, sym, ap, subst, inl, inr}
use Rattle.std.specs.Ordering.{is_lt}
use Rattle.std.proofs.lemmas.Cmp.{tied_itself}
use Rattle.asp_model.specs.declared.program.Program.{Program}
use Rattle.asp_model.specs.Sets.{Atoms}
use Rattle.asp_model.specs.Sound.{IsSound}
use Rattle.asp_model.specs.Costs.{betters}
use Rattle.asp_model.specs.Orders.{costs_total}
use Rattle.asp_vars.specs.declared.nogood.Base.{Base}
use Rattle.asp_vars.specs.declared.nogood.Base.TheVariants as base
use Rattle.asp_vars.specs.declared.nogood.Nogood.{Nogood}
use Rattle.asp_vars.specs.Entailment.{HitsOnly, excuse, Entailed, Below}
use Rattle.asp_vars.specs.Resolution.{is_bound_within}
use Rattle.asp_propagate.specs.Useful.{Counts, IsUseful}
use Rattle.asp_propagators.specs.Saying.{gives}

betters-itself : (c : List ℤ) → betters c c ≡ false
betters-itself c = ap is_lt (tied_itself costs_total c)

pure-counts : (p : Program) (bound : Option (List ℤ)) (n : Nogood) (known : List Atoms) → n.base ≡ base.Pure → Entailed p n.lits → IsUseful p known bound n
pure-counts p bound n known e h = record {
  good = subst (λ (b : Base). HitsOnly p (excuse p known bound b) n.lits) (sym e) h;
  counts = subst (Counts bound) (sym e) tt;
}

dear-counts : (p : Program) (bound : Option (List ℤ)) (n : Nogood) (known : List Atoms) (c : List ℤ) → bound ≡ Some c → n.base ≡ base.Below c → Below p c n.lits → IsUseful p known bound n
dear-counts p bound n known c stands e h = record {
  good = subst (λ (b : Base). HitsOnly p (excuse p known bound b) n.lits) (sym e) h;
  counts = subst (Counts bound) (sym e) (subst (λ (o : Option (List ℤ)). is_bound_within o c ≡ true) (sym stands) (ap not (betters-itself c)));
}

pub gives-count : (p : Program) (bound : Option (List ℤ)) (n : Nogood) (known : List Atoms) → IsSound p → gives p bound n → IsUseful p known bound n
gives-count p bound n known sound (inl w) = pure-counts p bound n known w.base w.entailed
gives-count p bound n known sound (inr (inl d)) = dear-counts p bound n known d.cost d.stands d.base d.below
gives-count p bound n known sound (inr (inr l)) = pure-counts p bound n known l.base l.entailed
