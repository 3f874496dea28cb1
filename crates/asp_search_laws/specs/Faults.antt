-- Why the set of a whole trail isn't stable.
use Rattle.std.specs.Prelude.{◌≡◌, ℕ, List, IsTrue}
use Rattle.asp_model.specs.declared.program.Program.{Program}
use Rattle.asp_vars.specs.Entailment.{Entailed}
use Rattle.asp_vars.specs.declared.nogood.Base.TheVariants as base
use Rattle.asp_vars.specs.declared.nogood.Nogood.{Nogood}
use Rattle.asp_trail.specs.declared.trail.Entry.{Entry}
use Rattle.asp_trail.specs.Entries.{assignment}
use Rattle.asp_trail.specs.Fixpoint.{is_violated}
use Rattle.asp_trail_laws.specs.Whole.{AreVars}
use Rattle.asp_search_laws.specs.Axioms.{IsAxiom}

-- An axiom that no stable model hits, and the trail does.
pub record IsFault (p : Program) (gives : Nogood → Type 0) (vars : ℕ) (entries : List Entry) (n : Nogood) : Type 0 where
  pub pure : n.base ≡ base.Pure
  pub entailed : Entailed p n.lits
  pub why : IsAxiom p gives n
  pub within : AreVars vars n.lits
  pub violated : IsTrue (is_violated (assignment vars entries) n.lits)
