use Rattle.std.proofs.Common.{sym, subst, ◌∙◌}
use Rattle.std.proofs.lemmas.Bool.{false≢true}
use Rattle.asp_model.specs.Sets.{IsAscending}
use Rattle.asp_checker.proofs.found.fault_of_found.Goals as goal

pub returns-then-not-are_atoms : goal.returns-then-not-are_atoms
returns-then-not-are_atoms c = λ h. false≢true (c.if-not-are_atoms.ensures ∙ h)

pub returns-then-not-cheaper : goal.returns-then-not-cheaper
returns-then-not-cheaper c = (sym c.if-not-are_atoms.ensures, c.in_ok-cheaper.ensures.no c.if-not-cheaper.true)

pub returns-then-not-alike : goal.returns-then-not-alike
returns-then-not-alike c = (sym c.if-not-are_atoms.ensures, c.in_ok-alike.ensures.no c.if-not-alike.true)

pub returns : goal.returns
returns c = record {
  ascending = subst IsAscending c.as_slice-set.ensures.value c.as_slice-set.ensures.ascending;
  atoms = sym c.if-not-are_atoms.ensures;
  cheaper = c.in_ok-cheaper.ensures.yes c.if-not-cheaper.false;
  alike = c.in_ok-alike.ensures.yes c.if-not-alike.false;
}
