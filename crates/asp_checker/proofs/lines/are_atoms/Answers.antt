use Rattle.std.proofs.Common.{take, get_or, sym, ap, ◌∙◌}
use Rattle.std.specs.List.{list_all}
use Rattle.std.proofs.lemmas.Bool.{and_from}
use Rattle.std.proofs.lemmas.List.{take_all}
use Rattle.std.proofs.lemmas.List.Folds.{list_all_more, list_all_at}
use Rattle.asp_model.specs.Sets.{Atoms, has}
use Rattle.asp_found.proofs.MergeLaws.{next_below}
use Rattle.asp_checker.proofs.lines.are_atoms.Goals as goal

pub loop-atom-preserved : goal.loop-atom-preserved
loop-atom-preserved c =
    let atoms = c.as_slice-atoms.result.now in
    let own = c.as_slice-own.result.now in
    let i = c.loop-atom.atom-index in
    record {
      stand = list_all_more (has atoms) own i 0 c.loop-atom-test.true
          ∙ and_from (list_all (has atoms) (take i own)) (has atoms (get_or own i 0)) c.loop-atom.invariant.stand
          (sym c.stands_at.ensures.has ∙ c.if-not-stands_at.false);
      within = c.skip-place.ensures.within;
      below = λ more. next_below own atoms i c.skip-place.result c.as_slice-own.ensures.ascending more c.skip-place.ensures.before;
    }

pub returns-then-not-stands_at : goal.returns-then-not-stands_at
returns-then-not-stands_at c =
    sym (list_all_at (has c.as_slice-atoms.result.now) c.as_slice-own.result.now c.loop-atom.atom-index 0 c.loop-atom-test.true (sym c.stands_at.ensures.has ∙ c.if-not-stands_at.true))
    ∙ ap (λ (L : Atoms). list_all (has L) c.as_slice-own.result.now) (c.as_slice-atoms.ensures.value ∙ c.atoms.ensures) ∙ ap (list_all (has _)) c.as_slice-own.ensures.value

pub returns : goal.returns
returns c =
    sym (ap (list_all (has c.as_slice-atoms.result.now)) (sym (take_all c.loop-atom.atom-index c.as_slice-own.result.now c.loop-atom-test.false)) ∙ c.loop-atom.invariant.stand)
    ∙ ap (λ (L : Atoms). list_all (has L) c.as_slice-own.result.now) (c.as_slice-atoms.ensures.value ∙ c.atoms.ensures) ∙ ap (list_all (has _)) c.as_slice-own.ensures.value
