use Rattle.std.proofs.Common.{refl, subst, sym, ap, ◌∙◌}
use Rattle.std.specs.List.{AllByRecursion}
use Rattle.asp_parts.specs.declared.part.Part.{Part}
use Rattle.asp_parts.specs.Rounds.{IsDone}
use Rattle.asp_parts.proofs.RoundLaws.{done-more, taken-leaf}
use Rattle.asp_parts.proofs.worker.take.Goals as goal

pub work_off-requires-clause-leaf : goal.work_off-requires-clause-leaf
work_off-requires-clause-leaf c =
    taken-leaf c.args.worker.now.bench.compiled.now c.args.parts.now c.args.place c.index-parts-place.result c.in_ok-leaf.leaf c.requires.parts c.requires.within
    (c.in_ok-leaf.ensures ∙ ap (λ (x : Part). x.leaf) c.index-parts-place.is)

pub returns-in_err-parts : goal.returns-in_err-parts
returns-in_err-parts c = record { worker = c.work_off.ensures.kept; done = c.requires.worker.done }

pub returns-in_err-push : goal.returns-in_err-push
returns-in_err-push c = record {
  worker = c.work_off.ensures.kept;
  done = subst (AllByRecursion (IsDone c.args.worker.now.bench.compiled.now c.args.parts.now)) (sym c.in_err-push.ensures.items) c.requires.worker.done;
}

pub returns : goal.returns
returns c =
    done-more c.args.worker.now.bench.compiled.now c.args.parts.now c.args.worker.now _ c.args.place c.index-parts-place.result c.in_ok-leaf.leaf
    (record { place = c.args.place; parts = c.in_ok-parts.parts }) c.requires.worker c.work_off.ensures.kept c.requires.within
    (c.in_ok-leaf.ensures ∙ ap (λ (x : Part). x.leaf) c.index-parts-place.is) refl
    c.in_ok-parts.ensures.pieces c.in_ok-push.ensures.items
