use Rattle.std.proofs.Common.{ap, ◌∙◌, ◌++◌, subst}
use Rattle.asp_model.specs.Sets.{IsAscending}
use Rattle.asp_settle.proofs.StableLaws.{united-from}
use Rattle.asp_settle.proofs.settle.unite.Goals as goal

pub returns : goal.returns
returns c =
    let facts = c.as_slice-2.ensures.value in
    let set = c.in_ok-atoms.ensures.items ∙ c.as_slice.ensures.value in
    let up = subst IsAscending c.as_slice.ensures.value c.as_slice.ensures.ascending in
    c.from_atoms.ensures.value ∙ united-from c.args.facts.now c.args.set.now c.extend_from_slice.new.self.items up
    (c.in_ok-extend_from_slice.ensures.items ∙ ap (λ xs. c.in_ok-atoms.atoms.items ++ xs) facts ∙ ap (λ xs. xs ++ c.args.facts.now) set)
