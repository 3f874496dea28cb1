use Rattle.std.proofs.Common.{◌++◌, filter, not, ap, ◌∙◌, subst}
use Rattle.asp_model.specs.Sets.{IsAscending, has, set_of}
use Rattle.asp_equal.specs.Merged.{back, gone}
use Rattle.asp_equal.proofs.CopyLaws.{extended-from}
use Rattle.asp_equal.proofs.merge.extend.Goals as goal

pub returns : goal.returns
returns c =
    let copies = c.args.copies.now in
    let S = c.args.set.now in
    let G = c.in_ok-gone.gone in
    let up = subst IsAscending c.as_slice-2.ensures.value c.as_slice-2.ensures.ascending in
    let is = c.in_ok-gone.ensures ∙ ap (λ cs. set_of (gone cs)) c.as_slice.ensures.value in
    let stay = c.staying-atoms.ensures ∙ ap (filter (λ a. not (has G a))) (c.in_ok-from_slice.ensures.items ∙ c.as_slice-2.ensures.value) in
    c.from_atoms.ensures.value
    ∙ extended-from copies S G c.push_copies.new.atoms.items up is
    (c.in_ok-push_copies.ensures ∙ ap (λ xs. xs ++ back c.as_slice-3.result.now S) stay ∙ ap (λ cs. filter (λ a. not (has G a)) S ++ back cs S) c.as_slice-3.ensures.value)
