use Rattle.std.proofs.Common.{◌≡◌, ◌<◌, ◌&&◌, leb, not, List, length, sym, ap, ◌∙◌, arith}
use Rattle.std.proofs.lemmas.Bool.{ne_eqb}
use Rattle.std.proofs.lemmas.List.{length-map}
use Rattle.asp_rows.specs.declared.row.Row.{Row}
use Rattle.asp_core.specs.declared.state.State.TheInside.{Inside}
use Rattle.asp_model.specs.Sets.{Atoms}
use Rattle.asp_core.specs.Boards.{distinct, is_enough, sought}
use Rattle.asp_core.specs.Stored.{answers_in}
use Rattle.asp_core.proofs.CountLaws.{length-sorted_once}
use Rattle.asp_core.proofs.state.State.enough.Goals as goal

pub returns-then-self-ne0 : goal.returns-then-self-ne0
returns-then-self-ne0 c =
    let i : Inside = c.self.inside in
    let A : List Atoms = answers_in (sought i.goal) i.answers.sets i.told.items in
    let some : 0 < i.limit = omega arith in
    let many : c.len.result ≡ length (distinct A) =
    c.len.ensures.len ∙ sym (length-map i.different.keys (λ (x : Row). x.set)) ∙ ap length (c.self.invariant.sorted some).sorted
    ∙ length-sorted_once A in
    ap (leb i.limit) many ∙ sym (ap (λ x. not x && leb i.limit (length (distinct A))) (ne_eqb i.limit 0 c.if-self-ne0.true)) ∙ ap is_enough c.self.view_is
