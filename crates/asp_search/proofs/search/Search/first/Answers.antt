use Rattle.std.proofs.Common.{List, Option, IfSome, slice_get, sym, ap, ◌∙◌, subst}
use Rattle.asp_vars.specs.Literals.{Literal}
use Rattle.asp_search_laws.specs.Searching.{Searching}
use Rattle.asp_search.specs.Beside.{IsOpen}
use Rattle.asp_search.proofs.OpenLaws.{first_open}
use Rattle.asp_search.proofs.search.Search.first.Goals as goal

pub returns-clause-splits : goal.returns-clause-splits
returns-clause-splits g c = λ q e.
    let t = c.self.inside.state in
    let entered = ap (λ (x : Searching). x.cube) c.self.view_is ∙ e in
    let first = c.copied.ensures ∙ (c.first.ensures.value ∙ ap (λ (ds : List Literal). slice_get ds 0) c.decisions.ensures) in
    let is = first_open t.program q t.decisions t.entries t.clashing c.trail-trail.ensures.ordered (λ h. c.is_clashing-clashing.ensures.idle (c.is_clashing-clashing.ensures.same ∙ h))
    (λ h. (c.trail-trail.ensures.begun q (record { cube_is = entered; fixpoint = h })).starts) in
    subst (λ (x : Searching). IfSome c.copied.result (IsOpen x.program q)) c.self.view_is (subst (λ (o : Option Literal). IfSome o (IsOpen t.program q)) (sym first) is)
