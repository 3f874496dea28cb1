use Rattle.std.proofs.Common.{◌≡◌, sym, ap, ◌∙◌, subst}
use Rattle.std.specs.Prelude.{OnOk}
use Rattle.asp_search_laws.specs.Searching.{Searching}
use Rattle.asp_worker.specs.Sharing.{is_smaller}
use Rattle.asp_worker.proofs.GoingLaws.{smaller-is, lowered-then, lowered-else}
use Rattle.asp_worker.proofs.sharing.lower_bound.Goals as goal

pub set_bound-requires : goal.set_bound-requires
set_bound-requires g c = smaller-is c.args.cost c.args.search.now.bound (ap (is_smaller c.args.cost) (sym c.bound.ensures) ∙ sym c.beats.ensures ∙ c.if-not-beats.false)

pub returns-then-not-beats-clause-ok : goal.returns-then-not-beats-clause-ok
returns-then-not-beats-clause-ok g c = lowered-else c.args.search.now c.args.cost c.beats.result (c.beats.ensures ∙ ap (is_smaller c.args.cost) c.bound.ensures) c.if-not-beats.true

pub returns-clause-ok : goal.returns-clause-ok
returns-clause-ok g c =
    subst (λ (x : Searching). OnOk c.set_bound.result (c.set_bound.new.self ≡ x))
    (lowered-then c.args.search.now c.args.cost c.beats.result (c.beats.ensures ∙ ap (is_smaller c.args.cost) c.bound.ensures)
    c.if-not-beats.false) c.set_bound.ensures.ok
