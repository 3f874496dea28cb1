use Rattle.std.proofs.Common.{◌≡◌, List, Option, IfSome, sym, ap, ◌∙◌, subst}
use Rattle.std.proofs.lemmas.Result.{IfOk-weaker}
use Rattle.asp_vars.specs.declared.nogood.Nogood.{Nogood}
use Rattle.asp_store.specs.declared.stored_nogood.StoredNogood.{StoredNogood}
use Rattle.asp_store.specs.Keeping.{nogood_at}
use Rattle.asp_search_laws.specs.Searching.{Searching}
use Rattle.asp_search.specs.Beside.{only_shared, IsShared}
use Rattle.asp_search.specs.Invariants.{used_in}
use Rattle.asp_search.proofs.OpenLaws.{kept_shared, only_is}
use Rattle.asp_search.proofs.search.Search.export.Goals as goal

pub returns-in-Some-clause-shared : goal.returns-in-Some-clause-shared
returns-in-Some-clause-shared g c =
    let t = c.self.inside.state in
    let s = c.args.self.now in
    let id = c.in-Some.id in
    let most = c.longest.result in
    let kept : Option Nogood = nogood_at c.store-store.result.now.slots id in
    let shares : IfSome (only_shared most kept) (IsShared t.program) =
    only_is most t.program kept
    (λ n e shared. kept_shared most t.program (used_in c.self.inside.compiled.now c.self.inside.mode c.self.inside.known.items c.self.inside.seen)
    t.bound t.slots id n c.self.invariant.0.useful c.store-store.ensures.small
    (sym (ap (λ (xs : List (Option StoredNogood)). nogood_at xs id) c.store-store.ensures.slots) ∙ e) shared) in
    IfOk-weaker c.copy_shared.result (λ (copy : Option Nogood). copy ≡ only_shared most kept) (λ (copy : Option Nogood). IfSome copy (IsShared s.program))
    (λ copy e. subst (λ (x : Searching). IfSome copy (IsShared x.program)) c.self.view_is (subst (λ (o : Option Nogood). IfSome o (IsShared t.program)) (sym e) shares))
    c.copy_shared.ensures
