use Rattle.std.proofs.Common.{◌≡◌, ◌≢◌, ℕ, true, List, Option, Some, sym, ap, ◌∙◌, subst}
use Rattle.std.specs.List.{All, starts_with}
use Rattle.asp_vars.specs.Literals.{Literal, literal_eq}
use Rattle.asp_vars.specs.Numbering.{var_count}
use Rattle.asp_vars.specs.declared.nogood.Nogood.{Nogood}
use Rattle.asp_vars.proofs.ResolutionLaws.{not_true}
use Rattle.asp_trail.specs.declared.trail.Entry.{Entry}
use Rattle.asp_trail.specs.Entries.{reason_in}
use Rattle.asp_trail.specs.Trails.{IsVar}
use Rattle.asp_trail.proofs.ReasonLaws.{lits_are}
use Rattle.asp_store.specs.declared.stored_nogood.StoredNogood.{StoredNogood}
use Rattle.asp_store.specs.Keeping.{nogood_at}
use Rattle.asp_search.proofs.BlockLaws.{some_is, redundant_from}
use Rattle.asp_search.proofs.blocking.is_redundant.Goals as goal

pub is_reason-requires : goal.is_reason-requires
is_reason-requires g c =
    let t = c.args.state.now in
    let id = c.args.id in
    let k = some_is (nogood_at t.slots id) c.requires in
    let n : Nogood = k.0 in
    let at : nogood_at c.store.result.now.slots id ≡ Some n = ap (λ (xs : List (Option StoredNogood)). nogood_at xs id) c.store.ensures.slots ∙ k.1 in
    let same : c.lits-old.result.now ≡ n.lits = lits_are (nogood_at c.store.result.now.slots id) n c.lits-old.result.now at c.lits-old.ensures in
    subst (λ (m : ℕ). All (λ (l : Literal). IsVar m l.var) c.lits-old.result.now) (sym c.trail.ensures.vars)
    (subst (λ (ls : List Literal). All (λ (l : Literal). IsVar (var_count t.program) l.var) ls) (sym same) (c.store.ensures.small id n k.1))

pub returns : goal.returns
returns g c = λ yes.
    let t = c.args.state.now in
    let id = c.args.id in
    let k = some_is (nogood_at t.slots id) c.requires in
    let n : Nogood = k.0 in
    let at : nogood_at c.store.result.now.slots id ≡ Some n = ap (λ (xs : List (Option StoredNogood)). nogood_at xs id) c.store.ensures.slots ∙ k.1 in
    let same : c.lits-old.result.now ≡ n.lits = lits_are (nogood_at c.store.result.now.slots id) n c.lits-old.result.now at c.lits-old.ensures in
    let none = c.is_reason.ensures (not_true c.is_reason.result yes) in
    let begins : starts_with literal_eq n.lits c.args.lits.now ≡ true =
    subst (λ (ls : List Literal). starts_with literal_eq ls c.args.lits.now ≡ true) same (sym c.starts_with.ensures.value ∙ c.if-not-starts_with.false) in
    let here : All (λ (l : Literal). reason_in t.entries l.var ≢ Some id) n.lits =
    subst (λ (es : List Entry). All (λ (l : Literal). reason_in es l.var ≢ Some id) n.lits) c.trail.ensures.entries
    (subst (λ (ls : List Literal). All (λ (l : Literal). reason_in c.trail.result.now.entries l.var ≢ Some id) ls) same none) in
    redundant_from (var_count t.program) t.slots t.entries c.args.lits.now id n c.trail.ensures.ordered c.store.ensures.reasons c.store.ensures.few k.1 begins here
