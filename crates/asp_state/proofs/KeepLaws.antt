-- What every state keeps, where nogoods are kept or dropped.
use Rattle.std.proofs.Common.{◌≡◌, ℕ, Bool, List, Option, Some, sym, ap, ◌∙◌, subst}
use Rattle.std.specs.Prelude.{Result, Ok, Err}
use Rattle.std.specs.Result.{IfOk, OnErr}
use Rattle.asp_vars.specs.Literals.{Literal}
use Rattle.asp_vars.specs.Completion.{completion}
use Rattle.asp_vars.specs.declared.nogood.Base.TheVariants as base
use Rattle.asp_vars.specs.declared.nogood.Nogood.{Nogood}
use Rattle.asp_store.specs.declared.stored_nogood.StoredNogood.{StoredNogood}
use Rattle.asp_store.specs.declared.stored_nogood.Kind.{Kind}
use Rattle.asp_store.specs.Keeping.{kept_at}
use Rattle.asp_order.specs.Heaps.{Ranking}
use Rattle.asp_propagate.specs.Propagating.{Propagating, without_nogood, IsReduced, Keeps}
use Rattle.asp_state.specs.SearchStates.{IsSearchState}
use Rattle.asp_store.proofs.KeepLaws.{added_stays}
use Rattle.asp_state.proofs.SlotLaws.{beside_removed, completed_stays, still_forever}
use Rattle.asp_state.proofs.StateLaws.{track_kept}

-- a state with this engine
abbrev pub IsSearchView : Propagating → Option (List Literal) → Bool → List Literal → Ranking → Type 0
IsSearchView f cube clashing decisions r = IsSearchState f.program cube clashing decisions f.entries f.slots r

pub kept_either : {E : Type 0} (x : Result ℕ E) (old new : Propagating) (cube : Option (List Literal)) (clashing : Bool) (decisions : List Literal) (r : Ranking) (n : Nogood) (kind : Kind) →
    IfOk x (λ id. Keeps old new id n kind) → OnErr x (new ≡ old) → IsSearchView old cube clashing decisions r → IsSearchView new cube clashing decisions r
kept_either (Ok id) old new cube clashing decisions r n kind ok err t =
    subst (λ (f : Propagating). IsSearchView f cube clashing decisions r) (sym ok.same)
    (track_kept old.program cube clashing decisions old.entries old.slots new.slots r
    (completed_stays old.program old.slots new.slots (added_stays old.slots new.slots id n kind ok.slots) t.completed) t)
kept_either (Err y) old new cube clashing decisions r n kind ok err t = subst (λ (f : Propagating). IsSearchView f cube clashing decisions r) (sym err) t

-- whatever came of it, the nogoods alone changed
pub kept_same : {E : Type 0} (x : Result ℕ E) (old new : Propagating) (n : Nogood) (kind : Kind) → IfOk x (λ id. Keeps old new id n kind) → OnErr x (new ≡ old) → new ≡ record old { slots = new.slots }
kept_same (Ok id) old new n kind ok err = ok.same
kept_same (Err y) old new n kind ok err = err ∙ ap (λ (xs : List (Option StoredNogood)). let f : Propagating = record old { slots = xs } in f) (sym (ap (λ (f : Propagating). f.slots) err))

pub removed_one : (old : Propagating) (id : ℕ) (k : StoredNogood) (cube : Option (List Literal)) (clashing : Bool) (decisions : List Literal) (r : Ranking) → kept_at old.slots id ≡ Some k →
    k.nogood.base ≡ base.Local → IsSearchView old cube clashing decisions r → IsSearchView (without_nogood old id) cube clashing decisions r
removed_one old id k cube clashing decisions r q local t =
    track_kept old.program cube clashing decisions old.entries old.slots (without_nogood old id).slots r
    (still_forever old.slots (without_nogood old id).slots (completion old.program) (λ i m mq f pure. beside_removed old.slots id i k m q local mq pure) t.completed) t

pub reduced_all : (old : Propagating) (slots : List (Option StoredNogood)) (cube : Option (List Literal)) (clashing : Bool) (decisions : List Literal) (r : Ranking) →
    IsReduced old.entries old.slots slots → IsSearchView old cube clashing decisions r → IsSearchView (record old { slots = slots }) cube clashing decisions r
reduced_all old slots cube clashing decisions r d t =
    track_kept old.program cube clashing decisions old.entries old.slots slots r
    (still_forever old.slots slots (completion old.program) (λ i k q f pure. d.forever i k q f) t.completed) t
