-- A nogood that is added leaves the kept ones.
use Rattle.std.proofs.Common.{◌≡◌, ℕ, List, Option, Some, inl, inr, sym, ap, ◌∙◌}
use Rattle.std.proofs.lemmas.Option.{none-some}
use Rattle.asp_vars.specs.declared.nogood.Nogood.{Nogood}
use Rattle.asp_store.specs.declared.stored_nogood.StoredNogood.{StoredNogood}
use Rattle.asp_store.specs.declared.stored_nogood.Kind.{Kind}
use Rattle.asp_store.specs.Keeping.{kept_at, IsAddedAt}
use Rattle.asp_store.proofs.GetLaws.{is_or_not}

pub added_stays : (old new : List (Option StoredNogood)) (id : ℕ) (n : Nogood) (kind : Kind) → IsAddedAt old new id n kind →
    (j : ℕ) (k : StoredNogood) → kept_at old j ≡ Some k → kept_at new j ≡ Some k
added_stays old new id n kind a j k g =
    elim (is_or_not j id) [
      | inl e ↦ absurd (none-some k (sym a.free ∙ (ap (kept_at old) (sym e) ∙ g)))
      | inr ne ↦ a.others j ne ∙ g
    ]
