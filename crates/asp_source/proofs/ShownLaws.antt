-- The values that the trail shows are those told, so what is kept stands under them.
use Rattle.std.proofs.Common.{◌≡◌, ℕ, ◌+◌, Bool, false, List, [], ◌++◌, length, take, drop, Option, sym, ap, ◌∙◌, subst}
use Rattle.std.proofs.lemmas.List.{take_at}
use Rattle.asp_model.specs.declared.program.Program.{Program}
use Rattle.asp_trail.specs.Told.{Told}
use Rattle.asp_scc.specs.Components.{Parts}
use Rattle.asp_source.specs.Pointers.{ArePointers}
use Rattle.asp_source.specs.Marks.{AreBlank}
use Rattle.asp_source.specs.Kept.{IsKept}
use Rattle.asp_source.specs.Rest.{Rest}
use Rattle.asp_source.proofs.KeptLaws.{kept_searched}

pub kept_shown : (p : Program) (c : Parts) (x a : List (Option Bool)) (sources ranks : List ℕ) (queue : List Bool) (tight weighted : Bool) (loose waiting joined : List Bool) (rest : Rest) → a ≡ x →
    IsKept p c x sources ranks queue tight weighted loose waiting joined rest → IsKept p c a sources ranks queue tight weighted loose waiting joined rest
kept_shown p c x a sources ranks queue tight weighted loose waiting joined rest e kept =
    subst (λ (v : List (Option Bool)). IsKept p c v sources ranks queue tight weighted loose waiting joined rest) (sym e) kept

abbrev told_by : Program → List (Option Bool) → Told
told_by p a = record { program = p; values = a }

pub told_shown : (p : Program) (x a : List (Option Bool)) (t : Told) → a ≡ x → told_by p x ≡ t → told_by p a ≡ t
told_shown p x a t e is = ap (told_by p) e ∙ is

-- what a search leaves in the tables, of as many places as before
pub kept_after : (p : Program) (c : Parts) (x a : List (Option Bool)) (s ranks : List ℕ) (q : List Bool) (tight weighted : Bool)
    (loose waiting joined : List Bool) (rest : Rest) (n k : ℕ) (t o : List ℕ) (r m y z : List Bool) → a ≡ x →
    IsKept p c x s ranks q tight weighted loose waiting joined rest → tight ≡ false → length t ≡ n → length m ≡ k → length m ≡ length loose →
    ArePointers p c a t o r [] → AreBlank m → length y ≡ length waiting → length z ≡ length joined →
    IsKept p c x (take n (t ++ drop (length t) s)) o r tight weighted (take k (m ++ drop (length m) loose)) y z rest
kept_after p c x a s ranks q tight weighted loose waiting joined rest n k t o r m y z e kept not_tight size room same pointers blank waits seats =
    subst (λ (u : List ℕ). IsKept p c x u o r tight weighted (take k (m ++ drop (length m) loose)) y z rest) (sym (take_at t (drop (length t) s) n size))
    (subst (λ (b : List Bool). IsKept p c x t o r tight weighted b y z rest) (sym (take_at m (drop (length m) loose) k room))
    (kept_shown p c a x t o r tight weighted m y z rest (sym e)
    (kept_searched p c a s ranks q tight weighted loose waiting joined rest t o r m y z
    (kept_shown p c x a s ranks q tight weighted loose waiting joined rest e kept) not_tight pointers (same ∙ kept.marks) blank waits seats)))
