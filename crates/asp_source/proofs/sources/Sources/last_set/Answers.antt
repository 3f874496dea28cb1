use Rattle.std.specs.Prelude.{IsTrue}
use Rattle.std.proofs.Common.{ℕ, List, Bool, Option, sym, subst}
use Rattle.asp_model.specs.Sets.{Atoms, has}
use Rattle.asp_trail.specs.Told.{Told}
use Rattle.asp_source.specs.Loops.{IsUnfoundedLoop}
use Rattle.asp_source.proofs.sources.Sources.last_set.Goals as goal

pub returns : goal.returns
returns c =
    subst (λ (t : Told). (a : ℕ) → IsTrue (has c.set.result.now a) → (x : List (Option Bool)) × IsUnfoundedLoop t.program x c.set.result.now) c.self.view_is
    (subst (λ (U : Atoms). (a : ℕ) → IsTrue (has U a) → (x : List (Option Bool)) × IsUnfoundedLoop c.self.inside.compiled.now x U) (sym c.set.ensures)
    (λ a h. let m = c.self.invariant.found a h in (m.values, m.loop)))
