use Rattle.std.proofs.Common.{◌≡◌, ◌∙◌, List, ap, refl, rules, subst, sym, w32}
use Rattle.std.specs.Prelude.{ℤ}
use Rattle.std.proofs.lemmas.Int.{to_z-of_z}
use Rattle.asp_model.specs.Sound.{IsSound}
use Rattle.asp_read.specs.Queries.{with_query}
use Rattle.asp_series.specs.Asking.{Refutes}
use Rattle.asp_series.specs.Series.{without}
use Rattle.asp_series.proofs.CoreLaws.{among-without, length-without}
use Rattle.asp_series.proofs.ShrinkLaws.{shrinks-needless}
use Rattle.asp_series.proofs.cores.shrink.Goals as goal

pub try_others-requires-clause-askable : goal.try_others-requires-clause-askable
try_others-requires-clause-askable g c =
    let core = c.args.state.now.core in
    let back = to_z-of_z w32 c.args.literal (search rules) in
    let same : c.as_slice-2.result.now ≡ without c.args.literal core =
    c.as_slice-2.ensures.value ∙ c.in_ok-others.ensures ∙ ap (λ (l : ℤ). without l c.as_slice.result.now) back ∙ ap (without c.args.literal) c.as_slice.ensures.value in
    record {
      plain = c.requires.plain;
      itself = c.requires.sound.itself;
      sound = subst (λ (ls : List ℤ). IsSound (with_query c.args.asking.now.program.now ls)) (sym same)
          (c.requires.sound.with (without c.args.literal core) (among-without c.args.literal core) (length-without c.args.literal core));
    }

pub try_others-requires-clause-none : goal.try_others-requires-clause-none
try_others-requires-clause-none g c = c.requires.sound.bare

pub returns-in-Needless-clause-shrinks : goal.returns-in-Needless-clause-shrinks
returns-in-Needless-clause-shrinks g c =
    let p = c.args.asking.now.program.now in
    let core = c.args.state.now.core in
    let back = to_z-of_z w32 c.args.literal (search rules) in
    let judged = rw c.in-Needless.is at c.in_ok-tried.ensures.tries.judges in
    let same : c.from_vec.result ≡ without c.args.literal core =
    c.from_vec.ensures ∙ c.in_ok-others.ensures ∙ ap (λ (l : ℤ). without l c.as_slice.result.now) back ∙ ap (without c.args.literal) c.as_slice.ensures.value in
    shrinks-needless p c.args.literal c.args.state.now c.from_vec.result c.in_ok-tried.tried.spent _ c.if-state.false same refl
    (subst (Refutes p) (c.as_slice-2.ensures.value ∙ sym c.from_vec.ensures) judged)
