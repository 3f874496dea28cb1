use Rattle.std.proofs.Common.{◌≡◌, ◌-◌, false, not, take}
use Rattle.std.specs.List.{list_any}
use Rattle.asp_vars.specs.Completion.{supports}
use Rattle.asp_vars.specs.Numbering.{nth_atom}
use Rattle.asp_vars.specs.Unfounded.{is_excused}
use Rattle.asp_loop.specs.Parts.{form_of}
use Rattle.asp_source.specs.Marks.{shown}
use Rattle.asp_source.proofs.founding.find_source.Given as goal

abbrev pub invariant-loop-body : goal.invariant-loop-body
invariant-loop-body g l =
    list_any (λ v. not (is_excused l.compiled l.values (shown l.compiled (g.I.Inside.has_var l.set)) (form_of l.compiled v)))
    (take l.body-index (supports l.compiled (nth_atom l.compiled (l.var - 1)))) ≡ false
