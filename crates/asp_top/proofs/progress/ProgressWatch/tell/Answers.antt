use Rattle.std.proofs.Common.{refl, rules, sym, append-nil}
use Rattle.std.specs.Prelude.{None}
use Rattle.std.specs.Option.{option_copied}
use Rattle.asp_top.specs.Progress.{Told, line_of, scope}
use Rattle.asp_top.specs.Telling.{as_told, more_told}
use Rattle.asp_top.proofs.TellLaws.{one_told}
use Rattle.asp_faults.proofs.WriteLaws.{writes_same}
use Rattle.asp_top.proofs.progress.ProgressWatch.tell.Goals as goal

pub returns : goal.returns
returns g c =
    let s = c.tell_held.new.self in
    let same = c.tell_held.ensures.same in
    let told : Told = record { counts = c.args.counts.now; best = option_copied c.cost_of.result; shown = None } in (
      c.tell_held.ensures.notes,
      same.0,
      same.1,
      same.2,
      more_told _ _ _ _ (c.tell_held.ensures.told None)
          (as_told _ s.on _ s.parts _ s.row None _ _ same.0 same.1 same.2
          (one_told (scope s.on s.parts s.row None) _ _ told
          (search rules) tt (search rules) (search rules) refl refl refl (writes_same _ _ _ _ _ _ _ c.write_line-self.ensures (sym (append-nil (line_of told)))))),
    )
