use Rattle.std.proofs.Common.{refl}
use Rattle.std.specs.Prelude.{Some}
use Rattle.asp_top.specs.Telling.{told_any}
use Rattle.asp_top.proofs.announcer.AnnouncerWatch.end_series.Goals as goal

pub returns : goal.returns
returns g c =
    let p = c.args.self.now.progress in
    let h = c.end_series.ensures in
    (refl, h.0, h.1, h.2, h.3, told_any p.on p.parts p.row (Some c.args.self.now.compiled.now) _ _ h.4)
