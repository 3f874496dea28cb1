use Rattle.std.proofs.Common.{◌∙◌, refl}
use Rattle.std.specs.Prelude.{Some}
use Rattle.asp_top.specs.Telling.{as_told, more_told}
use Rattle.asp_top.proofs.announcer.AnnouncerWatch.tell.Goals as goal

pub returns : goal.returns
returns g c =
    let p = c.args.self.now.progress in
    let q = c.tell_held.new.self in
    let a = c.tell_held.ensures.same in
    let b = c.tell_line.ensures.same in
    let sought = Some c.args.self.now.compiled.now in (
      refl,
      c.tell_line.ensures.notes ∙ c.tell_held.ensures.notes,
      b.0 ∙ a.0,
      b.1 ∙ a.1,
      b.2 ∙ a.2,
      more_told _ _ _ _ (c.tell_held.ensures.told sought) (as_told p.on q.on p.parts q.parts p.row q.row sought _ _ a.0 a.1 a.2 c.tell_line.ensures.told),
    )
