use Rattle.std.proofs.Common.{◌+◌, ◌++◌, List, refl, sym, ap, ◌∙◌, subst, arith}
use mathlib.Core.List.{IsPrefix}
use Rattle.asp_model.specs.Models.{answers, atoms_of}
use Rattle.asp_model.specs.Sets.{Atoms}
use Rattle.asp_parts.proofs.CourseLaws.{course-more, front-of, prefix-front}
use Rattle.asp_parts.proofs.course.tell.Goals as goal

pub hear-requires-clause-atoms : goal.hear-requires-clause-atoms
hear-requires-clause-atoms g c = c.requires.atoms ∙ ap atoms_of (sym c.requires.program)

pub hear-requires-clause-front : goal.hear-requires-clause-front
hear-requires-clause-front g c = subst (IsPrefix (g.R.Reader.heard c.args.reader.now ++ c.args.found.rows.sets)) (sym c.requires.all) c.requires.front

pub hear-requires-clause-room : goal.hear-requires-clause-room
hear-requires-clause-room g c = omega (arith, c.in_ok-heard.ensures.sum, c.in_ok-heard.ensures.room, c.len.ensures, c.requires.course.counted)

pub returns-clause-course : goal.returns-clause-course
returns-clause-course g c =
    course-more (g.R.Reader.heard c.args.reader.now) (g.R.Reader.heard c.hear.new.self) c.args.found.rows.sets c.args.course.now _ c.args.found.entries.items c.requires.course c.requires.entries
    c.hear.ensures.heard c.in_ok-append.ensures.items (c.in_ok-heard.ensures.sum ∙ ap (λ k. c.args.course.now.heard + k) c.len.ensures) c.in_ok-heard.ensures.room

pub returns-clause-front : goal.returns-clause-front
returns-clause-front g c =
    front-of c.args.compiled.now _ _ _ _ (c.hear.ensures.program ∙ c.requires.program) c.hear.ensures.all c.requires.all
    (subst (λ (h : List Atoms). IsPrefix h (answers c.args.compiled.now)) (sym c.hear.ensures.heard) c.requires.front)

pub returns-in_err-heard-clause-front : goal.returns-in_err-heard-clause-front
returns-in_err-heard-clause-front g c = front-of c.args.compiled.now _ _ _ _ c.requires.program refl c.requires.all (prefix-front _ _ _ c.requires.front)

pub returns-in_err-heard-clause-after : goal.returns-in_err-heard-clause-after
returns-in_err-heard-clause-after g c = g.met.R.Reader.begins c.args.reader.now

pub returns-in_err-append-clause-front : goal.returns-in_err-append-clause-front
returns-in_err-append-clause-front g c = front-of c.args.compiled.now _ _ _ _ c.requires.program refl c.requires.all (prefix-front _ _ _ c.requires.front)

pub returns-in_err-append-clause-after : goal.returns-in_err-append-clause-after
returns-in_err-append-clause-after g c = g.met.R.Reader.begins c.args.reader.now
