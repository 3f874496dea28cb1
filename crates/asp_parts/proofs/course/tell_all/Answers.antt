use Rattle.std.proofs.Common.{◌≡◌, ◌++◌, ap, ◌∙◌}
use Rattle.asp_rows.specs.Listed.{Listed}
use Rattle.asp_split.specs.Dividing.{part}
use Rattle.asp_parts.specs.Parts.{sets_back}
use Rattle.asp_parts.proofs.CourseLaws.{found-is, front-until, may-hear, part-taken, telling-next}
use Rattle.asp_parts.proofs.course.tell_all.Goals as goal

pub tell-requires-clause-front : goal.tell-requires-clause-front
tell-requires-clause-front g c =
    let p = c.args.compiled.now in
    let all = g.R.Reader.heard c.args.reader.now ++ sets_back p c.args.parts.now.items in
    let heard = g.R.Reader.heard c.parts.reader in
    let is = part-taken p all heard c.parts.parts.items c.pop.new.self.items c.pop.result c.in-Some.part c.parts.invariant.told c.pop.ensures.items c.in-Some.is in
    let sets : c.in-Some-found.found.rows.sets ≡ part p c.in-Some.part.leaf.cube = ap (λ (l : Listed). l.sets) (found-is p c.in-Some.part c.in-Some-found.found is c.in-Some-found.is).rows in
    front-until _ _ _
    (may-hear p all heard c.parts.parts.items c.pop.new.self.items c.pop.result c.in-Some.part c.parts.invariant.told c.pop.ensures.items c.in-Some.is c.in-Some-found.found.rows.sets sets)
    c.requires.front

pub returns-then-not-branch-clause-told : goal.returns-then-not-branch-clause-told
returns-then-not-branch-clause-told g c =
    let p = c.args.compiled.now in
    let all = g.R.Reader.heard c.args.reader.now ++ sets_back p c.args.parts.now.items in
    let heard = g.R.Reader.heard c.parts.reader in
    let is = part-taken p all heard c.parts.parts.items c.pop.new.self.items c.pop.result c.in-Some.part c.parts.invariant.told c.pop.ensures.items c.in-Some.is in
    let sets : c.in-Some-found.found.rows.sets ≡ part p c.in-Some.part.leaf.cube = ap (λ (l : Listed). l.sets) (found-is p c.in-Some.part c.in-Some-found.found is c.in-Some-found.is).rows in
    telling-next p all heard c.parts.parts.items c.pop.new.self.items c.pop.result c.in-Some.part c.parts.invariant.told c.pop.ensures.items c.in-Some.is
    (g.R.Reader.heard c.tell.new.reader) c.in-Some-found.found.rows.sets sets c.in_ok-tell-in-Some-found.ensures.heard

pub parts-preserved : goal.parts-preserved
parts-preserved g c =
    let p = c.args.compiled.now in
    let all = g.R.Reader.heard c.args.reader.now ++ sets_back p c.args.parts.now.items in
    let heard = g.R.Reader.heard c.parts.reader in
    let is = part-taken p all heard c.parts.parts.items c.pop.new.self.items c.pop.result c.in-Some.part c.parts.invariant.told c.pop.ensures.items c.in-Some.is in
    let sets : c.in-Some-found.found.rows.sets ≡ part p c.in-Some.part.leaf.cube = ap (λ (l : Listed). l.sets) (found-is p c.in-Some.part c.in-Some-found.found is c.in-Some-found.is).rows in
    record {
      course = c.in_ok-tell-in-Some-found.ensures.course;
      told =
          telling-next p all heard c.parts.parts.items c.pop.new.self.items c.pop.result c.in-Some.part c.parts.invariant.told c.pop.ensures.items c.in-Some.is
          (g.R.Reader.heard c.tell.new.reader) c.in-Some-found.found.rows.sets sets c.in_ok-tell-in-Some-found.ensures.heard;
      program = c.tell.ensures.front.program;
      all = c.tell.ensures.front.all_are ∙ c.parts.invariant.all;
      after = g.met.R.Reader.goes_on c.args.reader.now c.parts.reader c.tell.new.reader c.parts.invariant.after c.tell.ensures.after;
    }
