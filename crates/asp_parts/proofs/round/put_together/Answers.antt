use Rattle.std.proofs.Common.{arith, subst}
use Rattle.std.specs.Prelude.{IfSome}
use Rattle.asp_parts.specs.declared.part.Part.{Part}
use Rattle.asp_parts.specs.Parts.{ArePieces}
use Rattle.asp_parts.proofs.PartLaws.{none_left}
use Rattle.asp_parts.proofs.RoundLaws.{together-begins, together-ends, together-next, together-part, together-there}
use Rattle.asp_parts.proofs.round.put_together.Goals as goal

pub parts-init : goal.parts-init
parts-init c = together-begins c.args.compiled.now c.args.parts.items c.in_ok-back.back.items c.args.workers.now c.requires.parts c.requires.done c.in_ok-back.ensures.items

pub put_turned-requires-clause-whole : goal.put_turned-requires-clause-whole
put_turned-requires-clause-whole c =
    together-part c.args.compiled.now c.args.parts.items c.parts.left.items c.pop.new.self.items c.parts.back.items c.parts.workers c.pop.result c.in-Some.part
    c.parts.invariant c.pop.ensures.items c.in-Some.is

pub put_turned-requires-clause-pieces : goal.put_turned-requires-clause-pieces
put_turned-requires-clause-pieces c =
    subst (λ (u : Part). IfSome c.taken_of-pieces.result (λ ts. ArePieces c.args.compiled.now u.leaf.cube ts.items))
    (together-there c.args.compiled.now c.args.parts.items c.parts.left.items c.pop.new.self.items c.parts.back.items c.parts.workers c.pop.result c.in-Some.part c.len-in-Some.result
    c.parts.invariant c.pop.ensures.items c.in-Some.is (omega (arith, c.len-in-Some.ensures, c.pop.new.self.ok.0)))
    (c.taken_of-pieces.ensures.pieces c.args.compiled.now c.args.parts.items c.in-Some.part c.parts.invariant.done)

pub parts-preserved : goal.parts-preserved
parts-preserved c =
    together-next c.args.compiled.now c.args.parts.items c.parts.left.items c.pop.new.self.items c.parts.back.items c.put_turned.new.back.items c.parts.workers c.taken_of-pieces.new.workers
    c.pop.result c.in-Some.part c.parts.invariant c.pop.ensures.items c.in-Some.is c.in_ok-put_turned.ensures
    (c.taken_of-pieces.ensures.kept c.args.compiled.now c.args.parts.items c.parts.invariant.done)

pub returns-in_err-put_turned-clause-done : goal.returns-in_err-put_turned-clause-done
returns-in_err-put_turned-clause-done c = c.taken_of-pieces.ensures.kept c.args.compiled.now c.args.parts.items c.parts.invariant.done

pub returns-clause-same : goal.returns-clause-same
returns-clause-same c =
    together-ends c.args.compiled.now c.args.parts.items c.parts.left.items c.parts.back.items c.reverse.new.self.items c.parts.workers c.parts.invariant
    (none_left c.parts.left.items c.pop.result (λ lt. c.pop.ensures.variant.1 (omega (arith, lt, c.parts.left.ok.0))) c.in_default.is) c.reverse.ensures.items
