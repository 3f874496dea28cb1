use Rattle.std.proofs.Common.{List, subst, arith}
use Rattle.std.proofs.lemmas.List.{take_all}
use Rattle.asp_trail.specs.declared.trail.Entry.{Entry}
use Rattle.asp_analyze.specs.Way.{AreUpTo}
use Rattle.asp_analyze.proofs.MarkLaws.{up_to_more}
use Rattle.asp_analyze.proofs.learn.greatest_var.Goals as goal

pub loop-i-preserved : goal.loop-i-preserved
loop-i-preserved c =
    up_to_more c.args.trail.now.entries c.loop-i.i c.loop-i.greatest c.max-greatest.result c.lit.result (omega arith) c.lit.ensures.lit c.loop-i.invariant (omega arith) (omega arith)

pub returns : goal.returns
returns c =
    subst (λ (es : List Entry). AreUpTo c.loop-i.greatest es) (take_all c.loop-i.i c.args.trail.now.entries (omega arith)) c.loop-i.invariant
