use Rattle.std.proofs.Common.{ℕ, List, get_or, ap, ◌∙◌, w32, rules}
use Rattle.std.specs.Prelude.{ℤ, pos}
use Rattle.std.proofs.lemmas.Int.{to_z-of_z}
use Rattle.asp_vars.specs.Literals.{Literal}
use Rattle.asp_vars.specs.Numbering.{literal_of}
use Rattle.asp_vars.proofs.PushLaws.{more_behind, whole_behind}
use Rattle.asp_vars.proofs.assumed.add_all.Goals as goal

pub loop-l-preserved : goal.loop-l-preserved
loop-l-preserved c =
    let f : ℤ → Literal = literal_of c.args.compiled.now in
    let ls : List ℤ = c.args.literals.now in
    let i : ℕ = c.loop-l.l-index in
    let plain = to_z-of_z w32 (get_or ls i (pos 0)) (search rules) in
    more_behind f ls i (pos 0) c.literal.result c.args.lits.now.items c.loop-l.lits.items c.push.new.self.items c.loop-l-test.true c.loop-l.invariant
    c.in_ok-push.ensures.items (c.literal.ensures ∙ ap f plain)

pub returns : goal.returns
returns c = whole_behind (literal_of c.args.compiled.now) c.args.literals.now c.loop-l.l-index c.args.lits.now.items c.loop-l.lits.items c.loop-l-test.false c.loop-l.invariant
