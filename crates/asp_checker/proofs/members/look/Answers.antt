use Rattle.std.proofs.Common.{sym, ◌∙◌, arith}
use Rattle.asp_member.proofs.FoundingLaws.{founds_itself, founds_more}
use Rattle.asp_checker.proofs.members.look.Goals as goal

pub returns-then-have_values : goal.returns-then-have_values
returns-then-have_values c = founds_itself c.args.compiled.now c.args.values.now

pub returns-then-not-held : goal.returns-then-not-held
returns-then-not-held c = founds_itself c.args.compiled.now c.args.values.now

pub returns : goal.returns
returns c =
    founds_more c.args.compiled.now c.args.values.now c.derive_all.new.values c.heads-2.result.now c.args.body c.program-program.ensures.sound
    (omega (arith, c.if-body-body_count.false, c.body_count.ensures.count)) c.heads-2.ensures.heads (sym c.holds-held.ensures ∙ c.if-not-held.false) c.derive_all.ensures
