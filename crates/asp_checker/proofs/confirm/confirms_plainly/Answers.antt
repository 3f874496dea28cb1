use Rattle.std.proofs.Common.{length, subst, ◌∙◌}
use Rattle.asp_checker.specs.Propagation.{Known}
use Rattle.asp_checker.specs.Lines.{stock, all_of}
use Rattle.asp_checker.specs.Blocks.{known_with}
use Rattle.asp_checker.specs.Assuming.{AreAssumed}
use Rattle.asp_checker.proofs.AssumeLaws.{within_range, propagated_holds}
use Rattle.asp_checker.proofs.ChaseLaws.{follows_within}
use Rattle.asp_checker.proofs.confirm.confirms_plainly.Goals as goal

pub assume_all-requires : goal.assume_all-requires
assume_all-requires c = within_range c.args.compiled.now c.args.lits.now (length c.in_ok-values.values) c.in_ok-values.ensures.size c.requires.lits

pub returns-then-not-assumed-clause-yes : goal.returns-then-not-assumed-clause-yes
returns-then-not-assumed-clause-yes c = λ e.
    let k : Known = all_of (stock (known_with c.args.compiled.now c.args.listed.now c.args.rows.now c.args.bound.now) c.args.placed.now) in
    (subst (AreAssumed c.in_ok-values.values c.assume_all.new.values c.args.lits.now c.args.lits.now) c.if-not-assumed.true
    c.in_ok-assumed.ensures.assumed) c.args.compiled.now k
    (follows_within c.args.compiled.now k c.args.lits.now c.in_ok-values.values c.args.known.now c.in_ok-values.ensures.copied c.requires.follow)

pub close-requires-clause-size : goal.close-requires-clause-size
close-requires-clause-size c =
    let held = subst (AreAssumed c.in_ok-values.values c.assume_all.new.values c.args.lits.now c.args.lits.now) c.if-not-assumed.false c.in_ok-assumed.ensures.assumed in
    held.size ∙ c.in_ok-values.ensures.size

pub returns-clause-yes : goal.returns-clause-yes
returns-clause-yes c = λ e.
    let k : Known = all_of (stock (known_with c.args.compiled.now c.args.listed.now c.args.rows.now c.args.bound.now) c.args.placed.now) in
    let held = subst (AreAssumed c.in_ok-values.values c.assume_all.new.values c.args.lits.now c.args.lits.now) c.if-not-assumed.false c.in_ok-assumed.ensures.assumed in
    (c.close.ensures.conflict e).conflict c.args.lits.now
    (held.follow c.args.compiled.now k
    (follows_within c.args.compiled.now k c.args.lits.now c.in_ok-values.values c.args.known.now c.in_ok-values.ensures.copied
    c.requires.follow))

pub returns-clause-no : goal.returns-clause-no
returns-clause-no c = λ e conflict.
    let held = subst (AreAssumed c.in_ok-values.values c.assume_all.new.values c.args.lits.now c.args.lits.now) c.if-not-assumed.false c.in_ok-assumed.ensures.assumed in
    propagated_holds c.args.compiled.now (all_of
    (stock (known_with c.args.compiled.now c.args.listed.now c.args.rows.now c.args.bound.now) c.args.placed.now)) c.args.lits.now
    c.assume_all.new.values c.close.new.values held.hold (c.close.ensures.extends e).within (c.close.ensures.propagated e) conflict
