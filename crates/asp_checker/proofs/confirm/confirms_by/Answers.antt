use Rattle.std.proofs.Common.{length, subst, ◌∙◌}
use Rattle.asp_checker.specs.Propagation.{Known}
use Rattle.asp_checker.specs.Lines.{all_of}
use Rattle.asp_checker.specs.Rows.{stock_before}
use Rattle.asp_checker.specs.Assuming.{AreAssumed}
use Rattle.asp_checker.proofs.AssumeLaws.{within_range}
use Rattle.asp_checker.proofs.ChaseLaws.{root_follows, trailed_then}
use Rattle.asp_checker.proofs.confirm.confirms_by.Goals as goal

pub assume_all-requires : goal.assume_all-requires
assume_all-requires c = within_range c.args.compiled.now c.args.lits.now (length c.args.values.now) c.requires.root.size c.requires.lits

pub returns-then-not-assumed-clause-yes : goal.returns-then-not-assumed-clause-yes
returns-then-not-assumed-clause-yes c = λ e.
    let k : Known = all_of (stock_before c.args.compiled.now c.args.known.now) in
    (subst (AreAssumed c.args.values.now c.assume_all.new.values c.args.lits.now c.args.lits.now) c.if-not-assumed.true
    c.in_ok-assumed.ensures.assumed) c.args.compiled.now k
    (root_follows c.args.compiled.now k c.args.lits.now c.args.values.now c.args.values.now c.requires.root (λ v b i. i))

pub chase-requires-clause-size : goal.chase-requires-clause-size
chase-requires-clause-size c =
    let held = subst (AreAssumed c.args.values.now c.assume_all.new.values c.args.lits.now c.args.lits.now) c.if-not-assumed.false c.in_ok-assumed.ensures.assumed in
    held.size ∙ c.requires.root.size

pub returns-then-refuted-clause-yes : goal.returns-then-refuted-clause-yes
returns-then-refuted-clause-yes c = λ e.
    let k : Known = all_of (stock_before c.args.compiled.now c.args.known.now) in
    let held = subst (AreAssumed c.args.values.now c.assume_all.new.values c.args.lits.now c.args.lits.now) c.if-not-assumed.false c.in_ok-assumed.ensures.assumed in
    (c.in_ok-refuted.ensures.conflict c.if-refuted.true).conflict c.args.lits.now
    (held.follow c.args.compiled.now k
    (root_follows c.args.compiled.now k c.args.lits.now c.args.values.now c.args.values.now c.requires.root (λ v b i. i)))

pub returns-then-refuted-clause-trailed : goal.returns-then-refuted-clause-trailed
returns-then-refuted-clause-trailed c =
    trailed_then c.args.values.now c.assume_all.new.values c.chase.new.values c.args.trail.now.items c.assume_all.new.trail.items
    c.chase.new.trail.items c.in_ok-assumed.ensures.trailed c.in_ok-refuted.ensures.trailed

pub confirms_plainly-requires-clause-size : goal.confirms_plainly-requires-clause-size
confirms_plainly-requires-clause-size c =
    let held = subst (AreAssumed c.args.values.now c.assume_all.new.values c.args.lits.now c.args.lits.now) c.if-not-assumed.false c.in_ok-assumed.ensures.assumed in
    c.in_ok-refuted.ensures.extends.size ∙ held.size ∙ c.requires.root.size

pub confirms_plainly-requires-clause-follow : goal.confirms_plainly-requires-clause-follow
confirms_plainly-requires-clause-follow c =
    let k : Known = all_of (stock_before c.args.compiled.now c.args.known.now) in
    let held = subst (AreAssumed c.args.values.now c.assume_all.new.values c.args.lits.now c.args.lits.now) c.if-not-assumed.false c.in_ok-assumed.ensures.assumed in
    c.in_ok-refuted.ensures.extends.follow c.args.lits.now (held.follow c.args.compiled.now k
    (root_follows c.args.compiled.now k c.args.lits.now c.args.values.now c.args.values.now c.requires.root (λ v b i. i)))

pub returns-clause-trailed : goal.returns-clause-trailed
returns-clause-trailed c =
    trailed_then c.args.values.now c.assume_all.new.values c.chase.new.values c.args.trail.now.items c.assume_all.new.trail.items
    c.chase.new.trail.items c.in_ok-assumed.ensures.trailed c.in_ok-refuted.ensures.trailed
