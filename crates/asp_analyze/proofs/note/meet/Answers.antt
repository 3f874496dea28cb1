use Rattle.std.proofs.Common.{◌≡◌, ◌∙◌, [], ◌∷◌, ◌++◌, set, ap}
use Rattle.asp_analyze.specs.declared.marks.Mark.{Mark}
use Rattle.asp_analyze.specs.declared.marks.Mark.TheVariants as mark
use Rattle.asp_analyze.specs.Marks.{Marked}
use Rattle.asp_analyze.specs.Way.{mark_at}
use Rattle.asp_analyze.proofs.NoteLaws.{marked_added, noted_added, marked_kept, noted_kept}
use Rattle.asp_analyze.proofs.note.meet.Goals as goal

pub returns-then-is_clean-clause-marked : goal.returns-then-is_clean-clause-marked
returns-then-is_clean-clause-marked c =
    let old : Marked = c.args.marks.now in
    let made : c.add.new.self ≡ record { marks = set old.marks c.args.lit.var (mark_at c.level_of.result c.args.top); lits = old.lits ++ c.args.lit ∷ [] } =
    c.add.ensures ∙ ap (λ (m : Mark). record { marks = set old.marks c.args.lit.var m; lits = old.lits ++ c.args.lit ∷ [] }) c.mark_at-mark.ensures in
    marked_added c.args.trail.now.entries c.args.top c.level_of.result old c.add.new.self c.args.lit c.requires.marked c.requires.stays c.level_of.ensures made

pub returns-then-is_clean-clause-noted : goal.returns-then-is_clean-clause-noted
returns-then-is_clean-clause-noted c =
    let old : Marked = c.args.marks.now in
    let made : c.add.new.self ≡ record { marks = set old.marks c.args.lit.var (mark_at c.level_of.result c.args.top); lits = old.lits ++ c.args.lit ∷ [] } =
    c.add.ensures ∙ ap (λ (m : Mark). record { marks = set old.marks c.args.lit.var m; lits = old.lits ++ c.args.lit ∷ [] }) c.mark_at-mark.ensures in
    noted_added c.args.trail.now.entries c.args.top c.level_of.result old c.add.new.self c.args.lit c.requires.marked c.requires.stays c.requires.unmet made

pub returns-else-is_clean-clause-marked : goal.returns-else-is_clean-clause-marked
returns-else-is_clean-clause-marked c =
    let old : Marked = c.args.marks.now in
    let made : c.change.new.self ≡ record old { marks = set old.marks c.args.lit.var mark.Kept } = rw (← c.var-else-is_clean.ensures) c.change.ensures in
    marked_kept c.args.trail.now.entries c.args.top old c.change.new.self c.args.lit c.requires.marked c.requires.stays.on c.requires.unmet
    (rw (← c.var.ensures) (rw (← c.get.ensures) (rw (← c.is_clean.ensures) c.if-is_clean.false))) made

pub returns-else-is_clean-clause-noted : goal.returns-else-is_clean-clause-noted
returns-else-is_clean-clause-noted c =
    let old : Marked = c.args.marks.now in
    let made : c.change.new.self ≡ record old { marks = set old.marks c.args.lit.var mark.Kept } = rw (← c.var-else-is_clean.ensures) c.change.ensures in
    noted_kept c.args.trail.now.entries c.args.top old c.change.new.self c.args.lit c.requires.marked c.requires.stays.on c.requires.unmet made
