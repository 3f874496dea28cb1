use Rattle.std.proofs.Common.{◌≡◌, ℕ, ◌+◌, ◌^◌, List, Some, ℤ, refl, sym, ◌∙◌, ap, subst}
use Rattle.asp_model.specs.declared.program.Program.{Program}
use Rattle.asp_vars.specs.Literals.{complement}
use Rattle.asp_trail.specs.declared.said.Implied.{Implied as SaidImplied}
use Rattle.asp_trail.specs.Entries.{assignment}
use Rattle.asp_bound.specs.Explained.{IsExplained}
use Rattle.asp_bound.specs.Found.{Reaches}
use Rattle.asp_bound.proofs.KeptLaws.{sums-room, rows-small, columns-within}
use Rattle.asp_bound.proofs.LateLaws.{implied_explained}
use Rattle.asp_bound.proofs.given.following.Goals as goal

pub find-requires-clause-small : goal.find-requires-clause-small
find-requires-clause-small c = rows-small c.args.priced.now.origin.value c.args.values.now c.args.priced.now.rows c.args.priced.now.columns c.args.priced.now.vars.items c.args.sums.now c.requires.kept

pub find-requires-clause-room : goal.find-requires-clause-room
find-requires-clause-room c = sums-room c.args.priced.now.origin.value c.args.values.now c.args.priced.now.rows c.args.priced.now.columns c.args.priced.now.vars.items c.args.sums.now c.requires.kept

pub find-requires-clause-within : goal.find-requires-clause-within
find-requires-clause-within c =
    columns-within c.args.priced.now.origin.value c.args.values.now c.args.priced.now.rows c.args.priced.now.columns c.args.priced.now.vars.items
    c.args.sums.now c.requires.kept

pub find-requires-clause-most : goal.find-requires-clause-most
find-requires-clause-most c = λ j lt. (c.requires.kept.columned.each j lt).small

pub find-requires-clause-falling : goal.find-requires-clause-falling
find-requires-clause-falling c = λ j lt. (c.requires.kept.columned.each j lt).falling

pub returns-clause-follows : goal.returns-clause-follows
returns-clause-follows c =
    let p : Program = c.args.priced.now.origin.value in
    let x = c.in-Some.implied in
    let shown = c.requires.shown ∙ ap (λ (n : ℕ). assignment n c.args.trail.now.entries) c.requires.vars in
    let reaches = subst (λ (l : List ℤ). Reaches c.args.values.now c.args.priced.now.rows c.args.sums.now l x) c.as_slice-limits.ensures c.in-Some.ensures.reaches in
    let explained =
    implied_explained c.args.priced.now.origin.value c.args.values.now c.args.priced.now.rows c.args.priced.now.columns
    c.args.priced.now.vars.items c.args.sums.now c.requires.kept c.args.trail.now.entries c.args.cost.now x (complement x.lit) shown reaches
    c.in-Some.ensures.within refl in
    subst (λ (i : SaidImplied). IsExplained p (Some c.args.cost.now) c.args.trail.now.entries i.lit × (i.name + 1 ≡ 2 ^ 31)) (sym c.follows.ensures) (explained, refl)
