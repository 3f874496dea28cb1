use Rattle.std.proofs.Common.{List, ◌∷◌, [], map, take, get_or, refl, sym, ap, ◌∙◌, subst, arith}
use Rattle.std.specs.Prelude.{Contains}
use Rattle.std.specs.List.{AllByRecursion}
use Rattle.std.proofs.lemmas.List.{get_or-map, length-map, map-append, take_all, take_more}
use Rattle.std.proofs.lemmas.List.Elements.{All-from_recursion}
use Rattle.asp_model.proofs.MemberLaws.{each-append}
use Rattle.asp_rows.specs.declared.row.Row.{Row}
use Rattle.asp_rows.specs.Listed.{IsRowOf}
use Rattle.asp_checker.proofs.promise.are_listed.Goals as goal

pub is_listed-requires-clause-row : goal.is_listed-requires-clause-row
is_listed-requires-clause-row c =
    let of = IsRowOf c.args.listed.now.atoms in
    subst of (sym c.row-item.is) (All-from_recursion of c.args.rows.now c.requires.rows c.loop-row.row-index c.row-item.result c.loop-row-test.true)

pub returns-then-not-is_listed-clause-no : goal.returns-then-not-is_listed-clause-no
returns-then-not-is_listed-clause-no c =
    let L = c.args.listed.now.sets in
    let i = c.loop-row.row-index in
    let S = c.row-item.result.set in
    let sets = map (λ (r : Row). r.set) c.args.rows.now in
    let size = length-map c.args.rows.now (λ (r : Row). r.set) in
    λ e all. c.if-not-is_listed.ensures.no refl
    (subst (Contains L)
    (get_or-map (λ (r : Row). r.set) c.args.rows.now i c.row-item.result S c.loop-row-test.true ∙ ap (λ (r : Row). r.set) (sym c.row-item.is))
    (All-from_recursion (Contains L) sets all i S (omega (arith, size, c.loop-row-test.true))))

pub loop-row-preserved : goal.loop-row-preserved
loop-row-preserved c =
    let L = c.args.listed.now.sets in
    let i = c.loop-row.row-index in
    let rows = c.args.rows.now in
    let row = get_or rows i c.row-item.result in
    subst (λ (xs : List Row). AllByRecursion (Contains L) (map (λ (r : Row). r.set) xs)) (sym (take_more rows i c.row-item.result c.loop-row-test.true))
    (subst (AllByRecursion (Contains L)) (sym (map-append (λ (r : Row). r.set) (take i rows) (row ∷ [])))
    (each-append (Contains L) (map (λ (r : Row). r.set) (take i rows)) (row.set ∷ []) c.loop-row.invariant
    (subst (λ (r : Row). Contains L r.set) c.row-item.is (c.if-not-is_listed.ensures.yes refl), tt)))

pub returns-clause-yes : goal.returns-clause-yes
returns-clause-yes c = λ e. subst (λ (xs : List Row). AllByRecursion (Contains c.args.listed.now.sets) (map (λ (r : Row). r.set) xs))
    (take_all c.loop-row.row-index c.args.rows.now c.loop-row-test.false) c.loop-row.invariant
