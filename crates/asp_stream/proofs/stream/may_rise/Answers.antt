use Rattle.std.proofs.Common.{◌≡◌, false, Some, sym, ◌∙◌, subst}
use Rattle.std.specs.List.{AllByRecursion}
use Rattle.asp_model.specs.Models.{atoms_of}
use Rattle.asp_model.specs.Sets.{Atoms}
use Rattle.asp_rows.specs.Listed.{IsRowOf}
use Rattle.asp_watermark.specs.Floors.{is_below}
use Rattle.asp_stream.specs.declared.part.Part.{Part}
use Rattle.asp_stream.proofs.stream.may_rise.Goals as goal

pub passed-requires : goal.passed-requires
passed-requires c = subst (λ (A : Atoms). IsRowOf A c.args.low.now) (sym c.requires.atoms) c.requires.row

pub none_before-requires-clause-row : goal.none_before-requires-clause-row
none_before-requires-clause-row c = subst (λ (A : Atoms). IsRowOf A c.args.low.now) (sym (c.as_slice-then-not-passed.ensures.value ∙ c.atoms.ensures)) c.requires.row

pub none_before-requires-clause-parts : goal.none_before-requires-clause-parts
none_before-requires-clause-parts c =
    subst (λ (A : Atoms). AllByRecursion (λ (p : Part). IsRowOf A p.low) c.as_slice.result.now) (sym (c.as_slice-then-not-passed.ensures.value ∙ c.atoms.ensures))
    (subst (AllByRecursion (λ (p : Part). IsRowOf (atoms_of c.args.stream.now.compiled.now) p.low)) (sym c.as_slice.ensures.value) c.requires.parts)

pub returns-then-not-passed : goal.returns-then-not-passed
returns-then-not-passed c = λ told. record {
  higher = sym c.if-not-passed.ensures;
  lows = subst (AllByRecursion (λ (p : Part). is_below (Some c.args.low.now.set) p.low.set ≡ false)) c.as_slice.ensures.value (c.none_before.ensures told);
}
