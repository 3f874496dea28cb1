use Rattle.std.proofs.Common.{◌≡◌, refl, sym, ◌∙◌, rules}
use mir.Val.{SFits}
use mir.Syntax.{w32, w64}
use Rattle.std.proofs.lemmas.Int.{to_z-of_z}
use Rattle.asp_text.specs.Fields.{field_of, integer_of, num_of}
use Rattle.asp_text.specs.declared.numbers.Num.TheVariants.{Value}
use Rattle.asp_read.proofs.Numbers.{is_below, is_above, is_within}
use Rattle.asp_read.proofs.field.integer.Goals as goal
use Rattle.asp_read.proofs.field.integer.Goals.{then-n-low-via-then-n-low, then-n-low-via-else-n-low+then-high-n}

pub returns-then-n-low : goal.returns-then-n-low
returns-then-n-low c =
    let f : SFits w64 c.in-Value.n = search rules in
    let e : Value c.in-Value.n ≡ num_of (integer_of (field_of c.args.line.now)) = sym c.in-Value.is ∙ c.split_int-number.ensures.number in
    elim c.then-n-low.branch [
      | then-n-low-via-then-n-low w ↦ rw (
        c.broken-then-n-low.ensures,
        is_below _ c.in-Value.n _ _ c.args.line.now e f c.ranges.low c.ranges.high w.if-n-low.true,
        ← e,
        to_z-of_z w32 c.args.low c.ranges.low,
        to_z-of_z w32 c.args.high c.ranges.high,
      ) refl
      | then-n-low-via-else-n-low+then-high-n w ↦ rw (
        c.broken-then-n-low.ensures,
        is_above _ c.in-Value.n _ _ c.args.line.now e f c.ranges.low c.ranges.high w.if-high-n.true,
        ← e,
        to_z-of_z w32 c.args.low c.ranges.low,
        to_z-of_z w32 c.args.high c.ranges.high,
      ) refl
    ]

pub returns-else-high-n : goal.returns-else-high-n
returns-else-high-n c =
    let f : SFits w64 c.in-Value.n = search rules in
    let e : Value c.in-Value.n ≡ num_of (integer_of (field_of c.args.line.now)) = sym c.in-Value.is ∙ c.split_int-number.ensures.number in
    rw (is_within _ c.in-Value.n _ _ c.args.line.now e f c.ranges.low c.ranges.high c.if-n-low.false c.if-high-n.false, ← c.split_int-number.ensures.rest) refl
