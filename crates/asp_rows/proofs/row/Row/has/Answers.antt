use Rattle.std.proofs.Common.{◌<◌, ◌/◌, ◌%◌, ◌^◌, ℕ, eqb, get_or, length, ap, sym, subst, ◌∙◌}
use Rattle.asp_model.specs.Sets.{has}
use Rattle.asp_rows.proofs.DigitLaws.{bit_is, bit_within, one_is}
use Rattle.asp_rows.proofs.row.Row.has.Goals as goal

pub bounds-as_slice-bit : goal.bounds-as_slice-bit
bounds-as_slice-bit c =
    subst (λ (n : ℕ). c.args.bit.word < n) (ap length (sym (c.as_slice.ensures ∙ c.requires.row.words)))
    (bit_within c.args.atoms.now c.args.self.now.set c.requires.bit.0 c.args.bit c.requires.bit.1)

pub returns : goal.returns
returns c = λ place at.
    ap (λ k. eqb (get_or k c.args.bit.word 0 / 2 ^ c.args.bit.behind % 2) 1) (c.as_slice.ensures ∙ c.requires.row.words)
    ∙ ap (λ k. eqb k 1) (bit_is c.args.atoms.now c.args.self.now.set place c.args.bit at)
    ∙ one_is (has c.args.self.now.set (get_or c.args.atoms.now place 0))
