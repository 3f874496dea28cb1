use Rattle.std.proofs.Common.{◌≡◌, ◌<◌, ◌∷◌, length, ap, rules}
use Rattle.asp_text.specs.Fields.{fields_of}
use Rattle.asp_text.proofs.Blanks.{some_field, no_fields}
use Rattle.asp_text.proofs.split.LineFieldsIterator.next.Goals as goal

pub returns-then-is_empty-clause-steps : goal.returns-then-is_empty-clause-steps
returns-then-is_empty-clause-steps c =
    let none : length c.split_field.result.0.now ≡ 0 = search rules in
    rw c.split_field.ensures.rest (no_fields c.args.self.now.rest.now (rw c.split_field.ensures.field at none))

first_field : (c : goal.Else-is_empty) → fields_of c.args.self.now.rest.now ≡ c.split_field.result.0.now ∷ fields_of c.split_field.result.1.now
first_field c =
    let some : 0 < length c.split_field.result.0.now = search rules in
    rw (c.split_field.ensures.rest, c.split_field.ensures.field) (some_field c.args.self.now.rest.now (rw c.split_field.ensures.field at some))

pub returns-clause-steps : goal.returns-clause-steps
returns-clause-steps c = first_field c

pub returns-clause-goes : goal.returns-clause-goes
returns-clause-goes c = let shorter = ap length (first_field c) in search rules
