use Rattle.std.proofs.Common.{◌≡◌, ℕ, ◌≤◌, List, length, Result, Ok, Err, refl, sym, ap, subst}
use Rattle.asp_model.specs.declared.program.Program.{Program}
use Rattle.asp_read.specs.declared.fault.ReadError.{ReadError}
use Rattle.asp_read.specs.Outcome.{outcome, most_bytes}
use Rattle.asp_make.specs.Texts.{text_of}
use Rattle.asp_read.specs.Fields.{◌>>=◌}
use Rattle.asp_roundtrip.specs.Rewritten.{rewritten}
use Rattle.asp_roundtrip.proofs.GivenTexts.{outcome_given}
use Rattle.asp_roundtrip.proofs.WrittenTexts.{readable_back}
use Rattle.asp_roundtrip.proofs.laws.rewriting_again_changes_nothing.Goals as goal

abbrev ok : List ℕ → Result (List ℕ) ReadError
ok x = Ok x

ok_is : (x y : List ℕ) → ok x ≡ ok y → x ≡ y
ok_is x y e = cc

again : (text canonical : List ℕ) (read : Result Program ReadError) → outcome text ≡ read → (read >>= λ p. Ok (text_of p)) ≡ Ok canonical →
    length canonical ≤ most_bytes → rewritten canonical ≡ Ok canonical
again text canonical (Ok program) e is few =
    let same = ok_is (text_of program) canonical is in
    let back = readable_back program ((outcome_given text).each program e) (subst (λ t. length t ≤ most_bytes) (sym same) few) in
    subst (λ t. rewritten t ≡ Ok t) same (ap (λ read. read >>= λ p. Ok (text_of p)) back)
again text canonical (Err error) e is few = absurd cc

pub returns : goal.returns
returns c = λ text canonical is few. again text canonical (outcome text) refl is few
