-- What a piece of text that ends in a line feed says, whatever follows it.
use Rattle.std.proofs.Common.{◌≡◌, ℕ, ◌+◌, List, [], ◌∷◌, ◌++◌, refl, sym, ap, ◌∙◌, Ok, append_assoc, add_assoc, add-zero}
use Rattle.asp_text.specs.Lines.{pieces, lines_of}
use Rattle.asp_make.specs.Texts.{line}
use Rattle.asp_read.specs.Seen.{Seen}
use Rattle.asp_read.specs.Judging.{judge_by, judge_all}
use Rattle.asp_read.specs.Outcome.{aspif}
use Rattle.asp_roundtrip.proofs.Bytes.{IsOneLine}
use Rattle.asp_roundtrip.proofs.WrittenLines.{IsPlain}

pub record Says (seen : Seen) (text : List ℕ) (after : Seen) : Type 0 where
  pub count : ℕ
  pub leads : (number : ℕ) (more : List ℕ) → judge_all aspif number seen (lines_of (text ++ more)) ≡ judge_all aspif (number + count) after (lines_of more)

first_piece : (bytes more : List ℕ) → IsOneLine bytes → pieces (bytes ++ (10 ∷ more)) ≡ bytes ∷ pieces more
first_piece [] more one = refl
first_piece (b ∷ bytes) more one = rw (one.0, first_piece bytes more one.1) refl

first_line : (bytes more : List ℕ) → IsPlain bytes → lines_of (line bytes ++ more) ≡ bytes ∷ lines_of more
first_line bytes more plain =
    ap lines_of (append_assoc bytes (10 ∷ []) more) ∙ rw (first_piece bytes more plain.one, plain.end) refl

leads_on : (seen after : Seen) (bytes : List ℕ) → IsPlain bytes → judge_by aspif seen bytes ≡ Ok after → (number : ℕ) (more : List ℕ) →
    judge_all aspif number seen (lines_of (line bytes ++ more)) ≡ judge_all aspif (number + 1) after (lines_of more)
unfolding judge_all
leads_on seen after bytes plain e number more = ap (judge_all aspif number seen) (first_line bytes more plain) ∙ rw e refl

pub says_line : (seen after : Seen) (bytes : List ℕ) → IsPlain bytes → judge_by aspif seen bytes ≡ Ok after → Says seen (line bytes) after
says_line seen after bytes plain e = record { count = 1; leads = leads_on seen after bytes plain e }

pub says_nothing : (seen : Seen) → Says seen [] seen
says_nothing seen = record { count = 0; leads = λ number more. ap (λ n. judge_all aspif n seen (lines_of more)) (sym (add-zero number)) }

pub says_both : (seen between after : Seen) (first second : List ℕ) → Says seen first between → Says between second after → Says seen (first ++ second) after
says_both seen between after first second a b = record {
  count = a.count + b.count;
  leads = λ number more.
      ap (λ text. judge_all aspif number seen (lines_of text)) (append_assoc first second more)
      ∙ a.leads number (second ++ more)
      ∙ b.leads (number + a.count) more
      ∙ ap (λ n. judge_all aspif n after (lines_of more)) (add_assoc number a.count b.count);
}
