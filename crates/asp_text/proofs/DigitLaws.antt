-- A number that was written is read as itself.
use Rattle.std.proofs.Common.{◌≡◌, ℕ, ◌+◌, ◌-◌, ◌*◌, ◌/◌, ◌%◌, ◌^◌, ◌<◌, ◌≤◌, Bool, true, false, suc, eqb, List, [], ◌∷◌, ◌++◌, length, refl, ap, ◌∙◌, arith, Option, Some, None, length-append}
use Rattle.std.specs.Prelude.{ℤ, pos, negsuc, decimal, if◌then◌else◌}
use Rattle.std.specs.Fmt.{signed_decimal}
use Rattle.std.specs.List.{AllByRecursion}
use Rattle.std.specs.Char.{is_ascii_digit}
use Rattle.std.proofs.lemmas.Bool.{ne_eqb}
use Rattle.std.proofs.lemmas.Bool.Decides.{nat_tests}
use Rattle.std.proofs.lemmas.Fmt.{decimal_by_steps}
use Rattle.asp_text.specs.Fields.{digits_after, natural_of, integer_of}

each_weaker : {X : Type 0} (P Q : X → Type 0) → ((x : X) → P x → Q x) → (xs : List X) → AllByRecursion P xs → AllByRecursion Q xs
each_weaker P Q h [] all = tt
each_weaker P Q h (x ∷ xs) all = (h x all.0, each_weaker P Q h xs all.1)

each-append : {X : Type 0} (P : X → Type 0) (xs ys : List X) → AllByRecursion P xs → AllByRecursion P ys → AllByRecursion P (xs ++ ys)
each-append P [] ys a b = b
each-append P (x ∷ xs) ys a b = (a.0, each-append P xs ys a.1 b)

-- digits that spell the number
pub record Spells (n : ℕ) (digits : List ℕ) : Type 0 where
  pub value : digits_after 0 digits ≡ Some n
  pub bytes : AllByRecursion (λ b. 47 < b) digits
  pub some : 0 < length digits

digit : (d : ℕ) → d < 10 → is_ascii_digit (48 + d) ≡ true
digit d lt = grind (arith, nat_tests)

pub digits_none : (b : Bool) (o : Option ℕ) (k : ℕ) → (if b then o else None) ≡ Some k → b ≡ true
digits_none true o k e = refl
digits_none false o k e = absurd cc

digits_push : (m : ℕ) (ds : List ℕ) (k d : ℕ) → d < 10 → digits_after m ds ≡ Some k → digits_after m (ds ++ (48 + d) ∷ []) ≡ Some (k * 10 + d)
digits_push m [] k d lt e =
    let same : m ≡ k = cc in
    let one : m * 10 + (48 + d - 48) ≡ k * 10 + d = omega arith in
    rw (digit d lt) (ap Some one)
digits_push m (b ∷ ds) k d lt e =
    let h : is_ascii_digit b ≡ true = digits_none (is_ascii_digit b) (digits_after (m * 10 + (b - 48)) ds) k e in
    rw h (digits_push (m * 10 + (b - 48)) ds k d lt (rw h at e))

one_digit : (n : ℕ) → n < 10 → Spells n ((48 + n) ∷ [])
one_digit n lt =
    let same : 0 + (48 + n - 48) ≡ n = omega arith in
    record { value = rw (digit n lt) (ap Some same); bytes = (omega arith, tt); some = omega arith }

more_digits : (n : ℕ) (ds : List ℕ) → 10 ≤ n → Spells (n / 10) ds → Spells n (ds ++ ((48 + n % 10) ∷ []))
more_digits n ds le s =
    let parts : n / 10 * 10 + n % 10 ≡ n = omega arith in
    record {
      value = digits_push 0 ds (n / 10) (n % 10) (omega arith) s.value ∙ ap Some parts;
      bytes = each-append (λ b. 47 < b) ds ((48 + n % 10) ∷ []) s.bytes (omega arith, tt);
      some = omega (arith, s.some, length-append ds ((48 + n % 10) ∷ []));
    }

pub spells : (n : ℕ) → n < 2 ^ 64 → Spells n (decimal n)
spells n lt = decimal_by_steps Spells one_digit more_digits n lt

-- ---- signed numbers

-- a number of 32 bits with a sign, or one more
abbrev pub IsShort : ℤ → Type 0
IsShort (pos n) = n < 2 ^ 32
IsShort (negsuc n) = n < 2 ^ 32

-- what is printed of a number: bytes that are no blanks, at least one, which spell it
pub record SpellsInteger (z : ℤ) (word : List ℕ) : Type 0 where
  pub value : integer_of word ≡ Some z
  pub bytes : AllByRecursion (λ b. 32 < b) word
  pub some : 0 < length word

natural_part : (n : ℕ) (ds : List ℕ) → Spells n ds → natural_of ds ≡ Some n
natural_part n [] s = absurd (omega (arith, s.some))
natural_part n (b ∷ ds) s = s.value

no_sign : (n : ℕ) (ds : List ℕ) → Spells n ds → integer_of ds ≡ Some (pos n)
no_sign n [] s = absurd (omega (arith, s.some))
no_sign n (b ∷ ds) s =
    let other : eqb b 45 ≡ false = ne_eqb b 45 (λ e. omega (arith, e, s.bytes.0)) in
    rw (other, s.value) refl

visible : (ds : List ℕ) → AllByRecursion (λ b. 47 < b) ds → AllByRecursion (λ b. 32 < b) ds
visible ds h = each_weaker (λ b. 47 < b) (λ b. 32 < b) (λ b lt. omega arith) ds h

pub spells_integer : (z : ℤ) → IsShort z → SpellsInteger z (signed_decimal z)
spells_integer (pos n) lt =
    let s = spells n (omega arith) in
    record { value = no_sign n (decimal n) s; bytes = visible (decimal n) s.bytes; some = s.some }
spells_integer (negsuc n) lt =
    let s = spells (suc n) (omega arith) in
    record { value = rw (natural_part (suc n) (decimal (suc n)) s) refl; bytes = (omega arith, visible (decimal (suc n)) s.bytes); some = omega arith }
