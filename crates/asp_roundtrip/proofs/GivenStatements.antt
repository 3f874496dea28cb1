-- What the readers of statements give, where they give anything.
use Rattle.std.proofs.Common.{◌≡◌, ℕ, suc, ◌+◌, ◌≤◌, true, false, ltb, List, [], ◌∷◌, ◌++◌, length, map, map-id, drop, refl, sym, ◌∙◌, arith, Ok}
use Rattle.std.specs.Prelude.{ℤ, pos, negsuc, if◌then◌else◌, nat_lt, nat_le, ◌&&◌, ◌==◌}
use Rattle.std.specs.List.{AllByRecursion, position_or_len}
use Rattle.std.proofs.lemmas.Bool.{lt-ltb, ltb-false, false≢true}
use Rattle.std.proofs.lemmas.List.{length-take}
use Rattle.std.proofs.lemmas.List.Sums.{fold-append}
use Rattle.asp_text.specs.Fields.{is_blank, is_filled, unblank, field_of, after_field, integer_of}
use Rattle.asp_model.specs.Sets.{Atoms, with_atom, with_atoms}
use Rattle.asp_model.specs.Holding.{body_atoms}
use Rattle.asp_model.specs.Models.{head_atoms}
use Rattle.asp_model.specs.declared.program.Head.{Head}
use Rattle.asp_model.specs.declared.program.Head.TheVariants.{One, Choice, Never}
use Rattle.asp_model.specs.declared.program.Body.{Body}
use Rattle.asp_model.specs.declared.program.Body.TheVariants.{All, AtLeast}
use Rattle.asp_read.specs.declared.statement.Statement.{Statement}
use Rattle.asp_read.specs.declared.statement.Statement.TheVariants as say
use Rattle.asp_read.specs.Fields.{◌>>=◌, Reads, atom_at, literals_at, text_at, alone, ended, ends_field, most, most_counted}
use Rattle.asp_read.specs.Sizes.{head_size, body_size, statement_size, statement_atoms}
use Rattle.asp_read.specs.Statements.{head_of, head_at, body_at, rule_at, minimize_at, output_at, external_at, heuristic_at, value_of, is_too_many, of_kind, kind_in, statement_with}
use Rattle.asp_read.specs.Outcome.{most_bytes}
use Rattle.asp_roundtrip.specs.Readable.{IsAtom, IsLiteral, IsHead, IsBody, IsRule, IsMinimize, IsOutput}
use Rattle.asp_roundtrip.proofs.Bytes.{IsOneLine, each-drop, each-take}
use Rattle.asp_roundtrip.proofs.Room.{IsRoomy, roomy_more}
use Rattle.asp_roundtrip.proofs.Given.{Given, given, given_none, given_then, given_if, given_after, given_itself, natural_given, integer_given, atom_given, literals_given, weights_given, many_given}

-- ---- rules

record HeadGiven (used : ℕ) (known : Atoms) (head : Head) : Type 0 where
  within : IsHead head
  few : used + head_size head ≤ most_counted
  roomy : IsRoomy (with_atoms known (head_atoms head))

head_from : (used : ℕ) (known : Atoms) (kind : ℕ) (atoms : List ℕ) → (kind == 0 && nat_lt 1 (length atoms)) ≡ false → AllByRecursion IsAtom atoms →
    used + length atoms ≤ most_counted → IsRoomy (with_atoms known atoms) → HeadGiven used known (head_of kind atoms)
head_from used known kind [] fits is few roomy = elim (kind == 0) as (λ b. HeadGiven used known (if b then Never else Choice [])) [
  | true ↦ record { within = tt; few = few; roomy = roomy }
  | false ↦ record { within = tt; few = few; roomy = roomy }
]
head_from used known kind (a ∷ []) fits is few roomy = elim (kind == 0) as (λ b. HeadGiven used known (if b then One a else Choice (a ∷ []))) [
  | true ↦ record { within = is.0; few = few; roomy = roomy }
  | false ↦ record { within = is; few = few; roomy = roomy }
]
head_from used known kind (a ∷ b ∷ atoms) fits is few roomy =
    let two : ltb 1 (length (a ∷ b ∷ atoms)) ≡ true = lt-ltb 1 (suc (suc (length atoms))) (omega arith) in
    (elim (kind == 0) as (λ k. (k && ltb 1 (length (a ∷ b ∷ atoms))) ≡ false → HeadGiven used known (if k then One a else Choice (a ∷ b ∷ atoms))) [
      | true ↦ λ h. absurd (false≢true (sym h ∙ two))
      | false ↦ λ h. record { within = is; few = few; roomy = roomy }
    ]) fits

head_given : (used : ℕ) (known : Atoms) (line : List ℕ) → IsRoomy known → Given (head_at used known line) (λ x. HeadGiven used known x.0)
unfolding head_at
head_given used known line roomy = given_then _ _ _ _ (natural_given 0 1 line) (λ kind _. given_then _ _ _ _ (natural_given 0 most kind.1) (λ m _.
    given_if (kind.0 == 0 && nat_lt 1 m.0) _ _ _ (λ t. given_none _ _) (λ single. given_if (nat_lt most_counted (used + m.0)) _ _ _ (λ t. given_none _ _) (λ few.
    given_then _ _ _ _ (many_given (λ atom. atom) atom_at IsAtom atom_given m.0 known m.1 roomy) (λ atoms are.
    let one : (kind.0 == 0 && nat_lt 1 (length atoms.0)) ≡ false = rw are.0 single in
    let fits : used + length atoms.0 ≤ most_counted = omega (arith, are.0, ltb-false most_counted (used + m.0) few) in
    let same : map (λ (atom : ℕ). atom) atoms.0 ≡ atoms.0 = map-id atoms.0 in
    let room : IsRoomy (with_atoms known atoms.0) = rw same at are.2 in
    let head : HeadGiven used known (head_of kind.0 atoms.0) = head_from used known kind.0 atoms.0 one are.1 fits room in
    given _ _ head)))))

record BodyGiven (used : ℕ) (known : Atoms) (body : Body) : Type 0 where
  within : IsBody body
  few : used + body_size body ≤ most_counted
  roomy : IsRoomy (with_atoms known (body_atoms body))

body_given : (used : ℕ) (known : Atoms) (line : List ℕ) → IsRoomy known → Given (body_at used known line) (λ x. BodyGiven used known x.0)
unfolding body_at
body_given used known line roomy = given_then _ _ _ _ (natural_given 0 1 line) (λ kind _. given_if (kind.0 == 0) _ _ _
    (λ t. given_then _ _ _ _ (literals_given used known kind.1 roomy) (λ ls are.
    let body : BodyGiven used known (All ls.0) = record { within = are.1; few = are.0; roomy = are.2 } in
    given _ _ body))
    (λ f. given_then _ _ _ _ (integer_given _ _ kind.1) (λ bound is. given_then _ _ _ _ (weights_given used (pos 0) known bound.1 roomy) (λ items are.
    let body : BodyGiven used known (AtLeast bound.0 items.0) = record { within = (is, are.1); few = are.0; roomy = are.2 } in
    given _ _ body))))

-- ---- what a statement says, after so much was counted and these priorities and atoms stood

abbrev pub IsStatement : Statement → Type 0
IsStatement (say.Rule r) = IsRule r
IsStatement (say.Minimize m) = IsMinimize m
IsStatement (say.Output o) = IsOutput o
IsStatement (say.External e) = IsAtom e.atom
IsStatement (say.Assume ls) = AllByRecursion IsLiteral ls
IsStatement s = Unit {0}

abbrev pub HasPriorityRoom : List ℤ → Statement → Type 0
HasPriorityRoom seen (say.Minimize m) = is_too_many m.priority seen ≡ false
HasPriorityRoom seen s = Unit {0}

pub record StatementGiven (used : ℕ) (seen : List ℤ) (known : Atoms) (s : Statement) : Type 0 where
  pub within : IsStatement s
  pub few : used + statement_size s ≤ most_counted
  pub priority : HasPriorityRoom seen s
  pub roomy : IsRoomy (with_atoms known (statement_atoms s))

rule_given : (used : ℕ) (seen : List ℤ) (known : Atoms) (line : List ℕ) → IsRoomy known → Given (rule_at used known line) (λ x. StatementGiven used seen known (say.Rule x.0))
unfolding rule_at
rule_given used seen known line roomy = given_then _ _ _ _ (head_given used known line roomy) (λ head h.
    given_then _ _ _ _ (body_given (used + head_size head.0) (with_atoms known (head_atoms head.0)) head.1 h.roomy) (λ body b.
    let both : IsRoomy (with_atoms known (head_atoms head.0 ++ body_atoms body.0)) = rw (fold-append (λ T a. with_atom a T) known (head_atoms head.0) (body_atoms body.0)) b.roomy in
    let rule : StatementGiven used seen known (say.Rule (record { head = head.0; body = body.0 })) =
    record { within = (h.within, b.within); few = omega (arith, b.few); priority = tt; roomy = both } in
    given _ _ rule))

minimize_given : (used : ℕ) (seen : List ℤ) (known : Atoms) (line : List ℕ) → IsRoomy known → Given (minimize_at used seen known line) (λ x. StatementGiven used seen known (say.Minimize x.0))
unfolding minimize_at
minimize_given used seen known line roomy = given_then _ _ _ _ (integer_given _ _ line) (λ priority is. given_if (is_too_many priority.0 seen) _ _ _ (λ t. given_none _ _) (λ again.
    given_then _ _ _ _ (weights_given used (negsuc most) known priority.1 roomy) (λ items are.
    let minimize : StatementGiven used seen known (say.Minimize (record { priority = priority.0; items = items.0 })) = record { within = (is, are.1); few = are.0; priority = again; roomy = are.2 } in
    given _ _ minimize)))

text_given : (n : ℕ) (line : List ℕ) → IsOneLine line → Given (text_at n line) (λ x. (length x.0 ≤ n) × IsOneLine x.0)
text_given n [] one = given_none _ _
text_given n (b ∷ bs) one = given_if (is_blank b && (nat_le n (length bs) && ends_field (drop n bs))) _ _ _
    (λ t. given _ _ (omega (arith, length-take n bs), each-take _ n bs one.1))
    (λ f. given_none _ _)

one_line_after : (line : List ℕ) → IsOneLine line → IsOneLine (after_field line)
one_line_after line one = each-drop _ (position_or_len is_blank (unblank line)) (unblank line) (each-drop _ (position_or_len is_filled line) line one)

output_given : (used : ℕ) (seen : List ℤ) (known : Atoms) (line : List ℕ) → IsOneLine line → IsRoomy known → Given (output_at used known line) (λ x. StatementGiven used seen known (say.Output x.0))
unfolding output_at
output_given used seen known line one roomy = given_then _ _ _ _ (natural_given 0 most_bytes line) (λ m within.
    let rest : IsOneLine m.1 = rw within.2 (one_line_after line one) in
    given_then _ _ _ _ (text_given m.0 m.1 rest) (λ text is. given_then _ _ _ _ (literals_given used known text.1 roomy) (λ condition are.
    let output : StatementGiven used seen known (say.Output (record { text = text.0; condition = condition.0 })) =
    record { within = (omega (arith, is.0, within.1), is.1, are.1); few = are.0; priority = tt; roomy = are.2 } in
    given _ _ output)))

external_given : (used : ℕ) (seen : List ℤ) (known : Atoms) (line : List ℕ) → used ≤ most_counted → IsRoomy known →
    Given (external_at known line) (λ x. StatementGiven used seen known (say.External x.0))
unfolding external_at
external_given used seen known line few roomy = given_then _ _ _ _ (atom_given known line) (λ atom is. given_then _ _ _ _ (natural_given 0 3 atom.1) (λ number _.
    let external : StatementGiven used seen known (say.External (record { atom = atom.0; value = value_of number.0 })) =
    record { within = is.0; few = omega arith; priority = tt; roomy = roomy_more known atom.0 roomy is.1 } in
    given _ _ external))

-- ---- lines

pub alone_given : {A : Type 0} (x : A × List ℕ) (P : A → Type 0) → P x.0 → Given (alone x) P
alone_given x P p = given_then _ _ _ _ (given_itself (ended x.1)) (λ _ _. given _ _ p)

pub one_given : {A : Type 0} (read : Reads A) (make : A → Statement) (Q : Statement → Type 0) → Given read (λ x. Q (make x.0)) → Given (read >>= alone >>= λ x. Ok (make x)) Q
one_given read make Q g = given_then _ _ (λ x. Q (make x)) Q (given_then read alone (λ x. Q (make x.0)) (λ x. Q (make x)) g (λ x q. alone_given x (λ y. Q (make y)) q)) (λ x q. given (make x) Q q)

pub of_kind_given : (kind used : ℕ) (seen : List ℤ) (known : Atoms) (line : List ℕ) → used ≤ most_counted → IsOneLine line → IsRoomy known →
    Given (of_kind kind used seen known line) (StatementGiven used seen known)
unfolding of_kind
of_kind_given kind used seen known line few one roomy =
    given_if (kind == 0) _ _ _ (λ _. alone_given (say.End, line) _ nothing) (λ _.
    given_if (kind == 1) _ _ _ (λ _. one_given _ say.Rule _ (rule_given used seen known line roomy)) (λ _.
    given_if (kind == 2) _ _ _ (λ _. one_given _ say.Minimize _ (minimize_given used seen known line roomy)) (λ _.
    given_if (kind == 3) _ _ _ (λ _. given_none _ _) (λ _.
    given_if (kind == 4) _ _ _ (λ _. one_given _ say.Output _ (output_given used seen known line one roomy)) (λ _.
    given_if (kind == 5) _ _ _ (λ _. one_given _ say.External _ (external_given used seen known line few roomy)) (λ _.
    given_if (kind == 6) _ _ _ (λ _. one_given _ say.Assume _ assume) (λ _.
    given_if (kind == 7) _ _ _ (λ _. given_then _ _ _ _ (given_itself (heuristic_at line >>= ended)) (λ _ _. given say.Comment _ comment)) (λ _.
    given_if (kind == 8) _ _ _ (λ _. given_none _ _) (λ _.
    given_if (kind == 9) _ _ _ (λ _. given_none _ _) (λ _. given say.Comment _ comment))))))))))
  where
    nothing : StatementGiven used seen known say.End
    nothing = record { within = tt; few = omega arith; priority = tt; roomy = roomy }

    comment : StatementGiven used seen known say.Comment
    comment = record { within = tt; few = omega arith; priority = tt; roomy = roomy }

    assume : Given (literals_at used known line) (λ x. StatementGiven used seen known (say.Assume x.0))
    assume = given_after _ _ _ (literals_given used known line roomy) (λ x are. record { within = are.1; few = are.0; priority = tt; roomy = are.2 })

pub statement_given : (used : ℕ) (seen : List ℤ) (known : Atoms) (line : List ℕ) → used ≤ most_counted → IsOneLine line → IsRoomy known →
    Given (statement_with used seen known line) (StatementGiven used seen known)
unfolding statement_with
statement_given used seen known line few one roomy =
    given_then _ _ _ _ (given_then _ _ (λ _. Unit {0}) (λ x. x.1 ≡ after_field line)
    (given_after _ _ _ (given_itself (kind_in line (integer_of (field_of line)))) (λ _ _. tt))
    (λ kind _. given (kind, after_field line) _ refl)) (λ kind rest.
    let later : IsOneLine kind.1 = rw rest (one_line_after line one) in
    of_kind_given kind.0 used seen known kind.1 few later roomy)
