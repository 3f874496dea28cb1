-- The canonical text of a readable program is read as the program.
use Rattle.std.proofs.Common.{◌≡◌, ℕ, ◌+◌, ◌≤◌, true, false, List, [], ◌∷◌, ◌++◌, length, map, flat_map, refl, sym, ap, ◌∙◌, subst, arith, Ok, append_assoc, append-nil}
use Rattle.std.specs.Prelude.{ℤ, codes, if◌then◌else◌, not, nat_le, ◌&&◌}
use Rattle.std.specs.List.{AllByRecursion}
use Rattle.std.proofs.lemmas.Bool.{lt-leb, le-leb, false≢true}
use Rattle.std.proofs.lemmas.List.{length_push}
use Rattle.asp_text.specs.Lines.{lines_of}
use Rattle.asp_model.specs.Sets.{Atoms, has, with_atoms}
use Rattle.asp_model.specs.Holding.{atom_of}
use Rattle.asp_model.specs.Models.{mentions, atoms_of}
use Rattle.asp_model.specs.declared.program.Rule.{Rule}
use Rattle.asp_model.specs.declared.program.Minimize.{Minimize}
use Rattle.asp_model.specs.declared.program.Output.{Output}
use Rattle.asp_model.specs.declared.program.External.{External}
use Rattle.asp_model.specs.declared.program.Program.{Program}
use Rattle.asp_model.proofs.SetLaws.{has-set_of, IsAscending-set_of}
use Rattle.asp_model.proofs.MemberLaws.{each-front, each_weaker, HasAll-itself}
use Rattle.asp_read.specs.declared.statement.Statement.{Statement}
use Rattle.asp_read.specs.declared.statement.Statement.TheVariants as say
use Rattle.asp_read.specs.declared.reader.Stage.TheVariants.{Within, Ended}
use Rattle.asp_read.specs.Fields.{most_counted}
use Rattle.asp_read.specs.Sizes.{program_size, statement_size, statement_atoms, empty_program}
use Rattle.asp_read.specs.Statements.{is_among, with_number, priorities, is_too_many, header_at, statement_with, of_kind}
use Rattle.asp_read.specs.Seen.{Seen, nothing_seen}
use Rattle.asp_read.specs.Judging.{judge_by, judge_all, outcome_from}
use Rattle.asp_read.specs.Outcome.{aspif, adds, stage_after, outcome, most_bytes}
use Rattle.asp_make.specs.Texts.{line, lines, rule_text, minimize_text, output_text, external_text, assumptions_line, text_of}
use Rattle.asp_roundtrip.specs.Readable.{IsReadable}
use Rattle.asp_roundtrip.proofs.Bytes.{each-back}
use Rattle.asp_roundtrip.proofs.Room.{IsRoomy, IsPart, HasEach, part_all}
use Rattle.asp_roundtrip.proofs.GivenStatements.{IsStatement, HasPriorityRoom}
use Rattle.asp_roundtrip.proofs.Growing.{AreKept, StandsIn, size_grows, priorities_grow}
use Rattle.asp_roundtrip.proofs.WrittenStatements.{statement_text, statement_back}
use Rattle.asp_roundtrip.proofs.WrittenLines.{statement_plain}
use Rattle.asp_roundtrip.proofs.Says.{Says, says_line, says_nothing, says_both}

-- ---- a front of a program fits where the whole fits

pub record Fits (p : Program) : Type 0 where
  pub counted : program_size p ≤ most_counted
  pub priorities_few : length (priorities p) ≤ 1000

number_fitted : (z : ℤ) (seen : List ℤ) → length (with_number seen z) ≤ 1000 → (is_too_many z seen ≡ false) × (length seen ≤ 1000)
number_fitted z seen few = (elim (is_among z seen) as (λ b. length (if b then seen else seen ++ z ∷ []) ≤ 1000 → ((not b && nat_le 1000 (length seen)) ≡ false) × (length seen ≤ 1000)) [
  | true ↦ λ h. (refl, h)
  | false ↦ λ h. (lt-leb 1000 (length seen) (omega (arith, length_push seen z, h)), omega (arith, length_push seen z, h))
]) few

fitted_priority : (p : Program) (s : Statement) → length (priorities (adds p s)) ≤ 1000 → HasPriorityRoom (priorities p) s × (length (priorities p) ≤ 1000)
fitted_priority p say.End few = (tt, few)
fitted_priority p (say.Rule r) few = (tt, few)
fitted_priority p (say.Minimize m) few = number_fitted m.priority (priorities p) (rw priorities_grow at few)
fitted_priority p (say.Output o) few = (tt, few)
fitted_priority p (say.External e) few = (tt, few)
fitted_priority p (say.Assume ls) few = (tt, few)
fitted_priority p say.Comment few = (tt, few)

fits_before : (p : Program) (s : Statement) → Fits (adds p s) → Fits p
fits_before p s fits = record { counted = omega (arith, size_grows p s, fits.counted); priorities_few = (fitted_priority p s fits.priorities_few).1 }

-- ---- a program with more statements of one kind at the end

abbrev put_rules : Program → List Rule → Program
put_rules p rules = record p { rules = p.rules ++ rules }

abbrev put_minimize : Program → List Minimize → Program
put_minimize p ms = record p { minimize = p.minimize ++ ms }

abbrev put_outputs : Program → List Output → Program
put_outputs p outputs = record p { outputs = p.outputs ++ outputs }

abbrev put_externals : Program → List External → Program
put_externals p externals = record p { externals = p.externals ++ externals }

-- ---- a statement

abbrev pub at : Program → Atoms → Seen
at p known = record { stage = Within; program = p; known = known }

-- a text leads to a program, and to atoms of the set
pub record Reaches (U : Atoms) (seen : Seen) (text : List ℕ) (p : Program) : Type 0 where
  pub known : Atoms
  pub part : IsPart U known
  pub says : Says seen text (at p known)

goes_on : (s : Statement) → (s ≡ say.End → ⊥) → stage_after s ≡ Within
goes_on say.End h = absurd (h refl)
goes_on (say.Rule r) h = refl
goes_on (say.Minimize m) h = refl
goes_on (say.Output o) h = refl
goes_on (say.External e) h = refl
goes_on (say.Assume ls) h = refl
goes_on say.Comment h = refl

module _ (U : Atoms) (roomy : IsRoomy U) where
  pub one_statement : (p : Program) (known : Atoms) (s : Statement) → (s ≡ say.End → ⊥) → StandsIn U s → Fits (adds p s) → IsPart U known → Reaches U (at p known) (line (statement_text s)) (adds p s)
  one_statement p known s more stands fits part =
      let few : program_size p + statement_size s ≤ most_counted = omega (arith, size_grows p s, fits.counted) in
      let plain = statement_plain (program_size p) s stands.0 few in
      let again = (fitted_priority p s fits.priorities_few).0 in
      let read = statement_back U roomy (program_size p) (priorities p) known s stands.0 few again part stands.1 in
      let judged : judge_by aspif (at p known) (statement_text s) ≡ Ok (at (adds p s) (with_atoms known (statement_atoms s))) = rw (plain.filled, read, goes_on s more) refl in
      record { known = with_atoms known (statement_atoms s); part = part_all U known (statement_atoms s) part stands.1; says = says_line _ _ (statement_text s) plain judged }

  then_reaches : (seen : Seen) (first second : List ℕ) (p q : Program) → Reaches U seen first p →
      ((known : Atoms) → IsPart U known → Reaches U (at p known) second q) → Reaches U seen (first ++ second) q
  then_reaches seen first second p q a next =
      let b = next a.known a.part in
      record { known = b.known; part = b.part; says = says_both seen (at p a.known) (at q b.known) first second a.says b.says }

  -- many statements of one kind, which a program gets at the end of its list of them
  module _ {A : Type 0} (make : A → Statement) (put : Program → List A → Program)
      (more : (x : A) → make x ≡ say.End → ⊥)
      (puts_none : (p : Program) → put p [] ≡ p)
      (puts_next : (p : Program) (x : A) (xs : List A) → put (adds p (make x)) xs ≡ put p (x ∷ xs)) where
    fits_first : (p : Program) (xs : List A) → Fits (put p xs) → Fits p
    fits_first p [] fits = subst Fits (puts_none p) fits
    fits_first p (x ∷ xs) fits = fits_before p (make x) (fits_first (adds p (make x)) xs (subst Fits (sym (puts_next p x xs)) fits))

    all_statements : (p : Program) (known : Atoms) (xs : List A) → AllByRecursion (λ x. StandsIn U (make x)) xs → Fits (put p xs) → IsPart U known →
        Reaches U (at p known) (lines (λ x. statement_text (make x)) xs) (put p xs)
    all_statements p known [] stand fits part = subst (Reaches U (at p known) []) (sym (puts_none p)) (record { known = known; part = part; says = says_nothing (at p known) })
    all_statements p known (x ∷ xs) stand fits part =
        let now = adds p (make x) in
        let later : Fits (put now xs) = subst Fits (sym (puts_next p x xs)) fits in
        let first = one_statement p known (make x) (more x) stand.0 (fits_first now xs later) part in
        subst (Reaches U (at p known) (lines (λ x. statement_text (make x)) (x ∷ xs))) (puts_next p x xs)
        (then_reaches (at p known) (line (statement_text (make x))) (lines (λ x. statement_text (make x)) xs) now (put now xs) first (λ known part. all_statements now known xs stand.1 later part))

  -- ---- the whole text

  rules_reach : (p : Program) (known : Atoms) (rs : List Rule) → AllByRecursion (λ r. StandsIn U (say.Rule r)) rs → Fits (put_rules p rs) →
      IsPart U known → Reaches U (at p known) (lines rule_text rs) (put_rules p rs)
  rules_reach = all_statements say.Rule put_rules (λ r e. absurd cc)
      (λ p. ap (λ rs. record p { rules = rs }) (append-nil p.rules))
      (λ p r rs. ap (λ rules. record p { rules = rules }) (append_assoc p.rules (r ∷ []) rs))

  minimize_reach : (p : Program) (known : Atoms) (ms : List Minimize) → AllByRecursion (λ m. StandsIn U (say.Minimize m)) ms →
      Fits (put_minimize p ms) → IsPart U known → Reaches U (at p known) (lines minimize_text ms) (put_minimize p ms)
  minimize_reach = all_statements say.Minimize put_minimize (λ m e. absurd cc)
      (λ p. ap (λ ms. record p { minimize = ms }) (append-nil p.minimize))
      (λ p m ms. ap (λ all. record p { minimize = all }) (append_assoc p.minimize (m ∷ []) ms))

  outputs_reach : (p : Program) (known : Atoms) (os : List Output) → AllByRecursion (λ o. StandsIn U (say.Output o)) os → Fits (put_outputs p os) →
      IsPart U known → Reaches U (at p known) (lines output_text os) (put_outputs p os)
  outputs_reach = all_statements say.Output put_outputs (λ o e. absurd cc)
      (λ p. ap (λ os. record p { outputs = os }) (append-nil p.outputs))
      (λ p o os. ap (λ all. record p { outputs = all }) (append_assoc p.outputs (o ∷ []) os))

  externals_reach : (p : Program) (known : Atoms) (es : List External) → AllByRecursion (λ e. StandsIn U (say.External e)) es →
      Fits (put_externals p es) → IsPart U known → Reaches U (at p known) (lines external_text es) (put_externals p es)
  externals_reach = all_statements say.External put_externals (λ x e. absurd cc)
      (λ p. ap (λ es. record p { externals = es }) (append-nil p.externals))
      (λ p x es. ap (λ all. record p { externals = all }) (append_assoc p.externals (x ∷ []) es))

  assumptions_reach : (p : Program) (known : Atoms) (ls : List ℤ) → StandsIn U (say.Assume ls) → Fits (adds p (say.Assume ls)) → IsPart U known →
      Reaches U (at p known) (assumptions_line ls) (adds p (say.Assume ls))
  assumptions_reach p known [] stands fits part = subst (Reaches U (at p known) [])
      (ap (λ ls. record p { assumptions = ls }) (sym (append-nil p.assumptions)))
      (record { known = known; part = part; says = says_nothing (at p known) })
  assumptions_reach p known (l ∷ ls) stands fits part = one_statement p known (say.Assume (l ∷ ls)) (λ e. absurd cc) stands fits part

  header_reaches : Reaches U nothing_seen (codes "asp 1 0 0\n") empty_program
  unfolding header_at
  header_reaches = record {
    known = [];
    part = record { ascending = tt; subset = λ a h. absurd (false≢true h) };
    says = says_line nothing_seen (at empty_program []) (codes "asp 1 0 0")
        (record { filled = refl; one = (refl, (refl, (refl, (refl, (refl, (refl, (refl, (refl, (refl, tt))))))))); end = refl }) refl;
  }

  front_reaches : (p : Program) → AreKept U p → Fits p
      → Reaches U nothing_seen (codes "asp 1 0 0\n" ++ lines rule_text p.rules ++ lines minimize_text p.minimize ++ lines output_text p.outputs
      ++ lines external_text p.externals ++ assumptions_line p.assumptions) p
  front_reaches p kept fits =
      let p₁ = put_rules empty_program p.rules in
      let p₂ = put_minimize p₁ p.minimize in
      let p₃ = put_outputs p₂ p.outputs in
      let p₄ = put_externals p₃ p.externals in
      let f₄ : Fits p₄ = fits_before p₄ (say.Assume p.assumptions) fits in
      let f₃ : Fits p₃ = record { counted = f₄.counted; priorities_few = f₄.priorities_few } in
      let f₂ : Fits p₂ = record { counted = omega (arith, f₃.counted); priorities_few = f₃.priorities_few } in
      let f₁ : Fits p₁ = record { counted = omega (arith, f₂.counted); priorities_few = omega arith } in
      let r₁ = then_reaches _ _ (lines rule_text p.rules) empty_program p₁ header_reaches (λ known part. rules_reach empty_program known p.rules kept.rules f₁ part) in
      let r₂ = then_reaches _ _ (lines minimize_text p.minimize) p₁ p₂ r₁ (λ known part. minimize_reach p₁ known p.minimize kept.minimize f₂ part) in
      let r₃ = then_reaches _ _ (lines output_text p.outputs) p₂ p₃ r₂ (λ known part. outputs_reach p₂ known p.outputs kept.outputs f₃ part) in
      let r₄ = then_reaches _ _ (lines external_text p.externals) p₃ p₄ r₃ (λ known part. externals_reach p₃ known p.externals kept.externals f₄ part) in
      then_reaches _ _ (assumptions_line p.assumptions) p₄ p r₄ (λ known part. assumptions_reach p₄ known p.assumptions kept.assumptions fits part)

-- ---- its atoms

each_stands : {A : Type 0} (U : Atoms) (make : A → Statement) (xs : List A) → AllByRecursion (λ x. IsStatement (make x)) xs →
    AllByRecursion (λ x. HasEach U (statement_atoms (make x))) xs → AllByRecursion (λ x. StandsIn U (make x)) xs
each_stands U make [] is there = tt
each_stands U make (x ∷ xs) is there = ((is.0, there.0), each_stands U make xs is.1 there.1)

each_in_flat_map : {X : Type 0} (P : ℕ → Type 0) (f : X → List ℕ) (xs : List X) → AllByRecursion P (flat_map f xs) → AllByRecursion (λ x. AllByRecursion P (f x)) xs
each_in_flat_map P f [] h = tt
each_in_flat_map P f (x ∷ xs) h = (each-front P (f x) (flat_map f xs) h, each_in_flat_map P f xs (each-back P (f x) (flat_map f xs) h))

each_in_map : {X : Type 0} (P : ℕ → Type 0) (f : X → ℕ) (xs : List X) → AllByRecursion P (map f xs) → AllByRecursion (λ x. AllByRecursion P (f x ∷ [])) xs
each_in_map P f [] h = tt
each_in_map P f (x ∷ xs) h = ((h.0, tt), each_in_map P f xs h.1)

readable_kept : (p : Program) → IsReadable p → AreKept (atoms_of p) p
readable_kept p is =
    let U = atoms_of p in
    let K : ℕ → Type 0 = λ a. has U a ≡ true in
    let all : HasEach U (mentions p) = each_weaker (λ a. has (mentions p) a ≡ true) K (λ a h. has-set_of (mentions p) a ∙ h) (mentions p) (HasAll-itself (mentions p)) in
    let without_assumptions = each-front K _ (map atom_of p.assumptions) all in
    let without_externals = each-front K _ (map (λ (e : External). e.atom) p.externals) without_assumptions in
    let without_outputs = each-front K _ (flat_map (λ (o : Output). map atom_of o.condition) p.outputs) without_externals in
    let rules = each-front K _ (flat_map (λ (m : Minimize). map (λ item. atom_of item.0) m.items) p.minimize) without_outputs in
    record {
      rules = each_stands U say.Rule p.rules is.rules (each_in_flat_map K _ p.rules rules);
      minimize = each_stands U say.Minimize p.minimize is.minimize (each_in_flat_map K _ p.minimize (each-back K _ _ without_outputs));
      outputs = each_stands U say.Output p.outputs is.outputs (each_in_flat_map K _ p.outputs (each-back K _ _ without_externals));
      externals = each_stands U say.External p.externals is.externals (each_in_map K _ p.externals (each-back K _ _ without_assumptions));
      assumptions = (is.assumptions, each-back K _ (map atom_of p.assumptions) all);
    }

-- ---- the outcome

pub end_reached : (number : ℕ) (p : Program) (known : Atoms) → judge_all aspif number (at p known) (lines_of (codes "0\n")) ≡ Ok (record { stage = Ended; program = p; known = known })
unfolding judge_all statement_with of_kind
end_reached number p known = refl

pub outcome_is : (text : List ℕ) (p : Program) (known : Atoms) → length text ≤ most_bytes →
    judge_all aspif 1 nothing_seen (lines_of text) ≡ Ok (record { stage = Ended; program = p; known = known }) → outcome text ≡ Ok p
unfolding outcome_from
outcome_is text p known few e =
    let fits : nat_le (length text) most_bytes ≡ true = le-leb (length text) most_bytes few in
    rw (fits, e) refl

pub readable_back : (p : Program) → IsReadable p → length (text_of p) ≤ most_bytes → outcome (text_of p) ≡ Ok p
readable_back p is few =
    let roomy : IsRoomy (atoms_of p) = record { ascending = IsAscending-set_of (mentions p); few = is.few_atoms } in
    let r = front_reaches (atoms_of p) roomy p (readable_kept p is) (record { counted = is.few_counted; priorities_few = is.few_priorities }) in
    outcome_is (text_of p) p r.known few (r.says.leads 1 (codes "0\n") ∙ end_reached (1 + r.says.count) p r.known)
