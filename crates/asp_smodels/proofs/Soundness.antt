-- What is read is within the ranges and limits.
use Rattle.std.proofs.Common.{◌≡◌, ℕ, zero, suc, ◌+◌, ◌-◌, ◌≤◌, Bool, true, false, List, [], ◌∷◌, ◌++◌, length, length-append, Option, Some, None, Result, Ok, Err, refl, sym, ap, ◌∙◌, arith}
use Rattle.std.specs.Prelude.{ℤ, pos, negsuc, if◌then◌else◌, int_le, nat_le, nat_lt, ◌==◌, map, codes}
use Rattle.std.specs.List.{list_all}
use Rattle.std.proofs.lemmas.List.Folds.{list_all-append}
use Rattle.std.proofs.lemmas.Bool.{leb-true, ltb-true, and_parts, and_from}
use Rattle.asp_text.specs.Fields.{unblank, field_of, after_field, integer_of, num_of}
use Rattle.asp_text.specs.declared.numbers.Num.TheVariants.{Value}
use Rattle.asp_model.specs.declared.program.Program.{Program}
use Rattle.asp_model.specs.declared.program.Head.{Head}
use Rattle.asp_model.specs.declared.program.Head.TheVariants.{One, Choice}
use Rattle.asp_model.specs.declared.program.Body.{Body}
use Rattle.asp_model.specs.declared.program.Body.TheVariants.{All, AtLeast}
use Rattle.asp_model.specs.declared.program.Rule.{Rule}
use Rattle.asp_model.specs.declared.program.Minimize.{Minimize}
use Rattle.asp_model.specs.declared.program.Output.{Output}
use Rattle.asp_model.specs.Sets.{Atoms, with_atom, with_atoms}
use Rattle.asp_model.specs.Holding.{atom_of}
use Rattle.asp_model.specs.Sound.{is_atom, is_literal, is_weighted, is_sound_rule, is_sound_minimize, is_sound_output, IsSound}
use Rattle.asp_read.specs.declared.fault.FaultKind.TheVariants as fault
use Rattle.asp_read.specs.declared.fault.ReadError.{ReadError}
use Rattle.asp_read.specs.declared.error.FaultAt.{FaultAt}
use Rattle.asp_read.specs.Places.{broken}
use Rattle.asp_read.specs.declared.statement.Statement.{Statement}
use Rattle.asp_read.specs.declared.statement.Statement.TheVariants as say
use Rattle.asp_read.specs.Adding.{adds}
use Rattle.asp_read.specs.Sizes.{rule_size, statement_size, statement_atoms, program_size}
use Rattle.asp_read.specs.Fields.{◌>>=◌, natural_at, atom_at, count_at, many_at, alone, ended, most, most_counted}
use Rattle.asp_read.specs.Statements.{is_word}
use Rattle.asp_read.proofs.Soundness.{ok, ok_is, first_is, step, unless, choose, integer-range, weight_is, atom-sound, many_are, count_is, Listed, Part, part, is_sound_statement, stated, end_is, AreSound, adds-sound, more_lines, outcome_by-sound}
use Rattle.asp_smodels.specs.declared.reader.Stage.{Stage}
use Rattle.asp_smodels.specs.declared.reader.Stage.TheVariants.{Rules, Symbols, PlusWord, Plus, MinusWord, Minus, Number, Ended}
use Rattle.asp_smodels.specs.Parts.{one_more_at, heads_at, negated_in, negated_at, weight_at, literal_of, literal_at, signed_at, literals_at, weights_at, weighted_at, with_weight_1}
use Rattle.asp_smodels.specs.Lines.{basic_at, cardinality_at, choice_at, weight_rule_at, minimize_at, type_at, of_type, rule_line, name_of, symbol_at, is_end, symbol_line, word_line, assumed_line, number_line}
use Rattle.asp_smodels.specs.Seen.{Seen}
use Rattle.asp_smodels.specs.Outcome.{stage_after, line_of, judge_line, at_end, smodels, smodels_outcome}

-- ---- parts of rules

-- an atom that was read, and that there was room for it
record One_more (used atom : ℕ) : Type 0 where
  sound : is_atom atom ≡ true
  fits : used + 1 ≤ most_counted

one_more-sound : (used : ℕ) (known : Atoms) (line : List ℕ) (x : ℕ × List ℕ) → one_more_at used known line ≡ Ok x → One_more used x.0
unfolding one_more_at
one_more-sound used known line x e = (elim (nat_lt used most_counted) as
    (λ v. nat_lt used most_counted ≡ v → (if v then atom_at known line else Err (broken fault.Counts line)) ≡ Ok x → One_more used x.0) [
      | true ↦ λ t h. record { sound = atom-sound known line x h; fits = omega (arith, ltb-true used most_counted t) }
      | false ↦ λ f h. absurd cc
    ]) refl e

heads-fit : (used : ℕ) (line : List ℕ) (x : ℕ × List ℕ) → heads_at used line ≡ Ok x → used + x.0 ≤ most_counted
unfolding heads_at
heads-fit used line x e =
    let s = step (count_at used line) (λ m. if m.0 == 0 then Err (broken (fault.Natural 1 most_counted (Value (pos 0))) line) else ok m) x e in
    let u = unless (s.value.0 == 0) _ (ok s.value) x s.goes in
    let fits : used + s.value.0 ≤ most_counted = count_is used line s.value s.is in
    omega (arith, fits, ap (λ (y : ℕ × List ℕ). y.0) (ok_is s.value x u.1))

negated_range : (n : ℕ) (line : List ℕ) (o : Option ℤ) (k : ℕ) → negated_in n line o ≡ Ok k → k ≤ n
negated_range n line None k e = absurd cc
negated_range n line (Some (negsuc m)) k e = absurd cc
negated_range n line (Some (pos m)) k e = (elim (nat_le m n) as (λ v. nat_le m n ≡ v → (if v then ok m else Err (broken (fault.Negated n (num_of (Some (pos m)))) line)) ≡ ok k → k ≤ n) [
  | true ↦ λ t h. omega (arith, leb-true m n t, ok_is m k h)
  | false ↦ λ f h. absurd cc
]) refl e

negated-range : (n : ℕ) (line : List ℕ) (x : ℕ × List ℕ) → negated_at n line ≡ Ok x → x.0 ≤ n
negated-range n line x e =
    let s = step (negated_in n line (integer_of (field_of line))) (λ k. ok (k, after_field line)) x e in
    omega (arith, negated_range n line (integer_of (field_of line)) s.value s.is, ap (λ (y : ℕ × List ℕ). y.0) (ok_is (s.value, after_field line) x s.goes))

literal_is : (negated : Bool) (a : ℕ) → is_atom a ≡ true → is_literal (literal_of negated a) ≡ true
literal_is negated zero h = absurd cc
literal_is true (suc a) h = h
literal_is false (suc a) h = h

literal-sound : (negated : Bool) (known : Atoms) (line : List ℕ) (x : ℤ × List ℕ) → literal_at negated known line ≡ Ok x → is_literal x.0 ≡ true
unfolding literal_at
literal-sound negated known line x e =
    let s = step (atom_at known line) (λ a. ok (literal_of negated a.0, a.1)) x e in
    ap is_literal (sym (first_is (literal_of negated s.value.0) s.value.1 x s.goes)) ∙ literal_is negated s.value.0 (atom-sound known line s.value s.is)

-- so many literals
record Literals (count : ℕ) (ls : List ℤ) : Type 0 where
  sound : list_all is_literal ls ≡ true
  counted : length ls ≡ count

both_are : (n k : ℕ) (xs ys zs : List ℤ) → k ≤ n → list_all is_literal xs ≡ true → length xs ≡ k → list_all is_literal ys ≡ true → length ys ≡ n - k → xs ++ ys ≡ zs → Literals n zs
both_are n k xs ys zs le s l t m e = rw (← e) (record {
  sound = list_all-append is_literal xs ys ∙ and_from (list_all is_literal xs) (list_all is_literal ys) s t;
  counted = omega (arith, length-append xs ys, l, m, le);
})

signed-sound : (n k : ℕ) (known : Atoms) (line : List ℕ) (x : List ℤ × List ℕ) → k ≤ n → signed_at n k known line ≡ Ok x → Literals n x.0
unfolding signed_at
signed-sound n k known line x le e =
    let s = step (many_at atom_of (literal_at true) k known line) (λ xs. many_at atom_of (literal_at false) (n - k) (with_atoms known (map atom_of xs.0)) xs.1 >>= λ ys. ok (xs.0 ++ ys.0, ys.1)) x e in
    let t = step (many_at atom_of (literal_at false) (n - k) (with_atoms known (map atom_of s.value.0)) s.value.1) (λ ys. ok (s.value.0 ++ ys.0, ys.1)) x s.goes in
    let a = many_are is_literal atom_of (literal_at true) (literal-sound true) k known line s.value s.is in
    let b = many_are is_literal atom_of (literal_at false) (literal-sound false) (n - k) (with_atoms known (map atom_of s.value.0)) s.value.1 t.value t.is in
    both_are n k s.value.0 t.value.0 x.0 le a.sound a.counted b.sound b.counted (first_is (s.value.0 ++ t.value.0) t.value.1 x t.goes)

literals-sound : (used : ℕ) (known : Atoms) (line : List ℕ) (x : List ℤ × List ℕ) → literals_at used known line ≡ Ok x → Listed is_literal used x.0
unfolding literals_at
literals-sound used known line x e =
    let s = step (count_at used line) (λ n. negated_at n.0 n.1 >>= λ k. signed_at n.0 k.0 known k.1) x e in
    let t = step (negated_at s.value.0 s.value.1) (λ k. signed_at s.value.0 k.0 known k.1) x s.goes in
    let l = signed-sound s.value.0 t.value.0 known t.value.1 x (negated-range s.value.0 s.value.1 t.value t.is) t.goes in
    record { sound = l.sound; fits = omega (arith, l.counted, count_is used line s.value s.is) }

-- literals with weights
record Weighted (count : ℕ) (items : List (ℤ × ℤ)) : Type 0 where
  sound : list_all is_weighted items ≡ true
  literals : list_all (λ (item : ℤ × ℤ). is_literal item.0) items ≡ true
  counted : length items ≡ count

weighted_none : Weighted 0 []
weighted_none = record { sound = refl; literals = refl; counted = refl }

weighted_more : (n : ℕ) (l w : ℤ) (items more : List (ℤ × ℤ)) → is_literal l ≡ true → int_le (pos 0) w ≡ true → Weighted n items → (l, w) ∷ items ≡ more → Weighted (suc n) more
weighted_more n l w items more h k p e = rw (← e) (record {
  sound = and_from (is_weighted (l, w)) (list_all is_weighted items) (and_from (is_literal l) (int_le (pos 0) w) h k) p.sound;
  literals = and_from (is_literal l) (list_all (λ (item : ℤ × ℤ). is_literal item.0) items) h p.literals;
  counted = ap suc p.counted;
})

weights-sound : (ls : List ℤ) (line : List ℕ) (x : List (ℤ × ℤ) × List ℕ) → list_all is_literal ls ≡ true → weights_at ls line ≡ Ok x → Weighted (length ls) x.0
unfolding weights_at
weights-sound [] line x all e = rw (← first_is [] line x e) weighted_none
weights-sound (l ∷ ls) line x all e =
    let p = and_parts (is_literal l) (list_all is_literal ls) all in
    let s = step (weight_at line) (λ w. weights_at ls w.1 >>= λ os. ok ((l, w.0) ∷ os.0, os.1)) x e in
    let t = step (weights_at ls s.value.1) (λ os. ok ((l, s.value.0) ∷ os.0, os.1)) x s.goes in
    weighted_more (length ls) l s.value.0 t.value.0 x.0 p.0 (weight_is s.value.0 (integer-range (pos 0) (pos most) line s.value s.is).0)
    (weights-sound ls s.value.1 t.value p.1 t.is) (first_is ((l, s.value.0) ∷ t.value.0) t.value.1 x t.goes)

-- weighted literals, where so much was counted before
record Items (used : ℕ) (items : List (ℤ × ℤ)) : Type 0 where
  sound : list_all is_weighted items ≡ true
  literals : list_all (λ (item : ℤ × ℤ). is_literal item.0) items ≡ true
  fits : used + length items ≤ most_counted

weighted-sound : (used : ℕ) (known : Atoms) (line : List ℕ) (x : List (ℤ × ℤ) × List ℕ) → weighted_at used known line ≡ Ok x → Items used x.0
unfolding weighted_at
weighted-sound used known line x e =
    let s = step (literals_at used known line) (λ ls. weights_at ls.0 ls.1) x e in
    let l = literals-sound used known line s.value s.is in
    let w = weights-sound s.value.0 s.value.1 x l.sound s.goes in
    record { sound = w.sound; literals = w.literals; fits = omega (arith, w.counted, l.fits) }

weights_1 : (ls : List ℤ) → list_all is_literal ls ≡ true → Weighted (length ls) (with_weight_1 ls)
weights_1 [] all = weighted_none
weights_1 (l ∷ ls) all =
    let p = and_parts (is_literal l) (list_all is_literal ls) all in
    weighted_more (length ls) l (pos 1) (with_weight_1 ls) (with_weight_1 (l ∷ ls)) p.0 refl (weights_1 ls p.1) refl

-- ---- rules

abbrev rule : Head → Body → Rule
rule head body = record { head = head; body = body }

abbrev minimize : ℤ → List (ℤ × ℤ) → Minimize
minimize priority items = record { priority = priority; items = items }

normal_is : (used a : ℕ) (ls : List ℤ) (y : Rule) → rule (One a) (All ls) ≡ y → is_atom a ≡ true → Listed is_literal (used + 1) ls → Part is_sound_rule rule_size used y
normal_is used a ls y e atom l = part is_sound_rule rule_size used (rule (One a) (All ls)) y e (and_from (is_atom a) (list_all is_literal ls) atom l.sound) (omega (arith, l.fits))

weight_is_sound : (used a : ℕ) (bound : ℤ) (items : List (ℤ × ℤ)) (y : Rule) → rule (One a) (AtLeast bound items) ≡ y → is_atom a ≡ true →
    list_all is_weighted items ≡ true → used + 1 + length items ≤ most_counted → Part is_sound_rule rule_size used y
weight_is_sound used a bound items y e atom sound fits =
    part is_sound_rule rule_size used (rule (One a) (AtLeast bound items)) y e (and_from (is_atom a) (list_all is_weighted items) atom sound)
    (omega (arith, fits))

basic-sound : (used : ℕ) (known : Atoms) (line : List ℕ) (x : Rule × List ℕ) → basic_at used known line ≡ Ok x → Part is_sound_rule rule_size used x.0
unfolding basic_at
basic-sound used known line x e =
    let s = step (one_more_at used known line) (λ a. literals_at (used + 1) (with_atom a.0 known) a.1 >>= λ ls. ok (rule (One a.0) (All ls.0), ls.1)) x e in
    let t = step (literals_at (used + 1) (with_atom s.value.0 known) s.value.1) (λ ls. ok (rule (One s.value.0) (All ls.0), ls.1)) x s.goes in
    normal_is used s.value.0 t.value.0 x.0 (first_is (rule (One s.value.0) (All t.value.0)) t.value.1 x t.goes) (one_more-sound used known line s.value s.is).sound
    (literals-sound (used + 1) (with_atom s.value.0 known) s.value.1 t.value t.is)

cardinality-sound : (used : ℕ) (known : Atoms) (line : List ℕ) (x : Rule × List ℕ) → cardinality_at used known line ≡ Ok x → Part is_sound_rule rule_size used x.0
unfolding cardinality_at
cardinality-sound used known line x e =
    let s = step (one_more_at used known line) (λ a. count_at (used + 1) a.1 >>= λ n. negated_at n.0 n.1 >>= λ k. weight_at k.1 >>= λ b. signed_at n.0
    k.0 (with_atom a.0 known) b.1 >>= λ ls. ok (rule (One a.0) (AtLeast b.0 (with_weight_1 ls.0)), ls.1)) x e in
    let a = s.value.0 in
    let t = step (count_at (used + 1) s.value.1)
    (λ n. negated_at n.0 n.1 >>= λ k. weight_at k.1 >>= λ b. signed_at n.0 k.0 (with_atom a known) b.1 >>= λ ls. ok
    (rule (One a) (AtLeast b.0 (with_weight_1 ls.0)), ls.1)) x s.goes in
    let n = t.value.0 in
    let u = step (negated_at n t.value.1) (λ k. weight_at k.1 >>= λ b. signed_at n k.0 (with_atom a known) b.1 >>= λ ls. ok (rule (One a) (AtLeast b.0 (with_weight_1 ls.0)), ls.1)) x t.goes in
    let k = u.value.0 in
    let v = step (weight_at u.value.1) (λ b. signed_at n k (with_atom a known) b.1 >>= λ ls. ok (rule (One a) (AtLeast b.0 (with_weight_1 ls.0)), ls.1)) x u.goes in
    let w = step (signed_at n k (with_atom a known) v.value.1) (λ ls. ok (rule (One a) (AtLeast v.value.0 (with_weight_1 ls.0)), ls.1)) x v.goes in
    let l = signed-sound n k (with_atom a known) v.value.1 w.value (negated-range n t.value.1 u.value u.is) w.is in
    let i = weights_1 w.value.0 l.sound in
    weight_is_sound used a v.value.0 (with_weight_1 w.value.0) x.0
    (first_is (rule (One a) (AtLeast v.value.0 (with_weight_1 w.value.0))) w.value.1 x w.goes) (one_more-sound used known line s.value s.is).sound
    i.sound
    (omega (arith, i.counted, l.counted, count_is (used + 1) s.value.1 t.value t.is))

choice-sound : (used : ℕ) (known : Atoms) (line : List ℕ) (x : Rule × List ℕ) → choice_at used known line ≡ Ok x → Part is_sound_rule rule_size used x.0
unfolding choice_at
choice-sound used known line x e =
    let s = step (heads_at used line) (λ m. many_at (λ a. a) atom_at m.0 known m.1 >>= λ hs. literals_at (used + m.0) (with_atoms known hs.0) hs.1 >>=
    λ ls. ok (rule (Choice hs.0) (All ls.0), ls.1)) x e in
    let m = s.value.0 in
    let t = step (many_at (λ a. a) atom_at m known s.value.1) (λ hs. literals_at (used + m) (with_atoms known hs.0) hs.1 >>= λ ls. ok (rule (Choice hs.0) (All ls.0), ls.1)) x s.goes in
    let u = step (literals_at (used + m) (with_atoms known t.value.0) t.value.1) (λ ls. ok (rule (Choice t.value.0) (All ls.0), ls.1)) x t.goes in
    let h = many_are is_atom (λ a. a) atom_at atom-sound m known s.value.1 t.value t.is in
    let l = literals-sound (used + m) (with_atoms known t.value.0) t.value.1 u.value u.is in
    part is_sound_rule rule_size used (rule (Choice t.value.0) (All u.value.0)) x.0 (first_is (rule (Choice t.value.0) (All u.value.0)) u.value.1 x u.goes)
    (and_from (list_all is_atom t.value.0) (list_all is_literal u.value.0) h.sound l.sound) (omega (arith, h.counted, l.fits))

weight_rule-sound : (used : ℕ) (known : Atoms) (line : List ℕ) (x : Rule × List ℕ) → weight_rule_at used known line ≡ Ok x → Part is_sound_rule rule_size used x.0
unfolding weight_rule_at
weight_rule-sound used known line x e =
    let s = step (one_more_at used known line) (λ a. weight_at a.1 >>= λ b. weighted_at (used + 1) (with_atom a.0 known) b.1 >>= λ is. ok (rule (One a.0) (AtLeast b.0 is.0), is.1)) x e in
    let a = s.value.0 in
    let t = step (weight_at s.value.1) (λ b. weighted_at (used + 1) (with_atom a known) b.1 >>= λ is. ok (rule (One a) (AtLeast b.0 is.0), is.1)) x s.goes in
    let u = step (weighted_at (used + 1) (with_atom a known) t.value.1) (λ is. ok (rule (One a) (AtLeast t.value.0 is.0), is.1)) x t.goes in
    let i = weighted-sound (used + 1) (with_atom a known) t.value.1 u.value u.is in
    weight_is_sound used a t.value.0 u.value.0 x.0 (first_is (rule (One a) (AtLeast t.value.0 u.value.0)) u.value.1 x u.goes) (one_more-sound used known line s.value s.is).sound i.sound i.fits

minimize-sound : (number used : ℕ) (known : Atoms) (line : List ℕ) (x : Minimize × List ℕ) → minimize_at number used known line ≡ Ok x → Part is_sound_minimize (λ m. length m.items) used x.0
unfolding minimize_at
minimize-sound number used known line x e =
    let s = step (natural_at 0 0 line) (λ z. weighted_at used known z.1 >>= λ is. ok (minimize (pos number) is.0, is.1)) x e in
    let t = step (weighted_at used known s.value.1) (λ is. ok (minimize (pos number) is.0, is.1)) x s.goes in
    let i = weighted-sound used known s.value.1 t.value t.is in
    part is_sound_minimize (λ m. length m.items) used (minimize (pos number) t.value.0) x.0 (first_is (minimize (pos number) t.value.0) t.value.1 x t.goes) i.literals i.fits

-- ---- lines

abbrev IsFit : ℕ → Statement → Type 0
IsFit used s = Part is_sound_statement statement_size used s

module _ (t number used : ℕ) (known : Atoms) (line rest : List ℕ) where
  abbrev no_rule : Result Statement FaultAt
  no_rule = Err (broken (fault.RuleType (Value (pos t))) line)

  abbrev from8 : Result Statement FaultAt
  from8 = if t == 8 then Err (broken fault.Disjunction line) else no_rule

  abbrev minimized : Result Statement FaultAt
  minimized = minimize_at number used known rest >>= alone >>= λ m. ok (say.Minimize m)

  abbrev from6 : Result Statement FaultAt
  from6 = if t == 6 then (if nat_le 1000 number then Err (broken fault.Priorities line) else minimized) else from8

  abbrev from5 : Result Statement FaultAt
  from5 = if t == 5 then (weight_rule_at used known rest >>= alone >>= λ r. ok (say.Rule r)) else from6

  abbrev from3 : Result Statement FaultAt
  from3 = if t == 3 then (choice_at used known rest >>= alone >>= λ r. ok (say.Rule r)) else from5

  abbrev from2 : Result Statement FaultAt
  from2 = if t == 2 then (cardinality_at used known rest >>= alone >>= λ r. ok (say.Rule r)) else from3

  abbrev from1 : Result Statement FaultAt
  from1 = if t == 1 then (basic_at used known rest >>= alone >>= λ r. ok (say.Rule r)) else from2

  none_of : (b : Bool) (f g : FaultAt) (s : Statement) → (if b then Err f else Err g) ≡ ok s → IsFit used s
  none_of true f g s e = absurd cc
  none_of false f g s e = absurd cc

  later_sound : (s : Statement) → from3 ≡ Ok s → IsFit used s
  later_sound s e3 =
      choose (IsFit used s) (t == 3) (choice_at used known rest >>= alone >>= λ r. ok (say.Rule r)) from5 s e3
      (stated is_sound_rule rule_size say.Rule used (choice_at used known rest) s (choice-sound used known rest) (λ x. refl) (λ x. refl))
      (λ e5. choose (IsFit used s) (t == 5) (weight_rule_at used known rest >>= alone >>= λ r. ok (say.Rule r)) from6 s e5
      (stated is_sound_rule rule_size say.Rule used (weight_rule_at used known rest) s (weight_rule-sound used known rest) (λ x. refl) (λ x. refl))
      (λ e6. choose (IsFit used s) (t == 6) (if nat_le 1000 number then Err (broken fault.Priorities line) else minimized) from8 s e6
      (λ m. stated is_sound_minimize (λ m. length m.items) say.Minimize used (minimize_at number used known rest) s
      (minimize-sound number used known rest) (λ x. refl) (λ x. refl) (unless (nat_le 1000 number) _ minimized s m).1)
      (none_of (t == 8) _ _ s)))

  of_type-sound : (s : Statement) → used ≤ most_counted → of_type t number used known line rest ≡ Ok s → IsFit used s
  unfolding of_type
  of_type-sound s room e0 =
      choose (IsFit used s) (t == 0) (alone (say.End, rest)) from1 s e0 (end_is used rest s room)
      (λ e1. choose (IsFit used s) (t == 1) (basic_at used known rest >>= alone >>= λ r. ok (say.Rule r)) from2 s e1
      (stated is_sound_rule rule_size say.Rule used (basic_at used known rest) s (basic-sound used known rest) (λ x. refl) (λ x. refl))
      (λ e2. choose (IsFit used s) (t == 2) (cardinality_at used known rest >>= alone >>= λ r. ok (say.Rule r)) from3 s e2
      (stated is_sound_rule rule_size say.Rule used (cardinality_at used known rest) s (cardinality-sound used known rest) (λ x. refl) (λ x. refl))
      (later_sound s)))

rule_line-sound : (number used : ℕ) (known : Atoms) (line : List ℕ) (s : Statement) → used ≤ most_counted → rule_line number used known line ≡ Ok s → IsFit used s
unfolding rule_line
rule_line-sound number used known line s room e =
    let t = step (type_at line) (λ t. of_type t.0 number used known line t.1) s e in
    of_type-sound t.value.0 number used known line t.value.1 s room t.goes

abbrev output : List ℕ → List ℤ → Output
output text condition = record { text = text; condition = condition }

one_literal : (l : ℤ) → is_literal l ≡ true → list_all is_literal (l ∷ []) ≡ true
one_literal l h = and_from (is_literal l) true h refl

symbol-sound : (used : ℕ) (known : Atoms) (line : List ℕ) (o : Output) → symbol_at used known line ≡ Ok o → Part is_sound_output (λ o. length o.condition) used o
unfolding symbol_at
symbol-sound used known line o e =
    let s = step (one_more_at used known line) (λ a. name_of a.1 >>= λ name. ok (output name (pos a.0 ∷ []))) o e in
    let t = step (name_of s.value.1) (λ name. ok (output name (pos s.value.0 ∷ []))) o s.goes in
    let a = one_more-sound used known line s.value s.is in
    part is_sound_output (λ o. length o.condition) used (output t.value (pos s.value.0 ∷ [])) o (ok_is (output t.value (pos s.value.0 ∷ [])) o t.goes)
    (one_literal (pos s.value.0) a.sound) (omega (arith, a.fits))

symbol_said : (used : ℕ) (known : Atoms) (line : List ℕ) (s : Statement) → (symbol_at used known line >>= λ o. ok (say.Output o)) ≡ Ok s → IsFit used s
symbol_said used known line s e =
    let t = step (symbol_at used known line) (λ o. ok (say.Output o)) s e in
    let p = symbol-sound used known line t.value t.is in
    part is_sound_statement statement_size used (say.Output t.value) s (ok_is (say.Output t.value) s t.goes) p.is_sound p.fits

symbol_line-sound : (used : ℕ) (known : Atoms) (line : List ℕ) (s : Statement) → used ≤ most_counted → symbol_line used known line ≡ Ok s → IsFit used s
unfolding symbol_line
symbol_line-sound used known line s room e =
    choose (IsFit used s) (is_end line) (alone (say.End, after_field line)) (symbol_at used known line >>= λ o. ok (say.Output o)) s e
    (end_is used (after_field line) s room) (symbol_said used known line s)

word_line-sound : (word : List ℕ) (used : ℕ) (line : List ℕ) (s : Statement) → used ≤ most_counted → word_line word line ≡ Ok s → IsFit used s
unfolding word_line
word_line-sound word used line s room e =
    choose (IsFit used s) (is_word (field_of line) word) (alone (say.End, after_field line)) (Err (broken fault.Section line)) s e (end_is used (after_field line) s room) (λ h. absurd cc)

-- an atom that stands alone on its line
atom_alone : (used : ℕ) (known : Atoms) (line : List ℕ) (a : ℕ) → (one_more_at used known line >>= alone) ≡ Ok a → One_more used a
atom_alone used known line a e =
    let s = step (one_more_at used known line) alone a e in
    let t = step (ended s.value.1) (λ _. ok s.value.0) a s.goes in
    rw (ok_is s.value.0 a t.goes) at (one_more-sound used known line s.value s.is)

assumed_said : (negated : Bool) (used : ℕ) (known : Atoms) (line : List ℕ) (s : Statement) →
    (one_more_at used known line >>= alone >>= λ a. ok (say.Assume (literal_of negated a ∷ []))) ≡ Ok s → IsFit used s
assumed_said negated used known line s e =
    let t = step (one_more_at used known line >>= alone) (λ a. ok (say.Assume (literal_of negated a ∷ []))) s e in
    let a = atom_alone used known line t.value t.is in
    part is_sound_statement statement_size used (say.Assume (literal_of negated t.value ∷ [])) s (ok_is (say.Assume (literal_of negated t.value ∷ [])) s t.goes)
    (one_literal (literal_of negated t.value) (literal_is negated t.value a.sound)) (omega (arith, a.fits))

assumed_line-sound : (negated : Bool) (used : ℕ) (known : Atoms) (line : List ℕ) (s : Statement) → used ≤ most_counted → assumed_line negated used known line ≡ Ok s → IsFit used s
unfolding assumed_line
assumed_line-sound negated used known line s room e =
    choose (IsFit used s) (is_end line) (alone (say.End, after_field line)) (one_more_at used known line >>= alone >>= λ a. ok (say.Assume (literal_of negated a ∷ []))) s e
    (end_is used (after_field line) s room) (assumed_said negated used known line s)

number_line-sound : (used : ℕ) (line : List ℕ) (s : Statement) → used ≤ most_counted → number_line line ≡ Ok s → IsFit used s
unfolding number_line
number_line-sound used line s room e =
    let u = unless (is_word (field_of line) (codes "E")) _ (natural_at 0 most line >>= alone >>= λ _. ok say.End) s e in
    let t = step (natural_at 0 most line >>= alone) (λ _. ok say.End) s u.1 in
    part is_sound_statement statement_size used say.End s (ok_is say.End s t.goes) refl (omega (arith, room))

line-sound : (stage : Stage) (number used : ℕ) (known : Atoms) (line : List ℕ) (s : Statement) → used ≤ most_counted → line_of stage number used known line ≡ Ok s → IsFit used s
line-sound Rules number used known line s room e = rule_line-sound number used known line s room e
line-sound Symbols number used known line s room e = symbol_line-sound used known line s room e
line-sound PlusWord number used known line s room e = word_line-sound (codes "B+") used line s room e
line-sound Plus number used known line s room e = assumed_line-sound false used known line s room e
line-sound MinusWord number used known line s room e = word_line-sound (codes "B-") used line s room e
line-sound Minus number used known line s room e = assumed_line-sound true used known line s room e
line-sound Number number used known line s room e = number_line-sound used line s room e
line-sound Ended number used known line s room e = absurd cc

-- ---- texts

abbrev seen_as : Stage → Program → Atoms → Seen
seen_as stage program known = record { stage = stage; program = program; known = known }

filled-sound : (seen : Seen) (line : List ℕ) (next : Seen) (n : ℕ) → AreSound seen.program n
    → (line_of seen.stage (length seen.program.minimize) (program_size seen.program) seen.known line >>= λ s. ok
    (seen_as (stage_after seen.stage s) (adds seen.program s) (with_atoms seen.known (statement_atoms s)))) ≡ Ok next →
    AreSound next.program (suc n)
filled-sound seen line next n h e =
    let t = step (line_of seen.stage (length seen.program.minimize) (program_size seen.program) seen.known line)
    (λ s. ok (seen_as (stage_after seen.stage s) (adds seen.program s) (with_atoms seen.known (statement_atoms s)))) next e in
    let k = line-sound seen.stage (length seen.program.minimize) (program_size seen.program) seen.known line t.value h.size t.is in
    let is : adds seen.program t.value ≡ next.program =
    ap (λ (s : Seen). s.program)
    (ok_is (seen_as (stage_after seen.stage t.value) (adds seen.program t.value) (with_atoms seen.known (statement_atoms t.value))) next t.goes)
    in
    rw is at (adds-sound seen.program t.value n h k)

judge-sound : (seen : Seen) (line : List ℕ) (next : Seen) (n : ℕ) → AreSound seen.program n → judge_line seen line ≡ Ok next → AreSound next.program (suc n)
judge-sound seen line next n h e =
    choose (AreSound next.program (suc n)) (length (unblank line) == 0) (ok seen)
    (line_of seen.stage (length seen.program.minimize) (program_size seen.program) seen.known line >>= λ s. ok
    (seen_as (stage_after seen.stage s) (adds seen.program s) (with_atoms seen.known (statement_atoms s)))) next e
    (λ k. more_lines seen.program next.program n (ap (λ (s : Seen). s.program) (ok_is seen next k)) h)
    (filled-sound seen line next n h)

abbrev read : Program → Result Program ReadError
read p = Ok p

end_program : (number : ℕ) (stage : Stage) (q p : Program) → at_end number stage q ≡ read p → q ≡ p
end_program number Rules q p e = absurd cc
end_program number Symbols q p e = absurd cc
end_program number PlusWord q p e = absurd cc
end_program number Plus q p e = absurd cc
end_program number MinusWord q p e = absurd cc
end_program number Minus q p e = absurd cc
end_program number Number q p e = absurd cc
end_program number Ended q p e = cc

-- the program of an accepted text is sound
pub outcome-sound : (text : List ℕ) (p : Program) → smodels_outcome text ≡ Ok p → IsSound p
outcome-sound = outcome_by-sound smodels (λ seen. seen.program) refl judge-sound (λ number seen p e. end_program number seen.stage seen.program p e)
