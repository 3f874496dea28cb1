-- No two proofs have one text.
use Rattle.std.proofs.Common.{◌≡◌, ℕ, ◌<◌, Bool, true, false, List, [], ◌∷◌, ◌++◌, length, codes, refl, sym, ap, ◌∙◌, arith, append_assoc, append-nil}
use Rattle.std.specs.Prelude.{ℤ}
use Rattle.std.specs.List.{AllByRecursion}
use Rattle.asp_model.specs.Sets.{Atoms}
use Rattle.asp_proof.specs.declared.proof.Line.{Line}
use Rattle.asp_proof.specs.declared.proof.Line.TheVariants as kind
use Rattle.asp_proof.specs.declared.proof.Proof.{Proof}
use Rattle.asp_proof.specs.declared.proof.Sought.{Sought}
use Rattle.asp_proof.specs.Texts.{atoms_fields, literals_fields, loop_fields, learned_fields, answer_text, line_text, mode_line, last_word, text_of, line, lines}
use Rattle.asp_proof.specs.Grammar.{IsSet, IsNogood, IsLoop, IsLearned, IsLine, IsProof, IsFirstFault}
use Rattle.asp_proof.specs.Changes.{changes_of}
use Rattle.asp_proof.specs.Walk.{proof_of, ended, front_of, IsStart}
use Rattle.asp_proof.proofs.ChangeLaws.{no_atoms, changes_sets, same_answers, begin_with}
use Rattle.asp_proof.proofs.FieldLaws.{IsClear, clear_set, clear_nogood, clear_loop, clear_learned}
use Rattle.asp_proof.proofs.LineLaws.{first_bytes}
use Rattle.asp_proof.proofs.WalkLaws.{first_line, front_first, regroup, parts_of, behind_head, behind_mode, same_mode, unbroken_answer, unbroken_line, last_unbroken, answer_or_line, answer_or_last, line_or_last}

behind : (b : ℕ) (xs ys : List ℕ) → b ∷ xs ≡ b ∷ ys → xs ≡ ys
behind b xs ys e = cc

one_alone : {A : Type 0} (P : A → Type 0) (text : A → List ℕ) (x y : A) → IsClear P text → P x → P y → text x ≡ text y → x ≡ y
one_alone P text x y c p q e = (c.one x y [] [] p q tt tt (append-nil (text x) ∙ e ∙ sym (append-nil (text y)))).0

one_answer : (S R : Atoms) → IsSet S → IsSet R → answer_text S ≡ answer_text R → S ≡ R
one_answer S R p q e = one_alone IsSet atoms_fields S R clear_set p q (behind 97 (atoms_fields S) (atoms_fields R) e)

one_line : (l m : Line) → IsLine l → IsLine m → line_text l ≡ line_text m → l ≡ m
one_line (kind.Loop i S n) (kind.Loop j R m) p q e =
    ap (λ (z : ℕ × (Atoms × List ℤ)). kind.Loop z.0 z.1.0 z.1.1)
    (one_alone IsLoop loop_fields (i, (S, n)) (j, (R, m)) clear_loop p q (behind 111 (loop_fields (i, (S, n))) (loop_fields (j, (R, m))) e))
one_line (kind.Loop i S n) (kind.Learned j m y) p q e = absurd (omega (arith, first_bytes 111 108 (loop_fields (i, (S, n))) (learned_fields (j, (m, y))) e))
one_line (kind.Loop i S n) (kind.Cube m) p q e = absurd (omega (arith, first_bytes 111 99 (loop_fields (i, (S, n))) (literals_fields m) e))
one_line (kind.Learned i n x) (kind.Loop j R m) p q e = absurd (omega (arith, first_bytes 108 111 (learned_fields (i, (n, x))) (loop_fields (j, (R, m))) e))
one_line (kind.Learned i n x) (kind.Learned j m y) p q e =
    ap (λ (z : ℕ × (List ℤ × List ℕ)). kind.Learned z.0 z.1.0 z.1.1)
    (one_alone IsLearned learned_fields (i, (n, x)) (j, (m, y)) clear_learned p q
    (behind 108 (learned_fields (i, (n, x))) (learned_fields (j, (m, y))) e))
one_line (kind.Learned i n x) (kind.Cube m) p q e = absurd (omega (arith, first_bytes 108 99 (learned_fields (i, (n, x))) (literals_fields m) e))
one_line (kind.Loop i S n) (kind.Found C) p q e = absurd (omega (arith, first_bytes 111 102 (loop_fields (i, (S, n))) (atoms_fields C) e))
one_line (kind.Learned i n x) (kind.Found C) p q e = absurd (omega (arith, first_bytes 108 102 (learned_fields (i, (n, x))) (atoms_fields C) e))
one_line (kind.Cube n) (kind.Found C) p q e = absurd (omega (arith, first_bytes 99 102 (literals_fields n) (atoms_fields C) e))
one_line (kind.Found B) (kind.Loop j R m) p q e = absurd (omega (arith, first_bytes 102 111 (atoms_fields B) (loop_fields (j, (R, m))) e))
one_line (kind.Found B) (kind.Learned j m y) p q e = absurd (omega (arith, first_bytes 102 108 (atoms_fields B) (learned_fields (j, (m, y))) e))
one_line (kind.Found B) (kind.Cube m) p q e = absurd (omega (arith, first_bytes 102 99 (atoms_fields B) (literals_fields m) e))
one_line (kind.Found B) (kind.Found C) p q e = ap (λ (x : Atoms). kind.Found x) (one_alone IsSet atoms_fields B C clear_set p q (behind 102 (atoms_fields B) (atoms_fields C) e))
one_line (kind.Cube n) (kind.Loop j R m) p q e = absurd (omega (arith, first_bytes 99 111 (literals_fields n) (loop_fields (j, (R, m))) e))
one_line (kind.Cube n) (kind.Learned j m y) p q e = absurd (omega (arith, first_bytes 99 108 (literals_fields n) (learned_fields (j, (m, y))) e))
one_line (kind.Cube n) (kind.Cube m) p q e = ap (λ (x : List ℤ). kind.Cube x) (one_alone IsNogood literals_fields n m clear_nogood p q (behind 99 (literals_fields n) (literals_fields m) e))

-- the first line of what stands behind
same_first : (x y more less tail rest : List ℕ) → AllByRecursion (λ b. b ≡ 10 → ⊥) x → AllByRecursion (λ b. b ≡ 10 → ⊥) y →
    ((x ++ 10 ∷ []) ++ more) ++ tail ≡ ((y ++ 10 ∷ []) ++ less) ++ rest → (x ≡ y) × (more ++ tail ≡ less ++ rest)
same_first x y more less tail rest u v e = first_line x y (more ++ tail) (less ++ rest) u v (sym (front_first x more tail) ∙ e ∙ front_first y less rest)

first_and_last : (x more tail : List ℕ) (z : Bool) → AllByRecursion (λ b. b ≡ 10 → ⊥) x → ((x ++ 10 ∷ []) ++ more) ++ tail ≡ line (last_word z) → x ≡ last_word z
first_and_last x more tail z u e = (first_line x (last_word z) (more ++ tail) [] u (last_unbroken z) (sym (front_first x more tail) ∙ e)).0

-- a last line, and what follows it
last_first : (w : Bool) (after : List ℕ) → line (last_word w) ++ after ≡ last_word w ++ 10 ∷ after
last_first w after = append_assoc (last_word w) (10 ∷ []) after

one_word : (w z : Bool) → last_word w ≡ last_word z → w ≡ z
one_word true true e = refl
one_word false false e = refl
one_word true false e = absurd (omega (arith, first_bytes 112 48 [] [] e))
one_word false true e = absurd (omega (arith, first_bytes 48 112 [] [] e))

record AreListed (Ss Rs : List Atoms) (w z : Bool) : Type 0 where
  pub answers : Ss ≡ Rs
  pub last : w ≡ z

-- the last line comes after the same answers
one_list : (Ss Rs : List Atoms) (w z : Bool) (after : List ℕ) → AllByRecursion IsSet Ss → AllByRecursion IsSet Rs →
    lines answer_text Ss ++ (line (last_word w) ++ after) ≡ lines answer_text Rs ++ line (last_word z) → AreListed Ss Rs w z
one_list [] [] w z after p q e = record {
  answers = refl;
  last = one_word w z (first_line (last_word w) (last_word z) after [] (last_unbroken w) (last_unbroken z) (sym (last_first w after) ∙ e)).0;
}
one_list [] (R ∷ Rs) w z after p q e =
    absurd (answer_or_last R w (sym (first_line (last_word w) (answer_text R) after (lines answer_text Rs ++ line (last_word z)) (last_unbroken w) (unbroken_answer R q.0)
    (sym (last_first w after) ∙ e ∙ front_first (answer_text R) (lines answer_text Rs) (line (last_word z)))).0))
one_list (S ∷ Ss) [] w z after p q e = absurd (answer_or_last S z (first_and_last (answer_text S) (lines answer_text Ss) (line (last_word w) ++ after) z (unbroken_answer S p.0) e))
one_list (S ∷ Ss) (R ∷ Rs) w z after p q e =
    let h = same_first (answer_text S) (answer_text R) (lines answer_text Ss) (lines answer_text Rs) (line (last_word w) ++ after) (line (last_word z))
    (unbroken_answer S p.0) (unbroken_answer R q.0) e in
    let one = one_answer S R p.0 q.0 h.0 in
    let more = one_list Ss Rs w z after p.1 q.1 h.1 in
    let rest = more.answers in
    record { answers = cc; last = more.last }

-- a line doesn't begin what answers and the last one make
line_among_answers : (l : Line) (more : List ℕ) (tail : List ℕ) (Rs : List Atoms) (z : Bool) → IsLine l → AllByRecursion IsSet Rs →
    ((line_text l ++ 10 ∷ []) ++ more) ++ tail ≡ lines answer_text Rs ++ line (last_word z) → ⊥
line_among_answers l more tail [] z p q e = line_or_last l z (first_and_last (line_text l) more tail z (unbroken_line l p) e)
line_among_answers l more tail (R ∷ Rs) z p q e =
    answer_or_line R l (sym (same_first (line_text l) (answer_text R) more (lines answer_text Rs) tail (line (last_word z)) (unbroken_line l p)
    (unbroken_answer R q.0) e).0)

record AreSame (ls ms : List Line) (Ss Rs : List Atoms) (w z : Bool) : Type 0 where
  pub entries : ls ≡ ms
  pub answers : Ss ≡ Rs
  pub last : w ≡ z

one_tail : (ls ms : List Line) (Ss Rs : List Atoms) (w z : Bool) (after : List ℕ) → AllByRecursion IsLine ls → AllByRecursion IsLine ms → AllByRecursion IsSet Ss → AllByRecursion IsSet Rs
    → lines line_text ls ++ (lines answer_text Ss ++ (line (last_word w) ++ after)) ≡ lines line_text ms ++ (lines answer_text Rs ++ line (last_word z)) → AreSame ls ms Ss Rs w z
one_tail [] [] Ss Rs w z after p q a b e = let h = one_list Ss Rs w z after a b e in record { entries = refl; answers = h.answers; last = h.last }
one_tail [] (m ∷ ms) [] Rs w z after p q a b e =
    absurd (line_or_last m w (sym (first_line (last_word w) (line_text m) after (lines line_text ms ++ (lines answer_text Rs ++ line (last_word z)))
    (last_unbroken w) (unbroken_line m q.0) (sym (last_first w after) ∙ e
    ∙ front_first (line_text m) (lines line_text ms) (lines answer_text Rs ++ line (last_word z)))).0))
one_tail [] (m ∷ ms) (S ∷ Ss) Rs w z after p q a b e =
    absurd (answer_or_line S m (same_first (answer_text S) (line_text m) (lines answer_text Ss) (lines line_text ms) (line (last_word w) ++ after)
    (lines answer_text Rs ++ line (last_word z)) (unbroken_answer S a.0) (unbroken_line m q.0) e).0)
one_tail (l ∷ ls) [] Ss Rs w z after p q a b e = absurd (line_among_answers l (lines line_text ls) (lines answer_text Ss ++ (line (last_word w) ++ after)) Rs z p.0 b e)
one_tail (l ∷ ls) (m ∷ ms) Ss Rs w z after p q a b e =
    let h = same_first (line_text l) (line_text m) (lines line_text ls) (lines line_text ms) (lines answer_text Ss ++ (line (last_word w) ++ after))
    (lines answer_text Rs ++ line (last_word z)) (unbroken_line l p.0) (unbroken_line m q.0) e in
    let more = one_tail ls ms Ss Rs w z after p.1 q.1 a b h.1 in
    record { entries = cc (one_line l m p.0 q.0 h.0, more.entries); answers = more.answers; last = more.last }

same_proof : (o r : Sought) (ls ms : List Line) (Ss Rs : List Atoms) (w z : Bool) → o ≡ r → AreSame ls ms Ss Rs w z → ended (proof_of o ls Ss) w ≡ ended (proof_of r ms Rs) z
same_proof o r ls ms Ss Rs w z e s = let a = s.answers in let b = s.entries in let d = s.last in cc

pub one_whole : (p q : Proof) (after : List ℕ) → IsProof p → IsProof q → front_of p ++ (line (last_word p.part) ++ after) ≡ text_of q → p ≡ q
one_whole p q after h k e =
    let behind_one = behind_head _ _
    (sym (regroup (codes "proof 3\n") (mode_line p.sought) (lines line_text p.lines) (lines answer_text (changes_of p.answers))
    (line (last_word p.part) ++ after)) ∙ e ∙ parts_of q) in
    let tail = one_tail p.lines q.lines (changes_of p.answers) (changes_of q.answers) p.part q.part after h.lines k.lines
    (changes_sets [] p.answers no_atoms h.answers) (changes_sets [] q.answers no_atoms k.answers) (behind_mode p.sought q.sought _ _ behind_one) in
    same_proof p.sought q.sought p.lines q.lines p.answers q.answers p.part q.part (same_mode p.sought q.sought _ _ behind_one)
    (record { entries = tail.entries; answers = same_answers [] p.answers q.answers h.answers k.answers tail.answers; last = tail.last })

pub one_proof : (p q : Proof) → IsProof p → IsProof q → text_of p ≡ text_of q → p ≡ q
one_proof p q h k e = one_whole p q [] h k (ap (λ (t : List ℕ). front_of p ++ t) (append-nil (line (last_word p.part))) ∙ e)

-- ---- what a proof's text begins with
starts_list : (Ss Rs : List Atoms) (z : Bool) (rest : List ℕ) → AllByRecursion IsSet Ss → AllByRecursion IsSet Rs →
    lines answer_text Ss ++ rest ≡ lines answer_text Rs ++ line (last_word z) → (more : List Atoms) × (Rs ≡ Ss ++ more)
starts_list [] Rs z rest p q e = (Rs, refl)
starts_list (S ∷ Ss) [] z rest p q e = absurd (answer_or_last S z (first_and_last (answer_text S) (lines answer_text Ss) rest z (unbroken_answer S p.0) e))
starts_list (S ∷ Ss) (R ∷ Rs) z rest p q e =
    let h = same_first (answer_text S) (answer_text R) (lines answer_text Ss) (lines answer_text Rs) rest (line (last_word z)) (unbroken_answer S p.0) (unbroken_answer R q.0) e in
    let more = starts_list Ss Rs z rest p.1 q.1 h.1 in
    (more.0, cc (one_answer S R p.0 q.0 h.0, more.1))

record IsStartOf (ls ms : List Line) (Ss Rs : List Atoms) : Type 0 where
  pub more_lines : List Line
  pub lines : ms ≡ ls ++ more_lines
  pub more_answers : List Atoms
  pub answers : Rs ≡ Ss ++ more_answers
  pub all_lines : 0 < length Ss → more_lines ≡ []

starts_tail : (ls ms : List Line) (Ss Rs : List Atoms) (z : Bool) (rest : List ℕ) → AllByRecursion IsLine ls → AllByRecursion IsLine ms → AllByRecursion IsSet Ss → AllByRecursion IsSet Rs
    → lines line_text ls ++ (lines answer_text Ss ++ rest) ≡ lines line_text ms ++ (lines answer_text Rs ++ line (last_word z)) → IsStartOf ls ms Ss Rs
starts_tail [] [] Ss Rs z rest p q a b e = let more = starts_list Ss Rs z rest a b e in record { more_lines = []; lines = refl; more_answers = more.0; answers = more.1; all_lines = λ lt. refl }
starts_tail [] (m ∷ ms) [] Rs z rest p q a b e = record { more_lines = m ∷ ms; lines = refl; more_answers = Rs; answers = refl; all_lines = λ lt. absurd (omega (arith, lt)) }
starts_tail [] (m ∷ ms) (S ∷ Ss) Rs z rest p q a b e =
    absurd (answer_or_line S m (same_first (answer_text S) (line_text m) (lines answer_text Ss) (lines line_text ms) rest
    (lines answer_text Rs ++ line (last_word z)) (unbroken_answer S a.0) (unbroken_line m q.0) e).0)
starts_tail (l ∷ ls) [] Ss Rs z rest p q a b e = absurd (line_among_answers l (lines line_text ls) (lines answer_text Ss ++ rest) Rs z p.0 b e)
starts_tail (l ∷ ls) (m ∷ ms) Ss Rs z rest p q a b e =
    let h = same_first (line_text l) (line_text m) (lines line_text ls) (lines line_text ms) (lines answer_text Ss ++ rest)
    (lines answer_text Rs ++ line (last_word z)) (unbroken_line l p.0) (unbroken_line m q.0) e in
    let more = starts_tail ls ms Ss Rs z rest p.1 q.1 a b h.1 in
    record { more_lines = more.more_lines; lines = cc (one_line l m p.0 q.0 h.0, more.lines); more_answers = more.more_answers; answers = more.answers; all_lines = more.all_lines }

-- sets whose changes begin with those of some sets, where there are any
some_changes : (Ss : List Atoms) → 0 < length Ss → 0 < length (changes_of Ss)
some_changes [] lt = absurd (omega (arith, lt))
some_changes (S ∷ Ss) lt = omega arith

pub start_of : (p q : Proof) (rest : List ℕ) → IsProof p → IsProof q → front_of q ++ rest ≡ text_of p → IsStart q p
start_of p q rest h k e =
    let behind_one = behind_head _ _ (sym (regroup (codes "proof 3\n") (mode_line q.sought) (lines line_text q.lines) (lines answer_text (changes_of q.answers)) rest) ∙ e ∙ parts_of p) in
    let more = starts_tail q.lines p.lines (changes_of q.answers) (changes_of p.answers) p.part rest k.lines h.lines (changes_sets [] q.answers no_atoms k.answers)
    (changes_sets [] p.answers no_atoms h.answers) (behind_mode q.sought p.sought _ _ behind_one) in
    let begun = begin_with [] q.answers p.answers more.more_answers k.answers h.answers more.answers in
    record {
      mode = same_mode q.sought p.sought _ _ behind_one;
      more_lines = more.more_lines;
      lines = more.lines;
      more_answers = begun.others;
      answers = begun.are;
      all_lines = λ lt. more.all_lines (some_changes q.answers lt);
    }

pub faultless : (p : Proof) → IsProof p → (number : ℕ) → IsFirstFault (text_of p) number → ⊥
faultless p h number f = f.whole (record { proof = p; is = h; same = refl })
