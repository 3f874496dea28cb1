-- A proof that is refused isn't right.
use Rattle.std.proofs.Common.{◌≡◌, ℕ, zero, suc, ◌<◌, ◌≤◌, Bool, true, false, ◌&&◌, List, [], ◌∷◌, length, take, get_or, refl, sym, ap, ◌∙◌, subst, arith}
use Rattle.std.specs.Prelude.{AllPairs, Contains, IsTrue}
use Rattle.std.specs.List.{list_all, AllByRecursion}
use Rattle.std.proofs.Common.{inl, inr}
use Rattle.std.proofs.lemmas.Bool.{false≢true}
use Rattle.std.proofs.lemmas.List.{get_or-take, get_or_default, length-take-le}
use Rattle.std.proofs.lemmas.List.Elements.{recursion_from_All, All-from_recursion}
use Rattle.asp_model.specs.declared.program.Program.{Program}
use Rattle.asp_model.specs.Sets.{Atoms, has, IsBefore}
use Rattle.asp_model.specs.Models.{atoms_of, answers}
use Rattle.asp_model.specs.Costs.{cost}
use Rattle.asp_model.proofs.MemberLaws.{each_weaker, HasAll-itself}
use Rattle.asp_model.proofs.ModelLaws.{answers-are, stable-subset}
use Rattle.asp_proof.specs.declared.proof.Line.{Line}
use Rattle.asp_proof.specs.declared.proof.Line.TheVariants as line
use Rattle.asp_proof.specs.declared.proof.Proof.{Proof}
use Rattle.asp_proof.specs.declared.proof.Sought.{Sought}
use Rattle.asp_proof.specs.declared.proof.Sought.TheVariants.{All, Best, Optima}
use Rattle.asp_checker.specs.declared.judge.Why.{Why}
use Rattle.asp_checker.specs.declared.judge.Why.TheVariants as why
use Rattle.asp_checker.specs.Lines.{IsConfirmed, AreConfirmed, CostsAlike, Gathered, first_gathered, known_of, with_line, gathered_after}
use Rattle.asp_checker.specs.Right.{is_best, AreAlike, IsRight}
use Rattle.asp_checker.specs.Judging.{IsInOrder, HasAnswerFault, IsWrongAnswer, HasLiterals, IsNoLoop, IsNotImplied, IsNotCheaper, IsNotAlike, HasLineFault, IsWrongLine, HasLastFault, IsRefused, no_line}

-- ---- answers
and_true : (a b : Bool) → a ≡ true → b ≡ true → (a && b) ≡ true
and_true true b e f = f
and_true false b e f = e

all_pass : (q : ℕ → Bool) (xs : List ℕ) → AllByRecursion (λ a. q a ≡ true) xs → list_all q xs ≡ true
all_pass q [] h = refl
all_pass q (x ∷ xs) h = and_true (q x) (list_all q xs) h.0 (all_pass q xs h.1)

-- an answer has atoms of the program alone
answer_stands : (p : Program) (S : Atoms) → Contains (answers p) S → list_all (has (atoms_of p)) S ≡ true
answer_stands p S h =
    let within = stable-subset p S ((answers-are p S).0 h).0 in
    all_pass (has (atoms_of p)) S (each_weaker (λ a. has S a ≡ true) (λ a. has (atoms_of p) a ≡ true) (λ a e. within.1 a e) S (HasAll-itself S))

in_order : (opt : Bool) (listed : List Atoms) (i : ℕ) → i < length listed → AllPairs IsBefore listed → (IsTrue opt → length listed ≤ 1) → IsInOrder opt (take i listed) (get_or listed i [])
in_order opt listed i lt pairs few = record {
  later = recursion_from_All (λ T. IsBefore T (get_or listed i [])) (take i listed) (λ k d less.
      let below : k < i = let n = length-take-le i listed (omega arith) in omega (arith, n, less) in
      subst (λ T. IsBefore T (get_or listed i [])) (sym (get_or-take i listed k d below)) (subst (IsBefore (get_or listed k d)) (get_or_default listed i d [] lt) (pairs k i d below lt)));
  single = λ o. let one = few o in let none : i ≡ 0 = omega arith in ap (λ j. take j listed) none;
}

alike_at : (p : Program) (s : Sought) (listed : List Atoms) (i : ℕ) → i < length listed → AreAlike p s listed → CostsAlike p s (take i listed) (get_or listed i [])
alike_at p All listed i lt h = tt
alike_at p Best listed i lt h = tt
alike_at p Optima [] i lt h = absurd (omega arith)
alike_at p Optima (T ∷ listed) zero lt h = tt
alike_at p Optima (T ∷ listed) (suc i) lt h = All-from_recursion (λ S. cost p S ≡ cost p T) listed h i [] (omega arith)

answer_fault : (p : Program) (s : Sought) (listed : List Atoms) (w : Why) (i : ℕ) → i < length listed →
    IsInOrder (is_best s) (take i listed) (get_or listed i []) → Contains (answers p) (get_or listed i []) →
    CostsAlike p s (take i listed) (get_or listed i []) → HasAnswerFault p s (take i listed) (get_or listed i []) w → ⊥
answer_fault p s listed why.Order i lt order member alike h = h order
answer_fault p s listed why.Literal i lt order member alike h = false≢true (sym h.1 ∙ answer_stands p (get_or listed i []) member)
answer_fault p s listed why.Member i lt order member alike h = h.2 member
answer_fault p s listed why.Cost i lt order member alike h = h.2 alike
answer_fault p s listed why.Loop i lt order member alike h = h
answer_fault p s listed why.NotImplied i lt order member alike h = h
answer_fault p s listed why.NotWhole i lt order member alike h = h
answer_fault p s listed why.NotListed i lt order member alike h = h

wrong_answer_no : (p : Program) (proof : Proof) (w : Why) (i : ℕ) → IsRight p proof → IsWrongAnswer p proof.sought proof.answers w i → ⊥
wrong_answer_no p proof w i right wrong =
    answer_fault p proof.sought proof.answers w i wrong.within (in_order (is_best proof.sought) proof.answers i wrong.within right.order right.single)
    (All-from_recursion (Contains (answers p)) proof.answers right.members i [] wrong.within) (alike_at p proof.sought proof.answers i wrong.within right.alike) wrong.fault

-- ---- lines
confirmed_at : (p : Program) (o : Sought) (g : Gathered) (lines : List Line) (i : ℕ) → i < length lines → AreConfirmed p o g lines →
    IsConfirmed p o (gathered_after g (take i lines)) (get_or lines i no_line)
confirmed_at p o g [] i lt h = absurd (omega arith)
confirmed_at p o g (l ∷ lines) zero lt h = h.0
confirmed_at p o g (l ∷ lines) (suc i) lt h = confirmed_at p o (with_line g l) lines i (omega arith) h.1

literals_of_confirmed : (p : Program) (o : Sought) (g : Gathered) (l : Line) → IsConfirmed p o g l → HasLiterals p g l
literals_of_confirmed p o g (line.Loop place set n) h = let loop = h.1 in (loop.among, h.0)
literals_of_confirmed p o g (line.Learned place n names) h = h.0
literals_of_confirmed p o g (line.Cube n) h = h.0
literals_of_confirmed p o g (line.Found change) h = h.atoms

no_loop : (p : Program) (o : Sought) (g : Gathered) (l : Line) → IsConfirmed p o g l → IsNoLoop p l → ⊥
no_loop p o g (line.Loop place set n) c h = h c.1
no_loop p o g (line.Learned place n names) c h = h
no_loop p o g (line.Cube n) c h = h
no_loop p o g (line.Found change) c h = h

not_implied : (p : Program) (o : Sought) (g : Gathered) (l : Line) → IsConfirmed p o g l → IsNotImplied p (known_of p o g) l → ⊥
not_implied p o g (line.Loop place set n) c h = h
not_implied p o g (line.Learned place n names) c h = h c.1
not_implied p o g (line.Cube n) c h = h c.1
not_implied p o g (line.Found change) c h = h

not_cheaper : (p : Program) (o : Sought) (g : Gathered) (l : Line) → IsConfirmed p o g l → IsNotCheaper p o g l → ⊥
not_cheaper p o g (line.Loop place set n) c h = h
not_cheaper p o g (line.Learned place n names) c h = h
not_cheaper p o g (line.Cube n) c h = h
not_cheaper p o g (line.Found change) c h = h c.cheaper

not_alike : (p : Program) (o : Sought) (g : Gathered) (l : Line) → IsConfirmed p o g l → IsNotAlike p o g l → ⊥
not_alike p o g (line.Loop place set n) c h = h
not_alike p o g (line.Learned place n names) c h = h
not_alike p o g (line.Cube n) c h = h
not_alike p o g (line.Found change) c h = h c.alike

line_fault : (p : Program) (o : Sought) (g : Gathered) (l : Line) (w : Why) → IsConfirmed p o g l → HasLineFault p o g l w → ⊥
line_fault p o g l why.Literal c h = h (literals_of_confirmed p o g l c)
line_fault p o g l why.Loop c h = no_loop p o g l c h.1
line_fault p o g l why.NotImplied c h = not_implied p o g l c h.1
line_fault p o g l why.Order c h = not_cheaper p o g l c h.1
line_fault p o g l why.Cost c h = not_alike p o g l c h.1
line_fault p o g l why.Member c h = h
line_fault p o g l why.NotWhole c h = h
line_fault p o g l why.NotListed c h = h

wrong_line_no : (p : Program) (o : Sought) (lines : List Line) (w : Why) (i : ℕ) → AreConfirmed p o (first_gathered p) lines → IsWrongLine p o lines w i → ⊥
wrong_line_no p o lines w i c wrong =
    line_fault p o (gathered_after (first_gathered p) (take i lines)) (get_or lines i no_line) w (confirmed_at p o (first_gathered p) lines i wrong.within c) wrong.fault

-- ---- the whole
last_fault_no : (p : Program) (proof : Proof) (w : Why) → IsRight p proof → proof.part ≡ false → HasLastFault p proof w → ⊥
last_fault_no p proof why.NotWhole right e h = false≢true (sym h ∙ right.whole e)
last_fault_no p proof why.NotListed right e h = h.1 (right.kept e)
last_fault_no p proof why.Member right e h = h
last_fault_no p proof why.Order right e h = h
last_fault_no p proof why.Literal right e h = h
last_fault_no p proof why.Loop right e h = h
last_fault_no p proof why.NotImplied right e h = h
last_fault_no p proof why.Cost right e h = h

pub refused-not_right : (p : Program) (proof : Proof) (w : Why) (n : ℕ) → IsRight p proof → IsRefused p proof w n → ⊥
refused-not_right p proof w n right refused = elim refused [
  | inl l ↦ let b = l.wrong in wrong_line_no p proof.sought proof.lines w l.place right.lines b
  | inr o ↦ elim o [
    | inl a ↦ let b = a.wrong in wrong_answer_no p proof w a.place right b
    | inr h ↦ let claims = h.0 in last_fault_no p proof w right claims.ends h.1
  ]
]
