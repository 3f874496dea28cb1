-- Answers and lines that are judged one after another.
use Rattle.std.proofs.Common.{◌≡◌, ◌≢◌, ℕ, ◌+◌, ◌<◌, ◌≤◌, Bool, true, false, ◌||◌, List, [], ◌∷◌, ◌++◌, map, length, take, get_or, refl, sym, ap, ◌∙◌, subst, arith, Option, Some, None, inl, inr, Result, Ok, Err}
use Rattle.std.specs.Prelude.{AllPairs, Contains, ℤ, MatchOption, IfOk}
use Rattle.std.specs.List.{list_any, list_all}
use Rattle.std.specs.declared.cmp.Ordering.{Ordering}
use Rattle.std.specs.declared.cmp.Ordering.TheVariants.{Less}
use Rattle.std.proofs.lemmas.Bool.{false≢true, cases_order, cases_lt}
use Rattle.std.proofs.lemmas.List.{take_all, take_more, length_push, get_or_push, get_or_default, map-append}
use Rattle.std.proofs.lemmas.List.Folds.{list_any-append}
use Rattle.std.proofs.Math.Seq.{take-append_seam}
use Rattle.std.proofs.lemmas.List.Elements.{recursion_from_All, All-from_recursion}
use Rattle.std.proofs.lemmas.List.Quantifiers.{all_pairs_push}
use Rattle.asp_model.specs.declared.program.Program.{Program}
use Rattle.asp_model.specs.Sets.{Atoms, has, IsBefore, IsAscending, set_cmp}
use Rattle.asp_model.specs.Holding.{all_hold}
use Rattle.asp_model.specs.Models.{atoms_of, answers, is_stable}
use Rattle.asp_model.specs.Costs.{cost, betters}
use Rattle.asp_model.proofs.OrderLaws.{cmp_from_before}
use Rattle.asp_model.proofs.ModelLaws.{answers-are}
use Rattle.asp_model.proofs.MemberLaws.{each-append}
use Rattle.asp_vars.specs.Literals.{Literal}
use Rattle.asp_vars.specs.Completion.{completion}
use Rattle.asp_vars.specs.declared.nogood.Nogood.{Nogood}
use Rattle.asp_complete.specs.Listed.{pure}
use Rattle.asp_proof.specs.declared.proof.Line.{Line}
use Rattle.asp_proof.specs.declared.proof.Sought.{Sought}
use Rattle.asp_proof.specs.declared.proof.Sought.TheVariants.{All, Best, Optima}
use Rattle.asp_checker.specs.declared.judge.Why.{Why}
use Rattle.asp_checker.specs.declared.judge.Why.TheVariants as why
use Rattle.asp_checker.specs.Lines.{AreOf, AreConfirmed, IsConfirmed, IsCheaper, CostsAlike, literals_of, bound_by, Gathered, first_gathered, with_line, gathered_after}
use Rattle.asp_checker.specs.Right.{closes, AreAlike}
use Rattle.asp_proof.proofs.ChangeLaws.{last_at}
use Rattle.asp_checker.proofs.ExcuseLaws.{last_push}
use Rattle.asp_proof.specs.Texts.{line_text}
use Rattle.asp_proof.specs.Grammar.{IsLine}
use Rattle.asp_proof.specs.Fields.{IsWhole}
use Rattle.asp_checker.specs.declared.propagator.Propagator.{Propagator}
use Rattle.asp_checker.specs.declared.propagator.Read.{Read}
use Rattle.asp_checker.specs.declared.propagator.Read.TheVariants as read
use Rattle.asp_checker.specs.Judging.{IsLineTaken, IsLineRead, IsWrongAnswer, HasAnswerFault, IsWrongLine, HasLineFault, IsInOrder, AreRightAnswers, IsRightAnswer, HasLoopLiterals, no_line}

-- ---- the order of sets
before_then : (S T U : Atoms) → IsBefore S T → IsBefore T U → IsBefore S U
before_then S T U s t = elim (cases_order s.0 t.0) [
  | inl same ↦ absurd (false≢true (sym t.2 ∙ ap (has T) (sym same) ∙ s.1))
  | inr o ↦ elim o [
    | inl lt ↦ (s.0, sym (t.3 s.0 lt) ∙ s.1, s.2, λ b less. s.3 b less ∙ t.3 b (omega arith))
    | inr lt ↦ (t.0, t.1, s.3 t.0 lt ∙ t.2, λ b less. s.3 b (omega arith) ∙ t.3 b less)
  ]
]

pub not_less : (S T : Atoms) (o : Ordering) → IsAscending S → IsAscending T → set_cmp S T ≡ o → o ≢ Less → IsBefore S T → ⊥
not_less S T o s t e differ before = differ (sym e ∙ cmp_from_before S T s t before)

-- ---- answers
pub first_in_order : (opt : Bool) (S : Atoms) → IsInOrder opt [] S
first_in_order opt S = record { later = tt; single = λ o. refl }

pub later_in_order : (opt : Bool) (before : List Atoms) (S last : Atoms) (i : ℕ) → AllPairs IsBefore before → length before ≡ i + 1 →
    last ≡ get_or before i last → opt ≡ false → IsBefore last S → IsInOrder opt before S
later_in_order opt before S last i pairs size is enum after = record {
  later = recursion_from_All (λ T. IsBefore T S) before (λ k d lt. elim (cases_lt k i) [
    | inl less ↦ before_then (get_or before k d) last S (subst (IsBefore (get_or before k d)) (at_last d) (pairs k i d less (omega arith))) after
    | inr past ↦ (
        let same : k ≡ i = omega arith in
        subst (λ T. IsBefore T S) (sym (at_last d) ∙ ap (λ j. get_or before j d) (sym same)) after)
  ]);
  single = λ o. absurd (false≢true (sym enum ∙ o));
}
  where
    at_last : (d : Atoms) → get_or before i d ≡ last
    at_last d = get_or_default before i d last (omega arith) ∙ sym is

pub not_single : (before : List Atoms) (S : Atoms) (n : ℕ) → length before ≡ n → 0 < n → IsInOrder true before S → ⊥
not_single before S n size lt h = let none : length before ≡ 0 = ap length (h.single refl) in omega (arith, none, size)

pub not_after : (opt : Bool) (before : List Atoms) (S last : Atoms) (i : ℕ) → i < length before → last ≡ get_or before i last → (IsBefore last S → ⊥) → IsInOrder opt before S → ⊥
not_after opt before S last i lt is never h = never (subst (λ T. IsBefore T S) (sym is) (All-from_recursion (λ T. IsBefore T S) before h.later i last lt))

pub is_member : (p : Program) (S : Atoms) → is_stable p S ≡ true → all_hold S p.assumptions ≡ true → Contains (answers p) S
is_member p S stable hold = (answers-are p S).1 (stable, hold)

pub not_member : (p : Program) (S : Atoms) → is_stable p S ≡ false → Contains (answers p) S → ⊥
not_member p S e h = false≢true (sym e ∙ ((answers-are p S).0 h).0)

pub not_assumed : (p : Program) (S : Atoms) → all_hold S p.assumptions ≡ false → Contains (answers p) S → ⊥
not_assumed p S e h = false≢true (sym e ∙ ((answers-are p S).0 h).1)

pub none_alike : (p : Program) (s : Sought) → AreAlike p s []
none_alike p All = tt
none_alike p Best = tt
none_alike p Optima = tt

alike_push : (p : Program) (s : Sought) (before : List Atoms) (S : Atoms) → AreAlike p s before → CostsAlike p s before S → AreAlike p s (before ++ S ∷ [])
alike_push p All before S a h = tt
alike_push p Best before S a h = tt
alike_push p Optima [] S a h = tt
alike_push p Optima (T ∷ before) S a h = each-append (λ U. cost p U ≡ cost p T) before (S ∷ []) a (h, tt)

pub answers_push : (p : Program) (s : Sought) (before : List Atoms) (S : Atoms) → AreRightAnswers p s before → IsRightAnswer p s before S → AreRightAnswers p s (before ++ S ∷ [])
answers_push p s before S h now = record {
  alike = alike_push p s before S h.alike now.alike;
  members = each-append (Contains (answers p)) before (S ∷ []) h.members (now.member, tt);
  order = all_pairs_push IsBefore before S h.order (All-from_recursion (λ T. IsBefore T S) before now.order.later);
  single = λ o. let none : length before ≡ 0 = ap length (now.order.single o) in omega (arith, none, length_push before S);
}

pub wrong_pushed : (p : Program) (s : Sought) (before : List Atoms) (S : Atoms) (w : Why) → AreRightAnswers p s before →
    HasAnswerFault p s before S w → IsWrongAnswer p s (before ++ S ∷ []) w (length before)
wrong_pushed p s before S w right fault =
    let front : take (length before) (before ++ S ∷ []) ≡ before = take-append_seam before (S ∷ []) in
    record {
      within = omega (arith, length_push before S);
      before = subst (AreRightAnswers p s) (sym front) right;
      fault = subst (λ Ts. HasAnswerFault p s Ts (get_or (before ++ S ∷ []) (length before) []) w) (sym front)
          (subst (λ T. HasAnswerFault p s before T w) (sym (get_or_push before S [] (length before) refl)) fault);
    }

-- ---- what is known at first
lits_pure : (ns : List (List Literal)) → map (λ (n : Nogood). n.lits) (map pure ns) ≡ ns
lits_pure [] = refl
lits_pure (n ∷ ns) = ap (λ ms. n ∷ ms) (lits_pure ns)

pub completed_is : (p : Program) (nogoods : List Nogood) (rows : List (List Literal)) → nogoods ≡ map pure (completion p) → rows ≡ map (λ (n : Nogood). n.lits) nogoods → rows ≡ completion p
completed_is p nogoods rows is e = e ∙ ap (map (λ (n : Nogood). n.lits)) is ∙ lits_pure (completion p)

-- nothing is found before the first line
pub no_bound : (p : Program) (o : Sought) → (let b : Option (List ℤ) = None in b) ≡ bound_by p o []
no_bound p All = refl
no_bound p Best = refl
no_bound p Optima = refl

-- ---- lines
pub gathered_push : (g : Gathered) (lines : List Line) (l : Line) → gathered_after g (lines ++ l ∷ []) ≡ with_line (gathered_after g lines) l
gathered_push g [] l = refl
gathered_push g (m ∷ lines) l = gathered_push (with_line g m) lines l

pub confirmed_push : (p : Program) (o : Sought) (g : Gathered) (lines : List Line) (l : Line) → AreConfirmed p o g lines →
    IsConfirmed p o (gathered_after g lines) l → AreConfirmed p o g (lines ++ l ∷ [])
confirmed_push p o g [] l h now = (now, tt)
confirmed_push p o g (m ∷ lines) l h now = (h.0, confirmed_push p o (with_line g m) lines l h.1 now)

or_no : (b : Bool) → (b || false) ≡ b
or_no true = refl
or_no false = refl

pub closes_push : (p : Program) (lines : List Line) (l : Line) (whole closing both : Bool) → whole ≡ list_any (closes p) lines →
    closing ≡ closes p l → both ≡ (whole || closing) → both ≡ list_any (closes p) (lines ++ l ∷ [])
closes_push p lines l whole closing both e f g =
    g ∙ ap (λ b. b || closing) e ∙ ap (λ b. list_any (closes p) lines || b) (f ∙ sym (or_no (closes p l))) ∙ sym (list_any-append (closes p) lines (l ∷ []))

pub pushed_line_wrong : (p : Program) (o : Sought) (lines : List Line) (l : Line) (w : Why) → AreConfirmed p o (first_gathered p) lines →
    HasLineFault p o (gathered_after (first_gathered p) lines) l w → IsWrongLine p o (lines ++ l ∷ []) w (length lines)
pushed_line_wrong p o lines l w h fault =
    let g = first_gathered p in
    let front : take (length lines) (lines ++ l ∷ []) ≡ lines = take-append_seam lines (l ∷ []) in
    record {
      within = omega (arith, length_push lines l);
      before = subst (AreConfirmed p o g) (sym front) h;
      fault = subst (λ ms. HasLineFault p o (gathered_after g ms) (get_or (lines ++ l ∷ []) (length lines) no_line) w) (sym front)
          (subst (λ m. HasLineFault p o (gathered_after g lines) m w) (sym (get_or_push lines l no_line (length lines) refl)) fault);
    }

pub empty_in_order : (opt : Bool) (before : List Atoms) (S : Atoms) → length before ≡ 0 → IsInOrder opt before S
empty_in_order opt [] S e = first_in_order opt S
empty_in_order opt (T ∷ before) S e = absurd (omega arith)

-- ---- lists that are made one after another
pub map_more : {X Y : Type 0} (f : X → Y) (xs : List X) (i : ℕ) (d : X) (y : Y) (old new : List Y) → i < length xs → old ≡ map f (take i xs) →
    new ≡ old ++ y ∷ [] → y ≡ f (get_or xs i d) → new ≡ map f (take (i + 1) xs)
map_more f xs i d y old new lt e made is =
    made ∙ ap (λ ys. ys ++ y ∷ []) e ∙ ap (λ z. map f (take i xs) ++ z ∷ []) is ∙ sym (map-append f (take i xs) (get_or xs i d ∷ [])) ∙ ap (map f) (sym (take_more xs i d lt))

pub map_whole : {X Y : Type 0} (f : X → Y) (xs zs : List X) (i : ℕ) (made : List Y) → length xs ≤ i → xs ≡ zs → made ≡ map f (take i xs) → made ≡ map f zs
map_whole f xs zs i made le same e = e ∙ ap (map f) (take_all i xs le ∙ same)

-- ---- the literals of a line
pub nogood_found : {V : Type 0} (p : Program) (s n : List ℤ) (o : Option V) (items : V → List Literal) → s ≡ n →
    MatchOption o (AreOf p (literals_of s) → ⊥) (λ v. (items v ≡ literals_of s) × AreOf p (items v)) →
    MatchOption o (AreOf p (literals_of n) → ⊥) (λ v. (items v ≡ literals_of n) × AreOf p (literals_of n))
nogood_found p s n None items e m = λ h. m (subst (λ t. AreOf p (literals_of t)) (sym e) h)
nogood_found p s n (Some v) items e m = let is = m.0 ∙ ap literals_of e in (is, subst (AreOf p) is m.1)

pub loop_found : {V : Type 0} (p : Program) (set : Atoms) (n : List ℤ) (o : Option V) (items : V → List Literal) →
    list_all (has (atoms_of p)) set ≡ true → MatchOption o (AreOf p (literals_of n) → ⊥) (λ v. (items v ≡ literals_of n) × AreOf p (literals_of n)) →
    MatchOption o (HasLoopLiterals p set n → ⊥) (λ v. (items v ≡ literals_of n) × HasLoopLiterals p set n)
loop_found p set n None items stand m = λ h. m h.1
loop_found p set n (Some v) items stand m = (m.0, (stand, m.1))

-- ---- whether a set costs what the first one costs
pub first_alike : (p : Program) (before : List Atoms) (S : Atoms) → length before ≡ 0 → CostsAlike p Optima before S
first_alike p [] S e = tt
first_alike p (T ∷ before) S e = absurd (omega arith)

pub later_alike : (p : Program) (before : List Atoms) (S T : Atoms) → 0 < length before → T ≡ get_or before 0 T → cost p S ≡ cost p T → CostsAlike p Optima before S
later_alike p [] S T lt is e = absurd (omega arith)
later_alike p (U ∷ before) S T lt is e = e ∙ ap (cost p) is

pub not_alike : (p : Program) (before : List Atoms) (S T : Atoms) → 0 < length before → T ≡ get_or before 0 T → (cost p S ≡ cost p T → ⊥) → CostsAlike p Optima before S → ⊥
not_alike p [] S T lt is never h = absurd (omega arith)
not_alike p (U ∷ before) S T lt is never h = never (h ∙ sym (ap (cost p) is))

-- ---- whether a set costs less than the last one
pub first_cheaper : (p : Program) (before : List Atoms) (S : Atoms) → length before ≡ 0 → IsCheaper p Best before S
first_cheaper p [] S e = tt
first_cheaper p (T ∷ before) S e = absurd (omega arith)

pub later_cheaper : (p : Program) (before : List Atoms) (S T : Atoms) (n : ℕ) → length before ≡ n + 1 → T ≡ get_or before n T → betters (cost p S) (cost p T) ≡ true → IsCheaper p Best before S
later_cheaper p [] S T n size is b = absurd (omega (arith, size))
later_cheaper p (U ∷ before) S T n size is b = ap (λ (V : Atoms). betters (cost p S) (cost p V)) (last_at [] (U ∷ before) n T size is) ∙ b

pub not_cheaper : (p : Program) (before : List Atoms) (S T : Atoms) (n : ℕ) → length before ≡ n + 1 → T ≡ get_or before n T → IsCheaper p Best before S → betters (cost p S) (cost p T) ≡ true
not_cheaper p [] S T n size is h = absurd (omega (arith, size))
not_cheaper p (U ∷ before) S T n size is h = sym (ap (λ (V : Atoms). betters (cost p S) (cost p V)) (last_at [] (U ∷ before) n T size is)) ∙ h

pub betters_as : (b c d e : List ℤ) (r : Bool) → b ≡ c → d ≡ e → r ≡ betters b d → betters c e ≡ r
betters_as b c d e r f g is = ap (λ (x : List ℤ). betters x e) (sym f) ∙ ap (betters b) (sym g) ∙ sym is

-- ---- the bound with one set more
pub bound_last : (p : Program) (before : List Atoms) (S : Atoms) → (let b : Option (List ℤ) = Some (cost p S) in b) ≡ bound_by p Best (before ++ S ∷ [])
bound_last p [] S = refl
bound_last p (U ∷ before) S = ap (λ (V : Atoms). let b : Option (List ℤ) = Some (cost p V) in b) (sym (last_push U before S))

pub bound_stays : (p : Program) (before : List Atoms) (S : Atoms) → 0 < length before → bound_by p Optima before ≡ bound_by p Optima (before ++ S ∷ [])
bound_stays p [] S lt = absurd (omega arith)
bound_stays p (U ∷ before) S lt = refl

-- ---- what a line came to is what its bytes came to
pub line_read : {E : Type 0} (p : Program) (o : Sought) (old new : Propagator) (l : Line) (bytes : List ℕ) (r : Result Read E) → IsWhole IsLine line_text bytes l →
    IfOk r (IsLineTaken p o old new l) → IfOk r (IsLineRead p o old new bytes)
line_read p o old new l bytes (Err e) w h = tt
line_read p o old new l bytes (Ok read.Other) w h = absurd h
line_read p o old new l bytes (Ok (read.Wrong y)) w h = (l, w, h)
line_read p o old new l bytes (Ok (read.Right b)) w h = (l, w, h)
