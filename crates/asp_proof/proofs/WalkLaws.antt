-- A text, line by line.
use Rattle.std.proofs.Common.{◌≡◌, ◌≢◌, ◌⊎◌, inl, inr, ℕ, ◌+◌, ◌<◌, Bool, true, false, List, [], ◌∷◌, ◌++◌, length, codes, refl, sym, ap, ◌∙◌, arith, append_assoc, append-nil, length-append, subst}
use Rattle.std.specs.Prelude.{ℤ, pos, flat_map}
use Rattle.std.specs.List.{AllByRecursion}
use Rattle.std.proofs.lemmas.Grind.{flat_map-append}
use Rattle.asp_model.specs.Sets.{Atoms}
use Rattle.asp_model.proofs.MemberLaws.{each_weaker, each-append, each-flat_map}
use Rattle.asp_proof.specs.declared.proof.Line.{Line}
use Rattle.asp_proof.specs.declared.proof.Line.TheVariants as kind
use Rattle.asp_proof.specs.declared.proof.Proof.{Proof}
use Rattle.asp_proof.specs.declared.proof.Sought.{Sought}
use Rattle.asp_proof.specs.declared.proof.Sought.TheVariants.{All, Best, Optima}
use Rattle.asp_proof.specs.Texts.{natural_field, integer_field, counted_fields, loop_fields, learned_fields, answer_text, line_text, mode_line, last_word, head_text, text_of, line, lines}
use Rattle.asp_proof.specs.Grammar.{IsAtom, IsLiteral, AreCounted, ArePlaces, IsSet, IsNogood, IsLine, IsProof, IsProofText, Begins, IsUnbroken, IsLines, IsFirstFault}
use Rattle.asp_proof.specs.Fields.{IsNumber, IsCount, IsWhole}
use Rattle.asp_proof.specs.Changes.{changes_of, last_of}
use Rattle.asp_proof.specs.Walk.{proof_of, ended, front_of, Ends, IsWalked, IsNextAnswer, Takes, IsRefused}
use Rattle.asp_proof.proofs.ChangeLaws.{changes_next, set_changed, no_atoms, last_set, changes_sets}
use Rattle.asp_proof.proofs.CutLaws.{one_cut}
use Rattle.asp_proof.proofs.FieldLaws.{no_feed}
use Rattle.asp_proof.proofs.LineLaws.{first_bytes}

-- ---- no line feed stands in a line

unbroken_integer : (z : ℤ) → IsNumber z → IsUnbroken (integer_field z)
unbroken_integer z h = ((λ e. omega (arith, e)), no_feed z h)

unbroken_counted : {A : Type 0} (P : A → Type 0) (text : A → List ℕ) → ((x : A) → P x → IsUnbroken (text x)) → (xs : List A) → AreCounted P xs → IsUnbroken (counted_fields text xs)
unbroken_counted P text each xs h = each-append (λ b. b ≢ 10) (natural_field (length xs)) (flat_map text xs)
    (unbroken_integer (pos (length xs)) h.few)
    (each-flat_map (λ b. b ≢ 10) text xs (each_weaker P (λ x. IsUnbroken (text x)) each xs h.each))

unbroken_atoms : (S : Atoms) → AreCounted IsAtom S → IsUnbroken (counted_fields natural_field S)
unbroken_atoms S h = unbroken_counted IsAtom natural_field (λ a k. unbroken_integer (pos a) (omega arith)) S h

unbroken_nogood : (xs : List ℤ) → IsNogood xs → IsUnbroken (counted_fields integer_field xs)
unbroken_nogood xs h = unbroken_counted IsLiteral integer_field (λ z k. unbroken_integer z (omega arith)) xs h

pub unbroken_answer : (S : Atoms) → IsSet S → IsUnbroken (answer_text S)
unbroken_answer S h = ((λ e. omega (arith, e)), unbroken_atoms S h.atoms)

unbroken_place : (n : ℕ) → IsCount n → IsUnbroken (natural_field n)
unbroken_place n h = unbroken_integer (pos n) h

unbroken_places : (xs : List ℕ) → ArePlaces xs → IsUnbroken (counted_fields natural_field xs)
unbroken_places xs h = unbroken_counted IsCount natural_field unbroken_place xs h

-- two parts one after the other
unbroken_two : (xs ys : List ℕ) → IsUnbroken xs → IsUnbroken ys → IsUnbroken (xs ++ ys)
unbroken_two xs ys a b = each-append (λ b. b ≢ 10) xs ys a b

pub unbroken_line : (l : Line) → IsLine l → IsUnbroken (line_text l)
unbroken_line (kind.Loop place set nogood) h = (
  (λ e. omega (arith, e)),
  unbroken_two (natural_field place) (counted_fields natural_field set ++ counted_fields integer_field nogood) (unbroken_place place h.0)
      (unbroken_two (counted_fields natural_field set) (counted_fields integer_field nogood) (unbroken_atoms set h.1.0.0.atoms) (unbroken_nogood nogood h.1.1)),
)
unbroken_line (kind.Learned place nogood names) h = (
  (λ e. omega (arith, e)),
  unbroken_two (natural_field place) (counted_fields integer_field nogood ++ counted_fields natural_field names) (unbroken_place place h.0)
      (unbroken_two (counted_fields integer_field nogood) (counted_fields natural_field names) (unbroken_nogood nogood h.1.0) (unbroken_places names h.1.1)),
)
unbroken_line (kind.Cube cube) h = ((λ e. omega (arith, e)), unbroken_nogood cube h)
unbroken_line (kind.Found change) h = ((λ e. omega (arith, e)), unbroken_atoms change h.atoms)

pub last_unbroken : (part : Bool) → IsUnbroken (last_word part)
last_unbroken true = ((λ e. omega (arith, e)), tt)
last_unbroken false = ((λ e. omega (arith, e)), tt)

behind : (xs ys : List ℕ) → 10 ∷ xs ≡ 10 ∷ ys → xs ≡ ys
behind xs ys e = cc

pub first_line : (xs ys r s : List ℕ) → IsUnbroken xs → IsUnbroken ys → xs ++ 10 ∷ r ≡ ys ++ 10 ∷ s → (xs ≡ ys) × (r ≡ s)
first_line xs ys r s a b e = let h = one_cut 10 xs ys (10 ∷ r) (10 ∷ s) a b refl refl e in (h.0, behind r s h.1)

-- ---- what a text ends with

pub front_first : (x more tail : List ℕ) → ((x ++ 10 ∷ []) ++ more) ++ tail ≡ x ++ 10 ∷ (more ++ tail)
front_first x more tail = simp append_assoc

-- how a proof's text goes on with a line
abbrev Next : List Atoms → List ℕ → List ℕ → Type 0
Next answers bytes more =
    ((l : Line) × (answers ≡ []) × IsWhole IsLine line_text bytes l × Ends answers more)
    ⊎ (((S : Atoms) × IsWhole IsSet answer_text bytes S × ((others : List Atoms) → Ends others more))
    ⊎ ((part : Bool) × (bytes ≡ last_word part) × (more ≡ [])))

next_answer : (answers more_changes : List Atoms) (part : Bool) (bytes more : List ℕ) → IsUnbroken bytes → AllByRecursion IsSet more_changes →
    lines answer_text more_changes ++ line (last_word part) ≡ bytes ++ 10 ∷ more → Next answers bytes more
next_answer answers [] part bytes more u h e =
    let p = first_line (last_word part) bytes [] more (last_unbroken part) u e in
    inr (inr (part, sym p.0, sym p.1))
next_answer answers (S ∷ Ss) part bytes more u h e =
    let p = first_line (answer_text S) bytes (lines answer_text Ss ++ line (last_word part)) more (unbroken_answer S h.0) u
    (sym (front_first (answer_text S) (lines answer_text Ss) (line (last_word part))) ∙ e) in
    inr (inl (S, record { is = h.0; same = p.0 }, λ others. record { more_lines = []; more_changes = Ss; are_lines = tt; are_sets = h.1; in_order = λ lt. refl; part = part; same = p.1 }))

none_yet : (answers : List Atoms) (l : Line) (ls : List Line) → (0 < length answers → l ∷ ls ≡ []) → answers ≡ []
none_yet [] l ls o = refl
none_yet (S ∷ Ss) l ls o = let h = o (omega arith) in absurd cc

next_from : (answers more_changes : List Atoms) (more_lines : List Line) (part : Bool) (bytes more : List ℕ) → IsUnbroken bytes →
    AllByRecursion IsLine more_lines → AllByRecursion IsSet more_changes → (0 < length answers → more_lines ≡ [])
    → lines line_text more_lines ++ (lines answer_text more_changes ++ line (last_word part)) ≡ bytes ++ 10 ∷ more → Next answers bytes more
next_from answers Ss [] part bytes more u g h o e = next_answer answers Ss part bytes more u h e
next_from answers Ss (l ∷ ls) part bytes more u g h o e =
    let p = first_line (line_text l) bytes (lines line_text ls ++ (lines answer_text Ss ++ line (last_word part))) more (unbroken_line l g.0) u
    (sym (front_first (line_text l) (lines line_text ls) (lines answer_text Ss ++ line (last_word part))) ∙ e) in
    inl (
      l,
      none_yet answers l ls o,
      record { is = g.0; same = p.0 },
      record { more_lines = ls; more_changes = Ss; are_lines = g.1; are_sets = h; in_order = λ lt. let k = o lt in absurd cc; part = part; same = p.1 },
    )

next : (answers : List Atoms) (bytes more : List ℕ) → IsUnbroken bytes → Ends answers (bytes ++ 10 ∷ more) → Next answers bytes more
next answers bytes more u e = next_from answers e.more_changes e.more_lines e.part bytes more u e.are_lines e.are_sets e.in_order e.same

-- ---- lines of different kinds

pub answer_or_line : (S : Atoms) (l : Line) → answer_text S ≡ line_text l → ⊥
answer_or_line S (kind.Loop place set nogood) e = omega (arith, first_bytes 97 111 (counted_fields natural_field S) (loop_fields (place, (set, nogood))) e)
answer_or_line S (kind.Learned place nogood names) e = omega (arith, first_bytes 97 108 (counted_fields natural_field S) (learned_fields (place, (nogood, names))) e)
answer_or_line S (kind.Cube cube) e = omega (arith, first_bytes 97 99 (counted_fields natural_field S) (counted_fields integer_field cube) e)
answer_or_line S (kind.Found change) e = omega (arith, first_bytes 97 102 (counted_fields natural_field S) (counted_fields natural_field change) e)

pub answer_or_last : (S : Atoms) (part : Bool) → answer_text S ≡ last_word part → ⊥
answer_or_last S true e = omega (arith, first_bytes 97 112 (counted_fields natural_field S) [] e)
answer_or_last S false e = omega (arith, first_bytes 97 48 (counted_fields natural_field S) [] e)

pub line_or_last : (l : Line) (part : Bool) → line_text l ≡ last_word part → ⊥
line_or_last (kind.Loop place set nogood) true e = omega (arith, first_bytes 111 112 (loop_fields (place, (set, nogood))) [] e)
line_or_last (kind.Learned place nogood names) true e = omega (arith, first_bytes 108 112 (learned_fields (place, (nogood, names))) [] e)
line_or_last (kind.Cube cube) true e = omega (arith, first_bytes 99 112 (counted_fields integer_field cube) [] e)
line_or_last (kind.Found change) true e = omega (arith, first_bytes 102 112 (counted_fields natural_field change) [] e)
line_or_last (kind.Loop place set nogood) false e = omega (arith, first_bytes 111 48 (loop_fields (place, (set, nogood))) [] e)
line_or_last (kind.Learned place nogood names) false e = omega (arith, first_bytes 108 48 (learned_fields (place, (nogood, names))) [] e)
line_or_last (kind.Cube cube) false e = omega (arith, first_bytes 99 48 (counted_fields integer_field cube) [] e)
line_or_last (kind.Found change) false e = omega (arith, first_bytes 102 48 (counted_fields natural_field change) [] e)

-- ---- one more line

lines_more : {A : Type 0} (text : A → List ℕ) (xs : List A) (x : A) → lines text (xs ++ x ∷ []) ≡ lines text xs ++ line (text x)
lines_more text xs x = flat_map-append (λ y. line (text y)) xs (x ∷ []) ∙ ap (λ (t : List ℕ). lines text xs ++ t) (append-nil (line (text x)))

front_line : (sought : Sought) (entries : List Line) (l : Line) →
    front_of (proof_of sought (entries ++ l ∷ []) []) ≡ front_of (proof_of sought entries []) ++ line (line_text l)
front_line sought entries l =
    let first = head_text sought in
    append-nil (first ++ lines line_text (entries ++ l ∷ []))
    ∙ ap (λ (t : List ℕ). first ++ t) (lines_more line_text entries l)
    ∙ sym (append_assoc first (lines line_text entries) (line (line_text l)))
    ∙ ap (λ (t : List ℕ). t ++ line (line_text l)) (sym (append-nil (first ++ lines line_text entries)))

front_answer : (sought : Sought) (entries : List Line) (answers : List Atoms) (S D : Atoms) → changes_of (answers ++ S ∷ []) ≡ changes_of answers ++ D ∷ [] →
    front_of (proof_of sought entries (answers ++ S ∷ [])) ≡ front_of (proof_of sought entries answers) ++ line (answer_text D)
front_answer sought entries answers S D e =
    let first = head_text sought ++ lines line_text entries in
    ap (λ (t : List ℕ). first ++ t) (ap (lines answer_text) e ∙ lines_more answer_text (changes_of answers) D)
    ∙ sym (append_assoc first (lines answer_text (changes_of answers)) (line (answer_text D)))

-- a line behind a front
behind_front : (front bytes after : List ℕ) → (front ++ line bytes) ++ after ≡ front ++ (bytes ++ 10 ∷ after)
behind_front front bytes after = simp append_assoc

pub lines_and_one : (n : ℕ) (front bytes : List ℕ) → IsLines n front → IsUnbroken bytes → IsLines (n + 1) (front ++ line bytes)
lines_and_one n front bytes h u = record {
  parts = h.parts ++ bytes ∷ [];
  counted = omega (arith, h.counted, length-append h.parts (bytes ∷ []));
  unbroken = each-append IsUnbroken h.parts (bytes ∷ []) h.unbroken (u, tt);
  same = lines_more (λ (b : List ℕ). b) h.parts bytes ∙ ap (λ (t : List ℕ). t ++ line bytes) h.same;
}

proof_text : (s t : List ℕ) → s ≡ t → IsProofText s → IsProofText t
proof_text s t e h = subst IsProofText e h

-- the front of a proof with one line more
record IsFront (p q : Proof) (bytes : List ℕ) : Type 0 where
  pub is : IsProof q
  pub same : front_of q ≡ front_of p ++ line bytes

walk_on : (text : List ℕ) (n : ℕ) (p q : Proof) (bytes after : List ℕ) → IsWalked text n p (bytes ++ 10 ∷ after) → IsUnbroken bytes → IsFront p q bytes
    → ((more : List ℕ) → Next p.answers bytes more → Ends q.answers more) → IsWalked text (n + 1) q after
walk_on text n p q bytes after w u f goes = record {
  is = f.is;
  parted = ap (λ (t : List ℕ). t ++ after) f.same ∙ behind_front (front_of p) bytes after ∙ w.parted;
  counted = subst (IsLines (n + 1)) (sym f.same) (lines_and_one n (front_of p) bytes w.counted u);
  only = λ more t. goes more (next p.answers bytes more u (w.only (bytes ++ 10 ∷ more) (proof_text _ _ (ap (λ (s : List ℕ). s ++ more) f.same ∙ behind_front (front_of p) bytes more) t)));
}

after_line : (l : Line) (bytes more : List ℕ) → IsWhole IsLine line_text bytes l → Next [] bytes more → Ends [] more
after_line l bytes more w (inl x) = x.3
after_line l bytes more w (inr (inl x)) = absurd (answer_or_line x.0 l (x.1.same ∙ sym w.same))
after_line l bytes more w (inr (inr x)) = absurd (line_or_last l x.0 (w.same ∙ x.1))

after_answer : (answers now : List Atoms) (S : Atoms) (bytes more : List ℕ) → IsWhole IsSet answer_text bytes S → Next answers bytes more → Ends now more
after_answer answers now S bytes more w (inl x) = absurd (answer_or_line S x.0 (w.same ∙ sym x.2.same))
after_answer answers now S bytes more w (inr (inl x)) = x.2 now
after_answer answers now S bytes more w (inr (inr x)) = absurd (answer_or_last S x.0 (w.same ∙ x.1))

walk_line : (text : List ℕ) (n : ℕ) (sought : Sought) (entries : List Line) (l : Line) (bytes after : List ℕ) →
    IsWalked text n (proof_of sought entries []) (bytes ++ 10 ∷ after) → IsUnbroken bytes → IsWhole IsLine line_text bytes l
    → IsWalked text (n + 1) (proof_of sought (entries ++ l ∷ []) []) after
walk_line text n sought entries l bytes after w u h =
    walk_on text n (proof_of sought entries []) (proof_of sought (entries ++ l ∷ []) []) bytes after w u
    (record {
      is = record { lines = each-append IsLine entries (l ∷ []) w.is.lines (h.is, tt); answers = tt };
      same =
          front_line sought entries l ∙ ap (λ (t : List ℕ). front_of (proof_of sought entries []) ++ line t) h.same;
    })
    (λ more x. after_line l bytes more h x)

walk_answer : (text : List ℕ) (n : ℕ) (sought : Sought) (entries : List Line) (answers : List Atoms) (S : Atoms) (bytes after : List ℕ) →
    IsWalked text n (proof_of sought entries answers) (bytes ++ 10 ∷ after) → IsUnbroken bytes → IsNextAnswer answers bytes S
    → IsWalked text (n + 1) (proof_of sought entries (answers ++ S ∷ [])) after
walk_answer text n sought entries answers S bytes after w u h =
    let set = subst IsSet (sym h.is) (set_changed (last_of answers) h.change (last_set [] answers no_atoms w.is.answers) h.whole.is) in
    let changes = changes_next [] answers S h.change h.whole.is.ascending h.is in
    walk_on text n (proof_of sought entries answers) (proof_of sought entries (answers ++ S ∷ [])) bytes after w u
    (record {
      is = record { lines = w.is.lines; answers = each-append IsSet answers (S ∷ []) w.is.answers (set, tt) };
      same =
          front_answer sought entries answers S h.change changes ∙ ap (λ (t : List ℕ). front_of (proof_of sought entries answers) ++ line t) h.whole.same;
    })
    (λ more x. after_answer answers (answers ++ S ∷ []) h.change bytes more h.whole x)

pub walks : (text : List ℕ) (n : ℕ) (sought : Sought) (entries now_entries : List Line) (answers now_answers : List Atoms) (bytes after rest : List ℕ) →
    IsWalked text n (proof_of sought entries answers) rest → bytes ++ 10 ∷ after ≡ rest → IsUnbroken bytes
    → Takes bytes entries answers now_entries now_answers → IsWalked text (n + 1) (proof_of sought now_entries now_answers) after
walks text n sought entries now_entries answers now_answers bytes after rest w e u (inl x) =
    rw (x.2, x.3) (walk_line text n sought entries x.0 bytes after (rw (x.1, ← e) at w) u x.4)
walks text n sought entries now_entries answers now_answers bytes after rest w e u (inr x) =
    rw (x.1, x.2) (walk_answer text n sought entries answers x.0 bytes after (rw (← e) at w) u x.3)

-- ---- faults

begun : (p : Proof) → IsProof p → Begins (front_of p)
begun p h = record { rest = line (last_word p.part); whole = record { proof = p; is = h; same = refl } }

fault : (text front bytes after : List ℕ) (n : ℕ) → front ++ (bytes ++ 10 ∷ after) ≡ text → IsLines n front → Begins front → IsUnbroken bytes →
    ((more : List ℕ) → IsProofText (front ++ (bytes ++ 10 ∷ more)) → ⊥) → IsFirstFault text (n + 1)
fault text front bytes after n e counted begins u never = record {
  before = n;
  numbered = refl;
  front = front;
  rest = bytes ++ 10 ∷ after;
  parted = e;
  lines_before = counted;
  begins = begins;
  with_it = λ other later v same b.
      let h = first_line other bytes later after v u same in
      never b.rest (proof_text _ _ (behind_front front other b.rest ∙ ap (λ (t : List ℕ). front ++ (t ++ 10 ∷ b.rest)) h.0) b.whole);
  whole = λ t. never after (proof_text _ _ (sym e) t);
}

never_next : (answers : List Atoms) (bytes more : List ℕ) → IsRefused bytes answers → ((part : Bool) → bytes ≡ last_word part → ⊥) → Next answers bytes more → ⊥
never_next answers bytes more r z (inl x) = r.no_line x.1 x.0 x.2
never_next answers bytes more r z (inr (inl x)) = r.no_answer x.0 x.1
never_next answers bytes more r z (inr (inr x)) = z x.0 x.1

pub refused : (text : List ℕ) (n : ℕ) (p : Proof) (bytes after rest : List ℕ) → IsWalked text n p rest → bytes ++ 10 ∷ after ≡ rest →
    IsUnbroken bytes → ((part : Bool) → bytes ≡ last_word part → ⊥) → IsRefused bytes p.answers → IsFirstFault text (n + 1)
refused text n p bytes after rest w e u z r = fault text (front_of p) bytes after n (ap (λ (t : List ℕ). front_of p ++ t) e ∙ w.parted) w.counted (begun p w.is) u
    (λ more t. never_next p.answers bytes more r z (next p.answers bytes more u (w.only (bytes ++ 10 ∷ more) t)))

pub left_lacks : (xs ys : List ℕ) → IsUnbroken (xs ++ ys) → IsUnbroken ys
left_lacks [] ys h = h
left_lacks (x ∷ xs) ys h = left_lacks xs ys h.1

-- no line feed is left
pub broken_off : (text : List ℕ) (n : ℕ) (p : Proof) (rest : List ℕ) → IsWalked text n p rest → IsUnbroken rest → IsFirstFault text (n + 1)
broken_off text n p rest w u = record {
  before = n;
  numbered = refl;
  front = front_of p;
  rest = rest;
  parted = w.parted;
  lines_before = w.counted;
  begins = begun p w.is;
  with_it = λ bytes after v same b. (left_lacks bytes (10 ∷ after) (subst IsUnbroken (sym same) u)).0 refl;
  whole = λ t.
      let e = w.only rest (proof_text _ _ (sym w.parted) t) in
      let h = subst IsUnbroken (sym e.same) u in
      (left_lacks (last_word e.part) (10 ∷ []) (left_lacks (lines answer_text e.more_changes) (line (last_word e.part)) (left_lacks (lines line_text e.more_lines) _ h))).0 refl;
}

-- ---- the last line

over : (p : Proof) (part : Bool) (text rest : List ℕ) (n : ℕ) → IsWalked text n p rest → (more : List ℕ) → IsProofText (text_of (ended p part) ++ more) → more ≡ []
over p part text rest n w more t = only_end (next p.answers (last_word part) more (last_unbroken part)
    (w.only (last_word part ++ 10 ∷ more) (proof_text _ _ (behind_front (front_of p) (last_word part) more) t)))
  where
    only_end : Next p.answers (last_word part) more → more ≡ []
    only_end (inl x) = absurd (line_or_last x.0 part x.2.same)
    only_end (inr (inl x)) = absurd (answer_or_last x.0 part x.1.same)
    only_end (inr (inr x)) = x.2

nothing_behind : (t : List ℕ) (bytes : List ℕ) → line bytes ++ t ≡ [] → ⊥
nothing_behind t [] e = absurd cc
nothing_behind t (b ∷ bytes) e = absurd cc

pub ended_is : (p : Proof) (part : Bool) → IsProof p → IsProof (ended p part)
ended_is p part h = record { answers = h.answers; lines = h.lines }

pub goes_on : (text : List ℕ) (n : ℕ) (p : Proof) (part : Bool) (bytes after rest : List ℕ) → IsWalked text n p rest → bytes ++ 10 ∷ after ≡ rest →
    bytes ≡ last_word part → after ≢ [] → IsFirstFault text (n + 2)
goes_on text n p part bytes after rest w e z more =
    let whole : last_word part ++ 10 ∷ after ≡ rest = ap (λ (t : List ℕ). t ++ 10 ∷ after) (sym z) ∙ e in
    let parted = behind_front (front_of p) (last_word part) after ∙ ap (λ (t : List ℕ). front_of p ++ t) whole ∙ w.parted in
    record {
      before = n + 1;
      numbered = omega arith;
      front = text_of (ended p part);
      rest = after;
      parted = parted;
      lines_before = lines_and_one n (front_of p) (last_word part) w.counted (last_unbroken part);
      begins = record { rest = []; whole = record { proof = ended p part; is = ended_is p part w.is; same = sym (append-nil (text_of (ended p part))) } };
      with_it = λ other later v same b. nothing_behind b.rest other
          (over p part text rest n w (line other ++ b.rest) (proof_text _ _ (append_assoc (text_of (ended p part)) (line other) b.rest) b.whole));
      whole = λ t. more (over p part text rest n w after (proof_text _ _ (sym parted) t));
    }

-- ---- the first two lines

abbrev pub head : List ℕ
head = codes "proof 3\n"

pub regroup : (h m l a z : List ℕ) → (((h ++ m) ++ l) ++ a) ++ z ≡ h ++ (m ++ (l ++ (a ++ z)))
regroup h m l a z = simp append_assoc

pub parts_of : (p : Proof) → text_of p ≡ head ++ (mode_line p.sought ++ (lines line_text p.lines ++ (lines answer_text (changes_of p.answers) ++ line (last_word p.part))))
parts_of p = regroup head (mode_line p.sought) (lines line_text p.lines) (lines answer_text (changes_of p.answers)) (line (last_word p.part))

pub behind_head : (xs ys : List ℕ) → head ++ xs ≡ head ++ ys → xs ≡ ys
behind_head xs ys e = cc

-- the words of the two optimisations differ at their fourth byte
fourth_bytes : (a b c x y : ℕ) (xs ys : List ℕ) → a ∷ b ∷ c ∷ x ∷ xs ≡ a ∷ b ∷ c ∷ y ∷ ys → x ≡ y
fourth_bytes a b c x y xs ys e = cc

pub same_mode : (o q : Sought) (xs ys : List ℕ) → mode_line o ++ xs ≡ mode_line q ++ ys → o ≡ q
same_mode All All xs ys e = refl
same_mode All Best xs ys e = absurd (omega (arith, first_bytes 101 111 _ _ e))
same_mode All Optima xs ys e = absurd (omega (arith, first_bytes 101 111 _ _ e))
same_mode Best All xs ys e = absurd (omega (arith, first_bytes 111 101 _ _ e))
same_mode Best Best xs ys e = refl
same_mode Best Optima xs ys e = absurd (omega (arith, fourth_bytes 111 112 116 10 105 _ _ e))
same_mode Optima All xs ys e = absurd (omega (arith, first_bytes 111 101 _ _ e))
same_mode Optima Best xs ys e = absurd (omega (arith, fourth_bytes 111 112 116 105 10 _ _ e))
same_mode Optima Optima xs ys e = refl

same_behind : (o : Sought) (xs ys : List ℕ) → mode_line o ++ xs ≡ mode_line o ++ ys → xs ≡ ys
same_behind All xs ys e = cc
same_behind Best xs ys e = cc
same_behind Optima xs ys e = cc

pub behind_mode : (o q : Sought) (xs ys : List ℕ) → mode_line o ++ xs ≡ mode_line q ++ ys → xs ≡ ys
behind_mode o q xs ys e = same_behind o xs ys (e ∙ ap (λ (m : Sought). mode_line m ++ ys) (sym (same_mode o q xs ys e)))

-- what a proof's text has behind its first line
behind_first : (rest : List ℕ) → IsProofText (head ++ rest) → (p : Proof) × IsProof p ×
    (mode_line p.sought ++ (lines line_text p.lines ++ (lines answer_text (changes_of p.answers) ++ line (last_word p.part))) ≡ rest)
behind_first rest t = (t.proof, t.is, behind_head _ rest (sym (parts_of t.proof) ∙ t.same))

pub head_unbroken : IsUnbroken (codes "proof 3")
head_unbroken = (
  (λ e. omega (arith, e)),
  (
    (λ e. omega (arith, e)),
    (
      (λ e. omega (arith, e)),
      (
        (λ e. omega (arith, e)),
        ((λ e. omega (arith, e)), ((λ e. omega (arith, e)), ((λ e. omega (arith, e)), tt))),
      ),
    ),
  ),
)

abbrev pub mode_word : Sought → List ℕ
mode_word All = codes "enum"
mode_word Best = codes "opt"
mode_word Optima = codes "optima"

pub word_unbroken : (o : Sought) → IsUnbroken (mode_word o)
word_unbroken All = ((λ e. omega (arith, e)), ((λ e. omega (arith, e)), ((λ e. omega (arith, e)), ((λ e. omega (arith, e)), tt))))
word_unbroken Best = ((λ e. omega (arith, e)), ((λ e. omega (arith, e)), ((λ e. omega (arith, e)), tt)))
word_unbroken Optima = (
  (λ e. omega (arith, e)),
  ((λ e. omega (arith, e)), ((λ e. omega (arith, e)), ((λ e. omega (arith, e)), ((λ e. omega (arith, e)), ((λ e. omega (arith, e)), tt))))),
)

pub mode_break : (o : Sought) (xs : List ℕ) → mode_line o ++ xs ≡ mode_word o ++ 10 ∷ xs
mode_break All xs = refl
mode_break Best xs = refl
mode_break Optima xs = refl

head_line : IsLines 1 head
head_line = record { parts = codes "proof 3" ∷ []; counted = refl; unbroken = (head_unbroken, tt); same = refl }

pub no_mode : (text rest : List ℕ) → head ++ rest ≡ text → ((o : Sought) (xs : List ℕ) → mode_line o ++ xs ≡ rest → ⊥) → IsFirstFault text 2
no_mode text rest e none = record {
  before = 1;
  numbered = refl;
  front = head;
  rest = rest;
  parted = e;
  lines_before = head_line;
  begins = record { rest = mode_line All ++ codes "0\n"; whole = record { proof = proof_of All [] []; is = record { answers = tt; lines = tt }; same = refl } };
  with_it = λ bytes after u same b.
      let p = behind_first (bytes ++ 10 ∷ b.rest) (proof_text _ _ (behind_front head bytes b.rest) b.whole) in
      let h = first_line (mode_word p.0.sought) bytes _ b.rest (word_unbroken p.0.sought) u (sym (mode_break p.0.sought _) ∙ p.2) in
      none p.0.sought after (mode_break p.0.sought after ∙ ap (λ (t : List ℕ). t ++ 10 ∷ after) h.0 ∙ same);
  whole = λ t. let p = behind_first rest (proof_text _ _ (sym e) t) in none p.0.sought _ p.2;
}

two_lines : (o : Sought) → IsLines 2 (front_of (proof_of o [] []))
two_lines All = record { parts = codes "proof 3" ∷ codes "enum" ∷ []; counted = refl; unbroken = (head_unbroken, (word_unbroken All, tt)); same = refl }
two_lines Best = record { parts = codes "proof 3" ∷ codes "opt" ∷ []; counted = refl; unbroken = (head_unbroken, (word_unbroken Best, tt)); same = refl }
two_lines Optima = record { parts = codes "proof 3" ∷ codes "optima" ∷ []; counted = refl; unbroken = (head_unbroken, (word_unbroken Optima, tt)); same = refl }

pub start_regroup : (h m rest : List ℕ) → ((((h ++ m) ++ []) ++ []) ++ rest) ≡ h ++ (m ++ rest)
start_regroup h m rest = simp (append_assoc, append-nil)

pub starts : (text body rest : List ℕ) (sought : Sought) → head ++ body ≡ text → mode_line sought ++ rest ≡ body → IsWalked text 2 (proof_of sought [] []) rest
starts text body rest sought e m = record {
  is = record { answers = tt; lines = tt };
  parted = start_regroup head (mode_line sought) rest ∙ ap (λ (t : List ℕ). head ++ t) m ∙ e;
  counted = two_lines sought;
  only = λ more t.
      let p = behind_first (mode_line sought ++ more) (proof_text _ _ (start_regroup head (mode_line sought) more) t) in
      record {
        more_changes = changes_of p.0.answers;
        more_lines = p.0.lines;
        are_sets = changes_sets [] p.0.answers no_atoms p.1.answers;
        are_lines =
            p.1.lines;
        in_order = λ lt. absurd (omega (arith, lt));
        part = p.0.part;
        same = behind_mode p.0.sought sought _ more p.2;
      };
}
