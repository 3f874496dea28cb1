-- Lines are read as what was written.
use Rattle.std.proofs.Common.{◌≡◌, ◌≢◌, ℕ, ◌<◌, Bool, true, false, eqb, Option, Some, None, Result, Ok, Err, List, [], ◌∷◌, ◌++◌, length, refl, sym, ap, ◌∙◌, arith, append-nil}
use Rattle.std.specs.Prelude.{ℤ, IfOk, MatchOption}
use Rattle.std.proofs.lemmas.Bool.{eqb-true, false≢true}
use Rattle.asp_model.specs.Sets.{Atoms}
use Rattle.asp_proof.specs.declared.proof.Line.TheVariants as kind
use Rattle.asp_proof.specs.Texts.{atoms_fields, literals_fields, loop_fields, learned_fields, answer_text, line_text}
use Rattle.asp_proof.specs.Grammar.{IsSet, IsNogood, IsLoop, IsLearned, IsLine}
use Rattle.asp_proof.specs.Fields.{IsAt, IsMissing, IsNone, IsWhole}
use Rattle.asp_proof.proofs.FieldLaws.{IsClear}

at_end : {A : Type 0} (P : A → Type 0) (text : A → List ℕ) (line : List ℕ) (x : A) → IsWhole P text line x → IsAt P text line x []
at_end P text line x w = record { is = w.is; same = append-nil (text x) ∙ w.same; stops = tt }

pub none_whole : {A : Type 0} (P : A → Type 0) (text : A → List ℕ) (line : List ℕ) → IsMissing P text line → IsNone P text line
none_whole P text line none = λ x w. none x [] (at_end P text line x w)

pub whole_at : {A : Type 0} (P : A → Type 0) (text : A → List ℕ) (line : List ℕ) (x : A) (rest : List ℕ) → rest ≡ [] → IsAt P text line x rest → IsWhole P text line x
whole_at P text line x rest e h = record { is = h.is; same = sym (append-nil (text x)) ∙ ap (λ (t : List ℕ). text x ++ t) (sym e) ∙ h.same }

-- more stands on the line
pub none_alone : {A : Type 0} (P : A → Type 0) (text : A → List ℕ) (line : List ℕ) (x : A) (rest : List ℕ) → IsClear P text → rest ≢ [] → IsAt P text line x rest → IsNone P text line
none_alone P text line x rest c more h = λ y w. more (sym (c.one y x [] rest w.is h.is tt h.stops (append-nil (text y) ∙ w.same ∙ sym h.same)).1)

pub not_nil : {A : Type 0} (b : Bool) (xs : List A) → b ≡ eqb (length xs) 0 → b ≡ false → xs ≢ []
not_nil b [] e f = λ nil. false≢true (sym f ∙ e)
not_nil b (x ∷ xs) e f = λ nil. absurd cc

pub is_nil : {A : Type 0} (b : Bool) (xs : List A) → b ≡ eqb (length xs) 0 → b ≡ true → xs ≡ []
is_nil b [] e f = refl
is_nil b (x ∷ xs) e f = absurd (omega (arith, eqb-true (length (x ∷ xs)) 0 (sym e ∙ f)))

pub some_from : {A : Type 0} (b : Bool) (xs : List A) → b ≡ eqb (length xs) 0 → b ≡ false → 0 < length xs
some_from b [] e f = absurd (false≢true (sym f ∙ e))
some_from b (x ∷ xs) e f = omega arith

-- ---- loops and learnt nogoods

pub loop_whole : (line : List ℕ) (place : ℕ) (S : List ℕ) (nogood : List ℤ) → IsWhole IsLoop loop_fields line (place, (S, nogood)) → IsWhole IsLine line_text (111 ∷ line) (kind.Loop place S nogood)
loop_whole line place S nogood w = record { is = w.is; same = ap (λ (t : List ℕ). 111 ∷ t) w.same }

pub learned_whole : (line : List ℕ) (place : ℕ) (nogood : List ℤ) (names : List ℕ) → IsWhole IsLearned learned_fields line (place, (nogood, names)) →
    IsWhole IsLine line_text (108 ∷ line) (kind.Learned place nogood names)
learned_whole line place nogood names w = record { is = w.is; same = ap (λ (t : List ℕ). 108 ∷ t) w.same }

-- ---- the first byte tells what a line is

pub no_answer : (line : List ℕ) → ((rest : List ℕ) → 97 ∷ rest ≡ line → ⊥) → IsNone IsSet answer_text line
no_answer line none = λ S w. none (atoms_fields S) w.same

pub answer_whole : (line : List ℕ) (S : List ℕ) → IsWhole IsSet atoms_fields line S → IsWhole IsSet answer_text (97 ∷ line) S
answer_whole line S w = record { is = w.is; same = ap (λ (t : List ℕ). 97 ∷ t) w.same }

pub first_bytes : (a b : ℕ) (xs ys : List ℕ) → a ∷ xs ≡ b ∷ ys → a ≡ b
first_bytes a b xs ys e = cc

behind : (b : ℕ) (xs ys : List ℕ) → b ∷ xs ≡ b ∷ ys → xs ≡ ys
behind b xs ys e = cc

pub no_answer_fields : (line : List ℕ) → IsNone IsSet atoms_fields line → IsNone IsSet answer_text (97 ∷ line)
no_answer_fields line none = λ S w. none S (record { is = w.is; same = behind 97 (atoms_fields S) line w.same })

pub no_loop_line : (line : List ℕ) → IsNone IsLoop loop_fields line → IsNone IsLine line_text (111 ∷ line)
no_loop_line line none (kind.Loop place set nogood) w = none (place, (set, nogood)) (record { is = w.is; same = behind 111 _ line w.same })
no_loop_line line none (kind.Learned place nogood names) w = omega (arith, first_bytes 108 111 (learned_fields (place, (nogood, names))) line w.same)
no_loop_line line none (kind.Cube cube) w = omega (arith, first_bytes 99 111 (literals_fields cube) line w.same)
no_loop_line line none (kind.Found change) w = omega (arith, first_bytes 102 111 (atoms_fields change) line w.same)

pub no_learned_line : (line : List ℕ) → IsNone IsLearned learned_fields line → IsNone IsLine line_text (108 ∷ line)
no_learned_line line none (kind.Loop place set nogood) w = omega (arith, first_bytes 111 108 (loop_fields (place, (set, nogood))) line w.same)
no_learned_line line none (kind.Learned place nogood names) w = none (place, (nogood, names)) (record { is = w.is; same = behind 108 _ line w.same })
no_learned_line line none (kind.Cube cube) w = omega (arith, first_bytes 99 108 (literals_fields cube) line w.same)
no_learned_line line none (kind.Found change) w = omega (arith, first_bytes 102 108 (atoms_fields change) line w.same)

pub no_cube_line : (line : List ℕ) → IsNone IsNogood literals_fields line → IsNone IsLine line_text (99 ∷ line)
no_cube_line line none (kind.Loop place set nogood) w = omega (arith, first_bytes 111 99 (loop_fields (place, (set, nogood))) line w.same)
no_cube_line line none (kind.Learned place nogood names) w = omega (arith, first_bytes 108 99 (learned_fields (place, (nogood, names))) line w.same)
no_cube_line line none (kind.Cube cube) w = none cube (record { is = w.is; same = behind 99 _ line w.same })
no_cube_line line none (kind.Found change) w = omega (arith, first_bytes 102 99 (atoms_fields change) line w.same)

pub no_found_line : (line : List ℕ) → IsNone IsSet atoms_fields line → IsNone IsLine line_text (102 ∷ line)
no_found_line line none (kind.Loop place set nogood) w = omega (arith, first_bytes 111 102 (loop_fields (place, (set, nogood))) line w.same)
no_found_line line none (kind.Learned place nogood names) w = omega (arith, first_bytes 108 102 (learned_fields (place, (nogood, names))) line w.same)
no_found_line line none (kind.Cube cube) w = omega (arith, first_bytes 99 102 (literals_fields cube) line w.same)
no_found_line line none (kind.Found change) w = none change (record { is = w.is; same = behind 102 _ line w.same })

pub no_line : (line : List ℕ) → ((rest : List ℕ) → 111 ∷ rest ≡ line → ⊥) → ((rest : List ℕ) → 108 ∷ rest ≡ line → ⊥) → ((rest : List ℕ) → 99 ∷ rest ≡ line → ⊥)
    → ((rest : List ℕ) → 102 ∷ rest ≡ line → ⊥) → IsNone IsLine line_text line
no_line line o l c f (kind.Loop place set nogood) w = o (loop_fields (place, (set, nogood))) w.same
no_line line o l c f (kind.Learned place nogood names) w = l (learned_fields (place, (nogood, names))) w.same
no_line line o l c f (kind.Cube cube) w = c (literals_fields cube) w.same
no_line line o l c f (kind.Found change) w = f (atoms_fields change) w.same

pub cube_whole : (line : List ℕ) (cube : List ℤ) → IsWhole IsNogood literals_fields line cube → IsWhole IsLine line_text (99 ∷ line) (kind.Cube cube)
cube_whole line cube w = record { is = w.is; same = ap (λ (t : List ℕ). 99 ∷ t) w.same }

pub found_whole : (line : List ℕ) (change : Atoms) → IsWhole IsSet atoms_fields line change → IsWhole IsLine line_text (102 ∷ line) (kind.Found change)
found_whole line change w = record { is = w.is; same = ap (λ (t : List ℕ). 102 ∷ t) w.same }

-- what is read of the fields is read of the line
pub line_from : {E A B : Type 0} (r : Result (Option A) E) (P : B → Type 0) (fields_text : B → List ℕ) (Q : A → Type 0) (text : A → List ℕ) (b : ℕ) (fields line : List ℕ) → b ∷ fields ≡ line
    → (IsNone P fields_text fields → IsNone Q text (b ∷ fields))
    → IfOk r (λ o. MatchOption o (IsNone P fields_text fields) (λ x. IsWhole Q text (b ∷ fields) x))
    → IfOk r (λ o. MatchOption o (IsNone Q text line) (λ x. IsWhole Q text line x))
line_from (Err e) P ft Q text b fields line same none h = tt
line_from (Ok None) P ft Q text b fields line same none h = rw (← same) (none h)
line_from (Ok (Some x)) P ft Q text b fields line same none h = rw (← same) h

pub answer_from : {E : Type 0} (r : Result (Option Atoms) E) (fields line : List ℕ) → 97 ∷ fields ≡ line
    → IfOk r (λ o. MatchOption o (IsNone IsSet atoms_fields fields) (λ x. IsWhole IsSet atoms_fields fields x))
    → IfOk r (λ o. MatchOption o (IsNone IsSet answer_text line) (λ x. IsWhole IsSet answer_text line x))
answer_from (Err e) fields line same h = tt
answer_from (Ok None) fields line same h = rw (← same) (no_answer_fields fields h)
answer_from (Ok (Some x)) fields line same h = rw (← same) (answer_whole fields x h)
