-- A proof's text that comes line by line.
use Rattle.std.proofs.Common.{◌≡◌, ◌≢◌, ℕ, ◌+◌, Bool, true, false, List, [], ◌∷◌, ◌++◌, codes, length, take, Option, None, Some, refl, sym, ap, subst, ◌∙◌, arith, append_assoc, append-nil, length-append}
use Rattle.std.proofs.Math.Seq.{take-append_seam}
use Rattle.std.specs.Io.KnownBytes.{IsAtEnd}
use Rattle.asp_model.specs.Sets.{Atoms}
use Rattle.asp_proof.specs.declared.proof.Line.{Line}
use Rattle.asp_proof.specs.declared.proof.Proof.{Proof}
use Rattle.asp_proof.specs.declared.proof.Sought.{Sought}
use Rattle.asp_proof.specs.declared.proof.Sought.TheVariants.{All, Best, Optima}
use Rattle.asp_proof.specs.Texts.{mode_line, last_word, text_of, line}
use Rattle.asp_proof.specs.Grammar.{IsUnbroken, IsFirstFault}
use Rattle.asp_proof.specs.Walk.{proof_of, ended, front_of, IsBegun, IsWalked, Takes, IsRefused}
use Rattle.asp_proof.specs.Reading.{HasLongLine, Moves, Comes}
use Rattle.asp_proof.proofs.WalkLaws.{walks, refused, broken_off, goes_on, head, starts, start_regroup, no_mode, mode_word, mode_break, word_unbroken, first_line, left_lacks}

-- ---- the lines so far
walked : (n : ℕ) (p : Proof) (rest : List ℕ) → IsBegun n p → IsWalked (front_of p ++ rest) n p rest
walked n p rest b = record { is = b.is; parted = refl; counted = b.counted; only = b.only }

begun_from : (text : List ℕ) (n : ℕ) (p : Proof) (rest : List ℕ) → IsWalked text n p rest → IsBegun n p
begun_from text n p rest w = record { is = w.is; counted = w.counted; only = w.only }

pub begun_next : (n : ℕ) (sought : Sought) (entries now_entries : List Line) (answers now_answers : List Atoms) (bytes : List ℕ) →
    IsBegun n (proof_of sought entries answers) → IsUnbroken bytes → Takes bytes entries answers now_entries now_answers
    → IsBegun (n + 1) (proof_of sought now_entries now_answers)
begun_next n sought entries now_entries answers now_answers bytes b u t =
    begun_from _ (n + 1) (proof_of sought now_entries now_answers) []
    (walks _ n sought entries now_entries answers now_answers bytes [] (bytes ++ 10 ∷ [])
    (walked n (proof_of sought entries answers) (bytes ++ 10 ∷ []) b) refl u t)

pub front_next : (n : ℕ) (sought : Sought) (entries now_entries : List Line) (answers now_answers : List Atoms) (bytes after : List ℕ) →
    IsBegun n (proof_of sought entries answers) → IsUnbroken bytes → Takes bytes entries answers now_entries now_answers
    → front_of (proof_of sought now_entries now_answers) ++ after ≡ front_of (proof_of sought entries answers) ++ (bytes ++ 10 ∷ after)
front_next n sought entries now_entries answers now_answers bytes after b u t =
    (walks _ n sought entries now_entries answers now_answers bytes after (bytes ++ 10 ∷ after) (walked n (proof_of sought entries answers) (bytes ++ 10 ∷ after) b) refl u t).parted

pub line_refused : (n : ℕ) (p : Proof) (bytes after : List ℕ) → IsBegun n p → IsUnbroken bytes → ((part : Bool) → bytes ≡ last_word part → ⊥) → IsRefused bytes p.answers →
    IsFirstFault (front_of p ++ (bytes ++ 10 ∷ after)) (n + 1)
line_refused n p bytes after b u z r = refused _ n p bytes after (bytes ++ 10 ∷ after) (walked n p (bytes ++ 10 ∷ after) b) refl u z r

pub line_broken : (n : ℕ) (p : Proof) (rest : List ℕ) → IsBegun n p → IsUnbroken rest → IsFirstFault (front_of p ++ rest) (n + 1)
line_broken n p rest b u = broken_off _ n p rest (walked n p rest b) u

pub last_followed : (n : ℕ) (p : Proof) (part : Bool) (bytes after : List ℕ) → IsBegun n p → bytes ≡ last_word part → after ≢ [] →
    IsFirstFault (front_of p ++ (bytes ++ 10 ∷ after)) (n + 2)
last_followed n p part bytes after b z more = goes_on _ n p part bytes after (bytes ++ 10 ∷ after) (walked n p (bytes ++ 10 ∷ after) b) refl z more

pub last_whole : (p : Proof) (part : Bool) (bytes : List ℕ) → bytes ≡ last_word part → front_of p ++ (bytes ++ 10 ∷ []) ≡ text_of (ended p part)
last_whole p part bytes z = ap (λ (t : List ℕ). front_of p ++ (t ++ 10 ∷ [])) z

-- ---- the first two lines
pub begun_mode : (sought : Sought) → IsBegun 2 (proof_of sought [] [])
begun_mode sought = begun_from _ 2 (proof_of sought [] []) [] (starts _ _ [] sought refl refl)

pub front_mode : (sought : Sought) (bytes after : List ℕ) → mode_line sought ≡ line bytes → front_of (proof_of sought [] []) ++ after ≡ head ++ (bytes ++ 10 ∷ after)
front_mode sought bytes after e =
    start_regroup head (mode_line sought) after ∙ ap (λ (t : List ℕ). head ++ (t ++ after)) e ∙ ap (λ (t : List ℕ). head ++ t) (append_assoc bytes (10 ∷ []) after)

mode_as_line : (o : Sought) → mode_line o ≡ line (mode_word o)
mode_as_line All = refl
mode_as_line Best = refl
mode_as_line Optima = refl

word_of : (word bytes : List ℕ) → line word ≡ line bytes → word ≡ bytes
word_of word bytes e =
    let n : length word ≡ length bytes = omega (arith, ap length e, length-append word (10 ∷ []), length-append bytes (10 ∷ [])) in
    sym (take-append_seam word (10 ∷ [])) ∙ ap (λ m. take m (line word)) n ∙ ap (take (length bytes)) e ∙ take-append_seam bytes (10 ∷ [])

pub no_word : (bytes : List ℕ) → (bytes ≡ codes "enum" → ⊥) → (bytes ≡ codes "opt" → ⊥) → (bytes ≡ codes "optima" → ⊥) → (sought : Sought) → mode_line sought ≡ line bytes → ⊥
no_word bytes no_all no_best no_optima All e = no_all (sym (word_of (codes "enum") bytes (sym (mode_as_line All) ∙ e)))
no_word bytes no_all no_best no_optima Best e = no_best (sym (word_of (codes "opt") bytes (sym (mode_as_line Best) ∙ e)))
no_word bytes no_all no_best no_optima Optima e = no_optima (sym (word_of (codes "optima") bytes (sym (mode_as_line Optima) ∙ e)))

pub no_last : (bytes : List ℕ) → (bytes ≡ codes "0" → ⊥) → (bytes ≡ codes "p" → ⊥) → (part : Bool) → bytes ≡ last_word part → ⊥
no_last bytes no_zero no_part true e = no_part e
no_last bytes no_zero no_part false e = no_zero e

pub mode_refused : (bytes after : List ℕ) → IsUnbroken bytes → ((sought : Sought) → mode_line sought ≡ line bytes → ⊥) → IsFirstFault (head ++ (bytes ++ 10 ∷ after)) 2
mode_refused bytes after u none = no_mode _ (bytes ++ 10 ∷ after) refl (λ o xs e.
    let h = first_line (mode_word o) bytes xs after (word_unbroken o) u (sym (mode_break o xs) ∙ e) in
    none o (mode_as_line o ∙ ap line h.0))

pub mode_broken : (rest : List ℕ) → IsUnbroken rest → IsFirstFault (head ++ rest) 2
mode_broken rest u = no_mode _ rest refl (λ o xs e. (left_lacks (mode_word o) (10 ∷ xs) (subst IsUnbroken (sym e ∙ mode_break o xs) u)).0 refl)

-- ---- texts of which a part was read
pub long_behind : (front text : List ℕ) → HasLongLine text → HasLongLine (front ++ text)
long_behind front text h = record {
  front = front ++ h.front;
  line = h.line;
  rest = h.rest;
  parted =
      append_assoc front h.front (h.line ++ h.rest) ∙ ap (λ (t : List ℕ). front ++ t) h.parted;
  unbroken = h.unbroken;
  long = h.long;
}

pub long_before : (text more : List ℕ) → HasLongLine text → HasLongLine (text ++ more)
long_before text more h = record {
  front = h.front;
  line = h.line;
  rest = h.rest ++ more;
  parted = ap (λ (t : List ℕ). h.front ++ t) (sym (append_assoc h.line h.rest more)) ∙ sym (append_assoc h.front (h.line ++ h.rest) more) ∙ ap (λ (t : List ℕ). t ++ more) h.parted;
  unbroken = h.unbroken;
  long = h.long;
}

pub comes_any : (source : Option (List ℕ)) (read : List ℕ) (P : List ℕ → Type 0) → ((rest : List ℕ) → P (read ++ rest)) → Comes source read P
comes_any None read P h = record { rest = []; told = tt; is = h [] }
comes_any (Some left) read P h = record { rest = left; told = refl; is = h left }

pub comes_end : (source : Option (List ℕ)) (read : List ℕ) (P : List ℕ → Type 0) → IsAtEnd source → P read → Comes source read P
comes_end None read P end h = record { rest = []; told = tt; is = subst P (sym (append-nil read)) h }
comes_end (Some left) read P end h = record { rest = []; told = end; is = subst P (sym (append-nil read)) h }

-- bytes that were read since
pub comes_back : (source now : Option (List ℕ)) (before after : List ℕ) (P : List ℕ → Type 0) → Moves source now before after → Comes now after P → Comes source before P
comes_back None now before after P m c = record { rest = m.bytes ++ c.rest; told = tt; is = subst P (ap (λ (t : List ℕ). t ++ c.rest) m.same ∙ append_assoc before m.bytes c.rest) c.is }
comes_back (Some left) None before after P m c = absurd m.read
comes_back (Some left) (Some now) before after P m c =
    record {
      rest = m.bytes ++ c.rest;
      told = m.read ∙ ap (λ (t : List ℕ). m.bytes ++ t) c.told;
      is =
          subst P (ap (λ (t : List ℕ). t ++ c.rest) m.same ∙ append_assoc before m.bytes c.rest) c.is;
    }

pub comes_as : (source : Option (List ℕ)) (read other : List ℕ) (P : List ℕ → Type 0) → read ≡ other → Comes source read P → Comes source other P
comes_as source read other P e c = subst (λ (t : List ℕ). Comes source t P) e c

-- what is said of a text is said of another
pub comes_so : (source : Option (List ℕ)) (read : List ℕ) (P Q : List ℕ → Type 0) → ((text : List ℕ) → P text → Q text) → Comes source read P → Comes source read Q
comes_so source read P Q so c = record { rest = c.rest; told = c.told; is = so _ c.is }

pub moves_more : (source now : Option (List ℕ)) (before after front : List ℕ) → Moves source now before after → Moves source now (front ++ before) (front ++ after)
moves_more source now before after front m = record { bytes = m.bytes; read = m.read; same = ap (λ (t : List ℕ). front ++ t) m.same ∙ sym (append_assoc front before m.bytes) }

pub comes_front : (source : Option (List ℕ)) (front read : List ℕ) (P : List ℕ → Type 0) → Comes source read (λ text. P (front ++ text)) → Comes source (front ++ read) P
comes_front source front read P c = record { rest = c.rest; told = c.told; is = subst P (sym (append_assoc front read c.rest)) c.is }
