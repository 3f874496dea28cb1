-- Pieces of a source's bytes.
use Rattle.std.proofs.Common.{◌≡◌, ℕ, ◌+◌, ◌-◌, ◌<◌, ◌≤◌, List, [], ◌∷◌, ◌++◌, length, take, drop, Option, Some, None, Result, Ok, Err, inl, inr, refl, sym, ap, subst, ◌∙◌, append_assoc, zero-add, arith, length-append, length-drop, take-append-drop}
use Rattle.std.proofs.lemmas.List.{append-nil, length-take-le, take-append-le, take-take}
use Rattle.std.specs.Prelude.{IfSome, IfOk, IfErr, IsOk}
use Rattle.std.specs.Io.KnownBytes.{Consumes, Keeps, IsAtEnd}
use Rattle.asp_text.specs.Unread.{Unread}
use Rattle.asp_text.specs.Lines.{cut, lines_of, whole}
use Rattle.asp_model.specs.declared.program.Program.{Program}
use Rattle.asp_read.specs.declared.fault.ReadError.{ReadError}
use Rattle.asp_read.specs.declared.fault.ReadError.TheVariants as errors
use Rattle.asp_read.specs.Judging.{Format, judge_by, judge_next, judge_all, outcome_from}
use Rattle.asp_read.specs.Outcome.{outcome}
use Rattle.asp_model.specs.Sound.{IsSound}
use Rattle.asp_read.proofs.Soundness.{outcome-sound}
use Rattle.asp_read.specs.Fields.{◌>>=◌}
use Rattle.asp_read.specs.Stream.{FailsAs, ReadGives, ReadsText, Took, Continues, Answers, IsOfLines, Decides, StopsBy, outcome_on}
use Rattle.asp_read.proofs.Streaming.{too_long, beyond}
use Rattle.std.proofs.Math.Seq.{take-append_seam}

took_more : (initial now next : Option (List ℕ)) (read piece : List ℕ) → Took initial now read → Consumes now next piece → Took initial next (read ++ piece)
took_more None now next read piece c e = tt
took_more (Some text) None next read piece c e = absurd c
took_more (Some text) (Some xs) None read piece c e = absurd e
took_more (Some text) (Some xs) (Some ys) read piece c e = c ∙ ap (λ (t : List ℕ). read ++ t) e ∙ sym (append_assoc read piece ys)

-- all that a source may have told, where these bytes were taken off last
record Whole (initial : Option (List ℕ)) (read piece : List ℕ) : Type 0 where
  rest : List ℕ
  told : IfSome initial (λ t. t ≡ read ++ (piece ++ rest))

whole_text : (initial now next : Option (List ℕ)) (read piece : List ℕ) → Took initial now read → Consumes now next piece → Whole initial read piece
whole_text None now next read piece c e = record { rest = []; told = tt }
whole_text (Some text) None next read piece c e = absurd c
whole_text (Some text) (Some xs) None read piece c e = absurd e
whole_text (Some text) (Some xs) (Some ys) read piece c e = record { rest = ys; told = c ∙ ap (λ (t : List ℕ). read ++ t) e }

reads_err : {A : Type 0} (e : ReadError) (o : Result A ReadError) → FailsAs e o → ReadsText (Err e) o
reads_err errors.Memory o h = tt
reads_err errors.ReadFault o h = tt
reads_err errors.TooLong o h = h
reads_err (errors.Refused f n) o h = h

reads_gives : {A : Type 0} (r o : Result A ReadError) → ReadGives r o → ReadsText r o
reads_gives (Ok p) o h = h
reads_gives (Err e) o h = reads_err e o h

at_end_is : (initial now next : Option (List ℕ)) (read : List ℕ) → Took initial now read → Consumes now next [] → IsAtEnd next → IfSome initial (λ t. t ≡ read)
at_end_is None now next read c s e = tt
at_end_is (Some text) None next read c s e = absurd c
at_end_is (Some text) (Some xs) None read c s e = absurd s
at_end_is (Some text) (Some xs) (Some ys) read c s e = c ∙ ap (λ (t : List ℕ). read ++ t) (s ∙ e) ∙ append-nil read

-- ---- the pieces of a buffer whose front was read

pub same_piece : (read rest : List ℕ) (count : ℕ) → count ≤ length read → take count (read ++ rest) ≡ take count read
same_piece read rest count le = take-append-le count read rest le

split_piece : (read rest : List ℕ) (room count : ℕ) → room ≤ count → count ≤ length read → take count read ≡ take room (read ++ rest) ++ drop room (take count read)
split_piece read rest room count le len =
    let front : take room (read ++ rest) ≡ take room (take count read) = same_piece read rest room (omega arith) ∙ sym (take-take room count read le) in
    rw front (sym (take-append-drop room (take count read)))

-- what was read, cut in two
pub record Parts (now next : Option (List ℕ)) (piece more : List ℕ) (room left : ℕ) : Type 0 where
  pub eaten : Consumes now next (piece ++ more)
  pub front : length piece ≡ room
  pub back : length more ≡ left

pub parts : (now next : Option (List ℕ)) (read rest : List ℕ) (room count : ℕ) → room ≤ count → count ≤ length read → Consumes now next (take count read)
    → Parts now next (take room (read ++ rest)) (drop room (take count read)) room (count - room)
parts now next read rest room count le len eaten = record {
  eaten = subst (λ (b : List ℕ). Consumes now next b) (split_piece read rest room count le len) eaten;
  front = ap length (same_piece read rest room (omega (arith, le, len))) ∙ length-take-le room read (omega (arith, le, len));
  back = length-drop room (take count read) ∙ ap (λ (n : ℕ). n - room) (length-take-le count read len);
}

err_is : {A : Type 0} (r : Result A ReadError) (y e : ReadError) → r ≡ Err y → r ≡ Err e → y ≡ e
err_is r y e p q = cc

-- an error of lines is no failed read
pub never : {A : Type 0} (r : Result A ReadError) (y e : ReadError) → r ≡ Err y → y ≡ e → IsOfLines e → r ≡ Err errors.ReadFault → ⊥
never r y e p q of_lines h = let is : e ≡ errors.ReadFault = sym q ∙ err_is r y errors.ReadFault p h in subst IsOfLines is of_lines

pub no_failed_read : {A : Type 0} (r : Result A ReadError) → IfErr r IsOfLines → r ≡ Err errors.ReadFault → ⊥
no_failed_read {A} r of_lines h = subst (λ (x : Result A ReadError). IfErr x IsOfLines) h of_lines

consumes_none : (now next : Option (List ℕ)) → Keeps now next → Consumes now next []
consumes_none None next k = k
consumes_none (Some xs) None k = k
consumes_none (Some xs) (Some ys) k = sym k

nothing_left : (next : Option (List ℕ)) (rest : List ℕ) → IsAtEnd next → next ≡ Some rest → rest ≡ []
nothing_left None rest h e = absurd cc
nothing_left (Some xs) rest h e = let same : xs ≡ rest = cc in sym same ∙ h

module _ {S R : Type 0} (format : Format S R) where
  -- at the start nothing is held
  pub starts : (source : Option (List ℕ)) (limit : ℕ) (lines : Unread) (reader : S) → lines ≡ record { bytes = []; given = 0; fed = 0 } →
      reader ≡ format.start → Continues format source source limit lines reader limit
  starts None limit lines reader l e = rw (l, e) (record { read = []; took = tt; counted = omega arith; same = λ k more. refl })
  starts (Some text) limit lines reader l e = rw (l, e) (record { read = []; took = refl; counted = omega arith; same = λ k more. refl })

  moved : (read piece more : List ℕ) (k : ℕ) →
      outcome_from format (k + length piece + length read) 0 format.start (read ++ (piece ++ more)) ≡ outcome_from format (k + length (read ++ piece))
      0 format.start ((read ++ piece) ++ more)
  moved read piece more k =
      let e : k + length (read ++ piece) ≡ k + length piece + length read = omega (arith, length-append read piece) in
      rw (e, append_assoc read piece more) refl

  pub taken : (initial now next : Option (List ℕ)) (piece : List ℕ) (limit : ℕ) (lines new : Unread) (reader r : S) (room left : ℕ) →
      Continues format initial now limit lines reader room → Consumes now next piece → room ≡ left + length piece
      → ((k : ℕ) (rest : List ℕ) → outcome_on format new r k rest ≡ outcome_on format lines reader (k + length piece) (piece ++ rest)) → Continues format initial next limit new r left
  taken initial now next piece limit lines new reader r room left c e k same = record {
    read = c.read ++ piece;
    took = took_more initial now next c.read piece c.took e;
    counted = omega (arith, c.counted, k, length-append c.read piece);
    same = λ n more. same n more ∙ c.same (n + length piece) (piece ++ more) ∙ moved c.read piece more n;
  }

  -- the outcome of all is that of what is left
  all_is : (initial now : Option (List ℕ)) (limit : ℕ) (lines : Unread) (reader : S) (room : ℕ) (more : List ℕ)
      (c : Continues format initial now limit lines reader room) →
      outcome_on format lines reader room more ≡ outcome_from format limit 0 format.start (c.read ++ more)
  all_is initial now limit lines reader room more c = c.same room more ∙ ap (λ (n : ℕ). outcome_from format n 0 format.start (c.read ++ more)) c.counted

  -- an answer that speaks of no text
  pub any_text : (source : Option (List ℕ)) (limit : ℕ) (r : Result R ReadError) → ((o : Result R ReadError) → ReadsText r o) → Answers format source limit r
  any_text None limit r any = record { text = []; told = tt; answered = any _ }
  any_text (Some text) limit r any = record { text = text; told = refl; answered = any _ }

  -- a fault in a piece, whatever of the bytes behind it is held back
  pub stopped : (e : ReadError) (initial now next : Option (List ℕ)) (piece more : List ℕ) (limit : ℕ) (lines : Unread) (reader : S) (room left : ℕ) →
      Continues format initial now limit lines reader room → Consumes now next (piece ++ more) → room ≡ left + length piece
      → ((k : ℕ) (rest : List ℕ) → FailsAs e (outcome_on format lines reader (k + length piece) (piece ++ rest))) → Answers format initial limit (Err e)
  stopped e initial now next piece more limit lines reader room left c s k fails =
      let w = whole_text initial now next c.read (piece ++ more) c.took s in
      let o : outcome_on format lines reader (left + length piece) (piece ++ (more ++ w.rest)) ≡ outcome_from format limit 0 format.start
      (c.read ++ ((piece ++ more) ++ w.rest)) =
      rw (← k, ← append_assoc piece more w.rest) (all_is initial now limit lines reader room ((piece ++ more) ++ w.rest) c) in
      record { text = c.read ++ ((piece ++ more) ++ w.rest); told = w.told; answered = reads_err e _ (subst (λ (o : Result R ReadError). FailsAs e o) o (fails left (more ++ w.rest))) }

  pub over : (initial now next : Option (List ℕ)) (piece more : List ℕ) (limit : ℕ) (lines new : Unread) (reader r : S) (room : ℕ) →
      Continues format initial now limit lines reader room → Consumes now next (piece ++ more) → room ≡ length piece → 0 < length more →
      cut new.bytes ≡ None
      → ((k : ℕ) (rest : List ℕ) → outcome_on format new r k rest ≡ outcome_on format lines reader (k + length piece) (piece ++ rest)) → Answers format initial limit (Err errors.TooLong)
  over initial now next piece more limit lines new reader r room c s k lt none same =
      let w = whole_text initial now next c.read (piece ++ more) c.took s in
      let k0 : room ≡ 0 + length piece = omega (arith, k) in
      let o : outcome_on format lines reader (0 + length piece) (piece ++ (more ++ w.rest)) ≡ outcome_from format limit 0 format.start
      (c.read ++ ((piece ++ more) ++ w.rest)) =
      rw (← k0, ← append_assoc piece more w.rest) (all_is initial now limit lines reader room ((piece ++ more) ++ w.rest) c) in
      record {
        text = c.read ++ ((piece ++ more) ++ w.rest);
        told = w.told;
        answered =
            sym (same 0 (more ++ w.rest) ∙ o) ∙ too_long format new r (more ++ w.rest) none (omega (arith, length-append more w.rest));
      }

  pub ended : (initial now next : Option (List ℕ)) (limit : ℕ) (lines : Unread) (reader : S) (room : ℕ) (result : Result R ReadError) →
      Continues format initial now limit lines reader room → Consumes now next [] → IsAtEnd next
      → ((k : ℕ) → ReadGives result (outcome_on format lines reader k [])) → Answers format initial limit result
  ended initial now next limit lines reader room result c s e gives =
      let o : outcome_on format lines reader room [] ≡ outcome_from format limit 0 format.start c.read =
      all_is initial now limit lines reader room [] c ∙ ap (λ (t : List ℕ). outcome_from format limit 0 format.start t) (append-nil c.read) in
      record { text = c.read; told = at_end_is initial now next c.read c.took s e; answered = reads_gives result _ (subst (λ (o : Result R ReadError). ReadGives result o) o (gives room)) }

  -- what a caller sees of it
  answer_is : (source : Option (List ℕ)) (text : List ℕ) (limit : ℕ) (result : Result R ReadError) → IfSome source (λ t. t ≡ text) →
      ReadsText result (outcome_from format limit 0 format.start text) →
      IfSome source (λ t. ReadsText result (outcome_from format limit 0 format.start t))
  answer_is None text limit result e h = tt
  answer_is (Some t) text limit result e h = subst (λ (x : List ℕ). ReadsText result (outcome_from format limit 0 format.start x)) (sym e) h

  pub answer : (source : Option (List ℕ)) (limit : ℕ) (result : Result R ReadError) → Answers format source limit result →
      IfSome source (λ t. ReadsText result (outcome_from format limit 0 format.start t))
  answer source limit result a = answer_is source a.text limit result a.told a.answered

  pub some_answer : (source : Option (List ℕ)) (limit : ℕ) (result : Result R ReadError) → Answers format source limit result → (text : List ℕ) ×
      ReadsText result (outcome_from format limit 0 format.start text)
  some_answer source limit result a = (a.text, a.answered)

  abbrev failed : ReadError → Result S ReadError
  failed e = Err e

  abbrev failed_read : ReadError → Result R ReadError
  failed_read e = Err e

  abbrev too_long_read : Result R ReadError
  too_long_read = Err errors.TooLong

  refusal_is : (d e : ReadError) → failed_read d ≡ failed_read e → d ≡ e
  refusal_is d e h = cc

  pub stopped_as : (r : Result R ReadError) (y e : ReadError) (initial now next : Option (List ℕ)) (piece more : List ℕ) (limit : ℕ) (lines : Unread) (reader : S) (room left : ℕ) → r ≡ Err y → y ≡ e
      → Continues format initial now limit lines reader room → Consumes now next (piece ++ more) → room ≡ left + length piece
      → ((k : ℕ) (rest : List ℕ) → FailsAs e (outcome_on format lines reader (k + length piece) (piece ++ rest))) → Answers format initial limit r
  stopped_as r y e initial now next piece more limit lines reader room left p q c s k fails =
      subst (λ (x : Result R ReadError). Answers format initial limit x) (sym (p ∙ ap Err q)) (stopped e initial now next piece more limit lines reader room left c s k fails)

  -- ---- a failed read

  refuses : (number : ℕ) (seen : S) (lines : List (List ℕ)) → judge_all format number seen lines ≡ Err errors.TooLong → ⊥
  unfolding judge_all
  refuses number seen [] e = absurd cc
  refuses number seen (line ∷ lines) e = (elim (judge_by format seen line) as (λ v. judge_next number v (λ s. judge_all format (number + 1) s lines) ≡ Err errors.TooLong → ⊥) [
    | Ok s ↦ λ h. refuses (number + 1) s lines h
    | Err f ↦ λ h. absurd cc
  ]) e

  is_clean : (r : Result S ReadError) → (r ≡ Err errors.TooLong → ⊥) → (r >>= λ _. too_long_read) ≡ too_long_read → IsOk r
  is_clean (Ok s) other e = refl
  is_clean (Err e') other e = absurd (other (ap failed (refusal_is e' errors.TooLong e)))

  -- with a limit behind what was read, only a fault of a line in it keeps the text from being too long
  clean : (lines : Unread) (reader : S) (read : List ℕ) → cut lines.bytes ≡ None →
      ((k : ℕ) (more : List ℕ) → outcome_on format lines reader k more ≡ outcome_from format (k + length read) 0 format.start (read ++ more))
      → IsOk (judge_all format 1 format.start (lines_of (whole read)))
  unfolding outcome_from
  clean lines reader read none same =
      let long : outcome_from format (0 + length read) 0 format.start (read ++ 0 ∷ []) ≡ too_long_read = sym (same 0 (0 ∷ [])) ∙ too_long format lines reader (0 ∷ []) none (omega arith) in
      let front : take (0 + length read) (read ++ 0 ∷ []) ≡ read = rw zero-add (take-append_seam read (0 ∷ [])) in
      is_clean (judge_all format 1 format.start (lines_of (whole read))) (refuses 1 format.start (lines_of (whole read)))
      (rw (beyond read (0 ∷ []) (omega arith), front) at long)

  -- ---- where reading stops

  -- without memory to begin with
  pub stops_unread : (limit : ℕ) (source : Option (List ℕ)) → StopsBy format limit source source (Err errors.Memory)
  unfolding judge_all
  stops_unread limit None = tt
  stops_unread limit (Some text) = record { before = []; last = []; stands = refl; no_fault = refl; fits = omega arith; decides = tt }

  stops_at : (limit : ℕ) (initial now next : Option (List ℕ)) (read last : List ℕ) (result : Result R ReadError) → Took initial now read → Consumes now next last
      → IsOk (judge_all format 1 format.start (lines_of (whole read))) → length read ≤ limit →
      ((rest : List ℕ) → next ≡ Some rest → Decides format limit read last rest result) → StopsBy format limit initial next result
  stops_at limit None now next read last result c e ok le d = tt
  stops_at limit (Some text) None next read last result c e ok le d = absurd c
  stops_at limit (Some text) (Some xs) None read last result c e ok le d = absurd e
  stops_at limit (Some text) (Some xs) (Some ys) read last result c e ok le d = record {
    before = read;
    last = last;
    stands = c ∙ ap (λ (t : List ℕ). read ++ t) e;
    no_fault = ok;
    fits = le;
    decides = d ys refl;
  }

  -- what was read before this read, and this read gave, where the reading goes by these lines
  pub stops : (limit : ℕ) (initial now next : Option (List ℕ)) (last : List ℕ) (lines : Unread) (reader : S) (room : ℕ) (result : Result R ReadError)
      (c : Continues format initial now limit lines reader room) → Consumes now next last
      → cut lines.bytes ≡ None → ((rest : List ℕ) → next ≡ Some rest → Decides format limit c.read last rest result) → StopsBy format limit initial next result
  stops limit initial now next last lines reader room result c e none d =
      stops_at limit initial now next c.read last result c.took e (clean lines reader c.read none c.same) (omega (arith, c.counted)) d

  pub stops_failed : (limit : ℕ) (initial now next : Option (List ℕ)) (lines : Unread) (reader : S) (room : ℕ) →
      Continues format initial now limit lines reader room → Keeps now next → cut lines.bytes ≡ None →
      StopsBy format limit initial next (Err errors.ReadFault)
  stops_failed limit initial now next lines reader room c k none = stops limit initial now next [] lines reader room (Err errors.ReadFault) c (consumes_none now next k) none (λ rest is. refl)

  at_the_end : (limit : ℕ) (read rest : List ℕ) (result : Result R ReadError) → IfErr result IsOfLines → rest ≡ [] → Decides format limit read [] rest result
  at_the_end limit read rest (Ok p) of_lines e = record { nothing = refl; none_left = e }
  at_the_end limit read rest (Err errors.Memory) of_lines e = tt
  at_the_end limit read rest (Err errors.ReadFault) of_lines e = absurd of_lines
  at_the_end limit read rest (Err errors.TooLong) of_lines e = absurd of_lines
  at_the_end limit read rest (Err (errors.Refused f n)) of_lines e = inr (record { nothing = refl; none_left = e })

  pub stops_ended : (limit : ℕ) (initial now next : Option (List ℕ)) (lines : Unread) (reader : S) (room : ℕ) (result : Result R ReadError) →
      Continues format initial now limit lines reader room → Consumes now next [] → IsAtEnd next
      → cut lines.bytes ≡ None → IfErr result IsOfLines → StopsBy format limit initial next result
  stops_ended limit initial now next lines reader room result c e at_end none of_lines =
      stops limit initial now next [] lines reader room result c e none (λ rest is. at_the_end limit c.read rest result of_lines (nothing_left next rest at_end is))

  -- the outcome of what was read and of whatever follows it
  whatever : (initial now : Option (List ℕ)) (piece more after : List ℕ) (limit : ℕ) (lines : Unread) (reader : S) (room left : ℕ)
      (c : Continues format initial now limit lines reader room) → room ≡ left + length piece
      → outcome_on format lines reader (left + length piece) (piece ++ (more ++ after)) ≡ outcome_from format limit 0 format.start ((c.read ++ (piece ++ more)) ++ after)
  whatever initial now piece more after limit lines reader room left c k =
      rw (← k, ← append_assoc piece more after, append_assoc c.read (piece ++ more) after) (all_is initial now limit lines reader room ((piece ++ more) ++ after) c)

  settled : (limit : ℕ) (read last rest : List ℕ) (e : ReadError) → IsOfLines e →
      ((after : List ℕ) → FailsAs e (outcome_from format limit 0 format.start ((read ++ last) ++ after))) →
      Decides format limit read last rest (Err e)
  settled limit read last rest errors.Memory of_lines fails = tt
  settled limit read last rest errors.ReadFault of_lines fails = absurd of_lines
  settled limit read last rest errors.TooLong of_lines fails = absurd of_lines
  settled limit read last rest (errors.Refused f n) of_lines fails = inl fails

  -- a fault in a piece of what the last read gave
  pub stops_refused : (r : Result R ReadError) (y e : ReadError) (initial now next : Option (List ℕ)) (piece more : List ℕ) (limit : ℕ)
      (lines : Unread) (reader : S) (room left : ℕ) → r ≡ Err y → y ≡ e
      → Continues format initial now limit lines reader room → Consumes now next (piece ++ more) → room ≡ left + length piece → cut lines.bytes ≡ None → IsOfLines e
      → ((k : ℕ) (rest : List ℕ) → FailsAs e (outcome_on format lines reader (k + length piece) (piece ++ rest))) → StopsBy format limit initial next r
  stops_refused r y e initial now next piece more limit lines reader room left p q c s k none of_lines fails =
      subst (λ (x : Result R ReadError). StopsBy format limit initial next x) (sym (p ∙ ap Err q)) (stops limit initial now next (piece ++ more) lines reader room (Err e) c s none
      (λ rest is. settled limit c.read (piece ++ more) rest e of_lines
      (λ after. subst (λ (o : Result R ReadError). FailsAs e o) (whatever initial now piece more after limit lines reader room left c k)
      (fails left (more ++ after)))))

  -- more than may come, of which the front has no fault
  pub stops_over : (initial now next : Option (List ℕ)) (piece more : List ℕ) (limit : ℕ) (lines new : Unread) (reader r : S) (room : ℕ) →
      Continues format initial now limit lines reader room → Consumes now next (piece ++ more) → room ≡ length piece → 0 < length more
      → cut lines.bytes ≡ None → cut new.bytes ≡ None →
      ((k : ℕ) (rest : List ℕ) → outcome_on format new r k rest ≡ outcome_on format lines reader (k + length piece) (piece ++ rest)) →
      StopsBy format limit initial next (Err errors.TooLong)
  stops_over initial now next piece more limit lines new reader r room c s k lt none none_new same =
      let k0 : room ≡ 0 + length piece = omega (arith, k) in
      stops limit initial now next (piece ++ more) lines reader room (Err errors.TooLong) c s none
      (λ rest is after. sym (same 0 (more ++ after) ∙ whatever initial now piece more after limit lines reader room 0 c k0)
      ∙ too_long format new r (more ++ after) none_new (omega (arith, lt, length-append more after)))

-- the program of an aspif text is sound
pub sound_text : (result : Result Program ReadError) → (text : List ℕ) × ReadsText result (outcome text) → IfOk result IsSound
sound_text (Ok p) t = outcome-sound t.0 p t.1
sound_text (Err e) t = tt
