-- A source that is read line by line.
use Rattle.std.proofs.Common.{◌≡◌, ◌≢◌, ℕ, ◌+◌, ◌-◌, ◌<◌, ◌≤◌, Bool, true, false, List, [], ◌∷◌, ◌++◌, length, take, drop, Option, None, Some, Result, Ok, Err, refl, sym, ap, subst, ◌∙◌, arith, append_assoc, append-nil, length-append}
use Rattle.std.specs.Io.KnownBytes.{Consumes}
use Rattle.std.proofs.lemmas.List.{length-take-le, length-drop, drop-take, drop-drop}
use Rattle.std.proofs.Math.Seq.{drop-append-add}
use Rattle.asp_model.proofs.MemberLaws.{each-append}
use Rattle.asp_proof.specs.declared.error.ProofError.{ProofError}
use Rattle.asp_proof.specs.declared.error.ProofError.TheVariants as errors
use Rattle.asp_proof.specs.Grammar.{IsUnbroken, most_bytes}
use Rattle.asp_proof.specs.Fields.{IsCut}
use Rattle.asp_proof.specs.Reading.{Window, window, HasLongLine, TakesPiece, Fills, Moves, HasMore}

-- ---- what is left of a piece
abbrev part : ℕ → ℕ → List ℕ → List ℕ
part s e xs = take (e - s) (drop s xs)

part_length : (s e : ℕ) (xs : List ℕ) → e ≤ length xs → length (part s e xs) ≡ e - s
part_length s e xs le = length-take-le (e - s) (drop s xs) (omega (arith, length-drop s xs, le))

pub unused : (s e : ℕ) (xs : List ℕ) → s ≤ e → e ≤ length xs → s ≢ e → part s e xs ≡ [] → ⊥
unused s e xs le within differ h = differ (omega (arith, ap length h, part_length s e xs within, le))

tail_at : (front more xs : List ℕ) (b s e : ℕ) → e ≤ length xs → front ++ b ∷ more ≡ part s e xs → part (s + length front + 1) e xs ≡ more
tail_at front more xs b s e within h =
    let k = length front + 1 in
    let fits : k ≤ e - s = omega (arith, ap length h, length-append front (b ∷ more), part_length s e xs within) in
    let m = e - (s + length front + 1) in
    let sum : k + m ≡ e - s = omega (arith, fits) in
    let at : s + length front + 1 ≡ s + k = omega arith in
    ap (λ j. take m (drop j xs)) at
    ∙ ap (take m) (sym (drop-drop k s xs))
    ∙ sym (drop-take k m (drop s xs))
    ∙ ap (λ n. drop k (take n (drop s xs))) sum
    ∙ ap (drop k) (sym h)
    ∙ drop-append-add front (b ∷ more) 1

pub piece_ended : (line front rest xs : List ℕ) (s e : ℕ) → e ≤ length xs → IsUnbroken line → IsCut 10 (part s e xs) front rest → rest ≢ []
    → TakesPiece (window line (part s e xs)) (window (line ++ front) (part (s + length front + 1) e xs)) (Ok true)
piece_ended line front [] xs s e within u cut more = absurd (more refl)
piece_ended line front (b ∷ rest) xs s e within u cut more = (
  each-append (λ c. c ≢ 10) line front u cut.none,
  ap (λ (t : List ℕ). (line ++ front) ++ 10 ∷ t) (tail_at front rest xs b s e within cut.whole)
      ∙ ap (λ c. (line ++ front) ++ c ∷ rest) (sym cut.at)
      ∙ append_assoc line front (b ∷ rest)
      ∙ ap (λ (t : List ℕ). line ++ t) cut.whole,
)

pub piece_long : (line front rest ys : List ℕ) → IsUnbroken line → IsCut 10 ys front rest → most_bytes < length line + length front → HasLongLine (line ++ ys)
piece_long line front rest ys u cut lt = record {
  front = [];
  line = line ++ front;
  rest = rest;
  parted = append_assoc line front rest ∙ ap (λ (t : List ℕ). line ++ t) cut.whole;
  unbroken = each-append (λ c. c ≢ 10) line front u cut.none;
  long = omega (arith, length-append line front, lt);
}

-- ---- bytes that were read
consumes_none : (source : Option (List ℕ)) → Consumes source source []
consumes_none None = tt
consumes_none (Some t) = refl

consumes_on : (source now later : Option (List ℕ)) (xs ys : List ℕ) → Consumes source now xs → Consumes now later ys → Consumes source later (xs ++ ys)
consumes_on None now later xs ys a b = tt
consumes_on (Some t) None later xs ys a b = absurd a
consumes_on (Some t) (Some u) None xs ys a b = absurd b
consumes_on (Some t) (Some u) (Some v) xs ys a b = a ∙ ap (λ (r : List ℕ). xs ++ r) b ∙ sym (append_assoc xs ys v)

pub moves_none : (source : Option (List ℕ)) (xs : List ℕ) → Moves source source xs xs
moves_none source xs = record { bytes = []; read = consumes_none source; same = sym (append-nil xs) }

pub moves_on : (source now later : Option (List ℕ)) (before after piece : List ℕ) → Moves source now before after → Consumes now later piece → Moves source later before (after ++ piece)
moves_on source now later before after piece m c = record {
  bytes = m.bytes ++ piece;
  read = consumes_on source now later m.bytes piece m.read c;
  same = ap (λ (t : List ℕ). t ++ piece) m.same ∙ append_assoc before m.bytes piece;
}

pub moves_as : (source now : Option (List ℕ)) (before after other : List ℕ) → after ≡ other → Moves source now before after → Moves source now before other
moves_as source now before after other e m = subst (Moves source now before) e m

pub filled_has : (source now : Option (List ℕ)) (old new : Window) (r : Result Bool ProofError) → old.behind ≡ [] → Fills source now old new r → HasMore source now old new r
filled_has source now old new (Ok true) none h = (new.behind, h.2, record { bytes = new.behind; read = h.1; same = ap (λ (t : List ℕ). t ++ new.behind) (sym none) })
filled_has source now old new (Ok false) none h = (none, record { bytes = []; read = h.1; same = refl }, h.2)
filled_has source now old new (Err e) none h = h

pub moves_then : (source now later : Option (List ℕ)) (before after end : List ℕ) → Moves source now before after → Moves now later after end → Moves source later before end
moves_then source now later before after end m n = moves_as source later before (after ++ n.bytes) end (sym n.same) (moves_on source now later before after n.bytes m n.read)
