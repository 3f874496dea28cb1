-- Entries in blocks of 64 and a tail.
use Rattle.std.proofs.Common.{◌≡◌, ℕ, zero, suc, ◌+◌, ◌*◌, ◌/◌, ◌%◌, ◌-◌, ◌<◌, ◌≤◌, List, [], ◌∷◌, ◌++◌, length, get_or, take, drop, map, refl, sym, ap, ◌∙◌, arith, append_assoc}
use Rattle.std.proofs.lemmas.List.{append-nil, length-append, length-drop, length-map, get_or-drop, get_or_append_left, get_or-append-add}
use Rattle.std.proofs.lemmas.Option.{slice_get_read}
use Rattle.std.specs.Prelude.{Some, slice_get}
use Rattle.std.proofs.Math.Seq.{drop-append-add, take-length}
use Rattle.std.specs.Arc.{arc_value}
use Rattle.std.specs.declared.sync.Arc.{Arc}
use Rattle.asp_vars.specs.declared.nogood.Nogood.{Nogood}
use Rattle.asp_log.specs.declared.block.Block.{Block}
use Rattle.asp_log.specs.Blocks.{blocked, stored}

module _ {Z : Type 0} where
  block_length : (b : Arc Block Z) → length (arc_value b).items.items ≡ 64
  block_length b = omega (arith, (arc_value b).full)

  pub length-blocked : (blocks : List (Arc Block Z)) → length (blocked blocks) ≡ 64 * length blocks
  length-blocked [] = refl
  length-blocked (b ∷ blocks) = omega (arith, length-blocked blocks, block_length b, length-append (arc_value b).items.items (blocked blocks))

  pub length-stored : (blocks : List (Arc Block Z)) (tail : List Nogood) → length (stored blocks tail) ≡ length blocks * 64 + length tail
  length-stored blocks tail = omega (arith, length-blocked blocks, length-append (blocked blocks) tail)

  blocked-push : (blocks : List (Arc Block Z)) (b : Arc Block Z) → blocked (blocks ++ b ∷ []) ≡ blocked blocks ++ (arc_value b).items.items
  blocked-push [] b = append-nil (arc_value b).items.items
  blocked-push (x ∷ blocks) b = ap (λ (l : List Nogood). (arc_value x).items.items ++ l) (blocked-push blocks b)
      ∙ sym (append_assoc (arc_value x).items.items (blocked blocks) (arc_value b).items.items)

  -- the tail and one entry more are a block
  pub stored-filled : (blocks new : List (Arc Block Z)) (b : Arc Block Z) (tail none : List Nogood) (e : Nogood) → new ≡ blocks ++ b ∷ [] → (arc_value b).items.items ≡ tail ++ e ∷ [] → none ≡ []
      → stored new none ≡ stored blocks tail ++ e ∷ []
  stored-filled blocks new b tail none e pushed full empty =
      ap (λ (l : List Nogood). blocked new ++ l) empty ∙ append-nil (blocked new) ∙ ap blocked pushed ∙ blocked-push blocks b
      ∙ ap (λ (l : List Nogood). blocked blocks ++ l) full ∙ sym (append_assoc (blocked blocks) tail (e ∷ []))

  -- blocks with the same contents
  pub blocked-same : (xs ys : List (Arc Block Z)) → map arc_value xs ≡ map arc_value ys → blocked xs ≡ blocked ys
  blocked-same xs ys e = by_contents xs ∙ ap contents e ∙ sym (by_contents ys)
    where
      contents : List Block → List Nogood
      contents [] = []
      contents (b ∷ bs) = b.items.items ++ contents bs

      by_contents : (zs : List (Arc Block Z)) → blocked zs ≡ contents (map arc_value zs)
      by_contents [] = refl
      by_contents (z ∷ zs) = ap (λ (l : List Nogood). (arc_value z).items.items ++ l) (by_contents zs)

  -- whole blocks left out at the front
  pub drop-stored : (blocks : List (Arc Block Z)) (tail : List Nogood) (k m n : ℕ) → k ≤ length blocks → n ≡ 64 * k + m → drop n (stored blocks tail) ≡ drop m (stored (drop k blocks) tail)
  drop-stored blocks tail zero m n le is = ap (λ (i : ℕ). drop i (stored blocks tail)) (omega arith)
  drop-stored [] tail (suc k) m n le is = absurd (omega arith)
  drop-stored (b ∷ blocks) tail (suc k) m n le is =
      let first : List Nogood = (arc_value b).items.items in
      let at : n ≡ length first + (64 * k + m) = omega (arith, block_length b) in
      ap (λ (l : List Nogood). drop n l) (append_assoc first (blocked blocks) tail) ∙ ap (λ (i : ℕ). drop i (first ++ stored blocks tail)) at
      ∙ drop-append-add first (stored blocks tail) (64 * k + m) ∙ drop-stored blocks tail k m (64 * k + m) (omega arith) refl

  -- an entry within a block
  pub at-blocked : (blocks : List (Arc Block Z)) (tail : List Nogood) (k m n : ℕ) (b : Arc Block Z) (d : Nogood) → k < length blocks → m < 64 → n ≡ 64 * k + m → b ≡ get_or blocks k b
      → get_or (stored blocks tail) n d ≡ get_or (arc_value b).items.items m d
  at-blocked [] tail k m n b d lt small is at = absurd (omega arith)
  at-blocked (x ∷ blocks) tail zero m n b d lt small is at =
      let first : List Nogood = (arc_value x).items.items in
      let same : n ≡ m = omega arith in
      let within : n < length first = omega (arith, block_length x) in
      ap (λ (l : List Nogood). get_or l n d) (append_assoc first (blocked blocks) tail) ∙ get_or_append_left first (stored blocks tail) d n within
      ∙ ap (λ (i : ℕ). get_or first i d) same ∙ ap (λ (y : Arc Block Z). get_or (arc_value y).items.items m d) (sym at)
  at-blocked (x ∷ blocks) tail (suc k) m n b d lt small is at =
      let first : List Nogood = (arc_value x).items.items in
      let place : n ≡ length first + (64 * k + m) = omega (arith, block_length x) in
      ap (λ (l : List Nogood). get_or l n d) (append_assoc first (blocked blocks) tail) ∙ ap (λ (i : ℕ). get_or (first ++ stored blocks tail) i d) place
      ∙ get_or-append-add first (stored blocks tail) (64 * k + m) d ∙ at-blocked blocks tail k m (64 * k + m) b d (omega arith) small refl at

  -- an entry in the tail
  pub at-tail : (blocks : List (Arc Block Z)) (tail : List Nogood) (m n : ℕ) (d : Nogood) → n ≡ 64 * length blocks + m → get_or (stored blocks tail) n d ≡ get_or tail m d
  at-tail blocks tail m n d is =
      let place : n ≡ length (blocked blocks) + m = omega (arith, length-blocked blocks) in
      ap (λ (i : ℕ). get_or (stored blocks tail) i d) place ∙ get_or-append-add (blocked blocks) tail m d

  -- a reader's entries: blocks with the contents of those from the k-th on, and the tail
  pub stored-shown : (blocks more : List (Arc Block Z)) (tail copies : List Nogood) (from : ℕ) → from ≤ length (stored blocks tail) →
      length tail < 64 → map arc_value more ≡ map arc_value (drop (from / 64) blocks) → copies ≡ tail
      → drop (from % 64) (stored more copies) ≡ drop from (stored blocks tail)
  stored-shown blocks more tail copies from within small same copied =
      ap (λ (l : List Nogood). drop (from % 64) (l ++ copies)) (blocked-same more (drop (from / 64) blocks) same)
      ∙ ap (λ (l : List Nogood). drop (from % 64) (stored (drop (from / 64) blocks) l)) copied
      ∙ sym (drop-stored blocks tail (from / 64) (from % 64) from (omega (arith, length-stored blocks tail)) (omega arith))

  pub length-shown : (blocks more : List (Arc Block Z)) (tail copies : List Nogood) (from : ℕ) → from ≤ length (stored blocks tail) →
      length tail < 64 → map arc_value more ≡ map arc_value (drop (from / 64) blocks) → copies ≡ tail
      → length (stored more copies) + 64 * (from / 64) ≡ length (stored blocks tail)
  length-shown blocks more tail copies from within small same copied =
      omega (
        arith,
        length-stored blocks tail,
        length-stored more copies,
        ap length same,
        length-map more (arc_value {X = Block} {Z = Z}),
        length-map (drop (from / 64) blocks) (arc_value {X = Block} {Z = Z}),
        length-drop (from / 64) blocks,
        ap length copied,
      )

-- what stands at a place of a list of which some are left out at the front
pub shown-at : (V S : List Nogood) (s i : ℕ) (x : Nogood) → drop s S ≡ V → i < length V → x ≡ get_or S (s + i) x → slice_get V i ≡ Some x
shown-at V S s i x is lt at = slice_get_read V (length V) i x refl lt (at ∙ sym (get_or-drop s S i x) ∙ ap (λ (l : List Nogood). get_or l i x) is)

-- all that is left
pub take-rest : {X : Type 0} (xs : List X) (k : ℕ) → take (length xs - k) (drop k xs) ≡ drop k xs
take-rest xs k = ap (λ n. take n (drop k xs)) (sym (length-drop k xs)) ∙ take-length (drop k xs)
