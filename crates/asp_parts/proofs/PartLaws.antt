-- Parts that stand in a row.
use Rattle.std.proofs.Common.{◌≡◌, ◌+◌, ◌<◌, true, List, [], ◌∷◌, ◌++◌, length, Option, Some, None, refl, sym, ap, ◌∙◌, subst, append_assoc, append-nil, length-append, arith}
use Rattle.std.specs.Prelude.{option_to_list, reverse, IfSome, IsSome, OnOk, Result, Ok, Err, ℤ}
use Rattle.std.specs.List.{AllByRecursion, list_any}
use Rattle.std.proofs.lemmas.Bool.{false≢true, or_left, or_right}
use Rattle.std.proofs.lemmas.List.{reverse-append}
use Rattle.std.proofs.lemmas.Grind.{flat_map-append}
use Rattle.asp_model.specs.declared.program.Program.{Program}
use Rattle.asp_model.specs.Models.{answers, atoms_of}
use Rattle.asp_model.specs.Sets.{Atoms, same_set}
use Rattle.asp_model.proofs.ListedLaws.{same_set-itself}
use Rattle.asp_model.proofs.MemberLaws.{each-append, each-front, each_weaker}
use Rattle.asp_vars.proofs.StandingLaws.{back-append}
use Rattle.asp_rows.specs.Bits.{IsAmong}
use Rattle.asp_core.specs.declared.goal.Goal.TheVariants as goal
use Rattle.asp_core.specs.declared.task.Task.{Task}
use Rattle.asp_core.specs.Boards.{is_answer}
use Rattle.asp_core.specs.Sorting.{answers_of}
use Rattle.asp_core.proofs.SortingLaws.{has-answers_of}
use Rattle.asp_core.proofs.StateLaws.{answer-among}
use Rattle.asp_split.specs.declared.leaf.Leaf.{Leaf}
use Rattle.asp_split.specs.Dividing.{AreLeaves, IsLeaf, IsWhole, part, sets_of}
use Rattle.asp_parts.specs.declared.part.Part.{Part}
use Rattle.asp_parts.specs.Parts.{AreParts, ArePieces, HasSame, IsListed, IsPart, IsPlaced, IsTurned, sets_back}
use Rattle.asp_parts.specs.declared.part.Found.{Found as Listed}

abbrev part_of : Program → Part → List Atoms
part_of p t = part p t.leaf.cube

-- ---- the sets of a row
pub sets_back-append : (p : Program) (xs ys : List Part) → sets_back p (xs ++ ys) ≡ sets_back p ys ++ sets_back p xs
sets_back-append p [] ys = sym (append-nil (sets_back p ys))
sets_back-append p (t ∷ xs) ys =
    ap (λ (Ss : List Atoms). Ss ++ part p t.leaf.cube) (sets_back-append p xs ys) ∙ append_assoc (sets_back p ys) (sets_back p xs) (part p t.leaf.cube)

-- ---- other parts of the same sets
pub same-self : (p : Program) (xs : List Part) → AreParts p xs → HasSame p xs xs
same-self p xs is = record { parts = is; sets = refl }

pub same-then : (p : Program) (xs ys zs : List Part) → HasSame p xs ys → HasSame p ys zs → HasSame p xs zs
same-then p xs ys zs a b = record { parts = b.parts; sets = b.sets ∙ a.sets }

-- ---- parts come after others
pub placed-none : (p : Program) (old : List Part) → IsPlaced p old old []
placed-none p old = record { added = []; is = sym (append-nil old); parts = tt; are = refl }

pub placed-more : (p : Program) (old mid new : List Part) (t : Part) (sets : List Atoms) → IsPlaced p old mid sets → new ≡ mid ++ t ∷ [] → IsPart p t →
    IsPlaced p old new (part p t.leaf.cube ++ sets)
placed-more p old mid new t sets placed now is = record {
  added = placed.added ++ t ∷ [];
  is = now ∙ (ap (λ (ts : List Part). ts ++ t ∷ []) placed.is ∙ append_assoc old placed.added (t ∷ []));
  parts = each-append (IsPart p) placed.added (t ∷ []) placed.parts (is, tt);
  are = sets_back-append p placed.added (t ∷ []) ∙ ap (λ (Ss : List Atoms). part p t.leaf.cube ++ Ss) placed.are;
}

pub placed-are : (p : Program) (old new : List Part) (A B : List Atoms) → A ≡ B → IsPlaced p old new A → IsPlaced p old new B
placed-are p old new A B same placed = subst (λ (Ss : List Atoms). IsPlaced p old new Ss) same placed

-- what stands after others that have gone
pub parts-last : (p : Program) (xs : List Part) (t : Part) → AreParts p (xs ++ t ∷ []) → IsPart p t
parts-last p xs t is = (back-append (IsPart p) xs (t ∷ []) is).0

pub parts-front : (p : Program) (xs ys : List Part) → AreParts p (xs ++ ys) → AreParts p xs
parts-front p xs ys is = each-front (IsPart p) xs ys is

-- ---- answers
each-tested : (P : Atoms → Type 0) (L : List Atoms) → ((S : Atoms) → list_any (same_set S) L ≡ true → P S) → AllByRecursion P L
each-tested P [] h = tt
each-tested P (S ∷ L) h = (h S (or_left (same_set S S) (list_any (same_set S) L) (same_set-itself S)), each-tested P L (λ T in_L. h T (or_right (same_set T S) (list_any (same_set T) L) in_L)))

pub each-answer : (t : Task) → AllByRecursion (λ S. is_answer t S ≡ true) (answers_of t)
each-answer t = each-tested (λ S. is_answer t S ≡ true) (answers_of t) (λ S listed. sym (has-answers_of t S) ∙ listed)

pub answers-among : (t : Task) → AllByRecursion (IsAmong (atoms_of t.program)) (answers_of t)
answers-among t = each_weaker (λ S. is_answer t S ≡ true) (IsAmong (atoms_of t.program)) (λ S answer. answer-among t S answer) (answers_of t) (each-answer t)

-- the sets of a part are among the program's atoms
pub part-among : (p : Program) (cube : List ℤ) → AllByRecursion (IsAmong (atoms_of p)) (part p cube)
part-among p cube = answers-among (let t : Task = record { program = p; goal = goal.Enum; budget = 0; limit = 0; query = cube } in t)

-- ---- parts that are put after others, the last one's first
-- the leaves that are left, and then what was put
pub record IsPutting (p : Program) (all : List Atoms) (old new : List Part) (leaves : List Leaf) : Type 0 where
  pub leaves_are : AreLeaves p leaves
  pub sets : List Atoms
  pub placed : IsPlaced p old new sets
  pub are : sets_of p leaves ++ sets ≡ all

pub putting-begins : (p : Program) (old : List Part) (leaves : List Leaf) → AreLeaves p leaves → IsPutting p (sets_of p leaves) old old leaves
putting-begins p old leaves is = record { leaves_are = is; sets = []; placed = placed-none p old; are = append-nil (sets_of p leaves) }

pub putting-next : (p : Program) (all : List Atoms) (old mid new : List Part) (leaves left : List Leaf) (taken : Option Leaf) (leaf : Leaf) (t : Part) → IsPutting p all old mid leaves →
    leaves ≡ left ++ option_to_list taken → taken ≡ Some leaf → t.leaf ≡ leaf → IsPart p t → new ≡ mid ++ t ∷ [] → IsPutting p all old new left
putting-next p all old mid new leaves left taken leaf t is split some same is_part now =
    let e : leaves ≡ left ++ leaf ∷ [] = split ∙ ap (λ (o : Option Leaf). left ++ option_to_list o) some in
    record {
      leaves_are = each-front (IsLeaf p) left (leaf ∷ []) (subst (AreLeaves p) e is.leaves_are);
      sets = part_of p t ++ is.sets;
      placed = placed-more p old mid new t is.sets is.placed now is_part;
      are =
          sym (append_assoc (sets_of p left) (part_of p t) is.sets)
          ∙ ap (λ (Ss : List Atoms). Ss ++ is.sets)
          (ap (λ (l : Leaf). sets_of p left ++ part p l.cube) same ∙ ap (λ (Ss : List Atoms). sets_of p left ++ Ss) (sym (append-nil (part p leaf.cube)))
          ∙ sym (flat_map-append (λ (l : Leaf). part p l.cube) left (leaf ∷ [])) ∙ ap (sets_of p) (sym e))
          ∙ is.are;
    }

pub putting-leaf : (p : Program) (all : List Atoms) (old new : List Part) (leaves left : List Leaf) (taken : Option Leaf) (leaf : Leaf) → IsPutting p all old new leaves →
    leaves ≡ left ++ option_to_list taken → taken ≡ Some leaf → IsLeaf p leaf
putting-leaf p all old new leaves left taken leaf is split some =
    (back-append (IsLeaf p) left (leaf ∷ []) (subst (AreLeaves p) (split ∙ ap (λ (o : Option Leaf). left ++ option_to_list o) some) is.leaves_are)).0

pub putting-ends : (p : Program) (all : List Atoms) (old new : List Part) (leaves : List Leaf) → IsPutting p all old new leaves → leaves ≡ [] → IsPlaced p old new all
putting-ends p all old new leaves is none = placed-are p old new is.sets all (ap (λ (ls : List Leaf). sets_of p ls ++ is.sets) (sym none) ∙ is.are) is.placed

-- ---- one part gives way to what is put after the parts before it
pub same-pass : (p : Program) (all done new rest : List Part) (t : Part) → HasSame p all (done ++ t ∷ rest) → IsPlaced p done new (part p t.leaf.cube) → HasSame p all (new ++ rest)
same-pass p all done new rest t is placed = record {
  parts =
      each-append (IsPart p) new rest
      (subst (AreParts p) (sym placed.is) (each-append (IsPart p) done placed.added (each-front (IsPart p) done (t ∷ rest) is.parts) placed.parts))
      (back-append (IsPart p) done (t ∷ rest) is.parts).1;
  sets =
      sets_back-append p new rest
      ∙ ap (λ (Ss : List Atoms). sets_back p rest ++ Ss) (ap (sets_back p) placed.is ∙ sets_back-append p done placed.added ∙ ap (λ (Ss : List Atoms). Ss ++ sets_back p done) placed.are)
      ∙ sym (append_assoc (sets_back p rest) (part p t.leaf.cube) (sets_back p done))
      ∙ sym (sets_back-append p done (t ∷ rest)) ∙ is.sets;
}

-- ---- the last of some
some_none : {X : Type 0} (o : Option X) → IsSome o → o ≡ None → ⊥
some_none {X = X} o some none = false≢true (subst (λ (o : Option X). IsSome o) none some)

-- none comes only where none is left
pub none_left : {X : Type 0} (xs : List X) (taken : Option X) → (0 < length xs → IsSome taken) → taken ≡ None → xs ≡ []
none_left [] taken some none = refl
none_left (x ∷ xs) taken some none = absurd (some_none taken (some (omega arith)) none)

pub last_taken : {X : Type 0} (xs left : List X) (taken : Option X) (x : X) → xs ≡ left ++ option_to_list taken → taken ≡ Some x → xs ≡ left ++ x ∷ []
last_taken {X = X} xs left taken x split some = split ∙ ap (λ (o : Option X). left ++ option_to_list o) some

-- ---- one part is worked on
-- it was searched, and is done
pub taken-found : (p : Program) (waiting done new : List Part) (t : Part) → AreParts p (waiting ++ t ∷ reverse done) → new ≡ done ++ t ∷ [] →
    HasSame p (waiting ++ t ∷ reverse done) (waiting ++ reverse new)
taken-found p waiting done new t are now =
    let e : waiting ++ t ∷ reverse done ≡ waiting ++ reverse new = ap (λ (ts : List Part). waiting ++ ts) (sym (ap reverse now ∙ reverse-append done (t ∷ []))) in
    subst (HasSame p (waiting ++ t ∷ reverse done)) e (same-self p (waiting ++ t ∷ reverse done) are)

-- it is done, and its answers are known now
pub taken-now : (p : Program) (waiting done new : List Part) (t u : Part) (f : Listed) → AreParts p (waiting ++ t ∷ reverse done) → u.leaf ≡ t.leaf → u.found ≡ Some f →
    IsListed p (part p t.leaf.cube) f → new ≡ done ++ u ∷ [] → HasSame p (waiting ++ t ∷ reverse done) (waiting ++ reverse new)
taken-now p waiting done new t u f are leaf found listed now =
    let rest : List Part = reverse done in
    let back = back-append (IsPart p) waiting (t ∷ rest) are in
    let known : IfSome u.found (IsListed p (part p u.leaf.cube)) =
    subst (λ (l : Leaf). IfSome u.found (IsListed p (part p l.cube))) (sym leaf) (subst (λ (o : Option Listed). IfSome o (IsListed p (part p t.leaf.cube))) (sym found) listed) in
    let is : IsPart p u = record { leaf = subst (IsLeaf p) (sym leaf) back.0.leaf; found = known } in
    let e : waiting ++ u ∷ rest ≡ waiting ++ reverse new = ap (λ (ts : List Part). waiting ++ ts) (sym (ap reverse now ∙ reverse-append done (u ∷ []))) in
    subst (HasSame p (waiting ++ t ∷ rest)) e (record {
      parts = each-append (IsPart p) waiting (u ∷ rest) (each-front (IsPart p) waiting (t ∷ rest) are) (is, back.1);
      sets =
          sets_back-append p waiting (u ∷ rest)
          ∙ ap (λ (l : Leaf). (sets_back p rest ++ part p l.cube) ++ sets_back p waiting) leaf
          ∙ sym (sets_back-append p waiting (t ∷ rest));
    })

-- it stands there
pub taken-part : (p : Program) (waiting rest : List Part) (t : Part) → AreParts p (waiting ++ t ∷ rest) → IsPart p t
taken-part p waiting rest t are = (back-append (IsPart p) waiting (t ∷ rest) are).0

-- it was put back in pieces
pub taken-pieces : (p : Program) (waiting rest new : List Part) (t : Part) → AreParts p (waiting ++ t ∷ rest) → IsPlaced p waiting new (part p t.leaf.cube) →
    HasSame p (waiting ++ t ∷ rest) (new ++ rest)
taken-pieces p waiting rest new t are placed = same-pass p (waiting ++ t ∷ rest) waiting new rest t (same-self p (waiting ++ t ∷ rest) are) placed

pub on-ok : {T E : Type 0} (r : Result T E) (P Q : Type 0) → (P → Q) → OnOk r P → OnOk r Q
on-ok (Ok v) P Q f h = f h
on-ok (Err e) P Q f h = tt

-- ---- a row whose last part is taken
pub row-taken : (p : Program) (all waiting left rest : List Part) (taken : Option Part) (t : Part) → HasSame p all (waiting ++ rest) → waiting ≡ left ++ option_to_list taken → taken ≡ Some t →
    HasSame p all (left ++ t ∷ rest)
row-taken p all waiting left rest taken t is split some =
    subst (HasSame p all) (ap (λ (ts : List Part). ts ++ rest) (last_taken waiting left taken t split some) ∙ append_assoc left (t ∷ []) rest) is

-- a step was made with it
pub row-then : (p q : Program) (all waiting left done new more : List Part) (taken : Option Part) (t : Part) → q ≡ p → HasSame p all (waiting ++ reverse done) →
    waiting ≡ left ++ option_to_list taken → taken ≡ Some t → HasSame q (left ++ t ∷ reverse done) (new ++ reverse more) → HasSame p all (new ++ reverse more)
row-then p q all waiting left done new more taken t program is split some same =
    same-then p all (left ++ t ∷ reverse done) (new ++ reverse more) (row-taken p all waiting left (reverse done) taken t is split some)
    (subst (λ (r : Program). HasSame r (left ++ t ∷ reverse done) (new ++ reverse more)) program same)

-- none was taken
pub row-none : (p : Program) (all waiting left rest : List Part) (taken : Option Part) → HasSame p all (waiting ++ rest) → waiting ≡ left ++ option_to_list taken → taken ≡ None →
    HasSame p all (left ++ rest)
row-none p all waiting left rest taken is split none =
    subst (λ (ts : List Part). HasSame p all (ts ++ rest)) (split ∙ ap (λ (o : Option Part). left ++ option_to_list o) none ∙ append-nil left) is

-- ---- pieces come in the place of the last part, the next one first
pub row-turned : (p : Program) (all left back new : List Part) (t : Part) → HasSame p all (left ++ t ∷ reverse back) → IsTurned p t back new → HasSame p all (left ++ reverse new)
row-turned p all left back new t is turned =
    let pieces : List Part = reverse turned.added in
    let e : pieces ++ reverse back ≡ reverse new = sym (ap reverse turned.is ∙ reverse-append back turned.added) in
    subst (HasSame p all) (append_assoc left pieces (reverse back) ∙ ap (λ (ts : List Part). left ++ ts) e)
    (same-pass p all left (left ++ pieces) (reverse back) t is (record { added = pieces; is = refl; parts = turned.pieces.parts; are = turned.pieces.sets }))

-- a part alone, and what became of it
alone-is : (t : Part) (none waiting done : List Part) → none ≡ [] → waiting ≡ none ++ t ∷ [] → done ≡ [] → waiting ++ reverse done ≡ t ∷ []
alone-is t none waiting done e now f =
    ap (λ (ts : List Part). ts ++ reverse done) (now ∙ ap (λ (ts : List Part). ts ++ t ∷ []) e) ∙ ap (λ (ts : List Part). (t ∷ []) ++ reverse ts) f

pub alone-pieces : (p : Program) (t : Part) (new : List Part) → HasSame p (t ∷ []) new → ArePieces p t.leaf.cube new
alone-pieces p t new is = record { parts = is.parts; sets = is.sets }

pub alone-row : (p : Program) (t : Part) (none waiting done : List Part) → IsPart p t → none ≡ [] → waiting ≡ none ++ t ∷ [] → done ≡ [] → AreParts p (waiting ++ reverse done)
alone-row p t none waiting done is e now f = subst (AreParts p) (sym (alone-is t none waiting done e now f)) (is, tt)

pub alone-ends : (p : Program) (t : Part) (none waiting done left more turned all : List Part) → none ≡ [] → waiting ≡ none ++ t ∷ [] → done ≡ [] →
    HasSame p (waiting ++ reverse done) (left ++ reverse more) → turned ≡ reverse more → all ≡ left ++ turned → ArePieces p t.leaf.cube all
alone-ends p t none waiting done left more turned all e now f same turn is =
    alone-pieces p t all
    (subst (HasSame p (t ∷ [])) (ap (λ (ts : List Part). left ++ ts) (sym turn) ∙ sym is)
    (subst (λ (ts : List Part). HasSame p ts (left ++ reverse more)) (alone-is t none waiting done e now f) same))

-- ---- the leaf of the whole program
pub whole-none : (p : Program) (given left : List Leaf) (taken : Option Leaf) → IsWhole p given → given ≡ left ++ option_to_list taken → taken ≡ None → IsWhole p left
whole-none p given left taken is split none = subst (IsWhole p) (split ∙ ap (λ (o : Option Leaf). left ++ option_to_list o) none ∙ append-nil left) is

pub whole-leaf : (p : Program) (given left : List Leaf) (taken : Option Leaf) (leaf : Leaf) → IsWhole p given → given ≡ left ++ option_to_list taken → taken ≡ Some leaf → IsLeaf p leaf
whole-leaf p given left taken leaf is split some = (back-append (IsLeaf p) left (leaf ∷ []) (subst (AreLeaves p) (last_taken given left taken leaf split some) is.leaves)).0

pub whole-sets : (p : Program) (given left : List Leaf) (taken : Option Leaf) (leaf : Leaf) → IsWhole p given → given ≡ left ++ option_to_list taken → taken ≡ Some leaf → part p leaf.cube ≡ answers p
whole-sets p given left taken leaf is split some = one left (subst (IsWhole p) (last_taken given left taken leaf split some) is)
  where
    one : (xs : List Leaf) → IsWhole p (xs ++ leaf ∷ []) → part p leaf.cube ≡ answers p
    one [] whole = sym (append-nil (part p leaf.cube)) ∙ whole.sets
    one (x ∷ xs) whole = absurd (omega (arith, whole.few, length-append xs (leaf ∷ [])))
