-- Leaves are put after others, and a leaf's halves in its place.
use Rattle.std.proofs.Common.{◌≡◌, ℕ, ◌+◌, ◌^◌, ◌<◌, ◌≤◌, nat_lt, true, List, [], ◌∷◌, ◌++◌, length, refl, zero, suc, sym, ap, ◌∙◌, subst, append_assoc, arith}
use Rattle.std.specs.Prelude.{ℤ, pos, neg_ℤ, Option, Some, None, IsSome, option_to_list, reverse}
use Rattle.std.proofs.lemmas.Grind.{flat_map-append}
use Rattle.std.proofs.lemmas.List.{append-nil, length-append, reverse-append}
use Rattle.std.proofs.lemmas.Bool.{false≢true, and_parts, ltb-true}
use Rattle.asp_model.specs.declared.program.Program.{Program}
use Rattle.asp_model.specs.Sets.{Atoms, has}
use Rattle.asp_model.specs.Holding.{atom_of}
use Rattle.asp_model.specs.Models.{atoms_of}
use Rattle.asp_model.specs.Sound.{is_atom}
use Rattle.asp_model.proofs.MemberLaws.{each-append, each-front}
use Rattle.asp_vars.proofs.StandingLaws.{back-append}
use Rattle.asp_split.specs.declared.leaf.Leaf.{Leaf}
use Rattle.asp_split.specs.Parts.{AreStanding}
use Rattle.asp_split.specs.Dividing.{part, sets_of, IsLeaf, AreLeaves, IsPlaced, IsParted, Divides, MayDivide}
use Rattle.asp_split.proofs.HalfLaws.{part-halves, holds-with, holds-without}

-- ---- after the others
pub placed_none : (p : Program) (old : List Leaf) (cube : List ℤ) → part p cube ≡ [] → IsPlaced p old old cube
placed_none p old cube none = record { added = []; is = sym (append-nil old); leaves = tt; sets = sym none }

pub placed_one : (p : Program) (old new : List Leaf) (cube : List ℤ) (leaf : Leaf) → new ≡ old ++ leaf ∷ [] → leaf.cube ≡ cube → IsLeaf p leaf → IsPlaced p old new cube
placed_one p old new cube leaf e same is = record {
  added = leaf ∷ [];
  is = e;
  leaves = (is, tt);
  sets = append-nil (part p leaf.cube) ∙ ap (part p) same;
}

pub sets-append : (p : Program) (xs ys : List Leaf) → sets_of p (xs ++ ys) ≡ sets_of p xs ++ sets_of p ys
sets-append p xs ys = flat_map-append (λ (leaf : Leaf). part p leaf.cube) xs ys

pub placed_two : (p : Program) (old mid new : List Leaf) (cube lacking having : List ℤ) → IsPlaced p old mid lacking → IsPlaced p mid new having →
    part p lacking ++ part p having ≡ part p cube → IsPlaced p old new cube
placed_two p old mid new cube lacking having first second halves = record {
  added = first.added ++ second.added;
  is = second.is ∙ (ap (λ (ls : List Leaf). ls ++ second.added) first.is ∙ append_assoc old first.added second.added);
  leaves = each-append (IsLeaf p) first.added second.added first.leaves second.leaves;
  sets =
      sets-append p first.added second.added
      ∙ (ap (λ (Ss : List Atoms). Ss ++ sets_of p second.added) first.sets ∙ (ap (λ (Ss : List Atoms). part p lacking ++ Ss) second.sets ∙ halves));
}

-- ---- a leaf gives way to what is put after the leaves before it
pub parted_pass : (p : Program) (all done new rest : List Leaf) (leaf : Leaf) (parts : ℕ) → IsParted p all (done ++ leaf ∷ rest) parts →
    IsPlaced p done new leaf.cube → length new + length rest ≤ parts → IsParted p all (new ++ rest) parts
parted_pass p all done new rest leaf parts h placed few = record {
  leaves =
      each-append (IsLeaf p) new rest
      (subst (AreLeaves p) (sym placed.is) (each-append (IsLeaf p) done placed.added (each-front (IsLeaf p) done (leaf ∷ rest) h.leaves) placed.leaves))
      (back-append (IsLeaf p) done (leaf ∷ rest) h.leaves).1;
  sets =
      sets-append p new rest
      ∙ (ap (λ (Ss : List Atoms). Ss ++ sets_of p rest) (ap (sets_of p) placed.is ∙ (sets-append p done placed.added ∙ ap (λ (Ss : List Atoms). sets_of p done ++ Ss) placed.sets))
      ∙ (append_assoc (sets_of p done) (part p leaf.cube) (sets_of p rest) ∙ (sym (sets-append p done (leaf ∷ rest)) ∙ h.sets)));
  few = omega (arith, few, length-append new rest);
}

pub first_waiting : (p : Program) (done rest : List Leaf) (leaf : Leaf) → AreLeaves p (done ++ leaf ∷ rest) → IsLeaf p leaf
first_waiting p done rest leaf h = (back-append (IsLeaf p) done (leaf ∷ rest) h).0

-- ---- the leaves that wait, the last one first
pub some_none : {X : Type 0} (o : Option X) → IsSome o → o ≡ None → ⊥
some_none {X = X} o some none = false≢true (subst (λ (o : Option X). IsSome o) none some)

pub popped : (old new : List Leaf) (taken : Option Leaf) (leaf : Leaf) → old ≡ new ++ option_to_list taken → taken ≡ Some leaf → reverse old ≡ leaf ∷ reverse new
popped old new taken leaf e is = ap reverse e ∙ (ap (λ (o : Option Leaf). reverse (new ++ option_to_list o)) is ∙ reverse-append new (leaf ∷ []))

pub none_waits : (old : List Leaf) (taken : Option Leaf) → (0 < length old → IsSome taken) → taken ≡ None → old ≡ []
none_waits [] taken some none = refl
none_waits (leaf ∷ leaves) taken some none = absurd (some_none taken (some (omega arith)) none)

-- ---- the halves of a part
pub divides-halves : (p : Program) (cube : List ℤ) (a : ℕ) → 0 < a → Divides p cube a → part p (cube ++ neg_ℤ (pos a) ∷ []) ++ part p (cube ++ pos a ∷ []) ≡ part p cube
divides-halves p cube a some d = part-halves p cube a (neg_ℤ (pos a)) (pos a) d.agree (λ S. holds-without a S some) (holds-with a)

-- ---- what a leaf that can be divided has
pub divides_at : (p : Program) (cube : List ℤ) (next : Option ℕ) (a : ℕ) → MayDivide p cube next → next ≡ Some a → Divides p cube a
divides_at p cube next a h e = subst (MayDivide p cube) e h

pub one_or_more : (a : ℕ) → is_atom a ≡ true → 0 < a
one_or_more zero h = absurd cc
one_or_more (suc a) h = omega arith

atom_of-neg : (a : ℕ) → atom_of (neg_ℤ (pos a)) ≡ a
atom_of-neg zero = refl
atom_of-neg (suc a) = refl

pub with-stands : (p : Program) (cube : List ℤ) (a : ℕ) → AreStanding p cube → has (atoms_of p) a ≡ true → AreStanding p (cube ++ pos a ∷ [])
with-stands p cube a s h = each-append (λ l. has (atoms_of p) (atom_of l) ≡ true) cube (pos a ∷ []) s (h, tt)

pub without-stands : (p : Program) (cube : List ℤ) (a : ℕ) → AreStanding p cube → has (atoms_of p) a ≡ true → AreStanding p (cube ++ neg_ℤ (pos a) ∷ [])
without-stands p cube a s h = each-append (λ l. has (atoms_of p) (atom_of l) ≡ true) cube (neg_ℤ (pos a) ∷ []) s (ap (has (atoms_of p)) (atom_of-neg a) ∙ h, tt)

pub in_range : (a : ℕ) → is_atom a ≡ true → a < 2 ^ 31
in_range a h = ltb-true a (2 ^ 31) (and_parts (nat_lt 0 a) (nat_lt a (2 ^ 31)) h).1

pub divided : (p : Program) (old mid new : List Leaf) (cube : List ℤ) (atom : ℕ) (lacking having : List ℤ) → Divides p cube atom →
    lacking ≡ cube ++ neg_ℤ (pos atom) ∷ [] → having ≡ cube ++ pos atom ∷ [] →
    IsPlaced p old mid lacking → IsPlaced p mid new having → IsPlaced p old new cube
divided p old mid new cube atom lacking having divides lacks has_it first second =
    placed_two p old mid new cube lacking having first second
    (ap (λ (c : List ℤ). part p c ++ part p having) lacks
    ∙ (ap (λ (c : List ℤ). part p (cube ++ neg_ℤ (pos atom) ∷ []) ++ part p c) has_it ∙ divides-halves p cube atom (one_or_more atom divides.ranges) divides))
