-- The nogood that is given, and the start.
use Rattle.std.proofs.Common.{◌≡◌, ℕ, zero, suc, ◌+◌, ◌<◌, Bool, true, false, not, ◌&&◌, ◌||◌, List, [], ◌∷◌, length, drop, Option, Some, None, refl, sym, ap, ◌∙◌, subst, arith, ◌⊎◌, inl, inr}
use Rattle.std.specs.Option.{is_none}
use Rattle.std.specs.List.{All, list_any, list_all, AllByRecursion}
use Rattle.std.proofs.lemmas.Bool.{false≢true, and_parts, and_from}
use Rattle.std.proofs.lemmas.List.Elements.{All-cons, All-from_recursion}
use Rattle.asp_model.specs.Sets.{Atoms}
use Rattle.asp_vars.specs.declared.nogood.Nogood.{Nogood}
use Rattle.asp_vars.specs.Literals.{Literal, T, F, literal_eq, value_of, agrees, holds_in}
use Rattle.asp_vars.specs.Numbering.{var_count, var_of_atom}
use Rattle.asp_trail.specs.Trails.{IsVar}
use Rattle.asp_trail.specs.Told.{Told}
use Rattle.asp_trail.specs.Fixpoint.{is_open, is_violated, is_unit, is_at_fixpoint}
use Rattle.asp_scc.proofs.ReachLaws.{atom_small}
use Rattle.asp_vars.proofs.SupportLaws.{or_left, or_right}
use Rattle.asp_loop.specs.LoopNogoods.{IsLoopNogood}
use Rattle.asp_loop.proofs.WeighLaws.{literal_eq-itself}
use Rattle.asp_source.specs.Loops.{IsGiven}
use Rattle.asp_source.specs.Loops.{IsFound}
use Rattle.asp_source.specs.Rest.{IsRemembered, IsAgain}
use Rattle.asp_model.specs.declared.program.Program.{Program}
use Rattle.asp_model.specs.Sets.{has}
use Rattle.asp_model.specs.Sound.{IsSound}
use Rattle.asp_vars.specs.Entailment.{Entailed}
use Rattle.asp_loop.specs.LoopNogoods.{AreParts}
use Rattle.asp_loop.proofs.EntailedLaws.{loop_entailed}

-- a literal that holds has one of the variables
held_within : (x : List (Option Bool)) (n : ℕ) (l : Literal) → length x ≡ n + 1 → value_of x 0 ≡ None → holds_in x l ≡ true → IsVar n l.var
held_within x n l size first e = (positive l.var e, let h = inside x l.var e in omega (arith, h, size))
  where
    positive : (v : ℕ) → agrees (value_of x v) l ≡ true → 0 < v
    positive zero e = absurd (false≢true (sym (ap (λ o. agrees o l) first) ∙ e))
    positive (suc v) e = omega arith

    inside : (x : List (Option Bool)) (v : ℕ) → agrees (value_of x v) l ≡ true → v < length x
    inside [] v e = absurd (false≢true e)
    inside (o ∷ x) zero e = omega arith
    inside (o ∷ x) (suc v) e = let h = inside x v e in omega (arith, h)

all_within : (x : List (Option Bool)) (n : ℕ) (rest : List Literal) → length x ≡ n + 1 → value_of x 0 ≡ None → list_all (holds_in x) rest ≡ true → AllByRecursion (λ (l : Literal). IsVar n l.var) rest
all_within x n [] size first e = tt
all_within x n (l ∷ rest) size first e =
    let parts = and_parts (holds_in x l) (list_all (holds_in x) rest) e in
    (held_within x n l size first parts.0, all_within x n rest size first parts.1)

weaker : (x : List (Option Bool)) (l : Literal) (rest : List Literal) → list_all (holds_in x) rest ≡ true → list_all (λ k. literal_eq k l || holds_in x k) rest ≡ true
weaker x l [] e = refl
weaker x l (k ∷ rest) e =
    let parts = and_parts (holds_in x k) (list_all (holds_in x) rest) e in
    and_from (literal_eq k l || holds_in x k) (list_all (λ k. literal_eq k l || holds_in x k) rest) (or_right (literal_eq k l) (holds_in x k) parts.0) (weaker x l rest parts.1)

-- a true literal, or one without a value
true_or_open : (v : ℕ) (o : Option Bool) → agrees o (F v) ≡ false → (agrees o (T v) ≡ true) ⊎ (is_none o ≡ true)
true_or_open v None e = inr refl
true_or_open v (Some true) e = inl refl
true_or_open v (Some false) e = absurd (false≢true (sym e))

fixpoint_not : (v u : Bool) → (v ≡ true) ⊎ (u ≡ true) → (not v && not u) ≡ false
fixpoint_not true u h = refl
fixpoint_not false true h = refl
fixpoint_not false false (inl e) = absurd (false≢true e)
fixpoint_not false false (inr e) = absurd (false≢true e)

-- the first literal isn't false, and all others hold
wanted : (x : List (Option Bool)) (v : ℕ) (rest : List Literal) → holds_in x (F v) ≡ false → list_all (holds_in x) rest ≡ true → is_at_fixpoint x (T v ∷ rest) ≡ false
wanted x v rest e hold = fixpoint_not (is_violated x (T v ∷ rest)) (is_unit x (T v ∷ rest)) (elim (true_or_open v (value_of x v) e) [
  | inl holds ↦ inl (and_from (holds_in x (T v)) (list_all (holds_in x) rest) holds hold)
  | inr open_ ↦ inr (or_left (is_open x (T v) && list_all (λ k. literal_eq k (T v) || holds_in x k) (T v ∷ rest))
      (list_any (λ l. is_open x l && list_all (λ k. literal_eq k l || holds_in x k) (T v ∷ rest)) rest)
      (and_from (is_open x (T v)) (list_all (λ k. literal_eq k (T v) || holds_in x k) (T v ∷ rest)) open_
      (and_from (literal_eq (T v) (T v) || holds_in x (T v)) (list_all (λ k. literal_eq k (T v) || holds_in x k) rest)
      (or_left (literal_eq (T v) (T v)) (holds_in x (T v)) (literal_eq-itself (T v))) (weaker x (T v) rest hold))))
])

pub given : (t : Told) (U : Atoms) (a : ℕ) (n : Nogood) → length t.values ≡ var_count t.program + 1 → value_of t.values 0 ≡ None →
    IsFound t.program t.values U a → IsLoopNogood t.program t.values U a n → IsGiven t n
given t U a n size first found shape = record {
  values = t.values;
  set = U;
  atom = a;
  loop = found.loop;
  member = found.member;
  shape = shape;
  base = shape.pure;
  entailed = shape.entailed;
  within = subst (λ (ls : List Literal). All (λ (l : Literal). IsVar (var_count t.program) l.var) ls) (sym shape.literals)
      (All-from_recursion (λ (l : Literal). IsVar (var_count t.program) l.var) (T (var_of_atom t.program a) ∷ shape.rest) (
        (
          let some_ : 0 < var_of_atom t.program a = omega arith in some_,
          let low = atom_small t.program a (found.loop.stand a found.member) in
              omega (arith, low),
        ),
        all_within t.values (var_count t.program) shape.rest size first shape.hold,
      ));
  wanted = ap (is_at_fixpoint t.values) shape.literals ∙ wanted t.values (var_of_atom t.program a) shape.rest (found.loop.not_false a found.member) shape.hold;
}

-- ---- another atom of a set that was found
pub remembered : (t : Told) (U : Atoms) (a : ℕ) (n : Nogood) → IsFound t.program t.values U a → IsLoopNogood t.program t.values U a n →
    (reason : List Literal) → reason ≡ drop 1 n.lits → IsRemembered t.program U reason
remembered t U a n found shape reason is = record {
  values = t.values;
  atom = a;
  nogood = n;
  loop = found.loop;
  shape = shape;
  rest = sym (is ∙ ap (drop 1) shape.literals);
}

pub again_given : (t : Told) (U : Atoms) (reason : List Literal) (n : Nogood) → IsSound t.program →
    All (λ (l : Literal). IsVar (var_count t.program) l.var) reason → ((a : ℕ) → has U a ≡ true → IsRemembered t.program U reason) →
    IsAgain t.program t.values U reason n → IsGiven t n
again_given t U reason n sound within kept again =
    let p : Program = t.program in
    let h = kept again.atom again.member in
    let entailed : Entailed p n.lits = subst (λ (ls : List Literal). Entailed p ls) (sym again.lits)
    (loop_entailed p U again.atom h.shape.bodies reason sound again.member (h.loop.stand again.atom again.member) h.shape.are_supports
    (subst (λ (ls : List Literal). AreParts p U h.shape.bodies ls) h.rest h.shape.parts)) in
    record {
      values = h.values;
      set = U;
      atom = again.atom;
      loop = h.loop;
      member = again.member;
      shape = record {
        unfounded = h.shape.unfounded;
        pure = again.base;
        bodies = h.shape.bodies;
        rest = reason;
        are_supports = h.shape.are_supports;
        literals = again.lits;
        parts = subst (λ (ls : List Literal). AreParts p U h.shape.bodies ls) h.rest h.shape.parts;
        hold = subst (λ (ls : List Literal). list_all (holds_in h.values) ls ≡ true) h.rest h.shape.hold;
        entailed = entailed;
      };
      base = again.base;
      entailed = entailed;
      within = subst (λ (ls : List Literal). All (λ (l : Literal). IsVar (var_count p) l.var) ls) (sym again.lits)
          (All-cons (λ (l : Literal). IsVar (var_count p) l.var) (T (var_of_atom p again.atom)) reason (
            let some_ : 0 < var_of_atom p again.atom = omega arith in some_,
            let low =
                atom_small p again.atom (h.loop.stand again.atom again.member) in omega (arith, low),
          ) within);
      wanted = ap (is_at_fixpoint t.values) again.lits ∙ wanted t.values (var_of_atom p again.atom) reason again.not_false again.hold;
    }
