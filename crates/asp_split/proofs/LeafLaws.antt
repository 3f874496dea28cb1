-- What propagation under a cube says of its part.
use Rattle.std.proofs.Common.{◌≡◌, ℕ, Bool, true, false, List, [], ◌++◌, map, get_or, Option, Some, None, IsSome, IfSome, refl, sym, ◌∙◌, subst, arith}
use Rattle.std.specs.Prelude.{ℤ, Contains}
use Rattle.std.proofs.lemmas.Bool.{false≢true}
use Rattle.std.proofs.lemmas.List.Elements.{All-from_recursion, Contains-get_or}
use Rattle.asp_model.specs.declared.program.Program.{Program}
use Rattle.asp_model.specs.Sets.{Atoms, has}
use Rattle.asp_model.specs.Holding.{atom_of, all_hold}
use Rattle.asp_model.specs.Models.{atoms_of, is_stable, models}
use Rattle.asp_model.proofs.MemberLaws.{each-append, each-map, each_weaker}
use Rattle.asp_model.proofs.ModelLaws.{contains-filter, models-are, stable-subset}
use Rattle.asp_vars.specs.Entailment.{Settled}
use Rattle.asp_vars.specs.Literals.{Literal, hits, value_of}
use Rattle.asp_vars.specs.Numbering.{literal_of, values, var_of_atom, var_count, IsVar}
use Rattle.asp_vars.proofs.PlaceLaws.{atom-within}
use Rattle.asp_state.specs.SearchStates.{AreOf}
use Rattle.asp_vars.proofs.AssumptionLaws.{assumptions-stand}
use Rattle.asp_vars.proofs.CompletionLaws.{hits-literals}
use Rattle.asp_vars.proofs.NumberingLaws.{value-atom}
use Rattle.asp_split.specs.Parts.{AreStanding}
use Rattle.asp_split.specs.Dividing.{part, AgreeBelow, MayDivide, IsProbed}
use Rattle.asp_split.specs.declared.leaf.Leaf.{Leaf}
use Rattle.asp_split.specs.Following.{literals_of, Follow, IsLeastOpen}
use Rattle.asp_split.proofs.HalfLaws.{filter_none}

pub wanted-stand : (p : Program) (cube : List ℤ) → AreStanding p cube → AreStanding p (p.assumptions ++ cube)
wanted-stand p cube s = each-append (λ l. has (atoms_of p) (atom_of l) ≡ true) p.assumptions cube (assumptions-stand p) s

-- the members of a part
pub member : (p : Program) (cube : List ℤ) (S : Atoms) → AreStanding p cube → Contains (part p cube) S → (is_stable p S ≡ true) × (hits (values p S) (literals_of p cube) ≡ true)
member p cube S s h =
    let kept = (contains-filter (λ T. all_hold T (p.assumptions ++ cube)) (models p) S).0 h in
    ((models-are p S).0 kept.0, hits-literals p S (p.assumptions ++ cube) (wanted-stand p cube s) ∙ kept.1)

-- a cube that no stable model hits
pub part-none : (p : Program) (cube : List ℤ) → AreStanding p cube → Settled p [] None (literals_of p cube) → part p cube ≡ []
part-none p cube s none =
    filter_none (λ S. all_hold S (p.assumptions ++ cube)) (models p)
    (λ i d lt. cases (get_or (models p) i d) ((models-are p (get_or (models p) i d)).0 (Contains-get_or (models p) i d lt)) (all_hold (get_or (models p) i d) (p.assumptions ++ cube)) refl)
  where
    cases : (S : Atoms) → is_stable p S ≡ true → (b : Bool) → b ≡ all_hold S (p.assumptions ++ cube) → all_hold S (p.assumptions ++ cube) ≡ false
    cases S stable false e = sym e
    cases S stable true e = absurd (false≢true (none.excused S stable (hits-literals p S (p.assumptions ++ cube) (wanted-stand p cube s) ∙ sym e)))

-- ---- the sets agree on what has a value
same_value : (p : Program) (cube : List ℤ) (a : List (Option Bool)) (S T : Atoms) (b : ℕ) → Follow p (literals_of p cube) a → AreStanding p cube → has (atoms_of p) b ≡ true →
    Contains (part p cube) S → Contains (part p cube) T → IsSome (value_of a (var_of_atom p b)) → has S b ≡ has T b
same_value p cube a S T b follow stand standing s t some = cases (value_of a (var_of_atom p b)) refl some
  where
    is : (U : Atoms) (x : Bool) → Contains (part p cube) U → value_of a (var_of_atom p b) ≡ Some x → has U b ≡ x
    is U x u e = let m = member p cube U stand u in sym (value-atom p U b standing) ∙ follow U m.0 m.1 (var_of_atom p b) x e

    cases : (o : Option Bool) → o ≡ value_of a (var_of_atom p b) → IsSome o → has S b ≡ has T b
    cases None e h = absurd (false≢true h)
    cases (Some x) e h = is S x s (sym e) ∙ sym (is T x t (sym e))

absent : (p : Program) (cube : List ℤ) (S : Atoms) (b : ℕ) → AreStanding p cube → has (atoms_of p) b ≡ false → Contains (part p cube) S → has S b ≡ false
absent p cube S b stand none s = cases (has S b) refl
  where
    cases : (x : Bool) → x ≡ has S b → has S b ≡ false
    cases false e = sym e
    cases true e = absurd (false≢true (sym none ∙ (stable-subset p S (member p cube S stand s).0).1 b (sym e)))

pub agree : (p : Program) (cube : List ℤ) (a : List (Option Bool)) (atom : ℕ) → AreStanding p cube → Follow p (literals_of p cube) a → IsLeastOpen p a atom → AgreeBelow (part p cube) atom
agree p cube a atom stand follow open_ S T s t b lt = cases (has (atoms_of p) b) refl
  where
    cases : (x : Bool) → x ≡ has (atoms_of p) b → has S b ≡ has T b
    cases true e = same_value p cube a S T b follow stand (sym e) s t (open_.decided b lt (sym e))
    cases false e = absent p cube S b stand (sym e) s ∙ sym (absent p cube T b stand (sym e) t)

-- ---- a leaf
may_divide : (p : Program) (cube : List ℤ) (a : List (Option Bool)) (next : Option ℕ) → AreStanding p cube → Follow p (literals_of p cube) a → IfSome next (IsLeastOpen p a) → MayDivide p cube next
may_divide p cube a None stand follow open_ = tt
may_divide p cube a (Some atom) stand follow open_ = record { stands = open_.stands; ranges = open_.ranges; agree = agree p cube a atom stand follow open_ }

pub leaf-is : (p : Program) (cube : List ℤ) (a : List (Option Bool)) (leaf : Leaf) → AreStanding p cube → Follow p (literals_of p cube) a →
    leaf.cube ≡ cube → IfSome leaf.next (IsLeastOpen p a) → IsProbed p cube (Some leaf)
leaf-is p cube a leaf stand follow same open_ = (
  same,
  record {
    stands = subst (AreStanding p) (sym same) stand;
    next = subst (λ (c : List ℤ). MayDivide p c leaf.next) (sym same) (may_divide p cube a leaf.next stand follow open_);
  },
)

pub literals-of : (p : Program) (cube : List ℤ) → AreStanding p cube → AreOf p (literals_of p cube)
literals-of p cube stand =
    let wanted : List ℤ = p.assumptions ++ cube in
    All-from_recursion (λ (l : Literal). IsVar (var_count p) l.var) (map (literal_of p) wanted)
    (each-map (λ (l : Literal). IsVar (var_count p) l.var) (literal_of p) wanted
    (each_weaker (λ l. has (atoms_of p) (atom_of l) ≡ true) (λ l. IsVar (var_count p) (literal_of p l).var) (λ l h. (omega arith, atom-within p (atom_of l) h)) wanted (wanted-stand p cube stand)))

-- ---- the assumptions, and then the cube
