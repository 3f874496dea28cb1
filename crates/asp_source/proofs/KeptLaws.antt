-- What the propagator keeps, call by call.
use Rattle.std.proofs.Common.{◌≡◌, ℕ, zero, suc, ◌+◌, ◌-◌, ◌<◌, ◌≤◌, Bool, true, false, not, cond, eqb, leb, List, [], length, get_or, set, drop, replicate, Option, Some, None, refl, sym, ap, ◌∙◌, subst, arith, inl, get_or-set_other}
use Rattle.std.specs.List.{All}
use Rattle.std.proofs.lemmas.Bool.{false≢true}
use Rattle.std.proofs.lemmas.List.{length-set, length-replicate}
use Rattle.std.proofs.lemmas.List.Elements.{All-tail}
use Rattle.asp_model.specs.declared.program.Program.{Program}
use Rattle.asp_model.specs.Sets.{Atoms, has}
use Rattle.asp_model.specs.Models.{atoms_of}
use Rattle.asp_model.specs.Sound.{IsSound}
use Rattle.asp_vars.specs.declared.nogood.Nogood.{Nogood}
use Rattle.asp_vars.specs.Literals.{Literal, T, complement, value_of, holds_in}
use Rattle.asp_vars.specs.Numbering.{bodies_of, var_count, var_of_atom}
use Rattle.asp_vars.specs.Tabled.{bodies_with, IsAtomVar, occurrences_of}
use Rattle.asp_trail.specs.Trails.{IsVar}
use Rattle.asp_trail.specs.Told.{Told}
use Rattle.asp_loop.specs.LoopNogoods.{IsLoopNogood}
use Rattle.asp_scc.specs.Components.{Parts, AreComponents}
use Rattle.asp_source.specs.Pointers.{AreNormal}
use Rattle.asp_source.specs.Marks.{is_marked}
use Rattle.asp_source.specs.Marks.{AreBlank}
use Rattle.asp_source.specs.Loops.{IsUnfoundedLoop, IsFound}
use Rattle.asp_source.specs.Rest.{Rest, IsRemembered}
use Rattle.asp_source.specs.Pointers.{ArePointers, Loses, IsGoneAt, IsGoneBy, AreMarked, seek, regain}
use Rattle.asp_source.specs.Kept.{IsKept}
use Rattle.asp_source.proofs.AssignLaws.{assigned, undone}
use Rattle.asp_source.proofs.GivenLaws.{given, remembered}
use Rattle.asp_source.proofs.PointerLaws.{atom_var}
use Rattle.asp_source.proofs.ChangeLaws.{some_member, cyclic_of}

none_at : (n v : ℕ) → value_of (replicate n None) v ≡ None
none_at zero v = refl
none_at (suc n) zero = refl
none_at (suc n) (suc v) = none_at n v

abbrev AreBare : List ℕ → Type 0
AreBare s = (v : ℕ) → get_or s v 0 ≡ 0

zero_at : (n : ℕ) → AreBare (replicate n 0)
zero_at zero v = refl
zero_at (suc n) zero = refl
zero_at (suc n) (suc v) = zero_at n v

blank_at : (n : ℕ) → AreBlank (replicate n false)
blank_at zero v = refl
blank_at (suc n) zero = refl
blank_at (suc n) (suc v) = blank_at n v

first_kept : (x : List (Option Bool)) (v : ℕ) (t : Option Bool) → 0 < v → value_of x 0 ≡ None → value_of (set x v t) 0 ≡ None
first_kept x v t some_ e = get_or-set_other x v 0 t None (λ z. omega (arith, some_, z)) ∙ e

-- where no atom has a source it is enough that each is queued, unless it is alone
bare_pointers : (p : Program) (c : Parts) (x : List (Option Bool)) (s ranks : List ℕ) (q : List Bool) → length s ≡ length (atoms_of p) + 1 →
    length ranks ≡ length (atoms_of p) + 1 → length q ≡ length (atoms_of p) → AreBare s →
    ((v : ℕ) → IsAtomVar p v → get_or c.trivial (get_or c.numbers v 0) false ≡ false → is_marked q (v - 1) ≡ true) → ArePointers p c x s ranks q []
bare_pointers p c x s ranks q size ranked room bare queued = record {
  size = size;
  rank_room = ranked;
  room = room;
  supports = λ v at nz. absurd (nz (bare v));
  ranked = λ a stands nz. absurd (nz (bare (var_of_atom p a)));
  sought = λ v at z cyclic alive. inl (queued v at cyclic);
}

-- all begins anew
pub pointers_anew : (p : Program) (c : Parts) (x : List (Option Bool)) (s ranks : List ℕ) (q : List Bool) →
    s ≡ replicate (length (atoms_of p) + 1) 0 → length ranks ≡ length (atoms_of p) + 1 → length q ≡ length (atoms_of p) →
    AreMarked c (length (atoms_of p)) q → ArePointers p c x s ranks q []
pointers_anew p c x s ranks q is ranked size marked =
    bare_pointers p c x s ranks q (let none : ℕ = 0 in ap length is ∙ length-replicate (length (atoms_of p) + 1) none) ranked size
    (subst AreBare (sym is) (zero_at (length (atoms_of p) + 1))) (λ v at cyclic. marked v at.0 at.1 cyclic)

-- ---- a literal comes to hold
pub kept_by : (p : Program) (c : Parts) (x y : List (Option Bool)) (s ranks : List ℕ) (q : List Bool) (t : List ℕ) (r : List Bool)
    (tight weighted : Bool) (loose waiting joined : List Bool) (rest : Rest) (l : Literal) → IsSound p →
    IsKept p c x s ranks q tight weighted loose waiting joined rest → tight ≡ false → IsVar (var_count p) l.var → value_of x l.var ≡ None →
    y ≡ set x l.var (Some l.truth) → Loses s q t r →
    All (IsGoneAt p t) (bodies_with p (complement l)) →
    (l.var ≤ length (atoms_of p) → All (IsGoneBy p t) (occurrences_of p (complement l))) →
    IsKept p c y t ranks r tight weighted loose waiting joined rest
kept_by p c x y s ranks q t r tight weighted loose waiting joined rest l sound h loose_ is none told loses body_gone lighter =
    subst (λ (z : List (Option Bool)). IsKept p c z t ranks r tight weighted loose waiting joined rest) (sym told) (record {
      components = h.components;
      sized = length-set x l.var (Some l.truth) ∙ h.sized;
      first = first_kept x l.var (Some l.truth) is.0 h.first;
      pointers = assigned p c x ranks s q t r l sound (let small = is.1 in let size = h.sized in omega (arith, small, size)) none loses body_gone lighter h.pointers;
      marks = h.marks;
      blank = h.blank;
      room = h.room;
      seats = h.seats;
      none = λ e v. absurd (false≢true (sym loose_ ∙ e));
      trivial = h.trivial;
      plain = h.plain;
      found = h.found;
      within = h.within;
    })

-- in a tight program no atom has a source, whatever value a variable gets or loses
pub kept_tight : (p : Program) (c : Parts) (x y : List (Option Bool)) (s ranks : List ℕ) (q : List Bool) (tight weighted : Bool)
    (loose waiting joined : List Bool) (rest : Rest) (w : ℕ) (o : Option Bool) → IsKept p c x s ranks q tight weighted loose waiting joined rest →
    tight ≡ true → IsVar (var_count p) w → y ≡ set x w o → IsKept p c y s ranks q tight weighted loose waiting joined rest
kept_tight p c x y s ranks q tight weighted loose waiting joined rest w o h is_tight is told =
    subst (λ (z : List (Option Bool)). IsKept p c z s ranks q tight weighted loose waiting joined rest) (sym told) (record {
      components = h.components;
      sized = length-set x w o ∙ h.sized;
      first = first_kept x w o is.0 h.first;
      pointers = bare_pointers p c (set x w o) s ranks q h.pointers.size h.pointers.rank_room h.pointers.room (h.none is_tight)
          (λ v at cyclic. absurd (false≢true (sym cyclic ∙ h.trivial is_tight v at)));
      marks = h.marks;
      blank = h.blank;
      room = h.room;
      seats = h.seats;
      none = h.none;
      trivial = h.trivial;
      plain = h.plain;
      found = h.found;
      within = h.within;
    })

-- the same sources, read in another way
pub kept_as : (p : Program) (c : Parts) (x : List (Option Bool)) (s t ranks : List ℕ) (q : List Bool) (tight weighted : Bool)
    (loose waiting joined : List Bool) (rest : Rest) → t ≡ s → IsKept p c x s ranks q tight weighted loose waiting joined rest →
    IsKept p c x t ranks q tight weighted loose waiting joined rest
kept_as p c x s t ranks q tight weighted loose waiting joined rest same h = subst (λ (u : List ℕ). IsKept p c x u ranks q tight weighted loose waiting joined rest) (sym same) h

-- ---- a literal that held is taken back
seek-length : (c : Parts) (s : List ℕ) (q : List Bool) (v : ℕ) → length (seek c s q v) ≡ length q
seek-length c s q v = cases (not (eqb (get_or s v 0) 0)) (get_or c.trivial (get_or c.numbers v 0) false)
  where
    cases : (a b : Bool) → length (cond a q (cond b q (set q (v - 1) true))) ≡ length q
    cases true b = refl
    cases false true = refl
    cases false false = length-set q (v - 1) true

regain-length : (p : Program) (c : Parts) (s : List ℕ) (q : List Bool) (l : Literal) → length (regain p c s q l) ≡ length q
regain-length p c s q l = cases l.truth (leb l.var (length (atoms_of p)))
  where
    cases : (t a : Bool) → length (cond t q (cond a (seek c s q l.var) q)) ≡ length q
    cases true a = refl
    cases false true = seek-length c s q l.var
    cases false false = refl

pub kept_back : (p : Program) (c : Parts) (x y : List (Option Bool)) (s ranks : List ℕ) (q r : List Bool) (tight weighted : Bool)
    (loose waiting joined : List Bool) (rest : Rest) (l : Literal) → IsSound p → IsKept p c x s ranks q tight weighted loose waiting joined rest →
    IsVar (var_count p) l.var → holds_in x l ≡ true → y ≡ set x l.var None → r ≡ regain p c s q l →
    IsKept p c y s ranks r tight weighted loose waiting joined rest
kept_back p c x y s ranks q r tight weighted loose waiting joined rest l sound h is holds told regained =
    subst (λ (z : List (Option Bool)). IsKept p c z s ranks r tight weighted loose waiting joined rest) (sym told) (record {
      components = h.components;
      sized = length-set x l.var None ∙ h.sized;
      first = first_kept x l.var None is.0 h.first;
      pointers = undone p c x ranks s q r l sound holds regained (ap length regained ∙ regain-length p c s q l) h.pointers;
      marks = h.marks;
      blank = h.blank;
      room = h.room;
      seats = h.seats;
      none = h.none;
      trivial = h.trivial;
      plain = h.plain;
      found = h.found;
      within = h.within;
    })

-- ---- the start
pub kept_first : (p : Program) (c : Parts) (x : List (Option Bool)) (s ranks : List ℕ) (q : List Bool) (tight weighted : Bool)
    (loose waiting joined : List Bool) (rest : Rest) → AreComponents p c → x ≡ replicate (var_count p + 1) None →
    s ≡ replicate (length (atoms_of p) + 1) 0 → length ranks ≡ length (atoms_of p) + 1 → length q ≡ length (atoms_of p) →
    AreMarked c (length (atoms_of p)) q → (tight ≡ true → (k : ℕ) → is_marked q k ≡ false) → (weighted ≡ false → AreNormal p (length (bodies_of p))) →
    loose ≡ replicate (length (atoms_of p) + 1) false → waiting ≡ replicate (length (atoms_of p)) false →
    joined ≡ replicate (length (atoms_of p)) false → rest ≡ record { set = []; reason = [] } →
    IsKept p c x s ranks q tight weighted loose waiting joined rest
kept_first p c x s ranks q tight weighted loose waiting joined rest are is bare ranked whole marked empty normal blank free seated nothing = record {
  components = are;
  sized = ap length is ∙ length-replicate (var_count p + 1) None;
  first = ap (λ (z : List (Option Bool)). value_of z 0) is ∙ none_at (var_count p + 1) 0;
  pointers = bare_pointers p c x s ranks q (let none : ℕ = 0 in ap length bare ∙ length-replicate (length (atoms_of p) + 1) none) ranked whole without (λ v at cyclic. marked v at.0 at.1 cyclic);
  marks = ap length blank ∙ length-replicate (length (atoms_of p) + 1) false;
  blank = subst AreBlank (sym blank) (blank_at (length (atoms_of p) + 1));
  room = ap length free ∙ length-replicate (length (atoms_of p)) false;
  seats = ap length seated ∙ length-replicate (length (atoms_of p)) false;
  none = λ e. without;
  trivial = λ e v at. alone e v at (get_or c.trivial (get_or c.numbers v 0) false) refl;
  plain = normal;
  found = λ a e. absurd (false≢true (sym (ap (λ (r : Rest). has r.set a) nothing) ∙ e));
  within = subst (λ (r : Rest). All (λ (l : Literal). IsVar (var_count p) l.var) r.reason) (sym nothing) (λ i d lt. absurd (omega (arith, lt)));
}
  where
    without : AreBare s
    without = subst AreBare (sym bare) (zero_at (length (atoms_of p) + 1))

    alone : tight ≡ true → (v : ℕ) → IsAtomVar p v → (b : Bool) → b ≡ get_or c.trivial (get_or c.numbers v 0) false → get_or c.trivial (get_or c.numbers v 0) false ≡ true
    alone is_tight v at true e = sym e
    alone is_tight v at false e = absurd (false≢true (sym (empty is_tight (v - 1)) ∙ marked v at.0 at.1 (sym e)))

-- ---- what is looked for
-- another set that was found
pub kept_rest : (p : Program) (c : Parts) (x : List (Option Bool)) (s ranks : List ℕ) (q : List Bool) (tight weighted : Bool)
    (loose waiting joined : List Bool) (rest new : Rest) → IsKept p c x s ranks q tight weighted loose waiting joined rest →
    ((a : ℕ) → has new.set a ≡ true → IsRemembered p new.set new.reason) → All (λ (l : Literal). IsVar (var_count p) l.var) new.reason →
    IsKept p c x s ranks q tight weighted loose waiting joined new
kept_rest p c x s ranks q tight weighted loose waiting joined rest new h found within = record {
  components = h.components;
  sized = h.sized;
  first = h.first;
  pointers = h.pointers;
  marks = h.marks;
  blank = h.blank;
  room = h.room;
  seats = h.seats;
  none = h.none;
  trivial = h.trivial;
  plain = h.plain;
  found = found;
  within = within;
}

-- other pointers, where no atom is a candidate
pub kept_searched : (p : Program) (c : Parts) (x : List (Option Bool)) (s ranks : List ℕ) (q : List Bool) (tight weighted : Bool)
    (loose waiting joined : List Bool) (rest : Rest) (t o : List ℕ) (r m y z : List Bool) →
    IsKept p c x s ranks q tight weighted loose waiting joined rest → tight ≡ false → ArePointers p c x t o r [] →
    length m ≡ length (atoms_of p) + 1 → AreBlank m → length y ≡ length waiting → length z ≡ length joined →
    IsKept p c x t o r tight weighted m y z rest
kept_searched p c x s ranks q tight weighted loose waiting joined rest t o r m y z h not_tight pointers marks blank room seats = record {
  components = h.components;
  sized = h.sized;
  first = h.first;
  pointers = pointers;
  marks = marks;
  blank = blank;
  room = room ∙ h.room;
  seats = seats ∙ h.seats;
  none = λ e v. absurd (false≢true (sym not_tight ∙ e));
  trivial = h.trivial;
  plain = h.plain;
  found = h.found;
  within = h.within;
}

-- one that was found just now
pub kept_found : (p : Program) (c : Parts) (x : List (Option Bool)) (s ranks : List ℕ) (q : List Bool) (tight weighted : Bool)
    (loose waiting joined : List Bool) (rest : Rest) (U : Atoms) (a : ℕ) (n : Nogood) (new : Rest) →
    IsKept p c x s ranks q tight weighted loose waiting joined rest → IsFound p x U a → IsLoopNogood p x U a n →
    new ≡ record { set = U; reason = drop 1 n.lits } → IsKept p c x s ranks q tight weighted loose waiting joined new
kept_found p c x s ranks q tight weighted loose waiting joined rest U a n new h found shape is =
    let t : Told = record { program = p; values = x } in
    let P : Literal → Type 0 = λ (l : Literal). IsVar (var_count p) l.var in
    let within : All P n.lits = (given t U a n h.sized h.first found shape).within in
    let left : All P (drop 1 n.lits) =
    subst (λ (ls : List Literal). All P (drop 1 ls)) (sym shape.literals)
    (All-tail P (T (var_of_atom p a)) shape.rest (subst (λ (ls : List Literal). All P ls) shape.literals within)) in
    subst (λ (r : Rest). IsKept p c x s ranks q tight weighted loose waiting joined r) (sym is)
    (kept_rest p c x s ranks q tight weighted loose waiting joined rest (record { set = U; reason = drop 1 n.lits }) h (λ b m. remembered t U a n found shape (drop 1 n.lits) refl) left)

-- a tight program has no unfounded set
pub tight_none : (p : Program) (c : Parts) (x : List (Option Bool)) (s ranks : List ℕ) (q : List Bool) (tight weighted : Bool)
    (loose waiting joined : List Bool) (rest : Rest) → IsKept p c x s ranks q tight weighted loose waiting joined rest → tight ≡ true → (U : Atoms) →
    IsUnfoundedLoop p x U → ⊥
tight_none p c x s ranks q tight weighted loose waiting joined rest h is_tight U loop =
    let a = some_member p x U loop.unfounded in
    false≢true (sym (cyclic_of p c x U a.0 h.components loop a.1) ∙ h.trivial is_tight (var_of_atom p a.0) (atom_var p a.0 (loop.stand a.0 a.1)))
