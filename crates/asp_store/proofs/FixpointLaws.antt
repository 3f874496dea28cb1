-- Where all entries were seen, no kept nogood is unit or violated.
use Rattle.std.proofs.Common.{◌≡◌, ℕ, ◌+◌, ◌≤◌, Bool, true, false, List, length, Option, Some, None, inl, inr, refl, sym, ap, ◌∙◌, subst, arith}
use Rattle.std.specs.Option.{is_none}
use Rattle.asp_vars.specs.Literals.{Literal, holds_in}
use Rattle.asp_vars.specs.Codes.{code_of}
use Rattle.asp_vars.specs.declared.nogood.Nogood.{Nogood}
use Rattle.asp_trail.specs.declared.trail.Entry.{Entry}
use Rattle.asp_trail.specs.Entries.{assignment, level_in}
use Rattle.asp_trail.specs.Trails.{Trailed, IsOrdered}
use Rattle.asp_trail.specs.Fixpoint.{is_at_fixpoint}
use Rattle.asp_trail.specs.Reasons.{Stands}
use Rattle.asp_trail.proofs.FixpointLaws.{fixpoint_by_one, fixpoint_by_two}
use Rattle.asp_store.specs.declared.stored_nogood.StoredNogood.{StoredNogood}
use Rattle.asp_store.specs.declared.watch.Pair.{Pair}
use Rattle.asp_store.specs.declared.watches.Watches.{Watches}
use Rattle.asp_store.specs.declared.front.Front.{Front}
use Rattle.asp_store.specs.Keeping.{nogood_at}
use Rattle.asp_store.specs.Lists.{size}
use Rattle.asp_store.specs.Pairs.{pair_at, IsOneOf}
use Rattle.asp_store.specs.Fitting.{HasFalse, IsWatched}
use Rattle.asp_store.specs.Sounding.{IsSound, AreSettled}
use Rattle.asp_store.specs.Walking.{IsWalking}
use Rattle.asp_store.proofs.GetLaws.{is_or_not}
use Rattle.asp_store.proofs.PlaceLaws.{listed_end}
use Rattle.asp_store.proofs.LookLaws.{false_value, false_not_true, stands_found}

-- a nogood with a literal that is false
pub fixpoint_false : (vars : ℕ) (es : List Entry) (n : List Literal) (b : ℕ) → IsOrdered vars es → HasFalse es n b → is_at_fixpoint (assignment vars es) n ≡ true
fixpoint_false vars es n b o f =
    fixpoint_by_one (assignment vars es) n f.0 f.1 (false_not_true vars es f.0 b o f.2) (ap is_none (false_value vars es f.0 b o f.2))

-- a nogood that is watched
pub fixpoint_watched : (vars : ℕ) (es : List Entry) (n : List Literal) (p : Pair) → IsOrdered vars es → IsWatched n p es (length es) → is_at_fixpoint (assignment vars es) n ≡ true
fixpoint_watched vars es n p o t = cases (holds_in (assignment vars es) p.first) (holds_in (assignment vars es) p.second) refl refl
  where
    one : (l : Literal) → IsOneOf p l → holds_in (assignment vars es) l ≡ true → is_at_fixpoint (assignment vars es) n ≡ true
    one l is h =
        let f = stands_found vars es l o h in
        fixpoint_false vars es n (level_in es l.var) o (t.watches l is f.0 (level_in es l.var) f.1.within f.1)

    cases : (x y : Bool) → x ≡ holds_in (assignment vars es) p.first → y ≡ holds_in (assignment vars es) p.second → is_at_fixpoint (assignment vars es) n ≡ true
    cases true y q r = one p.first (inl refl) (sym q)
    cases false true q r = one p.second (inr refl) (sym r)
    cases false false q r = fixpoint_by_two (assignment vars es) n p.first p.second (t.has p.first (inl refl)) (t.has p.second (inr refl)) t.differ (sym q) (sym r)

pub all_at_fixpoint : (slots : List (Option StoredNogood)) (w : Watches) (t : Trailed) → IsOrdered t.vars t.entries → t.seen ≡ length t.entries → IsSound slots w t →
    AreSettled slots w.rows t.entries → (id : ℕ) (n : Nogood) → nogood_at slots id ≡ Some n → is_at_fixpoint (assignment t.vars t.entries) n.lits ≡ true
all_at_fixpoint slots w t o e s k id n h = cases (pair_at w.rows id) refl
  where
    cases : (q : Option Pair) → q ≡ pair_at w.rows id → is_at_fixpoint (assignment t.vars t.entries) n.lits ≡ true
    cases None q = let f = k id n h (sym q) in fixpoint_false t.vars t.entries n.lits f.0 o f.1
    cases (Some p) q =
        fixpoint_watched t.vars t.entries n.lits p o (subst (λ (m : ℕ). IsWatched n.lits p t.entries m) e (s.fit.watched id n p h (sym q)))

-- ---- a walk begins and ends
pub walk_begins : (slots : List (Option StoredNogood)) (w : Watches) (t : Trailed) (f : Front) → IsSound slots w t → AreSettled slots w.rows t.entries →
    Stands t.entries f.lit t.seen f.level → IsWalking slots w t f 0
walk_begins slots w t f s k at = record {
  sound = s;
  settled = k;
  done = λ id n p h q o. inl (s.net.listed id n p f.lit h q o);
  stands = at;
}

stands_same : (es : List Entry) (k l : Literal) (i b c : ℕ) → Stands es k i b → Stands es l i c → (k ≡ l) × (c ≡ b)
stands_same es k l i b c s u =
    let d : Entry = record { lit = k; level = 0; reason = None } in
    (sym (s.lit d) ∙ u.lit d, sym (u.level d) ∙ s.level d)

pub walk_ends : (slots : List (Option StoredNogood)) (w : Watches) (t : Trailed) (f : Front) (i : ℕ) → size w.lists (code_of f.lit) ≤ i → IsWalking slots w t f i →
    IsSound slots w (record t { seen = t.seen + 1 })
walk_ends slots w t f i le k = record {
  net = k.sound.net;
  fit = record {
    watched = λ id n p h q.
        let was = k.sound.fit.watched id n p h q in
        record {
          has = was.has;
          differ = was.differ;
          watches = λ l o j b lt s. elim (is_or_not j t.seen) [
            | inr ne ↦ was.watches l o j b (omega (arith, lt, ne)) s
            | inl e ↦ here id n p h q l b o (subst (λ (m : ℕ). Stands t.entries l m b) e s)
          ];
        };
    unwatched = k.sound.fit.unwatched;
  };
}
  where
    here : (id : ℕ) (n : Nogood) (p : Pair) → nogood_at slots id ≡ Some n → pair_at w.rows id ≡ Some p → (l : Literal) (b : ℕ) → IsOneOf p l → Stands t.entries l t.seen b →
        HasFalse t.entries n.lits b
    here id n p h q l b o s =
        let e = stands_same t.entries l f.lit t.seen b f.level s k.stands in
        elim (k.done id n p h q (subst (λ (x : Literal). IsOneOf p x) e.0 o)) [
          | inl m ↦ absurd (listed_end w.lists f.lit i id n.lits le m)
          | inr m ↦ subst (λ (c : ℕ). HasFalse t.entries n.lits c) e.1 m
        ]

-- a trail of which more entries were seen
pub marked_same : (t u v : Trailed) (k : ℕ) → u ≡ record t { entries = u.entries } → v ≡ record u { seen = k } → v ≡ record t { entries = v.entries; seen = v.seen }
marked_same t u v k e q =
    let P : Trailed → Type 0 = λ x. x ≡ record t { entries = x.entries; seen = x.seen } in
    subst P (sym q) (ap (λ (s : Trailed). let r : Trailed = record s { seen = k } in r) e)
