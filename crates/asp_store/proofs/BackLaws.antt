-- A walk along a list that is taken out of the others.
use Rattle.std.proofs.Common.{◌≡◌, ◌≢◌, ℕ, suc, zero, ◌+◌, ◌<◌, List, [], ◌∷◌, ◌++◌, length, set, Option, Some, true, false, refl, sym, ap, ◌∙◌, subst, arith}
use Rattle.std.specs.List.{slice_get, swap_remove}
use Rattle.std.proofs.lemmas.List.{length-set, set-set, set_comm, set-get_or}
use Rattle.std.proofs.lemmas.Option.{same_Some, none-some, slice_get_within}
use Rattle.asp_vars.specs.Literals.{Literal, has_literal, literal_eq, holds_in}
use Rattle.asp_vars.specs.Codes.{code_of}
use Rattle.asp_vars.specs.declared.nogood.Nogood.{Nogood}
use Rattle.asp_trail.specs.declared.trail.Entry.{Entry}
use Rattle.asp_trail.specs.Entries.{assignment, level}
use Rattle.asp_trail.specs.Trails.{Trailed, IsOrdered, IsVar}
use Rattle.asp_store.specs.declared.stored_nogood.StoredNogood.{StoredNogood}
use Rattle.asp_store.specs.Marks.{Watch}
use Rattle.asp_store.specs.declared.watch.Pair.{Pair}
use Rattle.asp_store.specs.declared.watches.Watches.{Watches}
use Rattle.asp_store.specs.declared.front.Front.{Front}
use Rattle.asp_store.specs.declared.top_walks.Pass.TheVariants as pass
use Rattle.asp_arena.specs.Rows.{row_at}
use Rattle.asp_store.specs.Keeping.{nogood_at}
use Rattle.asp_store.specs.Lists.{list_at, place}
use Rattle.asp_store.specs.Pairs.{pair_at, IsOneOf, IsBeside}
use Rattle.asp_store.specs.Fitting.{IsFalseBy, Extends}
use Rattle.asp_store.specs.Looking.{LeadsWith}
use Rattle.asp_store.specs.Walking.{back, IsWalking, IsVisit, MayWatch, Passes}
use Rattle.asp_store.proofs.GetLaws.{length-swap, at_set, at_set_other}
use Rattle.asp_store.proofs.GrowLaws.{implied_kept, level_stays}
use Rattle.asp_store.proofs.LookLaws.{all_has, eq_itself, or_left, or_right, differ_from}
use Rattle.asp_store.proofs.PlaceLaws.{code_injective, code_within}
use Rattle.asp_store.proofs.StepLaws.{front_var, step_block, step_leave, may_differ, moved, moved_walking, moved_gone}

-- ---- the list in its place
pub back_list : (w : Watches) (c : ℕ) (l : List Watch) → c < length w.lists → list_at (back w c l).lists c ≡ l
back_list w c l h = at_set w.lists c l [] c h refl

pub back_within : (slots : List (Option StoredNogood)) (w : Watches) (t : Trailed) (f : Front) (l : List Watch) (i : ℕ) → IsOrdered t.vars t.entries →
    IsWalking slots (back w (code_of f.lit) l) t f i →
    code_of f.lit < length w.lists
back_within slots w t f l i o k = omega (arith, code_within f.lit t.vars (front_var t f o k.stands), k.sound.net.sized, length-set w.lists (code_of f.lit) l)

-- a place of the list is one of the lists
pub back_place : (w : Watches) (c : ℕ) (l : List Watch) (i : ℕ) (x : Watch) → c < length w.lists → slice_get l i ≡ Some x → place (back w c l).lists c i ≡ Some x
back_place w c l i x h g = ap (λ (xs : List Watch). slice_get xs i) (back_list w c l h) ∙ g

pub back_front : (w : Watches) (c : ℕ) (l : List Watch) (i : ℕ) (x : Watch) → c < length w.lists → place (back w c l).lists c i ≡ Some x → slice_get l i ≡ Some x
back_front w c l i x h g = ap (λ (xs : List Watch). slice_get xs i) (sym (back_list w c l h)) ∙ g

-- the list changes
back_with : (w : Watches) (c : ℕ) (l : List Watch) (g : List Watch → List Watch) → c < length w.lists →
    record (back w c l) { lists = set (back w c l).lists c (g (list_at (back w c l).lists c)) } ≡ back w c (g l)
back_with w c l g h =
    let e : set (set w.lists c l) c (g (list_at (set w.lists c l) c)) ≡ set w.lists c (g l) =
    set-set w.lists c l (g (list_at (set w.lists c l) c)) ∙ ap (λ (xs : List Watch). set w.lists c (g xs)) (back_list w c l h) in
    λ j. record w { lists = e j }

-- ---- the list is taken out, and comes back
pub back_taken : (w : Watches) (c : ℕ) → back (record w { lists = set w.lists c [] }) c (list_at w.lists c) ≡ w
back_taken w c =
    let e : set (set w.lists c []) c (list_at w.lists c) ≡ w.lists = set-set w.lists c [] (list_at w.lists c) ∙ set-get_or w.lists c [] in
    λ j. record w { lists = e j }

-- ---- the steps of a scan
pub pass_block : (slots : List (Option StoredNogood)) (w : Watches) (t : Trailed) (f : Front) (l : List Watch) (i id : ℕ) (other : Literal) → IsOrdered t.vars t.entries →
    IsVisit slots (back w (code_of f.lit) l) t f i id other → IsFalseBy t.entries other f.level → Passes slots w l (set l i (record { blocker = other; id = id; is_short = false })) t f i pass.Stays
pass_block slots w t f l i id other o v is_false =
    let x : Watch = record { blocker = other; id = id; is_short = false } in
    let h : code_of f.lit < length w.lists = back_within slots w t f l i o v.walking in (
      subst (λ (u : Watches). IsWalking slots u t f (i + 1)) (back_with w (code_of f.lit) l (λ (xs : List Watch). set xs i x) h)
          (step_block slots (back w (code_of f.lit) l) t f i id other v is_false).0,
      length-set l i x,
    )

pub pass_leave : (slots : List (Option StoredNogood)) (w : Watches) (t : Trailed) (f : Front) (l : List Watch) (i id : ℕ) (x d : Watch) →
    IsOrdered t.vars t.entries → slice_get l i ≡ Some x → x.id ≡ id →
    ((n : Nogood) (p : Pair) → nogood_at slots id ≡ Some n → pair_at w.rows id ≡ Some p → IsOneOf p f.lit → ⊥) → IsWalking slots (back w (code_of f.lit) l) t f i →
    Passes slots w l (swap_remove l i d) t f i pass.Goes
pass_leave slots w t f l i id x d o g is gone k =
    let h : code_of f.lit < length w.lists = back_within slots w t f l i o k in (
      subst (λ (u : Watches). IsWalking slots u t f i) (back_with w (code_of f.lit) l (λ (xs : List Watch). swap_remove xs i d) h)
          (step_leave slots (back w (code_of f.lit) l) t f i id x d (back_place w (code_of f.lit) l i x h g) is gone k).0,
      length-swap l i d (slice_get_within l i x g),
    )

-- ---- another list gets a watch, and the row changes
back_moved : (w : Watches) (c : ℕ) (l : List Watch) (k other : Literal) (id : ℕ) (r : List Literal) → code_of k ≢ c → moved (back w c l) k other id r ≡ back (moved w k other id r) c l
back_moved w c l k other id r ne =
    let x : Watch = record { blocker = other; id = id; is_short = false } in
    let e : set (set w.lists c l) (code_of k) (list_at (set w.lists c l) (code_of k) ++ x ∷ []) ≡ set (set w.lists (code_of k) (list_at w.lists (code_of k) ++ x ∷ [])) c l =
    ap (λ (xs : List Watch). set (set w.lists c l) (code_of k) (xs ++ x ∷ [])) (at_set_other w.lists c l [] (code_of k) ne)
    ∙ set_comm w.lists c (code_of k) l (list_at w.lists (code_of k) ++ x ∷ []) (λ q. ne (sym q)) in
    λ j. record w { lists = e j; rows = set w.rows id r }

pub moved_back : (slots : List (Option StoredNogood)) (w : Watches) (t : Trailed) (f : Front) (l : List Watch) (i id : ℕ) (other k : Literal) (r : List Literal) → IsOrdered t.vars t.entries →
    MayWatch slots t id other k → LeadsWith (row_at w.rows id) r k other → IsVisit slots (back w (code_of f.lit) l) t f i id other →
    IsWalking slots (back (moved w k other id r) (code_of f.lit) l) t f i
moved_back slots w t f l i id other k r o m leads v =
    subst (λ (u : Watches). IsWalking slots u t f i)
    (back_moved w (code_of f.lit) l k other id r (λ e. may_differ slots t f id other k o v.walking.stands m (code_injective k f.lit e)))
    (moved_walking slots (back w (code_of f.lit) l) t f i id other k r o m leads v)

pub moved_back_gone : (slots : List (Option StoredNogood)) (w : Watches) (t : Trailed) (f : Front) (l : List Watch) (i id : ℕ) (other k : Literal) (r : List Literal) → IsOrdered t.vars t.entries →
    MayWatch slots t id other k → LeadsWith (row_at w.rows id) r k other → IsVisit slots (back w (code_of f.lit) l) t f i id other →
    (n : Nogood) (p : Pair) → nogood_at slots id ≡ Some n → pair_at (set w.rows id r) id ≡ Some p → IsOneOf p f.lit → ⊥
moved_back_gone slots w t f l i id other k r o m leads v = moved_gone slots (back w (code_of f.lit) l) t f i id other k r o m leads v

-- ---- of a place that is visited
pub back_at : (slots : List (Option StoredNogood)) (w : Watches) (t : Trailed) (f : Front) (l : List Watch) (i id : ℕ) (other : Literal) → IsOrdered t.vars t.entries →
    (v : IsVisit slots (back w (code_of f.lit) l) t f i id other) → slice_get l i ≡ Some v.watch
back_at slots w t f l i id other o v = back_front w (code_of f.lit) l i v.watch (back_within slots w t f l i o v.walking) v.at

pub has_at : (n : List Literal) (i : ℕ) (l : Literal) → slice_get n i ≡ Some l → has_literal n l ≡ true
has_at [] i l g = absurd (none-some l g)
has_at (x ∷ n) zero l g = or_left (literal_eq x l) (has_literal n l) (ap (λ (y : Literal). literal_eq y l) (same_Some x l g) ∙ eq_itself l)
has_at (x ∷ n) (suc i) l g = or_right (literal_eq x l) (has_literal n l) (has_at n i l g)

-- the place tells that the nogood is watched beside this literal
pub back_visit : (slots : List (Option StoredNogood)) (w : Watches) (t : Trailed) (f : Front) (l : List Watch) (i id : ℕ) (other : Literal) (x : Watch) (p : Pair) → IsOrdered t.vars t.entries →
    IsWalking slots (back w (code_of f.lit) l) t f i → slice_get l i ≡ Some x → x.id ≡ id → pair_at w.rows id ≡ Some p → IsBeside p f.lit other →
    IsVisit slots (back w (code_of f.lit) l) t f i id other
back_visit slots w t f l i id other x p o k g is q b = record {
  walking = k;
  watch = x;
  at = back_place w (code_of f.lit) l i x (back_within slots w t f l i o k) g;
  id_is = is;
  pair = p;
  pair_is = q;
  beside = b;
}

-- an open literal of the row may watch
pub may_watch : (slots : List (Option StoredNogood)) (w : Watches) (t : Trailed) (f : Front) (i id place : ℕ) (other k : Literal) → IsVisit slots w t f i id other →
    slice_get (row_at w.rows id) place ≡ Some k → literal_eq k other ≡ false → holds_in (assignment t.vars t.entries) k ≡ false → MayWatch slots t id other k
may_watch slots w t f i id place other k v g ne is_open =
    let m = v.walking.sound.net.kept id v.pair v.pair_is in
    let has : has_literal m.0.lits k ≡ true = m.2 k ∙ has_at (row_at w.rows id) place k g in
    record {
      small = (all_has (λ x. IsVar t.vars x.var) m.0.lits k (v.walking.sound.net.small id m.0 m.1) has).1;
      has = λ n h. subst (λ (x : Nogood). has_literal x.lits k ≡ true) (same_Some m.0 n (sym m.1 ∙ h)) has;
      differ = λ e. differ_from k other ne (sym e);
      not_true = is_open;
    }

-- ---- the trail grows
pub extends_level : (slots : List (Option StoredNogood)) (es fs : List Entry) → Extends slots es fs → level fs ≡ level es
extends_level slots es fs x = ap level x.1 ∙ level_stays es x.0 (implied_kept (length slots) (level es) x.0 x.3)
