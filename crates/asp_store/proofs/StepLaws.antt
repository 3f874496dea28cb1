-- What one visit to a place of a literal's list leaves.
use Rattle.std.proofs.Common.{◌≡◌, ◌≢◌, ℕ, suc, zero, ◌+◌, ◌^◌, ◌<◌, ◌≤◌, true, false, List, [], ◌∷◌, ◌++◌, length, set, Option, Some, None, inl, inr, ◌⊎◌, refl, sym, ap, ◌∙◌, subst, arith, add-one}
use Rattle.std.specs.List.{All, swap_remove}
use Rattle.std.specs.Option.{MatchOption, IfNone, IfSome}
use Rattle.std.proofs.lemmas.Bool.{false≢true}
use Rattle.std.proofs.lemmas.List.{length-set}
use Rattle.std.proofs.lemmas.Option.{same_Some, slice_get_within, none-some}
use Rattle.asp_vars.specs.Literals.{Literal, has_literal, literal_eq, holds_in}
use Rattle.asp_vars.specs.Codes.{code_of}
use Rattle.asp_vars.specs.declared.nogood.Nogood.{Nogood}
use Rattle.asp_trail.specs.declared.trail.Entry.{Entry}
use Rattle.asp_trail.specs.Entries.{assignment}
use Rattle.asp_trail.specs.Trails.{Trailed, IsOrdered, IsVar}
use Rattle.asp_trail.specs.Reasons.{Stands}
use Rattle.asp_trail.proofs.HoldLaws.{holds_at}
use Rattle.asp_store.specs.declared.stored_nogood.StoredNogood.{StoredNogood}
use Rattle.asp_store.specs.Marks.{Watch}
use Rattle.asp_store.specs.declared.watch.Pair.{Pair}
use Rattle.asp_store.specs.declared.watches.Watches.{Watches}
use Rattle.asp_store.specs.declared.front.Front.{Front}
use Rattle.asp_store.specs.declared.front.Step.TheVariants as step
use Rattle.asp_arena.specs.Rows.{row_at}
use Rattle.asp_store.specs.Keeping.{nogood_at}
use Rattle.asp_store.specs.Lists.{list_at, place, size}
use Rattle.asp_store.specs.Pairs.{pair_of, pair_at, IsOneOf, IsBeside}
use Rattle.asp_store.specs.Parted.{Parted, IsFrom, Adds}
use Rattle.asp_store.specs.Fitting.{IsFalseBy, HasFalse, Watches as Watching}
use Rattle.asp_store.specs.Sounding.{IsListed, IsPlace, IsSound}
use Rattle.asp_store.specs.Looking.{AreTrueBeside, IsLast, LeadsWith}
use Rattle.asp_store.specs.Walking.{back, IsWalking, IsVisit, MayWatch, Passed, Steps}
use Rattle.asp_store.proofs.GetLaws.{list_within, length-swap, at_set, at_set_other}
use Rattle.asp_store.proofs.PlaceLaws.{code_injective, code_within, place_else, size_here, listed_set, places_set, listed_push, listed_new, places_push, listed_take, places_take, listed_next, listed_later}
use Rattle.asp_store.proofs.WatchLaws.{has_false_grow, stands_grow}
use Rattle.asp_store.proofs.LookLaws.{all_has, all_same, watches_open, eq_itself, one_of_two}
use Rattle.asp_store.proofs.ShortLaws.{place_long, second_of_two, short_here}
use Rattle.asp_store.proofs.SoundLaws.{Suits, sound_lists, sound_row, settled_row, pair_cases, sound_push, sound_grow, settled_grow}

-- ---- of a pair
pub beside_one : (p : Pair) (l k : Literal) → IsBeside p l k → IsOneOf p l × IsOneOf p k
beside_one p l k b =
    elim b [
      | inl e ↦ (inl e.0, inr e.1)
      | inr e ↦ (inr e.1, inl e.0)
    ]

pub beside_differ : (p : Pair) (l k : Literal) → p.first ≢ p.second → IsBeside p l k → k ≢ l
beside_differ p l k d b q =
    elim b [
      | inl e ↦ d (e.0 ∙ (sym q ∙ sym e.1))
      | inr e ↦ d (e.0 ∙ (q ∙ sym e.1))
    ]

-- the front's literal holds
pub front_holds : (t : Trailed) (f : Front) → IsOrdered t.vars t.entries → Stands t.entries f.lit t.seen f.level → holds_in (assignment t.vars t.entries) f.lit ≡ true
front_holds t f o s =
    let d : Entry = record { lit = f.lit; level = 0; reason = None } in
    holds_at t.vars t.entries t.seen d f.lit o s.within (s.lit d)

pub front_var : (t : Trailed) (f : Front) → IsOrdered t.vars t.entries → Stands t.entries f.lit t.seen f.level → f.lit.var ≤ t.vars
front_var t f o s =
    let d : Entry = record { lit = f.lit; level = 0; reason = None } in
    omega (arith, (o.within t.seen d s.within).1, ap (λ (l : Literal). l.var) (s.lit d))

-- ---- the walk goes on from a later place
pub walking_later : (slots : List (Option StoredNogood)) (w : Watches) (t : Trailed) (f : Front) (i j : ℕ) →
    ((k : ℕ) (x : Watch) → i ≤ k → k < j → place w.lists (code_of f.lit) k ≡ Some x → IsFalseBy t.entries x.blocker f.level) → IsWalking slots w t f i → IsWalking slots w t f j
walking_later slots w t f i j are_false k = record {
  sound = k.sound;
  settled = k.settled;
  done = λ id n p h q o. elim (k.done id n p h q o) [
    | inl l ↦ elim (listed_later w.lists f.lit i j id n.lits l) [
      | inl e ↦ inr (e.0.blocker, e.5, are_false e.1 e.0 e.2 e.3 e.4)
      | inr m ↦ inl m
    ]
    | inr m ↦ inr m
  ];
  stands = k.stands;
}

-- ---- the blocker of a place changes
-- the nogood of a visit has the other watch
pub visit_has : (slots : List (Option StoredNogood)) (w : Watches) (t : Trailed) (f : Front) (i id : ℕ) (other : Literal) (n : Nogood) → IsVisit slots w t f i id other → nogood_at slots id ≡ Some n →
    has_literal n.lits other ≡ true
visit_has slots w t f i id other n v h =
    (v.walking.sound.fit.watched id n v.pair h v.pair_is).has other (beside_one v.pair f.lit other v.beside).1

pub visit_var : (slots : List (Option StoredNogood)) (w : Watches) (t : Trailed) (f : Front) (i id : ℕ) (other : Literal) → IsVisit slots w t f i id other → other.var ≤ t.vars
visit_var slots w t f i id other v = v.walking.sound.net.watched id v.pair other v.pair_is (beside_one v.pair f.lit other v.beside).1

pub visit_within : (slots : List (Option StoredNogood)) (w : Watches) (t : Trailed) (f : Front) (i id : ℕ) (other : Literal) → IsVisit slots w t f i id other → i < size w.lists (code_of f.lit)
visit_within slots w t f i id other v = slice_get_within (list_at w.lists (code_of f.lit)) i v.watch v.at

same_nogood : (slots : List (Option StoredNogood)) (j id : ℕ) (n m : Nogood) → j ≡ id → nogood_at slots j ≡ Some n → nogood_at slots id ≡ Some m → n ≡ m
same_nogood slots j id n m e h g = same_Some n m (sym h ∙ (ap (nogood_at slots) e ∙ g))

pub step_block : (slots : List (Option StoredNogood)) (w : Watches) (t : Trailed) (f : Front) (i id : ℕ) (other : Literal) → IsVisit slots w t f i id other →
    IsFalseBy t.entries other f.level →
    Steps slots w (record w { lists = set w.lists (code_of f.lit) (set (list_at w.lists (code_of f.lit)) i (record { blocker = other; id = id; is_short = false })) }) t f i step.Stays
step_block slots w t f i id other v is_false = (
  record {
    sound = sound_lists slots w t lists (length-set w.lists c (set (list_at w.lists c) i x))
        (places_set (IsPlace t.vars slots) w.lists c i x h (place_long t.vars slots c id other (visit_var slots w t f i id other v))
        k.sound.net.places)
        (λ j n p l g q o. stays j n l 0 g (k.sound.net.listed j n p l g q o)) k.sound;
    settled = k.settled;
    done = λ j n p g q o. elim (k.done j n p g q o) [
      | inl l ↦ elim (listed_next w.lists f.lit i j n.lits v.watch v.at l) [
        | inl e ↦ inr (other, visit_has slots w t f i id other n v (ap (nogood_at slots) (sym v.id_is ∙ e.0) ∙ g), is_false)
        | inr m ↦ inl (rw add-one (stays j n f.lit (suc i) g m))
      ]
      | inr m ↦ inr m
    ];
    stands = k.stands;
  },
  size_here w.lists c (set (list_at w.lists c) i x) (list_within w.lists c i h) ∙ length-set (list_at w.lists c) i x,
)
  where
    k : IsWalking slots w t f i
    k = v.walking

    c : ℕ
    c = code_of f.lit

    x : Watch
    x = record { blocker = other; id = id; is_short = false }

    lists : List (List Watch)
    lists = set w.lists (code_of f.lit) (set (list_at w.lists (code_of f.lit)) i (record { blocker = other; id = id; is_short = false }))

    h : i < size w.lists (code_of f.lit)
    h = visit_within slots w t f i id other v

    stays : (j : ℕ) (n : Nogood) (l : Literal) (from : ℕ) → nogood_at slots j ≡ Some n → IsListed w.lists l from j n.lits →
        IsListed (set w.lists (code_of f.lit) (set (list_at w.lists (code_of f.lit)) i (record { blocker = other; id = id; is_short = false }))) l from j n.lits
    stays j n l from g s =
        listed_set w.lists (code_of f.lit) i (record { blocker = other; id = id; is_short = false }) v.watch l from j n.lits h v.at v.id_is
        (λ e. visit_has slots w t f i id other n v (ap (nogood_at slots) (sym e) ∙ g)) s

-- ---- a place goes
pub step_leave : (slots : List (Option StoredNogood)) (w : Watches) (t : Trailed) (f : Front) (i id : ℕ) (x d : Watch) → place w.lists (code_of f.lit) i ≡ Some x → x.id ≡ id →
    ((n : Nogood) (p : Pair) → nogood_at slots id ≡ Some n → pair_at w.rows id ≡ Some p → IsOneOf p f.lit → ⊥) → IsWalking slots w t f i →
    Steps slots w (record w { lists = set w.lists (code_of f.lit) (swap_remove (list_at w.lists (code_of f.lit)) i d) }) t f i step.Goes
step_leave slots w t f i id x d g is gone k = (
  record {
    sound = sound_lists slots w t lists (length-set w.lists (code_of f.lit) (swap_remove (list_at w.lists (code_of f.lit)) i d))
        (places_take (IsPlace t.vars slots) w.lists (code_of f.lit) i d h k.sound.net.places)
        (λ j n p l m q o. stays j n p l 0 (omega arith) m q o (k.sound.net.listed j n p l m q o)) k.sound;
    settled = k.settled;
    done = λ j n p m q o. elim (k.done j n p m q o) [
      | inl l ↦ inl (stays j n p f.lit i (omega arith) m q o l)
      | inr r ↦ inr r
    ];
    stands = k.stands;
  },
  omega (arith, size_here w.lists (code_of f.lit) (swap_remove (list_at w.lists (code_of f.lit)) i d) (list_within w.lists (code_of f.lit) i h), length-swap (list_at w.lists (code_of f.lit)) i d h),
)
  where
    h : i < size w.lists (code_of f.lit)
    h = slice_get_within (list_at w.lists (code_of f.lit)) i x g

    lists : List (List Watch)
    lists = set w.lists (code_of f.lit) (swap_remove (list_at w.lists (code_of f.lit)) i d)

    stays : (j : ℕ) (n : Nogood) (p : Pair) (l : Literal) (from : ℕ) → from ≤ i → nogood_at slots j ≡ Some n → pair_at w.rows j ≡ Some p → IsOneOf p l → IsListed w.lists l from j n.lits →
        IsListed (set w.lists (code_of f.lit) (swap_remove (list_at w.lists (code_of f.lit)) i d)) l from j n.lits
    stays j n p l from low m q o s =
        listed_take w.lists (code_of f.lit) i d x l from j n.lits h g low
        (λ e y. let z : id ≡ j = sym is ∙ y in
        gone n p (ap (nogood_at slots) z ∙ m) (ap (pair_at w.rows) z ∙ q) (subst (λ (b : Literal). IsOneOf p b) (code_injective l f.lit e) o)) s

-- ---- another list gets a watch
pub code_of_list : (slots : List (Option StoredNogood)) (w : Watches) (t : Trailed) (l : Literal) → IsSound slots w t → l.var ≤ t.vars → code_of l < length w.lists
code_of_list slots w t l s h = omega (arith, code_within l t.vars h, s.net.sized)

pub sound_watch : (slots : List (Option StoredNogood)) (w : Watches) (t : Trailed) (l : Literal) (x : Watch) → l.var ≤ t.vars → IsPlace t.vars slots (code_of l) x → IsSound slots w t →
    IsSound slots (record w { lists = set w.lists (code_of l) (list_at w.lists (code_of l) ++ x ∷ []) }) t
sound_watch slots w t l x h b s =
    sound_lists slots w t (set w.lists (code_of l) (list_at w.lists (code_of l) ++ x ∷ [])) (length-set w.lists (code_of l) (list_at w.lists (code_of l) ++ x ∷ []))
    (places_push (IsPlace t.vars slots) w.lists (code_of l) x (code_of_list slots w t l s h) b s.net.places)
    (λ j n p k m q o. listed_push w.lists (code_of l) x k 0 j n.lits (code_of_list slots w t l s h) (s.net.listed j n p k m q o)) s

pub visit_push : (slots : List (Option StoredNogood)) (w : Watches) (t : Trailed) (f : Front) (i id : ℕ) (other l : Literal) (x : Watch) → l.var ≤ t.vars → IsPlace t.vars slots (code_of l) x →
    l ≢ f.lit → IsVisit slots w t f i id other → IsVisit slots (record w { lists = set w.lists (code_of l) (list_at w.lists (code_of l) ++ x ∷ []) }) t f i id other
visit_push slots w t f i id other l x h b ne v = record {
  walking = record {
    sound = sound_watch slots w t l x h b v.walking.sound;
    settled = v.walking.settled;
    done = λ j n p m q o. elim (v.walking.done j n p m q o) [
      | inl s ↦ inl (listed_push w.lists (code_of l) x f.lit i j n.lits (code_of_list slots w t l v.walking.sound h) s)
      | inr s ↦ inr s
    ];
    stands = v.walking.stands;
  };
  watch = v.watch;
  at = place_else w.lists (code_of l) (list_at w.lists (code_of l) ++ x ∷ []) (code_of f.lit) i (λ e. ne (sym (code_injective f.lit l e))) ∙ v.at;
  id_is = v.id_is;
  pair = v.pair;
  pair_is = v.pair_is;
  beside = v.beside;
}

-- ---- the row of a visit changes
pub visit_id : (slots : List (Option StoredNogood)) (w : Watches) (t : Trailed) (f : Front) (i id : ℕ) (other : Literal) → IsVisit slots w t f i id other → id < length w.rows
visit_id slots w t f i id other v = some_within w.rows id v.pair v.pair_is
  where
    some_within : (xs : List (List Literal)) (k : ℕ) (p : Pair) → pair_at xs k ≡ Some p → k < length xs
    some_within [] k p q = absurd (let e : ⊥ = cc in e)
    some_within (x ∷ xs) zero p q = omega arith
    some_within (x ∷ xs) (suc k) p q = omega (arith, some_within xs k p q)

pub visit_few : (slots : List (Option StoredNogood)) (w : Watches) (t : Trailed) (f : Front) (i id : ℕ) (other : Literal) → IsVisit slots w t f i id other → id < 2 ^ 31
visit_few slots w t f i id other v = omega (arith, visit_id slots w t f i id other v, v.walking.sound.net.paired, v.walking.sound.net.numbered)

-- the literal of the front isn't watched any more
pub walking_row : (slots : List (Option StoredNogood)) (w : Watches) (t : Trailed) (f : Front) (i id : ℕ) (r : List Literal) → Suits slots w t id r →
    ((n : Nogood) → nogood_at slots id ≡ Some n → pair_of r ≡ None → (b : ℕ) × HasFalse t.entries n.lits b) →
    ((n : Nogood) (p : Pair) → nogood_at slots id ≡ Some n → pair_of r ≡ Some p → IsOneOf p f.lit → ⊥) → IsWalking slots w t f i → IsWalking slots (record w { rows = set w.rows id r }) t f i
walking_row slots w t f i id r u settled gone k = record {
  sound = sound_row slots w t id r u k.sound;
  settled = settled_row slots w.rows t.entries id r u.within settled k.settled;
  done = λ j n p h g o. elim (pair_cases w.rows id r j (Some p) u.within g) [
    | inl e ↦ absurd (gone n p (sym (ap (nogood_at slots) e.0) ∙ h) e.1 o)
    | inr e ↦ k.done j n p h e.1 o
  ];
  stands = k.stands;
}

-- a watched literal is one of the two that come first
lead_pair : (old new : List Literal) (l other : Literal) (p : Pair) → LeadsWith old new l other → pair_of new ≡ Some p → IsBeside p l other
lead_pair old new l other p m q = subst (λ (x : Pair). IsBeside x l other) (same_Some m.pair p (sym m.pair_is ∙ q)) m.beside

either_of : (p : Pair) (l other k : Literal) → IsBeside p l other → IsOneOf p k → (l ≡ k) ⊎ (other ≡ k)
either_of p l other k (inl e) (inl o) = inl (sym e.0 ∙ o)
either_of p l other k (inl e) (inr o) = inr (sym e.1 ∙ o)
either_of p l other k (inr e) (inl o) = inr (sym e.0 ∙ o)
either_of p l other k (inr e) (inr o) = inl (sym e.1 ∙ o)

differ_of : (p : Pair) (l other : Literal) → IsBeside p l other → l ≢ other → p.first ≢ p.second
differ_of p l other (inl b) ne e = ne (sym b.0 ∙ (e ∙ b.1))
differ_of p l other (inr b) ne e = ne (sym b.1 ∙ (sym e ∙ b.0))

pub suits_move : (slots : List (Option StoredNogood)) (w : Watches) (t : Trailed) (f : Front) (i id : ℕ) (other l : Literal) (r : List Literal) →
    IsOrdered t.vars t.entries → MayWatch slots t id other l →
    LeadsWith (row_at w.rows id) r l other → ((n : Nogood) → nogood_at slots id ≡ Some n → IsListed w.lists l 0 id n.lits) → IsVisit slots w t f i id other → Suits slots w t id r
suits_move slots w t f i id other l r o m leads listed v = record {
  within = visit_id slots w t f i id other v;
  kept = λ p q. let n = v.walking.sound.net.kept id v.pair v.pair_is in (n.0, n.1, λ k. n.2 k ∙ leads.same k);
  bounded = λ p k q one. elim (either p k q one) [
    | inl e ↦ omega (arith, m.small, ap (λ (x : Literal). x.var) e)
    | inr e ↦ omega (arith, visit_var slots w t f i id other v, ap (λ (x : Literal). x.var) e)
  ];
  listed = λ n p k h q one. elim (either p k q one) [
    | inl e ↦ subst (λ (x : Literal). IsListed w.lists x 0 id n.lits) e (listed n h)
    | inr e ↦ subst (λ (x : Literal). IsListed w.lists x 0 id n.lits) e (v.walking.sound.net.listed id n v.pair other h v.pair_is (beside_one v.pair f.lit other v.beside).1)
  ];
  watched = λ n p h q.
      let was = v.walking.sound.fit.watched id n v.pair h v.pair_is in
      record {
        has = λ k one. elim (either p k q one) [
          | inl e ↦ subst (λ (x : Literal). has_literal n.lits x ≡ true) e (m.has n h)
          | inr e ↦ subst (λ (x : Literal). has_literal n.lits x ≡ true) e (visit_has slots w t f i id other n v h)
        ];
        differ = differ_of p l other (lead_pair (row_at w.rows id) r l other p leads q) m.differ;
        watches = λ k one. elim (either p k q one) [
          | inl e ↦ subst (λ (x : Literal). Watching t.entries t.seen n.lits x) e (watches_open t.vars t.entries t.seen n.lits l o m.not_true)
          | inr e ↦ subst (λ (x : Literal). Watching t.entries t.seen n.lits x) e (was.watches other (beside_one v.pair f.lit other v.beside).1)
        ];
      };
  apart = λ n h q. absurd (none-some leads.pair (sym q ∙ leads.pair_is));
}
  where
    either : (p : Pair) (k : Literal) → pair_of r ≡ Some p → IsOneOf p k → (l ≡ k) ⊎ (other ≡ k)
    either p k q one = either_of p l other k (lead_pair (row_at w.rows id) r l other p leads q) one

-- a literal that isn't true isn't the front's
pub may_differ : (slots : List (Option StoredNogood)) (t : Trailed) (f : Front) (id : ℕ) (other l : Literal) → IsOrdered t.vars t.entries → Stands t.entries f.lit t.seen f.level →
    MayWatch slots t id other l → l ≢ f.lit
may_differ slots t f id other l o s m e =
    false≢true (sym m.not_true ∙ (ap (holds_in (assignment t.vars t.entries)) e ∙ front_holds t f o s))

move_gone : (slots : List (Option StoredNogood)) (w : Watches) (t : Trailed) (f : Front) (i id : ℕ) (other l : Literal) (r : List Literal) → IsOrdered t.vars t.entries → MayWatch slots t id other l →
    LeadsWith (row_at w.rows id) r l other → IsVisit slots w t f i id other → (n : Nogood) → nogood_at slots id ≡ Some n → (p : Pair) → pair_of r ≡ Some p → IsOneOf p f.lit → ⊥
move_gone slots w t f i id other l r o m leads v n h p e one =
    elim (either_of p l other f.lit (lead_pair (row_at w.rows id) r l other p leads e) one) [
      | inl a ↦ may_differ slots t f id other l o v.walking.stands m a
      | inr a ↦ beside_differ v.pair f.lit other (v.walking.sound.fit.watched id n v.pair h v.pair_is).differ v.beside a
    ]

-- the pair of the front's literal and the other is that of another one and the other
pub walking_move : (slots : List (Option StoredNogood)) (w : Watches) (t : Trailed) (f : Front) (i id : ℕ) (other l : Literal) (r : List Literal) →
    IsOrdered t.vars t.entries → MayWatch slots t id other l →
    LeadsWith (row_at w.rows id) r l other → ((n : Nogood) → nogood_at slots id ≡ Some n → IsListed w.lists l 0 id n.lits) → IsVisit slots w t f i id other →
    IsWalking slots (record w { rows = set w.rows id r }) t f i
walking_move slots w t f i id other l r o m leads listed v =
    walking_row slots w t f i id r (suits_move slots w t f i id other l r o m leads listed v) (λ k g q. absurd (none-some leads.pair (sym q ∙ leads.pair_is)))
    (λ n p h q one. move_gone slots w t f i id other l r o m leads v n h p q one) v.walking

-- after it the front's literal isn't watched
pub moved_gone : (slots : List (Option StoredNogood)) (w : Watches) (t : Trailed) (f : Front) (i id : ℕ) (other l : Literal) (r : List Literal) →
    IsOrdered t.vars t.entries → MayWatch slots t id other l →
    LeadsWith (row_at w.rows id) r l other → IsVisit slots w t f i id other → (n : Nogood) (p : Pair) → nogood_at slots id ≡ Some n → pair_at (set w.rows id r) id ≡ Some p → IsOneOf p f.lit → ⊥
moved_gone slots w t f i id other l r o m leads v n p h g one =
    move_gone slots w t f i id other l r o m leads v n h p (sym (ap pair_of (at_set w.rows id r [] id (visit_id slots w t f i id other v) refl)) ∙ g) one

-- ---- the nogood of a visit isn't watched any more
pub visit_apart : (slots : List (Option StoredNogood)) (w : Watches) (t : Trailed) (f : Front) (i id : ℕ) (other : Literal) (new : Parted) (x : ℕ) →
    Adds w.apart new x → IsVisit slots w t f i id other →
    IsVisit slots (record w { apart = new }) t f i id other
visit_apart slots w t f i id other new x a v = record {
  walking = record {
    sound = sound_push slots w t new x a v.walking.sound;
    settled = v.walking.settled;
    done = v.walking.done;
    stands = v.walking.stands;
  };
  watch = v.watch;
  at = v.at;
  id_is = v.id_is;
  pair = v.pair;
  pair_is = v.pair_is;
  beside = v.beside;
}

pub walking_apart : (slots : List (Option StoredNogood)) (w : Watches) (t : Trailed) (f : Front) (i id : ℕ) (other : Literal) (b : ℕ) → IsFrom w.apart w.apart.first id →
    IsFalseBy t.entries other b → IsVisit slots w t f i id other → IsWalking slots (record w { rows = set w.rows id [] }) t f i
walking_apart slots w t f i id other b waits is_false v =
    walking_row slots w t f i id []
    record {
      within = visit_id slots w t f i id other v;
      kept = λ p q. absurd (none-some p q);
      bounded = λ p l q o. absurd (none-some p q);
      listed = λ n p l h q o. absurd (none-some p q);
      watched = λ n p h q. absurd (none-some p q);
      apart = λ n h q. waits;
    }
    (λ n h q. (b, (other, visit_has slots w t f i id other n v h, is_false))) (λ n p h q o. none-some p q) v.walking

pub apart_gone : (slots : List (Option StoredNogood)) (w : Watches) (t : Trailed) (f : Front) (i id : ℕ) (other : Literal) → IsVisit slots w t f i id other → (p : Pair) →
    pair_at (set w.rows id []) id ≡ Some p → ⊥
apart_gone slots w t f i id other v p g = none-some p (sym (ap pair_of (at_set w.rows id [] [] id (visit_id slots w t f i id other v) refl)) ∙ g)

-- ---- the trail grows
pub walking_grow : (slots : List (Option StoredNogood)) (w : Watches) (t : Trailed) (f : Front) (i : ℕ) (fs : List Entry) → t.seen ≤ length t.entries → IsWalking slots w t f i →
    IsWalking slots w (record t { entries = t.entries ++ fs }) f i
walking_grow slots w t f i fs le k = record {
  sound = sound_grow slots w t fs le k.sound;
  settled = settled_grow slots w.rows t.entries fs k.settled;
  done = λ j n p h g o. elim (k.done j n p h g o) [
    | inl l ↦ inl l
    | inr m ↦ inr (has_false_grow t.entries fs n.lits f.level m)
  ];
  stands = stands_grow t.entries fs f.lit t.seen f.level k.stands;
}

pub visit_stays : (slots : List (Option StoredNogood)) (w : Watches) (t n : Trailed) (f : Front) (i id : ℕ) (other : Literal) → IsVisit slots w t f i id other → IsWalking slots w n f i →
    IsVisit slots w n f i id other
visit_stays slots w t n f i id other v k = record {
  walking = k;
  watch = v.watch;
  at = v.at;
  id_is = v.id_is;
  pair = v.pair;
  pair_is = v.pair_is;
  beside = v.beside;
}

-- ---- literals of a visited nogood
pub visit_small : (slots : List (Option StoredNogood)) (w : Watches) (t : Trailed) (id : ℕ) (n : Nogood) (lits : List Literal) → IsSound slots w t → nogood_at slots id ≡ Some n → n.lits ≡ lits →
    All (λ k. IsVar t.vars k.var) lits
visit_small slots w t id n lits s h e = subst (λ (xs : List Literal). All (λ k. IsVar t.vars k.var) xs) e (s.net.small id n h)

-- of a row
pub row_small : (slots : List (Option StoredNogood)) (w : Watches) (t : Trailed) (id : ℕ) (p : Pair) → IsSound slots w t → pair_at w.rows id ≡ Some p → All (λ k. IsVar t.vars k.var) (row_at w.rows id)
row_small slots w t id p s q =
    let n = s.net.kept id p q in
    all_same (λ k. IsVar t.vars k.var) n.0.lits (row_at w.rows id) n.2 (s.net.small id n.0 n.1)

-- ---- another literal watches in place of the front's
abbrev pub moved : Watches → Literal → Literal → ℕ → List Literal → Watches
moved w l other id r = record w {
  lists = set w.lists (code_of l) (list_at w.lists (code_of l) ++ record { blocker = other; id = id; is_short = false } ∷ []);
  rows = set w.rows id r;
}

moved_visit : (slots : List (Option StoredNogood)) (w : Watches) (t : Trailed) (f : Front) (i id : ℕ) (other l : Literal) → IsOrdered t.vars t.entries → MayWatch slots t id other l →
    IsVisit slots w t f i id other →
    IsVisit slots (record w { lists = set w.lists (code_of l) (list_at w.lists (code_of l) ++ record { blocker = other; id = id; is_short = false } ∷ []) }) t f i id other
moved_visit slots w t f i id other l o m v =
    visit_push slots w t f i id other l (record { blocker = other; id = id; is_short = false }) m.small
    (place_long t.vars slots (code_of l) id other (visit_var slots w t f i id other v)) (may_differ slots t f id other l o v.walking.stands m) v

pub moved_walking : (slots : List (Option StoredNogood)) (w : Watches) (t : Trailed) (f : Front) (i id : ℕ) (other l : Literal) (r : List Literal) →
    IsOrdered t.vars t.entries → MayWatch slots t id other l →
    LeadsWith (row_at w.rows id) r l other → IsVisit slots w t f i id other → IsWalking slots (moved w l other id r) t f i
moved_walking slots w t f i id other l r o m leads v =
    walking_move slots (record w { lists = set w.lists (code_of l) (list_at w.lists (code_of l) ++ record { blocker = other; id = id; is_short = false } ∷ []) }) t f i id other l r o m leads
    (λ n h. listed_new w.lists (record { blocker = other; id = id; is_short = false }) l n.lits (code_of_list slots w t l v.walking.sound m.small) (visit_has slots w t f i id other n v h))
    (moved_visit slots w t f i id other l o m v)

pub moved_at : (slots : List (Option StoredNogood)) (w : Watches) (t : Trailed) (f : Front) (i id : ℕ) (other l : Literal) (r : List Literal) →
    IsOrdered t.vars t.entries → MayWatch slots t id other l →
    IsVisit slots w t f i id other → (x : Watch) × (place (moved w l other id r).lists (code_of f.lit) i ≡ Some x) × (x.id ≡ id)
moved_at slots w t f i id other l r o m v = let u = moved_visit slots w t f i id other l o m v in (u.watch, u.at, u.id_is)

pub moved_size : (slots : List (Option StoredNogood)) (w : Watches) (t : Trailed) (f : Front) (i id : ℕ) (other l : Literal) (r : List Literal) →
    IsOrdered t.vars t.entries → MayWatch slots t id other l →
    IsVisit slots w t f i id other → size (moved w l other id r).lists (code_of f.lit) ≡ size w.lists (code_of f.lit)
moved_size slots w t f i id other l r o m v =
    ap (length {A = Watch}) (at_set_other w.lists (code_of l) (list_at w.lists (code_of l) ++ record { blocker = other; id = id; is_short = false } ∷ []) [] (code_of f.lit)
    (λ e. may_differ slots t f id other l o v.walking.stands m (sym (code_injective f.lit l e))))

-- the number stands among those apart, and has no row
abbrev pub put_apart : Watches → Parted → ℕ → Watches
put_apart w new id = record w { rows = set w.rows id []; apart = new }

pub apart_walking : (slots : List (Option StoredNogood)) (w : Watches) (t : Trailed) (f : Front) (i id : ℕ) (other : Literal) (b : ℕ) (new : Parted) → Adds w.apart new id →
    IsFalseBy t.entries other b → IsVisit slots w t f i id other → IsWalking slots (put_apart w new id) t f i
apart_walking slots w t f i id other b new a is_false v =
    walking_apart slots (record w { apart = new }) t f i id other b a.here is_false (visit_apart slots w t f i id other new id a v)

-- ---- what watches beside a literal
pub none_beside : (rows : List (List Literal)) (id : ℕ) (l : Literal) (p : Pair) (r : Option Literal) → Some p ≡ pair_at rows id → MatchOption r (IsOneOf p l → ⊥) (IsBeside p l) →
    IfNone r ((q : Pair) → pair_at rows id ≡ Some q → IsOneOf q l → ⊥)
none_beside rows id l p None e m = λ q g o. m (subst (λ (x : Pair). IsOneOf x l) (sym (same_Some p q (e ∙ g))) o)
none_beside rows id l p (Some k) e m = tt

pub some_beside : (rows : List (List Literal)) (id : ℕ) (l : Literal) (p : Pair) (r : Option Literal) → Some p ≡ pair_at rows id → MatchOption r (IsOneOf p l → ⊥) (IsBeside p l) →
    IfSome r (λ k. (q : Pair) × (pair_at rows id ≡ Some q) × IsBeside q l k)
some_beside rows id l p None e m = tt
some_beside rows id l p (Some k) e m = (p, sym e, m)

-- ---- a place that tells its nogood
pub told_beside : (t : Trailed) (f : Front) (other : Literal) → IsOrdered t.vars t.entries → Stands t.entries f.lit t.seen f.level → AreTrueBeside t.vars t.entries (f.lit ∷ other ∷ []) other
told_beside t f other o s k h ne =
    elim (one_of_two f.lit other k h) [
      | inl e ↦ subst (λ (x : Literal). holds_in (assignment t.vars t.entries) x ≡ true) e (front_holds t f o s)
      | inr e ↦ absurd (false≢true (sym ne ∙ (ap (λ (x : Literal). literal_eq x other) (sym e) ∙ eq_itself other)))
    ]

pub last_told : (slots : List (Option StoredNogood)) (w : Watches) (t : Trailed) (f : Front) (i id : ℕ) (x : Watch) (b : Literal) → IsOrdered t.vars t.entries → IsWalking slots w t f i →
    place w.lists (code_of f.lit) i ≡ Some x → x.is_short ≡ true → id ≡ x.id → b ≡ x.blocker → IsLast slots t id (f.lit ∷ b ∷ []) b
last_told slots w t f i id x b o k at short e q =
    let here = short_here slots f x ((k.sound.net.places (code_of f.lit) i x at).short short) in
    let l : Literal = x.blocker in
    let last : IsLast slots t x.id (f.lit ∷ l ∷ []) l = record {
      nogood = here.0;
      kept = here.1;
      same = here.2;
      has = second_of_two f.lit l;
      var = all_has (λ m. IsVar t.vars m.var) here.0.lits l (k.sound.net.small x.id here.0 here.1) (here.2 l ∙ second_of_two f.lit l);
      others = told_beside t f l o k.stands;
    } in
    subst (λ (m : Literal). IsLast slots t id (f.lit ∷ m ∷ []) m) (sym q) (subst (λ (j : ℕ). IsLast slots t j (f.lit ∷ l ∷ []) l) (sym e) last)

-- of one that is visited, all literals of its row but the other watch are true
pub last_visited : (slots : List (Option StoredNogood)) (w : Watches) (t : Trailed) (f : Front) (i id : ℕ) (other : Literal) → AreTrueBeside t.vars t.entries (row_at w.rows id) other →
    IsVisit slots w t f i id other → IsLast slots t id (row_at w.rows id) other
last_visited slots w t f i id other o v =
    let k = v.walking.sound.net.kept id v.pair v.pair_is in
    let has : has_literal k.0.lits other ≡ true = visit_has slots w t f i id other k.0 v k.1 in
    record {
      nogood = k.0;
      kept = k.1;
      same = k.2;
      has = sym (k.2 other) ∙ has;
      var = all_has (λ l. IsVar t.vars l.var) k.0.lits other (v.walking.sound.net.small id k.0 k.1) has;
      others = o;
    }

-- the next place, where the one before is of a nogood whose blocker is false now
pub walking_told : (slots : List (Option StoredNogood)) (w : Watches) (t : Trailed) (f : Front) (i : ℕ) (x : Watch) → place w.lists (code_of f.lit) i ≡ Some x → IsFalseBy t.entries x.blocker f.level →
    IsWalking slots w t f i → IsWalking slots w t f (i + 1)
walking_told slots w t f i x g is_false k =
    walking_later slots w t f i (i + 1)
    (λ j y from to at. let e : x ≡ y = same_Some x y (sym g ∙ (ap (place w.lists (code_of f.lit)) (let q : i ≡ j = omega arith in q) ∙ at)) in
    subst (λ (z : Watch). IsFalseBy t.entries z.blocker f.level) e is_false) k

pub passed_told : (slots : List (Option StoredNogood)) (w : Watches) (l : List Watch) (n : Trailed) (f : Front) (i d : ℕ) (x : Watch) (b : Literal) (r : Option ℕ) →
    place (back w (code_of f.lit) l).lists (code_of f.lit) i ≡ Some x → b ≡ x.blocker → d ≡ f.level → IfNone r (IsFalseBy n.entries b d) → IsWalking slots (back w (code_of f.lit) l) n f i →
    Passed slots w l l n f i r
passed_told slots w l n f i d x b (Some id) g e q is_false k = k
passed_told slots w l n f i d x b None g e q is_false k = (
  walking_told slots (back w (code_of f.lit) l) n f i x g
      (subst (λ (m : Literal). IsFalseBy n.entries m f.level) e (subst (λ (c : ℕ). IsFalseBy n.entries b c) q is_false)) k,
  refl,
)
