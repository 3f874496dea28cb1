-- Each step keeps the rule.
use Rattle.std.proofs.Common.{◌≡◌, ◌≢◌, ℕ, zero, suc, ◌+◌, ◌*◌, ◌/◌, ◌%◌, ◌^◌, ◌≤◌, Bool, true, false, true≢false, cond, List, [], ◌∷◌, ◌++◌, length, drop, get_or, set, Option, Some, None, refl, sym, ap, ◌∙◌, subst, ⊎_elim, arith, length-set, get_or-set_same}
use Rattle.std.proofs.lemmas.Nat.{or_block}
use Rattle.std.proofs.lemmas.Bool.{le-leb}
use Rattle.std.proofs.lemmas.List.{append_cancel_left, append-nil}
use Rattle.std.specs.Int.Bits.{or_zero_r}
use mathlib.Core.Option.{some, some-injective}
use mathlib.Core.Option as maybe
use mathlib.Core.Logic.{dite}
use mathlib.Core.List.{IsPrefix, Sublist}
use mathlib.Core.List.Sublist as sub
use native.Mathlib.Decide.{ℕ_discrete}
use lib.ListN.{get_elem?}
use lib.Seq.{set-get_or}
use lib.Bits.{bit_or}
use Rattle.atomic_table.specs.Table.{State, Me, step, Act, keeps, gives, Allows, Splits, Joins, Final, Seen, stepped, opening, rest}
use Rattle.atomic_table.specs.Table as table
use Rattle.atomic_table.proofs.Lists.{set_here, set_else, at_longer}
use Rattle.asp_vault.specs.declared.view.View.{View}
use Rattle.asp_vault.specs.Makers.{placed, of_number, named, OnlyBy, Unnamed}
use Rattle.asp_vault.specs.Rules.{bit, longer, opened, holding, missed, seeing, given_back, parted, fresh, joined, spent, compared, Guests, Member, Vaulted, Learnt, took, gave, compares, looks}
use Rattle.asp_vault.proofs.Prefixes.{prefix_self, prefix_trans, prefix_length, prefix_shorter}
use Rattle.asp_vault.proofs.Filters.{drop_prefix, placed_on, of_more, named-append, none_of, none_if, only_of, only_none, unnamed_none}
use Rattle.asp_vault.proofs.Totals.{each_set, put_there, at_end, one_view}
use Rattle.asp_vault.proofs.Rolls.{off, of, placed_more, first_is, roll_turn, roll_open, roll_split, roll_join, roll_closed, roll_guests}

on : true ≡ false → ⊥
on = true≢false

-- a word with its lowest bit set
or_one : (k : ℕ) (b : Bool) → bit_or (2 * k + bit b) 1 ≡ 2 * k + 1
or_one k true = let e : 2 * k + 1 ≡ k * 2 ^ 1 + 1 = omega arith in
    ap (λ n. bit_or n 1) e ∙ (or_block 1 k 0 1 1 (omega arith) (omega arith) ∙ (ap (λ n. n * 2 ^ 1 + 1) (or_zero_r k) ∙ sym e))
or_one k false = let e : 2 * k + 0 ≡ k * 2 ^ 1 + 0 = omega arith in let f : k * 2 ^ 1 + 1 ≡ 2 * k + 1 = omega arith in
    ap (λ n. bit_or n 1) e ∙ (or_block 1 k 0 0 1 (omega arith) (omega arith) ∙ (ap (λ n. n * 2 ^ 1 + 1) (or_zero_r k) ∙ f))

low_bit : (k : ℕ) (b : Bool) → (2 * k + bit b) % 2 ≡ bit b
low_bit k true = omega arith
low_bit k false = omega arith

pub headed : {S : Type 0} (cs more : List (ℕ × S)) (z : ℕ × S) → cs ≡ z ∷ more → cs ≡ z ∷ rest cs
headed cs more z e = e ∙ ap (λ (l : List (ℕ × _)). z ∷ rest l) (sym e)

module _ {T D E : Type 0} (about_of : T → D) (entries : T → List E) (maker : E → Option ℕ) (sound : T → Type 0) where
  abbrev Rule : State (Option T) (View D E) → Type 0
  Rule = Vaulted about_of entries maker sound

  pub opens : (x : T) (w : ℕ) → w ≡ 2 * length (entries x) → sound x → Unnamed maker (entries x) → Rule (opening (w ∷ []) (Some x ∷ []) (opened (about_of x) (entries x)))
  opens x w is good none = record {
    about = about_of x;
    log = entries x;
    taken = false;
    holder = 0;
    roll = roll_open maker (about_of x) (entries x) (λ n. unnamed_none maker n (entries x) none);
    one_word = refl;
    one_slot = refl;
    word = omega (arith, is);
    home = λ _. (x, refl, (refl, refl, good));
    held = λ e. absurd (off e);
    holding_is = one;
  }
    where
      one : (j : ℕ) (v : View D E) → get_elem? (opened (about_of x) (entries x) ∷ []) j ≡ some v → v.live ≡ true → v.holds ≡ true → (false ≡ true) × (j ≡ 0) × (v.seen ≡ entries x)
      one zero v e live holds = absurd (off (ap (λ (u : View D E). u.holds) (some-injective (opened (about_of x) (entries x)) v e) ∙ holds))
      one (suc j) v e live holds = absurd (maybe.some-ne-none v (sym e))

  module _ (id : ℕ) (me : Me (Option T) (View D E)) (live : me.0.live ≡ true) (s : State (Option T) (View D E)) (r : Rule s) (at : get_elem? s.views id ≡ some me.0) where
    mine_of : Member maker r.log r.about r.roll.given r.roll.owner id me.0
    mine_of = r.roll.each id me.0 at live

    learns_of : (xs : List E) → xs ≡ r.log → Learnt maker me.0 xs
    learns_of xs is = record {
      continues = more;
      others = none_if maker me.0.number (length me.0.seen) _ (subst (λ (l : List E). of_number maker me.0.number (placed (length me.0.seen) l) ≡ []) (sym dropped) no_more);
      own = own;
      own_placed = placed_more me.0.own me.0.seen xs mine_of.own_placed more;
      numbers = λ first n late. let f = first_is maker r.about r.log s.views r.roll id me.0 at live first in
          ap (of maker n) is ∙ r.roll.none_yet n (let a : r.roll.lead.splits ≡ me.0.splits = ap (λ (z : View D E). z.splits) f.1 in omega (arith, a, r.roll.lead_splits, late));
      guests = λ first. subst (Guests maker me.0) (sym is) (roll_guests maker r.about r.log s.views r.roll id me.0 at live first).0;
    }
      where
        more : IsPrefix me.0.seen xs
        more = subst (IsPrefix me.0.seen) (sym is) mine_of.seen_is

        own : of maker me.0.number xs ≡ named maker me.0.own
        own = ap (of maker me.0.number) is ∙ mine_of.own_is

        dropped : drop (length me.0.seen) xs ≡ more.0
        dropped = ap (drop (length me.0.seen)) (sym more.1) ∙ drop_prefix me.0.seen more.0

        no_more : of_number maker me.0.number (placed (length me.0.seen) more.0) ≡ []
        no_more = append_cancel_left (of maker me.0.number me.0.seen) _ []
            (sym (of_more maker me.0.number me.0.seen more.0) ∙ (ap (of maker me.0.number) more.1 ∙ (own ∙ (sym mine_of.own_seen ∙ sym (append-nil _)))))

  module _ (slots id : ℕ) (me : Me (Option T) (View D E)) (live : me.0.live ≡ true) (free : me.0.holds ≡ false)
      (s : State (Option T) (View D E)) (r : Rule s) (at : get_elem? s.views id ≡ some me.0) where
    abbrev now : ℕ
    now = get_or s.words 0 0

    marked : get_or (set s.words 0 (bit_or now 1)) 0 0 ≡ 2 * length r.log + 1
    marked = get_or-set_same s.words 0 (bit_or now 1) 0 (omega (arith, r.one_word)) ∙ (ap (λ n. bit_or n 1) r.word ∙ or_one (length r.log) r.taken)

    mine : Member maker r.log r.about r.roll.given r.roll.owner id me.0
    mine = mine_of id me live s r at

    learns : (xs : List E) → xs ≡ r.log → Learnt maker me.0 xs
    learns = learns_of id me live s r at

    takes_home : r.taken ≡ false → (w : View D E) × (a : Act (Option T)) × table.Valid s.homes me.1 a × Rule (stepped s 0 (bit_or now 1) id me.1 w a)
        × took about_of entries maker sound (step slots 0 1 0 maybe.none) me now (w, table.carried_after me.1 a)
    takes_home is = let h = r.home is in let x : T = h.0 in let good = h.2 in let w : View D E = holding (entries x) me.0 in let l = learns (entries x) good.1 in (
      w,
      table.takes 0 (Some x),
      h.1,
      record {
        about = r.about;
        log = r.log;
        taken = true;
        holder = id;
        roll = roll_turn maker r.about r.log r.log s.views r.roll id me.0 w at live live refl refl refl refl (prefix_self r.log) (λ n _. refl) l.continues record {
          about_is = mine.about_is;
          seen_is = subst (λ xs. IsPrefix xs r.log) (sym good.1) (prefix_self r.log);
          told_is = mine.told_is;
          told_less = omega (arith, mine.told_less, prefix_length me.0.seen (entries x) l.continues);
          number_is = mine.number_is;
          owner_is = mine.owner_is;
          own_is = mine.own_is;
          own_seen = l.own;
          own_placed = l.own_placed;
        };
        one_word = length-set s.words 0 (bit_or now 1) ∙ r.one_word;
        one_slot = length-set s.homes 0 maybe.none ∙ r.one_slot;
        word = marked;
        home = λ e. absurd (on e);
        held = λ _. (w, put_there s.views id me.0 w at, live, refl);
        holding_is = each_set (λ j u. u.live ≡ true → u.holds ≡ true → (true ≡ true) × (j ≡ id) × (u.seen ≡ r.log)) s.views id w (λ _ _. (refl, refl, good.1))
            (λ j u other e up holds. absurd (off (sym is ∙ (r.holding_is j u e up holds).0)));
      },
      (
        λ _. (x, refl, refl, l, ap Some good.0 ∙ sym mine.about_is, good.2),
        λ odd. absurd (odd (ap (λ n. n % 2) r.word ∙ (low_bit (length r.log) r.taken ∙ ap bit is))),
      ),
    )

    misses_it : r.taken ≡ true → (w : View D E) × (a : Act (Option T)) × table.Valid s.homes me.1 a × Rule (stepped s 0 (bit_or now 1) id me.1 w a)
        × took about_of entries maker sound (step slots 0 1 0 maybe.none) me now (w, table.carried_after me.1 a)
    misses_it is = let w : View D E = missed me.0 in let other : r.holder ≢ id = (λ e. let h = r.held is in
        absurd (off (sym free ∙ (ap (λ (z : View D E). z.holds) (one_view s.views id me.0 h.0 at (subst (λ (k : ℕ). get_elem? s.views k ≡ some h.0) e h.1)) ∙ h.3)))) in (
          w,
          keeps,
          tt,
          record {
            about = r.about;
            log = r.log;
            taken = true;
            holder = r.holder;
            roll = roll_turn maker r.about r.log r.log s.views r.roll id me.0 w at live live refl refl refl refl (prefix_self r.log) (λ n _. refl) (prefix_self me.0.seen) record {
              about_is = mine.about_is;
              seen_is = mine.seen_is;
              told_is = mine.told_is;
              told_less = mine.told_less;
              number_is = mine.number_is;
              owner_is = mine.owner_is;
              own_is = mine.own_is;
              own_seen = mine.own_seen;
              own_placed = mine.own_placed;
            };
            one_word = length-set s.words 0 (bit_or now 1) ∙ r.one_word;
            one_slot = r.one_slot;
            word = marked;
            home = λ e. absurd (on e);
            held = λ _. let h = r.held is in (h.0, set_else s.views id r.holder w other ∙ h.1, h.2, h.3);
            holding_is = each_set (λ j u. u.live ≡ true → u.holds ≡ true → (true ≡ true) × (j ≡ r.holder) × (u.seen ≡ r.log)) s.views id w (λ _ holds. absurd (off (sym free ∙ holds)))
                (λ j u other e up holds. let h = r.holding_is j u e up holds in (refl, h.1, h.2));
          },
          (
            λ even. let one : now % 2 ≡ 1 = ap (λ n. n % 2) r.word ∙ (low_bit (length r.log) r.taken ∙ ap bit is) in absurd (omega (arith, even, one)),
            λ _. (refl, refl),
          ),
        )

    takes_go : (b : Bool) → r.taken ≡ b → (w : View D E) × (a : Act (Option T)) × table.Valid s.homes me.1 a × Rule (stepped s 0 (bit_or now 1) id me.1 w a)
        × took about_of entries maker sound (step slots 0 1 0 maybe.none) me now (w, table.carried_after me.1 a)
    takes_go false is = takes_home is
    takes_go true is = misses_it is

  pub take_step : (slots id : ℕ) (me : Me (Option T) (View D E)) → me.0.live ≡ true → me.0.holds ≡ false
      → Allows Rule slots id me 0 (λ n. bit_or n 1) (took about_of entries maker sound (step slots 0 1 0 maybe.none) me)
  take_step slots id me live free s r wide at small = takes_go slots id me live free s r at r.taken refl

  module _ (slots id : ℕ) (v : View D E) (x : T) (n : ℕ) where
    give_at : v.live ≡ true → v.holds ≡ true → Some (about_of x) ≡ v.about → IsPrefix v.seen (entries x) →
        OnlyBy maker v.number (drop (length v.seen) (entries x)) → sound x → n ≡ 2 * length (entries x)
        → Allows Rule slots id (v, (0, Some x) ∷ []) 0 (λ _. n) (λ _. gave entries (step slots 0 n 0 maybe.none) (v, (0, Some x) ∷ []) n)
    give_at live held for more only good is s r wide at small = (
      w,
      gives,
      tt,
      record {
        about = r.about;
        log = entries x;
        taken = false;
        holder = id;
        roll = roll_turn maker r.about r.log (entries x) s.views r.roll id v w at live live refl refl refl refl grows quiet more record {
          about_is = mine.about_is;
          seen_is = prefix_self (entries x);
          told_is = prefix_trans v.told r.log (entries x) mine.told_is grows;
          told_less = omega (arith, mine.told_less, prefix_length v.seen (entries x) more);
          number_is = mine.number_is;
          owner_is = mine.owner_is;
          own_is = own;
          own_seen = own;
          own_placed = subst (Sublist (v.own ++ placed (length v.seen) new)) (sym (ap (placed 0) all ∙ placed_on v.seen new)) (sub.append mine.own_placed (sub.refl (placed (length v.seen) new)));
        };
        one_word = length-set s.words 0 n ∙ r.one_word;
        one_slot = length-set s.homes 0 (some (Some x)) ∙ r.one_slot;
        word = get_or-set_same s.words 0 n 0 (omega (arith, r.one_word)) ∙ omega (arith, is);
        home = λ _. (x, set_here s.homes 0 (some (Some x)) (omega (arith, r.one_slot)), (some_same (for ∙ mine.about_is), refl, good));
        held = λ e. absurd (off e);
        holding_is = each_set (λ j u. u.live ≡ true → u.holds ≡ true → (false ≡ true) × (j ≡ id) × (u.seen ≡ entries x)) s.views id w (λ _ holds. absurd (off holds))
            (λ j u other e up holds. absurd (other ((r.holding_is j u e up holds).1 ∙ sym known.1)));
      },
      (refl, λ y e. ap (λ (z : T). given_back (entries z) v) (some_same (ap first_out e))),
    )
      where
        w : View D E
        w = given_back (entries x) v

        new : List E
        new = drop (length v.seen) (entries x)

        mine : Member maker r.log r.about r.roll.given r.roll.owner id v
        mine = r.roll.each id v at live

        known : (r.taken ≡ true) × (id ≡ r.holder) × (v.seen ≡ r.log)
        known = r.holding_is id v at live held

        grows : IsPrefix r.log (entries x)
        grows = subst (λ l. IsPrefix l (entries x)) known.2 more

        dropped : new ≡ more.0
        dropped = ap (drop (length v.seen)) (sym more.1) ∙ drop_prefix v.seen more.0

        all : entries x ≡ v.seen ++ new
        all = sym more.1 ∙ ap (λ l. v.seen ++ l) (sym dropped)

        of_all : (k : ℕ) → of maker k (entries x) ≡ of maker k r.log ++ of_number maker k (placed (length v.seen) new)
        of_all k = ap (of maker k) all ∙ (of_more maker k v.seen new ∙ ap (λ (l : List E). of maker k l ++ of_number maker k (placed (length v.seen) new)) known.2)

        quiet : (k : ℕ) → k ≢ v.number → of maker k (entries x) ≡ of maker k r.log
        quiet k apart = of_all k ∙ (ap (λ l. of maker k r.log ++ l) (none_of maker k (length v.seen) new (only_none maker v.number k new (λ e. apart (sym e)) only)) ∙ append-nil _)

        own : of maker v.number (entries x) ≡ named maker (v.own ++ placed (length v.seen) new)
        own = of_all v.number ∙ ((λ i. mine.own_is i ++ only_of maker v.number (length v.seen) new only i) ∙ sym (named-append maker v.own (placed (length v.seen) new)))

        some_same : {A : Type 0} {a b : A} → Some a ≡ Some b → a ≡ b
        some_same e = cc e

        first_out : List (ℕ × Option T) → Option T
        first_out [] = None
        first_out (c ∷ cs) = c.1

  pub give_step : (slots id : ℕ) (me : Me (Option T) (View D E)) (x : T) (n : ℕ) → me.1 ≡ (0, Some x) ∷ [] → me.0.live ≡ true → me.0.holds ≡ true → Some (about_of x) ≡ me.0.about
      → IsPrefix me.0.seen (entries x) → OnlyBy maker me.0.number (drop (length me.0.seen) (entries x)) → sound x → n ≡ 2 * length (entries x)
      → Allows Rule slots id me 0 (λ _. n) (λ _. gave entries (step slots 0 n 0 maybe.none) me n)
  give_step slots id me x n out live held for more only good is =
      subst (λ (cs : List (ℕ × Option T)). Allows Rule slots id (me.0, cs) 0 (λ _. n) (λ _. gave entries (step slots 0 n 0 maybe.none) (me.0, cs) n)) (sym out)
      (give_at slots id me.0 x n live held for more only good is)

  pub split_step : (id : ℕ) (v : View D E) → v.live ≡ true → v.number ≡ 0 → Splits Rule id v (parted v) (fresh v)
  split_step id v live first s r at = record {
    about = r.about;
    log = r.log;
    taken = r.taken;
    holder = r.holder;
    roll = roll_split maker r.about r.log s.views r.roll id v at live first;
    one_word = r.one_word;
    one_slot = r.one_slot;
    word = r.word;
    home = r.home;
    held = λ e. let h = r.held e in dite (ℕ_discrete r.holder id)
        (λ (same : r.holder ≡ id). let is : h.0 ≡ v = one_view s.views id h.0 v (subst (λ (k : ℕ). get_elem? s.views k ≡ some h.0) same h.1) at in (
          parted v,
          subst (λ (k : ℕ). get_elem? (set s.views id (parted v) ++ fresh v ∷ []) k ≡ some (parted v)) (sym same)
              (at_longer (set s.views id (parted v)) (fresh v ∷ []) id (parted v) (put_there s.views id v (parted v) at)),
          live,
          sym (ap (λ (z : View D E). z.holds) is) ∙ h.3,
        ))
        (λ apart. (h.0, at_longer (set s.views id (parted v)) (fresh v ∷ []) r.holder h.0 (set_else s.views id r.holder (parted v) apart ∙ h.1), h.2, h.3));
    holding_is = λ j u e up holds. ⊎_elim
        (λ e'. each_set (λ j u. u.live ≡ true → u.holds ≡ true → (r.taken ≡ true) × (j ≡ r.holder) × (u.seen ≡ r.log)) s.views id (parted v)
        (λ _ holds'. r.holding_is id v at live holds') (λ j' u' _ e''. r.holding_is j' u' e'') j u e' up holds)
        (λ (t : (j ≡ length (set s.views id (parted v))) × (fresh v ≡ u)). absurd (off (ap (λ (z : View D E). z.holds) t.1 ∙ holds)))
        (at_end (set s.views id (parted v)) (fresh v) u j e);
  }

  pub join_step : (id other : ℕ) (v w : View D E) → v.live ≡ true → v.number ≡ 0 → w.live ≡ true → w.holds ≡ false → Joins Rule id v other w (joined v w) spent
  join_step id other v w live first up free s r at apart there' = record {
    about = r.about;
    log = r.log;
    taken = r.taken;
    holder = r.holder;
    roll = roll_join maker r.about r.log s.views r.roll id v other w at live first up apart there;
    one_word = r.one_word;
    one_slot = r.one_slot;
    word = r.word;
    home = r.home;
    held = λ e. let h = r.held e in dite (ℕ_discrete r.holder other)
        (λ (same : r.holder ≡ other). absurd (off (sym free
        ∙ (ap (λ (z : View D E). z.holds)
        (one_view s.views other w h.0 there (subst (λ (k : ℕ). get_elem? s.views k ≡ some h.0) same h.1)) ∙ h.3))))
        (λ not. let past = set_else (set s.views id (joined v w)) other r.holder spent not in dite (ℕ_discrete r.holder id)
        (λ (same : r.holder ≡ id). let is : h.0 ≡ v = one_view s.views id h.0 v (subst (λ (k : ℕ). get_elem? s.views k ≡ some h.0) same h.1) at in (
          joined v w,
          past ∙ subst (λ (k : ℕ). get_elem? (set s.views id (joined v w)) k ≡ some (joined v w)) (sym same)
              (put_there s.views id v (joined v w) at),
          live,
          sym (ap (λ (z : View D E). z.holds) is) ∙ h.3,
        ))
        (λ else. (h.0, past ∙ (set_else s.views id r.holder (joined v w) else ∙ h.1), h.2, h.3)));
    holding_is = each_set (λ j u. u.live ≡ true → u.holds ≡ true → (r.taken ≡ true) × (j ≡ r.holder) × (u.seen ≡ r.log)) (set s.views id (joined v w)) other spent (λ e. absurd (off e))
        (λ j u _ e. each_set (λ j u. u.live ≡ true → u.holds ≡ true → (r.taken ≡ true) × (j ≡ r.holder) × (u.seen ≡ r.log)) s.views id (joined v w)
        (λ _ holds. still holds) (λ j' u' _ e''. r.holding_is j' u' e'') j u e);
  }
    where
      there : get_elem? s.views other ≡ some w
      there = sym (set_else s.views id other (joined v w) apart) ∙ there'

      still : v.holds ≡ true → (r.taken ≡ true) × (id ≡ r.holder) × (longer v.seen w.seen ≡ r.log)
      still holds = let h = r.holding_is id v at live holds in
          let m : length w.seen ≤ length v.seen = omega (arith, prefix_length w.seen r.log (r.roll.each other w there up).seen_is, ap length h.2) in
          (h.0, h.1, ap (λ (b : Bool). cond b v.seen w.seen) (le-leb (length w.seen) (length v.seen) m) ∙ h.2)

  pub compare_step : (slots id : ℕ) (me : Me (Option T) (View D E)) → me.0.live ≡ true → Allows Rule slots id me 0 (λ n. n) (compares maker (step slots 0 0 0 maybe.none) me)
  compare_step slots id me live s r wide at small = (
    compared me.0,
    keeps,
    tt,
    subst (λ (ws : List ℕ). Rule record { words = ws; homes = s.homes; views = set s.views id (compared me.0) }) (sym (set-get_or s.words 0 0)) record {
      about = r.about;
      log = r.log;
      taken = r.taken;
      holder = r.holder;
      roll = roll_turn maker r.about r.log r.log s.views r.roll id me.0 (compared me.0) at live live refl refl refl refl (prefix_self r.log) (λ n _. refl) (prefix_self me.0.seen) record {
        about_is = mine.about_is;
        seen_is = mine.seen_is;
        told_is = (r.log, refl);
        told_less = omega arith;
        number_is = mine.number_is;
        owner_is = mine.owner_is;
        own_is = mine.own_is;
        own_seen = mine.own_seen;
        own_placed = mine.own_placed;
      };
      one_word = r.one_word;
      one_slot = r.one_slot;
      word = r.word;
      home = r.home;
      held = λ e. let h = r.held e in dite (ℕ_discrete r.holder id)
          (λ (same : r.holder ≡ id). let is : h.0 ≡ me.0 = one_view s.views id h.0 me.0 (subst (λ (k : ℕ). get_elem? s.views k ≡ some h.0) same h.1) at in (
            compared me.0,
            subst (λ (k : ℕ). get_elem? (set s.views id (compared me.0)) k ≡ some (compared me.0)) (sym same)
                (put_there s.views id me.0 (compared me.0) at),
            live,
            sym (ap (λ (z : View D E). z.holds) is) ∙ h.3,
          ))
          (λ apart. (h.0, set_else s.views id r.holder (compared me.0) apart ∙ h.1, h.2, h.3));
      holding_is = each_set (λ j u. u.live ≡ true → u.holds ≡ true → (r.taken ≡ true) × (j ≡ r.holder) × (u.seen ≡ r.log)) s.views id (compared me.0)
          (λ _ holds. r.holding_is id me.0 at live holds) (λ j' u' _ e''. r.holding_is j' u' e'');
    },
    (
      refl,
      refl,
      prefix_shorter me.0.told me.0.seen r.log mine.told_is mine.seen_is mine.told_less,
      λ first. (roll_guests maker r.about r.log s.views r.roll id me.0 at live first).1,
      mine.own_seen,
      mine.own_placed,
    ),
  )
    where
      mine : Member maker r.log r.about r.roll.given r.roll.owner id me.0
      mine = r.roll.each id me.0 at live

  pub close_step : (id : ℕ) (v : View D E) (ws : List ℕ) (ys : List (Option T)) (y : Option T) → v.live ≡ true → v.number ≡ 0 → v.splits ≡ v.joins → v.holds ≡ false → Final (Seen Rule id v) ws ys
      → get_elem? ys 0 ≡ some y → (x : T) × (y ≡ Some x) × IsPrefix v.seen (entries x) × ((n : ℕ) → of maker n (entries x) ≡ of maker n v.seen) ×
      Guests maker v (entries x) × (Some (about_of x) ≡ v.about) × sound x
  close_step id v ws ys y live first all free f at = close_go r.taken refl
    where
      r : Rule f.0
      r = f.1.0

      mine : Member maker r.log r.about r.roll.given r.roll.owner id v
      mine = r.roll.each id v f.1.1 live

      closed : ((j : ℕ) (u : View D E) → get_elem? f.0.views j ≡ some u → u.live ≡ true → j ≡ id) × ((n : ℕ) → of maker n r.log ≡ of maker n v.seen)
      closed = roll_closed maker r.about r.log f.0.views r.roll id v f.1.1 live first all

      close_go : (b : Bool) → r.taken ≡ b → (x : T) × (y ≡ Some x) × IsPrefix v.seen (entries x) ×
          ((n : ℕ) → of maker n (entries x) ≡ of maker n v.seen) × Guests maker v (entries x) × (Some (about_of x) ≡ v.about) × sound x
      close_go false is = let h = r.home is in (
        h.0,
        some-injective y (Some h.0) (sym at ∙ f.4 0 (Some h.0) h.1),
        subst (IsPrefix v.seen) (sym h.2.1) mine.seen_is,
        (λ n. ap (of maker n) h.2.1 ∙ closed.1 n),
        subst (Guests maker v) (sym h.2.1) (roll_guests maker r.about r.log f.0.views r.roll id v f.1.1 live first).0,
        ap Some h.2.0 ∙ sym mine.about_is,
        h.2.2,
      )
      close_go true is = let h = r.held is in
          absurd (off (sym free ∙ (ap (λ (z : View D E). z.holds) (one_view f.0.views id v h.0 f.1.1 (subst (λ (k : ℕ). get_elem? f.0.views k ≡ some h.0) (closed.0 r.holder h.0 h.1 h.2) h.1)) ∙ h.3)))

  pub close_answer : (id : ℕ) (v v' : View D E) (ws : List ℕ) (ys : List (Option T)) (y : Option T) (x : T) → v ≡ v' → v'.live ≡ true → v'.number ≡ 0 → v'.splits ≡ v'.joins → v'.holds ≡ false
      → Final (Seen Rule id v) ws ys → get_elem? ys 0 ≡ some y → y ≡ Some x
      → IsPrefix v'.seen (entries x) × ((n : ℕ) → of maker n (entries x) ≡ of maker n v'.seen) × Guests maker v' (entries x) × (Some (about_of x) ≡ v'.about) × sound x
  close_answer id v v' ws ys y x e live first all free f at is =
      let k = close_step id v' ws ys y live first all free (subst (λ (z : View D E). Final (Seen Rule id z) ws ys) e f) at in
      subst (λ (z : T). IsPrefix v'.seen (entries z) × ((n : ℕ) → of maker n (entries z) ≡ of maker n v'.seen) × Guests maker v' (entries z) × (Some (about_of z) ≡ v'.about) × sound z)
      (some_is (sym k.1 ∙ is)) (k.2, k.3, k.4, k.5, k.6)
    where
      some_is : {A : Type 0} {a b : A} → Some a ≡ Some b → a ≡ b
      some_is e = cc e

  pub close_some : (id : ℕ) (v v' : View D E) (ws : List ℕ) (ys : List (Option T)) (y : Option T) → v ≡ v' → v'.live ≡ true → v'.number ≡ 0 → v'.splits ≡ v'.joins → v'.holds ≡ false
      → Final (Seen Rule id v) ws ys → get_elem? ys 0 ≡ some y → y ≡ None → ⊥
  close_some id v v' ws ys y e live first all free f at is =
      let k = close_step id v' ws ys y live first all free (subst (λ (z : View D E). Final (Seen Rule id z) ws ys) e f) at in
      absurd (not_some (sym is ∙ k.1))
    where
      not_some : {A : Type 0} {a : A} → None ≡ Some a → ⊥
      not_some e = absurd (cc e)

  half : (k : ℕ) (b : Bool) → (2 * k + bit b) / 2 ≡ k
  half k true = omega arith
  half k false = omega arith

  pub look_step : (slots id : ℕ) (me : Me (Option T) (View D E)) → me.0.live ≡ true → Allows Rule slots id me 0 (λ n. n) (looks maker (step slots 0 0 0 maybe.none) me)
  look_step slots id me live s r wide at small = (
    w,
    keeps,
    tt,
    subst (λ (ws : List ℕ). Rule record { words = ws; homes = s.homes; views = set s.views id w }) (sym (set-get_or s.words 0 0)) record {
      about = r.about;
      log = r.log;
      taken = r.taken;
      holder = r.holder;
      roll = roll_turn maker r.about r.log r.log s.views r.roll id me.0 w at live live refl refl refl refl (prefix_self r.log) (λ n _. refl) mine.seen_is record {
        about_is = mine.about_is;
        seen_is = prefix_self r.log;
        told_is = mine.told_is;
        told_less = omega (arith, mine.told_less, prefix_length me.0.seen r.log mine.seen_is);
        number_is = mine.number_is;
        owner_is = mine.owner_is;
        own_is = mine.own_is;
        own_seen = mine.own_is;
        own_placed = learnt.own_placed;
      };
      one_word = r.one_word;
      one_slot = r.one_slot;
      word = r.word;
      home = r.home;
      held = λ e. let h = r.held e in dite (ℕ_discrete r.holder id)
          (λ (same : r.holder ≡ id). let is : h.0 ≡ me.0 = one_view s.views id h.0 me.0 (subst (λ (k : ℕ). get_elem? s.views k ≡ some h.0) same h.1) at in
          (w, subst (λ (k : ℕ). get_elem? (set s.views id w) k ≡ some w) (sym same) (put_there s.views id me.0 w at), live, sym (ap (λ (z : View D E). z.holds) is) ∙ h.3))
          (λ apart. (h.0, set_else s.views id r.holder w apart ∙ h.1, h.2, h.3));
      holding_is = each_set (λ j u. u.live ≡ true → u.holds ≡ true → (r.taken ≡ true) × (j ≡ r.holder) × (u.seen ≡ r.log)) s.views id w
          (λ _ holds. let h = r.holding_is id me.0 at live holds in (h.0, h.1, refl)) (λ j' u' _ e''. r.holding_is j' u' e'');
    },
    (refl, (r.log, refl, learnt, sym (ap (λ n. n / 2) r.word ∙ half (length r.log) r.taken))),
  )
    where
      w : View D E
      w = seeing r.log me.0

      mine : Member maker r.log r.about r.roll.given r.roll.owner id me.0
      mine = mine_of id me live s r at

      learnt : Learnt maker me.0 r.log
      learnt = learns_of id me live s r at r.log refl
