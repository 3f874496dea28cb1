-- The reason of a literal that followed from a weight body.
use Rattle.std.proofs.Common.{◌≡◌, ◌≢◌, ℕ, ◌^◌, ◌<◌, Bool, true, false, not, ◌||◌, List, ◌∷◌, length, take, get_or, Option, Some, None, refl, sym, ap, ◌∙◌, subst, arith}
use Rattle.std.specs.Prelude.{Result, Ok, Err}
use Rattle.std.specs.Result.{IfOk}
use Rattle.std.specs.List.{list_all}
use Rattle.std.specs.List.Sorted.{IsPermutation}
use Rattle.std.proofs.lemmas.List.Elements.{Contains-get_or}
use Rattle.std.proofs.lemmas.List.Sorted.{IsPermutation-sym, IsPermutation-trans, Contains-permutation, sum_by-IsPermutation}
use Rattle.asp_model.specs.declared.program.Body.{Body}
use Rattle.asp_model.specs.declared.program.Program.{Program}
use Rattle.asp_model.specs.Sound.{IsSound}
use Rattle.asp_vars.specs.Literals.{Literal, complement, literal_eq, has_literal, value_of, holds_in, agrees}
use Rattle.asp_vars.specs.Numbering.{var_count}
use Rattle.asp_vars.specs.declared.nogood.Base.TheVariants as base
use Rattle.asp_vars.specs.declared.nogood.Nogood.{Nogood}
use Rattle.asp_vars.proofs.LiteralLaws.{and_both, same_literal}
use Rattle.asp_trail.specs.declared.trail.Entry.{Entry}
use Rattle.asp_trail.specs.Entries.{assignment}
use Rattle.asp_trail.specs.Trails.{Trailed, IsOrdered}
use Rattle.asp_trail.specs.Fixpoint.{is_open}
use Rattle.asp_trail.specs.Reasons.{IsReason}
use Rattle.asp_trail.proofs.EntryLaws.{same_default}
use Rattle.asp_trail.proofs.FixpointLaws.{list_all_at}
use Rattle.asp_trail.proofs.HeldLaws.{length_assigned, ordered_take, reason_later}
use Rattle.asp_trail.proofs.HoldLaws.{holds_found}
use Rattle.asp_weight.specs.declared.item.Item.{Item}
use Rattle.asp_weight.specs.declared.item.Shape.{Shape}
use Rattle.asp_weight.specs.declared.look.Speech.{Speech}
use Rattle.asp_weight.specs.Definition.{Excludes}
use Rattle.asp_weight.specs.Rows.{on, weight_if, sum_where, need_of, weighed_bodies, nth_weighed, IsRow, AreRows, shape_at, row_at}
use Rattle.asp_weight.specs.Spoken.{gathered, head_of, item_at, spoken_as, spoken, Settles, Speaks, IsReady}
use Rattle.asp_weight.specs.Explained.{before, ruled_out, Follows, IsExplained, IsExcluded}
use Rattle.asp_weight.specs.Brief.{IsBrief}
use Rattle.asp_weight.proofs.SilenceLaws.{weighed_at, positive_at}
use Rattle.asp_weight.proofs.LateLaws.{shape_read}
use Rattle.asp_weight.proofs.SpeechLaws.{beq_itself, literal_eq_itself, gathered_hold, side_broken, excluded_entailed}
use Rattle.asp_weight.proofs.StepLaws.{in_program, excluded_by}

abbrev d : Item
d = record { weight = 0; lit = record { var = 0; truth = false } }

-- ---- two rows of a body say the same
module _ (p : Program) (b : Body) (s t : Shape) (row own : List Item) (r : IsRow p b s row) (q : IsRow p b t own) where
  same_items : IsPermutation row own
  same_items = IsPermutation-trans row _ own (IsPermutation-sym _ row r.ordered.items) q.ordered.items

  same_need : (side : Bool) → need_of side t ≡ need_of side s
  same_need true = q.reach ∙ sym r.reach
  same_need false = omega (arith, q.miss, r.miss, q.reach, r.reach, sum_by-IsPermutation (λ (i : Item). i.weight) row own same_items)

  follows_alike : (a : List (Option Bool)) (l : Literal) → Follows a s row l → Follows a t own l
  follows_alike a l f = cases f.place f.settles f.lit
    where
      var : t.var ≡ s.var
      var = q.var ∙ sym r.var

      sums : sum_where (holds_in a) f.side own ≡ sum_where (holds_in a) f.side row
      sums = sum_by-IsPermutation (weight_if (holds_in a) f.side) row own same_items

      cases : (o : Option ℕ) → Settles o f.side a s row → complement l ≡ ruled_out o f.side s row → Follows a t own l
      cases None h g = record {
        side = f.side;
        place = None;
        settles = (omega (arith, h.0, sums, same_need f.side), λ e. h.1 (ap (value_of a) (sym var) ∙ e));
        lit = g ∙ ap (λ (v : ℕ). head_of f.side (record { var = v; reach = 0; miss = 0 })) (sym var);
        none = f.none;
      }
      cases (Some j) h g =
          let c = Contains-permutation row own (item_at row j) same_items (Contains-get_or row j d h.0) in
          let is : item_at own c.0 ≡ item_at row j = same_default own c.0 d (item_at row j) c.1 ∙ c.2 in
          record {
            side = f.side;
            place = Some c.0;
            settles = (
              c.1,
              ap (λ (i : Item). is_open a i.lit) is ∙ h.1,
              ap (value_of a) var ∙ h.2,
              omega (arith, h.3, ap (λ (i : Item). i.weight) is, sums, same_need f.side),
            );
            lit = g ∙ ap (λ (i : Item). on f.side i.lit) (sym is);
            none = f.none;
          }

-- ---- in the form of the code
-- the shape and the row of the body of a number, and what follows from them
pub record IsOwn (p : Program) (t : Trailed) (place w : ℕ) (s : Shape) (row : List Item) (l : Literal) : Type 0 where
  pub vars : t.vars ≡ var_count p
  pub within : w < length (weighed_bodies p)
  pub is_row : IsRow p (nth_weighed p w) s row
  pub follows : Follows (before t place) s row l

pub within_at : (p q : Program) (es : List Entry) (place w : ℕ) → p ≡ q → ((e : Entry) → IsExplained q (take place es) (get_or es place e).lit w) → w < length (weighed_bodies p)
within_at p q es place w same x = subst (λ (y : Program). w < length (weighed_bodies y)) (sym same) (x (record { lit = d.lit; level = 0; reason = None })).within

pub own_at : (p q : Program) (shapes : List Shape) (rows : List (List Item)) (t : Trailed) (place w : ℕ) (s : Shape) (row : List Item) (l : Literal) →
    AreRows p (weighed_bodies p) shapes rows → p ≡ q → t.vars ≡ var_count q →
    ((e : Entry) → IsExplained q (take place t.entries) (get_or t.entries place e).lit w) → ((e : Entry) → l ≡ (get_or t.entries place e).lit) →
    s ≡ get_or shapes w s → row ≡ row_at rows w → IsOwn p t place w s row l
own_at p q shapes rows t place w s row l r same v f is i j = record {
  vars = vars;
  within = x.within;
  is_row = is_row;
  follows = subst (λ (n : ℕ). Follows (assignment n (take place t.entries)) s row l) (sym vars)
      (follows_alike p (nth_weighed p w) x.shape s x.row row x.is_row is_row (assignment (var_count p) (take place t.entries)) l x.follows);
}
  where
    e : Entry
    e = record { lit = l; level = 0; reason = None }

    x : IsExplained p (take place t.entries) l w
    x = subst (λ (y : Program). IsExplained y (take place t.entries) l w) (sym same) (subst (λ (k : Literal). IsExplained q (take place t.entries) k w) (sym (is e)) (f e))

    vars : t.vars ≡ var_count p
    vars = v ∙ ap var_count (sym same)

    is_row : IsRow p (nth_weighed p w) s row
    is_row =
        subst (λ (y : Shape). IsRow p (nth_weighed p w) y row) (sym (shape_read p shapes rows w s r (omega (arith, x.within, r.whole)) i))
        (subst (λ (y : List Item). IsRow p (nth_weighed p w) (shape_at shapes w) y) (sym j) (r.row w x.within))

pub own_ready : (p : Program) (t : Trailed) (place w : ℕ) (s : Shape) (row : List Item) (l : Literal) → IsOwn p t place w s row l → var_count p < 2 ^ 31 → IsReady (before t place) s row
own_ready p t place w s row l o few =
    let sized = length_assigned t.vars (take place t.entries) in
    record {
      var = omega (arith, o.is_row.small.1, sized, o.vars);
      small = omega (arith, o.is_row.small.1, few);
      within = λ i e h. omega (arith, o.is_row.ordered.within i e h, sized, o.vars);
      falling = o.is_row.ordered.falling;
      fits = o.is_row.fits;
      whole = omega (arith, o.is_row.miss);
    }

pub excluded_as : {E : Type 0} (p : Program) (t : Trailed) (place w : ℕ) (s : Shape) (row : List Item) (l : Literal) (x : Speech) (r : Result Nogood E) → IsSound p → IsOwn p t place w s row l →
    Speaks x (before t place) s row → IfOk r (λ n. n.lits ≡ spoken x (before t place) s row) → IfOk r (λ n. n.base ≡ base.Pure) → IfOk r (IsExcluded p)
excluded_as p t place w s row l x (Err e) sound o says lits pure = tt
excluded_as p t place w s row l x (Ok n) sound o says lits pure =
    let shown = excluded_by p w s row x (before t place) sound o.within o.is_row says in
    let excluded = subst (Excludes p (nth_weighed p w)) (sym lits) shown in
    record { base = pure; entailed = excluded_entailed p (nth_weighed p w) n.lits (in_program p w o.within).1 excluded; excluded = (nth_weighed p w, excluded) }

-- ---- all but what is ruled out holds
holds_but : (x : Option ℕ) (side : Bool) (a : List (Option Bool)) (s : Shape) (row : List Item) → Settles x side a s row →
    (rest : List Literal) × (spoken_as x side a s row ≡ ruled_out x side s row ∷ rest) × (list_all (holds_in a) rest ≡ true)
holds_but None side a s row h = (gathered side a (need_of side s) 0 row, refl, gathered_hold side a (need_of side s) 0 row)
holds_but (Some j) side a s row h = (
  head_of side s ∷ gathered side a (need_of side s) (item_at row j).weight row,
  refl,
  and_both (holds_in a (head_of side s)) _ (ap (λ (o : Option Bool). agrees o (head_of side s)) h.2 ∙ beq_itself (not side)) (gathered_hold side a (need_of side s) (item_at row j).weight row),
)

has_first : (k : Literal) (n : List Literal) → has_literal (k ∷ n) k ≡ true
has_first k n = ap (λ (b : Bool). b || has_literal n k) (literal_eq_itself k)

has_later : (k l : Literal) (n : List Literal) → has_literal (k ∷ n) l ≡ true → l ≢ k → has_literal n l ≡ true
has_later k l n h ne = cases (literal_eq k l) refl h
  where
    cases : (b : Bool) → b ≡ literal_eq k l → (b || has_literal n l) ≡ true → has_literal n l ≡ true
    cases true q e = absurd (ne (sym (same_literal k l (sym q))))
    cases false q e = e

-- a nogood of the literal's complement and of literals that hold is its reason
reason_by : (vars : ℕ) (es : List Entry) (l : Literal) (rest lits : List Literal) → IsOrdered vars es → lits ≡ complement l ∷ rest →
    list_all (holds_in (assignment vars es)) rest ≡ true → IsReason es (length es) l lits
reason_by vars es l rest lits o whole hold = record {
  has = ap (λ (ls : List Literal). has_literal ls (complement l)) whole ∙ has_first (complement l) rest;
  others = λ k h ne.
      let f = holds_found vars es k o (list_all_at (holds_in (assignment vars es)) rest k hold (has_later (complement l) k rest (ap (λ (ls : List Literal). has_literal ls k) (sym whole) ∙ h) ne)) in
      let e : Entry = record { lit = k; level = 0; reason = None } in (
        f.0,
        (get_or es f.0 e).level,
        f.1,
        record { within = f.1; lit = f.2; level = λ g. ap (λ (y : Entry). y.level) (same_default es f.0 g e f.1) },
      );
}

reason_before : (vars : ℕ) (es : List Entry) (l : Literal) (x : Option ℕ) (side : Bool) (s : Shape) (row : List Item) → IsOrdered vars es → Settles x side (assignment vars es) s row →
    complement l ≡ ruled_out x side s row → IsReason es (length es) l (spoken_as x side (assignment vars es) s row)
reason_before vars es l x side s row o says rules =
    let but = holds_but x side (assignment vars es) s row says in
    reason_by vars es l but.0 (spoken_as x side (assignment vars es) s row) o (but.1 ∙ ap (λ (m : Literal). m ∷ but.0) (sym rules)) but.2

pub reason_as : {E : Type 0} (t : Trailed) (place : ℕ) (l : Literal) (x : Speech) (s : Shape) (row : List Item) (r : Result Nogood E) →
    IsOrdered t.vars t.entries → place < length t.entries → Speaks x (before t place) s row →
    complement l ≡ ruled_out x.open x.side s row → ((e : Entry) → l ≡ (get_or t.entries place e).lit) → IfOk r (λ n. n.lits ≡ spoken x (before t place) s row) →
    IfOk r (λ n. (e : Entry) → IsReason t.entries place (get_or t.entries place e).lit n.lits)
reason_as t place l x s row (Err f) o h says rules is lits = tt
reason_as t place l x s row (Ok n) o h says rules is lits = λ e.
    subst (λ (m : Literal). IsReason t.entries place m n.lits) (is e)
    (subst (λ (ls : List Literal). IsReason t.entries place l ls) (sym lits)
    (reason_later t.entries place l (spoken x (before t place) s row) (omega (arith, h))
    (reason_before t.vars (take place t.entries) l x.open x.side s row (ordered_take t.vars t.entries place o) says rules)))

-- what follows has a reason
pub reasoned : (p : Program) (es : List Entry) (l : Literal) (w : ℕ) → IsSound p → IsOrdered (var_count p) es → IsExplained p es l w →
    (n : Nogood) × IsExcluded p n × IsReason es (length es) l n.lits
reasoned p es l w sound o x =
    let f = x.follows in
    let a : List (Option Bool) = assignment (var_count p) es in
    let n : Nogood = record { lits = spoken_as f.place f.side a x.shape x.row; base = base.Pure } in
    let shown : Excludes p (nth_weighed p w) n.lits = excluded_by p w x.shape x.row (record { side = f.side; «open» = f.place }) a sound x.within x.is_row f.settles in (
      n,
      record { base = refl; entailed = excluded_entailed p (nth_weighed p w) n.lits (in_program p w x.within).1 shown; excluded = (nth_weighed p w, shown) },
      reason_before (var_count p) es l f.place f.side x.shape x.row o f.settles f.lit,
    )

-- ---- the reason that is gathered from the literals that hold
pub brief_excluded : (p : Program) (t : Trailed) (place w : ℕ) (s : Shape) (row : List Item) (l : Literal) (n : Nogood) → IsSound p →
    IsOwn p t place w s row l → IsBrief (before t place) s row l n.lits → n.base ≡ base.Pure → IsExcluded p n
brief_excluded p t place w s row l n sound o b pure =
    let shown : Excludes p (nth_weighed p w) n.lits = record {
      stands = (in_program p w o.within).0;
      broken = λ v hit. side_broken p (nth_weighed p w) b.side s row v (weighed_at p w o.within) (positive_at p w sound o.within) o.is_row (b.settles v hit).0 (b.settles v hit).1;
    } in
    record { base = pure; entailed = excluded_entailed p (nth_weighed p w) n.lits (in_program p w o.within).1 shown; excluded = (nth_weighed p w, shown) }

pub brief_reason : (t : Trailed) (place : ℕ) (l : Literal) (s : Shape) (row : List Item) (n : Nogood) → IsOrdered t.vars t.entries →
    place < length t.entries → IsBrief (before t place) s row l n.lits →
    ((e : Entry) → l ≡ (get_or t.entries place e).lit) → (e : Entry) → IsReason t.entries place (get_or t.entries place e).lit n.lits
brief_reason t place l s row n o h b is e =
    subst (λ (m : Literal). IsReason t.entries place m n.lits) (is e)
    (reason_later t.entries place l n.lits (omega (arith, h)) (reason_by t.vars (take place t.entries) l b.rest n.lits (ordered_take t.vars t.entries place o) b.whole b.hold))
