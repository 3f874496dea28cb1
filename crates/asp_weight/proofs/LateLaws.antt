-- A literal that follows from a weight body, in the form of the code.
use Rattle.std.proofs.Common.{◌≡◌, ℕ, ◌+◌, ◌^◌, ◌<◌, Bool, false, List, length, get_or, Option, Some, None, sym, ap, ◌∙◌, subst, arith}
use Rattle.std.proofs.lemmas.List.{take_all, get_or_read}
use Rattle.asp_vars.specs.Literals.{Literal, complement, value_of}
use Rattle.asp_vars.specs.Numbering.{var_count}
use Rattle.asp_model.specs.declared.program.Program.{Program}
use Rattle.asp_trail.specs.Entries.{assignment}
use Rattle.asp_trail.specs.Trails.{Trailed, IsVar}
use Rattle.asp_trail.proofs.HeldLaws.{length_assigned}
use Rattle.asp_weight.specs.declared.look.Speech.{Speech}
use Rattle.asp_weight.specs.declared.item.Place.{Place}
use Rattle.asp_weight.specs.declared.tally.Tally.{Tally}
use Rattle.asp_weight.specs.Silence.{is_silent}
use Rattle.asp_weight.specs.Kept.{IsKept}
use Rattle.asp_weight.specs.declared.item.Item.{Item}
use Rattle.asp_weight.specs.declared.item.Shape.{Shape}
use Rattle.asp_weight.specs.Rows.{weighed_bodies, nth_weighed, shape_at, row_at, IsRow, AreRows}
use Rattle.asp_weight.specs.Spoken.{item_at, Settles, Speaks, IsReady}
use Rattle.asp_weight.specs.Explained.{before, ruled_out, Follows, IsImplied}
use Rattle.asp_weight.proofs.SpeechLaws.{on_var}
use Rattle.asp_weight.proofs.StepLaws.{not_silent, few_rows, are_ready}

pub before_all : (t : Trailed) (n : ℕ) (a : List (Option Bool)) → n ≡ length t.entries → a ≡ assignment t.vars t.entries → before t n ≡ a
before_all t n a e q = ap (assignment t.vars) (take_all n t.entries (omega (arith, e))) ∙ sym q

pub vars_same : (p : Program) (t : Trailed) (a : List (Option Bool)) → length a ≡ var_count p + 1 → a ≡ assignment t.vars t.entries → t.vars ≡ var_count p
vars_same p t a h q = omega (arith, h, ap (length {A = Option Bool}) q, length_assigned t.vars t.entries)

-- a body speaks, so that not all are silent
pub one_speaks_at : (p : Program) (a b : List (Option Bool)) (shapes also : List Shape) (rows : List (List Item)) (places : List (List Place))
    (tallies : List Tally) (w : ℕ) (x : Speech) → IsKept p a shapes rows places tallies →
    b ≡ a → also ≡ shapes → (w < length rows) × Speaks x b (shape_at also w) (row_at rows w) → is_silent p a ≡ false
one_speaks_at p a b shapes also rows places tallies w x k e f h =
    not_silent p a shapes rows places tallies w x k h.0
    (subst (λ (v : List (Option Bool)). Speaks x v (shape_at shapes w) (row_at rows w)) e (subst (λ (ss : List Shape). Speaks x b (shape_at ss w) (row_at rows w)) f h.1))

pub few_at : (p : Program) (shapes : List Shape) (rows : List (List Item)) (w : ℕ) → var_count p < 2 ^ 31 → AreRows p (weighed_bodies p) shapes rows → w < length rows → w + 1 < 2 ^ 31
few_at p shapes rows w few r h = omega (arith, r.whole, few_rows p, few, h)

pub shape_read : (p : Program) (shapes : List Shape) (rows : List (List Item)) (w : ℕ) (s : Shape) → AreRows p (weighed_bodies p) shapes rows →
    w < length rows → s ≡ get_or shapes w s → s ≡ shape_at shapes w
shape_read p shapes rows w s r h i = get_or_read shapes w s (omega (arith, h, r.shaped, r.whole)) i (record { var = 0; reach = 0; miss = 0 })

pub ready_at : (p : Program) (a b : List (Option Bool)) (shapes : List Shape) (rows : List (List Item)) (places : List (List Place))
    (tallies : List Tally) (w : ℕ) (s : Shape) (row : List Item) → IsKept p a shapes rows places tallies →
    b ≡ a → w < length rows → s ≡ get_or shapes w s → row ≡ row_at rows w → IsReady b s row
ready_at p a b shapes rows places tallies w s row k e h i j =
    subst (λ (v : List (Option Bool)). IsReady v s row) (sym e)
    (subst (λ (y : Shape). IsReady a y row) (sym (shape_read p shapes rows w s k.rowed h i))
    (subst (λ (y : List Item). IsReady a (shape_at shapes w) y) (sym j) ((are_ready p a shapes rows places tallies k).each w h)))

-- a literal that follows by a body is explained
pub implied_at : (p : Program) (a b : List (Option Bool)) (t : Trailed) (shapes : List Shape) (rows : List (List Item)) (places : List (List Place))
    (tallies : List Tally) (w : ℕ) (s : Shape) (row : List Item) (l : Literal) →
    IsKept p a shapes rows places tallies → a ≡ assignment t.vars t.entries → b ≡ a → w < length rows → s ≡ get_or shapes w s → row ≡ row_at rows w → Follows b s row l →
    IsImplied (record { program = p; values = a }) t.entries l w
implied_at p a b t shapes rows places tallies w s row l k q e h i j f = record {
  var = var f.place f.settles f.lit;
  none = ap (λ (v : List (Option Bool)). value_of v l.var) (sym e) ∙ f.none;
  small = few_at p shapes rows w k.few k.rowed h;
  explained = record {
    within = omega (arith, h, k.rowed.whole);
    shape = s;
    row = row;
    is_row = is_row;
    follows = subst (λ (v : List (Option Bool)). Follows v s row l) (e ∙ (q ∙ ap (λ (n : ℕ). assignment n t.entries) (vars_same p t a k.sized q))) f;
  };
}
  where
    is_row : IsRow p (nth_weighed p w) s row
    is_row =
        subst (λ (y : Shape). IsRow p (nth_weighed p w) y row) (sym (shape_read p shapes rows w s k.rowed h i))
        (subst (λ (y : List Item). IsRow p (nth_weighed p w) (shape_at shapes w) y) (sym j) (k.rowed.row w (omega (arith, h, k.rowed.whole))))

    d : Item
    d = record { weight = 0; lit = record { var = 0; truth = false } }

    var : (o : Option ℕ) → Settles o f.side b s row → complement l ≡ ruled_out o f.side s row → IsVar (var_count p) l.var
    var None x g = subst (λ (v : ℕ). IsVar (var_count p) v) (sym (ap (λ (y : Literal). y.var) g)) is_row.small
    var (Some n) x g = subst (λ (v : ℕ). IsVar (var_count p) v) (sym (ap (λ (y : Literal). y.var) g ∙ on_var f.side (item_at row n).lit)) (is_row.ordered.within n d x.0)
