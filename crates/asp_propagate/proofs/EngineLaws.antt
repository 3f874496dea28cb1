-- What callers see of a engine, and what its parts are.
use Rattle.std.proofs.Common.{◌≡◌, ℕ, List, length, min, Option, Some, None, sym, ap, ◌∙◌, subst}
use Rattle.std.specs.Prelude.{ℤ, Result, Ok, Err}
use Rattle.std.specs.Result.{IfOk, OnErr}
use Rattle.asp_model.specs.declared.program.Program.{Program}
use Rattle.asp_vars.specs.Literals.{value_of, Literal}
use Rattle.asp_vars.specs.Numbering.{var_count}
use Rattle.asp_vars.specs.declared.nogood.Nogood.{Nogood}
use Rattle.asp_trail.specs.declared.trail.Entry.{Entry}
use Rattle.asp_trail.specs.Entries.{assignment, cut}
use Rattle.asp_trail.specs.Trails.{Trailed, IsVar}
use Rattle.asp_trail.specs.Told.{Told}
use Rattle.asp_store.specs.declared.stored_nogood.StoredNogood.{StoredNogood}
use Rattle.asp_store.specs.declared.stored_nogood.Kind.{Kind}
use Rattle.asp_store.specs.Storing.{Stored, IsAdded}
use Rattle.asp_propagate.specs.Propagating.{Propagating, values_of, IsFollowed}
use Rattle.asp_propagate.proofs.PropagateLaws.{followed_added}

-- what callers see of these parts
abbrev pub view_of : Told → Option (List ℤ) → Stored → Trailed → Propagating
view_of t b s r = record { program = t.program; entries = r.entries; slots = s.slots; bound = b }

pub vars_are : (why : Program → List Entry → Literal → ℕ → Type 0) (t : Told) (b : Option (List ℤ)) (s : Stored) (r : Trailed) (n : ℕ)
    (f : Propagating) → view_of t b s r ≡ f → IsFollowed why t s r n → r.vars ≡ var_count f.program
vars_are why t b s r n f q w = w.told.vars ∙ ap (λ (x : Propagating). var_count x.program) q

pub var_inside : (why : Program → List Entry → Literal → ℕ → Type 0) (t : Told) (b : Option (List ℤ)) (s : Stored) (r : Trailed) (n : ℕ)
    (f : Propagating) (v : ℕ) → view_of t b s r ≡ f → IsFollowed why t s r n →
    IsVar (var_count f.program) v → IsVar r.vars v
var_inside why t b s r n f v q w h = subst (λ (m : ℕ). IsVar m v) (sym (vars_are why t b s r n f q w)) h

pub none_inside : (why : Program → List Entry → Literal → ℕ → Type 0) (t : Told) (b : Option (List ℤ)) (s : Stored) (r : Trailed) (n : ℕ)
    (f : Propagating) (v : ℕ) → view_of t b s r ≡ f → IsFollowed why t s r n →
    value_of (values_of f) v ≡ None → value_of (assignment r.vars r.entries) v ≡ None
none_inside why t b s r n f v q w h =
    ap (λ (m : ℕ). value_of (assignment m r.entries) v) w.told.vars ∙ (ap (λ (x : Propagating). value_of (values_of x) v) q ∙ h)

pub same_view : (p q : Program) (es fs : List Entry) (xs : List (Option StoredNogood)) (b c : Option (List ℤ)) → p ≡ q → es ≡ fs → b ≡ c →
    ◌≡◌ {A = Propagating} (record { program = p; entries = es; slots = xs; bound = b }) (record { program = q; entries = fs; slots = xs; bound = c })
same_view p q es fs xs b c e f g =
    let first : Program → Propagating = λ x. record { program = x; entries = es; slots = xs; bound = b } in
    let second : List Entry → Propagating = λ x. record { program = q; entries = x; slots = xs; bound = b } in
    let third : Option (List ℤ) → Propagating = λ x. record { program = q; entries = fs; slots = xs; bound = x } in
    ap first e ∙ (ap second f ∙ ap third g)

-- ---- a result's cases
pub on_err : {A E : Type 0} (r : Result A E) (P Q : Type 0) → (P → Q) → OnErr r P → OnErr r Q
on_err (Ok x) P Q f h = tt
on_err (Err e) P Q f h = f h

pub kept_either : (why : Program → List Entry → Literal → ℕ → Type 0) {E : Type 0} (r : Result ℕ E) (t : Told) (s z : Stored) (q : Trailed) (n : ℕ)
    (m : Nogood) (kind : Kind) → IfOk r (λ id. IsAdded s z id m kind) →
    OnErr r (z ≡ s) → IsFollowed why t s q n → IsFollowed why t z q n
kept_either why (Ok id) t s z q n m kind a b f = followed_added why t s z q n id m kind a f
kept_either why (Err e) t s z q n m kind a b f = subst (λ (y : Stored). IsFollowed why t y q n) (sym b) f

pub if_ok : {A E : Type 0} (r : Result A E) (P Q : A → Type 0) → ((x : A) → P x → Q x) → IfOk r P → IfOk r Q
if_ok (Ok x) P Q f h = f x h
if_ok (Err e) P Q f h = tt

-- ---- the beginning
none_some : {A : Type 0} (x : A) → None ≡ Some x → ⊥
none_some x q = cc

-- ---- a trail that is cut
pub cut_trail : (r q : Trailed) (l : ℕ) → q ≡ record r { entries = q.entries; seen = q.seen } → q.entries ≡ cut l r.entries → q.seen ≡ min r.seen (length q.entries) →
    q ≡ record r { entries = cut l r.entries; seen = min r.seen (length (cut l r.entries)) }
cut_trail r q l same e seen =
    let first : List Entry → Trailed = λ x. record r { entries = x; seen = q.seen } in
    let second : ℕ → Trailed = λ x. record r { entries = cut l r.entries; seen = x } in
    same ∙ (ap first e ∙ ap second (seen ∙ ap (λ (x : List Entry). min r.seen (length x)) e))
