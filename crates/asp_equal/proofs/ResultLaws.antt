-- Optima, some of the answers and what they have in common are those of the merged program, with the atoms that went.
use Rattle.std.proofs.Common.{◌≡◌, ℕ, Bool, true, false, not, cond, ◌&&◌, ◌||◌, List, [], ◌∷◌, map, filter, Some, refl, sym, ap, ◌∙◌, ℤ, subst, Contains}
use Rattle.std.specs.List.{AllByRecursion, list_any, list_all}
use Rattle.std.specs.Prelude.{option_map}
use Rattle.std.proofs.lemmas.Bool.{and_parts, or_left}
use Rattle.asp_model.specs.declared.program.Program.{Program}
use Rattle.asp_model.specs.declared.results.Reasoning.{Reasoning}
use Rattle.asp_model.specs.declared.results.Reasoning.TheVariants.{Brave, Cautious}
use Rattle.asp_model.specs.Sets.{Atoms, IsAscending, has}
use Rattle.asp_model.specs.Consequences.{consequences, consequences_of}
use Rattle.asp_model.specs.Costs.{IsOptimum, betters, cost, optima}
use Rattle.asp_model.specs.Models.{answers, atoms_of, is_stable}
use Rattle.asp_model.proofs.SetLaws.{same_from_has}
use Rattle.asp_model.proofs.MemberLaws.{each-filter, each_weaker, list_any-map, one_passes}
use Rattle.asp_model.proofs.ModelLaws.{answers-are, stable-subset}
use Rattle.asp_model.proofs.ConsequenceLaws.{ascends-filter, atoms-ascend, has-filter}
use Rattle.asp_equal.proofs.ReadLaws.{Reads}
use Rattle.asp_equal.proofs.StableLaws.{AreAssumed, IsApart, IsMerged, answers-merged, contains-map, each-contained, kept, kept-extended, stable-apart, stable-merged}

-- The costs and the assumptions are the program's.
pub record HasResultsOf (m : ℕ → ℕ) (x : Atoms → Atoms) (p q : Program) : Type 0 where
  pub is : IsMerged m x p q
  pub assumed : AreAssumed m p q
  pub costs : (X S : Atoms) → Reads m X S → cost q S ≡ cost p X

pub same-answers : (m : ℕ → ℕ) (x : Atoms → Atoms) (p q : Program) → HasResultsOf m x p q → answers p ≡ map x (answers q)
same-answers m x p q g = answers-merged m x p q g.is g.assumed

-- an answer of the merged program: none of its atoms goes, and with those that went it is a stable model of the program
pub record IsOther (m : ℕ → ℕ) (x : Atoms → Atoms) (p q : Program) (S : Atoms) : Type 0 where
  pub ascending : IsAscending S
  pub apart : IsApart m S
  pub reads : Reads m (x S) S
  pub costs : cost p (x S) ≡ cost q S
  pub stable : is_stable q S ≡ true
  pub whole : is_stable p (x S) ≡ true

pub others : (m : ℕ → ℕ) (x : Atoms → Atoms) (p q : Program) → HasResultsOf m x p q → AllByRecursion (IsOther m x p q) (answers q)
others m x p q g =
    each-contained (IsOther m x p q) (answers q) (λ S h.
    let stable : is_stable q S ≡ true = ((answers-are q S).0 h).0 in
    let ok = stable-apart m x p q g.is S stable in
    let reads : Reads m (x S) S = g.is.reads S in
    record { ascending = ok.0; apart = ok.1; reads = reads; costs = sym (g.costs (x S) S reads); stable = stable; whole = stable-merged m x p q g.is S ok.0 ok.1 ∙ stable })

-- ---- filters of mapped lists
map_one : {X Y : Type 0} (f : X → Y) (c : Bool) (x : X) (xs : List X) → cond c (f x ∷ map f xs) (map f xs) ≡ map f (cond c (x ∷ xs) xs)
map_one f true x xs = refl
map_one f false x xs = refl

filter-map : {X Y : Type 0} (g : Y → Bool) (f : X → Y) (xs : List X) → filter g (map f xs) ≡ map f (filter (λ x. g (f x)) xs)
filter-map g f [] = refl
filter-map g f (x ∷ xs) = ap (λ ys. cond (g (f x)) (f x ∷ ys) ys) (filter-map g f xs) ∙ map_one f (g (f x)) x (filter (λ y. g (f y)) xs)

filter-same : {X : Type 0} (f g : X → Bool) (xs : List X) → AllByRecursion (λ x. f x ≡ g x) xs → filter f xs ≡ filter g xs
filter-same f g [] h = refl
filter-same f g (x ∷ xs) h = ap (λ c. cond c (x ∷ filter f xs) (filter f xs)) h.0 ∙ ap (λ ys. cond (g x) (x ∷ ys) ys) (filter-same f g xs h.1)

any-each : {X : Type 0} (f g : X → Bool) (xs : List X) → AllByRecursion (λ x. f x ≡ g x) xs → list_any f xs ≡ list_any g xs
any-each f g [] h = refl
any-each f g (x ∷ xs) h = ap (λ b. b || list_any f xs) h.0 ∙ ap (λ b. g x || b) (any-each f g xs h.1)

all-each : {X Y : Type 0} (h : X → Y) (f : Y → Bool) (g : X → Bool) (xs : List X) → AllByRecursion (λ x. f (h x) ≡ g x) xs → list_all f (map h xs) ≡ list_all g xs
all-each h f g [] e = refl
all-each h f g (x ∷ xs) e = ap (λ b. b && list_all f (map h xs)) e.0 ∙ ap (λ b. g x && b) (all-each h f g xs e.1)

-- ---- optima
any-better : (m : ℕ → ℕ) (x : Atoms → Atoms) (p q : Program) (c : List ℤ) (Ss : List Atoms) → AllByRecursion (IsOther m x p q) Ss →
    list_any (λ T. betters (cost p T) c) (map x Ss) ≡ list_any (λ T. betters (cost q T) c) Ss
any-better m x p q c Ss all =
    list_any-map (λ T. betters (cost p T) c) x Ss
    ∙ any-each (λ T. betters (cost p (x T)) c) (λ T. betters (cost q T) c) Ss
    (each_weaker (IsOther m x p q) (λ T. betters (cost p (x T)) c ≡ betters (cost q T) c) (λ T o. ap (λ d. betters d c) o.costs) Ss all)

abbrev is_best : Program → List Atoms → Atoms → Bool
is_best p Ss S = not (list_any (λ T. betters (cost p T) (cost p S)) Ss)

pub optima-merged : (m : ℕ → ℕ) (x : Atoms → Atoms) (p q : Program) → HasResultsOf m x p q → optima p ≡ map x (optima q)
optima-merged m x p q g =
    ap (λ Ss. filter (is_best p Ss) Ss) (same-answers m x p q g)
    ∙ filter-map (is_best p (map x (answers q))) x (answers q)
    ∙ ap (map x) (filter-same (λ S. is_best p (map x (answers q)) (x S)) (is_best q (answers q)) (answers q)
    (each_weaker (IsOther m x p q) (λ S. is_best p (map x (answers q)) (x S) ≡ is_best q (answers q) S) (λ S o.
    ap not (any-better m x p q (cost p (x S)) (answers q) (others m x p q g) ∙ ap (λ c. list_any (λ T. betters (cost q T) c) (answers q)) o.costs)) (answers q) (others m x p q g)))

pub optimum-merged : (m : ℕ → ℕ) (x : Atoms → Atoms) (p q : Program) → HasResultsOf m x p q → (S : Atoms) (c : List ℤ) → IsOptimum q S c → IsOptimum p (x S) c
optimum-merged m x p q g S c o =
    record {
      answer = subst (λ Ss. Contains Ss (x S)) (sym (same-answers m x p q g)) (contains-map x (answers q) S o.answer);
      sums = o.sums ∙ g.costs (x S) S (g.is.reads S);
      least = ap (list_any (λ T. betters (cost p T) c)) (same-answers m x p q g) ∙ any-better m x p q c (answers q) (others m x p q g) ∙ o.least;
    }

-- ---- some of the answers
chosen_of : (m : ℕ → ℕ) (x : Atoms → Atoms) (p q : Program) → HasResultsOf m x p q → (chosen : Atoms → Bool) (Ss : List Atoms) →
    AllByRecursion (IsOther m x p q) Ss → map x (filter chosen Ss) ≡ filter (λ S. chosen (kept m S)) (map x Ss)
chosen_of m x p q g chosen Ss all =
    sym (filter-map (λ S. chosen (kept m S)) x Ss
    ∙ ap (map x) (filter-same (λ S. chosen (kept m (x S))) chosen Ss
    (each_weaker (IsOther m x p q) (λ S. chosen (kept m (x S)) ≡ chosen S)
    (λ S o. ap chosen (kept-extended m (x S) S (g.is.ascends S o.ascending) o.ascending o.apart o.reads)) Ss all)))

pub chosen-merged : (m : ℕ → ℕ) (x : Atoms → Atoms) (p q : Program) → HasResultsOf m x p q → (chosen : Atoms → Bool) → map x (filter chosen (answers q)) ≡ filter (λ S. chosen (kept m S)) (answers p)
chosen-merged m x p q g chosen = chosen_of m x p q g chosen (answers q) (others m x p q g) ∙ ap (filter (λ S. chosen (kept m S))) (sym (same-answers m x p q g))

pub optima-chosen : (m : ℕ → ℕ) (x : Atoms → Atoms) (p q : Program) → HasResultsOf m x p q → (chosen : Atoms → Bool) → map x (filter chosen (optima q)) ≡ filter (λ S. chosen (kept m S)) (optima p)
optima-chosen m x p q g chosen =
    chosen_of m x p q g chosen (optima q) (each-filter (IsOther m x p q) (is_best q (answers q)) (answers q) (others m x p q g))
    ∙ ap (filter (λ S. chosen (kept m S))) (sym (optima-merged m x p q g))

-- ---- what they have in common
abbrev held_by : Reasoning → List Atoms → ℕ → Bool
held_by Brave K a = list_any (λ S. has S a) K
held_by Cautious K a = list_all (λ S. has S a) K

has-consequences : (w : Reasoning) (p : Program) (K : List Atoms) (a : ℕ) → has (consequences w p K) a ≡ (held_by w K a && has (atoms_of p) a)
has-consequences Brave p K a = has-filter (held_by Brave K) (atoms_of p) a
has-consequences Cautious p K a = has-filter (held_by Cautious K) (atoms_of p) a

consequences-ascend : (w : Reasoning) (p : Program) (K : List Atoms) → IsAscending (consequences w p K)
consequences-ascend Brave p K = ascends-filter (held_by Brave K) (atoms_of p) (atoms-ascend p)
consequences-ascend Cautious p K = ascends-filter (held_by Cautious K) (atoms_of p) (atoms-ascend p)

held-read : (m : ℕ → ℕ) (x : Atoms → Atoms) (p q : Program) (w : Reasoning) (K : List Atoms) (a : ℕ) → AllByRecursion (IsOther m x p q) K → held_by w (map x K) a ≡ held_by w K (m a)
held-read m x p q Brave K a all =
    list_any-map (λ S. has S a) x K ∙ any-each (λ S. has (x S) a) (λ S. has S (m a)) K (each_weaker (IsOther m x p q) (λ S. has (x S) a ≡ has S (m a)) (λ S o. o.reads a) K all)
held-read m x p q Cautious K a all = all-each x (λ S. has S a) (λ S. has S (m a)) K (each_weaker (IsOther m x p q) (λ S. has (x S) a ≡ has S (m a)) (λ S o. o.reads a) K all)

held-some : (w : Reasoning) (S : Atoms) (K : List Atoms) (a : ℕ) → held_by w (S ∷ K) a ≡ true → list_any (λ T. has T a) (S ∷ K) ≡ true
held-some Brave S K a e = e
held-some Cautious S K a e = or_left (has S a) (list_any (λ T. has T a) K) (and_parts (has S a) (list_all (λ T. has T a) K) e).0

-- What some of the answers have is an atom of the merged program, and what goes by it one of the program.
pub record IsHeld (m : ℕ → ℕ) (p q : Program) (a b : ℕ) : Type 0 where
  pub left : has (atoms_of q) b ≡ true
  pub stands : has (atoms_of p) a ≡ true

held-stands : (m : ℕ → ℕ) (x : Atoms → Atoms) (p q : Program) (w : Reasoning) (S : Atoms) (K : List Atoms) (a b : ℕ) →
    AllByRecursion (IsOther m x p q) (S ∷ K) → m a ≡ b → held_by w (S ∷ K) b ≡ true → IsHeld m p q a b
held-stands m x p q w S K a b all e h =
    one_passes (IsHeld m p q a b) (λ T. has T b) (S ∷ K) (each_weaker (IsOther m x p q) (λ T. has T b ≡ true → IsHeld m p q a b) (λ T o t.
    record { left = (stable-subset q T o.stable).1 b t; stands = (stable-subset p (x T) o.whole).1 a (o.reads a ∙ ap (has T) e ∙ t) }) (S ∷ K) all) (held-some w S K b h)

same_both : (h s t : Bool) → (h ≡ true → (s ≡ true) × (t ≡ true)) → (h && t) ≡ (h && s)
same_both true s t k = (k refl).1 ∙ sym (k refl).0
same_both false s t k = refl

common-merged : (m : ℕ → ℕ) (x : Atoms → Atoms) (p q : Program) → HasResultsOf m x p q → (w : Reasoning) (S : Atoms) (K : List Atoms) →
    AllByRecursion (IsOther m x p q) (S ∷ K) → consequences w p (map x (S ∷ K)) ≡ x (consequences w q (S ∷ K))
common-merged m x p q g w S K all =
    same_from_has (consequences w p (map x (S ∷ K))) (x (consequences w q (S ∷ K))) (consequences-ascend w p (map x (S ∷ K)))
    (g.is.ascends (consequences w q (S ∷ K)) (consequences-ascend w q (S ∷ K))) (λ a.
    has-consequences w p (map x (S ∷ K)) a
    ∙ ap (λ b. b && has (atoms_of p) a) (held-read m x p q w (S ∷ K) a all)
    ∙ same_both (held_by w (S ∷ K) (m a)) (has (atoms_of q) (m a)) (has (atoms_of p) a) (λ h. let t = held-stands m x p q w S K a (m a) all refl h in (t.left, t.stands))
    ∙ sym (g.is.reads (consequences w q (S ∷ K)) a ∙ has-consequences w q (S ∷ K) (m a)))

common-of : (m : ℕ → ℕ) (x : Atoms → Atoms) (p q : Program) → HasResultsOf m x p q → (w : Reasoning) (K : List Atoms) →
    AllByRecursion (IsOther m x p q) K → consequences_of w p (map x K) ≡ option_map x (consequences_of w q K)
common-of m x p q g w [] all = refl
common-of m x p q g w (S ∷ K) all = ap (λ C. Some C) (common-merged m x p q g w S K all)

pub all-consequences : (m : ℕ → ℕ) (x : Atoms → Atoms) (p q : Program) → HasResultsOf m x p q → (w : Reasoning) → consequences_of w p (answers p) ≡ option_map x (consequences_of w q (answers q))
all-consequences m x p q g w = ap (consequences_of w p) (same-answers m x p q g) ∙ common-of m x p q g w (answers q) (others m x p q g)

pub some-consequences : (m : ℕ → ℕ) (x : Atoms → Atoms) (p q : Program) → HasResultsOf m x p q → (w : Reasoning) (chosen : Atoms → Bool) →
    consequences_of w p (map x (filter chosen (answers q))) ≡ option_map x (consequences_of w q (filter chosen (answers q)))
some-consequences m x p q g w chosen = common-of m x p q g w (filter chosen (answers q)) (each-filter (IsOther m x p q) chosen (answers q) (others m x p q g))
