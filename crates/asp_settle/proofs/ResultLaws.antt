-- Optima, some of the answers and what they have in common are those of what is left, with the facts.
use Rattle.std.proofs.Common.{◌≡◌, ℕ, Bool, true, false, not, cond, ◌&&◌, ◌||◌, List, [], ◌∷◌, map, filter, Some, refl, sym, ap, ◌∙◌, ℤ, subst, Contains}
use Rattle.std.specs.List.{AllByRecursion, list_any, list_all}
use Rattle.std.specs.Prelude.{option_map}
use Rattle.std.proofs.lemmas.Bool.{and_from, and_parts, or_left, or_right}
use Rattle.asp_model.specs.declared.program.Program.{Program}
use Rattle.asp_model.specs.declared.results.Reasoning.{Reasoning}
use Rattle.asp_model.specs.declared.results.Reasoning.TheVariants.{Brave, Cautious}
use Rattle.asp_model.specs.Sets.{Atoms, IsAscending, has}
use Rattle.asp_model.specs.Consequences.{consequences, consequences_of}
use Rattle.asp_model.specs.Costs.{IsOptimum, betters, cost, optima}
use Rattle.asp_model.specs.Models.{answers, atoms_of, is_stable}
use Rattle.asp_model.specs.Sound.{IsSound}
use Rattle.asp_model.proofs.SetLaws.{same_from_has}
use Rattle.asp_model.proofs.MemberLaws.{each-filter, list_any-map, one_passes, each_weaker}
use Rattle.asp_model.proofs.ModelLaws.{answers-are, stable-subset}
use Rattle.asp_model.proofs.ConsequenceLaws.{ascends-filter, atoms-ascend, has-filter}
use Rattle.asp_settle.specs.Settled.{facts_in, left_in, united, without}
use Rattle.asp_settle.proofs.ReadLaws.{has-united, or-false}
use Rattle.asp_settle.proofs.FactLaws.{assumed-left, cost-left, facts-ascend, facts-derived}
use Rattle.asp_settle.proofs.OpenLaws.{force-left}
use Rattle.asp_settle.proofs.SoundLaws.{sound-left}
use Rattle.asp_settle.proofs.MentionLaws.{facts-stand}
use Rattle.asp_settle.proofs.StableLaws.{IsApart, IsLeft, answers-left, contains-map, each-contained, without-united, stable-apart, stable-left, united-ascends}

pub is-left : (p : Program) → IsSound p → IsLeft (facts_in p) p (left_in p)
is-left p sound = record { ascending = facts-ascend p; rules = force-left p; derived = facts-derived p sound; whole = sound; sound = sound-left p sound }

pub same-answers : (p : Program) → IsSound p → answers p ≡ map (united (facts_in p)) (answers (left_in p))
same-answers p sound = answers-left (facts_in p) p (left_in p) (record { is = is-left p sound; assumed = assumed-left p })

-- an answer of what is left: it is apart from the facts, and with them a stable model of the program
pub record IsOther (p : Program) (S : Atoms) : Type 0 where
  pub ascending : IsAscending S
  pub apart : IsApart (facts_in p) S
  pub stable : is_stable (left_in p) S ≡ true
  pub whole : is_stable p (united (facts_in p) S) ≡ true

pub others : (p : Program) → IsSound p → AllByRecursion (IsOther p) (answers (left_in p))
others p sound =
    each-contained (IsOther p) (answers (left_in p)) (λ S h.
    let stable : is_stable (left_in p) S ≡ true = ((answers-are (left_in p) S).0 h).0 in
    let ok = stable-apart (facts_in p) p (left_in p) (is-left p sound) S stable in
    record { ascending = ok.0; apart = ok.1; stable = stable; whole = stable-left (facts_in p) p (left_in p) (is-left p sound) S ok.0 ok.1 ∙ stable })

-- ---- filters of mapped lists
map_one : {X Y : Type 0} (f : X → Y) (c : Bool) (x : X) (xs : List X) → cond c (f x ∷ map f xs) (map f xs) ≡ map f (cond c (x ∷ xs) xs)
map_one f true x xs = refl
map_one f false x xs = refl

filter-map : {X Y : Type 0} (g : Y → Bool) (f : X → Y) (xs : List X) → filter g (map f xs) ≡ map f (filter (λ x. g (f x)) xs)
filter-map g f [] = refl
filter-map g f (x ∷ xs) = ap (λ ys. cond (g (f x)) (f x ∷ ys) ys) (filter-map g f xs) ∙ map_one f (g (f x)) x (filter (λ y. g (f y)) xs)

filter-same : {X : Type 0} (f g : X → Bool) (xs : List X) → AllByRecursion (λ x. f x ≡ g x) xs → filter f xs ≡ filter g xs
filter-same f g [] h = refl
filter-same f g (x ∷ xs) h = ap (λ c. cond c (x ∷ filter f xs) (filter f xs)) h.0 ∙ ap (λ ys. cond (g x) (x ∷ ys) ys) (filter-same f g xs h.1)

pub any-same : {X : Type 0} (f g : X → Bool) → ((x : X) → f x ≡ g x) → (xs : List X) → list_any f xs ≡ list_any g xs
any-same f g h [] = refl
any-same f g h (x ∷ xs) = ap (λ b. b || list_any f xs) (h x) ∙ ap (λ b. g x || b) (any-same f g h xs)

each_any : {X : Type 0} (P : X → Type 0) → ((x : X) → P x) → (xs : List X) → AllByRecursion P xs
each_any P h [] = tt
each_any P h (x ∷ xs) = (h x, each_any P h xs)

-- ---- optima
pub optima-left : (p : Program) → IsSound p → optima p ≡ map (united (facts_in p)) (optima (left_in p))
optima-left p sound =
    let u = united (facts_in p) in
    let q = left_in p in
    ap (λ Ss. filter (λ S. not (list_any (λ T. betters (cost p T) (cost p S)) Ss)) Ss) (same-answers p sound)
    ∙ filter-map (λ S. not (list_any (λ T. betters (cost p T) (cost p S)) (map u (answers q)))) u (answers q)
    ∙ ap (map u) (filter-same (λ S. not (list_any (λ T. betters (cost p T) (cost p (u S))) (map u (answers q)))) (λ S. not (list_any (λ T. betters (cost q T) (cost q S)) (answers q))) (answers q)
    (each_any (λ S. not (list_any (λ T. betters (cost p T) (cost p (u S))) (map u (answers q))) ≡ not (list_any (λ T. betters (cost q T) (cost q S)) (answers q))) (λ S.
    ap not (list_any-map (λ T. betters (cost p T) (cost p (u S))) u (answers q)
    ∙ any-same (λ T. betters (cost p (u T)) (cost p (u S))) (λ T. betters (cost q T) (cost q S))
    (λ T. ap (λ c. betters c (cost p (u S))) (cost-left p T) ∙ ap (betters (cost q T)) (cost-left p S)) (answers q))) (answers q)))

-- ---- some of the answers
pub chosen-left : (p : Program) (chosen : Atoms → Bool) → IsSound p → map (united (facts_in p)) (filter chosen (answers (left_in p))) ≡ filter (λ S. chosen (without (facts_in p) S)) (answers p)
chosen-left p chosen sound =
    let u = united (facts_in p) in
    let q = left_in p in
    sym (ap (filter (λ S. chosen (without (facts_in p) S))) (same-answers p sound)
    ∙ filter-map (λ S. chosen (without (facts_in p) S)) u (answers q)
    ∙ ap (map u) (filter-same (λ S. chosen (without (facts_in p) (u S))) chosen (answers q)
    (each_weaker (IsOther p) (λ S. chosen (without (facts_in p) (u S)) ≡ chosen S)
    (λ S o. ap chosen (without-united (facts_in p) S o.ascending o.apart)) (answers q) (others p sound))))

pub optima-chosen : (p : Program) (chosen : Atoms → Bool) → IsSound p → map (united (facts_in p)) (filter chosen (optima (left_in p))) ≡ filter (λ S. chosen (without (facts_in p) S)) (optima p)
optima-chosen p chosen sound =
    let u = united (facts_in p) in
    let q = left_in p in
    sym (ap (filter (λ S. chosen (without (facts_in p) S))) (optima-left p sound)
    ∙ filter-map (λ S. chosen (without (facts_in p) S)) u (optima q)
    ∙ ap (map u) (filter-same (λ S. chosen (without (facts_in p) (u S))) chosen (optima q)
    (each_weaker (IsOther p) (λ S. chosen (without (facts_in p) (u S)) ≡ chosen S)
    (λ S o. ap chosen (without-united (facts_in p) S o.ascending o.apart)) (optima q)
    (each-filter (IsOther p) (λ S. not (list_any (λ T. betters (cost q T) (cost q S)) (answers q))) (answers q) (others p sound)))))

pub optimum-left : (p : Program) (S : Atoms) (c : List ℤ) → IsSound p → IsOptimum (left_in p) S c → IsOptimum p (united (facts_in p) S) c
optimum-left p S c sound o =
    let u = united (facts_in p) in
    let q = left_in p in
    record {
      answer = subst (λ Ss. Contains Ss (u S)) (sym (same-answers p sound)) (contains-map u (answers q) S o.answer);
      sums = o.sums ∙ sym (cost-left p S);
      least = ap (list_any (λ T. betters (cost p T) c)) (same-answers p sound) ∙ list_any-map (λ T. betters (cost p T) c) u (answers q)
          ∙ any-same (λ T. betters (cost p (u T)) c) (λ T. betters (cost q T) c) (λ T. ap (λ d. betters d c) (cost-left p T)) (answers q) ∙ o.least;
    }

-- ---- what they have in common
abbrev pub held_by : Reasoning → List Atoms → ℕ → Bool
held_by Brave K a = list_any (λ S. has S a) K
held_by Cautious K a = list_all (λ S. has S a) K

pub has-consequences : (w : Reasoning) (p : Program) (K : List Atoms) (a : ℕ) → has (consequences w p K) a ≡ (held_by w K a && has (atoms_of p) a)
has-consequences Brave p K a = has-filter (held_by Brave K) (atoms_of p) a
has-consequences Cautious p K a = has-filter (held_by Cautious K) (atoms_of p) a

pub consequences-ascend : (w : Reasoning) (p : Program) (K : List Atoms) → IsAscending (consequences w p K)
consequences-ascend Brave p K = ascends-filter (held_by Brave K) (atoms_of p) (atoms-ascend p)
consequences-ascend Cautious p K = ascends-filter (held_by Cautious K) (atoms_of p) (atoms-ascend p)

united-fact : (F S : Atoms) (a : ℕ) → has F a ≡ true → has (united F S) a ≡ true
united-fact F S a fact = has-united F S a ∙ or_right (has S a) (has F a) fact

united-other : (F S : Atoms) (a : ℕ) → has F a ≡ false → has (united F S) a ≡ has S a
united-other F S a out = has-united F S a ∙ ap (λ b. has S a || b) out ∙ or-false (has S a)

all-facts : (F : Atoms) (K : List Atoms) (a : ℕ) → has F a ≡ true → list_all (λ S. has S a) (map (united F) K) ≡ true
all-facts F [] a fact = refl
all-facts F (S ∷ K) a fact = and_from (has (united F S) a) (list_all (λ T. has T a) (map (united F) K)) (united-fact F S a fact) (all-facts F K a fact)

held-fact : (w : Reasoning) (F S : Atoms) (K : List Atoms) (a : ℕ) → has F a ≡ true → held_by w (map (united F) (S ∷ K)) a ≡ true
held-fact Brave F S K a fact = or_left (has (united F S) a) (list_any (λ T. has T a) (map (united F) K)) (united-fact F S a fact)
held-fact Cautious F S K a fact = all-facts F (S ∷ K) a fact

all-other : (F : Atoms) (K : List Atoms) (a : ℕ) → has F a ≡ false → list_all (λ S. has S a) (map (united F) K) ≡ list_all (λ S. has S a) K
all-other F [] a out = refl
all-other F (S ∷ K) a out = ap (λ b. b && list_all (λ T. has T a) (map (united F) K)) (united-other F S a out) ∙ ap (λ b. has S a && b) (all-other F K a out)

held-other : (w : Reasoning) (F : Atoms) (K : List Atoms) (a : ℕ) → has F a ≡ false → held_by w (map (united F) K) a ≡ held_by w K a
held-other Brave F K a out = list_any-map (λ S. has S a) (united F) K ∙ any-same (λ S. has (united F S) a) (λ S. has S a) (λ S. united-other F S a out) K
held-other Cautious F K a out = all-other F K a out

pub held-some : (w : Reasoning) (S : Atoms) (K : List Atoms) (a : ℕ) → held_by w (S ∷ K) a ≡ true → list_any (λ T. has T a) (S ∷ K) ≡ true
held-some Brave S K a e = e
held-some Cautious S K a e = or_left (has S a) (list_any (λ T. has T a) K) (and_parts (has S a) (list_all (λ T. has T a) K) e).0

-- what is held by some of the answers is an atom of both programs
held-stands : (w : Reasoning) (p : Program) (S : Atoms) (K : List Atoms) (a : ℕ) → AllByRecursion (IsOther p) (S ∷ K) → held_by w (S ∷ K) a ≡ true →
    (has (atoms_of (left_in p)) a ≡ true) × (has (atoms_of p) a ≡ true)
held-stands w p S K a all h =
    one_passes ((has (atoms_of (left_in p)) a ≡ true) × (has (atoms_of p) a ≡ true)) (λ T. has T a) (S ∷ K)
    (each_weaker (IsOther p) (λ T. has T a ≡ true → (has (atoms_of (left_in p)) a ≡ true) × (has (atoms_of p) a ≡ true)) (λ T o e. (
      (stable-subset (left_in p) T o.stable).1 a e,
      (stable-subset p (united (facts_in p) T) o.whole).1 a
          (has-united (facts_in p) T a ∙ or_left (has T a) (has (facts_in p) a) e),
    )) (S ∷ K) all) (held-some w S K a h)

pub same_both : (h s t : Bool) → (h ≡ true → (s ≡ true) × (t ≡ true)) → (h && t) ≡ (h && s)
same_both true s t k = (k refl).1 ∙ sym (k refl).0
same_both false s t k = refl

common_at : (w : Reasoning) (p : Program) (S : Atoms) (K : List Atoms) (a : ℕ) (f : Bool) → AllByRecursion (IsOther p) (S ∷ K) → has (facts_in p) a ≡ f →
    (held_by w (map (united (facts_in p)) (S ∷ K)) a && has (atoms_of p) a) ≡ ((held_by w (S ∷ K) a && has (atoms_of (left_in p)) a) || has (facts_in p) a)
common_at w p S K a true all fact =
    and_from (held_by w (map (united (facts_in p)) (S ∷ K)) a) (has (atoms_of p) a) (held-fact w (facts_in p) S K a fact) (facts-stand p a fact)
    ∙ sym (or_right (held_by w (S ∷ K) a && has (atoms_of (left_in p)) a) (has (facts_in p) a) fact)
common_at w p S K a false all out =
    ap (λ b. b && has (atoms_of p) a) (held-other w (facts_in p) (S ∷ K) a out)
    ∙ same_both (held_by w (S ∷ K) a) (has (atoms_of (left_in p)) a) (has (atoms_of p) a) (held-stands w p S K a all)
    ∙ sym (ap (λ b. (held_by w (S ∷ K) a && has (atoms_of (left_in p)) a) || b) out ∙ or-false (held_by w (S ∷ K) a && has (atoms_of (left_in p)) a))

common-left : (w : Reasoning) (p : Program) (S : Atoms) (K : List Atoms) → AllByRecursion (IsOther p) (S ∷ K) →
    consequences w p (map (united (facts_in p)) (S ∷ K)) ≡ united (facts_in p) (consequences w (left_in p) (S ∷ K))
common-left w p S K all =
    let F = facts_in p in
    let q = left_in p in
    same_from_has (consequences w p (map (united F) (S ∷ K))) (united F (consequences w q (S ∷ K))) (consequences-ascend w p (map (united F) (S ∷ K)))
    (united-ascends F (consequences w q (S ∷ K)) (consequences-ascend w q (S ∷ K))) (λ a.
    has-consequences w p (map (united F) (S ∷ K)) a ∙ common_at w p S K a (has F a) all refl
    ∙ ap (λ b. b || has F a) (sym (has-consequences w q (S ∷ K) a)) ∙ sym (has-united F (consequences w q (S ∷ K)) a))

common-of : (w : Reasoning) (p : Program) (K : List Atoms) → AllByRecursion (IsOther p) K →
    consequences_of w p (map (united (facts_in p)) K) ≡ option_map (united (facts_in p)) (consequences_of w (left_in p) K)
common-of w p [] all = refl
common-of w p (S ∷ K) all = ap (λ C. Some C) (common-left w p S K all)

pub all-consequences : (p : Program) (w : Reasoning) → IsSound p → consequences_of w p (answers p) ≡ option_map (united (facts_in p)) (consequences_of w (left_in p) (answers (left_in p)))
all-consequences p w sound = ap (consequences_of w p) (same-answers p sound) ∙ common-of w p (answers (left_in p)) (others p sound)

pub consequences-left : (p : Program) (w : Reasoning) (chosen : Atoms → Bool) → IsSound p →
    consequences_of w p (map (united (facts_in p)) (filter chosen (answers (left_in p)))) ≡ option_map (united (facts_in p))
    (consequences_of w (left_in p) (filter chosen (answers (left_in p))))
consequences-left p w chosen sound = common-of w p (filter chosen (answers (left_in p))) (each-filter (IsOther p) chosen (answers (left_in p)) (others p sound))
