-- The tables hold what is said of each atom.
use Rattle.std.proofs.Common.{◌≡◌, ℕ, zero, suc, ◌<◌, ◌≤◌, Bool, true, false, not, cond, ◌&&◌, eqb, nat_lt, List, length, get_or, refl, sym, ap, ◌∙◌, arith, inl, inr}
use Rattle.std.proofs.lemmas.Bool.{both_ways, cases_lt, eq-eqb, le-ltb}
use Rattle.std.proofs.lemmas.List.{get_or_default, get_or_past}
use Rattle.asp_model.specs.declared.program.Program.{Program}
use Rattle.asp_model.specs.Sets.{Atoms, has, set_of}
use Rattle.asp_model.proofs.SetLaws.{has-set_of}
use Rattle.asp_equal.specs.Merged.{copies_of, merged_by, merged_of}
use Rattle.asp_equal.specs.Copies.{copies_below, least, named, or_itself, places, root, same, source, target}
use Rattle.asp_equal.specs.Tables.{AreLeast, AreSources, IsLow, IsSameTable, root_in, sent, target_in}
use Rattle.asp_equal.proofs.SameLaws.{root-copied, same-far, same-low}

-- ---- reading a table
pub sent-here : (table : List ℕ) (a : ℕ) → a < length table → sent table a ≡ get_or table a 0
sent-here table a lt = get_or_default table a a 0 lt

pub sent-past : (table : List ℕ) (a : ℕ) → length table ≤ a → sent table a ≡ a
sent-past table a h = get_or_past table a a h

-- ---- targets and roots
third_false : (x y z u v w : Bool) → z ≡ false → (x && y && z && u && v && w) ≡ false
third_false true true z u v w e = ap (λ b. b && u && v && w) e
third_false true false z u v w e = refl
third_false false y z u v w e = refl

-- what a test of names says of the target, where b is the source
abbrev aimed : ℕ → (ℕ → Bool) → ℕ → ℕ → ℕ
aimed n h b a = or_itself (nat_lt 0 a && nat_lt 0 b && nat_lt a n && nat_lt b n && not (h a) && not (h b)) b a

aimed-past : (n : ℕ) (h : ℕ → Bool) (b a : ℕ) → n ≤ a → aimed n h b a ≡ a
aimed-past n h b a far = ap (λ c. or_itself c b a) (third_false (nat_lt 0 a) (nat_lt 0 b) (nat_lt a n) (nat_lt b n) (not (h a)) (not (h b)) (le-ltb a n far))

pub target-read : (p : Program) (known : List ℕ) (names : Atoms) → length known ≡ places p → AreSources p.rules known → names ≡ set_of (named p) →
    (a : ℕ) → target_in known names a ≡ target (places p) p a
target-read p known names count sources e a = elim (cases_lt a (length known)) [
  | inl lt ↦ ap (λ b. aimed (length known) (has names) b a) (sources a lt) ∙ ap (λ n. aimed n (has names) (source p.rules a) a) count
      ∙ ap (λ N. aimed (places p) (has N) (source p.rules a) a) e ∙ (λ i. aimed (places p) (λ b. has-set_of (named p) b i) (source p.rules a) a)
  | inr far ↦ aimed-past (length known) (has names) (get_or known a 0) a far ∙ sym (aimed-past (places p) (has (named p)) (source p.rules a) a (omega (arith, count, far)))
]

pub root-read : (p : Program) (known : List ℕ) (names : Atoms) → length known ≡ places p → AreSources p.rules known → names ≡ set_of (named p) → (a : ℕ) → root_in known names a ≡ root (places p) p a
root-read p known names count sources e a =
    λ i. or_itself (eqb (target-read p known names count sources e (target-read p known names count sources e a i) i)
    (target-read p known names count sources e a i)) (target-read p known names count sources e a i) a

root-below : (n : ℕ) (p : Program) (a : ℕ) → a < n → root n p a < n
root-below n p a lt = elim (root-copied n p a) [ inl e ↦ omega (arith, e) | inr c ↦ omega (arith, c.0, c.1.within) ]

-- ---- the least
any_step : (f : ℕ → ℕ) (r k d e a : ℕ) (c : Bool) → (a < k → least f r k d ≡ least f r k e) → a < suc k → f a ≡ r → eqb (f k) r ≡ c → least f r k (cond c k d) ≡ least f r k (cond c k e)
any_step f r k d e a true before lt h t = refl
any_step f r k d e a false before lt h t = elim (cases_lt a k) [
  | inl low ↦ before low
  | inr high ↦ let same : k ≡ a = omega arith in absurd (both_ways (eqb (f k) r) t (eq-eqb (f k) r (ap f same ∙ h)))
]

-- Where there is one, nothing else counts.
pub least-any : (f : ℕ → ℕ) (r n d e a : ℕ) → a < n → f a ≡ r → least f r n d ≡ least f r n e
least-any f r zero d e a lt h = absurd (omega arith)
least-any f r (suc k) d e a lt h = any_step f r k d e a (eqb (f k) r) (λ low. least-any f r k d e a low h) lt h refl

pub same-table : (p : Program) (known table sends : List ℕ) (names : Atoms) → length known ≡ places p → AreSources p.rules known →
    names ≡ set_of (named p) → length table ≡ length known → AreLeast known names table →
    length sends ≡ length known → ((a : ℕ) → a < length known → get_or sends a 0 ≡ sent table (root_in known names a)) → IsSameTable p sends
same-table p known table sends names count sources e counted lows many reads = record {
  count = many ∙ count;
  value = λ a. elim (cases_lt a (length known)) [
    | inl lt ↦ sent-here sends a (omega (arith, many, lt)) ∙ reads a lt ∙ here a lt
    | inr far ↦ sent-past sends a (omega (arith, many, far)) ∙ sym (same-far (places p) p a (omega (arith, count, far)))
  ];
}
  where
    roots : (a : ℕ) → root_in known names a ≡ root (places p) p a
    roots = root-read p known names count sources e

    here : (a : ℕ) → a < length known → sent table (root_in known names a) ≡ same (places p) p a
    here a lt =
        let r = root (places p) p a in
        let low : r < length known = omega (arith, count, root-below (places p) p a (omega (arith, count, lt))) in
        ap (sent table) (roots a)
        ∙ sent-here table r (omega (arith, counted, low))
        ∙ lows r low
        ∙ ap (λ m. least (root_in known names) r m r) count
        ∙ (λ i. least (λ b. roots b i) r (places p) r)
        ∙ least-any (root (places p) p) r (places p) r a a (omega (arith, count, lt)) refl

-- ---- what the table says
pub table-low : (p : Program) (table : List ℕ) → IsSameTable p table → IsLow table
table-low p table t a = omega (arith, t.value a, same-low (places p) p a)

pub copies-are : (p : Program) (table : List ℕ) → IsSameTable p table → copies_below (sent table) (length table) ≡ copies_of p
copies-are p table t = λ i. copies_below (λ a. t.value a i) (t.count i)

pub merged-is : (p : Program) (table : List ℕ) → IsSameTable p table → merged_by (sent table) p ≡ merged_of p
merged-is p table t = λ i. merged_by (λ a. t.value a i) p
