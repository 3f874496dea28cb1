-- The edges of a graph, turned round one by one.
use Rattle.std.proofs.Common.{◌≡◌, ◌≢◌, ℕ, ◌+◌, ◌<◌, Bool, true, false, ◌&&◌, ◌||◌, eqb, ltb, List, [], ◌∷◌, ◌++◌, length, get_or, refl, sym, ap, ◌∙◌, subst, arith}
use Rattle.std.specs.Prelude.{fold, All}
use Rattle.std.proofs.lemmas.Bool.{false≢true, eqb-true, eq-eqb, ltb-true, lt-ltb, and_parts}
use Rattle.std.proofs.lemmas.Bool.Decides.{nat_tests}
use Rattle.std.proofs.lemmas.List.{get_or-set_same, get_or-set_other}
use Rattle.std.proofs.lemmas.List.Elements.{All-head, All-tail, All-weaker}
use Rattle.std.proofs.Math.ListN.{length-set}
use Rattle.asp_scc.specs.Graphs.{Graph, edges, is_in, IsGraph}
use Rattle.asp_scc.specs.Edges.{with_edge}
use Rattle.asp_scc.proofs.SearchLaws.{is_in-push, is_in-at, get_or-any}

-- one edge
pub edge_in : (rows : Graph) (v w x u : ℕ) → x < length rows → is_in (get_or (with_edge v rows x) w []) u ≡ (is_in (get_or rows w []) u || (eqb v u && eqb x w))
edge_in rows v w x u lt = cases (eqb x w) refl
  where
    cases : (b : Bool) → b ≡ eqb x w → is_in (get_or (with_edge v rows x) w []) u ≡ (is_in (get_or rows w []) u || (eqb v u && eqb x w))
    cases true e =
        let same : x ≡ w = eqb-true x w (sym e) in
        subst (λ (y : ℕ). is_in (get_or (with_edge v rows x) y []) u ≡ (is_in (get_or rows y []) u || eqb v u)) same
        (ap (λ r. is_in r u) (get_or-set_same rows x (get_or rows x [] ++ v ∷ []) [] lt) ∙ is_in-push (get_or rows x []) v u)
        ∙ ap (λ b. is_in (get_or rows w []) u || b) (last_and (eqb v u) ∙ ap (λ b. eqb v u && b) e)
      where
        last_and : (b : Bool) → b ≡ (b && true)
        last_and true = refl
        last_and false = refl
    cases false e =
        ap (λ r. is_in r u) (get_or-set_other rows x w (get_or rows x [] ++ v ∷ []) [] (λ z. false≢true (e ∙ eq-eqb x w (sym z))))
        ∙ no_more (is_in (get_or rows w []) u) (eqb v u) ∙ ap (λ b. is_in (get_or rows w []) u || (eqb v u && b)) e
      where
        no_more : (a b : Bool) → a ≡ (a || (b && false))
        no_more true b = refl
        no_more false true = refl
        no_more false false = refl

length-with_edge : (v : ℕ) (rows : Graph) (w : ℕ) → length (with_edge v rows w) ≡ length rows
length-with_edge v rows w = length-set rows w (get_or rows w [] ++ v ∷ [])

-- a row of them
pub row_in : (row : List ℕ) (rows : Graph) (v w u : ℕ) → All (λ x. x < length rows) row → is_in (get_or (fold (with_edge v) rows row) w []) u ≡ (is_in (get_or rows w []) u || (eqb v u && is_in row w))
row_in [] rows v w u h = none (is_in (get_or rows w []) u) (eqb v u)
  where
    none : (a b : Bool) → a ≡ (a || (b && false))
    none true b = refl
    none false true = refl
    none false false = refl
row_in (x ∷ row) rows v w u h =
    let first = edge_in rows v w x u (All-head (λ y. y < length rows) x row h) in
    let rest = row_in row (with_edge v rows x) v w u
    (All-weaker (λ y. y < length rows) (λ y. y < length (with_edge v rows x)) (λ y lt. let e = length-with_edge v rows x in omega (arith, e)) row
    (All-tail (λ y. y < length rows) x row h)) in
    rest ∙ ap (λ b. b || (eqb v u && is_in row w)) first ∙ joined (is_in (get_or rows w []) u) (eqb v u) (eqb x w) (is_in row w)
  where
    joined : (a b c d : Bool) → ((a || (b && c)) || (b && d)) ≡ (a || (b && (c || d)))
    joined true b c d = refl
    joined false true true d = refl
    joined false true false d = refl
    joined false false c d = refl

length-row : (row : List ℕ) (rows : Graph) (v : ℕ) → length (fold (with_edge v) rows row) ≡ length rows
length-row [] rows v = refl
length-row (x ∷ row) rows v = length-row row (with_edge v rows x) v ∙ length-with_edge v rows x

-- the edges of the first i nodes, turned round
pub record Turning (g rows : Graph) (i : ℕ) : Type 0 where
  pub size : length rows ≡ length g
  pub edges : (v w : ℕ) → is_in (get_or rows w []) v ≡ (ltb v i && is_in (edges g v) w)

pub one_turned : (g rows rows' : Graph) (i : ℕ) (row : List ℕ) → IsGraph g → i < length g → row ≡ edges g i → rows' ≡ fold (with_edge i) rows row → Turning g rows i → Turning g rows' (i + 1)
one_turned g rows rows' i row graph lt at is h =
    let within : All (λ w. w < length rows) (edges g i) = λ k d l. let a = graph i [] lt k d l in omega (arith, a, h.size) in
    subst (λ (r : Graph). Turning g r (i + 1)) (sym (is ∙ ap (fold (with_edge i) rows) at)) record {
      size = length-row (edges g i) rows i ∙ h.size;
      edges = λ v w. row_in (edges g i) rows i w v within ∙ ap (λ b. b || (eqb i v && is_in (edges g i) w)) (h.edges v w) ∙ cases v w (eqb i v) refl;
    }
  where
    cases : (v w : ℕ) (b : Bool) → b ≡ eqb i v → ((ltb v i && is_in (edges g v) w) || (eqb i v && is_in (edges g i) w)) ≡ (ltb v (i + 1) && is_in (edges g v) w)
    cases v w true e =
        let same : i ≡ v = eqb-true i v (sym e) in
        let before : ltb v i ≡ false = grind (arith, nat_tests) in
        let after : ltb v (i + 1) ≡ true = lt-ltb v (i + 1) (omega arith) in
        ap (λ b. (b && is_in (edges g v) w) || (eqb i v && is_in (edges g i) w)) before ∙ ap (λ b. b && is_in (edges g i) w) (sym e)
        ∙ ap (λ x. is_in (edges g x) w) same ∙ sym (ap (λ b. b && is_in (edges g v) w) after)
    cases v w false e =
        let other : v ≢ i = λ z. false≢true (e ∙ eq-eqb i v (sym z)) in
        let same : ltb v i ≡ ltb v (i + 1) = grind (arith, nat_tests) in
        ap (λ b. (ltb v i && is_in (edges g v) w) || (b && is_in (edges g i) w)) (sym e) ∙ last_or (ltb v i && is_in (edges g v) w)
        ∙ ap (λ b. b && is_in (edges g v) w) same
      where
        last_or : (a : Bool) → (a || false) ≡ a
        last_or true = refl
        last_or false = refl

pub reverse_graph : (g rows : Graph) → Turning g rows (length g) → IsGraph rows
reverse_graph g rows h i row lt k d lt' =
    let e : get_or rows i row ≡ get_or rows i [] = get_or-any rows i row [] lt in
    let short : k < length (get_or rows i []) = subst (λ (r : List ℕ). k < length r) e lt' in
    let there = is_in-at (get_or rows i []) k short in
    let both = and_parts (ltb (get_or (get_or rows i []) k 0) (length g)) (is_in (edges g (get_or (get_or rows i []) k 0)) i) (sym (h.edges (get_or (get_or rows i []) k 0) i) ∙ there) in
    let below : get_or (get_or rows i []) k 0 < length g = ltb-true (get_or (get_or rows i []) k 0) (length g) both.0 in
    let same : get_or (get_or rows i row) k d ≡ get_or (get_or rows i []) k 0 = ap (λ r. get_or r k d) e ∙ get_or-any (get_or rows i []) k d 0 short in
    omega (arith, below, same, h.size)
