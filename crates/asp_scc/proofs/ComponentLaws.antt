-- The classes of the graph are the components of the atoms.
use Rattle.std.proofs.Common.{◌≡◌, ◌≢◌, ℕ, zero, suc, ◌+◌, ◌<◌, ◌≤◌, Bool, true, false, not, ◌&&◌, eqb, ltb, List, [], map, length, get_or, refl, sym, ap, ◌∙◌, subst, arith, ◌⊎◌, inl, inr}
use Rattle.std.specs.Prelude.{All, ◌↔◌}
use Rattle.std.specs.List.{list_any}
use Rattle.std.proofs.lemmas.Bool.{false≢true, eqb-true, eq-eqb, ltb-true, lt-ltb, and_parts, and_from}
use Rattle.std.proofs.lemmas.List.{get_or-map, length-map}
use Rattle.std.proofs.Math.ListN.{get_or-eq_default}
use Rattle.std.proofs.lemmas.Bool.Decides.{nat_tests}
use Rattle.asp_model.specs.declared.program.Program.{Program}
use Rattle.asp_model.specs.Sets.{has}
use Rattle.asp_model.specs.Models.{atoms_of}
use Rattle.asp_vars.specs.Numbering.{var_of_atom, bodies_of, nth_atom}
use Rattle.asp_vars.specs.Tabled.{IsAtomVar}
use Rattle.asp_vars.specs.Completion.{supports}
use Rattle.asp_scc.specs.Dependencies.{positives}
use Rattle.std.proofs.Common.{length-append}
use Rattle.asp_vars.proofs.PlaceLaws.{var_of_nth_atom}
use Rattle.asp_model.proofs.MemberLaws.{HasAll-itself}
use Rattle.asp_vars.proofs.PlaceLaws.{at_each}
use Rattle.asp_scc.specs.Graphs.{Graph, is_in}
use Rattle.asp_scc.specs.Classes.{AreMutual, AreClasses}
use Rattle.asp_scc.specs.Dependencies.{graph_of}
use Rattle.asp_scc.specs.Numbers.{AreNumbered, HasMembers, is_looped, are_trivial}
use Rattle.asp_scc.specs.Components.{IsLoop, IsAlone, AreComponents}
use Rattle.asp_scc.proofs.SearchLaws.{is_in-at, get_or-any}
use Rattle.asp_scc.proofs.ReachLaws.{atom_small, reach_begins, begins_leads, leads_reach, looped_reaches, reaches_looped, any_of, each_member, reach_on}
use Rattle.asp_vars.proofs.SupportLaws.{some}

-- the classes are below this bound
pub classes_within : (g : Graph) (classes : List ℕ) → AreClasses g classes → All (λ c. c < length classes + 2) classes
classes_within g classes h k d lt =
    let same : get_or classes k d ≡ get_or classes k 0 = get_or-any classes k d 0 lt in
    cases (eqb (get_or classes k 0) 0) refl same
  where
    inside : (u : ℕ) → get_or classes u 0 ≢ 0 → (b : Bool) → b ≡ ltb u (length classes) → u < length classes
    inside u taken true e = ltb-true u (length classes) (sym e)
    inside u taken false e = absurd (taken (get_or-eq_default classes 0 (let late : length classes ≤ u = grind (arith, nat_tests) in late)))

    cases : (b : Bool) → b ≡ eqb (get_or classes k 0) 0 → get_or classes k d ≡ get_or classes k 0 → get_or classes k d < length classes + 2
    cases true e same = let z = eqb-true (get_or classes k 0) 0 (sym e) in omega (arith, same, z)
    cases false e same =
        let taken : get_or classes k 0 ≢ 0 = λ z. false≢true (e ∙ eq-eqb (get_or classes k 0) 0 z) in
        let n = h.named k taken in
        let l = inside n.0 (λ z. taken (sym n.2 ∙ z)) (ltb n.0 (length classes)) refl in
        omega (arith, same, n.1, l)

-- the members are atoms' variables
pub members_within : (n last count : ℕ) (numbers : List ℕ) (rows : List (List ℕ)) → last < n → length numbers ≡ last + 1 → HasMembers numbers count (length numbers) rows → All (All (λ v. v < n)) rows
members_within n last count numbers rows lt size h k row short j d lt' =
    let e : get_or rows k row ≡ get_or rows k [] = get_or-any rows k row [] short in
    let inside : j < length (get_or rows k []) = subst (λ (r : List ℕ). j < length r) e lt' in
    let v : ℕ = get_or (get_or rows k []) j 0 in
    let there : is_in (get_or rows k []) v ≡ true = is_in-at (get_or rows k []) j inside in
    let parts = and_parts (ltb 0 v) (ltb v (length numbers) && eqb (get_or numbers v 0) k) (sym (h.has k v (omega (arith, short, h.size))) ∙ there) in
    let below = ltb-true v (length numbers) (and_parts (ltb v (length numbers)) (eqb (get_or numbers v 0) k) parts.1).0 in
    let same : get_or (get_or rows k row) j d ≡ v = ap (λ r. get_or r j d) e ∙ get_or-any (get_or rows k []) j d 0 inside in
    omega (arith, below, same, size)

-- ---- the theorem
atom_positive : (p : Program) (a : ℕ) → 0 < var_of_atom p a
atom_positive p a = omega arith

standing_nth : (p : Program) (i : ℕ) → i < length (atoms_of p) → has (atoms_of p) (nth_atom p i) ≡ true
standing_nth p i lt = at_each (λ a. has (atoms_of p) a ≡ true) (atoms_of p) i 0 (HasAll-itself (atoms_of p)) lt

-- a variable of an atom is one of its atom
pub var_atom : (p : Program) (v : ℕ) → 0 < v → v ≤ length (atoms_of p) → (a : ℕ) × (has (atoms_of p) a ≡ true) × (v ≡ var_of_atom p a)
var_atom p zero positive small = absurd (omega arith)
var_atom p (suc i) positive small =
    let lt : i < length (atoms_of p) = omega arith in (nth_atom p i, standing_nth p i lt, sym (var_of_nth_atom p i lt))

both_ways : {A B : Type 0} → (A → B) → (B → A) → A ↔ B
both_ways f g = (f, g)

pub are_components : (p : Program) (classes numbers : List ℕ) (count : ℕ) (members : List (List ℕ)) (trivial : List Bool) →
    AreClasses (graph_of p) classes → All (λ n. n ≢ 0) classes → length (atoms_of p) < length classes →
    AreNumbered classes (length (atoms_of p)) numbers count → HasMembers numbers count (length numbers) members →
    trivial ≡ are_trivial (graph_of p) classes members → AreComponents p (record { numbers = numbers; members = members; trivial = trivial })
are_components p classes numbers count members trivial h all_taken room n m t = record {
  numbered = let s = n.size in omega (arith, s);
  counted = ap length t ∙ length-map members (λ row. not (list_any (is_looped (graph_of p) classes) row));
  within = λ a s. let lt = n.within (var_of_atom p a) (atom_positive p a) (place_small a s) in omega (arith, lt, m.size);
  same = λ a b s s'. both_ways (one_class a b s s') (one_number a b s s');
  members = λ k v lt. both_ways (member_is k v lt) (is_member k v lt);
  trivial = λ a s. both_ways (alone a s) (not_looped a s);
}
  where
    place_small : (a : ℕ) → has (atoms_of p) a ≡ true → var_of_atom p a < length numbers
    place_small a s = let small = atom_small p a s in omega (arith, small, n.size)

    taken : (a : ℕ) → has (atoms_of p) a ≡ true → get_or classes (var_of_atom p a) 0 ≢ 0
    taken a s = all_taken (var_of_atom p a) 0 (let small = atom_small p a s in omega (arith, small, room))

    -- the class of the one is that of the other
    joined : (a b : ℕ) → has (atoms_of p) a ≡ true → has (atoms_of p) b ≡ true →
        get_or numbers (var_of_atom p a) 0 ≡ get_or numbers (var_of_atom p b) 0 → AreMutual (graph_of p) (var_of_atom p a) (var_of_atom p b)
    joined a b s s' e =
        h.alone (var_of_atom p a) (var_of_atom p b) (n.apart (var_of_atom p a) (var_of_atom p b) (atom_positive p a) (place_small a s) (atom_positive p b) (place_small b s') e) (taken a s)

    looping : (a b : ℕ) → has (atoms_of p) a ≡ true → has (atoms_of p) b ≡ true → a ≢ b → get_or numbers (var_of_atom p a) 0 ≡ get_or numbers (var_of_atom p b) 0 → IsLoop p a b
    looping a b s s' differ e =
        let pair = joined a b s s' e in (leads_reach p a b s s' differ pair.0, leads_reach p b a s' s (λ z. differ (sym z)) pair.1)

    one_class : (a b : ℕ) → has (atoms_of p) a ≡ true → has (atoms_of p) b ≡ true → get_or numbers (var_of_atom p a) 0 ≡ get_or numbers (var_of_atom p b) 0 → (a ≡ b) ⊎ IsLoop p a b
    one_class a b s s' e = cases (eqb a b) refl
      where
        cases : (x : Bool) → x ≡ eqb a b → (a ≡ b) ⊎ IsLoop p a b
        cases true q = inl (eqb-true a b (sym q))
        cases false q = inr (looping a b s s' (λ z. false≢true (q ∙ eq-eqb a b z)) e)

    one_number : (a b : ℕ) → has (atoms_of p) a ≡ true → has (atoms_of p) b ≡ true → (a ≡ b) ⊎ IsLoop p a b → get_or numbers (var_of_atom p a) 0 ≡ get_or numbers (var_of_atom p b) 0
    one_number a b s s' x = elim x [
      | inl same ↦ ap (λ c. get_or numbers (var_of_atom p c) 0) same
      | inr loop ↦
          let pair : AreMutual (graph_of p) (var_of_atom p a) (var_of_atom p b) = (begins_leads p a b (reach_begins p a b loop.0), begins_leads p b a (reach_begins p b a loop.1)) in
          n.same (var_of_atom p a) (var_of_atom p b) (sym (h.whole (var_of_atom p a) (var_of_atom p b) pair (taken a s))) (place_small a s) (place_small b s')
    ]

    row_has : (k v : ℕ) → k < length members → is_in (get_or members k []) v ≡ (ltb 0 v && (ltb v (length numbers) && eqb (get_or numbers v 0) k))
    row_has k v lt = m.has k v (omega (arith, lt, m.size))

    member_is : (k v : ℕ) → k < length members → is_in (get_or members k []) v ≡ true → IsAtomVar p v × (get_or numbers v 0 ≡ k)
    member_is k v lt e =
        let parts = and_parts (ltb 0 v) (ltb v (length numbers) && eqb (get_or numbers v 0) k) (sym (row_has k v lt) ∙ e) in
        let rest = and_parts (ltb v (length numbers)) (eqb (get_or numbers v 0) k) parts.1 in
        let low = ltb-true 0 v parts.0 in
        let high = ltb-true v (length numbers) rest.0 in
        ((low, (let s = n.size in omega (arith, high, s))), eqb-true (get_or numbers v 0) k rest.1)

    is_member : (k v : ℕ) → k < length members → IsAtomVar p v × (get_or numbers v 0 ≡ k) → is_in (get_or members k []) v ≡ true
    is_member k v lt x =
        row_has k v lt ∙ and_from (ltb 0 v) (ltb v (length numbers) && eqb (get_or numbers v 0) k) (lt-ltb 0 v x.0.0)
        (and_from (ltb v (length numbers)) (eqb (get_or numbers v 0) k)
        (lt-ltb v (length numbers) (let s = n.size in let small = x.0.1 in omega (arith, s, small))) (eq-eqb (get_or numbers v 0) k x.1))

    number_small : (a : ℕ) → has (atoms_of p) a ≡ true → get_or numbers (var_of_atom p a) 0 < length members
    number_small a s = let lt = n.within (var_of_atom p a) (atom_positive p a) (place_small a s) in omega (arith, lt, m.size)

    own_row : (a : ℕ) → has (atoms_of p) a ≡ true → is_in (get_or members (get_or numbers (var_of_atom p a) 0) []) (var_of_atom p a) ≡ true
    own_row a s =
        is_member (get_or numbers (var_of_atom p a) 0) (var_of_atom p a) (number_small a s) ((atom_positive p a, atom_small p a s), refl)

    is_trivial : (a : ℕ) → has (atoms_of p) a ≡ true →
        get_or trivial (get_or numbers (var_of_atom p a) 0) false ≡ not
        (list_any (is_looped (graph_of p) classes) (get_or members (get_or numbers (var_of_atom p a) 0) []))
    is_trivial a s =
        ap (λ ts. get_or ts (get_or numbers (var_of_atom p a) 0) false) t
        ∙ get_or-map (λ row. not (list_any (is_looped (graph_of p) classes) row)) members (get_or numbers (var_of_atom p a) 0) [] false (number_small a s)

    -- a trivial component's atom is alone
    unlooped : (a : ℕ) → has (atoms_of p) a ≡ true → get_or trivial (get_or numbers (var_of_atom p a) 0) false ≡ true → is_looped (graph_of p) classes (var_of_atom p a) ≡ true → ⊥
    unlooped a s e looped =
        let found = any_of (is_looped (graph_of p) classes) (get_or members (get_or numbers (var_of_atom p a) 0) []) (var_of_atom p a) (own_row a s) looped in
        false≢true (sym (ap not found) ∙ sym (is_trivial a s) ∙ e)

    alone : (a : ℕ) → has (atoms_of p) a ≡ true → get_or trivial (get_or numbers (var_of_atom p a) 0) false ≡ true → IsAlone p (record { numbers = numbers; members = members; trivial = trivial }) a
    alone a s e = record {
      only = λ b s' same. only b s' same (eqb b a) refl;
      acyclic = λ path. unlooped a s e (reaches_looped p classes a h (taken a s) path);
    }
      where
        only : (b : ℕ) → has (atoms_of p) b ≡ true → get_or numbers (var_of_atom p b) 0 ≡ get_or numbers (var_of_atom p a) 0 → (x : Bool) → x ≡ eqb b a → b ≡ a
        only b s' same true q = eqb-true b a (sym q)
        only b s' same false q =
            let loop = looping b a s' s (λ z. false≢true (q ∙ eq-eqb b a z)) same in
            absurd (unlooped a s e (reaches_looped p classes a h (taken a s) (reach_on p a b a loop.1 loop.0)))

    -- an atom that is alone has a trivial component
    not_looped : (a : ℕ) → has (atoms_of p) a ≡ true → IsAlone p (record { numbers = numbers; members = members; trivial = trivial }) a →
        get_or trivial (get_or numbers (var_of_atom p a) 0) false ≡ true
    not_looped a s x = is_trivial a s ∙ cases (list_any (is_looped (graph_of p) classes) (get_or members (get_or numbers (var_of_atom p a) 0) [])) refl
      where
        k : ℕ
        k = get_or numbers (var_of_atom p a) 0

        cases : (b : Bool) → b ≡ list_any (is_looped (graph_of p) classes) (get_or members (get_or numbers (var_of_atom p a) 0) []) →
            not (list_any (is_looped (graph_of p) classes) (get_or members (get_or numbers (var_of_atom p a) 0) [])) ≡ true
        cases false q = ap not (sym q)
        cases true q =
            let row : List ℕ = get_or members k [] in
            let found = some (λ v. is_in row v ≡ true) (is_looped (graph_of p) classes) row (each_member row) (sym q) in
            let of_row = member_is k found.0 (number_small a s) found.1 in
            let b = var_atom p found.0 of_row.0.0 of_row.0.1 in
            let same : b.0 ≡ a = x.only b.0 b.1 (ap (λ v. get_or numbers v 0) (sym b.2) ∙ of_row.1) in
            let var_is : found.0 ≡ var_of_atom p a = b.2 ∙ ap (var_of_atom p) same in
            absurd (x.acyclic (looped_reaches p classes a s h (taken a s) (ap (is_looped (graph_of p) classes) (sym var_is) ∙ found.2)))

length-graph_of : (p : Program) → length (graph_of p) ≡ suc (length (atoms_of p) + length (bodies_of p))
length-graph_of p =
    let a = length-append (map (supports p) (atoms_of p)) (map (positives p) (bodies_of p)) in
    let b = length-map (atoms_of p) (supports p) in
    let c = length-map (bodies_of p) (positives p) in
    omega (arith, a, b, c)

pub atoms_within_graph : (p : Program) (g : Graph) (n : ℕ) → g ≡ graph_of p → n ≡ length g → length (atoms_of p) < n
atoms_within_graph p g n is size = let e = length-graph_of p in let f = ap length is in omega (arith, e, f, size)

-- what the search for components comes to
pub components_found : (p : Program) (g : Graph) (classes numbers : List ℕ) (last count : ℕ) (members : List (List ℕ)) (trivial : List Bool) →
    g ≡ graph_of p → last ≡ length (atoms_of p) → AreClasses g classes → length classes ≡ length g → All (λ n. n ≢ 0) classes →
    AreNumbered classes last numbers count → HasMembers numbers count (length numbers) members → trivial ≡ are_trivial g classes members →
    AreComponents p (record { numbers = numbers; members = members; trivial = trivial })
components_found p g classes numbers last count members trivial is atoms h size taken n m t =
    are_components p classes numbers count members trivial (subst (λ (f : Graph). AreClasses f classes) is h) taken (atoms_within_graph p g (length classes) is size)
    (subst (λ (l : ℕ). AreNumbered classes l numbers count) atoms n) m (t ∙ ap (λ f. are_trivial f classes members) is)
