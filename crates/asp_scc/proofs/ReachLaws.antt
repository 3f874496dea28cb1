-- Atoms reach each other exactly where their variables lead to each other.
use Rattle.std.proofs.Common.{◌≡◌, ◌≢◌, ℕ, ◌<◌, ◌≤◌, Bool, true, false, ◌&&◌, ◌||◌, eqb, List, [], ◌∷◌, length, get_or, refl, sym, ap, ◌∙◌, subst, arith, ◌⊎◌, inl, inr}
use Rattle.std.specs.List.{list_any, AllByRecursion}
use Rattle.std.proofs.lemmas.Bool.{false≢true, eqb-true, eq-eqb, and_parts}
use Rattle.asp_model.specs.declared.program.Rule.{Rule}
use Rattle.asp_model.specs.declared.program.Program.{Program}
use Rattle.asp_model.specs.Sets.{has}
use Rattle.asp_model.specs.Models.{rules_in_force, atoms_of, head_atoms}
use Rattle.asp_model.proofs.MemberLaws.{HasAll}
use Rattle.asp_model.proofs.ReductLaws.{rules_in_force-heads}
use Rattle.asp_vars.specs.Numbering.{normal, var_of_atom}
use Rattle.asp_vars.proofs.PlaceLaws.{place_of-within}
use Rattle.asp_vars.proofs.SupportLaws.{some, member, same_atom, in_forms}
use Rattle.asp_scc.specs.Graphs.{Graph, edges, is_in, Leads}
use Rattle.asp_scc.specs.Graphs.Leads.{here, on}
use Rattle.asp_scc.specs.Classes.{AreClasses}
use Rattle.asp_scc.specs.Numbers.{is_looped}
use Rattle.asp_scc.specs.Dependencies.{positive_atoms, depends, Reaches, graph_of}
use Rattle.asp_scc.specs.Dependencies.Reaches.{one, more}
use Rattle.asp_scc.proofs.ClassLaws.{lead_on}
use Rattle.asp_scc.proofs.DependencyLaws.{atom_edges, dependence_edges, edges_dependence}

-- ---- variables
pub atom_small : (p : Program) (a : ℕ) → has (atoms_of p) a ≡ true → var_of_atom p a ≤ length (atoms_of p)
atom_small p a e = let lt = place_of-within (λ b. eqb b a) (atoms_of p) e in omega (arith, lt)

head_stands : (p : Program) (a b : ℕ) → depends p a b ≡ true → has (atoms_of p) a ≡ true
head_stands p a b e =
    let found = some (λ (r : Rule). HasAll (atoms_of p) (head_atoms r.head)) (λ r. has (head_atoms r.head) a && has (positive_atoms (normal r.body)) b) (rules_in_force p) (rules_in_force-heads p) e in
    member (atoms_of p) (head_atoms found.0.head) a found.1 (and_parts (has (head_atoms found.0.head) a) (has (positive_atoms (normal found.0.body)) b) found.2).0

-- ---- from atoms to variables
-- a path of one edge or more
pub record Begins (p : Program) (a b : ℕ) : Type 0 where
  pub via : ℕ
  pub first : is_in (edges (graph_of p) (var_of_atom p a)) via ≡ true
  pub rest : Leads (graph_of p) via (var_of_atom p b)

pub reach_begins : (p : Program) (a b : ℕ) → Reaches p a b → Begins p a b
reach_begins p a b (one e) =
    let between = dependence_edges p a b (head_stands p a b e) e in
    record { via = between.via; first = between.first; rest = on here between.second }
reach_begins p a b (more {b = c} path e) =
    let before = reach_begins p a c path in
    let between = dependence_edges p c b (head_stands p c b e) e in
    record { via = before.via; first = before.first; rest = on (on before.rest between.first) between.second }

pub begins_leads : (p : Program) (a b : ℕ) → Begins p a b → Leads (graph_of p) (var_of_atom p a) (var_of_atom p b)
begins_leads p a b h = lead_on (graph_of p) (var_of_atom p a) h.via (var_of_atom p b) (on here h.first) h.rest

-- ---- from variables to atoms
-- the atom is a, or a reaches it
abbrev pub Within : Program → ℕ → ℕ → Type 0
Within p a c = (a ≡ c) ⊎ Reaches p a c

-- the atom of a variable to which a path leads
pub record AtAtom (p : Program) (a v : ℕ) : Type 0 where
  pub atom : ℕ
  pub stands : has (atoms_of p) atom ≡ true
  pub var : v ≡ var_of_atom p atom
  pub reached : Reaches p a atom

-- the atom before the variable of a body to which a path leads
pub record AtBody (p : Program) (a v : ℕ) : Type 0 where
  pub atom : ℕ
  pub stands : has (atoms_of p) atom ≡ true
  pub within : Within p a atom
  pub edge : is_in (edges (graph_of p) (var_of_atom p atom)) v ≡ true

abbrev pub Arrives : Program → ℕ → ℕ → Type 0
Arrives p a v = AtAtom p a v ⊎ AtBody p a v

arrives_next : (p : Program) (a u v : ℕ) → Arrives p a u → is_in (edges (graph_of p) u) v ≡ true → Arrives p a v
arrives_next p a u v h e = elim h [
  | inl x ↦ inr (record {
    atom = x.atom;
    stands = x.stands;
    within = inr x.reached;
    edge = sym (ap (λ w. is_in (edges (graph_of p) w) v) x.var) ∙ e;
  })
  | inr x ↦
      let next = edges_dependence p x.atom u v x.stands x.edge e in
      inl (record {
        atom = next.atom;
        stands = next.stands;
        var = next.var;
        reached = elim x.within [
          | inl same ↦ one (ap (λ c. depends p c next.atom) same ∙ next.needed)
          | inr path ↦ more path next.needed
        ];
      })
]

arrives_on : (p : Program) (a u v : ℕ) → Arrives p a u → Leads (graph_of p) u v → Arrives p a v
arrives_on p a u v h here = h
arrives_on p a u v h (on path e) = arrives_next p a _ v (arrives_on p a u _ h path) e

form_large : (p : Program) (a v : ℕ) → has (atoms_of p) a ≡ true → is_in (edges (graph_of p) (var_of_atom p a)) v ≡ true → length (atoms_of p) < v
form_large p a v stands e =
    let found = in_forms p a v (sym (ap (λ row. is_in row v) (atom_edges p a stands)) ∙ e) in
    omega (arith, found.2)

pub begins_reach : (p : Program) (a b : ℕ) → has (atoms_of p) a ≡ true → has (atoms_of p) b ≡ true → Begins p a b → Reaches p a b
begins_reach p a b stands stands' h =
    let start : Arrives p a h.via = inr (record { atom = a; stands = stands; within = inl refl; edge = h.first }) in
    elim (arrives_on p a h.via (var_of_atom p b) start h.rest) [
      | inl x ↦ subst (λ (c : ℕ). Reaches p a c) (sym (same_atom p b x.atom stands' x.stands x.var)) x.reached
      | inr x ↦ absurd (large x)
    ]
  where
    large : AtBody p a (var_of_atom p b) → ⊥
    large x = let big = form_large p x.atom (var_of_atom p b) x.stands x.edge in let small = atom_small p b stands' in absurd (omega (arith, big, small))

-- a path is empty or has a first edge
split : (g : Graph) (v w : ℕ) → Leads g v w → (v ≡ w) ⊎ ((x : ℕ) × (is_in (edges g v) x ≡ true) × Leads g x w)
split g v w here = inl refl
split g v w (on {u = u} path e) = elim (split g v u path) [
  | inl same ↦ inr (w, ap (λ x. is_in (edges g x) w) same ∙ e, here)
  | inr h ↦ inr (h.0, h.1, on h.2 e)
]

pub leads_reach : (p : Program) (a b : ℕ) → has (atoms_of p) a ≡ true → has (atoms_of p) b ≡ true → a ≢ b → Leads (graph_of p) (var_of_atom p a) (var_of_atom p b) → Reaches p a b
leads_reach p a b e f differ path = elim (split (graph_of p) (var_of_atom p a) (var_of_atom p b) path) [
  | inl same ↦ absurd (differ (same_atom p a b e f same))
  | inr h ↦ begins_reach p a b e f (record { via = h.0; first = h.1; rest = h.2 })
]

-- ---- loops
pub reach_on : (p : Program) (a b c : ℕ) → Reaches p a b → Reaches p b c → Reaches p a c
reach_on p a b c path (one e) = more path e
reach_on p a b c path (more rest e) = more (reach_on p a b _ path rest) e

pub each_member : (xs : List ℕ) → AllByRecursion (λ x. is_in xs x ≡ true) xs
each_member xs = sub xs xs (λ x e. e)
  where
    sub : (ys zs : List ℕ) → ((x : ℕ) → is_in zs x ≡ true → is_in ys x ≡ true) → AllByRecursion (λ x. is_in ys x ≡ true) zs
    sub ys [] f = tt
    sub ys (z ∷ zs) f = (f z (first (eqb z z) (is_in zs z) (eq-eqb z z refl)), sub ys zs (λ x e. f x (second (eqb z x) (is_in zs x) e)))
      where
        first : (a b : Bool) → a ≡ true → (a || b) ≡ true
        first true b e = refl
        first false b e = absurd (false≢true e)

        second : (a b : Bool) → b ≡ true → (a || b) ≡ true
        second true b e = refl
        second false b e = e

pub any_of : (q : ℕ → Bool) (xs : List ℕ) (x : ℕ) → is_in xs x ≡ true → q x ≡ true → list_any q xs ≡ true
any_of q [] x e f = absurd (false≢true e)
any_of q (y ∷ xs) x e f = cases (eqb y x) refl (any_of q xs x)
  where
    skip : (a b : Bool) → b ≡ true → (a || b) ≡ true
    skip true b e = refl
    skip false b e = e

    cases : (b : Bool) → b ≡ eqb y x → (is_in xs x ≡ true → q x ≡ true → list_any q xs ≡ true) → (q y || list_any q xs) ≡ true
    cases true t later = ap (λ b. b || list_any q xs) (ap q (eqb-true y x (sym t)) ∙ f)
    cases false t later = skip (q y) (list_any q xs) (later (ap (λ b. b || is_in xs x) t ∙ e) f)

pub looped_reaches : (p : Program) (classes : List ℕ) (a : ℕ) → has (atoms_of p) a ≡ true → AreClasses (graph_of p) classes →
    get_or classes (var_of_atom p a) 0 ≢ 0 → is_looped (graph_of p) classes (var_of_atom p a) ≡ true → Reaches p a a
looped_reaches p classes a stands h taken e =
    let v : ℕ = var_of_atom p a in
    let found = some (λ w. is_in (edges (graph_of p) v) w ≡ true) (λ w. eqb (get_or classes w 0) (get_or classes v 0)) (edges (graph_of p) v) (each_member (edges (graph_of p) v)) e in
    let same : get_or classes found.0 0 ≡ get_or classes v 0 = eqb-true (get_or classes found.0 0) (get_or classes v 0) found.2 in
    let back = h.alone v found.0 (sym same) taken in
    begins_reach p a a stands stands (record { via = found.0; first = found.1; rest = back.1 })

pub reaches_looped : (p : Program) (classes : List ℕ) (a : ℕ) → AreClasses (graph_of p) classes → get_or classes (var_of_atom p a) 0 ≢ 0 →
    Reaches p a a → is_looped (graph_of p) classes (var_of_atom p a) ≡ true
reaches_looped p classes a h taken path =
    let v : ℕ = var_of_atom p a in
    let begins = reach_begins p a a path in
    let same : get_or classes begins.via 0 ≡ get_or classes v 0 = h.whole v begins.via (on here begins.first, begins.rest) taken in
    any_of (λ w. eqb (get_or classes w 0) (get_or classes v 0)) (edges (graph_of p) v) begins.via begins.first (eq-eqb (get_or classes begins.via 0) (get_or classes v 0) same)
