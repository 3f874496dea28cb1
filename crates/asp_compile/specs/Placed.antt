-- A map from the keys of bodies to their places.
use Rattle.std.specs.Prelude.{◌≡◌, ℕ, Bool, ℤ, List, map, Option, Some, None, if◌then◌else◌, Vec}
use Rattle.std.specs.List.{list_any}
use Rattle.std.specs.Ordering.{int_eq}
use Rattle.std.specs.Cmp.Lexicographic.{pointwise}
use Rattle.std.specs.Global.{Global}
use Rattle.std.specs.HashMap.{get}
use Rattle.asp_model.specs.declared.program.Body.{Body}
use Rattle.asp_compile.specs.declared.bodies.Bodies.TheInside.{Inside}
use Rattle.asp_vars.specs.Numbering.{place_of}
use Rattle.asp_compile.specs.Forms.{body_of, key_of}

-- whether the body has this key
abbrev pub has_key : List ℤ → Body → Bool
has_key key b = pointwise int_eq key (key_of b)

-- the place of the first body that has the key
abbrev pub place_by : List ℤ → List Body → Option ℕ
place_by key bodies = if list_any (has_key key) bodies then Some (place_of (has_key key) bodies) else None

-- Each key leads to the place of its body.
abbrev pub IsPlaced : Inside → Type 0
IsPlaced b = (q : Vec ℤ Global) → get (λ x y. pointwise int_eq x.items y.items) b.places q ≡ place_by q.items (map body_of b.forms.items)
