-- What helps with an option that isn't there.
use Rattle.std.specs.Prelude.{ℕ, Bool, true, false, ◌&&◌, ◌||◌, ◌==◌, nat_le, List, [], ◌∷◌, length, Option, Some, None, codes, if◌then◌else◌}
use Rattle.std.specs.Str.{bytes_eq}
use Rattle.asp_cli.specs.Names.{text_of}
use Rattle.asp_cli.specs.declared.names.Name.TheVariants.{Mode, Format, Models, OptAll, Workers, Log, Budget, Output, Quiet, Names, Proof, Split, Make, Stats, Progress, Stream}

-- what is here for an option of clasp's
abbrev pub counterpart : List ℕ → Option (List ℕ)
counterpart w = if bytes_eq w (codes "--time-limit") then Some (codes "--budget counts conflicts")
    else (if bytes_eq w (codes "--solve-limit") then Some (codes "--budget counts conflicts")
    else (if bytes_eq w (codes "--opt-mode") then Some (codes "--opt-mode=ignore, =opt or =optN")
    else (if bytes_eq w (codes "--enum-mode") then Some (codes "--mode brave or --mode cautious")
    else (if bytes_eq w (codes "--parallel-mode") then Some (codes "--workers N for N threads")
    else (if bytes_eq w (codes "--outf") then Some (codes "--outf=0 or =2")
    else (if bytes_eq w (codes "-V") then Some (codes "--stats and --progress tell of a run")
    else (if bytes_eq w (codes "--verbose") then Some (codes "--stats and --progress tell of a run")
    else (if bytes_eq w (codes "-v") then Some (codes "--version")
    else (if bytes_eq w (codes "--project") then Some (codes "there is no projection")
    else (if bytes_eq w (codes "--configuration") then Some (codes "the search has no settings")
    else (if bytes_eq w (codes "--heuristic") then Some (codes "the search has no settings") else None)))))))))))

-- whether the texts are the same
abbrev pub is_same : List ℕ → List ℕ → Bool
is_same [] ys = length ys == 0
is_same (x ∷ xs) [] = false
is_same (x ∷ xs) (y ∷ ys) = x == y && is_same xs ys

-- whether at most one byte is too many, is missing or is another
abbrev pub is_one_off : List ℕ → List ℕ → Bool
is_one_off [] ys = nat_le (length ys) 1
is_one_off (x ∷ xs) [] = nat_le (length (x ∷ xs)) 1
is_one_off (x ∷ xs) (y ∷ ys) = if x == y then is_one_off xs ys else is_same xs (y ∷ ys) || (is_same (x ∷ xs) ys || is_same xs ys)

-- whether at most two are
abbrev pub is_two_off : List ℕ → List ℕ → Bool
is_two_off [] ys = nat_le (length ys) 2
is_two_off (x ∷ xs) [] = nat_le (length (x ∷ xs)) 2
is_two_off (x ∷ xs) (y ∷ ys) = if x == y then is_two_off xs ys else is_one_off xs (y ∷ ys) || (is_one_off (x ∷ xs) ys || is_one_off xs ys)

-- where it is strict at most one, else at most two
abbrev pub is_near : Bool → List ℕ → List ℕ → Bool
is_near strict w name = if strict then is_one_off w name else is_two_off w name

-- the first of the options, help and the version that is near
abbrev pub first_near : Bool → List ℕ → Option (List ℕ)
first_near strict w = if is_near strict w (text_of Mode) then Some (text_of Mode)
    else (if is_near strict w (text_of Format) then Some (text_of Format)
    else (if is_near strict w (text_of Models) then Some (text_of Models)
    else (if is_near strict w (text_of OptAll) then Some (text_of OptAll)
    else (if is_near strict w (text_of Workers) then Some (text_of Workers)
    else (if is_near strict w (text_of Log) then Some (text_of Log)
    else (if is_near strict w (text_of Budget) then Some (text_of Budget)
    else (if is_near strict w (text_of Output) then Some (text_of Output)
    else (if is_near strict w (text_of Quiet) then Some (text_of Quiet)
    else (if is_near strict w (text_of Names) then Some (text_of Names)
    else (if is_near strict w (text_of Proof) then Some (text_of Proof)
    else (if is_near strict w (text_of Split) then Some (text_of Split)
    else (if is_near strict w (text_of Make) then Some (text_of Make)
    else (if is_near strict w (text_of Stats) then Some (text_of Stats)
    else (if is_near strict w (text_of Progress) then Some (text_of Progress)
    else (if is_near strict w (text_of Stream) then Some (text_of Stream)
    else (if is_near strict w (codes "--help") then Some (codes "--help")
    else (if is_near strict w (codes "--version") then Some (codes "--version") else None)))))))))))))))))

abbrev pub first_of : Option (List ℕ) → Option (List ℕ) → Option (List ℕ)
first_of (Some name) other = Some name
first_of None other = other

-- the name that is nearest, one that is two off at most
abbrev pub nearest : List ℕ → Option (List ℕ)
nearest w = first_of (first_near true w) (first_near false w)
