-- How much memory the answers take that a run holds until its end.
use Rattle.std.specs.Prelude.{ℕ, ◌+◌, ◌*◌, ◌^◌, ◌<◌, nat_lt, Bool, not, ◌&&◌, if◌then◌else◌, List, ◌++◌, codes, decimal, length}
use Rattle.asp_model.specs.declared.program.Program.{Program}
use Rattle.asp_model.specs.declared.results.Mode.{Mode}
use Rattle.asp_model.specs.Models.{atoms_of}
use Rattle.asp_rows.specs.Bits.{word_count}
use Rattle.asp_cli.specs.declared.Options.{Options}
use Rattle.asp_prepare.specs.Meaning.{mode_of}
use Rattle.asp_prepare.specs.Naming.{searched}
use Rattle.asp_top.specs.Notes.{is_list, lists_lines}

-- the bytes of an answer among these atoms: a row of 32, in which two words of 64 bits have room; where they are more, they stand apart
abbrev pub row_bytes : List ℕ → ℕ
row_bytes atoms = if nat_lt 128 (length atoms) then 32 + 8 * word_count atoms else 32

-- Whether answers are held until the end that `--stream` would write sooner: they are listed as lines, and it isn't asked for.
abbrev pub holds : Options → Mode → Bool
holds given mode = not given.stream && (is_list given.all_optima mode && lists_lines given)

-- how many bytes each answer takes that is held so, in a search of this program; 0 where none is
abbrev pub row_in : Options → Program → ℕ
row_in given q = if holds given (mode_of given.mode q) then row_bytes (atoms_of q) else 0

-- the same in a run on this program, of which what is left is searched
abbrev pub row_of : Options → Program → ℕ
row_of given p = row_in given (searched given p)

-- so many answers, each of so many bytes, take more than 1 GB
abbrev pub IsMuch : ℕ → ℕ → Type 0
IsMuch answers row = 2 ^ 30 < answers * row

-- the line that tells so
abbrev pub held_text : ℕ → List ℕ
held_text answers = codes "aspenum: " ++ decimal answers ++ codes " answers held until the end take more than 1 GB; --stream writes each as soon as it can\n"
