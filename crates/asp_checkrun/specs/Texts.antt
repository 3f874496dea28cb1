-- The texts of help, of the version and of how the program is called.
use Rattle.std.specs.Prelude.{ℕ, List, ◌++◌, codes}

abbrev pub usage_line : List ℕ
usage_line = codes "usage: aspcheck [--format aspif|smodels] < INPUT\n"

-- the program's name and version
abbrev pub version_line : List ℕ
version_line = codes "aspcheck 0.1.0\n"

-- the page of help
unfoldable pub help_page : List ℕ
help_page = codes "aspcheck: whether a proof shows the results of a ground logic program\n"
    ++ codes "\n"
    ++ codes "usage: aspcheck [--format aspif|smodels] < INPUT\n"
    ++ codes "       aspcheck --help | --version\n"
    ++ codes "\n"
    ++ codes "INPUT has two parts: a program, each of its lines with a line feed, and then a\n"
    ++ codes "proof, whose first line is 'proof 3' and which aspenum --proof writes.\n"
    ++ codes "\n"
    ++ codes "Options:\n"
    ++ codes "  --format FORMAT   the program's format: aspif, the default, or smodels\n"
    ++ codes "  -h, --help        write this page\n"
    ++ codes "  --version         write the version\n"
    ++ codes "\n"
    ++ codes "It writes YES; or PART and the number of answers, if the proof tells that there\n"
    ++ codes "may be others; or NO, the number of the reason and that of the proof's line.\n"
    ++ codes "Standard error says why in words.\n"
    ++ codes "\n"
    ++ codes "Exit status:\n"
    ++ codes "   0  the proof is right, or help or the version was written\n"
    ++ codes "   1  the proof isn't right              66  reading failed\n"
    ++ codes "   2  it is right, but lists a part      67  the input is too long\n"
    ++ codes "  33  memory ran out                     68  there is no proof, or it is refused\n"
    ++ codes "  64  the arguments are wrong            74  writing failed\n"
    ++ codes "  65  the program is refused\n"
    ++ codes "\n"
    ++ codes "Example:\n"
    ++ codes "  aspenum --proof < program.aspif | cat program.aspif - | aspcheck\n"
    ++ codes "\n"
    ++ codes "The manual is aspcheck(1).\n"
