use Rattle.std.proofs.Common.{◌≡◌, ◌++◌, vec_len}
use Rattle.asp_parts.specs.Courses.{IsCourse, MakesUp}
use Rattle.asp_parts.specs.Parts.{sets_back}
use Rattle.asp_parts.proofs.course.tell_all.Given as goal

abbrev pub invariant-parts : goal.invariant-parts
invariant-parts g l = record {
  course : IsCourse (g.R.Reader.heard l.reader) l.course;
  told : MakesUp l.compiled (g.R.Reader.heard l.initial.reader ++ sets_back l.compiled l.initial.parts.items) (g.R.Reader.heard l.reader) l.parts.items;
  program : g.R.Reader.program l.reader ≡ l.compiled;
  all : g.R.Reader.all l.reader ≡ g.R.Reader.all l.initial.reader;
  after : g.R.Reader.IsAfter l.initial.reader l.reader;
}

abbrev pub decreases-parts : goal.decreases-parts
decreases-parts g l = vec_len l.parts
