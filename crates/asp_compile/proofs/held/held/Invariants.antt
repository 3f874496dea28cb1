use Rattle.std.proofs.Common.{◌≡◌, ◌≤◌, ◌+◌, ◌++◌, map, drop}
use Rattle.asp_compile.specs.Forms.{body_of}
use Rattle.asp_compile.specs.Held.{literals_from, var_behind}
use Rattle.asp_compile.proofs.held.held.Given as goal

abbrev pub invariant-loop-i : goal.invariant-loop-i
invariant-loop-i l = record {
  lits : l.lits.items ++ literals_from l.atoms l.next (map body_of (drop l.i l.forms)) (drop l.i l.names) ≡ literals_from l.atoms l.initial.next (map body_of l.forms) l.names;
  next : var_behind l.next (map body_of (drop l.i l.forms)) (drop l.i l.names) ≡ var_behind l.initial.next (map body_of l.forms) l.names;
  few : l.next ≤ l.initial.next + l.i;
}
