-- What an iterator over fields still gives.
use Rattle.std.specs.Prelude.{ℕ, List}
use Rattle.asp_text.specs.Fields.{fields_of}
use Rattle.asp_text.specs.declared.split.LineFields.{LineFields}

abbrev pub fields_left : LineFields → List (List ℕ)
fields_left s = fields_of s.rest.now
