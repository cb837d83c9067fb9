-- Files in memory as a map from names to bytes.
use Rattle.std.specs.Prelude.{ℕ, List, map}
use Rattle.std.specs.String.{string_bytes}
use Rattle.sx_base.specs.declared.stored.StoredFile.{StoredFile}

abbrev pub named_bytes : StoredFile → List ℕ × List ℕ
named_bytes file = (string_bytes file.name, file.bytes.items)

abbrev pub as_files : List StoredFile → List (List ℕ × List ℕ)
as_files files = map named_bytes files
