-- What the files that are left give, as a loop looks for a name.
use Rattle.std.proofs.Common.{◌≡◌, ℕ, ◌+◌, ◌<◌, ◌≤◌, List, [], ◌∷◌, length, drop, ap, sym, ◌∙◌, add-one, drop-cons, Bool, true, false, if◌then◌else◌}
use Rattle.std.proofs.lemmas.List.{drop_all}
use Rattle.std.specs.Prelude.{slice_index_or, bytes_eq}
use Rattle.std.specs.String.{string_bytes}
use Rattle.sx_base.specs.Outside.{file_at}
use Rattle.sx_base.specs.Stored.{as_files}
use Rattle.sx_base.specs.declared.stored.StoredFile.{StoredFile}

file_here : (files : List StoredFile) (i : ℕ) (name : List ℕ) (file : StoredFile) (same : Bool)
    → i < length files → file ≡ slice_index_or files i file → bytes_eq (string_bytes file.name) name ≡ same
    → file_at (as_files (drop i files)) name ≡ (if same then file.bytes.items else file_at (as_files (drop (i + 1) files)) name)
unfolding file_at
file_here files i name file same less is test =
    let rest = drop (i + 1) files in
    let e : drop i files ≡ slice_index_or files i file ∷ rest = rw (add-one, drop-cons files i file) in
    let here : drop i files ≡ file ∷ rest = e ∙ ap (λ (f : StoredFile). f ∷ rest) (sym is) in
    ap (λ (l : List StoredFile). file_at (as_files l) name) here
    ∙ ap (λ (b : Bool). if b then file.bytes.items else file_at (as_files rest) name) test

pub file_found : (files : List StoredFile) (i : ℕ) (name : List ℕ) (file : StoredFile)
    → i < length files → file ≡ slice_index_or files i file → bytes_eq (string_bytes file.name) name ≡ true
    → file_at (as_files (drop i files)) name ≡ file.bytes.items
file_found files i name file less is test = file_here files i name file true less is test

pub file_passed : (files : List StoredFile) (i : ℕ) (name : List ℕ) (file : StoredFile)
    → i < length files → file ≡ slice_index_or files i file → bytes_eq (string_bytes file.name) name ≡ false
    → file_at (as_files (drop i files)) name ≡ file_at (as_files (drop (i + 1) files)) name
file_passed files i name file less is test = file_here files i name file false less is test

pub no_file : (files : List StoredFile) (i : ℕ) (name : List ℕ) → length files ≤ i → file_at (as_files (drop i files)) name ≡ []
unfolding file_at
no_file files i name past = ap (λ (l : List StoredFile). file_at (as_files l) name) (drop_all i files past)
