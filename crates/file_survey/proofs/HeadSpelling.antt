-- The name of a head is short, and both versions spell a head in the same bytes.
use Rattle.std.specs.Prelude.{◌≡◌, ℕ, false, List, [], ◌∷◌, ◌++◌, Option, None, Some}
use Rattle.std.specs.List.{AllByRecursion}
use Rattle.std.proofs.Common.{refl, sym, ap, subst, ◌∙◌, append_assoc}
use Rattle.send_model.specs.Attribute.{takes_rest}
use Rattle.send_model.specs.Command.{Command, Subvol, Snapshot, row, kind_of}
use Rattle.send_model.specs.Spelling.{Attribute, attribute_bytes, body_of, attributes_of, frame_of, canonical, stream_header}
use Rattle.send_model.specs.Store.{Key, Head, head_of}
use Rattle.send_model.specs.Composed.{head_command}
use Rattle.send_model.proofs.Sorts.{same_inside}
use Rattle.send_model.proofs.Versions.{not_rest}
use Rattle.send_model.proofs.Attributes.{bytes_by}
use Rattle.send_commands.specs.Writing.{IsWritable}
use Rattle.file_survey.specs.Names.{IsShort}

-- The name of a head that can be written is short.
pub short_name : (version : ℕ) (m : Command) (head : Head) → head_of m ≡ Some head → IsWritable version m → IsShort head.name
unfolding IsWritable row
short_name version (Subvol uuid ctransid path) head e w = subst (λ (h : Head). IsShort h.name) (same_inside e) (w.1.1.0 (not_rest version 15 refl))
short_name version (Snapshot uuid ctransid path clone_uuid clone_ctransid) head e w = subst (λ (h : Head). IsShort h.name) (same_inside e) (w.1.1.0 (not_rest version 15 refl))
short_name version c head e w = cc

-- No attribute takes the rest.
abbrev AreFramed : ℕ → List Attribute → Type 0
AreFramed version attributes = AllByRecursion (λ a. takes_rest version a.kind ≡ false) attributes

body_same : (version : ℕ) (attributes : List Attribute) → AreFramed version attributes → AreFramed 1 attributes → body_of 1 attributes ≡ body_of version attributes
unfolding body_of
body_same version [] v f = refl
body_same version (a ∷ rest) v f =
    let one : attribute_bytes 1 a ≡ attribute_bytes version a = bytes_by 1 a false f.0 ∙ sym (bytes_by version a false v.0) in
    ap (λ (l : List ℕ). l ++ body_of 1 rest) one ∙ ap (λ (l : List ℕ). attribute_bytes version a ++ l) (body_same version rest v.1 f.1)

head_framed : (version : ℕ) (name : List ℕ) (key : Key) (parent : Option Key) → AreFramed version (attributes_of (head_command name key parent))
unfolding attributes_of row
head_framed version name key None = (not_rest version 1 refl, (not_rest version 2 refl, (not_rest version 15 refl, tt)))
head_framed version name key (Some parent) = (not_rest version 1 refl, (not_rest version 2 refl, (not_rest version 15 refl, (not_rest version 20 refl, (not_rest version 21 refl, tt)))))

-- A head has no data, and so it is spelled alike in both versions.
pub head_alike : (version : ℕ) (name : List ℕ) (key : Key) (parent : Option Key) → canonical 1 (head_command name key parent) ≡ canonical version (head_command name key parent)
unfolding canonical
head_alike version name key parent =
    let c : Command = head_command name key parent in
    ap (frame_of (row (kind_of c)).number) (body_same version (attributes_of c) (head_framed version name key parent) (head_framed 1 name key parent))

-- The header, and the head behind it.
pub begins : (version : ℕ) (old mid new header : List ℕ) (made : Command) (name : List ℕ) (key : Key) (parent : Option Key) → new ≡ mid ++ canonical 1 made → mid ≡ old ++ header → header ≡ stream_header version
    → made ≡ head_command name key parent → new ≡ old ++ (stream_header version ++ canonical version (head_command name key parent))
begins version old mid new header made name key parent e front is same =
    e ∙ ap (λ (x : List ℕ). x ++ canonical 1 made) (front ∙ ap (λ (h : List ℕ). old ++ h) is)
    ∙ ap (λ (l : List ℕ). (old ++ stream_header version) ++ l) (ap (canonical 1) same ∙ head_alike version name key parent)
    ∙ append_assoc old (stream_header version) (canonical version (head_command name key parent))
