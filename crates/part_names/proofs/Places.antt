-- What is said in front of a file, by its place; the CTRANSID that is meant, as a loop looks for
-- it; and commands that can be written.
use Rattle.std.specs.Prelude.{◌≡◌, ◌≤◌, ◌<◌, ℕ, ◌+◌, ◌-◌, ◌==◌, Bool, true, false, ◌&&◌, ◌||◌, List, [], ◌∷◌, map, drop, length, get_or, slice_index_or, Option, None, Some, IfSome, is_none, if◌then◌else◌}
use Rattle.std.proofs.Common.{refl, sym, ap, suc, ◌∙◌, arith, drop-cons, add-one}
use Rattle.std.specs.Str.{bytes_eq}
use Rattle.std.proofs.lemmas.List.{drop_all, get_or-map, length-map}
use Rattle.send_model.specs.Outside.{is_among}
use Rattle.std.proofs.lemmas.Bool.{eqb-true, eqb-false}
use Rattle.send_model.specs.Command.{Command, Subvol, Snapshot, Clone, row}
use Rattle.send_model.specs.Laws.{CanWrite}
use Rattle.send_model.specs.Store.{Key}
use Rattle.send_model.specs.Overridden.{Override, no_override, says_nothing, Overrides, override_from, override_for, with_name, with_parents, command_named, command_as, meant_ctransid, uuids_of, IsNewName, IsLawfulOverride}
use Rattle.send_model.proofs.Overriding.{lawful_fits, spellable_as, with_none}
use Rattle.send_commands.specs.Writing.{IsWritable}
use Rattle.part_names.specs.Overriding.{IsShort, name_or}

-- ---- by places

-- No file has a number below that of the first, or behind that of the last.
before_first : (number : ℕ) (overrides : Overrides) (file : ℕ) → file < number → override_from number overrides file ≡ no_override
before_first number [] file less = refl
before_first number (o ∷ overrides) file less = one (number == file) refl (before_first (number + 1) overrides file (omega (arith, less)))
  where
    one : (b : Bool) → (number == file) ≡ b → override_from (number + 1) overrides file ≡ no_override → (if b then o else override_from (number + 1) overrides file) ≡ no_override
    one true e more = absurd (omega (arith, eqb-true number file e, less))
    one false e more = more

behind_last : (number : ℕ) (overrides : Overrides) (file : ℕ) → number + length overrides ≤ file → override_from number overrides file ≡ no_override
behind_last number [] file less = refl
behind_last number (o ∷ overrides) file less = one (number == file) refl (behind_last (number + 1) overrides file (omega (arith, less)))
  where
    one : (b : Bool) → (number == file) ≡ b → override_from (number + 1) overrides file ≡ no_override → (if b then o else override_from (number + 1) overrides file) ≡ no_override
    one true e more = absurd (omega (arith, eqb-true number file e, less))
    one false e more = more

pub no_first : (overrides : Overrides) (file : ℕ) → file ≡ 0 → no_override ≡ override_for overrides file
no_first overrides file none = sym (before_first 1 overrides file (omega (arith, none)))

pub no_last : (overrides : Overrides) (file : ℕ) → length overrides < file → no_override ≡ override_for overrides file
no_last overrides file past = sym (behind_last 1 overrides file (omega (arith, past)))

from_place : (number : ℕ) (overrides : Overrides) (file : ℕ) → number ≤ file → override_from number overrides file ≡ get_or overrides (file - number) no_override
from_place number [] file within = refl
from_place number (o ∷ overrides) file within = one (number == file) refl (λ less. from_place (number + 1) overrides file less)
  where
    one : (b : Bool) → (number == file) ≡ b → (number + 1 ≤ file → override_from (number + 1) overrides file ≡ get_or overrides (file - (number + 1)) no_override)
        → (if b then o else override_from (number + 1) overrides file) ≡ get_or (o ∷ overrides) (file - number) no_override
    one true e more = let none : 0 ≡ file - number = omega (arith, eqb-true number file e) in ap (λ (n : ℕ). get_or (o ∷ overrides) n no_override) none
    one false e more =
        let less : number + 1 ≤ file = omega (arith, eqb-false number file e, within) in
        let next : suc (file - (number + 1)) ≡ file - number = omega (arith, less) in
        more less ∙ ap (λ (n : ℕ). get_or (o ∷ overrides) n no_override) next

pub at_place : (overrides : Overrides) (file : ℕ) → 1 ≤ file → override_for overrides file ≡ get_or overrides (file - 1) no_override
at_place overrides file some = from_place 1 overrides file some

-- ---- keys, as a loop looks for one

-- Elements seen as keys, of which one stands at a place.
pub key_there : {S : Type 0} (key : S → Key) (all : List S) (place : ℕ) (x : S) → place < length all → x ≡ slice_index_or all place x → drop place (map key all) ≡ key x ∷ drop (place + 1) (map key all)
key_there key all place x less is =
    drop-cons (map key all) place (key x) (omega (arith, less, length-map all key))
    ∙ ap (λ (k : Key). k ∷ drop (suc place) (map key all)) (get_or-map key all place x (key x) less ∙ ap key (sym is))
    ∙ ap (λ (n : ℕ). key x ∷ drop n (map key all)) (sym (add-one place))

pub none_left : {S : Type 0} (key : S → Key) (all : List S) (place : ℕ) → length all ≤ place → drop place (map key all) ≡ []
none_left key all place past = drop_all place (map key all) (omega (arith, past, length-map all key))

-- None of the keys in front of a place has this UUID.
pub record IsSought (keys : List Key) (uuid : List ℕ) (place : ℕ) : Type 0 where
  pub meant : (own : ℕ) → meant_ctransid (drop place keys) uuid own ≡ meant_ctransid keys uuid own
  pub among : is_among (uuids_of (drop place keys)) uuid ≡ is_among (uuids_of keys) uuid

pub starts : (keys : List Key) (uuid : List ℕ) → IsSought keys uuid 0
starts keys uuid = record { meant = λ own. refl; among = refl }

pub goes_on : (keys : List Key) (uuid : List ℕ) (place : ℕ) (key : Key) → drop place keys ≡ key ∷ drop (place + 1) keys → bytes_eq key.uuid uuid ≡ false → IsSought keys uuid place → IsSought keys uuid (place + 1)
goes_on keys uuid place key here other s =
    let rest : List Key = drop (place + 1) keys in
    record {
      meant = λ own. sym (ap (λ (ks : List Key). meant_ctransid ks uuid own) here ∙ ap (λ (b : Bool). if b then key.ctransid else meant_ctransid rest uuid own) other) ∙ s.meant own;
      among = sym (ap (λ (ks : List Key). is_among (uuids_of ks) uuid) here ∙ ap (λ (b : Bool). b || is_among (uuids_of rest) uuid) other) ∙ s.among;
    }

pub meant_here : (keys : List Key) (uuid : List ℕ) (place own : ℕ) (key : Key) → drop place keys ≡ key ∷ drop (place + 1) keys → bytes_eq key.uuid uuid ≡ true → IsSought keys uuid place
    → key.ctransid ≡ meant_ctransid keys uuid own
meant_here keys uuid place own key here same s =
    let rest : List Key = drop (place + 1) keys in
    sym (ap (λ (ks : List Key). meant_ctransid ks uuid own) here ∙ ap (λ (b : Bool). if b then key.ctransid else meant_ctransid rest uuid own) same) ∙ s.meant own

pub among_here : (keys : List Key) (uuid : List ℕ) (place : ℕ) (key : Key) → drop place keys ≡ key ∷ drop (place + 1) keys → bytes_eq key.uuid uuid ≡ true → IsSought keys uuid place
    → true ≡ is_among (uuids_of keys) uuid
among_here keys uuid place key here same s =
    let rest : List Key = drop (place + 1) keys in
    sym (ap (λ (ks : List Key). is_among (uuids_of ks) uuid) here ∙ ap (λ (b : Bool). b || is_among (uuids_of rest) uuid) same) ∙ s.among

pub meant_nowhere : (keys : List Key) (uuid : List ℕ) (place own : ℕ) → drop place keys ≡ [] → IsSought keys uuid place → own ≡ meant_ctransid keys uuid own
meant_nowhere keys uuid place own none s = sym (ap (λ (ks : List Key). meant_ctransid ks uuid own) none) ∙ s.meant own

pub among_nowhere : (keys : List Key) (uuid : List ℕ) (place : ℕ) → drop place keys ≡ [] → IsSought keys uuid place → false ≡ is_among (uuids_of keys) uuid
among_nowhere keys uuid place none s = sym (ap (λ (ks : List Key). is_among (uuids_of ks) uuid) none) ∙ s.among

-- ---- commands as they are meant

pub subvol_is : (o : Override) (uuid : List ℕ) (ctransid : ℕ) (path : List ℕ) → Subvol uuid ctransid (name_or o path) ≡ command_as o (Subvol uuid ctransid path)
subvol_is o uuid ctransid path = one o.name
  where
    one : (name : Option (List ℕ)) → Subvol uuid ctransid (elim name [ None ↦ path | Some new ↦ new ]) ≡ with_parents o.parents (command_named name (Subvol uuid ctransid path))
    one None = refl
    one (Some new) = refl

pub snapshot_is : (o : Override) (uuid : List ℕ) (ctransid : ℕ) (path clone_uuid : List ℕ) (clone_ctransid : ℕ)
    → Snapshot uuid ctransid (name_or o path) clone_uuid (meant_ctransid o.parents clone_uuid clone_ctransid) ≡ command_as o (Snapshot uuid ctransid path clone_uuid clone_ctransid)
snapshot_is o uuid ctransid path clone_uuid clone_ctransid = one o.name
  where
    one : (name : Option (List ℕ)) → Snapshot uuid ctransid (elim name [ None ↦ path | Some new ↦ new ]) clone_uuid (meant_ctransid o.parents clone_uuid clone_ctransid)
        ≡ with_parents o.parents (command_named name (Snapshot uuid ctransid path clone_uuid clone_ctransid))
    one None = refl
    one (Some new) = refl

pub clone_is : (o : Override) (path : List ℕ) (offset : ℕ) (clone_uuid : List ℕ) (clone_ctransid : ℕ) (clone_path : List ℕ) (clone_offset clone_len : ℕ)
    → Clone path offset clone_uuid (meant_ctransid o.parents clone_uuid clone_ctransid) clone_path clone_offset clone_len
    ≡ command_as o (Clone path offset clone_uuid clone_ctransid clone_path clone_offset clone_len)
clone_is o path offset clone_uuid clone_ctransid clone_path clone_offset clone_len = one o.name
  where
    one : (name : Option (List ℕ)) → Clone path offset clone_uuid (meant_ctransid o.parents clone_uuid clone_ctransid) clone_path clone_offset clone_len
        ≡ with_parents o.parents (command_named name (Clone path offset clone_uuid clone_ctransid clone_path clone_offset clone_len))
    one None = refl
    one (Some new) = refl

-- Where nothing is said, a command is as it was.
pub unsaid : (o : Override) (c : Command) → says_nothing o ≡ true → c ≡ command_as o c
unsaid o c none = one o.name o.parents none
  where
    one : (name : Option (List ℕ)) (parents : List Key) → (is_none name && (length parents == 0)) ≡ true → c ≡ with_parents parents (command_named name c)
    one None [] e = sym (with_none c)
    one None (key ∷ keys) e = absurd (omega (arith, eqb-true (length (key ∷ keys)) 0 e))
    one (Some name) keys e = cc

-- ---- commands that can be written

name_writable : (version : ℕ) (name : List ℕ) (c : Command) → IsShort name → IsWritable version c → IsWritable version (with_name name c)
unfolding IsWritable row
name_writable version name (Subvol uuid ctransid path) short w = (w.0, (w.1.0, ((λ e. short), tt)))
name_writable version name (Snapshot uuid ctransid path clone_uuid clone_ctransid) short w = (w.0, (w.1.0, ((λ e. short), w.1.1.1)))
name_writable version name c short w = w

parents_writable : (version : ℕ) (keys : List Key) (c : Command) → IsWritable version c → IsWritable version (with_parents keys c)
unfolding IsWritable row
parents_writable version keys (Snapshot uuid ctransid path clone_uuid clone_ctransid) w = w
parents_writable version keys (Clone path offset clone_uuid clone_ctransid clone_path clone_offset clone_len) w = w
parents_writable version keys c w = w

-- A command has as many short values with what is said.
pub writable_as : (version : ℕ) (o : Override) (c : Command) → IsLawfulOverride o → IsWritable version c → IsWritable version (command_as o c)
writable_as version o c lawful w = parents_writable version o.parents (command_named o.name c) (named o.name lawful.name)
  where
    named : (name : Option (List ℕ)) → IfSome name IsNewName → IsWritable version (command_named name c)
    named None fits = w
    named (Some name) fits = name_writable version name c fits.short w

-- And what a version can say, it can say with what is said.
pub can_write_as : (version : ℕ) (o : Override) (c : Command) → IsLawfulOverride o → CanWrite version c → CanWrite version (command_as o c)
can_write_as version o c lawful w = record { spellable = spellable_as version o c (lawful_fits o c lawful) w.spellable }
