-- The receivable spelling spells its command, and an exported file is read as the same commands in
-- the same streams.
use Rattle.std.specs.Prelude.{◌≡◌, ◌≢◌, ℕ, zero, suc, ◌+◌, ◌-◌, ◌==◌, ◌<◌, ◌≤◌, Bool, true, false, List, [], ◌∷◌, ◌++◌, map, length, drop, None, Some, Result, Ok, Err, if◌then◌else◌}
use Rattle.std.specs.List.{AllByRecursion}
use Rattle.std.specs.Int.{w32, w64, to_le_bytes}
use Rattle.std.proofs.Common.{refl, sym, ap, subst, ◌∙◌, arith, length-append, lit<, lit≤, le_trans}
use Rattle.std.proofs.lemmas.Bool.{true≢false}
use Rattle.send_model.specs.Refusal.{Refusal}
use Rattle.send_model.specs.Attribute.{INO, CTIME, Moment, field_bytes, IsBytes, DATA, is_one_of, last_attribute}
use Rattle.send_model.specs.Command.{Command, Subvol, Snapshot, MkFile, MkDir, MkNod, MkFifo, MkSock, Symlink, Rename, Link, Unlink, Rmdir, SetXattr, RemoveXattr, Write, Clone, Truncate, Chmod, Chown, Utimes, End, UpdateExtent, Fallocate, FileAttr, row, kind_of, fields_of}
use Rattle.send_model.specs.Spelling.{Attribute, value_of, attribute_bytes, body_of, greatest_body, stream_header, attributes_of, IsSpellable, Spells, frame_of, canonical}
use Rattle.send_model.specs.Reading.{Item, Reading, Ending, Whole, Faulty, Due, HeaderDue, CommandDue, due_after, may_end, with_item, go_on, ended, is_version, front_of, data_place, stream_version, header_len, reads_from, reads, joined, input_from, input}
use Rattle.send_model.specs.Counts.{is_end}
use Rattle.send_model.specs.Laws.{CanWrite}
use Rattle.send_model.proofs.Attributes.{differ_back}
use Rattle.send_model.proofs.Versions.{not_rest}
use Rattle.send_model.proofs.Canonical.{wanted_there, bytes_append, le4_bytes, le8_bytes, rooms, attribute_len, body_len, fields_first, attributes_lawful, canonical_spells, spelled_front, spelled_spellable}
use Rattle.send_model.proofs.Sound.{bytes_drop}
use Rattle.send_model.proofs.Streams.{header_length, header_read, after_header}
use Rattle.send_model.proofs.ReadSpelled.{read_was_spelled}
use Rattle.send_model.proofs.ReadCommands.{IsReadable, DueIsRead, due_is_read, header_version}
use Rattle.send_model.proofs.ElementLaws.{all_rest}
use Rattle.send_model.specs.Receivable.{number_zero, receivable_attributes, receivable, exported_from, said, ReceivableSpells, ReceivableRises}

pub receivable_rises : ReceivableRises
unfolding receivable_attributes attributes_of row
receivable_rises (Subvol uuid ctransid path) = refl
receivable_rises (Snapshot uuid ctransid path clone_uuid clone_ctransid) = refl
receivable_rises (MkFile path) = refl
receivable_rises (MkDir path) = refl
receivable_rises (MkNod mode rdev path) = refl
receivable_rises (MkFifo path) = refl
receivable_rises (MkSock path) = refl
receivable_rises (Symlink path path_link) = refl
receivable_rises (Rename path path_to) = refl
receivable_rises (Link path path_link) = refl
receivable_rises (Unlink path) = refl
receivable_rises (Rmdir path) = refl
receivable_rises (SetXattr name value path) = refl
receivable_rises (RemoveXattr name path) = refl
receivable_rises (Write path offset bytes) = refl
receivable_rises (Clone path offset clone_uuid clone_ctransid clone_path clone_offset clone_len) = refl
receivable_rises (Truncate size path) = refl
receivable_rises (Chmod mode path) = refl
receivable_rises (Chown uid gid path) = refl
receivable_rises (Utimes mtime atime path) = refl
receivable_rises End = refl
receivable_rises (UpdateExtent size path offset) = refl
receivable_rises (Fallocate size path offset mode) = refl
receivable_rises (FileAttr path flags) = refl

-- ---- one attribute more

-- An attribute in front of others hides none of another number.
behind : (x : Attribute) (attributes wanted : List Attribute) → value_of x.kind wanted ≡ None → AllByRecursion (λ (a : Attribute). value_of a.kind attributes ≡ Some a.bytes) wanted
    → AllByRecursion (λ (a : Attribute). value_of a.kind (x ∷ attributes) ≡ Some a.bytes) wanted
behind x attributes [] none are = tt
behind x attributes (w ∷ wanted) none are = one (λ n. behind x attributes wanted n are.1) (w.kind == x.kind) refl none
  where
    one : (value_of x.kind wanted ≡ None → AllByRecursion (λ (a : Attribute). value_of a.kind (x ∷ attributes) ≡ Some a.bytes) wanted)
        → (b : Bool) → (w.kind == x.kind) ≡ b → (if b then Some w.bytes else value_of x.kind wanted) ≡ None → AllByRecursion (λ (a : Attribute). value_of a.kind (x ∷ attributes) ≡ Some a.bytes) (w ∷ wanted)
    one more true e n = cc
    one more false e n = (rw (differ_back w.kind x.kind e) are.0, more n)

-- A command's attributes with one more in front, of a number that it does not want.
with_one : (version : ℕ) (c : Command) (x : Attribute) → IsSpellable version c → is_one_of DATA (row (kind_of c)).wanted ≡ false → (0 < x.kind) × (x.kind ≤ 24) → (x.kind == DATA) ≡ false → IsBytes x.bytes → length x.bytes ≤ 12
    → value_of x.kind (attributes_of c) ≡ None → 16 + rooms (fields_of c) ≤ greatest_body → Spells version (frame_of (row (kind_of c)).number (body_of version (x ∷ attributes_of c))) c
unfolding body_of attributes_of
with_one version c x s no_data known other bytes short none room =
    let fits = fields_first version (row (kind_of c)).wanted (fields_of c) no_data s.values in
    let own = attribute_len version x in
    let all = body_len version (row (kind_of c)).wanted (fields_of c) fits in
    record {
      known = s.known;
      attributes = x ∷ attributes_of c;
      lawful = (record { known = (known.0, le_trans known.1 (last_is version)); short = λ e. omega (arith, short); bytes = bytes }, none, λ e. absurd (true≢false (sym e ∙ not_rest version x.kind other)), attributes_lawful version c s.known s.values);
      frame = refl;
      short = omega (arith, own, all, short, room, length-append (attribute_bytes version x) (body_of version (attributes_of c)));
      wanted = behind x (attributes_of c) (attributes_of c) none (wanted_there c);
      values = s.values;
    }
  where
    last_is : (v : ℕ) → 24 ≤ last_attribute v
    last_is v = one (v == 1)
      where
        one : (b : Bool) → 24 ≤ (if b then 24 else 31)
        one true = lit≤ tt
        one false = lit≤ tt

with_number : (version : ℕ) (c : Command) → IsSpellable version c → is_one_of DATA (row (kind_of c)).wanted ≡ false → value_of INO (attributes_of c) ≡ None → 16 + rooms (fields_of c) ≤ greatest_body
    → Spells version (frame_of (row (kind_of c)).number (body_of version (number_zero ∷ attributes_of c))) c
with_number version c s no_data none room = with_one version c number_zero s no_data (lit< tt, lit≤ tt) refl (le8_bytes 0) (lit≤ tt) none room

pub receivable_spells : ReceivableSpells
unfolding receivable receivable_attributes canonical attributes_of row
receivable_spells version (Subvol uuid ctransid path) s = canonical_spells version (Subvol uuid ctransid path) s
receivable_spells version (Snapshot uuid ctransid path clone_uuid clone_ctransid) s = canonical_spells version (Snapshot uuid ctransid path clone_uuid clone_ctransid) s
receivable_spells version (MkFile path) s = with_number version (MkFile path) s refl refl (lit≤ tt)
receivable_spells version (MkDir path) s = with_number version (MkDir path) s refl refl (lit≤ tt)
receivable_spells version (MkNod mode rdev path) s = with_number version (MkNod mode rdev path) s refl refl (lit≤ tt)
receivable_spells version (MkFifo path) s = with_number version (MkFifo path) s refl refl (lit≤ tt)
receivable_spells version (MkSock path) s = with_number version (MkSock path) s refl refl (lit≤ tt)
receivable_spells version (Symlink path path_link) s = with_number version (Symlink path path_link) s refl refl (lit≤ tt)
receivable_spells version (Rename path path_to) s = canonical_spells version (Rename path path_to) s
receivable_spells version (Link path path_link) s = canonical_spells version (Link path path_link) s
receivable_spells version (Unlink path) s = canonical_spells version (Unlink path) s
receivable_spells version (Rmdir path) s = canonical_spells version (Rmdir path) s
receivable_spells version (SetXattr name value path) s = canonical_spells version (SetXattr name value path) s
receivable_spells version (RemoveXattr name path) s = canonical_spells version (RemoveXattr name path) s
receivable_spells version (Write path offset bytes) s = canonical_spells version (Write path offset bytes) s
receivable_spells version (Clone path offset clone_uuid clone_ctransid clone_path clone_offset clone_len) s = canonical_spells version (Clone path offset clone_uuid clone_ctransid clone_path clone_offset clone_len) s
receivable_spells version (Truncate size path) s = canonical_spells version (Truncate size path) s
receivable_spells version (Chmod mode path) s = canonical_spells version (Chmod mode path) s
receivable_spells version (Chown uid gid path) s = canonical_spells version (Chown uid gid path) s
receivable_spells version (Utimes mtime atime path) s =
    with_one version (Utimes mtime atime path) (record { kind = CTIME; bytes = field_bytes (Moment mtime) }) s refl (lit< tt, lit≤ tt) refl (bytes_append (to_le_bytes w64 mtime.secs) (to_le_bytes w32 mtime.nanos) (le8_bytes mtime.secs) (le4_bytes mtime.nanos)) (lit≤ tt) refl (lit≤ tt)
receivable_spells version End s = canonical_spells version End s
receivable_spells version (UpdateExtent size path offset) s = canonical_spells version (UpdateExtent size path offset) s
receivable_spells version (Fallocate size path offset mode) s = canonical_spells version (Fallocate size path offset mode) s
receivable_spells version (FileAttr path flags) s = canonical_spells version (FileAttr path flags) s

-- ---- reading what was exported

-- What is due begins a stream.
abbrev begins : Due → Bool
begins HeaderDue = true
begins (CommandDue version) = false

-- What is due after a command, by whether it is END.
abbrev pub due_by : ℕ → Bool → Due
due_by version end = if end then HeaderDue else CommandDue version

due_is : (version : ℕ) (c : Command) → due_after version c ≡ due_by version (is_end c)
due_is version End = refl
due_is version c = refl

-- What is read has the same commands in the same streams.
pub record Same (r : Reading) (items : List Item) : Type 0 where
  pub whole : r.end ≡ Whole
  pub same : map said r.items ≡ map said items

-- The first item is of the version that is due.
abbrev pub IsDue : Due → Item → Type 0
IsDue HeaderDue item = Unit {0}
IsDue (CommandDue version) item = item.version ≡ version

record Goes (due : Due) (items : List Item) : Type 0 where
  first : Item
  others : List Item
  some : items ≡ first ∷ others
  is_due : IsDue due first
  back : (m file number offset : ℕ) → length (exported_from (begins due) items) < m → Same (reads_from m file due number offset (exported_from (begins due) items)) items

-- A command in the receivable spelling in front of other bytes.
front_again : (file version number offset : ℕ) (c : Command) → CanWrite version c → (rest : List ℕ) → (item : Item) × (said item ≡ (version, c)) × (front_of file version number offset (receivable version c ++ rest) ≡ Ok (record { item = item; rest = rest }))
front_again file version number offset c w rest =
    let s = receivable_spells version c w.spellable in
    (record { file = file; number = number; offset = offset; version = version; data_at = data_place version offset s.attributes; command = c }, refl, spelled_front file version number offset (receivable version c) rest c s)

receivable_long : (version : ℕ) (c : Command) → 10 ≤ length (receivable version c)
unfolding receivable frame_of
receivable_long version c = omega arith

-- One command and what follows it. The bytes of what follows are none where the file ends there,
-- and else are not.
one_again : (version : ℕ) (item : Item) (rest : List Item) (following : List ℕ) (end : Bool) → item.version ≡ version → CanWrite version item.command → end ≡ is_end item.command
    → may_end (due_by version end) following ≡ false → ((m file number offset : ℕ) → length following < m → Same (reads_from m file (due_by version end) number offset following) rest)
    → (m file number offset : ℕ) → length (receivable version item.command ++ following) < m → Same (reads_from m file (CommandDue version) number offset (receivable version item.command ++ following)) (item ∷ rest)
unfolding reads_from
one_again version item rest following end v w e may more zero file number offset long = absurd (omega (arith, long))
one_again version item rest following end v w e may more (suc m) file number offset long =
    let c : Command = item.command in
    let bytes : List ℕ = receivable version c ++ following in
    let front = front_again file version number offset c w following in
    let after : due_after version front.0.command ≡ due_by version end = ap (λ (s : ℕ × Command). due_after version s.1) front.1 ∙ due_is version c ∙ ap (due_by version) (sym e) in
    let o : ℕ = offset + (length bytes - length following) in
    let r : Reading = reads_from m file (due_by version end) (number + 1) o following in
    let went : reads_from (suc m) file (CommandDue version) number offset bytes ≡ with_item front.0 r =
    ap (go_on _ _) front.2 ∙ ap (λ (d : Due). with_item front.0 (if may_end d following then ended else reads_from m file d (number + 1) o following)) after
    ∙ ap (λ (b : Bool). with_item front.0 (if b then ended else r)) may in
    let fewer = receivable_long version c in
    let rest_same = more m file (number + 1) o (omega (arith, long, fewer, length-append (receivable version c) following)) in
    subst (λ (x : Reading). Same x (item ∷ rest)) (sym went)
    (record { whole = rest_same.whole; same = λ i. (front.1 ∙ ap (λ (x : ℕ). (x, c)) (sym v)) i ∷ rest_same.same i })

-- The last one.
last_again : (version : ℕ) (item : Item) → item.version ≡ version → CanWrite version item.command → is_end item.command ≡ true
    → (m file number offset : ℕ) → length (receivable version item.command ++ []) < m → Same (reads_from m file (CommandDue version) number offset (receivable version item.command ++ [])) (item ∷ [])
unfolding reads_from
last_again version item v w e zero file number offset long = absurd (omega (arith, long))
last_again version item v w e (suc m) file number offset long =
    let c : Command = item.command in
    let bytes : List ℕ = receivable version c ++ [] in
    let front = front_again file version number offset c w [] in
    let after : due_after version front.0.command ≡ HeaderDue = ap (λ (s : ℕ × Command). due_after version s.1) front.1 ∙ due_is version c ∙ ap (due_by version) e in
    let went : reads_from (suc m) file (CommandDue version) number offset bytes ≡ with_item front.0 ended =
    ap (go_on _ _) front.2 ∙ ap (λ (d : Due). with_item front.0 (if may_end d [] then ended else reads_from m file d (number + 1) (offset + (length bytes - 0)) [])) after in
    subst (λ (x : Reading). Same x (item ∷ [])) (sym went) (record { whole = refl; same = λ i. (front.1 ∙ ap (λ (x : ℕ). (x, c)) (sym v)) i ∷ [] })

-- Items that go on after a command, whose bytes are not none where a header is due.
follows : (version : ℕ) (end : Bool) (items : List Item) → Goes (due_by version end) items → may_end (due_by version end) (exported_from end items) ≡ false
unfolding exported_from stream_header
follows version true items g = subst (λ (is : List Item). may_end HeaderDue (exported_from true is) ≡ false) (sym g.some) refl
follows version false items g = refl

same_begins : (version : ℕ) (end : Bool) → begins (due_by version end) ≡ end
same_begins version true = refl
same_begins version false = refl

goes_on : (version : ℕ) (item : Item) (items : List Item) (end : Bool) → item.version ≡ version → CanWrite version item.command → end ≡ is_end item.command → Goes (due_by version end) items → Goes (CommandDue version) (item ∷ items)
unfolding exported_from
goes_on version item items end v w e g = record {
  first = item;
  others = items;
  some = refl;
  is_due = v;
  back = λ m file number offset long.
      let following : List ℕ = exported_from end items in
      let all : exported_from false (item ∷ items) ≡ receivable version item.command ++ following = λ i. receivable (v i) item.command ++ exported_from (sym e i) items in
      let more : (m file number offset : ℕ) → length following < m → Same (reads_from m file (due_by version end) number offset following) items =
      subst (λ (b : Bool). (m file number offset : ℕ) → length (exported_from b items) < m → Same (reads_from m file (due_by version end) number offset (exported_from b items)) items) (same_begins version end) g.back in
      subst (λ (bs : List ℕ). length bs < m → Same (reads_from m file (CommandDue version) number offset bs) (item ∷ items)) (sym all)
      (one_again version item items following end v w e (follows version end items g) more m file number offset) long;
}

goes_last : (version : ℕ) (item : Item) → item.version ≡ version → CanWrite version item.command → is_end item.command ≡ true → Goes (CommandDue version) (item ∷ [])
unfolding exported_from
goes_last version item v w e = record {
  first = item;
  others = [];
  some = refl;
  is_due = v;
  back = λ m file number offset long.
      let all : exported_from false (item ∷ []) ≡ receivable version item.command ++ [] = λ i. receivable (v i) item.command ++ [] in
      subst (λ (bs : List ℕ). length bs < m → Same (reads_from m file (CommandDue version) number offset bs) (item ∷ [])) (sym all) (last_again version item v w e m file number offset) long;
}

-- A header in front of what a stream of its version holds.
goes_under : (version : ℕ) (items : List Item) → is_version version ≡ true → Goes (CommandDue version) items → Goes HeaderDue items
unfolding exported_from reads_from
goes_under version items read g = record {
  first = g.first;
  others = g.others;
  some = g.some;
  is_due = tt;
  back = back;
}
  where
    header_first : exported_from true items ≡ stream_header version ++ exported_from false items
    header_first = subst (λ (is : List Item). exported_from true is ≡ stream_header version ++ exported_from false is) (sym g.some)
        (ap (λ (v : ℕ). stream_header v ++ exported_from false (g.first ∷ g.others)) g.is_due)

    under : (m file number offset : ℕ) → length (stream_header version ++ exported_from false items) < m → Same (reads_from m file HeaderDue number offset (stream_header version ++ exported_from false items)) items
    under zero file number offset long = absurd (omega (arith, long))
    under (suc m) file number offset long =
        let rest : List ℕ = exported_from false items in
        let long' = header_length version rest in
        let went : reads_from (suc m) file HeaderDue number offset (stream_header version ++ rest) ≡ reads_from m file (CommandDue version) number (offset + header_len) rest =
        ap (go_on _ _) (header_read version rest read) ∙ ap (reads_from m file (CommandDue version) number (offset + header_len)) (after_header version rest) in
        subst (λ (x : Reading). Same x items) (sym went) (g.back m file number (offset + header_len) (omega (arith, long, long')))

    back : (m file number offset : ℕ) → length (exported_from true items) < m → Same (reads_from m file HeaderDue number offset (exported_from true items)) items
    back m file number offset long = subst (λ (bs : List ℕ). length bs < m → Same (reads_from m file HeaderDue number offset bs) items) (sym header_first) (under m file number offset) long

-- ---- whole streams

-- Items that stand as whole streams of what can be written, one after the other, from what is due
-- on.
abbrev pub StandsIn : Due → List Item → Type 0
StandsIn HeaderDue [] = Unit {0}
StandsIn (CommandDue version) [] = ⊥
StandsIn due (item ∷ items) = IsDue due item × IsReadable item × StandsIn (due_by item.version (is_end item.command)) items

placed : (due : Due) (item : Item) (items : List Item) → IsDue due item → is_version item.version ≡ true → Goes (CommandDue item.version) items → Goes due items
placed HeaderDue item items d read g = goes_under item.version items read g
placed (CommandDue version) item items d read g = subst (λ (v : ℕ). Goes (CommandDue v) items) d g

last_ends : (version : ℕ) (end : Bool) → StandsIn (due_by version end) [] → end ≡ true
last_ends version true s = refl
last_ends version false s = absurd s

goes : (due : Due) (item : Item) (items : List Item) → StandsIn due (item ∷ items) → Goes due (item ∷ items)
goes due item [] (d, r, s) = placed due item (item ∷ []) d r.1 (goes_last item.version item refl r.0 (last_ends item.version (is_end item.command) s))
goes due item (next ∷ items) (d, r, s) =
    placed due item (item ∷ next ∷ items) d r.1 (goes_on item.version item (next ∷ items) (is_end item.command) refl r.0 refl (goes (due_by item.version (is_end item.command)) next items s))

-- What is exported of such items is read as the same commands in the same streams.
pub exported_back : (items : List Item) → items ≢ [] → StandsIn HeaderDue items → Same (reads 1 (exported_from true items)) items
unfolding reads
exported_back [] some s = absurd (some refl)
exported_back (item ∷ items) some s = let g = goes HeaderDue item items s in g.back (suc (length (exported_from true (item ∷ items)))) 1 1 0 (omega arith)

-- ---- what is read stands so

abbrev Stood : Due → Reading → Type 0
Stood due r = r.end ≡ Whole → StandsIn due r.items × (r.items ≢ [])

by_answer : {A : Type 0} (due : Due) (more : A → Reading) (stop : Refusal → Reading) (r : Result A Refusal) → ((x : A) → r ≡ Ok x → Stood due (more x)) → ((refusal : Refusal) → Stood due (stop refusal)) → Stood due (go_on more stop r)
by_answer due more stop (Ok x) m s = m x refl
by_answer due more stop (Err refusal) m s = s refusal

-- Where a file may end after a command, nothing follows, and the command is END.
ends_there : (version : ℕ) (c : Command) (rest : List ℕ) → may_end (due_after version c) rest ≡ true → is_end c ≡ true
ends_there version End rest e = refl
ends_there version c rest e = cc

under_header : (version : ℕ) (items : List Item) → StandsIn (CommandDue version) items → StandsIn HeaderDue items
under_header version [] s = absurd s
under_header version (item ∷ items) (d, r, s) = (tt, r, s)

stood : (n file : ℕ) (due : Due) (number offset : ℕ) (bytes : List ℕ) → DueIsRead due → IsBytes bytes → Stood due (reads_from n file due number offset bytes)
unfolding reads_from
stood zero file due number offset bytes read are = λ whole. cc
stood (suc n) file HeaderDue number offset bytes read are =
    by_answer HeaderDue _ _ (stream_version bytes) (λ version e whole.
    let v = header_version bytes version e in
    let s = stood n file (CommandDue version) number (offset + header_len) (drop header_len bytes) v (bytes_drop header_len bytes are) whole in
    (under_header version _ s.0, s.1)) (λ refusal whole. cc)
stood (suc n) file (CommandDue version) number offset bytes read are =
    by_answer (CommandDue version) _ _ (front_of file version number offset bytes) (λ front e.
    let w = read_was_spelled file version number offset bytes front are e in
    let c : Command = front.item.command in
    let v : front.item.version ≡ version = ap (λ (i : Item). i.version) w.item_is in
    let can : CanWrite front.item.version c = subst (λ (x : ℕ). CanWrite x c) (sym v) (record { spellable = spelled_spellable version w.frame c w.spells }) in
    let left : IsBytes front.rest = all_rest (λ (b : ℕ). b < 256) w.frame front.rest (subst (λ (bs : List ℕ). IsBytes bs) w.whole are) in
    let r : Reading = reads_from n file (due_after version c) (number + 1) (offset + (length bytes - length front.rest)) front.rest in
    let more = stood n file (due_after version c) (number + 1) (offset + (length bytes - length front.rest)) front.rest (due_is_read version c read) left in
    one version front.item r front.rest v (can, ap is_version v ∙ read) more (may_end (due_after version c) front.rest) refl) (λ refusal whole. cc)
  where
    one : (version : ℕ) (item : Item) (r : Reading) (rest : List ℕ) → item.version ≡ version → IsReadable item → Stood (due_after version item.command) r → (b : Bool) → may_end (due_after version item.command) rest ≡ b
        → Stood (CommandDue version) (with_item item (if b then ended else r))
    one version item r rest v can more true e = λ whole.
        ((v, can, subst (λ (end : Bool). StandsIn (due_by item.version end) []) (sym (ends_there version item.command rest e)) tt), λ none. cc)
    one version item r rest v can more false e = λ whole.
        ((v, can, subst (λ (x : ℕ). StandsIn (due_by x (is_end item.command)) r.items) (sym v) (subst (λ (d : Due). StandsIn d r.items) (due_is version item.command) (more whole).0)), λ none. cc)

pub stand_append : (due : Due) (items more : List Item) → StandsIn due items → StandsIn HeaderDue more → StandsIn due (items ++ more)
stand_append HeaderDue [] more s m = m
stand_append (CommandDue version) [] more s m = absurd s
stand_append due (item ∷ items) more (d, r, s) m = (d, r, stand_append (due_by item.version (is_end item.command)) items more s m)

-- So do the items of files that are read whole.
files_stand : (number : ℕ) (files : List (List ℕ)) → AllByRecursion IsBytes files → (input_from number files).end ≡ Whole → StandsIn HeaderDue (input_from number files).items
unfolding input_from reads
files_stand number [] are whole = tt
files_stand number (bytes ∷ files) are whole =
    one (reads number bytes) (stood (suc (length bytes)) number HeaderDue 1 0 bytes tt are.0) (files_stand (number + 1) files are.1) whole
  where
    one : (r : Reading) → Stood HeaderDue r → ((input_from (number + 1) files).end ≡ Whole → StandsIn HeaderDue (input_from (number + 1) files).items)
        → (joined r (input_from (number + 1) files)).end ≡ Whole → StandsIn HeaderDue (joined r (input_from (number + 1) files)).items
    one r s more whole = two r.items r.end (λ e. s e) more whole
      where
        two : (items : List Item) (end : Ending) → (end ≡ Whole → StandsIn HeaderDue items × (items ≢ [])) → ((input_from (number + 1) files).end ≡ Whole → StandsIn HeaderDue (input_from (number + 1) files).items)
            → (joined (record { items = items; end = end }) (input_from (number + 1) files)).end ≡ Whole → StandsIn HeaderDue (joined (record { items = items; end = end }) (input_from (number + 1) files)).items
        two items Whole s more w = stand_append HeaderDue items (input_from (number + 1) files).items (s refl).0 (more w)
        two items (Faulty verdict) s more w = cc

pub input_stands : (files : List (List ℕ)) → AllByRecursion IsBytes files → (input files).end ≡ Whole → StandsIn HeaderDue (input files).items
unfolding input
input_stands files are whole = files_stand 1 files are whole

-- Where there is a file, there is an item.
pub input_some : (files : List (List ℕ)) → files ≢ [] → AllByRecursion IsBytes files → (input files).end ≡ Whole → (input files).items ≢ []
unfolding input input_from reads
input_some [] some are whole = absurd (some refl)
input_some (bytes ∷ files) some are whole =
    let r : Reading = reads_from (suc (length bytes)) 1 HeaderDue 1 0 bytes in
    one r.items r.end (stood (suc (length bytes)) 1 HeaderDue 1 0 bytes tt are.0) whole
  where
    three : (items : List Item) (more : List Item) → items ≢ [] → items ++ more ≢ []
    three [] more n = absurd (n refl)
    three (item ∷ items) more n = λ e. cc

    one : (items : List Item) (end : Ending) → (end ≡ Whole → StandsIn HeaderDue items × (items ≢ [])) → (joined (record { items = items; end = end }) (input_from 2 files)).end ≡ Whole
        → (joined (record { items = items; end = end }) (input_from 2 files)).items ≢ []
    one items Whole s w = three items (input_from 2 files).items (s refl).1
    one items (Faulty verdict) s w = cc
