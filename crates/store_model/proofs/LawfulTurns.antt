-- What turns write are lawful groups: both versions can say the same heads, and a part stands in
-- one stream, so that its edits can be said in the version of its head.
use Rattle.std.specs.Prelude.{◌≡◌, ◌<◌, ℕ, zero, suc, ◌+◌, ◌-◌, Bool, true, false, not, ◌&&◌, List, [], ◌∷◌, ◌++◌, length, map, drop, Option, None, Some, Result, Ok, Err, is_some, is_none, if◌then◌else◌}
use Rattle.std.specs.List.{AllByRecursion, slice_get}
use Rattle.std.proofs.Common.{refl, sym, ap, subst, ◌∙◌, inl, inr}
use Rattle.std.proofs.lemmas.Bool.{true≢false}
use Rattle.send_model.specs.Refusal.{Refusal}
use Rattle.send_model.specs.Attribute.{IsBytes}
use Rattle.send_model.specs.Command.{Command, Subvol, Snapshot, row, kind_of, kind_of_number, fields_of}
use Rattle.send_model.specs.Spelling.{IsSpellable}
use Rattle.send_model.specs.Reading.{Item, Reading, Due, HeaderDue, CommandDue, due_after, may_end, ended, with_item, go_on, faulty, header_len, stream_version, front_of, reads, reads_from}
use Rattle.send_model.specs.Store.{Head, head_of, Store}
use Rattle.send_model.specs.Guards.{Guard}
use Rattle.send_model.specs.Counts.{is_end}
use Rattle.send_model.proofs.Sorts.{same_inside}
use Rattle.send_model.proofs.Canonical.{fields_first, spellable_first}
use Rattle.send_model.proofs.Streams.{inner_due}
use Rattle.send_model.proofs.ReadSpelled.{read_was_spelled}
use Rattle.send_model.proofs.ReadCommands.{AreWritable, IsReadable, reads_writable}
use Rattle.send_model.proofs.ElementLaws.{all_both, all_first, all_rest, all_drop}
use Rattle.store_model.specs.Stored.{IsContent, IsGroup, IsEdit, is_edit, Group, as_bytes, made, made_all, body_at, body_bytes, first_gate}
use Rattle.store_model.specs.Turns.{Taken, Session, Event, Begins, Completes, completed_parts, part_uuid, group_of_event, turn_groups, sessions_from, turns_of}
use Rattle.store_model.specs.TurnLaws.{IsIn, IsPart, IsReadBy, IsHeadOf, GroupsAreLawful, GroupsStand}
use Rattle.store_model.proofs.FilesInTurn.{files_are_in_turn}

-- ---- items of one stream have its version

abbrev IsDue : Option ℕ → ℕ → Type 0
IsDue None v = Unit {0}
IsDue (Some w) v = v ≡ w

abbrev next_version : Item → Option ℕ
next_version item = if is_end item.command then None else Some item.version

abbrev Steady : Option ℕ → List Item → Type 0
Steady o [] = Unit {0}
Steady o (item ∷ items) = IsDue o item.version × Steady (next_version item) items

steady_any : (o : Option ℕ) (items : List Item) → Steady o items → Steady None items
steady_any o [] s = tt
steady_any o (item ∷ items) s = (tt, s.1)

due_version : Due → Option ℕ
due_version HeaderDue = None
due_version (CommandDue version) = Some version

by_result : {A : Type 0} (o : Option ℕ) (more : A → Reading) (stop : Refusal → Reading) (r : Result A Refusal) → ((x : A) → r ≡ Ok x → Steady o (more x).items) → ((refusal : Refusal) → Steady o (stop refusal).items) → Steady o (go_on more stop r).items
by_result o more stop (Ok x) m s = m x refl
by_result o more stop (Err refusal) m s = s refusal

item_then : (version : ℕ) (item : Item) (r : Reading) (b : Bool) → item.version ≡ version → Steady (next_version item) r.items → Steady (Some version) (with_item item (if b then ended else r)).items
item_then version item r true e more = (e, tt)
item_then version item r false e more = (e, more)

after_item : (version : ℕ) (item : Item) (items : List Item) → item.version ≡ version → Steady (due_version (due_after version item.command)) items → Steady (next_version item) items
unfolding due_version
after_item version item items e s = one (is_end item.command) refl
  where
    one : (b : Bool) → is_end item.command ≡ b → Steady (if b then None else Some item.version) items
    one true q = steady_any (due_version (due_after version item.command)) items s
    one false q = subst (λ (v : ℕ). Steady (Some v) items) (sym e) (subst (λ (d : Due). Steady (due_version d) items) (inner_due version item.command q) s)

reads_steady : (n file : ℕ) (due : Due) (number offset : ℕ) (bytes : List ℕ) → IsBytes bytes → Steady (due_version due) (reads_from n file due number offset bytes).items
unfolding reads_from due_version
reads_steady zero file due number offset bytes are = tt
reads_steady (suc n) file HeaderDue number offset bytes are =
    by_result None (λ version. reads_from n file (CommandDue version) number (offset + header_len) (drop header_len bytes)) (faulty file number offset) (stream_version bytes)
    (λ version e. steady_any (Some version) (reads_from n file (CommandDue version) number (offset + header_len) (drop header_len bytes)).items
    (reads_steady n file (CommandDue version) number (offset + header_len) (drop header_len bytes) (all_drop (λ (b : ℕ). b < 256) header_len bytes are))) (λ refusal. tt)
reads_steady (suc n) file (CommandDue version) number offset bytes are =
    by_result (Some version) _ (faulty file number offset) (front_of file version number offset bytes)
    (λ front e.
    let w = read_was_spelled file version number offset bytes front are e in
    let own : front.item.version ≡ version = ap (λ (i : Item). i.version) w.item_is in
    let rest_are : IsBytes front.rest = all_rest (λ (b : ℕ). b < 256) w.frame front.rest (subst (λ (bs : List ℕ). IsBytes bs) w.whole are) in
    let more : Reading = reads_from n file (due_after version front.item.command) (number + 1) (offset + (length bytes - length front.rest)) front.rest in
    item_then version front.item more (may_end (due_after version front.item.command) front.rest) own
    (after_item version front.item more.items own (reads_steady n file (due_after version front.item.command) (number + 1) (offset + (length bytes - length front.rest)) front.rest rest_are))) (λ refusal. tt)

steady_behind : (o : Option ℕ) (xs ys : List Item) → Steady o (xs ++ ys) → Steady None ys
steady_behind o [] ys s = steady_any o ys s
steady_behind o (x ∷ xs) ys s = steady_behind (next_version x) xs ys s.1

-- ---- a part's edits

abbrev AreEdits : List Item → Type 0
AreEdits items = AllByRecursion (λ item. (head_of item.command ≡ None) × (is_end item.command ≡ false)) items

is_edit_of : (c : Command) → head_of c ≡ None → is_end c ≡ false → is_edit c ≡ true
is_edit_of c h e = ap (λ (o : Option Head). is_none o && not (is_end c)) h ∙ ap not e

edits_lawful : (version : ℕ) (items more : List Item) → AreEdits items → Steady (Some version) (items ++ more) → AllByRecursion (λ item. IsSpellable item.version item.command) items
    → AllByRecursion (IsEdit version) (map (λ item. item.command) items)
edits_lawful version [] more a s w = tt
edits_lawful version (item ∷ items) more a s w =
    let next : Steady (Some version) (items ++ more) =
    subst (λ (v : ℕ). Steady (Some v) (items ++ more)) s.0 (subst (λ (b : Bool). Steady (if b then None else Some item.version) (items ++ more)) a.0.1 s.1) in
    ((is_edit_of item.command a.0.0 a.0.1, subst (λ (v : ℕ). IsSpellable v item.command) s.0 w.0), edits_lawful version items more a.1 next w.1)

head_no_end : (c : Command) (head : Head) → head_of c ≡ Some head → is_end c ≡ false
head_no_end (Subvol uuid ctransid path) head e = refl
head_no_end (Snapshot uuid ctransid path clone_uuid clone_ctransid) head e = refl
head_no_end c head e = cc

uuid_fits : (version : ℕ) (c : Command) (head : Head) → head_of c ≡ Some head → IsSpellable version c → length head.key.uuid ≡ 16
unfolding row
uuid_fits version (Subvol uuid ctransid path) head e s = let v = s.values in subst (λ (h : Head). length h.key.uuid ≡ 16) (same_inside e) v.0.0
uuid_fits version (Snapshot uuid ctransid path clone_uuid clone_ctransid) head e s = let v = s.values in subst (λ (h : Head). length h.key.uuid ≡ 16) (same_inside e) v.0.0
uuid_fits version c head e s = cc

-- what is read of a session's file
record IsRead (items : List Item) : Type 0 where
  steady : Steady None items
  writable : AreWritable items

session_read : (n : ℕ) (files : List (List ℕ)) (guards : List Guard) (shares : List ℕ) (k : ℕ) (s : Session ℕ) → AllByRecursion IsBytes files
    → slice_get (sessions_from n files guards shares) k ≡ Some s → IsRead s.items
unfolding sessions_from reads due_version
session_read n [] guards shares k s are e = cc
session_read n (file ∷ files) guards [] zero s are e = subst (λ (x : Session ℕ). IsRead x.items) (same_inside e)
    (record { steady = reads_steady (suc (length file)) n HeaderDue 1 0 file are.0; writable = reads_writable (suc (length file)) n HeaderDue 1 0 file tt are.0 })
session_read n (file ∷ files) guards [] (suc k) s are e = session_read (n + 1) files guards [] k s are.1 e
session_read n (file ∷ files) guards (share ∷ shares) zero s are e = subst (λ (x : Session ℕ). IsRead x.items) (same_inside e)
    (record { steady = reads_steady (suc (length file)) n HeaderDue 1 0 file are.0; writable = reads_writable (suc (length file)) n HeaderDue 1 0 file tt are.0 })
session_read n (file ∷ files) guards (share ∷ shares) (suc k) s are e = session_read (n + 1) files (drop share guards) shares k s are.1 e

own_versions : (items : List Item) → AreWritable items → AllByRecursion (λ item. IsSpellable item.version item.command) items
own_versions [] a = tt
own_versions (item ∷ items) a = (a.0.0.spellable, own_versions items a.1)

body_lawful : (sessions : List (Session ℕ)) (part : Taken) → IsPart part → (r : IsReadBy sessions part) → IsRead r.session.items → IsContent (group_of_event (Completes part)).content
body_lawful sessions part is r read =
    let whole : List Item = (part.head ∷ part.edits) ++ r.next ∷ r.after in
    let steady : Steady None whole = steady_behind None r.before whole (subst (λ (l : List Item). Steady None l) r.items read.steady) in
    let writable : AreWritable (part.head ∷ part.edits) =
    all_first IsReadable (part.head ∷ part.edits) (r.next ∷ r.after) (all_rest IsReadable r.before whole (subst (λ (l : List Item). AreWritable l) r.items read.writable)) in
    let uuid_is : part_uuid part ≡ is.head.key.uuid = ap (λ (x : Option Head). elim x as (λ x. List ℕ) [ None ↦ [] | Some h ↦ h.key.uuid ]) is.is_head in (
      ap length uuid_is ∙ uuid_fits part.head.version part.head.command is.head is.is_head writable.0.0.spellable,
      writable.0.1,
      edits_lawful part.head.version part.edits (r.next ∷ r.after) is.edits
          (subst (λ (b : Bool). Steady (if b then None else Some part.head.version) (part.edits ++ r.next ∷ r.after)) (head_no_end part.head.command is.head is.is_head) steady.1) (own_versions part.edits writable.1),
    )

of_all : {A : Type 0} (P : A → Type 0) (xs : List A) (x : A) → AllByRecursion P xs → IsIn x xs → P x
of_all P [] x a h = absurd h
of_all P (y ∷ xs) x a (inl e) = subst P (sym e) a.0
of_all P (y ∷ xs) x a (inr h) = of_all P xs x a.1 h

-- Both versions can say the same heads.
head_first : (version : ℕ) (c : Command) → is_some (head_of c) ≡ true → IsSpellable version c → IsSpellable 1 c
unfolding row kind_of_number
head_first version (Subvol uuid ctransid path) h s = spellable_first 1 (Subvol uuid ctransid path) refl (fields_first version (row (kind_of (Subvol uuid ctransid path))).wanted (fields_of (Subvol uuid ctransid path)) refl s.values)
head_first version (Snapshot uuid ctransid path a b) h s =
    spellable_first 1 (Snapshot uuid ctransid path a b) refl (fields_first version (row (kind_of (Snapshot uuid ctransid path a b))).wanted (fields_of (Snapshot uuid ctransid path a b)) refl s.values)
head_first version c h s = cc

events_lawful : (format : ℕ) (sessions : List (Session ℕ)) (events : List Event)
    → ((k : ℕ) (s : Session ℕ) → slice_get sessions k ≡ Some s → IsRead s.items)
    → ((head : Item) → IsIn (Begins head) events → IsHeadOf sessions head)
    → ((part : Taken) → IsIn part (completed_parts events) → IsPart part × IsReadBy sessions part)
    → AllByRecursion (IsGroup format) (turn_groups events)
unfolding turn_groups completed_parts
events_lawful format sessions [] read heads parts = tt
events_lawful format sessions (Begins head ∷ events) read heads parts =
    let h = heads head (inl refl) in
    let can = of_all IsReadable h.session.items head (read h.number h.session h.there).writable h.stands in
    (record { content = head_first head.version head.command h.is_head can.0.spellable; old = λ e. absurd (true≢false e) }, events_lawful format sessions events read (λ x q. heads x (inr q)) parts)
events_lawful format sessions (Completes part ∷ events) read heads parts =
    let p = parts part (inl refl) in
    (record { content = body_lawful sessions part p.0 p.1 (read p.1.number p.1.session p.1.there); old = λ e. absurd (true≢false e) }, events_lawful format sessions events read (λ x q. heads x (inr q)) (λ x q. parts x (inr q)))

pub groups_are_lawful : GroupsAreLawful
groups_are_lawful format store schedule files guards shares d are =
    let sessions : List (Session ℕ) = sessions_from 1 files guards shares in
    let is = files_are_in_turn store schedule files guards shares d are in
    let events : List Event = (turns_of store schedule files guards shares).events in
    events_lawful format sessions events (λ k s at. session_read 1 files guards shares k s are at) is.begun (λ part h. (of_all IsPart (completed_parts events) part is.order.shaped h, is.read part h))

made_behind : (old new : List Group) (start middle end : Store ℕ) (gate : ℕ) → made_all 0 as_bytes gate start old ≡ Some middle
    → ((gate : ℕ) → made_all 0 as_bytes gate middle new ≡ Some end) → made_all 0 as_bytes gate start (old ++ new) ≡ Some end
unfolding made_all
made_behind [] new start middle end gate h m = subst (λ (s : Store ℕ). made_all 0 as_bytes gate s new ≡ Some end) (sym (same_inside h)) (m gate)
made_behind (g ∷ old) new start middle end gate h m =
    one (made 0 as_bytes (body_at gate) start g.content) (λ next q. made_behind old new next middle end (body_at gate + length (body_bytes g)) q m) h
  where
    one : (o : Option (Store ℕ)) → ((next : Store ℕ) → made_all 0 as_bytes (body_at gate + length (body_bytes g)) next old ≡ Some middle
        → made_all 0 as_bytes (body_at gate + length (body_bytes g)) next (old ++ new) ≡ Some end)
        → (elim o as (λ o. Option (Store ℕ)) [ None ↦ None | Some next ↦ made_all 0 as_bytes (body_at gate + length (body_bytes g)) next old ]) ≡ Some middle
        → (elim o as (λ o. Option (Store ℕ)) [ None ↦ None | Some next ↦ made_all 0 as_bytes (body_at gate + length (body_bytes g)) next (old ++ new) ]) ≡ Some end
    one None f q = cc
    one (Some next) f q = f next q

pub groups_stand : GroupsStand
groups_stand format old store schedule files guards shares d are makes =
    let is = files_are_in_turn store schedule files guards shares d are in
    let events : List Event = (turns_of store schedule files guards shares).events in
    record {
      lawful = all_both (IsGroup format) old (turn_groups events) makes.lawful (groups_are_lawful format store schedule files guards shares d are);
      made = made_behind old (turn_groups events) [] store (turns_of store schedule files guards shares).store first_gate makes.made is.groups;
    }
