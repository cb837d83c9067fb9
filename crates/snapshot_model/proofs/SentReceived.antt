-- What is sent of a subvolume is accepted by every store that has neither its name nor its uuid.
use Rattle.std.specs.Prelude.{◌≡◌, ℕ, zero, suc, ◌==◌, Bool, true, false, not, List, [], ◌∷◌, ◌++◌, map, length, Option, None, Some, Ok, if◌then◌else◌}
use Rattle.std.specs.Option.{unwrap_or, option_map}
use Rattle.std.specs.List.{AllByRecursion, flat_map, list_any}
use Rattle.std.specs.Str.{bytes_eq}
use Rattle.std.proofs.Common.{refl, sym, ap, ◌∙◌}
use Rattle.send_model.specs.Refusal.{Refusal}
use Rattle.send_model.specs.Command.{Command, Subvol, SetXattr, Link, Truncate, FileAttr, End}
use Rattle.send_model.specs.Spelling.{IsSpellable, stream_header, canonical_all}
use Rattle.send_model.specs.Reading.{Item, is_version, reads}
use Rattle.send_model.specs.Path.{is_name}
use Rattle.send_model.specs.Map.{Map}
use Rattle.send_model.specs.Subvolume.{NodeKind, File, Directory, SymbolicLink, CharacterDevice, BlockDevice, Fifo, Socket, Inode, Subvolume, root_alone, new_directory, inode_at, first_path, all_paths}
use Rattle.send_model.specs.Edit.{edit}
use Rattle.send_model.specs.Store.{Key, Store, Head, State, Stepped, with_contents, completed, begun, unfinished, entered, edited, step, step_head}
use Rattle.send_model.specs.Receive.{bytes_of, byte_cells, Run, run_by, run_items, then_run, start_of}
use Rattle.send_model.specs.Order.{commands_of}
use Rattle.send_model.specs.Composed.{writes_from}
use Rattle.send_model.specs.Counts.{is_end}
use Rattle.send_model.specs.Cells.{recelled, recelled_entry, recelled_store, recelled_state, recelled_step}
use Rattle.snapshot_model.specs.Listing.{byte_of, held, held_cells, Listed, listed, listing, paths_of}
use Rattle.snapshot_model.specs.Sent.{Stretch, stretches, stretch_commands, ends_in_hole, contents_commands, making, making_commands, flags_commands, setting_commands, inode_commands, listed_commands, sent_edits, sent, sent_version, sent_stream, edit_all}
use Rattle.snapshot_model.specs.SentLaws.{MakesAgain, named, IsReceivedAs, IsNew, AreReceived, SentIsReceived, SentStreamIsReceived}
use Rattle.send_model.proofs.Fuel.{bound, ok_same}
use Rattle.send_model.proofs.ElementLaws.{all_both, all_first}
use Rattle.send_model.proofs.Streams.{IsInner, stream_read}
use Rattle.send_model.proofs.Headlines.{received_as}
use Rattle.send_model.proofs.Sorts.{is_plain, plain_step}
use Rattle.send_model.proofs.Stores.{completes_new}
use Rattle.send_model.proofs.CellMaps.{reinode, inode_at-cells}
use Rattle.send_model.proofs.CellSteps.{has_name-cells, has_uuid-cells}
use Rattle.send_model.proofs.CellClones.{all_steps-cells}
use Rattle.snapshot_model.proofs.SentAgain.{sent_again}
use Rattle.snapshot_model.proofs.SentSpelled.{sent_is_spellable}

abbrev Cell : Type 0
Cell = Option ℕ

-- ---- all commands but the head and END are plain edits

abbrev pub IsPlain : Command → Type 0
IsPlain c = is_plain c ≡ true

plain_writes : (n : ℕ) (path : List ℕ) (from : ℕ) (bytes : List ℕ) → AllByRecursion IsPlain (writes_from n path from bytes)
plain_writes zero path from bytes = tt
plain_writes (suc n) path from [] = tt
plain_writes (suc n) path from (b ∷ bytes) = (refl, plain_writes n path _ _)

plain_stretches : (path : List ℕ) (sts : List Stretch) → AllByRecursion IsPlain (flat_map (stretch_commands path) sts)
plain_stretches path [] = tt
plain_stretches path (st ∷ sts) = all_both IsPlain (stretch_commands path st) (flat_map (stretch_commands path) sts) (plain_writes (length st.bytes) path st.at st.bytes) (plain_stretches path sts)

plain_end : (path : List ℕ) (n : ℕ) (b : Bool) → AllByRecursion IsPlain (if b then Truncate n path ∷ [] else [])
plain_end path n true = (refl, tt)
plain_end path n false = tt

pub plain_contents : (path : List ℕ) (cells : List Cell) → AllByRecursion IsPlain (contents_commands path cells)
plain_contents path cells =
    all_both IsPlain (flat_map (stretch_commands path) (stretches 0 cells)) (if ends_in_hole cells then Truncate (length cells) path ∷ [] else [])
    (plain_stretches path (stretches 0 cells)) (plain_end path (length cells) (ends_in_hole cells))

pub plain_making : (path : List ℕ) (kind : NodeKind) (inode : Inode Cell) → IsPlain (making path kind inode)
plain_making path File inode = refl
plain_making path Directory inode = refl
plain_making path SymbolicLink inode = refl
plain_making path CharacterDevice inode = refl
plain_making path BlockDevice inode = refl
plain_making path Fifo inode = refl
plain_making path Socket inode = refl

plain_first : (path : List ℕ) (inode : Inode Cell) → AllByRecursion IsPlain (making_commands path inode)
plain_first [] inode = tt
plain_first (b ∷ path) inode = (plain_making (b ∷ path) inode.kind inode, tt)

pub plain_xattrs : (path : List ℕ) (m : Map (List ℕ) (List ℕ)) → AllByRecursion IsPlain (map (λ e. SetXattr e.0 e.1 path) m)
plain_xattrs path [] = tt
plain_xattrs path (e ∷ m) = (refl, plain_xattrs path m)

pub plain_flags : (path : List ℕ) (flags : ℕ) → AllByRecursion IsPlain (flags_commands path flags)
plain_flags path flags = one (flags == 0)
  where
    one : (b : Bool) → AllByRecursion IsPlain (if b then [] else FileAttr path flags ∷ [])
    one true = tt
    one false = (refl, tt)

plain_settings : (path : List ℕ) (inode : Inode Cell) → AllByRecursion IsPlain (setting_commands path inode)
plain_settings path inode = (refl, (refl, all_both IsPlain (flags_commands path inode.flags) _ (plain_flags path inode.flags) (refl, tt)))

plain_inode : (path : List ℕ) (inode : Inode Cell) → AllByRecursion IsPlain (inode_commands path inode)
plain_inode path inode =
    let xs : List Command = map (λ e. SetXattr e.0 e.1 path) inode.xattrs in
    all_both IsPlain (making_commands path inode) (xs ++ (contents_commands path inode.cells ++ setting_commands path inode)) (plain_first path inode)
    (all_both IsPlain xs (contents_commands path inode.cells ++ setting_commands path inode) (plain_xattrs path inode.xattrs)
    (all_both IsPlain (contents_commands path inode.cells) (setting_commands path inode) (plain_contents path inode.cells) (plain_settings path inode)))

plain_listed : (e : List ℕ × Listed Cell) → AllByRecursion IsPlain (listed_commands e)
plain_listed e = one (bytes_eq e.0 e.1.first)
  where
    one : (b : Bool) → AllByRecursion IsPlain (if b then inode_commands e.0 e.1.inode else Link e.0 e.1.first ∷ [])
    one true = plain_inode e.0 e.1.inode
    one false = (refl, tt)

plain_all : (m : Map (List ℕ) (Listed Cell)) → AllByRecursion IsPlain (flat_map listed_commands m)
plain_all [] = tt
plain_all (e ∷ m) = all_both IsPlain (listed_commands e) (flat_map listed_commands m) (plain_listed e) (plain_all m)

plain_sent : (s : Subvolume Cell) → AllByRecursion IsPlain (sent_edits s)
unfolding sent_edits
plain_sent s = plain_all (listing s)

-- ---- the run

abbrev in_part : Store Cell → Key → Subvolume Cell → State Cell
in_part store key s = record { store = store; part = Some (record { key = key; subvolume = s }) }

first_is : (item : Item) (items : List Item) (c : Command) (cs : List Command) → commands_of (item ∷ items) ≡ c ∷ cs → (item.command ≡ c) × (commands_of items ≡ cs)
first_is item items c cs e = (ap (λ (r : List Command). head_or r) e, ap (λ (r : List Command). tail_of r) e)
  where
    head_or : List Command → Command
    head_or [] = End
    head_or (d ∷ ds) = d

    tail_of : List Command → List Command
    tail_of [] = []
    tail_of (d ∷ ds) = ds

run_rest : (store : Store Cell) (key : Key) (cs : List Command) (items : List Item) (s t : Subvolume Cell) → commands_of items ≡ cs ++ End ∷ [] → AllByRecursion IsPlain cs → edit_all cs s ≡ Ok t
    → run_items None held_cells (in_part store key s) items ≡ record { state = start_of (with_contents key.uuid t store); refused = None }
unfolding run_items run_by step completed edit_all
run_rest store key [] [] s t e plain taken = cc
run_rest store key [] (item ∷ []) s t e plain taken =
    let f = first_is item [] End [] e in
    let same : s ≡ t = ok_same taken in
    ap (λ (c : Command). run_by (λ st (i : Item). step None (held (bytes_of c)) st c) (in_part store key s) (item ∷ [])) f.0
    ∙ ap (λ (u : Subvolume Cell). record { state = start_of (with_contents key.uuid u store); refused = None }) same
run_rest store key [] (item ∷ other ∷ items) s t e plain taken = let f = first_is item (other ∷ items) End [] e in cc (f.1)
run_rest store key (c ∷ cs) [] s t e plain taken = cc
run_rest store key (c ∷ cs) (item ∷ items) s t e plain taken =
    let f = first_is item items c (cs ++ End ∷ []) e in
    let b = bound (edit None (held (bytes_of c)) c s) (edit_all cs) t taken in
    let stepped : step None (held (bytes_of item.command)) (in_part store key s) item.command ≡ record { state = in_part store key b.0; refusal = None } =
    ap (λ (d : Command). step None (held (bytes_of d)) (in_part store key s) d) f.0
    ∙ plain_step None (held (bytes_of c)) store (record { key = key; subvolume = s }) c plain.0 ∙ ap (edited store (record { key = key; subvolume = s })) b.1 in
    ap (λ (a : Stepped Cell). then_run item a (run_items None held_cells a.state items)) stepped
    ∙ run_rest store key cs items b.0 t f.1 plain.1 b.2

-- ---- the head

abbrev new_head : List ℕ → Key → Head
new_head name key = record { name = name; key = key; parent = None }

head_begins : (name : List ℕ) (key : Key) (store : Store Cell) → is_name name ≡ true → IsNew name key store → begun store (new_head name key) ≡ Ok root_alone
unfolding begun
head_begins name key store is new = rw (is, new.0, new.1) refl

run_sent : (name : List ℕ) (key : Key) (cs : List Command) (items : List Item) (t : Subvolume Cell) (store : Store Cell) → is_name name ≡ true → IsNew name key store
    → commands_of items ≡ Subvol key.uuid key.ctransid name ∷ (cs ++ End ∷ []) → AllByRecursion IsPlain cs → edit_all cs root_alone ≡ Ok t
    → run_items None held_cells (start_of store) items ≡ record { state = start_of (store ++ record { name = name; key = key; parent = None; contents = Some t } ∷ []); refused = None }
unfolding run_items run_by step step_head completed
run_sent name key cs [] t store is new e plain taken = cc
run_sent name key cs (item ∷ items) t store is new e plain taken =
    let f = first_is item items (Subvol key.uuid key.ctransid name) (cs ++ End ∷ []) e in
    let head : Head = new_head name key in
    let stepped : step None (held (bytes_of item.command)) (start_of store) item.command ≡ record { state = in_part (store ++ unfinished head ∷ []) key root_alone; refusal = None } =
    ap (λ (d : Command). step None (held (bytes_of d)) (start_of store) d) f.0 ∙ ap (entered store head) (head_begins name key store is new) in
    ap (λ (a : Stepped Cell). then_run item a (run_items None held_cells a.state items)) stepped
    ∙ run_rest (store ++ unfinished head ∷ []) key cs items root_alone t f.1 plain taken
    ∙ ap (λ (st : Store Cell). record { state = start_of st; refused = None }) (completes_new head t store new.1)

-- ---- the same over bytes

abbrev recelled_run : Run Cell → Run ℕ
recelled_run r = record { state = recelled_state byte_of r.state; refused = r.refused }

pub held_bytes : (bytes : List ℕ) → map byte_of (held bytes) ≡ bytes
held_bytes [] = refl
held_bytes (b ∷ bytes) = ap (λ (r : List ℕ). b ∷ r) (held_bytes bytes)

runs-cells : (items : List Item) (state : State Cell) → run_items 0 byte_cells (recelled_state byte_of state) items ≡ recelled_run (run_items None held_cells state items)
unfolding run_items run_by
runs-cells [] state = refl
runs-cells (item ∷ items) state =
    let stepped : step 0 (bytes_of item.command) (recelled_state byte_of state) item.command ≡ recelled_step byte_of (step None (held (bytes_of item.command)) state item.command) =
    ap (λ (put : List ℕ). step 0 put (recelled_state byte_of state) item.command) (sym (held_bytes (bytes_of item.command))) ∙ all_steps-cells byte_of item.command None (held (bytes_of item.command)) state in
    ap (λ (a : Stepped ℕ). then_run item a (run_items 0 byte_cells a.state items)) stepped
    ∙ one (step None (held (bytes_of item.command)) state item.command).state (step None (held (bytes_of item.command)) state item.command).refusal (runs-cells items)
  where
    one : (after : State Cell) (o : Option Refusal) → ((st : State Cell) → run_items 0 byte_cells (recelled_state byte_of st) items ≡ recelled_run (run_items None held_cells st items))
        → then_run item (record { state = recelled_state byte_of after; refusal = o }) (run_items 0 byte_cells (recelled_state byte_of after) items)
        ≡ recelled_run (then_run item (record { state = after; refusal = o }) (run_items None held_cells after items))
    one after None more = more after
    one after (Some refusal) more = refl

-- A store of bytes is one of cells, seen as bytes.
abbrev some_cell : ℕ → Cell
some_cell byte = Some byte

same_cells : (cells : List ℕ) → map byte_of (map some_cell cells) ≡ cells
same_cells [] = refl
same_cells (b ∷ cells) = ap (λ (r : List ℕ). b ∷ r) (same_cells cells)

abbrev cells_up : ℕ × Inode ℕ → ℕ × Inode Cell
cells_up e = (e.0, reinode some_cell e.1)

abbrev bytes_down : ℕ × Inode Cell → ℕ × Inode ℕ
bytes_down e = (e.0, reinode byte_of e.1)

same_inodes : (m : Map ℕ (Inode ℕ)) → map bytes_down (map cells_up m) ≡ m
same_inodes [] = refl
same_inodes (e ∷ m) = λ i. (e.0, record e.1 { cells = same_cells e.1.cells i }) ∷ same_inodes m i

same_subvolume : (s : Subvolume ℕ) → recelled byte_of (recelled some_cell s) ≡ s
same_subvolume s = λ i. record { inodes = same_inodes s.inodes i; names = s.names; next = s.next }

same_contents : (o : Option (Subvolume ℕ)) → option_map (recelled byte_of) (option_map (recelled some_cell) o) ≡ o
same_contents None = refl
same_contents (Some s) = ap (λ (u : Subvolume ℕ). Some u) (same_subvolume s)

same_store : (store : Store ℕ) → recelled_store byte_of (recelled_store some_cell store) ≡ store
same_store [] = refl
same_store (e ∷ store) = λ i. record { name = e.name; key = e.key; parent = e.parent; contents = same_contents e.contents i } ∷ same_store store i

-- ---- listings over other cells

abbrev relisted : Listed Cell → Listed ℕ
relisted l = record { first = l.first; inode = reinode byte_of l.inode }

abbrev relist : List ℕ × Listed Cell → List ℕ × Listed ℕ
relist e = (e.0, relisted e.1)

listed-cells : (s : Subvolume Cell) (ino : ℕ) → listed (recelled byte_of s) ino ≡ relisted (listed s ino)
unfolding listed first_path all_paths
listed-cells s ino = ap (λ (o : Option (Inode ℕ)). record { first = unwrap_or (first_path s ino) []; inode = unwrap_or o new_directory }) (inode_at-cells byte_of s ino) ∙ one (inode_at s ino)
  where
    one : (o : Option (Inode Cell)) → ◌≡◌ {A = Listed ℕ} (record { first = unwrap_or (first_path s ino) []; inode = unwrap_or (option_map (reinode byte_of) o) new_directory }) (record { first = unwrap_or (first_path s ino) []; inode = reinode byte_of (unwrap_or o new_directory) })
    one None = refl
    one (Some inode) = refl

listing-cells : (s : Subvolume Cell) → listing (recelled byte_of s) ≡ map relist (listing s)
unfolding listing paths_of all_paths
listing-cells s = one (paths_of s)
  where
    down : List ℕ × ℕ → List ℕ × Listed ℕ
    down e = (e.0, listed (recelled byte_of s) e.1)

    up : List ℕ × ℕ → List ℕ × Listed Cell
    up e = (e.0, listed s e.1)

    one : (m : Map (List ℕ) ℕ) → map down m ≡ map relist (map up m)
    one [] = refl
    one (e ∷ m) = λ i. (e.0, listed-cells s e.1 i) ∷ one m i

-- ---- the law

-- Plain edits that make a subvolume again are received as it, between a head and END.
pub received_by : (name : List ℕ) (key : Key) (s t : Subvolume Cell) (edits : List Command) (items : List Item) → AllByRecursion IsPlain edits → MakesAgain edits s t → is_name name ≡ true
    → commands_of items ≡ Subvol key.uuid key.ctransid name ∷ (edits ++ End ∷ []) → AreReceived name key s items
received_by name key s t edits items plain again is are = record {
  cells = λ store new. record { after = t; run = run_sent name key edits items t store is new are plain again.taken; same = again.same };
  bytes = λ store new. over_bytes store new;
}
  where
    over_bytes : (store : Store ℕ) → IsNew name key store → IsReceivedAs 0 byte_cells (named name key (recelled byte_of s)) store items
    over_bytes store new =
        let u : Store Cell = recelled_store some_cell store in
        let new' : IsNew name key u = (has_name-cells some_cell name store ∙ new.0, has_uuid-cells some_cell key.uuid store ∙ new.1) in
        let run = run_sent name key edits items t u is new' are plain again.taken in
        record {
          after = recelled byte_of t;
          run = ap (λ (st : Store ℕ). run_items 0 byte_cells (start_of st) items) (sym (same_store store))
              ∙ runs-cells items (start_of u) ∙ ap recelled_run run
              ∙ ap (λ (st : Store ℕ). record { state = start_of st; refused = None }) (all_entries u ∙ ap (λ (st : Store ℕ). st ++ record { name = name; key = key; parent = None; contents = Some (recelled byte_of t) } ∷ []) (same_store store));
          same = listing-cells t ∙ ap (map relist) again.same ∙ sym (listing-cells s);
        }
      where
        all_entries : (v : Store Cell) → recelled_store byte_of (v ++ record { name = name; key = key; parent = None; contents = Some t } ∷ []) ≡ recelled_store byte_of v ++ record { name = name; key = key; parent = None; contents = Some (recelled byte_of t) } ∷ []
        all_entries [] = refl
        all_entries (e ∷ v) = ap (λ (r : Store ℕ). recelled_entry byte_of e ∷ r) (all_entries v)

pub sent_is_received : SentIsReceived
unfolding sent
sent_is_received name key s items sendable is are = let again = sent_again s sendable in received_by name key s again.0 (sent_edits s) items (plain_sent s) again.1 is are

pub plain_no_end : (c : Command) → is_plain c ≡ true → is_end c ≡ false
plain_no_end End h = cc
plain_no_end c h = refl

pub version_one : (s : Subvolume Cell) → is_version (sent_version s) ≡ true
unfolding sent_version
version_one s = one (list_any (λ e. not (e.1.inode.flags == 0)) (listing s))
  where
    one : (b : Bool) → is_version (if b then 2 else 1) ≡ true
    one true = refl
    one false = refl

pub sent_stream_is_received : SentStreamIsReceived
unfolding sent_stream sent
sent_stream_is_received name key s store sendable is told new =
    let spellable = sent_is_spellable name key s sendable told in
    let cs : List Command = Subvol key.uuid key.ctransid name ∷ sent_edits s in
    let version : ℕ = sent_version s in
    let read = stream_read 1 version cs (version_is s) (inner cs (all_first (IsSpellable version) cs (End ∷ []) spellable) (refl, plain_ends (sent_edits s) (plain_sent s))) in
    let r = (sent_is_received name key s (reads 1 (stream_header version ++ canonical_all version (cs ++ End ∷ []))).items sendable is read.commands).bytes store new in
    (r.after, received_as store (sent_stream name key s) _ read.whole r.run, r.same)
  where
    version_is : (s : Subvolume Cell) → is_version (sent_version s) ≡ true
    version_is s = version_one s

    plain_ends : (cs : List Command) → AllByRecursion IsPlain cs → AllByRecursion (λ c. is_end c ≡ false) cs
    plain_ends [] all = tt
    plain_ends (c ∷ cs) all = (plain_no_end c all.0, plain_ends cs all.1)

    inner : (cs : List Command) → AllByRecursion (IsSpellable (sent_version s)) cs → AllByRecursion (λ c. is_end c ≡ false) cs → AllByRecursion (IsInner (sent_version s)) cs
    inner [] f g = tt
    inner (c ∷ cs) f g = ((record { spellable = f.0 }, g.0), inner cs f.1 g.1)
