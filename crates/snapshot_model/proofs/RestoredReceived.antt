-- What is restored of a subvolume is accepted by every store that has neither its name nor its
-- uuid, in the receivable spelling too.
use Rattle.std.specs.Prelude.{◌≡◌, ℕ, ◌^◌, ◌<◌, ◌%◌, ◌==◌, Bool, true, false, not, ◌&&◌, List, [], ◌∷◌, ◌++◌, map, Option, Ok, is_some, if◌then◌else◌}
use Rattle.std.specs.Str.{bytes_eq}
use Rattle.std.specs.List.{AllByRecursion, filter, flat_map}
use Rattle.std.specs.Cmp.Lexicographic.{nat_list_cmp_total}
use Rattle.std.proofs.Common.{refl, sym, ap, subst, ◌∙◌, arith, inl, inr}
use Rattle.std.proofs.lemmas.Map.Lookups.{exact_bytes}
use Rattle.std.proofs.Math.Nat.{mod-lt}
use Rattle.send_model.specs.Attribute.{Bytes, FieldFits, XATTR_NAME, XATTR_DATA}
use Rattle.send_model.specs.Command.{Command, Subvol, Rename, Link, SetXattr, Chmod, Chown, Utimes, End, row, kind_of_number}
use Rattle.send_model.specs.Spelling.{IsSpellable, stream_header}
use Rattle.send_model.specs.Receivable.{receivable, exported_from, said}
use Rattle.send_model.specs.Reading.{Item, is_version, HeaderDue, CommandDue, reads}
use Rattle.send_model.specs.Map.{Map, bytes_cmp}
use Rattle.send_model.specs.Subvolume.{Inode, Subvolume, is_directory_kind, walk}
use Rattle.send_model.specs.Order.{commands_of}
use Rattle.send_model.specs.Counts.{is_end}
use Rattle.snapshot_model.specs.Listing.{listed, listing, paths_of}
use Rattle.snapshot_model.specs.Sent.{contents_commands, flags_commands, sent_version}
use Rattle.snapshot_model.specs.Restored.{temporary, has_temporary, is_link_kind, mode_commands, is_capability, other_xattrs, finishing, capability_commands, arriving, placed_inode, placed, directories_back, capabilities, restored_edits, restored, restored_stream}
use Rattle.snapshot_model.specs.SentLaws.{IsMade, IsTold, FileIsReceivedAs, RestoredIsReceived, RestoredIsSpellable, RestoredStreamIsReceived}
use Rattle.send_model.proofs.ElementLaws.{all_both}
use Rattle.send_model.proofs.Exporting.{StandsIn, exported_back}
use Rattle.send_model.proofs.Headlines.{received_as}
use Rattle.send_model.proofs.Keeping.{all_filtered}
use Rattle.send_model.proofs.LeastPaths.{Among, entry_found}
use Rattle.snapshot_model.proofs.SentPaths.{paths_ordered, path_found_walks}
use Rattle.snapshot_model.proofs.SentAgain.{entry}
use Rattle.snapshot_model.proofs.SentReceived.{IsPlain, plain_contents, plain_making, plain_xattrs, plain_flags, plain_no_end, received_by, version_one}
use Rattle.snapshot_model.proofs.SentSpelled.{IsTellable, Says, says, path_fits, says_xattrs, says_contents, says_making, says_flags, Known, later, all_known, between_said}
use Rattle.snapshot_model.proofs.TemporaryNames.{temporary_fits}
use Rattle.snapshot_model.proofs.RestoredAgain.{restored_again}

abbrev Cell : Type 0
Cell = Option ℕ

-- ---- all of them are plain edits

plain_mode : (path : List ℕ) (inode : Inode Cell) → AllByRecursion IsPlain (mode_commands path inode)
plain_mode path inode = one (is_link_kind inode.kind && (inode.mode == 0o777))
  where
    one : (b : Bool) → AllByRecursion IsPlain (if b then [] else Chmod inode.mode path ∷ [])
    one true = tt
    one false = (refl, tt)

plain_finishing : (path : List ℕ) (inode : Inode Cell) → AllByRecursion IsPlain (finishing path inode)
plain_finishing path inode =
    let xs : List Command = map (λ e. SetXattr e.0 e.1 path) (other_xattrs inode.xattrs) in (
      refl,
      all_both IsPlain (mode_commands path inode) _ (plain_mode path inode)
          (all_both IsPlain xs _ (plain_xattrs path (other_xattrs inode.xattrs)) (all_both IsPlain (flags_commands path inode.flags) _ (plain_flags path inode.flags) (refl, tt))),
    )

plain_arriving : (at_once : Bool) (ino : ℕ) (path : List ℕ) (inode : Inode Cell) → AllByRecursion IsPlain (arriving at_once ino path inode)
plain_arriving at_once ino [] inode = tt
plain_arriving true ino (b ∷ path) inode = (plain_making (b ∷ path) inode.kind inode, tt)
plain_arriving false ino (b ∷ path) inode = (plain_making (temporary ino) inode.kind inode, (refl, tt))

plain_if : (b : Bool) (cs ds : List Command) → AllByRecursion IsPlain cs → AllByRecursion IsPlain ds → AllByRecursion IsPlain (if b then cs else ds)
plain_if true cs ds h g = h
plain_if false cs ds h g = g

plain_inode : (at_once : Bool) (ino : ℕ) (path : List ℕ) (inode : Inode Cell) → AllByRecursion IsPlain (placed_inode at_once ino path inode)
plain_inode at_once ino path inode =
    all_both IsPlain (arriving at_once ino path inode) _ (plain_arriving at_once ino path inode)
    (plain_if (is_directory_kind inode.kind) [] _ tt (all_both IsPlain (contents_commands path inode.cells) (finishing path inode) (plain_contents path inode.cells) (plain_finishing path inode)))

module _ (s : Subvolume Cell) where
  plain_placed : (m : Map (List ℕ) ℕ) → AllByRecursion IsPlain (flat_map (placed s) m)
  plain_placed [] = tt
  plain_placed (e ∷ m) = all_both IsPlain (placed s e) (flat_map (placed s) m)
      (plain_if (bytes_eq e.0 (listed s e.1).first) (placed_inode (has_temporary s e.1) e.1 e.0 (listed s e.1).inode) _ (plain_inode (has_temporary s e.1) e.1 e.0 (listed s e.1).inode) (refl, tt)) (plain_placed m)

  plain_back : (m : Map (List ℕ) ℕ) → AllByRecursion IsPlain (directories_back s m)
  plain_back [] = tt
  plain_back (e ∷ m) = all_both IsPlain (directories_back s m) _ (plain_back m) (plain_if (is_directory_kind (listed s e.1).inode.kind) (finishing e.0 (listed s e.1).inode) [] (plain_finishing e.0 (listed s e.1).inode) tt)

  plain_capabilities : (m : Map (List ℕ) ℕ) → AllByRecursion IsPlain (flat_map (capabilities s) m)
  plain_capabilities [] = tt
  plain_capabilities (e ∷ m) = all_both IsPlain (capabilities s e) (flat_map (capabilities s) m)
      (plain_if (bytes_eq e.0 (listed s e.1).first) (capability_commands e.0 (listed s e.1).inode) [] (plain_xattrs e.0 (filter is_capability (listed s e.1).inode.xattrs)) tt) (plain_capabilities m)

  plain_restored : AllByRecursion IsPlain (restored_edits s)
  unfolding restored_edits
  plain_restored =
      all_both IsPlain (flat_map (placed s) (paths_of s)) _ (plain_placed (paths_of s))
      (all_both IsPlain (directories_back s (paths_of s)) (flat_map (capabilities s) (paths_of s)) (plain_back (paths_of s)) (plain_capabilities (paths_of s)))

pub restored_is_received : RestoredIsReceived
unfolding restored
restored_is_received name key s items sendable low is are = let again = restored_again s sendable low in received_by name key s again.0 (restored_edits s) items (plain_restored s) again.1 is are

-- ---- their version can say them

module _ (l : Bool) where
  module _ (path : List ℕ) (p : IsTellable path) (inode : Inode Cell) (h : IsTold inode) (is : IsMade inode) (only : not (inode.flags == 0) ≡ true → l ≡ true) where
    -- Some of its attributes.
    says_kept : (test : List ℕ × List ℕ → Bool) → AllByRecursion (Says l) (map (λ e. SetXattr e.0 e.1 path) (filter test inode.xattrs))
    says_kept test = says_xattrs l path p (filter test inode.xattrs) (all_filtered (λ (e : List ℕ × List ℕ). FieldFits 1 XATTR_NAME (Bytes e.0)) test inode.xattrs h.attribute_names)
        (all_filtered (λ (e : List ℕ × List ℕ). FieldFits 1 XATTR_DATA (Bytes e.1)) test inode.xattrs h.attribute_values)

    says_finishing : AllByRecursion (Says l) (finishing path inode)
    unfolding row kind_of_number
    says_finishing =
        let low : inode.mode % 0o10_000 < 0o10_000 = mod-lt inode.mode (omega arith) in
        let mode : inode.mode < 2 ^ 64 = omega (arith, low, is.mode) in
        let xs : List Command = map (λ e. SetXattr e.0 e.1 path) (other_xattrs inode.xattrs) in
        let chmod : AllByRecursion (Says l) (Chmod inode.mode path ∷ []) = (says l (Chmod inode.mode path) refl refl (mode, (path_fits l path p 15, tt)), tt) in (
          says l (Chown inode.uid inode.gid path) refl refl (h.owners.0, (h.owners.1, (path_fits l path p 15, tt))),
          all_both (Says l) (mode_commands path inode) _ (unless (is_link_kind inode.kind && (inode.mode == 0o777)) (Chmod inode.mode path ∷ []) chmod)
              (all_both (Says l) xs _ (says_kept (λ e. not (is_capability e)))
              (all_both (Says l) (flags_commands path inode.flags) (Utimes inode.mtime inode.atime path ∷ []) (says_flags l path p inode.flags h.flags only)
              (says l (Utimes inode.mtime inode.atime path) refl refl (h.mtime, (h.atime, (path_fits l path p 15, tt))), tt))),
        )
      where
        unless : (b : Bool) (cs : List Command) → AllByRecursion (Says l) cs → AllByRecursion (Says l) (if b then [] else cs)
        unless true cs g = tt
        unless false cs g = g

  says_if : (b : Bool) (cs ds : List Command) → AllByRecursion (Says l) cs → AllByRecursion (Says l) ds → AllByRecursion (Says l) (if b then cs else ds)
  says_if true cs ds h g = h
  says_if false cs ds h g = g

  says_arriving : (at_once : Bool) (ino : ℕ) (path : List ℕ) (inode : Inode Cell) → IsTellable path → IsTellable (temporary ino) → IsTold inode → AllByRecursion (Says l) (arriving at_once ino path inode)
  unfolding row kind_of_number
  says_arriving at_once ino [] inode p q h = tt
  says_arriving true ino (b ∷ path) inode p q h = (says_making l (b ∷ path) p inode.kind inode h, tt)
  says_arriving false ino (b ∷ path) inode p q h =
      (says_making l (temporary ino) q inode.kind inode h, (says l (Rename (temporary ino) (b ∷ path)) refl refl (path_fits l (temporary ino) q 15, (path_fits l (b ∷ path) p 16, tt)), tt))

  module _ (s : Subvolume Cell) where
    says_placed : (e : List ℕ × ℕ) → Known l (e.0, listed s e.1) → IsTellable (temporary e.1) → AllByRecursion (Says l) (placed s e)
    unfolding row kind_of_number
    says_placed e k q =
        let inode : Inode Cell = (listed s e.1).inode in
        says_if (bytes_eq e.0 (listed s e.1).first) (placed_inode (has_temporary s e.1) e.1 e.0 inode) (Link e.0 (listed s e.1).first ∷ [])
        (all_both (Says l) (arriving (has_temporary s e.1) e.1 e.0 inode) _ (says_arriving (has_temporary s e.1) e.1 e.0 inode k.path q k.told)
        (says_if (is_directory_kind inode.kind) [] _ tt
        (all_both (Says l) (contents_commands e.0 inode.cells) (finishing e.0 inode) (says_contents l e.0 k.path inode.cells k.is.size k.told.cells) (says_finishing e.0 k.path inode k.told k.is k.only))))
        (says l (Link e.0 (listed s e.1).first) refl refl (path_fits l e.0 k.path 15, (path_fits l (listed s e.1).first k.first 17, tt)), tt)

    says_all_placed : (m : Map (List ℕ) ℕ) → AllByRecursion (Known l) (map (λ (e : List ℕ × ℕ). (e.0, listed s e.1)) m) → AllByRecursion (λ (e : List ℕ × ℕ). IsTellable (temporary e.1)) m → AllByRecursion (Says l) (flat_map (placed s) m)
    says_all_placed [] k q = tt
    says_all_placed (e ∷ m) k q = all_both (Says l) (placed s e) (flat_map (placed s) m) (says_placed e k.0 q.0) (says_all_placed m k.1 q.1)

    says_back : (m : Map (List ℕ) ℕ) → AllByRecursion (Known l) (map (λ (e : List ℕ × ℕ). (e.0, listed s e.1)) m) → AllByRecursion (Says l) (directories_back s m)
    says_back [] k = tt
    says_back (e ∷ m) k = all_both (Says l) (directories_back s m) _ (says_back m k.1)
        (says_if (is_directory_kind (listed s e.1).inode.kind) (finishing e.0 (listed s e.1).inode) [] (says_finishing e.0 k.0.path (listed s e.1).inode k.0.told k.0.is k.0.only) tt)

    says_capabilities : (m : Map (List ℕ) ℕ) → AllByRecursion (Known l) (map (λ (e : List ℕ × ℕ). (e.0, listed s e.1)) m) → AllByRecursion (Says l) (flat_map (capabilities s) m)
    says_capabilities [] k = tt
    says_capabilities (e ∷ m) k = all_both (Says l) (capabilities s e) (flat_map (capabilities s) m)
        (says_if (bytes_eq e.0 (listed s e.1).first) (capability_commands e.0 (listed s e.1).inode) [] (says_kept e.0 k.0.path (listed s e.1).inode k.0.told k.0.is k.0.only is_capability) tt) (says_capabilities m k.1)

pub restored_is_spellable : RestoredIsSpellable
unfolding restored restored_edits sent_version listing
restored_is_spellable name key s sendable low told =
    let l : Bool = later s sendable told.names told.inodes in
    let k = all_known s sendable told.names told.inodes in
    between_said name key s (restored_edits s) told
    (all_both (Says l) (flat_map (placed s) (paths_of s)) _ (says_all_placed l s (paths_of s) k (all_low (paths_of s) (λ e a. a)))
    (all_both (Says l) (directories_back s (paths_of s)) (flat_map (capabilities s) (paths_of s)) (says_back l s (paths_of s) k) (says_capabilities l s (paths_of s) k)))
  where
    one_low : (e : List ℕ × ℕ) → Among e (paths_of s) → IsTellable (temporary e.1)
    one_low e a =
        let w : walk s e.0 ≡ Ok e.1 = path_found_walks s sendable.lawful e.0 e.1 (entry_found bytes_cmp nat_list_cmp_total exact_bytes e (paths_of s) (paths_ordered s) a) in
        let found = entry s sendable e.0 e.1 w in
        let below : e.1 < s.next = sendable.lawful.sound.below_next e.1 (ap is_some found.at) in
        let fits = temporary_fits e.1 (omega (arith, below, low)) in
        record { short = fits.0; bytes = fits.1 }

    all_low : (m : Map (List ℕ) ℕ) → ((e : List ℕ × ℕ) → Among e m → Among e (paths_of s)) → AllByRecursion (λ (e : List ℕ × ℕ). IsTellable (temporary e.1)) m
    all_low [] sub = tt
    all_low (e ∷ m) sub = (one_low e (sub e (inl refl)), all_low m (λ x a. sub x (inr a)))

-- ---- their stream

abbrev item_of : ℕ → Command → Item
item_of version c = record { file = 1; number = 1; offset = 0; version = version; data_at = 0; command = c }

-- The commands of one stream as items.
spelled_so : (version : ℕ) (cs : List Command) → AllByRecursion (λ c. is_end c ≡ false) cs → exported_from false (map (item_of version) (cs ++ End ∷ [])) ≡ flat_map (receivable version) (cs ++ End ∷ [])
unfolding exported_from
spelled_so version [] none = refl
spelled_so version (c ∷ cs) none =
    ap (λ (b : Bool). receivable version c ++ exported_from b (map (item_of version) (cs ++ End ∷ []))) none.0
    ∙ ap (λ (bytes : List ℕ). receivable version c ++ bytes) (spelled_so version cs none.1)

stand_so : (version : ℕ) (cs : List Command) → is_version version ≡ true → AllByRecursion (λ c. is_end c ≡ false) cs → AllByRecursion (IsSpellable version) (cs ++ End ∷ []) → StandsIn (CommandDue version) (map (item_of version) (cs ++ End ∷ []))
stand_so version [] is none said = (refl, (record { spellable = said.0 }, is), tt)
stand_so version (c ∷ cs) is none said =
    (refl, (record { spellable = said.0 }, is), subst (λ (b : Bool). StandsIn (if b then HeaderDue else CommandDue version) (map (item_of version) (cs ++ End ∷ []))) (sym none.0) (stand_so version cs is none.1 said.1))

plain_ends : (cs : List Command) → AllByRecursion IsPlain cs → AllByRecursion (λ c. is_end c ≡ false) cs
plain_ends [] all = tt
plain_ends (c ∷ cs) all = (plain_no_end c all.0, plain_ends cs all.1)

abbrev commands_said : List (ℕ × Command) → List Command
commands_said said = map (λ x. x.1) said

said_items : (items : List Item) → commands_said (map said items) ≡ commands_of items
said_items [] = refl
said_items (item ∷ items) = ap (λ (cs : List Command). item.command ∷ cs) (said_items items)

said_commands : (version : ℕ) (cs : List Command) → commands_said (map said (map (item_of version) cs)) ≡ cs
said_commands version [] = refl
said_commands version (c ∷ cs) = ap (λ (ds : List Command). c ∷ ds) (said_commands version cs)

pub restored_stream_is_received : RestoredStreamIsReceived
unfolding restored_stream restored exported_from
restored_stream_is_received name key s store sendable low is told new =
    let version : ℕ = sent_version s in
    let head : Command = Subvol key.uuid key.ctransid name in
    let cs : List Command = restored_edits s in
    let items : List Item = map (item_of version) (head ∷ (cs ++ End ∷ [])) in
    let spellable = restored_is_spellable name key s sendable low told in
    let ends = plain_ends cs (plain_restored s) in
    let stand = stand_so version (head ∷ cs) (version_one s) (refl, ends) spellable in
    let bytes : exported_from true items ≡ restored_stream name key s = ap (λ (rest : List ℕ). stream_header version ++ (receivable version head ++ rest)) (spelled_so version cs ends) in
    let back = exported_back items (λ e. cc) (tt, stand.1, stand.2) in
    let are : commands_of (reads 1 (exported_from true items)).items ≡ restored name key s =
    sym (said_items (reads 1 (exported_from true items)).items) ∙ ap commands_said back.same ∙ said_commands version (head ∷ (cs ++ End ∷ [])) in
    let r = (restored_is_received name key s (reads 1 (exported_from true items)).items sendable low is are).bytes store new in
    subst (λ (file : List ℕ). FileIsReceivedAs name key s store file) bytes
    (r.after, received_as store (exported_from true items) _ back.whole r.run, r.same)
