-- The headline with the part that is being composed as a source, over items.
use Rattle.std.specs.Prelude.{◌≡◌, ℕ, ◌+◌, Bool, true, false, List, [], ◌∷◌, ◌++◌, map, Option, None, Some, Result, Ok, Err, if◌then◌else◌}
use Rattle.std.specs.List.{AllByRecursion, count_by, flat_map}
use Rattle.std.proofs.Common.{refl, sym, ap, ap₂, subst, ◌∙◌, inl, inr}
use Rattle.std.proofs.lemmas.Bool.{false≢true}
use Rattle.send_model.specs.Refusal.{Refusal}
use Rattle.send_model.specs.Command.{Command, Subvol, Snapshot, Clone, End}
use Rattle.send_model.specs.Reading.{Item}
use Rattle.send_model.specs.Subvolume.{Subvolume, walk, IsLawful}
use Rattle.send_model.specs.Edit.{overwritten, change_inode, set_cells}
use Rattle.send_model.specs.Clone.{Cloned, cloned, clone_values}
use Rattle.send_model.specs.Store.{Key, Head, Store, Part, State, find}
use Rattle.send_model.specs.Receive.{Run, run_items, byte_cells, start_of, IsAccepted}
use Rattle.send_model.specs.Order.{heads, commands_of, IsConsecutive}
use Rattle.send_model.specs.Outside.{IsAmong, is_among, part_uuids, base_of, all_keys_named, keys_outside, FindsLawful}
use Rattle.send_model.specs.Provenance.{Piece, is_own, is_redirected, pieces_by, blocks, clone_range, uuid_after, literal_in, runs_among}
use Rattle.send_model.specs.Counts.{is_clone, literal, kept_from}
use Rattle.send_model.specs.Composed.{first_head, last_head, piece_commands, pieces_commands, commands_by, list_by, for_parts}
use Rattle.send_model.specs.Headline.{last_entry}
use Rattle.send_model.specs.Cells.{recelled}
use Rattle.send_model.proofs.ElementLaws.{all_both}
use Rattle.send_model.proofs.Sorts.{same_inside, plain_names_nothing}
use Rattle.send_model.proofs.Runs.{Takes, takes_run, runs_taken}
use Rattle.send_model.proofs.Composed.{first_there, last_of_some}
use Rattle.send_model.proofs.Headlines.{without_finds}
use Rattle.send_model.proofs.CellClones.{recloned, cloned-cells}
use Rattle.send_model.proofs.Held.{cloned_holds}
use Rattle.send_model.proofs.Carrying.{Covers}
use Rattle.send_model.proofs.Counting.{written}
use Rattle.send_model.proofs.CountAny.{left_over, run_count, pieces_written, pieces_clones, AsMuch, list_literal, list_clones, whole_literal_of, whole_clones_of}
use Rattle.send_model.proofs.Naming.{pieces_named}
use Rattle.send_model.proofs.Redirected.{cloned_facts}
use Rattle.send_model.proofs.Elsewhere.{AreApart}
use Rattle.send_model.proofs.MergingAny.{part_with, elsewhere, InsteadLaw}
use Rattle.send_model.proofs.ComposedClones.{all_ours, last_ours, outside_apart, items_any, MayName, NamesFew, few_each, whole_few}
use Rattle.send_model.proofs.HeadlineClones.{AreQuiet, IsQuiet, pieces_quiet, head_once, stream_once}
use Rattle.standing_model.specs.Births.{Tagged, byte_in, untagged, tagged_store, tagged_after}
use Rattle.standing_model.specs.Standing.{source_of, clone_target, standing_pieces, pieces_standing, last_key_of, with_part, standing_commands, selfed_from, selfed_edits, selfed_with, selfed_of}
use Rattle.standing_model.specs.Promises.{IsThere, AreThere, AreSelfComposed}
use Rattle.standing_model.proofs.Told.{IsTold}
use Rattle.standing_model.proofs.TaggedBase.{celled, KeepsSaid, IsKnown, IsGoodItem, keeps, root_known, lawful_said}
use Rattle.standing_model.proofs.Sources.{standing_covered}
use Rattle.standing_model.proofs.StandingClones.{standing_taken}

-- ---- the law of what stands for a redirected clone

target_is : (s : Subvolume Tagged) (path : List ℕ) (offset : ℕ) (uuid : List ℕ) (ctransid : ℕ) (clone_path : List ℕ) (from len ino : ℕ) → walk s path ≡ Ok ino → clone_target s (Clone path offset uuid ctransid clone_path from len) ≡ ino
target_is s path offset uuid ctransid clone_path from len ino e = ap (λ (r : Result ℕ Refusal). elim r as (λ x. ℕ) [ Err refusal ↦ 0 | Ok i ↦ i ]) e

module _ (files : List (List ℕ)) (base : Store ℕ) (keys : List Key) (lawful : FindsLawful base keys) (parts : List (List ℕ)) (last : Key) (apart : AreApart keys last) (none : find base last ≡ None)
    (Said : Subvolume ℕ → Type 0) (ItemSaid : Item → Type 0) (said : KeepsSaid files base keys Said ItemSaid) (Fine : Command → Type 0) where
  abbrev instead : State Tagged → Command → List Command
  instead = standing_commands base last

  -- What stands for the clone, by its range.
  instead_is : (store : Store Tagged) (key : Key) (s : Subvolume Tagged) (path : List ℕ) (offset : ℕ) (uuid : List ℕ) (ctransid : ℕ) (clone_path : List ℕ) (from len ino : ℕ) (cells : List Tagged)
      → walk s path ≡ Ok ino → clone_range (part_with celled store key s) (Clone path offset uuid ctransid clone_path from len) ≡ cells
      → instead (part_with celled store key s) (Clone path offset uuid ctransid clone_path from len) ≡ flat_map (piece_commands (with_part last s base) path offset) (pieces_by byte_in (source_of base last s ino) 0 (blocks cells))
  unfolding standing_commands standing_pieces
  instead_is store key s path offset uuid ctransid clone_path from len ino cells w e =
      ap₂ (λ (i : ℕ) (cs : List Tagged). flat_map (piece_commands (with_part last s base) path offset) (pieces_by byte_in (source_of base last s i) 0 (blocks cs))) (target_is s path offset uuid ctransid clone_path from len ino w) e

  -- The commands of pieces that cover a range are fine.
  abbrev pub PiecesFine : Type 0
  PiecesFine = (item : Item) (s source : Subvolume ℕ) (path : List ℕ) (offset : ℕ) (uuid : List ℕ) (ctransid : ℕ) (clone_path : List ℕ) (from len : ℕ) (range : Cloned ℕ) (part : Subvolume Tagged) (pieces : List Piece)
      → ItemSaid (record item { command = Clone path offset uuid ctransid clone_path from len }) → Said s → Said source → s ≡ recelled byte_in part → cloned s (Some source) false (clone_values path offset clone_path from len) ≡ Ok range
      → Covers (with_part last part base) (last ∷ keys) 0 pieces range.cells → AllByRecursion Fine (flat_map (piece_commands (with_part last part base) path offset) pieces)

  abbrev pub Law : Type 0
  Law = InsteadLaw celled base (tagged_store base) keys (IsKnown files base keys lawful Said ItemSaid said) (IsGoodItem files base keys lawful Said ItemSaid said) (keeps files base keys lawful Said ItemSaid said) instead parts last Fine

  pub law : PiecesFine → Law
  law pieces_fine item store key s source path offset uuid ctransid clone_path from len range item_good known source_known made range_is =
      let facts = cloned_facts s source false path offset clone_path from len range made in
      let is = instead_is store key s path offset uuid ctransid clone_path from len range.ino range.cells facts.walked range_is in
      let next : Subvolume Tagged = change_inode range.ino (set_cells (overwritten (untagged 0) offset range.cells)) s in
      let told : AllByRecursion (IsTold files base keys) range.cells = cloned_holds (IsTold files base keys) s (Some source) false path offset clone_path from len range known.0
      (λ v q. let same : IsKnown files base keys lawful Said ItemSaid said v = subst (IsKnown files base keys lawful Said ItemSaid said) (same_inside q) source_known in same.0) made in
      let covered = standing_covered files base keys last apart s range.ino known.0 range.cells told in
      let pieces : List Piece = pieces_by byte_in (source_of base last s range.ino) 0 (blocks range.cells) in
      let plain_made : cloned (recelled byte_in s) (Some (recelled byte_in source)) false (clone_values path offset clone_path from len) ≡ Ok (record { ino = range.ino; cells = map byte_in range.cells }) =
      cloned-cells byte_in s (Some source) false path offset clone_path from len ∙ ap (recloned byte_in) made in
      record {
        taken = λ u agrees. subst (λ (cs : List Command). Takes (elsewhere celled last u s) cs (elsewhere celled last u next)) (sym is)
            (standing_taken files base keys last apart none lawful u agrees s source path offset clone_path from len range made (said.lawful (recelled byte_in s) known.1) known.0 source_known.0);
        fine = subst (λ (cs : List Command). AllByRecursion Fine cs) (sym is)
            (pieces_fine item (recelled byte_in s) (recelled byte_in source) path offset uuid ctransid clone_path from len (record { ino = range.ino; cells = map byte_in range.cells }) s pieces item_good.1 known.1 source_known.1 refl plain_made covered);
      }

-- ---- the keys that are named

module _ (keys : List Key) (last : Key) where
  may_so : (qs : List Key) → AllByRecursion (λ q. IsAmong q (last ∷ keys)) qs → AllByRecursion (MayName keys last) qs
  may_so [] a = tt
  may_so (q ∷ qs) a = (elim a.0 [ inl own ↦ inr (sym own) | inr among ↦ inl among ], may_so qs a.1)

-- ---- counts, and that no head and no END stands among what is composed

module _ (base : Store ℕ) (last : Key) (path : List ℕ) (offset : ℕ) (uuid : List ℕ) (ctransid : ℕ) (clone_path : List ℕ) (from len : ℕ) where
  abbrev this : Command
  this = Clone path offset uuid ctransid clone_path from len

  -- The pieces of the clone in a part, for its range.
  abbrev pieces_in : Option (Part Tagged) → List Tagged → List Piece
  pieces_in o range = elim o [ None ↦ [] | Some part ↦ pieces_by byte_in (source_of base last part.subvolume (clone_target part.subvolume this)) 0 (blocks range) ]

  clone_bytes : (state : State Tagged) → written (standing_commands base last state this) ≡ left_over (standing_pieces base last state this)
  unfolding standing_commands standing_pieces
  clone_bytes state = one state.part (clone_range state this)
    where
      one : (o : Option (Part Tagged)) (range : List Tagged)
          → written (elim o as (λ x. List Command) [ None ↦ [] | Some part ↦ flat_map (piece_commands (with_part last part.subvolume base) path offset) (pieces_in o range) ]) ≡ left_over (pieces_in o range)
      one None range = refl
      one (Some part) range = pieces_written (with_part last part.subvolume base) path offset (pieces_in (Some part) range)

  clone_count : (state : State Tagged) → count_by is_clone (standing_commands base last state this) ≡ run_count (standing_pieces base last state this)
  unfolding standing_commands standing_pieces
  clone_count state = one state.part (clone_range state this)
    where
      one : (o : Option (Part Tagged)) (range : List Tagged)
          → count_by is_clone (elim o as (λ x. List Command) [ None ↦ [] | Some part ↦ flat_map (piece_commands (with_part last part.subvolume base) path offset) (pieces_in o range) ]) ≡ run_count (pieces_in o range)
      one None range = refl
      one (Some part) range = pieces_clones (with_part last part.subvolume base) path offset (pieces_in (Some part) range)

much_bytes : (base : Store ℕ) (last : Key) (state : State Tagged) (c : Command) → is_clone c ≡ true → written (standing_commands base last state c) ≡ left_over (standing_pieces base last state c)
much_bytes base last state (Clone path offset uuid ctransid clone_path from len) h = clone_bytes base last path offset uuid ctransid clone_path from len state
much_bytes base last state c h = absurd (false≢true h)

much_count : (base : Store ℕ) (last : Key) (state : State Tagged) (c : Command) → is_clone c ≡ true → count_by is_clone (standing_commands base last state c) ≡ run_count (standing_pieces base last state c)
much_count base last state (Clone path offset uuid ctransid clone_path from len) h = clone_count base last path offset uuid ctransid clone_path from len state
much_count base last state c h = absurd (false≢true h)

much_as : (base : Store ℕ) (last : Key) → AsMuch (standing_commands base last) (standing_pieces base last)
much_as base last = record { bytes = much_bytes base last; count = much_count base last }

module _ (base : Store ℕ) (parts : List (List ℕ)) (last : Key) where
  pieces_all_quiet : (c : Command) (store : Store ℕ) (ps : List Piece) → AreQuiet (pieces_commands store c ps)
  pieces_all_quiet (Clone path offset uuid ctransid clone_path from len) store ps = pieces_quiet store path offset ps
  pieces_all_quiet c store ps = tt

  instead_quiet : (state : State Tagged) (c : Command) → AreQuiet (standing_commands base last state c)
  unfolding standing_commands
  instead_quiet state c = one state.part
    where
      one : (o : Option (Part Tagged)) → AreQuiet (elim o as (λ x. List Command) [ None ↦ [] | Some part ↦ pieces_commands (with_part last part.subvolume base) c (standing_pieces base last state c) ])
      one None = tt
      one (Some part) = pieces_all_quiet c (with_part last part.subvolume base) (standing_pieces base last state c)

  for_quiet : (state : State Tagged) (current : Option (List ℕ)) (c : Command) → AreQuiet (commands_by (standing_commands base last) parts last state current c)
  for_quiet state current End = tt
  for_quiet state current (Subvol uuid ctransid path) = tt
  for_quiet state current (Snapshot uuid ctransid path clone_uuid clone_ctransid) = tt
  for_quiet state current (Clone path offset uuid ctransid clone_path from len) = one (is_own current uuid) (is_redirected parts current this)
    where
      this : Command
      this = Clone path offset uuid ctransid clone_path from len

      one : (a b : Bool) → AreQuiet (if a then Clone path offset last.uuid last.ctransid clone_path from len ∷ []
          else (if b then standing_commands base last state (Clone path offset uuid ctransid clone_path from len) else Clone path offset uuid ctransid clone_path from len ∷ []))
      one true b = ((refl, refl), tt)
      one false true = instead_quiet state (Clone path offset uuid ctransid clone_path from len)
      one false false = ((refl, refl), tt)
  for_quiet state current c = ((refl, refl), tt)

  list_quiet : (items : List Item) (state : State Tagged) (current : Option (List ℕ)) → AreQuiet (list_by tagged_after (commands_by (standing_commands base last) parts last) state current items)
  unfolding list_by
  list_quiet [] state current = tt
  list_quiet (item ∷ items) state current =
      all_both IsQuiet (commands_by (standing_commands base last) parts last state current item.command) (list_by tagged_after (commands_by (standing_commands base last) parts last) (tagged_after state item) (uuid_after current item.command) items)
      (for_quiet state current item.command) (list_quiet items (tagged_after state item) (uuid_after current item.command))

-- ---- items

last_key_is : (items : List Item) (last : Head) → last_head (heads items) ≡ Some last → last_key_of items ≡ last.key
last_key_is items last e = ap (λ (o : Option Head). elim o as (λ x. Key) [ None ↦ record { uuid = []; ctransid = 0 } | Some head ↦ head.key ]) e

good_items : (files : List (List ℕ)) (items : List Item) → AreThere files items → AllByRecursion (λ item. IsThere files item × Unit {0}) items
good_items files [] a = tt
good_items files (item ∷ items) a = ((a.0, tt), good_items files items a.1)

-- What items that are taken in order are composed to, where their data stand in their files.
pub self_items : (files : List (List ℕ)) (store : Store ℕ) (items : List Item) (first last : Head) → first_head (heads items) ≡ Some first → last_head (heads items) ≡ Some last
    → IsConsecutive items → IsAccepted (run_items 0 byte_cells (start_of (base_of store items)) items) → FindsLawful (base_of store items) (keys_outside items) → AreThere files items
    → AreSelfComposed (base_of store items) items (selfed_with (base_of store items) first last items)
unfolding selfed_with selfed_edits selfed_from
self_items files store items first last first_is last_is consecutive accepted lawful there =
    let parts : List (List ℕ) = part_uuids items in
    let keys : List Key = keys_outside items in
    let base : Store ℕ = base_of store items in
    let cs : List Command = commands_of items in
    let ran : Run ℕ = run_items 0 byte_cells (start_of base) items in
    let our_last : is_among parts last.key.uuid ≡ true = last_ours parts (heads items) last (all_ours (heads items)) last_is in
    let apart : AreApart keys last.key = outside_apart parts (all_keys_named cs) last.key our_last in
    let none : find base last.key ≡ None = without_finds parts store last.key our_last in
    let Said : Subvolume ℕ → Type 0 = λ s. IsLawful s in
    let ItemSaid : Item → Type 0 = λ item. Unit {0} in
    let said = lawful_said files base keys lawful in
    let Fine : Command → Type 0 = NamesFew keys last.key in
    let pieces_fine : PiecesFine files base keys lawful parts last.key apart none Said ItemSaid said Fine = λ item s source path offset uuid ctransid clone_path from len range part pieces item_said s_said source_said is made covered.
    few_each keys last.key (flat_map (piece_commands (with_part last.key part base) path offset) pieces)
    (may_so keys last.key (all_keys_named (flat_map (piece_commands (with_part last.key part base) path offset) pieces)) (pieces_named (with_part last.key part base) (last.key ∷ keys) path offset 0 pieces range.cells covered)) in
    let stands : State Tagged → Command → List Command = standing_commands base last.key in
    let k = items_any celled store items first last (tagged_store base) (IsKnown files base keys lawful Said ItemSaid said) (IsGoodItem files base keys lawful Said ItemSaid said) (keeps files base keys lawful Said ItemSaid said)
    (root_known files base keys lawful Said ItemSaid said) stands Fine
    (record {
      plain = λ item g h. subst (λ (ks : List Key). AllByRecursion (MayName keys last.key) ks) (sym (plain_names_nothing item.command h)) tt;
      own = λ item path offset uuid ctransid clone_path from len g. (inr refl, tt);
      outside = λ item path offset uuid ctransid clone_path from len g among. (inl among, tt);
    })
    (law files base keys lawful parts last.key apart none Said ItemSaid said Fine pieces_fine) first_is last_is consecutive (good_items files items there) ran.state (takes_run items (start_of base) accepted) in
    let edits : List Command = list_by tagged_after (commands_by stands parts last.key) (start_of (tagged_store base)) None items in
    let quiet : AreQuiet edits = list_quiet base parts last.key items (start_of (tagged_store base)) None in
    let key_is : last.key ≡ last_key_of items = sym (last_key_is items last last_is) in
    record {
      first = first;
      last = last;
      subvolume = k.subvolume;
      first_is = first_is;
      last_is = last_is;
      subvolume_is = k.subvolume_is;
      one_part = head_once last.name last.key first.parent edits quiet;
      one_stream = stream_once last.name last.key first.parent edits quiet;
      gets = λ t same no_name no_uuid written is.
          let end : State ℕ = start_of (t ++ last_entry first last k.subvolume ∷ []) in
          runs_taken written (start_of t) end (subst (λ (ds : List Command). Takes (start_of t) ds end) (sym is) (k.taken t same no_name no_uuid));
      names_only = whole_few keys last.key first last edits k.first_named k.fine;
      literal_bytes =
          whole_literal_of first last edits ∙ list_literal tagged_after stands (standing_pieces base last.key) (much_as base last.key) parts last.key items (start_of (tagged_store base)) None
          ∙ ap (λ (q : Key). literal cs + literal_in (pieces_standing base q items)) key_is;
      clone_count =
          whole_clones_of first last edits ∙ list_clones tagged_after stands (standing_pieces base last.key) (much_as base last.key) parts last.key items (start_of (tagged_store base)) None
          ∙ ap (λ (q : Key). kept_from parts None cs + runs_among (pieces_standing base q items)) key_is;
    }

-- All that composing with itself promises of items.
pub self_items_hold : (files : List (List ℕ)) (store : Store ℕ) (items : List Item) → IsConsecutive items
    → IsAccepted (run_items 0 byte_cells (start_of (base_of store items)) items) → FindsLawful (base_of store items) (keys_outside items) → AreThere files items
    → AreSelfComposed (base_of store items) items (selfed_of (base_of store items) items)
self_items_hold files store items consecutive accepted lawful there =
    let b : Store ℕ = base_of store items in
    let first = first_there (heads items) consecutive.0 in
    let last = last_of_some (heads items) consecutive.0 in
    let list : Option Head → Option Head → List Command = λ f l. for_parts (λ x y. selfed_with b x y items) f l in
    subst (λ (cs : List Command). AreSelfComposed b items cs) (sym (ap₂ list first.1 last.1)) (self_items files store items first.0 last.0 first.1 last.1 consecutive accepted lawful there)
