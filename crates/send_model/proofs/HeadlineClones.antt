-- The headline with clones: what is composed from items, and what is written for files, is accepted
-- by every store that finds the same outside subvolumes, and gives it the last part's subvolume.
use Rattle.std.specs.Prelude.{◌≡◌, ◌⊎◌, ℕ, ◌+◌, Bool, true, false, cond, List, [], ◌∷◌, ◌++◌, length, drop, Option, None, Some, zero, suc, if◌then◌else◌}
use Rattle.std.specs.List.{AllByRecursion, count_by, flat_map}
use Rattle.std.proofs.Common.{refl, sym, ap, subst, ◌∙◌, arith}
use Rattle.std.proofs.lemmas.List.Sums.{sum_by-cons}
use Rattle.send_model.specs.Command.{Command, Subvol, Snapshot, Clone, End}
use Rattle.send_model.specs.Spelling.{stream_header, canonical_all}
use Rattle.send_model.specs.Reading.{is_version, Item, Reading, Whole, reads}
use Rattle.send_model.specs.Store.{Key, Head, head_of, Store, Part, State, find, with_contents, completed}
use Rattle.send_model.specs.Receive.{Run, run_items, byte_cells, receive, receive_of, receive_items, start_of, fault_of, IsAccepted}
use Rattle.send_model.specs.Order.{onto_heads, heads, heads_of, commands_of, IsConsecutive}
use Rattle.send_model.specs.Outside.{IsAmong, base_of, keys_outside, all_keys_named, FindsLawful}
use Rattle.send_model.specs.Provenance.{Traced, Piece, Carried, Literal, is_own, is_redirected, clone_range, pieces_of, traced_step, uuid_after, traced_store, uncarried_cells, carried_runs}
use Rattle.send_model.specs.Counts.{literal, clones, is_end, streams}
use Rattle.send_model.specs.Composed.{first_head, last_head, head_command, write_len, writes_from, piece_commands, commands_for, composed_from, composed_edits, whole_list, composed_with}
use Rattle.send_model.specs.Headline.{AreComposedBy, AreComposed, CanReceiveOf, IsComposedBy, IsComposedOf, last_entry}
use Rattle.send_model.proofs.Runs.{Takes, takes_run, runs_taken}
use Rattle.send_model.proofs.Streams.{IsInner, ReadsAs, stream_read}
use Rattle.send_model.proofs.Endings.{EndsWell}
use Rattle.send_model.proofs.Headlines.{first_none, received_as, no_part_at_end}
use Rattle.send_model.proofs.ElementLaws.{all_both}
use Rattle.send_model.proofs.Elsewhere.{lawful_ordered, redirected_law}
use Rattle.send_model.proofs.CountLaws.{whole_literal, whole_clones}
use Rattle.send_model.proofs.ComposedClones.{items_compose}

-- ---- what is composed holds no head and no END

abbrev pub IsQuiet : Command → Type 0
IsQuiet c = (head_of c ≡ None) × (is_end c ≡ false)

abbrev pub AreQuiet : List Command → Type 0
AreQuiet cs = AllByRecursion IsQuiet cs

heads_past : (cs rest : List Command) → AreQuiet cs → heads_of (cs ++ rest) ≡ heads_of rest
unfolding heads_of
heads_past [] rest n = refl
heads_past (c ∷ cs) rest n = ap (λ (o : Option Head). onto_heads o (heads_of (cs ++ rest))) n.0.0 ∙ heads_past cs rest n.1

writes_quiet : (n at : ℕ) (path bytes : List ℕ) → AreQuiet (writes_from n path at bytes)
writes_quiet zero at path bytes = tt
writes_quiet (suc n) at path [] = tt
writes_quiet (suc n) at path (b ∷ bytes) = ((refl, refl), writes_quiet n (at + write_len) path (drop write_len (b ∷ bytes)))

pub pieces_quiet : (store : Store ℕ) (path : List ℕ) (offset : ℕ) (ps : List Piece) → AreQuiet (flat_map (piece_commands store path offset) ps)
pieces_quiet store path offset [] = tt
pieces_quiet store path offset (Literal at bytes ∷ ps) =
    all_both IsQuiet (writes_from (length bytes) path (offset + at) bytes) (flat_map (piece_commands store path offset) ps) (writes_quiet (length bytes) (offset + at) path bytes) (pieces_quiet store path offset ps)
pieces_quiet store path offset (Carried at place len ∷ ps) = ((refl, refl), pieces_quiet store path offset ps)

module _ (store : Store ℕ) (parts : List (List ℕ)) (last : Key) where
  for_quiet : (state : State Traced) (current : Option (List ℕ)) (c : Command) → AreQuiet (commands_for store parts last state current c)
  for_quiet state current End = tt
  for_quiet state current (Subvol uuid ctransid path) = tt
  for_quiet state current (Snapshot uuid ctransid path clone_uuid clone_ctransid) = tt
  for_quiet state current (Clone path offset clone_uuid clone_ctransid clone_path clone_offset clone_len) = one (is_own current clone_uuid) (is_redirected parts current this)
    where
      this : Command
      this = Clone path offset clone_uuid clone_ctransid clone_path clone_offset clone_len

      one : (a b : Bool) → AreQuiet (if a then Clone path offset last.uuid last.ctransid clone_path clone_offset clone_len ∷ []
          else (if b then flat_map (piece_commands store path offset) (pieces_of store (clone_range state (Clone path offset clone_uuid clone_ctransid clone_path clone_offset clone_len)))
          else Clone path offset clone_uuid clone_ctransid clone_path clone_offset clone_len ∷ []))
      one true b = ((refl, refl), tt)
      one false true = pieces_quiet store path offset (pieces_of store (clone_range state (Clone path offset clone_uuid clone_ctransid clone_path clone_offset clone_len)))
      one false false = ((refl, refl), tt)
  for_quiet state current c = ((refl, refl), tt)

  composed_quiet : (items : List Item) (state : State Traced) (current : Option (List ℕ)) → AreQuiet (composed_from store parts last state current items)
  unfolding composed_from
  composed_quiet [] state current = tt
  composed_quiet (item ∷ items) state current =
      all_both IsQuiet (commands_for store parts last state current item.command) (composed_from store parts last (traced_step state item).state (uuid_after current item.command) items)
      (for_quiet state current item.command) (composed_quiet items (traced_step state item).state (uuid_after current item.command))

pub head_once : (name : List ℕ) (key : Key) (parent : Option Key) (es : List Command) → AreQuiet es → length (heads_of (head_command name key parent ∷ (es ++ End ∷ []))) ≡ 1
unfolding heads_of
head_once name key None es n = rw (heads_past es (End ∷ []) n) refl
head_once name key (Some k) es n = rw (heads_past es (End ∷ []) n) refl

quiet_streams : (cs rest : List Command) → AreQuiet cs → streams (cs ++ rest) ≡ streams rest
unfolding streams
quiet_streams [] rest n = refl
quiet_streams (c ∷ cs) rest n = sum_by-cons (λ (d : Command). cond (is_end d) 1 0) c (cs ++ rest) ∙ ap (λ (b : Bool). cond b 1 0 + count_by is_end (cs ++ rest)) n.0.1 ∙ zero_more (count_by is_end (cs ++ rest)) ∙ quiet_streams cs rest n.1
  where
    zero_more : (n : ℕ) → 0 + n ≡ n
    zero_more n = omega arith

pub stream_once : (name : List ℕ) (key : Key) (parent : Option Key) (es : List Command) → AreQuiet es → streams (head_command name key parent ∷ (es ++ End ∷ [])) ≡ 1
unfolding streams
stream_once name key parent es n =
    let head : Command = head_command name key parent in
    sum_by-cons (λ (d : Command). cond (is_end d) 1 0) head (es ++ End ∷ []) ∙ ap (λ (b : Bool). cond b 1 0 + count_by is_end (es ++ End ∷ [])) (no_end parent) ∙ zero_more (count_by is_end (es ++ End ∷ [])) ∙ quiet_streams es (End ∷ []) n
  where
    zero_more : (n : ℕ) → 0 + n ≡ n
    zero_more n = omega arith

    no_end : (parent : Option Key) → is_end (head_command name key parent) ≡ false
    no_end None = refl
    no_end (Some k) = refl

edits_quiet : (store : Store ℕ) (last : Key) (items : List Item) → AreQuiet (composed_edits store last items)
unfolding composed_edits
edits_quiet store last items = composed_quiet store _ last items (start_of (traced_store store)) None

-- ---- the headline

-- What items that are taken in order are composed to.
pub headline_items : (store : Store ℕ) (items : List Item) (first last : Head) → first_head (heads items) ≡ Some first → last_head (heads items) ≡ Some last
    → IsConsecutive items → IsAccepted (run_items 0 byte_cells (start_of (base_of store items)) items) → FindsLawful (base_of store items) (keys_outside items)
    → AreComposed (base_of store items) items (composed_with (base_of store items) first last items)
unfolding composed_with
headline_items store items first last first_is last_is consecutive accepted lawful =
    let b : Store ℕ = base_of store items in
    let keys : List Key = keys_outside items in
    let ran : Run ℕ = run_items 0 byte_cells (start_of b) items in
    let es : List Command = composed_edits b last.key items in
    let quiet : AreQuiet es = edits_quiet b last.key items in
    let k = items_compose store items first last ran.state (lawful_ordered b keys lawful) (redirected_law b keys last.key lawful) first_is last_is consecutive (takes_run items (start_of b) accepted) in
    record {
      first = first;
      last = last;
      subvolume = k.subvolume;
      first_is = first_is;
      last_is = last_is;
      subvolume_is = k.subvolume_is;
      one_part = head_once last.name last.key first.parent es quiet;
      one_stream = stream_once last.name last.key first.parent es quiet;
      gets = λ t same no_name no_uuid written is.
          let end : State ℕ = start_of (t ++ last_entry first last k.subvolume ∷ []) in
          runs_taken written (start_of t) end (subst (λ (cs : List Command). Takes (start_of t) cs end) (sym is) (k.taken t same no_name no_uuid));
      names_only = k.names_only;
      literal_bytes = whole_literal b first last items;
      clone_count = whole_clones b first last items;
    }

completed_none : (state : State ℕ) → state.part ≡ None → completed state ≡ state.store
unfolding completed
completed_none state e = ap (λ (o : Option (Part ℕ)). elim o as (λ x. Store ℕ) [ None ↦ state.store | Some part ↦ with_contents part.key.uuid part.subvolume state.store ]) e

-- What is written for commands that keep the promise over the items that were read, as one stream,
-- keeps it over what was read.
pub composed_reading : (written_bytes runs version : ℕ) (b : Store ℕ) (reading : Reading) (first last : Head) (es : List Command) (written : List ℕ)
    → reading.end ≡ Whole → EndsWell (commands_of reading.items) → IsConsecutive reading.items → IsAccepted (receive_of b reading)
    → is_version version ≡ true → AllByRecursion (IsInner version) (head_command last.name last.key first.parent ∷ es)
    → AreComposedBy written_bytes runs b reading.items (whole_list first last es) → written ≡ stream_header version ++ canonical_all version (whole_list first last es)
    → IsComposedBy written_bytes runs b reading written
unfolding receive_items
composed_reading written_bytes runs version b reading first last es written end_whole ends consecutive accepted read inner k is =
    let items : List Item = reading.items in
    let cs : List Command = commands_of items in
    let list : List Command = whole_list first last es in
    let ra : ReadsAs (reads 1 written) list = subst (λ (w : List ℕ). ReadsAs (reads 1 w) list) (sym is) (stream_read 1 version (head_command last.name last.key first.parent ∷ es) read inner) in
    let ran : Run ℕ = run_items 0 byte_cells (start_of b) items in
    let refused : ran.refused ≡ None = first_none ran.refused (fault_of reading.end) accepted in
    let none = no_part_at_end cs (start_of b) ran.state ends consecutive.0 (takes_run items (start_of b) refused) in
    let one : (t : Store ℕ) → CanReceiveOf b items k.last t → receive t (written ∷ []) ≡ record { state = record { store = t ++ last_entry k.first k.last k.subvolume ∷ []; part = None }; refused = None } =
    λ t can. received_as t written (start_of (t ++ last_entry k.first k.last k.subvolume ∷ [])) ra.whole (k.gets t can.same can.no_name can.no_uuid (reads 1 written).items ra.commands) in
    record {
      read_whole = end_whole;
      accepted = accepted;
      consecutive = consecutive;
      first = k.first;
      last = k.last;
      subvolume = k.subvolume;
      first_is = k.first_is;
      last_is = k.last_is;
      subvolume_is = ap (λ (st : Store ℕ). find st k.last.key) (sym (completed_none ran.state none)) ∙ k.subvolume_is;
      whole = ra.whole;
      one_part = ap (λ (ds : List Command). length (heads_of ds)) ra.commands ∙ k.one_part;
      one_stream = ap streams ra.commands ∙ k.one_stream;
      accepted_by = λ t can. ap (λ (r : Run ℕ). r.refused) (one t can);
      gets = λ t can. ap (λ (r : Run ℕ). r.state.store) (one t can);
      names_only = subst (λ (ks : List Key). AllByRecursion (λ key. IsAmong key (keys_outside items) ⊎ (key ≡ k.last.key)) ks) (sym (ap all_keys_named ra.commands)) k.names_only;
      literal_bytes = ap literal ra.commands ∙ k.literal_bytes;
      clone_count = ap clones ra.commands ∙ k.clone_count;
    }

-- Everything that is known of what was read and taken in order, and of its composed list.
pub record IsTaken (version : ℕ) (store : Store ℕ) (reading : Reading) (first last : Head) : Type 0 where
  pub whole : reading.end ≡ Whole
  pub ends : EndsWell (commands_of reading.items)
  pub consecutive : IsConsecutive reading.items
  pub accepted : IsAccepted (receive_of (base_of store reading.items) reading)
  pub first_is : first_head (heads reading.items) ≡ Some first
  pub last_is : last_head (heads reading.items) ≡ Some last
  pub lawful : FindsLawful (base_of store reading.items) (keys_outside reading.items)
  -- the list can be spelled in a version that is read
  pub read : is_version version ≡ true
  pub inner : AllByRecursion (IsInner version) (head_command last.name last.key first.parent ∷ composed_edits (base_of store reading.items) last.key reading.items)

-- What compose writes for what was taken in order, clones included.
pub headline_reading : (version : ℕ) (store : Store ℕ) (reading : Reading) (first last : Head) (written : List ℕ) → IsTaken version store reading first last
    → written ≡ stream_header version ++ canonical_all version (composed_with (base_of store reading.items) first last reading.items)
    → IsComposedOf (base_of store reading.items) reading written
unfolding receive_items composed_with
headline_reading version store reading first last written a is =
    let items : List Item = reading.items in
    let b : Store ℕ = base_of store items in
    let refused = first_none (run_items 0 byte_cells (start_of b) items).refused (fault_of reading.end) a.accepted in
    composed_reading (uncarried_cells b items) (carried_runs b items) version b reading first last (composed_edits b last.key items) written a.whole a.ends a.consecutive a.accepted a.read a.inner
    (headline_items store items first last a.first_is a.last_is a.consecutive refused a.lawful) is
