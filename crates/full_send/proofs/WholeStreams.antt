-- The parts of a whole stream, and what of it is written where one of them stops.
use Rattle.std.specs.Prelude.{◌≡◌, ◌<◌, ℕ, ◌+◌, ◌==◌, Bool, ◌||◌, not, List, [], ◌∷◌, ◌++◌, map, length, take, drop, Option, None, Some, Result, Ok, Err, IsErrAnd, IfErr, OnOk, if◌then◌else◌}
use Rattle.std.specs.Io.KnownBytes.{Appends}
use Rattle.std.specs.List.{list_any}
use Rattle.std.specs.Option.{option_map, unwrap_or}
use Rattle.std.proofs.Common.{refl, sym, ap, subst, ◌∙◌, append_assoc, append-nil, length-append, arith}
use Rattle.std.proofs.KnownBytes.{Appends-trans}
use Rattle.std.proofs.lemmas.List.{take_at, take-append-drop}
use Rattle.std.proofs.lemmas.Result.{err_from_is_err_and}
use Rattle.send_model.specs.Command.{Command, Subvol, End}
use Rattle.send_model.specs.Headline.{IsFrontOf, IsProperFrontOf}
use Rattle.send_model.specs.Map.{Map}
use Rattle.send_model.specs.Receivable.{receivable}
use Rattle.send_model.specs.Spelling.{stream_header, canonical, canonical_all, frame_of}
use Rattle.send_model.specs.Store.{Key}
use Rattle.send_model.specs.Subvolume.{Inode, Subvolume, new_directory, inode_at, all_paths}
use Rattle.send_model.specs.Cells.{recelled}
use Rattle.send_model.proofs.CellMaps.{reinode, inode_at-cells}
use Rattle.send_model.proofs.Fronts.{is_front}
use Rattle.snapshot_model.specs.HeldStores.{held_at}
use Rattle.snapshot_model.specs.Listing.{Listed, listed, listing, paths_of}
use Rattle.snapshot_model.specs.Restored.{restored, restored_edits, restored_stream}
use Rattle.snapshot_model.specs.Sent.{sent, sent_edits, sent_stream, sent_version}
use Rattle.inode_commands.specs.Spelled.{spelled_all}
use Rattle.inode_commands.proofs.Joined.{all_joined}
use Rattle.group_replay.specs.declared.place.Place.{Place}
use Rattle.store_commands.specs.declared.ends.StoreEnd.{StoreEnd}
use Rattle.store_commands.specs.declared.ends.StoreEnd.TheVariants as made
use Rattle.sx_base.specs.Calls.{Wrote}
use Rattle.sx_base.specs.declared.outcome.Outcome.TheVariants as ended
use Rattle.full_send.specs.Adding.{TextAdded, IsCutBy, Adds, StopCaused}
use Rattle.full_send.specs.Held.{with_holes}
use Rattle.full_send.specs.Orders.{StreamEnds}
use Rattle.full_send.specs.Versions.{any_flagged, version_for}
use Rattle.full_send.proofs.Added.{cut_behind, added_then, then_adds}

-- ---- the version

module _ (image : List ℕ) (s : Subvolume (Option Place)) where
  flags_in : (o : Option (Inode (Option Place)))
      → (unwrap_or (option_map (reinode (held_at image)) (option_map (reinode (option_map (λ place. place.at))) o)) new_directory).flags ≡ (unwrap_or o new_directory).flags
  flags_in None = refl
  flags_in (Some inode) = refl

  flags_same : (ino : ℕ) → (listed (with_holes image s) ino).inode.flags ≡ (listed s ino).inode.flags
  unfolding listed
  flags_same ino =
      ap (λ (o : Option (Inode (Option ℕ))). (unwrap_or o new_directory).flags)
      (inode_at-cells (held_at image) (recelled (option_map (λ place. place.at)) s) ino ∙ ap (option_map (reinode (held_at image))) (inode_at-cells (option_map (λ place. place.at)) s ino))
      ∙ flags_in (inode_at s ino)

  abbrev entry_listed : List ℕ × ℕ → List ℕ × Listed (Option ℕ)
  entry_listed e = (e.0, listed (with_holes image s) e.1)

  any_same : (m : Map (List ℕ) ℕ) → list_any (λ e. not (e.1.inode.flags == 0)) (map entry_listed m) ≡ any_flagged s m
  any_same [] = refl
  any_same (e ∷ m) = λ i. not (flags_same e.1 i == 0) || any_same m i

  pub same_version : sent_version (with_holes image s) ≡ version_for s
  unfolding sent_version listing paths_of all_paths
  same_version = ap (λ (b : Bool). if b then 2 else 1) (any_same (paths_of s))

-- ---- the parts

module _ (name : List ℕ) (key : Key) (version : ℕ) where
  abbrev pub opening_text : (ℕ → Command → List ℕ) → List ℕ
  opening_text spelled = stream_header version ++ spelled version (Subvol key.uuid key.ctransid name)

  whole_of : (spelled : ℕ → Command → List ℕ) (edits : List Command)
      → opening_text spelled ++ (spelled_all spelled version edits ++ spelled version End) ≡ stream_header version ++ spelled_all spelled version (Subvol key.uuid key.ctransid name ∷ (edits ++ End ∷ []))
  whole_of spelled edits =
      append_assoc (stream_header version) (spelled version (Subvol key.uuid key.ctransid name)) (spelled_all spelled version edits ++ spelled version End)
      ∙ ap (λ (l : List ℕ). stream_header version ++ (spelled version (Subvol key.uuid key.ctransid name) ++ l))
      (ap (λ (l : List ℕ). spelled_all spelled version edits ++ l) (sym (append-nil (spelled version End))) ∙ sym (all_joined spelled version edits (End ∷ [])))

  module _ (image : List ℕ) (s : Subvolume (Option Place)) (is : version ≡ version_for s) where
    version_is : version ≡ sent_version (with_holes image s)
    version_is = is ∙ sym (same_version image s)

    pub sent_parts : opening_text canonical ++ (spelled_all canonical version (sent_edits (with_holes image s)) ++ canonical version End) ≡ sent_stream name key (with_holes image s)
    unfolding sent_stream canonical_all sent
    sent_parts =
        whole_of canonical (sent_edits (with_holes image s))
        ∙ ap (λ (v : ℕ). stream_header v ++ spelled_all canonical v (Subvol key.uuid key.ctransid name ∷ (sent_edits (with_holes image s) ++ End ∷ []))) version_is

    pub restored_parts : opening_text receivable ++ (spelled_all receivable version (restored_edits (with_holes image s)) ++ receivable version End) ≡ restored_stream name key (with_holes image s)
    unfolding restored_stream restored
    restored_parts =
        whole_of receivable (restored_edits (with_holes image s))
        ∙ ap (λ (v : ℕ). stream_header v ++ spelled_all receivable v (Subvol key.uuid key.ctransid name ∷ (restored_edits (with_holes image s) ++ End ∷ []))) version_is

-- END takes bytes in both spellings.
pub end_some : (version : ℕ) → 0 < length (canonical version End)
unfolding canonical frame_of
end_some version = omega arith

pub end_some_receivable : (version : ℕ) → 0 < length (receivable version End)
unfolding receivable frame_of
end_some_receivable version = omega arith

-- ---- where writing stops

-- How it does.
data CutView (end : StoreEnd) (all written : List ℕ) : Type 0 where
  OutCut : end ≡ made.Ends ended.OutputFault → IsProperFrontOf all written → CutView end all written
  NoRoom : end ≡ made.Ends ended.NoMemory → IsFrontOf all written → CutView end all written
  StoreCut : end ≡ made.StoreFault → IsFrontOf all written → CutView end all written

cut_view : (end : StoreEnd) (all written : List ℕ) → IsCutBy end all written → CutView end all written
cut_view (made.Ends ended.OutputFault) all written cut = OutCut refl cut
cut_view (made.Ends ended.NoMemory) all written cut = NoRoom refl cut
cut_view (made.Ends ended.Done) all written cut = absurd cut
cut_view (made.Ends (ended.Refused verdict)) all written cut = absurd cut
cut_view (made.Ends ended.InputFault) all written cut = absurd cut
cut_view (made.Ends (ended.InputTooLong file)) all written cut = absurd cut
cut_view (made.Ends (ended.TooMuch sum)) all written cut = absurd cut
cut_view (made.Ends (ended.InputChanged file place)) all written cut = absurd cut
cut_view made.StoreFault all written cut = StoreCut refl cut
cut_view (made.NotStore group) all written cut = absurd cut
cut_view made.NoName all written cut = absurd cut
cut_view made.NoFile all written cut = absurd cut
cut_view (made.LogFull end wanted limit) all written cut = absurd cut
cut_view (made.StoreThere size) all written cut = absurd cut
cut_view (made.Damaged group stored computed) all written cut = absurd cut

front_by : (end : StoreEnd) (all written : List ℕ) → CutView end all written → IsFrontOf all written
front_by end all written (OutCut is p) = record { count = p.count; within = omega (arith, p.within); written_is = p.written_is }
front_by end all written (NoRoom is p) = p
front_by end all written (StoreCut is p) = p

-- A front part of what something follows is not all.
pub front_of_more : (front more all written : List ℕ) → front ++ more ≡ all → 0 < length more → IsFrontOf front written → IsProperFrontOf all written
front_of_more front more all written whole some p =
    let long : length all ≡ length front + length more = ap length (sym whole) ∙ length-append front more in
    let rest : List ℕ = drop p.count front in
    let all_is : all ≡ written ++ (rest ++ more) =
    sym whole ∙ ap (λ (l : List ℕ). l ++ more) (sym (take-append-drop p.count front)) ∙ append_assoc (take p.count front) rest more ∙ ap (λ (l : List ℕ). l ++ (rest ++ more)) (sym p.written_is) in
    let f : IsFrontOf all written = is_front all written (rest ++ more) all_is in
    let own : length written ≡ length (take p.count front) = ap length p.written_is in
    let split : length all ≡ length written + length (rest ++ more) = ap length all_is ∙ length-append written (rest ++ more) in
    let behind : length (rest ++ more) ≡ length rest + length more = length-append rest more in
    record {
      count = length written;
      within = omega (arith, some, split, behind);
      written_is = sym (ap (take (length written)) all_is ∙ take_at written (rest ++ more) (length written) refl);
    }

module _ (a b c stream : List ℕ) (parts : a ++ (b ++ c) ≡ stream) (some : 0 < length c) where
  front_parts : (a ++ b) ++ c ≡ stream
  front_parts = append_assoc a b c ∙ parts

  -- It stops before END.
  before_end : (written : List ℕ) (end : StoreEnd) → IsCutBy end (a ++ b) written → StreamEnds stream (Err end) written
  before_end written end cut = (
    cut_behind stream [] (a ++ b) c written end (sym front_parts) cut,
    front_of_more (a ++ b) c stream written front_parts some (front_by end (a ++ b) written (cut_view end (a ++ b) written cut)),
  )

  pub opening_stops : (new : List ℕ) (first last : Option (List ℕ)) (end : StoreEnd) → Adds a [] new first last (Err end) → Wrote first last (StreamEnds stream (Err end))
  opening_stops new first last end (written, appends, cut) = (written, appends, before_end written end (cut_behind (a ++ b) [] a b written end refl cut))

  pub edits_stop : (mid new : List ℕ) (first middle last : Option (List ℕ)) (end : StoreEnd) → TextAdded a [] mid first middle → Adds b mid new middle last (Err end) → Wrote first last (StreamEnds stream (Err end))
  edits_stop mid new first middle last end x y =
      let both : Adds (a ++ b) [] new first last (Err end) = then_adds a b [] mid new first middle last (Err end) x y in (both.0, both.1, before_end both.0 end both.2)

  module _ (mid late new : List ℕ) (first middle later last : Option (List ℕ)) (x : TextAdded a [] mid first middle) (y : TextAdded b mid late middle later) where
    both : TextAdded (a ++ b) [] late first later
    both = added_then a b [] mid late first middle later x y

    -- All of it is written.
    pub all_written : (done : Unit {0}) → TextAdded c late new later last → new ≡ [] → Wrote first last (StreamEnds stream (Ok done))
    all_written done z empty =
        let all = added_then (a ++ b) c [] late new first later last both z in (
          all.sent,
          all.appends,
          sym (append-nil all.sent) ∙ ap (λ (l : List ℕ). all.sent ++ l) (sym empty) ∙ all.bytes_are ∙ front_parts,
        )

    -- END stops: there is no memory for it, and nothing more is written, or the output failed.
    pub end_stops : (end : StoreEnd) (rose : Type 0) → StopCaused ⊥ rose end → (end ≡ made.Ends ended.NoMemory → Appends later last []) → Adds c late new later last (Err end) → Wrote first last (StreamEnds stream (Err end))
    end_stops end rose cause nothing z =
        let all : Adds ((a ++ b) ++ c) [] new first last (Err end) = then_adds (a ++ b) c [] late new first later last (Err end) both z in
        by (cut_view end ((a ++ b) ++ c) all.0 all.2) all
      where
        before : IsFrontOf (a ++ b) both.sent
        before = is_front (a ++ b) both.sent late (sym both.bytes_are)

        by : {written : List ℕ} → CutView end ((a ++ b) ++ c) written → Adds ((a ++ b) ++ c) [] new first last (Err end) → Wrote first last (StreamEnds stream (Err end))
        by (OutCut is p) all = subst (λ (e : StoreEnd). Wrote first last (StreamEnds stream (Err e))) (sym is)
            (let cut = subst (λ (e : StoreEnd). Adds ((a ++ b) ++ c) [] new first last (Err e)) is all in
            let proper : IsProperFrontOf stream cut.0 = subst (λ (l : List ℕ). IsProperFrontOf l cut.0) front_parts cut.2 in (cut.0, cut.1, (proper, proper)))
        by (NoRoom is p) all = subst (λ (e : StoreEnd). Wrote first last (StreamEnds stream (Err e))) (sym is) (
          both.sent ++ [],
          Appends-trans first later last both.sent [] both.appends (nothing is),
          subst (λ (l : List ℕ). StreamEnds stream (Err (made.Ends ended.NoMemory)) l) (sym (append-nil both.sent)) (before_end both.sent (made.Ends ended.NoMemory) before),
        )
        by (StoreCut is p) all = absurd (subst (StopCaused ⊥ rose) is cause)

    -- So it ends, whatever END answers.
    pub stream_closed : (result : Result (Unit {0}) StoreEnd) (rose : Type 0) → IfErr result (StopCaused ⊥ rose) → IfErr result (λ end. end ≡ made.Ends ended.NoMemory → Appends later last []) → OnOk result (new ≡ [])
        → Adds c late new later last result → Wrote first last (StreamEnds stream result)
    stream_closed (Ok done) rose cause nothing empty z = all_written done z empty
    stream_closed (Err end) rose cause nothing empty z = end_stops end rose cause nothing z

-- A stop that is handed on.
pub stream_handed : (stream : List ℕ) (first last : Option (List ℕ)) (answer : Result (Unit {0}) StoreEnd) (end : StoreEnd) → IsErrAnd answer (λ o. o ≡ end)
    → Wrote first last (StreamEnds stream (Err end)) → Wrote first last (StreamEnds stream answer)
stream_handed stream first last answer end is stops =
    let e = err_from_is_err_and answer is in
    subst (λ (r : Result (Unit {0}) StoreEnd). Wrote first last (StreamEnds stream r)) (sym (e.1 ∙ ap (λ (o : StoreEnd). Err o) e.2)) stops
