-- What the command answers.
use Rattle.std.specs.Prelude.{◌≡◌, ℕ, ◌<◌, List, [], ◌∷◌, ◌++◌, map, length, Option, None, Some, Result, Ok, Err, IfErr, IsTrue}
use Rattle.std.specs.Option.{option_map}
use Rattle.std.proofs.Common.{refl, sym, ap, subst, ◌∙◌, arith}
use Rattle.send_model.specs.Command.{End}
use Rattle.send_model.specs.Composed.{head_command}
use Rattle.send_model.specs.Headline.{IsFrontOf, IsProperFrontOf}
use Rattle.send_model.specs.Path.{is_name}
use Rattle.send_model.specs.Spelling.{stream_header, canonical_all}
use Rattle.send_model.specs.Subvolume.{Subvolume}
use Rattle.send_model.specs.Store.{Key, Entry, Store}
use Rattle.send_model.specs.Cells.{recelled, recelled_entry, recelled_store}
use Rattle.send_model.proofs.PathLaws.{is_name_length}
use Rattle.store_model.specs.Image.{HasGroups}
use Rattle.store_model.specs.Stored.{byte_of, body_bytes, StandsFor}
use Rattle.store_model.specs.Dues as dues
use Rattle.store_model.specs.Dues.{Due, complete_named}
use Rattle.store_model.specs.Answers.{Missing}
use Rattle.stream_model.specs.OwnStream.{Edits, last_edits, own_stream}
use Rattle.stream_model.specs.StreamDues.{Found, IsStreamOf, IsStreamDue, StreamBefore, StreamAnswers, IsStreamedBack, IsUnfinishedStream}
use Rattle.stream_model.proofs.TakenAgain.{own_stream_is_taken, due_is_taken}
use Rattle.stream_model.proofs.StreamAnswers.{one_stream_due}
use Rattle.subvol_catalog.specs.Entries.{key_of, AreNamed, named}
use Rattle.sx_base.specs.declared.outcome.Outcome.TheVariants as ended
use Rattle.group_log.specs.declared.stops.LogStop.TheVariants as log
use Rattle.group_replay.specs.declared.place.Place.{Place}
use Rattle.group_replay.specs.declared.stops.StoreStop.{StoreStop}
use Rattle.group_replay.specs.declared.stops.StoreStop.TheVariants as stop
use Rattle.group_replay.specs.Stopping.{IfLog, IsNoRefusal}
use Rattle.store_journal.specs.Shown.{StoreState}
use Rattle.store_journal.specs.Opening.{OpenSays, IsOpenStop}
use Rattle.store_journal.specs.Standing.{with_bytes}
use Rattle.store_commands.specs.declared.ends.StoreEnd.{StoreEnd}
use Rattle.store_commands.specs.declared.ends.StoreEnd.TheVariants as made
use Rattle.store_commands.specs.Ending.{answer_of, end_by, show_ways, EndCaused}
use Rattle.store_commands.proofs.Named.{complete_there, not_there, not_complete, named_same, named_holds}
use Rattle.store_commands.proofs.Opened.{nothing_in_front}
use Rattle.stream_back.specs.declared.heads.EntryHead.{EntryHead}
use Rattle.stream_back.specs.Writing.{HasLength, Has, headed, IsCutBy, StreamEnds, IsBack, PlaceCaused, StopCaused, BackCaused}

StoredEntry : Type 0
StoredEntry = Entry (Subvolume (Option Place))

-- ---- the entry of a name

module _ (image : List ℕ) (core : Store (Option Place)) (name : List ℕ) where
  abbrev pub entry_with : Entry (Subvolume (Option Place)) → Entry (Subvolume ℕ)
  entry_with e = recelled_entry (byte_of image) (recelled_entry (option_map (λ place. place.at)) e)

  abbrev pub with_image : Subvolume (Option Place) → Subvolume ℕ
  with_image s = recelled (byte_of image) (recelled (option_map (λ place. place.at)) s)

  abbrev entry_of_place : Option (Entry (Subvolume (Option Place))) → Option (Entry (Subvolume ℕ))
  entry_of_place o = option_map (recelled_entry (byte_of image)) (option_map (recelled_entry (option_map (λ place. place.at))) o)

  abbrev contents_with : Option (Subvolume (Option Place)) → Option (Subvolume ℕ)
  contents_with o = option_map (recelled (byte_of image)) (option_map (recelled (option_map (λ place. place.at))) o)

  named_with : named name (with_bytes image core) ≡ entry_of_place (named name core)
  named_with = named_same (byte_of image) name (recelled_store (option_map (λ place. place.at)) core) ∙ ap (option_map (recelled_entry (byte_of image))) (named_same (option_map (λ place. place.at)) name core)

  pub gone : named name core ≡ None → complete_named name (with_bytes image core) ≡ None
  gone is = not_there name (with_bytes image core) (named_with ∙ ap entry_of_place is)

  pub unfinished : (e : Entry (Subvolume (Option Place))) → named name core ≡ Some e → e.contents ≡ None → complete_named name (with_bytes image core) ≡ None
  unfinished e is none = not_complete name (with_bytes image core) (entry_with e) (named_with ∙ ap entry_of_place is) (ap contents_with none)

  pub complete_one : (e : Entry (Subvolume (Option Place))) (s : Subvolume (Option Place)) → named name core ≡ Some e → e.contents ≡ Some s
      → complete_named name (with_bytes image core) ≡ Some (entry_with e, with_image s)
  complete_one e s is holds = complete_there name (with_bytes image core) (entry_with e) (with_image s) (named_with ∙ ap entry_of_place is) (ap contents_with holds)

pub name_short : (core : Store (Option Place)) (name : List ℕ) (e : Entry (Subvolume (Option Place))) → named name core ≡ Some e → AreNamed core → HasLength e.name
name_short core name e there all = let l = is_name_length e.name (named_holds name (λ x. IsTrue (is_name x.name)) core e all there) in omega (arith, l.1)

-- ---- its stream

-- A stream is that of a name, a key and a parent.
own_same : {S T : Type 0} (a : Entry S) (b : Entry T) (edits : Edits) → a.name ≡ b.name → a.key ≡ b.key → a.parent ≡ b.parent → own_stream a edits ≡ own_stream b edits
unfolding own_stream
own_same a b edits names keys parents = λ i. stream_header edits.version ++ canonical_all edits.version (head_command (names i) (keys i) (parents i) ∷ (edits.commands ++ End ∷ []))

some_stream : {S : Type 0} (e : Entry S) (edits : Edits) → 0 < length (own_stream e edits)
unfolding own_stream stream_header
some_stream e edits = omega arith

-- Nothing is less than a whole stream.
pub nothing_unfinished : (image name : List ℕ) → IsUnfinishedStream image name []
nothing_unfinished image name whole own = record { count = 0; within = subst (λ (l : List ℕ). 0 < length l) (sym own.is) (some_stream own.found.0 own.edits); written_is = refl }

-- ---- answers

module _ (image name : List ℕ) where
  before : StreamBefore image name []
  before due whole is = nothing_in_front whole

  -- The store does not open.
  pub not_opened : (cause : Type 0) (why : StoreStop) (end : StoreEnd) → end ≡ end_by why → IsNoRefusal why → IfLog {T = StoreState} (Err why) (IsOpenStop cause) → OpenSays image (Err why) → StreamAnswers image name (answer_of name [] end) [] image
  not_opened cause why end is kind stops says = subst (λ (e : StoreEnd). StreamAnswers image name (answer_of name [] e) [] image) (sym is) (one why kind stops says)
    where
      one : (why : StoreStop) → IsNoRefusal why → IfLog {T = StoreState} (Err why) (IsOpenStop cause) → OpenSays image (Err why) → StreamAnswers image name (answer_of name [] (end_by why)) [] image
      one (stop.Refused refusal) kind stops says = absurd kind
      one stop.NoMemory kind stops says = (refl, before)
      one (stop.Log log.DiskFault) kind stops says = (refl, before)
      one (stop.Log (log.NotStore group)) kind stops says = (refl, (refl, says))
      one (stop.Log (log.LogFull wanted size limit)) kind stops says = absurd stops
      one (stop.Log (log.StoreThere size)) kind stops says = absurd stops

  module _ (s : Store ℕ) (stands : StandsFor image s) where
    -- Nothing complete has the name.
    pub stream_missing : complete_named name s ≡ None → StreamAnswers image name (Missing name) [] image
    stream_missing none = (refl, (refl, refl, record { store = s; stands = stands; none = none }))

    module _ (found : Found) (here : complete_named name s ≡ Some found) (head : EntryHead) (names : head.name.now ≡ found.0.name) (keys : key_of head.key ≡ found.0.key) (parents : option_map key_of head.parent ≡ found.0.parent) where
      -- The image has its edits, and so has one that is equal.
      pub has_edits : (now : List ℕ) → now ≡ image → Has now head.key.uuid
      has_edits now same =
          let t = own_stream_is_taken image name s stands found here in
          record {
            header = stands.header;
            groups = stands.groups;
            has = subst (λ (l : List ℕ). HasGroups stands.header (map body_bytes stands.groups) l) (sym same) stands.has;
            lawful = stands.makes.lawful;
            edits = t.0;
            last = ap (λ (k : Key). last_edits k.uuid stands.groups) keys ∙ t.2;
          }

      own : (now : List ℕ) (same : now ≡ image) → IsStreamOf image name (own_stream (headed head) (has_edits now same).edits)
      unfolding has_edits
      own now same =
          let t = own_stream_is_taken image name s stands found here in
          record { store = s; stands = stands; found = found; here = here; edits = t.0; has = t.2; is = own_same (headed head) found.0 t.0 names keys parents }

      module _ (now : List ℕ) (same : now ≡ image) (written : List ℕ) where
        abbrev stream : List ℕ
        stream = own_stream (headed head) (has_edits now same).edits

        same_due : (due : Due) (whole : List ℕ) → IsStreamDue image name due whole → stream ≡ whole
        same_due due whole is = (one_stream_due image name (dues.Ends _) due stream whole (refl, own now same) is).1

        -- It is written.
        done_of : (done : Unit {0}) → IsBack now head (Ok done) written → IsStreamOf image name written
        done_of done back = subst (IsStreamOf image name) (sym (back (has_edits now same))) (own now same)

        pub stream_done : (done : Unit {0}) → IsBack now head (Ok done) written → StreamAnswers image name (answer_of name [] (made.Ends ended.Done)) written image
        stream_done done back = (refl, (refl, done_of done back))

        pub stream_back : (done : Unit {0}) → IsBack now head (Ok done) written → IsStreamedBack image name written
        stream_back done back = due_is_taken image name written (done_of done back)

        -- Or a part of it is.
        pub stream_cut : (end : StoreEnd) → IsBack now head (Err end) written → IsUnfinishedStream image name written
        stream_cut end back whole is = subst (λ (l : List ℕ). IsProperFrontOf l written) (same_due (dues.Ends _) whole (refl, is)) (back (has_edits now same)).1

        pub stream_stops : (end : StoreEnd) → IsBack now head (Err end) written → StreamAnswers image name (answer_of name [] end) written image
        stream_stops end back = one end (back (has_edits now same)).0
          where
            one : (end : StoreEnd) → IsCutBy end stream written → StreamAnswers image name (answer_of name [] end) written image
            one (made.Ends ended.OutputFault) cut = (refl, (λ due whole is. subst (λ (l : List ℕ). IsProperFrontOf l written) (same_due due whole is) cut))
            one (made.Ends ended.NoMemory) cut = (refl, (λ due whole is. subst (λ (l : List ℕ). IsFrontOf l written) (same_due due whole is) cut))
            one (made.Ends ended.Done) cut = absurd cut
            one (made.Ends (ended.Refused verdict)) cut = absurd cut
            one (made.Ends ended.InputFault) cut = absurd cut
            one (made.Ends (ended.InputTooLong file)) cut = absurd cut
            one (made.Ends (ended.TooMuch sum)) cut = absurd cut
            one (made.Ends (ended.InputChanged file place)) cut = absurd cut
            one made.StoreFault cut = (refl, (λ due whole is. subst (λ (l : List ℕ). IsFrontOf l written) (same_due due whole is) cut))
            one (made.NotStore group) cut = absurd cut
            one made.NoName cut = absurd cut
            one made.NoFile cut = absurd cut
            one (made.LogFull end wanted limit) cut = absurd cut
            one (made.StoreThere size) cut = absurd cut
            one (made.Damaged group stored computed) cut = absurd cut

-- ---- causes

pub back_caused : (done store_rose out_rose : Type 0) (end : StoreEnd) → BackCaused store_rose out_rose end → EndCaused show_ways done store_rose ⊥ out_rose end
back_caused done store_rose out_rose (made.Ends ended.OutputFault) h = h
back_caused done store_rose out_rose (made.Ends ended.NoMemory) h = tt
back_caused done store_rose out_rose (made.Ends ended.Done) h = absurd h
back_caused done store_rose out_rose (made.Ends (ended.Refused verdict)) h = absurd h
back_caused done store_rose out_rose (made.Ends ended.InputFault) h = absurd h
back_caused done store_rose out_rose (made.Ends (ended.InputTooLong file)) h = absurd h
back_caused done store_rose out_rose (made.Ends (ended.TooMuch sum)) h = absurd h
back_caused done store_rose out_rose (made.Ends (ended.InputChanged file place)) h = absurd h
back_caused done store_rose out_rose made.StoreFault h = h
back_caused done store_rose out_rose (made.NotStore group) h = tt
back_caused done store_rose out_rose made.NoName h = tt
back_caused done store_rose out_rose made.NoFile h = absurd h
back_caused done store_rose out_rose (made.LogFull end wanted limit) h = absurd h
back_caused done store_rose out_rose (made.StoreThere size) h = absurd h
back_caused done store_rose out_rose (made.Damaged group stored computed) h = absurd h

-- Why the edits are not found, and why writing ends, are why the stream is not written.
pub place_back : (store_rose out_rose : Type 0) (end : StoreEnd) → PlaceCaused store_rose end → BackCaused store_rose out_rose end
place_back store_rose out_rose made.StoreFault h = h
place_back store_rose out_rose (made.NotStore group) h = tt
place_back store_rose out_rose made.NoName h = tt
place_back store_rose out_rose made.NoFile h = absurd h
place_back store_rose out_rose (made.Ends outcome) h = absurd h
place_back store_rose out_rose (made.LogFull end wanted limit) h = absurd h
place_back store_rose out_rose (made.StoreThere size) h = absurd h
place_back store_rose out_rose (made.Damaged group stored computed) h = absurd h

pub stop_back : (store_rose out_rose : Type 0) (result : Result (Unit {0}) StoreEnd) → IfErr result (StopCaused store_rose out_rose) → IfErr result (BackCaused store_rose out_rose)
stop_back store_rose out_rose (Ok done) h = h
stop_back store_rose out_rose (Err end) h = one end h
  where
    one : (end : StoreEnd) → StopCaused store_rose out_rose end → BackCaused store_rose out_rose end
    one (made.Ends ended.OutputFault) h = h
    one (made.Ends ended.NoMemory) h = tt
    one (made.Ends ended.Done) h = absurd h
    one (made.Ends (ended.Refused verdict)) h = absurd h
    one (made.Ends ended.InputFault) h = absurd h
    one (made.Ends (ended.InputTooLong file)) h = absurd h
    one (made.Ends (ended.TooMuch sum)) h = absurd h
    one (made.Ends (ended.InputChanged file place)) h = absurd h
    one made.StoreFault h = h
    one (made.NotStore group) h = absurd h
    one made.NoName h = absurd h
    one made.NoFile h = absurd h
    one (made.LogFull end wanted limit) h = absurd h
    one (made.StoreThere size) h = absurd h
    one (made.Damaged group stored computed) h = absurd h

pub not_done : (store_rose out_rose : Type 0) (end : StoreEnd) → BackCaused store_rose out_rose end → end ≡ made.Ends ended.Done → ⊥
not_done store_rose out_rose end h is = subst (λ (e : StoreEnd). BackCaused store_rose out_rose e) is h

-- ---- nothing is written

pub nothing_back : (image : List ℕ) (head : EntryHead) (end : StoreEnd) → (Has image head.key.uuid → end ≡ made.StoreFault) → IsBack image head (Err end) []
nothing_back image head end stops has =
    subst (λ (e : StoreEnd). StreamEnds (own_stream (headed head) has.edits) (Err e) []) (sym (stops has))
    (record { count = 0; within = omega arith; written_is = refl }, record { count = 0; within = some_stream (headed head) has.edits; written_is = refl })
