-- Composing all files over a base, one after the other: what is known before, what the loop keeps,
-- and what holds at each of its ends.
use Rattle.std.specs.Prelude.{◌≡◌, ◌≢◌, ℕ, ◌+◌, ◌<◌, ◌≤◌, Bool, true, false, ◌&&◌, List, [], ◌∷◌, ◌++◌, map, length, take, drop, get_or, Option, None, Some, Result, Ok, Err, String, is_some}
use Rattle.std.specs.String.{string_bytes}
use Rattle.std.specs.Io.KnownBytes.{Appends}
use Rattle.std.proofs.Common.{refl, sym, ap, ap₂, subst, ◌∙◌, append_assoc, append-nil, arith, inl, inr}
use Rattle.std.proofs.KnownBytes.{Appends-nil, Appends-trans}
use Rattle.std.proofs.Math.Seq.{take-append-add, take-append_seam, take-length}
use Rattle.std.proofs.lemmas.Bool.{false≢true}
use Rattle.std.proofs.lemmas.List.{drop_all, drop_more, length-append, length-map, map-append}
use Rattle.send_model.specs.Refusal.{NotConsecutive}
use Rattle.send_model.specs.Command.{Command, End}
use Rattle.send_model.specs.Spelling.{canonical}
use Rattle.send_model.specs.Reading.{Item, Reading, Whole, ended, with_item, reads, input, is_version}
use Rattle.send_model.specs.Store.{Head, Store}
use Rattle.send_model.specs.Order.{heads, heads_of, commands_of, last_item}
use Rattle.send_model.specs.Outside.{part_uuids, store_without, base_of, keys_outside, FindsSayable, AllSayable}
use Rattle.send_model.specs.Composed.{last_head, version_of}
use Rattle.send_model.specs.Due.{RefusedAt, reading_due}
use Rattle.send_model.specs.Receive.{first_of}
use Rattle.send_model.specs.Headline.{IsComposedOf, IsStoppedOf, whole_output_of}
use Rattle.send_model.specs.Laws.{CanWrite, IsWhole}
use Rattle.send_model.specs.Overridden.{Overrides, override_for, overridden_as, overridden_item, overridden_items, overridden}
use Rattle.send_model.proofs.ElementLaws.{all_rest}
use Rattle.send_model.proofs.Endings.{EndsWithEnd, EndsWell, input_ends}
use Rattle.send_model.proofs.HeadlineLaw.{fronts_are_writable, readings_hold}
use Rattle.send_model.proofs.Overriding.{keeps_all_else, still_ends}
use Rattle.send_model.proofs.Stores.{same_key_same, bytes_eq_same}
use Rattle.sx_base.specs.Outside.{file_at, AppendsPart}
use Rattle.sx_base.specs.Calls.{contents, IfAllTold, Wrote}
use Rattle.sx_base.specs.Refusals.{verdict_meant}
use Rattle.sx_base.specs.declared.outcome.Verdict.{Verdict}
use Rattle.sx_base.specs.declared.outcome.Outcome.{Outcome}
use Rattle.sx_base.specs.declared.outcome.Outcome.TheVariants as over
use Rattle.file_survey.specs.declared.places.Place.{Place}
use Rattle.file_survey.specs.Ahead.{IsAhead, then_reading}
use Rattle.file_survey.specs.Findings.{Surveyed, AreReadable, AllRead, SurveyStop}
use Rattle.file_survey.proofs.AheadSteps.{ahead_start, ahead_input, ahead_whole, last_item_none, input_some}
use Rattle.file_survey.proofs.FilesAhead.{ahead_file}
use Rattle.file_survey.proofs.TooLong.{LongAhead, long_start, long_next, long_here}
use Rattle.file_survey.proofs.NamedItems.{both_with, next_with, then_nothing, version_with}
use Rattle.file_survey.proofs.Versions.{item_version, version_is}
use Rattle.clone_pieces.specs.declared.stops.SendStop.{SendStop}
use Rattle.clone_pieces.specs.declared.stops.SendStop.TheVariants as stopped
use Rattle.composer.specs.OverBase.{Plan, plan_for, Composing, at_start, Halt, Refuses, Exceeds, halt_due, advance, advance_all, unsent, AreReady}
use Rattle.composer.specs.Kept.{Kept, composing_of}
use Rattle.composer.specs.Taking.{AllWhereEnded, EndEnd, is_at_last}
use Rattle.composer.specs.Files.{plan_with, IsLastPlace, NextHalts, NextAbove, ComposeEnds, outcome_in}
use Rattle.clone_pieces.proofs.Told.{all_always, all_map, all_two}
use Rattle.composer.proofs.Unpacked.{FileTaken, FileWhy, FileStops}
use Rattle.composer.proofs.HandedOn.{answer_with}
use Rattle.composer.proofs.LastHeads.{latest_none, latest_append, latest_alone}
use Rattle.composer.proofs.FileWriting.{front_after}
use Rattle.composer.proofs.OverBaseProgress.{Progress, progress_start, progress_all}
use Rattle.composer.proofs.OverBaseFolds.{advance_unsent_err, all_unsent_ok, unsent_more, all_more, progress_unsent}
use Rattle.composer.proofs.OverBaseReady.{are_ready}
use Rattle.composer.proofs.OverBaseAhead.{halted_ahead, fault_ahead, refused_ahead, faulty_ahead, empty_ahead, nothing_ahead, done_ahead, composed_ahead, stopped_ahead, stopped_end_ahead}
use Rattle.composer.proofs.OverBaseAnswers.{ends_done, ends_refused, ends_too_much, ends_too_long, nothing_stopped}

-- ---- what is known before the first item

-- What a survey of the files over a base without their parts says.
pub record IsKnown (base : Store ℕ) (given : Overrides) (survey : Surveyed) (files : List (List ℕ)) : Type 0 where
  plan_is : plan_with base survey ≡ plan_for base given files
  base_is : base_of base (overridden given (input files)).items ≡ base
  sayable : FindsSayable base (keys_outside (overridden given (input files)).items)
  ready : AreReady base given files
  read : AllRead given survey files

pub known : (base : Store ℕ) (given : Overrides) (survey : Surveyed) (files : List (List ℕ)) → store_without survey.parts base ≡ base → AllSayable base → AllRead given survey files → IsKnown base given survey files
known base given survey files apart sayable read =
    let items : List Item = (overridden given (input files)).items in
    let base_is : base_of base items ≡ base = ap (λ (ps : List (List ℕ)). store_without ps base) (sym read.parts) ∙ apart in
    let finds : FindsSayable base (keys_outside items) = λ key s among f. sayable key s f in
    record {
      plan_is = ap (λ (ps : List (List ℕ)). record { base = base; parts = ps; version = survey.version; last = survey.last }) read.parts
          ∙ ap (λ (v : ℕ). record { base = base; parts = part_uuids items; version = v; last = survey.last }) read.version
          ∙ ap (λ (l : Option Head). record { base = base; parts = part_uuids items; version = version_of items; last = l }) read.last;
      base_is = base_is;
      sayable = finds;
      ready = subst (λ (b : Store ℕ). AreReady b given files) base_is
          (are_ready fronts_are_writable base given files (subst (λ (b : Store ℕ). FindsSayable b (keys_outside items)) (sym base_is) finds) read.writable);
      read = read;
    }

-- ---- what the loop keeps

-- All items of the files before this place were taken, with the names that are given, and of the
-- bytes that are then to be written some were. None of these files is too long.
pub record FilesStand (plan : Plan) (given : Overrides) (old : Kept) (out_old : Option (List ℕ)) (number : ℕ) (now : Kept) (out_now : Option (List ℕ)) (before place : Place) (files : List (List ℕ)) : Type 0 where
  items : List Item
  sent : List ℕ
  ahead : IsAhead files items ended number (drop number files)
  long : LongAhead files number (drop number files)
  all : advance_all plan (composing_of files plan.base old) (overridden_items given items) ≡ Ok (unsent sent (composing_of files plan.base now))
  appends : Appends out_old out_now sent
  last : IsLastPlace before place (last_item items)
  latest : now.latest ≡ first_of (last_head (heads (overridden_items given items))) old.latest

none_taken : (plan : Plan) (now : Composing) → advance_all plan now [] ≡ Ok now
unfolding advance_all
none_taken plan now = refl

-- Before the first file.
pub files_start : (told : Option (List (List ℕ × List ℕ))) (names : List (List ℕ)) (plan : Plan) (given : Overrides) (now : Kept) (out : Option (List ℕ)) (place : Place) → IfAllTold told names (FilesStand plan given now out 0 now out place place)
files_start told names plan given now out place = all_always told names (FilesStand plan given now out 0 now out place place) (λ files. record {
  items = [];
  sent = [];
  ahead = ahead_start files;
  long = long_start files;
  all = none_taken plan (composing_of files plan.base now);
  appends = Appends-nil out;
  last = refl;
  latest = sym (latest_none now.latest);
})

last_item-more : (items : List Item) (item : Item) (more : List Item) → last_item (items ++ item ∷ more) ≡ last_item (item ∷ more)
last_item-more [] item more = refl
last_item-more (x ∷ []) item more = refl
last_item-more (x ∷ y ∷ items) item more = last_item-more (y ∷ items) item more

last_place_more : (before mid place : Place) (items more : List Item) → IsLastPlace before mid (last_item items) → IsLastPlace mid place (last_item more) → IsLastPlace before place (last_item (items ++ more))
last_place_more before mid place items [] a b =
    let L : Place → List Item → Type 0 = λ p is. IsLastPlace before p (last_item is) in
    subst (λ (is : List Item). L place is) (sym (append-nil items)) (subst (λ (p : Place). L p items) (sym b) a)
last_place_more before mid place items (item ∷ more) a b = by_last (last_item (item ∷ more)) (some_last item more) (last_item-more items item more) b
  where
    some_last : (item : Item) (more : List Item) → (x : Item) × (last_item (item ∷ more) ≡ Some x)
    some_last item [] = (item, refl)
    some_last item (next ∷ more) = some_last next more

    by_last : (o : Option Item) → (x : Item) × (o ≡ Some x) → last_item (items ++ item ∷ more) ≡ o → IsLastPlace mid place o → IsLastPlace before place (last_item (items ++ item ∷ more))
    by_last None some is p = absurd (let e : None ≡ Some some.0 = some.1 in cc)
    by_last (Some x) some is p = let L : Option Item → Type 0 = λ o. IsLastPlace before place o in subst L (sym is) p

-- The file of a number stands in front of those that are left.
file_next : (files : List (List ℕ)) (number : ℕ) → number < length files → drop number files ≡ get_or files number [] ∷ drop (number + 1) files
file_next files number less = drop_more files number [] less

module _ (plan : Plan) (given : Overrides) (old : Kept) (out0 : Option (List ℕ)) (number : ℕ) (now : Kept) (out_now out_next : Option (List ℕ)) (before place : Place) (files : List (List ℕ)) (less : number < length files) where
  abbrev this : List ℕ
  this = get_or files number []

  -- What is ahead in the file.
  in_file : (s : FilesStand plan given old out0 number now out_now before place files) (more : List Item) (rest : Reading) → reads (number + 1) (get_or files number []) ≡ then_reading more rest → IsAhead files (s.items ++ more) rest (number + 1) (drop (number + 1) files)
  in_file s more rest read =
      ahead_file files s.items number this (drop (number + 1) files) more rest (subst (λ (fs : List (List ℕ)). IsAhead files s.items ended number fs) (file_next files number less) s.ahead) read

  -- One more file.
  one_file : (next : Kept) (after : Place) → FilesStand plan given old out0 number now out_now before place files → FileTaken files plan (number + 1) (override_for given (number + 1)) now next out_now out_next place after (get_or files number [])
      → FilesStand plan given old out0 (number + 1) next out_next before after files
  one_file next after s t =
      let whole : reads (number + 1) this ≡ then_reading t.items ended = then_nothing (reads (number + 1) this) t.items Whole t.read in
      let c0 : Composing = composing_of files plan.base old in
      let c1 : Composing = composing_of files plan.base now in
      let c2 : Composing = composing_of files plan.base next in
      let first : List Item = overridden_items given s.items in
      let then' : List Item = map (overridden_as (override_for given (number + 1))) t.items in
      let all_named : overridden_items given (s.items ++ t.items) ≡ first ++ then' = both_with given (number + 1) this s.items t.items ended whole in
      record {
        items = s.items ++ t.items;
        sent = s.sent ++ t.sent;
        ahead = in_file s t.items ended whole;
        long = long_next files number this (drop (number + 1) files) (file_next files number less) s.long t.fits (ap (λ (r : Reading). r.end) t.read);
        all = ap (advance_all plan c0) all_named ∙ subst (λ (x : Composing). advance_all plan c0 (first ++ then') ≡ Ok x) (unsent_more s.sent t.sent c2)
            (all_more plan c0 (unsent s.sent c1) (unsent s.sent (unsent t.sent c2)) first then' s.all (all_unsent_ok plan s.sent c1 (unsent t.sent c2) then' t.all));
        appends = Appends-trans out0 out_now out_next s.sent t.sent s.appends t.appends;
        last = last_place_more before place after s.items t.items s.last t.last;
        latest = t.latest ∙ ap (first_of (last_head (heads then'))) s.latest ∙ latest_append first then' old.latest ∙ ap (λ (xs : List Item). first_of (last_head (heads xs)) old.latest) (sym all_named);
      }

count_files : {Z : Type 0} (table : List (List ℕ × List ℕ)) (names : List (String Z)) → length (contents table (map string_bytes names)) ≡ length names
count_files table names = length-map (map string_bytes names) (file_at table) ∙ length-map names string_bytes

-- One more file.
pub files_after : {Z : Type 0} (told inputs : Option (List (List ℕ × List ℕ))) (names : List (String Z)) (plan : Plan) (given : Overrides) (old : Kept) (out0 : Option (List ℕ)) (number : ℕ) (now next : Kept) (out_now out_next : Option (List ℕ)) (before place after : Place)
    → inputs ≡ told → number < length names → IfAllTold inputs (map string_bytes names) (λ files. FileTaken files plan (number + 1) (override_for given (number + 1)) now next out_now out_next place after (get_or files number []))
    → IfAllTold told (map string_bytes names) (FilesStand plan given old out0 number now out_now before place) → IfAllTold told (map string_bytes names) (FilesStand plan given old out0 (number + 1) next out_next before after)
files_after {Z} told inputs names plan given old out0 number now next out_now out_next before place after same less taken stands =
    by_told told (subst (λ (t : Option (List (List ℕ × List ℕ))). IfAllTold t (map string_bytes names) (λ files. FileTaken files plan (number + 1) (override_for given (number + 1)) now next out_now out_next place after (get_or files number []))) same taken) stands
  where
    by_told : (t : Option (List (List ℕ × List ℕ))) → IfAllTold t (map string_bytes names) (λ files. FileTaken files plan (number + 1) (override_for given (number + 1)) now next out_now out_next place after (get_or files number []))
        → IfAllTold t (map string_bytes names) (FilesStand plan given old out0 number now out_now before place) → IfAllTold t (map string_bytes names) (FilesStand plan given old out0 (number + 1) next out_next before after)
    by_told None p s = tt
    by_told (Some table) p s =
        let files = contents table (map string_bytes names) in
        one_file plan given old out0 number now out_now out_next before place files (subst (λ (k : ℕ). number < k) (sym (count_files table names)) less) next after s p

-- ---- where it stops

-- No item of all has a version above that of the stream.
never_above : (base : Store ℕ) (given : Overrides) (survey : Surveyed) (files : List (List ℕ)) (items : List Item) (rest : Reading) (number : ℕ) (after : List (List ℕ)) → AllRead given survey files → IsAhead files items rest number after → NextAbove (plan_with base survey) rest → ⊥
never_above base given survey files items rest number after known ahead above =
    let all = ahead_input files items above.item rest above.more number after ahead above.front in
    let this : Item = overridden_item given above.item in
    let front : List Item = overridden_items given items in
    let more : List Item = overridden_items given all.0 in
    let is : (overridden given (input files)).items ≡ front ++ this ∷ more = ap (λ (r : Reading). overridden_items given r.items) all.2 ∙ map-append (overridden_item given) items (above.item ∷ all.0) in
    let here = all_rest (λ (item : Item). CanWrite item.version item.command × (is_version item.version ≡ true)) front (this ∷ more) (subst AreReadable is known.writable) in
    let most = item_version front more this (version_is this.version this.command here.0.0) in
    let version : survey.version ≡ version_of (front ++ this ∷ more) = known.version ∙ ap version_of is in
    let same : this.version ≡ above.item.version = version_with (override_for given above.item.file) above.item in
    let over_all = above.above in
    omega (arith, most, version, same, over_all)

module _ (base : Store ℕ) (given : Overrides) (survey : Surveyed) (files : List (List ℕ)) (k : IsKnown base given survey files) (old : Kept) (start : composing_of files base old ≡ at_start (plan_with base survey)) where
  abbrev plan : Plan
  plan = plan_with base survey

  -- What was taken since the start is progress.
  so_far : (items : List Item) (total : Composing) → advance_all (plan_with base survey) (composing_of files base old) items ≡ Ok total → Progress (plan_for base given files) items total []
  so_far items total all =
      subst (λ (p : Plan). Progress p items total []) k.plan_is
      (progress_all plan [] items (at_start plan) total [] (progress_start plan) (subst (λ (c : Composing). advance_all plan c items ≡ Ok total) start all))

  module _ (out0 : Option (List ℕ)) (number : ℕ) (now : Kept) (out_now out_next : Option (List ℕ)) (before place : Place) (less : number < length files) (s : FilesStand (plan_with base survey) given old out0 number now out_now before place files) (outcome : Outcome)
      (t : FileStops files (plan_with base survey) (number + 1) (override_for given (number + 1)) now out_now out_next outcome (get_or files number [])) where
    progress_now : Progress (plan_for base given files) (overridden_items given (s.items ++ t.items)) (unsent s.sent t.next) []
    progress_now =
        let then' : List Item = map (overridden_as (override_for given (number + 1))) t.items in
        subst (λ (xs : List Item). Progress (plan_for base given files) xs (unsent s.sent t.next) []) (sym (both_with given (number + 1) (get_or files number []) s.items t.items t.rest t.read))
        (so_far (overridden_items given s.items ++ then') (unsent s.sent t.next)
        (all_more plan (composing_of files base old) (unsent s.sent (composing_of files base now)) (unsent s.sent t.next) (overridden_items given s.items) then' s.all (all_unsent_ok plan s.sent (composing_of files base now) t.next then' t.all)))

    ahead_now : IsAhead files (s.items ++ t.items) t.rest (number + 1) (drop (number + 1) files)
    ahead_now = in_file plan given old out0 number now out_now out_next before place files less s t.items t.rest t.read

    -- The next item has the name that is given for the file.
    this_named : (item : Item) (more : Reading) → t.rest ≡ with_item item more → overridden_item given item ≡ overridden_as (override_for given (number + 1)) item
    this_named item more front = next_with given (number + 1) (get_or files number []) t.items item more t.rest t.read front

    halted_now : (item : Item) (halt : Halt) → NextHalts (plan_with base survey) (override_for given (number + 1)) t.next t.rest halt item → reading_due base (overridden given (input files)) ≡ halt_due (overridden_as (override_for given (number + 1)) item) halt
    halted_now item halt h =
        let same = this_named item h.more h.front in
        halted_ahead base given files (s.items ++ t.items) item t.rest h.more (number + 1) (drop (number + 1) files) (unsent s.sent t.next) [] halt ahead_now h.front progress_now
        (ap (advance (plan_for base given files) (unsent s.sent t.next)) same
        ∙ subst (λ (p : Plan). advance p (unsent s.sent t.next) (overridden_as (override_for given (number + 1)) item) ≡ Err halt) k.plan_is (advance_unsent_err plan s.sent t.next (overridden_as (override_for given (number + 1)) item) halt h.halted))
        ∙ ap (λ (x : Item). halt_due x halt) same

    refused_now : (verdict : Verdict) → FileWhy (plan_with base survey) (number + 1) (override_for given (number + 1)) t.next t.rest (over.Refused verdict) (get_or files number []) → reading_due base (overridden given (input files)) ≡ RefusedAt (verdict_meant verdict)
    refused_now verdict (inl faulty) = fault_ahead base given files (s.items ++ t.items) t.rest (verdict_meant verdict) (number + 1) (drop (number + 1) files) (unsent s.sent t.next) [] ahead_now faulty progress_now
    refused_now verdict (inr (inl (item, halt, h, due))) = halted_now item halt h ∙ due
    refused_now verdict (inr (inr above)) = absurd (never_above base given survey files (s.items ++ t.items) t.rest (number + 1) (drop (number + 1) files) k.read ahead_now above)

    -- Where a command is refused, or a file is at fault, all is written that is due.
    refused_whole : (verdict : Verdict) → FileWhy (plan_with base survey) (number + 1) (override_for given (number + 1)) t.next t.rest (over.Refused verdict) (get_or files number []) → s.sent ++ t.next.pending ≡ whole_output_of base (overridden given (input files))
    refused_whole verdict (inl faulty) = faulty_ahead base given files (s.items ++ t.items) t.rest (verdict_meant verdict) (number + 1) (drop (number + 1) files) (unsent s.sent t.next) [] k.ready ahead_now faulty progress_now
    refused_whole verdict (inr (inl (item, Exceeds sum, h, due))) = cc
    refused_whole verdict (inr (inl (item, Refuses refusal, h, due))) =
        refused_ahead base given files (s.items ++ t.items) item t.rest h.more (number + 1) (drop (number + 1) files) (unsent s.sent t.next) [] refusal k.ready ahead_now h.front progress_now
        (ap (advance (plan_for base given files) (unsent s.sent t.next)) (this_named item h.more h.front)
        ∙ subst (λ (p : Plan). advance p (unsent s.sent t.next) (overridden_as (override_for given (number + 1)) item) ≡ Err (Refuses refusal)) k.plan_is (advance_unsent_err plan s.sent t.next (overridden_as (override_for given (number + 1)) item) (Refuses refusal) h.halted))
    refused_whole verdict (inr (inr above)) = absurd (never_above base given survey files (s.items ++ t.items) t.rest (number + 1) (drop (number + 1) files) k.read ahead_now above)

    by_outcome : (written : List ℕ) → IsStoppedOf base (overridden given (input files)) written → (x : Outcome) → ((verdict : Verdict) → x ≡ over.Refused verdict → written ≡ whole_output_of base (overridden given (input files)))
        → FileWhy (plan_with base survey) (number + 1) (override_for given (number + 1)) t.next t.rest x (get_or files number []) → ComposeEnds base given files x written
    by_outcome written short over.Done whole why = elim why [ ]
    by_outcome written short (over.Refused verdict) whole why = record { ends = ends_refused 1 2 base given files written verdict k.read.fits (refused_now verdict why) short; composed = λ e. cc; refused = whole }
    by_outcome written short (over.TooMuch sum) whole (item, h) = record { ends = ends_too_much 1 2 base given files written sum k.read.fits (halted_now item (Exceeds sum) h) short; composed = λ e. cc; refused = whole }
    by_outcome written short over.InputFault whole why = record { ends = short; composed = λ e. cc; refused = whole }
    by_outcome written short over.OutputFault whole why = record { ends = short; composed = λ e. cc; refused = whole }
    by_outcome written short over.NoMemory whole why = record { ends = short; composed = λ e. cc; refused = whole }
    by_outcome written short (over.InputTooLong n) whole (is, long) = record {
      ends = ends_too_long 1 2 base given files written n
          (long_here files number (get_or files number []) (drop (number + 1) files) (file_next files number less) s.long long ∙ ap (λ (m : ℕ). Some m) (sym is)) short;
      composed = λ e. cc;
      refused = whole;
    }
    by_outcome written short (over.InputChanged n at) whole why = elim why [ ]

    -- A front part of what is due is written, and no whole stream.
    short_of : (count : ℕ) → count ≤ length (s.sent ++ t.next.pending) → IsStoppedOf base (overridden given (input files)) (take count (s.sent ++ t.next.pending))
    short_of count within = stopped_ahead base given files (s.items ++ t.items) t.rest (number + 1) (drop (number + 1) files) (unsent s.sent t.next) [] count k.ready ahead_now progress_now within

    -- Where nothing has to be said of all of it.
    front_stopped : (x : Outcome) → ((verdict : Verdict) → x ≡ over.Refused verdict → ⊥) → FileWhy (plan_with base survey) (number + 1) (override_for given (number + 1)) t.next t.rest x (get_or files number []) → Wrote out0 out_next (ComposeEnds base given files x)
    front_stopped x other why =
        let front = front_after out0 out_now out_next s.sent t.next.pending s.appends t.front in
        let written : List ℕ = take front.count (s.sent ++ t.next.pending) in
        (written, front.appends, by_outcome written (short_of front.count front.within) x (λ verdict e. absurd (other verdict e)) why)

    by_stop : (x : Outcome) → AllWhereEnded x out_now out_next t.next.pending → FileWhy (plan_with base survey) (number + 1) (override_for given (number + 1)) t.next t.rest x (get_or files number []) → Wrote out0 out_next (ComposeEnds base given files x)
    by_stop (over.Refused verdict) whole why =
        let written : List ℕ = s.sent ++ t.next.pending in
        let short : IsStoppedOf base (overridden given (input files)) written = subst (IsStoppedOf base (overridden given (input files))) (take-length written) (short_of (length written) (omega arith)) in
        (written, Appends-trans out0 out_now out_next s.sent t.next.pending s.appends whole, by_outcome written short (over.Refused verdict) (λ v e. refused_whole verdict why) why)
    by_stop over.Done whole why = elim why [ ]
    by_stop (over.TooMuch sum) whole why = front_stopped (over.TooMuch sum) (λ v e. cc) why
    by_stop over.InputFault whole why = front_stopped over.InputFault (λ v e. cc) why
    by_stop over.OutputFault whole why = front_stopped over.OutputFault (λ v e. cc) why
    by_stop over.NoMemory whole why = front_stopped over.NoMemory (λ v e. cc) why
    by_stop (over.InputTooLong n) whole why = front_stopped (over.InputTooLong n) (λ v e. cc) why
    by_stop (over.InputChanged n at) whole why = elim why [ ]

    -- Composing stopped in a file.
    file_stopped : Wrote out0 out_next (ComposeEnds base given files outcome)
    file_stopped = by_stop outcome t.whole t.why

-- What holds before the first file.
pub record HasBegun (base : Store ℕ) (given : Overrides) (survey : Surveyed) (old : Kept) (files : List (List ℕ)) : Type 0 where
  known : IsKnown base given survey files
  start : composing_of files base old ≡ at_start (plan_with base survey)

pub begun : (told : Option (List (List ℕ × List ℕ))) (names : List (List ℕ)) (base : Store ℕ) (given : Overrides) (survey : Surveyed) (old : Kept) → store_without survey.parts base ≡ base → AllSayable base → IfAllTold told names (AllRead given survey)
    → IfAllTold told names (λ files. composing_of files base old ≡ at_start (plan_with base survey)) → IfAllTold told names (HasBegun base given survey old)
begun told names base given survey old apart sayable read start =
    all_two told names (AllRead given survey) (λ files. composing_of files base old ≡ at_start (plan_with base survey)) (HasBegun base given survey old) (λ files r s. record { known = known base given survey files apart sayable r; start = s }) read start

pub files_stopped : {Z : Type 0} (told inputs : Option (List (List ℕ × List ℕ))) (names : List (String Z)) (base : Store ℕ) (given : Overrides) (survey : Surveyed) (old : Kept) (out0 : Option (List ℕ)) (number : ℕ) (now : Kept) (out_now out_next : Option (List ℕ)) (before place : Place) (outcome : Outcome)
    → inputs ≡ told → number < length names → IfAllTold told (map string_bytes names) (HasBegun base given survey old)
    → IfAllTold inputs (map string_bytes names) (λ files. FileStops files (plan_with base survey) (number + 1) (override_for given (number + 1)) now out_now out_next outcome (get_or files number []))
    → IfAllTold told (map string_bytes names) (FilesStand (plan_with base survey) given old out0 number now out_now before place) → IfAllTold told (map string_bytes names) (λ files. Wrote out0 out_next (ComposeEnds base given files outcome))
files_stopped {Z} told inputs names base given survey old out0 number now out_now out_next before place outcome same less begun stops stands =
    by_told told begun (subst (λ (t : Option (List (List ℕ × List ℕ))). IfAllTold t (map string_bytes names) (λ files. FileStops files (plan_with base survey) (number + 1) (override_for given (number + 1)) now out_now out_next outcome (get_or files number []))) same stops) stands
  where
    by_told : (t : Option (List (List ℕ × List ℕ))) → IfAllTold t (map string_bytes names) (HasBegun base given survey old)
        → IfAllTold t (map string_bytes names) (λ files. FileStops files (plan_with base survey) (number + 1) (override_for given (number + 1)) now out_now out_next outcome (get_or files number []))
        → IfAllTold t (map string_bytes names) (FilesStand (plan_with base survey) given old out0 number now out_now before place) → IfAllTold t (map string_bytes names) (λ files. Wrote out0 out_next (ComposeEnds base given files outcome))
    by_told None b p s = tt
    by_told (Some table) b p s =
        let files = contents table (map string_bytes names) in
        file_stopped base given survey files b.known old b.start out0 number now out_now out_next before place (subst (λ (k : ℕ). number < k) (sym (count_files table names)) less) s outcome p

-- ---- the end of the last file

-- The last file has ended.
record AtEnd (base : Store ℕ) (given : Overrides) (survey : Surveyed) (out0 : Option (List ℕ)) (now : Kept) (out_now : Option (List ℕ)) (before place : Place) (files : List (List ℕ)) : Type 0 where
  known : IsKnown base given survey files
  items : List Item
  sent : List ℕ
  number : ℕ
  ahead : IsAhead files items ended number []
  appends : Appends out0 out_now sent
  last_place : IsLastPlace before place (last_item items)
  progress : Progress (plan_for base given files) (overridden_items given items) (composing_of files base now) sent
  latest : now.latest ≡ last_head (heads (overridden_items given items))
  last : survey.last ≡ last_head (heads (overridden_items given items))

none_of : (o : Option Head) → is_some o ≡ false → o ≡ None
none_of None e = refl
none_of (Some head) e = cc

at_end : (base : Store ℕ) (given : Overrides) (survey : Surveyed) (old : Kept) (out0 : Option (List ℕ)) (number : ℕ) (now : Kept) (out_now : Option (List ℕ)) (before place : Place) (files : List (List ℕ)) → drop number files ≡ [] → HasBegun base given survey old files
    → FilesStand (plan_with base survey) given old out0 number now out_now before place files → AtEnd base given survey out0 now out_now before place files
at_end base given survey old out0 number now out_now before place files none b s =
    let ahead : IsAhead files s.items ended number [] = subst (λ (fs : List (List ℕ)). IsAhead files s.items ended number fs) none s.ahead in
    let whole = ahead_whole files s.items ended number ahead refl in
    let first : old.latest ≡ None = none_of old.latest (ap (λ (c : Composing). c.begun) b.start) in
    record {
      known = b.known;
      items = s.items;
      sent = s.sent;
      number = number;
      ahead = ahead;
      appends = s.appends;
      last_place = s.last;
      progress = progress_unsent (plan_for base given files) (overridden_items given s.items) (composing_of files base now) [] s.sent (so_far base given survey files b.known old b.start (overridden_items given s.items) (unsent s.sent (composing_of files base now)) s.all);
      latest = s.latest ∙ ap (first_of (last_head (heads (overridden_items given s.items)))) first ∙ latest_alone (last_head (heads (overridden_items given s.items)));
      last = b.known.read.last ∙ ap (λ (r : Reading). last_head (heads (overridden_items given r.items))) whole;
    }

same_last : (l : Option Head) → is_at_last l l ≡ is_some l
same_last None = refl
same_last (Some head) = ap₂ (λ (a b : Bool). a && b) (same_key_same head.key) (bytes_eq_same head.name)

no_heads : (hs : List Head) → length hs ≡ 0 → hs ≡ []
no_heads [] e = refl
no_heads (h ∷ hs) e = cc

end_there : (cs : List Command) → heads_of cs ≢ [] → EndsWell cs → EndsWithEnd cs
unfolding heads_of
end_there cs some (inl none) = absurd (some (ap heads_of none))
end_there cs some (inr ends) = ends

module _ (base : Store ℕ) (given : Overrides) (survey : Surveyed) (out0 : Option (List ℕ)) (now : Kept) (out_now : Option (List ℕ)) (before place : Place) (files : List (List ℕ)) (e : AtEnd base given survey out0 now out_now before place files) where
  -- The stream has begun exactly where the head that came last is that of the last part.
  begun_is : is_some now.latest ≡ is_at_last now.latest survey.last
  begun_is = sym (ap (is_at_last now.latest) (e.last ∙ sym e.latest) ∙ same_last now.latest)

  -- What was sent is no whole stream.
  sent_short : IsStoppedOf base (overridden given (input files)) e.sent
  sent_short =
      subst (IsStoppedOf base (overridden given (input files))) (take-append_seam e.sent now.pending)
      (stopped_ahead base given files e.items ended e.number [] (composing_of files base now) e.sent (length e.sent) e.known.ready e.ahead e.progress (omega (arith, length-append e.sent now.pending)))

  -- No part has begun.
  none_begun : (verdict : Verdict) → files ≢ [] → is_at_last now.latest survey.last ≡ false → verdict_meant verdict ≡ record { file = place.file; command = place.command; offset = place.offset; refusal = NotConsecutive }
      → Wrote out0 out_now (ComposeEnds base given files (over.Refused verdict))
  none_begun verdict some not_last verdict_is =
      let whole = ahead_whole files e.items ended e.number e.ahead refl in (
        e.sent,
        e.appends,
        record {
          ends = ends_refused 1 2 base given files e.sent verdict e.known.read.fits (by_last (last_item e.items) refl (λ none. by_files files some (ap (λ (r : Reading). r.end) whole) (ap (λ (r : Reading). r.items) whole ∙ last_item_none e.items none)) e.last_place) sent_short;
          composed = λ q. cc;
          refused = λ v q. by_item (last_item e.items) refl (λ none. by_files files some (ap (λ (r : Reading). r.end) whole) (ap (λ (r : Reading). r.items) whole ∙ last_item_none e.items none));
        },
      )
    where
      by_item : (o : Option Item) → last_item e.items ≡ o → (o ≡ None → ⊥) → e.sent ≡ whole_output_of base (overridden given (input files))
      by_item None is there = absurd (there refl)
      by_item (Some item) is there = nothing_ahead base given files e.items item ended e.number (composing_of files base now) e.sent e.known.ready e.ahead refl e.progress (begun_is ∙ not_last) is

      by_files : (fs : List (List ℕ)) → fs ≢ [] → (input fs).end ≡ Whole → (input fs).items ≡ [] → ⊥
      by_files [] some w n = some refl
      by_files (bytes ∷ after) some w n = input_some bytes after w n

      by_last : (o : Option Item) → last_item e.items ≡ o → (o ≡ None → ⊥) → IsLastPlace before place o → reading_due base (overridden given (input files)) ≡ RefusedAt (verdict_meant verdict)
      by_last None is there p = absurd (there refl)
      by_last (Some item) is there p =
          empty_ahead base given files e.items item ended e.number (composing_of files base now) e.sent e.ahead refl e.progress (begun_is ∙ not_last) is
          ∙ ap RefusedAt (
          ap (λ (n : ℕ). record { file = n; command = item.number; offset = item.offset; refusal = NotConsecutive }) (sym p.file)
          ∙ ap (λ (n : ℕ). record { file = place.file; command = n; offset = item.offset; refusal = NotConsecutive }) (sym p.command)
          ∙ ap (λ (n : ℕ). record { file = place.file; command = place.command; offset = n; refusal = NotConsecutive }) (sym p.offset)
          ∙ sym verdict_is
          )

  module _ (at_last : is_at_last now.latest survey.last ≡ true) where
    some_heads : heads (overridden given (input files)).items ≢ []
    some_heads none =
        let whole = ahead_whole files e.items ended e.number e.ahead refl in
        let no_last : last_head (heads (overridden_items given e.items)) ≡ None = ap (λ (r : Reading). last_head (heads (overridden_items given r.items))) (sym whole) ∙ ap last_head none in
        false≢true (ap is_some (sym (e.latest ∙ no_last)) ∙ begun_is ∙ at_last)

    heads_read : heads (input files).items ≢ []
    heads_read none = some_heads (no_heads (heads (overridden given (input files)).items) ((keeps_all_else given (input files).items).heads_count ∙ ap length none))

    is_whole : IsWhole (overridden given (input files))
    is_whole =
        let whole : (input files).end ≡ Whole = ap (λ (r : Reading). r.end) (ahead_whole files e.items ended e.number e.ahead refl) in
        let ends = end_there (commands_of (input files).items) heads_read (input_ends files whole) in
        let still = still_ends given (input files).items ends.0 ends.1 in
        record { whole = whole; others = still.0; ends = still.1; writable = e.known.read.writable }

    headline : IsComposedOf base (overridden given (input files)) ((e.sent ++ now.pending) ++ canonical (version_of (overridden given (input files)).items) End)
    headline =
        let all : List Item = (overridden given (input files)).items in
        let b : Store ℕ = base_of base all in
        let P : Store ℕ → Type 0 = λ x. FindsSayable x (keys_outside all) → Progress (plan_for x given files) (overridden_items given e.items) (composing_of files base now) e.sent
        → IsComposedOf x (overridden given (input files)) ((e.sent ++ now.pending) ++ canonical (version_of all) End) in
        subst P e.known.base_is (λ sayable progress. composed_ahead readings_hold base given files e.items ended e.number (composing_of files base now) e.sent is_whole sayable e.ahead refl progress (begun_is ∙ at_last)) e.known.sayable e.progress

    -- All is written, with END.
    all_done : (out_next : Option (List ℕ)) → Appends out_now out_next (now.pending ++ canonical (version_of (overridden given (input files)).items) End) → Wrote out0 out_next (ComposeEnds base given files over.Done)
    all_done out_next sent =
        let last : List ℕ = canonical (version_of (overridden given (input files)).items) End in
        let done = done_ahead base given files e.items ended e.number (composing_of files base now) e.sent e.ahead refl e.progress (begun_is ∙ at_last) in (
          e.sent ++ (now.pending ++ last),
          Appends-trans out0 out_now out_next e.sent (now.pending ++ last) e.appends sent,
          subst (ComposeEnds base given files over.Done) (append_assoc e.sent now.pending last)
              (record { ends = ends_done 1 2 base given files ((e.sent ++ now.pending) ++ last) e.known.read.fits done.0 done.1; composed = λ q. headline; refused = λ v q. cc }),
        )

    -- The output failed before all was written.
    end_unsent : (out_next : Option (List ℕ)) → AppendsPart out_now out_next (now.pending ++ canonical (version_of (overridden given (input files)).items) End) → Wrote out0 out_next (ComposeEnds base given files over.OutputFault)
    end_unsent out_next (count, short, sent) =
        let last : List ℕ = canonical (version_of (overridden given (input files)).items) End in
        let rest : List ℕ = now.pending ++ last in
        let same : take (length e.sent + count) ((e.sent ++ now.pending) ++ last) ≡ e.sent ++ take count rest = ap (take (length e.sent + count)) (append_assoc e.sent now.pending last) ∙ take-append-add e.sent rest count in
        let within : length e.sent + count < length ((e.sent ++ now.pending) ++ last) = omega (arith, short, length-append e.sent rest, ap length (append_assoc e.sent now.pending last)) in (
          e.sent ++ take count rest,
          Appends-trans out0 out_now out_next e.sent (take count rest) e.appends sent,
          record {
            ends = subst (IsStoppedOf base (overridden given (input files))) same (stopped_end_ahead base given files e.items ended e.number (composing_of files base now) e.sent (length e.sent + count) e.known.ready e.ahead refl e.progress (begun_is ∙ at_last) within);
            composed = λ q. cc;
            refused = λ v q. cc;
          },
        )

  -- There is no memory for END.
  end_unmade : (out_next : Option (List ℕ)) → Appends out_now out_next [] → Wrote out0 out_next (ComposeEnds base given files over.NoMemory)
  end_unmade out_next sent = (
    e.sent ++ [],
    Appends-trans out0 out_now out_next e.sent [] e.appends sent,
    record { ends = subst (IsStoppedOf base (overridden given (input files))) (sym (append-nil e.sent)) sent_short; composed = λ q. cc; refused = λ v q. cc },
  )

  -- END was to be written.
  by_end : (out_next : Option (List ℕ)) (f0 f1 : ℕ) (result : Result (Unit {0}) SendStop) → is_at_last now.latest survey.last ≡ true → EndEnd (now.pending ++ canonical (version_of (overridden given (input files)).items) End) out_now out_next f0 f1 result
      → Wrote out0 out_next (ComposeEnds base given files (outcome_in (answer_with result)))
  by_end out_next f0 f1 (Ok done) at_last sent = all_done at_last out_next sent
  by_end out_next f0 f1 (Err stopped.OutputFault) at_last (rose, part) = end_unsent at_last out_next part
  by_end out_next f0 f1 (Err stopped.NoMemory) at_last sent = end_unmade out_next sent
  by_end out_next f0 f1 (Err stopped.InputFault) at_last s = elim s [ ]
  by_end out_next f0 f1 (Err (stopped.InputChanged n at)) at_last s = elim s [ ]

-- ---- the ends, where the inputs tell their files

-- After the last of some files.
Ended : Store ℕ → Overrides → Surveyed → Option (List ℕ) → Kept → Option (List ℕ) → Place → Place → List (List ℕ) → Type 0
Ended base given survey out0 now out_now before place files = AtEnd base given survey out0 now out_now before place files × (files ≢ [])

ended_all : {Z : Type 0} (told : Option (List (List ℕ × List ℕ))) (names : List (String Z)) (base : Store ℕ) (given : Overrides) (survey : Surveyed) (old : Kept) (out0 : Option (List ℕ)) (number : ℕ) (now : Kept) (out_now : Option (List ℕ)) (before place : Place)
    → names ≢ [] → length names ≤ number → IfAllTold told (map string_bytes names) (HasBegun base given survey old) → IfAllTold told (map string_bytes names) (FilesStand (plan_with base survey) given old out0 number now out_now before place)
    → IfAllTold told (map string_bytes names) (Ended base given survey out0 now out_now before place)
unfolding Ended
ended_all {Z} None names base given survey old out0 number now out_now before place some past b stands = tt
ended_all {Z} (Some table) names base given survey old out0 number now out_now before place some past b stands =
    let files = contents table (map string_bytes names) in
    let count : length files ≡ length names = count_files table names in
    (at_end base given survey old out0 number now out_now before place files (drop_all number files (omega (arith, count, past))) b stands, by_names names some)
  where
    by_names : (ns : List (String Z)) → ns ≢ [] → contents table (map string_bytes ns) ≢ []
    by_names [] some = absurd (some refl)
    by_names (n ∷ ns) some = λ none. cc

-- No part has begun.
pub files_empty : {Z : Type 0} (told : Option (List (List ℕ × List ℕ))) (names : List (String Z)) (base : Store ℕ) (given : Overrides) (survey : Surveyed) (old : Kept) (out0 : Option (List ℕ)) (number : ℕ) (now : Kept) (out_now : Option (List ℕ)) (before place : Place) (verdict : Verdict)
    → names ≢ [] → length names ≤ number → is_at_last now.latest survey.last ≡ false → verdict_meant verdict ≡ record { file = place.file; command = place.command; offset = place.offset; refusal = NotConsecutive }
    → IfAllTold told (map string_bytes names) (HasBegun base given survey old) → IfAllTold told (map string_bytes names) (FilesStand (plan_with base survey) given old out0 number now out_now before place)
    → IfAllTold told (map string_bytes names) (λ files. Wrote out0 out_now (ComposeEnds base given files (over.Refused verdict)))
unfolding Ended
files_empty told names base given survey old out0 number now out_now before place verdict some past not_last verdict_is b stands =
    all_map told (map string_bytes names) (Ended base given survey out0 now out_now before place) (λ files. Wrote out0 out_now (ComposeEnds base given files (over.Refused verdict)))
    (λ files e. none_begun base given survey out0 now out_now before place files e.0 verdict e.1 not_last verdict_is) (ended_all told names base given survey old out0 number now out_now before place some past b stands)

-- END was to be written.
pub files_ended : {Z : Type 0} (told : Option (List (List ℕ × List ℕ))) (names : List (String Z)) (base : Store ℕ) (given : Overrides) (survey : Surveyed) (old : Kept) (out0 : Option (List ℕ)) (number : ℕ) (now : Kept) (out_now out_next : Option (List ℕ)) (before place : Place) (version f0 f1 : ℕ) (result : Result (Unit {0}) SendStop) (answer : Result (Unit {0}) Outcome)
    → names ≢ [] → length names ≤ number → is_at_last now.latest survey.last ≡ true → version ≡ survey.version → EndEnd (now.pending ++ canonical version End) out_now out_next f0 f1 result → answer ≡ answer_with result
    → IfAllTold told (map string_bytes names) (HasBegun base given survey old) → IfAllTold told (map string_bytes names) (FilesStand (plan_with base survey) given old out0 number now out_now before place)
    → IfAllTold told (map string_bytes names) (λ files. Wrote out0 out_next (ComposeEnds base given files (outcome_in answer)))
unfolding Ended
files_ended told names base given survey old out0 number now out_now out_next before place version f0 f1 result answer some past at_last version_is sent answered b stands =
    all_map told (map string_bytes names) (Ended base given survey out0 now out_now before place) (λ files. Wrote out0 out_next (ComposeEnds base given files (outcome_in answer)))
    (λ files e. subst (λ (r : Result (Unit {0}) Outcome). Wrote out0 out_next (ComposeEnds base given files (outcome_in r))) (sym answered) (by_end base given survey out0 now out_now before place files e.0 out_next f0 f1 result at_last
    (subst (λ (v : ℕ). EndEnd (now.pending ++ canonical v End) out_now out_next f0 f1 result) (version_is ∙ e.0.known.read.version) sent))) (ended_all told names base given survey old out0 number now out_now before place some past b stands)

-- ---- the survey came to no end

pub survey_stopped : (told : Option (List (List ℕ × List ℕ))) (names : List (List ℕ)) (base : Store ℕ) (given : Overrides) (out : Option (List ℕ)) (outcome : Outcome) → IfAllTold told names (SurveyStop outcome) → IfAllTold told names (λ files. Wrote out out (ComposeEnds base given files outcome))
survey_stopped told names base given out outcome stops = all_map told names (SurveyStop outcome) (λ files. Wrote out out (ComposeEnds base given files outcome)) (λ files why. ([], Appends-nil out, by_outcome files outcome why)) stops
  where
    by_outcome : (files : List (List ℕ)) (x : Outcome) → SurveyStop x files → ComposeEnds base given files x []
    by_outcome files over.Done why = elim why [ ]
    by_outcome files (over.Refused verdict) why = elim why [ ]
    by_outcome files (over.TooMuch sum) why = elim why [ ]
    by_outcome files over.InputFault why = record { ends = nothing_stopped base (overridden given (input files)); composed = λ e. cc; refused = λ v e. cc }
    by_outcome files over.OutputFault why = elim why [ ]
    by_outcome files over.NoMemory why = record { ends = nothing_stopped base (overridden given (input files)); composed = λ e. cc; refused = λ v e. cc }
    by_outcome files (over.InputTooLong n) long = record { ends = ends_too_long 1 2 base given files [] n long (nothing_stopped base (overridden given (input files))); composed = λ e. cc; refused = λ v e. cc }
    by_outcome files (over.InputChanged n at) why = elim why [ ]
