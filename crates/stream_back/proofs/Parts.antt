-- The parts of a stream, and what of it is written where one of them stops.
use Rattle.std.specs.Prelude.{◌≡◌, ℕ, ◌+◌, ◌<◌, ◌≤◌, List, [], ◌∷◌, ◌++◌, length, take, Option, Some, Result, Ok, Err, IfErr}
use Rattle.std.specs.Option.{option_map}
use Rattle.std.specs.Io.KnownBytes.{Appends}
use Rattle.std.proofs.Common.{refl, sym, ap, subst, ◌∙◌, arith, append_assoc, append-nil, length-append}
use Rattle.std.proofs.KnownBytes.{Appends-nil, Appends-trans}
use Rattle.std.proofs.Math.Seq.{take-add}
use Rattle.std.proofs.lemmas.List.{take-append-le, take_at, drop_at}
use Rattle.send_model.specs.Command.{Command, End}
use Rattle.send_model.specs.Composed.{head_command}
use Rattle.send_model.specs.Headline.{IsFrontOf, IsProperFrontOf}
use Rattle.send_model.specs.Spelling.{stream_header, canonical, canonical_all, frame_of}
use Rattle.sx_base.specs.Calls.{Wrote}
use Rattle.sx_base.specs.Outside.{AppendsPart}
use Rattle.sx_base.specs.declared.outcome.Outcome.TheVariants as ended
use Rattle.stream_model.specs.OwnStream.{Edits, own_stream}
use Rattle.subvol_catalog.specs.Entries.{key_of}
use Rattle.edits_copy.specs.Finding.{bytes_at, IsPlaceOf, FindsAll}
use Rattle.edits_copy.specs.declared.place.EditsPlace.{EditsPlace}
use Rattle.edits_copy.specs.declared.stops.CopyStop.{CopyStop}
use Rattle.edits_copy.specs.declared.stops.CopyStop.TheVariants as copied
use Rattle.edits_copy.specs.Copying.{IsCutAt, CopyCaused}
use Rattle.store_commands.specs.declared.ends.StoreEnd.{StoreEnd}
use Rattle.store_commands.specs.declared.ends.StoreEnd.TheVariants as made
use Rattle.stream_back.specs.declared.heads.EntryHead.{EntryHead}
use Rattle.stream_back.specs.Writing.{headed, parts_of, end_copied, IsCutBy, PartEnds, StopCaused, StreamEnds, IsBack}

-- ---- the stream of an entry

canonical_joined : (version : ℕ) (xs ys : List Command) → canonical_all version (xs ++ ys) ≡ canonical_all version xs ++ canonical_all version ys
unfolding canonical_all
canonical_joined version [] ys = refl
canonical_joined version (x ∷ xs) ys = ap (λ (l : List ℕ). canonical version x ++ l) (canonical_joined version xs ys) ∙ sym (append_assoc (canonical version x) (canonical_all version xs) (canonical_all version ys))

canonical_one : (version : ℕ) (c : Command) → canonical_all version (c ∷ []) ≡ canonical version c
unfolding canonical_all
canonical_one version c = append-nil (canonical version c)

-- The parts at the place of its edits are its stream.
pub whole_stream : (head : EntryHead) (place : EditsPlace) (image : List ℕ) (edits : Edits) → IsPlaceOf image (Some edits) (Some place) → parts_of head place image ≡ own_stream (headed head) edits
unfolding own_stream canonical_all
whole_stream head place image edits (version, bytes) =
    let c : Command = head_command head.name.now (key_of head.key) (option_map key_of head.parent) in
    let v : ℕ = edits.version in
    ap (λ (n : ℕ). (stream_header n ++ canonical n c) ++ (bytes_at place image ++ canonical n End)) version
    ∙ ap (λ (l : List ℕ). (stream_header v ++ canonical v c) ++ (l ++ canonical v End)) bytes
    ∙ append_assoc (stream_header v) (canonical v c) (canonical_all v edits.commands ++ canonical v End)
    ∙ ap (λ (l : List ℕ). stream_header v ++ (canonical v c ++ l)) (ap (λ (l : List ℕ). canonical_all v edits.commands ++ l) (sym (canonical_one v End)) ∙ sym (canonical_joined v edits.commands (End ∷ [])))

pub is_back : (image : List ℕ) (head : EntryHead) (place : EditsPlace) (result : Result (Unit {0}) StoreEnd) (written : List ℕ) → FindsAll image head.key.uuid (Some place) → StreamEnds (parts_of head place image) result written → IsBack image head result written
is_back image head place result written finds ends has =
    subst (λ (l : List ℕ). StreamEnds l result written) (whole_stream head place image has.edits (subst (λ (o : Option Edits). IsPlaceOf image o (Some place)) has.last (finds has.header has.groups has.has has.lawful))) ends

-- ---- fronts

-- So many bytes of a text, behind what is in front of it.
front_of_all : (all front text rest : List ℕ) (count : ℕ) → count ≤ length text → all ≡ (front ++ text) ++ rest → front ++ take count text ≡ take (length front + count) all
front_of_all all front text rest count less e =
    ap (λ (l : List ℕ). l ++ take count text) (sym (take_at front (text ++ rest) (length front) refl))
    ∙ ap (λ (l : List ℕ). take (length front) (front ++ (text ++ rest)) ++ l) (sym (take-append-le count text rest less) ∙ ap (λ (l : List ℕ). take count l) (sym (drop_at front (text ++ rest) (length front) refl)))
    ∙ sym (take-add (length front) count (front ++ (text ++ rest))) ∙ ap (λ (l : List ℕ). take (length front + count) l) (sym (e ∙ append_assoc front text rest))

module _ (all front text rest : List ℕ) (e : all ≡ (front ++ text) ++ rest) where
  all_size : length all ≡ length front + length text + length rest
  all_size = omega (arith, ap length e, length-append (front ++ text) rest, length-append front text)

  -- A part of it is not all.
  proper_in : (part : List ℕ) → IsProperFrontOf text part → IsProperFrontOf all (front ++ part)
  proper_in part p = record { count = length front + p.count; within = omega (arith, all_size, p.within); written_is = ap (λ (l : List ℕ). front ++ l) p.written_is ∙ front_of_all all front text rest p.count (omega (arith, p.within)) e }

  front_in : (part : List ℕ) → IsFrontOf text part → IsFrontOf all (front ++ part)
  front_in part p = record { count = length front + p.count; within = omega (arith, all_size, p.within); written_is = ap (λ (l : List ℕ). front ++ l) p.written_is ∙ front_of_all all front text rest p.count p.within e }

  proper_by_rest : (part : List ℕ) → 0 < length rest → IsFrontOf text part → IsProperFrontOf all (front ++ part)
  proper_by_rest part some p = record { count = length front + p.count; within = omega (arith, all_size, some, p.within); written_is = ap (λ (l : List ℕ). front ++ l) p.written_is ∙ front_of_all all front text rest p.count p.within e }

  -- Where it stops, and something comes behind it.
  cut_in : (end : StoreEnd) (part : List ℕ) → 0 < length rest → IsCutBy end text part → StreamEnds all (Err end) (front ++ part)
  cut_in (made.Ends ended.OutputFault) part some cut = (proper_in part cut, proper_in part cut)
  cut_in (made.Ends ended.NoMemory) part some cut = (front_in part cut, proper_by_rest part some cut)
  cut_in (made.Ends ended.Done) part some cut = absurd cut
  cut_in (made.Ends (ended.Refused verdict)) part some cut = absurd cut
  cut_in (made.Ends ended.InputFault) part some cut = absurd cut
  cut_in (made.Ends (ended.InputTooLong file)) part some cut = absurd cut
  cut_in (made.Ends (ended.TooMuch sum)) part some cut = absurd cut
  cut_in (made.Ends (ended.InputChanged file place)) part some cut = absurd cut
  cut_in made.StoreFault part some cut = (front_in part cut, proper_by_rest part some cut)
  cut_in (made.NotStore group) part some cut = absurd cut
  cut_in made.NoName part some cut = absurd cut
  cut_in made.NoFile part some cut = absurd cut
  cut_in (made.LogFull end wanted limit) part some cut = absurd cut
  cut_in (made.StoreThere size) part some cut = absurd cut
  cut_in (made.Damaged group stored computed) part some cut = absurd cut

some_end : (version : ℕ) → 0 < length (canonical version End)
unfolding canonical frame_of
some_end version = omega arith

some_header : (version : ℕ) (rest : List ℕ) → 0 < length (stream_header version ++ rest)
unfolding stream_header
some_header version rest = omega arith

-- ---- the three parts

module _ (head : EntryHead) (place : EditsPlace) (image : List ℕ) where
  abbrev opening : List ℕ
  opening = stream_header place.version ++ canonical place.version (head_command head.name.now (key_of head.key) (option_map key_of head.parent))

  abbrev middle : List ℕ
  middle = bytes_at place image

  abbrev last : List ℕ
  last = canonical place.version End

  abbrev all : List ℕ
  all = parts_of head place image

  -- Nothing is written.
  pub none_written : (taken : Option (List ℕ)) → Wrote taken taken (StreamEnds all (Err (made.Ends ended.NoMemory)))
  none_written taken =
      let some : 0 < length all = omega (arith, some_header place.version (canonical place.version (head_command head.name.now (key_of head.key) (option_map key_of head.parent))), length-append opening (middle ++ last)) in
      ([], Appends-nil taken, (record { count = 0; within = omega arith; written_is = refl }, record { count = 0; within = some; written_is = refl }))

  pub first_stops : (end : StoreEnd) (t0 t1 : Option (List ℕ)) → PartEnds opening t0 t1 (Err end) → Wrote t0 t1 (StreamEnds all (Err end))
  first_stops end t0 t1 (part, appends, cut) =
      (part, appends, cut_in all [] opening (middle ++ last) refl end part (omega (arith, some_end place.version, length-append middle last)) cut)

  pub middle_stops : (end : StoreEnd) (t0 t1 t2 : Option (List ℕ)) → Appends t0 t1 opening → PartEnds middle t1 t2 (Err end) → Wrote t0 t2 (StreamEnds all (Err end))
  middle_stops end t0 t1 t2 first (part, appends, cut) =
      (opening ++ part, Appends-trans t0 t1 t2 opening part first appends, cut_in all opening middle last (sym (append_assoc opening middle last)) end part (some_end place.version) cut)

  pub last_part : (result : Result (Unit {0}) StoreEnd) (t0 t1 t2 t3 : Option (List ℕ)) → Appends t0 t1 opening → Appends t1 t2 middle → PartEnds last t2 t3 result → IfErr result (λ (end : StoreEnd). end ≡ made.Ends ended.OutputFault) → Wrote t0 t3 (StreamEnds all result)
  last_part (Ok done) t0 t1 t2 t3 first second appends only =
      (all, subst (λ (l : List ℕ). Appends t0 t3 l) (append_assoc opening middle last) (Appends-trans t0 t2 t3 (opening ++ middle) last (Appends-trans t0 t1 t2 opening middle first second) appends), refl)
  last_part (Err end) t0 t1 t2 t3 first second (part, appends, cut) only =
      let is : end ≡ made.Ends ended.OutputFault = only in
      let proper : IsProperFrontOf last part = subst (λ (e : StoreEnd). IsCutBy e last part) is cut in
      let in_all : IsProperFrontOf all ((opening ++ middle) ++ part) = proper_in all (opening ++ middle) last [] (sym (append_assoc opening middle last) ∙ sym (append-nil ((opening ++ middle) ++ last))) part proper in (
        (opening ++ middle) ++ part,
        Appends-trans t0 t2 t3 (opening ++ middle) part (Appends-trans t0 t1 t2 opening middle first second) appends,
        subst (λ (e : StoreEnd). StreamEnds all (Err e) ((opening ++ middle) ++ part)) (sym is) (in_all, in_all),
      )

-- Where copying stops.
pub copy_ends : (why : CopyStop) (part written : List ℕ) → IsCutAt why part written → IsCutBy (end_copied why) part written
copy_ends copied.OutputFault part written cut = cut
copy_ends copied.DiskFault part written cut = cut
copy_ends copied.NoMemory part written cut = record { count = 0; within = omega arith; written_is = cut }

-- A part that the output cuts.
pub put_fails : (piece : List ℕ) (old new : Option (List ℕ)) → AppendsPart old new piece → PartEnds piece old new (Err (made.Ends ended.OutputFault))
put_fails piece old new (count, less, appends) = (take count piece, appends, record { count = count; within = less; written_is = refl })

-- A part that copying cuts.
pub copy_fails : (all : List ℕ) (old new : Option (List ℕ)) (why : CopyStop) (end : StoreEnd) → end ≡ end_copied why → Wrote old new (IsCutAt why all) → PartEnds all old new (Err end)
copy_fails all old new why end is (part, appends, cut) = subst (λ (e : StoreEnd). PartEnds all old new (Err e)) (sym is) (part, appends, copy_ends why all part cut)

pub copy_caused : (disk_rose out_rose : Type 0) (why : CopyStop) (end : StoreEnd) → end ≡ end_copied why → CopyCaused disk_rose out_rose why → StopCaused disk_rose out_rose end
copy_caused disk_rose out_rose why end is caused = subst (λ (e : StoreEnd). StopCaused disk_rose out_rose e) (sym is) (one why caused)
  where
    one : (why : CopyStop) → CopyCaused disk_rose out_rose why → StopCaused disk_rose out_rose (end_copied why)
    one copied.DiskFault caused = caused
    one copied.OutputFault caused = caused
    one copied.NoMemory caused = tt

-- The output failed in a part.
pub put_caused : (disk_rose out_rose : Type 0) (end : StoreEnd) → end ≡ made.Ends ended.OutputFault → out_rose → StopCaused disk_rose out_rose end
put_caused disk_rose out_rose end is rose = subst (λ (e : StoreEnd). StopCaused disk_rose out_rose e) (sym is) rose
