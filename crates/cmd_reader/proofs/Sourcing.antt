-- What a source of headers and frames has of its file, piece by piece.
use Rattle.std.specs.Prelude.{◌≡◌, ℕ, ◌+◌, ◌-◌, ◌<◌, ◌≤◌, min, Bool, false, true, List, [], ◌++◌, length, take, drop, Option, None, Some, Result, Ok, Err}
use Rattle.std.proofs.Common.{refl, sym, ap, subst, ◌∙◌, arith, length-take, length-drop, length-append, append_assoc, append-nil, drop_of_length-le, drop-drop}
use Rattle.std.proofs.lemmas.List.{take-take, drop-take, take-append-drop, take-append-le, drop-append-le}
use Rattle.send_model.specs.Refusal as meant
use Rattle.send_model.specs.Reading.{Due, Frame, stream_version, frame_at}
use Rattle.send_model.specs.Lengths.{limit}
use Rattle.send_model.proofs.Fuel.{bound, ok_same}
use Rattle.sx_base.specs.Causes.{Rose}
use Rattle.sx_base.specs.Outside.{GivesAt, file_at}
use Rattle.sx_base.specs.Refusals.{refusal_of}
use Rattle.sx_base.specs.declared.refusal.Refusal.{Refusal}
use Rattle.tlv_frame.specs.Feeding.{Fed, Piece, HeadPiece, FramePiece, Handed, handed, head_handed, frame_handed, next_of, after, fed_after, fed_with, passed_piece, PassedFits, PassedDue, IfPassed, Passes, room}
use Rattle.tlv_frame.specs.declared.feed.Passed.{Passed}
use Rattle.tlv_frame.specs.declared.feed.Passed.TheVariants as passed
use Rattle.tlv_frame.proofs.Growing.{is_cut, handed_grows, handed_within, handed_next, refused_next, waits_next, waits_short}
use Rattle.cmd_reader.specs.declared.source.Source.{Source}
use Rattle.cmd_reader.specs.Places.{IfTold}
use Rattle.cmd_reader.specs.Fronts.{IsLongAt}
use Rattle.cmd_reader.specs.declared.fault.Fault.{Fault}
use Rattle.cmd_reader.specs.declared.fault.Fault.TheVariants as fault
use Rattle.cmd_reader.specs.Sources.{IsSource, IsAhead, unit_len, EndsThere, HasPassed, StandsThere, HasStayed, IsCutShort, NotThere, BadThere, MoreSays}
use Rattle.cmd_reader.proofs.Passes.{PassSays}
use Rattle.std.specs.String.{string_bytes}
use Rattle.cmd_reader.proofs.Told.{Here, told_map, told_here, told_moved}

-- ---- files with the same bytes before the limit

same_lengths : (file other : List ℕ) → take limit other ≡ take limit file → min limit (length other) ≡ min limit (length file)
same_lengths file other same = sym (length-take limit other) ∙ ap (λ (l : List ℕ). length l) same ∙ length-take limit file

same_bytes : (file other : List ℕ) (at count : ℕ) → at + count ≤ limit → take limit other ≡ take limit file → take count (drop at file) ≡ take count (drop at other)
same_bytes file other at count place same =
    sym (drop-take at count file)
    ∙ ap (drop at) (sym (take-take (at + count) limit file place) ∙ ap (λ (l : List ℕ). take (at + count) l) (sym same) ∙ take-take (at + count) limit other place)
    ∙ drop-take at count other

-- ---- one more piece

-- The file has no more.
pub ends_there : (told : Option (List (List ℕ × List ℕ))) (name : List ℕ) (source : Source) (buf : List ℕ) (count : ℕ) → IsSource source → source.fed < limit → count ≡ 0 → 0 < length buf → GivesAt told name source.fed buf count
    → IfTold told name (IsAhead source.at source.feed) → IfTold told name (EndsThere source.at source.feed)
ends_there None name source buf count kept early none room gives ahead = tt
ends_there (Some files) name source buf count kept early none room gives ahead = λ file same. by_file file same (ahead file same)
  where
    by_file : (file : List ℕ) → take limit file ≡ take limit (file_at files name) → IsAhead source.at source.feed file → EndsThere source.at source.feed file
    by_file file same a =
        let lengths = same_lengths (file_at files name) file same in
        let ends : length file ≤ source.fed = omega (arith, gives.at_end none room, lengths, early) in
        let behind : drop (source.at + length source.feed.left) file ≡ [] = drop_of_length-le file (omega (arith, ends, kept.up_to)) in
        record {
          all = a.bytes ∙ ap (λ (l : List ℕ). source.feed.left ++ l) behind ∙ append-nil source.feed.left;
          early = omega (arith, ends, early);
        }

-- The bytes that were given are the next ones of the file.
pub more_ahead : (told : Option (List (List ℕ × List ℕ))) (name : List ℕ) (at fed count taken : ℕ) (feed : Fed) (buf given : List ℕ) → at + length feed.left ≡ fed → fed + count ≤ limit → count ≤ length buf → taken ≤ count → given ≡ take taken (take count buf)
    → GivesAt told name fed buf count → IfTold told name (IsAhead at feed) → IfTold told name (IsAhead at (fed_with given feed))
more_ahead None name at fed count taken feed buf given up_to place bound few is gives ahead = tt
more_ahead (Some files) name at fed count taken feed buf given up_to place bound few is gives ahead = λ file same. by_file file same (ahead file same)
  where
    size : length given ≡ taken
    size = ap (λ (l : List ℕ). length l) is ∙ length-take taken (take count buf) ∙ omega (arith, few, bound, length-take count buf)

    by_file : (file : List ℕ) → take limit file ≡ take limit (file_at files name) → IsAhead at feed file → IsAhead at (fed_with given feed) file
    by_file file same a =
        let next : take count buf ≡ take count (drop fed file) = gives.bytes ∙ same_bytes (file_at files name) file fed count place same in
        let front : take taken (drop fed file) ≡ given = sym (take-take taken count (drop fed file) few) ∙ ap (λ (l : List ℕ). take taken l) (sym next) ∙ sym is in
        let behind : drop taken (drop fed file) ≡ drop (at + length (feed.left ++ given)) file = drop-drop taken fed file ∙ ap (λ (n : ℕ). drop n file) (omega (arith, up_to, size, length-append feed.left given)) in
        let split : drop fed file ≡ given ++ drop (at + length (feed.left ++ given)) file = sym (take-append-drop taken (drop fed file)) ∙ ap (λ (l : List ℕ). l ++ drop taken (drop fed file)) front ∙ ap (λ (l : List ℕ). given ++ l) behind in
        record {
          good = a.good;
          bytes = a.bytes ∙ ap (λ (n : ℕ). feed.left ++ drop n file) up_to ∙ ap (λ (l : List ℕ). feed.left ++ l) split ∙ sym (append_assoc feed.left given (drop (at + length (feed.left ++ given)) file));
        }

-- ---- what is found in the file

-- What is found in front of a feed's bytes is found in the file.
there : (at : ℕ) (feed : Fed) (file : List ℕ) → IsAhead at feed file → is_cut (handed feed.due feed.left) ≡ false → handed feed.due (drop at file) ≡ handed feed.due feed.left
there at feed file a whole = ap (handed feed.due) a.bytes ∙ handed_grows feed.due feed.left (drop (at + length feed.left) file) whole

-- The feed went past what stood there.
stands : (at : ℕ) (feed : Fed) (h : Handed) (file : List ℕ) → next_of feed ≡ Ok (Some h) → IsAhead at feed file → (handed feed.due (drop at file) ≡ Ok h) × IsAhead (at + h.taken) (fed_after feed) file
stands at feed h file next a =
    let here = (handed_next feed h next).1 in
    let within : h.taken ≤ length feed.left = handed_within feed.due feed.left h here in
    let behind : List ℕ = drop (at + length feed.left) file in
    let moved : fed_after feed ≡ after feed (Ok (Some h)) = ap (after feed) next in
    let place : at + length feed.left ≡ (at + h.taken) + length (drop h.taken feed.left) = omega (arith, within, length-drop h.taken feed.left) in
    let bytes : drop (at + h.taken) file ≡ drop h.taken feed.left ++ drop ((at + h.taken) + length (drop h.taken feed.left)) file =
    sym (drop-drop h.taken at file) ∙ ap (drop h.taken) a.bytes ∙ drop-append-le h.taken feed.left behind within ∙ ap (λ (n : ℕ). drop h.taken feed.left ++ drop n file) place in
    let A : Fed → Type 0 = λ f. IsAhead (at + h.taken) f file in
    (there at feed file a (ap is_cut here) ∙ here, subst A (sym moved) (record { good = refl; bytes = bytes }))

-- How many bytes it has.
taken_is : (feed new : Fed) (unit : Passed) (h : Handed) → PassedDue feed.due unit → PassedFits new unit → h.piece ≡ passed_piece new unit → handed feed.due feed.left ≡ Ok h → h.taken ≡ unit_len unit
taken_is feed new (passed.Head head) h due fits piece here =
    let read = subst (λ (d : Due). handed d feed.left ≡ Ok h) due here in
    let a = bound (stream_version feed.left) (λ version. Ok (head_handed version)) h read in
    ap (λ (x : Handed). x.taken) (sym (ok_same a.2))
taken_is feed new (passed.Frame head version) h due fits piece here =
    let read = subst (λ (d : Due). handed d feed.left ≡ Ok h) due.0 here in
    let a = bound (frame_at feed.left) (λ frame. Ok (frame_handed version frame.number frame.body)) h read in
    let frame : Frame = a.0 in
    let size : Piece → ℕ = λ p. elim p [ HeadPiece v ↦ 0 | FramePiece n b ↦ length b ] in
    let same : frame_handed version frame.number frame.body ≡ h = ok_same a.2 in
    let body : length frame.body ≡ length (drop 10 new.last) = ap size (ap (λ (x : Handed). x.piece) same ∙ piece) in
    sym (ap (λ (x : Handed). x.taken) same) ∙ omega (arith, body, fits.0, length-drop 10 new.last)

-- ---- the ends of a call

-- It goes past a unit.
pub passes : (told : Option (List (List ℕ × List ℕ))) (name : List ℕ) (at next : ℕ) (feed mid new : Fed) (unit : Passed) → mid.due ≡ feed.due → new ≡ fed_after mid → next ≡ at + unit_len unit
    → PassedDue mid.due unit → Passes new (next_of mid) (Ok (Some unit)) → IfTold told name (IsAhead at mid) → (h : Handed) × (HasPassed at feed next new unit h × IfTold told name (StandsThere at feed next new h))
passes told name at next feed mid new unit due new_is place was_due p ahead =
    let h : Handed = p.0 in
    let here = (handed_next mid h p.1.0).1 in
    let moved : new ≡ after mid (Ok (Some h)) = new_is ∙ ap (after mid) p.1.0 in
    let within : h.taken ≤ length mid.left = handed_within mid.due mid.left h here in
    let taken : h.taken ≡ unit_len unit = taken_is mid new unit h was_due p.1.1.1 p.1.1.0 here in
    let next_place : next ≡ at + h.taken = place ∙ ap (λ (n : ℕ). at + n) (sym taken) in (
      h,
      (
        record {
          front = mid.left;
          comes = ap (λ (d : Due). handed d mid.left) (sym due) ∙ here;
          piece = p.1.1.0;
          fits = p.1.1.1;
          was_due = subst (λ (d : Due). PassedDue d unit) due was_due;
          due = ap (λ (f : Fed). f.due) moved;
          ended = ap (λ (f : Fed). f.ended) moved;
          taken = taken;
          place = next_place;
          bytes = ap (λ (f : Fed). f.last) moved;
        },
        told_map told name (IsAhead at mid) (StandsThere at feed next new h) (λ file a.
            let s = stands at mid h file p.1.0 a in
            record {
              here = ap (λ (d : Due). handed d (drop at file)) (sym due) ∙ s.0;
              bytes = ap (λ (f : Fed). f.last) moved ∙ sym (take-append-le h.taken mid.left (drop (at + length mid.left) file) within) ∙ ap (take h.taken) (sym a.bytes);
              ahead = subst (λ (f : Fed). IsAhead next f file) (sym new_is) (subst (λ (n : ℕ). IsAhead n (fed_after mid) file) (sym next_place) s.1);
            }) ahead,
      ),
    )

-- How many bytes are left then.
pub left_after : (mid new : Fed) (unit : Passed) → new ≡ fed_after mid → PassedDue mid.due unit → Passes new (next_of mid) (Ok (Some unit)) → unit_len unit + length new.left ≡ length mid.left
left_after mid new unit new_is was_due p =
    let h : Handed = p.0 in
    let here = (handed_next mid h p.1.0).1 in
    let moved : new ≡ after mid (Ok (Some h)) = new_is ∙ ap (after mid) p.1.0 in
    let taken : h.taken ≡ unit_len unit = taken_is mid new unit h was_due p.1.1.1 p.1.1.0 here in
    let within : h.taken ≤ length mid.left = handed_within mid.due mid.left h here in
    omega (arith, taken, within, length-drop h.taken mid.left, ap (λ (f : Fed). length f.left) moved)

-- Its bytes are refused.
pub refuses : (told : Option (List (List ℕ × List ℕ))) (name : List ℕ) (at : ℕ) (feed mid : Fed) (refusal : meant.Refusal) → mid.due ≡ feed.due → next_of mid ≡ Err refusal → IfTold told name (IsAhead at mid) → IfTold told name (BadThere at feed.due refusal)
refuses told name at feed mid refusal due next ahead = told_map told name (IsAhead at mid) (BadThere at feed.due refusal) by_file ahead
  where
    by_file : (file : List ℕ) → IsAhead at mid file → BadThere at feed.due refusal file
    by_file file a =
        let here = refused_next mid refusal a.good next in (
          ap (λ (d : Due). handed d (drop at file)) (sym due) ∙ there at mid file a (ap is_cut here.0 ∙ here.1) ∙ here.0,
          here.1,
        )

-- The file ends.
pub ends_short : (told : Option (List (List ℕ × List ℕ))) (name : List ℕ) (at : ℕ) (mid new : Fed) → new ≡ mid → next_of mid ≡ Ok None → IfTold told name (EndsThere at mid) → IfTold told name (IsCutShort at new)
ends_short told name at mid new same waits ends = told_map told name (EndsThere at mid) (IsCutShort at new) by_file ends
  where
    by_file : (file : List ℕ) → EndsThere at mid file → IsCutShort at new file
    by_file file e = record {
      ends = record { all = e.all ∙ ap (λ (f : Fed). f.left) (sym same); early = e.early };
      cut = ap (λ (f : Fed). handed f.due f.left) same ∙ (waits_next mid waits).1;
    }

-- The file has as many bytes as are read at the most, and no end.
pub too_long : (told : Option (List (List ℕ × List ℕ))) (name : List ℕ) (at : ℕ) (feed mid : Fed) → at + length mid.left ≡ limit → mid.due ≡ feed.due → next_of mid ≡ Ok None → IfTold told name (IsAhead at mid) → IfTold told name (IsLongAt at (NotThere at feed.due meant.Truncated))
too_long told name at feed mid full due waits ahead = told_map told name (Here (IsAhead at mid)) (IsLongAt at (NotThere at feed.due meant.Truncated)) by_file (told_here told name (IsAhead at mid) ahead)
  where
    long : (file : List ℕ) → IsAhead at mid file → at ≤ length file → limit ≤ length file
    long file a reached =
        let sizes = ap (λ (l : List ℕ). length l) a.bytes in
        omega (arith, full, reached, sizes, length-drop at file, length-append mid.left (drop (at + length mid.left) file), length-drop (at + length mid.left) file)

    by_file : (file : List ℕ) → Here (IsAhead at mid) file → IsLongAt at (NotThere at feed.due meant.Truncated) file
    by_file file (a, front) reached =
        let first : List ℕ = take limit file in
        let none : drop (at + length mid.left) first ≡ [] = drop_of_length-le first (omega (arith, full, length-take limit file)) in
        let all : drop at first ≡ mid.left = front.bytes ∙ ap (λ (l : List ℕ). mid.left ++ l) none ∙ append-nil mid.left in
        (long file a reached, ap (λ (d : Due). handed d (drop at first)) (sym due) ∙ ap (handed mid.due) all ∙ (waits_next mid waits).1)

-- ---- a call that asked for more

pub rises : (first before now : ℕ) → first ≤ before → Rose before now → Rose first now
rises first before now p q = omega (arith, p, q)

pub kept_ahead : (told now : Option (List (List ℕ × List ℕ))) (name same : List ℕ) (at place : ℕ) (feed : Fed) → now ≡ told → same ≡ name → place ≡ at → IfTold now same (IsAhead place feed) → IfTold told name (IsAhead at feed)
kept_ahead told now name same at place feed t n p ahead = told_moved told now name same (IsAhead at feed) t n (subst (λ (k : ℕ). IfTold now same (IsAhead k feed)) p ahead)

-- A feed that waits is as it was.
pub waited : (old new : Fed) (o : Option Passed) → o ≡ None → new ≡ fed_after old → Passes new (next_of old) (Ok o) → (next_of old ≡ Ok None) × (new ≡ old)
waited old new o none is p =
    let waits : next_of old ≡ Ok None = subst (λ (x : Option Passed). Passes new (next_of old) (Ok x)) none p in
    (waits, is ∙ ap (after old) waits)

-- What is kept of a feed that waits, from the one at the start of the call over the one in between.
pub record Waits (told now_told : Option (List (List ℕ × List ℕ))) (name : List ℕ) (at : ℕ) (feed mid : Fed) (source : Source) : Type 0 where
  pub same : now_told ≡ told
  pub named : string_bytes source.name ≡ name
  pub place : source.at ≡ at
  pub mid_is : source.feed ≡ mid
  pub due : mid.due ≡ feed.due
  pub ended : mid.ended ≡ feed.ended
  pub waits : next_of mid ≡ Ok None

stayed : (at next : ℕ) (feed mid new : Fed) → next ≡ at → new ≡ mid → mid.due ≡ feed.due → mid.ended ≡ feed.ended → HasStayed at feed next new
stayed at next feed mid new place same due ended = record { place = place; due = ap (λ (f : Fed). f.due) same ∙ due; ended = ap (λ (f : Fed). f.ended) same ∙ ended }

-- The file ends.
pub no_more : (told now_told : Option (List (List ℕ × List ℕ))) (name : List ℕ) (at first last before now : ℕ) (feed mid : Fed) (old new : Source) (more : Bool) → more ≡ false → MoreSays now_told old new before now (Ok more) → new.at ≡ old.at
    → Waits told now_told name at feed mid old → PassSays told name at feed new.at new.feed first last (Ok None)
no_more told now_told name at first last before now feed mid old new more is p place w =
    let q : (new.feed ≡ old.feed) × IfTold now_told (string_bytes old.name) (EndsThere old.at old.feed) = subst (λ (b : Bool). MoreSays now_told old new before now (Ok b)) is p in
    let ends = told_moved told now_told name (string_bytes old.name) (EndsThere old.at old.feed) w.same w.named q.1 in
    let waits : next_of old.feed ≡ Ok None = ap next_of w.mid_is ∙ w.waits in
    let here : new.at ≡ at = place ∙ w.place in (
      stayed at new.at feed mid new.feed here (q.0 ∙ w.mid_is) w.due w.ended,
      subst (λ (n : ℕ). IfTold told name (IsCutShort n new.feed)) (sym place) (ends_short told name old.at old.feed new.feed q.0 waits ends),
    )

-- There is no answer.
pub not_more : (told now_told : Option (List (List ℕ × List ℕ))) (name : List ℕ) (at first before now : ℕ) (feed mid : Fed) (old new : Source) (fault : Fault) → MoreSays now_told old new before now (Err fault) → first ≤ before → new.at ≡ old.at → old.at + length old.feed.left ≡ old.fed
    → Waits told now_told name at feed mid old → IfTold told name (IsAhead at mid) → PassSays told name at feed new.at new.feed first now (Err fault)
not_more told now_told name at first before now feed mid old new (fault.Refused r) p le place up w ahead = elim p [ ]
not_more told now_told name at first before now feed mid old new fault.InputFault p le place up w ahead = (stayed at new.at feed mid new.feed (place ∙ w.place) (p.0 ∙ w.mid_is) w.due w.ended, rises first before now le p.1)
not_more told now_told name at first before now feed mid old new fault.InputTooLong p le place up w ahead =
    let full : at + length mid.left ≡ limit = omega (arith, ap (λ (f : Fed). length f.left) w.mid_is, w.place, up, p.1) in
    (stayed at new.at feed mid new.feed (place ∙ w.place) (p.0 ∙ w.mid_is) w.due w.ended, too_long told name at feed mid full w.due w.waits ahead)

-- The front of a row that a piece was written to.
pub row_front : (count len : ℕ) (row piece behind : List ℕ) → row ≡ take len (piece ++ behind) → count ≤ length piece → count ≤ len → take count row ≡ take count piece
row_front count len row piece behind is bound few = ap (λ (l : List ℕ). take count l) is ∙ take-take count len (piece ++ behind) few ∙ take-append-le count piece behind bound

-- A feed that waits takes some of the bytes.
pub takes_some : (feed : Fed) (count taken : ℕ) (row : List ℕ) → next_of feed ≡ Ok None → (count ≡ 0 → ⊥) → length (take count row) ≡ count → taken ≡ min (length (take count row)) (room - length feed.left) → (1 ≤ taken) × (taken ≤ count)
takes_some feed count taken row waits some size is = let few = waits_short feed waits in (omega (arith, few, size, is, some), omega (arith, size, is))

-- What is said of an answer, for the unit that it is.
pub unit_passed : (new : Fed) (next : Result (Option Handed) meant.Refusal) (unit : Passed) (o : Option Passed) → o ≡ Some unit → Passes new next (Ok o) → Passes new next (Ok (Some unit))
unit_passed new next unit o is p = subst (λ (x : Option Passed). Passes new next (Ok x)) is p

pub unit_due : (due : Due) (unit : Passed) (o : Option Passed) → o ≡ Some unit → IfPassed (Ok o) (PassedDue due) → PassedDue due unit
unit_due due unit o is p = subst (λ (x : Option Passed). IfPassed (Ok x) (PassedDue due)) is p

-- Its bytes are refused, and it stays where it is.
pub refused_pass : (told : Option (List (List ℕ × List ℕ))) (name : List ℕ) (at next before now : ℕ) (feed mid new : Fed) (refusal : Refusal) → next ≡ at → mid.due ≡ feed.due → mid.ended ≡ feed.ended → new ≡ fed_after mid → Passes new (next_of mid) (Err refusal)
    → IfTold told name (IsAhead at mid) → PassSays told name at feed next new before now (Err (fault.Refused refusal))
refused_pass told name at next before now feed mid new refusal place due ended new_is p ahead =
    let kept : new ≡ record mid { refused = Some (refusal_of refusal) } = new_is ∙ ap (after mid) p in
    (record { place = place; due = ap (λ (f : Fed). f.due) kept ∙ due; ended = ap (λ (f : Fed). f.ended) kept ∙ ended }, refuses told name at feed mid (refusal_of refusal) due p ahead)

-- More bytes were given, to a source that goes by these words afterwards.
pub given_more : (told now : Option (List (List ℕ × List ℕ))) (old new : Source) (before after : ℕ) (b : Bool) → b ≡ true → now ≡ told → new.name ≡ old.name → MoreSays told old new before after (Ok b)
    → (new.feed.due ≡ old.feed.due) × (new.feed.ended ≡ old.feed.ended) × IfTold now (string_bytes new.name) (IsAhead new.at new.feed)
given_more told now old new before after b is same named says =
    let more = subst (λ (x : Bool). MoreSays told old new before after (Ok x)) is says in (
      ap (λ (f : Fed). f.due) more.0.feed,
      ap (λ (f : Fed). f.ended) more.0.feed,
      subst (λ (t : Option (List (List ℕ × List ℕ))). IfTold t (string_bytes new.name) (IsAhead new.at new.feed)) (sym same)
          (subst (λ (name : List ℕ). IfTold told name (IsAhead new.at new.feed)) (sym (ap string_bytes named)) more.1),
    )
