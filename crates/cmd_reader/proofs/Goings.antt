-- What one step of a reader answers, from the header or frame that was gone past; a call over the
-- headers that it passed; and what is made of the frame behind them.
use Rattle.std.specs.Prelude.{◌≡◌, ◌≢◌, ℕ, ◌+◌, ◌≤◌, Bool, true, false, ◌==◌, List, [], ◌∷◌, length, take, drop, Option, None, Some, Result, Ok, Err}
use Rattle.std.proofs.Common.{refl, sym, ap, subst, ◌∙◌, arith, length-drop, drop-drop, eqb-true}
use Rattle.send_model.proofs.Sound.{and_both}
use Rattle.std.proofs.lemmas.Bool.{true≢false}
use Rattle.send_model.specs.Refusal as meant
use Rattle.send_model.specs.Chain.{◌>>=◌}
use Rattle.send_model.specs.Command as model
use Rattle.send_model.specs.Attribute.{IsBytes}
use Rattle.send_model.specs.Spelling.{Attribute, canonical}
use Rattle.send_model.specs.Reading as reading
use Rattle.send_model.specs.Reading.{Reading, Due, HeaderDue, CommandDue, Frame, due_after, ended, with_item, faulty, stream_version, frame_at, attributes_at, command_of, data_place, front_of, is_version}
use Rattle.send_model.specs.Lengths.{limit, is_truncated}
use Rattle.send_model.proofs.Fuel.{bound, ok_same, header_there}
use Rattle.sx_base.specs.Refusals.{refusal_of}
use Rattle.sx_base.specs.declared.outcome.Verdict.{Verdict}
use Rattle.send_model.specs.Laws.{CanWrite}
use Rattle.send_commands.specs.Meaning.{meaning_of}
use Rattle.send_commands.specs.Writing.{IsWritable}
use Rattle.tlv_frame.specs.Feeding.{Fed, Piece, HeadPiece, FramePiece, Handed, handed, head_handed, frame_handed, is_end, due_past, is_whole}
use Rattle.tlv_frame.specs.declared.feed.Passed.TheVariants as passed
use Rattle.tlv_frame.specs.declared.stream_head.StreamHead.{StreamHead}
use Rattle.tlv_frame.proofs.Growing.{is_cut, frame_within}
use Rattle.tlv_frame.proofs.Fronts.{same_error}
use Rattle.sx_base.specs.declared.refusal.Refusal.TheVariants as code
use Rattle.cmd_reader.specs.declared.front.FrameAt.{FrameAt}
use Rattle.cmd_reader.specs.declared.item.Item.{Item}
use Rattle.cmd_reader.specs.declared.item.Glance.{Glance}
use Rattle.cmd_reader.specs.declared.item.ReadStop.{ReadStop}
use Rattle.cmd_reader.specs.declared.item.ReadStop.TheVariants as stop
use Rattle.cmd_reader.specs.declared.fault.Fault.{Fault}
use Rattle.cmd_reader.specs.declared.fault.Fault.TheVariants as fault
use Rattle.cmd_reader.specs.Places.{IfTold}
use Rattle.cmd_reader.specs.Fronts.{IsRefused, IsLongAt}
use Rattle.cmd_reader.specs.Sources.{HasPassed, StandsThere, HasStayed, IsCutShort, NotThere, BadThere}
use Rattle.cmd_reader.proofs.Passes.{PassSays}
use Rattle.cmd_reader.specs.Left.{Reader, left, left_from, HasAhead}
use Rattle.cmd_reader.specs.Commands.{body_read}
use Rattle.cmd_reader.specs.Next.{item_of, as_some, is_last, HasBegun, BeginsAt, HasEnded, OnlyEnds, GoesOn, IsNext, IsFaulty, Says, NextSays, ItemFits, IfItem, EndsAfterEnd, HasRead}
use Rattle.cmd_reader.specs.Stands.{HasPassedFrame}
use Rattle.cmd_reader.specs.Frames.{frame_here, HasGonePast, HasReached, FrameFits, StepSays, FrameSays}
use Rattle.cmd_reader.specs.Glances.{IsGlance, GlanceSays, GlanceFits}
use Rattle.cmd_reader.specs.Items.{StopAt, ItemIs, GlanceIs, IsRefusedAt, BodySays, ItemSays, GlanceSaid}
use Rattle.cmd_reader.proofs.Told.{Here, told_map, told_both, told_here, told_moved}
use Rattle.cmd_reader.proofs.Sourcing.{rises}
use Rattle.cmd_reader.proofs.Lefts.{EndsAtOnce, left_ended, left_header, left_no_header, left_short, left_command, left_no_command, due_same}
use Rattle.cmd_reader.proofs.CommandFacts.{kind_is, data_place_within}
use Rattle.cmd_reader.proofs.LastFrames.{own_bytes, own_canonical, own_attributes}
use Rattle.cmd_reader.proofs.Uncut.{body_uncut}

-- ---- the front of a file

no_frame : (k version number at : ℕ) (bytes : List ℕ) (refusal : meant.Refusal) → frame_at bytes ≡ Err refusal → front_of k version number at bytes ≡ Err refusal
unfolding front_of
no_frame k version number at bytes refusal e = rw e refl

abbrev item_with : ℕ → ℕ → ℕ → ℕ → Frame → List Attribute → model.Command → reading.Front
item_with k version number at frame attributes command = record { item = record { file = k; number = number; offset = at; version = version; data_at = data_place version at attributes; command = command }; rest = frame.rest }

no_command_in : (k version number at : ℕ) (bytes : List ℕ) (frame : Frame) (refusal : meant.Refusal) → frame_at bytes ≡ Ok frame → body_read version frame.number frame.body ≡ Err refusal → front_of k version number at bytes ≡ Err refusal
unfolding front_of
no_command_in k version number at bytes frame refusal e refused = rw e (by_attributes (attributes_at version frame.body) refused)
  where
    by_command : (attributes : List Attribute) (c : Result model.Command meant.Refusal) → c ≡ Err refusal → (c >>= λ command. Ok (item_with k version number at frame attributes command)) ≡ Err refusal
    by_command attributes (Ok command) q = cc
    by_command attributes (Err r) q = cc

    by_attributes : (a : Result (List Attribute) meant.Refusal) → (a >>= λ attributes. command_of version frame.number attributes) ≡ Err refusal
        → (a >>= λ attributes. command_of version frame.number attributes >>= λ command. Ok (item_with k version number at frame attributes command)) ≡ Err refusal
    by_attributes (Ok attributes) q = by_command attributes (command_of version frame.number attributes) q
    by_attributes (Err r) q = cc

command_there : (k version number at : ℕ) (bytes : List ℕ) (frame : Frame) (attributes : List Attribute) (command : model.Command) → frame_at bytes ≡ Ok frame → attributes_at version frame.body ≡ Ok attributes → command_of version frame.number attributes ≡ Ok command
    → front_of k version number at bytes ≡ Ok (item_with k version number at frame attributes command)
unfolding front_of
command_there k version number at bytes frame attributes command a b c = rw (a, b, c) refl

-- ---- what was handed out

abbrev version_in : ℕ → Piece → ℕ
version_in d (HeadPiece version) = version
version_in d (FramePiece number body) = d

-- A header that was handed out was read.
version_of_head : (bytes : List ℕ) (h : Handed) (version : ℕ) → handed HeaderDue bytes ≡ Ok h → h.piece ≡ HeadPiece version → stream_version bytes ≡ Ok version
version_of_head bytes h version e is =
    let a = bound (stream_version bytes) (λ v. Ok (head_handed v)) h e in
    a.1 ∙ ap (λ (v : ℕ). Ok v) (ap (version_in version) (ap (λ (x : Handed). x.piece) (ok_same a.2) ∙ is))

abbrev body_in_piece : List ℕ → Piece → List ℕ
body_in_piece d (HeadPiece version) = d
body_in_piece d (FramePiece number body) = body

abbrev number_in_piece : ℕ → Piece → ℕ
number_in_piece d (HeadPiece version) = d
number_in_piece d (FramePiece number body) = number

-- A frame that was handed out was read, and what follows it is what follows its bytes.
frame_of_piece : (version : ℕ) (bytes : List ℕ) (h : Handed) (number : ℕ) (body : List ℕ) → handed (CommandDue version) bytes ≡ Ok h → h.piece ≡ FramePiece number body → frame_at bytes ≡ Ok (record { number = number; body = body; rest = drop h.taken bytes })
frame_of_piece version bytes h number body e is =
    let a = bound (frame_at bytes) (λ frame. Ok (frame_handed version frame.number frame.body)) h e in
    let frame : Frame = a.0 in
    let same : frame_handed version frame.number frame.body ≡ h = ok_same a.2 in
    let piece : FramePiece frame.number frame.body ≡ FramePiece number body = ap (λ (x : Handed). x.piece) same ∙ is in
    let rest : frame.rest ≡ drop h.taken bytes = (frame_within bytes frame a.1).1 ∙ ap (λ (x : Handed). drop x.taken bytes) same in
    let F : ℕ → List ℕ → List ℕ → Result Frame meant.Refusal = λ n b r. Ok (record { number = n; body = b; rest = r }) in
    a.1 ∙ ap (λ (n : ℕ). F n frame.body frame.rest) (ap (number_in_piece number) piece) ∙ ap (λ (b : List ℕ). F number b frame.rest) (ap (body_in_piece body) piece) ∙ ap (λ (r : List ℕ). F number body r) rest

-- What follows a head, or a frame.
head_due : (bytes : List ℕ) (h : Handed) (version : ℕ) → handed HeaderDue bytes ≡ Ok h → h.piece ≡ HeadPiece version → (h.due ≡ CommandDue version) × (h.ended ≡ false)
head_due bytes h version e is =
    let a = bound (stream_version bytes) (λ v. Ok (head_handed v)) h e in
    let same = ok_same a.2 in
    let v : a.0 ≡ version = ap (version_in version) (ap (λ (x : Handed). x.piece) same ∙ is) in
    (sym (ap (λ (x : Handed). x.due) same) ∙ ap (λ (n : ℕ). CommandDue n) v, sym (ap (λ (x : Handed). x.ended) same))

frame_due : (version : ℕ) (bytes : List ℕ) (h : Handed) (number : ℕ) (body : List ℕ) → handed (CommandDue version) bytes ≡ Ok h → h.piece ≡ FramePiece number body → (h.due ≡ due_past version number) × (h.ended ≡ is_end number)
frame_due version bytes h number body e is =
    let a = bound (frame_at bytes) (λ frame. Ok (frame_handed version frame.number frame.body)) h e in
    let frame : Frame = a.0 in
    let same : frame_handed version frame.number frame.body ≡ h = ok_same a.2 in
    let n : frame.number ≡ number = ap (number_in_piece number) (ap (λ (x : Handed). x.piece) same ∙ is) in
    (sym (ap (λ (x : Handed). x.due) same) ∙ ap (due_past version) n, sym (ap (λ (x : Handed). x.ended) same) ∙ ap is_end n)

-- ---- one step

-- A header was passed.
pub header_step : (told : Option (List (List ℕ × List ℕ))) (old new : Reader) (before now : ℕ) (head : StreamHead) (h : Handed) → new.file ≡ old.file → new.name ≡ old.name → new.number ≡ old.number → new.offset ≤ limit
    → HasPassed old.offset old.fed new.offset new.fed (passed.Head head) h → IfTold told old.name (StandsThere old.offset old.fed new.offset new.fed h) → StepSays told old new before now None
unfolding left
header_step told old new before now head h file name number within p stands =
    let comes = subst (λ (d : Due). handed d p.front ≡ Ok h) p.was_due p.comes in
    let due = head_due p.front h head.version comes p.piece in
    let later : new.offset ≡ old.offset + 17 = p.place ∙ ap (λ (n : ℕ). old.offset + n) p.taken in (
      (
        record {
          later = omega (arith, later);
          file = file;
          name = name;
          number = number;
          due = λ version e. (let no : HeaderDue ≡ CommandDue version = sym p.was_due ∙ e in cc);
          at_end = λ e. (let no : false ≡ true = sym (p.ended ∙ due.1) ∙ e in cc);
        },
        (omega (arith, later), within),
      ),
      told_map told old.name (StandsThere old.offset old.fed new.offset new.fed h) (BeginsAt old new) (by_file later (p.due ∙ due.0) (p.ended ∙ due.1)) stands,
    )
  where
    by_file : new.offset ≡ old.offset + 17 → new.fed.due ≡ CommandDue head.version → new.fed.ended ≡ false → (bytes : List ℕ) → StandsThere old.offset old.fed new.offset new.fed h bytes → BeginsAt old new bytes
    by_file later due has bytes s =
        let here = subst (λ (d : Due). handed d (drop old.offset bytes) ≡ Ok h) p.was_due s.here in
        let read = version_of_head (drop old.offset bytes) h head.version here p.piece in
        let L : ℕ → Due → Bool → ℕ → ℕ → Reading = λ k d e n o. left_from k d e n o bytes in
        record {
          left_is = ap (λ (d : Due). L old.file d old.fed.ended old.number old.offset) p.was_due
              ∙ left_header old.file old.fed.ended old.number old.offset head.version bytes read
              ∙ sym (ap (λ (k : ℕ). L k new.fed.due new.fed.ended new.number new.offset) file
              ∙ ap (λ (d : Due). L old.file d new.fed.ended new.number new.offset) due
              ∙ ap (λ (e : Bool). L old.file (CommandDue head.version) e new.number new.offset) has
              ∙ ap (λ (n : ℕ). L old.file (CommandDue head.version) false n new.offset) number
              ∙ ap (λ (o : ℕ). L old.file (CommandDue head.version) false old.number o) later);
          reached = λ q. (let long = there_long (drop old.offset bytes) h head.version here p.piece in omega (arith, q, later, long, length-drop old.offset bytes));
          ahead = s.ahead;
        }
      where
        there_long : (front : List ℕ) (x : Handed) (version : ℕ) → handed HeaderDue front ≡ Ok x → x.piece ≡ HeadPiece version → 17 ≤ length front
        there_long front x version e is = header_there front version (version_of_head front x version e is)

-- ---- the ends

cut_in : {A B : Type 0} (r : Result A meant.Refusal) (k : A → B) (refusal : meant.Refusal) → (r >>= λ x. Ok (k x)) ≡ Err refusal → r ≡ Err refusal
cut_in (Ok x) k refusal e = cc
cut_in (Err kept) k refusal e = same_error e

left_refused : (r : Reader) (bytes : List ℕ) (refusal : meant.Refusal) → handed r.fed.due (drop r.offset bytes) ≡ Err refusal → (r.fed.ended ≡ true → drop r.offset bytes ≢ []) → left r bytes ≡ faulty r.file r.number r.offset refusal
unfolding left
left_refused r bytes refusal e some = by_due r.fed.due e
  where
    by_due : (due : Due) → handed due (drop r.offset bytes) ≡ Err refusal → left_from r.file due r.fed.ended r.number r.offset bytes ≡ faulty r.file r.number r.offset refusal
    by_due HeaderDue q = left_no_header r.file r.fed.ended r.number r.offset bytes refusal (cut_in (stream_version (drop r.offset bytes)) head_handed refusal q) some
    by_due (CommandDue version) q = left_no_command r.file r.fed.ended version r.number r.offset bytes refusal
        (no_frame r.file version r.number r.offset (drop r.offset bytes) refusal (cut_in (frame_at (drop r.offset bytes)) (λ frame. frame_handed version frame.number frame.body) refusal q))

left_cut : (r : Reader) (bytes : List ℕ) → handed r.fed.due (drop r.offset bytes) ≡ Err meant.Truncated → OnlyEnds r bytes
unfolding left
left_cut r bytes e = by_due r.fed.due e
  where
    by_due : (due : Due) → handed due (drop r.offset bytes) ≡ Err meant.Truncated → EndsAtOnce (left_from r.file due r.fed.ended r.number r.offset bytes)
    by_due HeaderDue q = left_short r.file r.fed.ended r.number r.offset bytes (cut_in (stream_version (drop r.offset bytes)) head_handed meant.Truncated q)
    by_due (CommandDue version) q = subst EndsAtOnce (sym (left_no_command r.file r.fed.ended version r.number r.offset bytes meant.Truncated
        (no_frame r.file version r.number r.offset (drop r.offset bytes) meant.Truncated (cut_in (frame_at (drop r.offset bytes)) (λ frame. frame_handed version frame.number frame.body) meant.Truncated q)))) (refl, refl)

-- No bytes are cut short.
not_none : (due : Due) (bytes : List ℕ) (refusal : meant.Refusal) → handed due bytes ≡ Err refusal → is_truncated refusal ≡ false → bytes ≢ []
unfolding stream_version frame_at
not_none due bytes refusal e whole none = absurd (true≢false (cut_nothing due ∙ sym (ap is_cut (ap (handed due) none)) ∙ ap is_cut e ∙ whole))
  where
    cut_nothing : (d : Due) → true ≡ is_cut (handed d [])
    cut_nothing HeaderDue = refl
    cut_nothing (CommandDue version) = refl

-- The feed has refused, the inputs have failed, or the file is too long.
pub fault_step : (told : Option (List (List ℕ × List ℕ))) (old new : Reader) (before now next : ℕ) (feed : Fed) (fault : Fault) (why : ReadStop) → PassSays told old.name old.offset old.fed next feed before now (Err fault) → StopAt old.file old.number old.offset fault why → StepSays told old new before now (Some (Err why))
fault_step told old new before now next feed (fault.Refused refusal) (stop.Refused verdict) p s =
    (tt, told_map told old.name (BadThere old.offset old.fed.due (refusal_of refusal)) (IsRefused (λ _. IsFaulty old verdict) (refusal_of verdict.refusal)) by_file p.1)
  where
    same_refusal : refusal_of verdict.refusal ≡ refusal_of refusal
    same_refusal = ap (λ (v : reading.Verdict). v.refusal) s

    by_file : (bytes : List ℕ) → BadThere old.offset old.fed.due (refusal_of refusal) bytes → IsRefused (λ _. IsFaulty old verdict) (refusal_of verdict.refusal) bytes
    by_file bytes (bad, whole) = (
      left_refused old bytes (refusal_of refusal) bad (λ ends. not_none old.fed.due (drop old.offset bytes) (refusal_of refusal) bad whole) ∙ ap (λ (v : reading.Verdict). record { items = []; end = reading.Faulty v }) (sym s),
      λ cut. absurd (true≢false (sym cut ∙ ap is_truncated same_refusal ∙ whole)),
    )
fault_step told old new before now next feed (fault.Refused refusal) stop.InputFault p s = elim s [ ]
fault_step told old new before now next feed (fault.Refused refusal) stop.InputTooLong p s = elim s [ ]
fault_step told old new before now next feed fault.InputFault why p s = let S : ReadStop → Type 0 = λ w. StepSays told old new before now (Some (Err w)) in subst S (sym s) (tt, p.1)
fault_step told old new before now next feed fault.InputTooLong why p s =
    let S : ReadStop → Type 0 = λ w. StepSays told old new before now (Some (Err w)) in
    subst S (sym s) (tt, told_map told old.name (IsLongAt old.offset (NotThere old.offset old.fed.due meant.Truncated)) (IsLongAt old.offset (OnlyEnds old)) (λ bytes long reached. (let l = long reached in (l.0, left_cut old (take limit bytes) l.1))) p.1)

-- The file has ended after END.
pub whole_step : (told : Option (List (List ℕ × List ℕ))) (old new : Reader) (before now next : ℕ) (feed : Fed) → HasStayed old.offset old.fed next feed → IfTold told old.name (IsCutShort next feed) → is_whole feed ≡ true → (feed.ended ≡ true → feed.due ≡ HeaderDue) → StepSays told old new before now (Some (Ok None))
unfolding left
whole_step told old new before now next feed stay cut whole at_end = (has_ended, told_map told old.name (IsCutShort next feed) (HasEnded old) by_file cut)
  where
    both : (feed.ended ≡ true) × ((length feed.left == 0) ≡ true)
    both = and_both feed.ended (length feed.left == 0) whole

    has_ended : old.fed.ended ≡ true
    has_ended = sym stay.ended ∙ both.0

    by_file : (bytes : List ℕ) → IsCutShort next feed bytes → HasEnded old bytes
    by_file bytes c =
        let none : feed.left ≡ [] = nothing feed.left (eqb-true (length feed.left) 0 both.1) in
        (left_ended old.file old.fed.due old.fed.ended old.number old.offset bytes (sym stay.due ∙ at_end both.0) has_ended (ap (λ (n : ℕ). drop n bytes) (sym stay.place) ∙ c.ends.all ∙ none), c.ends.early)
      where
        nothing : (l : List ℕ) → length l ≡ 0 → l ≡ []
        nothing [] e = refl
        nothing (b ∷ l) e = cc

-- The file is cut short.
pub cut_step : (told : Option (List (List ℕ × List ℕ))) (old new : Reader) (before now next : ℕ) (feed : Fed) (why : ReadStop) → HasStayed old.offset old.fed next feed → IfTold told old.name (IsCutShort next feed) → is_whole feed ≡ false → StopAt old.file old.number old.offset (fault.Refused code.Truncated) why
    → StepSays told old new before now (Some (Err why))
cut_step told old new before now next feed (stop.Refused verdict) stay cut goes_on s =
    (tt, told_map told old.name (IsCutShort next feed) (IsRefused (λ _. IsFaulty old verdict) (refusal_of verdict.refusal)) by_file cut)
  where
    by_file : (bytes : List ℕ) → IsCutShort next feed bytes → IsRefused (λ _. IsFaulty old verdict) (refusal_of verdict.refusal) bytes
    by_file bytes c =
        let here : drop old.offset bytes ≡ feed.left = ap (λ (n : ℕ). drop n bytes) (sym stay.place) ∙ c.ends.all in
        let bad : handed old.fed.due (drop old.offset bytes) ≡ Err meant.Truncated = ap (handed old.fed.due) here ∙ ap (λ (d : Due). handed d feed.left) (sym stay.due) ∙ c.cut in (
          left_refused old bytes meant.Truncated bad (λ ends none. not_whole feed (stay.ended ∙ ends) (sym here ∙ none) goes_on) ∙ ap (λ (v : reading.Verdict). record { items = []; end = reading.Faulty v }) (sym s),
          λ truncated. c.ends.early,
        )
      where
        not_whole : (f : Fed) → f.ended ≡ true → f.left ≡ [] → is_whole f ≡ false → ⊥
        not_whole f ends none goes_on = let w : is_whole f ≡ true = rw (ends, none) refl in true≢false (sym w ∙ goes_on)
cut_step told old new before now next feed stop.InputFault stay cut goes_on s = elim s [ ]
cut_step told old new before now next feed stop.InputTooLong stay cut goes_on s = elim s [ ]

-- ---- a call, over the headers that it passed

pub begun_at_start : (told : Option (List (List ℕ × List ℕ))) (r : Reader) → IfTold told r.name (HasAhead r) → HasBegun r r × IfTold told r.name (BeginsAt r r)
begun_at_start told r ahead = (
  record { later = omega (arith); file = refl; name = refl; number = refl; due = λ version e. e; at_end = λ e. e },
  told_map told r.name (HasAhead r) (BeginsAt r r) (λ bytes a. record { left_is = refl; reached = λ q. q; ahead = a }) ahead,
)

-- One header more.
pub begun_further : (told now_told : Option (List (List ℕ × List ℕ))) (old mid new : Reader) (before now : ℕ) → now_told ≡ told → HasBegun old mid → IfTold told old.name (BeginsAt old mid) → StepSays now_told mid new before now None → HasBegun old new × IfTold told old.name (BeginsAt old new)
begun_further told now_told old mid new before now same b at says =
    let n = says.0.0 in (
      record { later = omega (arith, b.later, n.later); file = n.file ∙ b.file; name = n.name ∙ b.name; number = n.number ∙ b.number; due = λ version e. n.due version (b.due version e); at_end = λ e. b.at_end (n.at_end e) },
      told_both told old.name (BeginsAt old mid) (BeginsAt mid new) (BeginsAt old new) (λ bytes a c. record { left_is = a.left_is ∙ c.left_is; reached = λ q. c.reached (a.reached q); ahead = c.ahead }) at
          (told_moved told now_told old.name mid.name (BeginsAt mid new) same b.name says.1),
    )

-- The answer at last.
pub answered : (told now_told : Option (List (List ℕ × List ℕ))) (old mid new : Reader) (first before now : ℕ) (answer : Result (Option FrameAt) ReadStop) → now_told ≡ told → first ≤ before → HasBegun old mid → IfTold told old.name (BeginsAt old mid) → StepSays now_told mid new before now (Some answer)
    → FrameSays told old new first now answer
answered told now_told old mid new first before now (Ok (Some frame)) same le b at says =
    (tt, record { mid = mid; begun = b; begins = at; past = subst (λ (t : Option (List (List ℕ × List ℕ))). HasGonePast t mid new frame) same says.1 })
answered told now_told old mid new first before now (Ok None) same le b at says = (
  b.at_end says.0,
  told_both told old.name (BeginsAt old mid) (HasEnded mid) (HasEnded old) (λ bytes a e. (a.left_is ∙ e.0, e.1)) at (told_moved told now_told old.name mid.name (HasEnded mid) same b.name says.1),
)
answered told now_told old mid new first before now (Err (stop.Refused verdict)) same le b at says = (
  tt,
  told_both told old.name (BeginsAt old mid) (IsRefused (λ _. IsFaulty mid verdict) (refusal_of verdict.refusal)) (IsRefused (λ _. IsFaulty old verdict) (refusal_of verdict.refusal)) (λ bytes a e. (a.left_is ∙ e.0, e.1)) at
      (told_moved told now_told old.name mid.name (IsRefused (λ _. IsFaulty mid verdict) (refusal_of verdict.refusal)) same b.name says.1),
)
answered told now_told old mid new first before now (Err stop.InputFault) same le b at says = (tt, rises first before now le says.1)
answered told now_told old mid new first before now (Err stop.InputTooLong) same le b at says = (
  tt,
  told_both told old.name (Here (BeginsAt old mid)) (IsLongAt mid.offset (OnlyEnds mid)) (IsLongAt old.offset (OnlyEnds old)) by_file (told_here told old.name (BeginsAt old mid) at)
      (told_moved told now_told old.name mid.name (IsLongAt mid.offset (OnlyEnds mid)) same b.name says.1),
)
  where
    by_file : (bytes : List ℕ) → Here (BeginsAt old mid) bytes → IsLongAt mid.offset (OnlyEnds mid) bytes → IsLongAt old.offset (OnlyEnds old) bytes
    by_file bytes (here, front) long reached = let l = long (here.reached reached) in (l.0, subst EndsAtOnce (sym front.left_is) l.1)

-- The bytes that a reader was given after headers are the file's.
pub begun_ahead : (told now_told : Option (List (List ℕ × List ℕ))) (old new : Reader) → now_told ≡ told → HasBegun old new × IfTold told old.name (BeginsAt old new) → IfTold now_told new.name (HasAhead new)
begun_ahead told now_told old new same (b, at) = told_moved now_told told new.name old.name (HasAhead new) (sym same) (sym b.name) (told_map told old.name (BeginsAt old new) (HasAhead new) (λ bytes a. a.ahead) at)

-- ---- the frame that a call goes past

-- The body of the last frame.
abbrev own_body : Reader → List ℕ
own_body r = drop 10 r.fed.last

module _ (told : Option (List (List ℕ × List ℕ))) (old new : Reader) (frame : FrameAt) (p : HasGonePast told old new frame) where
  came : handed (CommandDue p.version) p.passes.front ≡ Ok p.h
  came = subst (λ (d : Due). handed d p.passes.front ≡ Ok p.h) p.passes.was_due.0 p.passes.comes

  later_by : new.offset ≡ old.offset + (10 + p.head.len)
  later_by = p.passes.place ∙ ap (λ (n : ℕ). old.offset + n) p.passes.taken

  body_size : length (own_body new) ≡ p.head.len
  body_size = omega (arith, p.passes.fits.0, length-drop 10 new.fed.last)

  -- The last frame is read of its own bytes.
  own_frame : frame_at new.fed.last ≡ Ok (record { number = p.head.cmd; body = own_body new; rest = [] })
  own_frame =
      let here = frame_of_piece p.version p.passes.front p.h p.head.cmd (own_body new) came p.passes.piece in
      let read : Frame = record { number = p.head.cmd; body = own_body new; rest = drop p.h.taken p.passes.front } in
      let len : 10 + length (own_body new) ≡ p.h.taken = omega (arith, p.passes.taken, body_size) in
      ap frame_at (p.passes.bytes ∙ ap (λ (n : ℕ). take n p.passes.front) (sym len)) ∙ own_bytes p.passes.front read here

  -- What a file has there is this frame.
  frame_in : (bytes : List ℕ) → StandsThere old.offset old.fed new.offset new.fed p.h bytes → frame_at (drop old.offset bytes) ≡ Ok (record { number = p.head.cmd; body = own_body new; rest = drop new.offset bytes })
  frame_in bytes s =
      let here = subst (λ (d : Due). handed d (drop old.offset bytes) ≡ Ok p.h) p.passes.was_due.0 s.here in
      let rest : drop p.h.taken (drop old.offset bytes) ≡ drop new.offset bytes = drop-drop p.h.taken old.offset bytes ∙ ap (λ (n : ℕ). drop n bytes) (sym p.passes.place) in
      let F : List ℕ → Result Frame meant.Refusal = λ r. Ok (record { number = p.head.cmd; body = own_body new; rest = r }) in
      frame_of_piece p.version (drop old.offset bytes) p.h p.head.cmd (own_body new) here p.passes.piece ∙ ap F rest

  -- What holds of it, before its body is read.
  past_fits : FrameFits new frame
  past_fits = subst (λ (f : FrameAt). FrameFits new f) (sym p.is) (record {
    place = omega (arith, later_by, p.within);
    long = omega (arith, p.passes.fits.0);
    short = omega (arith, body_size, p.passes.fits.1.0);
    version = p.passes.was_due.1;
  })

pub frame_fits : (told : Option (List (List ℕ × List ℕ))) (old new : Reader) (before now : ℕ) (answer : Result (Option FrameAt) ReadStop) → FrameSays told old new before now answer → IfItem answer (FrameFits new)
frame_fits told old new before now (Ok (Some frame)) says = past_fits told says.1.mid new frame says.1.past
frame_fits told old new before now (Ok None) says = tt
frame_fits told old new before now (Err why) says = tt

-- What a reader has of the frame that it has reached.
pub frame_passed : (told : Option (List (List ℕ × List ℕ))) (old new : Reader) (frame : FrameAt) → HasReached told old new frame → HasPassedFrame told old new frame.offset
frame_passed told old new frame r = subst (λ (f : FrameAt). HasPassedFrame told old new f.offset) (sym p.is) (record {
  version = p.version;
  frame = record { number = p.head.cmd; body = own_body new; rest = [] };
  number = p.number ∙ ap (λ (n : ℕ). n + 1) r.begun.number;
  behind = r.begun.later;
  reaches = p.passes.place ∙ ap (λ (n : ℕ). r.mid.offset + n) size;
  within = p.within;
  read = own_frame told r.mid new frame p;
  due = p.passes.due ∙ due.0;
  at_end = p.passes.ended ∙ due.1;
  bytes = told_moved told told old.name r.mid.name here refl r.begun.name (told_map told r.mid.name (StandsThere r.mid.offset r.mid.fed new.offset new.fed p.h) here (λ file s. s.bytes ∙ ap (λ (n : ℕ). take n (drop r.mid.offset file)) size) p.stands);
})
  where
    p : HasGonePast told r.mid new frame
    p = r.past

    here : List ℕ → Type 0
    here file = new.fed.last ≡ take (length new.fed.last) (drop r.mid.offset file)

    size : p.h.taken ≡ length new.fed.last
    size = p.passes.taken ∙ sym p.passes.fits.0

    due : (p.h.due ≡ due_past p.version p.head.cmd) × (p.h.ended ≡ is_end p.head.cmd)
    due = frame_due p.version p.passes.front p.h p.head.cmd (own_body new) (came told r.mid new frame p) p.passes.piece

-- An item by its fields.
abbrev item_by : ℕ → ℕ → ℕ → ℕ → ℕ → model.Command → reading.Item
item_by file number offset version data_at command = record { file = file; number = number; offset = offset; version = version; data_at = data_at; command = command }

-- The item of the frame at a reader's place, by the attributes and the command that its body is
-- read as.
abbrev item_here : Reader → ℕ → List Attribute → model.Command → reading.Item
item_here r version attributes command = item_by r.file r.number r.offset version (data_place version r.offset attributes) command

-- The command of a frame that was gone past.
past_read : (told : Option (List (List ℕ × List ℕ))) (old new : Reader) (frame : FrameAt) (p : HasGonePast told old new frame) (attributes : List Attribute) (command : model.Command)
    → attributes_at p.version (own_body new) ≡ Ok attributes → command_of p.version p.head.cmd attributes ≡ Ok command → CanWrite p.version command → HasRead told old new (item_here old p.version attributes command)
unfolding left
past_read told old new frame p attributes command read is can = record {
  file = refl;
  number = refl;
  next_number = p.number;
  further = omega (arith, later);
  within = p.within;
  version = p.passes.was_due.1;
  can_write = can;
  payload = omega (arith, data_place_within old.offset p.version p.head.cmd (own_body new) attributes command read is, size, later, p.within);
  same_stream = λ v e. (let same : CommandDue p.version ≡ CommandDue v = sym p.passes.was_due.0 ∙ e in ap (λ (d : Due). elim d [ HeaderDue ↦ p.version | CommandDue w ↦ w ]) same);
  due = new_due;
  at_end = new_end;
  next = told_map told old.name (StandsThere old.offset old.fed new.offset new.fed p.h) (GoesOn old new one) by_file p.stands;
}
  where
    one : reading.Item
    one = item_here old p.version attributes command

    later : new.offset ≡ old.offset + (10 + p.head.len)
    later = later_by told old new frame p

    size : length (own_body new) ≡ p.head.len
    size = body_size told old new frame p

    due : (p.h.due ≡ due_past p.version p.head.cmd) × (p.h.ended ≡ is_end p.head.cmd)
    due = frame_due p.version p.passes.front p.h p.head.cmd (own_body new) (came told old new frame p) p.passes.piece

    kind : (model.row (model.kind_of command)).number ≡ p.head.cmd
    kind = kind_is p.version p.head.cmd attributes command is

    new_due : new.fed.due ≡ due_after p.version command
    new_due = p.passes.due ∙ due.0 ∙ due_same p.version p.head.cmd command kind

    new_end : new.fed.ended ≡ is_last command
    new_end = p.passes.ended ∙ due.1 ∙ ap is_end (sym kind)

    by_file : (bytes : List ℕ) → StandsThere old.offset old.fed new.offset new.fed p.h bytes → GoesOn old new one bytes
    by_file bytes s =
        let there : Frame = record { number = p.head.cmd; body = own_body new; rest = drop new.offset bytes } in
        let stands = frame_in told old new frame p bytes s in
        let front = command_there old.file p.version old.number old.offset (drop old.offset bytes) there attributes command stands read is in
        let inside : 10 + length (own_body new) ≤ length (drop old.offset bytes) = (frame_within (drop old.offset bytes) there stands).0 in
        let reach : new.offset ≤ length bytes = omega (arith, inside, size, later, length-drop old.offset bytes) in
        let L : ℕ → Due → Bool → ℕ → Reading = λ k d e n. with_item one (left_from k d e n new.offset bytes) in
        record {
          left_is = ap (λ (d : Due). left_from old.file d old.fed.ended old.number old.offset bytes) p.passes.was_due.0
              ∙ left_command old.file old.fed.ended p.version old.number old.offset new.offset one bytes (omega (arith, later)) reach front
              ∙ sym (ap (λ (k : ℕ). L k new.fed.due new.fed.ended new.number) p.file
              ∙ ap (λ (d : Due). L old.file d new.fed.ended new.number) new_due
              ∙ ap (λ (e : Bool). L old.file (due_after p.version command) e new.number) new_end
              ∙ ap (λ (n : ℕ). L old.file (due_after p.version command) (is_last command) n) p.number);
          reached = λ q. reach;
          ahead = s.ahead;
        }

-- The command of a frame behind headers.
reached_read : (told : Option (List (List ℕ × List ℕ))) (old new : Reader) (frame : FrameAt) (r : HasReached told old new frame) (attributes : List Attribute) (command : model.Command)
    → attributes_at r.past.version (own_body new) ≡ Ok attributes → command_of r.past.version r.past.head.cmd attributes ≡ Ok command → CanWrite r.past.version command → HasRead told old new (item_here r.mid r.past.version attributes command)
reached_read told old new frame r attributes command read is can =
    let b = r.begun in
    let one : reading.Item = item_here r.mid r.past.version attributes command in
    let f = past_read told r.mid new frame r.past attributes command read is can in
    record {
      file = f.file ∙ b.file;
      number = f.number ∙ b.number;
      next_number = f.next_number ∙ ap (λ (n : ℕ). n + 1) b.number;
      further = omega (arith, b.later, f.further);
      within = f.within;
      version = f.version;
      can_write = f.can_write;
      payload = f.payload;
      same_stream = λ version e. f.same_stream version (b.due version e);
      due = f.due;
      at_end = f.at_end;
      next = told_both told old.name (BeginsAt old r.mid) (GoesOn r.mid new one) (GoesOn old new one) (λ bytes a n. record { left_is = a.left_is ∙ n.left_is; reached = λ q. n.reached (a.reached q); ahead = n.ahead }) r.begins
          (told_moved told told old.name r.mid.name (GoesOn r.mid new one) refl b.name f.next);
    }

-- ---- what is made of it

-- The frame of a reader that has reached it.
abbrev frame_of_reached : (told : Option (List (List ℕ × List ℕ))) (old new : Reader) (frame : FrameAt) → HasReached told old new frame → FrameAt
frame_of_reached told old new frame r = frame_here r.mid r.past.version r.past.head

-- The whole command.
item_given : (told : Option (List (List ℕ × List ℕ))) (old new : Reader) (frame : FrameAt) (r : HasReached told old new frame) (item : Item) → IsBytes new.fed.last → ItemIs (frame_of_reached told old new frame r) (own_body new) item
    → ItemFits old new item × IfTold told old.name (IsNext old new item)
item_given told old new frame r item bytes_are is = (
  record {
    number = read.number;
    next_number = read.next_number;
    further = read.further;
    within = read.within;
    version = read.version;
    writable = subst (λ (v : ℕ). IsWritable v c) (sym is.version_is) is.fits.writable;
    can_write = read.can_write;
    payload = read.payload;
    same_stream = read.same_stream;
    due = read.due;
    at_end = read.at_end;
    spelled = λ alone. own_canonical version number new.fed.last (own_body new) attributes c bytes_are own is.command_is.read is.command_is.command_is (is.fits.alone alone attributes is.command_is.read) ∙ ap (λ (v : ℕ). canonical v c) (sym is.version_is);
    unlike = λ other same. is.fits.others other (λ others other_read.
        let mine = own_attributes version number new.fed.last (own_body new) attributes c bytes_are own is.command_is.read is.command_is.command_is (same ∙ ap (λ (v : ℕ). canonical v c) is.version_is) in
        ok_same (sym other_read ∙ is.command_is.read) ∙ mine);
  },
  read.next,
)
  where
    version : ℕ
    version = r.past.version

    number : ℕ
    number = r.past.head.cmd

    attributes : List Attribute
    attributes = is.command_is.attributes

    c : model.Command
    c = meaning_of item.command

    own : frame_at new.fed.last ≡ Ok (record { number = number; body = own_body new; rest = [] })
    own = own_frame told r.mid new frame r.past

    same_item : item_here r.mid version attributes c ≡ item_of old.file item
    same_item = ap (λ (k : ℕ). item_by k r.mid.number r.mid.offset version (data_place version r.mid.offset attributes) c) r.begun.file
        ∙ ap (λ (n : ℕ). item_by old.file n r.mid.offset version (data_place version r.mid.offset attributes) c) (sym is.number_is)
        ∙ ap (λ (o : ℕ). item_by old.file item.number o version (data_place version r.mid.offset attributes) c) (sym is.offset_is)
        ∙ ap (λ (v : ℕ). item_by old.file item.number item.offset v (data_place version r.mid.offset attributes) c) (sym is.version_is)
        ∙ ap (λ (d : ℕ). item_by old.file item.number item.offset item.version d c) (sym is.command_is.place)

    read : HasRead told old new (item_of old.file item)
    read = subst (λ (i : reading.Item). HasRead told old new i) same_item (reached_read told old new frame r attributes c is.command_is.read is.command_is.command_is is.fits.can_write)

-- What is seen of it.
glance_given : (told : Option (List (List ℕ × List ℕ))) (old new : Reader) (frame : FrameAt) (r : HasReached told old new frame) (glance : Glance) → GlanceIs (frame_of_reached told old new frame r) (own_body new) glance
    → GlanceFits old new glance × IsGlance told old new glance
glance_given told old new frame r glance is =
    let h = is.mention_is in
    let read = reached_read told old new frame r h.attributes h.command h.read h.command_is h.can_write in (
      record { further = read.further; within = read.within; version = subst (λ (v : ℕ). is_version v ≡ true) (sym is.version_is) read.version; writable = is.writable },
      record { item = item_here r.mid r.past.version h.attributes h.command; version = sym is.version_is; mention = h.mention_is; read = read },
    )

-- The frame is refused for what its body says.
body_refused : (told : Option (List (List ℕ × List ℕ))) (old new : Reader) (frame : FrameAt) (r : HasReached told old new frame) (verdict : Verdict) → IsRefusedAt (frame_of_reached told old new frame r) (own_body new) verdict
    → IfTold told old.name (IsRefused (λ _. IsFaulty old verdict) (refusal_of verdict.refusal))
unfolding left
body_refused told old new frame r verdict (refused, is) =
    told_both told old.name (BeginsAt old r.mid) (StandsThere r.mid.offset r.mid.fed new.offset new.fed r.past.h) (IsRefused (λ _. IsFaulty old verdict) (refusal_of verdict.refusal)) by_file r.begins
    (told_moved told told old.name r.mid.name (StandsThere r.mid.offset r.mid.fed new.offset new.fed r.past.h) refl r.begun.name r.past.stands)
  where
    by_file : (bytes : List ℕ) → BeginsAt old r.mid bytes → StandsThere r.mid.offset r.mid.fed new.offset new.fed r.past.h bytes → IsRefused (λ _. IsFaulty old verdict) (refusal_of verdict.refusal) bytes
    by_file bytes a s =
        let m : Reader = r.mid in
        let there : Frame = record { number = r.past.head.cmd; body = own_body new; rest = drop new.offset bytes } in
        let none = no_command_in m.file r.past.version m.number m.offset (drop m.offset bytes) there (refusal_of verdict.refusal) (frame_in told m new frame r.past bytes s) refused in (
          a.left_is ∙ ap (λ (d : Due). left_from m.file d m.fed.ended m.number m.offset bytes) r.past.passes.was_due.0
              ∙ left_no_command m.file m.fed.ended r.past.version m.number m.offset bytes (refusal_of verdict.refusal) none
              ∙ ap (λ (v : reading.Verdict). record { items = []; end = reading.Faulty v }) (sym is),
          λ cut. absurd (true≢false (sym cut ∙ body_uncut r.past.version r.past.head.cmd (own_body new) (refusal_of verdict.refusal) refused)),
        )

-- What a call answers by a frame that it has reached, from what is made of the frame's body.
body_said : {T : Type 0} (made : FrameAt → List ℕ → T → Type 0) (fits given : T → Type 0) (told : Option (List (List ℕ × List ℕ))) (old new : Reader) (before now : ℕ) (o : Option FrameAt) (frame : FrameAt) (body : List ℕ) (result : Result T Verdict)
    → o ≡ Some frame → FrameSays told old new before now (Ok o) → body ≡ own_body new → ((r : HasReached told old new frame) (x : T) → made (frame_of_reached told old new frame r) (own_body new) x → fits x × given x) → BodySays (made frame body) frame body result
    → (IfItem (as_some result) fits × EndsAfterEnd old (as_some result)) × Says given told old before now (as_some result)
body_said {T = T} made fits given told old new before now o frame body result is says body_is turn m =
    by_result result (subst (λ (f : FrameAt). BodySays (made f (own_body new)) f (own_body new) result) r.past.is (subst (λ (b : List ℕ). BodySays (made frame b) frame b result) body_is m))
  where
    r : HasReached told old new frame
    r = (subst (λ (x : Option FrameAt). FrameSays told old new before now (Ok x)) is says).1

    here : FrameAt
    here = frame_of_reached told old new frame r

    by_result : (x : Result T Verdict) → BodySays (made here (own_body new)) here (own_body new) x → (IfItem (as_some x) fits × EndsAfterEnd old (as_some x)) × Says given told old before now (as_some x)
    by_result (Ok x) s = let t = turn r x s in ((t.0, tt), t.1)
    by_result (Err verdict) s = ((tt, tt), body_refused told old new frame r verdict s)

pub item_said : (told : Option (List (List ℕ × List ℕ))) (old new : Reader) (before now : ℕ) (o : Option FrameAt) (frame : FrameAt) (body : List ℕ) (result : Result Item Verdict) → o ≡ Some frame → FrameSays told old new before now (Ok o) → body ≡ drop 10 new.fed.last → IsBytes new.fed.last → ItemSays frame body result
    → (IfItem (as_some result) (ItemFits old new) × EndsAfterEnd old (as_some result)) × NextSays told old new before now (as_some result)
item_said told old new before now o frame body result is says body_is bytes_are m =
    body_said ItemIs (ItemFits old new) (λ item. IfTold told old.name (IsNext old new item)) told old new before now o frame body result is says body_is (λ r item i. item_given told old new frame r item bytes_are i) m

pub glance_said : (told : Option (List (List ℕ × List ℕ))) (old new : Reader) (before now : ℕ) (o : Option FrameAt) (frame : FrameAt) (body : List ℕ) (result : Result Glance Verdict) → o ≡ Some frame → FrameSays told old new before now (Ok o) → body ≡ drop 10 new.fed.last → GlanceSaid frame body result
    → (IfItem (as_some result) (GlanceFits old new) × EndsAfterEnd old (as_some result)) × GlanceSays told old new before now (as_some result)
glance_said told old new before now o frame body result is says body_is m =
    body_said GlanceIs (GlanceFits old new) (IsGlance told old new) told old new before now o frame body result is says body_is (λ r glance i. glance_given told old new frame r glance i) m

-- No frame was reached, and so nothing is made.
pub ended_said : {T : Type 0} (given : T → Type 0) (told : Option (List (List ℕ × List ℕ))) (old new : Reader) (before now : ℕ) (o : Option FrameAt) → o ≡ None → FrameSays told old new before now (Ok o) → EndsAfterEnd {T = T} old (Ok None) × Says given told old before now (Ok None)
ended_said given told old new before now o none says = subst (λ (x : Option FrameAt). FrameSays told old new before now (Ok x)) none says

pub stopped_said : {T : Type 0} (given : T → Type 0) (told : Option (List (List ℕ × List ℕ))) (old new : Reader) (before now : ℕ) (why : ReadStop) → FrameSays told old new before now (Err why) → Says given told old before now (Err why)
stopped_said given told old new before now (stop.Refused verdict) says = says.1
stopped_said given told old new before now stop.InputFault says = says.1
stopped_said given told old new before now stop.InputTooLong says = says.1
