-- `text` and `pack` undo each other.
use Rattle.std.specs.Prelude.{◌≡◌, ℕ, Bool, true, false, List, ◌∷◌, [], if◌then◌else◌}
use Rattle.std.proofs.Common.{refl, sym, ap, subst, ◌∙◌}
use Rattle.send_model.specs.Due as files_due
use Rattle.send_model.specs.Due.{DoneWhole, TooLong, file_due, refused_due}
use Rattle.send_model.specs.Attribute.{IsBytes}
use Rattle.send_model.specs.Reading.{Ending, Whole, Faulty, reads}
use Rattle.send_model.specs.Receive.{fault_of}
use Rattle.send_model.specs.Lengths.{is_too_long}
use Rattle.store_model.specs.Dues as dues
use Rattle.text_model.specs.Texts.{Stream, IsText, text_of, packed_of, text_in, canonical_in}
use Rattle.text_model.proofs.Judging.{lawful_is_not_bad, text_has_one_reading}
use Rattle.text_model.proofs.ReadAgain.{packed_is_read}
use Rattle.text_model.proofs.WholeFiles.{whole_has_text}
use Rattle.program_model.specs.Answers.{Says}
use Rattle.program_model.specs.AnswerMeanings.{PackedIsText, TextIsPacked, TextIsTaken}

-- The answer that is in an end.
due_inside : {due other : files_due.Due} → dues.Ends due ≡ dues.Ends other → due ≡ other
due_inside {due} e = ap (λ (d : dues.Due). elim d [
  | dues.Ends inside ↦ inside
  | dues.NotStore group ↦ due
  | dues.Missing what ↦ due
  | dues.LogFull end wanted limit ↦ due
  | dues.StoreThere size ↦ due
  | dues.Damaged group stored computed ↦ due
]) e

-- Where all is done of one file, it is read whole.
read_whole : (bytes : List ℕ) → DoneWhole ≡ file_due bytes → (reads 1 bytes).end ≡ Whole
unfolding file_due
read_whole bytes done = two (is_too_long 1 bytes) (reads 1 bytes).end refl done
  where
    two : (long : Bool) (end : Ending) → (reads 1 bytes).end ≡ end
        → DoneWhole ≡ (if long then TooLong 1 else refused_due (fault_of end)) → (reads 1 bytes).end ≡ Whole
    two true end is e = cc
    two false Whole is e = is
    two false (Faulty verdict) is e = cc

pub packed_is_text : PackedIsText
unfolding Says
packed_is_text file other image left other_image other_left text packed printed made shown =
    let t : IsText text = made.1.1.0 in
    let is : packed ≡ packed_of t.streams = made.1.1.1 in
    shown.1.1 ∙ ap text_in is ∙ (packed_is_read t.streams t.lawful).1 ∙ sym t.text

pub text_is_packed : TextIsPacked
unfolding Says
text_is_packed file other image left other_image other_left bytes text packed are shown made =
    let whole : (reads 1 bytes).end ≡ Whole = read_whole bytes (due_inside shown.0) in
    let own = whole_has_text bytes are whole in
    let t : IsText text = made.1.1.0 in
    let same : t.streams ≡ own.0.streams = text_has_one_reading t.streams own.0.streams t.lawful own.0.lawful (sym t.text ∙ shown.1.1 ∙ own.0.text) in
    made.1.1.1 ∙ ap packed_of same ∙ own.1

pub text_is_taken : TextIsTaken
unfolding Says
text_is_taken file other image left other_image other_left bytes text packed verdict are shown made =
    let whole : (reads 1 bytes).end ≡ Whole = read_whole bytes (due_inside shown.0) in
    let own = whole_has_text bytes are whole in
    lawful_is_not_bad text made.1.0.0 (record { streams = own.0.streams; lawful = own.0.lawful; text = shown.1.1 ∙ own.0.text }) made.1.0.1
