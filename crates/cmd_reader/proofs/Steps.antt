-- What one step answers, for a reader whose fields are open.
use Rattle.std.specs.Prelude.{◌≡◌, ℕ, ◌+◌, ◌≤◌, true, false, List, Option, None, Some, Ok, Err}
use Rattle.std.proofs.Common.{sym, subst, ◌∙◌}
use Rattle.send_model.specs.Reading.{HeaderDue}
use Rattle.send_model.specs.Lengths.{limit}
use Rattle.sx_base.specs.declared.refusal.Refusal.TheVariants as code
use Rattle.tlv_frame.specs.Feeding.{Fed, is_whole}
use Rattle.tlv_frame.specs.declared.feed.Passed.{Passed}
use Rattle.tlv_frame.specs.declared.feed.Passed.TheVariants as passed
use Rattle.tlv_frame.specs.declared.stream_head.StreamHead.{StreamHead}
use Rattle.tlv_frame.specs.declared.frame_head.FrameHead.{FrameHead}
use Rattle.cmd_reader.specs.declared.front.FrameAt.{FrameAt}
use Rattle.cmd_reader.specs.declared.item.ReadStop.{ReadStop}
use Rattle.cmd_reader.specs.declared.fault.Fault.{Fault}
use Rattle.cmd_reader.specs.declared.fault.Fault.TheVariants as fault
use Rattle.cmd_reader.proofs.Passes.{PassSays}
use Rattle.cmd_reader.specs.Left.{Reader}
use Rattle.cmd_reader.specs.Frames.{frame_here, HasGonePast, StepSays}
use Rattle.cmd_reader.specs.Items.{StopAt}
use Rattle.cmd_reader.proofs.Goings.{header_step, fault_step, whole_step, cut_step}

pub fault_said : (told : Option (List (List ℕ × List ℕ))) (old shown new : Reader) (before now next : ℕ) (feed : Fed) (fault : Fault) (why : ReadStop) → shown ≡ old → PassSays told shown.name shown.offset shown.fed next feed before now (Err fault) → StopAt shown.file shown.number shown.offset fault why
    → StepSays told old new before now (Some (Err why))
fault_said told old shown new before now next feed fault why is p s = subst (λ (r : Reader). StepSays told r new before now (Some (Err why))) is (fault_step told shown new before now next feed fault why p s)

pub head_said : (told : Option (List (List ℕ × List ℕ))) (old shown new : Reader) (before now : ℕ) (head : StreamHead) (unit : Passed) (answer : Option Passed) → shown ≡ old → answer ≡ Some unit → unit ≡ passed.Head head → new.file ≡ shown.file → new.name ≡ shown.name → new.number ≡ shown.number → new.offset ≤ limit
    → PassSays told shown.name shown.offset shown.fed new.offset new.fed before now (Ok answer) → StepSays told old new before now None
head_said told old shown new before now head unit answer is a u file name number within p =
    let P : Option Passed → Type 0 = λ o. PassSays told shown.name shown.offset shown.fed new.offset new.fed before now (Ok o) in
    let says = subst (λ (x : Passed). P (Some x)) u (subst P a p) in
    subst (λ (r : Reader). StepSays told r new before now None) is (header_step told shown new before now head says.0 file name number within says.1.0 says.1.1)

pub frame_said : (told : Option (List (List ℕ × List ℕ))) (old shown new : Reader) (before now : ℕ) (head : FrameHead) (version : ℕ) (unit : Passed) (answer : Option Passed) (frame : FrameAt) → shown ≡ old → answer ≡ Some unit → unit ≡ passed.Frame head version → frame ≡ frame_here shown version head → new.file ≡ shown.file → new.name ≡ shown.name
    → new.number ≡ shown.number + 1 → new.offset ≤ limit → PassSays told shown.name shown.offset shown.fed new.offset new.fed before now (Ok answer) → StepSays told old new before now (Some (Ok (Some frame)))
frame_said told old shown new before now head version unit answer frame is a u here file name number within p =
    let P : Option Passed → Type 0 = λ o. PassSays told shown.name shown.offset shown.fed new.offset new.fed before now (Ok o) in
    let says = subst (λ (x : Passed). P (Some x)) u (subst P a p) in
    let past : HasGonePast told shown new frame = record { version = version; head = head; h = says.0; is = here; file = file; name = name; number = number; within = within; passes = says.1.0; stands = says.1.1 } in
    subst (λ (r : Reader). StepSays told r new before now (Some (Ok (Some frame)))) is (tt, past)

none_passed : (told : Option (List (List ℕ × List ℕ))) (r : Reader) (next before now : ℕ) (feed : Fed) (answer : Option Passed) → answer ≡ None → PassSays told r.name r.offset r.fed next feed before now (Ok answer) → PassSays told r.name r.offset r.fed next feed before now (Ok None)
none_passed told r next before now feed answer a p = subst (λ (o : Option Passed). PassSays told r.name r.offset r.fed next feed before now (Ok o)) a p

pub whole_said : (told : Option (List (List ℕ × List ℕ))) (old shown new : Reader) (before now next : ℕ) (feed : Fed) (answer : Option Passed) → shown ≡ old → answer ≡ None → is_whole feed ≡ true → (shown.fed.ended ≡ true → shown.fed.due ≡ HeaderDue)
    → PassSays told shown.name shown.offset shown.fed next feed before now (Ok answer) → StepSays told old new before now (Some (Ok None))
whole_said told old shown new before now next feed answer is a whole at_end p =
    let says = none_passed told shown next before now feed answer a p in
    subst (λ (r : Reader). StepSays told r new before now (Some (Ok None))) is (whole_step told shown new before now next feed says.0 says.1 whole (λ e. says.0.due ∙ at_end (sym says.0.ended ∙ e)))

pub cut_said : (told : Option (List (List ℕ × List ℕ))) (old shown new : Reader) (before now next : ℕ) (feed : Fed) (answer : Option Passed) (why : ReadStop) → shown ≡ old → answer ≡ None → is_whole feed ≡ false → PassSays told shown.name shown.offset shown.fed next feed before now (Ok answer)
    → StopAt shown.file shown.number shown.offset (fault.Refused code.Truncated) why → StepSays told old new before now (Some (Err why))
cut_said told old shown new before now next feed answer why is a goes_on p s =
    let says = none_passed told shown next before now feed answer a p in
    subst (λ (r : Reader). StepSays told r new before now (Some (Err why))) is (cut_step told shown new before now next feed why says.0 says.1 goes_on s)
