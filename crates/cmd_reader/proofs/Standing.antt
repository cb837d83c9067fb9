-- Where a reader stands after a step and after a call.
use Rattle.std.specs.Prelude.{◌≡◌, ℕ, List, Option, None, Some, Result, Ok, Err}
use Rattle.std.proofs.Common.{sym, ap, subst, ◌∙◌, arith, inl, inr}
use Rattle.send_model.specs.Reading as reading
use Rattle.sx_base.specs.declared.outcome.Verdict.{Verdict}
use Rattle.sx_base.specs.declared.refusal.Refusal.TheVariants as code
use Rattle.cmd_reader.specs.declared.front.FrameAt.{FrameAt}
use Rattle.cmd_reader.specs.declared.item.Item.{Item}
use Rattle.cmd_reader.specs.declared.item.Glance.{Glance}
use Rattle.cmd_reader.specs.declared.item.ReadStop.{ReadStop}
use Rattle.cmd_reader.specs.declared.item.ReadStop.TheVariants as stop
use Rattle.cmd_reader.specs.declared.fault.Fault.{Fault}
use Rattle.cmd_reader.specs.declared.fault.Fault.TheVariants as fault
use Rattle.tlv_frame.specs.declared.feed.Passed.{Passed}
use Rattle.cmd_reader.specs.Sources.{HasStayed}
use Rattle.cmd_reader.proofs.Passes.{PassSays}
use Rattle.cmd_reader.specs.Left.{Reader}
use Rattle.cmd_reader.specs.Next.{HasBegun, as_some}
use Rattle.cmd_reader.specs.Stands.{HasPassedFrame, Stands, NextStands, GlanceStands}
use Rattle.cmd_reader.specs.Frames.{HasReached, FrameSays, Halts, StepHalts}
use Rattle.cmd_reader.specs.Items.{StopAt, ItemIs, GlanceIs, BodySays, ItemSays, GlanceSaid}
use Rattle.cmd_reader.proofs.Goings.{frame_passed}

-- ---- one step

stayed_begun : (old new : Reader) → new.file ≡ old.file → new.name ≡ old.name → new.number ≡ old.number → HasStayed old.offset old.fed new.offset new.fed → HasBegun old new
stayed_begun old new file name number s = record { later = omega (arith, s.place); file = file; name = name; number = number; due = λ version e. s.due ∙ e; at_end = λ e. sym s.ended ∙ e }

-- There is no answer.
fault_halts : (told : Option (List (List ℕ × List ℕ))) (old new : Reader) (before now : ℕ) (fault : Fault) (why : ReadStop) → new.file ≡ old.file → new.name ≡ old.name → new.number ≡ old.number
    → PassSays told old.name old.offset old.fed new.offset new.fed before now (Err fault) → StopAt old.file old.number old.offset fault why → Halts old new (Err why)
fault_halts told old new before now (fault.Refused refusal) (stop.Refused verdict) file name number p s = (stayed_begun old new file name number p.0, p.0.place ∙ sym (ap (λ (v : reading.Verdict). v.offset) s))
fault_halts told old new before now (fault.Refused refusal) stop.InputFault file name number p s = elim s [ ]
fault_halts told old new before now (fault.Refused refusal) stop.InputTooLong file name number p s = elim s [ ]
fault_halts told old new before now fault.InputFault why file name number p s = let S : ReadStop → Type 0 = λ w. Halts old new (Err w) in subst S (sym s) (stayed_begun old new file name number p.0)
fault_halts told old new before now fault.InputTooLong why file name number p s = let S : ReadStop → Type 0 = λ w. Halts old new (Err w) in subst S (sym s) (stayed_begun old new file name number p.0)

pub fault_halted : (told : Option (List (List ℕ × List ℕ))) (old shown new : Reader) (before now : ℕ) (fault : Fault) (why : ReadStop) → shown ≡ old → new.file ≡ shown.file → new.name ≡ shown.name → new.number ≡ shown.number
    → PassSays told shown.name shown.offset shown.fed new.offset new.fed before now (Err fault) → StopAt shown.file shown.number shown.offset fault why → StepHalts old new (Some (Err why))
fault_halted told old shown new before now fault why is file name number p s = subst (λ (r : Reader). StepHalts r new (Some (Err why))) is (fault_halts told shown new before now fault why file name number p s)

stayed_there : (told : Option (List (List ℕ × List ℕ))) (old new : Reader) (before now : ℕ) (answer : Option Passed) → answer ≡ None → PassSays told old.name old.offset old.fed new.offset new.fed before now (Ok answer) → HasStayed old.offset old.fed new.offset new.fed
stayed_there told old new before now answer a p = (subst (λ (o : Option Passed). PassSays told old.name old.offset old.fed new.offset new.fed before now (Ok o)) a p).0

-- The file has ended after END.
pub whole_halted : (told : Option (List (List ℕ × List ℕ))) (old shown new : Reader) (before now : ℕ) (answer : Option Passed) → shown ≡ old → answer ≡ None → new.file ≡ shown.file → new.name ≡ shown.name → new.number ≡ shown.number
    → PassSays told shown.name shown.offset shown.fed new.offset new.fed before now (Ok answer) → StepHalts old new (Some (Ok None))
whole_halted told old shown new before now answer is a file name number p =
    subst (λ (r : Reader). StepHalts r new (Some (Ok None))) is (stayed_begun shown new file name number (stayed_there told shown new before now answer a p))

-- The file is cut short.
pub cut_halted : (told : Option (List (List ℕ × List ℕ))) (old shown new : Reader) (before now : ℕ) (answer : Option Passed) (why : ReadStop) → shown ≡ old → answer ≡ None → new.file ≡ shown.file → new.name ≡ shown.name → new.number ≡ shown.number
    → PassSays told shown.name shown.offset shown.fed new.offset new.fed before now (Ok answer) → StopAt shown.file shown.number shown.offset (fault.Refused code.Truncated) why → StepHalts old new (Some (Err why))
cut_halted told old shown new before now answer why is a file name number p s =
    subst (λ (r : Reader). StepHalts r new (Some (Err why))) is (by_stop why s)
  where
    stay : HasStayed shown.offset shown.fed new.offset new.fed
    stay = stayed_there told shown new before now answer a p

    by_stop : (w : ReadStop) → StopAt shown.file shown.number shown.offset (fault.Refused code.Truncated) w → Halts shown new (Err w)
    by_stop (stop.Refused verdict) t = (stayed_begun shown new file name number stay, stay.place ∙ sym (ap (λ (v : reading.Verdict). v.offset) t))
    by_stop stop.InputFault t = elim t [ ]
    by_stop stop.InputTooLong t = elim t [ ]

-- ---- a call, over the headers that it passed

over : (old mid new : Reader) → HasBegun old mid → HasBegun mid new → HasBegun old new
over old mid new b n = record { later = omega (arith, b.later, n.later); file = n.file ∙ b.file; name = n.name ∙ b.name; number = n.number ∙ b.number; due = λ version e. n.due version (b.due version e); at_end = λ e. b.at_end (n.at_end e) }

pub halted_over : (old mid new : Reader) (answer : Result (Option FrameAt) ReadStop) → HasBegun old mid → StepHalts mid new (Some answer) → Halts old new answer
halted_over old mid new (Ok (Some frame)) b h = tt
halted_over old mid new (Ok None) b h = over old mid new b h
halted_over old mid new (Err (stop.Refused verdict)) b h = (over old mid new b h.0, h.1)
halted_over old mid new (Err stop.InputFault) b h = over old mid new b h
halted_over old mid new (Err stop.InputTooLong) b h = over old mid new b h

-- ---- what was made of the frame, or that none was reached

pub ended_stands : {T : Type 0} (given : T → Type 0) (told : Option (List (List ℕ × List ℕ))) (old new : Reader) (o : Option FrameAt) → o ≡ None → Halts old new (Ok o) → Stands given told old new (Ok None)
ended_stands given told old new o none h = subst (λ (x : Option FrameAt). Halts old new (Ok x)) none h

pub stopped_stands : {T : Type 0} (given : T → Type 0) (told : Option (List (List ℕ × List ℕ))) (old new : Reader) (why : ReadStop) → Halts old new (Err why) → Stands given told old new (Err why)
stopped_stands given told old new (stop.Refused verdict) h = inl h
stopped_stands given told old new stop.InputFault h = h
stopped_stands given told old new stop.InputTooLong h = h

body_stands : {T : Type 0} (made given : T → Type 0) (told : Option (List (List ℕ × List ℕ))) (old new : Reader) (before now : ℕ) (o : Option FrameAt) (frame : FrameAt) (body : List ℕ) (result : Result T Verdict) → o ≡ Some frame → FrameSays told old new before now (Ok o)
    → (HasPassedFrame told old new frame.offset → (x : T) → made x → given x) → BodySays made frame body result → Stands given told old new (as_some result)
body_stands {T = T} made given told old new before now o frame body result is says turn m = by_result result m
  where
    r : HasReached told old new frame
    r = (subst (λ (x : Option FrameAt). FrameSays told old new before now (Ok x)) is says).1

    past : HasPassedFrame told old new frame.offset
    past = frame_passed told old new frame r

    by_result : (x : Result T Verdict) → BodySays made frame body x → Stands given told old new (as_some x)
    by_result (Ok x) s = turn past x s
    by_result (Err verdict) s = inr (subst (λ (at : ℕ). HasPassedFrame told old new at) (sym (ap (λ (v : reading.Verdict). v.offset) s.1)) past)

pub item_stands : (told : Option (List (List ℕ × List ℕ))) (old new : Reader) (before now : ℕ) (o : Option FrameAt) (frame : FrameAt) (body : List ℕ) (result : Result Item Verdict) → o ≡ Some frame → FrameSays told old new before now (Ok o) → ItemSays frame body result → NextStands told old new (as_some result)
item_stands told old new before now o frame body result is says m =
    body_stands (ItemIs frame body) (λ (item : Item). HasPassedFrame told old new item.offset) told old new before now o frame body result is says (λ past item i. subst (λ (at : ℕ). HasPassedFrame told old new at) (sym i.offset_is) past) m

pub glance_stands : (told : Option (List (List ℕ × List ℕ))) (old new : Reader) (before now : ℕ) (o : Option FrameAt) (frame : FrameAt) (body : List ℕ) (result : Result Glance Verdict) → o ≡ Some frame → FrameSays told old new before now (Ok o) → GlanceSaid frame body result → GlanceStands told old new (as_some result)
glance_stands told old new before now o frame body result is says m =
    body_stands (GlanceIs frame body) (λ (glance : Glance). (at : ℕ) × HasPassedFrame told old new at) told old new before now o frame body result is says (λ past glance i. (frame.offset, past)) m
