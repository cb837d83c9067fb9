use Rattle.std.proofs.Common.{◌≡◌, ℕ, List, Option, Ok, ap, subst}
use Rattle.std.specs.Prelude.{◌+◌, ◌-◌, take, drop}
use Rattle.std.proofs.Common.{arith}
use Rattle.send_model.proofs.ElementLaws.{all_take}
use Rattle.sx_base.specs.Refusals.{refusal_of}
use Rattle.send_commands.specs.Meaning.{meaning_of}
use Rattle.tlv_frame.specs.declared.frame_head.FrameHead.{FrameHead}
use Rattle.tlv_frame.specs.InFront.{FindsFrame}
use Rattle.cmd_reader.proofs.CommandFacts.{slice_bytes}
use Rattle.group_replay.proofs.Spelled.{not_cut, not_refused_there, body_read, is_in_front}
use Rattle.group_replay.proofs.front.front_of.Goals as goal

pub returns-in-Ok-None : goal.returns-in-Ok-None
returns-in-Ok-None c = record {
  found = λ command rest s is. not_cut c.args.version c.args.bytes.now rest command s is (subst (λ (o : Option FrameHead). FindsFrame c.args.bytes.now (Ok o)) c.in-Ok-None.field-0-is c.in-Ok-None.ensures.exact);
}

pub returns-in-Err : goal.returns-in-Err
returns-in-Err c = record { found = λ command rest s is. not_refused_there c.args.version c.args.bytes.now rest command (refusal_of c.in-Err.field-0) s is c.in-Err.ensures.exact }

-- the body of the frame
body_is : (len : ℕ) (bytes : List ℕ) → take (10 + len - 10) (drop 10 bytes) ≡ take len (drop 10 bytes)
body_is len bytes = ap (λ (n : ℕ). take n (drop 10 bytes)) (omega arith)

pub returns : goal.returns
returns c =
    let bytes = c.args.bytes.now in
    let head = c.in-Ok-Some.head in
    let frame = subst (λ (o : Option FrameHead). FindsFrame bytes (Ok o)) c.in-Ok-Some.field-0-is c.in-Ok-Some.ensures.exact in
    let said = c.in-Some.ensures.found in
    record {
      found = is_in_front c.args.version bytes head frame (take (10 + head.len - 10) (drop 10 bytes)) (body_is head.len bytes) (meaning_of c.in-Some.command)
          (all_take _ (10 + head.len) bytes (slice_bytes bytes c.type_inv.bytes)) said.0.spellable said.1.read said.1.command_is;
    }

pub returns-in_default : goal.returns-in_default
returns-in_default c =
    let bytes = c.args.bytes.now in
    let head = c.in-Ok-Some.head in
    let frame = subst (λ (o : Option FrameHead). FindsFrame bytes (Ok o)) c.in-Ok-Some.field-0-is c.in-Ok-Some.ensures.exact in
    record {
      found = λ command rest s is.
          let read = body_read c.args.version bytes head frame (take (10 + head.len - 10) (drop 10 bytes)) (body_is head.len bytes) rest command s is in
          c.in_default.ensures.found command (record { read = read.0; command_is = read.1 });
    }
