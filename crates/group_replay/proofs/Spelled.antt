-- A frame in front of bytes, as the canonical spelling of its command.
use Rattle.std.specs.Prelude.{◌≡◌, ℕ, ◌+◌, List, [], ◌++◌, length, take, drop, None, Some, Ok, Err}
use Rattle.std.proofs.Common.{refl, sym, ap, ◌∙◌, arith, length-take, length-drop}
use Rattle.send_model.specs.Refusal.{Refusal}
use Rattle.send_model.specs.Attribute.{IsBytes}
use Rattle.send_model.specs.Command as meant
use Rattle.send_model.specs.Command.{row, kind_of}
use Rattle.send_model.specs.Spelling.{body_of, attributes_of, canonical, Spells, IsSpellable}
use Rattle.send_model.specs.Reading.{Frame, frame_at, attributes_at, command_of}
use Rattle.send_model.proofs.Canonical.{attributes_lawful, wanted_there, spelled_read}
use Rattle.send_model.proofs.Fuel.{ok_same}
use Rattle.tlv_frame.specs.Feeding.{unless_more}
use Rattle.tlv_frame.specs.InFront.{IsFrame}
use Rattle.tlv_frame.specs.declared.frame_head.FrameHead.{FrameHead}
use Rattle.cmd_reader.proofs.LastFrames.{own_bytes, own_canonical}
use Rattle.group_replay.specs.Fronts.{IsInFront}

-- The canonical spelling spells its command, with its attributes.
spells : (version : ℕ) (c : meant.Command) → IsSpellable version c → Spells version (canonical version c) c
unfolding canonical
spells version c s = record {
  known = s.known;
  attributes = attributes_of c;
  lawful = attributes_lawful version c s.known s.values;
  frame = refl;
  short = s.short;
  wanted = wanted_there c;
  values = s.values;
}

-- What a canonical spelling in front is read as.
frame_read : (version : ℕ) (bytes rest : List ℕ) (c : meant.Command) → IsSpellable version c → bytes ≡ canonical version c ++ rest
    → frame_at bytes ≡ Ok (record { number = (row (kind_of c)).number; body = body_of version (attributes_of c); rest = rest })
unfolding spells
frame_read version bytes rest c s is = ap frame_at is ∙ (spelled_read version (canonical version c) rest c (spells version c s)).frame

pub not_cut : (version : ℕ) (bytes rest : List ℕ) (c : meant.Command) → IsSpellable version c → bytes ≡ canonical version c ++ rest → unless_more (frame_at bytes) ≡ Ok None → ⊥
not_cut version bytes rest c s is none = let read : unless_more (frame_at bytes) ≡ Ok (Some _) = ap unless_more (frame_read version bytes rest c s is) in cc

pub not_refused_there : (version : ℕ) (bytes rest : List ℕ) (c : meant.Command) (refusal : Refusal) → IsSpellable version c → bytes ≡ canonical version c ++ rest → unless_more (frame_at bytes) ≡ Err refusal → ⊥
not_refused_there version bytes rest c refusal s is none = let read : unless_more (frame_at bytes) ≡ Ok (Some _) = ap unless_more (frame_read version bytes rest c s is) in cc

module _ (version : ℕ) (bytes : List ℕ) (head : FrameHead) (frame : IsFrame bytes head) (body : List ℕ) (body_is : body ≡ take head.len (drop 10 bytes)) where
  -- A canonical spelling in front has this header and this body.
  pub body_read : (rest : List ℕ) (c : meant.Command) → IsSpellable version c → bytes ≡ canonical version c ++ rest
      → (attributes_at version body ≡ Ok (attributes_of c)) × (command_of version head.cmd (attributes_of c) ≡ Ok c)
  unfolding spells
  body_read rest c s is =
      let read = spelled_read version (canonical version c) rest c (spells version c s) in
      let same : record { number = head.cmd; body = take head.len (drop 10 bytes); rest = drop head.len (drop 10 bytes) } ≡ record { number = (row (kind_of c)).number; body = body_of version (attributes_of c); rest = rest } =
      ok_same (sym frame.frame ∙ frame_read version bytes rest c s is) in
      let own_body : body ≡ body_of version (attributes_of c) = body_is ∙ ap (λ (f : Frame). f.body) same in
      let number : head.cmd ≡ (row (kind_of c)).number = ap (λ (f : Frame). f.number) same in
      (ap (attributes_at version) own_body ∙ read.body, ap (λ (n : ℕ). command_of version n (attributes_of c)) number ∙ read.command)

  size : length (take head.len (drop 10 bytes)) ≡ head.len
  size = length-take head.len (drop 10 bytes) ∙ omega (arith, frame.whole, length-drop 10 bytes)

  pub is_in_front : (c : meant.Command) → IsBytes (take (10 + head.len) bytes) → IsSpellable version c → attributes_at version body ≡ Ok (attributes_of c) → command_of version head.cmd (attributes_of c) ≡ Ok c → IsInFront version bytes c (10 + head.len)
  is_in_front c are_own s read made =
      let own = own_bytes bytes _ frame.frame in
      let own_frame : frame_at (take (10 + head.len) bytes) ≡ Ok (record { number = head.cmd; body = take head.len (drop 10 bytes); rest = [] }) =
      ap (λ (n : ℕ). frame_at (take (10 + n) bytes)) (sym size) ∙ own in
      record {
        spellable = s;
        within = frame.whole;
        spelled = own_canonical version head.cmd (take (10 + head.len) bytes) (take head.len (drop 10 bytes)) (attributes_of c) c are_own own_frame (ap (attributes_at version) (sym body_is) ∙ read) made refl;
      }
