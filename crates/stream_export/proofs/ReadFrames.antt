-- A frame that was read, as one that is spelled, and the attributes in front of its body.
use Rattle.std.specs.Prelude.{Bool, if◌then◌else◌, ◌≡◌, ℕ, ◌≤◌, ◌==◌, true, false, List, [], ◌∷◌, ◌++◌, length, take, drop, Result, Ok, nat_lt, nat_le}
use Rattle.std.specs.Int.{w16, w32, to_le_bytes}
use Rattle.std.proofs.Common.{refl, sym, ap, ◌∙◌, arith, append_assoc, append-nil, length-drop, take-append-drop, drop-drop}
use Rattle.std.proofs.lemmas.Bool.{leb-true, eqb-true, and_right}
use Rattle.std.proofs.lemmas.List.{take_all, nil_from_length}
use Rattle.send_model.specs.Refusal.{Truncated, LongCommand, BadChecksum}
use Rattle.send_model.specs.Refusal as meant
use Rattle.send_model.specs.Chain.{◌>>◌, require}
use Rattle.send_model.specs.Attribute.{Time, Moment, field_bytes, CTIME, MTIME, ATIME, PATH, DATA, IsBytes}
use Rattle.send_model.specs.Command.{Utimes, row}
use Rattle.send_model.specs.Spelling.{Attribute, attribute_bytes, attributes_of, body_of, frame_of, frame_checksum, greatest_body}
use Rattle.send_model.specs.Receivable.{receivable_attributes, receivable}
use Rattle.send_model.specs.Reading.{Frame, number16, number32, frame_with, frame_at, frame_header_len}
use Rattle.send_model.proofs.Fuel.{required, not_refused}
use Rattle.send_model.proofs.ReadSpelled.{two_back, four_back, ten_in_parts}
use Rattle.send_model.proofs.Sound.{bytes_drop}
use Rattle.receivable_form.proofs.Frames.{text_of}

pub long_frame : (bytes : List ℕ) (frame : Frame) → frame_at bytes ≡ Ok frame → 10 ≤ length bytes
unfolding frame_at
long_frame bytes frame e =
    leb-true 10 (length bytes) (required (nat_le frame_header_len (length bytes)) Truncated (frame_with (number32 bytes) (number16 (drop 4 bytes)) (number32 (drop 6 bytes)) (drop 10 bytes)) frame e).0

-- The checksum of a frame that is all of some bytes.
whole_sum : (len number stored : ℕ) (body : List ℕ) (frame : Frame) → len ≡ length body → frame_with len number stored body ≡ Ok frame → stored ≡ frame_checksum (length body) number body
unfolding frame_with
whole_sum len number stored body frame all e =
    let made : Frame = record { number = number; body = take len body; rest = drop len body } in
    let checked : Result Frame meant.Refusal = require (stored == frame_checksum len number (take len body)) (BadChecksum stored (frame_checksum len number (take len body))) >> Ok made in
    let a = not_refused (nat_lt greatest_body len) (LongCommand len) (require (nat_le len (length body)) Truncated >> checked) frame e in
    let c = required (nat_le len (length body)) Truncated checked frame a.1 in
    let d = required (stored == frame_checksum len number (take len body)) (BadChecksum stored (frame_checksum len number (take len body))) (Ok made) frame c.1 in
    eqb-true stored (frame_checksum len number (take len body)) d.0
    ∙ ap (λ (n : ℕ). frame_checksum n number (take n body)) all
    ∙ ap (frame_checksum (length body) number) (take_all (length body) body (omega arith))

pub is_frame : (number : ℕ) (bytes : List ℕ) (frame : Frame) → IsBytes bytes → frame_at bytes ≡ Ok frame → number16 (drop 4 bytes) ≡ number → number32 bytes ≡ length (drop 10 bytes)
    → bytes ≡ frame_of number (drop 10 bytes)
unfolding frame_at frame_of
is_frame number bytes frame are e of_number all =
    let long = long_frame bytes frame e in
    let body : List ℕ = drop 10 bytes in
    let a = required (nat_le frame_header_len (length bytes)) Truncated (frame_with (number32 bytes) (number16 (drop 4 bytes)) (number32 (drop 6 bytes)) body) frame e in
    let sum = whole_sum (number32 bytes) (number16 (drop 4 bytes)) (number32 (drop 6 bytes)) body frame all a.1 in
    let len_is : take 4 bytes ≡ to_le_bytes w32 (length body) = sym (four_back bytes are (omega (arith, long))) ∙ ap (to_le_bytes w32) all in
    let number_is : take 2 (drop 4 bytes) ≡ to_le_bytes w16 number = sym (two_back (drop 4 bytes) (bytes_drop 4 bytes are) (omega (arith, long, length-drop 4 bytes))) ∙ ap (to_le_bytes w16) of_number in
    let sum_is : take 4 (drop 6 bytes) ≡ to_le_bytes w32 (frame_checksum (length body) number body) =
    sym (four_back (drop 6 bytes) (bytes_drop 6 bytes are) (omega (arith, long, length-drop 6 bytes))) ∙ ap (to_le_bytes w32) (sum ∙ ap (λ (n : ℕ). frame_checksum (length body) n body) of_number) in
    ten_in_parts bytes
    ∙ ap (λ (l : List ℕ). l ++ (take 2 (drop 4 bytes) ++ (take 4 (drop 6 bytes) ++ body))) len_is
    ∙ ap (λ (l : List ℕ). to_le_bytes w32 (length body) ++ (l ++ (take 4 (drop 6 bytes) ++ body))) number_is
    ∙ ap (λ (l : List ℕ). to_le_bytes w32 (length body) ++ (to_le_bytes w16 number ++ (l ++ body))) sum_is
    ∙ sym (append_assoc (to_le_bytes w32 (length body)) (to_le_bytes w16 number) (to_le_bytes w32 (frame_checksum (length body) number body) ++ body))
    ∙ sym (append_assoc (to_le_bytes w32 (length body) ++ to_le_bytes w16 number) (to_le_bytes w32 (frame_checksum (length body) number body)) body)

-- ---- an attribute in front of a body

four_in_parts : (bytes : List ℕ) → bytes ≡ take 2 bytes ++ (take 2 (drop 2 bytes) ++ drop 4 bytes)
four_in_parts bytes =
    sym (take-append-drop 2 bytes) ∙ ap (λ (r : List ℕ). take 2 bytes ++ r) (sym (take-append-drop 2 (drop 2 bytes)) ∙ ap (λ (r : List ℕ). take 2 (drop 2 bytes) ++ r) (drop-drop 2 2 bytes))

pub behind_head : (kind : ℕ) (body bytes behind : List ℕ) → take 2 body ≡ to_le_bytes w16 kind → take 2 (drop 2 body) ≡ to_le_bytes w16 (length bytes) → behind ≡ drop 4 body
    → take (length bytes) behind ≡ bytes → body ≡ attribute_bytes 1 (record { kind = kind; bytes = bytes }) ++ drop (length bytes) behind
unfolding attribute_bytes
behind_head kind body bytes behind number_is len_is is front =
    let rest : List ℕ = drop (length bytes) behind in
    let left : drop 4 body ≡ bytes ++ rest = sym is ∙ sym (take-append-drop (length bytes) behind) ∙ ap (λ (l : List ℕ). l ++ rest) front in
    four_in_parts body
    ∙ ap (λ (l : List ℕ). l ++ (take 2 (drop 2 body) ++ drop 4 body)) number_is
    ∙ ap (λ (l : List ℕ). to_le_bytes w16 kind ++ (l ++ drop 4 body)) len_is
    ∙ ap (λ (l : List ℕ). to_le_bytes w16 kind ++ (to_le_bytes w16 (length bytes) ++ l)) left
    ∙ ap (λ (l : List ℕ). to_le_bytes w16 kind ++ l) (sym (append_assoc (to_le_bytes w16 (length bytes)) bytes rest))
    ∙ sym (append_assoc (to_le_bytes w16 kind) (to_le_bytes w16 (length bytes) ++ bytes) rest)
    ∙ ap (λ (l : List ℕ). l ++ rest) (sym (append_assoc (to_le_bytes w16 kind) (to_le_bytes w16 (length bytes)) bytes))

-- ---- attributes in front of a body, one behind the other

behind_one : (a : Attribute) (attributes : List Attribute) (rest body behind : List ℕ) → body ≡ attribute_bytes 1 a ++ behind → behind ≡ body_of 1 attributes ++ rest → body ≡ body_of 1 (a ∷ attributes) ++ rest
unfolding body_of
behind_one a attributes rest body behind e f =
    e ∙ ap (λ (l : List ℕ). attribute_bytes 1 a ++ l) f ∙ sym (append_assoc (attribute_bytes 1 a) (body_of 1 attributes) rest)

behind_none : (rest : List ℕ) → rest ≡ body_of 1 [] ++ rest
unfolding body_of
behind_none rest = refl

pub times_behind : (mtime atime : Time) (path frame body1 body2 body3 body4 ctime_bytes mtime_bytes atime_bytes rest : List ℕ)
    → ctime_bytes ≡ field_bytes (Moment mtime) → mtime_bytes ≡ field_bytes (Moment mtime) → atime_bytes ≡ field_bytes (Moment atime)
    → frame ≡ frame_of 20 body1 → body1 ≡ attribute_bytes 1 (text_of CTIME ctime_bytes) ++ body2 → body2 ≡ attribute_bytes 1 (text_of MTIME mtime_bytes) ++ body3
    → body3 ≡ attribute_bytes 1 (text_of ATIME atime_bytes) ++ body4 → body4 ≡ attribute_bytes 1 (text_of PATH path) ++ rest
    → frame ≡ frame_of 20 (body_of 1 (receivable_attributes (Utimes mtime atime path)) ++ rest)
unfolding receivable_attributes attributes_of row
times_behind mtime atime path frame body1 body2 body3 body4 c m a rest is_c is_m is_a e e1 e2 e3 e4 =
    let at : (kind : ℕ) (bytes other behind body : List ℕ) → bytes ≡ other → body ≡ attribute_bytes 1 (text_of kind bytes) ++ behind → body ≡ attribute_bytes 1 (text_of kind other) ++ behind =
    λ kind bytes other behind body same is. is ∙ ap (λ (b : List ℕ). attribute_bytes 1 (text_of kind b) ++ behind) same in
    let path_at = behind_one (text_of PATH path) [] rest body4 rest e4 (behind_none rest) in
    let atime_at = behind_one (text_of ATIME (field_bytes (Moment atime))) (text_of PATH path ∷ []) rest body3 body4 (at ATIME a (field_bytes (Moment atime)) body4 body3 is_a e3) path_at in
    let mtime_at = behind_one (text_of MTIME (field_bytes (Moment mtime))) (text_of ATIME (field_bytes (Moment atime)) ∷ text_of PATH path ∷ []) rest body2 body3 (at MTIME m (field_bytes (Moment mtime)) body3 body2 is_m e2) atime_at in
    e ∙ ap (frame_of 20) (behind_one (text_of CTIME (field_bytes (Moment mtime))) (text_of MTIME (field_bytes (Moment mtime)) ∷ text_of ATIME (field_bytes (Moment atime)) ∷ text_of PATH path ∷ []) rest body1 body2 (at CTIME c (field_bytes (Moment mtime)) body2 body1 is_c e1) mtime_at)

-- ---- both versions spell UTIMES in the same bytes

same_attribute : (version : ℕ) (a : Attribute) → (a.kind == DATA) ≡ false → attribute_bytes 1 a ≡ attribute_bytes version a
unfolding attribute_bytes
same_attribute version a other =
    ap (λ (b : Bool). to_le_bytes w16 a.kind ++ (if b then [] else to_le_bytes w16 (length a.bytes)) ++ a.bytes)
    (sym (and_right (version == 2) (a.kind == DATA) other))

same_body : (version : ℕ) (a : Attribute) (attributes : List Attribute) → (a.kind == DATA) ≡ false → body_of 1 attributes ≡ body_of version attributes → body_of 1 (a ∷ attributes) ≡ body_of version (a ∷ attributes)
unfolding body_of
same_body version a attributes other same = ap (λ (l : List ℕ). l ++ body_of 1 attributes) (same_attribute version a other) ∙ ap (λ (l : List ℕ). attribute_bytes version a ++ l) same

same_none : (version : ℕ) → body_of 1 [] ≡ body_of version []
unfolding body_of
same_none version = refl

same_times : (version : ℕ) (mtime atime : Time) (path : List ℕ) → body_of 1 (receivable_attributes (Utimes mtime atime path)) ≡ body_of version (receivable_attributes (Utimes mtime atime path))
unfolding receivable_attributes attributes_of row
same_times version mtime atime path =
    same_body version (text_of CTIME (field_bytes (Moment mtime))) (text_of MTIME (field_bytes (Moment mtime)) ∷ text_of ATIME (field_bytes (Moment atime)) ∷ text_of PATH path ∷ []) refl
    (same_body version (text_of MTIME (field_bytes (Moment mtime))) (text_of ATIME (field_bytes (Moment atime)) ∷ text_of PATH path ∷ []) refl
    (same_body version (text_of ATIME (field_bytes (Moment atime))) (text_of PATH path ∷ []) refl (same_body version (text_of PATH path) [] refl (same_none version))))

pub all_times : (version : ℕ) (mtime atime : Time) (path frame rest : List ℕ) → frame ≡ frame_of 20 (body_of 1 (receivable_attributes (Utimes mtime atime path)) ++ rest) → (length rest == 0) ≡ true
    → frame ≡ receivable version (Utimes mtime atime path)
unfolding receivable row
all_times version mtime atime path frame rest e none =
    e ∙ ap (λ (l : List ℕ). frame_of 20 (body_of 1 (receivable_attributes (Utimes mtime atime path)) ++ l)) (nil_from_length rest (eqb-true (length rest) 0 none))
    ∙ ap (frame_of 20) (append-nil (body_of 1 (receivable_attributes (Utimes mtime atime path))) ∙ same_times version mtime atime path)
