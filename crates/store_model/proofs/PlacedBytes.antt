-- The data of the WRITE commands of groups stand in the image at the places that are put for them.
-- So groups make of places what they make of bytes.
use Rattle.std.specs.Prelude.{◌≡◌, ℕ, ◌+◌, ◌-◌, ◌<◌, ◌≤◌, Bool, true, false, List, [], ◌∷◌, ◌++◌, length, map, take, drop, get_or, Option, None, Some, Ok}
use Rattle.std.specs.List.{AllByRecursion, range_with_len}
use Rattle.std.specs.Int.{w16, w32, w64, to_le_bytes}
use Rattle.std.specs.Option.{option_map}
use Rattle.std.proofs.Common.{refl, sym, ap, subst, ◌∙◌, arith, length-append, length-take, length-drop, append_assoc, append-nil, drop-drop, get_or-drop, flat_map}
use Rattle.std.proofs.lemmas.List.{drop-append-le, take-append-drop}
use Rattle.std.proofs.Math.Seq.{drop-append-add}
use Rattle.send_model.specs.Attribute.{IsBytes}
use Rattle.send_model.specs.Command.{Command, Write, row, kind_of}
use Rattle.send_model.specs.Spelling.{Spells, IsSpellable, attributes_of, body_of, frame_checksum, frame_of, canonical, canonical_all}
use Rattle.send_model.specs.Reading.{Front, data_place, item_at, front_of}
use Rattle.send_model.specs.Store.{Store}
use Rattle.send_model.specs.Cells.{recelled_store}
use Rattle.store_model.specs.Image.{Header, HasGroups, group_of, header_of}
use Rattle.send_model.proofs.Canonical.{wanted_there, attributes_lawful, bytes_append, le2_bytes, le4_bytes, body_is_bytes, spelled_front}
use Rattle.send_model.proofs.DataPlaces.{data_is_there}
use Rattle.store_model.specs.StoreLaws.{PlacesAreBytes, BytesHavePlaces}
use Rattle.store_model.specs.Stored.{Stands, Content, Mark, Body, Drop, Group, content_bytes, body_bytes, number_of, IsEdit, IsContent, IsGroup, as_bytes, as_places, byte_of, frames_at, body_at, made_all}
use Rattle.send_model.proofs.Sorts.{same_inside}
use Rattle.store_model.proofs.OneJournal.{length-le}
use Rattle.store_model.proofs.CellRuns.{IsPutSame, ArePutSame, PutsSame, AllPutSame, made_all-cells}

-- ---- one command

spelled : (version : ℕ) (c : Command) → IsSpellable version c → (s : Spells version (canonical version c) c) × (s.attributes ≡ attributes_of c)
unfolding canonical
spelled version c s = (
  record {
    known = s.known;
    attributes = attributes_of c;
    lawful = attributes_lawful version c s.known s.values;
    frame = refl;
    short = s.short;
    wanted = wanted_there c;
    values = s.values;
  },
  refl,
)

frame_is_bytes : (number : ℕ) (body : List ℕ) → IsBytes body → IsBytes (frame_of number body)
unfolding frame_of
frame_is_bytes number body are =
    let end : List ℕ = to_le_bytes w32 (frame_checksum (length body) number body) ++ body in
    bytes_append (to_le_bytes w32 (length body)) (to_le_bytes w16 number ++ end) (le4_bytes _) (bytes_append (to_le_bytes w16 number) end (le2_bytes _) (bytes_append (to_le_bytes w32 (frame_checksum (length body) number body)) body (le4_bytes _) are))

pub canonical_is_bytes : (version : ℕ) (c : Command) → IsSpellable version c → IsBytes (canonical version c)
unfolding canonical
canonical_is_bytes version c s = frame_is_bytes (row (kind_of c)).number (body_of version (attributes_of c)) (body_is_bytes version (attributes_of c) (attributes_lawful version c s.known s.values))

-- the data of a WRITE in its frame
data_in_frame : (version place : ℕ) (c : Command) (path : List ℕ) (at : ℕ) (written : List ℕ) → IsSpellable version c → c ≡ Write path at written
    → (place ≤ data_place version place (attributes_of c)) × (take (length written) (drop (data_place version place (attributes_of c) - place) (canonical version c)) ≡ written)
data_in_frame version place c path at written s is =
    let spells = spelled version c s in
    let front : Front = record { item = item_at 1 version 1 place spells.0.attributes c; rest = [] } in
    let read : front_of 1 version 1 place (canonical version c) ≡ Ok front =
    ap (front_of 1 version 1 place) (sym (append-nil (canonical version c))) ∙ spelled_front 1 version 1 place (canonical version c) [] c spells.0 in
    let there = data_is_there 1 version 1 place (canonical version c) front path at written (canonical_is_bytes version c s) read is in
    subst (λ (l : List _). (place ≤ data_place version place l) × (take (length written) (drop (data_place version place l - place) (canonical version c)) ≡ written)) spells.1 there

-- ---- bytes at places

-- bytes that stand at a place are those of the places from there on
bytes_from : (image : List ℕ) (place at : ℕ) (written tail : List ℕ) → drop (place + at) image ≡ written ++ tail → map (byte_of image) (map (λ k. Some (place + k)) (range_with_len at (length written))) ≡ written
bytes_from image place at [] tail is = refl
bytes_from image place at (b ∷ written) tail is =
    let here : get_or image (place + at) 0 ≡ b = ap (λ (n : ℕ). get_or image n 0) (omega arith) ∙ sym (get_or-drop (place + at) image 0 0) ∙ ap (λ (l : List ℕ). get_or l 0 0) is in
    let next : drop (place + (at + 1)) image ≡ written ++ tail = ap (λ (n : ℕ). drop n image) (omega arith) ∙ sym (drop-drop 1 (place + at) image) ∙ ap (λ (l : List ℕ). drop 1 l) is in
    let others = bytes_from image place (at + 1) written tail next in
    λ i. here i ∷ others i

-- a part that begins within the front, of bytes that are followed by others
part_goes_on : (n at : ℕ) (xs ys part : List ℕ) → length part ≡ n → 0 < n → take n (drop at xs) ≡ part → (tail : List ℕ) × (drop at (xs ++ ys) ≡ part ++ tail)
part_goes_on n at xs ys part size some is =
    let within : at ≤ length xs = omega (arith, ap length is, length-take n (drop at xs), length-drop at xs, size, some) in
    let tail : List ℕ = drop n (drop at xs) ++ ys in
    (tail, drop-append-le at xs ys within ∙ ap (λ (l : List ℕ). l ++ ys) (sym (take-append-drop n (drop at xs)) ∙ ap (λ (l : List ℕ). l ++ drop n (drop at xs)) is) ∙ append_assoc part (drop n (drop at xs)) ys)

-- bytes that stand behind a front of one length
behind_front : (before : List ℕ) (place at : ℕ) (rest image : List ℕ) → length before ≡ place → place ≤ at → image ≡ before ++ rest → drop at image ≡ drop (at - place) rest
behind_front before place at rest image size reaches is =
    ap (λ (n : ℕ). drop n image) (omega (arith, reaches, size)) ∙ ap (λ (l : List ℕ). drop (length before + (at - place)) l) is ∙ drop-append-add before rest (at - place)

-- the cells of a command whose frame stands at its place in the image
put_here : (image before after : List ℕ) (version place : ℕ) (c : Command) → IsSpellable version c → length before ≡ place → image ≡ before ++ (canonical version c ++ after)
    → IsPutSame (byte_of image) None as_places as_bytes version place c
put_here image before after version place (Write path at []) s size is = refl
put_here image before after version place (Write path at (b ∷ written)) s size is =
    let c : Command = Write path at (b ∷ written) in
    let place_of_data : ℕ = data_place version place (attributes_of c) in
    let there = data_in_frame version place c path at (b ∷ written) s refl in
    let part = part_goes_on (length (b ∷ written)) (place_of_data - place) (canonical version c) after (b ∷ written) refl (omega arith) there.1 in
    bytes_from image place_of_data 0 (b ∷ written) part.0
    (ap (λ (n : ℕ). drop n image) (omega arith) ∙ behind_front before place place_of_data (canonical version c ++ after) image size there.0 is ∙ part.1)
put_here image before after version place c s size is = refl

edits_here : (image before after : List ℕ) (version place : ℕ) (cs : List Command) → AllByRecursion (IsEdit version) cs → length before ≡ place → image ≡ before ++ (canonical_all version cs ++ after)
    → ArePutSame (byte_of image) None as_places as_bytes version place cs
unfolding canonical_all
edits_here image before after version place [] are size is = tt
edits_here image before after version place (c ∷ cs) are size is =
    let frame : List ℕ = canonical version c in
    let whole : image ≡ before ++ (frame ++ (canonical_all version cs ++ after)) = is ∙ ap (λ (l : List ℕ). before ++ l) (append_assoc frame (canonical_all version cs) after) in (
      put_here image before (canonical_all version cs ++ after) version place c are.0.1 size whole,
      edits_here image (before ++ frame) after version (place + length frame) cs are.1 (omega (arith, length-append before frame, size)) (whole ∙ sym (append_assoc before frame (canonical_all version cs ++ after))),
    )

-- what stands in a body: its plain bytes, and what follows them
plain_in : (g : Group) → (tail : List ℕ) × (body_bytes g ≡ (number_of g.is_sealed g.content ∷ content_bytes g.content) ++ tail)
plain_in g = one g.is_sealed g.content
  where
    one : (b : Bool) (c : Content) → (tail : List ℕ) × (body_bytes (record { content = c; is_sealed = b }) ≡ (number_of b c ∷ content_bytes c) ++ tail)
    one true c = (_, refl)
    one false c = ([], sym (append-nil (number_of false c ∷ content_bytes c)))

content_here : (image before after : List ℕ) (place number : ℕ) (content : Content) → IsContent content → length before ≡ place → image ≡ before ++ ((number ∷ content_bytes content) ++ after)
    → PutsSame (byte_of image) None as_places as_bytes place content
content_here image before after place number (Mark head) said size is = tt
content_here image before after place number (Body uuid version cs) said size is =
    let start : List ℕ = number ∷ uuid ++ version ∷ [] in
    let whole : image ≡ (before ++ start) ++ (canonical_all version cs ++ after) =
    is ∙ ap (λ (l : List ℕ). before ++ (number ∷ l)) (append_assoc uuid (version ∷ canonical_all version cs) after ∙ sym (append_assoc uuid (version ∷ []) (canonical_all version cs ++ after)))
    ∙ sym (append_assoc before start (canonical_all version cs ++ after)) in
    edits_here image (before ++ start) after version (frames_at place) cs said.2
    (omega (arith, length-append before start, length-append uuid (version ∷ []), said.0, size)) whole
content_here image before after place number (Drop name) said size is = tt

pub groups_here : (format : ℕ) (image before after : List ℕ) (gate : ℕ) (gs : List Group) → AllByRecursion (IsGroup format) gs → length before ≡ gate → image ≡ before ++ (flat_map group_of (map body_bytes gs) ++ after)
    → AllPutSame (byte_of image) None as_places as_bytes gate gs
groups_here format image before after gate [] are size is = tt
groups_here format image before after gate (g ∷ gs) are size is =
    let body : List ℕ = body_bytes g in
    let head : List ℕ = 1 ∷ to_le_bytes w64 (length body) in
    let rest : List ℕ = flat_map group_of (map body_bytes gs) ++ after in
    let whole : image ≡ (before ++ head) ++ (body ++ rest) =
    is ∙ ap (λ (l : List ℕ). before ++ l) (append_assoc (group_of body) (flat_map group_of (map body_bytes gs)) after ∙ append_assoc head body rest)
    ∙ sym (append_assoc before head (body ++ rest)) in
    let plain = plain_in g in
    let parts : image ≡ (before ++ head) ++ ((number_of g.is_sealed g.content ∷ content_bytes g.content) ++ (plain.0 ++ rest)) =
    whole ∙ ap (λ (l : List ℕ). (before ++ head) ++ l) (ap (λ (l : List ℕ). l ++ rest) plain.1 ∙ append_assoc (number_of g.is_sealed g.content ∷ content_bytes g.content) plain.0 rest) in
    let at_body : length (before ++ head) ≡ body_at gate = omega (arith, length-append before head, size, length-le (length body)) in (
      content_here image (before ++ head) (plain.0 ++ rest) (body_at gate) (number_of g.is_sealed g.content) g.content are.0.content at_body parts,
      groups_here format image ((before ++ head) ++ body) after (body_at gate + length body) gs are.1 (omega (arith, length-append (before ++ head) body, at_body)) (whole ∙ sym (append_assoc (before ++ head) body rest)),
    )

-- all groups of an image
pub image_puts : (header : Header) (gs : List Group) (image : List ℕ) → AllByRecursion (IsGroup header.format) gs → HasGroups header (map body_bytes gs) image → AllPutSame (byte_of image) None as_places as_bytes 20 gs
image_puts header gs image are has =
    groups_here header.format image (header_of header) (has.gate ∷ has.rest) 20 gs are refl (has.bytes ∙ append_assoc (header_of header) (flat_map group_of (map body_bytes gs)) (has.gate ∷ has.rest))

-- so they make of places what they make of bytes
pub places_are_bytes : (header : Header) (gs : List Group) (image : List ℕ) → AllByRecursion (IsGroup header.format) gs → HasGroups header (map body_bytes gs) image
    → made_all 0 as_bytes 20 [] gs ≡ option_map (recelled_store (byte_of image)) (made_all None as_places 20 [] gs)
places_are_bytes header gs image are has = made_all-cells (byte_of image) None as_places as_bytes 20 [] gs (image_puts header gs image are has)

pub places_stand : PlacesAreBytes
places_stand image places stands = record {
  header = stands.header;
  groups = stands.groups;
  has = stands.has;
  makes = record {
    lawful = stands.makes.lawful;
    made = places_are_bytes stands.header stands.groups image stands.makes.lawful stands.has ∙ ap (λ (o : Option (Store (Option ℕ))). option_map (recelled_store (byte_of image)) o) stands.makes.made;
  };
}

pub bytes_stand : BytesHavePlaces
bytes_stand image store stands =
    one (made_all None as_places 20 [] stands.groups) refl (sym (places_are_bytes stands.header stands.groups image stands.makes.lawful stands.has) ∙ stands.makes.made)
  where
    one : (o : Option (Store (Option ℕ))) → made_all None as_places 20 [] stands.groups ≡ o → option_map (recelled_store (byte_of image)) o ≡ Some store
        → (places : Store (Option ℕ)) × Stands None as_places image places × (store ≡ recelled_store (byte_of image) places)
    one None m q = cc
    one (Some places) m q = (places, record { header = stands.header; groups = stands.groups; has = stands.has; makes = record { lawful = stands.makes.lawful; made = m } }, sym (same_inside q))
