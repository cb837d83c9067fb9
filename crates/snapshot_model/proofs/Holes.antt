-- The store that an image stands for with its holes, over bytes and over places.
use Rattle.std.specs.Prelude.{◌≡◌, ℕ, ◌+◌, List, [], ◌∷◌, map, length, get_or, Option, None, Some}
use Rattle.std.specs.List.{range_with_len}
use Rattle.std.specs.Option.{option_map}
use Rattle.std.proofs.Common.{refl, sym, ap, ◌∙◌}
use Rattle.send_model.specs.Command.{Command}
use Rattle.send_model.specs.Spelling.{attributes_of, canonical}
use Rattle.send_model.specs.Reading.{data_place}
use Rattle.send_model.specs.Receive.{bytes_of}
use Rattle.send_model.specs.Store.{Store}
use Rattle.send_model.specs.Cells.{recelled_store}
use Rattle.store_model.specs.Stored.{Content, Mark, Body, Drop, Group, body_bytes, as_bytes, as_places, frames_at, body_at, first_gate, made_all}
use Rattle.store_model.specs.Stored as stored
use Rattle.snapshot_model.specs.Listing.{byte_of, held}
use Rattle.snapshot_model.specs.HeldStores.{as_held, StandsHeld, held_at}
use Rattle.snapshot_model.specs.StoredLaws.{HeldAreBytes, BytesAreHeld, PlacesAreHeld, ImageIsOneHeld}
use Rattle.send_model.proofs.Sorts.{same_inside}
use Rattle.store_model.proofs.CellRuns.{ArePutSame, PutsSame, AllPutSame, made_all-cells, all_put_same}
use Rattle.store_model.proofs.PlacedBytes.{image_puts}
use Rattle.store_model.proofs.OneStore.{one_store}
use Rattle.snapshot_model.proofs.SentReceived.{held_bytes}

-- ---- bytes

same_put : (place : ℕ) (bytes : List ℕ) → map byte_of (as_held place bytes) ≡ as_bytes place bytes
same_put place bytes = held_bytes bytes

over_bytes : (groups : List Group) → made_all 0 as_bytes first_gate [] groups ≡ option_map (recelled_store byte_of) (made_all None as_held first_gate [] groups)
over_bytes groups = made_all-cells byte_of None as_held as_bytes first_gate [] groups (all_put_same byte_of None as_held as_bytes same_put first_gate groups)

pub held_are_bytes : HeldAreBytes
held_are_bytes image store stands = record {
  header = stands.header;
  groups = stands.groups;
  has = stands.has;
  makes = record { lawful = stands.makes.lawful; made = over_bytes stands.groups ∙ ap (λ (o : Option (Store (Option ℕ))). option_map (recelled_store byte_of) o) stands.makes.made };
}

pub bytes_are_held : BytesAreHeld
bytes_are_held image store stands = one (made_all None as_held first_gate [] stands.groups) refl (sym (over_bytes stands.groups) ∙ stands.makes.made)
  where
    one : (o : Option (Store (Option ℕ))) → made_all None as_held first_gate [] stands.groups ≡ o → option_map (recelled_store byte_of) o ≡ Some store
        → (holes : Store (Option ℕ)) × StandsHeld image holes × (store ≡ recelled_store byte_of holes)
    one None m q = cc
    one (Some holes) m q = (holes, record { header = stands.header; groups = stands.groups; has = stands.has; makes = record { lawful = stands.makes.lawful; made = m } }, sym (same_inside q))

pub image_is_one_held : ImageIsOneHeld
image_is_one_held image s t left right = one_store None as_held image s t left right

-- ---- places

module _ (image : List ℕ) where
  -- Cells that are all places, as the bytes there.
  places_held : (places : List ℕ) → map (held_at image) (map (λ p. Some p) places) ≡ held (map (stored.byte_of image) (map (λ p. Some p) places))
  places_held [] = refl
  places_held (p ∷ places) = ap (λ (cells : List (Option ℕ)). Some (get_or image p 0) ∷ cells) (places_held places)

  as_map : (place : ℕ) (ks : List ℕ) → map (λ k. Some (place + k)) ks ≡ map (λ p. Some p) (map (λ k. place + k) ks)
  as_map place [] = refl
  as_map place (k ∷ ks) = ap (λ (cells : List (Option ℕ)). Some (place + k) ∷ cells) (as_map place ks)

  put_held : (place : ℕ) (bytes : List ℕ) → map (stored.byte_of image) (as_places place bytes) ≡ bytes → map (held_at image) (as_places place bytes) ≡ as_held place bytes
  put_held place bytes same =
      let places : List ℕ = map (λ k. place + k) (range_with_len 0 (length bytes)) in
      let are : as_places place bytes ≡ map (λ p. Some p) places = as_map place (range_with_len 0 (length bytes)) in
      ap (map (held_at image)) are ∙ places_held places ∙ ap held (ap (map (stored.byte_of image)) (sym are) ∙ same)

  edits_held : (version place : ℕ) (cs : List Command) → ArePutSame (stored.byte_of image) None as_places as_bytes version place cs → ArePutSame (held_at image) None as_places as_held version place cs
  edits_held version place [] same = tt
  edits_held version place (c ∷ cs) same = (put_held (data_place version place (attributes_of c)) (bytes_of c) same.0, edits_held version (place + length (canonical version c)) cs same.1)

  content_held : (place : ℕ) (content : Content) → PutsSame (stored.byte_of image) None as_places as_bytes place content → PutsSame (held_at image) None as_places as_held place content
  content_held place (Mark head) same = tt
  content_held place (Body uuid version cs) same = edits_held version (frames_at place) cs same
  content_held place (Drop name) same = tt

  groups_held : (gate : ℕ) (groups : List Group) → AllPutSame (stored.byte_of image) None as_places as_bytes gate groups → AllPutSame (held_at image) None as_places as_held gate groups
  groups_held gate [] same = tt
  groups_held gate (g ∷ groups) same = (content_held (body_at gate) g.content same.0, groups_held (body_at gate + length (body_bytes g)) groups same.1)

pub places_are_held : PlacesAreHeld
places_are_held image places stands = record {
  header = stands.header;
  groups = stands.groups;
  has = stands.has;
  makes = record {
    lawful = stands.makes.lawful;
    made = made_all-cells (held_at image) None as_places as_held first_gate [] stands.groups
        (groups_held image first_gate stands.groups (image_puts stands.header stands.groups image stands.makes.lawful stands.has))
        ∙ ap (λ (o : Option (Store (Option ℕ))). option_map (recelled_store (held_at image)) o) stands.makes.made;
  };
}
