-- What the bytes of a log are after each write, and which groups an image has that a crash leaves.
use Rattle.std.proofs.Common.{◌≡◌, ◌≢◌, ◌⊎◌, inl, inr, ℕ, ◌+◌, List, [], ◌∷◌, ◌++◌, length, drop, flat_map, refl, sym, ◌∙◌, ap, subst, arith, length-append, append_assoc}
use Rattle.std.specs.List.{AllByRecursion}
use Rattle.std.specs.Int.{w64, to_le_bytes}
use Rattle.std.proofs.lemmas.Bool.{cases_eq}
use Rattle.std.proofs.lemmas.List.{append-nil, take_all, drop_all, take_at, drop_at}
use Rattle.sx_base.specs.Disk.{Pending, IsImage, written, settled}
use Rattle.sx_base.specs.Bytes.{put_at}
use Rattle.sx_base.specs.Crash.{IsStableFront}
use Rattle.sx_base.proofs.DiskImages.{settled_front, image_front, image_byte, only_settled}
use Rattle.store_model.specs.Image.{Header, HasGroups, header_of, front_of, group_of, IsShort}
use Rattle.store_model.proofs.OneJournal.{length-le}
use Rattle.group_log.specs.State.{LogState}
use Rattle.group_log.specs.Journal.{IsBehind, Rests, Grows, IsReady}

-- bytes in the place of as many others
pub put_at_front : (front old new rest : List ℕ) → length new ≡ length old → put_at (length front) new (front ++ (old ++ rest)) ≡ front ++ (new ++ rest)
put_at_front front old new rest same =
    let size : length (front ++ old) ≡ length front + length new = omega (arith, length-append front old, same) in
    ap (λ (l : List ℕ). l ++ new ++ drop (length front + length new) (front ++ (old ++ rest))) (take_at front (old ++ rest) (length front) refl)
    ∙ ap (λ (l : List ℕ). front ++ new ++ l) (ap (λ (l : List ℕ). drop (length front + length new) l) (sym (append_assoc front old rest)) ∙ drop_at (front ++ old) rest (length front + length new) size)
    ∙ append_assoc front new rest

-- bytes behind the end
pub put_at_end : (at : ℕ) (bytes piece : List ℕ) → at ≡ length bytes → put_at at piece bytes ≡ bytes ++ piece
put_at_end at bytes piece end =
    ap (λ (l : List ℕ). l ++ piece ++ drop (at + length piece) bytes) (take_all at bytes (omega (arith, end)))
    ∙ ap (λ (l : List ℕ). bytes ++ piece ++ l) (drop_all (at + length piece) bytes (omega (arith, end)))
    ∙ append-nil (bytes ++ piece)

flat_map-push : (bodies : List (List ℕ)) (body : List ℕ) → flat_map group_of (bodies ++ body ∷ []) ≡ flat_map group_of bodies ++ group_of body
flat_map-push [] body = append-nil (group_of body)
flat_map-push (b ∷ bodies) body = ap (λ (l : List ℕ). group_of b ++ l) (flat_map-push bodies body) ∙ sym (append_assoc (group_of b) (flat_map group_of bodies) (group_of body))

-- one group more
pub front_push : (header : Header) (bodies : List (List ℕ)) (body : List ℕ) → front_of header (bodies ++ body ∷ []) ≡ front_of header bodies ++ group_of body
front_push header bodies body =
    ap (λ (l : List ℕ). header_of header ++ l) (flat_map-push bodies body) ∙ sym (append_assoc (header_of header) (flat_map group_of bodies) (group_of body))

pub fits_push : (bodies : List (List ℕ)) (body : List ℕ) → AllByRecursion IsShort bodies → IsShort body → AllByRecursion IsShort (bodies ++ body ∷ [])
fits_push [] body fits short = (short, tt)
fits_push (b ∷ bodies) body fits short = (fits.0, fits_push bodies body fits.1 short)

pub length-bodies : (bodies : List (List ℕ)) (body : List ℕ) → length (bodies ++ body ∷ []) ≡ length bodies + 1
length-bodies bodies body = length-append bodies (body ∷ [])

pub length-group : (body : List ℕ) → length (group_of body) ≡ 9 + length body
length-group body = omega (arith, length-append (1 ∷ to_le_bytes w64 (length body)) body, length-le (length body))

-- an image with a closed gate behind the groups has these groups
pub has_closed : (header : Header) (bodies : List (List ℕ)) (log : LogState) (gate : ℕ) (rest image : List ℕ) → IsBehind header bodies log → gate ≢ 1 → image ≡ front_of header bodies ++ gate ∷ rest → HasGroups header bodies image
has_closed header bodies log gate rest image behind closed is =
    record { gate = gate; rest = rest; closed = closed; bytes = is; lawful = behind.lawful; lengths_fit = behind.lengths_fit }

-- while the closed gate is stable, each image has the groups before it
pub stable_has : (header : Header) (bodies : List (List ℕ)) (log : LogState) (gate : ℕ) (pending : Pending) (image : List ℕ) → IsBehind header bodies log → gate ≢ 1 → IsStableFront (front_of header bodies ++ gate ∷ []) pending → IsImage pending image → HasGroups header bodies image
stable_has header bodies log gate pending image behind closed stable is =
    let s = image_front (front_of header bodies ++ gate ∷ []) pending image stable is in
    has_closed header bodies log gate s.rest image behind closed (s.split ∙ append_assoc (front_of header bodies) (gate ∷ []) s.rest)

-- so each image that a crash may leave has these groups, at rest and while a group is in progress
pub rests_has : (header : Header) (bodies : List (List ℕ)) (log : LogState) (seen : List ℕ) (pending : Pending) → Rests header bodies log seen pending → (image : List ℕ) → IsImage pending image → HasGroups header bodies image
rests_has header bodies log seen pending rests image = stable_has header bodies log rests.gate pending image rests.behind rests.closed rests.stable

pub grows_has : (header : Header) (bodies : List (List ℕ)) (body : List ℕ) (log : LogState) (seen : List ℕ) (pending : Pending) → Grows header bodies body log seen pending → (image : List ℕ) → IsImage pending image → HasGroups header bodies image
grows_has header bodies body log seen pending grows image = stable_has header bodies log grows.gate pending image grows.behind grows.closed grows.stable

-- a group that stands whole behind its gate
module _ (header : Header) (bodies : List (List ℕ)) (body : List ℕ) (log : LogState) (seen : List ℕ) (pending : Pending) (ready : IsReady header bodies body log seen pending) where
  abbrev tail : List ℕ
  tail = to_le_bytes w64 (length body) ++ body ++ 0 ∷ []

  abbrev BeforeOrAfter : List ℕ → Type 0
  BeforeOrAfter image = HasGroups header bodies image ⊎ HasGroups header (bodies ++ body ∷ []) image

  pub opened : front_of header bodies ++ 1 ∷ tail ≡ front_of header (bodies ++ body ∷ []) ++ 0 ∷ []
  opened =
      sym (append_assoc (front_of header bodies) (group_of body) (0 ∷ []))
      ∙ ap (λ (l : List ℕ). l ++ 0 ∷ []) (sym (front_push header bodies body))

  after : (image : List ℕ) → image ≡ front_of header bodies ++ 1 ∷ tail → HasGroups header (bodies ++ body ∷ []) image
  after image is = record {
    gate = 0;
    rest = [];
    closed = omega arith;
    bytes = is ∙ opened;
    lawful = ready.behind.lawful;
    lengths_fit = fits_push bodies body ready.behind.lengths_fit ready.short;
  }

  any_gate : (byte : ℕ) (image : List ℕ) → image ≡ front_of header bodies ++ byte ∷ tail → BeforeOrAfter image
  any_gate byte image is = elim (cases_eq byte 1) [
    | inl open_gate ↦ inr (after image (is ∙ ap (λ (b : ℕ). front_of header bodies ++ b ∷ tail) open_gate))
    | inr shut ↦ inl (has_closed header bodies log byte tail image ready.behind shut is)
  ]

  pub ready_has : (image : List ℕ) → IsImage pending image → BeforeOrAfter image
  ready_has image is =
      let whole : image ≡ seen = only_settled seen image (subst (λ (p : Pending). IsImage p image) ready.stable is) in
      inl (has_closed header bodies log ready.gate tail image ready.behind ready.closed (whole ∙ ready.bytes))

  pub opening_has : (now : Pending) → now ≡ written log.gate 1 pending → (image : List ℕ) → IsImage now image → BeforeOrAfter image
  opening_has now is image i =
      let known : now ≡ written (length (front_of header bodies)) 1 (settled (front_of header bodies ++ ready.gate ∷ tail)) =
      is ∙ ap (λ (p : Pending). written log.gate 1 p) (ready.stable ∙ ap settled ready.bytes)
      ∙ ap (λ (n : ℕ). written n 1 (settled (front_of header bodies ++ ready.gate ∷ tail))) ready.behind.place in
      let any = image_byte (front_of header bodies) ready.gate tail image (subst (λ (p : Pending). IsImage p image) known i) in
      any_gate any.byte image any.split

  pub open_is : (now : List ℕ) → now ≡ put_at log.gate (1 ∷ []) seen → now ≡ front_of header bodies ++ 1 ∷ tail
  open_is now is =
      is ∙ ap (λ (l : List ℕ). put_at log.gate (1 ∷ []) l) ready.bytes
      ∙ ap (λ (n : ℕ). put_at n (1 ∷ []) (front_of header bodies ++ ready.gate ∷ tail)) ready.behind.place
      ∙ put_at_front (front_of header bodies) (ready.gate ∷ []) (1 ∷ []) tail refl

  pub open_has : (now : List ℕ) → now ≡ put_at log.gate (1 ∷ []) seen → (image : List ℕ) → IsImage (settled now) image → BeforeOrAfter image
  open_has now is image i = inr (after image (only_settled now image i ∙ open_is now is))

  pub published_rests : (new : LogState) (now : List ℕ) (known : Pending) → new.gate ≡ log.gate + 9 + length body → new.groups ≡ log.groups + 1 → new.format ≡ log.format → new.limit ≡ log.limit → now ≡ put_at log.gate (1 ∷ []) seen → known ≡ settled now → Rests header (bodies ++ body ∷ []) new now known
  published_rests new now known place count format limit is stable =
      let front = front_of header (bodies ++ body ∷ []) in
      let size : length front ≡ length (front_of header bodies) + (9 + length body) = ap length (front_push header bodies body) ∙ length-append (front_of header bodies) (group_of body) ∙ ap (λ (n : ℕ). length (front_of header bodies) + n) (length-group body) in
      let bytes : now ≡ front ++ 0 ∷ [] = open_is now is ∙ opened in
      record {
        behind = record {
          place = omega (arith, place, ready.behind.place, size);
          count = omega (arith, count, ready.behind.count, length-bodies bodies body);
          format = format ∙ ready.behind.format;
          limit = limit ∙ ready.behind.limit;
          lawful = ready.behind.lawful;
          lengths_fit = fits_push bodies body ready.behind.lengths_fit ready.short;
        };
        gate = 0;
        closed = omega arith;
        rest = [];
        bytes = bytes;
        stable = subst (λ (p : Pending). IsStableFront (front ++ 0 ∷ []) p) (sym stable) (settled_front (front ++ 0 ∷ []) [] now (bytes ∙ sym (append-nil (front ++ 0 ∷ []))));
      }

  -- how long the disk is
  pub length-ready : length seen ≡ log.gate + 10 + length body
  length-ready =
      omega (arith, ap length ready.bytes, length-append (front_of header bodies) (ready.gate ∷ tail), length-append (to_le_bytes w64 (length body) ++ body) (0 ∷ []), length-append (to_le_bytes w64 (length body)) body, length-le (length body), ready.behind.place)
