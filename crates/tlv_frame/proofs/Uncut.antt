-- Headers and checksums are never refused as cut short where their bytes are there.
use Rattle.std.specs.Prelude.{◌≡◌, ℕ, ◌≤◌, Bool, true, false, List, length, take, drop, Option, None, Some, Result, Ok, Err, nat_le}
use Rattle.std.specs.Str.{bytes_eq}
use Rattle.std.proofs.Common.{refl, sym, subst, le-leb}
use Rattle.send_model.specs.Refusal.{Refusal, BadMagic, BadVersion, Truncated}
use Rattle.send_model.specs.Chain.{◌>>=◌, ◌>>◌, require, refuse_if, found}
use Rattle.send_model.specs.Spelling.{magic}
use Rattle.send_model.specs.Reading.{stream_version, header_len, number32, is_version}
use Rattle.send_model.specs.Lengths.{is_truncated}
use Rattle.tlv_frame.specs.Frame.{Head, head_at, checksum_holds}

-- A result is no refusal as cut short.
unfoldable pub IsUncut : {A : Type 0} → Result A Refusal → Type 0
IsUncut (Ok x) = Unit {0}
IsUncut (Err refusal) = is_truncated refusal ≡ false

pub uncut_bind : {A B : Type 0} (r : Result A Refusal) (k : A → Result B Refusal) → IsUncut r → ((x : A) → IsUncut (k x)) → IsUncut (r >>= k)
unfolding IsUncut
uncut_bind (Ok x) k u v = v x
uncut_bind (Err refusal) k u v = u

pub uncut_then : {B : Type 0} (t : Result (Unit {0}) Refusal) (rest : Result B Refusal) → IsUncut t → IsUncut rest → IsUncut (t >> rest)
unfolding IsUncut
uncut_then (Ok x) rest u v = v
uncut_then (Err refusal) rest u v = u

pub uncut_require : (b : Bool) (refusal : Refusal) → is_truncated refusal ≡ false → IsUncut (require b refusal)
unfolding IsUncut
uncut_require true refusal u = tt
uncut_require false refusal u = u

pub uncut_refuse : (b : Bool) (refusal : Refusal) → is_truncated refusal ≡ false → IsUncut (refuse_if b refusal)
unfolding IsUncut
uncut_refuse true refusal u = u
uncut_refuse false refusal u = tt

pub uncut_found : {A : Type 0} (o : Option A) (refusal : Refusal) → is_truncated refusal ≡ false → IsUncut (found o refusal)
unfolding IsUncut
uncut_found None refusal u = u
uncut_found (Some x) refusal u = tt

pub uncut_ok : {A : Type 0} (x : A) → IsUncut (Ok x)
unfolding IsUncut
uncut_ok x = tt

pub uncut_err : (A : Type 0) (refusal : Refusal) → is_truncated refusal ≡ false → IsUncut {A = A} (Err refusal)
unfolding IsUncut
uncut_err A refusal u = u

pub uncut_is : {A : Type 0} (r : Result A Refusal) (refusal : Refusal) → r ≡ Err refusal → IsUncut r → is_truncated refusal ≡ false
unfolding IsUncut
uncut_is {A} r refusal e u = let U : Result A Refusal → Type 0 = λ x. elim x [ Ok y ↦ Unit {0} | Err kept ↦ is_truncated kept ≡ false ] in subst U e u

version_uncut : (bytes : List ℕ) → 17 ≤ length bytes → IsUncut (stream_version bytes)
unfolding stream_version
version_uncut bytes long =
    let version : ℕ = number32 (drop 13 bytes) in
    let there : nat_le header_len (length bytes) ≡ true = le-leb _ _ long in
    let R : Bool → Type 0 = λ b. IsUncut (require b Truncated) in
    uncut_then _ _ (subst R (sym there) (uncut_ok tt))
    (uncut_then _ _ (uncut_require (bytes_eq (take 13 bytes) magic) BadMagic refl) (uncut_then _ _ (uncut_require (is_version version) (BadVersion version) refl) (uncut_ok version)))

-- The header of a stream.
pub header_uncut : (bytes : List ℕ) (refusal : Refusal) → 17 ≤ length bytes → stream_version bytes ≡ Err refusal → is_truncated refusal ≡ false
header_uncut bytes refusal long e = uncut_is _ refusal e (version_uncut bytes long)

-- The header of a frame.
pub head_uncut : (bytes : List ℕ) (refusal : Refusal) → head_at bytes ≡ Err refusal → is_truncated refusal ≡ false
unfolding head_at
head_uncut bytes refusal e = uncut_is _ refusal e (uncut_then _ _ (uncut_refuse _ _ refl) (uncut_ok _))

-- The checksum.
pub checksum_uncut : (head : Head) (body : List ℕ) (refusal : Refusal) → checksum_holds head body ≡ Err refusal → is_truncated refusal ≡ false
unfolding checksum_holds
checksum_uncut head body refusal e = uncut_is _ refusal e (uncut_require _ _ refl)
