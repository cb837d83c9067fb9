-- What is found of one group, by the places of its bytes.
use Rattle.std.specs.Prelude.{◌≡◌, ℕ, ◌+◌, ◌-◌, ◌<◌, ◌≤◌, Bool, true, false, List, ◌++◌, length, take, drop, get_or}
use Rattle.std.specs.Int.{w32, to_le_bytes, from_le_bytes}
use Rattle.std.proofs.Common.{sym, ap, subst, ◌∙◌, arith}
use Rattle.send_model.specs.Checksum.{crc_of}
use Rattle.store_model.specs.Scrub.{IsNone}
use Rattle.group_log.specs.declared.stops.LogStop.TheVariants.{DiskFault, NotStore, LogFull, StoreThere}
use Rattle.store_scrub.specs.declared.kinds.GroupKind.{GroupKind}
use Rattle.store_scrub.specs.declared.stops.ScrubStop.{ScrubStop}
use Rattle.store_scrub.specs.declared.stops.ScrubStop.TheVariants.{Log, Damaged}
use Rattle.store_scrub.specs.Numbers.{Names}
use Rattle.store_scrub.specs.Found.{IsPlainOrSealed, IsStop, IsOther, IsBodyStop}
use Rattle.store_scrub.proofs.Bodies.{too_short, plain_whole, sealed_whole, sealed_damaged}
use Rattle.store_scrub.proofs.Sums.{body, body_size, seal_is, first_is, body_sum}

-- A group at a place of which some bytes were read, whose first byte names a kind.
module _ (format : ℕ) (seen : List ℕ) (at len : ℕ) (within : at + len ≤ length seen) (some : 0 < len) (buffer other : List ℕ) (read : buffer ≡ take (length buffer) (drop at seen)) (first : 1 ≤ length buffer)
    (said : ℕ) (same : said ≡ format) (kind : GroupKind) (is_sealed : Bool) (names : Names said (get_or (buffer ++ other) 0 0) kind is_sealed) where
  named : (s : Bool) → is_sealed ≡ s → Names format (get_or (body seen at len within) 0 0) kind s
  named s e =
      subst (λ (b : Bool). Names format (get_or (body seen at len within) 0 0) kind b) e
      (subst (λ (f : ℕ). Names f (get_or (body seen at len within) 0 0) kind is_sealed) same
      (subst (λ (n : ℕ). Names said n kind is_sealed) (first_is seen at len within buffer other read first some) names))

  pub plain_found : is_sealed ≡ false → IsPlainOrSealed format (take len (drop at seen)) false
  plain_found e = plain_whole format (body seen at len within) kind (omega (arith, body_size seen at len within, some)) (named false e)

  pub short_found : is_sealed ≡ true → len ≤ 4 → IsNone format (take len (drop at seen))
  short_found e short = too_short format (body seen at len within) kind (named true e) (omega (arith, body_size seen at len within, short))

  -- what stands behind what was read was summed from the checksum of that on
  module _ (e : is_sealed ≡ true) (long : 4 < len) (now : List ℕ) (kept : now ≡ seen) (sum begun end : ℕ) (sum_is : sum ≡ crc_of 0 buffer) (begun_is : begun ≡ at + length buffer) (end_is : end ≡ at + len - 4) (fits : begun ≤ end) where
    seal_there : take 4 (drop end now) ≡ drop (len - 4) (body seen at len within)
    seal_there = ap (λ (l : List ℕ). take 4 (drop end l)) kept ∙ seal_is seen at len within end end_is long

    sum_there : crc_of sum (take (end - begun) (drop begun now)) ≡ crc_of 0 (take (len - 4) (body seen at len within))
    sum_there = ap (λ (l : List ℕ). crc_of sum (take (end - begun) (drop begun l))) kept ∙ body_sum seen at len within buffer sum begun end read begun_is end_is fits long sum_is

    pub sealed_found : take 4 (drop end now) ≡ to_le_bytes w32 (crc_of sum (take (end - begun) (drop begun now))) → IsPlainOrSealed format (take len (drop at seen)) true
    sealed_found right = sealed_whole format (body seen at len within) kind len (body_size seen at len within) long (named true e) (sym seal_there ∙ right ∙ ap (λ (n : ℕ). to_le_bytes w32 n) sum_there)

    pub stop_found : (cause : Type 0) (number : ℕ) (why : ScrubStop) → IsStop cause why → IsOther number (take 4 (drop end now)) (crc_of sum (take (end - begun) (drop begun now))) why → IsBodyStop format (take len (drop at seen)) number why
    stop_found cause number (Log DiskFault) stop is = tt
    stop_found cause number (Log (NotStore group)) stop is = absurd is
    stop_found cause number (Log (LogFull full wanted limit)) stop is = is
    stop_found cause number (Log (StoreThere size)) stop is = is
    stop_found cause number (Damaged group stored computed) stop is = (
      is.0,
      sealed_damaged format (body seen at len within) kind len (body_size seen at len within) long (named true e) stored computed (is.1 ∙ ap (λ (l : List ℕ). from_le_bytes w32 l) seal_there) (is.2 ∙ sum_there) stop,
    )
