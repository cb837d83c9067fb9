-- The next frame of those that a window shows.
use Rattle.std.specs.Prelude.{◌≡◌, ◌⊎◌, ℕ, ◌+◌, ◌-◌, ◌<◌, ◌≤◌, List, length, take, drop, min, Option, None}
use Rattle.std.proofs.Common.{inl, inr, sym, ap, subst, ◌∙◌, arith, length-drop, length-take, take-take, drop-drop}
use Rattle.std.proofs.lemmas.List.{drop-take}
use Rattle.send_model.specs.Checksum.{crc_of}
use Rattle.send_model.specs.Command.{row, kind_of}
use Rattle.send_model.specs.Spelling.{canonical, body_of, attributes_of}
use Rattle.send_model.specs.Store.{State}
use Rattle.group_replay.specs.declared.place.Place.{Place}
use Rattle.group_replay.specs.declared.window.Ahead.{Ahead}
use Rattle.group_replay.specs.declared.body.Frames.{Frames}
use Rattle.group_replay.specs.Aheads.{greatest_frame, IsAhead, IsFilled, Shows, GoesPast}
use Rattle.group_replay.specs.Edits.{AreEdits, AreBadEdits, TookFront, TakesFront}
use Rattle.group_replay.specs.Bodies.{frames_from, TookShown}
use Rattle.group_replay.specs.Sums.{IsSummed}
use Rattle.group_replay.proofs.EditRuns.{front_len, front_bad, front_taken}

abbrev pub past_len : Ahead → ℕ → ℕ → Ahead
past_len ahead len sum = record { at = ahead.at + len; used = ahead.used + len; have = ahead.have; sum = sum }

module _ (frames : Frames) (ahead : Ahead) (window : List ℕ) (s u : State (Option Place)) (count : ℕ) (few : count ≡ min (frames.end - ahead.at) (ahead.have - ahead.used)) (is : IsAhead frames.stop (length window) ahead) (begun : ahead.at < frames.end) (ends : frames.end ≤ frames.stop) where
  -- the bytes of frames in the window
  abbrev bytes : List ℕ
  bytes = take (ahead.used + count - ahead.used) (drop ahead.used window)

  plain : bytes ≡ take count (drop ahead.used window)
  plain = ap (λ (n : ℕ). take n (drop ahead.used window)) (let e : ahead.used + count - ahead.used ≡ count = omega arith in e)

  size : length bytes ≡ count
  size = ap length plain ∙ length-take count (drop ahead.used window) ∙ omega (arith, few, is.begun, is.fits, length-drop ahead.used window)

  known : (seen : List ℕ) → Shows seen window ahead → bytes ≡ take count (drop ahead.at seen)
  known seen shows =
      let less : count ≤ ahead.have - ahead.used = omega (arith, few) in
      plain ∙ sym (take-take count (ahead.have - ahead.used) (drop ahead.used window) less) ∙ ap (take count) shows ∙ take-take count (ahead.have - ahead.used) (drop ahead.at seen) less

  module _ (len sum : ℕ) (took : TookFront frames.version ahead.at bytes s u len) where
    short : len ≤ count
    short = let within = took.front.within in omega (arith, within, size)

    -- the frame has its own checksum
    pub summed : IsSummed (take len bytes)
    unfolding canonical
    summed = record {
      number = (row (kind_of took.command)).number;
      body = body_of frames.version (attributes_of took.command);
      short = took.front.spellable.short;
      spelled = took.front.spelled;
    }

    pub goes_past : GoesPast frames.end frames.stop (length window) ahead (past_len ahead len sum)
    goes_past =
        let ten = (front_len frames.version bytes took.command len took.front).1 in
        record {
          later = omega (arith, ten);
          within = omega (arith, short, few, begun);
          ahead = record {
            begun = omega (arith, short, few, is.begun);
            fits = is.fits;
            within = omega (arith, short, few, is.within, is.begun);
            room = subst (λ (n : ℕ). (frames.stop ≤ n) ⊎ (524_288 ≤ length window)) (let e : ahead.at + (ahead.have - ahead.used) ≡ ahead.at + len + (ahead.have - (ahead.used + len)) = omega (arith, short, few, is.begun) in e) is.room;
          };
        }

    pub took_shown : (seen : List ℕ) → Shows seen window ahead → sum ≡ crc_of ahead.sum (take len bytes) → TookShown frames.version ahead (past_len ahead len sum) (record { seen = seen; window = window }) s u
    took_shown seen shows sum_is =
        let left : ℕ = ahead.have - (ahead.used + len) in
        let all : len + left ≡ ahead.have - ahead.used = omega (arith, short, few, is.begun) in
        let step : ahead.at + len - ahead.at ≡ len = omega arith in
        let frame : take len (drop ahead.at seen) ≡ take (ahead.at + len - ahead.at) (drop ahead.at seen) = ap (λ (n : ℕ). take n (drop ahead.at seen)) (sym step) in
        let behind : (l : List ℕ) → take left (drop len l) ≡ drop len (take (ahead.have - ahead.used) l) = λ l. sym (drop-take len left l) ∙ ap (λ (n : ℕ). drop len (take n l)) all in
        record {
          shows = ap (take left) (sym (drop-drop len ahead.used window)) ∙ behind (drop ahead.used window) ∙ ap (drop len) shows ∙ sym (behind (drop ahead.at seen)) ∙ ap (take left) (drop-drop len ahead.at seen);
          edits = subst (λ (l : List ℕ). AreEdits frames.version ahead.at l s u) frame
              (front_taken frames.version ahead.at count len (drop ahead.at seen) s u short (subst (λ (l : List ℕ). TookFront frames.version ahead.at l s u len) (known seen shows) took));
          sum = sum_is ∙ ap (crc_of ahead.sum) (ap (take len) (known seen shows) ∙ take-take len count (drop ahead.at seen) short ∙ frame);
        }

  pub shown_bad : (seen : List ℕ) → Shows seen window ahead → IsFilled frames.stop ahead → TakesFront frames.version ahead.at bytes s u None → AreBadEdits frames.version ahead.at (frames_from frames ahead.at seen) s
  shown_bad seen shows filled bad =
      let there : length (take count (drop ahead.at seen)) ≡ count = ap length (sym (known seen shows)) ∙ size in
      let some : 0 < count = elim filled [ inl all ↦ omega (arith, all, few, begun, ends) | inr much ↦ omega (arith, much, few, begun) ] in
      let long : count < frames.end - ahead.at → greatest_frame ≤ count = λ less. elim filled [ inl all ↦ omega (arith, all, few, less, ends) | inr much ↦ omega (arith, much, few, less) ] in
      front_bad frames.version ahead.at count (frames.end - ahead.at) (drop ahead.at seen) s (omega (arith, few)) u
      (omega (arith, some, there))
      (λ less. subst (λ (n : ℕ). greatest_frame ≤ n) (sym there) (long less))
      (subst (λ (l : List ℕ). TakesFront frames.version ahead.at l s u None) (known seen shows) bad)
