-- Exporting one command: each of its ends.
use Rattle.std.specs.Prelude.{◌≡◌, ℕ, ◌≤◌, Bool, List, [], ◌++◌, length, take, Option, Result, Ok, Err}
use Rattle.std.proofs.Common.{sym, ap, subst, ◌∙◌, append-nil, arith}
use Rattle.std.proofs.KnownBytes.{Appends-nil}
use Rattle.send_model.specs.Reading.{Item}
use Rattle.send_model.specs.Receive.{verdict_of}
use Rattle.send_model.specs.Counts.{is_end}
use Rattle.send_model.specs.Exported.{Exporting}
use Rattle.send_model.specs.Separated.{IsSmall}
use Rattle.sx_base.specs.Refusals.{refusal_of, verdict_meant}
use Rattle.sx_base.specs.declared.refusal.Refusal.{Refusal}
use Rattle.sx_base.specs.declared.outcome.Verdict.{Verdict}
use Rattle.sx_base.specs.declared.outcome.Outcome.{Outcome}
use Rattle.sx_base.specs.declared.stop.Stop.{Stop}
use Rattle.sx_base.specs.declared.stop.Stop.TheVariants as why
use Rattle.stream_dump.specs.declared.gathering.Gathered.{Gathered}
use Rattle.stream_dump.proofs.Unpacked.{Sends}
use Rattle.stream_export.specs.Exporting.{Blank, Point}
use Rattle.stream_export.specs.Steps.{Passes, OneTaken, IsRefused, bytes_at}
use Rattle.stream_export.proofs.Unpacked.{Takes, ItemEnds}
use Rattle.stream_export.proofs.Going.{passes_none}

module _ (old new : Exporting Blank) (begins : Bool) (item : Item) (bytes_old bytes_new : List ℕ) (result : Result (Unit {0}) Stop) (takes : Takes old new begins item bytes_old bytes_new result) where
  -- It is refused, and nothing is gathered.
  pub refused_item : (next : Bool) (taken : Option (List ℕ)) (verdict : Verdict) (refusal : Refusal) → result ≡ Err (why.Refused refusal)
      → verdict_meant verdict ≡ verdict_of item (refusal_of refusal)
      → IsRefused (record { now = old; begins = begins }) item verdict × Passes bytes_old bytes_new [] taken taken
  refused_item next taken verdict refusal e v =
      let (stepped, same) = subst (λ (r : Result (Unit {0}) Stop). Takes old new begins item bytes_old bytes_new r) e takes in
      ((refusal_of refusal, stepped, v), subst (λ (b : List ℕ). Passes bytes_old b [] taken taken) (sym same) (passes_none bytes_old taken))

  -- It is taken.
  pub taken_item : (next : Bool) (done : Unit {0}) → result ≡ Ok done → next ≡ is_end item.command → IsSmall old.state.part
      → OneTaken (record { now = old; begins = begins }) (record { now = new; begins = next }) item
      × (bytes_new ≡ bytes_old ++ bytes_at (record { now = old; begins = begins }) item)
  taken_item next done e ends small =
      let (stepped, after, bytes) = subst (λ (r : Result (Unit {0}) Stop). Takes old new begins item bytes_old bytes_new r) e takes in
      (record { stepped = stepped; after = after; begins_is = ends; small = small }, bytes)

-- Its bytes are gathered.
pub gathered_item : (old new : Point) (bytes_old bytes_new : List ℕ) (item : Item) (taken : Option (List ℕ))
    → OneTaken old new item × (bytes_new ≡ bytes_old ++ bytes_at old item)
    → OneTaken old new item × Passes bytes_old bytes_new (bytes_at old item) taken taken
gathered_item old new bytes_old bytes_new item taken (one, bytes) = (one, record { sent = []; appends = Appends-nil taken; bytes_are = bytes })

-- All that is gathered is written, or the output failed in the middle.
pub sent_item : (old : Point) (now : Exporting Blank) (bytes_old : List ℕ) (item : Item) (mid new : Gathered) (taken_old taken_now : Option (List ℕ)) (before after : ℕ) (result : Result (Unit {0}) Outcome)
    → OneTaken old (record { now = now; begins = mid.begins }) item × (mid.bytes ≡ bytes_old ++ bytes_at old item)
    → new.begins ≡ mid.begins → Sends mid new taken_old taken_now before after result
    → ItemEnds old (record { now = now; begins = new.begins }) bytes_old new.bytes item taken_old taken_now before after result
sent_item old now bytes_old item mid new taken_old taken_now before after (Ok done) (one, bytes) same (appends, is) = (
  subst (λ (b : Bool). OneTaken old (record { now = now; begins = b }) item) (sym same) one,
  record {
    sent = mid.bytes;
    appends = appends;
    bytes_are = ap (λ (g : Gathered). mid.bytes ++ g.bytes) is ∙ append-nil mid.bytes ∙ bytes;
  },
)
sent_item old now bytes_old item mid new taken_old taken_now before after (Err outcome) (one, bytes) same (is, rose, (count, less, appends)) =
    subst (λ (o : Outcome). ItemEnds old (record { now = now; begins = new.begins }) bytes_old new.bytes item taken_old taken_now before after (Err o)) (sym is) (
      subst (λ (b : Bool). OneTaken old (record { now = now; begins = b }) item) (sym same) one,
      rose,
      (
        take count mid.bytes,
        appends,
        record {
          count = count;
          within = subst (λ (l : List ℕ). count ≤ length l) bytes (omega (arith, less));
          written_is = ap (λ (l : List ℕ). take count l) bytes;
        },
      ),
    )
