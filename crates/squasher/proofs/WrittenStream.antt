-- The stream as a whole: its header, what stands for the commands before END, and END.
use Rattle.std.specs.Prelude.{◌≡◌, ℕ, ◌+◌, ◌<◌, List, [], ◌∷◌, ◌++◌, length, take, Option, Result, Ok, Err}
use Rattle.std.specs.Io.KnownBytes.{Appends}
use Rattle.std.proofs.Common.{refl, sym, ap, subst, ◌∙◌, arith, append_assoc, length-append}
use Rattle.std.proofs.KnownBytes.{Appends-nil, Appends-trans}
use Rattle.std.proofs.Math.Seq.{take-append-add, take-append-le}
use Rattle.send_model.specs.Command.{Command, End}
use Rattle.send_model.specs.Spelling.{stream_header, canonical, canonical_all}
use Rattle.send_model.specs.Order.{commands_of}
use Rattle.send_model.specs.Store.{Store}
use Rattle.send_model.specs.Due.{Limited}
use Rattle.send_model.specs.Headline.{IsProperFrontOf}
use Rattle.send_model.specs.Overridden.{Override}
use Rattle.send_model.proofs.Streams.{canonical_long}
use Rattle.sx_base.specs.Outside.{AppendsPart}
use Rattle.sx_base.specs.Calls.{Wrote}
use Rattle.sx_base.specs.declared.outcome.Outcome.{Outcome}
use Rattle.sx_base.specs.declared.outcome.Outcome.TheVariants as ended
use Rattle.cmd_reader.specs.Places.{IfTold}
use Rattle.cmd_reader.proofs.Told.{told_map}
use Rattle.clone_pieces.specs.Sending.{GoesOut, AppendsFront, Output, PutEnd, SendEnd}
use Rattle.clone_pieces.specs.Stopping.{outcome_with}
use Rattle.clone_pieces.specs.declared.stops.SendStop.{SendStop}
use Rattle.clone_pieces.specs.declared.stops.SendStop.TheVariants as stop
use Rattle.clone_pieces.proofs.Flow.{part_front, breaks_front}
use Rattle.sx_base.specs.declared.failed.Failed.{Failed}
use Rattle.squash_log.specs.Resolved.{by_fates}
use Rattle.squasher.specs.declared.judging.Judged.{Judged}
use Rattle.squasher.specs.Judging.{read_with}
use Rattle.squasher.specs.Squashing.{IsFound}
use Rattle.squasher.specs.Writing.{output_by, written_by, PartEnds, CommandsEnd, IsOfOutside, EndGoesOut, WriteEnds}
use Rattle.squasher.proofs.Going.{one_canonical, both_canonical}
use Rattle.squasher.proofs.WrittenFile.{written_found, fates_end}

-- ---- END

-- A proper front part behind other bytes.
pub part_behind : (a b c : Option (List ℕ)) (sent piece all : List ℕ) → all ≡ sent ++ piece → Appends a b sent → AppendsPart b c piece → AppendsPart a c all
part_behind a b c sent piece all is appends p = (
  length sent + p.0,
  (let long = ap length is in let less = p.1 in omega (arith, long, length-append sent piece, less)),
  subst (Appends a c) (sym (ap (take (length sent + p.0)) is ∙ take-append-add sent piece p.0)) (Appends-trans a b c sent (take p.0 piece) appends p.2),
)

abbrev pub EndSent : (version : ℕ) (old new : Output) → Result (Unit {0}) Failed → Type 0
EndSent version old new (Ok done) = Appends old.taken new.taken (old.pending ++ canonical version End)
EndSent version old new (Err failed) = AppendsPart old.taken new.taken (old.pending ++ canonical version End)

-- Nothing of it is written.
pub end_none : (version : ℕ) (old : Output) (taken : Option (List ℕ)) → taken ≡ old.taken → AppendsPart old.taken taken (old.pending ++ canonical version End)
end_none version old taken same =
    (0, omega (arith, length-append old.pending (canonical version End), canonical_long version End), subst (λ (t : Option (List ℕ)). Appends old.taken t []) (sym same) (Appends-nil old.taken))

-- What is written of END: first it comes behind what is pending, and then all of it goes out.
pub end_put : (version : ℕ) (old mid new : Output) (r : Result (Unit {0}) Failed) → GoesOut old.taken mid.taken old.pending mid.pending (canonical version End) → SendEnd mid new r
    → EndSent version old new r
end_put version old mid new (Ok done) g s = subst (Appends old.taken new.taken) (sym g.rest) (Appends-trans old.taken mid.taken new.taken g.sent mid.pending g.appends s.1)
end_put version old mid new (Err failed) g s = part_behind old.taken mid.taken new.taken g.sent mid.pending (old.pending ++ canonical version End) g.rest g.appends s.1

-- END did not come behind what is pending.
pub end_stops : (version : ℕ) (old new : Output) (s : SendStop) (outcome : Outcome) → outcome ≡ outcome_with s → PutEnd old new (canonical version End) (Err s) → EndGoesOut version old new (Err outcome)
end_stops version old new s outcome is p = subst (λ (x : Outcome). EndGoesOut version old new (Err x)) (sym is) (one s p)
  where
    one : (x : SendStop) → PutEnd old new (canonical version End) (Err x) → EndGoesOut version old new (Err (outcome_with x))
    one stop.OutputFault q = (tt, q.1)
    one stop.NoMemory q = (tt, end_none version old new.taken q.0)
    one stop.InputFault q = absurd q
    one (stop.InputChanged file place) q = absurd q

-- ---- the stream

stream_is : (base : Store ℕ) (l : Limited) (found : Judged) → IsFound base l found
    → output_by found l.items ≡ (stream_header found.version ++ canonical_all found.version (written_by found.fates (commands_of l.items))) ++ canonical found.version End
stream_is base l found f =
    let w = written_found base l found f in
    let v : ℕ = found.version in
    ap (λ (cs : List Command). stream_header v ++ canonical_all v cs) (ap (by_fates found.fates) w.1 ∙ fates_end found.fates w.0)
    ∙ ap (λ (b : List ℕ). stream_header v ++ b) (both_canonical v (by_fates found.fates w.0) (End ∷ []))
    ∙ sym (append_assoc (stream_header v) (canonical_all v (by_fates found.fates w.0)) (canonical_all v (End ∷ [])))
    ∙ ap (λ (b : List ℕ). (stream_header v ++ canonical_all v (by_fates found.fates w.0)) ++ b) (one_canonical v End)
    ∙ ap (λ (cs : List Command). (stream_header v ++ canonical_all v cs) ++ canonical v End) (sym w.2)

-- A front part of what comes before END is a proper front part of all.
front_proper : (a b : Option (List ℕ)) (all front rest : List ℕ) → all ≡ front ++ rest → 0 < length rest → AppendsFront a b front → Wrote a b (IsProperFrontOf all)
front_proper a b all front rest is some f = (
  take f.count front,
  f.appends,
  record {
    count = f.count;
    within = let long = ap length is in let w = f.within in omega (arith, long, length-append front rest, some, w);
    written_is = sym (ap (take f.count) is ∙ take-append-le f.count front rest f.within);
  },
)

-- A proper front part behind others.
part_proper : (a b : Option (List ℕ)) (all : List ℕ) → AppendsPart a b all → Wrote a b (IsProperFrontOf all)
part_proper a b all p = (take p.0 all, p.2, record { count = p.0; within = p.1; written_is = refl })

module _ (base : Store ℕ) (l : Limited) (found : Judged) (f : IsFound base l found) (first : Output) (header : first.pending ≡ stream_header found.version) where
  abbrev inner : List ℕ
  inner = canonical_all found.version (written_by found.fates (commands_of l.items))

  some_end : 0 < length (canonical found.version End)
  some_end = omega (arith, canonical_long found.version End)

  all_is : output_by found l.items ≡ (first.pending ++ inner) ++ canonical found.version End
  all_is = stream_is base l found f ∙ ap (λ (h : List ℕ). (h ++ canonical_all found.version (written_by found.fates (commands_of l.items))) ++ canonical found.version End) (sym header)

  with_outcome : (outcome : Outcome) (a b : Option (List ℕ)) → IsOfOutside outcome → Wrote a b (IsProperFrontOf (output_by found l.items)) → Wrote a b (WriteEnds found l.items (Err outcome))
  with_outcome outcome a b outside w = (w.0, w.1, (outside, w.2))

  -- Not all commands went out.
  pub commands_cut : (now : Output) (outcome : Outcome) → PartEnds first now (canonical_all found.version (written_by found.fates (commands_of l.items))) outcome → Wrote first.taken now.taken (WriteEnds found l.items (Err outcome))
  commands_cut now ended.OutputFault p = with_outcome ended.OutputFault first.taken now.taken tt (front_proper first.taken now.taken (output_by found l.items) (first.pending ++ inner) (canonical found.version End) all_is some_end (breaks_front first.taken now.taken first.pending now.pending inner p))
  commands_cut now ended.InputFault p = with_outcome ended.InputFault first.taken now.taken tt (front_proper first.taken now.taken (output_by found l.items) (first.pending ++ inner) (canonical found.version End) all_is some_end (part_front first.taken now.taken first.pending now.pending inner p))
  commands_cut now ended.NoMemory p = with_outcome ended.NoMemory first.taken now.taken tt (front_proper first.taken now.taken (output_by found l.items) (first.pending ++ inner) (canonical found.version End) all_is some_end (part_front first.taken now.taken first.pending now.pending inner p))
  commands_cut now ended.Done p = absurd p
  commands_cut now (ended.Refused verdict) p = absurd p
  commands_cut now (ended.InputTooLong file) p = absurd p
  commands_cut now (ended.TooMuch sum) p = absurd p
  commands_cut now (ended.InputChanged file place) p = absurd p

  -- All did, and then END, or not.
  pub stream_ends : (mid new : Output) (r : Result (Unit {0}) Outcome) → GoesOut first.taken mid.taken first.pending mid.pending (canonical_all found.version (written_by found.fates (commands_of l.items))) → EndGoesOut found.version mid new r
      → Wrote first.taken new.taken (WriteEnds found l.items r)
  stream_ends mid new (Ok done) g e = (
    g.sent ++ (mid.pending ++ canonical found.version End),
    Appends-trans first.taken mid.taken new.taken g.sent (mid.pending ++ canonical found.version End) g.appends e,
    sym (all_is ∙ ap (λ (b : List ℕ). b ++ canonical found.version End) g.rest ∙ append_assoc g.sent mid.pending (canonical found.version End)),
  )
  stream_ends mid new (Err outcome) g e =
      with_outcome outcome first.taken new.taken e.0
      (part_proper first.taken new.taken (output_by found l.items)
      (part_behind first.taken mid.taken new.taken g.sent (mid.pending ++ canonical found.version End) (output_by found l.items)
      (all_is ∙ ap (λ (b : List ℕ). b ++ canonical found.version End) g.rest ∙ append_assoc g.sent mid.pending (canonical found.version End)) g.appends e.1))

  -- Nothing was written.
  pub stream_none : (taken : Option (List ℕ)) (outcome : Outcome) → IsOfOutside outcome → Wrote taken taken (WriteEnds found l.items (Err outcome))
  stream_none taken outcome outside = (
    [],
    Appends-nil taken,
    (
      outside,
      record {
        count = 0;
        within = let long = ap length all_is in omega (arith, long, length-append (first.pending ++ canonical_all found.version (written_by found.fates (commands_of l.items))) (canonical found.version End), some_end);
        written_is = refl;
      },
    ),
  )

-- ---- the file, where the inputs tell

abbrev pub Cut : Override → ℕ → Store ℕ → Judged → (first now : Output) → Result (Unit {0}) Outcome → List ℕ → Type 0
Cut said file base found first now r bytes = IsFound base (read_with said file bytes) found → CommandsEnd found (read_with said file bytes).items first now r

abbrev pub Written : Override → ℕ → Store ℕ → Judged → (old new : Option (List ℕ)) → Result (Unit {0}) Outcome → List ℕ → Type 0
Written said file base found old new r bytes = IsFound base (read_with said file bytes) found → Wrote old new (WriteEnds found (read_with said file bytes).items r)

pub stream_cut : (told : Option (List (List ℕ × List ℕ))) (name : List ℕ) (said : Override) (file : ℕ) (base : Store ℕ) (found : Judged) (first now : Output) (outcome : Outcome) → first.pending ≡ stream_header found.version
    → IfTold told name (Cut said file base found first now (Err outcome)) → IfTold told name (Written said file base found first.taken now.taken (Err outcome))
stream_cut told name said file base found first now outcome header cut =
    told_map told name (Cut said file base found first now (Err outcome)) (Written said file base found first.taken now.taken (Err outcome))
    (λ bytes p f. commands_cut base (read_with said file bytes) found f first header now outcome (p f)) cut

pub stream_whole : (told : Option (List (List ℕ × List ℕ))) (name : List ℕ) (said : Override) (file : ℕ) (base : Store ℕ) (found : Judged) (first mid new : Output) (done : Unit {0}) (r : Result (Unit {0}) Outcome) → first.pending ≡ stream_header found.version
    → IfTold told name (Cut said file base found first mid (Ok done)) → EndGoesOut found.version mid new r → IfTold told name (Written said file base found first.taken new.taken r)
stream_whole told name said file base found first mid new done r header all end =
    told_map told name (Cut said file base found first mid (Ok done)) (Written said file base found first.taken new.taken r)
    (λ bytes p f. stream_ends base (read_with said file bytes) found f first header mid new r (p f) end) all
