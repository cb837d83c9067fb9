use Rattle.std.specs.Prelude.{◌≡◌, ℕ, List, [], Option, None, Some}
use Rattle.std.proofs.Common.{refl, sym, ap, subst, ◌∙◌}
use Rattle.std.proofs.KnownBytes.{Appends-nil}
use Rattle.send_model.specs.Store.{Store}
use Rattle.sx_base.proofs.DiskMoments.{joins, weakens}
use Rattle.sx_base.proofs.DiskImages.{only_settled}
use Rattle.sx_base.specs.Causes.{Rose}
use Rattle.sx_base.specs.Disk.{Pending, IsImage}
use Rattle.sx_base.specs.declared.outcome.Outcome.TheVariants as ended
use Rattle.store_model.specs.Answers.{Missing}
use Rattle.stream_model.specs.StreamDues.{StreamAnswers}
use Rattle.subvol_catalog.specs.Entries.{entry_of, AreNamed, named}
use Rattle.group_replay.specs.declared.place.Place.{Place}
use Rattle.store_journal.specs.Standing.{with_bytes}
use Rattle.store_commands.specs.declared.ends.StoreEnd.TheVariants as made
use Rattle.store_commands.specs.Ending.{answer_of, show_ways, EndCaused}
use Rattle.store_commands.proofs.Opened.{no_end}
use Rattle.stream_back.specs.declared.heads.EntryHead.{EntryHead}
use Rattle.stream_back.specs.Writing.{HasLength}
use Rattle.stream_back.proofs.StreamEnds.{gone, unfinished, complete_one, name_short, nothing_unfinished, not_opened, stream_missing, stream_done, stream_back, stream_cut, stream_stops, back_caused, not_done}
use Rattle.stream_back.proofs.streaming.stream_entry.Goals as goal

pub returns-in-Err-clause-answered : goal.returns-in-Err-clause-answered
returns-in-Err-clause-answered g c tells =
    let seen : List ℕ = g.D.Disk.seen c.args.disk.now in
    let name : List ℕ = c.args.name.now in (
      [],
      Appends-nil (g.O.Sink.taken c.args.out.now),
      subst (λ (l : List ℕ). StreamAnswers seen name (answer_of name [] c.ended_by.result) [] l) (sym (c.open.ensures.seen tells))
          (not_opened seen name _ c.in-Err.stop c.ended_by.result c.ended_by.ensures c.in-Err.ensures.not_refused c.in-Err.ensures.stops (c.in-Err.ensures.says tells)),
    )

pub returns-in-Err-clause-received : goal.returns-in-Err-clause-received
returns-in-Err-clause-received g c tells =
    ([], Appends-nil (g.O.Sink.taken c.args.out.now), (λ done. absurd (no_end c.in-Err.stop c.in-Err.ensures.not_refused (sym c.ended_by.ensures ∙ done))))

pub returns-in-Err-clause-unfinished : goal.returns-in-Err-clause-unfinished
returns-in-Err-clause-unfinished g c tells = ([], Appends-nil (g.O.Sink.taken c.args.out.now), (λ stops. nothing_unfinished (g.D.Disk.seen c.args.disk.now) c.args.name.now))

pub returns-in_default-clause-answered : goal.returns-in_default-clause-answered
returns-in_default-clause-answered g c tells =
    let seen : List ℕ = g.D.Disk.seen c.args.disk.now in
    let name : List ℕ = c.args.name.now in
    let core = c.in-Ok.store.core in
    let none : named name core ≡ None = ap (named name) (sym (c.catalog.ensures.core ∙ c.core.ensures.core)) ∙ sym c.in_default.ensures.entry in (
      [],
      Appends-nil (g.O.Sink.taken c.args.out.now),
      subst (λ (l : List ℕ). StreamAnswers seen name (Missing name) [] l) (sym (c.open.ensures.seen tells)) (stream_missing seen name (with_bytes seen core) (c.in-Ok.ensures.says tells) (gone seen core name none)),
    )

pub returns-in_default-clause-unfinished : goal.returns-in_default-clause-unfinished
returns-in_default-clause-unfinished g c tells = ([], Appends-nil (g.O.Sink.taken c.args.out.now), (λ stops. nothing_unfinished (g.D.Disk.seen c.args.disk.now) c.args.name.now))

pub returns-in_default-value-clause-answered : goal.returns-in_default-value-clause-answered
returns-in_default-value-clause-answered g c tells =
    let seen : List ℕ = g.D.Disk.seen c.args.disk.now in
    let name : List ℕ = c.args.name.now in
    let core = c.in-Ok.store.core in
    let e = entry_of c.in-Some.entry.now in
    let there : named name core ≡ Some e = ap (named name) (sym (c.catalog.ensures.core ∙ c.core.ensures.core)) ∙ sym c.in-Some.ensures.entry in (
      [],
      Appends-nil (g.O.Sink.taken c.args.out.now),
      subst (λ (l : List ℕ). StreamAnswers seen name (Missing name) [] l) (sym (c.open.ensures.seen tells))
          (stream_missing seen name (with_bytes seen core) (c.in-Ok.ensures.says tells) (unfinished seen core name e there c.in_default-value.is)),
    )

pub returns-in_default-value-clause-unfinished : goal.returns-in_default-value-clause-unfinished
returns-in_default-value-clause-unfinished g c tells = ([], Appends-nil (g.O.Sink.taken c.args.out.now), (λ stops. nothing_unfinished (g.D.Disk.seen c.args.disk.now) c.args.name.now))

pub write_back-requires : goal.write_back-requires
write_back-requires g c =
    let core = c.in-Ok.store.core in
    let there : named c.args.name.now core ≡ Some (entry_of c.in-Some.entry.now) = ap (named c.args.name.now) (sym (c.catalog.ensures.core ∙ c.core.ensures.core)) ∙ sym c.in-Some.ensures.entry in
    record { short = subst HasLength (sym c.as_slice.ensures.bytes) (name_short core c.args.name.now (entry_of c.in-Some.entry.now) there (subst (λ (k : Store (Option Place)). AreNamed k) c.core.ensures.core c.catalog.ensures.named)) }

pub returns-in-Ok-write_back-clause-answered : goal.returns-in-Ok-write_back-clause-answered
returns-in-Ok-write_back-clause-answered g c tells =
    let seen : List ℕ = g.D.Disk.seen c.args.disk.now in
    let name : List ℕ = c.args.name.now in
    let core = c.in-Ok.store.core in
    let e = entry_of c.in-Some.entry.now in
    let there : named name core ≡ Some e = ap (named name) (sym (c.catalog.ensures.core ∙ c.core.ensures.core)) ∙ sym c.in-Some.ensures.entry in
    let head : EntryHead = record { name = c.as_slice.result; key = c.in-Some.entry.now.key; parent = c.in-Some.entry.now.parent } in
    let here = complete_one seen core name e c.in-Some-value._contents there c.in-Some-value.is in
    let wrote = c.in-Ok-write_back.ensures.written tells in (
      wrote.0,
      wrote.1,
      subst (λ (l : List ℕ). StreamAnswers seen name (answer_of name [] (made.Ends ended.Done)) wrote.0 l) (sym (c.write_back.ensures.seen tells ∙ c.open.ensures.seen tells))
          (stream_done seen name (with_bytes seen core) (c.in-Ok.ensures.says tells) _ here head c.as_slice.ensures.bytes refl refl (g.D.Disk.seen c.open.new.disk) (c.open.ensures.seen tells) wrote.0 tt wrote.2),
    )

pub returns-in-Ok-write_back-clause-received : goal.returns-in-Ok-write_back-clause-received
returns-in-Ok-write_back-clause-received g c tells =
    let seen : List ℕ = g.D.Disk.seen c.args.disk.now in
    let name : List ℕ = c.args.name.now in
    let core = c.in-Ok.store.core in
    let e = entry_of c.in-Some.entry.now in
    let there : named name core ≡ Some e = ap (named name) (sym (c.catalog.ensures.core ∙ c.core.ensures.core)) ∙ sym c.in-Some.ensures.entry in
    let head : EntryHead = record { name = c.as_slice.result; key = c.in-Some.entry.now.key; parent = c.in-Some.entry.now.parent } in
    let here = complete_one seen core name e c.in-Some-value._contents there c.in-Some-value.is in
    let wrote = c.in-Ok-write_back.ensures.written tells in
    (wrote.0, wrote.1, (λ done. stream_back seen name (with_bytes seen core) (c.in-Ok.ensures.says tells) _ here head c.as_slice.ensures.bytes refl refl (g.D.Disk.seen c.open.new.disk) (c.open.ensures.seen tells) wrote.0 tt wrote.2))

pub returns-in-Ok-write_back-clause-any_moment : goal.returns-in-Ok-write_back-clause-any_moment
returns-in-Ok-write_back-clause-any_moment g c tells =
    let D = g.D.Disk in
    joins (c.open.ensures.any_moment tells) (weakens (c.write_back.ensures.any_moment tells) (λ image is.
    let whole : image ≡ D.seen c.open.new.disk = only_settled (D.seen c.open.new.disk) image (subst (λ (p : Pending). IsImage p image) (c.in-Ok.ensures.durable tells) is) in
    subst (λ (i : List ℕ). IsImage (D.pending c.args.disk.now) i) (sym (whole ∙ c.open.ensures.seen tells)) (g.met.D.Disk.seen_is_image c.args.disk.now tells)))

pub returns-clause-answered : goal.returns-clause-answered
returns-clause-answered g c tells =
    let seen : List ℕ = g.D.Disk.seen c.args.disk.now in
    let name : List ℕ = c.args.name.now in
    let core = c.in-Ok.store.core in
    let e = entry_of c.in-Some.entry.now in
    let there : named name core ≡ Some e = ap (named name) (sym (c.catalog.ensures.core ∙ c.core.ensures.core)) ∙ sym c.in-Some.ensures.entry in
    let head : EntryHead = record { name = c.as_slice.result; key = c.in-Some.entry.now.key; parent = c.in-Some.entry.now.parent } in
    let here = complete_one seen core name e c.in-Some-value._contents there c.in-Some-value.is in
    let wrote = c.in-Err-write_back.ensures.written tells in (
      wrote.0,
      wrote.1,
      subst (λ (l : List ℕ). StreamAnswers seen name (answer_of name [] c.in-Err-write_back.end) wrote.0 l) (sym (c.write_back.ensures.seen tells ∙ c.open.ensures.seen tells))
          (stream_stops seen name (with_bytes seen core) (c.in-Ok.ensures.says tells) _ here head c.as_slice.ensures.bytes refl refl (g.D.Disk.seen c.open.new.disk) (c.open.ensures.seen tells) wrote.0 c.in-Err-write_back.end wrote.2),
    )

pub returns-clause-received : goal.returns-clause-received
returns-clause-received g c tells =
    let wrote = c.in-Err-write_back.ensures.written tells in
    (wrote.0, wrote.1, (λ done. absurd (not_done _ _ c.in-Err-write_back.end c.in-Err-write_back.ensures.cause done)))

pub returns-clause-unfinished : goal.returns-clause-unfinished
returns-clause-unfinished g c tells =
    let seen : List ℕ = g.D.Disk.seen c.args.disk.now in
    let name : List ℕ = c.args.name.now in
    let core = c.in-Ok.store.core in
    let e = entry_of c.in-Some.entry.now in
    let there : named name core ≡ Some e = ap (named name) (sym (c.catalog.ensures.core ∙ c.core.ensures.core)) ∙ sym c.in-Some.ensures.entry in
    let head : EntryHead = record { name = c.as_slice.result; key = c.in-Some.entry.now.key; parent = c.in-Some.entry.now.parent } in
    let here = complete_one seen core name e c.in-Some-value._contents there c.in-Some-value.is in
    let wrote = c.in-Err-write_back.ensures.written tells in
    (wrote.0, wrote.1, (λ stops. stream_cut seen name (with_bytes seen core) (c.in-Ok.ensures.says tells) _ here head c.as_slice.ensures.bytes refl refl (g.D.Disk.seen c.open.new.disk) (c.open.ensures.seen tells) wrote.0 c.in-Err-write_back.end wrote.2))

pub returns-clause-any_moment : goal.returns-clause-any_moment
returns-clause-any_moment g c tells =
    let D = g.D.Disk in
    joins (c.open.ensures.any_moment tells) (weakens (c.write_back.ensures.any_moment tells) (λ image is.
    let whole : image ≡ D.seen c.open.new.disk = only_settled (D.seen c.open.new.disk) image (subst (λ (p : Pending). IsImage p image) (c.in-Ok.ensures.durable tells) is) in
    subst (λ (i : List ℕ). IsImage (D.pending c.args.disk.now) i) (sym (whole ∙ c.open.ensures.seen tells)) (g.met.D.Disk.seen_is_image c.args.disk.now tells)))

pub returns-clause-cause : goal.returns-clause-cause
returns-clause-cause g c =
    let D = g.D.Disk in
    let O = g.O.Sink in
    let done : Type 0 = (D.faults c.write_back.new.disk ≡ D.faults c.args.disk.now) × (O.faults c.write_back.new.out ≡ O.faults c.args.out.now) in
    let out_rose : Type 0 = Rose (O.faults c.args.out.now) (O.faults c.write_back.new.out) in
    subst (λ (n : ℕ). EndCaused show_ways done (Rose n (D.faults c.write_back.new.disk)) ⊥ out_rose c.in-Err-write_back.end) c.in-Ok.ensures.steady
    (back_caused done (Rose (D.faults c.open.new.disk) (D.faults c.write_back.new.disk)) out_rose c.in-Err-write_back.end c.in-Err-write_back.ensures.cause)
