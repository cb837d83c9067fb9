use Rattle.std.specs.Prelude.{◌≡◌, ℕ, ◌+◌, length, Option, None, Some, Ok, Err}
use Rattle.std.specs.Option.{unwrap_or}
use Rattle.std.proofs.Common.{sym, subst, ap, ◌∙◌, arith, refl}
use Rattle.sx_base.proofs.DiskMoments.{begins}
use Rattle.sx_base.specs.Refusals.{refusal_of}
use Rattle.sx_base.specs.Answers.{MayChange}
use Rattle.sx_base.specs.declared.stop.Stop.{Stop}
use Rattle.send_model.specs.Store.{Key, edit_part}
use Rattle.extent_map.specs.Pieces.{run_cells}
use Rattle.send_commands.specs.Meaning.{meaning_of}
use Rattle.clone_resolve.specs.Steps.{data_len}
use Rattle.group_log.proofs.GatedGroups.{grows_has}
use Rattle.group_replay.specs.Placing.{further}
use Rattle.store_journal.specs.Shown.{StoreState}
use Rattle.store_journal.specs.Holding.{bodies_of}
use Rattle.store_journal.proofs.Unpacked.{Builds}
use Rattle.store_journal.proofs.Keeping.{edit_builds}
use Rattle.group_replay.proofs.KeptParts.{run_before, kept_further, all_further, edit_kept}
use Rattle.group_replay.proofs.Editing.{data_in_frame, short_data, near_data, edit_same}
use Rattle.store_journal.proofs.Refusing.{stopped_edits}
use Rattle.store_journal.proofs.store.Store.edit.Goals as goal

pub overflow_add-place : goal.overflow_add-place
overflow_add-place g c =
    let far = near_data c.args.version (meaning_of c.args.c.now) c.requires.edit.1 in
    omega (arith, far, ap (λ (o : Option ℕ). unwrap_or o 0) c.data_place.ensures.place, c.unwrap_or.ensures, c.end.ensures, ap (λ (s : StoreState). s.log.size) c.self.view_is, c.requires.is_open.progress.bounded, c.requires.is_open.progress.room)

pub edit-requires-clause-reach : goal.edit-requires-clause-reach
edit-requires-clause-reach g c =
    let far = near_data c.args.version (meaning_of c.args.c.now) c.requires.edit.1 in
    let short = short_data c.args.version (meaning_of c.args.c.now) c.requires.edit.1 in
    omega (arith, far, short, ap (λ (o : Option ℕ). unwrap_or o 0) c.data_place.ensures.place, c.unwrap_or.ensures, c.end.ensures, ap (λ (s : StoreState). s.log.size) c.self.view_is, c.requires.is_open.progress.bounded, c.requires.is_open.progress.room)

pub returns-in-Err-Refused-clause-edited : goal.returns-in-Err-Refused-clause-edited
returns-in-Err-Refused-clause-edited g c =
    let said = subst (λ (why : Stop). MayChange {A = Unit {0}} (Err why) c.args.part.now.subvolume c.edit.new.part.subvolume (edit_part None (run_cells further (record { at = c.end.result + c.unwrap_or.result }) (data_len (meaning_of c.args.c.now))) c.self.inside.core c.args.part.now (meaning_of c.args.c.now))) c.in-Err-Refused.field-0-is c.in-Err-Refused.ensures.edited in (
      edit_same c.args.version (meaning_of c.args.c.now) c.self.inside.core c.args.self.now.core c.args.part.now (c.end.result + c.unwrap_or.result) c.end.result c.args.self.now.log.size c.unwrap_or.result (Err (refusal_of c.in-Err-Refused.refusal))
          (ap (λ (s : StoreState). s.core) c.self.view_is) (c.end.ensures ∙ ap (λ (s : StoreState). s.log.size) c.self.view_is) (c.unwrap_or.ensures ∙ ap (λ (o : Option ℕ). unwrap_or o 0) c.data_place.ensures.place) refl said.0,
      said.1,
    )

pub returns-in-Err-Refused-clause-any_moment : goal.returns-in-Err-Refused-clause-any_moment
returns-in-Err-Refused-clause-any_moment g c tells header groups commands builds =
    begins c.args.disk.now (λ image. g.met.D.Disk.only_now c.args.disk.now image tells) (grows_has header (bodies_of groups) _ _ _ _ builds.grows)

pub returns-in-Err-NoMemory-clause-any_moment : goal.returns-in-Err-NoMemory-clause-any_moment
returns-in-Err-NoMemory-clause-any_moment g c tells header groups commands builds =
    begins c.args.disk.now (λ image. g.met.D.Disk.only_now c.args.disk.now image tells) (grows_has header (bodies_of groups) _ _ _ _ builds.grows)

pub returns-in-Ok-write_edit-clause-edited : goal.returns-in-Ok-write_edit-clause-edited
returns-in-Ok-write_edit-clause-edited g c =
    edit_same c.args.version (meaning_of c.args.c.now) c.self.inside.core c.args.self.now.core c.args.part.now (c.end.result + c.unwrap_or.result) c.end.result c.args.self.now.log.size c.unwrap_or.result (Ok c.edit.new.part.subvolume)
    (ap (λ (s : StoreState). s.core) c.self.view_is) (c.end.ensures ∙ ap (λ (s : StoreState). s.log.size) c.self.view_is) (c.unwrap_or.ensures ∙ ap (λ (o : Option ℕ). unwrap_or o 0) c.data_place.ensures.place) refl c.in-Ok.ensures.edited

pub returns-in-Ok-write_edit-clause-builds : goal.returns-in-Ok-write_edit-clause-builds
returns-in-Ok-write_edit-clause-builds g c tells header groups commands builds =
    let seen = g.D.Disk.seen c.args.disk.now in
    let pending = g.D.Disk.pending c.args.disk.now in
    let was = subst (λ (s : StoreState). Builds header groups c.args.version commands c.args.part.now s seen pending) (sym c.self.view_is) builds in
    let size : c.self.inside.log.size ≡ length seen = ap (λ (s : StoreState). s.log.size) c.self.view_is ∙ sym c.requires.is_open.progress.size ∙ g.met.D.Disk.sized c.args.disk.now tells in
    edit_builds header groups c.args.version commands c.args.part.now c.edit.new.part _ _ seen _ pending _ was (meaning_of c.args.c.now) c.requires.edit size c.edit.ensures.key
    (edit_same c.args.version (meaning_of c.args.c.now) c.self.inside.core c.self.inside.core c.args.part.now (c.end.result + c.unwrap_or.result) c.end.result c.self.inside.log.size c.unwrap_or.result (Ok c.edit.new.part.subvolume)
    refl c.end.ensures (c.unwrap_or.ensures ∙ ap (λ (o : Option ℕ). unwrap_or o 0) c.data_place.ensures.place) refl c.in-Ok.ensures.edited)
    refl c.in-Ok-write_edit.ensures.gate (c.in-Ok-write_edit.ensures.grows tells header (bodies_of groups) _ was.grows)

pub returns-in-Ok-write_edit-clause-any_moment : goal.returns-in-Ok-write_edit-clause-any_moment
returns-in-Ok-write_edit-clause-any_moment g c tells header groups commands builds =
    let was = subst (λ (s : StoreState). Builds header groups c.args.version commands c.args.part.now s (g.D.Disk.seen c.args.disk.now) (g.D.Disk.pending c.args.disk.now)) (sym c.self.view_is) builds in
    c.write_edit.ensures.any_moment tells header (bodies_of groups) _ was.grows

pub returns-in-Err-clause-any_moment : goal.returns-in-Err-clause-any_moment
returns-in-Err-clause-any_moment g c tells header groups commands builds =
    let was = subst (λ (s : StoreState). Builds header groups c.args.version commands c.args.part.now s (g.D.Disk.seen c.args.disk.now) (g.D.Disk.pending c.args.disk.now)) (sym c.self.view_is) builds in
    c.write_edit.ensures.any_moment tells header (bodies_of groups) _ was.grows

-- The bytes that the edit puts stand in its frame.
pub returns-in-Ok-write_edit-clause-still_open : goal.returns-in-Ok-write_edit-clause-still_open
returns-in-Ok-write_edit-clause-still_open g c =
    let was = c.requires.is_open in
    let end : c.self.inside.log.size ≡ c.args.self.now.log.size = ap (λ (s : StoreState). s.log.size) c.self.view_is in
    let gate : c.self.inside.log.gate ≡ c.args.self.now.log.gate = ap (λ (s : StoreState). s.log.gate) c.self.view_is in
    let size = c.in-Ok-write_edit.ensures.size in
    let far : ℕ = c.write_edit.new.log.size in
    record {
      progress = c.in-Ok-write_edit.ensures.in_progress;
      live = ap (λ (s : StoreState). s.is_live) c.self.view_is ∙ was.live;
      open_is = ap (λ (s : StoreState). s.open_part) c.self.view_is ∙ was.open_is ∙ ap (λ (k : Key). Some k) (sym c.edit.ensures.key);
      kept = edit_kept far c.args.version (run_cells further (record { at = c.end.result + c.unwrap_or.result }) (data_len (meaning_of c.args.c.now))) c.self.inside.core c.args.part.now (meaning_of c.args.c.now) c.edit.new.part.subvolume c.requires.edit.1
          (run_before (c.end.result + c.unwrap_or.result) (data_len (meaning_of c.args.c.now)) far
          (omega (arith, size, c.end.ensures, c.unwrap_or.ensures, ap (λ (o : Option ℕ). unwrap_or o 0) c.data_place.ensures.place, data_in_frame c.args.version (meaning_of c.args.c.now))))
          (all_further c.self.inside.log.gate far (omega (arith, size, end, gate, was.progress.begun)) c.self.inside.core c.self.invariant)
          (kept_further c.args.self.now.log.size far (omega (arith, size, end)) c.args.part.now.subvolume was.kept)
          c.in-Ok.ensures.edited;
    }

pub returns-in-Err-clause-edited : goal.returns-in-Err-clause-edited
returns-in-Err-clause-edited g c =
    stopped_edits (Unit {0}) c.in-Err.stop c.args.part.now c.edit.new.part _ c.in-Err.ensures.not_refused
    (edit_same c.args.version (meaning_of c.args.c.now) c.self.inside.core c.args.self.now.core c.args.part.now (c.end.result + c.unwrap_or.result) c.end.result c.args.self.now.log.size c.unwrap_or.result (Ok c.edit.new.part.subvolume)
    (ap (λ (s : StoreState). s.core) c.self.view_is) (c.end.ensures ∙ ap (λ (s : StoreState). s.log.size) c.self.view_is) (c.unwrap_or.ensures ∙ ap (λ (o : Option ℕ). unwrap_or o 0) c.data_place.ensures.place) refl c.in-Ok.ensures.edited)
