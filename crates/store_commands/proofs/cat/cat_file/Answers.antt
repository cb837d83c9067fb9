use Rattle.std.specs.Prelude.{◌≡◌, ℕ, List, [], None, Some}
use Rattle.std.proofs.Common.{sym, ap, subst, ◌∙◌}
use Rattle.std.proofs.KnownBytes.{Appends-nil}
use Rattle.std.specs.Option.{option_map}
use Rattle.send_model.specs.Cells.{recelled}
use Rattle.send_model.specs.Subvolume.{Subvolume}
use Rattle.store_model.specs.Stored.{byte_of}
use Rattle.sx_base.proofs.DiskMoments.{joins, weakens}
use Rattle.sx_base.proofs.DiskImages.{only_settled}
use Rattle.sx_base.specs.Disk.{Pending, IsImage}
use Rattle.store_model.specs.Dues.{complete_named, file_at, cat_output}
use Rattle.store_model.specs.NamedFiles.{unnamed}
use Rattle.store_model.specs.Requests.{CatFile, word_at, at_entry}
use Rattle.store_model.specs.Answers.{Answers}
use Rattle.subvol_catalog.specs.Entries.{entry_of, named}
use Rattle.store_journal.specs.Reading.{file_cells}
use Rattle.store_journal.specs.Standing.{with_bytes}
use Rattle.store_commands.specs.declared.ends.StoreEnd.{StoreEnd}
use Rattle.store_commands.specs.declared.ends.StoreEnd.TheVariants as made
use Rattle.store_commands.specs.Ending.{answer_of}
use Rattle.store_commands.specs.Files.{FileEnds}
use Rattle.store_commands.proofs.Opened.{not_opened, nothing_printed}
use Rattle.store_commands.proofs.NamedBytes.{gone, unfinished_one, complete_one_there, file_there, no_file_there}
use Rattle.store_commands.proofs.CatAnswers.{cat_of_none, cat_missing, cat_no_file, cat_answers}
use Rattle.store_commands.proofs.cat.cat_file.Goals as goal

-- An answer of the words that ask for a name and a path, as one of these.
asked : (words : List (List ℕ)) (store at to : ℕ) (image name path written : List ℕ) (end : StoreEnd) → word_at words at ≡ name → word_at words to ≡ path
    → Answers (CatFile store at to) (at_entry words image (unnamed [])) (answer_of (word_at words at) (word_at words to) end) written image → Answers (CatFile store at to) (at_entry words image (unnamed [])) (answer_of name path end) written image
asked words store at to image name path written end asks_name asks_path answers =
    subst (λ (n : List ℕ). Answers (CatFile store at to) (at_entry words image (unnamed [])) (answer_of n path end) written image) asks_name
    (subst (λ (p : List ℕ). Answers (CatFile store at to) (at_entry words image (unnamed [])) (answer_of (word_at words at) p end) written image) asks_path answers)

pub returns-in-Err-clause-answered : goal.returns-in-Err-clause-answered
returns-in-Err-clause-answered g c tells =
    let seen : List ℕ = g.D.Disk.seen c.args.disk.now in
    let name : List ℕ = c.args.name.now in
    let path : List ℕ = c.args.path.now in (
      [],
      Appends-nil (g.O.Sink.taken c.args.out.now),
      (λ words store at to asks_name asks_path.
          subst (λ (l : List ℕ). Answers (CatFile store at to) (at_entry words seen (unnamed [])) (answer_of name path c.ended_by.result) [] l) (sym (c.open.ensures.seen tells))
          (subst (λ (e : StoreEnd). Answers (CatFile store at to) (at_entry words seen (unnamed [])) (answer_of name path e) [] seen) (sym c.ended_by.ensures)
          (not_opened (CatFile store at to) words seen (unnamed []) name path _ c.in-Err.stop (nothing_printed seen (cat_output (word_at words at) (word_at words to))) (nothing_printed seen (cat_output (word_at words at) (word_at words to)))
          (cat_of_none words store at to seen) c.in-Err.ensures.not_refused c.in-Err.ensures.stops (c.in-Err.ensures.says tells)))),
    )

pub returns-in_default-clause-answered : goal.returns-in_default-clause-answered
returns-in_default-clause-answered g c tells =
    let seen : List ℕ = g.D.Disk.seen c.args.disk.now in
    let name : List ℕ = c.args.name.now in
    let path : List ℕ = c.args.path.now in
    let core = c.in-Ok.store.core in
    let none : named name core ≡ None = ap (named name) (sym (c.catalog.ensures.core ∙ c.core.ensures.core)) ∙ sym c.in_default.ensures.entry in (
      [],
      Appends-nil (g.O.Sink.taken c.args.out.now),
      (λ words store at to asks_name asks_path.
          subst (λ (l : List ℕ). Answers (CatFile store at to) (at_entry words seen (unnamed [])) (answer_of name path made.NoName) [] l) (sym (c.open.ensures.seen tells))
          (asked words store at to seen name path [] made.NoName asks_name asks_path
          (cat_missing words store at to seen (with_bytes seen core) (c.in-Ok.ensures.says tells) (ap (λ (n : List ℕ). complete_named n (with_bytes seen core)) asks_name ∙ gone seen core name none)))),
    )

pub returns-in_default-value-clause-answered : goal.returns-in_default-value-clause-answered
returns-in_default-value-clause-answered g c tells =
    let seen : List ℕ = g.D.Disk.seen c.args.disk.now in
    let name : List ℕ = c.args.name.now in
    let path : List ℕ = c.args.path.now in
    let core = c.in-Ok.store.core in
    let e = entry_of c.in-Some.entry.now in
    let there : named name core ≡ Some e = ap (named name) (sym (c.catalog.ensures.core ∙ c.core.ensures.core)) ∙ sym c.in-Some.ensures.entry in (
      [],
      Appends-nil (g.O.Sink.taken c.args.out.now),
      (λ words store at to asks_name asks_path.
          subst (λ (l : List ℕ). Answers (CatFile store at to) (at_entry words seen (unnamed [])) (answer_of name path made.NoName) [] l) (sym (c.open.ensures.seen tells))
          (asked words store at to seen name path [] made.NoName asks_name asks_path
          (cat_missing words store at to seen (with_bytes seen core) (c.in-Ok.ensures.says tells) (ap (λ (n : List ℕ). complete_named n (with_bytes seen core)) asks_name ∙ unfinished_one seen core name e there c.in_default-value.is)))),
    )

pub returns-in_default-file_at-clause-answered : goal.returns-in_default-file_at-clause-answered
returns-in_default-file_at-clause-answered g c tells =
    let seen : List ℕ = g.D.Disk.seen c.args.disk.now in
    let name : List ℕ = c.args.name.now in
    let path : List ℕ = c.args.path.now in
    let core = c.in-Ok.store.core in
    let e = entry_of c.in-Some.entry.now in
    let sub = c.in-Some-value.sub in
    let held : Subvolume ℕ = recelled (byte_of seen) (recelled (option_map (λ place. place.at)) sub) in
    let there : named name core ≡ Some e = ap (named name) (sym (c.catalog.ensures.core ∙ c.core.ensures.core)) ∙ sym c.in-Some.ensures.entry in (
      [],
      Appends-nil (g.O.Sink.taken c.args.out.now),
      (λ words store at to asks_name asks_path.
          subst (λ (l : List ℕ). Answers (CatFile store at to) (at_entry words seen (unnamed [])) (answer_of name path made.NoFile) [] l) (sym (c.open.ensures.seen tells))
          (asked words store at to seen name path [] made.NoFile asks_name asks_path
          (cat_no_file words store at to seen (with_bytes seen core) (c.in-Ok.ensures.says tells) _
          (ap (λ (n : List ℕ). complete_named n (with_bytes seen core)) asks_name ∙ complete_one_there seen core name e sub there c.in-Some-value.is)
          (ap (λ (p : List ℕ). file_at p held) asks_path ∙ no_file_there seen core name path sub (sym c.in_default-file_at.ensures))))),
    )

pub returns-clause-answered : goal.returns-clause-answered
returns-clause-answered g c tells =
    let seen : List ℕ = g.D.Disk.seen c.args.disk.now in
    let name : List ℕ = c.args.name.now in
    let path : List ℕ = c.args.path.now in
    let core = c.in-Ok.store.core in
    let e = entry_of c.in-Some.entry.now in
    let sub = c.in-Some-value.sub in
    let held : Subvolume ℕ = recelled (byte_of seen) (recelled (option_map (λ place. place.at)) sub) in
    let ino : ℕ = c.in-Some-file_at.ino in
    let there : named name core ≡ Some e = ap (named name) (sym (c.catalog.ensures.core ∙ c.core.ensures.core)) ∙ sym c.in-Some.ensures.entry in
    let wrote = c.write_file.ensures.written tells in
    let whole : FileEnds (file_cells (with_bytes seen core) e.key ino) c.write_file.result wrote.0 =
    subst (λ (l : List ℕ). FileEnds (file_cells (with_bytes l core) e.key ino) c.write_file.result wrote.0) (c.open.ensures.seen tells) wrote.2 in (
      wrote.0,
      wrote.1,
      (λ words store at to asks_name asks_path.
          subst (λ (l : List ℕ). Answers (CatFile store at to) (at_entry words seen (unnamed [])) (answer_of name path c.write_file.result) wrote.0 l) (sym ((c.write_file.ensures.same tells).seen ∙ c.open.ensures.seen tells))
          (asked words store at to seen name path wrote.0 c.write_file.result asks_name asks_path
          (cat_answers words store at to seen (with_bytes seen core) (c.in-Ok.ensures.says tells) _
          (ap (λ (n : List ℕ). complete_named n (with_bytes seen core)) asks_name ∙ complete_one_there seen core name e sub there c.in-Some-value.is)
          (file_cells (with_bytes seen core) e.key ino) wrote.0
          (ap (λ (p : List ℕ). file_at p held) asks_path ∙ file_there seen core name path e sub ino (c.in-Ok.ensures.says tells) there c.in-Some-value.is (sym c.in-Some-file_at.ensures)) c.write_file.result whole))),
    )

pub returns-clause-any_moment : goal.returns-clause-any_moment
returns-clause-any_moment g c tells =
    let D = g.D.Disk in
    joins (c.open.ensures.any_moment tells) (weakens (c.write_file.ensures.any_moment tells) (λ image is.
    let whole : image ≡ D.seen c.open.new.disk = only_settled (D.seen c.open.new.disk) image (subst (λ (p : Pending). IsImage p image) (c.in-Ok.ensures.durable tells) is) in
    subst (λ (i : List ℕ). IsImage (D.pending c.args.disk.now) i) (sym (whole ∙ c.open.ensures.seen tells)) (g.met.D.Disk.seen_is_image c.args.disk.now tells)))
