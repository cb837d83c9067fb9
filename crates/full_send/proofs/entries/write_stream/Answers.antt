use Rattle.std.specs.Prelude.{◌≡◌, ◌++◌, ℕ, List, [], Option, Result, Ok, Err}
use Rattle.std.proofs.Common.{sym, ap, subst, ◌∙◌}
use Rattle.send_model.specs.Command.{End}
use Rattle.send_model.specs.Receivable.{receivable}
use Rattle.send_model.specs.Spelling.{canonical}
use Rattle.send_model.specs.Subvolume.{Subvolume}
use Rattle.snapshot_model.specs.Restored.{restored_edits, restored_stream}
use Rattle.snapshot_model.specs.Sent.{sent_edits, sent_stream}
use Rattle.inode_commands.specs.Spelled.{spelled_all}
use Rattle.group_replay.specs.declared.place.Place.{Place}
use Rattle.store_commands.specs.declared.ends.StoreEnd.{StoreEnd}
use Rattle.subvol_catalog.specs.Entries.{key_of}
use Rattle.subvol_catalog.specs.declared.key.Key.{Key}
use Rattle.full_send.specs.Adding.{Adds}
use Rattle.full_send.specs.Held.{with_holes}
use Rattle.full_send.specs.Orders.{form_of}
use Rattle.full_send.specs.Versions.{version_for}
use Rattle.full_send.specs.declared.entries.Order.{Order}
use Rattle.full_send.specs.declared.entries.Order.TheVariants as order
use Rattle.full_send.proofs.NamedSends.{nothing_stopped}
use Rattle.full_send.proofs.WholeStreams.{opening_text, sent_parts, restored_parts, end_some, end_some_receivable, opening_stops, edits_stop, stream_closed, stream_handed}
use Rattle.full_send.proofs.entries.write_stream.Goals as goal

-- The parts of the stream, over the values that a writer keeps.
module _ (image name : List ℕ) (k key : Key) (key_is : k ≡ key) (v w : ℕ) (version : v ≡ w) (s sub front : Subvolume (Option Place)) (is : s ≡ sub) (own : front ≡ sub) (of : w ≡ version_for front) (o : Order) where
  version_is : v ≡ version_for s
  version_is = version ∙ of ∙ ap version_for (own ∙ sym is)

  sent_whole : o ≡ order.Sent → opening_text name (key_of k) v canonical ++ (spelled_all canonical v (sent_edits (with_holes image s)) ++ canonical v End) ≡ form_of o name (key_of key) (with_holes image sub)
  sent_whole which =
      sent_parts name (key_of k) v image s version_is ∙ ap (λ (t : Subvolume (Option Place)). sent_stream name (key_of k) (with_holes image t)) is
      ∙ ap (λ (q : Key). sent_stream name (key_of q) (with_holes image sub)) key_is ∙ ap (λ (x : Order). form_of x name (key_of key) (with_holes image sub)) (sym which)

  restored_whole : o ≡ order.Restored → opening_text name (key_of k) v receivable ++ (spelled_all receivable v (restored_edits (with_holes image s)) ++ receivable v End) ≡ form_of o name (key_of key) (with_holes image sub)
  restored_whole which =
      restored_parts name (key_of k) v image s version_is ∙ ap (λ (t : Subvolume (Option Place)). restored_stream name (key_of k) (with_holes image t)) is
      ∙ ap (λ (q : Key). restored_stream name (key_of q) (with_holes image sub)) key_is ∙ ap (λ (x : Order). form_of x name (key_of key) (with_holes image sub)) (sym which)

-- No bytes wait at first.
from_none : (text old new : List ℕ) (first last : Option (List ℕ)) (result : Result (Unit {0}) StoreEnd) → old ≡ [] → Adds text old new first last result → Adds text [] new first last result
from_none text old new first last result none adds = subst (λ (l : List ℕ). Adds text l new first last result) none adds

pub returns-in_default-clause-written : goal.returns-in_default-clause-written
returns-in_default-clause-written g c tells = nothing_stopped c.args.order c.args.stored.now.name.now (key_of c.args.stored.now.key) (with_holes (g.D.Disk.seen c.args.disk.now) c.args.stored.now.sub.now) (g.O.Sink.taken c.args.out.now)

pub returns-in_err-opening-in-Sent-clause-written : goal.returns-in_err-opening-in-Sent-clause-written
returns-in_err-opening-in-Sent-clause-written g c tells =
    let image : List ℕ = g.D.Disk.seen c.args.disk.now in
    let w = c.new-writer.result in
    let whole = sent_whole image c.args.stored.now.name.now w.key c.args.stored.now.key c.new-writer.ensures.key w.spelling.version c.in-Ok.version c.new-writer.ensures.version w.tree.now c.args.stored.now.sub.now c.tree-tree.result.now (c.new-writer.ensures.tree ∙ c.tree-tree.ensures) c.tree-tree.ensures c.in-Ok.ensures c.args.order c.in-Sent.is in
    stream_handed _ _ _ c.from_residual.result _ c.from_residual.ensures.1
    (opening_stops _ _ _ _ whole (end_some w.spelling.version) c.opening.new.bytes _ _ _ (from_none _ _ c.opening.new.bytes _ _ (Err c.in_err-opening-in-Sent.field-0.0) c.new-bytes.ensures.empty c.in_err-opening-in-Sent.ensures.adds))

pub returns-in_err-sent-in-Sent-clause-written : goal.returns-in_err-sent-in-Sent-clause-written
returns-in_err-sent-in-Sent-clause-written g c tells =
    let image : List ℕ = g.D.Disk.seen c.args.disk.now in
    let w = c.new-writer.result in
    let whole = sent_whole image c.args.stored.now.name.now w.key c.args.stored.now.key c.new-writer.ensures.key w.spelling.version c.in-Ok.version c.new-writer.ensures.version w.tree.now c.args.stored.now.sub.now c.tree-tree.result.now (c.new-writer.ensures.tree ∙ c.tree-tree.ensures) c.tree-tree.ensures c.in-Ok.ensures c.args.order c.in-Sent.is in
    stream_handed _ _ _ c.from_residual-in_err-sent-in-Sent.result _ c.from_residual-in_err-sent-in-Sent.ensures.1
    (edits_stop _ _ _ _ whole (end_some w.spelling.version) c.opening.new.bytes c.sent.new.bytes _ _ _ _ (from_none _ _ _ _ _ (Ok c.in_ok-opening-in-Sent.field-0) c.new-bytes.ensures.empty c.in_ok-opening-in-Sent.ensures.adds) (c.in_err-sent-in-Sent.ensures.adds tells))

pub returns-in-Sent-clause-written : goal.returns-in-Sent-clause-written
returns-in-Sent-clause-written g c tells =
    let image : List ℕ = g.D.Disk.seen c.args.disk.now in
    let w = c.new-writer.result in
    let whole = sent_whole image c.args.stored.now.name.now w.key c.args.stored.now.key c.new-writer.ensures.key w.spelling.version c.in-Ok.version c.new-writer.ensures.version w.tree.now c.args.stored.now.sub.now c.tree-tree.result.now (c.new-writer.ensures.tree ∙ c.tree-tree.ensures) c.tree-tree.ensures c.in-Ok.ensures c.args.order c.in-Sent.is in
    stream_closed _ _ _ _ whole (end_some w.spelling.version) c.opening.new.bytes c.sent.new.bytes c.closing.new.bytes _ _ _ _ (from_none _ _ _ _ _ (Ok c.in_ok-opening-in-Sent.field-0) c.new-bytes.ensures.empty c.in_ok-opening-in-Sent.ensures.adds)
    (c.in_ok-sent-in-Sent.ensures.adds tells) c.closing.result _ c.closing.ensures.cause c.closing.ensures.nothing c.closing.ensures.all c.closing.ensures.adds

pub returns-in_err-opening-in-Restored-clause-written : goal.returns-in_err-opening-in-Restored-clause-written
returns-in_err-opening-in-Restored-clause-written g c tells =
    let image : List ℕ = g.D.Disk.seen c.args.disk.now in
    let w = c.new-writer-in-Restored.result in
    let whole = restored_whole image c.args.stored.now.name.now w.key c.args.stored.now.key c.new-writer-in-Restored.ensures.key w.spelling.version c.in-Ok.version c.new-writer-in-Restored.ensures.version w.tree.now c.args.stored.now.sub.now c.tree-tree.result.now (c.new-writer-in-Restored.ensures.tree ∙ c.tree-tree.ensures) c.tree-tree.ensures c.in-Ok.ensures c.args.order c.in-Restored.is in
    stream_handed _ _ _ c.from_residual-in_err-opening-in-Restored.result _ c.from_residual-in_err-opening-in-Restored.ensures.1
    (opening_stops _ _ _ _ whole (end_some_receivable w.spelling.version) c.opening-in-Restored.new.bytes _ _ _ (from_none _ _ c.opening-in-Restored.new.bytes _ _ (Err c.in_err-opening-in-Restored.field-0.0) c.new-bytes.ensures.empty c.in_err-opening-in-Restored.ensures.adds))

pub returns-in_err-restored-in-Restored-clause-written : goal.returns-in_err-restored-in-Restored-clause-written
returns-in_err-restored-in-Restored-clause-written g c tells =
    let image : List ℕ = g.D.Disk.seen c.args.disk.now in
    let w = c.new-writer-in-Restored.result in
    let whole = restored_whole image c.args.stored.now.name.now w.key c.args.stored.now.key c.new-writer-in-Restored.ensures.key w.spelling.version c.in-Ok.version c.new-writer-in-Restored.ensures.version w.tree.now c.args.stored.now.sub.now c.tree-tree.result.now (c.new-writer-in-Restored.ensures.tree ∙ c.tree-tree.ensures) c.tree-tree.ensures c.in-Ok.ensures c.args.order c.in-Restored.is in
    stream_handed _ _ _ c.from_residual-in_err-restored-in-Restored.result _ c.from_residual-in_err-restored-in-Restored.ensures.1
    (edits_stop _ _ _ _ whole (end_some_receivable w.spelling.version) c.opening-in-Restored.new.bytes c.restored.new.bytes _ _ _ _ (from_none _ _ _ _ _ (Ok c.in_ok-opening-in-Restored.field-0) c.new-bytes.ensures.empty c.in_ok-opening-in-Restored.ensures.adds) (c.in_err-restored-in-Restored.ensures.adds tells))

pub returns-clause-written : goal.returns-clause-written
returns-clause-written g c tells =
    let image : List ℕ = g.D.Disk.seen c.args.disk.now in
    let w = c.new-writer-in-Restored.result in
    let whole = restored_whole image c.args.stored.now.name.now w.key c.args.stored.now.key c.new-writer-in-Restored.ensures.key w.spelling.version c.in-Ok.version c.new-writer-in-Restored.ensures.version w.tree.now c.args.stored.now.sub.now c.tree-tree.result.now (c.new-writer-in-Restored.ensures.tree ∙ c.tree-tree.ensures) c.tree-tree.ensures c.in-Ok.ensures c.args.order c.in-Restored.is in
    stream_closed _ _ _ _ whole (end_some_receivable w.spelling.version) c.opening-in-Restored.new.bytes c.restored.new.bytes c.closing-in-Restored.new.bytes _ _ _ _ (from_none _ _ _ _ _ (Ok c.in_ok-opening-in-Restored.field-0) c.new-bytes.ensures.empty c.in_ok-opening-in-Restored.ensures.adds)
    (c.in_ok-restored-in-Restored.ensures.adds tells) c.closing-in-Restored.result _ c.closing-in-Restored.ensures.cause c.closing-in-Restored.ensures.nothing c.closing-in-Restored.ensures.all c.closing-in-Restored.ensures.adds
