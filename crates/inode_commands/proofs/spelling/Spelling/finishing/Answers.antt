use Rattle.std.proofs.Common.{◌==◌, ◌++◌, ◌∷◌, ◌&&◌, [], map, ◌∙◌, List, ℕ, if◌then◌else◌}
use Rattle.send_model.specs.Command.{Chown, Chmod, SetXattr, Utimes}
use Rattle.snapshot_model.specs.Sent.{flags_commands}
use Rattle.snapshot_model.specs.Restored.{is_link_kind, mode_commands, other_xattrs}
use Rattle.inode_commands.specs.Spelled.{spelled_all}
use Rattle.inode_commands.proofs.Joined.{five_all, if_done}
use Rattle.inode_commands.proofs.spelling.Spelling.finishing.Goals as goal

pub returns : goal.returns
returns g c =
    let F = g.F.Form.spelled in
    let v : ℕ = c.args.self.now.version in
    let path : List ℕ = c.args.path.now in
    let inode = c.args.inode.now in
    record {
      added = if_done c.times.result (λ last.
          five_all F v (Chown inode.uid inode.gid path) (mode_commands path inode) (map (λ e. SetXattr e.0 e.1 path) (other_xattrs inode.xattrs)) (flags_commands path inode.flags) (Utimes inode.mtime inode.atime path)
          c.args.to.now c.owners.new.to c.mode_unless_plain.new.to c.xattrs_by.new.to c.flags-2.new.to c.times.new.to
          (c.in_ok-owners.ensures.added ∙ (λ i. c.args.to.now ++ F v (Chown (c.uid.ensures i) (c.gid.ensures i) path)))
          (c.in_ok-mode_unless_plain.ensures.added ∙ (λ i. c.owners.new.to ++ spelled_all F v (if is_link_kind (c.kind.ensures i) && (c.mode.ensures i == 0o777) then [] else Chmod (c.mode.ensures i) path ∷ [])))
          (c.in_ok-xattrs_by.ensures.added ∙ (λ i. c.mode_unless_plain.new.to ++ spelled_all F v (map (λ e. SetXattr e.0 e.1 path) (other_xattrs (c.xattrs.ensures i)))))
          (c.in_ok-flags.ensures.added ∙ (λ i. c.xattrs_by.new.to ++ spelled_all F v (flags_commands path (c.flags.ensures i))))
          (last ∙ (λ i. c.flags-2.new.to ++ F v (Utimes (c.mtime.ensures i) (c.atime.ensures i) path)))) c.times.ensures.added;
    }
