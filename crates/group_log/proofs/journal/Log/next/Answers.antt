use Rattle.std.proofs.Common.{◌<◌, ℕ, get_or, refl, sym, ◌∙◌, ap, subst, arith}
use Rattle.group_log.specs.State.{LogState}
use Rattle.group_log.specs.Shown.{shown}
use Rattle.group_log.specs.Journal.{Reads}
use Rattle.group_log.proofs.GroupReads.{cut_behind, no_gate, closed_rests, no_length, no_body, whole_group}
use Rattle.group_log.proofs.journal.Log.next.Goals as goal

pub returns-then-left-eq0-clause-not_store : goal.returns-then-left-eq0-clause-not_store
returns-then-left-eq0-clause-not_store g c tells header bodies reads is =
    let read = subst (λ (l : LogState). Reads header bodies l (g.D.Disk.seen c.args.disk.now) (g.D.Disk.pending c.args.disk.now)) (sym c.self.view_is) reads in
    let size = ap (λ (l : LogState). l.size) c.self.view_is ∙ sym c.requires ∙ g.met.D.Disk.sized c.args.disk.now tells in
    cut_behind header bodies _ _ _ reads _ (ap (λ (l : LogState). l.gate) c.self.view_is) (no_gate header bodies (shown c.self.inside) _ _ read size (sym c.saturating_sub-left.ensures ∙ c.if-left-eq0.true))

pub returns-then-gate-ne-OPEN-clause-found : goal.returns-then-gate-ne-OPEN-clause-found
returns-then-gate-ne-OPEN-clause-found g c tells header bodies reads =
    let read = subst (λ (l : LogState). Reads header bodies l (g.D.Disk.seen c.args.disk.now) (g.D.Disk.pending c.args.disk.now)) (sym c.self.view_is) reads in
    let size = ap (λ (l : LogState). l.size) c.self.view_is ∙ sym c.requires ∙ g.met.D.Disk.sized c.args.disk.now tells in
    closed_rests header bodies (shown c.self.inside) _ _ read size (λ none. c.if-left-eq0.false (c.saturating_sub-left.ensures ∙ none))
    c.fill.new.buf c.fill.auto.buf (c.in_ok-fill.ensures.bytes tells) _ _ _ refl refl refl refl (c.fill.ensures.same tells).seen (c.fill.ensures.same tells).pending c.if-gate-ne-OPEN.true

pub returns-then-left-lt-GROUP_HEAD-clause-not_store : goal.returns-then-left-lt-GROUP_HEAD-clause-not_store
returns-then-left-lt-GROUP_HEAD-clause-not_store g c tells header bodies reads is =
    let read = subst (λ (l : LogState). Reads header bodies l (g.D.Disk.seen c.args.disk.now) (g.D.Disk.pending c.args.disk.now)) (sym c.self.view_is) reads in
    let size = ap (λ (l : LogState). l.size) c.self.view_is ∙ sym c.requires ∙ g.met.D.Disk.sized c.args.disk.now tells in
    cut_behind header bodies _ _ _ reads _ (ap (λ (l : LogState). l.gate) c.self.view_is) (no_length header bodies (shown c.self.inside) _ _ read size (λ none. c.if-left-eq0.false (c.saturating_sub-left.ensures ∙ none))
    c.fill.new.buf c.fill.auto.buf (c.in_ok-fill.ensures.bytes tells) c.if-gate-ne-OPEN.false (omega arith))

pub returns-then-left-len-clause-not_store : goal.returns-then-left-len-clause-not_store
returns-then-left-len-clause-not_store g c tells header bodies reads is =
    let read = subst (λ (l : LogState). Reads header bodies l (g.D.Disk.seen c.args.disk.now) (g.D.Disk.pending c.args.disk.now)) (sym c.self.view_is) reads in
    let size = ap (λ (l : LogState). l.size) c.self.view_is ∙ sym c.requires ∙ g.met.D.Disk.sized c.args.disk.now tells in
    cut_behind header bodies _ _ _ reads _ (ap (λ (l : LogState). l.gate) c.self.view_is) (no_body header bodies (shown c.self.inside) _ _ read size (λ none. c.if-left-eq0.false (c.saturating_sub-left.ensures ∙ none))
    c.fill.new.buf c.fill.auto.buf (c.in_ok-fill.ensures.bytes tells) c.if-gate-ne-OPEN.false (g.D.Disk.seen c.fill.new.disk) (c.fill.ensures.same tells).seen
    c.fill-2.new.buf c.fill-2.auto.buf (c.in_ok-fill-2.ensures.bytes tells) c.from_le_bytes-len.result c.from_le_bytes-len.ensures (omega arith))

pub returns-clause-found : goal.returns-clause-found
returns-clause-found g c tells header bodies reads =
    let read = subst (λ (l : LogState). Reads header bodies l (g.D.Disk.seen c.args.disk.now) (g.D.Disk.pending c.args.disk.now)) (sym c.self.view_is) reads in
    let size = ap (λ (l : LogState). l.size) c.self.view_is ∙ sym c.requires ∙ g.met.D.Disk.sized c.args.disk.now tells in
    let are_bytes : (i : ℕ) → get_or c.fill-2.new.buf i 0 < 256 = c.fill-2.ensures.are_bytes in
    whole_group header bodies (shown c.self.inside) _ _ read size (λ none. c.if-left-eq0.false (c.saturating_sub-left.ensures ∙ none))
    c.fill.new.buf c.fill.auto.buf (c.in_ok-fill.ensures.bytes tells) c.if-gate-ne-OPEN.false (g.D.Disk.seen c.fill.new.disk) (c.fill.ensures.same tells).seen
    c.fill-2.new.buf c.fill-2.auto.buf (c.in_ok-fill-2.ensures.bytes tells) c.from_le_bytes-len.result c.from_le_bytes-len.ensures
    are_bytes c.from_le_bytes-len.type_inv (omega arith) (omega arith) _ _ _ _ refl refl refl refl read.stage
    ((c.fill-2.ensures.same tells).seen ∙ (c.fill.ensures.same tells).seen) ((c.fill-2.ensures.same tells).pending ∙ (c.fill.ensures.same tells).pending) refl refl refl
