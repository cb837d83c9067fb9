use Rattle.std.specs.Prelude.{◌≡◌, ℕ, ◌+◌, ◌-◌, ◌≤◌, Bool, true, false, List, length, take, drop, min, Option, IfSome}
use Rattle.std.specs.Option.{option_map}
use Rattle.std.proofs.Common.{sym, ap, subst, ◌∙◌, arith}
use Rattle.send_model.specs.Checksum.{crc_of}
use Rattle.send_model.specs.Store.{Store, Part, State}
use Rattle.group_replay.specs.declared.place.Place.{Place}
use Rattle.group_replay.specs.declared.kinds.Kind.{Kind}
use Rattle.group_replay.specs.declared.body.Frames.{Frames}
use Rattle.group_replay.specs.declared.body.BodyHead.{BodyHead}
use Rattle.group_replay.specs.Kept.{IsKept, AreKept}
use Rattle.group_replay.specs.Taking.{open_state}
use Rattle.group_replay.specs.Bodies.{FindsHead, TakesFrames}
use Rattle.group_replay.specs.Contents.{seal_len, in_front, MakesContent, IsBadContent}
use Rattle.group_replay.proofs.GroupBodies.{short_body, no_head, not_resumed, bad_edits, body_made, short_there, head_size, shown_behind, content_parts, right_sum, sum_right}
use Rattle.group_replay.proofs.KeptParts.{all_further, completed_kept, kept_further}
use Rattle.group_replay.proofs.body.take_body.Given.{Over}
use Rattle.group_replay.proofs.body.take_body.Goals.{After-seal_len}
use Rattle.group_replay.proofs.body.take_body.Goals as goal

pub overflow_add-stop : goal.overflow_add-stop
overflow_add-stop g c = omega (arith, c.size-size.ensures, c.size-size.type_inv, c.requires.within)

pub overflow_add-ahead : goal.overflow_add-ahead
overflow_add-ahead g c = omega (arith, c.size-size.ensures, c.size-size.type_inv, c.requires.within, c.if-end-group.false)

-- where the parts of the group stand
module _ (g : Over) (c : After-seal_len g) where
  there : g.D.Disk.tells → c.args.group.place.at + c.args.group.place.len ≤ length (g.D.Disk.seen c.args.disk.now)
  there tells = omega (arith, c.requires.within, c.requires.fits, g.met.D.Disk.sized c.args.disk.now tells)

  ends : c.args.group.place.at + c.args.group.place.len - c.seal_len.result + seal_len c.args.group.tag.is_sealed ≡ c.args.group.place.at + c.args.group.place.len
  ends = let long = c.requires.long in omega (arith, long, c.seal_len.ensures)

  begun : c.args.group.place.at ≤ c.args.group.place.at + c.args.group.place.len - c.seal_len.result
  begun = let long = c.requires.long in omega (arith, long, c.seal_len.ensures)

  eighteen : 18 ≤ c.args.group.place.at + c.args.group.place.len - c.seal_len.result - c.args.group.place.at → 18 ≤ min c.args.group.place.len 524_288
  eighteen long = omega (arith, long)

pub returns-then-end-group-clause-taken : goal.returns-then-end-group-clause-taken
returns-then-end-group-clause-taken g c tells right =
    let at = (goal.at.returns-then-end-group-clause-taken g c).After-seal_len in
    let seen = g.D.Disk.seen c.args.disk.now in
    let group = c.args.group.place in
    let sealed = c.args.group.tag.is_sealed in
    let bytes : List ℕ = drop 1 (in_front sealed (take group.len (drop group.at seen))) in
    subst (λ (k : Kind). IsBadContent k group.at bytes c.args.core.now) (sym c.requires.kind)
    (short_body group.at bytes c.args.core.now
    (short_there sealed group.at group.len (group.at + group.len - c.seal_len.result) seen (there g at tells) (ends g at) (begun g at) c.if-end-group.true))

pub returns-in_default-clause-taken : goal.returns-in_default-clause-taken
returns-in_default-clause-taken g c tells right =
    let at = (goal.at.returns-in_default-clause-taken g c).After-seal_len in
    let seen = g.D.Disk.seen c.args.disk.now in
    let group = c.args.group.place in
    let sealed = c.args.group.tag.is_sealed in
    let window = c.args.window.now in
    let end : ℕ = group.at + group.len - c.seal_len.result in
    let bytes : List ℕ = drop 1 (in_front sealed (take group.len (drop group.at seen))) in
    let n : ℕ = min group.len 524_288 in
    let size = head_size sealed group.at group.len end seen (there g at tells) (ends g at) (begun g at) window n (c.requires.shows tells) (eighteen g at c.if-end-group.false) c.requires.room in
    let parts = content_parts sealed group.at group.len end seen (there g at tells) (ends g at) (begun g at) window n (c.requires.shows tells) (eighteen g at c.if-end-group.false) c.requires.room c.if-end-group.false in
    subst (λ (k : Kind). IsBadContent k group.at bytes c.args.core.now) (sym c.requires.kind)
    (no_head group.at bytes c.args.core.now (take 17 (drop 1 window)) (take (end - (group.at + 18)) (drop (group.at + 18) seen)) size parts
    (subst (λ (o : Option BodyHead). FindsHead (take 17 (drop 1 window)) o) c.in_default.is c.body_head.ensures.found))

pub returns-in_default-2-clause-taken : goal.returns-in_default-2-clause-taken
returns-in_default-2-clause-taken g c tells right =
    let at = (goal.at.returns-in_default-2-clause-taken g c).After-seal_len in
    let seen = g.D.Disk.seen c.args.disk.now in
    let group = c.args.group.place in
    let sealed = c.args.group.tag.is_sealed in
    let window = c.args.window.now in
    let end : ℕ = group.at + group.len - c.seal_len.result in
    let bytes : List ℕ = drop 1 (in_front sealed (take group.len (drop group.at seen))) in
    let n : ℕ = min group.len 524_288 in
    let size = head_size sealed group.at group.len end seen (there g at tells) (ends g at) (begun g at) window n (c.requires.shows tells) (eighteen g at c.if-end-group.false) c.requires.room in
    let parts = content_parts sealed group.at group.len end seen (there g at tells) (ends g at) (begun g at) window n (c.requires.shows tells) (eighteen g at c.if-end-group.false) c.requires.room c.if-end-group.false in
    let found = subst (λ (o : Option BodyHead). FindsHead (take 17 (drop 1 window)) o) c.in-Some.is c.body_head.ensures.found in
    subst (λ (k : Kind). IsBadContent k group.at bytes c.args.core.now) (sym c.requires.kind)
    (not_resumed group.at bytes c.args.core.now (take 17 (drop 1 window)) (take (end - (group.at + 18)) (drop (group.at + 18) seen)) size parts c.in-Some.head found
    (ap (λ (o : Option (Part (Option Place))). option_map (open_state c.args.core.now) o) (sym c.in_default-2.is) ∙ c.in_ok-part.ensures.resumed))

pub take_frames-requires-clause-shows : goal.take_frames-requires-clause-shows
take_frames-requires-clause-shows g c tells =
    let at = (goal.at.take_frames-requires-clause-shows g c).After-seal_len in
    let seen = g.D.Disk.seen c.args.disk.now in
    let group = c.args.group.place in
    let window = c.args.window.now in
    let n : ℕ = min group.len 524_288 in
    subst (λ (k : ℕ). take (k - 18) (drop 18 window) ≡ take (k - 18) (drop (group.at + 18) seen)) (sym c.min.ensures)
    (shown_behind c.args.group.tag.is_sealed group.at group.len (group.at + group.len - c.seal_len.result) seen (there g at tells) (ends g at) (begun g at) window n (c.requires.shows tells) (eighteen g at c.if-end-group.false) c.requires.room)

-- what became of the frames
frames_taken : (frames : Frames) (at used have n m : ℕ) (seen : List ℕ) (s u : State (Option Place)) (t : Bool) → n ≡ m → TakesFrames frames (record { at = at; used = used; have = have; sum = n }) seen s u t → TakesFrames frames (record { at = at; used = used; have = have; sum = m }) seen s u t
frames_taken frames at used have n m seen s u t same took = subst (λ (k : ℕ). TakesFrames frames (record { at = at; used = used; have = have; sum = k }) seen s u t) same took

pub returns-then-not-branch-clause-taken : goal.returns-then-not-branch-clause-taken
returns-then-not-branch-clause-taken g c tells right =
    let at = (goal.at.returns-then-not-branch-clause-taken g c).After-seal_len in
    let seen = g.D.Disk.seen c.args.disk.now in
    let group = c.args.group.place in
    let sealed = c.args.group.tag.is_sealed in
    let window = c.args.window.now in
    let end : ℕ = group.at + group.len - c.seal_len.result in
    let bytes : List ℕ = drop 1 (in_front sealed (take group.len (drop group.at seen))) in
    let n : ℕ = min group.len 524_288 in
    let head = c.in-Some.head in
    let part = c.in-Some-2.part in
    let size = head_size sealed group.at group.len end seen (there g at tells) (ends g at) (begun g at) window n (c.requires.shows tells) (eighteen g at c.if-end-group.false) c.requires.room in
    let parts = content_parts sealed group.at group.len end seen (there g at tells) (ends g at) (begun g at) window n (c.requires.shows tells) (eighteen g at c.if-end-group.false) c.requires.room c.if-end-group.false in
    let found = subst (λ (o : Option BodyHead). FindsHead (take 17 (drop 1 window)) o) c.in-Some.is c.body_head.ensures.found in
    let again = ap (λ (o : Option (Part (Option Place))). option_map (open_state c.args.core.now) o) (sym c.in-Some-2.is) ∙ c.in_ok-part.ensures.resumed in
    let frames : Frames = record { version = head.version; end = end; stop = group.at + group.len } in
    let bad = frames_taken frames (group.at + 18) 18 c.min.result c.update.result (crc_of 0 (take 18 window)) seen (open_state c.args.core.now part) (open_state c.args.core.now c.take_frames.new.part) false c.update.ensures
    (subst (λ (b : Bool). TakesFrames frames (record { at = group.at + 18; used = 18; have = c.min.result; sum = c.update.result }) seen (open_state c.args.core.now part) (open_state c.args.core.now c.take_frames.new.part) b) c.if-not-branch.true (c.in_ok-take_frames.ensures.taken tells)) in
    subst (λ (k : Kind). IsBadContent k group.at bytes c.args.core.now) (sym c.requires.kind)
    (bad_edits group.at bytes c.args.core.now (take 17 (drop 1 window)) (take (end - (group.at + 18)) (drop (group.at + 18) seen)) size parts head found part again
    (bad (sum_right sealed group.at group.len end seen (there g at tells) (ends g at) (begun g at) window n (c.requires.shows tells) (eighteen g at c.if-end-group.false) c.requires.room c.if-end-group.false right)))

pub returns-clause-taken : goal.returns-clause-taken
returns-clause-taken g c tells =
    let at = (goal.at.returns-clause-taken g c).After-seal_len in
    let seen = g.D.Disk.seen c.args.disk.now in
    let group = c.args.group.place in
    let sealed = c.args.group.tag.is_sealed in
    let window = c.args.window.now in
    let end : ℕ = group.at + group.len - c.seal_len.result in
    let bytes : List ℕ = drop 1 (in_front sealed (take group.len (drop group.at seen))) in
    let n : ℕ = min group.len 524_288 in
    let head = c.in-Some.head in
    let part = c.in-Some-2.part in
    let done = c.take_frames.new.part in
    let size = head_size sealed group.at group.len end seen (there g at tells) (ends g at) (begun g at) window n (c.requires.shows tells) (eighteen g at c.if-end-group.false) c.requires.room in
    let parts = content_parts sealed group.at group.len end seen (there g at tells) (ends g at) (begun g at) window n (c.requires.shows tells) (eighteen g at c.if-end-group.false) c.requires.room c.if-end-group.false in
    let found = subst (λ (o : Option BodyHead). FindsHead (take 17 (drop 1 window)) o) c.in-Some.is c.body_head.ensures.found in
    let again = ap (λ (o : Option (Part (Option Place))). option_map (open_state c.args.core.now) o) (sym c.in-Some-2.is) ∙ c.in_ok-part.ensures.resumed in
    let frames : Frames = record { version = head.version; end = end; stop = group.at + group.len } in
    let took = frames_taken frames (group.at + 18) 18 c.min.result c.update.result (crc_of 0 (take 18 window)) seen (open_state c.args.core.now part) (open_state c.args.core.now done) true c.update.ensures
    (subst (λ (b : Bool). TakesFrames frames (record { at = group.at + 18; used = 18; have = c.min.result; sum = c.update.result }) seen (open_state c.args.core.now part) (open_state c.args.core.now done) b) c.if-not-branch.false (c.in_ok-take_frames.ensures.taken tells)) in (
      right_sum sealed group.at group.len end seen (there g at tells) (ends g at) (begun g at) window n (c.requires.shows tells) (eighteen g at c.if-end-group.false) c.requires.room c.if-end-group.false took.1,
      subst (λ (k : Kind). MakesContent k group.at bytes c.args.core.now c.complete.new.self) (sym c.requires.kind)
          (body_made group.at bytes c.args.core.now (take 17 (drop 1 window)) (take (end - (group.at + 18)) (drop (group.at + 18) seen)) size parts head found part again done c.complete.new.self took.0 c.complete.ensures),
    )

pub returns-clause-kept : goal.returns-clause-kept
returns-clause-kept g c all same =
    let group = c.args.group.place in
    let stop : ℕ = group.at + group.len in
    let end : ℕ = stop - c.seal_len.result in
    let long = c.requires.long in
    let first : AreKept (group.at + 18) c.args.core.now = all_further group.at (group.at + 18) (omega arith) c.args.core.now all in
    let own : IsKept (group.at + 18) c.in-Some-2.part.subvolume =
    kept_further group.at (group.at + 18) (omega arith) c.in-Some-2.part.subvolume
    (subst (λ (o : Option (Part (Option Place))). IfSome o (λ p. IsKept group.at p.subvolume)) c.in-Some-2.is (c.in_ok-part.ensures.kept group.at all)) in
    let done : IsKept end c.take_frames.new.part.subvolume = c.in_ok-take_frames.ensures.kept first own c.if-not-branch.false in
    subst (λ (s : Store (Option Place)). AreKept stop s) (sym c.complete.ensures)
    (completed_kept stop c.take_frames.new.part.key.uuid c.take_frames.new.part.subvolume c.args.core.now
    (kept_further end stop (omega arith) c.take_frames.new.part.subvolume done)
    (all_further group.at stop (omega arith) c.args.core.now all))
