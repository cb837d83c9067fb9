-- A group of edits, by the places of its parts on a disk.
use Rattle.std.specs.Prelude.{◌≡◌, ℕ, ◌+◌, ◌-◌, ◌<◌, ◌≤◌, Bool, true, false, List, [], ◌∷◌, ◌++◌, length, take, drop, Option, None, Some}
use Rattle.std.specs.List.{AllByRecursion}
use Rattle.std.specs.Option.{option_map}
use Rattle.std.specs.Int.{w32, to_le_bytes}
use Rattle.std.proofs.Common.{refl, sym, ap, subst, ◌∙◌, arith, length-append, length-take, length-drop, append_assoc, take-take, drop-drop}
use Rattle.std.proofs.lemmas.List.{take_at, drop_at, drop-take, drop-append-le}
use Rattle.send_model.specs.Checksum.{crc_of}
use Rattle.send_model.specs.Command.{Command}
use Rattle.send_model.specs.Spelling.{canonical_all}
use Rattle.send_model.specs.Store.{Store, Part, State, with_contents, completed}
use Rattle.store_model.specs.Stored.{Mark, Body, Drop, IsEdit, IsContent, frames_at, resumed, edits_made, made}
use Rattle.group_replay.specs.declared.place.Place.{Place}
use Rattle.group_replay.specs.declared.kinds.Kind.TheVariants as kind
use Rattle.group_replay.specs.declared.body.BodyHead.{BodyHead}
use Rattle.group_replay.specs.Taking.{as_runs, open_state}
use Rattle.group_replay.specs.Edits.{AreEdits, AreBadEdits}
use Rattle.group_replay.specs.Bodies.{FindsHead}
use Rattle.group_replay.specs.Contents.{seal_len, in_front, behind, SealIsRight, MakesContent, IsBadContent}
use Rattle.group_replay.proofs.FrameRuns.{two_parts, sums_join}
use Rattle.group_replay.proofs.GroupContents.{first_of}

-- ---- what edits say

-- lists of one length that begin two joined lists
fronts_same : (a b x y : List ℕ) → length a ≡ length b → a ++ x ≡ b ++ y → (a ≡ b) × (x ≡ y)
fronts_same a b x y size same = (
  sym (take_at a x (length b) size) ∙ ap (take (length b)) same ∙ take_at b y (length b) refl,
  sym (drop_at a x (length b) size) ∙ ap (drop (length b)) same ∙ drop_at b y (length b) refl,
)

one_same : (x y : ℕ) → x ∷ [] ≡ y ∷ [] → x ≡ y
one_same x y same = ap first_of same

module _ (at : ℕ) (bytes : List ℕ) (old : Store (Option Place)) where
  bad_body : ((uuid : List ℕ) (version : ℕ) (commands : List Command) → IsContent (Body uuid version commands) → uuid ++ version ∷ canonical_all version commands ≡ bytes → made None as_runs at old (Body uuid version commands) ≡ None)
      → IsBadContent kind.Body at bytes old
  bad_body bad (Mark head) same lawful spelled = cc
  bad_body bad (Body uuid version commands) same lawful spelled = bad uuid version commands lawful spelled
  bad_body bad (Drop name) same lawful spelled = cc

  -- too few bytes for a UUID and a version
  pub short_body : length bytes < 17 → IsBadContent kind.Body at bytes old
  short_body few = bad_body (λ uuid version commands lawful spelled.
      absurd (omega (arith, few, ap length spelled, length-append uuid (version ∷ canonical_all version commands), lawful.0)))

  module _ (front rest : List ℕ) (size : length front ≡ 17) (parts : bytes ≡ front ++ rest) where
    head_same : (uuid : List ℕ) (version : ℕ) (cs : List ℕ) → length uuid ≡ 16 → uuid ++ version ∷ cs ≡ bytes → (uuid ++ version ∷ [] ≡ front) × (cs ≡ rest)
    head_same uuid version cs sixteen spelled =
        fronts_same (uuid ++ version ∷ []) front cs rest (omega (arith, length-append uuid (version ∷ []), sixteen, size)) (append_assoc uuid (version ∷ []) cs ∙ spelled ∙ parts)

    -- no version that is known
    pub no_head : FindsHead front None → IsBadContent kind.Body at bytes old
    no_head none = bad_body (λ uuid version commands lawful spelled.
        absurd (none uuid version lawful.0 lawful.1 (sym (head_same uuid version (canonical_all version commands) lawful.0 spelled).0)))

    module _ (head : BodyHead) (found : FindsHead front (Some head)) where
      all_same : (uuid : List ℕ) (version : ℕ) (cs : List ℕ) → length uuid ≡ 16 → uuid ++ version ∷ cs ≡ bytes → (uuid ≡ head.uuid) × (version ≡ head.version) × (cs ≡ rest)
      all_same uuid version cs sixteen spelled =
          let split = head_same uuid version cs sixteen spelled in
          let same = fronts_same uuid head.uuid (version ∷ []) (head.version ∷ []) (sixteen ∙ sym found.1) (split.0 ∙ found.0) in
          (same.0, one_same version head.version same.1, split.1)

      -- no entry that is unfinished
      pub not_resumed : None ≡ resumed old head.uuid → IsBadContent kind.Body at bytes old
      unfolding made
      not_resumed none = bad_body (λ uuid version commands lawful spelled.
          let same = all_same uuid version (canonical_all version commands) lawful.0 spelled in
          ap (λ (o : Option (State (Option Place))). elim o as (λ x. Option (Store (Option Place))) [ None ↦ None | Some state ↦ option_map completed (edits_made None as_runs version (frames_at at) state commands) ])
          (ap (resumed old) same.0 ∙ sym none))

      module _ (part : Part (Option Place)) (again : Some (open_state old part) ≡ resumed old head.uuid) where
        body_is : (uuid : List ℕ) (version : ℕ) (commands : List Command) → uuid ≡ head.uuid
            → made None as_runs at old (Body uuid version commands) ≡ option_map completed (edits_made None as_runs version (frames_at at) (open_state old part) commands)
        unfolding made
        body_is uuid version commands same =
            ap (λ (o : Option (State (Option Place))). elim o as (λ x. Option (Store (Option Place))) [ None ↦ None | Some state ↦ option_map completed (edits_made None as_runs version (frames_at at) state commands) ])
            (ap (resumed old) same ∙ sym again)

        -- edits that are at fault
        pub bad_edits : AreBadEdits head.version (at + 18) rest (open_state old part) → IsBadContent kind.Body at bytes old
        bad_edits bad = bad_body (λ uuid version commands lawful spelled.
            let same = all_same uuid version (canonical_all version commands) lawful.0 spelled in
            let v : version ≡ head.version = same.1 in
            body_is uuid version commands same.0
            ∙ ap (λ (o : Option (State (Option Place))). option_map completed o)
            (ap (λ (n : ℕ). edits_made None as_runs n (frames_at at) (open_state old part) commands) v
            ∙ bad commands (subst (λ (n : ℕ). AllByRecursion (IsEdit n) commands) v lawful.2) (sym same.2 ∙ ap (λ (n : ℕ). canonical_all n commands) v)))

        -- edits that are taken
        pub body_made : (done : Part (Option Place)) (new : Store (Option Place)) → AreEdits head.version (at + 18) rest (open_state old part) (open_state old done) → new ≡ with_contents done.key.uuid done.subvolume old → MakesContent kind.Body at bytes old new
        unfolding completed
        body_made done new edits is = record {
          content = Body head.uuid head.version edits.commands;
          sort_is = refl;
          lawful = (found.1, found.2, edits.lawful);
          spelled = sym (append_assoc head.uuid (head.version ∷ []) (canonical_all head.version edits.commands))
              ∙ (λ i. sym found.0 i ++ sym edits.spelled i) ∙ sym parts;
          makes = body_is head.uuid head.version edits.commands refl ∙ ap (λ (o : Option (State (Option Place))). option_map completed o) edits.makes ∙ ap (λ (s : Store (Option Place)). Some s) (sym is);
        }

-- ---- where its parts stand

module _ (is_sealed : Bool) (at len end : ℕ) (seen : List ℕ) (there : at + len ≤ length seen) (ends : end + seal_len is_sealed ≡ at + len) (begun : at ≤ end) where
  abbrev body : List ℕ
  body = take len (drop at seen)

  size : length body ≡ len
  size = length-take len (drop at seen) ∙ omega (arith, there, length-drop at seen)

  fewer : length body - seal_len is_sealed ≡ end - at
  fewer = omega (arith, size, ends, begun)

  pub front_there : in_front is_sealed body ≡ take (end - at) (drop at seen)
  front_there = ap (λ (n : ℕ). take n body) fewer ∙ take-take (end - at) len (drop at seen) (omega (arith, ends, begun))

  behind_there : behind is_sealed body ≡ take (seal_len is_sealed) (drop end seen)
  behind_there =
      ap (λ (n : ℕ). drop n body) fewer
      ∙ ap (λ (n : ℕ). drop (end - at) (take n (drop at seen))) (let e : len ≡ (end - at) + seal_len is_sealed = omega (arith, ends, begun) in e)
      ∙ drop-take (end - at) (seal_len is_sealed) (drop at seen)
      ∙ ap (take (seal_len is_sealed)) (drop-drop (end - at) at seen ∙ ap (λ (n : ℕ). drop n seen) (let e : at + (end - at) ≡ end = omega (arith, begun) in e))

  -- a checksum that is right, by where it stands
  sum_there : (at + len ≡ end + 4 → take 4 (drop end seen) ≡ to_le_bytes w32 (crc_of 0 (take (end - at) (drop at seen)))) → SealIsRight is_sealed body
  sum_there right = λ e.
      let four : seal_len is_sealed ≡ 4 = ap seal_len e in
      behind_there ∙ ap (λ (n : ℕ). take n (drop end seen)) four ∙ right (omega (arith, ends, four)) ∙ ap (λ (l : List ℕ). to_le_bytes w32 (crc_of 0 l)) (sym front_there)

  has_four : at + len ≡ end + 4 → is_sealed ≡ true
  has_four far = by_test is_sealed (omega (arith, ends, far))
    where
      by_test : (b : Bool) → seal_len b ≡ 4 → b ≡ true
      by_test true e = refl
      by_test false e = cc

  sum_back : SealIsRight is_sealed body → at + len ≡ end + 4 → take 4 (drop end seen) ≡ to_le_bytes w32 (crc_of 0 (take (end - at) (drop at seen)))
  sum_back right far =
      let sealed_is : is_sealed ≡ true = has_four far in
      let four : seal_len is_sealed ≡ 4 = ap seal_len sealed_is in
      ap (λ (n : ℕ). take n (drop end seen)) (sym four) ∙ sym behind_there ∙ right sealed_is ∙ ap (λ (l : List ℕ). to_le_bytes w32 (crc_of 0 l)) front_there

  -- too short for a UUID and a version
  pub short_there : end - at < 18 → length (drop 1 (in_front is_sealed body)) < 17
  short_there few = omega (arith, few, length-drop 1 (in_front is_sealed body), ap length front_there, length-take (end - at) (drop at seen))

  -- where a window shows its first bytes
  module _ (window : List ℕ) (count : ℕ) (shows : take count window ≡ take count (drop at seen)) (eighteen : 18 ≤ count) (room : count ≤ length window) where
    first_shown : take 18 window ≡ take 18 (drop at seen)
    first_shown = sym (take-take 18 count window eighteen) ∙ ap (take 18) shows ∙ take-take 18 count (drop at seen) eighteen

    pub head_size : length (take 17 (drop 1 window)) ≡ 17
    head_size = omega (arith, length-take 17 (drop 1 window), length-drop 1 window, room, eighteen)

    head_shown : take 17 (drop 1 window) ≡ drop 1 (take 18 (drop at seen))
    head_shown = sym (drop-take 1 17 window) ∙ ap (drop 1) first_shown

    pub shown_behind : take (count - 18) (drop 18 window) ≡ take (count - 18) (drop (at + 18) seen)
    shown_behind =
        let parts : count ≡ 18 + (count - 18) = omega (arith, eighteen) in
        let after : (l : List ℕ) → take (count - 18) (drop 18 l) ≡ drop 18 (take count l) = λ l. sym (drop-take 18 (count - 18) l) ∙ ap (λ (n : ℕ). drop 18 (take n l)) (sym parts) in
        after window ∙ ap (drop 18) shows ∙ sym (after (drop at seen)) ∙ ap (take (count - 18)) (drop-drop 18 at seen)

    module _ (long : 18 ≤ end - at) where
      abbrev frames : List ℕ
      frames = take (end - (at + 18)) (drop (at + 18) seen)

      step : at + 18 - at ≡ 18
      step = omega arith

      whole : take (end - at) (drop at seen) ≡ take (at + 18 - at) (drop at seen) ++ frames
      whole = two_parts at (at + 18) end seen (omega arith) (omega (arith, long))

      head_first : take (at + 18 - at) (drop at seen) ≡ take 18 (drop at seen)
      head_first = ap (λ (n : ℕ). take n (drop at seen)) step

      pub content_parts : drop 1 (in_front is_sealed body) ≡ take 17 (drop 1 window) ++ frames
      content_parts =
          ap (drop 1) (front_there ∙ whole ∙ ap (λ (l : List ℕ). l ++ frames) head_first)
          ∙ drop-append-le 1 (take 18 (drop at seen)) frames (omega (arith, length-take 18 (drop at seen), length-drop at seen, there, long, ends, begun))
          ∙ ap (λ (l : List ℕ). l ++ frames) (sym head_shown)

      sum_joined : crc_of (crc_of 0 (take 18 window)) frames ≡ crc_of 0 (take (end - at) (drop at seen))
      sum_joined =
          ap (λ (l : List ℕ). crc_of (crc_of 0 l) frames) (first_shown ∙ sym head_first)
          ∙ sums_join at (at + 18) end seen (omega arith) (omega (arith, long)) 0

      -- the checksum of the group by that of its head and its frames
      pub right_sum : (at + len ≡ end + 4 → take 4 (drop end seen) ≡ to_le_bytes w32 (crc_of (crc_of 0 (take 18 window)) frames)) → SealIsRight is_sealed body
      right_sum right = sum_there (λ far. right far ∙ ap (λ (n : ℕ). to_le_bytes w32 n) sum_joined)

      pub sum_right : SealIsRight is_sealed body → at + len ≡ end + 4 → take 4 (drop end seen) ≡ to_le_bytes w32 (crc_of (crc_of 0 (take 18 window)) frames)
      sum_right right far = sum_back right far ∙ ap (λ (n : ℕ). to_le_bytes w32 n) (sym sum_joined)
