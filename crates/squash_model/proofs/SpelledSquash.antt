-- What is squashed from commands that a version can say it can say too.
use Rattle.std.specs.Prelude.{◌≡◌, ℕ, suc, ◌+◌, ◌-◌, ◌^◌, ◌<◌, ◌≤◌, ◌==◌, Bool, true, false, not, ◌&&◌, List, [], ◌∷◌, ◌++◌, map, length, Option, None, Some, nat_le, nat_lt, if◌then◌else◌}
use Rattle.std.specs.List.{AllByRecursion, sum_by}
use Rattle.std.specs.Int.{w64, to_le_bytes}
use Rattle.std.proofs.Common.{refl, sym, ap, subst, ◌∙◌, arith, eqb-true, length-append, append_assoc, ⊎_elim}
use Rattle.std.proofs.lemmas.Bool.{leb-true}
use Rattle.std.proofs.lemmas.List.Sums.{sum_by-append, sum_by-cons}
use Rattle.send_model.specs.Attribute.{IsBytes, takes_rest, PATH, FILE_OFFSET, DATA}
use Rattle.send_model.specs.Command.{Command, Write, Truncate, End, TRUNCATE, row, kind_of_number}
use Rattle.send_model.specs.Spelling.{Attribute, attribute_bytes, body_of, attributes_of, IsKnown, IsSpellable}
use Rattle.send_model.specs.Edit.{greatest_end, edit}
use Rattle.send_model.specs.Store.{Part, State, Stepped, step}
use Rattle.send_model.specs.Receive.{bytes_of}
use Rattle.send_model.specs.Counts.{is_end, streams}
use Rattle.send_model.specs.Laws.{CanWrite}
use Rattle.send_model.proofs.Sorts.{plain_step, plain_step_without}
use Rattle.send_model.proofs.Merging.{edited_taken}
use Rattle.send_model.proofs.Versions.{IsVersion}
use Rattle.send_model.proofs.Attributes.{bytes_by}
use Rattle.send_model.proofs.Canonical.{spellable_first}
use Rattle.send_model.proofs.SpelledPieces.{PathFits, path_first}
use Rattle.squash_model.specs.Squashed.{Birth, births_from, born_step, Stretch, in_front, stretches, all_stand, write_of, lengthened, write_commands, size_at, squash_for, squashed_from}
use Rattle.squash_model.proofs.SquashedRuns.{edit_written}
use Rattle.squash_model.proofs.SameSquash.{BornTakes}

abbrev end_of : Command → ℕ
end_of c = if is_end c then 1 else 0

-- ---- one command

attribute_is : (version : ℕ) (a b : Attribute) → a.kind ≡ b.kind → length a.bytes ≤ length b.bytes → length (attribute_bytes version a) ≤ length (attribute_bytes version b)
attribute_is version a b k l = one (takes_rest version b.kind) refl
  where
    one : (t : Bool) → takes_rest version b.kind ≡ t → length (attribute_bytes version a) ≤ length (attribute_bytes version b)
    one true e = let x = ap length (bytes_by version a true (ap (takes_rest version) k ∙ e)) in let y = ap length (bytes_by version b true e) in omega (arith, x, y, l)
    one false e = let x = ap length (bytes_by version a false (ap (takes_rest version) k ∙ e)) in let y = ap length (bytes_by version b false e) in omega (arith, x, y, l)

body_of_three : (version : ℕ) (a b c : Attribute) → length (body_of version (a ∷ b ∷ c ∷ [])) ≡ length (attribute_bytes version a) + (length (attribute_bytes version b) + length (attribute_bytes version c))
unfolding body_of
body_of_three version a b c =
    let none : length {A = ℕ} [] ≡ 0 = refl in
    omega (arith, length-append (attribute_bytes version a) (attribute_bytes version b ++ (attribute_bytes version c ++ [])), length-append (attribute_bytes version b) (attribute_bytes version c ++ []), length-append (attribute_bytes version c) [], none)

-- Fewer bytes at another offset.
part_spelled : (version : ℕ) (path : List ℕ) (offset at : ℕ) (bytes part : List ℕ) → IsSpellable version (Write path offset bytes) → at < 2 ^ 64 → length part ≤ length bytes → IsBytes part
    → IsSpellable version (Write path at part)
unfolding row attributes_of
part_spelled version path offset at bytes part s a l are =
    let v = s.values in
    let p : Attribute = record { kind = PATH; bytes = path } in
    let o : ℕ → Attribute = λ n. record { kind = FILE_OFFSET; bytes = to_le_bytes w64 n } in
    let d : List ℕ → Attribute = λ bs. record { kind = DATA; bytes = bs } in
    let same : length (to_le_bytes w64 at) ≤ length (to_le_bytes w64 offset) = lit in
    let short = s.short in
    record {
      known = s.known;
      values = (v.0, (a, ((λ e. let h = v.1.1.0.0 e in omega (arith, h, l), are), tt)));
      short = omega (
        arith,
        short,
        body_of_three version p (o at) (d part),
        body_of_three version p (o offset) (d bytes),
        attribute_is version (o at) (o offset) refl same,
        attribute_is version (d part) (d bytes) refl l,
      );
    }
  where
    lit : length (to_le_bytes w64 at) ≤ length (to_le_bytes w64 offset)
    lit = omega arith

truncate_known : (version : ℕ) → IsVersion version → IsKnown version TRUNCATE
unfolding kind_of_number row
truncate_known version is = ⊎_elim (λ e. subst (λ (v : ℕ). IsKnown v TRUNCATE) (sym e) refl) (λ e. subst (λ (v : ℕ). IsKnown v TRUNCATE) (sym e) refl) is

truncate_spelled : (version : ℕ) → IsVersion version → (path : List ℕ) (offset : ℕ) (bytes : List ℕ) (end : ℕ) → IsSpellable version (Write path offset bytes) → end < 2 ^ 64 → IsSpellable version (Truncate end path)
unfolding row
truncate_spelled version is path offset bytes end s e =
    let v = s.values in
    let p : PathFits path = path_first version PATH path refl v.0 in
    spellable_first version (Truncate end path) (truncate_known version is) (e, (p, tt))

-- ---- a WRITE

-- Stretches lie between two places, and are of bytes.
abbrev Lies : ℕ → ℕ → Stretch → Type 0
Lies low top s = (low ≤ s.at) × (s.at + length s.bytes ≤ top) × IsBytes s.bytes

abbrev AllLie : ℕ → ℕ → List Stretch → Type 0
AllLie low top ss = AllByRecursion (Lies low top) ss

lie_lower : (low lower top : ℕ) (ss : List Stretch) → lower ≤ low → AllLie low top ss → AllLie lower top ss
lie_lower low lower top [] h all = tt
lie_lower low lower top (s ∷ ss) h all = let a = all.0.0 in ((omega (arith, a, h), all.0.1, all.0.2), lie_lower low lower top ss h all.1)

front_lies : (top at b : ℕ) (ss : List Stretch) → at + 1 ≤ top → b < 256 → AllLie (at + 1) top ss → AllLie at top (in_front at b ss)
front_lies top at b [] h byte all = ((omega arith, h, (byte, tt)), tt)
front_lies top at b (first ∷ rest) h byte all = one (first.at == at + 1) refl
  where
    one : (t : Bool) → (first.at == at + 1) ≡ t → AllLie at top (if t then record { at = at; bytes = b ∷ first.bytes } ∷ rest else record { at = at; bytes = b ∷ [] } ∷ first ∷ rest)
    one true e = let next : first.at ≡ at + 1 = eqb-true first.at (at + 1) e in let here = all.0.1 in
        ((omega arith, omega (arith, next, here), (byte, all.0.2)), lie_lower (at + 1) at top rest (omega arith) all.1)
    one false e = ((omega arith, h, (byte, tt)), lie_lower (at + 1) at top (first ∷ rest) (omega arith) all)

stretches_lie : (standing : ℕ → Bool) (top count at : ℕ) (bytes : List ℕ) → at + length bytes ≤ top → IsBytes bytes → AllLie at top (stretches standing count at bytes)
stretches_lie standing top count at [] h are = tt
stretches_lie standing top count at (b ∷ bytes) h are = one (standing count) (stretches_lie standing top (count + 1) (at + 1) bytes (omega (arith, h)) are.1)
  where
    rest : List Stretch
    rest = stretches standing (count + 1) (at + 1) bytes

    one : (t : Bool) → AllLie (at + 1) top rest → AllLie at top (if t then in_front at b rest else rest)
    one true more = front_lies top at b rest (omega (arith, h)) are.0 more
    one false more = lie_lower (at + 1) at top rest (omega arith) more

-- A command inside a stream that a version can say.
abbrev pub IsInside : ℕ → Command → Type 0
IsInside version c = CanWrite version c × (is_end c ≡ false)

inside_both : (version : ℕ) (cs ds : List Command) → AllByRecursion (IsInside version) cs → AllByRecursion (IsInside version) ds → AllByRecursion (IsInside version) (cs ++ ds)
inside_both version [] ds a b = b
inside_both version (c ∷ cs) ds a b = (a.0, inside_both version cs ds a.1 b)

module _ (standing : ℕ → Bool) (version : ℕ) (is : IsVersion version) where
  module _ (path : List ℕ) (offset : ℕ) (bytes : List ℕ) (s : IsSpellable version (Write path offset bytes)) (short : offset + length bytes < 2 ^ 64) where
    bytes_are : IsBytes bytes
    unfolding row
    bytes_are = let v = s.values in v.1.1.0.1

    stretches_inside : (ss : List Stretch) → AllLie offset (offset + length bytes) ss → AllByRecursion (IsInside version) (map (write_of path) ss)
    stretches_inside [] all = tt
    stretches_inside (x ∷ ss) all =
        let low = all.0.0 in
        let high = all.0.1 in
        ((record { spellable = part_spelled version path offset x.at bytes x.bytes s (omega (arith, high, short)) (omega (arith, low, high)) all.0.2 }, refl), stretches_inside ss all.1)

    lengthened_inside : (last : Bool) (size : ℕ) → AllByRecursion (IsInside version) (lengthened last size (offset + length bytes) path)
    lengthened_inside last size = one (nat_lt size (offset + length bytes) && not last)
      where
        one : (t : Bool) → AllByRecursion (IsInside version) (if t then Truncate (offset + length bytes) path ∷ [] else [])
        one true = ((record { spellable = truncate_spelled version is path offset bytes (offset + length bytes) s short }, refl), tt)
        one false = tt

    write_inside : (count size : ℕ) → AllByRecursion (IsInside version) (write_commands standing count size path offset bytes)
    write_inside count size = one (all_stand standing count bytes)
      where
        last : Bool
        last = standing (count + length bytes - 1)

        one : (t : Bool) → AllByRecursion (IsInside version) (if t then Write path offset bytes ∷ [] else map (write_of path) (stretches standing count offset bytes) ++ lengthened last size (offset + length bytes) path)
        one true = ((record { spellable = s }, refl), tt)
        one false =
            inside_both version (map (write_of path) (stretches standing count offset bytes)) (lengthened last size (offset + length bytes) path)
            (stretches_inside (stretches standing count offset bytes) (stretches_lie standing (offset + length bytes) count offset bytes (omega arith) bytes_are)) (lengthened_inside last size)

  -- A WRITE that is taken ends where a file can.
  write_short : (count : ℕ) (state : State Birth) (path : List ℕ) (offset : ℕ) (bytes : List ℕ) → (born_step count state (Write path offset bytes)).refusal ≡ None → offset + length bytes < 2 ^ 64
  write_short count state path offset bytes taken = one state.part taken
    where
      put : List Birth
      put = births_from count bytes

      put_len : (n : ℕ) (bs : List ℕ) → length (births_from n bs) ≡ length bs
      put_len n [] = refl
      put_len n (b ∷ bs) = ap suc (put_len (n + 1) bs)

      below : (end : ℕ) → nat_le end greatest_end ≡ true → end < 2 ^ 64
      below end e = let h : end ≤ greatest_end = leb-true end greatest_end e in omega (arith, h)

      one : (o : Option (Part Birth)) → (step None put (record { store = state.store; part = o }) (Write path offset bytes)).refusal ≡ None → offset + length bytes < 2 ^ 64
      one None q = let x = sym (plain_step_without None put state.store (Write path offset bytes) refl) ∙ q in cc
      one (Some part) q =
          let ok = edited_taken state.store part (edit None put (Write path offset bytes) part.subvolume) (ap (λ (x : Stepped Birth). x.refusal) (sym (plain_step None put state.store part (Write path offset bytes) refl)) ∙ q) in
          let w = edit_written None put path offset bytes part.subvolume ok.0 ok.1 in
          let fits = below (offset + length put) w.fits in
          omega (arith, fits, put_len count bytes)

  command_inside : (count : ℕ) (state : State Birth) (c : Command) → IsInside version c → (born_step count state c).refusal ≡ None → AllByRecursion (IsInside version) (squash_for standing count state c)
  command_inside count state (Write path offset bytes) h taken = let w = h.0 in write_inside path offset bytes w.spellable (write_short count state path offset bytes taken) count (size_at state path)
  command_inside count state c h taken = (h, tt)

  pub squashed_inside : (cs rest : List Command) (count : ℕ) (state : State Birth) → AllByRecursion (IsInside version) cs → BornTakes count state (cs ++ rest) → AllByRecursion (IsInside version) (squashed_from standing count state cs)
  unfolding squashed_from BornTakes
  squashed_inside [] rest count state all t = tt
  squashed_inside (c ∷ cs) rest count state all (taken, t) =
      let next : State Birth = (born_step count state c).state in
      inside_both version (squash_for standing count state c) (squashed_from standing (count + length (bytes_of c)) next cs)
      (command_inside count state c all.0 taken) (squashed_inside cs rest (count + length (bytes_of c)) next all.1 t)

  -- END stays behind them.
  pub squashed_end : (cs : List Command) (count : ℕ) (state : State Birth) → squashed_from standing count state (cs ++ End ∷ []) ≡ squashed_from standing count state cs ++ End ∷ []
  unfolding squashed_from
  squashed_end [] count state = refl
  squashed_end (c ∷ cs) count state =
      let next : State Birth = (born_step count state c).state in
      ap (λ (ds : List Command). squash_for standing count state c ++ ds) (squashed_end cs (count + length (bytes_of c)) next)
      ∙ sym (append_assoc (squash_for standing count state c) (squashed_from standing (count + length (bytes_of c)) next cs) (End ∷ []))

-- Where there is one END, behind all others, none of those is one.
pub none_ends : (version : ℕ) (cs : List Command) → AllByRecursion (CanWrite version) cs → streams (cs ++ End ∷ []) ≡ 1 → AllByRecursion (IsInside version) cs
unfolding streams
none_ends version [] all e = tt
none_ends version (c ∷ cs) all e =
    let first = sum_by-cons end_of c (cs ++ End ∷ []) in
    let last = sum_by-append end_of cs (End ∷ []) in
    let one : ◌≡◌ {A = ℕ} (sum_by end_of (End ∷ [])) 1 = refl in
    let none : ◌≡◌ {A = ℕ} (end_of c) 0 = omega (arith, first, last, one, e) in
    ((all.0, no_end (is_end c) none), none_ends version cs all.1 (omega (arith, first, none, e)))
  where
    no_end : (b : Bool) → ◌≡◌ {A = ℕ} (if b then 1 else 0) 0 → b ≡ false
    no_end true h = absurd (omega (arith, h))
    no_end false h = refl
